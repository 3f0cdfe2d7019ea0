-- The promise, of every run of add, attach, up, down, originate, withdraw and tick, over every plant that keeps its interface's laws and over every store.
-- Read it from top to bottom: convergence, the issue book, and that no run reaches a case whose meaning is a stand-in.
use Rattle.std.specs.Prelude.{◌≡◌, ℕ, ◌+◌, ◌-◌, ◌*◌, ◌<◌, ◌≤◌, true, ◌≢◌, [], ◌∷◌, length, Some, Ok, slice_index_or}
use Rattle.std.specs.List.{AllByRecursion}
use Rattle.record.specs.declared.form.Recency.TheVariants.{Older}
use Rattle.plant.specs.Air.{Air}
use Rattle.plant.specs.Calls.{PutOver, TakeOver}
use Rattle.model.specs.Plants.{PlantLaws}
use Rattle.model.specs.Records.{HeldRecord, Live, order, slot_id}
use Rattle.model.specs.Databases.{find}
use Rattle.model.specs.State.{State, router, database, in_service, attached_to}
use Rattle.model.specs.Tick.{Ticks}
use Rattle.model.specs.Book.{History, issues_of, tick}
use Rattle.model.specs.Run.{Called, Stretch, Run, tick_count, missing_count, counted, KeepsTopology}
use Rattle.model.specs.Steps.{EachStep}
use Rattle.model.specs.StandIns.{NoStandIn}

-- router r holds the record x
abbrev pub Holds : {P : Type 0} → State P → ℕ → HeldRecord → Type 0
Holds s r x = (r < length s.routers) × (find x.id (database s r) ≡ Some x)

-- two routers share a circuit in service
pub record Neighbours {P : Type 0} (s : State P) (r q : ℕ) : Type 0 where
  pub circuit : ℕ
  pub served : in_service s circuit ≡ true
  pub here : attached_to circuit (router s r) ≡ true
  pub there : attached_to circuit (router s q) ≡ true
  pub exists : q < length s.routers

-- from r to q by circuits in service, if need be through others
pub data Reaches {P : Type 0} (s : State P) (r : ℕ) : ℕ → Type 0 where
  itself : Reaches s r r
  through : {q z : ℕ} → Reaches s r q → Neighbours s q z → Reaches s r z

-- circuits in service join all routers
abbrev pub Joined : {P : Type 0} → State P → Type 0
Joined s = (r q : ℕ) → r < length s.routers → q < length s.routers → Reaches s r q

-- slot k of router r owns the identifier
pub record Owns {P : Type 0} (s : State P) (r k i : ℕ) : Type 0 where
  pub router_there : r < length s.routers
  pub slot_there : k < 4
  pub id : i ≡ slot_id (router s r).system k

-- y is live, and like x in number, check octets and body
pub record Alike (x y : HeldRecord) : Type 0 where
  pub live : Live y
  pub number : y.number ≡ x.number
  pub check : y.check ≡ x.check
  pub body : y.body ≡ x.body

-- a stretch with exactly 20 × (N + B) accepted ticks, of which at most B answered that a frame was missed,
-- and no accepted add, attach, up or down, over a network that circuits in service join. Refused calls, originates and withdraws may stand anywhere in it
pub record Settled {P : Type 0} (air : P → Air) (put : PutOver P) (take : TakeOver P) (s t : State P) (B : ℕ) : Type 0 where
  pub history : History
  pub calls : Stretch air put take s t history
  pub topology : AllByRecursion KeepsTopology history
  pub ticks : counted tick_count history ≡ 20 * (length s.routers + B)
  pub misses : counted missing_count history ≤ B
  pub joined : Joined s

-- convergence: what its owner holds live under one number at both ends of such a stretch
-- stands live in all databases at its end, alike in number, check octets and body
abbrev pub Converges : {P : Type 0} → (P → Air) → PutOver P → TakeOver P → Type 0
Converges {P} air put take =
    (s t : State P) (h : History) (B : ℕ) →
    Run air put take s h →
    Settled air put take s t B →
    (r k : ℕ) (z x : HeldRecord) →
    Owns s r k x.id →
    Holds s r z → 1 ≤ z.lifetime →
    Holds t r x → 1 ≤ x.lifetime →
    z.id ≡ x.id → z.number ≡ x.number →
    (q : ℕ) → q < length t.routers → (y : HeldRecord) × (find x.id (database t q) ≡ Some y) × Alike x y

-- a record's number was issued to the slot that owns its identifier, and its body is the book's for that issue
pub record Issued {P : Type 0} (h : History) (s : State P) (x : HeldRecord) : Type 0 where
  pub owner : ℕ
  pub slot : ℕ
  pub owned : Owns s owner slot x.id
  pub first : 1 ≤ x.number
  pub last : x.number ≤ length (issues_of h owner slot)
  pub body : slice_index_or (issues_of h owner slot) (x.number - 1) [] ≡ x.body

-- so it is with every live record
abbrev pub AllIssued : {P : Type 0} → History → State P → Type 0
AllIssued h s = (q : ℕ) (x : HeldRecord) → Holds s q x → 1 ≤ x.lifetime → Issued h s x

-- no record in any router is replaced by an older one
abbrev pub NeverOlder : {P : Type 0} → State P → State P → Type 0
NeverOlder s t = (q : ℕ) (x y : HeldRecord) → Holds s q x → Holds t q y → x.id ≡ y.id → order y.number y.lifetime x ≢ Older

-- both, of one step
abbrev pub Kept : {P : Type 0} → History → State P → State P → Type 0
Kept h s t = AllIssued h t × NeverOlder s t

-- the issue book: after each call; within an accepted tick, of which the book was fed just before, after each of its steps; and any other call is one step
pub record Keeps {P : Type 0} (air : P → Air) (put : PutOver P) (take : TakeOver P) (s : State P) (h : History) : Type 0 where
  pub after : AllIssued h s
  pub within : (t : State P) (f m : ℕ) (k : Ticks air put take s t (Ok (f, m))) → EachStep air put take (Kept (tick m ∷ h)) s t f m k
  pub by_call : (t : State P) (g : History) → Called air put take s h t g → counted tick_count g ≡ counted tick_count h → NeverOlder s t

abbrev pub KeepsTheBook : {P : Type 0} → (P → Air) → PutOver P → TakeOver P → Type 0
KeepsTheBook {P} air put take = (s : State P) (h : History) → Run air put take s h → Keeps air put take s h

-- no run reaches a case whose meaning is a stand-in; so a tick is refused exactly at clock 1,000,000
abbrev pub NeverStandsIn : {P : Type 0} → (P → Air) → PutOver P → TakeOver P → Type 0
NeverStandsIn {P} air put take = (s : State P) (h : History) → Run air put take s h → NoStandIn air put take s

pub record Promise {P : Type 0} (air : P → Air) (put : PutOver P) (take : TakeOver P) : Type 0 where
  pub converges : Converges air put take
  pub keeps_the_book : KeepsTheBook air put take
  pub never_stands_in : NeverStandsIn air put take

-- over every plant that keeps the laws
abbrev pub Promised : Type 1
Promised = (P : Type 0) (air : P → Air) (put : PutOver P) (take : TakeOver P) → PlantLaws air put take → Promise air put take
