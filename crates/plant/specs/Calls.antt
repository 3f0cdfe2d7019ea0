-- What the calls of a plant answer, when they refuse, and what they do.
use Rattle.std.specs.Prelude.{◌≡◌, ℕ, zero, suc, ◌+◌, ◌<◌, Bool, true, false, cond, not, ◌&&◌, ◌||◌, ◌≢◌, List, [], ◌∷◌, ◌++◌, length, drop, is_some, Some, None, Ok, Err, ◌↔◌, IsTrue, Option, Result, ◌==◌, nat_le, nat_lt, slice_index_or, slice_set}
use Rattle.fault.specs.declared.FrameFault.TheVariants.{Size}
use Rattle.fault.specs.declared.CallFault.{CallFault}
use Rattle.fault.specs.declared.CallFault.TheVariants.{Unknown, Waiting}
use Rattle.fault.specs.declared.CallFault.TheVariants as refusal
use Rattle.fault.specs.Order.{fails, first_refusal}
use Rattle.plant.specs.declared.Kind.{Kind}
use Rattle.plant.specs.Air.{Air, Frame, line, ends_of, waiting, shape, Drained}

-- the questions, refused where there is no such circuit or end
abbrev pub kind_answer : Air → ℕ → Result Kind CallFault
kind_answer a c = cond (nat_lt c (length a)) (Ok (line a c).kind) (Err Unknown)

abbrev pub ends_answer : Air → ℕ → Result ℕ CallFault
ends_answer a c = cond (nat_lt c (length a)) (Ok (ends_of a c)) (Err Unknown)

abbrev pub waits_answer : Air → ℕ → ℕ → Result Bool CallFault
waits_answer a c e = cond (nat_lt e (ends_of a c)) (Ok (is_some (waiting a c e))) (Err Unknown)

-- whether a frame waits at one of the first n ends, e apart
abbrev pub waits_elsewhere : List (Option Frame) → ℕ → ℕ → Bool
waits_elsewhere xs e zero = false
waits_elsewhere xs e (suc n) = cond (n == e) false (is_some (slice_index_or xs n None)) || waits_elsewhere xs e n

-- why a put is refused, or none: the frame has not 1 to 275 octets, there is no such circuit or end, a frame waits at another end
abbrev pub put_refusal : Air → ℕ → ℕ → Frame → Option CallFault
put_refusal a c e f =
    cond (nat_lt (length f) 1 || nat_lt 275 (length f))
    (Some (refusal.Frame Size))
    (cond (nat_lt e (ends_of a c))
    (cond (waits_elsewhere (line a c).ends e (ends_of a c)) (Some Waiting) None)
    (Some Unknown))

-- the causes for which a put is refused, of which the refusal that is answered is the first
abbrev pub put_causes : Air → ℕ → ℕ → Frame → List (Option CallFault)
put_causes a c e f =
    fails (nat_lt (length f) 1 || nat_lt 275 (length f)) (refusal.Frame Size)
    ∷ fails (nat_le (ends_of a c) e) Unknown
    ∷ fails (waits_elsewhere (line a c).ends e (ends_of a c)) Waiting
    ∷ []

-- a frame waits at another end
abbrev pub Blocked : Air → ℕ → ℕ → Type 0
Blocked a c e = (k : ℕ) × (k < ends_of a c) × (k ≢ e) × (waiting a c k ≢ None)

-- why a take is refused, or none: the buffer has under 275 octets, there is no such circuit or end
abbrev pub take_refusal : Air → ℕ → ℕ → ℕ → Option CallFault
take_refusal a c e room =
    cond (nat_lt room 275) (Some (refusal.Frame Size)) (cond (nat_lt e (ends_of a c)) None (Some Unknown))

-- the causes for which a take is refused
abbrev pub take_causes : Air → ℕ → ℕ → ℕ → List (Option CallFault)
take_causes a c e room =
    fails (nat_lt room 275) (refusal.Frame Size) ∷ fails (nat_le (ends_of a c) e) Unknown ∷ []

-- of several causes the first refuses, in the order of all refusals; and a put is held up exactly where a frame waits at another end
pub record RefusalsRight : Type 0 where
  pub put : (a : Air) (c e : ℕ) (f : Frame) → put_refusal a c e f ≡ first_refusal (put_causes a c e f)
  pub take : (a : Air) (c e room : ℕ) → take_refusal a c e room ≡ first_refusal (take_causes a c e room)
  pub blocked : (a : Air) (c e : ℕ) → IsTrue (waits_elsewhere (line a c).ends e (ends_of a c)) ↔ Blocked a c e

-- a put that was allowed: no other circuit changes, nor what waits at the end that put, and at each other end the frame waits or is missed
pub record Put (a b : Air) (c e : ℕ) (f : Frame) (missed : ℕ → Bool) : Type 0 where
  pub allowed : put_refusal a c e f ≡ None
  pub alike : shape b ≡ shape a
  pub elsewhere : (d : ℕ) → d ≢ c → line b d ≡ line a d
  pub here : waiting b c e ≡ waiting a c e
  pub there : (k : ℕ) → k < ends_of a c → k ≢ e → waiting b c k ≡ cond (missed k) None (Some f)
  pub only : (k : ℕ) → missed k ≡ true → (k < ends_of a c) × (k ≢ e)

-- nothing waits at one end, and all else is the same
abbrev pub cleared : Air → ℕ → ℕ → Air
cleared a c e = slice_set a c (record { kind = (line a c).kind; ends = slice_set (line a c).ends e None })

-- a take that was allowed: what waited at the end is gone from there
pub record Take (a b : Air) (c e : ℕ) (got : Option Frame) : Type 0 where
  pub known : e < ends_of a c
  pub waited : waiting a c e ≡ got
  pub after : b ≡ cleared a c e

-- how many of the first n ends are in a set
abbrev pub count : (ℕ → Bool) → ℕ → ℕ
count missed zero = 0
count missed (suc n) = count missed n + cond (missed n) 1 0

-- all of n ends but e
abbrev pub others : ℕ → ℕ → ℕ → Bool
others n e k = nat_lt k n && not (k == e)

-- a frame that may be put and that all other ends miss, so many of them
pub record Lost (a : Air) (c e : ℕ) (f : Frame) (n : ℕ) : Type 0 where
  pub allowed : put_refusal a c e f ≡ None
  pub missed : ℕ → Bool
  pub all : missed ≡ others (ends_of a c) e
  pub counted : n ≡ count missed (ends_of a c)

-- no end
abbrev pub none : ℕ → Bool
none k = false

-- what is taken, at the front of a buffer
abbrev pub moved : Option Frame → List ℕ → List ℕ
moved None was = was
moved (Some f) was = f ++ drop (length f) was

abbrev pub length_of : Option Frame → Option ℕ
length_of None = None
length_of (Some f) = Some (length f)

-- that a put happened, that a take happened: relations of a plant's own, of which its laws speak
abbrev pub PutOver : Type 0 → Type 1
PutOver P = P → P → ℕ → ℕ → Frame → (ℕ → Bool) → Type 0

abbrev pub TakeOver : Type 0 → Type 1
TakeOver P = P → P → ℕ → ℕ → Option Frame → Type 0

-- a put happened, and n ends missed the frame
pub record Counted {P : Type 0} (air : P → Air) (over : PutOver P) (p q : P) (c e : ℕ) (f : Frame) (n : ℕ) : Type 0 where
  pub missed : ℕ → Bool
  pub happened : over p q c e f missed
  pub counted : n ≡ count missed (ends_of (air p) c)

-- put: it is refused exactly by its refusal, and then the plant is as it was
abbrev pub Puts : {P : Type 0} → (P → Air) → PutOver P → P → P → ℕ → ℕ → Frame → Result ℕ CallFault → Type 0
Puts air over p q c e f (Ok n) = Counted air over p q c e f n
Puts air over p q c e f (Err x) = (put_refusal (air p) c e f ≡ Some x) × (q ≡ p)

-- a take happened of what waited, and it is in the buffer
pub record Moved {P : Type 0} (air : P → Air) (over : TakeOver P) (p q : P) (c e : ℕ) (was now : List ℕ) (r : Option ℕ) : Type 0 where
  pub roomy : take_refusal (air p) c e (length was) ≡ None
  pub happened : over p q c e (waiting (air p) c e)
  pub answer : r ≡ length_of (waiting (air p) c e)
  pub buffer : now ≡ moved (waiting (air p) c e) was

-- take: it is refused exactly by its refusal, and then the plant and the buffer are as they were
abbrev pub Takes : {P : Type 0} → (P → Air) → TakeOver P → P → P → ℕ → ℕ → List ℕ → List ℕ → Result (Option ℕ) CallFault → Type 0
Takes air over p q c e was now (Ok r) = Moved air over p q c e was now r
Takes air over p q c e was now (Err x) = (take_refusal (air p) c e (length was) ≡ Some x) × (q ≡ p) × (now ≡ was)

-- a circuit is drained, and no other changes
pub record Drains (a b : Air) (c : ℕ) : Type 0 where
  pub drained : Drained b c
  pub alike : shape b ≡ shape a
  pub elsewhere : (d : ℕ) → d ≢ c → line b d ≡ line a d
