-- A tick, for one identifier: every copy ages, then every router has its turn on every circuit that it is attached to.
use Rattle.std.specs.Prelude.{◌≡◌, ◌≢◌, Bool, true, false, List, [], ◌∷◌, ℕ, suc, ◌%◌, ◌≤◌}
use Rattle.flooding.specs.Copies.{Topology, Copy, Held, none, held, Holdings, Live}
use Rattle.flooding.specs.Rules.{Put, Kind, lsp, psnp, csnp}

-- the copy has SRM set on circuit c; SSN
abbrev pub Srm : ℕ → Held → Type 0
Srm c none = ⊥
Srm c (held k) = k.srm c ≡ true

abbrev pub Ssn : ℕ → Held → Type 0
Ssn c none = ⊥
Ssn c (held k) = k.ssn c ≡ true

-- at clock t router r is to mention the identifier on circuit c in a frame of this kind: LSPs at every tick on broadcast, at every fifth
-- on point-to-point; PSNPs at every second; CSNPs at every tenth
abbrev pub Due : Topology → ℕ → ℕ → ℕ → Kind → Held → Type 0
Due P t r c lsp h = ((P.point_to_point c ≡ true) → t % 5 ≡ 0) × Srm c h
Due P t r c psnp h = (t % 2 ≡ 0) × ((P.point_to_point c ≡ false) → r ≢ P.designated c) × Ssn c h
Due P t r c csnp h = (t % 10 ≡ 0) × ((P.point_to_point c ≡ false) → r ≡ P.designated c)

-- one phase of a turn: what is due is put
pub data Phase (P : Topology) (missed : Bool) (t r c : ℕ) (g : Kind) : Holdings → Holdings → Type 0 where
  not_due : {s : Holdings} → (Due P t r c g (s r) → ⊥) → Phase P missed t r c g s s
  sent : {s s' : Holdings} → Due P t r c g (s r) → Put P missed r c g s s' → Phase P missed t r c g s s'

-- router r's turn on circuit c
pub data Turn (P : Topology) (missed : Bool) (t r c : ℕ) : Holdings → Holdings → Type 0 where
  turn : {a b d e : Holdings} → Phase P missed t r c lsp a b → Phase P missed t r c psnp b d → Phase P missed t r c csnp d e →
      Turn P missed t r c a e

-- the turns of routers on circuits, in this order
pub data Turns (P : Topology) (missed : Bool) (t : ℕ) : List (ℕ × ℕ) → Holdings → Holdings → Type 0 where
  done : {s : Holdings} → Turns P missed t [] s s
  then : {r c : ℕ} {l : List (ℕ × ℕ)} {a b d : Holdings} → Turn P missed t r c a b → Turns P missed t l b d →
      Turns P missed t ((r, c) ∷ l) a d

-- the turn of router r on circuit c is in the list
pub data Among (r c : ℕ) : List (ℕ × ℕ) → Type 0 where
  first : {l : List (ℕ × ℕ)} → Among r c ((r, c) ∷ l)
  later : {p : ℕ × ℕ} {l : List (ℕ × ℕ)} → Among r c l → Among r c (p ∷ l)

-- A copy ages: a lifetime falls; one that falls to 0 makes a purge, to be sent on all circuits; a wait falls, and the record is deleted
-- when its wait is over.
pub data Ages (P : Topology) (x : ℕ) : Held → Held → Type 0 where
  none_ages : Ages P x none none
  live_ages : {k k' : Copy} → k.lifetime ≡ suc k'.lifetime → 1 ≤ k'.lifetime → k'.rank ≡ k.rank → k'.wait ≡ k.wait →
      ((e : ℕ) → (k'.srm e ≡ k.srm e) × (k'.ssn e ≡ k.ssn e)) → k'.content ≡ k.content → Ages P x (held k) (held k')
  expires : {k k' : Copy} → k.lifetime ≡ 1 → k'.lifetime ≡ 0 → k'.rank ≡ suc k.rank → k'.wait ≡ 60 →
      ((e : ℕ) → P.attached x e ≡ true → k'.srm e ≡ true) → ((e : ℕ) → k'.ssn e ≡ k.ssn e) → Ages P x (held k) (held k')
  wait_falls : {k k' : Copy} → k.lifetime ≡ 0 → k'.lifetime ≡ 0 → k.wait ≡ suc k'.wait → 1 ≤ k'.wait → k'.rank ≡ k.rank →
      ((e : ℕ) → (k'.srm e ≡ k.srm e) × (k'.ssn e ≡ k.ssn e)) → Ages P x (held k) (held k')
  deleted : {k : Copy} → k.lifetime ≡ 0 → k.wait ≡ 1 → Ages P x (held k) none

-- the tick that takes the clock to t, in which the owner keeps its live record of number n and issues nothing
pub record Tick (P : Topology) (n : ℕ) (missed : Bool) (t : ℕ) (s s' : Holdings) : Type 0 where
  pub aged : Holdings
  pub ages : (x : ℕ) → Ages P x (s x) (aged x)
  pub owner_keeps : Live n (aged P.owner)
  pub order : List (ℕ × ℕ)
  pub every : (r c : ℕ) → P.attached r c ≡ true → Among r c order
  pub turns : Turns P missed t order aged s'
