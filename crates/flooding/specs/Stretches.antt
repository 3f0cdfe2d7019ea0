-- Stretches of ticks through which the owner holds its live record of one number n.
use Rattle.std.specs.Prelude.{◌≡◌, ◌⊎◌, Bool, true, false, ℕ, zero, suc, ◌+◌, ◌≤◌, ◌<◌}
use Rattle.flooding.specs.Copies.{Topology, Holdings, Copy, Held, none, held, Live}
use Rattle.flooding.specs.CopyTicks.{Tick}

-- P has the same owner as Q, and every circuit of Q with the same routers on it and the same designated router; it may have more circuits
pub record KeepsCircuits (Q P : Topology) : Type 0 where
  pub owner : P.owner ≡ Q.owner
  pub attached : (c u : ℕ) → Q.attached u c ≡ true → (x : ℕ) → P.attached x c ≡ Q.attached x c
  pub point_to_point : (c u : ℕ) → Q.attached u c ≡ true → P.point_to_point c ≡ Q.point_to_point c
  pub designated : (c u : ℕ) → Q.attached u c ≡ true → P.designated c ≡ Q.designated c

-- what calls of other identifiers do to router x's copy: at most its flags on circuits that are not Q's may change
pub data LeftAlone (Q : Topology) (x : ℕ) : Held → Held → Type 0 where
  none_kept : LeftAlone Q x none none
  held_kept : {k k' : Copy} → k'.rank ≡ k.rank → k'.lifetime ≡ k.lifetime → k'.wait ≡ k.wait →
      ((e : ℕ) → Q.attached x e ≡ true → (k'.srm e ≡ k.srm e) × (k'.ssn e ≡ k.ssn e)) → k'.content ≡ k.content →
      LeftAlone Q x (held k) (held k')

-- some such calls, and then the tick that takes the clock to t
pub record Step (Q : Topology) (n : ℕ) (missed : Bool) (t : ℕ) (s s' : Holdings) : Type 0 where
  pub topology : Topology
  pub keeps_circuits : KeepsCircuits Q topology
  pub before_tick : Holdings
  pub left_alone : (x : ℕ) → LeftAlone Q x (s x) (before_tick x)
  pub tick : Tick topology n missed t before_tick s'

-- M ticks from clock T on: what is held after each of them, and which of them missed a frame
pub record HeldStretch (Q : Topology) (n T M : ℕ) : Type 0 where
  pub holdings : ℕ → Holdings
  pub missed : ℕ → Bool
  pub tick : (k : ℕ) → k < M → Step Q n (missed k) (T + suc k) (holdings k) (holdings (suc k))

abbrev pub bit : Bool → ℕ
bit true = 1
bit false = 0

-- how many of the first m pass
unfoldable pub count_of : (ℕ → Bool) → ℕ → ℕ
count_of f zero = 0
count_of f (suc m) = count_of f m + bit (f m)

-- a copy is not newer than live n, has the lifetime L if it is live n, and has no lifetime unless it is a live record's
pub record Conforms (n L : ℕ) (k : Copy) : Type 0 where
  pub not_newer : k.rank ≤ n + n
  pub lifetime_in_step : k.rank ≡ n + n → k.lifetime ≡ L
  pub form : (k.lifetime ≡ 0) ⊎ ((j : ℕ) × (k.rank ≡ j + j))

abbrev pub Conforming : ℕ → ℕ → Held → Type 0
Conforming n L none = Unit {0}
Conforming n L (held k) = Conforms n L k

-- the owner holds live n, all copies of n have the same lifetime, above 0, and nothing newer stands anywhere
pub record InStep (P : Topology) (n : ℕ) (s : Holdings) : Type 0 where
  pub left : ℕ
  pub positive : 1 ≤ left
  pub conforming : (x : ℕ) → Conforming n left (s x)
  pub owner_holds : Live n (s P.owner)
