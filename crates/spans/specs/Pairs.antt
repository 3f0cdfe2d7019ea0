-- The meaning of a pair.
use Rattle.std.specs.Prelude.{◌≡◌, ℕ, ◌-◌, ◌<◌, ◌≤◌, Bool, ◌++◌, length, take, Option, Result, Ok, Err, nat_lt}
use Rattle.fault.specs.declared.CallFault.{CallFault}
use Rattle.fault.specs.declared.CallFault.TheVariants.{Unknown}
use Rattle.plant.specs.Air.{Air, Frame, line, ends_of}
use Rattle.spans.specs.declared.pair.Side.{Side}
use Rattle.spans.specs.declared.pair.Side.TheVariants.{First, Second}
use Rattle.plant.specs.Calls.{PutOver, TakeOver}

-- the circuits of two plants, the second's numbered on, and 12 at most
abbrev pub joined : Air → Air → Air
joined a b = a ++ take (12 - length a) b

-- a put on a circuit of the first plant or of the second; the other plant stays as it was
pub data PairPut {P Q : Type 0} (air : P → Air) (on_P : PutOver P) (on_Q : PutOver Q) (p p' : P) (q q' : Q) (c e : ℕ) (f : Frame) (missed : ℕ → Bool) : Type 0 where
  of_first : c < length (air p) → on_P p p' c e f missed → q' ≡ q → PairPut air on_P on_Q p p' q q' c e f missed
  of_second : length (air p) ≤ c → c < 12 → on_Q q q' (c - length (air p)) e f missed → p' ≡ p → PairPut air on_P on_Q p p' q q' c e f missed

-- a take, likewise
pub data PairTake {P Q : Type 0} (air : P → Air) (on_P : TakeOver P) (on_Q : TakeOver Q) (p p' : P) (q q' : Q) (c e : ℕ) (got : Option Frame) : Type 0 where
  from_first : c < length (air p) → on_P p p' c e got → q' ≡ q → PairTake air on_P on_Q p p' q q' c e got
  from_second : length (air p) ≤ c → c < 12 → on_Q q q' (c - length (air p)) e got → p' ≡ p → PairTake air on_P on_Q p p' q q' c e got

-- where a circuit of a pair is: on the first plant, on the second under a number of its own, or nowhere
pub record AtFirst (a b : Air) (c : ℕ) : Type 0 where
  pub below : c < length a
  pub there : c < length (joined a b)
  pub same : line (joined a b) c ≡ line a c

pub record AtSecond (a b : Air) (c d : ℕ) : Type 0 where
  pub above : length a ≤ c
  pub few : c < 12
  pub number : d ≡ c - length a
  pub known : nat_lt c (length (joined a b)) ≡ nat_lt d (length b)
  pub same : line (joined a b) c ≡ line b d

pub record AtNeither (a b : Air) (c : ℕ) : Type 0 where
  pub above : length (joined a b) ≤ c
  pub gone : ends_of (joined a b) c ≡ 0

abbrev pub Placed : Air → Air → ℕ → Result Side CallFault → Type 0
Placed a b c (Ok First) = AtFirst a b c
Placed a b c (Ok (Second d)) = AtSecond a b c d.0
Placed a b c (Err x) = (x ≡ Unknown) × AtNeither a b c
