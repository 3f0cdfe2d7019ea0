-- A reference plant: its state is its meaning, and its put and take relations are exactly the stated effects, for any choice of misses.
use Rattle.std.specs.Prelude.{◌≡◌, ℕ, suc, ◌<◌, Bool, true, cond, ◌≢◌, List, [], ◌∷◌, Some, None, Option, ◌==◌, slice_set}
use Rattle.plant.specs.Air.{Air, Frame, line, ends_of, waiting}
use Rattle.plant.specs.Calls.{PutOver, TakeOver, put_refusal, cleared}

abbrev pub as_it_is : Air → Air
as_it_is a = a

-- ends counted on from k: at each but e the frame waits or is missed
abbrev pub ends_put : ℕ → ℕ → Frame → (ℕ → Bool) → List (Option Frame) → List (Option Frame)
ends_put k e f missed [] = []
ends_put k e f missed (x ∷ xs) = cond (k == e) x (cond (missed k) None (Some f)) ∷ ends_put (suc k) e f missed xs

abbrev pub put_into : Air → ℕ → ℕ → Frame → (ℕ → Bool) → Air
put_into a c e f missed = slice_set a c (record { kind = (line a c).kind; ends = ends_put 0 e f missed (line a c).ends })

-- only other ends of the circuit can miss a frame
abbrev pub OthersOnly : Air → ℕ → ℕ → (ℕ → Bool) → Type 0
OthersOnly a c e missed = (k : ℕ) → missed k ≡ true → (k < ends_of a c) × (k ≢ e)

abbrev pub ReferencePut : PutOver Air
ReferencePut p q c e f missed = (put_refusal p c e f ≡ None) × (q ≡ put_into p c e f missed) × OthersOnly p c e missed

abbrev pub ReferenceTake : TakeOver Air
ReferenceTake p q c e got = (e < ends_of p c) × (waiting p c e ≡ got) × (q ≡ cleared p c e)
