-- The meaning of a plant: its circuits, their kinds, and the frame, or none, that waits at each end.
use Rattle.std.specs.Prelude.{◌≡◌, ℕ, ◌<◌, ◌≤◌, List, [], map, length, Some, None, Option, slice_index_or}
use Rattle.plant.specs.declared.Kind.{Kind}
use Rattle.plant.specs.declared.Kind.TheVariants.{PointToPoint, Broadcast}

-- the octets of a frame
abbrev pub Frame : Type 0
Frame = List ℕ

-- a circuit as it stands: its kind, and for each end the frame, or none, that waits there
pub record Line : Type 0 where
  pub kind : Kind
  pub ends : List (Option Frame)

-- the circuits of a plant, by number
abbrev pub Air : Type 0
Air = List Line

-- the circuit of a number; one that is not there has no ends
abbrev pub line : Air → ℕ → Line
line a c = slice_index_or a c (record { kind = PointToPoint; ends = [] })

abbrev pub ends_of : Air → ℕ → ℕ
ends_of a c = length (line a c).ends

abbrev pub waiting : Air → ℕ → ℕ → Option Frame
waiting a c e = slice_index_or (line a c).ends e None

-- the kind and the number of ends of each circuit, which never change
abbrev pub shape : Air → List (Kind × ℕ)
shape a = map (λ (l : Line). (l.kind, length l.ends)) a

-- nothing waits at any end of a circuit
abbrev pub Drained : Air → ℕ → Type 0
Drained a c = (e : ℕ) → waiting a c e ≡ None

-- nothing waits anywhere
abbrev pub Quiet : Air → Type 0
Quiet a = (c e : ℕ) → waiting a c e ≡ None

-- how many ends a circuit of each kind may have
abbrev pub EndsFit : Kind → ℕ → Type 0
EndsFit PointToPoint n = n ≡ 2
EndsFit Broadcast n = (2 ≤ n) × (n ≤ 8)

-- what holds of every plant
pub record Lawful (a : Air) : Type 0 where
  pub some : 1 ≤ length a
  pub few : length a ≤ 12
  pub ends : (c : ℕ) → c < length a → EndsFit (line a c).kind (ends_of a c)
  pub frames : (c e : ℕ) (f : Frame) → waiting a c e ≡ Some f → (1 ≤ length f) × (length f ≤ 275)
