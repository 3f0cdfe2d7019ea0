-- What the network asks of a plant of any type P: its meaning, the relations of its own by which it says that a put or a take happened,
-- and the laws that tie these together. The network's rules speak of a plant in no other way.
use Rattle.std.specs.Prelude.{ℕ, Bool, true, false, Option}
use Rattle.plant.specs.declared.Kind.{Kind}
use Rattle.plant.specs.declared.Kind.TheVariants.{PointToPoint, Broadcast}
use Rattle.plant.specs.Air.{Air, Frame, Lawful, line}
use Rattle.plant.specs.Calls.{Put, Take, PutOver, TakeOver}

-- the laws of the plants' interface
pub record PlantLaws {P : Type 0} (air : P → Air) (put : PutOver P) (take : TakeOver P) : Type 0 where
  pub lawful : (p : P) → Lawful (air p)
  pub put_means : (p q : P) (c e : ℕ) (f : Frame) (missed : ℕ → Bool) → put p q c e f missed → Put (air p) (air q) c e f missed
  pub take_means : (p q : P) (c e : ℕ) (got : Option Frame) → take p q c e got → Take (air p) (air q) c e got

abbrev pub is_broadcast : Kind → Bool
is_broadcast PointToPoint = false
is_broadcast Broadcast = true

-- whether a circuit is broadcast, or else point-to-point
abbrev pub broadcast_circuit : Air → ℕ → Bool
broadcast_circuit a c = is_broadcast (line a c).kind
