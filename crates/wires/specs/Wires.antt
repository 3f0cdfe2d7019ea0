-- The meanings of cable and segment.
use Rattle.std.specs.Prelude.{◌≡◌, ℕ, zero, suc, Bool, false, cond, if◌then◌else◌, ◌||◌, List, [], ◌∷◌, map, Some, None, Option, ◌==◌, nat_lt, slice_set}
use Rattle.fault.specs.declared.CallFault.{CallFault}
use Rattle.fault.specs.declared.CallFault.TheVariants.{Unknown}
use Rattle.plant.specs.declared.Kind.{Kind}
use Rattle.plant.specs.declared.Kind.TheVariants.{PointToPoint, Broadcast}
use Rattle.plant.specs.Air.{Air, Frame}
use Rattle.plant.specs.Calls.{Put, Take, PutOver, TakeOver}
use Rattle.wires.specs.Held.{held}
use Rattle.wires.specs.declared.wire.Wire.{Wire}

-- one circuit alone
abbrev pub alone : Kind → List (Option Frame) → Air
alone k xs = (record { kind = k; ends = xs }) ∷ []

-- a put that no end missed
pub record Delivered (a b : Air) (c e : ℕ) (f : Frame) (missed : ℕ → Bool) : Type 0 where
  pub put : Put a b c e f missed
  pub whole : (k : ℕ) → missed k ≡ false

-- what a wire with room for so many ends is
abbrev pub kind_of : ℕ → Kind
kind_of room = if room == 2 then PointToPoint else Broadcast

-- what waits at each end of a wire
abbrev pub wire_ends : {room : ℕ} → Wire room → List (Option Frame)
wire_ends s = map held s.inboxes.items

abbrev pub wire_air : {room : ℕ} → Wire room → Air
wire_air {room} s = alone (kind_of room) (wire_ends s)

abbrev pub wire_put : {room : ℕ} → PutOver (Wire room)
wire_put p q c e f missed = Delivered (wire_air p) (wire_air q) c e f missed

abbrev pub wire_take : {room : ℕ} → TakeOver (Wire room)
wire_take p q c e got = Take (wire_air p) (wire_air q) c e got

-- a cable has room for 2 ends, a segment for 8
abbrev pub cable_air : Wire 2 → Air
cable_air s = wire_air s

abbrev pub segment_air : Wire 8 → Air
segment_air s = wire_air s

-- a segment has 2 to 8 ends
abbrev pub size_refusal : ℕ → Option CallFault
size_refusal n = cond (nat_lt n 2 || nat_lt 8 n) (Some Unknown) None

-- a frame at each of the first n ends but e
abbrev pub spread : List (Option Frame) → ℕ → ℕ → Frame → List (Option Frame)
spread xs zero e f = xs
spread xs (suc n) e f = cond (n == e) (spread xs n e f) (slice_set (spread xs n e f) n (Some f))
