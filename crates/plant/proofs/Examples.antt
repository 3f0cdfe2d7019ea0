-- The definitions on a small plant: a cable whose end 1 holds a frame, and a bare segment of 3 ends.
use Rattle.std.proofs.Common.{◌≡◌, true, [], ◌∷◌, replicate, Some, None, Ok, Err, refl}
use Rattle.fault.specs.declared.FrameFault.TheVariants.{Size}
use Rattle.fault.specs.declared.CallFault.TheVariants.{Unknown, Waiting}
use Rattle.fault.specs.declared.CallFault.TheVariants as refusal
use Rattle.plant.specs.declared.Kind.TheVariants.{PointToPoint, Broadcast}
use Rattle.plant.specs.Air.{Air}
use Rattle.plant.specs.Calls.{kind_answer, ends_answer, waits_answer, put_refusal, take_refusal, cleared, count, others, moved}

abbrev small : Air
small = (record { kind = PointToPoint; ends = None ∷ Some (1 ∷ []) ∷ [] }) ∷ (record { kind = Broadcast; ends = None ∷ None ∷ None ∷ [] }) ∷ []

-- a frame at the other end holds a put up, one at its own end does not
held_up : put_refusal small 0 0 (7 ∷ []) ≡ Some Waiting
held_up = refl

own_end : put_refusal small 0 1 (7 ∷ []) ≡ None
own_end = refl

free : put_refusal small 1 2 (7 ∷ []) ≡ None
free = refl

-- frames have 1 to 275 octets, and that comes first
nothing : put_refusal small 9 9 [] ≡ Some (refusal.Frame Size)
nothing = refl

most : put_refusal small 1 0 (replicate 275 7) ≡ None
most = refl

too_much : put_refusal small 1 0 (replicate 276 7) ≡ Some (refusal.Frame Size)
too_much = refl

no_circuit : put_refusal small 2 0 (7 ∷ []) ≡ Some Unknown
no_circuit = refl

no_end : put_refusal small 1 3 (7 ∷ []) ≡ Some Unknown
no_end = refl

-- buffers have at least 275
room : take_refusal small 0 1 275 ≡ None
room = refl

no_room : take_refusal small 9 9 274 ≡ Some (refusal.Frame Size)
no_room = refl

-- questions
asked : kind_answer small 1 ≡ Ok Broadcast
asked = refl

asked_past : ends_answer small 2 ≡ Err Unknown
asked_past = refl

waits : waits_answer small 0 1 ≡ Ok true
waits = refl

-- what is taken goes to the front, and is gone from its end
front : moved (Some (1 ∷ 2 ∷ [])) (9 ∷ 9 ∷ 9 ∷ []) ≡ 1 ∷ 2 ∷ 9 ∷ []
front = refl

gone : put_refusal (cleared small 0 1) 0 0 (7 ∷ []) ≡ None
gone = refl

-- all other ends of 3 are 2
two_others : count (others 3 1) 3 ≡ 2
two_others = refl
