-- That a wire is lawful.
use Rattle.std.specs.Prelude.{◌≡◌, ℕ, zero, suc, ◌<◌, ◌≤◌, Bool, true, false, cond, if◌then◌else◌, ◌==◌, List, [], ◌∷◌, length, Some, None, Option, slice_index_or, map, take, refl}
use Rattle.std.proofs.Common.{arith}
use Rattle.std.proofs.lemmas.Bool.{eqb-true, eqb-false}
use Rattle.plant.specs.declared.Kind.{Kind}
use Rattle.plant.specs.declared.Kind.TheVariants.{PointToPoint, Broadcast}
use Rattle.plant.specs.Air.{Frame, Lawful, EndsFit, line, ends_of, waiting}
use Rattle.std.proofs.lemmas.List.{length-map, length-take-le}
use Rattle.wires.specs.Held.{held}
use Rattle.wires.specs.declared.wire.Wire.{Wire}
use Rattle.wires.specs.Wires.{alone, kind_of, wire_ends, wire_air}
use Rattle.wires.specs.declared.inbox.Inbox.{Inbox}

module _ (k : Kind) (xs : List (Option Frame)) where
  pub alone_lawful :
      EndsFit k (length xs) →
      ((e : ℕ) (f : Frame) → slice_index_or xs e None ≡ Some f → (1 ≤ length f) × (length f ≤ 275)) →
      Lawful (alone k xs)
  alone_lawful h i = record { some = omega arith; few = omega arith; ends = fit; frames = sized }
    where
      fit : (c : ℕ) → c < 1 → EndsFit (line (alone k xs) c).kind (ends_of (alone k xs) c)
      fit zero l = h
      fit (suc c) l = absurd (omega arith)

      sized : (c e : ℕ) (f : Frame) → waiting (alone k xs) c e ≡ Some f → (1 ≤ length f) × (length f ≤ 275)
      sized zero e f q = i e f q
      sized (suc c) e f q = let z : ◌≡◌ {A = ℕ} 0 1 = cc in absurd (omega arith)

-- a frame that waits has 1 to 275 octets
pub held_fits : (b : Inbox) (f : Frame) → held b ≡ Some f → (1 ≤ length f) × (length f ≤ 275)
held_fits b f h = go (b.len == 0) refl h
  where
    go : (t : Bool) → (b.len == 0) ≡ t → cond t None (Some (take b.len b.octets)) ≡ Some f → (1 ≤ length f) × (length f ≤ 275)
    go true p q = let z : ◌≡◌ {A = ℕ} 0 1 = cc in absurd (omega arith)
    go false p q =
        let n = length-take-le b.len b.octets (omega (arith, b.few, b.whole)) in
        let d = eqb-false b.len 0 p in
        let r : take b.len b.octets ≡ f = cc in
        (rw (← r) (omega arith), rw (← r) (omega (arith, b.few)))

pub all_fit :
    (bs : List Inbox) (e : ℕ) (f : Frame) → slice_index_or (map held bs) e None ≡ Some f → (1 ≤ length f) × (length f ≤ 275)
all_fit [] e f h = let z : ◌≡◌ {A = ℕ} 0 1 = cc in absurd (omega arith)
all_fit (b ∷ bs) zero f h = held_fits b f h
all_fit (b ∷ bs) (suc e) f h = all_fit bs e f h

-- how many ends fit a wire's kind
ends_fit : (room n : ℕ) → 2 ≤ n → n ≤ 8 → n ≤ room → EndsFit (kind_of room) n
ends_fit room n h k l = go (room == 2) refl
  where
    go : (b : Bool) → (room == 2) ≡ b → EndsFit (if b then PointToPoint else Broadcast) n
    go true q = omega (arith, eqb-true room 2 q)
    go false q = (h, k)

pub wire_lawful : {room : ℕ} (s : Wire room) → Lawful (wire_air s)
wire_lawful {room} s =
    let n = length-map s.inboxes.items held in
    alone_lawful (kind_of room) (wire_ends s) (rw n (ends_fit room (length s.inboxes.items) s.some s.few s.room)) (all_fit s.inboxes.items)
