-- Each call but a tick: the causes for which it is refused, of which the first in rank and place is answered, and what it does.
use Rattle.std.specs.Prelude.{◌≡◌, ℕ, ◌+◌, Bool, true, false, cond, not, ◌&&◌, ◌||◌, List, [], ◌∷◌, ◌++◌, map, length, is_some, Some, None, Ok, Err, Option, Result, nat_eq, nat_le, slice_set}
use Rattle.fault.specs.declared.FrameFault.{FrameFault}
use Rattle.fault.specs.declared.CallFault.{CallFault}
use Rattle.fault.specs.declared.CallFault.TheVariants.{Unknown, Full, TooMany, Taken, Attached, Service, Inactive, NoNumber}
use Rattle.fault.specs.declared.CallFault.TheVariants as refusal
use Rattle.fault.specs.Order.{fails, first_refusal}
use Rattle.octets.specs.Fields.{body_faults}
use Rattle.frame.specs.Messages.{Pdu, lsp, csnp, psnp}
use Rattle.frame.specs.Reading.{decode}
use Rattle.plant.specs.Air.{Air, Frame, ends_of}
use Rattle.model.specs.Lists.{any, across}
use Rattle.model.specs.Plants.{broadcast_circuit}
use Rattle.model.specs.Flags.{Flags, join, except}
use Rattle.model.specs.Records.{HeldRecord, marked, with_srm, is_placeholder, purge_of, last_number, slot_id}
use Rattle.model.specs.Databases.{Database, find, holds}
use Rattle.model.specs.State.{State, Node, Router, Port, new_router, slot, port, router, database, node, with_records, with_routers, with_service, with_node, flooding, deactivated, in_service, ports_on, attached_to, serving, attached, interface}
use Rattle.model.specs.Hearing.{issuing, heard, ignored}

-- an accepted call has no refusal and its effect; a refused one has that refusal and changes nothing
abbrev pub Outcome : {S A : Type 0} → Option CallFault → S → S → S → A → Result A CallFault → Type 0
Outcome why s effect t answer (Ok a) = (why ≡ None) × (t ≡ effect) × (a ≡ answer)
Outcome why s effect t answer (Err r) = (why ≡ Some r) × (t ≡ s)

-- a call's refusal holds the frame's whole
abbrev pub frame_cause : Option FrameFault → Option CallFault
frame_cause None = None
frame_cause (Some e) = Some (refusal.Frame e)

abbrev pub decoded_cause : Result Pdu FrameFault → Option CallFault
decoded_cause (Ok m) = None
decoded_cause (Err e) = Some (refusal.Frame e)

-- the record that is held becomes a flooded purge of its number. With none held nothing happens, which no run reaches
abbrev pub purged : Flags → Option HeldRecord → Node → Node
purged v None y = y
purged v (Some x) y = flooding v (purge_of x) y

-- a port more
abbrev pub with_port : Port → Router → Router
with_port a y = record { system = y.system; ports = y.ports ++ a ∷ []; slots = y.slots }

-- SRM set on a circuit's ports, placeholders apart
abbrev pub srm_set_on : Flags → HeldRecord → HeldRecord
srm_set_on fs x = cond (is_placeholder x) x (with_srm (join x.srm fs) x)

-- both flags cleared on a circuit's ports
abbrev pub flags_cleared_on : Flags → HeldRecord → HeldRecord
flags_cleared_on fs x = marked x (except x.srm fs) (except x.ssn fs) x.wait

-- a record to store is new, and 32 are held
abbrev pub no_room : ℕ → Database → Bool
no_room i d = not (holds i d) && nat_le 32 (length d)

-- a live LSP finds no room; nothing else that is heard is refused for want of it
abbrev pub no_room_for : Result Pdu FrameFault → Database → Bool
no_room_for (Ok (lsp m)) d = nat_le 1 m.lifetime && no_room m.id d
no_room_for (Ok (csnp m)) d = false
no_room_for (Ok (psnp m)) d = false
no_room_for (Err e) d = false

module _ {P : Type 0} where
  abbrev pub no_router : State P → ℕ → Bool
  no_router s r = nat_le (length s.routers) r

  -- add: gives the next router number
  abbrev pub refusal_of_add : State P → ℕ → Option CallFault
  refusal_of_add s system =
      first_refusal (fails (nat_le 8 (length s.routers)) TooMany ∷ fails (any (λ y. nat_eq y.system system) s.routers) Taken ∷ [])

  abbrev pub added : ℕ → State P → State P
  added system s = with_routers (s.routers ++ new_router system ∷ []) s

  abbrev pub Adds : State P → State P → ℕ → Result ℕ CallFault → Type 0
  Adds s t system a = Outcome (refusal_of_add s system) s (added system s) t (length s.routers) a

  -- the identifier that slot k of router r owns
  abbrev pub id_of : State P → ℕ → ℕ → ℕ
  id_of s r k = slot_id (router s r).system k

  -- originate: last number + 1, the slot active with this body, the record flooded
  abbrev pub refusal_of_originate : State P → ℕ → ℕ → List ℕ → Option CallFault
  refusal_of_originate s r k body =
      first_refusal (
      map frame_cause (body_faults 0 body)
      ++ fails (no_router s r || nat_le 4 k) Unknown
      ∷ fails (no_room (id_of s r k) (database s r)) Full
      ∷ fails (nat_le last_number (slot (router s r) k).last) NoNumber
      ∷ [])

  abbrev pub originated : ℕ → ℕ → List ℕ → State P → State P
  originated r k body s =
      with_node r
      (issuing (serving s r) k
      (record { last = (slot (router s r) k).last + 1; active = true; body = body })
      ((slot (router s r) k).last + 1)
      (node s r)) s

  abbrev pub Originates : State P → State P → ℕ → ℕ → List ℕ → Result (Unit {0}) CallFault → Type 0
  Originates s t r k body a = Outcome (refusal_of_originate s r k body) s (originated r k body s) t tt a

  -- withdraw: the record becomes a flooded purge of its number, the slot inactive
  abbrev pub refusal_of_withdraw : State P → ℕ → ℕ → Option CallFault
  refusal_of_withdraw s r k =
      first_refusal (fails (no_router s r || nat_le 4 k) Unknown ∷ fails (not (slot (router s r) k).active) Inactive ∷ [])

  abbrev pub withdrawn : ℕ → ℕ → State P → State P
  withdrawn r k s =
      with_node r (deactivated (Some k) (purged (serving s r) (find (id_of s r k) (database s r)) (node s r))) s

  abbrev pub Withdraws : State P → State P → ℕ → ℕ → Result (Unit {0}) CallFault → Type 0
  Withdraws s t r k a = Outcome (refusal_of_withdraw s r k) s (withdrawn r k s) t tt a

  -- hear: the frame's refusal comes first
  abbrev pub refusal_of_hear : State P → ℕ → ℕ → Frame → Option CallFault
  refusal_of_hear s r p f =
      first_refusal (
      decoded_cause (decode f)
      ∷ fails (no_router s r || nat_le (length (router s r).ports) p) Unknown
      ∷ fails (no_room_for (decode f) (database s r)) Full
      ∷ fails (not (in_service s (port (router s r) p).circuit)) Service
      ∷ [])

module _ {P : Type 0} (air : P → Air) where
  abbrev pub no_circuit : State P → ℕ → Bool
  no_circuit s c = nat_le (length (air s.plant)) c

  -- attach: gives the router's next port
  abbrev pub refusal_of_attach : State P → ℕ → ℕ → ℕ → Option CallFault
  refusal_of_attach s r c e =
      first_refusal (
      fails (no_router s r || (no_circuit s c || nat_le (ends_of (air s.plant) c) e)) Unknown
      ∷ fails (nat_le 8 (length (router s r).ports)) TooMany
      ∷ fails (is_some (attached c e 0 s.routers)) Taken
      ∷ fails (attached_to c (router s r)) Attached
      ∷ fails (in_service s c) Service
      ∷ [])

  abbrev pub attaching : ℕ → ℕ → ℕ → State P → State P
  attaching r c e s = with_routers (slice_set s.routers r (with_port (record { circuit = c; end = e }) (router s r))) s

  abbrev pub Attaches : State P → State P → ℕ → ℕ → ℕ → Result ℕ CallFault → Type 0
  Attaches s t r c e a = Outcome (refusal_of_attach s r c e) s (attaching r c e s) t (length (router s r).ports) a

  -- up: puts a circuit in service; on point-to-point it sets SRM there on all records but placeholders
  abbrev pub refusal_of_up : State P → ℕ → Option CallFault
  refusal_of_up s c = first_refusal (fails (no_circuit s c) Unknown ∷ fails (in_service s c) Service ∷ [])

  abbrev pub upped : ℕ → State P → State P
  upped c s =
      with_service (slice_set s.service c true)
      (cond (broadcast_circuit (air s.plant) c) s
      (with_records (across (λ y d. map (srm_set_on (ports_on c y)) d) s.routers s.records) s))

  abbrev pub Ups : State P → State P → ℕ → Result (Unit {0}) CallFault → Type 0
  Ups s t c a = Outcome (refusal_of_up s c) s (upped c s) t tt a

  -- down: takes a circuit out of service and clears both flags of that port in every attached router
  abbrev pub refusal_of_down : State P → ℕ → Option CallFault
  refusal_of_down s c = first_refusal (fails (no_circuit s c) Unknown ∷ fails (not (in_service s c)) Service ∷ [])

  abbrev pub downed : ℕ → State P → State P
  downed c s =
      with_service (slice_set s.service c false)
      (with_records (across (λ y d. map (flags_cleared_on (ports_on c y)) d) s.routers s.records) s)

  abbrev pub Downs : State P → State P → ℕ → Result (Unit {0}) CallFault → Type 0
  Downs s t c a = Outcome (refusal_of_down s c) s (downed c s) t tt a

  -- hear: what the frame says is heard; answers whether it was a PSNP that was ignored
  abbrev pub hearing : ℕ → ℕ → Result Pdu FrameFault → State P → State P
  hearing r p (Err e) s = s
  hearing r p (Ok m) s = with_node r (heard (interface air s r p) m (node s r)) s

  abbrev pub ignoring : ℕ → ℕ → Result Pdu FrameFault → State P → Bool
  ignoring r p (Err e) s = false
  ignoring r p (Ok m) s = ignored (interface air s r p) m

  abbrev pub Hears : State P → State P → ℕ → ℕ → Frame → Result Bool CallFault → Type 0
  Hears s t r p f a = Outcome (refusal_of_hear s r p f) s (hearing r p (decode f) s) t (ignoring r p (decode f) s) a

  -- a frame that a tick brings to a port: what is refused is dropped
  abbrev pub heard_or_dropped : ℕ → ℕ → Frame → State P → State P
  heard_or_dropped r p f s = cond (is_some (refusal_of_hear s r p f)) s (hearing r p (decode f) s)
