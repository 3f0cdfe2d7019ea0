-- The state of a network over a plant of any type P: the plant, the clock, the routers with their ports and slots, the circuits in service,
-- and each router's database. What the rules ask of it, and how it is opened. Of a store only its lists of records are seen, so what is said here holds over every store.
use Rattle.std.specs.Prelude.{◌≡◌, ℕ, suc, Bool, false, cond, not, ◌&&◌, List, [], ◌∷◌, map, replicate, Some, None, Ok, Err, Option, Result, ◌==◌, nat_eq, nat_lt, slice_index_or, slice_set}
use Rattle.fault.specs.declared.CallFault.{CallFault}
use Rattle.fault.specs.declared.CallFault.TheVariants.{NotEmpty}
use Rattle.plant.specs.Air.{Air, Quiet}
use Rattle.model.specs.Lists.{any}
use Rattle.model.specs.Plants.{broadcast_circuit}
use Rattle.model.specs.Flags.{Flags}
use Rattle.model.specs.Records.{HeldRecord, stored_over, flooded}
use Rattle.model.specs.Databases.{Database, find, placed}

-- a slot's last number, whether it is active, and its body
pub record Slot : Type 0 where
  pub last : ℕ
  pub active : Bool
  pub body : List ℕ

-- where a port is attached
pub record Port : Type 0 where
  pub circuit : ℕ
  pub end : ℕ

-- a router: its system identifier, its ports by their numbers, and its four slots
pub record Router : Type 0 where
  pub system : ℕ
  pub ports : List Port
  pub slots : List Slot

-- `service` says for each circuit whether it is in service; `records` has a database for each of routers 0 to 7
pub record State (P : Type 0) : Type 0 where
  pub plant : P
  pub clock : ℕ
  pub routers : List Router
  pub service : List Bool
  pub records : List Database

-- a router and what it holds
pub record Node : Type 0 where
  pub router : Router
  pub records : Database

abbrev pub no_slot : Slot
no_slot = record { last = 0; active = false; body = [] }

-- a port that is not there stands at no circuit
abbrev pub no_port : Port
no_port = record { circuit = 12; end = 8 }

-- a router as it is added
abbrev pub new_router : ℕ → Router
new_router system = record { system = system; ports = []; slots = replicate 4 no_slot }

abbrev pub slot : Router → ℕ → Slot
slot y k = slice_index_or y.slots k no_slot

abbrev pub port : Router → ℕ → Port
port y p = slice_index_or y.ports p no_port

abbrev pub router : {P : Type 0} → State P → ℕ → Router
router s r = slice_index_or s.routers r (new_router 0)

abbrev pub database : {P : Type 0} → State P → ℕ → Database
database s r = slice_index_or s.records r []

abbrev pub node : {P : Type 0} → State P → ℕ → Node
node s r = record { router = router s r; records = database s r }

-- one part changed
abbrev pub with_plant : {P : Type 0} → P → State P → State P
with_plant p s = record { plant = p; clock = s.clock; routers = s.routers; service = s.service; records = s.records }

abbrev pub with_records : {P : Type 0} → List Database → State P → State P
with_records d s = record { plant = s.plant; clock = s.clock; routers = s.routers; service = s.service; records = d }

abbrev pub with_routers : {P : Type 0} → List Router → State P → State P
with_routers y s = record { plant = s.plant; clock = s.clock; routers = y; service = s.service; records = s.records }

abbrev pub with_service : {P : Type 0} → List Bool → State P → State P
with_service b s = record { plant = s.plant; clock = s.clock; routers = s.routers; service = b; records = s.records }

abbrev pub with_node : {P : Type 0} → ℕ → Node → State P → State P
with_node r y s = with_records (slice_set s.records r y.records) (with_routers (slice_set s.routers r y.router) s)

abbrev pub with_slot : ℕ → Slot → Node → Node
with_slot k z y =
    record {
      router = record { system = y.router.system; ports = y.router.ports; slots = slice_set y.router.slots k z };
      records = y.records;
    }

abbrev pub holding : Database → Node → Node
holding d y = record { router = y.router; records = d }

-- a record is stored over what is held, and flooded
abbrev pub flooding : Flags → HeldRecord → Node → Node
flooding serving x y = holding (placed (flooded serving (stored_over (find x.id y.records) x)) y.records) y

-- the slot that owns an identifier, if any, turns inactive
abbrev pub deactivated : Option ℕ → Node → Node
deactivated None y = y
deactivated (Some k) y =
    with_slot k (record { last = (slot y.router k).last; active = false; body = (slot y.router k).body }) y

-- whether a circuit is in service
abbrev pub in_service : {P : Type 0} → State P → ℕ → Bool
in_service s c = slice_index_or s.service c false

-- a router's ports on a circuit
abbrev pub ports_on : ℕ → Router → Flags
ports_on c y = map (λ a. nat_eq a.circuit c) y.ports

abbrev pub attached_to : ℕ → Router → Bool
attached_to c y = any (λ a. nat_eq a.circuit c) y.ports

-- a router's ports in service
abbrev pub serving : {P : Type 0} → State P → ℕ → Flags
serving s r = map (λ a. in_service s a.circuit) (router s r).ports

-- the port at an end of a circuit, counted on from p
abbrev pub port_at : ℕ → ℕ → ℕ → List Port → Option ℕ
port_at c e p [] = None
port_at c e p (a ∷ more) = cond (a.circuit == c && a.end == e) (Some p) (port_at c e (suc p) more)

abbrev pub or_later : ℕ → Option ℕ → Option (ℕ × ℕ) → Option (ℕ × ℕ)
or_later r None later = later
or_later r (Some p) later = Some (r, p)

-- the router at an end of a circuit and its port there, counted on from router r
abbrev pub attached : ℕ → ℕ → ℕ → List Router → Option (ℕ × ℕ)
attached c e r [] = None
attached c e r (y ∷ more) = or_later r (port_at c e 0 y.ports) (attached c e (suc r) more)

-- designated: no system identifier attached to the circuit is higher
abbrev pub designated : {P : Type 0} → State P → ℕ → ℕ → Bool
designated s r c = not (any (λ y. attached_to c y && nat_lt (router s r).system y.system) s.routers)

-- what the rules ask of a port: its number, its circuit's kind, whether the router is designated there, and the router's ports in service
pub record Interface : Type 0 where
  pub port : ℕ
  pub broadcast : Bool
  pub designated : Bool
  pub serving : Flags

abbrev pub interface : {P : Type 0} → (P → Air) → State P → ℕ → ℕ → Interface
interface air s r p =
    record {
      port = p;
      broadcast = broadcast_circuit (air s.plant) (port (router s r) p).circuit;
      designated = designated s r (port (router s r) p).circuit;
      serving = serving s r;
    }

-- open: clock 0, no router, no circuit in service
abbrev pub opening : {P : Type 0} → P → List Database → State P
opening p d = record { plant = p; clock = 0; routers = []; service = replicate 12 false; records = d }

-- an opened network: nothing waits, nothing is held
pub record Opened {P : Type 0} (air : P → Air) (s : State P) : Type 0 where
  pub quiet : Quiet (air s.plant)
  pub clock : s.clock ≡ 0
  pub routers : s.routers ≡ []
  pub service : s.service ≡ replicate 12 false
  pub records : s.records ≡ replicate 8 []

-- open is refused exactly where a frame waits or a record is held
abbrev pub Opens : {P : Type 0} → (P → Air) → P → List Database → Result (State P) CallFault → Type 0
Opens air p d (Ok s) = (s ≡ opening p d) × Opened air s
Opens air p d (Err e) = (e ≡ NotEmpty) × (Opened air (opening p d) → ⊥)
