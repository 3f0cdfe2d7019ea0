-- The first part of a tick: the clock rises, then every record of every router ages, then every slot that is due issues again.
use Rattle.std.specs.Prelude.{ℕ, zero, suc, ◌+◌, ◌-◌, Bool, false, cond, ◌&&◌, List, [], ◌∷◌, ◌++◌, map, length, Some, None, Option, ◌==◌, nat_le, nat_lt}
use Rattle.model.specs.Lists.{through}
use Rattle.model.specs.Flags.{Flags}
use Rattle.model.specs.Records.{HeldRecord, purge_of, is_live, marked, owning_slot, last_number}
use Rattle.model.specs.Databases.{Database, find, without, amended}
use Rattle.model.specs.State.{State, Node, Slot, slot, router, database, node, with_node, holding, flooding, deactivated, serving}
use Rattle.model.specs.Calls.{id_of, originated}

-- the clock rises by 1
abbrev pub clock_risen : {P : Type 0} → State P → State P
clock_risen s = record { plant = s.plant; clock = s.clock + 1; routers = s.routers; service = s.service; records = s.records }

-- the lifetime falls by 1
abbrev pub lifetime_fallen : HeldRecord → HeldRecord
lifetime_fallen x =
    record {
      id = x.id;
      number = x.number;
      lifetime = x.lifetime - 1;
      check = x.check;
      flag_octet = x.flag_octet;
      body = x.body;
      wait = x.wait;
      srm = x.srm;
      ssn = x.ssn;
    }

-- the wait falls by 1
abbrev pub wait_fallen : HeldRecord → HeldRecord
wait_fallen x = marked x x.srm x.ssn (x.wait - 1)

-- a live record's lifetime falls, and at 0 it becomes a flooded purge, an owning slot turning inactive;
-- any other record's wait falls, and at 0 it is deleted
abbrev pub aged_record : Flags → Option HeldRecord → Node → Node
aged_record v None y = y
aged_record v (Some x) y =
    cond (is_live x)
    (cond (x.lifetime == 1)
    (deactivated (owning_slot y.router.system x.id) (flooding v (purge_of x) y))
    (holding (amended lifetime_fallen x.id y.records) y))
    (cond (nat_le x.wait 1) (holding (without x.id y.records) y) (holding (amended wait_fallen x.id y.records) y))

-- due: an active slot with a number left, whose record has lifetime 300 or less
abbrev pub is_due : Slot → Option HeldRecord → Bool
is_due z None = false
is_due z (Some x) = z.active && (nat_lt z.last last_number && nat_le x.lifetime 300)

-- every record of every router, counted on from router r: the router and the identifier
abbrev pub each_record : ℕ → List Database → List (ℕ × ℕ)
each_record r [] = []
each_record r (d ∷ ds) = map (λ x. (r, x.id)) d ++ each_record (suc r) ds

-- the four slots of each of n routers
abbrev pub each_slot : ℕ → List (ℕ × ℕ)
each_slot zero = []
each_slot (suc n) = each_slot n ++ (n, 0) ∷ (n, 1) ∷ (n, 2) ∷ (n, 3) ∷ []

module _ {P : Type 0} where
  -- the record of router a.0 with identifier a.1 ages
  abbrev pub ages : ℕ × ℕ → State P → State P
  ages a s = with_node a.0 (aged_record (serving s a.0) (find a.1 (database s a.0)) (node s a.0)) s

  -- slot a.1 of router a.0 issues again, where it is due
  abbrev pub reissues : ℕ × ℕ → State P → State P
  reissues a s =
      cond (is_due (slot (router s a.0) a.1) (find (id_of s a.0 a.1) (database s a.0)))
      (originated a.0 a.1 (slot (router s a.0) a.1).body s)
      s

  abbrev pub aged : State P → State P
  aged s = through ages (each_record 0 s.records) s

  abbrev pub reissued : State P → State P
  reissued s = through reissues (each_slot (length s.routers)) s

  -- the state in which the turns begin
  abbrev pub aged_and_reissued : State P → State P
  aged_and_reissued s = reissued (aged (clock_risen s))
