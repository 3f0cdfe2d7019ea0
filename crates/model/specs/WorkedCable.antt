-- A run worked by hand: two routers and a cable. Router 0 originates, the fifth tick carries the LSP over, and the sixth its acknowledgement.
use Rattle.std.specs.Prelude.{ℕ, true, false, [], ◌∷◌, replicate, None}
use Rattle.plant.specs.declared.Kind.TheVariants.{PointToPoint}
use Rattle.plant.specs.Air.{Air}
use Rattle.model.specs.Flags.{Flags, no_flags}
use Rattle.model.specs.Records.{HeldRecord}
use Rattle.model.specs.Databases.{Database}
use Rattle.model.specs.State.{State, no_slot}
use Rattle.model.specs.Book.{History, add, attach, up, originate, tick}
use Rattle.model.specs.Run.{Run}
use Rattle.model.specs.Reference.{as_it_is, ReferencePut, ReferenceTake}

-- a copy of the first issue of 0000.0000.0001.00-00
abbrev pub copy : ℕ → Flags → Flags → HeldRecord
copy lifetime srm ssn =
    record {
      id = 65536;
      number = 1;
      lifetime = lifetime;
      check = record { x = 0xF6; y = 0x06 };
      flag_octet = 1;
      body = [];
      wait = 0;
      srm = srm;
      ssn = ssn;
    }

abbrev pub cable : Air
cable = record { kind = PointToPoint; ends = None ∷ None ∷ [] } ∷ []

-- the two routers at the cable's ends, in service, with these databases
abbrev pub cable_state : ℕ → Database → Database → State Air
cable_state clock d0 d1 =
    record {
      plant = cable;
      clock = clock;
      routers =
          record {
            system = 1;
            ports = record { circuit = 0; end = 0 } ∷ [];
            slots = record { last = 1; active = true; body = [] } ∷ no_slot ∷ no_slot ∷ no_slot ∷ [];
          }
          ∷ record { system = 2; ports = record { circuit = 0; end = 1 } ∷ []; slots = replicate 4 no_slot }
          ∷ [];
      service = true ∷ replicate 11 false;
      records = d0 ∷ d1 ∷ replicate 6 [];
    }

abbrev pub cable_history : History
cable_history =
    tick 0 ∷ tick 0 ∷ tick 0 ∷ tick 0 ∷ tick 0 ∷ tick 0
    ∷ originate 0 0 [] ∷ up 0 ∷ attach 1 0 1 ∷ attach 0 0 0 ∷ add 2 ∷ add 1 ∷ []

-- after six ticks both routers hold the issue, and no flag is set
abbrev pub CableWorked : Type 0
CableWorked =
    Run as_it_is ReferencePut ReferenceTake
    (cable_state 6 (copy 1194 no_flags no_flags ∷ []) (copy 1194 no_flags no_flags ∷ []))
    cable_history
