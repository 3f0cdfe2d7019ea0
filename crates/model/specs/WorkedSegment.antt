-- A run worked by hand: three routers on a segment. Router 0 originates, and in the first tick the end of router 2, which is designated, misses the LSP.
-- Its CSNP in the tenth tick does not list the record, so the others set SRM, and in the eleventh it hears the LSP.
use Rattle.std.specs.Prelude.{ℕ, true, false, [], ◌∷◌, replicate, None}
use Rattle.plant.specs.declared.Kind.TheVariants.{Broadcast}
use Rattle.plant.specs.Air.{Air}
use Rattle.model.specs.Flags.{no_flags}
use Rattle.model.specs.Databases.{Database}
use Rattle.model.specs.State.{State, no_slot}
use Rattle.model.specs.Book.{History, add, attach, up, originate, tick}
use Rattle.model.specs.Run.{Run}
use Rattle.model.specs.Reference.{as_it_is, ReferencePut, ReferenceTake}
use Rattle.model.specs.WorkedCable.{copy}

abbrev pub segment : Air
segment = record { kind = Broadcast; ends = None ∷ None ∷ None ∷ [] } ∷ []

-- the three routers at the segment's ends, in service, with these databases
abbrev pub segment_state : ℕ → Database → Database → Database → State Air
segment_state clock d0 d1 d2 =
    record {
      plant = segment;
      clock = clock;
      routers =
          record {
            system = 1;
            ports = record { circuit = 0; end = 0 } ∷ [];
            slots = record { last = 1; active = true; body = [] } ∷ no_slot ∷ no_slot ∷ no_slot ∷ [];
          }
          ∷ record { system = 2; ports = record { circuit = 0; end = 1 } ∷ []; slots = replicate 4 no_slot }
          ∷ record { system = 3; ports = record { circuit = 0; end = 2 } ∷ []; slots = replicate 4 no_slot }
          ∷ [];
      service = true ∷ replicate 11 false;
      records = d0 ∷ d1 ∷ d2 ∷ replicate 5 [];
    }

abbrev pub segment_history : History
segment_history =
    tick 0 ∷ tick 0 ∷ tick 0 ∷ tick 0 ∷ tick 0 ∷ tick 0 ∷ tick 0 ∷ tick 0 ∷ tick 0 ∷ tick 0 ∷ tick 1
    ∷ originate 0 0 [] ∷ up 0 ∷ attach 2 0 2 ∷ attach 1 0 1 ∷ attach 0 0 0 ∷ add 3 ∷ add 2 ∷ add 1 ∷ []

-- after eleven ticks all three hold the issue, and no flag is set
abbrev pub SegmentWorked : Type 0
SegmentWorked =
    Run as_it_is ReferencePut ReferenceTake
    (segment_state 11 (copy 1189 no_flags no_flags ∷ []) (copy 1189 no_flags no_flags ∷ []) (copy 1189 no_flags no_flags ∷ []))
    segment_history
