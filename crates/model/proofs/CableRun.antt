-- The run over a cable, step by step: every state is written out, and every step computes to it.
use Rattle.std.proofs.Common.{◌≡◌, ℕ, zero, suc, ◌≢◌, [], ◌∷◌, get_or, replicate, Some, None, Ok, refl, arith, lit<}
use Rattle.plant.specs.Air.{Air, Frame, waiting}
use Rattle.plant.specs.Calls.{none}
use Rattle.model.specs.Flags.{only, no_flags}
use Rattle.model.specs.State.{State, opening, with_plant}
use Rattle.model.specs.Calls.{added, attaching, upped}
use Rattle.model.specs.Loop.{Loop}
use Rattle.model.specs.Turns.{Progress, TakesAt, Sends, PortTurn, AtPort, lsp_frames, psnp_frames}
use Rattle.model.specs.Tick.{Ticks}
use Rattle.model.specs.Run.{Called, Stretch}
use Rattle.model.specs.Reference.{as_it_is, put_into, OthersOnly, ReferencePut, ReferenceTake}
use Rattle.model.specs.WorkedCable.{copy, cable, cable_state, CableWorked}

abbrev at : ℕ → ℕ → State Air → Progress Air
at f m s = record { state = s; frames = f; missed = m }

one_not_zero : ◌≢◌ {A = ℕ} 1 0
one_not_zero e = omega arith

zero_not_one : ◌≢◌ {A = ℕ} 0 1
zero_not_one e = omega arith

none_missed : (a : Air) (c e : ℕ) → OthersOnly a c e none
none_missed a c e k h = let z : ◌≡◌ {A = ℕ} 0 1 = cc in absurd (omega arith)

abbrev state_0 : State Air
state_0 = cable_state 0 (copy 1200 (only 0) no_flags ∷ []) []

abbrev state_1 : State Air
state_1 = cable_state 1 (copy 1199 (only 0) no_flags ∷ []) []

abbrev state_2 : State Air
state_2 = cable_state 2 (copy 1198 (only 0) no_flags ∷ []) []

abbrev state_3 : State Air
state_3 = cable_state 3 (copy 1197 (only 0) no_flags ∷ []) []

abbrev state_4 : State Air
state_4 = cable_state 4 (copy 1196 (only 0) no_flags ∷ []) []

abbrev state_5 : State Air
state_5 = cable_state 5 (copy 1195 (only 0) no_flags ∷ []) (copy 1195 no_flags (only 0) ∷ [])

abbrev state_6 : State Air
state_6 = cable_state 6 (copy 1194 no_flags no_flags ∷ []) (copy 1194 no_flags no_flags ∷ [])

-- the fifth tick before its turns, and the LSP that it puts
abbrev aged_5 : State Air
aged_5 = cable_state 5 (copy 1195 (only 0) no_flags ∷ []) []

abbrev lsp_5 : Frame
lsp_5 = get_or (lsp_frames as_it_is 0 0 aged_5) 0 []

-- the sixth before its turns, the PSNP that it puts, and the state after that was heard
abbrev aged_6 : State Air
aged_6 = cable_state 6 (copy 1194 (only 0) no_flags ∷ []) (copy 1194 no_flags (only 0) ∷ [])

abbrev psnp_6 : Frame
psnp_6 = get_or (psnp_frames as_it_is 1 0 aged_6) 0 []

abbrev heard_6 : State Air
heard_6 = cable_state 6 (copy 1194 no_flags no_flags ∷ []) (copy 1194 no_flags (only 0) ∷ [])

turn_1_0 : PortTurn as_it_is ReferencePut ReferenceTake 0 0 (at 0 0 state_1) (at 0 0 state_1)
turn_1_0 =
    record {
      after_lsps = at 0 0 state_1;
      after_psnps = at 0 0 state_1;
      csnps = [];
      lsps_sent = Loop.none;
      psnps_sent = Loop.none;
      csnps_due = refl;
      csnps_sent = Loop.none;
    }

turn_1_1 : PortTurn as_it_is ReferencePut ReferenceTake 1 0 (at 0 0 state_1) (at 0 0 state_1)
turn_1_1 =
    record {
      after_lsps = at 0 0 state_1;
      after_psnps = at 0 0 state_1;
      csnps = [];
      lsps_sent = Loop.none;
      psnps_sent = Loop.none;
      csnps_due = refl;
      csnps_sent = Loop.none;
    }

tick_1 : Ticks as_it_is ReferencePut ReferenceTake state_0 state_1 (Ok (0, 0))
tick_1 = (
  refl,
  (
    state_1,
    refl,
    Loop.more {u = at 0 0 state_1} (Loop.more {u = at 0 0 state_1} Loop.none (Loop.more {u = at 0 0 state_1} Loop.none (AtPort.turn refl turn_1_0)))
        (Loop.more {u = at 0 0 state_1} Loop.none (AtPort.turn refl turn_1_1)),
  ),
)

turn_2_0 : PortTurn as_it_is ReferencePut ReferenceTake 0 0 (at 0 0 state_2) (at 0 0 state_2)
turn_2_0 =
    record {
      after_lsps = at 0 0 state_2;
      after_psnps = at 0 0 state_2;
      csnps = [];
      lsps_sent = Loop.none;
      psnps_sent = Loop.none;
      csnps_due = refl;
      csnps_sent = Loop.none;
    }

turn_2_1 : PortTurn as_it_is ReferencePut ReferenceTake 1 0 (at 0 0 state_2) (at 0 0 state_2)
turn_2_1 =
    record {
      after_lsps = at 0 0 state_2;
      after_psnps = at 0 0 state_2;
      csnps = [];
      lsps_sent = Loop.none;
      psnps_sent = Loop.none;
      csnps_due = refl;
      csnps_sent = Loop.none;
    }

tick_2 : Ticks as_it_is ReferencePut ReferenceTake state_1 state_2 (Ok (0, 0))
tick_2 = (
  refl,
  (
    state_2,
    refl,
    Loop.more {u = at 0 0 state_2} (Loop.more {u = at 0 0 state_2} Loop.none (Loop.more {u = at 0 0 state_2} Loop.none (AtPort.turn refl turn_2_0)))
        (Loop.more {u = at 0 0 state_2} Loop.none (AtPort.turn refl turn_2_1)),
  ),
)

turn_3_0 : PortTurn as_it_is ReferencePut ReferenceTake 0 0 (at 0 0 state_3) (at 0 0 state_3)
turn_3_0 =
    record {
      after_lsps = at 0 0 state_3;
      after_psnps = at 0 0 state_3;
      csnps = [];
      lsps_sent = Loop.none;
      psnps_sent = Loop.none;
      csnps_due = refl;
      csnps_sent = Loop.none;
    }

turn_3_1 : PortTurn as_it_is ReferencePut ReferenceTake 1 0 (at 0 0 state_3) (at 0 0 state_3)
turn_3_1 =
    record {
      after_lsps = at 0 0 state_3;
      after_psnps = at 0 0 state_3;
      csnps = [];
      lsps_sent = Loop.none;
      psnps_sent = Loop.none;
      csnps_due = refl;
      csnps_sent = Loop.none;
    }

tick_3 : Ticks as_it_is ReferencePut ReferenceTake state_2 state_3 (Ok (0, 0))
tick_3 = (
  refl,
  (
    state_3,
    refl,
    Loop.more {u = at 0 0 state_3} (Loop.more {u = at 0 0 state_3} Loop.none (Loop.more {u = at 0 0 state_3} Loop.none (AtPort.turn refl turn_3_0)))
        (Loop.more {u = at 0 0 state_3} Loop.none (AtPort.turn refl turn_3_1)),
  ),
)

turn_4_0 : PortTurn as_it_is ReferencePut ReferenceTake 0 0 (at 0 0 state_4) (at 0 0 state_4)
turn_4_0 =
    record {
      after_lsps = at 0 0 state_4;
      after_psnps = at 0 0 state_4;
      csnps = [];
      lsps_sent = Loop.none;
      psnps_sent = Loop.none;
      csnps_due = refl;
      csnps_sent = Loop.none;
    }

turn_4_1 : PortTurn as_it_is ReferencePut ReferenceTake 1 0 (at 0 0 state_4) (at 0 0 state_4)
turn_4_1 =
    record {
      after_lsps = at 0 0 state_4;
      after_psnps = at 0 0 state_4;
      csnps = [];
      lsps_sent = Loop.none;
      psnps_sent = Loop.none;
      csnps_due = refl;
      csnps_sent = Loop.none;
    }

tick_4 : Ticks as_it_is ReferencePut ReferenceTake state_3 state_4 (Ok (0, 0))
tick_4 = (
  refl,
  (
    state_4,
    refl,
    Loop.more {u = at 0 0 state_4} (Loop.more {u = at 0 0 state_4} Loop.none (Loop.more {u = at 0 0 state_4} Loop.none (AtPort.turn refl turn_4_0)))
        (Loop.more {u = at 0 0 state_4} Loop.none (AtPort.turn refl turn_4_1)),
  ),
)

lsp_sent : Sends as_it_is ReferencePut ReferenceTake (record { circuit = 0; end = 0 }) lsp_5 (at 0 0 aged_5) (at 1 0 state_5)
lsp_sent =
    Sends.sent {q = put_into cable 0 0 lsp_5 none} {n = 0} {s = with_plant (put_into cable 0 0 lsp_5 none) aged_5} {t = state_5}
    (record { missed = none; happened = (refl, refl, none_missed cable 0 0); counted = refl })
    refl
    (Loop.more {u = with_plant (put_into cable 0 0 lsp_5 none) aged_5}
    (Loop.more {u = with_plant (put_into cable 0 0 lsp_5 none) aged_5} Loop.none (TakesAt.own refl))
    (TakesAt.other {q = cable} {f = Some lsp_5} one_not_zero (lit< tt, refl, refl) refl))
    refl

turn_5_0 : PortTurn as_it_is ReferencePut ReferenceTake 0 0 (at 0 0 aged_5) (at 1 0 state_5)
turn_5_0 =
    record {
      after_lsps = at 1 0 state_5;
      after_psnps = at 1 0 state_5;
      csnps = [];
      lsps_sent = Loop.more {u = at 0 0 aged_5} Loop.none lsp_sent;
      psnps_sent = Loop.none;
      csnps_due = refl;
      csnps_sent = Loop.none;
    }

turn_5_1 : PortTurn as_it_is ReferencePut ReferenceTake 1 0 (at 1 0 state_5) (at 1 0 state_5)
turn_5_1 =
    record {
      after_lsps = at 1 0 state_5;
      after_psnps = at 1 0 state_5;
      csnps = [];
      lsps_sent = Loop.none;
      psnps_sent = Loop.none;
      csnps_due = refl;
      csnps_sent = Loop.none;
    }

tick_5 : Ticks as_it_is ReferencePut ReferenceTake state_4 state_5 (Ok (1, 0))
tick_5 = (
  refl,
  (
    aged_5,
    refl,
    Loop.more {u = at 1 0 state_5} (Loop.more {u = at 0 0 aged_5} Loop.none (Loop.more {u = at 0 0 aged_5} Loop.none (AtPort.turn refl turn_5_0)))
        (Loop.more {u = at 1 0 state_5} Loop.none (AtPort.turn refl turn_5_1)),
  ),
)

turn_6_0 : PortTurn as_it_is ReferencePut ReferenceTake 0 0 (at 0 0 aged_6) (at 0 0 aged_6)
turn_6_0 =
    record {
      after_lsps = at 0 0 aged_6;
      after_psnps = at 0 0 aged_6;
      csnps = [];
      lsps_sent = Loop.none;
      psnps_sent = Loop.none;
      csnps_due = refl;
      csnps_sent = Loop.none;
    }

psnp_sent : Sends as_it_is ReferencePut ReferenceTake (record { circuit = 0; end = 1 }) psnp_6 (at 0 0 aged_6) (at 1 0 heard_6)
psnp_sent =
    Sends.sent {q = put_into cable 0 1 psnp_6 none} {n = 0} {s = with_plant (put_into cable 0 1 psnp_6 none) aged_6} {t = heard_6}
    (record { missed = none; happened = (refl, refl, none_missed cable 0 1); counted = refl })
    refl
    (Loop.more {u = heard_6}
    (Loop.more {u = with_plant (put_into cable 0 1 psnp_6 none) aged_6} Loop.none
    (TakesAt.other {q = cable} {f = Some psnp_6} zero_not_one (lit< tt, refl, refl) refl))
    (TakesAt.own refl))
    refl

turn_6_1 : PortTurn as_it_is ReferencePut ReferenceTake 1 0 (at 0 0 aged_6) (at 1 0 state_6)
turn_6_1 =
    record {
      after_lsps = at 0 0 aged_6;
      after_psnps = at 1 0 heard_6;
      csnps = [];
      lsps_sent = Loop.none;
      psnps_sent = Loop.more {u = at 0 0 aged_6} Loop.none psnp_sent;
      csnps_due = refl;
      csnps_sent = Loop.none;
    }

tick_6 : Ticks as_it_is ReferencePut ReferenceTake state_5 state_6 (Ok (1, 0))
tick_6 = (
  refl,
  (
    aged_6,
    refl,
    Loop.more {u = at 0 0 aged_6} (Loop.more {u = at 0 0 aged_6} Loop.none (Loop.more {u = at 0 0 aged_6} Loop.none (AtPort.turn refl turn_6_0)))
        (Loop.more {u = at 0 0 aged_6} Loop.none (AtPort.turn refl turn_6_1)),
  ),
)

abbrev opened : State Air
opened = opening cable (replicate 8 [])

abbrev one_added : State Air
one_added = added 1 opened

abbrev two_added : State Air
two_added = added 2 one_added

abbrev one_attached : State Air
one_attached = attaching as_it_is 0 0 0 two_added

abbrev two_attached : State Air
two_attached = attaching as_it_is 1 0 1 one_attached

abbrev in_service : State Air
in_service = upped as_it_is 0 two_attached

nothing_waits_lem : (c e : ℕ) → waiting cable c e ≡ None
nothing_waits_lem zero zero = refl
nothing_waits_lem zero (suc zero) = refl
nothing_waits_lem zero (suc (suc e)) = refl
nothing_waits_lem (suc c) e = refl

pub worked : CableWorked
worked =
    record {
      start = opened;
      opened = record { quiet = nothing_waits_lem; clock = refl; routers = refl; service = refl; records = refl };
      calls = Stretch.then {u = state_5} {t = state_6} (Stretch.then {u = state_4} {t = state_5} (Stretch.then {u = state_3} {t = state_4} (Stretch.then {u = state_2} {t = state_3} (Stretch.then {u = state_1} {t = state_2} (Stretch.then {u = state_0} {t = state_1} (Stretch.then {u = in_service} {t = state_0} (Stretch.then {u = two_attached} {t = in_service} (Stretch.then {u = one_attached} {t = two_attached} (Stretch.then {u = two_added} {t = one_attached} (Stretch.then {u = one_added} {t = two_added} (Stretch.then {u = opened} {t = one_added} Stretch.empty (Called.adds 1 (Ok 0) (refl, refl, refl))) (Called.adds 2 (Ok 1) (refl, refl, refl))) (Called.attaches 0 0 0 (Ok 0) (refl, refl, refl))) (Called.attaches 1 0 1 (Ok 0) (refl, refl, refl))) (Called.ups 0 (Ok tt) (refl, refl, refl))) (Called.originates 0 0 [] (Ok tt) (refl, refl, refl))) (Called.ticks (Ok (0, 0)) tick_1)) (Called.ticks (Ok (0, 0)) tick_2)) (Called.ticks (Ok (0, 0)) tick_3)) (Called.ticks (Ok (0, 0)) tick_4)) (Called.ticks (Ok (1, 0)) tick_5)) (Called.ticks (Ok (1, 0)) tick_6);
    }
