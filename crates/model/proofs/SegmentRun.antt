-- The run over a segment, step by step: every state is written out, and every step computes to it.
use Rattle.std.proofs.Common.{◌≡◌, ℕ, zero, suc, Bool, true, false, ◌≢◌, [], ◌∷◌, get_or, replicate, Some, None, Ok, refl, arith, lit<, lit≤}
use Rattle.plant.specs.declared.Kind.TheVariants.{Broadcast}
use Rattle.plant.specs.Air.{Air, Frame, waiting}
use Rattle.plant.specs.Calls.{none}
use Rattle.model.specs.Flags.{only, no_flags}
use Rattle.model.specs.State.{State, opening, with_plant}
use Rattle.frame.specs.Messages.{CsnpPdu}
use Rattle.frame.specs.Reading.{last_id}
use Rattle.model.specs.Sending.{csnp_frame}
use Rattle.model.specs.Sharing.{Spans}
use Rattle.model.specs.Calls.{added, attaching, upped}
use Rattle.model.specs.Loop.{Loop}
use Rattle.model.specs.Turns.{Progress, TakesAt, Sends, PortTurn, AtPort, lsp_frames}
use Rattle.model.specs.Tick.{Ticks}
use Rattle.model.specs.Run.{Called, Stretch}
use Rattle.model.specs.Reference.{as_it_is, put_into, OthersOnly, ReferencePut, ReferenceTake}
use Rattle.model.specs.WorkedCable.{copy}
use Rattle.model.specs.WorkedSegment.{segment, segment_state, SegmentWorked}

abbrev at : ℕ → ℕ → State Air → Progress Air
at f m s = record { state = s; frames = f; missed = m }

one_not_zero : ◌≢◌ {A = ℕ} 1 0
one_not_zero e = omega arith

two_not_zero : ◌≢◌ {A = ℕ} 2 0
two_not_zero e = omega arith

zero_not_two : ◌≢◌ {A = ℕ} 0 2
zero_not_two e = omega arith

one_not_two : ◌≢◌ {A = ℕ} 1 2
one_not_two e = omega arith

none_missed : (a : Air) (c e : ℕ) → OthersOnly a c e none
none_missed a c e k h = let z : ◌≡◌ {A = ℕ} 0 1 = cc in absurd (omega arith)

-- end 2 alone
abbrev at_end_2 : ℕ → Bool
at_end_2 zero = false
at_end_2 (suc zero) = false
at_end_2 (suc (suc zero)) = true
at_end_2 (suc (suc (suc k))) = false

end_2_missed : OthersOnly segment 0 0 at_end_2
end_2_missed zero h = let z : ◌≡◌ {A = ℕ} 0 1 = cc in absurd (omega arith)
end_2_missed (suc zero) h = let z : ◌≡◌ {A = ℕ} 0 1 = cc in absurd (omega arith)
end_2_missed (suc (suc zero)) h = (lit< tt, two_not_zero)
end_2_missed (suc (suc (suc k))) h = let z : ◌≡◌ {A = ℕ} 0 1 = cc in absurd (omega arith)

abbrev state_0 : State Air
state_0 = segment_state 0 (copy 1200 (only 0) no_flags ∷ []) [] []

abbrev state_1 : State Air
state_1 = segment_state 1 (copy 1199 no_flags no_flags ∷ []) (copy 1199 no_flags no_flags ∷ []) []

abbrev state_2 : State Air
state_2 = segment_state 2 (copy 1198 no_flags no_flags ∷ []) (copy 1198 no_flags no_flags ∷ []) []

abbrev state_3 : State Air
state_3 = segment_state 3 (copy 1197 no_flags no_flags ∷ []) (copy 1197 no_flags no_flags ∷ []) []

abbrev state_4 : State Air
state_4 = segment_state 4 (copy 1196 no_flags no_flags ∷ []) (copy 1196 no_flags no_flags ∷ []) []

abbrev state_5 : State Air
state_5 = segment_state 5 (copy 1195 no_flags no_flags ∷ []) (copy 1195 no_flags no_flags ∷ []) []

abbrev state_6 : State Air
state_6 = segment_state 6 (copy 1194 no_flags no_flags ∷ []) (copy 1194 no_flags no_flags ∷ []) []

abbrev state_7 : State Air
state_7 = segment_state 7 (copy 1193 no_flags no_flags ∷ []) (copy 1193 no_flags no_flags ∷ []) []

abbrev state_8 : State Air
state_8 = segment_state 8 (copy 1192 no_flags no_flags ∷ []) (copy 1192 no_flags no_flags ∷ []) []

abbrev state_9 : State Air
state_9 = segment_state 9 (copy 1191 no_flags no_flags ∷ []) (copy 1191 no_flags no_flags ∷ []) []

abbrev state_10 : State Air
state_10 = segment_state 10 (copy 1190 (only 0) no_flags ∷ []) (copy 1190 (only 0) no_flags ∷ []) []

abbrev state_11 : State Air
state_11 = segment_state 11 (copy 1189 no_flags no_flags ∷ []) (copy 1189 no_flags no_flags ∷ []) (copy 1189 no_flags no_flags ∷ [])

-- the first tick before its turns, its LSP, and the state after that was heard at end 1
abbrev aged_1 : State Air
aged_1 = segment_state 1 (copy 1199 (only 0) no_flags ∷ []) [] []

abbrev lsp_1 : Frame
lsp_1 = get_or (lsp_frames as_it_is 0 0 aged_1) 0 []

abbrev heard_1 : State Air
heard_1 = segment_state 1 (copy 1199 (only 0) no_flags ∷ []) (copy 1199 no_flags no_flags ∷ []) []

-- the tenth before its turns, its CSNP, and the state after that was heard at end 0
abbrev aged_10 : State Air
aged_10 = segment_state 10 (copy 1190 no_flags no_flags ∷ []) (copy 1190 no_flags no_flags ∷ []) []

abbrev csnp_10 : CsnpPdu
csnp_10 = record { source = 768; start = 0; end = last_id; entries = [] }

abbrev heard_10 : State Air
heard_10 = segment_state 10 (copy 1190 (only 0) no_flags ∷ []) (copy 1190 no_flags no_flags ∷ []) []

-- the eleventh before its turns, its LSP, and the states after that was heard at end 1, and at end 2
abbrev aged_11 : State Air
aged_11 = segment_state 11 (copy 1189 (only 0) no_flags ∷ []) (copy 1189 (only 0) no_flags ∷ []) []

abbrev lsp_11 : Frame
lsp_11 = get_or (lsp_frames as_it_is 0 0 aged_11) 0 []

abbrev same_11 : State Air
same_11 = segment_state 11 (copy 1189 (only 0) no_flags ∷ []) (copy 1189 no_flags no_flags ∷ []) []

abbrev heard_11 : State Air
heard_11 = segment_state 11 (copy 1189 (only 0) no_flags ∷ []) (copy 1189 no_flags no_flags ∷ []) (copy 1189 no_flags no_flags ∷ [])

lsp_1_sent : Sends as_it_is ReferencePut ReferenceTake (record { circuit = 0; end = 0 }) lsp_1 (at 0 0 aged_1) (at 1 1 heard_1)
lsp_1_sent =
    Sends.sent {q = (put_into segment 0 0 lsp_1 at_end_2)} {n = 1} {s = with_plant (put_into segment 0 0 lsp_1 at_end_2) aged_1} {t = heard_1}
    (record { missed = at_end_2; happened = (refl, refl, end_2_missed); counted = refl })
    refl
    (Loop.more {u = (with_plant (record { kind = Broadcast; ends = None ∷ None ∷ None ∷ [] } ∷ []) heard_1)} (Loop.more {u = (with_plant (put_into segment 0 0 lsp_1 at_end_2) aged_1)} (Loop.more {u = (with_plant (put_into segment 0 0 lsp_1 at_end_2) aged_1)} Loop.none (TakesAt.own refl)) (TakesAt.other {q = (record { kind = Broadcast; ends = None ∷ None ∷ None ∷ [] } ∷ [])} {f = (Some lsp_1)} one_not_zero (lit< tt, refl, refl) refl)) (TakesAt.other {q = (record { kind = Broadcast; ends = None ∷ None ∷ None ∷ [] } ∷ [])} {f = None} two_not_zero (lit< tt, refl, refl) refl))
    refl

turn_1_0 : PortTurn as_it_is ReferencePut ReferenceTake 0 0 (at 0 0 aged_1) (at 1 1 state_1)
turn_1_0 =
    record {
      after_lsps = at 1 1 heard_1;
      after_psnps = at 1 1 state_1;
      csnps = [];
      lsps_sent = Loop.more {u = at 0 0 aged_1} Loop.none lsp_1_sent;
      psnps_sent = Loop.none;
      csnps_due = refl;
      csnps_sent = Loop.none;
    }

turn_1_1 : PortTurn as_it_is ReferencePut ReferenceTake 1 0 (at 1 1 state_1) (at 1 1 state_1)
turn_1_1 =
    record {
      after_lsps = at 1 1 state_1;
      after_psnps = at 1 1 state_1;
      csnps = [];
      lsps_sent = Loop.none;
      psnps_sent = Loop.none;
      csnps_due = refl;
      csnps_sent = Loop.none;
    }

turn_1_2 : PortTurn as_it_is ReferencePut ReferenceTake 2 0 (at 1 1 state_1) (at 1 1 state_1)
turn_1_2 =
    record {
      after_lsps = at 1 1 state_1;
      after_psnps = at 1 1 state_1;
      csnps = [];
      lsps_sent = Loop.none;
      psnps_sent = Loop.none;
      csnps_due = refl;
      csnps_sent = Loop.none;
    }

tick_1 : Ticks as_it_is ReferencePut ReferenceTake state_0 state_1 (Ok (1, 1))
tick_1 = (
  refl,
  (
    aged_1,
    refl,
    Loop.more {u = at 1 1 state_1} (Loop.more {u = at 1 1 state_1} (Loop.more {u = at 0 0 aged_1} Loop.none (Loop.more {u = at 0 0 aged_1} Loop.none (AtPort.turn refl turn_1_0))) (Loop.more {u = at 1 1 state_1} Loop.none (AtPort.turn refl turn_1_1))) (Loop.more {u = at 1 1 state_1} Loop.none (AtPort.turn refl turn_1_2)),
  ),
)

turn_2_0 : PortTurn as_it_is ReferencePut ReferenceTake 0 0 (at 0 0 state_2) (at 0 0 state_2)
turn_2_0 =
    record {
      after_lsps = at 0 0 state_2;
      after_psnps = at 0 0 state_2;
      csnps = [];
      lsps_sent = Loop.none;
      psnps_sent = Loop.none;
      csnps_due = refl;
      csnps_sent = Loop.none;
    }

turn_2_1 : PortTurn as_it_is ReferencePut ReferenceTake 1 0 (at 0 0 state_2) (at 0 0 state_2)
turn_2_1 =
    record {
      after_lsps = at 0 0 state_2;
      after_psnps = at 0 0 state_2;
      csnps = [];
      lsps_sent = Loop.none;
      psnps_sent = Loop.none;
      csnps_due = refl;
      csnps_sent = Loop.none;
    }

turn_2_2 : PortTurn as_it_is ReferencePut ReferenceTake 2 0 (at 0 0 state_2) (at 0 0 state_2)
turn_2_2 =
    record {
      after_lsps = at 0 0 state_2;
      after_psnps = at 0 0 state_2;
      csnps = [];
      lsps_sent = Loop.none;
      psnps_sent = Loop.none;
      csnps_due = refl;
      csnps_sent = Loop.none;
    }

tick_2 : Ticks as_it_is ReferencePut ReferenceTake state_1 state_2 (Ok (0, 0))
tick_2 = (
  refl,
  (
    state_2,
    refl,
    Loop.more {u = at 0 0 state_2} (Loop.more {u = at 0 0 state_2} (Loop.more {u = at 0 0 state_2} Loop.none (Loop.more {u = at 0 0 state_2} Loop.none (AtPort.turn refl turn_2_0))) (Loop.more {u = at 0 0 state_2} Loop.none (AtPort.turn refl turn_2_1))) (Loop.more {u = at 0 0 state_2} Loop.none (AtPort.turn refl turn_2_2)),
  ),
)

turn_3_0 : PortTurn as_it_is ReferencePut ReferenceTake 0 0 (at 0 0 state_3) (at 0 0 state_3)
turn_3_0 =
    record {
      after_lsps = at 0 0 state_3;
      after_psnps = at 0 0 state_3;
      csnps = [];
      lsps_sent = Loop.none;
      psnps_sent = Loop.none;
      csnps_due = refl;
      csnps_sent = Loop.none;
    }

turn_3_1 : PortTurn as_it_is ReferencePut ReferenceTake 1 0 (at 0 0 state_3) (at 0 0 state_3)
turn_3_1 =
    record {
      after_lsps = at 0 0 state_3;
      after_psnps = at 0 0 state_3;
      csnps = [];
      lsps_sent = Loop.none;
      psnps_sent = Loop.none;
      csnps_due = refl;
      csnps_sent = Loop.none;
    }

turn_3_2 : PortTurn as_it_is ReferencePut ReferenceTake 2 0 (at 0 0 state_3) (at 0 0 state_3)
turn_3_2 =
    record {
      after_lsps = at 0 0 state_3;
      after_psnps = at 0 0 state_3;
      csnps = [];
      lsps_sent = Loop.none;
      psnps_sent = Loop.none;
      csnps_due = refl;
      csnps_sent = Loop.none;
    }

tick_3 : Ticks as_it_is ReferencePut ReferenceTake state_2 state_3 (Ok (0, 0))
tick_3 = (
  refl,
  (
    state_3,
    refl,
    Loop.more {u = at 0 0 state_3} (Loop.more {u = at 0 0 state_3} (Loop.more {u = at 0 0 state_3} Loop.none (Loop.more {u = at 0 0 state_3} Loop.none (AtPort.turn refl turn_3_0))) (Loop.more {u = at 0 0 state_3} Loop.none (AtPort.turn refl turn_3_1))) (Loop.more {u = at 0 0 state_3} Loop.none (AtPort.turn refl turn_3_2)),
  ),
)

turn_4_0 : PortTurn as_it_is ReferencePut ReferenceTake 0 0 (at 0 0 state_4) (at 0 0 state_4)
turn_4_0 =
    record {
      after_lsps = at 0 0 state_4;
      after_psnps = at 0 0 state_4;
      csnps = [];
      lsps_sent = Loop.none;
      psnps_sent = Loop.none;
      csnps_due = refl;
      csnps_sent = Loop.none;
    }

turn_4_1 : PortTurn as_it_is ReferencePut ReferenceTake 1 0 (at 0 0 state_4) (at 0 0 state_4)
turn_4_1 =
    record {
      after_lsps = at 0 0 state_4;
      after_psnps = at 0 0 state_4;
      csnps = [];
      lsps_sent = Loop.none;
      psnps_sent = Loop.none;
      csnps_due = refl;
      csnps_sent = Loop.none;
    }

turn_4_2 : PortTurn as_it_is ReferencePut ReferenceTake 2 0 (at 0 0 state_4) (at 0 0 state_4)
turn_4_2 =
    record {
      after_lsps = at 0 0 state_4;
      after_psnps = at 0 0 state_4;
      csnps = [];
      lsps_sent = Loop.none;
      psnps_sent = Loop.none;
      csnps_due = refl;
      csnps_sent = Loop.none;
    }

tick_4 : Ticks as_it_is ReferencePut ReferenceTake state_3 state_4 (Ok (0, 0))
tick_4 = (
  refl,
  (
    state_4,
    refl,
    Loop.more {u = at 0 0 state_4} (Loop.more {u = at 0 0 state_4} (Loop.more {u = at 0 0 state_4} Loop.none (Loop.more {u = at 0 0 state_4} Loop.none (AtPort.turn refl turn_4_0))) (Loop.more {u = at 0 0 state_4} Loop.none (AtPort.turn refl turn_4_1))) (Loop.more {u = at 0 0 state_4} Loop.none (AtPort.turn refl turn_4_2)),
  ),
)

turn_5_0 : PortTurn as_it_is ReferencePut ReferenceTake 0 0 (at 0 0 state_5) (at 0 0 state_5)
turn_5_0 =
    record {
      after_lsps = at 0 0 state_5;
      after_psnps = at 0 0 state_5;
      csnps = [];
      lsps_sent = Loop.none;
      psnps_sent = Loop.none;
      csnps_due = refl;
      csnps_sent = Loop.none;
    }

turn_5_1 : PortTurn as_it_is ReferencePut ReferenceTake 1 0 (at 0 0 state_5) (at 0 0 state_5)
turn_5_1 =
    record {
      after_lsps = at 0 0 state_5;
      after_psnps = at 0 0 state_5;
      csnps = [];
      lsps_sent = Loop.none;
      psnps_sent = Loop.none;
      csnps_due = refl;
      csnps_sent = Loop.none;
    }

turn_5_2 : PortTurn as_it_is ReferencePut ReferenceTake 2 0 (at 0 0 state_5) (at 0 0 state_5)
turn_5_2 =
    record {
      after_lsps = at 0 0 state_5;
      after_psnps = at 0 0 state_5;
      csnps = [];
      lsps_sent = Loop.none;
      psnps_sent = Loop.none;
      csnps_due = refl;
      csnps_sent = Loop.none;
    }

tick_5 : Ticks as_it_is ReferencePut ReferenceTake state_4 state_5 (Ok (0, 0))
tick_5 = (
  refl,
  (
    state_5,
    refl,
    Loop.more {u = at 0 0 state_5} (Loop.more {u = at 0 0 state_5} (Loop.more {u = at 0 0 state_5} Loop.none (Loop.more {u = at 0 0 state_5} Loop.none (AtPort.turn refl turn_5_0))) (Loop.more {u = at 0 0 state_5} Loop.none (AtPort.turn refl turn_5_1))) (Loop.more {u = at 0 0 state_5} Loop.none (AtPort.turn refl turn_5_2)),
  ),
)

turn_6_0 : PortTurn as_it_is ReferencePut ReferenceTake 0 0 (at 0 0 state_6) (at 0 0 state_6)
turn_6_0 =
    record {
      after_lsps = at 0 0 state_6;
      after_psnps = at 0 0 state_6;
      csnps = [];
      lsps_sent = Loop.none;
      psnps_sent = Loop.none;
      csnps_due = refl;
      csnps_sent = Loop.none;
    }

turn_6_1 : PortTurn as_it_is ReferencePut ReferenceTake 1 0 (at 0 0 state_6) (at 0 0 state_6)
turn_6_1 =
    record {
      after_lsps = at 0 0 state_6;
      after_psnps = at 0 0 state_6;
      csnps = [];
      lsps_sent = Loop.none;
      psnps_sent = Loop.none;
      csnps_due = refl;
      csnps_sent = Loop.none;
    }

turn_6_2 : PortTurn as_it_is ReferencePut ReferenceTake 2 0 (at 0 0 state_6) (at 0 0 state_6)
turn_6_2 =
    record {
      after_lsps = at 0 0 state_6;
      after_psnps = at 0 0 state_6;
      csnps = [];
      lsps_sent = Loop.none;
      psnps_sent = Loop.none;
      csnps_due = refl;
      csnps_sent = Loop.none;
    }

tick_6 : Ticks as_it_is ReferencePut ReferenceTake state_5 state_6 (Ok (0, 0))
tick_6 = (
  refl,
  (
    state_6,
    refl,
    Loop.more {u = at 0 0 state_6} (Loop.more {u = at 0 0 state_6} (Loop.more {u = at 0 0 state_6} Loop.none (Loop.more {u = at 0 0 state_6} Loop.none (AtPort.turn refl turn_6_0))) (Loop.more {u = at 0 0 state_6} Loop.none (AtPort.turn refl turn_6_1))) (Loop.more {u = at 0 0 state_6} Loop.none (AtPort.turn refl turn_6_2)),
  ),
)

turn_7_0 : PortTurn as_it_is ReferencePut ReferenceTake 0 0 (at 0 0 state_7) (at 0 0 state_7)
turn_7_0 =
    record {
      after_lsps = at 0 0 state_7;
      after_psnps = at 0 0 state_7;
      csnps = [];
      lsps_sent = Loop.none;
      psnps_sent = Loop.none;
      csnps_due = refl;
      csnps_sent = Loop.none;
    }

turn_7_1 : PortTurn as_it_is ReferencePut ReferenceTake 1 0 (at 0 0 state_7) (at 0 0 state_7)
turn_7_1 =
    record {
      after_lsps = at 0 0 state_7;
      after_psnps = at 0 0 state_7;
      csnps = [];
      lsps_sent = Loop.none;
      psnps_sent = Loop.none;
      csnps_due = refl;
      csnps_sent = Loop.none;
    }

turn_7_2 : PortTurn as_it_is ReferencePut ReferenceTake 2 0 (at 0 0 state_7) (at 0 0 state_7)
turn_7_2 =
    record {
      after_lsps = at 0 0 state_7;
      after_psnps = at 0 0 state_7;
      csnps = [];
      lsps_sent = Loop.none;
      psnps_sent = Loop.none;
      csnps_due = refl;
      csnps_sent = Loop.none;
    }

tick_7 : Ticks as_it_is ReferencePut ReferenceTake state_6 state_7 (Ok (0, 0))
tick_7 = (
  refl,
  (
    state_7,
    refl,
    Loop.more {u = at 0 0 state_7} (Loop.more {u = at 0 0 state_7} (Loop.more {u = at 0 0 state_7} Loop.none (Loop.more {u = at 0 0 state_7} Loop.none (AtPort.turn refl turn_7_0))) (Loop.more {u = at 0 0 state_7} Loop.none (AtPort.turn refl turn_7_1))) (Loop.more {u = at 0 0 state_7} Loop.none (AtPort.turn refl turn_7_2)),
  ),
)

turn_8_0 : PortTurn as_it_is ReferencePut ReferenceTake 0 0 (at 0 0 state_8) (at 0 0 state_8)
turn_8_0 =
    record {
      after_lsps = at 0 0 state_8;
      after_psnps = at 0 0 state_8;
      csnps = [];
      lsps_sent = Loop.none;
      psnps_sent = Loop.none;
      csnps_due = refl;
      csnps_sent = Loop.none;
    }

turn_8_1 : PortTurn as_it_is ReferencePut ReferenceTake 1 0 (at 0 0 state_8) (at 0 0 state_8)
turn_8_1 =
    record {
      after_lsps = at 0 0 state_8;
      after_psnps = at 0 0 state_8;
      csnps = [];
      lsps_sent = Loop.none;
      psnps_sent = Loop.none;
      csnps_due = refl;
      csnps_sent = Loop.none;
    }

turn_8_2 : PortTurn as_it_is ReferencePut ReferenceTake 2 0 (at 0 0 state_8) (at 0 0 state_8)
turn_8_2 =
    record {
      after_lsps = at 0 0 state_8;
      after_psnps = at 0 0 state_8;
      csnps = [];
      lsps_sent = Loop.none;
      psnps_sent = Loop.none;
      csnps_due = refl;
      csnps_sent = Loop.none;
    }

tick_8 : Ticks as_it_is ReferencePut ReferenceTake state_7 state_8 (Ok (0, 0))
tick_8 = (
  refl,
  (
    state_8,
    refl,
    Loop.more {u = at 0 0 state_8} (Loop.more {u = at 0 0 state_8} (Loop.more {u = at 0 0 state_8} Loop.none (Loop.more {u = at 0 0 state_8} Loop.none (AtPort.turn refl turn_8_0))) (Loop.more {u = at 0 0 state_8} Loop.none (AtPort.turn refl turn_8_1))) (Loop.more {u = at 0 0 state_8} Loop.none (AtPort.turn refl turn_8_2)),
  ),
)

turn_9_0 : PortTurn as_it_is ReferencePut ReferenceTake 0 0 (at 0 0 state_9) (at 0 0 state_9)
turn_9_0 =
    record {
      after_lsps = at 0 0 state_9;
      after_psnps = at 0 0 state_9;
      csnps = [];
      lsps_sent = Loop.none;
      psnps_sent = Loop.none;
      csnps_due = refl;
      csnps_sent = Loop.none;
    }

turn_9_1 : PortTurn as_it_is ReferencePut ReferenceTake 1 0 (at 0 0 state_9) (at 0 0 state_9)
turn_9_1 =
    record {
      after_lsps = at 0 0 state_9;
      after_psnps = at 0 0 state_9;
      csnps = [];
      lsps_sent = Loop.none;
      psnps_sent = Loop.none;
      csnps_due = refl;
      csnps_sent = Loop.none;
    }

turn_9_2 : PortTurn as_it_is ReferencePut ReferenceTake 2 0 (at 0 0 state_9) (at 0 0 state_9)
turn_9_2 =
    record {
      after_lsps = at 0 0 state_9;
      after_psnps = at 0 0 state_9;
      csnps = [];
      lsps_sent = Loop.none;
      psnps_sent = Loop.none;
      csnps_due = refl;
      csnps_sent = Loop.none;
    }

tick_9 : Ticks as_it_is ReferencePut ReferenceTake state_8 state_9 (Ok (0, 0))
tick_9 = (
  refl,
  (
    state_9,
    refl,
    Loop.more {u = at 0 0 state_9} (Loop.more {u = at 0 0 state_9} (Loop.more {u = at 0 0 state_9} Loop.none (Loop.more {u = at 0 0 state_9} Loop.none (AtPort.turn refl turn_9_0))) (Loop.more {u = at 0 0 state_9} Loop.none (AtPort.turn refl turn_9_1))) (Loop.more {u = at 0 0 state_9} Loop.none (AtPort.turn refl turn_9_2)),
  ),
)

abbrev csnp_frame_10 : Frame
csnp_frame_10 = csnp_frame csnp_10

turn_10_0 : PortTurn as_it_is ReferencePut ReferenceTake 0 0 (at 0 0 aged_10) (at 0 0 aged_10)
turn_10_0 =
    record {
      after_lsps = at 0 0 aged_10;
      after_psnps = at 0 0 aged_10;
      csnps = [];
      lsps_sent = Loop.none;
      psnps_sent = Loop.none;
      csnps_due = refl;
      csnps_sent = Loop.none;
    }

turn_10_1 : PortTurn as_it_is ReferencePut ReferenceTake 1 0 (at 0 0 aged_10) (at 0 0 aged_10)
turn_10_1 =
    record {
      after_lsps = at 0 0 aged_10;
      after_psnps = at 0 0 aged_10;
      csnps = [];
      lsps_sent = Loop.none;
      psnps_sent = Loop.none;
      csnps_due = refl;
      csnps_sent = Loop.none;
    }

csnp_10_sent : Sends as_it_is ReferencePut ReferenceTake (record { circuit = 0; end = 2 }) csnp_frame_10 (at 0 0 aged_10) (at 1 0 state_10)
csnp_10_sent =
    Sends.sent {q = (put_into segment 0 2 csnp_frame_10 none)} {n = 0} {s = with_plant (put_into segment 0 2 csnp_frame_10 none) aged_10} {t = state_10}
    (record { missed = none; happened = (refl, refl, none_missed segment 0 2); counted = refl })
    refl
    (Loop.more {u = (with_plant (record { kind = Broadcast; ends = None ∷ None ∷ None ∷ [] } ∷ []) state_10)} (Loop.more {u = (with_plant (record { kind = Broadcast; ends = None ∷ Some csnp_frame_10 ∷ None ∷ [] } ∷ []) heard_10)} (Loop.more {u = (with_plant (put_into segment 0 2 csnp_frame_10 none) aged_10)} Loop.none (TakesAt.other {q = (record { kind = Broadcast; ends = None ∷ Some csnp_frame_10 ∷ None ∷ [] } ∷ [])} {f = (Some csnp_frame_10)} zero_not_two (lit< tt, refl, refl) refl)) (TakesAt.other {q = (record { kind = Broadcast; ends = None ∷ None ∷ None ∷ [] } ∷ [])} {f = (Some csnp_frame_10)} one_not_two (lit< tt, refl, refl) refl)) (TakesAt.own refl))
    refl

turn_10_2 : PortTurn as_it_is ReferencePut ReferenceTake 2 0 (at 0 0 aged_10) (at 1 0 state_10)
turn_10_2 =
    record {
      after_lsps = at 0 0 aged_10;
      after_psnps = at 0 0 aged_10;
      csnps = csnp_10 ∷ [];
      lsps_sent = Loop.none;
      psnps_sent = Loop.none;
      csnps_due =
          record {
            spans = Spans.last refl refl;
            lists = (record { source = refl; range = lit≤ tt; entries = refl; room = lit≤ tt }, tt);
            few = lit≤ tt;
          };
      csnps_sent = Loop.more {u = at 0 0 aged_10} Loop.none csnp_10_sent;
    }

tick_10 : Ticks as_it_is ReferencePut ReferenceTake state_9 state_10 (Ok (1, 0))
tick_10 = (
  refl,
  (
    aged_10,
    refl,
    Loop.more {u = at 0 0 aged_10} (Loop.more {u = at 0 0 aged_10} (Loop.more {u = at 0 0 aged_10} Loop.none (Loop.more {u = at 0 0 aged_10} Loop.none (AtPort.turn refl turn_10_0))) (Loop.more {u = at 0 0 aged_10} Loop.none (AtPort.turn refl turn_10_1))) (Loop.more {u = at 0 0 aged_10} Loop.none (AtPort.turn refl turn_10_2)),
  ),
)

lsp_11_sent : Sends as_it_is ReferencePut ReferenceTake (record { circuit = 0; end = 0 }) lsp_11 (at 0 0 aged_11) (at 1 0 heard_11)
lsp_11_sent =
    Sends.sent {q = (put_into segment 0 0 lsp_11 none)} {n = 0} {s = with_plant (put_into segment 0 0 lsp_11 none) aged_11} {t = heard_11}
    (record { missed = none; happened = (refl, refl, none_missed segment 0 0); counted = refl })
    refl
    (Loop.more {u = (with_plant (record { kind = Broadcast; ends = None ∷ None ∷ Some lsp_11 ∷ [] } ∷ []) same_11)} (Loop.more {u = (with_plant (put_into segment 0 0 lsp_11 none) aged_11)} (Loop.more {u = (with_plant (put_into segment 0 0 lsp_11 none) aged_11)} Loop.none (TakesAt.own refl)) (TakesAt.other {q = (record { kind = Broadcast; ends = None ∷ None ∷ Some lsp_11 ∷ [] } ∷ [])} {f = (Some lsp_11)} one_not_zero (lit< tt, refl, refl) refl)) (TakesAt.other {q = (record { kind = Broadcast; ends = None ∷ None ∷ None ∷ [] } ∷ [])} {f = (Some lsp_11)} two_not_zero (lit< tt, refl, refl) refl))
    refl

turn_11_0 : PortTurn as_it_is ReferencePut ReferenceTake 0 0 (at 0 0 aged_11) (at 1 0 state_11)
turn_11_0 =
    record {
      after_lsps = at 1 0 heard_11;
      after_psnps = at 1 0 state_11;
      csnps = [];
      lsps_sent = Loop.more {u = at 0 0 aged_11} Loop.none lsp_11_sent;
      psnps_sent = Loop.none;
      csnps_due = refl;
      csnps_sent = Loop.none;
    }

turn_11_1 : PortTurn as_it_is ReferencePut ReferenceTake 1 0 (at 1 0 state_11) (at 1 0 state_11)
turn_11_1 =
    record {
      after_lsps = at 1 0 state_11;
      after_psnps = at 1 0 state_11;
      csnps = [];
      lsps_sent = Loop.none;
      psnps_sent = Loop.none;
      csnps_due = refl;
      csnps_sent = Loop.none;
    }

turn_11_2 : PortTurn as_it_is ReferencePut ReferenceTake 2 0 (at 1 0 state_11) (at 1 0 state_11)
turn_11_2 =
    record {
      after_lsps = at 1 0 state_11;
      after_psnps = at 1 0 state_11;
      csnps = [];
      lsps_sent = Loop.none;
      psnps_sent = Loop.none;
      csnps_due = refl;
      csnps_sent = Loop.none;
    }

tick_11 : Ticks as_it_is ReferencePut ReferenceTake state_10 state_11 (Ok (1, 0))
tick_11 = (
  refl,
  (
    aged_11,
    refl,
    Loop.more {u = at 1 0 state_11} (Loop.more {u = at 1 0 state_11} (Loop.more {u = at 0 0 aged_11} Loop.none (Loop.more {u = at 0 0 aged_11} Loop.none (AtPort.turn refl turn_11_0))) (Loop.more {u = at 1 0 state_11} Loop.none (AtPort.turn refl turn_11_1))) (Loop.more {u = at 1 0 state_11} Loop.none (AtPort.turn refl turn_11_2)),
  ),
)

abbrev opened : State Air
opened = opening segment (replicate 8 [])

abbrev added_1 : State Air
added_1 = added 1 opened

abbrev added_2 : State Air
added_2 = added 2 added_1

abbrev added_3 : State Air
added_3 = added 3 added_2

abbrev attached_0 : State Air
attached_0 = attaching as_it_is 0 0 0 added_3

abbrev attached_1 : State Air
attached_1 = attaching as_it_is 1 0 1 attached_0

abbrev attached_2 : State Air
attached_2 = attaching as_it_is 2 0 2 attached_1

abbrev in_service : State Air
in_service = upped as_it_is 0 attached_2

nothing_waits_lem : (c e : ℕ) → waiting segment c e ≡ None
nothing_waits_lem zero zero = refl
nothing_waits_lem zero (suc zero) = refl
nothing_waits_lem zero (suc (suc zero)) = refl
nothing_waits_lem zero (suc (suc (suc e))) = refl
nothing_waits_lem (suc c) e = refl

pub worked : SegmentWorked
worked =
    record {
      start = opened;
      opened = record { quiet = nothing_waits_lem; clock = refl; routers = refl; service = refl; records = refl };
      calls = Stretch.then {u = state_10} {t = state_11} (Stretch.then {u = state_9} {t = state_10} (Stretch.then {u = state_8} {t = state_9} (Stretch.then {u = state_7} {t = state_8} (Stretch.then {u = state_6} {t = state_7} (Stretch.then {u = state_5} {t = state_6} (Stretch.then {u = state_4} {t = state_5} (Stretch.then {u = state_3} {t = state_4} (Stretch.then {u = state_2} {t = state_3} (Stretch.then {u = state_1} {t = state_2} (Stretch.then {u = state_0} {t = state_1} (Stretch.then {u = in_service} {t = state_0} (Stretch.then {u = attached_2} {t = in_service} (Stretch.then {u = attached_1} {t = attached_2} (Stretch.then {u = attached_0} {t = attached_1} (Stretch.then {u = added_3} {t = attached_0} (Stretch.then {u = added_2} {t = added_3} (Stretch.then {u = added_1} {t = added_2} (Stretch.then {u = opened} {t = added_1} Stretch.empty (Called.adds 1 (Ok 0) (refl, refl, refl))) (Called.adds 2 (Ok 1) (refl, refl, refl))) (Called.adds 3 (Ok 2) (refl, refl, refl))) (Called.attaches 0 0 0 (Ok 0) (refl, refl, refl))) (Called.attaches 1 0 1 (Ok 0) (refl, refl, refl))) (Called.attaches 2 0 2 (Ok 0) (refl, refl, refl))) (Called.ups 0 (Ok tt) (refl, refl, refl))) (Called.originates 0 0 [] (Ok tt) (refl, refl, refl))) (Called.ticks (Ok (1, 1)) tick_1)) (Called.ticks (Ok (0, 0)) tick_2)) (Called.ticks (Ok (0, 0)) tick_3)) (Called.ticks (Ok (0, 0)) tick_4)) (Called.ticks (Ok (0, 0)) tick_5)) (Called.ticks (Ok (0, 0)) tick_6)) (Called.ticks (Ok (0, 0)) tick_7)) (Called.ticks (Ok (0, 0)) tick_8)) (Called.ticks (Ok (0, 0)) tick_9)) (Called.ticks (Ok (1, 0)) tick_10)) (Called.ticks (Ok (1, 0)) tick_11);
    }
