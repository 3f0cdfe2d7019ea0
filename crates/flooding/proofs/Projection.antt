-- A tick of the whole network is, for each identifier, a tick of what is held of it.
use mathlib.Core.Path.{◌≡◌, sym, ◌∙◌, subst, fun_ext}
use mathlib.Core.Logic.{◌≢◌, inl, inr}
use mathlib.Core.Bool.{Bool}
use mathlib.Core.List.{List}
use Prim.Native.Nat.{ℕ}
use Rattle.flooding.specs.Copies.{Topology, Holdings, Mention, Held}
use Rattle.flooding.specs.Rules.{Kind, Put, Sends, Delivery, sender}
use Rattle.flooding.specs.CopyTicks.{Phase, not_due, sent, Turn, turn, Turns, done, then}
use Rattle.flooding.specs.Frames.{Saying, Frame, NeverMentions, silent_frame, MentionsOnce, in_first, in_later}
use Rattle.flooding.specs.AllIds.{Databases, of_id, Delivered, FramesPut, all_put, one_put, AllPhase, AllTurn, all_turn, AllTurns, all_done, all_then, Projects, Mentioned, PassedOver}
use native.Mathlib.Decide.{ℕ_discrete}

module _ (P : ℕ → Topology) (b : Bool) (i : ℕ) {r c : ℕ} {g : Kind} where
  -- what the other routers hold of an identifier that the frames never mention
  frames_never : {fs : List Frame} {s s' : Databases} → FramesPut P b r c g fs s s' → NeverMentions i fs → (x : ℕ) → x ≢ r → s' x i ≡ s x i
  frames_never (all_put k) n x o = k i x o
  frames_never (one_put {s = s} {m = m} k q) (silent_frame e n) x o =
      frames_never q n x o ∙ subst (λ (y : Saying). Delivered (P i) b r c g y x (s x i) (m x i)) e (k i x o)

  -- and of one that they mention once
  frames_once : {w : Mention} {fs : List Frame} {s s' : Databases} → FramesPut P b r c g fs s s' → MentionsOnce i w fs → (x : ℕ) → x ≢ r →
      Delivery (P i) b r c g w x (s x i) (s' x i)
  frames_once (all_put k) n x o = elim n [ ]
  frames_once {w} (one_put {s = s} {m = m} k q) (in_first e n) x o =
      subst (λ (y : Held). Delivery (P i) b r c g w x (s x i) y) (sym (frames_never q n x o))
      (subst (λ (y : Saying). Delivered (P i) b r c g y x (s x i) (m x i)) e (k i x o))
  frames_once {w} {s' = s'} (one_put {s = s} {m = m} k q) (in_later e n) x o =
      let z : m x i ≡ s x i = subst (λ (y : Saying). Delivered (P i) b r c g y x (s x i) (m x i)) e (k i x o) in
      subst (λ (y : Held). Delivery (P i) b r c g w x y (s' x i)) z (frames_once q n x o)

module _ (P : ℕ → Topology) (b : Bool) (i : ℕ) where
  mentioned_put : {t r c : ℕ} {g : Kind} {s s' : Databases} (p : AllPhase P b t r c g s s') → Mentioned (P i) t r c g i p.frames (s r i) (s' r i) →
      Put (P i) b r c g (of_id i s) (of_id i s')
  mentioned_put {t} {r} {c} {g} {s} {s'} p m = record {
    mention = m.mention;
    sender_attached = p.sender_attached i;
    delivery = λ x. elim (ℕ_discrete x r) [
      | yes e ↦ sender e (subst (λ (y : ℕ). Sends (P i) r c g m.mention (s y i) (s' y i)) (sym e) m.sends)
      | no e ↦ frames_once P b i p.puts m.once x e
    ];
  }

  passed_over_same : {t r c : ℕ} {g : Kind} {s s' : Databases} (p : AllPhase P b t r c g s s') → PassedOver (P i) t r c g i p.frames (s r i) (s' r i) →
      of_id i s' ≡ of_id i s
  passed_over_same {t} {r} {c} {g} {s} {s'} p m = fun_ext (λ x. elim (ℕ_discrete x r) [
    | yes e ↦ subst (λ (y : ℕ). s' y i ≡ s y i) (sym e) m.kept
    | no e ↦ frames_never P b i p.puts m.never x e
  ])

  all_phase_phase : {t r c : ℕ} {g : Kind} {s s' : Databases} → AllPhase P b t r c g s s' → Phase (P i) b t r c g (of_id i s) (of_id i s')
  all_phase_phase {t} {r} {c} {g} {s} {s'} p = elim (p.each i) [
    | inl m ↦ sent m.due (mentioned_put p m)
    | inr m ↦ subst (λ (z : Holdings). Phase (P i) b t r c g (of_id i s) z) (sym (passed_over_same p m)) (not_due m.not_due)
  ]

  all_turn_turn : {t r c : ℕ} {s s' : Databases} → AllTurn P b t r c s s' → Turn (P i) b t r c (of_id i s) (of_id i s')
  all_turn_turn (all_turn x y z) = turn (all_phase_phase x) (all_phase_phase y) (all_phase_phase z)

  all_turns_turns : {t : ℕ} {l : List (ℕ × ℕ)} {s s' : Databases} → AllTurns P b t l s s' → Turns (P i) b t l (of_id i s) (of_id i s')
  all_turns_turns all_done = done
  all_turns_turns (all_then x y) = then (all_turn_turn x) (all_turns_turns y)

pub projects : Projects
projects P P' clock S S' missed s s' k i = record {
  owner = k.owner i;
  aged = of_id i k.aged;
  ages = k.ages i;
  stays_active = k.stays_active i;
  turns_inactive = k.turns_inactive i;
  reissued = of_id i k.reissued;
  reissue = k.reissue i;
  order = k.order;
  every = k.every i;
  turns = all_turns_turns P' missed i k.turns;
}
