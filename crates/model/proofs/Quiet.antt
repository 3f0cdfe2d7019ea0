-- Nothing waits between puts: after a put every other end takes, and at the end that put nothing waited.
use Rattle.std.proofs.Common.{◌≡◌, ℕ, ◌+◌, ◌<◌, ◌≤◌, Bool, true, false, cond, ◌≢◌, List, [], ◌∷◌, map, length, get_or, is_some, Some, None, Ok, Err, Option, Result, sym, refl, ap, ◌∙◌, subst, ⊎_elim, arith}
use Rattle.std.proofs.lemmas.Bool.{cases_eq, cases_lt}
use Rattle.fault.specs.declared.FrameFault.{FrameFault}
use Rattle.fault.specs.declared.CallFault.{CallFault}
use Rattle.frame.specs.Messages.{Pdu}
use Rattle.frame.specs.Reading.{decode}
use Rattle.plant.specs.Air.{Air, Frame, Line, ends_of, waiting, Quiet}
use Rattle.plant.specs.Calls.{PutOver, TakeOver, cleared}
use Rattle.plant.proofs.Lines.{no_end, same_ends}
use Rattle.plant.proofs.Drained.{cleared_here, cleared_there, cleared_other, cleared-shape}
use Rattle.model.specs.Plants.{PlantLaws, broadcast_circuit}
use Rattle.model.specs.Lists.{through, across}
use Rattle.model.specs.State.{State, Port, attached, with_plant, with_records, ports_on}
use Rattle.model.specs.Calls.{Outcome, refusal_of_hear, hearing, upped, srm_set_on}
use Rattle.model.specs.Ageing.{ages, reissues, each_record, each_slot, aged, clock_risen, aged_and_reissued}
use Rattle.model.specs.Loop.{Loop}
use Rattle.model.specs.Turns.{Progress, TakesAt, Sends, SendsAll, AtPort, RouterTurn, heard_by, delivered, srm_cleared, ssn_cleared}
use Rattle.model.specs.Tick.{Ticks}
use Rattle.model.specs.Book.{History}
use Rattle.model.specs.Run.{Called, Stretch}
use Rattle.model.specs.Quietness.{NothingWaits}

-- a fact that each step of a loop keeps
pub kept_along : {S : Type 0} {step : ℕ → S → S → Type 0} (K : S → Type 0) →
    ((k : ℕ) (u t : S) → step k u t → K u → K t) → {n : ℕ} {s t : S} → Loop step n s t → K s → K t
kept_along K each Loop.none q = q
kept_along K each (Loop.more {k} {u = u} {t = t} h v) q = each k u t v (kept_along K each h q)

-- of the ends of circuit c only those from n on may have a frame waiting, and end e has none
pub record TakenTo (b : Air) (c e n ends : ℕ) : Type 0 where
  pub below : (k : ℕ) → k < n → waiting b c k ≡ None
  pub own : waiting b c e ≡ None
  pub alike : ends_of b c ≡ ends
  pub elsewhere : (d k : ℕ) → d ≢ c → waiting b d k ≡ None

module _ {P : Type 0} (air : P → Air) where
  -- hearing leaves the plant
  hearing_plant : (r p : ℕ) (m : Result Pdu FrameFault) (s : State P) → (hearing air r p m s).plant ≡ s.plant
  hearing_plant r p (Err e) s = refl
  hearing_plant r p (Ok m) s = refl

  cond_plant : (b : Bool) (s t : State P) → s.plant ≡ t.plant → (cond b s t).plant ≡ t.plant
  cond_plant true s t e = e
  cond_plant false s t e = refl

  heard_plant : (a : Option (ℕ × ℕ)) (f : Frame) (s : State P) → (heard_by air a f s).plant ≡ s.plant
  heard_plant None f s = refl
  heard_plant (Some a) f s =
      let e : (hearing air a.0 a.1 (decode f) s).plant ≡ s.plant = hearing_plant a.0 a.1 (decode f) s in
      cond_plant (is_some (refusal_of_hear s a.0 a.1 f)) s (hearing air a.0 a.1 (decode f) s) (sym e) ∙ e

  delivered_plant : (c k : ℕ) (f : Option Frame) (s : State P) → (delivered air c k f s).plant ≡ s.plant
  delivered_plant c k None s = refl
  delivered_plant c k (Some f) s = heard_plant (attached c k 0 s.routers) f s

  srm_plant : (r p : ℕ) (s : State P) → (srm_cleared air r p s).plant ≡ s.plant
  srm_plant r p s = cond_plant _ _ s refl

  ssn_plant : (r p : ℕ) (s : State P) → (ssn_cleared air r p s).plant ≡ s.plant
  ssn_plant r p s = cond_plant _ _ s refl

  upped_plant : (c : ℕ) (s : State P) → (upped air c s).plant ≡ s.plant
  upped_plant c s = cond_plant (broadcast_circuit (air s.plant) c) s (with_records (across (λ y d. map (srm_set_on (ports_on c y)) d) s.routers s.records) s) refl

-- ageing leaves the plant
module _ {P : Type 0} where
  through_plant : {A : Type 0} (f : A → State P → State P) → ((a : A) (s : State P) → (f a s).plant ≡ s.plant) → (xs : List A) (s : State P) → (through f xs s).plant ≡ s.plant
  through_plant f each [] s = refl
  through_plant f each (x ∷ xs) s = through_plant f each xs (f x s) ∙ each x s

  either_plant : (b : Bool) (s t u : State P) → s.plant ≡ u.plant → t.plant ≡ u.plant → (cond b s t).plant ≡ u.plant
  either_plant true s t u e k = e
  either_plant false s t u e k = k

  aged_plant : (s : State P) → (aged_and_reissued s).plant ≡ s.plant
  aged_plant s =
      through_plant reissues (λ a u. either_plant _ _ u u refl refl) (each_slot (length (aged (clock_risen s)).routers)) (aged (clock_risen s))
      ∙ through_plant ages (λ a u. refl) (each_record 0 s.records) (clock_risen s)

  outcome_plant : {A : Type 0} (why : Option CallFault) (s effect t : State P) (answer : A) (a : Result A CallFault) →
      effect.plant ≡ s.plant → Outcome why s effect t answer a → t.plant ≡ s.plant
  outcome_plant why s effect t answer (Ok a) e o = ap (λ (x : State P). x.plant) o.1 ∙ e
  outcome_plant why s effect t answer (Err r) e o = ap (λ (x : State P). x.plant) o.1

module _ {P : Type 0} (air : P → Air) (put : PutOver P) (take : TakeOver P) (laws : PlantLaws air put take) where
  abbrev QuietAt : State P → Type 0
  QuietAt s = Quiet (air s.plant)

  moved : {p q : P} → p ≡ q → Quiet (air q) → Quiet (air p)
  moved e h = subst (λ x. Quiet (air x)) (sym e) h

  -- one end takes
  taken_here : (a : Air) (c e k n : ℕ) → k < ends_of a c → TakenTo a c e k n → TakenTo (cleared a c k) c e (k + 1) n
  taken_here a c e k n l h =
      record {
        below = λ j i. ⊎_elim (λ (q : j ≡ k). rw q (cleared_here a c k l)) (λ (q : j ≡ k → ⊥). cleared_there a c k l j q ∙ h.below j (omega arith)) (cases_eq j k);
        own = ⊎_elim (λ (q : e ≡ k). rw q (cleared_here a c k l)) (λ (q : e ≡ k → ⊥). cleared_there a c k l e q ∙ h.own) (cases_eq e k);
        alike = same_ends a (cleared a c k) (cleared-shape a c k l) c ∙ h.alike;
        elsewhere = λ d j ne. ap (λ (x : Line). get_or x.ends j None) (cleared_other a c k l d ne) ∙ h.elsewhere d j ne;
      }

  visited : (c e n k : ℕ) (s t : State P) → TakesAt air take c e k s t → TakenTo (air s.plant) c e k n → TakenTo (air t.plant) c e (k + 1) n
  visited c e n k s t (TakesAt.own q) h =
      record {
        below = λ j i. ⊎_elim (λ (p : j ≡ k). rw (p ∙ q) h.own) (λ (p : j ≡ k → ⊥). h.below j (omega arith)) (cases_eq j k);
        own = h.own;
        alike = h.alike;
        elsewhere = h.elsewhere;
      }
  visited c e n k s t (TakesAt.other {q = q} {f = f} ne took d) h =
      let m = laws.take_means s.plant q c k f took in
      let w : t.plant ≡ q = ap (λ (x : State P). x.plant) d ∙ delivered_plant air c k f (with_plant q s) in
      let z : TakenTo (cleared (air s.plant) c k) c e (k + 1) n = taken_here (air s.plant) c e k n m.known h in
      let y : TakenTo (air q) c e (k + 1) n = subst (λ x. TakenTo x c e (k + 1) n) (sym m.after) z in
      subst (λ x. TakenTo (air x) c e (k + 1) n) (sym w) y

  all_visited : {c e m n : ℕ} {s t : State P} → Loop (TakesAt air take c e) m s t → TakenTo (air s.plant) c e 0 n → TakenTo (air t.plant) c e m n
  all_visited Loop.none h = h
  all_visited {c} {e} {n = n} (Loop.more {k} {u = u} {t = t} l v) h = visited c e n k u t v (all_visited l h)

  all_taken : (b : Air) (c e n : ℕ) → TakenTo b c e n n → Quiet b
  all_taken b c e n h d k =
      ⊎_elim
      (λ (q : d ≡ c). rw q (⊎_elim (λ (l : k < n). h.below k l) (λ (l : n ≤ k). no_end b c k (omega (arith, h.alike))) (cases_lt k n)))
      (λ (q : d ≡ c → ⊥). h.elsewhere d k q)
      (cases_eq d c)

  -- a put with its deliveries
  sent_quiet : (a : Port) (f : Frame) (g h : Progress P) → Sends air put take a f g h → QuietAt g.state → QuietAt h.state
  sent_quiet a f g h (Sends.sent {q = q} {s = s} {t = t} p l takes e) z =
      let n = ends_of (air g.state.plant) a.circuit in
      let m = laws.put_means g.state.plant q a.circuit a.end f p.missed p.happened in
      let start : TakenTo (air q) a.circuit a.end 0 n =
      record {
        below = λ k i. absurd (omega arith);
        own = m.here ∙ z a.circuit a.end;
        alike = same_ends (air g.state.plant) (air q) m.alike a.circuit;
        elsewhere = λ d k ne. ap (λ (x : Line). get_or x.ends k None) (m.elsewhere d ne) ∙ z d k;
      } in
      let w : s.plant ≡ q = ap (λ (x : State P). x.plant) l in
      let done : TakenTo (air t.plant) a.circuit a.end n n =
      all_visited takes (subst (λ x. TakenTo (air x) a.circuit a.end 0 n) (sym w) start) in
      moved (ap (λ (x : Progress P). x.state.plant) e) (all_taken (air t.plant) a.circuit a.end n done)
  sent_quiet a f g h (Sends.refused p e) z = moved (ap (λ (x : Progress P). x.state.plant) e) z

  all_sent_quiet : (a : Port) (fs : List Frame) (g h : Progress P) → SendsAll air put take a fs g h → QuietAt g.state → QuietAt h.state
  all_sent_quiet a fs g h l z = kept_along (λ (x : Progress P). QuietAt x.state) (λ k u t v y. sent_quiet a (get_or fs k []) u t v y) l z

  port-quiet : (r p : ℕ) (g h : Progress P) → AtPort air put take r p g h → QuietAt g.state → QuietAt h.state
  port-quiet r p g h (AtPort.out_of_service o) z = z
  port-quiet r p g h (AtPort.turn o t) z =
      let a : QuietAt t.after_lsps.state = all_sent_quiet _ _ _ _ t.lsps_sent z in
      let b : QuietAt t.after_psnps.state = all_sent_quiet _ _ _ _ t.psnps_sent (moved (srm_plant air r p t.after_lsps.state) a) in
      all_sent_quiet _ _ _ _ t.csnps_sent (moved (ssn_plant air r p t.after_psnps.state) b)

  turn_quiet : (r : ℕ) (g h : Progress P) → RouterTurn air put take r g h → QuietAt g.state → QuietAt h.state
  turn_quiet r g h l z = kept_along (λ (x : Progress P). QuietAt x.state) (λ k u t v y. port-quiet r k u t v y) l z

  tick_quiet : (s t : State P) (a : Result (ℕ × ℕ) CallFault) → Ticks air put take s t a → QuietAt s → QuietAt t
  tick_quiet s t (Ok n) k z =
      kept_along (λ (x : Progress P). QuietAt x.state) (λ r u v w y. turn_quiet r u v w y) k.1.2
      (moved (ap (λ (x : State P). x.plant) k.1.1 ∙ aged_plant s) z)
  tick_quiet s t (Err e) k z = moved (ap (λ (x : State P). x.plant) k.1) z

  called_quiet : (s t : State P) (h g : History) → Called air put take s h t g → QuietAt s → QuietAt t
  called_quiet s t h g (Called.adds y a o) z = moved (outcome_plant _ s _ t _ a refl o) z
  called_quiet s t h g (Called.attaches r c e a o) z = moved (outcome_plant _ s _ t _ a refl o) z
  called_quiet s t h g (Called.ups c a o) z = moved (outcome_plant _ s _ t _ a (upped_plant air c s) o) z
  called_quiet s t h g (Called.downs c a o) z = moved (outcome_plant _ s _ t _ a refl o) z
  called_quiet s t h g (Called.originates r k body a o) z = moved (outcome_plant _ s _ t _ a refl o) z
  called_quiet s t h g (Called.withdraws r k a o) z = moved (outcome_plant _ s _ t _ a refl o) z
  called_quiet s t h g (Called.ticks a o) z = tick_quiet s t a o z

  stretch_quiet : {s t : State P} {h : History} → Stretch air put take s t h → QuietAt s → QuietAt t
  stretch_quiet Stretch.empty z = z
  stretch_quiet (Stretch.then {u} {t} {h} {g} l c) z = called_quiet u t h g c (stretch_quiet l z)

  pub nothing_waits_lem : NothingWaits air put take
  nothing_waits_lem s h r = stretch_quiet r.calls r.opened.quiet
