-- Every rule keeps the identifiers of every database rising.
use Rattle.std.proofs.Common.{◌≡◌, ℕ, zero, suc, ◌+◌, ◌≤◌, Bool, true, false, cond, eqb, leb, List, [], ◌∷◌, map, length, get_or, set, replicate, is_some, Some, None, Ok, Err, Option, Result, sym, refl, subst}
use Rattle.fault.specs.declared.FrameFault.{FrameFault}
use Rattle.fault.specs.declared.CallFault.{CallFault}
use Rattle.frame.specs.Messages.{LspPdu, SnpEntry, CsnpPdu, Pdu, lsp, csnp, psnp}
use Rattle.frame.specs.Reading.{decode}
use Rattle.record.specs.declared.form.Recency.{Recency}
use Rattle.record.specs.declared.form.Recency.TheVariants.{Newer, Same, Older}
use Rattle.plant.specs.Air.{Air, Frame}
use Rattle.plant.specs.Calls.{PutOver, TakeOver}
use Rattle.model.specs.Plants.{broadcast_circuit}
use Rattle.model.specs.Lists.{through, across}
use Rattle.model.specs.Flags.{Flags, only, join, except}
use Rattle.model.specs.Records.{HeldRecord, is_live, is_placeholder, system_in, owning_slot, flooded, stored_over, purge_of, placeholder, order, with_srm, with_ssn}
use Rattle.model.specs.Databases.{Database, find, placed, without, amended}
use Rattle.model.specs.DatabaseLaws.{RisingFrom, Rising, KeepsId}
use Rattle.model.specs.State.{State, Opened, slot, with_records, with_service, interface, Slot, Node, Port, with_slot, holding, with_node, node, router, serving, ports_on, Interface, attached, database, flooding, deactivated, with_plant}
use Rattle.model.specs.Hearing.{ignored, newer_stored, newer_marked, same_marked, older_marked, heard_record, unlisted, lsp_recency, lsp_by_recency, own_heard, entry_marked, entry_compared, heard_entry, heard_csnp, heard}
use Rattle.model.specs.Calls.{Outcome, id_of, added, attaching, originated, withdrawn, flags_cleared_on, hearing, purged, upped, downed, srm_set_on, refusal_of_hear}
use Rattle.model.specs.Ageing.{is_due, ages, reissues, each_record, each_slot, aged, clock_risen, aged_and_reissued, aged_record, lifetime_fallen, wait_fallen}
use Rattle.model.specs.Turns.{Progress, TakesAt, Sends, SendsAll, AtPort, RouterTurn, heard_by, delivered, srm_cleared, ssn_cleared, all_changed, sends_psnps}
use Rattle.model.specs.Tick.{Ticks}
use Rattle.model.specs.Book.{History}
use Rattle.model.specs.Run.{Called, Stretch}
use Rattle.model.specs.RisingDatabases.{DatabasesRise}
use Rattle.model.proofs.Quiet.{kept_along}
use Rattle.model.proofs.DatabaseFacts.{database_laws_lem}

cond_case : {S : Type 0} (K : S → Type 0) (b : Bool) (x y : S) → K x → K y → K (cond b x y)
cond_case K true x y p q = p
cond_case K false x y p q = q

through_keeps : {A S : Type 0} (K : S → Type 0) (f : A → S → S) → ((a : A) (s : S) → K s → K (f a s)) → (xs : List A) (s : S) → K s → K (through f xs s)
through_keeps K f each [] s h = h
through_keeps K f each (x ∷ xs) s h = through_keeps K f each xs (f x s) (each x s h)

map-rises : (f : HeldRecord → HeldRecord) → KeepsId f → (low : ℕ) (d : Database) → RisingFrom low d → RisingFrom low (map f d)
map-rises f same low [] h = tt
map-rises f same low (x ∷ xs) h =
    (subst (λ i. low ≤ i) (sym (same x)) h.0, subst (λ i. RisingFrom (i + 1) (map f xs)) (sym (same x)) (map-rises f same (x.id + 1) xs h.1))

-- the same fact as a type of its own, of which the database can be read off
data Rises (d : Database) : Type 0 where
  rises : Rising d → Rises d

rising : {d : Database} → Rises d → Rising d
rising (rises h) = h

placed_keeps : (x : HeldRecord) (d : Database) → Rises d → Rises (placed x d)
placed_keeps x d (rises h) = rises (database_laws_lem.placed_rises x d h)

changed_keeps : (f : HeldRecord → HeldRecord) (i : ℕ) (d : Database) → KeepsId f → Rises d → Rises (amended f i d)
changed_keeps f i d same (rises h) = rises (database_laws_lem.changed_rises f i d same h)

deleted_keeps : (i : ℕ) (d : Database) → Rises d → Rises (without i d)
deleted_keeps i d (rises h) = rises (database_laws_lem.deleted_rises i d h)

map_keeps : (f : HeldRecord → HeldRecord) (d : Database) → KeepsId f → Rises d → Rises (map f d)
map_keeps f d same (rises h) = rises (map-rises f same 0 d h)

-- of a list of databases
set-rises : (ds : List Database) (r j : ℕ) (d : Database) → Rises d → Rises (get_or ds j []) → Rises (get_or (set ds r d) j [])
set-rises [] r j d p q = q
set-rises (x ∷ ds) zero zero d p q = p
set-rises (x ∷ ds) zero (suc j) d p q = q
set-rises (x ∷ ds) (suc r) zero d p q = q
set-rises (x ∷ ds) (suc r) (suc j) d p q = set-rises ds r j d p q

across-rises : {A : Type 0} (f : A → Database → Database) → ((a : A) (d : Database) → Rises d → Rises (f a d)) → (xs : List A) (ds : List Database) (j : ℕ) → Rises (get_or ds j []) → Rises (get_or (across f xs ds) j [])
across-rises f each [] ds j h = h
across-rises f each (x ∷ xs) [] j h = h
across-rises f each (x ∷ xs) (d ∷ ds) zero h = each x d h
across-rises f each (x ∷ xs) (d ∷ ds) (suc j) h = across-rises f each xs ds j h

-- of a router and what it holds
data NodeRises (y : Node) : Type 0 where
  node_rises : Rises y.records → NodeRises y

node_rising : {y : Node} → NodeRises y → Rises y.records
node_rising (node_rises h) = h

flooding-rises : (v : Flags) (x : HeldRecord) (y : Node) → NodeRises y → NodeRises (flooding v x y)
flooding-rises v x y (node_rises h) = node_rises (placed_keeps (flooded v (stored_over (find x.id y.records) x)) y.records h)

holding-rises : (d : Database) (y : Node) → Rises d → NodeRises (holding d y)
holding-rises d y h = node_rises h

slot-rises : (k : ℕ) (z : Slot) (y : Node) → NodeRises y → NodeRises (with_slot k z y)
slot-rises k z y (node_rises h) = node_rises h

own_rises : (v : Interface) (m : LspPdu) (k : Option ℕ) (y : Node) → NodeRises y → NodeRises (own_heard v m k y)
own_rises v m None y h = flooding-rises _ _ y h
own_rises v m (Some k) y h = cond_case NodeRises _ _ _ (slot-rises _ _ _ (flooding-rises _ _ y h)) (slot-rises _ _ _ (flooding-rises _ _ y h))

lsp_rises : (v : Interface) (m : LspPdu) (o : Option Recency) (y : Node) → NodeRises y → NodeRises (lsp_by_recency v m o y)
lsp_rises v m None y h = h
lsp_rises v m (Some Newer) y h =
    cond_case NodeRises (eqb (system_in m.id) y.router.system) (own_heard v m (owning_slot y.router.system m.id) y) (newer_stored v m y)
    (own_rises v m (owning_slot y.router.system m.id) y h)
    (node_rises (placed_keeps (newer_marked v (stored_over (find m.id y.records) (heard_record m))) y.records (node_rising h)))
lsp_rises v m (Some Same) y h = node_rises (changed_keeps (same_marked v) m.id y.records (λ x. refl) (node_rising h))
lsp_rises v m (Some Older) y h = node_rises (changed_keeps (older_marked v) m.id y.records (λ x. refl) (node_rising h))

cond_id : (b : Bool) (x y z : HeldRecord) → x.id ≡ z.id → y.id ≡ z.id → (cond b x y).id ≡ z.id
cond_id true x y z p q = p
cond_id false x y z p q = q

entry_id : (v : Interface) (o : Recency) → KeepsId (entry_marked v o)
entry_id v Same x = cond_id v.broadcast x _ x refl refl
entry_id v Older x = refl
entry_id v Newer x = refl

compared_rises : (v : Interface) (e : SnpEntry) (o : Option HeldRecord) (d : Database) → Rises d → Rises (entry_compared v e o d)
compared_rises v e None d h = cond_case Rises _ _ _ (placed_keeps (with_ssn (only v.port) (placeholder e.id)) d h) h
compared_rises v e (Some x) d h = changed_keeps (entry_marked v (order e.number e.lifetime x)) e.id d (entry_id v _) h

entry_rises : (v : Interface) (e : SnpEntry) (d : Database) → Rises d → Rises (heard_entry v e d)
entry_rises v e d h = compared_rises v e (find e.id d) d h

csnp_rises : (v : Interface) (m : CsnpPdu) (d : Database) → Rises d → Rises (heard_csnp v m d)
csnp_rises v m d h =
    map_keeps (λ x. cond (unlisted m x) (with_srm (join x.srm (only v.port)) x) x) (through (heard_entry v) m.entries d)
    (λ x. cond_id (unlisted m x) _ x x refl refl)
    (through_keeps Rises (heard_entry v) (entry_rises v) m.entries d h)

heard-rises : (v : Interface) (m : Pdu) (y : Node) → NodeRises y → NodeRises (heard v m y)
heard-rises v (lsp m) y h = lsp_rises v m (lsp_recency m (find m.id y.records)) y h
heard-rises v (csnp m) y h = node_rises (csnp_rises v m y.records (node_rising h))
heard-rises v (psnp m) y h =
    cond_case NodeRises (ignored v (psnp m)) y (holding (through (heard_entry v) m.entries y.records) y) h
    (holding-rises _ y (through_keeps Rises (heard_entry v) (entry_rises v) m.entries y.records (node_rising h)))

deactivated-rises : (k : Option ℕ) (y : Node) → NodeRises y → NodeRises (deactivated k y)
deactivated-rises None y h = h
deactivated-rises (Some k) y h = slot-rises k _ y h

aged-rises : (v : Flags) (o : Option HeldRecord) (y : Node) → NodeRises y → NodeRises (aged_record v o y)
aged-rises v None y h = h
aged-rises v (Some x) y h =
    let expired : Node = deactivated (owning_slot y.router.system x.id) (flooding v (purge_of x) y) in
    let younger : Node = holding (amended lifetime_fallen x.id y.records) y in
    let deleted : Node = holding (without x.id y.records) y in
    let waited : Node = holding (amended wait_fallen x.id y.records) y in
    cond_case NodeRises (is_live x) (cond (eqb x.lifetime 1) expired younger) (cond (leb x.wait 1) deleted waited)
    (cond_case NodeRises (eqb x.lifetime 1) expired younger
    (deactivated-rises (owning_slot y.router.system x.id) (flooding v (purge_of x) y) (flooding-rises v (purge_of x) y h))
    (holding-rises _ y (changed_keeps lifetime_fallen x.id y.records (λ z. refl) (node_rising h))))
    (cond_case NodeRises (leb x.wait 1) deleted waited
    (holding-rises _ y (deleted_keeps x.id y.records (node_rising h)))
    (holding-rises _ y (changed_keeps wait_fallen x.id y.records (λ z. refl) (node_rising h))))

purged-rises : (v : Flags) (o : Option HeldRecord) (y : Node) → NodeRises y → NodeRises (purged v o y)
purged-rises v None y h = h
purged-rises v (Some x) y h = flooding-rises v (purge_of x) y h

-- of a state
data StateRises {P : Type 0} (s : State P) : Type 0 where
  state_rises : ((r : ℕ) → Rises (database s r)) → StateRises s

module _ {P : Type 0} where
  at-router : {s : State P} → StateRises s → (r : ℕ) → Rises (database s r)
  at-router (state_rises h) r = h r

  node_at : (s : State P) (r : ℕ) → StateRises s → NodeRises (node s r)
  node_at s r (state_rises h) = node_rises (h r)

  with_node-rises : (r : ℕ) (y : Node) (s : State P) → NodeRises y → StateRises s → StateRises (with_node r y s)
  with_node-rises r y s (node_rises p) (state_rises h) = state_rises (λ j. set-rises s.records r j y.records p (h j))

  originated-rises : (r k : ℕ) (body : List ℕ) (s : State P) → StateRises s → StateRises (originated r k body s)
  originated-rises r k body s h = with_node-rises r _ s (slot-rises k _ _ (flooding-rises (serving s r) _ (node s r) (node_at s r h))) h

  withdrawn-rises : (r k : ℕ) (s : State P) → StateRises s → StateRises (withdrawn r k s)
  withdrawn-rises r k s h =
      with_node-rises r _ s (slot-rises k _ _ (purged-rises (serving s r) (find (id_of s r k) (database s r)) (node s r) (node_at s r h))) h

  ages-rises : (a : ℕ × ℕ) (s : State P) → StateRises s → StateRises (ages a s)
  ages-rises a s h = with_node-rises a.0 _ s (aged-rises (serving s a.0) (find a.1 (database s a.0)) (node s a.0) (node_at s a.0 h)) h

  reissues-rises : (a : ℕ × ℕ) (s : State P) → StateRises s → StateRises (reissues a s)
  reissues-rises a s h =
      cond_case StateRises (is_due (slot (router s a.0) a.1) (find (id_of s a.0 a.1) (database s a.0)))
      (originated a.0 a.1 (slot (router s a.0) a.1).body s) s (originated-rises a.0 a.1 _ s h) h

  risen : (s : State P) → StateRises s → StateRises (clock_risen s)
  risen s (state_rises h) = state_rises h

  prepared_rises : (s : State P) → StateRises s → StateRises (aged_and_reissued s)
  prepared_rises s h =
      through_keeps StateRises reissues reissues-rises (each_slot (length (aged (clock_risen s)).routers)) (aged (clock_risen s))
      (through_keeps StateRises ages ages-rises (each_record 0 s.records) (clock_risen s) (risen s h))

  outcome_rises : {A : Type 0} (why : Option CallFault) (s effect t : State P) (answer : A) (a : Result A CallFault) →
      StateRises s → StateRises effect → Outcome why s effect t answer a → StateRises t
  outcome_rises why s effect t answer (Ok a) h e o = subst StateRises (sym o.1) e
  outcome_rises why s effect t answer (Err r) h e o = subst StateRises (sym o.1) h

  all_changed_rises : (f : HeldRecord → HeldRecord) (r : ℕ) (s : State P) → KeepsId f → StateRises s → StateRises (all_changed f r s)
  all_changed_rises f r s same (state_rises h) = state_rises (λ j. set-rises s.records r j (map f (database s r)) (map_keeps f (database s r) same (h r)) (h j))

  with_plant-rises : (q : P) (s : State P) → StateRises s → StateRises (with_plant q s)
  with_plant-rises q s (state_rises h) = state_rises h

module _ {P : Type 0} (air : P → Air) where
  hearing-rises : (r p : ℕ) (m : Result Pdu FrameFault) (s : State P) → StateRises s → StateRises (hearing air r p m s)
  hearing-rises r p (Err e) s h = h
  hearing-rises r p (Ok m) s h = with_node-rises r _ s (heard-rises (interface air s r p) m (node s r) (node_at s r h)) h

  heard_by-rises : (a : Option (ℕ × ℕ)) (f : Frame) (s : State P) → StateRises s → StateRises (heard_by air a f s)
  heard_by-rises None f s h = h
  heard_by-rises (Some a) f s h =
      cond_case StateRises (is_some (refusal_of_hear s a.0 a.1 f)) s (hearing air a.0 a.1 (decode f) s) h (hearing-rises a.0 a.1 (decode f) s h)

  delivered-rises : (c k : ℕ) (f : Option Frame) (s : State P) → StateRises s → StateRises (delivered air c k f s)
  delivered-rises c k None s h = h
  delivered-rises c k (Some f) s h = heard_by-rises (attached c k 0 s.routers) f s h

  srm_rises : (r p : ℕ) (s : State P) → StateRises s → StateRises (srm_cleared air r p s)
  srm_rises r p s h =
      cond_case StateRises (interface air s r p).broadcast (all_changed (λ x. with_srm (except x.srm (only p)) x) r s) s
      (all_changed_rises (λ x. with_srm (except x.srm (only p)) x) r s (λ x. refl) h) h

  ssn_rises : (r p : ℕ) (s : State P) → StateRises s → StateRises (ssn_cleared air r p s)
  ssn_rises r p s h =
      cond_case StateRises (sends_psnps (interface air s r p) s.clock) (all_changed (λ x. with_ssn (except x.ssn (only p)) x) r s) s
      (all_changed_rises (λ x. with_ssn (except x.ssn (only p)) x) r s (λ x. refl) h) h

  offered_id : (fs : Flags) → KeepsId (srm_set_on fs)
  offered_id fs x = cond_id (is_placeholder x) x _ x refl refl

  over_routers : (f : Flags → HeldRecord → HeldRecord) → ((fs : Flags) → KeepsId (f fs)) → (c : ℕ) (s : State P) → StateRises s →
      StateRises (with_records (across (λ y d. map (f (ports_on c y)) d) s.routers s.records) s)
  over_routers f same c s (state_rises h) =
      state_rises (λ j. across-rises (λ y d. map (f (ports_on c y)) d) (λ y d e. map_keeps (f (ports_on c y)) d (same (ports_on c y)) e) s.routers s.records j (h j))

  service_rises : (b : List Bool) (s : State P) → StateRises s → StateRises (with_service b s)
  service_rises b s (state_rises h) = state_rises h

  upped-rises : (c : ℕ) (s : State P) → StateRises s → StateRises (upped air c s)
  upped-rises c s h =
      service_rises _ _
      (cond_case StateRises (broadcast_circuit (air s.plant) c) s (with_records (across (λ y d. map (srm_set_on (ports_on c y)) d) s.routers s.records) s)
      h (over_routers srm_set_on offered_id c s h))

  downed-rises : (c : ℕ) (s : State P) → StateRises s → StateRises (downed air c s)
  downed-rises c s h = service_rises _ _ (over_routers flags_cleared_on (λ fs x. refl) c s h)

module _ {P : Type 0} (air : P → Air) (put : PutOver P) (take : TakeOver P) where
  abbrev ProgressRises : Progress P → Type 0
  ProgressRises g = StateRises g.state

  visit_rises : (c e k : ℕ) (s t : State P) → TakesAt air take c e k s t → StateRises s → StateRises t
  visit_rises c e k s t (TakesAt.own q) h = h
  visit_rises c e k s t (TakesAt.other {q = q} {f = f} ne took d) h = subst StateRises (sym d) (delivered-rises air c k f (with_plant q s) (with_plant-rises q s h))

  sent_rises : (a : Port) (f : Frame) (g h : Progress P) → Sends air put take a f g h → ProgressRises g → ProgressRises h
  sent_rises a f g h (Sends.sent {q = q} {s = s} {t = t} p l takes e) z =
      subst ProgressRises (sym e)
      (kept_along StateRises (λ k u v w y. visit_rises a.circuit a.end k u v w y) takes (subst StateRises (sym l) (with_plant-rises q g.state z)))
  sent_rises a f g h (Sends.refused p e) z = subst ProgressRises (sym e) z

  all_sent_rises : (a : Port) (fs : List Frame) (g h : Progress P) → SendsAll air put take a fs g h → ProgressRises g → ProgressRises h
  all_sent_rises a fs g h l z = kept_along ProgressRises (λ k u t v y. sent_rises a (get_or fs k []) u t v y) l z

  port-rises : (r p : ℕ) (g h : Progress P) → AtPort air put take r p g h → ProgressRises g → ProgressRises h
  port-rises r p g h (AtPort.out_of_service o) z = z
  port-rises r p g h (AtPort.turn o t) z =
      let a : StateRises t.after_lsps.state = all_sent_rises _ _ _ _ t.lsps_sent z in
      let b : StateRises t.after_psnps.state = all_sent_rises _ _ _ _ t.psnps_sent (srm_rises air r p t.after_lsps.state a) in
      all_sent_rises _ _ _ _ t.csnps_sent (ssn_rises air r p t.after_psnps.state b)

  turn_rises : (r : ℕ) (g h : Progress P) → RouterTurn air put take r g h → ProgressRises g → ProgressRises h
  turn_rises r g h l z = kept_along ProgressRises (λ k u t v y. port-rises r k u t v y) l z

  tick_rises : (s t : State P) (a : Result (ℕ × ℕ) CallFault) → Ticks air put take s t a → StateRises s → StateRises t
  tick_rises s t (Ok n) k z = kept_along ProgressRises (λ r u v w y. turn_rises r u v w y) k.1.2 (subst StateRises (sym k.1.1) (prepared_rises s z))
  tick_rises s t (Err e) k z = subst StateRises (sym k.1) z

  called_rises : (s t : State P) (h g : History) → Called air put take s h t g → StateRises s → StateRises t
  called_rises s t h g (Called.adds y a o) z = outcome_rises _ s (added y s) t _ a z (state_rises (at-router z)) o
  called_rises s t h g (Called.attaches r c e a o) z = outcome_rises _ s (attaching air r c e s) t _ a z (state_rises (at-router z)) o
  called_rises s t h g (Called.ups c a o) z = outcome_rises _ s (upped air c s) t _ a z (upped-rises air c s z) o
  called_rises s t h g (Called.downs c a o) z = outcome_rises _ s (downed air c s) t _ a z (downed-rises air c s z) o
  called_rises s t h g (Called.originates r k body a o) z = outcome_rises _ s (originated r k body s) t _ a z (originated-rises r k body s z) o
  called_rises s t h g (Called.withdraws r k a o) z = outcome_rises _ s (withdrawn r k s) t _ a z (withdrawn-rises r k s z) o
  called_rises s t h g (Called.ticks a o) z = tick_rises s t a o z

  stretch_rises : {s t : State P} {h : History} → Stretch air put take s t h → StateRises s → StateRises t
  stretch_rises Stretch.empty z = z
  stretch_rises (Stretch.then {u} {t} {h} {g} l c) z = called_rises u t h g c (stretch_rises l z)

  none-held : (n r : ℕ) → Rises (get_or (replicate n []) r [])
  none-held zero r = rises tt
  none-held (suc n) zero = rises tt
  none-held (suc n) (suc r) = none-held n r

  opened-rises : (s : State P) → Opened air s → StateRises s
  opened-rises s o = state_rises (λ r. subst (λ (ds : List Database). Rises (get_or ds r [])) (sym o.records) (none-held 8 r))

  pub databases_rise_lem : DatabasesRise air put take
  databases_rise_lem s h run r = rising (at-router (stretch_rises run.calls (opened-rises run.start run.opened)) r)
