-- The second part of a tick: routers take turns by number, each over its ports in service, rising.
-- At a port go out, in this order: LSPs, PSNPs, a CSNP set. After each put every other end of the circuit takes, and a router there hears the frame.
use Rattle.std.specs.Prelude.{◌≡◌, ℕ, ◌+◌, ◌%◌, Bool, true, false, cond, not, ◌&&◌, ◌||◌, ◌≢◌, List, [], map, length, Some, None, Option, ◌==◌, slice_index_or, slice_set}
use Rattle.fault.specs.declared.CallFault.{CallFault}
use Rattle.frame.specs.Messages.{CsnpPdu}
use Rattle.plant.specs.Air.{Air, Frame, ends_of}
use Rattle.plant.specs.Calls.{PutOver, TakeOver, Counted, put_refusal}
use Rattle.model.specs.Flags.{only, except}
use Rattle.model.specs.Records.{HeldRecord, with_srm, with_ssn}
use Rattle.model.specs.Databases.{Database}
use Rattle.model.specs.Sending.{lsp_frame, psnp_frame, csnp_frame}
use Rattle.model.specs.State.{State, Port, Interface, port, router, database, with_plant, with_records, in_service, attached, interface}
use Rattle.model.specs.Calls.{heard_or_dropped}
use Rattle.model.specs.Sharing.{sent_on, psnp_parts, CsnpSet}
use Rattle.model.specs.Loop.{Loop}

-- a state, with the frames put and the sum of missed answers so far
pub record Progress (P : Type 0) : Type 0 where
  pub state : State P
  pub frames : ℕ
  pub missed : ℕ

abbrev pub with_state : {P : Type 0} → State P → Progress P → Progress P
with_state s g = record { state = s; frames = g.frames; missed = g.missed }

-- n divides the clock
abbrev pub divides : ℕ → ℕ → Bool
divides n clock = clock % n == 0

-- LSPs go out on broadcast, and on point-to-point when 5 divides the clock
abbrev pub sends_lsps : Interface → ℕ → Bool
sends_lsps v clock = v.broadcast || divides 5 clock

-- PSNPs go out when 2 divides the clock, on point-to-point or if not designated
abbrev pub sends_psnps : Interface → ℕ → Bool
sends_psnps v clock = divides 2 clock && (not v.broadcast || not v.designated)

-- a CSNP set goes out when 10 divides the clock, on point-to-point or if designated
abbrev pub sends_csnps : Interface → ℕ → Bool
sends_csnps v clock = divides 10 clock && (not v.broadcast || v.designated)

-- a change of all records of one router
abbrev pub all_changed : {P : Type 0} → (HeldRecord → HeldRecord) → ℕ → State P → State P
all_changed f r s = with_records (slice_set s.records r (map f (database s r))) s

-- a CSNP set where one goes out, else none
abbrev pub SetWhereDue : Bool → ℕ → Database → List CsnpPdu → Type 0
SetWhereDue true system d ms = CsnpSet system d ms
SetWhereDue false system d ms = ms ≡ []

module _ {P : Type 0} (air : P → Air) where
  -- the frame that was taken at an end, if any, is heard by the router there, if any
  abbrev pub heard_by : Option (ℕ × ℕ) → Frame → State P → State P
  heard_by None f s = s
  heard_by (Some a) f s = heard_or_dropped air a.0 a.1 f s

  abbrev pub delivered : ℕ → ℕ → Option Frame → State P → State P
  delivered c k None s = s
  delivered c k (Some f) s = heard_by (attached c k 0 s.routers) f s

  -- the LSPs that router r puts at its port p: the records with SRM there
  abbrev pub lsp_frames : ℕ → ℕ → State P → List Frame
  lsp_frames r p s = cond (sends_lsps (interface air s r p) s.clock) (map lsp_frame (sent_on p (database s r))) []

  -- the PSNPs that it puts there: the records with SSN there
  abbrev pub psnp_frames : ℕ → ℕ → State P → List Frame
  psnp_frames r p s =
      cond (sends_psnps (interface air s r p) s.clock) (map (psnp_frame (router s r).system) (psnp_parts p (database s r))) []

  -- after the LSPs SRM is cleared on broadcast; on point-to-point it stays
  abbrev pub srm_cleared : ℕ → ℕ → State P → State P
  srm_cleared r p s = cond (interface air s r p).broadcast (all_changed (λ x. with_srm (except x.srm (only p)) x) r s) s

  -- after the PSNPs, where they went out, SSN is cleared
  abbrev pub ssn_cleared : ℕ → ℕ → State P → State P
  ssn_cleared r p s =
      cond (sends_psnps (interface air s r p) s.clock) (all_changed (λ x. with_ssn (except x.ssn (only p)) x) r s) s

  abbrev pub CsnpsDue : ℕ → ℕ → State P → List CsnpPdu → Type 0
  CsnpsDue r p s ms = SetWhereDue (sends_csnps (interface air s r p) s.clock) (router s r).system (database s r) ms

-- end k of circuit c takes, unless it is e, which put; a router there hears what was taken, and drops what it refuses
pub data TakesAt {P : Type 0} (air : P → Air) (take : TakeOver P) (c e k : ℕ) (s : State P) : State P → Type 0 where
  own : k ≡ e → TakesAt air take c e k s s
  other : {q : P} {f : Option Frame} {t : State P} →
      k ≢ e → take s.plant q c k f → t ≡ delivered air c k f (with_plant q s) → TakesAt air take c e k s t

-- a frame is put from a port, then every other end takes, by number; n ends missed it. A put that the plant refuses does nothing, which no run reaches
pub data Sends {P : Type 0} (air : P → Air) (put : PutOver P) (take : TakeOver P) (a : Port) (f : Frame) (g : Progress P) : Progress P → Type 0 where
  sent : {q : P} {n : ℕ} {s t : State P} {h : Progress P} →
      Counted air put g.state.plant q a.circuit a.end f n →
      s ≡ with_plant q g.state →
      Loop (TakesAt air take a.circuit a.end) (ends_of (air g.state.plant) a.circuit) s t →
      h ≡ record { state = t; frames = g.frames + 1; missed = g.missed + n } →
      Sends air put take a f g h
  refused : {x : CallFault} {h : Progress P} →
      put_refusal (air g.state.plant) a.circuit a.end f ≡ Some x → h ≡ g → Sends air put take a f g h

module _ {P : Type 0} (air : P → Air) (put : PutOver P) (take : TakeOver P) where
  -- frames one after another
  abbrev pub SendsAll : Port → List Frame → Progress P → Progress P → Type 0
  SendsAll a fs g h = Loop (λ k. Sends air put take a (slice_index_or fs k [])) (length fs) g h

-- router r at its port p
pub record PortTurn {P : Type 0} (air : P → Air) (put : PutOver P) (take : TakeOver P) (r p : ℕ) (g h : Progress P) : Type 0 where
  pub after_lsps : Progress P
  pub after_psnps : Progress P
  pub csnps : List CsnpPdu
  pub lsps_sent : SendsAll air put take (port (router g.state r) p) (lsp_frames air r p g.state) g after_lsps
  pub psnps_sent :
      SendsAll air put take (port (router g.state r) p) (psnp_frames air r p after_lsps.state)
      (with_state (srm_cleared air r p after_lsps.state) after_lsps) after_psnps
  pub csnps_due : CsnpsDue air r p after_psnps.state csnps
  pub csnps_sent :
      SendsAll air put take (port (router g.state r) p) (map csnp_frame csnps)
      (with_state (ssn_cleared air r p after_psnps.state) after_psnps) h

-- a port out of service has no turn
pub data AtPort {P : Type 0} (air : P → Air) (put : PutOver P) (take : TakeOver P) (r p : ℕ) (g : Progress P) : Progress P → Type 0 where
  out_of_service : in_service g.state (port (router g.state r) p).circuit ≡ false → AtPort air put take r p g g
  turn : {h : Progress P} → in_service g.state (port (router g.state r) p).circuit ≡ true → PortTurn air put take r p g h → AtPort air put take r p g h

module _ {P : Type 0} (air : P → Air) (put : PutOver P) (take : TakeOver P) where
  -- a router's turn, over its ports, rising
  abbrev pub RouterTurn : ℕ → Progress P → Progress P → Type 0
  RouterTurn r g h = Loop (AtPort air put take r) (length (router g.state r).ports) g h

  -- all turns: routers by number; f frames are put, and the missed answers sum up to m
  abbrev pub Turns : State P → State P → ℕ → ℕ → Type 0
  Turns s t f m =
      Loop RouterTurn (length s.routers) (record { state = s; frames = 0; missed = 0 }) (record { state = t; frames = f; missed = m })
