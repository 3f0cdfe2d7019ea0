-- Convergence of runs: a stretch of a run is a held stretch (HeldThrough), windows carry the record to all (Windows), and live copies of one number
-- are alike (the invariant).
use mathlib.Core.Path.{◌≡◌, refl, sym, ◌∙◌, subst}
use Prim.Native.Nat.{ℕ, ◌+◌, ◌*◌, ◌≤◌}
use native.Mathlib.Omega.{arith}
use Rattle.flooding.specs.Copies.{Copy, Held, none, held, Holdings, Live}
use Rattle.flooding.specs.Stretches.{InStep}
use Rattle.flooding.specs.CopyRuns.{Slot}
use Rattle.flooding.specs.Consistency.{Allowed}
use Rattle.flooding.specs.Convergence.{Alike, Converges, ConvergesByHops}
use Rattle.flooding.proofs.CallsBetween.{left_alone_live}
use Rattle.flooding.proofs.RunsConsistent.{runs_are_consistent, copy_of_issue}
use Rattle.flooding.proofs.HeldThrough.{held-through, in_step_at_start, stretch_consistent}
use Rattle.flooding.proofs.Windows.{windows_carry, reached_by_hops}
use Rattle.flooding.proofs.Ways.{way_within}

-- two live copies of one number are alike
alike : (S : Slot) (clock n : ℕ) (k : Copy) (h : Held) → 1 ≤ n → Allowed S clock (held k) → k.rank ≡ n + n → Allowed S clock h → Live n h →
    (y : Copy) × (h ≡ held y) × Alike n k y
alike S clock n k none one a r b l = absurd l
alike S clock n k (held y) one a r b l =
    let p = copy_of_issue S clock n k one a r in
    let q = copy_of_issue S clock n y one b l in
    let s = p.1 in
    let t = q.1 in
    (y, refl, record { number = l; live = q.0; lifetime = omega arith; content = q.2 ∙ sym p.2 })

pub converges_by_hops_lem : ConvergesByHops
converges_by_hops_lem Q W h B v w missing long F run y few n k H x near =
    let Z = runs_are_consistent v run in
    let E = stretch_consistent y Z in
    let A = held-through y Z H in
    let X = A.stretch in
    let G : InStep Q n (X.holdings 0) = subst (λ (s : Holdings). InStep Q n s) (sym A.starts) (in_step_at_start y Z H) in
    let C = windows_carry Q n v.clock (W * (h + B)) W H.numbered long F X G in
    let l = reached_by_hops Q n v.clock (W * (h + B)) W h B X G C (omega arith) (rw A.counted few) x near in
    let e : Live n (w.holdings x) = left_alone_live n (A.ends x) l in
    let a : Allowed w.slot w.clock (held k) = subst (λ (i : Held). Allowed w.slot w.clock i) H.at_end (E.allowed Q.owner) in
    alike w.slot w.clock n k (w.holdings x) H.numbered a H.number_at_end (E.allowed x) e

-- no router is N circuits from the owner
pub converges : Converges
converges Q N B v w missing J run y few n k H x i =
    converges_by_hops_lem Q 20 N B v w missing (omega arith) J.well_formed run y few n k H x (way_within N J.routers J.owner (J.way Q.owner x J.owner i))
