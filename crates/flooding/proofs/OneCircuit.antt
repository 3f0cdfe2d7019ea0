-- Over one circuit from a holder u of live n to v: after v's CSNP v holds n or u has SRM (pending); that lasts; after u's LSP v holds n. On broadcast
-- this is so where v is the designated router, and whenever a holder has SRM.
use mathlib.Core.Path.{◌≡◌}
use mathlib.Core.Logic.{◌≢◌, ◌⊎◌, inl, inr}
use mathlib.Core.Bool.{Bool, true, false}
use Prim.Native.Nat.{ℕ, ◌%◌, ◌≤◌}
use Rattle.flooding.specs.Copies.{Topology, Held, Holdings, Mention, Live}
use Rattle.flooding.specs.Rules.{Kind, lsp, csnp, Sends, as_lsp, Put}
use Rattle.flooding.specs.CopyTicks.{Phase, not_due, sent, Tick}
use Rattle.flooding.specs.Stretches.{InStep}
use Rattle.flooding.proofs.OneCopy
use Rattle.flooding.proofs.OnePut.{put_in_step, put_live, Pending, put_pending, lsp_reaches, must_hear, sender_sends, says_no_newer, said_older}
use Rattle.flooding.proofs.PutsToTicks.{phase_keeps, turn_makes, turns_make, turns_keep, Aged, tick_aged, aged_live, aged_srm}

sends_lsp_says_live : {P : Topology} (n : ℕ) {r c : ℕ} {w : Mention} {h h' : Held} → Sends P r c lsp w h h' → Live n h → OneCopy.SaysLive n w × OneCopy.IsCopy w
sends_lsp_says_live n (as_lsp a b d e i) v = (v, tt)

abbrev pub Holds : Topology → ℕ → ℕ → Holdings → Type 0
Holds P n x s = InStep P n s × Live n (s x)

abbrev pub PendingInStep : Topology → ℕ → ℕ → ℕ → ℕ → Holdings → Type 0
PendingInStep P n c u v s = InStep P n s × Pending n c u v s

pub holds_kept : (P : Topology) (n x : ℕ) (b : Bool) (r c : ℕ) (g : Kind) (s s' : Holdings) → Put P b r c g s s' → Holds P n x s → Holds P n x s'
holds_kept P n x b r c g s s' p (G, l) = (put_in_step P n p G, put_live P n p G x l)

module _ (P : Topology) (n : ℕ) (c u v : ℕ) (onu : P.attached u c ≡ true) (onv : P.attached v c ≡ true) (one : 1 ≤ n)
    (ends : P.point_to_point c ≡ true → (r : ℕ) → P.attached r c ≡ true → (r ≡ u) ⊎ (r ≡ v)) where
  pub pending_kept : (r d : ℕ) (g : Kind) (s s' : Holdings) → Put P false r d g s s' → PendingInStep P n c u v s → PendingInStep P n c u v s'
  pending_kept r d g s s' p (G, e) = (put_in_step P n p G, put_pending P n c u v onv one ends p G e)

  -- u's LSPs on c
  pub lsp_makes_held : (t : ℕ) → (P.point_to_point c ≡ true → t % 5 ≡ 0) → (a d : Holdings) → Phase P false t u c lsp a d → PendingInStep P n c u v a → Holds P n v d
  lsp_makes_held t due a d p (G, inl l) = phase_keeps P false (Holds P n v) (holds_kept P n v false) p (G, l)
  lsp_makes_held t due a d (not_due e) (G, inr (l, k)) = absurd (e (due, k))
  lsp_makes_held t due a d (sent e p) (G, inr (l, k)) =
      let z = sends_lsp_says_live n (sender_sends (p.delivery u)) l in
      (put_in_step P n p G, lsp_reaches P n c u v onv one ends p G z.0 z.1)

  -- v's CSNP on c
  pub csnp_makes_pending : (t : ℕ) → t % 10 ≡ 0 → (P.point_to_point c ≡ false → v ≡ P.designated c) → u ≢ v → (a d : Holdings) → Phase P false t v c csnp a d → Holds P n u a → PendingInStep P n c u v d
  csnp_makes_pending t due ch ne a d (not_due e) (G, l) = absurd (e (due, ch))
  csnp_makes_pending t due ch ne a d (sent e p) (G, l) = (put_in_step P n p G, go (said_older P n p G))
    where
      go : Live n (a v) ⊎ OneCopy.SaysOlder n G.left p.mention → Pending n c u v d
      go (inl k) = inl (put_live P n p G v k)
      go (inr k) = inr (put_live P n p G u l, OneCopy.hears_older n G.left G.positive (must_hear (p.delivery u) ne onu tt) k (says_no_newer P n p G) (G.conforming u) l)

  -- the same of whole ticks with nothing missed
  pub pending_ages : {t : ℕ} {s s' : Holdings} (k : Tick P n false t s s') → PendingInStep P n c u v s → PendingInStep P n c u v k.aged
  pending_ages {t} {s} {s'} k (G, e) = (o.in_step, go e)
    where
      o : Aged P n s k.aged
      o = tick_aged P n k G

      go : Pending n c u v s → Pending n c u v k.aged
      go (inl l) = inl (aged_live P n o v l)
      go (inr (l, m)) = inr (aged_live P n o u l, aged_srm P n o c u l m)

  pub pending_tick : {t : ℕ} {s s' : Holdings} → Tick P n false t s s' → PendingInStep P n c u v s → PendingInStep P n c u v s'
  pending_tick k q = turns_keep P false (PendingInStep P n c u v) pending_kept k.turns (pending_ages k q)

  pub lsp_tick : {t : ℕ} {s s' : Holdings} → (P.point_to_point c ≡ true → t % 5 ≡ 0) → Tick P n false t s s' → PendingInStep P n c u v s → Holds P n v s'
  lsp_tick {t} due k q =
      turns_make P false (PendingInStep P n c u v) (Holds P n v) pending_kept (holds_kept P n v false) t u c
      (λ a d. turn_makes P false (PendingInStep P n c u v) (Holds P n v) pending_kept (holds_kept P n v false) t u c lsp (lsp_makes_held t due))
      (k.every u c onu) k.turns (pending_ages k q)

  pub csnp_tick_pending : {t : ℕ} {s s' : Holdings} → t % 10 ≡ 0 → (P.point_to_point c ≡ false → v ≡ P.designated c) → u ≢ v → Tick P n false t s s' → Holds P n u s → PendingInStep P n c u v s'
  csnp_tick_pending {t} due ch ne k (G, l) =
      turns_make P false (Holds P n u) (PendingInStep P n c u v) (holds_kept P n u false) pending_kept t v c
      (λ a d. turn_makes P false (Holds P n u) (PendingInStep P n c u v) (holds_kept P n u false) pending_kept t v c csnp (csnp_makes_pending t due ch ne))
      (k.every v c onv) k.turns ((tick_aged P n k G).in_step, aged_live P n (tick_aged P n k G) u l)
