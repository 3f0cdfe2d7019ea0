-- Over a broadcast circuit: after the designated router's CSNP, router v holds n, or some holder has SRM, or the designated router holds n and v is
-- behind and will say so; v's PSNP or LSP leaves the first two cases, and the holder's LSP the first.
use mathlib.Core.Path.{◌≡◌, refl, sym, subst}
use mathlib.Core.Logic.{◌≢◌, ◌⊎◌, inl, inr}
use mathlib.Core.Bool.{true, false}
use Prim.Native.Nat.{ℕ, suc, ◌+◌, ◌%◌, ◌≤◌, ◌<◌}
use native.Mathlib.Omega.{arith}
use native.Mathlib.Decide.{ℕ_discrete}
use Rattle.flooding.specs.Copies.{Topology, Held, held, none, Holdings, Mention, Live}
use Rattle.flooding.specs.Rules.{Kind, lsp, psnp, csnp, Sends, as_lsp, in_psnp, in_csnp, omits_placeholder, holds_none, Put, Heeds, Delivery, sender, hears, ignores, misses, detached}
use Rattle.flooding.specs.CopyTicks.{Srm, Ssn, Phase, not_due, sent, Turn, turn, Tick}
use Rattle.flooding.specs.Stretches.{InStep}
use Rattle.flooding.proofs.OneCopy
use Rattle.flooding.proofs.FallenBehind
use Rattle.flooding.proofs.FallenBehind.{IsBehind}
use Rattle.flooding.proofs.OnePut.{put_in_step, put_live, Pending, put_pending, must_hear, sender_sends, says_no_newer, owns, said_older}
use Rattle.flooding.proofs.PutsToTicks.{phase_keeps, turn_makes, turns_make, turns_keep, Aged, tick_aged, aged_live, aged_srm}
use Rattle.flooding.proofs.OneCircuit.{Holds, holds_kept}
use Rattle.flooding.proofs.Tests.{clash}

designated_heeds : (P : Topology) (c : ℕ) (g : Kind) → Heeds P (P.designated c) c g
designated_heeds P c lsp = tt
designated_heeds P c psnp = λ _. refl
designated_heeds P c csnp = tt

-- what a holder of n says is live n
holder_says_live : {P : Topology} (n : ℕ) {r c : ℕ} {g : Kind} {w : Mention} {h h' : Held} → 1 ≤ n → Sends P r c g w h h' → Live n h → OneCopy.SaysLive n w
holder_says_live n p (as_lsp a b i j l) v = v
holder_says_live n p (in_psnp a b i j l) v = v
holder_says_live n p (in_csnp a b) v = v
holder_says_live n p (omits_placeholder {k = k} a b) v = omega arith
holder_says_live n p (holds_none a) v = v

csnp_no_copy : {P : Topology} {r c : ℕ} {w : Mention} {h h' : Held} → Sends P r c csnp w h h' → OneCopy.IsCopy w → ⊥
csnp_no_copy (in_csnp a b) l = l
csnp_no_copy (omits_placeholder a b) l = l
csnp_no_copy (holds_none a) l = l

live_dec : (n : ℕ) (h : Held) → Dec (Live n h)
live_dec n none = no (λ z. z)
live_dec n (held k) = ℕ_discrete k.rank (n + n)

-- v holds n, or some holder of n on circuit c has SRM there
abbrev pub SomePending : Topology → ℕ → ℕ → ℕ → Holdings → Type 0
SomePending P n c v s = Live n (s v) ⊎ ((x : ℕ) × (P.attached x c ≡ true) × Live n (s x) × Srm c (s x))

-- or the designated router holds n and v is behind, e ticks at most since its wait began
abbrev pub BehindOrPending : Topology → ℕ → ℕ → ℕ → ℕ → Holdings → Type 0
BehindOrPending P n c v e s = SomePending P n c v s ⊎ (Live n (s (P.designated c)) × IsBehind n c e (s v))

abbrev pub SomePendingInStep : Topology → ℕ → ℕ → ℕ → Holdings → Type 0
SomePendingInStep P n c v s = InStep P n s × SomePending P n c v s

abbrev pub BehindOrPendingInStep : Topology → ℕ → ℕ → ℕ → ℕ → Holdings → Type 0
BehindOrPendingInStep P n c v e s = InStep P n s × BehindOrPending P n c v e s

module _ (P : Topology) (n c v : ℕ) (broadcast : P.point_to_point c ≡ false) (onv : P.attached v c ≡ true) (onc : P.attached (P.designated c) c ≡ true) (one : 1 ≤ n) where
  put_some_pending : {r d : ℕ} {g : Kind} {s s' : Holdings} → Put P false r d g s s' → InStep P n s → SomePending P n c v s → SomePending P n c v s'
  put_some_pending p G (inl l) = inl (put_live P n p G v l)
  put_some_pending {s' = s'} p G (inr (x, o, l, k)) = go (put_pending P n c x v onv one (λ z. clash z broadcast) p G (inr (l, k)))
    where
      go : Pending n c x v s' → SomePending P n c v s'
      go (inl a) = inl a
      go (inr a) = inr (x, o, a.0, a.1)

  pub some_pending_kept : (r d : ℕ) (g : Kind) (s s' : Holdings) → Put P false r d g s s' → SomePendingInStep P n c v s → SomePendingInStep P n c v s'
  some_pending_kept r d g s s' p (G, k) = (put_in_step P n p G, put_some_pending p G k)

  -- a router that does not hold n puts a frame on c, and the designated router holds n: it sets SRM
  older_put : {r : ℕ} {g : Kind} {s s' : Holdings} → Put P false r c g s s' → InStep P n s → Live n (s (P.designated c)) → (Live n (s r) → ⊥) → SomePending P n c v s'
  older_put {r} {g} {s} {s'} p G l z = go (said_older P n p G)
    where
      ne : P.designated c ≢ r
      ne q = z (subst (λ (y : ℕ). Live n (s y)) q l)

      go : Live n (s r) ⊎ OneCopy.SaysOlder n G.left p.mention → SomePending P n c v s'
      go (inl a) = absurd (z a)
      go (inr a) = inr (P.designated c, onc, put_live P n p G (P.designated c) l, OneCopy.hears_older n G.left G.positive (must_hear (p.delivery (P.designated c)) ne onc (designated_heeds P c g)) a (says_no_newer P n p G) (G.conforming (P.designated c)) l)

  module _ (e : ℕ) where
    delivery_behind : (L : ℕ) {r d : ℕ} {g : Kind} {w : Mention} {h h' : Held} → Delivery P false r d g w v h h' → OneCopy.SaysNoNewer n L w → (v ≡ P.owner → Live n h) → (d ≢ c) ⊎ ((d ≡ c) × OneCopy.SaysLive n w × (v ≢ r)) → IsBehind n c e h → Live n h' ⊎ IsBehind n c e h'
    delivery_behind L (sender i q) f o (inl d) y = inr (FallenBehind.behind_sends P n L c e q d y)
    delivery_behind L (sender i q) f o (inr d) y = absurd (d.2 i)
    delivery_behind L (hears i a k q) f o (inl d) y = FallenBehind.behind_hears P n L c e q onv f o (inl d) y
    delivery_behind L (hears i a k q) f o (inr d) y = FallenBehind.behind_hears P n L c e q onv f o (inr (d.0, d.1)) y
    delivery_behind L (ignores i a) f o d y = inr y
    delivery_behind L (misses i a) f o d y = inr y
    delivery_behind L (detached i a) f o d y = inr y

    put_behind_or_pending : {r d : ℕ} {g : Kind} {s s' : Holdings} → Put P false r d g s s' → InStep P n s → BehindOrPending P n c v e s → BehindOrPending P n c v e s'
    put_behind_or_pending p G (inl k) = inl (put_some_pending p G k)
    put_behind_or_pending {r} {d} {g} {s} {s'} p G (inr (l, y)) = go (ℕ_discrete d c) (live_dec n (s r))
      where
        wrap : Live n (s' v) ⊎ IsBehind n c e (s' v) → BehindOrPending P n c v e s'
        wrap (inl a) = inl (inl a)
        wrap (inr a) = inr (put_live P n p G (P.designated c) l, a)

        ne : Live n (s r) → v ≢ r
        ne a q = FallenBehind.behind_not_live n c e (s v) y (subst (λ (z : ℕ). Live n (s z)) (sym q) a)

        go : Dec (d ≡ c) → Dec (Live n (s r)) → BehindOrPending P n c v e s'
        go (no i) a = wrap (delivery_behind G.left (p.delivery v) (says_no_newer P n p G) (owns P n p G v) (inl i) y)
        go (yes i) (yes a) = wrap (delivery_behind G.left (p.delivery v) (says_no_newer P n p G) (owns P n p G v) (inr (i, holder_says_live n one (sender_sends (p.delivery r)) a, ne a)) y)
        go (yes i) (no a) = inl (older_put (subst (λ (z : ℕ). Put P false r z g s s') i p) G l a)

    pub behind_or_pending_kept : (r d : ℕ) (g : Kind) (s s' : Holdings) → Put P false r d g s s' → BehindOrPendingInStep P n c v e s → BehindOrPendingInStep P n c v e s'
    behind_or_pending_kept r d g s s' p (G, k) = (put_in_step P n p G, put_behind_or_pending p G k)

    -- v's turn at an even clock
    after_lsp : (t : ℕ) {a b : Holdings} → Phase P false t v c lsp a b → BehindOrPendingInStep P n c v e a → SomePendingInStep P n c v b ⊎ (InStep P n b × Live n (b (P.designated c)) × IsBehind n c e (b v) × Ssn c (b v))
    after_lsp t p (G, inl k) = inl (phase_keeps P false (SomePendingInStep P n c v) some_pending_kept p (G, k))
    after_lsp t {a} {b} (sent i p) (G, inr (l, y)) = inl (put_in_step P n p G, older_put p G l (FallenBehind.behind_not_live n c e (a v) y))
    after_lsp t {a} {b} (not_due i) (G, inr (l, y)) = inr (G, l, y, ssn (a v) y (λ k. i (λ z. clash z broadcast, k)))
      where
        ssn : (h : Held) → IsBehind n c e h → (Srm c h → ⊥) → Ssn c h
        ssn none y k = y
        ssn (held h) y k = go y.flag
          where
            go : (h.ssn c ≡ true) ⊎ (h.srm c ≡ true) → h.ssn c ≡ true
            go (inl q) = q
            go (inr q) = absurd (k q)

    after_psnp : (t : ℕ) {a b : Holdings} → t % 2 ≡ 0 → v ≢ P.designated c → Phase P false t v c psnp a b →
        SomePendingInStep P n c v a ⊎ (InStep P n a × Live n (a (P.designated c)) × IsBehind n c e (a v) × Ssn c (a v)) → SomePendingInStep P n c v b
    after_psnp t due ne p (inl k) = phase_keeps P false (SomePendingInStep P n c v) some_pending_kept p k
    after_psnp t due ne (not_due i) (inr (G, l, y, k)) = absurd (i (due, (λ _. ne), k))
    after_psnp t {a} due ne (sent i p) (inr (G, l, y, k)) = (put_in_step P n p G, older_put p G l (FallenBehind.behind_not_live n c e (a v) y))

    psnp_makes_pending : (t : ℕ) → t % 2 ≡ 0 → v ≢ P.designated c → (a d : Holdings) → Turn P false t v c a d → BehindOrPendingInStep P n c v e a → SomePendingInStep P n c v d
    psnp_makes_pending t due ne a d (turn x y z) q = phase_keeps P false (SomePendingInStep P n c v) some_pending_kept z (after_psnp t due ne y (after_lsp t x q))

  -- the designated router's CSNP
  csnp_makes_behind : (t u : ℕ) → t % 10 ≡ 0 → v ≢ P.designated c → P.attached u c ≡ true → (a d : Holdings) → Phase P false t (P.designated c) c csnp a d → Holds P n u a → BehindOrPendingInStep P n c v 0 d
  csnp_makes_behind t u due ne onu a d (not_due i) (G, l) = absurd (i (due, λ _. refl))
  csnp_makes_behind t u due ne onu a d (sent i p) (G, l) = (put_in_step P n p G, go (live_dec n (a (P.designated c))) (said_older P n p G))
    where
      wrap : Live n (a (P.designated c)) → Live n (d v) ⊎ IsBehind n c 0 (d v) → BehindOrPending P n c v 0 d
      wrap k (inl z) = inl (inl z)
      wrap k (inr z) = inr (put_live P n p G (P.designated c) k, z)

      go : Dec (Live n (a (P.designated c))) → Live n (a (P.designated c)) ⊎ OneCopy.SaysOlder n G.left p.mention → BehindOrPending P n c v 0 d
      go (yes k) z = wrap k (FallenBehind.asks P n G.left c 0 one (must_hear (p.delivery v) ne onv tt) (holder_says_live n one (sender_sends (p.delivery (P.designated c))) k) (csnp_no_copy (sender_sends (p.delivery (P.designated c)))) (G.conforming v))
      go (no k) (inl z) = absurd (k z)
      go (no k) (inr z) = inl (inr (u, onu, put_live P n p G u l, OneCopy.hears_older n G.left G.positive (must_hear (p.delivery u) (λ q. k (subst (λ (y : ℕ). Live n (a y)) q l)) onu tt) z (says_no_newer P n p G) (G.conforming u) l))

  -- the same of whole ticks with nothing missed
  some_pending_ages : {s a : Holdings} → Aged P n s a → SomePending P n c v s → SomePending P n c v a
  some_pending_ages o (inl l) = inl (aged_live P n o v l)
  some_pending_ages o (inr (x, i, l, k)) = inr (x, i, aged_live P n o x l, aged_srm P n o c x l k)

  behind_or_pending_ages : (e : ℕ) {s a : Holdings} → e < 50 → Aged P n s a → BehindOrPending P n c v e s → BehindOrPendingInStep P n c v (suc e) a
  behind_or_pending_ages e m o (inl k) = (o.in_step, inl (some_pending_ages o k))
  behind_or_pending_ages e m o (inr (l, y)) = (o.in_step, inr (aged_live P n o (P.designated c) l, FallenBehind.behind_ages P n o.left c e (o.ages v) onv (o.was v) m y))

  pub csnp_tick_behind : (u : ℕ) {t : ℕ} {s s' : Holdings} → t % 10 ≡ 0 → v ≢ P.designated c → P.attached u c ≡ true → Tick P n false t s s' → Holds P n u s → BehindOrPendingInStep P n c v 0 s'
  csnp_tick_behind u {t} due ne onu k (G, l) =
      turns_make P false (Holds P n u) (BehindOrPendingInStep P n c v 0) (holds_kept P n u false) (behind_or_pending_kept 0) t (P.designated c) c
      (λ a d. turn_makes P false (Holds P n u) (BehindOrPendingInStep P n c v 0) (holds_kept P n u false) (behind_or_pending_kept 0) t (P.designated c) c csnp (csnp_makes_behind t u due ne onu))
      (k.every (P.designated c) c onc) k.turns ((tick_aged P n k G).in_step, aged_live P n (tick_aged P n k G) u l)

  pub behind_tick : (e : ℕ) {t : ℕ} {s s' : Holdings} → e < 50 → Tick P n false t s s' → BehindOrPendingInStep P n c v e s → BehindOrPendingInStep P n c v (suc e) s'
  behind_tick e m k (G, h) = turns_keep P false (BehindOrPendingInStep P n c v (suc e)) (behind_or_pending_kept (suc e)) k.turns (behind_or_pending_ages e m (tick_aged P n k G) h)

  pub psnp_tick : (e : ℕ) {t : ℕ} {s s' : Holdings} → e < 50 → t % 2 ≡ 0 → v ≢ P.designated c → Tick P n false t s s' → BehindOrPendingInStep P n c v e s → SomePendingInStep P n c v s'
  psnp_tick e {t} m due ne k (G, h) =
      turns_make P false (BehindOrPendingInStep P n c v (suc e)) (SomePendingInStep P n c v) (behind_or_pending_kept (suc e)) some_pending_kept t v c (psnp_makes_pending (suc e) t due ne)
      (k.every v c onv) k.turns (behind_or_pending_ages e m (tick_aged P n k G) h)
