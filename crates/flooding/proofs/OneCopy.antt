-- What one mention does to one copy, and ageing, where nothing newer than live n stands anywhere and all copies of n have the lifetime L.
use mathlib.Core.Path.{◌≡◌, refl, sym, ◌∙◌, ap}
use mathlib.Core.Logic.{◌⊎◌, inl, inr}
use mathlib.Core.Bool.{true, false}
use Prim.Native.Nat.{ℕ, suc, ◌+◌, ◌≤◌, ◌<◌}
use native.Mathlib.Omega.{arith}
use native.Mathlib.Decide.{ℕ_discrete}
use Rattle.flooding.specs.Copies.{Topology, Copy, Held, none, held, Mention, copy, entry, unlisted, Newer, Live}
use Rattle.flooding.specs.Rules.{Reflagged, Hears, own_newer, newer_lsp, unknown_purge, same_lsp, older_lsp, unknown_not_live, unknown_entry, same_entry, older_entry, newer_entry, unlisted_none, unlisted_live, unlisted_purge, Sends, as_lsp, in_psnp, in_csnp, omits_placeholder, holds_none, Kind, lsp}
use Rattle.flooding.specs.CopyTicks.{Srm, Ages, none_ages, live_ages, expires, wait_falls, deleted}
use Rattle.flooding.specs.Stretches.{Conforms, Conforming}
use Rattle.flooding.proofs.Tests.{Outcome, outcome, is_true, is_false}

abbrev pub SaysNoNewer : ℕ → ℕ → Mention → Type 0
SaysNoNewer n L (copy R l C) = (R ≤ n + n) × (R ≡ n + n → l ≡ L) × ((l ≡ 0) ⊎ ((j : ℕ) × (R ≡ j + j)))
SaysNoNewer n L (entry R) = R ≤ n + n
SaysNoNewer n L unlisted = Unit {0}

-- the mention is of live n
abbrev pub SaysLive : ℕ → Mention → Type 0
SaysLive n (copy R l C) = R ≡ n + n
SaysLive n (entry R) = R ≡ n + n
SaysLive n unlisted = ⊥

abbrev pub IsCopy : Mention → Type 0
IsCopy (copy R l C) = Unit {0}
IsCopy (entry R) = ⊥
IsCopy unlisted = ⊥

module _ (n L : ℕ) where
  reflagged_conforms : {c : ℕ} {k k' : Copy} → Reflagged c k k' → Conforms n L k → Conforms n L k'
  reflagged_conforms e f = record {
    not_newer = rw e.rank f.not_newer;
    lifetime_in_step = λ q. e.lifetime ∙ f.lifetime_in_step (sym e.rank ∙ q);
    form = rw (e.rank, e.lifetime) f.form;
  }

  pub sends_no_newer : {P : Topology} {r c : ℕ} {g : Kind} {w : Mention} {h h' : Held} → Sends P r c g w h h' → Conforming n L h → SaysNoNewer n L w
  sends_no_newer (as_lsp a b d e i) f = (f.not_newer, f.lifetime_in_step, f.form)
  sends_no_newer (in_psnp a b d e i) f = f.not_newer
  sends_no_newer (in_csnp a b) f = f.not_newer
  sends_no_newer (omits_placeholder a b) f = tt
  sends_no_newer (holds_none a) f = tt

  pub sends_conforms : {P : Topology} {r c : ℕ} {g : Kind} {w : Mention} {h h' : Held} → Sends P r c g w h h' → Conforming n L h → Conforming n L h'
  sends_conforms (as_lsp a b d e i) f = reflagged_conforms b f
  sends_conforms (in_psnp a b d e i) f = reflagged_conforms d f
  sends_conforms (in_csnp a b) f = f
  sends_conforms (omits_placeholder a b) f = f
  sends_conforms (holds_none a) f = tt

  pub sends_live : {P : Topology} {r c : ℕ} {g : Kind} {w : Mention} {h h' : Held} → Sends P r c g w h h' → Live n h → Live n h'
  sends_live (as_lsp a b d e i) f = b.rank ∙ f
  sends_live (in_psnp a b d e i) f = d.rank ∙ f
  sends_live (in_csnp a b) f = f
  sends_live (omits_placeholder a b) f = f
  sends_live (holds_none a) f = f

  pub says_live_holds : {P : Topology} {r c : ℕ} {g : Kind} {w : Mention} {h h' : Held} → Sends P r c g w h h' → SaysLive n w → Live n h
  says_live_holds (as_lsp a b d e i) q = q
  says_live_holds (in_psnp a b d e i) q = q
  says_live_holds (in_csnp a b) q = q
  says_live_holds (omits_placeholder a b) q = absurd q
  says_live_holds (holds_none a) q = absurd q

  -- nothing that is no newer than live n is newer to its holder
  pub not_newer_than_live : (R : ℕ) (h : Held) → R ≤ n + n → Newer R h → Live n h → ⊥
  not_newer_than_live R none f w v = v
  not_newer_than_live R (held k) f w v = omega arith

  placeholder_conforms : (R : ℕ) (k : Copy) → R ≤ n + n → Newer R none → k.rank ≡ 0 → k.lifetime ≡ 0 → Conforms n L k
  placeholder_conforms R k b (j, e, p) q z = record { not_newer = omega arith; lifetime_in_step = λ (i : k.rank ≡ _). absurd (omega arith); form = inl z }

  pub hears_conforms : {P : Topology} {x c : ℕ} {w : Mention} {h h' : Held} → Hears P x c w h h' → SaysNoNewer n L w → Conforming n L h → (x ≡ P.owner → Live n h) → Conforming n L h'
  hears_conforms (own_newer {h = h} a b z) f g o = absurd (not_newer_than_live _ h f.0 b (o a))
  hears_conforms (newer_lsp a b) f g o = record {
    not_newer = rw b.rank f.0;
    lifetime_in_step = λ q. b.lifetime ∙ f.1 (sym b.rank ∙ q);
    form = rw (b.rank, b.lifetime) f.2;
  }
  hears_conforms (unknown_purge a) f g o = tt
  hears_conforms (same_lsp a b d e) f g o = reflagged_conforms b g
  hears_conforms (older_lsp a b d e) f g o = reflagged_conforms b g
  hears_conforms (unknown_not_live a) f g o = tt
  hears_conforms (unknown_entry {R = R} {k' = k} a b d e i) f g o = placeholder_conforms R k f a b d
  hears_conforms (same_entry a b d e i) f g o = reflagged_conforms b g
  hears_conforms (older_entry a b d e) f g o = reflagged_conforms b g
  hears_conforms (newer_entry a b d e i) f g o = reflagged_conforms b g
  hears_conforms unlisted_none f g o = tt
  hears_conforms (unlisted_live a b d e i) f g o = reflagged_conforms b g
  hears_conforms (unlisted_purge a) f g o = g

  pub hears_live : {P : Topology} {x c : ℕ} {w : Mention} {h h' : Held} → Hears P x c w h h' → SaysNoNewer n L w → Live n h → Live n h'
  hears_live (own_newer {h = h} a b z) f v = absurd (not_newer_than_live _ h f.0 b v)
  hears_live (newer_lsp {h = h} a b) f v = absurd (not_newer_than_live _ h f.0 a v)
  hears_live (unknown_purge a) f v = v
  hears_live (same_lsp a b d e) f v = b.rank ∙ v
  hears_live (older_lsp a b d e) f v = b.rank ∙ v
  hears_live (unknown_not_live a) f v = v
  hears_live (unknown_entry a b d e i) f v = absurd v
  hears_live (same_entry a b d e i) f v = b.rank ∙ v
  hears_live (older_entry a b d e) f v = b.rank ∙ v
  hears_live (newer_entry a b d e i) f v = b.rank ∙ v
  hears_live unlisted_none f v = v
  hears_live (unlisted_live a b d e i) f v = b.rank ∙ v
  hears_live (unlisted_purge a) f v = v

  -- what clears a holder's SRM on c: a mention of live n there; on broadcast, an LSP
  abbrev pub ClearsSrm : Topology → ℕ → ℕ → Mention → Type 0
  ClearsSrm P c d w = (c ≡ d) × SaysLive n w × ((P.point_to_point c ≡ true) ⊎ IsCopy w)

  reflagged_srm : (c d : ℕ) {k k' : Copy} → Reflagged d k k' → k.srm c ≡ true → k'.srm d ≡ true → k'.srm c ≡ true
  reflagged_srm c d {k} {k'} e s q = go (ℕ_discrete c d)
    where
      go : Dec (c ≡ d) → k'.srm c ≡ true
      go (yes i) = ap k'.srm i ∙ q
      go (no i) = e.srm c i ∙ s

  reflagged_clears_srm : (P : Topology) (c d : ℕ) (w : Mention) {k k' : Copy} → Reflagged d k k' → SaysLive n w → (P.point_to_point c ≡ true) ⊎ IsCopy w → k.srm c ≡ true → (k'.srm c ≡ true) ⊎ ClearsSrm P c d w
  reflagged_clears_srm P c d w {k} {k'} e t l s = go (ℕ_discrete c d)
    where
      go : Dec (c ≡ d) → (k'.srm c ≡ true) ⊎ ClearsSrm P c d w
      go (yes i) = inr (i, t, l)
      go (no i) = inl (e.srm c i ∙ s)

  reflagged_same_entry : (P : Topology) (c d : ℕ) (R : ℕ) {k k' : Copy} → Reflagged d k k' → R ≡ n + n → (P.point_to_point d ≡ false → k'.srm d ≡ k.srm d) → k.srm c ≡ true → (k'.srm c ≡ true) ⊎ ClearsSrm P c d (entry R)
  reflagged_same_entry P c d R {k} {k'} e t l s = go (ℕ_discrete c d) (outcome (P.point_to_point d))
    where
      go : Dec (c ≡ d) → Outcome (P.point_to_point d) → (k'.srm c ≡ true) ⊎ ClearsSrm P c d (entry R)
      go (yes i) (is_true j) = inr (i, t, inl (ap P.point_to_point i ∙ j))
      go (yes i) (is_false j) = inl (ap k'.srm i ∙ l j ∙ ap k.srm (sym i) ∙ s)
      go (no i) j = inl (e.srm c i ∙ s)

  pub hears_srm : {P : Topology} {x d : ℕ} (c : ℕ) {w : Mention} {h h' : Held} → Hears P x d w h h' → SaysNoNewer n L w → Live n h → Srm c h → Srm c h' ⊎ ClearsSrm P c d w
  hears_srm c (own_newer {h = h} a b z) f v s = absurd (not_newer_than_live _ h f.0 b v)
  hears_srm c (newer_lsp {h = h} a b) f v s = absurd (not_newer_than_live _ h f.0 a v)
  hears_srm c (unknown_purge a) f v s = absurd v
  hears_srm {P} {x} {d} c (same_lsp {R = R} {L = l} {C = C} a b i e) f v s = reflagged_clears_srm P c d (copy R l C) b (a ∙ v) (inr tt) s
  hears_srm {P} {x} {d} c (older_lsp a b i e) f v s = inl (reflagged_srm c d b s e)
  hears_srm c (unknown_not_live a) f v s = absurd v
  hears_srm c (unknown_entry a b d e i) f v s = absurd v
  hears_srm {P} {x} {d} c (same_entry {R = R} a b i e j) f v s = reflagged_same_entry P c d R b (a ∙ v) j s
  hears_srm {P} {x} {d} c (older_entry a b i e) f v s = inl (reflagged_srm c d b s e)
  hears_srm c (newer_entry {R = R} {k = k} a b d e i) f v s = absurd (omega arith)
  hears_srm c unlisted_none f v s = absurd v
  hears_srm {P} {x} {d} c (unlisted_live a b i e j) f v s = inl (reflagged_srm c d b s j)
  hears_srm c (unlisted_purge a) f v s = inl s

  pub sends_srm : {P : Topology} {r d : ℕ} (c : ℕ) {g : Kind} {w : Mention} {h h' : Held} → Sends P r d g w h h' → Live n h → Srm c h → Srm c h' ⊎ ((c ≡ d) × SaysLive n w × IsCopy w × (g ≡ lsp))
  sends_srm {P} {r} {d} c (as_lsp {k = k} {k' = k'} a b i e j) v s = go (ℕ_discrete c d)
    where
      go : Dec (c ≡ d) → (k'.srm c ≡ true) ⊎ ((c ≡ d) × (k.rank ≡ n + n) × Unit {0} × (lsp ≡ lsp))
      go (yes q) = inr (q, v, tt, refl)
      go (no q) = inl (b.srm c q ∙ s)
  sends_srm {P} {r} {d} c (in_psnp {k = k} {k' = k'} a b i e j) v s = inl (go (ℕ_discrete c d))
    where
      go : Dec (c ≡ d) → k'.srm c ≡ true
      go (yes q) = ap k'.srm q ∙ j ∙ ap k.srm (sym q) ∙ s
      go (no q) = i.srm c q ∙ s
  sends_srm c (in_csnp a b) v s = inl s
  sends_srm c (omits_placeholder a b) v s = inl s
  sends_srm c (holds_none a) v s = absurd v

  -- who hears an LSP of live n holds it
  pub hears_says_live : {P : Topology} {x c : ℕ} {w : Mention} {h h' : Held} → 1 ≤ n → Hears P x c w h h' → SaysLive n w → IsCopy w → SaysNoNewer n L w → Conforming n L h → (x ≡ P.owner → Live n h) → Live n h'
  hears_says_live p (own_newer {h = h} a b z) t l f g o = absurd (not_newer_than_live _ h f.0 b (o a))
  hears_says_live p (newer_lsp a b) t l f g o = b.rank ∙ t
  hears_says_live p (unknown_purge a) t l f g o = absurd (a (n, t, p))
  hears_says_live p (same_lsp a b d e) t l f g o = b.rank ∙ sym a ∙ t
  hears_says_live p (older_lsp {R = R} {k = k} a b d e) t l f g o = absurd (omega arith)
  hears_says_live p (unknown_not_live a) t l f g o = absurd l
  hears_says_live p (unknown_entry a b d e i) t l f g o = absurd l
  hears_says_live p (same_entry a b d e i) t l f g o = absurd l
  hears_says_live p (older_entry a b d e) t l f g o = absurd l
  hears_says_live p (newer_entry a b d e i) t l f g o = absurd l
  hears_says_live p unlisted_none t l f g o = absurd l
  hears_says_live p (unlisted_live a b d e i) t l f g o = absurd l
  hears_says_live p (unlisted_purge a) t l f g o = absurd l

  -- a holder that hears of something older, or is not listed, sets SRM
  abbrev pub SaysOlder : Mention → Type 0
  SaysOlder (copy R l C) = R < n + n
  SaysOlder (entry R) = R < n + n
  SaysOlder unlisted = Unit {0}

  pub hears_older : {P : Topology} {x c : ℕ} {w : Mention} {h h' : Held} → 1 ≤ L → Hears P x c w h h' → SaysOlder w → SaysNoNewer n L w → Conforming n L h → Live n h → Srm c h'
  hears_older p (own_newer {h = h} a b z) l f g v = absurd (not_newer_than_live _ h f.0 b v)
  hears_older p (newer_lsp {h = h} a b) l f g v = absurd (not_newer_than_live _ h f.0 a v)
  hears_older p (unknown_purge a) l f g v = absurd v
  hears_older p (same_lsp {R = R} {k = k} a b d e) l f g v = absurd (omega arith)
  hears_older p (older_lsp a b d e) l f g v = e
  hears_older p (unknown_not_live a) l f g v = absurd v
  hears_older p (unknown_entry a b d e i) l f g v = absurd v
  hears_older p (same_entry {R = R} {k = k} a b d e i) l f g v = absurd (omega arith)
  hears_older p (older_entry a b d e) l f g v = e
  hears_older p (newer_entry {R = R} {k = k} a b d e i) l f g v = absurd (omega arith)
  hears_older p unlisted_none l f g v = absurd v
  hears_older p (unlisted_live a b d e i) l f g v = i
  hears_older p (unlisted_purge {k = k} a) l f g v = let z = g.lifetime_in_step v in absurd (omega arith)

  -- a sender holds n, or says something older
  rank_older : (R : ℕ) → R ≤ n + n → (R ≡ n + n) ⊎ (R < n + n)
  rank_older R h = go (ℕ_discrete R (n + n))
    where
      go : Dec (R ≡ n + n) → (R ≡ n + n) ⊎ (R < n + n)
      go (yes q) = inl q
      go (no q) = inr (omega arith)

  pub sends_older : {P : Topology} {r c : ℕ} {g : Kind} {w : Mention} {h h' : Held} → Sends P r c g w h h' → Conforming n L h → Live n h ⊎ SaysOlder w
  sends_older (as_lsp {k = k} a b d e i) f = rank_older k.rank f.not_newer
  sends_older (in_psnp {k = k} a b d e i) f = rank_older k.rank f.not_newer
  sends_older (in_csnp {k = k} a b) f = rank_older k.rank f.not_newer
  sends_older (omits_placeholder a b) f = inr tt
  sends_older (holds_none a) f = inr tt

  -- ageing, where copies of n have one more to live than L
  pub ages_live : {P : Topology} {x : ℕ} {h h' : Held} → 1 ≤ L → Ages P x h h' → Conforming n (suc L) h → Live n h → Live n h'
  ages_live p none_ages f v = v
  ages_live p (live_ages a b d e i u) f v = d ∙ v
  ages_live p (expires {k = k} a b d e i j) f v = let z = f.lifetime_in_step v in absurd (omega arith)
  ages_live p (wait_falls {k = k} a b d e i j) f v = let z = f.lifetime_in_step v in absurd (omega arith)
  ages_live p (deleted {k = k} a b) f v = let z = f.lifetime_in_step v in absurd (omega arith)

  pub ages_srm : {P : Topology} {x : ℕ} {h h' : Held} (c : ℕ) → 1 ≤ L → Ages P x h h' → Conforming n (suc L) h → Live n h → Srm c h → Srm c h'
  ages_srm c p none_ages f v s = s
  ages_srm c p (live_ages a b d e i u) f v s = (i c).0 ∙ s
  ages_srm c p (expires {k = k} a b d e i j) f v s = let z = f.lifetime_in_step v in absurd (omega arith)
  ages_srm c p (wait_falls {k = k} a b d e i j) f v s = let z = f.lifetime_in_step v in absurd (omega arith)
  ages_srm c p (deleted {k = k} a b) f v s = let z = f.lifetime_in_step v in absurd (omega arith)

  expired_conforms : (k k' : Copy) → 1 ≤ L → Conforms n (suc L) k → k.lifetime ≡ 1 → k'.lifetime ≡ 0 → k'.rank ≡ suc k.rank → Conforms n L k'
  expired_conforms k k' p f a b d = go f.form
    where
      go : (k.lifetime ≡ 0) ⊎ ((j : ℕ) × (k.rank ≡ j + j)) → Conforms n L k'
      go (inl z) = absurd (omega arith)
      go (inr (j, e)) = go₂ (ℕ_discrete k.rank (n + n))
        where
          go₂ : Dec (k.rank ≡ n + n) → Conforms n L k'
          go₂ (yes i) = let z = f.lifetime_in_step i in absurd (omega arith)
          go₂ (no i) = let m = f.not_newer in record { not_newer = omega arith; lifetime_in_step = λ (q : k'.rank ≡ n + n). absurd (omega arith); form = inl b }

  pub ages_conforms : {P : Topology} {x : ℕ} {h h' : Held} → 1 ≤ L → Ages P x h h' → Conforming n (suc L) h → Conforming n L h'
  ages_conforms p none_ages f = tt
  ages_conforms p (live_ages {k = k} {k' = k'} a b d e i u) f = record {
    not_newer = rw d f.not_newer;
    lifetime_in_step = λ q. let z = f.lifetime_in_step (sym d ∙ q) in omega arith;
    form = go f.form;
  }
    where
      go : (k.lifetime ≡ 0) ⊎ ((j : ℕ) × (k.rank ≡ j + j)) → (k'.lifetime ≡ 0) ⊎ ((j : ℕ) × (k'.rank ≡ j + j))
      go (inl z) = absurd (omega arith)
      go (inr (j, q)) = inr (j, d ∙ q)
  ages_conforms p (expires {k = k} {k' = k'} a b d e i j) f = expired_conforms k k' p f a b d
  ages_conforms p (wait_falls {k = k} {k' = k'} a b d e i j) f = record {
    not_newer = rw i f.not_newer;
    lifetime_in_step = λ q. let z = f.lifetime_in_step (sym i ∙ q) in absurd (omega arith);
    form = inl b;
  }
  ages_conforms p (deleted a b) f = tt
