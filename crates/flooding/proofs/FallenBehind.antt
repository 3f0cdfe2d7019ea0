-- A copy that is behind: older than live n, with SSN or SRM on circuit c, and not deleted before it has said so.
use mathlib.Core.Path.{◌≡◌, sym, ◌∙◌, ap}
use mathlib.Core.Logic.{◌≢◌, ◌⊎◌, inl, inr}
use mathlib.Core.Bool.{true}
use Prim.Native.Nat.{ℕ, suc, ◌+◌, ◌≤◌, ◌<◌}
use native.Mathlib.Omega.{arith}
use native.Mathlib.Decide.{ℕ_discrete}
use Rattle.flooding.specs.Copies.{Topology, Copy, Held, none, held, Mention, entry, Live, Content}
use Rattle.flooding.specs.Rules.{Reflagged, Stored, Hears, own_newer, newer_lsp, unknown_purge, same_lsp, older_lsp, unknown_not_live, unknown_entry, same_entry, older_entry, newer_entry, unlisted_none, unlisted_live, unlisted_purge, Sends, as_lsp, in_psnp, in_csnp, omits_placeholder, holds_none, Kind}
use Rattle.flooding.specs.CopyTicks.{Ages, none_ages, live_ages, expires, wait_falls, deleted}
use Rattle.flooding.specs.Stretches.{Conforms, Conforming}
use Rattle.flooding.proofs.OneCopy

-- it has no wait, or its wait of 60 began at most e ticks ago
pub record Behind (n c e : ℕ) (k : Copy) : Type 0 where
  pub older : k.rank < n + n
  pub flag : (k.ssn c ≡ true) ⊎ (k.srm c ≡ true)
  pub wait : (k.wait ≡ 0) ⊎ (60 ≤ k.wait + e)

abbrev pub IsBehind : ℕ → ℕ → ℕ → Held → Type 0
IsBehind n c e none = ⊥
IsBehind n c e (held k) = Behind n c e k

pub behind_not_live : (n c e : ℕ) (h : Held) → IsBehind n c e h → Live n h → ⊥
behind_not_live n c e none y v = v
behind_not_live n c e (held k) y v = omega arith

module _ (P : Topology) (n L c e : ℕ) where
  fresh_wait : (w : ℕ) → (w ≡ 0) ⊎ (w ≡ 60) → (w ≡ 0) ⊎ (60 ≤ w + e)
  fresh_wait w (inl i) = inl i
  fresh_wait w (inr i) = inr (omega arith)

  -- nothing on c changed
  reflagged_behind : {d : ℕ} {k k' : Copy} → d ≢ c → Reflagged d k k' → (k'.wait ≡ k.wait) ⊎ ((k'.wait ≡ 0) ⊎ (k'.wait ≡ 60)) → Behind n c e k → Behind n c e k'
  reflagged_behind {d} {k} {k'} i f w y = record { older = rw f.rank y.older; flag = go y.flag; wait = go₂ w }
    where
      ne : c ≢ d
      ne q = i (sym q)

      go : (k.ssn c ≡ true) ⊎ (k.srm c ≡ true) → (k'.ssn c ≡ true) ⊎ (k'.srm c ≡ true)
      go (inl a) = inl (f.ssn c ne ∙ a)
      go (inr a) = inr (f.srm c ne ∙ a)

      go₂ : (k'.wait ≡ k.wait) ⊎ ((k'.wait ≡ 0) ⊎ (k'.wait ≡ 60)) → (k'.wait ≡ 0) ⊎ (60 ≤ k'.wait + e)
      go₂ (inl a) = rw a y.wait
      go₂ (inr a) = fresh_wait k'.wait a

  -- the mention is on another circuit, or says live n
  abbrev ElsewhereOrLive : ℕ → Mention → Type 0
  ElsewhereOrLive d w = (d ≢ c) ⊎ ((d ≡ c) × OneCopy.SaysLive n w)

  stored : (x d R l : ℕ) (C : Content) (k' : Copy) → P.attached x c ≡ true → R ≤ n + n → (d ≢ c) ⊎ ((d ≡ c) × (R ≡ n + n)) → Stored P x d R l C k' → (k'.rank ≡ n + n) ⊎ Behind n c e k'
  stored x d R l C k' o m f s = go (ℕ_discrete R (n + n)) f
    where
      go : Dec (R ≡ n + n) → (d ≢ c) ⊎ ((d ≡ c) × (R ≡ n + n)) → (k'.rank ≡ n + n) ⊎ Behind n c e k'
      go (yes i) j = inl (s.rank ∙ i)
      go (no i) (inr (q, j)) = absurd (i j)
      go (no i) (inl j) = inr (record { older = rw s.rank (omega arith); flag = inr (s.elsewhere c (λ q. j (sym q)) o).0; wait = fresh_wait k'.wait s.wait })

  -- only flags on circuit d changed
  rest : (d R : ℕ) (k k' : Copy) → Reflagged d k k' → k'.wait ≡ k.wait → Behind n c e k → (d ≢ c) ⊎ ((d ≡ c) × (R ≡ n + n)) → (R ≡ n + n → ⊥) → (k'.rank ≡ n + n) ⊎ Behind n c e k'
  rest d R k k' f w y (inl i) z = inr (reflagged_behind i f (inl w) y)
  rest d R k k' f w y (inr (q, j)) z = absurd (z j)

  pub behind_hears : {x d : ℕ} {w : Mention} {h h' : Held} → Hears P x d w h h' → P.attached x c ≡ true → OneCopy.SaysNoNewer n L w → (x ≡ P.owner → Live n h) → ElsewhereOrLive d w → IsBehind n c e h → Live n h' ⊎ IsBehind n c e h'
  behind_hears (own_newer {h = h} a b z) o f ow fr y = absurd (behind_not_live n c e h y (ow a))
  behind_hears {x} {d} (newer_lsp {R = R} {L = l} {C = C} {k' = k'} a b) o f ow fr y = stored x d R l C k' o f.0 fr b
  behind_hears (unknown_purge a) o f ow fr y = absurd y
  behind_hears {x} {d} (same_lsp {R = R} {k = k} {k' = k'} a b i j) o f ow fr y = rest d R k k' b i y fr (λ q. omega arith)
  behind_hears {x} {d} (older_lsp {R = R} {k = k} {k' = k'} a b i j) o f ow fr y = rest d R k k' b i y fr (λ q. omega arith)
  behind_hears (unknown_not_live a) o f ow fr y = absurd y
  behind_hears (unknown_entry a b i j l) o f ow fr y = absurd y
  behind_hears {x} {d} (same_entry {R = R} {k = k} {k' = k'} a b i j l) o f ow fr y = rest d R k k' b i y fr (λ q. omega arith)
  behind_hears {x} {d} (older_entry {R = R} {k = k} {k' = k'} a b i j) o f ow fr y = rest d R k k' b i y fr (λ q. omega arith)
  behind_hears {x} {d} (newer_entry {R = R} {k = k} {k' = k'} a b i j l) o f ow fr y = go fr
    where
      go : ElsewhereOrLive d (entry R) → (k'.rank ≡ n + n) ⊎ Behind n c e k'
      go (inl q) = inr (reflagged_behind q b (inr i) y)
      go (inr (q, t)) = inr (record { older = rw b.rank y.older; flag = inl (ap k'.ssn (sym q) ∙ j); wait = fresh_wait k'.wait i })
  behind_hears unlisted_none o f ow fr y = absurd y
  behind_hears (unlisted_live a b i j l) o f ow (inl q) y = inr (reflagged_behind q b (inl i) y)
  behind_hears (unlisted_live a b i j l) o f ow (inr q) y = absurd q.1
  behind_hears (unlisted_purge a) o f ow fr y = inr y

  pub behind_sends : {x d : ℕ} {g : Kind} {w : Mention} {h h' : Held} → Sends P x d g w h h' → d ≢ c → IsBehind n c e h → IsBehind n c e h'
  behind_sends (as_lsp a b i j l) ne y = reflagged_behind ne b (inl i) y
  behind_sends (in_psnp a b i j l) ne y = reflagged_behind ne i (inl j) y
  behind_sends (in_csnp a b) ne y = y
  behind_sends (omits_placeholder a b) ne y = y
  behind_sends (holds_none a) ne y = y

  -- a router that hears a holder's CSNP holds n or falls behind with SSN set
  pub asks : {x : ℕ} {w : Mention} {h h' : Held} → 1 ≤ n → Hears P x c w h h' → OneCopy.SaysLive n w → (OneCopy.IsCopy w → ⊥) → Conforming n L h → Live n h' ⊎ IsBehind n c e h'
  asks p (own_newer a b z) t l f = absurd (l tt)
  asks p (newer_lsp a b) t l f = absurd (l tt)
  asks p (unknown_purge a) t l f = absurd (l tt)
  asks p (same_lsp a b i j) t l f = absurd (l tt)
  asks p (older_lsp a b i j) t l f = absurd (l tt)
  asks p (unknown_not_live a) t l f = absurd (a (n, t, p))
  asks p (unknown_entry {k' = k'} a b i j q) t l f = inr (record { older = omega arith; flag = inl q; wait = inr (omega arith) })
  asks p (same_entry a b i j q) t l f = inl (b.rank ∙ sym a ∙ t)
  asks p (older_entry {R = R} {k = k} a b i j) t l f = let z = f.not_newer in absurd (omega arith)
  asks p (newer_entry {R = R} {k = k} {k' = k'} a b i j q) t l f = inr (record { older = rw b.rank (omega arith); flag = inl j; wait = fresh_wait k'.wait i })
  asks p unlisted_none t l f = absurd t
  asks p (unlisted_live a b i j q) t l f = absurd t
  asks p (unlisted_purge a) t l f = absurd t

  expired_behind : (k k' : Copy) → Conforms n (suc L) k → k.lifetime ≡ 1 → k'.rank ≡ suc k.rank → k'.wait ≡ 60 → k'.srm c ≡ true → k.rank < n + n → Behind n c (suc e) k'
  expired_behind k k' f a r w s y = record { older = go f.form; flag = inr s; wait = inr (omega arith) }
    where
      go : (k.lifetime ≡ 0) ⊎ ((j : ℕ) × (k.rank ≡ j + j)) → k'.rank < n + n
      go (inl z) = absurd (omega arith)
      go (inr (j, q)) = omega arith

  pub behind_ages : {x : ℕ} {h h' : Held} → Ages P x h h' → P.attached x c ≡ true → Conforming n (suc L) h → e < 50 → IsBehind n c e h → IsBehind n c (suc e) h'
  behind_ages none_ages o f m y = y
  behind_ages (live_ages {k = k} {k' = k'} a b i j q u) o f m y = record { older = rw i y.older; flag = go y.flag; wait = go₂ y.wait }
    where
      go : (k.ssn c ≡ true) ⊎ (k.srm c ≡ true) → (k'.ssn c ≡ true) ⊎ (k'.srm c ≡ true)
      go (inl z) = inl ((q c).1 ∙ z)
      go (inr z) = inr ((q c).0 ∙ z)

      go₂ : (k.wait ≡ 0) ⊎ (60 ≤ k.wait + e) → (k'.wait ≡ 0) ⊎ (60 ≤ k'.wait + suc e)
      go₂ (inl z) = inl (j ∙ z)
      go₂ (inr z) = inr (omega arith)
  behind_ages (expires {k = k} {k' = k'} a b i j q l) o f m y = expired_behind k k' f a i j (q c o) y.older
  behind_ages (wait_falls {k = k} {k' = k'} a b i j q l) o f m y = record { older = rw q y.older; flag = go y.flag; wait = go₂ y.wait }
    where
      go : (k.ssn c ≡ true) ⊎ (k.srm c ≡ true) → (k'.ssn c ≡ true) ⊎ (k'.srm c ≡ true)
      go (inl z) = inl ((l c).1 ∙ z)
      go (inr z) = inr ((l c).0 ∙ z)

      go₂ : (k.wait ≡ 0) ⊎ (60 ≤ k.wait + e) → (k'.wait ≡ 0) ⊎ (60 ≤ k'.wait + suc e)
      go₂ (inl z) = absurd (omega arith)
      go₂ (inr z) = inr (omega arith)
  behind_ages (deleted {k = k} a b) o f m y = go₂ y.wait
    where
      go₂ : (k.wait ≡ 0) ⊎ (60 ≤ k.wait + e) → ⊥
      go₂ (inl z) = omega arith
      go₂ (inr z) = omega arith
