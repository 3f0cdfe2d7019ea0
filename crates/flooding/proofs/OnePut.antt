-- What one put with its deliveries does, where all are in step: they stay so, holders stay holders, an LSP of live n reaches every end, and
-- what is pending over a circuit stays pending until it is delivered.
use mathlib.Core.Path.{◌≡◌, refl, sym, ◌∙◌, ap, subst}
use mathlib.Core.Logic.{◌≢◌, ◌⊎◌, inl, inr}
use mathlib.Core.Bool.{Bool, true, false}
use Prim.Native.Nat.{ℕ, ◌≤◌}
use native.Mathlib.Decide.{ℕ_discrete}
use Rattle.flooding.specs.Copies.{Topology, Held, Holdings, Mention, Live}
use Rattle.flooding.specs.Rules.{Hears, Sends, as_lsp, in_psnp, in_csnp, omits_placeholder, holds_none, Kind, lsp, Delivery, sender, hears, ignores, misses, detached, Put, Heeds}
use Rattle.flooding.specs.CopyTicks.{Srm}
use Rattle.flooding.specs.Stretches.{Conforming, InStep}
use Rattle.flooding.proofs.OneCopy
use Rattle.flooding.proofs.Tests.{clash}

pub sender_sends : {P : Topology} {b : Bool} {r c : ℕ} {g : Kind} {w : Mention} {h h' : Held} → Delivery P b r c g w r h h' → Sends P r c g w h h'
sender_sends (sender e q) = q
sender_sends (hears e a d q) = absurd (e refl)
sender_sends (ignores e a) = absurd (e refl)
sender_sends (misses e a) = absurd (e refl)
sender_sends (detached e a) = absurd (e refl)

module _ (P : Topology) (n : ℕ) where
  delivery_conforms : (L : ℕ) {b : Bool} {r c x : ℕ} {g : Kind} {w : Mention} {h h' : Held} → Delivery P b r c g w x h h' → OneCopy.SaysNoNewer n L w → Conforming n L h → (x ≡ P.owner → Live n h) → Conforming n L h'
  delivery_conforms L (sender e q) f i o = OneCopy.sends_conforms n L q i
  delivery_conforms L (hears e a d q) f i o = OneCopy.hears_conforms n L q f i o
  delivery_conforms L (ignores e a) f i o = i
  delivery_conforms L (misses e a) f i o = i
  delivery_conforms L (detached e a) f i o = i

  delivery_live : (L : ℕ) {b : Bool} {r c x : ℕ} {g : Kind} {w : Mention} {h h' : Held} → Delivery P b r c g w x h h' → OneCopy.SaysNoNewer n L w → Live n h → Live n h'
  delivery_live L (sender e q) f v = OneCopy.sends_live n L q v
  delivery_live L (hears e a d q) f v = OneCopy.hears_live n L q f v
  delivery_live L (ignores e a) f v = v
  delivery_live L (misses e a) f v = v
  delivery_live L (detached e a) f v = v

  module _ {b : Bool} {r c : ℕ} {g : Kind} {s s' : Holdings} (p : Put P b r c g s s') (G : InStep P n s) where
    pub says_no_newer : OneCopy.SaysNoNewer n G.left p.mention
    says_no_newer = OneCopy.sends_no_newer n G.left (sender_sends (p.delivery r)) (G.conforming r)

    pub put_live : (x : ℕ) → Live n (s x) → Live n (s' x)
    put_live x v = delivery_live G.left (p.delivery x) says_no_newer v

    pub owns : (x : ℕ) → x ≡ P.owner → Live n (s x)
    owns x e = subst (λ (y : ℕ). Live n (s y)) (sym e) G.owner_holds

    pub put_in_step : InStep P n s'
    put_in_step = record {
      left = G.left;
      positive = G.positive;
      conforming = λ x. delivery_conforms G.left (p.delivery x) says_no_newer (G.conforming x) (owns x);
      owner_holds = put_live P.owner G.owner_holds;
    }

    pub said_older : Live n (s r) ⊎ OneCopy.SaysOlder n G.left p.mention
    said_older = OneCopy.sends_older n G.left (sender_sends (p.delivery r)) (G.conforming r)

pub must_hear : {P : Topology} {r c x : ℕ} {g : Kind} {w : Mention} {h h' : Held} → Delivery P false r c g w x h h' → x ≢ r → P.attached x c ≡ true → Heeds P x c g → Hears P x c w h h'
must_hear (sender e q) i o k = absurd (i e)
must_hear (hears e a d q) i o k = q
must_hear (ignores e a) i o k = absurd (a k)
must_hear (misses e a) i o k = clash a refl
must_hear (detached e a) i o k = clash o a

pub lsp_heeds : {P : Topology} {r c : ℕ} (x : ℕ) {g : Kind} {w : Mention} {h h' : Held} → Sends P r c g w h h' → OneCopy.IsCopy w → Heeds P x c g
lsp_heeds x (as_lsp a b d e i) l = tt
lsp_heeds x (in_psnp a b d e i) l = absurd l
lsp_heeds x (in_csnp a b) l = absurd l
lsp_heeds x (omits_placeholder a b) l = absurd l
lsp_heeds x (holds_none a) l = absurd l

-- v holds n, or u holds it and has SRM on circuit c
abbrev pub Pending : ℕ → ℕ → ℕ → ℕ → Holdings → Type 0
Pending n c u v s = Live n (s v) ⊎ (Live n (s u) × Srm c (s u))

module _ (P : Topology) (n : ℕ) (c u v : ℕ) (onv : P.attached v c ≡ true) (one : 1 ≤ n)
    (ends : P.point_to_point c ≡ true → (r : ℕ) → P.attached r c ≡ true → (r ≡ u) ⊎ (r ≡ v)) where
  Announces : ℕ → ℕ → Mention → Type 0
  Announces r d w = (c ≡ d) × OneCopy.SaysLive n w × (((P.point_to_point c ≡ true) × (u ≢ r)) ⊎ OneCopy.IsCopy w)

  delivery_srm : (L : ℕ) {r d : ℕ} {g : Kind} {w : Mention} {h h' : Held} → Delivery P false r d g w u h h' → OneCopy.SaysNoNewer n L w → Live n h → Srm c h → Srm c h' ⊎ Announces r d w
  unfolding Announces
  delivery_srm L {r} {d} {g} {w} {h} {h'} (sender e q) f l s = go (OneCopy.sends_srm n L c q l s)
    where
      go : Srm c h' ⊎ ((c ≡ d) × OneCopy.SaysLive n w × OneCopy.IsCopy w × (g ≡ lsp)) → Srm c h' ⊎ Announces r d w
      go (inl a) = inl a
      go (inr (a, t, k, z)) = inr (a, t, inr k)
  delivery_srm L {r} {d} {g} {w} {h} {h'} (hears e a i q) f l s = go (OneCopy.hears_srm n L c q f l s)
    where
      go : Srm c h' ⊎ OneCopy.ClearsSrm n L P c d w → Srm c h' ⊎ Announces r d w
      go (inl a) = inl a
      go (inr (a, t, inl k)) = inr (a, t, inl (k, e))
      go (inr (a, t, inr k)) = inr (a, t, inr k)
  delivery_srm L (ignores e a) f l s = inl s
  delivery_srm L (misses e a) f l s = inl s
  delivery_srm L (detached e a) f l s = inl s

  -- an LSP of n on c reaches v
  pub lsp_reaches : {r : ℕ} {g : Kind} {s s' : Holdings} (p : Put P false r c g s s') → InStep P n s → OneCopy.SaysLive n p.mention → OneCopy.IsCopy p.mention → Live n (s' v)
  lsp_reaches {r} {g} {s} {s'} p G t l = go (ℕ_discrete v r)
    where
      go : Dec (v ≡ r) → Live n (s' v)
      go (yes e) = put_live P n p G v (subst (λ (y : ℕ). Live n (s y)) (sym e) (OneCopy.says_live_holds n G.left (sender_sends (p.delivery r)) t))
      go (no e) = OneCopy.hears_says_live n G.left one (must_hear (p.delivery v) e onv (lsp_heeds v (sender_sends (p.delivery r)) l)) t l (says_no_newer P n p G) (G.conforming v) (owns P n p G v)

  pub put_pending : {r d : ℕ} {g : Kind} {s s' : Holdings} → Put P false r d g s s' → InStep P n s → Pending n c u v s → Pending n c u v s'
  unfolding Announces
  put_pending p G (inl l) = inl (put_live P n p G v l)
  put_pending {r} {d} {g} {s} {s'} p G (inr (l, k)) = go (delivery_srm G.left (p.delivery u) (says_no_newer P n p G) l k)
    where
      here : c ≡ d → P.attached r c ≡ true
      here e = ap (P.attached r) e ∙ p.sender_attached

      go : Srm c (s' u) ⊎ Announces r d p.mention → Pending n c u v s'
      go (inl a) = inr (put_live P n p G u l, a)
      go (inr (a, t, inl (k, e))) = go₂ (ends k r (here a))
        where
          go₂ : (r ≡ u) ⊎ (r ≡ v) → Pending n c u v s'
          go₂ (inl i) = absurd (e (sym i))
          go₂ (inr i) = inl (put_live P n p G v (subst (λ (y : ℕ). Live n (s y)) i (OneCopy.says_live_holds n G.left (sender_sends (p.delivery r)) t)))
      go (inr (a, t, inr k)) = inl (lsp_reaches (subst (λ (y : ℕ). Put P false r y g s s') (sym a) p) G t k)
