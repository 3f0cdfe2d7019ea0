-- Each single step keeps the invariant (specs/Consistency): a put, ageing, an issue, a withdrawal. With an active slot it says that all copies are
-- in step.
use mathlib.Core.Path.{◌≡◌, refl, sym, ◌∙◌, ap, subst}
use mathlib.Core.Logic.{◌⊎◌, inl, inr}
use mathlib.Core.Bool.{Bool, true, false}
use Prim.Native.Nat.{ℕ, suc, ◌+◌, ◌≤◌}
use native.Mathlib.Omega.{arith}
use native.Mathlib.Decide.{ℕ_discrete}
use Rattle.flooding.specs.Copies.{Topology, Copy, Held, none, held, Holdings, Mention, Live, NotLive, Content, Newer}
use Rattle.flooding.specs.Rules.{Stored, Reflagged, Purged, OwnerAnswers, Hears, own_newer, newer_lsp, unknown_purge, same_lsp, older_lsp, unknown_not_live, unknown_entry, same_entry, older_entry, newer_entry, unlisted_none, unlisted_live, unlisted_purge, Sends, as_lsp, in_psnp, in_csnp, omits_placeholder, holds_none, Kind, Delivery, sender, hears, ignores, misses, detached, Put}
use Rattle.flooding.specs.CopyTicks.{Ages, none_ages, live_ages, expires, wait_falls, deleted}
use Rattle.flooding.specs.Stretches.{Conforming, InStep}
use Rattle.flooding.proofs.OneCopy
use Rattle.flooding.proofs.OnePut.{sender_sends, put_in_step}
use Rattle.flooding.proofs.PutsToTicks.{age_in_step}
use Rattle.flooding.specs.Consistency.{Consistent, Allowed, NotNewer, AllowedCopy, AllowedMention}
use Rattle.flooding.specs.CopyRuns.{Slot, Issue, Withdrawal}
use Rattle.flooding.proofs.Tests.{clash}

module _ (P : Topology) (clock : ℕ) (S : Slot) where
  -- a live copy of the last number ends with its issue
  top_life : (k : Copy) → 1 ≤ S.last → AllowedCopy S clock k.rank k.lifetime k.content → k.rank ≡ S.last + S.last → (k.lifetime + clock ≡ S.ends S.last) × (1 ≤ k.lifetime)
  top_life k o (inl (m, e, i, j, p, q, u)) r = let z : m ≡ S.last = omega arith in (q ∙ ap S.ends z, p)
  top_life k o (inr (l, inl e)) r = absurd (omega arith)
  top_life k o (inr (l, inr (m, e, j, i))) r = absurd (omega arith)

  held_life : (h : Held) → 1 ≤ S.last → Allowed S clock h → Live S.last h → (L : ℕ) × (L + clock ≡ S.ends S.last) × (1 ≤ L)
  held_life none o l v = absurd v
  held_life (held k) o l v = let t = top_life k o l v in (k.lifetime, t.0, t.1)

  allowed_conforms : (L : ℕ) (h : Held) → L + clock ≡ S.ends S.last → 1 ≤ S.last → Allowed S clock h → NotNewer S.last h → Conforming S.last L h
  allowed_conforms L none e o l m = tt
  allowed_conforms L (held k) e o l m = record {
    not_newer = m;
    lifetime_in_step = λ q. let t = top_life k o l q in omega arith;
    form = go l;
  }
    where
      go : AllowedCopy S clock k.rank k.lifetime k.content → (k.lifetime ≡ 0) ⊎ ((j : ℕ) × (k.rank ≡ j + j))
      go (inl z) = inr (z.0, z.1)
      go (inr (z, i)) = inl z

  -- with an active slot all are in step
  pub consistent_in_step : {s : Holdings} → Consistent P clock S s → P.active ≡ true → InStep P S.last s
  consistent_in_step {s} Z a = go (held_life (s P.owner) (Z.numbered a) (Z.allowed P.owner) (Z.owner_holds a))
    where
      go : (L : ℕ) × (L + clock ≡ S.ends S.last) × (1 ≤ L) → InStep P S.last s
      go (L, e, p) = record { left = L; positive = p; conforming = λ x. allowed_conforms L (s x) e (Z.numbered a) (Z.allowed x) (Z.not_newer a x); owner_holds = Z.owner_holds a }

  reflagged_allowed : {c : ℕ} {k k' : Copy} → Reflagged c k k' → Allowed S clock (held k) → Allowed S clock (held k')
  reflagged_allowed f l = rw (f.rank, f.lifetime, f.content) l

  pub sends_allowed_mention : {r c : ℕ} {g : Kind} {w : Mention} {h h' : Held} → Sends P r c g w h h' → Allowed S clock h → AllowedMention S clock w
  sends_allowed_mention (as_lsp a b d e i) l = l
  sends_allowed_mention (in_psnp a b d e i) l = tt
  sends_allowed_mention (in_csnp a b) l = tt
  sends_allowed_mention (omits_placeholder a b) l = tt
  sends_allowed_mention (holds_none a) l = tt

  sends_allowed : {r c : ℕ} {g : Kind} {w : Mention} {h h' : Held} → Sends P r c g w h h' → Allowed S clock h → Allowed S clock h'
  sends_allowed (as_lsp a b d e i) l = reflagged_allowed b l
  sends_allowed (in_psnp a b d e i) l = reflagged_allowed d l
  sends_allowed (in_csnp a b) l = l
  sends_allowed (omits_placeholder a b) l = l
  sends_allowed (holds_none a) l = l

  -- no number above the last
  pub number_bound : (R l : ℕ) (C : Content) → AllowedCopy S clock R l C → R ≤ suc (S.last + S.last)
  number_bound R l C (inl (m, e, i, j, p, q, u)) = omega arith
  number_bound R l C (inr (z, inl e)) = omega arith
  number_bound R l C (inr (z, inr (m, e, j, i))) = omega arith

  purged_allowed : (x R l : ℕ) (C : Content) (k : Copy) → 1 ≤ R → Purged P x R k → AllowedCopy S clock R l C → AllowedCopy S clock k.rank k.lifetime k.content
  purged_allowed x R l C k o b w = let g = go w b.rank in inr (b.lifetime, inr (b.purge.0, b.purge.1, g.0, g.1))
    where
      go : AllowedCopy S clock R l C → (k.rank ≡ R) ⊎ (k.rank ≡ suc R) → (1 ≤ b.purge.0) × (b.purge.0 ≤ S.last)
      go (inl (m, e, i, j, p, q, u)) (inl z) = let y = b.purge.1 in (omega arith, omega arith)
      go (inl (m, e, i, j, p, q, u)) (inr z) = let y = b.purge.1 in (omega arith, omega arith)
      go (inr (a, inl e)) z = absurd (omega arith)
      go (inr (a, inr (m, e, j, i))) (inl z) = let y = b.purge.1 in (omega arith, omega arith)
      go (inr (a, inr (m, e, j, i))) (inr z) = let y = b.purge.1 in (omega arith, omega arith)

  newer-rank : (R : ℕ) (h : Held) → Newer R h → 1 ≤ R
  newer-rank R none (n, e, o) = omega arith
  newer-rank R (held k) n = omega arith

  answers_allowed : (x R l : ℕ) (C : Content) (h : Held) → 1 ≤ R → (P.active ≡ true → ⊥) → OwnerAnswers P x R h → AllowedCopy S clock R l C → Allowed S clock h
  answers_allowed x R l C none o z a w = tt
  answers_allowed x R l C (held k) o z (inl a) w = absurd (z a)
  answers_allowed x R l C (held k) o z (inr a) w = purged_allowed x R l C k o a w

  stored_allowed : {x c R l : ℕ} {C : Content} {k : Copy} → Stored P x c R l C k → AllowedCopy S clock R l C → Allowed S clock (held k)
  stored_allowed b (inl (m, e, i, j, p, q, u)) = inl (m, b.rank ∙ e, i, j, rw b.lifetime p, rw b.lifetime q, b.content p ∙ u)
  stored_allowed b (inr w) = inr (rw (b.rank, b.lifetime) w)

  hears_allowed : {x c : ℕ} {w : Mention} {h h' : Held} → Hears P x c w h h' → AllowedMention S clock w → Allowed S clock h →
      (x ≡ P.owner → P.active ≡ true → (L : ℕ) × OneCopy.SaysNoNewer S.last L w × Live S.last h) → Allowed S clock h'
  hears_allowed {x} (own_newer {R = R} {L = l} {C = C} {h = h} {h' = h'} a b z) w g o =
      answers_allowed x R l C h' (newer-rank R h b) (λ i. let q = o a i in OneCopy.not_newer_than_live S.last q.0 R h q.1.0 b q.2) z w
  hears_allowed (newer_lsp a b) w g o = stored_allowed b w
  hears_allowed (unknown_purge a) w g o = tt
  hears_allowed (same_lsp a b d e) w g o = reflagged_allowed b g
  hears_allowed (older_lsp a b d e) w g o = reflagged_allowed b g
  hears_allowed (unknown_not_live a) w g o = tt
  hears_allowed (unknown_entry a b d e i) w g o = inr (d, inl b)
  hears_allowed (same_entry a b d e i) w g o = reflagged_allowed b g
  hears_allowed (older_entry a b d e) w g o = reflagged_allowed b g
  hears_allowed (newer_entry a b d e i) w g o = reflagged_allowed b g
  hears_allowed unlisted_none w g o = tt
  hears_allowed (unlisted_live a b d e i) w g o = reflagged_allowed b g
  hears_allowed (unlisted_purge a) w g o = g

  delivery_allowed : {b : Bool} {r c x : ℕ} {g : Kind} {w : Mention} {h h' : Held} → Delivery P b r c g w x h h' → AllowedMention S clock w → Allowed S clock h →
      (x ≡ P.owner → P.active ≡ true → (L : ℕ) × OneCopy.SaysNoNewer S.last L w × Live S.last h) → Allowed S clock h'
  delivery_allowed (sender e q) w l o = sends_allowed q l
  delivery_allowed (hears e a d q) w l o = hears_allowed q w l o
  delivery_allowed (ignores e a) w l o = l
  delivery_allowed (misses e a) w l o = l
  delivery_allowed (detached e a) w l o = l

  sends_not_live : {r c : ℕ} {g : Kind} {w : Mention} {h h' : Held} → Sends P r c g w h h' → NotLive h → NotLive h'
  sends_not_live (as_lsp a b d e i) l = b.lifetime ∙ l
  sends_not_live (in_psnp a b d e i) l = d.lifetime ∙ l
  sends_not_live (in_csnp a b) l = l
  sends_not_live (omits_placeholder a b) l = l
  sends_not_live (holds_none a) l = l

  answers_not_live : (x R : ℕ) (h : Held) → P.active ≡ false → OwnerAnswers P x R h → NotLive h
  answers_not_live x R none z a = tt
  answers_not_live x R (held k) z (inl a) = clash a z
  answers_not_live x R (held k) z (inr a) = a.lifetime

  hears_not_live : {x c : ℕ} {w : Mention} {h h' : Held} → Hears P x c w h h' → P.active ≡ false → x ≡ P.owner → NotLive h → NotLive h'
  hears_not_live {x} (own_newer {R = R} {h' = h'} a b z) i o l = answers_not_live x R h' i z
  hears_not_live (newer_lsp a b) i o l = absurd (b.foreign o)
  hears_not_live (unknown_purge a) i o l = tt
  hears_not_live (same_lsp a b d e) i o l = b.lifetime ∙ l
  hears_not_live (older_lsp a b d e) i o l = b.lifetime ∙ l
  hears_not_live (unknown_not_live a) i o l = tt
  hears_not_live (unknown_entry a b d e j) i o l = d
  hears_not_live (same_entry a b d e j) i o l = b.lifetime ∙ l
  hears_not_live (older_entry a b d e) i o l = b.lifetime ∙ l
  hears_not_live (newer_entry a b d e j) i o l = b.lifetime ∙ l
  hears_not_live unlisted_none i o l = tt
  hears_not_live (unlisted_live a b d e j) i o l = b.lifetime ∙ l
  hears_not_live (unlisted_purge a) i o l = l

  delivery_not_live : {b : Bool} {r c x : ℕ} {g : Kind} {w : Mention} {h h' : Held} → Delivery P b r c g w x h h' → P.active ≡ false → x ≡ P.owner → NotLive h → NotLive h'
  delivery_not_live (sender e q) i o l = sends_not_live q l
  delivery_not_live (hears e a d q) i o l = hears_not_live q i o l
  delivery_not_live (ignores e a) i o l = l
  delivery_not_live (misses e a) i o l = l
  delivery_not_live (detached e a) i o l = l

  conforms_not_newer : (L : ℕ) (h : Held) → Conforming S.last L h → NotNewer S.last h
  conforms_not_newer L none f = tt
  conforms_not_newer L (held k) f = f.not_newer

  pub owner_hears_no_newer : {b : Bool} {r c : ℕ} {g : Kind} {s s' : Holdings} (p : Put P b r c g s s') → Consistent P clock S s → (x : ℕ) → x ≡ P.owner → P.active ≡ true → (L : ℕ) × OneCopy.SaysNoNewer S.last L p.mention × Live S.last (s x)
  owner_hears_no_newer {b} {r} {c} {g} {s} {s'} p Z x e a =
      let G = consistent_in_step Z a in
      (G.left, OneCopy.sends_no_newer S.last G.left (sender_sends (p.delivery r)) (G.conforming r), subst (λ (y : ℕ). Live S.last (s y)) (sym e) G.owner_holds)

  pub consistent_put : {b : Bool} {r c : ℕ} {g : Kind} {s s' : Holdings} → Put P b r c g s s' → Consistent P clock S s → Consistent P clock S s'
  consistent_put {b} {r} {c} {g} {s} {s'} p Z = record {
    allowed = λ x. delivery_allowed (p.delivery x) (sends_allowed_mention (sender_sends (p.delivery r)) (Z.allowed r)) (Z.allowed x) (λ e a. owner_hears_no_newer p Z x e a);
    owner_holds = λ a. (put_in_step P S.last p (consistent_in_step Z a)).owner_holds;
    not_newer = λ a x. let G = put_in_step P S.last p (consistent_in_step Z a) in conforms_not_newer G.left (s' x) (G.conforming x);
    numbered = Z.numbered;
    not_live = λ a. delivery_not_live (p.delivery P.owner) a refl (Z.not_live a);
  }

-- ageing
module _ (P : Topology) (clock : ℕ) (S : Slot) where
  ages_allowed : {A : Topology} {x : ℕ} {h h' : Held} → Ages A x h h' → Allowed S clock h → Allowed S (suc clock) h'
  ages_allowed none_ages l = tt
  ages_allowed (live_ages {k = k} {k' = k'} a b d e i u) (inl (m, q, o, p, z, y, g)) = inl (m, d ∙ q, o, p, b, omega arith, u ∙ g)
  ages_allowed (live_ages {k = k} {k' = k'} a b d e i u) (inr (z, y)) = absurd (omega arith)
  ages_allowed (expires {k = k} {k' = k'} a b d e i j) (inl (m, q, o, p, z, y, g)) = inr (b, inr (m, omega arith, o, p))
  ages_allowed (expires {k = k} {k' = k'} a b d e i j) (inr (z, y)) = absurd (omega arith)
  ages_allowed (wait_falls {k = k} {k' = k'} a b d e i j) (inl (m, q, o, p, z, y, g)) = absurd (omega arith)
  ages_allowed (wait_falls {k = k} {k' = k'} a b d e i j) (inr (z, y)) = inr (b, rw i y)
  ages_allowed (deleted a b) l = tt

  ages_not_live : {A : Topology} {x : ℕ} {h h' : Held} → Ages A x h h' → NotLive h → NotLive h'
  ages_not_live none_ages l = tt
  ages_not_live (live_ages {k = k} a b d e i u) l = absurd (omega arith)
  ages_not_live (expires a b d e i j) l = b
  ages_not_live (wait_falls a b d e i j) l = b
  ages_not_live (deleted a b) l = tt

  pub consistent_age : (P' : Topology) {s s' : Holdings} → P'.owner ≡ P.owner → ((x : ℕ) → Ages P' x (s x) (s' x)) → (P'.active ≡ true → (P.active ≡ true) × Live S.last (s' P.owner)) →
      (P'.active ≡ false → (P.active ≡ false) ⊎ NotLive (s' P.owner)) → Consistent P clock S s → Consistent P' (suc clock) S s'
  consistent_age P' {s} {s'} o h stays_active turns_inactive Z = record {
    allowed = λ x. ages_allowed (h x) (Z.allowed x);
    owner_holds = λ a. subst (λ (y : ℕ). Live S.last (s' y)) (sym o) (stays_active a).1;
    not_newer = λ a x.
        let G₀ = consistent_in_step P clock S Z (stays_active a).0 in
        let G₁ : InStep P' S.last s = record { left = G₀.left; positive = G₀.positive; conforming = G₀.conforming; owner_holds = subst (λ (y : ℕ). Live S.last (s y)) (sym o) G₀.owner_holds } in
        let G = (age_in_step P' S.last h (subst (λ (y : ℕ). Live S.last (s' y)) (sym o) (stays_active a).1) G₁).in_step in
        conforms_not_newer P clock S G.left (s' x) (G.conforming x);
    numbered = λ a. Z.numbered (stays_active a).0;
    not_live = λ a. subst (λ (y : ℕ). NotLive (s' y)) (sym o) (elim (turns_inactive a) [ inl z ↦ ages_not_live (h P.owner) (Z.not_live z) | inr z ↦ z ]);
  }

-- the slot's own acts: an issue, by originate or in a tick, and a withdrawal
module _ {P P' : Topology} {clock : ℕ} {S S' : Slot} {s s' : Holdings} (I : Issue P P' clock S S' s s') (Z : Consistent P clock S s) where
  allowed_before : (h : Held) → Allowed S clock h → Allowed S' clock h
  allowed_before none l = tt
  allowed_before (held k) (inl (m, q, i, j, z, y, u)) =
      let e = I.last in inl (m, q, i, omega arith, z, y ∙ sym (I.ends_before m j), u ∙ sym (I.content_before m j))
  allowed_before (held k) (inr (z, inl y)) = inr (z, inl y)
  allowed_before (held k) (inr (z, inr (m, q, j, i))) = let e = I.last in inr (z, inr (m, q, j, omega arith))

  not_newer_before : (h : Held) → Allowed S clock h → NotNewer S'.last h
  not_newer_before none l = tt
  not_newer_before (held k) l = let e = I.last in omega (arith, number_bound P clock S k.rank k.lifetime k.content l)

  new_rank : I.new.rank ≡ S'.last + S'.last
  new_rank = let e = I.last in let r = I.rank in omega arith

  new_ends : I.new.lifetime + clock ≡ S'.ends S'.last
  new_ends = let l = I.lifetime in let e = I.ends in let z : I.new.lifetime + clock ≡ S'.ends (suc S.last) = omega arith in z ∙ ap S'.ends (sym I.last)

  new_allowed : Allowed S' clock (held I.new)
  new_allowed =
      let e = I.last in
      let l = I.lifetime in
      inl (S'.last, new_rank, omega arith, omega arith, omega arith, new_ends, I.content ∙ ap S'.content (sym I.last))

  pub consistent_issue : Consistent P' clock S' s'
  consistent_issue = record {
    allowed = λ x. elim (ℕ_discrete x P.owner) [
      | yes i ↦ rw (i, I.stands) new_allowed
      | no i ↦ rw (I.others x i) (allowed_before (s x) (Z.allowed x))
    ];
    owner_holds = λ a. rw (I.owner, I.stands) new_rank;
    not_newer = λ a x. elim (ℕ_discrete x P.owner) [
      | yes i ↦ let r = new_rank in rw (i, I.stands) (omega arith)
      | no i ↦ rw (I.others x i) (not_newer_before (s x) (Z.allowed x))
    ];
    numbered = λ a. let e = I.last in omega arith;
    not_live = λ a. clash I.active a;
  }

module _ {P P' : Topology} {clock : ℕ} {S : Slot} {s s' : Holdings} (W : Withdrawal P P' S s s') (Z : Consistent P clock S s) where
  pub consistent_withdrawal : Consistent P' clock S s'
  consistent_withdrawal = record {
    allowed = λ x. elim (ℕ_discrete x P.owner) [
      | yes i ↦ rw (i, W.stands) (inr (W.lifetime, inr (S.last, W.rank, Z.numbered W.was_active, omega arith)))
      | no i ↦ rw (W.others x i) (Z.allowed x)
    ];
    owner_holds = λ a. clash a W.inactive;
    not_newer = λ a. clash a W.inactive;
    numbered = λ a. clash a W.inactive;
    not_live = λ a. rw (W.owner, W.stands) W.lifetime;
  }
