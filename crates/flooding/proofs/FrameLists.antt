-- Which identifiers a list of frames mentions: frames in ranges and frames of parts mention each of theirs once; rising lists.
use mathlib.Core.Path.{subst, ◌≡◌, refl, ap}
use mathlib.Core.Logic.{◌≢◌, ◌⊎◌, inl, inr}
use mathlib.Core.List.{List, [], ◌∷◌, ◌++◌}
use Prim.Native.Nat.{ℕ, suc, ◌≤◌, ◌<◌}
use native.Mathlib.Omega.{arith}
use native.Mathlib.Decide.{dec_lt}
use lib.ListN.{length}
use Rattle.flooding.specs.Frames.{Frame, NeverMentions, no_frame, silent_frame, MentionsOnce, in_first, in_later, InRanges, no_more, range, RangesMentionOnce, In, first_in, later_in, Rising, rising_none, rising_more, CutInto, cut_none, cut_more, PartsMentionOnce, RisingNoLonger}
use Rattle.flooding.specs.Copies.{Mention}

-- frames in ranges mention each identifier of D once
module _ (D : ℕ → Type 0) (j : ℕ) where
  ranges_past : {lo : ℕ} {fs : List Frame} → InRanges D lo fs → j < lo → NeverMentions j fs
  ranges_past (no_more z) h = no_frame
  ranges_past (range next l a m q) h = silent_frame (m j (inl h)) (ranges_past q (omega arith))

  ranges_never : {lo : ℕ} {fs : List Frame} → InRanges D lo fs → (D j → ⊥) → NeverMentions j fs
  ranges_never (no_more z) h = no_frame
  ranges_never (range next l a m q) h = silent_frame (m j (inr (inr h))) (ranges_never q h)

  ranges_once : {lo : ℕ} {fs : List Frame} → InRanges D lo fs → lo ≤ j → D j → (w : Mention) × MentionsOnce j w fs
  ranges_once (no_more z) h d = absurd (z j h d)
  ranges_once (range next l a m q) h d = elim (dec_lt j next) [
    | yes i ↦ let w = a j h i d in (w.0, in_first w.1 (ranges_past q i))
    | no i ↦ let k : next ≤ j = omega arith in let w = ranges_once q k d in (w.0, in_later (m j (inr (inl k))) w.1)
  ]

pub ranges_mention_once : RangesMentionOnce
ranges_mention_once lo top fs r j = (ranges_once (λ i. i < top) j r, λ h. ranges_never (λ i. i < top) j r (λ q. omega arith))

rise_in : {lo i : ℕ} {l : List ℕ} → Rising lo l → In i l → lo ≤ i
rise_in rising_none q = elim q [ ]
rise_in (rising_more a r) first_in = a
rise_in (rising_more a r) (later_in q) = let z = rise_in r q in omega arith

uncons : {i j : ℕ} {l : List ℕ} → In i (j ∷ l) → (i ≡ j) ⊎ In i l
uncons first_in = inl refl
uncons (later_in q) = inr q

in_left : {i : ℕ} (a b : List ℕ) → In i a → In i (a ++ b)
in_left [] b q = elim q [ ]
in_left (j ∷ a) b first_in = first_in
in_left (j ∷ a) b (later_in q) = later_in (in_left a b q)

in_right : {i : ℕ} (a b : List ℕ) → In i b → In i (a ++ b)
in_right [] b q = q
in_right (j ∷ a) b q = later_in (in_right a b q)

in_split : {i : ℕ} (a b : List ℕ) → In i (a ++ b) → In i a ⊎ In i b
in_split [] b q = inr q
in_split (j ∷ a) b first_in = inl first_in
in_split (j ∷ a) b (later_in q) = elim (in_split a b q) [ inl z ↦ inl (later_in z) | inr z ↦ inr z ]

-- where the first part of a rising list ends
record Bound (lo : ℕ) (a b : List ℕ) : Type 0 where
  next : ℕ
  low : lo ≤ next
  below : (i : ℕ) → In i a → i < next
  rest : Rising next b

bound : (lo : ℕ) (a b : List ℕ) → Rising lo (a ++ b) → Bound lo a b
bound lo [] b r = record { next = lo; low = omega arith; below = λ i q. elim q [ ]; rest = r }
bound lo (j ∷ a) b (rising_more p r) =
    let B = bound (suc j) a b r in
    record { next = B.next; low = omega arith; below = λ i q. go B i q; rest = B.rest }
  where
    go : (B : Bound (suc j) a b) (i : ℕ) → In i (j ∷ a) → i < B.next
    go B i first_in = omega arith
    go B i (later_in q) = B.below i q

ranges_agree : {D E : ℕ → Type 0} {lo : ℕ} {fs : List Frame} → ((i : ℕ) → lo ≤ i → D i → E i) → ((i : ℕ) → lo ≤ i → E i → D i) → InRanges D lo fs → InRanges E lo fs
ranges_agree to fro (no_more z) = no_more (λ j h e. z j h (fro j h e))
ranges_agree {D} {E} to fro (range {lo = lo} {f = f} next l a m q) =
    range next l (λ j h i e. a j h i (fro j h e)) (λ j z. m j (elim z [ inl p ↦ inl p | inr p ↦ elim p [ inl y ↦ inr (inl y) | inr y ↦ go j y (dec_lt j lo) ] ]))
    (ranges_agree (λ i h. to i (omega arith)) (λ i h. fro i (omega arith)) q)
  where
    go : (j : ℕ) → (E j → ⊥) → Dec (j < lo) → (j < lo) ⊎ ((next ≤ j) ⊎ (D j → ⊥))
    go j y (yes p) = inl p
    go j y (no p) = inr (inr (λ d. y (to j (omega arith) d)))

parts_in_ranges : (lo : ℕ) {l : List ℕ} {fs : List Frame} → CutInto l fs → Rising lo l → InRanges (λ i. In i l) lo fs
parts_in_ranges lo cut_none r = no_more (λ j h q. elim q [ ])
parts_in_ranges lo (cut_more part rest {f = f} c p) r =
    let B = bound lo part rest r in
    range B.next B.low
    (λ j h i d. c.mentioned j (pick B j i (in_split part rest d)))
    (λ j z. c.others j (λ q. beyond B j z q))
    (ranges_agree (λ i h d. in_right part rest d) (λ i h d. back B i h (in_split part rest d)) (parts_in_ranges B.next p B.rest))
  where
    pick : (B : Bound lo part rest) (j : ℕ) → j < B.next → In j part ⊎ In j rest → In j part
    pick B j i (inl q) = q
    pick B j i (inr q) = let z = rise_in B.rest q in absurd (omega arith)

    beyond : (B : Bound lo part rest) (j : ℕ) → (j < lo) ⊎ ((B.next ≤ j) ⊎ (In j (part ++ rest) → ⊥)) → In j part → ⊥
    beyond B j (inl z) q = let y = rise_in r (in_left part rest q) in omega arith
    beyond B j (inr (inl z)) q = let y = B.below j q in omega arith
    beyond B j (inr (inr z)) q = z (in_left part rest q)

    back : (B : Bound lo part rest) (i : ℕ) → B.next ≤ i → In i part ⊎ In i rest → In i rest
    back B i h (inl q) = let y = B.below i q in absurd (omega arith)
    back B i h (inr q) = q

-- a rising list drawn from another is no longer
without : {i : ℕ} {l : List ℕ} → In i l → (m : List ℕ) × (length l ≡ suc (length m)) × ((j : ℕ) → j ≢ i → In j l → In j m)
without (first_in {l = l}) = (l, refl, λ j n q. elim (uncons q) [ inl e ↦ absurd (n e) | inr z ↦ z ])
without (later_in {j = h} q) =
    let (m, e, f) = without q in
    (h ∷ m, ap suc e, λ j n z. elim (uncons z) [ inl y ↦ rw y first_in | inr y ↦ later_in (f j n y) ])

no_longer : (lo : ℕ) (l u : List ℕ) → Rising lo l → ((i : ℕ) → In i l → In i u) → length l ≤ length u
no_longer lo [] u r h = omega arith
no_longer lo (i ∷ l) u (rising_more a r) h =
    let w = without (h i first_in) in
    let z = no_longer (suc i) l w.0 r (λ j q. w.2 j (apart j q) (h j (later_in q))) in
    let e = w.1 in
    omega arith
  where
    apart : (j : ℕ) → In j l → j ≢ i
    apart j q e = let z = rise_in r q in omega arith

pub rising_no_longer : RisingNoLonger
rising_no_longer lo l all r h = (no_longer lo l all r h, λ j a n. lacks j a n)
  where
    lacks : (j : ℕ) → In j all → (In j l → ⊥) → length l < length all
    lacks j a n =
        let w = without a in
        let z = no_longer lo l w.0 r (λ i q. w.2 i (λ e. n (subst (λ (y : ℕ). In y l) e q)) (h i q)) in
        let e = w.1 in
        omega arith

pub parts_mention_once : PartsMentionOnce
parts_mention_once lo l fs r c i =
    let t = parts_in_ranges lo c r in
    ((λ q. ranges_once (λ j. In j l) i t (rise_in r q) q), (λ q. ranges_never (λ j. In j l) i t q))
