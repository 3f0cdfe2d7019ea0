-- The sums over octets, and why check octets that are computed are the only right ones.
use Rattle.std.proofs.Common.{◌≡◌, ℕ, zero, suc, ◌+◌, ◌-◌, ◌*◌, ◌/◌, ◌%◌, ◌<◌, ◌≤◌, Bool, true, false, cond, not, ◌&&◌, eqb, leb, List, [], ◌∷◌, ◌++◌, length, get_or, take, drop, sym, refl, ap, ◌∙◌, append_assoc, suc-mul, add-mul, one-mul, mul-add, arith}
use Rattle.std.proofs.lemmas.List.{length-append, length-take-le, length-drop, get_or_at, get_or-append-add, take-append-drop, drop_more}
use Rattle.std.proofs.ByRecursion.{All-get_or}
use Rattle.std.proofs.lemmas.Bool.{and_parts, and_from, leb-true, le-leb, eqb-true, eqb-false, eq-eqb, ne_eqb, not-true}
use Rattle.octets.specs.Checks.{plain, weighted, c0_of, c1_of, sums_of, sums_then, written, made_octets, has_places, with_check, unchecked, check_octets, own_check, right, ComputedRight, RightComputed}
use Rattle.octets.specs.declared.checks.CheckOctets.{CheckOctets}
use Rattle.octets.specs.declared.checks.Sums.{Sums}

pub plain-append : (a b : List ℕ) → plain (a ++ b) ≡ plain a + plain b
plain-append [] b = omega arith
plain-append (x ∷ a) b = let h : plain (a ++ b) ≡ plain a + plain b = plain-append a b in omega arith

pub weighted-append : (a b : List ℕ) → weighted (a ++ b) ≡ weighted a + length b * plain a + weighted b
weighted-append [] b = omega arith
weighted-append (x ∷ a) b =
    let h : weighted (a ++ b) ≡ weighted a + length b * plain a + weighted b = weighted-append a b in
    let n : length (a ++ b) ≡ length a + length b = length-append a b in
    let e : (length (a ++ b) + 1) * x ≡ (length a + length b + 1) * x = ap (λ (k : ℕ). (k + 1) * x) n in
    omega arith

-- one octet more: what is left is weighted by one less
pub weighted_step : (b : ℕ) (bs : List ℕ) (x y : ℕ) →
    y + length (b ∷ bs) * x + weighted (b ∷ bs) ≡ (y + (x + b)) + length bs * (x + b) + weighted bs
weighted_step b bs x y = omega (arith, suc-mul (length bs) x, add-mul (length bs) 1 b, one-mul b, mul-add (length bs) x b)

-- a sum reduced before it runs on is the same modulo 255
pub running : (c d n v : ℕ) → (d % 255 + n * (c % 255) + v) % 255 ≡ (d + n * c + v) % 255
running c d n v =
    let e : n * c ≡ n * (c % 255 + 255 * (c / 255)) = ap (λ (z : ℕ). n * z) (omega arith) in
    omega arith

pub times_reduced : (k c : ℕ) → (k % 255 * c) % 255 ≡ (k * c) % 255
times_reduced k c = let e : k * c ≡ (k % 255 + 255 * (k / 255)) * c = ap (λ (z : ℕ). z * c) (omega arith) in omega arith

pub sums_append : (a b : List ℕ) → sums_of (a ++ b) ≡ sums_then (sums_of a) b
sums_append a b =
    let e : c0_of (a ++ b) ≡ (c0_of a + plain b) % 255 = omega (arith, plain-append a b) in
    let f : c1_of (a ++ b) ≡ (c1_of a + length b * c0_of a + weighted b) % 255 =
    ap (λ (n : ℕ). n % 255) (weighted-append a b) ∙ sym (running (plain a) (weighted a) (length b) (weighted b))
    in
    cc

-- over three pieces, one after another
pub sums_pieces : (a b d : List ℕ) → sums_then (sums_then (sums_then (sums_of []) a) b) d ≡ sums_of (a ++ (b ++ d))
sums_pieces a b d =
    let e : sums_then (sums_of []) a ≡ sums_of a = sym (sums_append [] a) in
    let f : sums_then (sums_of a) (b ++ d) ≡ sums_then (sums_then (sums_of a) b) d =
    sym (sums_append a (b ++ d)) ∙ ap sums_of (sym (append_assoc a b d)) ∙ sums_append (a ++ b) d ∙ ap (λ (s : Sums). sums_then s d) (sums_append a b)
    in
    ap (λ (s : Sums). sums_then (sums_then s b) d) e ∙ sym f ∙ sym (sums_append a (b ++ d))

-- what is written is the remainder, or 255 for 0
written_suc : (n : ℕ) → written (suc n) ≡ suc n
written_suc n = ap (λ (b : Bool). cond b 255 (suc n)) (ne_eqb (suc n) 0 (λ e. omega arith))

written_is : (s : ℕ) → (e : ℕ) × (written (s % 255) + 255 * (s / 255) ≡ s + 255 * e)
written_is s = go (s % 255) refl
  where
    go : (r : ℕ) → s % 255 ≡ r → (e : ℕ) × (written r + 255 * (s / 255) ≡ s + 255 * e)
    go zero h = (1, omega arith)
    go (suc r) h = (0, omega (arith, written_suc r))

written_some : (n : ℕ) → eqb (written n) 0 ≡ false
written_some zero = refl
written_some (suc n) = ne_eqb (written (suc n)) 0 (λ e. omega (arith, written_suc n, e))

made_some : (k c d : ℕ) → (eqb (made_octets k c d).x 0 ≡ false) × (eqb (made_octets k c d).y 0 ≡ false)
made_some k c d = (written_some ((k * c + (255 - d)) % 255), written_some ((d + (255 - ((k + 1) * c) % 255)) % 255))

-- an octet from 1 to 255 is its remainder, written
written_one : (x s : ℕ) → 0 < x → x < 256 → x % 255 ≡ s % 255 → x ≡ written (s % 255)
written_one x s l h e = go (s % 255) refl
  where
    go : (r : ℕ) → s % 255 ≡ r → x ≡ written r
    go zero k = omega arith
    go (suc r) k = omega (arith, written_suc r)

-- over numbers alone: c and d the two sums with 0 for both octets, k the octets from the second on
module _ (h c d d' v v' x y k q₁ q₂ q₃ e₁ e₂ : ℕ) (hd : d + d' ≡ 255) (hv : v + v' ≡ 255) (hx : x + 255 * q₁ ≡ k * c + d' + 255 * e₁)
    (hy : y + 255 * q₂ ≡ d + v' + 255 * e₂) (hq : v + 255 * q₃ ≡ (k + 1) * c) where
  plain-sum : (c + 255 * h + (x + y)) % 255 ≡ 0
  plain-sum = omega arith

  weighted-sum : (d + 255 * h + ((k + 1) * x + k * y)) % 255 ≡ 0
  weighted-sum =
      omega (
        arith,
        ap (λ (z : ℕ). (k + 1) * z) hx,
        ap (λ (z : ℕ). k * z) hy,
        ap (λ (z : ℕ). k * z) hq,
        ap (λ (z : ℕ). k * z) hd,
        ap (λ (z : ℕ). k * z) hv,
      )

-- both sums are 0 with the octets x and y, so these are the computed ones
module _ (h g c d x y k s t : ℕ) (low : d ≤ 254) (hs : c + 255 * h + (x + y) ≡ 255 * s) (ht : d + 255 * g + ((k + 1) * x + k * y) ≡ 255 * t) where
  one_is : x % 255 ≡ (k * c + (255 - d)) % 255
  one_is = omega (arith, ap (λ (z : ℕ). k * z) hs)

  other_is : y % 255 ≡ (d + (255 - ((k + 1) * c) % 255)) % 255
  other_is = omega (arith, ap (λ (z : ℕ). k * z) hs)

pub same_check : (a b : CheckOctets) → a.x ≡ b.x → a.y ≡ b.y → a ≡ b
same_check a b e f =
    let made : ℕ → ℕ → CheckOctets = λ m n. record { x = m; y = n } in
    ap (λ (n : ℕ). made n a.y) e ∙ ap (made b.x) f

-- over the octets a before the two, and b after them
module _ (a b : List ℕ) where
  plain_with : (x y : ℕ) → plain (a ++ x ∷ y ∷ b) ≡ plain (a ++ 0 ∷ 0 ∷ b) + (x + y)
  plain_with x y = omega (arith, plain-append a (x ∷ y ∷ b), plain-append a (0 ∷ 0 ∷ b))

  weighted_with : (x y : ℕ) → weighted (a ++ x ∷ y ∷ b) ≡ weighted (a ++ 0 ∷ 0 ∷ b) + ((length b + 1 + 1) * x + (length b + 1) * y)
  weighted_with x y = omega (arith, weighted-append a (x ∷ y ∷ b), weighted-append a (0 ∷ 0 ∷ b))

-- computed octets, over sums p and w
module _ (p w k : ℕ) where
  made_sums : (c : CheckOctets) → c ≡ made_octets k (p % 255) (w % 255) →
      ((p + (c.x + c.y)) % 255 ≡ 0) × ((w + ((k + 1) * c.x + k * c.y)) % 255 ≡ 0)
  made_sums o e = go (p % 255) (p / 255) (w % 255) (w / 255) (omega arith) (omega arith) (omega arith) e
    where
      go : (c h d g : ℕ) → p ≡ c + 255 * h → w ≡ d + 255 * g → d ≤ 254 → o ≡ made_octets k c d →
          ((p + (o.x + o.y)) % 255 ≡ 0) × ((w + ((k + 1) * o.x + k * o.y)) % 255 ≡ 0)
      go c h d g hp hw hd eo =
          let u : (e : ℕ) × ((made_octets k c d).x + 255 * ((k * c + (255 - d)) / 255) ≡ (k * c + (255 - d)) + 255 * e) = written_is (k * c + (255 - d)) in
          let v : ℕ = ((k + 1) * c) % 255 in
          let z : (e : ℕ) × ((made_octets k c d).y + 255 * ((d + (255 - v)) / 255) ≡ (d + (255 - v)) + 255 * e) = written_is (d + (255 - v)) in
          let hv : v + (255 - v) ≡ 255 = omega arith in
          let hd' : d + (255 - d) ≡ 255 = omega arith in
          let hq : v + 255 * (((k + 1) * c) / 255) ≡ (k + 1) * c = omega arith in
          let s : (c + 255 * h + ((made_octets k c d).x + (made_octets k c d).y)) % 255 ≡ 0 =
          plain-sum h c d (255 - d) v (255 - v) _ _ k _ _ _ _ _ hd' hv u.1 z.1 hq
          in
          let t : (d + 255 * g + ((k + 1) * (made_octets k c d).x + k * (made_octets k c d).y)) % 255 ≡ 0 =
          weighted-sum g c d (255 - d) v (255 - v) _ _ k _ _ _ _ _ hd' hv u.1 z.1 hq
          in
          (rw (eo, hp) s, rw (eo, hw) t)

  -- octets that make both sums 0 are the computed ones
  sums_made : (c : CheckOctets) → 0 < c.x → c.x < 256 → 0 < c.y → c.y < 256 → (p + (c.x + c.y)) % 255 ≡ 0 →
      (w + ((k + 1) * c.x + k * c.y)) % 255 ≡ 0 → c ≡ made_octets k (p % 255) (w % 255)
  sums_made o lx hx ly hy s t =
      let f : p % 255 + 255 * (p / 255) + (o.x + o.y) ≡ 255 * ((p + (o.x + o.y)) / 255) = omega arith in
      let g : w % 255 + 255 * (w / 255) + ((k + 1) * o.x + k * o.y) ≡ 255 * ((w + ((k + 1) * o.x + k * o.y)) / 255) = omega arith in
      let low : w % 255 ≤ 254 = omega arith in
      let ex : o.x ≡ (made_octets k (p % 255) (w % 255)).x = written_one o.x _ lx hx (one_is (p / 255) (w / 255) (p % 255) (w % 255) o.x o.y k _ _ low f g) in
      let ey : o.y ≡ (made_octets k (p % 255) (w % 255)).y = written_one o.y _ ly hy (other_is (p / 255) (w / 255) (p % 255) (w % 255) o.x o.y k _ _ low f g) in
      same_check o (made_octets k (p % 255) (w % 255)) ex ey

all_five : (a b c x y : Bool) → a && (b && (c && (not x && not y))) ≡ true → (a ≡ true) × (b ≡ true) × (c ≡ true) × (x ≡ false) × (y ≡ false)
all_five a b c x y h =
    let p = and_parts a (b && (c && (not x && not y))) h in
    let q = and_parts b (c && (not x && not y)) p.1 in
    let r = and_parts c (not x && not y) q.1 in
    let s = and_parts (not x) (not y) r.1 in
    (p.0, q.0, r.0, not-true x s.0, not-true y s.1)

-- a part that has the places p and p + 1
module _ (p : ℕ) (part : List ℕ) (low : 1 ≤ p) (high : p + 1 ≤ length part) where
  before-length : length (take (p - 1) part) ≡ p - 1
  before-length = length-take-le (p - 1) part (omega arith)

  behind_length : length (drop (p + 1) part) + 1 ≡ length part - p
  behind_length = rw length-drop (omega arith)

  module _ (c : CheckOctets) where
    length_with : length (with_check p c part) ≡ length part
    length_with = rw length-append (omega (arith, before-length, behind_length))

    own_with : own_check p (with_check p c part) ≡ c
    own_with =
        let e : get_or (with_check p c part) (p - 1) 0 ≡ c.x = get_or_at (take (p - 1) part) c.x (c.y ∷ drop (p + 1) part) 0 (p - 1) before-length in
        let n : p ≡ length (take (p - 1) part) + 1 = omega (arith, before-length) in
        let f : get_or (with_check p c part) p 0 ≡ c.y =
        ap (λ (i : ℕ). get_or (with_check p c part) i 0) n ∙ get_or-append-add (take (p - 1) part) (c.x ∷ c.y ∷ drop (p + 1) part) 1 0
        in
        same_check (own_check p (with_check p c part)) c e f

  -- its own octets, put in place, leave it as it is
  with_own : with_check p (own_check p part) part ≡ part
  with_own =
      let e : drop (p - 1) part ≡ get_or part (p - 1) 0 ∷ drop (p - 1 + 1) part = drop_more part (p - 1) 0 (omega arith) in
      let n : p - 1 + 1 ≡ p = omega arith in
      let f : drop (p - 1) part ≡ get_or part (p - 1) 0 ∷ get_or part p 0 ∷ drop (p + 1) part =
      e ∙ ap (λ (i : ℕ). get_or part (p - 1) 0 ∷ drop i part) n ∙ ap (λ (l : List ℕ). get_or part (p - 1) 0 ∷ l) (drop_more part p 0 (omega arith))
      in
      sym (ap (λ (l : List ℕ). take (p - 1) part ++ l) f) ∙ take-append-drop (p - 1) part

  -- the sums of the part with these octets, from those with 0 for both
  module _ (c : CheckOctets) where
    c0_with : c0_of (with_check p c part) ≡ (plain (unchecked p part) + (c.x + c.y)) % 255
    c0_with = ap (λ (n : ℕ). n % 255) (plain_with (take (p - 1) part) (drop (p + 1) part) c.x c.y)

    c1_with : c1_of (with_check p c part) ≡ (weighted (unchecked p part) + ((length part - p + 1) * c.x + (length part - p) * c.y)) % 255
    c1_with =
        rw (← behind_length) (ap (λ (n : ℕ). n % 255) (weighted_with (take (p - 1) part) (drop (p + 1) part) c.x c.y))

  computed_at : right p (with_check p (check_octets p part) part) ≡ true
  computed_at =
      let o : CheckOctets = check_octets p part in
      let s = made_sums (plain (unchecked p part)) (weighted (unchecked p part)) (length part - p) o refl in
      let n = made_some (length part - p) (c0_of (unchecked p part)) (c1_of (unchecked p part)) in
      let here : has_places p (with_check p o part) ≡ true =
      and_from _ _ (le-leb 1 p low) (le-leb (p + 1) (length (with_check p o part)) (omega (arith, length_with o)))
      in
      let ex : eqb (own_check p (with_check p o part)).x 0 ≡ false = ap (λ (c : CheckOctets). eqb c.x 0) (own_with o) ∙ n.0 in
      let ey : eqb (own_check p (with_check p o part)).y 0 ≡ false = ap (λ (c : CheckOctets). eqb c.y 0) (own_with o) ∙ n.1 in
      rw (here, eq-eqb (c0_of (with_check p o part)) 0 (c0_with o ∙ s.0), eq-eqb (c1_of (with_check p o part)) 0 (c1_with o ∙ s.1), ex, ey) refl

  right-at : (own_check p part).x < 256 → (own_check p part).y < 256 → right p part ≡ true → own_check p part ≡ check_octets p part
  right-at hx hy r =
      let o : CheckOctets = own_check p part in
      let a = all_five (has_places p part) (eqb (c0_of part) 0) (eqb (c1_of part) 0) (eqb o.x 0) (eqb o.y 0) r in
      let nx : 0 < o.x = omega (arith, eqb-false o.x 0 a.3) in
      let ny : 0 < o.y = omega (arith, eqb-false o.y 0 a.4) in
      sums_made (plain (unchecked p part)) (weighted (unchecked p part)) (length part - p) o nx hx ny hy
      (sym (c0_with o) ∙ ap c0_of with_own ∙ eqb-true (c0_of part) 0 a.1)
      (sym (c1_with o) ∙ ap c1_of with_own ∙ eqb-true (c1_of part) 0 a.2)

pub places : (p : ℕ) (part : List ℕ) → has_places p part ≡ true → (1 ≤ p) × (p + 1 ≤ length part)
places p part h =
    let a = and_parts (leb 1 p) (leb (p + 1) (length part)) h in
    (leb-true 1 p a.0, leb-true (p + 1) (length part) a.1)

pub computed_right : ComputedRight
computed_right p part h = let a = places p part h in computed_at p part a.0 a.1

-- only the check octets of the part have to be octets
pub right_own : (p : ℕ) (part : List ℕ) → (own_check p part).x < 256 → (own_check p part).y < 256 → right p part ≡ true → own_check p part ≡ check_octets p part
right_own p part hx hy r = let a = places p part (and_parts (has_places p part) _ r).0 in right-at p part a.0 a.1 hx hy r

pub right_computed : RightComputed
right_computed p part h r =
    let a = places p part (and_parts (has_places p part) _ r).0 in
    right_own p part (All-get_or (λ (x : ℕ). x < 256) part (p - 1) 0 (omega arith) h) (All-get_or (λ (x : ℕ). x < 256) part p 0 (omega arith) h) r
