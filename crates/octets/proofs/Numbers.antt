-- Numbers in octets: what is written reads back, and the other way round.
use Rattle.std.proofs.Common.{◌≡◌, ℕ, zero, suc, ◌+◌, ◌*◌, ◌/◌, ◌%◌, ◌^◌, ◌<◌, ◌≤◌, List, [], ◌∷◌, ◌++◌, length, sym, refl, ap, ◌∙◌, append_assoc, append-nil, mul-le-mul_right, arith, length-append}
use Rattle.std.proofs.ByRecursion.{All-push}
use Rattle.octets.specs.Octets.{Octets, onward, value, octets}

pub onward-append : (a : ℕ) (xs ys : List ℕ) → onward a (xs ++ ys) ≡ onward (onward a xs) ys
onward-append a [] ys = refl
onward-append a (x ∷ xs) ys = onward-append (a * 256 + x) xs ys

pub length-octets : (n v : ℕ) → length (octets n v) ≡ n
length-octets zero v = refl
length-octets (suc n) v = rw length-append (omega (arith, length-octets n (v / 256)))

-- a number that fits reads back
pub value-octets : (n v : ℕ) → v < 256 ^ n → value (octets n v) ≡ v
value-octets zero v h = omega arith
value-octets (suc n) v h =
    let low : v / 256 < 256 ^ n = omega arith in
    let step : onward 0 (octets n (v / 256)) ≡ v / 256 = value-octets n (v / 256) low in
    onward-append 0 (octets n (v / 256)) (v % 256 ∷ []) ∙ (omega arith)

octets-after : (xs : List ℕ) (k a : ℕ) → Octets xs → octets (length xs + k) (onward a xs) ≡ octets k a ++ xs
octets-after [] k a h = let e : 0 + k ≡ k = omega arith in ap (λ (n : ℕ). octets n a) e ∙ sym (append-nil (octets k a))
octets-after (x ∷ xs) k a h =
    let small : x < 256 = h.0 in
    let e : suc (length xs) + k ≡ length xs + suc k = omega arith in
    let up : (a * 256 + x) / 256 ≡ a = omega arith in
    let low : (a * 256 + x) % 256 ≡ x = omega arith in
    let ih : octets (length xs + suc k) (onward (a * 256 + x) xs) ≡ (octets k ((a * 256 + x) / 256) ++ (a * 256 + x) % 256 ∷ []) ++ xs =
    octets-after xs (suc k) (a * 256 + x) h.1
    in
    ap (λ (n : ℕ). octets n (onward (a * 256 + x) xs)) e
    ∙ ih
    ∙ append_assoc (octets k ((a * 256 + x) / 256)) ((a * 256 + x) % 256 ∷ []) xs
    ∙ ap (λ (v : ℕ). octets k v ++ (a * 256 + x) % 256 ∷ xs) up
    ∙ ap (λ (v : ℕ). octets k a ++ v ∷ xs) low

-- octets that are read are written again
pub octets-value : (xs : List ℕ) (n : ℕ) → length xs ≡ n → Octets xs → octets n (value xs) ≡ xs
octets-value xs n e h = let p : n ≡ length xs + 0 = omega arith in ap (λ (k : ℕ). octets k (value xs)) p ∙ octets-after xs 0 0 h

pub onward_under : (xs : List ℕ) (a : ℕ) → Octets xs → onward a xs < (a + 1) * 256 ^ length xs
onward_under [] a h = omega arith
onward_under (x ∷ xs) a h =
    let s : x < 256 = h.0 in
    let i : onward (a * 256 + x) xs < (a * 256 + x + 1) * 256 ^ length xs = onward_under xs (a * 256 + x) h.1 in
    let l : a * 256 + x + 1 ≤ (a + 1) * 256 = omega arith in
    let m : (a * 256 + x + 1) * 256 ^ length xs ≤ ((a + 1) * 256) * 256 ^ length xs = mul-le-mul_right (256 ^ length xs) l in
    let p : 256 ^ suc (length xs) ≡ 256 * 256 ^ length xs = omega arith in
    let q : (a + 1) * 256 ^ suc (length xs) ≡ (a + 1) * (256 * 256 ^ length xs) = ap (λ (k : ℕ). (a + 1) * k) p in
    let r : onward (a * 256 + x) xs < (a + 1) * 256 ^ suc (length xs) = omega arith in
    r

pub value_under : (xs : List ℕ) → Octets xs → value xs < 256 ^ length xs
value_under xs h = omega (arith, onward_under xs 0 h)

-- what comes first stays first
pub onward_lt : (xs ys : List ℕ) (p q : ℕ) → p < q → length xs ≡ length ys → Octets xs → onward p xs < onward q ys
onward_lt [] [] p q h e b = h
onward_lt [] (y ∷ ys) p q h e b = absurd (omega arith)
onward_lt (x ∷ xs) [] p q h e b = absurd (omega arith)
onward_lt (x ∷ xs) (y ∷ ys) p q h e b =
    let s : x < 256 = b.0 in
    onward_lt xs ys (p * 256 + x) (q * 256 + y) (omega arith) (omega arith) b.1

-- as many octets with one value are the same octets
pub value_same : (xs ys : List ℕ) → length xs ≡ length ys → Octets xs → Octets ys → value xs ≡ value ys → xs ≡ ys
value_same xs ys e h k v =
    sym (octets-value xs (length xs) refl h) ∙ ap (octets (length xs)) v ∙ octets-value ys (length xs) (sym e) k

-- octets that are written are octets
pub octets-octets : (n v : ℕ) → Octets (octets n v)
octets-octets zero v = tt
octets-octets (suc n) v = All-push (λ (x : ℕ). x < 256) (octets n (v / 256)) (v % 256) (octets-octets n (v / 256)) (omega arith)
