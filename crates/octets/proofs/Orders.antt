-- The order of identifiers: the first octet that differs decides.
use Rattle.std.proofs.Common.{◌≡◌, ℕ, ◌+◌, ◌*◌, ◌<◌, List, [], ◌∷◌, length, get_or, drop, Ordering, Less, Equal, Greater, refl, arith}
use Rattle.std.proofs.ByRecursion.{All-from_get_or, All-drop}
use Rattle.std.proofs.lemmas.List.{drop_more, length-drop}
use Rattle.std.specs.Ordering.{MatchOrdering, ordering_then, nat_cmp}
use Rattle.std.specs.Cmp.{ranks}
use Rattle.std.specs.Cmp.Lexicographic.{slice_cmp}
use Rattle.octets.specs.Octets.{Octets, onward, value}
use Rattle.octets.proofs.Numbers.{onward_lt, value_same}

pub octets_from : (a : List ℕ) → ((k : ℕ) → get_or a k 0 < 256) → Octets a
octets_from a f = All-from_get_or (λ (x : ℕ). x < 256) a 0 (λ k h. f k)

-- after the same octets, the order of what follows is that of the numbers
abbrev Ranked : ℕ → List ℕ → List ℕ → Ordering → Type 0
Ranked p xs ys r = MatchOrdering r (onward p xs < onward p ys) (onward p xs ≡ onward p ys) (onward p ys < onward p xs)

ranked_onward : (xs ys : List ℕ) (p : ℕ) → length xs ≡ length ys → Octets xs → Octets ys → Ranked p xs ys (slice_cmp nat_cmp xs ys)
ranked_onward [] [] p e h k = refl
ranked_onward [] (y ∷ ys) p e h k = absurd (omega arith)
ranked_onward (x ∷ xs) [] p e h k = absurd (omega arith)
ranked_onward (x ∷ xs) (y ∷ ys) p e h k = by (nat_cmp x y) (ranks x y) (ranked_onward xs ys (p * 256 + y) (omega arith) h.1 k.1)
  where
    by :
        (r : Ordering) →
        MatchOrdering r (x < y) (x ≡ y) (y < x) →
        Ranked (p * 256 + y) xs ys (slice_cmp nat_cmp xs ys) →
        Ranked p (x ∷ xs) (y ∷ ys) (ordering_then r (slice_cmp nat_cmp xs ys))
    by Less l i = onward_lt xs ys (p * 256 + x) (p * 256 + y) (omega arith) (omega arith) h.1
    by Equal q i = rw q i
    by Greater g i = onward_lt ys xs (p * 256 + y) (p * 256 + x) (omega arith) (omega arith) k.1

module _ (a b : List ℕ) (f : (k : ℕ) → get_or a k 0 < 256) (g : (k : ℕ) → get_or b k 0 < 256) (same : length a ≡ length b) where
  -- octets come in the order of the numbers that they write
  pub ranked : (r : Ordering) → r ≡ slice_cmp nat_cmp a b → MatchOrdering r (value a < value b) (value a ≡ value b) (value b < value a)
  ranked r e = rw e (ranked_onward a b 0 same (octets_from a f) (octets_from b g))

  pub equal_ids : value a ≡ value b → a ≡ b
  equal_ids e = value_same a b same (octets_from a f) (octets_from b g) e

module _ (a b : List ℕ) (f : (k : ℕ) → get_or a k 0 < 256) (same : length a ≡ length b) where
  -- where two numbers begin alike, the first octet that differs decides
  pub decides : (i p : ℕ) → i < length a → value a ≡ onward p (drop i a) → value b ≡ onward p (drop i b) → get_or a i 0 < get_or b i 0 → value a < value b
  decides i p h ea eb lt =
      let da = drop_more a i 0 h in
      let db = drop_more b i 0 (omega arith) in
      let k =
      onward_lt (drop (i + 1) a) (drop (i + 1) b) (p * 256 + get_or a i 0) (p * 256 + get_or b i 0) (omega arith) (simp length-drop (omega arith))
      (All-drop (λ (x : ℕ). x < 256) (i + 1) a (octets_from a f))
      in
      rw (ea, eb, da, db) k
