-- Parts of a part, as slices of slices have them.
use Rattle.std.proofs.Common.{◌≡◌, ℕ, ◌+◌, ◌-◌, List, length, take, drop, ◌∙◌}
use native.Mathlib.Nat.{sub-zero}
use Rattle.std.proofs.lemmas.List.{take_rest, drop-drop}

module _ {X : Type 0} (p : List X) (k n : ℕ) where
  -- of the part from k on, what follows its first n
  pub rest_of_rest :
      take (length (take (length p - k) (drop k p)) - n) (drop n (take (length p - k) (drop k p))) ≡ drop (k + n) p
  rest_of_rest = rw (take_rest p k) (take_rest (drop k p) n ∙ drop-drop n k p)

  -- and its first n
  pub front_of_rest : take (n - 0) (take (length p - k) (drop k p)) ≡ take n (drop k p)
  front_of_rest = rw (take_rest p k, sub-zero n)
