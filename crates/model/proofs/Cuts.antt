-- Lists cut into parts.
use Rattle.std.proofs.Common.{◌≡◌, ℕ, zero, suc, ◌-◌, ◌<◌, ◌≤◌, List, [], ◌∷◌, ◌++◌, length, take, drop, sym, refl, ap, ◌∙◌, subst, ⊎_elim, arith, length-drop, length-take}
use Rattle.std.proofs.lemmas.Bool.{cases_lt}
use Rattle.model.specs.Lists.{cut_by}
use Rattle.model.specs.Sharing.{reported_on}
use Rattle.model.specs.SharingLaws.{Cut, PsnpsOf15}

take-drop : {A : Type 0} (n : ℕ) (xs : List A) → take n xs ++ drop n xs ≡ xs
take-drop zero [] = refl
take-drop zero (x ∷ xs) = refl
take-drop (suc n) [] = refl
take-drop (suc n) (x ∷ xs) = ap (λ ys. x ∷ ys) (take-drop n xs)

take_all : {A : Type 0} (n : ℕ) (xs : List A) → length xs ≤ n → take n xs ≡ xs
take_all zero [] h = refl
take_all zero (x ∷ xs) h = absurd (omega arith)
take_all (suc n) [] h = refl
take_all (suc n) (x ∷ xs) h = ap (λ ys. x ∷ ys) (take_all n xs (omega arith))

drop_all : {A : Type 0} (n : ℕ) (xs : List A) → length xs ≤ n → drop n xs ≡ []
drop_all zero [] h = refl
drop_all zero (x ∷ xs) h = absurd (omega arith)
drop_all (suc n) [] h = refl
drop_all (suc n) (x ∷ xs) h = drop_all n xs (omega arith)

cut_none : {A : Type 0} (fuel n : ℕ) → cut_by {A = A} fuel n [] ≡ []
cut_none zero n = refl
cut_none (suc fuel) n = refl

-- enough fuel cuts all
module _ {A : Type 0} (n : ℕ) (some : 1 ≤ n) where
  cut_all : (fuel : ℕ) (xs : List A) → length xs ≤ fuel → Cut n xs (cut_by fuel n xs)
  cut_all zero [] h = Cut.none
  cut_all zero (x ∷ xs) h = absurd (omega arith)
  cut_all (suc fuel) [] h = Cut.none
  cut_all (suc fuel) (x ∷ xs) h =
      ⊎_elim
      (λ (l : n < length (x ∷ xs)).
      let part : length (take n (x ∷ xs)) ≡ n = length-take n (x ∷ xs) ∙ omega arith in
      let rest : length (drop n (x ∷ xs)) ≡ length (x ∷ xs) - n = length-drop n (x ∷ xs) in
      let a : 1 ≤ length (drop n (x ∷ xs)) = omega arith in
      let b : length (drop n (x ∷ xs)) ≤ fuel = omega arith in
      subst (λ ys. Cut n ys (take n (x ∷ xs) ∷ cut_by fuel n (drop n (x ∷ xs)))) (take-drop n (x ∷ xs))
      (Cut.more part a (cut_all fuel (drop n (x ∷ xs)) b)))
      (λ (l : length (x ∷ xs) ≤ n).
      let p : cut_by fuel n (drop n (x ∷ xs)) ≡ [] = ap (cut_by fuel n) (drop_all n (x ∷ xs) l) ∙ cut_none fuel n in
      let q : take n (x ∷ xs) ∷ cut_by fuel n (drop n (x ∷ xs)) ≡ (x ∷ xs) ∷ [] = ap (λ ys. ys ∷ cut_by fuel n (drop n (x ∷ xs))) (take_all n (x ∷ xs) l) ∙ ap (λ ps. (x ∷ xs) ∷ ps) p in
      subst (λ ps. Cut n (x ∷ xs) ps) (sym q) (Cut.last (omega arith) l))
      (cases_lt n (length (x ∷ xs)))

pub psnps_of_15 : PsnpsOf15
psnps_of_15 p d = cut_all 15 (omega arith) (length (reported_on p d)) (reported_on p d) (omega arith)
