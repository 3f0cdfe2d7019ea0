-- Words on lists that the library lacks.
use Rattle.std.specs.Prelude.{ℕ, zero, suc, Bool, false, ◌||◌, List, [], ◌∷◌, take, drop}

-- some element passes
abbrev pub any : {A : Type 0} → (A → Bool) → List A → Bool
any p [] = false
any p (x ∷ xs) = p x || any p xs

-- cut into parts of n, the last of 1 to n; no more than `fuel` parts
abbrev pub cut_by : {A : Type 0} → ℕ → ℕ → List A → List (List A)
cut_by zero n xs = []
cut_by (suc fuel) n [] = []
cut_by (suc fuel) n (x ∷ xs) = take n (x ∷ xs) ∷ cut_by fuel n (drop n (x ∷ xs))

-- a step for each element, in order
abbrev pub through : {A S : Type 0} → (A → S → S) → List A → S → S
through f [] s = s
through f (a ∷ more) s = through f more (f a s)

-- a step for each element, in order, and W holds of every one of them
abbrev pub Passes : {A S : Type 0} → (S → S → Type 0) → (A → S → S) → List A → S → Type 0
Passes W f [] s = Unit {0}
Passes W f (a ∷ more) s = W s (f a s) × Passes W f more (f a s)

-- two lists side by side; what the first lacks stays
abbrev pub across : {A B : Type 0} → (A → B → B) → List A → List B → List B
across f [] ys = ys
across f (x ∷ xs) [] = []
across f (x ∷ xs) (y ∷ ys) = f x y ∷ across f xs ys
