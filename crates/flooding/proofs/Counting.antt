-- Counting: how many of the first ticks missed a frame, and how many routers a way visits.
use mathlib.Core.Path.{◌≡◌, refl, sym, ◌∙◌, ap}
use mathlib.Core.Bool.{Bool, true, false}
use Prim.Native.Nat.{ℕ, zero, suc, ◌+◌, ◌≤◌, ◌<◌}
use native.Mathlib.Omega.{arith}
use native.Mathlib.Nat.{add-zero, add-suc}
use native.Mathlib.Decide.{ℕ_discrete}
use Rattle.flooding.specs.Stretches.{count_of, bit}
use Rattle.flooding.proofs.Tests.{clash}

bit_most : (b : Bool) → bit b ≤ 1
bit_most true = omega arith
bit_most false = omega arith

bit-none : (b : Bool) → bit b ≡ 0 → b ≡ false
bit-none true h = absurd (omega arith)
bit-none false h = refl

bit_mono : (a b : Bool) → (a ≡ true → b ≡ true) → bit a ≤ bit b
bit_mono true true h = omega arith
bit_mono true false h = clash (h refl) refl
bit_mono false b h = omega arith

pub count_most : (f : ℕ → Bool) (m : ℕ) → count_of f m ≤ m
unfolding count_of
count_most f zero = omega arith
count_most f (suc m) = omega (arith, count_most f m, bit_most (f m))

count_mono : (f g : ℕ → Bool) (m : ℕ) → ((x : ℕ) → f x ≡ true → g x ≡ true) → count_of f m ≤ count_of g m
unfolding count_of
count_mono f g zero h = omega arith
count_mono f g (suc m) h = omega (arith, count_mono f g m h, bit_mono (f m) (g m) (h m))

-- one more passes
pub count_grows : (f g : ℕ → Bool) (m : ℕ) → ((x : ℕ) → f x ≡ true → g x ≡ true) → (v : ℕ) → v < m → f v ≡ false → g v ≡ true → count_of f m < count_of g m
unfolding count_of
count_grows f g zero h v i a b = absurd (omega arith)
count_grows f g (suc m) h v i a b = elim (ℕ_discrete v m) [
  | yes e ↦
      let p : bit (f m) ≡ 0 = ap bit (ap f (sym e) ∙ a) in
      let q : bit (g m) ≡ 1 = ap bit (ap g (sym e) ∙ b) in
      omega (arith, count_mono f g m h)
  | no e ↦ omega (arith, count_grows f g m h v (omega arith) a b, bit_mono (f m) (g m) (h m))
]

pub count_up : (f : ℕ → Bool) (m d : ℕ) → count_of f m ≤ count_of f (m + d)
unfolding count_of
count_up f m zero = rw add-zero (omega arith)
count_up f m (suc d) = rw add-suc (omega (arith, count_up f m d))

-- where the count stands still, none passes
pub count_flat : (f : ℕ → Bool) (m d : ℕ) → count_of f (m + d) ≡ count_of f m → (j : ℕ) → m ≤ j → j < m + d → f j ≡ false
unfolding count_of
count_flat f m zero h j a b = absurd (omega arith)
count_flat f m (suc d) h j a b =
    let e : count_of f (m + d) + bit (f (m + d)) ≡ count_of f m = rw add-suc at h in
    elim (ℕ_discrete j (m + d)) [
      | yes i ↦ ap f i ∙ bit-none (f (m + d)) (omega (arith, count_up f m d))
      | no i ↦ count_flat f m d (omega (arith, count_up f m d)) j a (omega arith)
    ]
