-- Tests: what a test came to, and what its answer says.
use mathlib.Core.Path.{◌≡◌, refl, ◌∙◌, ap}
use mathlib.Core.Logic.{◌≢◌}
use mathlib.Core.Bool.{Bool, true, false}
use Prim.Native.Nat.{ℕ, ◌≤◌, ◌<◌}
use native.Mathlib.Omega.{arith}
use lib.Dec.{eqb, ltb, leb, eqb→eq, ltb→lt, leb→le, eqb_refl}

pub data Outcome (b : Bool) : Type 0 where
  is_true : b ≡ true → Outcome b
  is_false : b ≡ false → Outcome b

pub outcome : (b : Bool) → Outcome b
outcome true = is_true refl
outcome false = is_false refl

pub clash : {A : Type 0} {b : Bool} → b ≡ true → b ≡ false → A
clash {b = b} p q = absurd (let z : ◌≡◌ {A = ℕ} 0 1 = cc in omega arith)

pub eqb_is : (m n : ℕ) → eqb m n ≡ true → m ≡ n
eqb_is m n e = eqb→eq m n (rw e tt)

pub eqb_same : (m : ℕ) → eqb m m ≡ true
eqb_same m = elim (outcome (eqb m m)) [ is_true q ↦ q | is_false q ↦ absurd (rw q at (eqb_refl m)) ]

pub eqb_not : (m n : ℕ) → m ≢ n → eqb m n ≡ false
eqb_not m n e = elim (outcome (eqb m n)) [ is_true q ↦ absurd (e (eqb_is m n q)) | is_false q ↦ q ]

pub eqb_isnt : (m n : ℕ) → eqb m n ≡ false → m ≢ n
eqb_isnt m n e q = clash (ap (λ (y : ℕ). eqb y n) q ∙ eqb_same n) e

pub ltb_is : (m n : ℕ) → ltb m n ≡ true → m < n
ltb_is m n e = ltb→lt m n (rw e tt)

pub ltb_isnt : (m n : ℕ) → ltb m n ≡ false → n ≤ m
ltb_isnt m n e = grind arith

pub leb_is : (m n : ℕ) → leb m n ≡ true → m ≤ n
leb_is m n e = leb→le m n (rw e tt)

pub leb_isnt : (m n : ℕ) → leb m n ≡ false → n < m
leb_isnt m n e = grind arith
