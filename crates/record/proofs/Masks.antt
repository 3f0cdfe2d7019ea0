-- What masks do to the bits of an octet.
use Rattle.std.proofs.Common.{◌≡◌, ℕ, zero, suc, ◌-◌, ◌*◌, ◌/◌, ◌%◌, ◌^◌, ◌<◌, min, max, false, not, ◌&&◌, ◌||◌, eqb, refl, sym, ap, ◌∙◌, inl, inr, arith}
use lib.Bits.{bit_and, bit_or}
use Rattle.std.specs.Int.{w8}
use Rattle.std.proofs.lemmas.Bool.{cases_lt, cases_eq, eq-eqb, ne_eqb}
use Rattle.std.proofs.lemmas.Bool.Decides.{nat_tests}
use Rattle.std.proofs.lemmas.Nat.{one_shl}
use Rattle.std.proofs.lemmas.Nat.Bits.{bit_at-zero, bit_at-pow_same, bit_at-pow_other, bit_at_or, bit_at_and, bit_at_not, bit_at_above, same_from_bits_below}
use Rattle.record.specs.Bits.{bit, BitsStand}

-- what holds at each of eight places holds at every place below 8
pub by_places : (P : ℕ → Type 0) → P 0 → P 1 → P 2 → P 3 → P 4 → P 5 → P 6 → P 7 → (k : ℕ) → k < 8 → P k
by_places P a b c d e f g h zero l = a
by_places P a b c d e f g h (suc zero) l = b
by_places P a b c d e f g h (suc (suc zero)) l = c
by_places P a b c d e f g h (suc (suc (suc zero))) l = d
by_places P a b c d e f g h (suc (suc (suc (suc zero)))) l = e
by_places P a b c d e f g h (suc (suc (suc (suc (suc zero))))) l = f
by_places P a b c d e f g h (suc (suc (suc (suc (suc (suc zero)))))) l = g
by_places P a b c d e f g h (suc (suc (suc (suc (suc (suc (suc zero))))))) l = h
by_places P a b c d e f g h (suc (suc (suc (suc (suc (suc (suc (suc k)))))))) l = absurd (omega arith)

pub or_place : (n m k : ℕ) → bit_or n m / 2 ^ k % 2 ≡ max (n / 2 ^ k % 2) (m / 2 ^ k % 2)
or_place n m k = bit_at_or n m k

pub and_place : (n m k : ℕ) → bit_and n m / 2 ^ k % 2 ≡ min (n / 2 ^ k % 2) (m / 2 ^ k % 2)
and_place n m k = bit_at_and n m k

pub bit_zero : (k : ℕ) → bit 0 k ≡ false
bit_zero k = ap (λ (n : ℕ). eqb n 1) (bit_at-zero k)

pub bit_one : (p k : ℕ) → bit (2 ^ p) k ≡ eqb k p
bit_one p k =
    elim (cases_eq k p) [
      | inl e ↦ rw e (ap (λ (n : ℕ). eqb n 1) (bit_at-pow_same p) ∙ sym (eq-eqb p p refl))
      | inr n ↦ ap (λ (n : ℕ). eqb n 1) (bit_at-pow_other p k n) ∙ sym (ne_eqb k p n)
    ]

-- one bit, as it is shifted to its place
pub bit_shl : (p k : ℕ) → p < 8 → bit (1 * 2 ^ p % 2 ^ 8) k ≡ eqb k p
bit_shl p k l = rw (one_shl p 8 l) (bit_one p k)

pub bit-or : (n m k : ℕ) → bit (bit_or n m) k ≡ (bit n k || bit m k)
bit-or n m k = let e = bit_at_or n m k in grind (arith, nat_tests)

-- the bits that an octet has not
pub bit_not : (m k : ℕ) → m < 256 → k < 8 → bit (255 - m) k ≡ not (bit m k)
bit_not m k h l = let f = bit_at_not w8 m k h l in grind (arith, nat_tests)

pub bit_clear : (n m k : ℕ) → m < 256 → k < 8 → bit (bit_and n (255 - m)) k ≡ (bit n k && not (bit m k))
bit_clear n m k h l = let e = bit_at_and n (255 - m) k in let f = bit_at_not w8 m k h l in grind (arith, nat_tests)

-- the same at any place, of an octet: it has no bit from place 8 on
pub bit_clear_all : (n m k : ℕ) → n < 256 → m < 256 → bit (bit_and n (255 - m)) k ≡ (bit n k && not (bit m k))
bit_clear_all n m k h l =
    elim (cases_lt k 8) [
      | inl b ↦ bit_clear n m k l b
      | inr a ↦ (let e = bit_at_and n (255 - m) k in let f = bit_at_above n 8 k h a in grind (arith, nat_tests))
    ]

place_same : (n m k : ℕ) → bit n k ≡ bit m k → n / 2 ^ k % 2 ≡ m / 2 ^ k % 2
place_same n m k e = grind (arith, nat_tests)

pub bits_same : (n m : ℕ) → n < 256 → m < 256 → ((k : ℕ) → k < 8 → bit n k ≡ bit m k) → n ≡ m
bits_same n m h l f = same_from_bits_below 8 n m h l (λ k b. place_same n m k (f k b))

pub bits_stand : BitsStand
bits_stand = record { zero = bit_zero; one = λ p k h l. bit_one p k; set = bit-or; clear = bit_clear; same = bits_same }

-- for the unions and the differences of sets of ports
pub ruleset mask_steps = (bit-or, bit_clear_all)
