-- Bits of an octet, by their places 0 to 7.
use Rattle.std.specs.Prelude.{◌≡◌, ℕ, ◌-◌, ◌/◌, ◌%◌, ◌^◌, ◌<◌, Bool, false, not, ◌&&◌, ◌||◌, ◌==◌, bit_and, bit_or}

-- whether the bit at a place is set
abbrev pub bit : ℕ → ℕ → Bool
bit n k = n / 2 ^ k % 2 == 1

-- what masks do to bits
pub record BitsStand : Type 0 where
  -- no bit
  pub zero : (k : ℕ) → bit 0 k ≡ false
  -- one bit
  pub one : (p k : ℕ) → p < 8 → k < 8 → bit (2 ^ p) k ≡ (k == p)
  -- the bits of two octets
  pub set : (n m k : ℕ) → bit (bit_or n m) k ≡ (bit n k || bit m k)
  -- the bits of an octet that another has not
  pub clear : (n m k : ℕ) → m < 256 → k < 8 → bit (bit_and n (255 - m)) k ≡ (bit n k && not (bit m k))
  -- an octet is its bits
  pub same : (n m : ℕ) → n < 256 → m < 256 → ((k : ℕ) → k < 8 → bit n k ≡ bit m k) → n ≡ m
