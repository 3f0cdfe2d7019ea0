-- The octets of numbers and identifiers, and of the messages made of them.
use Rattle.std.proofs.Common.{◌≡◌, ℕ, ◌/◌, ◌%◌, ◌^◌, ◌<◌, List, [], ◌∷◌, length, get_or, sym, refl, ap, arith}
use Rattle.octets.specs.Octets.{Octets, octets, value}
use Rattle.octets.proofs.Numbers.{octets-value, value_under}
use Rattle.octets.proofs.Orders.{octets_from}

pub same_four : (a a' b b' c c' d : ℕ) → a ≡ a' → b ≡ b' → c ≡ c' → ◌≡◌ {A = List ℕ} (a ∷ b ∷ c ∷ d ∷ []) (a' ∷ b' ∷ c' ∷ d ∷ [])
same_four a a' b b' c c' d p q r = rw (p, q, r) refl

pub four_octets : (n : ℕ) → (n / 16777216 % 256) ∷ (n / 65536 % 256) ∷ (n / 256 % 256) ∷ (n % 256) ∷ [] ≡ octets 4 n
four_octets n = grind arith

-- octets by their number, and a bound on it
pub by_value : (xs : List ℕ) (n : ℕ) → length xs ≡ n → ((k : ℕ) → get_or xs k 0 < 256) → (xs ≡ octets n (value xs)) × (value xs < 256 ^ n)
by_value xs n e h =
    let o : Octets xs = octets_from xs h in
    let u : value xs < 256 ^ length xs = value_under xs o in
    let p : 256 ^ length xs ≡ 256 ^ n = ap (λ (k : ℕ). 256 ^ k) e in
    (sym (octets-value xs n e o), omega arith)
