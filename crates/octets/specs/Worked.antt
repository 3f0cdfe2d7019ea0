-- Check octets worked out: the LSP 0000.0000.0001.00-00 with the flag octet 1.
use Rattle.std.specs.Prelude.{◌≡◌, ℕ, List, [], ◌∷◌, ◌++◌}
use Rattle.octets.specs.Octets.{octets}
use Rattle.octets.specs.Checks.{check_octets}

-- its part from octet 12 on, with 0 for its check octets: the identifier, the number, the check octets, the flag, the body
abbrev pub sample : ℕ → List ℕ → List ℕ
sample number body = 0 ∷ 0 ∷ 0 ∷ 0 ∷ 0 ∷ 1 ∷ 0 ∷ 0 ∷ (octets 4 number ++ 0 ∷ 0 ∷ 1 ∷ body)

pub record Worked : Type 0 where
  pub one : check_octets 13 (sample 1 []) ≡ record { x = 0xF6; y = 0x06 }
  pub two : check_octets 13 (sample 2 []) ≡ record { x = 0xF4; y = 0x07 }
  pub body : check_octets 13 (sample 1 (0x81 ∷ 0x01 ∷ 0xCC ∷ [])) ≡ record { x = 0x30; y = 0x7D }
  -- X is 0 modulo 255
  pub zero : check_octets 13 (sample 124 []) ≡ record { x = 0xFF; y = 0x81 }
