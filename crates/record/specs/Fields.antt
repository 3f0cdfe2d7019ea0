-- The fields of a body.
use Rattle.std.specs.Prelude.{◌≡◌, ℕ, Bool, true, not, List, [], is_some, refl}
use Rattle.octets.specs.Fields.{broken_field}

-- a body of whole fields
unfoldable pub whole_fields : List ℕ → Bool
whole_fields body = not (is_some (broken_field 0 body))

-- no octets are no field
pub no_fields : whole_fields [] ≡ true
unfolding whole_fields
no_fields = refl
