-- Ranges of identifiers, as numbers.
use Rattle.std.specs.Prelude.{ℕ, Bool, ◌&&◌, nat_le, nat_lt}
use Rattle.octets.specs.Octets.{value}
use Rattle.octets.specs.declared.ids.IdRange.{IdRange}

-- it ends before it starts
abbrev pub empty : IdRange → Bool
empty r = nat_lt (value r.end) (value r.start)

-- a number lies from start to end
abbrev pub in_range : IdRange → ℕ → Bool
in_range r k = nat_le (value r.start) k && nat_le k (value r.end)
