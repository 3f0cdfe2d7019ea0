-- Sets of ports.
use Rattle.std.specs.Prelude.{◌≡◌, ℕ, Bool, not, ◌&&◌, ◌||◌}
use Rattle.record.specs.declared.port.Ports.{Ports}
use Rattle.record.specs.Bits.{bit}

-- whether a port is one of these
abbrev pub has_port : Ports → ℕ → Bool
has_port ps k = bit ps.bits k

-- r has the ports of a and those of b
abbrev pub IsUnion : Ports → Ports → Ports → Type 0
IsUnion a b r = (k : ℕ) → has_port r k ≡ (has_port a k || has_port b k)

-- r has the ports of a that b has not
abbrev pub IsDifference : Ports → Ports → Ports → Type 0
IsDifference a b r = (k : ℕ) → has_port r k ≡ (has_port a k && not (has_port b k))
