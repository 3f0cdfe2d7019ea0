use Rattle.std.proofs.Common.{◌≡◌, drop}
use Rattle.frame.specs.Reading.{fixed, wrong_octet}
use Rattle.frame.proofs.header.check_fixed.Given as goal

-- the octets that are left decide
abbrev pub invariant-loop-at : goal.invariant-loop-at
invariant-loop-at l = wrong_octet fixed l.f ≡ wrong_octet (drop l.at-index fixed) l.f
