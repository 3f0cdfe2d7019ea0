-- The kinds of frames.
use Rattle.std.specs.Prelude.{ℕ, cond, Some, None, Option, Result, ◌==◌}
use Rattle.std.specs.Option.{ok_or}
use Rattle.fault.specs.declared.FrameFault.{FrameFault}
use Rattle.fault.specs.declared.FrameFault.TheVariants.{Kind as UnknownKind}
use Rattle.frame.specs.declared.kind.Kind.{Kind}
use Rattle.frame.specs.declared.kind.Kind.TheVariants.{Lsp, Csnp, Psnp}

-- octet 4 of a frame of each kind
abbrev pub kind_octet : Kind → ℕ
kind_octet Lsp = 18
kind_octet Csnp = 24
kind_octet Psnp = 26

-- the kind that an octet names
abbrev pub kind_named : ℕ → Option Kind
kind_named n = cond (n == 18) (Some Lsp) (cond (n == 24) (Some Csnp) (cond (n == 26) (Some Psnp) None))

-- the same, with the fault of an octet that names none
abbrev pub named : ℕ → Result Kind FrameFault
named n = ok_or (kind_named n) UnknownKind

-- the header's octets
abbrev pub header_size : Kind → ℕ
header_size Lsp = 27
header_size Csnp = 33
header_size Psnp = 17
