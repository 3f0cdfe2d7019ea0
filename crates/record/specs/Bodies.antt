-- What a body and a record's octets say.
use Rattle.std.specs.Prelude.{ℕ, List, take, replicate, refl}
use Rattle.std.proofs.Common.{lit≤}
use Rattle.octets.specs.declared.checks.CheckOctets.{CheckOctets}
use Rattle.octets.specs.Octets.{value}
use Rattle.frame.specs.Messages.{LspPdu}
use Rattle.record.specs.declared.body.Body.{Body}
use Rattle.record.specs.Fields.{no_fields}

-- the octets of a body
abbrev pub body_octets : Body → List ℕ
body_octets b = take b.len b.octets

-- the body of no octets
abbrev pub empty_body : Body
empty_body = record { octets = replicate 100 0; len = 0; room = refl; few = lit≤ tt; fields = no_fields }

-- what these say as an LSP
abbrev pub lsp_by : ℕ → List ℕ → ℕ → CheckOctets → ℕ → List ℕ → LspPdu
lsp_by lifetime id number check flags body =
    record { lifetime = lifetime; id = value id; number = number; check = check; flags = flags; body = body }

abbrev pub pdu : List ℕ → ℕ → ℕ → CheckOctets → ℕ → Body → LspPdu
pdu id number lifetime check flags body = lsp_by lifetime id number check flags (body_octets body)
