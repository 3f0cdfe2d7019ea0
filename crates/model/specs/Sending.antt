-- What routers say of their records: the LSP of a record, its entry in a summary, and the frames that carry them.
-- Also a router's own record: lifetime 1,200, flag octet 01, and the computed check octets.
use Rattle.std.specs.Prelude.{ℕ, ◌*◌, List, map}
use Rattle.octets.specs.declared.checks.CheckOctets.{CheckOctets}
use Rattle.octets.specs.Checks.{check_octets}
use Rattle.frame.specs.Messages.{LspPdu, SnpEntry, CsnpPdu, lsp, csnp, psnp, covered_part, encode}
use Rattle.plant.specs.Air.{Frame}
use Rattle.record.specs.Forms.{no_check}
use Rattle.model.specs.Flags.{no_flags}
use Rattle.model.specs.Records.{HeldRecord, slot_id}

-- a record as it is sent, and as it is listed
abbrev pub lsp_of : HeldRecord → LspPdu
lsp_of x =
    record { lifetime = x.lifetime; id = x.id; number = x.number; check = x.check; flags = x.flag_octet; body = x.body }

abbrev pub entry_of : HeldRecord → SnpEntry
entry_of x = record { lifetime = x.lifetime; id = x.id; number = x.number; check = x.check }

-- the record that an LSP says: wait 0, no flags
abbrev pub record_of : LspPdu → HeldRecord
record_of m =
    record {
      id = m.id;
      number = m.number;
      lifetime = m.lifetime;
      check = m.check;
      flag_octet = m.flags;
      body = m.body;
      wait = 0;
      srm = no_flags;
      ssn = no_flags;
    }

-- an issue: its identifier, number, check octets and body
abbrev pub issue_lsp : ℕ → ℕ → CheckOctets → List ℕ → LspPdu
issue_lsp i n check body = record { lifetime = 1200; id = i; number = n; check = check; flags = 1; body = body }

abbrev pub issue_check : ℕ → ℕ → List ℕ → CheckOctets
issue_check i n body = check_octets 13 (covered_part (issue_lsp i n no_check body))

-- the record of a system's slot k under number n, as it is issued
abbrev pub issue : ℕ → ℕ → ℕ → List ℕ → HeldRecord
issue system k n body = record_of (issue_lsp (slot_id system k) n (issue_check (slot_id system k) n body) body)

-- a summary's source: the system identifier, 00
abbrev pub source_of : ℕ → ℕ
source_of system = system * 256

-- the frames that routers put
abbrev pub lsp_frame : HeldRecord → Frame
lsp_frame x = encode (lsp (lsp_of x))

abbrev pub psnp_frame : ℕ → List HeldRecord → Frame
psnp_frame system xs = encode (psnp (record { source = source_of system; entries = map entry_of xs }))

abbrev pub csnp_frame : CsnpPdu → Frame
csnp_frame m = encode (csnp m)
