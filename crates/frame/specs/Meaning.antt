-- What the code's messages say.
use Rattle.std.specs.Prelude.{◌≡◌, ℕ, ◌+◌, ◌/◌, min, List, length, drop, Ok, Err, Result}
use Rattle.fault.specs.declared.FrameFault.{FrameFault}
use Rattle.octets.specs.Octets.{value}
use Rattle.frame.specs.declared.message.Lsp.{Lsp as LspValue}
use Rattle.frame.specs.declared.message.Entry.{Entry}
use Rattle.frame.specs.declared.entries.EntryIter.{EntryIter}
use Rattle.frame.specs.declared.message.Entries.{Entries}
use Rattle.frame.specs.declared.message.Csnp.{Csnp as CsnpValue}
use Rattle.frame.specs.declared.message.Psnp.{Psnp as PsnpValue}
use Rattle.frame.specs.declared.message.Message.{Message}
use Rattle.frame.specs.declared.message.Message.TheVariants.{Lsp, Csnp, Psnp}
use Rattle.frame.specs.Messages.{LspPdu, SnpEntry, CsnpPdu, PsnpPdu, Pdu, lsp, csnp, psnp}
use Rattle.frame.specs.Reading.{entries_at, entries_of}

abbrev pub lsp_said : LspValue → LspPdu
lsp_said m =
    record { lifetime = m.lifetime; id = value m.id; number = m.number; check = m.check; flags = m.flags; body = m.body.now }

abbrev pub entry_said : Entry → SnpEntry
entry_said e = record { lifetime = e.lifetime; id = value e.id; number = e.number; check = e.check }

-- how many entries stand in octets, 16 to each: at most 15 count
abbrev pub entry_count : List ℕ → ℕ
entry_count octets = min (length octets / 16) 15

abbrev pub entries_in : List ℕ → List SnpEntry
entries_in octets = entries_at (entry_count octets) 0 octets

-- entries are the frame's behind a header of this size, its own octets there with their place
abbrev pub Lists : ℕ → List ℕ → Entries → Type 0
Lists size f es = (entries_in es.octets.now ≡ entries_of size f) × (es.octets.now ≡ drop (size + 2) f) × (es.place ≡ size + 2)

-- the entries that an iterator has left
abbrev pub entries_left : EntryIter → List SnpEntry
entries_left s = entries_at (length s.left.now / 16) 0 s.left.now

abbrev pub csnp_said : CsnpValue → CsnpPdu
csnp_said m =
    record { source = value m.source; start = value m.range.start; end = value m.range.end; entries = entries_in m.entries.octets.now }

abbrev pub psnp_said : PsnpValue → PsnpPdu
psnp_said m = record { source = value m.source; entries = entries_in m.entries.octets.now }

abbrev pub message_said : Message → Pdu
message_said (Lsp m) = lsp (lsp_said m)
message_said (Csnp m) = csnp (csnp_said m)
message_said (Psnp m) = psnp (psnp_said m)

abbrev pub meant : Result Message FrameFault → Result Pdu FrameFault
meant (Ok m) = Ok (message_said m)
meant (Err e) = Err e

-- the parts that a message hands out are the frame's own octets, each with its place
abbrev pub OwnParts : List ℕ → Message → Type 0
OwnParts f (Lsp m) = m.body.now ≡ drop 27 f
OwnParts f (Csnp m) = (m.entries.octets.now ≡ drop 35 f) × (m.entries.place ≡ 35)
OwnParts f (Psnp m) = (m.entries.octets.now ≡ drop 19 f) × (m.entries.place ≡ 19)

-- the octets of the body or of the entries
abbrev pub content_octets : Message → List ℕ
content_octets (Lsp m) = m.body.now
content_octets (Csnp m) = m.entries.octets.now
content_octets (Psnp m) = m.entries.octets.now
