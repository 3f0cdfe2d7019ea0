-- What summaries say.
use Rattle.std.specs.Prelude.{◌≡◌, ℕ, ◌+◌, ◌*◌, if◌then◌else◌, List, [], ◌∷◌, ◌++◌, map, Some, None, Ok, Err, Result, ◌==◌}
use Rattle.octets.specs.Octets.{value, octets}
use Rattle.octets.specs.declared.ids.IdRange.{IdRange}
use Rattle.frame.specs.declared.message.Entry.{Entry}
use Rattle.frame.specs.Messages.{SnpEntry, Pdu, csnp, psnp, header}
use Rattle.frame.specs.declared.kind.Kind.TheVariants as Kind
use Rattle.frame.specs.Meaning.{entry_said}
use Rattle.writer.specs.declared.scope.Scope.{Scope}
use Rattle.writer.specs.declared.scope.Scope.TheVariants.{Csnp, Psnp}
use Rattle.writer.specs.declared.summary.ClosedSummary.{ClosedSummary}
use Rattle.writer.specs.declared.summary.OpenSummary.{OpenSummary}
use Rattle.writer.specs.declared.summary.SummaryRefusal.{SummaryRefusal}
use Rattle.writer.specs.Listing.{entry_fault, range_fault}

-- the entries that an open summary has taken
abbrev pub listed : OpenSummary → List Entry
listed s = s.listing.entries.items

-- what adding an entry answers: a summary of the same source with one entry more, or the refusal and the summary as it was
abbrev pub Adds : OpenSummary → Entry → Result OpenSummary SummaryRefusal → Type 0
Adds s e (Ok t) = (entry_fault (listed s) e ≡ None) × (t.listing.source ≡ s.listing.source) × (listed t ≡ listed s ++ e ∷ [])
Adds s e (Err x) = (entry_fault (listed s) e ≡ Some x.fault) × (x.summary ≡ s)

-- what a closed summary says
abbrev pub said_in : Scope → ℕ → List SnpEntry → Pdu
said_in (Csnp r) source es = csnp (record { source = source; start = value r.start; end = value r.end; entries = es })
said_in Psnp source es = psnp (record { source = source; entries = es })

abbrev pub summary_said : ClosedSummary → Pdu
summary_said s = said_in s.scope (value s.listing.source) (map entry_said s.listing.entries.items)

-- what closing an open summary answers: a closed one of the same source and entries, or the refusal and the summary as it was
abbrev pub Closes : OpenSummary → IdRange → Result ClosedSummary SummaryRefusal → Type 0
Closes s r (Ok t) =
    (range_fault (listed s) r ≡ None) × (summary_said t ≡ said_in (Csnp r) (value s.listing.source) (map entry_said (listed s)))
Closes s r (Err x) = (range_fault (listed s) r ≡ Some x.fault) × (x.summary ≡ s)

-- the octets of a summary's entries, behind the header
abbrev pub tail_size : ℕ → ℕ
tail_size count = if count == 0 then 0 else 2 + 16 * count

-- the octets in front of the entries, so many standing behind the header
abbrev pub head_octets : Scope → ℕ → ℕ → List ℕ
head_octets (Csnp r) source behind = header Kind.Csnp behind ++ octets 7 source ++ octets 8 (value r.start) ++ octets 8 (value r.end)
head_octets Psnp source behind = header Kind.Psnp behind ++ octets 7 source
