use Rattle.std.proofs.Common.{◌≡◌, ◌+◌, ◌*◌, ◌≤◌, length}
use Rattle.octets.specs.Octets.{value}
use Rattle.frame.specs.Reading.{floor}
use Rattle.frame.specs.Meaning.{entries_in, entries_left}
use Rattle.frame.proofs.Answering.{entries_fault}
use Rattle.frame.proofs.snp.check_entries.Given as goal

-- the entries that are left decide
abbrev pub invariant-loop-entry : goal.invariant-loop-entry
invariant-loop-entry l =
    record {
      decides : entries_fault l.entries.place (value l.range.start) (value l.range.end) (entries_in l.entries.octets.now)
          ≡ entries_fault l.place (floor (value l.range.start) l.last) (value l.range.end) (entries_left l.entry-iterator);
      within : value l.range.start ≤ floor (value l.range.start) l.last;
      fits : l.place + 16 * length (entries_left l.entry-iterator) ≤ 100000;
    }
