use Rattle.std.proofs.Common.{sym, refl, ap, ◌∙◌, arith}
use Rattle.octets.specs.Octets.{value}
use Rattle.frame.specs.Reading.{floor}
use Rattle.frame.specs.Meaning.{entry_count, entries_in, entry_said, entries_left}
use Rattle.frame.proofs.EntryLists.{length_entries_at}
use Rattle.frame.proofs.Answering.{entries_fault, first_entries, here_lifetime, here_order, refused, let_through}
use Rattle.frame.proofs.snp.check_entries.Goals as goal

pub loop-entry-init : goal.loop-entry-init
loop-entry-init c =
    let xs = c.args.entries.octets.now in
    let same = c.into_iter-entry-iterator.ensures.into_iter_gives.0 in
    record {
      decides = rw (c.from-place.ensures, same) refl;
      within = omega arith;
      fits = rw (c.from-place.ensures, same) (omega (arith, length_entries_at (entry_count xs) xs 0));
    }

pub returns-then-entry-gt1200 : goal.returns-then-entry-gt1200
returns-then-entry-gt1200 c =
    let low = floor (value c.args.range.start) c.loop-entry.last in
    let high = value c.args.range.end in
    refused _ _ _
    (first_entries (entries_in c.args.entries.octets.now) c.args.entries.place (value c.args.range.start) high
    ∙ c.loop-entry.invariant.decides
    ∙ ap (entries_fault c.loop-entry.place low high) c.in-Some.ensures.steps
    ∙ here_lifetime (entry_said c.in-Some.entry) (entries_left c.next.new.self) c.loop-entry.place low high c.if-entry-gt1200.true) refl

pub returns-then-is_out : goal.returns-then-is_out
returns-then-is_out c =
    let low = floor (value c.args.range.start) c.loop-entry.last in
    let high = value c.args.range.end in
    refused _ _ _
    (first_entries (entries_in c.args.entries.octets.now) c.args.entries.place (value c.args.range.start) high
    ∙ c.loop-entry.invariant.decides
    ∙ ap (entries_fault c.loop-entry.place low high) c.in-Some.ensures.steps
    ∙ here_order (entry_said c.in-Some.entry) (entries_left c.next.new.self) c.loop-entry.place low high c.if-entry-gt1200.false (sym c.is_out.ensures ∙ c.if-is_out.true)) refl

pub returns : goal.returns
returns c =
    let low = floor (value c.args.range.start) c.loop-entry.last in
    let high = value c.args.range.end in
    let_through _
    (first_entries (entries_in c.args.entries.octets.now) c.args.entries.place (value c.args.range.start) high
    ∙ c.loop-entry.invariant.decides
    ∙ ap (entries_fault c.loop-entry.place low high) c.in-None.ensures.steps.0)
