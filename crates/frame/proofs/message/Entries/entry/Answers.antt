use Rattle.std.proofs.Common.{Some, sym, ap, ◌∙◌, arith}
use Rattle.std.proofs.lemmas.Option.{slice_get_past}
use Rattle.frame.specs.Reading.{entry_at}
use Rattle.frame.specs.Meaning.{entry_count, entries_in}
use Rattle.frame.proofs.EntryLists.{entries_get, length_entries_at}
use Rattle.frame.proofs.message.Entries.entry.Goals as goal

pub returns-in_err-octets : goal.returns-in_err-octets
returns-in_err-octets c =
    let xs = c.args.self.now.octets.now in
    let h = c.in_err-octets.ensures in
    rw c.from_residual.ensures (sym (slice_get_past (entries_in xs) c.args.k (omega (arith, length_entries_at (entry_count xs) xs 0))))

pub returns : goal.returns
returns c =
    let xs = c.args.self.now.octets.now in
    let e = c.in_ok-octets.ensures in
    ap Some (c.read_entry.ensures ∙ ap (entry_at 0) e.2) ∙ sym (entries_get (entry_count xs) c.args.k xs e.0)
