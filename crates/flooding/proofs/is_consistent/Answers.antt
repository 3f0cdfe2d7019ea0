use Rattle.flooding.proofs.RunsConsistent
use Rattle.flooding.proofs.Unissued
use Rattle.flooding.proofs.BookKept
use Rattle.flooding.proofs.is_consistent.Goals as goal

pub returns : goal.returns
returns c = record {
  always = RunsConsistent.runs_are_consistent;
  issued = RunsConsistent.issued;
  ages = RunsConsistent.copies_in_step;
  numbers = RunsConsistent.no_number_beyond;
  purges = RunsConsistent.no_purge_of_last;
  owner = RunsConsistent.active_owner_holds;
  sent = RunsConsistent.sent_is_allowed;
  unissued = Unissued.unissued_unheld;
  book = BookKept.keeps_the_book;
}
