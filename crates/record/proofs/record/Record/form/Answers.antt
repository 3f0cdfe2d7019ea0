use Rattle.record.proofs.FormLaws.{well_formed}
use Rattle.record.proofs.record.Record.form.Goals as goal

pub returns-in-Live-clause-has : goal.returns-in-Live-clause-has
returns-in-Live-clause-has c = well_formed c.args.self.now

pub returns-in-Purge-clause-has : goal.returns-in-Purge-clause-has
returns-in-Purge-clause-has c = well_formed c.args.self.now

pub returns-in-Placeholder-clause-has : goal.returns-in-Placeholder-clause-has
returns-in-Placeholder-clause-has c = well_formed c.args.self.now
