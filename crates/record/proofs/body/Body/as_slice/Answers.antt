use Rattle.record.specs.Bodies.{body_octets}
use Rattle.record.proofs.FormLaws.{fields_whole, octets_short}
use Rattle.record.proofs.body.Body.as_slice.Goals as goal

pub returns-clause-whole : goal.returns-clause-whole
returns-clause-whole c = let b = c.args.self.now in fields_whole (body_octets b) b.fields

pub returns-clause-short : goal.returns-clause-short
returns-clause-short c = octets_short c.args.self.now
