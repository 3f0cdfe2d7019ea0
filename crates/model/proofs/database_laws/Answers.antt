use Rattle.model.proofs.DatabaseFacts
use Rattle.model.proofs.database_laws.Goals as goal

pub returns : goal.returns
returns c = DatabaseFacts.database_laws_lem
