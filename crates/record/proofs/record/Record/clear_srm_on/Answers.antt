use Rattle.std.proofs.Common.{◌∙◌}
use Rattle.std.proofs.lemmas.Bool.{and_left}
use Rattle.record.proofs.FormLaws.{quiet_fewer}
use Rattle.record.proofs.record.Record.clear_srm_on.Goals as goal

pub invariant_of-self-clause-unsent : goal.invariant_of-self-clause-unsent
invariant_of-self-clause-unsent c =
    let x = c.args.self.now in
    quiet_fewer x.state x.srm c.sub-self.result (λ k e. c.sub-self.ensures k ∙ and_left _ _ e) x.unsent
