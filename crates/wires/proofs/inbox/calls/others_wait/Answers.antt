use Rattle.std.proofs.Common.{rules, ◌∙◌, not, ◌&&◌, eqb, ℕ, is_some}
use Rattle.std.proofs.lemmas.Iterator.{YieldsList-from_slice}
use Rattle.std.proofs.lemmas.Iterator.Consumers.{YieldsList-from_enumerate}
use Rattle.std.proofs.lemmas.Iterator.Search.{any_from_yields_List}
use borrow.Author.Tests.{tests}
use Rattle.wires.specs.Held.{held}
use Rattle.wires.specs.declared.inbox.Inbox.{Inbox}
use Rattle.wires.proofs.Inboxes.{any_other}
use Rattle.wires.proofs.inbox.calls.others_wait.Goals as goal

pub returns : goal.returns
returns c =
    any_from_yields_List (λ (p : ℕ × Inbox). not (eqb p.0 c.args.end) && is_some (held p.1)) _ _ c.any.result c.any.ensures.ran
    (YieldsList-from_enumerate (YieldsList-from_slice c.args.inboxes.now cc) (cc))
    (λ x b q k. search (rules, tests))
    ∙ any_other c.args.inboxes.now c.args.end
