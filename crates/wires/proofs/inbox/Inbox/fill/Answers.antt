use Rattle.std.proofs.Common.{length, Some, ap, ◌∙◌, arith, length-append, length-drop, rules}
use Rattle.std.proofs.lemmas.List.{take_at}
use Rattle.std.proofs.lemmas.Bool.{cond-false, ne_eqb}
use Rattle.wires.proofs.inbox.Inbox.fill.Goals as goal

pub invariant_of-self : goal.invariant_of-self
invariant_of-self c = record {
  few = search rules;
  whole =
      simp (length-append, length-drop)
      (omega (arith, c.copy_from_slice.ensures.len, c.args.self.now.whole));
}

pub returns : goal.returns
returns c =
    let n = length c.octets-octets.result.now in
    cond-false _ _ _ (ne_eqb n 0 (omega arith))
    ∙ (ap Some (take_at c.copy_from_slice.new.self _ n (ap length c.copy_from_slice.ensures.after) ∙ c.copy_from_slice.ensures.after)
    ∙ ap Some c.octets-octets.ensures.0)
