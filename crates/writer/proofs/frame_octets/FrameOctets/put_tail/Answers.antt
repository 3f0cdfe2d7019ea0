use Rattle.std.proofs.Common.{◌≡◌, ◌∙◌, List, map, length, sym, ap, refl, arith, eqb-true}
use borrow.Author.Tests.{eqb-false}
use Rattle.std.proofs.lemmas.List.{take_all}
use Rattle.frame.specs.declared.message.Entry.{Entry}
use Rattle.frame.specs.Messages.{entries_octets}
use Rattle.frame.specs.Meaning.{entry_said}
use Rattle.writer.proofs.Writes.{wrote_none, wrote_then, wrote_as}
use Rattle.writer.proofs.Entering.{entries_more, tail_is, no_tail_is}
use Rattle.writer.proofs.frame_octets.FrameOctets.put_tail.Goals as goal

pub returns-then-is_empty-clause-wrote : goal.returns-then-is_empty-clause-wrote
returns-then-is_empty-clause-wrote c =
    wrote_as (no_tail_is c.args.entries.now (eqb-true _ 0 (sym c.is_empty.ensures ∙ c.if-is_empty.true)))
    (wrote_none c.args.self.now.buf.now c.args.self.now.len (omega arith))

pub loop-e-init : goal.loop-e-init
loop-e-init c = record { same_reference = refl; wrote = wrote_none _ _ (omega arith); long = omega arith }

pub loop-e-preserved : goal.loop-e-preserved
loop-e-preserved c =
    record {
      same_reference = c.put_entry.ensures.same_reference ∙ c.loop-e.invariant.same_reference;
      wrote = wrote_as (entries_more c.args.entries.now c.loop-e.e-index (omega arith))
          (wrote_then (omega arith) c.loop-e.invariant.wrote c.put_entry.ensures.wrote);
      long = omega arith;
    }

pub returns-clause-wrote : goal.returns-clause-wrote
returns-clause-wrote c =
    let xs = c.args.entries.now in
    let w = wrote_as (ap (λ (es : List Entry). entries_octets (map entry_said es)) (take_all c.loop-e.e-index xs (omega arith))) c.loop-e.invariant.wrote in
    let some : length xs ≡ 0 → ⊥ = eqb-false (length xs) 0 (sym c.is_empty.ensures ∙ c.if-is_empty.false) in
    wrote_as (tail_is xs (omega (arith, some))) (wrote_then (omega arith) c.put.ensures.wrote w)
