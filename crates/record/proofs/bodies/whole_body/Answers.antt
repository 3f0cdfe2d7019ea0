use Rattle.std.proofs.Common.{◌≡◌, ℕ, true, List, ◌++◌, length, take, ap, ◌∙◌}
use Rattle.std.proofs.Math.Seq.{take-append_seam}
use Rattle.octets.specs.Fields.{Whole}
use Rattle.octets.proofs.FieldLaws.{body_whole}
use Rattle.record.specs.Fields.{whole_fields}
use Rattle.record.proofs.FormLaws.{whole_test, fault_short}
use Rattle.record.proofs.bodies.whole_body.Goals as goal

-- whole fields at the front of an array
front_whole : (a w d : List ℕ) → a ≡ w → Whole w → whole_fields (take (length w) (a ++ d)) ≡ true
front_whole a w d e h = let p : take (length w) (a ++ d) ≡ w = rw e (take-append_seam w d) in ap whole_fields p ∙ whole_test w h

pub invariant_of-result-clause-few : goal.invariant_of-result-clause-few
invariant_of-result-clause-few c = fault_short 0 c.args.octets.now c.requires

pub invariant_of-result-clause-fields : goal.invariant_of-result-clause-fields
invariant_of-result-clause-fields c =
    front_whole _ c.args.octets.now _ c.copy_from_slice.ensures.after (body_whole 0 c.args.octets.now c.requires)
