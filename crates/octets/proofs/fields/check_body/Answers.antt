use Rattle.std.proofs.Common.{◌≡◌, ◌<◌, length, Some, None, Err, sym, ap, ◌∙◌, arith}
use Rattle.std.proofs.lemmas.Result.{err_from_is_err_and}
use Rattle.std.proofs.lemmas.Bool.{eqb-true, eqb-false}
use Rattle.fault.specs.declared.FrameFault.TheVariants.{Field}
use Rattle.fault.specs.Order.{unless}
use Rattle.octets.specs.Fields.{body_fault}
use Rattle.octets.proofs.FieldLaws.{broken_past, broken_here, broken_end, checked_whole, checked_fits, checked_long, checked_short}
use Rattle.octets.proofs.fields.check_body.Goals as goal

pub returns-then-body-gt100 : goal.returns-then-body-gt100
returns-then-body-gt100 c =
    let body = c.args.body.now in
    let at = c.args.at in
    let v = checked_long at c.from.result body c.from.ensures c.if-body-gt100.true in
    record { value = v; whole = checked_whole at body _ v; fits = checked_fits at body _ v }

pub returns-in_err-value : goal.returns-in_err-value
returns-in_err-value c =
    let body = c.args.body.now in
    let at = c.args.at in
    let rest = c.loop-rest.rest.now in
    let place = c.loop-rest.place in
    let p = err_from_is_err_and c.from_residual.result c.from_residual.ensures.1 in
    let h = c.in_err-value.ensures in
    let some : 0 < length rest = omega (arith, eqb-false (length rest) 0 (sym c.is_empty.ensures ∙ c.loop-rest-test.true)) in
    let b = checked_short at body (Some (Field place)) c.if-body-gt100.false (sym c.loop-rest.invariant.1 ∙ broken_here place rest some h.0) in
    let v : c.from_residual.result ≡ unless (body_fault at body) tt = p.1 ∙ ap Err (p.2 ∙ h.1) ∙ b in
    record { value = v; whole = checked_whole at body _ v; fits = checked_fits at body _ v }

pub loop-rest-preserved : goal.loop-rest-preserved
loop-rest-preserved c =
    let h = c.in_ok-value.ensures in
    (omega arith, broken_past c.loop-rest.place c.loop-rest.rest.now h ∙ c.loop-rest.invariant.1)

pub returns : goal.returns
returns c =
    let body = c.args.body.now in
    let at = c.args.at in
    let rest = c.loop-rest.rest.now in
    let e = eqb-true (length rest) 0 (sym c.is_empty.ensures ∙ c.loop-rest-test.false) in
    let v = checked_short at body None c.if-body-gt100.false (sym c.loop-rest.invariant.1 ∙ broken_end c.loop-rest.place rest e) in
    record { value = v; whole = checked_whole at body _ v; fits = checked_fits at body _ v }
