use Rattle.std.proofs.Common.{sym, le-ltb}
use Rattle.std.proofs.lemmas.Result.{err_from_is_err_and}
use Rattle.fault.proofs.Laws.{unless_err}
use Rattle.frame.proofs.Answering.{header-fixed}
use Rattle.frame.specs.Reading.{fixed, wrong_octet}
use Rattle.frame.proofs.header.read_header.Goals as goal

pub returns-in_err-check_fixed-clause-value : goal.returns-in_err-check_fixed-clause-value
returns-in_err-check_fixed-clause-value c =
    let p = err_from_is_err_and c.from_residual.result c.from_residual.ensures.1 in
    let f = c.args.f.now in
    rw (p.1, p.2)
    (sym (header-fixed f (le-ltb _ 8 c.if-f-lt8.false) _
    (unless_err (wrong_octet fixed f) tt _ (sym c.in_err-check_fixed.ensures))))
