use Rattle.std.proofs.Common.{◌≡◌, sym, ap, ◌∙◌, arith, ltb-false, ltb-true}
use Rattle.std.proofs.lemmas.Result.{err_from_is_err_and}
use Rattle.fault.proofs.Laws.{unless_err, unless_ok}
use Rattle.octets.specs.Octets.{value, field}
use Rattle.frame.proofs.Answering.{csnp_tail_fault, csnp_range_fault, csnp_entries, same_first}
use Rattle.frame.proofs.Summaries.{made_csnp}
use Rattle.frame.proofs.snp.read_csnp.Goals as goal

pub returns-in_err-entries : goal.returns-in_err-entries
returns-in_err-entries c =
    let p = err_from_is_err_and c.from_residual.result c.from_residual.ensures.1 in
    let h = c.in_err-entries.ensures in
    rw (p.1, p.2, h.1) (csnp_tail_fault c.args.f.now h.0)

pub returns-then-is_empty : goal.returns-then-is_empty
returns-then-is_empty c =
    let f = c.args.f.now in
    let a : value c.array_at-start.result ≡ field 17 8 f = ap value c.array_at-start.ensures in
    let b : value c.array_at-end.result ≡ field 25 8 f = ap value c.array_at-end.ensures in
    let lt = ltb-true _ _ (sym c.if-is_empty.ensures) in
    csnp_range_fault f c.in_ok-entries.ensures.0 (omega (arith, a, b, lt))

pub returns-in_err-check_entries : goal.returns-in_err-check_entries
returns-in_err-check_entries c =
    let p = err_from_is_err_and c.from_residual-in_err-check_entries.result c.from_residual-in_err-check_entries.ensures.1 in
    let f = c.args.f.now in
    let l = c.in_ok-entries.ensures in
    let a : value c.array_at-start.result ≡ field 17 8 f = ap value c.array_at-start.ensures in
    let b : value c.array_at-end.result ≡ field 25 8 f = ap value c.array_at-end.ensures in
    let le = ltb-false _ _ (sym c.if-is_empty.ensures) in
    rw (p.1, p.2)
    (csnp_entries f l.0 (omega (arith, a, b, le))
    ∙ (sym (same_first _ 35 _ _ _ _ _ _ l.1.2 a b l.1.0) ∙ unless_err _ tt _ (sym c.in_err-check_entries.ensures)))

pub returns : goal.returns
returns c =
    let f = c.args.f.now in
    let l = c.in_ok-entries.ensures in
    let a : value c.array_at-start.result ≡ field 17 8 f = ap value c.array_at-start.ensures in
    let b : value c.array_at-end.result ≡ field 25 8 f = ap value c.array_at-end.ensures in
    let le = ltb-false _ _ (sym c.if-is_empty.ensures) in (
      csnp_entries f l.0 (omega (arith, a, b, le))
          ∙ (sym (same_first _ 35 _ _ _ _ _ _ l.1.2 a b l.1.0) ∙ unless_ok _ tt tt (sym c.in_ok-check_entries.ensures)),
      made_csnp _ _ _ _ _ _ _ _ (ap value c.array_at.ensures) a b l.1.0,
      (l.1.1, l.1.2),
    )
