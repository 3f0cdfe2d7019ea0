use Rattle.std.proofs.Common.{sym, refl, ap, ◌∙◌}
use Rattle.std.proofs.lemmas.Result.{err_from_is_err_and}
use Rattle.fault.proofs.Laws.{unless_err, unless_ok}
use Rattle.octets.specs.Octets.{value}
use Rattle.frame.proofs.Answering.{psnp_tail_fault, psnp_entries, same_first}
use Rattle.frame.proofs.Summaries.{made_psnp}
use Rattle.frame.proofs.snp.read_psnp.Goals as goal

pub returns-in_err-entries : goal.returns-in_err-entries
returns-in_err-entries c =
    let p = err_from_is_err_and c.from_residual.result c.from_residual.ensures.1 in
    let h = c.in_err-entries.ensures in
    rw (p.1, p.2, h.1) (psnp_tail_fault c.args.f.now h.0)

pub returns-in_err-check_entries : goal.returns-in_err-check_entries
returns-in_err-check_entries c =
    let p = err_from_is_err_and c.from_residual-in_err-check_entries.result c.from_residual-in_err-check_entries.ensures.1 in
    let l = c.in_ok-entries.ensures in
    rw (p.1, p.2)
    (psnp_entries c.args.f.now l.0
    ∙ (sym (same_first _ 19 _ _ _ _ _ _ l.1.2 refl refl l.1.0) ∙ unless_err _ tt _ (sym c.in_err-check_entries.ensures)))

pub returns : goal.returns
returns c =
    let l = c.in_ok-entries.ensures in (
      psnp_entries c.args.f.now l.0
          ∙ (sym (same_first _ 19 _ _ _ _ _ _ l.1.2 refl refl l.1.0) ∙ unless_ok _ tt tt (sym c.in_ok-check_entries.ensures)),
      made_psnp _ _ _ _ (ap value c.array_at.ensures) l.1.0,
      (l.1.1, l.1.2),
    )
