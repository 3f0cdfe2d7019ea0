use Rattle.std.proofs.Common.{Ok, sym, ap, ◌∙◌}
use Rattle.std.proofs.lemmas.Result.{err_from_is_err_and}
use Rattle.frame.specs.declared.kind.Kind.TheVariants.{Lsp, Csnp, Psnp}
use Rattle.frame.specs.Messages.{LspPdu, CsnpPdu, PsnpPdu, lsp, csnp, psnp}
use Rattle.frame.proofs.Decoding.{header_refused, kind_refused, kind_read}
use Rattle.frame.proofs.reader.read_by_kind.Goals as goal

pub returns-in_err-kind-clause-reads : goal.returns-in_err-kind-clause-reads
returns-in_err-kind-clause-reads c =
    let p = err_from_is_err_and c.from_residual.result c.from_residual.ensures.1 in
    rw (p.1, p.2) (header_refused c.args.f.now _ (sym c.in_err-kind.ensures.value))

pub returns-in_err-read_lsp-in-Lsp-clause-reads : goal.returns-in_err-read_lsp-in-Lsp-clause-reads
returns-in_err-read_lsp-in-Lsp-clause-reads c =
    let p = err_from_is_err_and c.from_residual-in_err-read_lsp-in-Lsp.result c.from_residual-in_err-read_lsp-in-Lsp.ensures.1 in
    rw (p.1, p.2)
    (kind_refused c.args.f.now Lsp (sym c.in_ok-kind.ensures.value ∙ ap Ok c.in-Lsp.is) _ c.in_err-read_lsp-in-Lsp.ensures)

pub returns-in_ok-read_lsp-in-Lsp-clause-reads : goal.returns-in_ok-read_lsp-in-Lsp-clause-reads
returns-in_ok-read_lsp-in-Lsp-clause-reads c =
    kind_read c.args.f.now Lsp (sym c.in_ok-kind.ensures.value ∙ ap Ok c.in-Lsp.is) c.in_ok-read_lsp-in-Lsp.ensures.0
    ∙ ap (λ (m : LspPdu). Ok (lsp m)) (sym c.in_ok-read_lsp-in-Lsp.ensures.1)

pub returns-in_err-read_csnp-in-Csnp-clause-reads : goal.returns-in_err-read_csnp-in-Csnp-clause-reads
returns-in_err-read_csnp-in-Csnp-clause-reads c =
    let p = err_from_is_err_and c.from_residual-in_err-read_csnp-in-Csnp.result c.from_residual-in_err-read_csnp-in-Csnp.ensures.1 in
    rw (p.1, p.2)
    (kind_refused c.args.f.now Csnp (sym c.in_ok-kind.ensures.value ∙ ap Ok c.in-Csnp.is) _ c.in_err-read_csnp-in-Csnp.ensures)

pub returns-in_ok-read_csnp-in-Csnp-clause-reads : goal.returns-in_ok-read_csnp-in-Csnp-clause-reads
returns-in_ok-read_csnp-in-Csnp-clause-reads c =
    kind_read c.args.f.now Csnp (sym c.in_ok-kind.ensures.value ∙ ap Ok c.in-Csnp.is) c.in_ok-read_csnp-in-Csnp.ensures.0
    ∙ ap (λ (m : CsnpPdu). Ok (csnp m)) (sym c.in_ok-read_csnp-in-Csnp.ensures.1)

pub returns-in_err-read_psnp-in-Psnp-clause-reads : goal.returns-in_err-read_psnp-in-Psnp-clause-reads
returns-in_err-read_psnp-in-Psnp-clause-reads c =
    let p = err_from_is_err_and c.from_residual-in_err-read_psnp-in-Psnp.result c.from_residual-in_err-read_psnp-in-Psnp.ensures.1 in
    rw (p.1, p.2)
    (kind_refused c.args.f.now Psnp (sym c.in_ok-kind.ensures.value ∙ ap Ok c.in-Psnp.is) _ c.in_err-read_psnp-in-Psnp.ensures)

pub returns-in_ok-read_psnp-in-Psnp-clause-reads : goal.returns-in_ok-read_psnp-in-Psnp-clause-reads
returns-in_ok-read_psnp-in-Psnp-clause-reads c =
    kind_read c.args.f.now Psnp (sym c.in_ok-kind.ensures.value ∙ ap Ok c.in-Psnp.is) c.in_ok-read_psnp-in-Psnp.ensures.0
    ∙ ap (λ (m : PsnpPdu). Ok (psnp m)) (sym c.in_ok-read_psnp-in-Psnp.ensures.1)
