use Rattle.std.proofs.Common.{◌≡◌, sym, refl, ap, ◌∙◌, arith}
use Rattle.std.proofs.lemmas.Result.{err_from_is_err_and}
use Rattle.octets.specs.Octets.{field}
use Rattle.frame.specs.Messages.{SnpEntry}
use Rattle.frame.proofs.Lsps.{made_lsp}
use Rattle.frame.proofs.Answering.{body_clear, body_refused, lsp_body, lsp_lifetime, lsp_number, lsp_check, lsp_right}
use Rattle.frame.proofs.lsp.read_lsp.Goals as goal

pub returns-in_err-check_body : goal.returns-in_err-check_body
returns-in_err-check_body c =
    let p = err_from_is_err_and c.from_residual.result c.from_residual.ensures.1 in
    let f = c.args.f.now in
    rw (p.1, p.2) (lsp_body f _ (body_refused f _ _ c.split_at.ensures.back c.in_err-check_body.ensures.value))

pub returns-then-lifetime-gt1200 : goal.returns-then-lifetime-gt1200
returns-then-lifetime-gt1200 c =
    let f = c.args.f.now in
    let l : c.read_entry-lifetime.result.lifetime ≡ field 10 2 f = ap (λ (e : SnpEntry). e.lifetime) c.read_entry-lifetime.ensures in
    lsp_lifetime f (body_clear f _ c.split_at.ensures.back c.in_ok-check_body.ensures.value) (omega arith)

pub returns-then-number-eq0 : goal.returns-then-number-eq0
returns-then-number-eq0 c =
    let f = c.args.f.now in
    let l : c.read_entry-lifetime.result.lifetime ≡ field 10 2 f = ap (λ (e : SnpEntry). e.lifetime) c.read_entry-lifetime.ensures in
    let n : c.read_entry-lifetime.result.number ≡ field 20 4 f = ap (λ (e : SnpEntry). e.number) c.read_entry-lifetime.ensures in
    lsp_number f (body_clear f _ c.split_at.ensures.back c.in_ok-check_body.ensures.value) (omega arith) (omega arith)

pub returns-then-check_is_wrong : goal.returns-then-check_is_wrong
returns-then-check_is_wrong c =
    let f = c.args.f.now in
    let l : c.read_entry-lifetime.result.lifetime ≡ field 10 2 f = ap (λ (e : SnpEntry). e.lifetime) c.read_entry-lifetime.ensures in
    let n : c.read_entry-lifetime.result.number ≡ field 20 4 f = ap (λ (e : SnpEntry). e.number) c.read_entry-lifetime.ensures in
    lsp_check f (body_clear f _ c.split_at.ensures.back c.in_ok-check_body.ensures.value) (omega arith) (λ z. omega arith)
    (sym c.check_is_wrong.ensures ∙ c.if-check_is_wrong.true)

pub returns : goal.returns
returns c =
    let f = c.args.f.now in
    let e = c.read_entry-lifetime.ensures in
    let l : c.read_entry-lifetime.result.lifetime ≡ field 10 2 f = ap (λ (x : SnpEntry). x.lifetime) e in
    let n : c.read_entry-lifetime.result.number ≡ field 20 4 f = ap (λ (x : SnpEntry). x.number) e in (
      lsp_right f (body_clear f _ c.split_at.ensures.back c.in_ok-check_body.ensures.value) (omega arith) (λ z. omega arith)
          (sym c.check_is_wrong.ensures ∙ c.if-check_is_wrong.false),
      made_lsp _ _ _ _ _ _ _ _ _ _ _ _ l (ap (λ (x : SnpEntry). x.id) e) n (ap (λ (x : SnpEntry). x.check) e) refl c.split_at.ensures.back,
    )
