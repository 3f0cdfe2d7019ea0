use Rattle.std.proofs.Common.{◌≡◌, ℕ, ◌≤◌, List, ◌++◌, length, drop, sym, ap, ◌∙◌, arith}
use Rattle.std.proofs.lemmas.Result.{err_from_is_err_and}
use Rattle.frame.specs.Messages.{lsp, encode}
use Rattle.frame.specs.Reading.{decode}
use Rattle.frame.specs.Meaning.{lsp_said}
use Rattle.writer.specs.Writing.{in_front}
use Rattle.writer.proofs.Writes.{wrote_whole}
use Rattle.writer.proofs.WriteLaws.{too_small, too_long, as_reading, was_written, lsp_again}
use Rattle.writer.proofs.lsps.write_lsp.Goals as goal

pub returns-then-buf-lt275 : goal.returns-then-buf-lt275
returns-then-buf-lt275 c = too_small _ _ (omega arith)

pub returns-then-m-gt248 : goal.returns-then-m-gt248
returns-then-m-gt248 c = too_long _ _ (omega arith) (omega arith)

pub returns-in_err-message : goal.returns-in_err-message
returns-in_err-message c =
    let p = err_from_is_err_and c.from_residual.result c.from_residual.ensures.1 in
    let m = lsp (lsp_said c.args.m.now) in
    let q : c.new.result.frame.now ≡ encode m = c.new.ensures ∙ c.as_slice-whole.ensures ∙ wrote_whole c.lsp_octets-frame.ensures.wrote in
    rw (p.1, p.2) (as_reading m _ _ (omega arith) (ap decode (sym q) ∙ c.in_err-message.ensures.reads.is))

pub returns : goal.returns
returns c =
    let l = lsp_said c.args.m.now in
    let old = c.args.buf.now in
    let w = c.as_slice-whole.result.now in
    let e : w ≡ encode (lsp l) = c.as_slice-whole.ensures ∙ wrote_whole c.lsp_octets-frame.ensures.wrote in
    let z = c.lsp_octets-frame.ensures.sized in
    let b : length l.body ≤ 248 = omega arith in
    was_written (lsp l) _ _ _ (omega arith)
    (lsp_again l _ z.lifetime z.id z.number b (ap decode (sym (c.new.ensures ∙ e)) ∙ c.in_ok-message.ensures.reads.is))
    (ap length e)
    (ap (λ (x : List ℕ). x ++ drop (length w) old) c.copy_from_slice.ensures.after ∙ ap (λ (x : List ℕ). in_front x old) e)
