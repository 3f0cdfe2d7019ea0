use Rattle.std.proofs.Common.{◌≡◌, [], ◌∷◌, ap, ◌∙◌, arith, rules}
use Rattle.octets.specs.Checks.{sums_then, check_octets}
use Rattle.octets.specs.declared.checks.Sums.{Sums}
use Rattle.frame.specs.Messages.{covered_part}
use Rattle.frame.specs.Meaning.{lsp_said}
use Rattle.writer.proofs.Pieces.{four_octets, by_value}
use Rattle.writer.proofs.Checking.{check_pieces, check_right}
use Rattle.writer.proofs.lsps.computed_check.Goals as goal

pub returns : goal.returns
returns c =
    let m = lsp_said c.args.m.now in
    let i = c.args.m.now.id in
    let n = c.to_be_bytes.result in
    let e : c.octets.result ≡ check_octets 13 (covered_part m) =
    c.octets.ensures
    ∙ check_pieces m i n c.over-4.result _ (by_value i 8 (omega arith) (search rules)).0 (c.to_be_bytes.ensures ∙ four_octets m.number)
    (c.over-4.ensures
    ∙ ap (λ (s : Sums). sums_then s m.body)
    (c.over-3.ensures
    ∙ ap (λ (s : Sums). sums_then s (0 ∷ 0 ∷ m.flags ∷ []))
    (c.over-2.ensures ∙ ap (λ (s : Sums). sums_then s n) (c.over.ensures ∙ ap (λ (s : Sums). sums_then s i) c.new.ensures))))
    c.behind_first.ensures
    in
    record { is = e; right = check_right m c.octets.result e }
