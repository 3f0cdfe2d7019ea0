use Rattle.std.proofs.Common.{subst}
use Rattle.frame.specs.Messages.{LspPdu, lsp}
use Rattle.writer.specs.Writing.{Writes}
use Rattle.record.proofs.FormLaws.{record_fits}
use Rattle.record.proofs.SayLaws.{never_refused}
use Rattle.record.proofs.record.Record.written.Goals as goal

pub returns : goal.returns
returns c =
    let w = subst (λ (m : LspPdu). Writes (lsp m) c.args.buf.now c.write_lsp.new.buf c.write_lsp.result) c.lsp.ensures c.write_lsp.ensures in
    record { writes = w; taken = λ n. never_refused _ _ _ _ (record_fits c.args.self.now n) w }
