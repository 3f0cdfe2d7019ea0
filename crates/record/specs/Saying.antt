-- A record written as an LSP.
use Rattle.std.specs.Prelude.{◌≡◌, ℕ, ◌≤◌, if◌then◌else◌, List, length, Ok, Err, Result, nat_lt}
use Rattle.fault.specs.declared.FrameFault.{FrameFault}
use Rattle.fault.specs.declared.FrameFault.TheVariants.{Size}
use Rattle.frame.specs.Messages.{lsp, encode}
use Rattle.writer.specs.Writing.{Writes}
use Rattle.record.specs.declared.record.Record.{Record}
use Rattle.record.specs.Forms.{number_of, record_said}

-- what writing a record answers and leaves; any but a placeholder is refused for want of room alone
pub record WritesRecord (x : Record) (old new : List ℕ) (answer : Result ℕ FrameFault) : Type 0 where
  pub writes : Writes (lsp (record_said x)) old new answer
  pub taken : 1 ≤ number_of x →
      answer ≡ (if nat_lt (length old) 275 then Err Size else Ok (length (encode (lsp (record_said x)))))
