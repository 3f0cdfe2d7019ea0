use Rattle.std.proofs.Common.{◌≡◌, ◌+◌, ◌*◌, map, take}
use Rattle.frame.specs.Messages.{entries_octets}
use Rattle.frame.specs.Meaning.{entry_said}
use Rattle.writer.specs.Places.{Wrote}
use Rattle.writer.proofs.frame_octets.FrameOctets.put_tail.Given as goal

abbrev pub invariant-loop-e : goal.invariant-loop-e
invariant-loop-e l = record {
  same_reference : l.self.buf.ghost_name ≡ l.initial.self.buf.ghost_name;
  wrote : Wrote l.initial.self.buf.now l.initial.self.len (entries_octets (map entry_said (take l.e-index l.entries))) l.self.buf.now l.self.len;
  long : l.self.len ≡ l.initial.self.len + 16 * l.e-index;
}
