use Rattle.std.proofs.Common.{◌≡◌, List, map, length, ap, ◌∙◌, arith}
use Rattle.octets.specs.Octets.{value}
use Rattle.frame.specs.declared.message.Entry.{Entry}
use Rattle.frame.specs.Messages.{tail_octets, encode}
use Rattle.frame.specs.Meaning.{entry_said}
use Rattle.frame.proofs.Trips.{reads_back}
use Rattle.writer.specs.Summaries.{head_octets, tail_size, summary_said}
use Rattle.writer.specs.Writing.{in_front}
use Rattle.writer.proofs.Writes.{wrote_then, wrote_as, wrote_front}
use Rattle.writer.proofs.WriteLaws.{too_small, was_written}
use Rattle.writer.proofs.Fitting.{summary_fits, summary_octets, head_short}
use Rattle.writer.proofs.summary.ClosedSummary.write.Goals as goal

pub returns-then-buf-lt275 : goal.returns-then-buf-lt275
returns-then-buf-lt275 c = too_small _ _ (omega arith)

pub returns : goal.returns
returns c =
    let s = c.args.self.now in
    let xs = s.listing.entries.items in
    let from = value s.listing.source in
    let m = summary_said s in
    let v : c.deref.result.now ≡ xs = c.deref.ensures.0 in
    let n : c.tail_len.result ≡ tail_size (length xs) = c.tail_len.ensures ∙ ap tail_size c.len.ensures.value in
    let w1 = wrote_as (ap (head_octets s.scope from) n) c.head-frame.ensures.wrote in
    let w2 = wrote_as (ap (λ (es : List Entry). tail_octets (map entry_said es)) v) c.put_tail.ensures.wrote in
    let w = wrote_as (summary_octets s.scope from xs) (wrote_then (omega (arith, head_short s.scope from (tail_size (length xs)))) w1 w2) in
    let f : c.put_tail.new.self.buf.now ≡ in_front (encode m) c.args.buf.now = wrote_front w in
    was_written m _ _ _ (omega arith) (reads_back m (summary_fits s.scope from xs s.listing.sized s.listing.few s.listing.right s.scoped))
    (omega (arith, w.place)) (grind (arith, f))
