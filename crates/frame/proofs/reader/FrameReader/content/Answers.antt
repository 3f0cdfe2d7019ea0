use Rattle.std.proofs.Common.{ℕ, drop, sym, ap, ◌∙◌}
use Rattle.frame.proofs.Trips.{own_content}
use Rattle.frame.proofs.reader.FrameReader.content.Goals as goal

pub returns : goal.returns
returns c =
    let f = c.args.self.now.frame.now in
    let p = c.content_of.ensures.0 in (
      _,
      c.in_ok-message.ensures.reads.is,
      p,
      c.content_of.ensures.1 ∙ (own_content f _ c.in_ok-message.ensures.parts ∙ ap (λ (n : ℕ). drop n f) (sym p)),
    )
