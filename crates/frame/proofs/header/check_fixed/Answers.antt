use Rattle.std.proofs.Common.{◌≡◌, ℕ, ◌+◌, ◌<◌, List, ◌∷◌, get_or, drop, refl, ap, ◌∙◌, eq-eqb, ne_eqb, arith}
use Rattle.std.proofs.lemmas.List.{drop_more}
use Rattle.frame.specs.Reading.{fixed, wrong_octet}
use Rattle.frame.proofs.Answering.{refused}
use Rattle.frame.proofs.header.check_fixed.Goals as goal

-- the first of the octets that are left, and the others
first : (f : List ℕ) (i : ℕ) → i < 6 → wrong_octet (drop i fixed) f ≡ wrong_octet (get_or fixed i (0, 0) ∷ drop (i + 1) fixed) f
first f i h = ap (λ (places : List (ℕ × ℕ)). wrong_octet places f) (drop_more fixed i (0, 0) h)

pub returns-then-f-at : goal.returns-then-f-at
returns-then-f-at c =
    refused _ _ _
    (c.loop-at.invariant ∙ first c.args.f.now c.loop-at.at-index (omega arith) ∙ rw (ne_eqb _ _ c.if-f-at.true) refl) refl

pub loop-at-preserved : goal.loop-at-preserved
loop-at-preserved c =
    c.loop-at.invariant ∙ first c.args.f.now c.loop-at.at-index (omega arith) ∙ rw (eq-eqb _ _ c.if-f-at.false) refl
