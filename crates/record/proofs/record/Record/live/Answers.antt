use Rattle.std.proofs.Common.{◌≡◌, ℕ, false, List, Some, None, Ok, Err, Result, MatchResult, is_ok, sym, subst, ◌∙◌, arith, rules, true}
use Rattle.std.proofs.lemmas.Bool.{true≢false, false≢true, not-true, not-false}
use Rattle.fault.specs.declared.FrameFault.{FrameFault}
use Rattle.octets.specs.Fields.{body_fault}
use Rattle.octets.proofs.FieldLaws.{body_fits}
use Rattle.frame.specs.Meaning.{lsp_said}
use Rattle.record.specs.declared.body.Body.{Body}
use Rattle.record.specs.States.{live_form}
use Rattle.record.specs.Bodies.{body_octets, lsp_by}
use Rattle.record.proofs.FormLaws.{lived}
use Rattle.record.proofs.SayLaws.{checked_right}
use Rattle.record.proofs.record.Record.live.Goals as goal

pub returns-then-ne : goal.returns-then-ne
returns-then-ne c =
    let m = lsp_said c.args.m.now in
    let k = checked_right m c.computed_check.result (omega arith) (omega arith) c.computed_check.ensures.is c.computed_check.ensures.right in
    λ f l. true≢false (sym (k ∙ f.sums l) ∙ not-true _ (sym c.ne.ensures ∙ c.if-ne.true))

-- octets that are no body could not be said
not_body :
    (b : List ℕ) (r : Result Body FrameFault) →
    MatchResult r (λ x. (body_fault 0 b ≡ None) × (body_octets x ≡ b)) (λ e. body_fault 0 b ≡ Some e) → false ≡ is_ok r →
    body_fault 0 b ≡ None → ⊥
not_body b (Ok x) h v n = false≢true v
not_body b (Err e) h v n = cc

pub returns-in_err-body : goal.returns-in_err-body
returns-in_err-body c =
    let b = c.args.m.now.body.now in
    rw c.from_residual.ensures
    (λ f l. not_body b c.new.result c.new.ensures c.in_err-body.ensures.variant (body_fits 0 b f.fields f.body))

pub unflagged-requires-clause-form : goal.unflagged-requires-clause-form
unflagged-requires-clause-form c =
    let m = lsp_said c.args.m.now in
    let k = checked_right m c.computed_check.result (omega arith) (omega arith) c.computed_check.ensures.is c.computed_check.ensures.right in
    let e : body_octets c.in_ok-body.body ≡ m.body = search rules in
    subst (λ (b : List ℕ). live_form (lsp_by m.lifetime c.args.m.now.id m.number m.check m.flags b) ≡ true) (sym e)
    (lived m
    (record { number = omega arith; lifetime = omega arith; short = omega arith; sums = sym k ∙ not-false _ (sym c.ne.ensures ∙ c.if-ne.false) }))
