-- What a frame answers, from what its header and its kind answer.
use Rattle.std.proofs.Common.{◌≡◌, ℕ, ◌≤◌, List, length, Some, None, Ok, Err, Option, refl, ap, ◌∙◌, arith}
use Rattle.std.specs.Option.{option_or}
use Rattle.fault.specs.declared.FrameFault.{FrameFault}
use Rattle.fault.specs.Order.{frame_rank, first_fault}
use Rattle.fault.specs.Refusals.{frame_place}
use Rattle.fault.proofs.Laws.{none_of}
use Rattle.frame.specs.declared.kind.Kind.{Kind}
use Rattle.frame.specs.Kinds.{header_size}
use Rattle.frame.specs.Reading.{kind_of, header_faults, headed, header_answer, kind_faults, refusal, said, answered, decode}
use Rattle.frame.proofs.Heads.{Heads, heads_of}
use Rattle.frame.proofs.Answering.{first_refusal}

headed_ok : (h : Option FrameFault) (o : Option Kind) (k : Kind) → headed h o ≡ Ok k → (h ≡ None) × (o ≡ Some k)
headed_ok None None k e = let z : ◌≡◌ {A = ℕ} 0 1 = cc in absurd (omega arith)
headed_ok None (Some x) k e = (refl, cc)
headed_ok (Some x) o k e = let z : ◌≡◌ {A = ℕ} 0 1 = cc in absurd (omega arith)

headed_err : (h : Option FrameFault) (o : Option Kind) (e : FrameFault) (f : List ℕ) → headed h o ≡ Err e →
    answered (option_or h (first_fault (kind_faults o f))) o f ≡ Err e
headed_err None None e f p = cc
headed_err None (Some x) e f p = let z : ◌≡◌ {A = ℕ} 0 1 = cc in absurd (omega arith)
headed_err (Some x) o e f p = cc

pub header_refused : (f : List ℕ) (e : FrameFault) → header_answer f ≡ Err e → decode f ≡ Err e
header_refused f e h =
    ap (λ (r : Option FrameFault). answered r (kind_of f) f) (first_refusal f) ∙ headed_err (first_fault (header_faults f)) (kind_of f) e f h

module _ (f : List ℕ) (k : Kind) (h : header_answer f ≡ Ok k) where
  parts : (first_fault (header_faults f) ≡ None) × (kind_of f ≡ Some k)
  parts = headed_ok (first_fault (header_faults f)) (kind_of f) k h

  pub header_heads : Heads f k
  header_heads = heads_of f k (none_of frame_rank frame_place (header_faults f) parts.0) parts.1

  pub header_long : header_size k ≤ length f
  header_long = header_heads.long

  then_kind : (r : Option FrameFault) → first_fault (kind_faults (Some k) f) ≡ r → decode f ≡ answered r (Some k) f
  then_kind r e =
      let a : first_fault (kind_faults (kind_of f) f) ≡ r = ap (λ (o : Option Kind). first_fault (kind_faults o f)) parts.1 ∙ e in
      let b : refusal f ≡ r = first_refusal f ∙ rw parts.0 a in
      ap (λ (x : Option FrameFault). answered x (kind_of f) f) b ∙ ap (λ (o : Option Kind). answered r o f) parts.1

  pub kind_refused : (e : FrameFault) → first_fault (kind_faults (Some k) f) ≡ Some e → decode f ≡ Err e
  kind_refused e p = then_kind (Some e) p

  pub kind_read : first_fault (kind_faults (Some k) f) ≡ None → decode f ≡ Ok (said k f)
  kind_read p = then_kind None p
