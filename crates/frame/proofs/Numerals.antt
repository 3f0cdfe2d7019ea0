-- Numbers at an offset, by their octets.
use Rattle.std.proofs.Common.{◌≡◌, ℕ, ◌+◌, ◌*◌, ◌≤◌, List, ◌∷◌, length, get_or, take, drop, ap, ◌∙◌, arith}
use Rattle.std.proofs.lemmas.List.{drop_more}
use Rattle.octets.specs.Octets.{value, field}

two_cells : (f : List ℕ) (at : ℕ) → at + 2 ≤ length f → drop at f ≡ get_or f at 0 ∷ get_or f (at + 1) 0 ∷ drop (at + 1 + 1) f
two_cells f at h = drop_more f at 0 (omega arith) ∙ ap (λ (y : List ℕ). get_or f at 0 ∷ y) (drop_more f (at + 1) 0 (omega arith))

pub field_two : (f : List ℕ) (at : ℕ) → at + 2 ≤ length f → field at 2 f ≡ get_or f at 0 * 256 + get_or f (at + 1) 0
field_two f at h = ap (λ (y : List ℕ). value (take 2 y)) (two_cells f at h) ∙ omega arith

pub field_four : (f : List ℕ) (at : ℕ) → at + 4 ≤ length f →
    field at 4 f ≡ get_or f at 0 * 16777216 + get_or f (at + 1) 0 * 65536 + get_or f (at + 2) 0 * 256 + get_or f (at + 3) 0
field_four f at h =
    let e : at + 1 + 1 ≡ at + 2 = omega arith in
    let g : at + 2 + 1 ≡ at + 3 = omega arith in
    let p : drop at f ≡ get_or f at 0 ∷ get_or f (at + 1) 0 ∷ drop (at + 2) f =
    two_cells f at (omega arith) ∙ ap (λ (n : ℕ). get_or f at 0 ∷ get_or f (at + 1) 0 ∷ drop n f) e
    in
    let q : drop (at + 2) f ≡ get_or f (at + 2) 0 ∷ get_or f (at + 3) 0 ∷ drop (at + 2 + 1 + 1) f =
    two_cells f (at + 2) (omega arith) ∙ ap (λ (n : ℕ). get_or f (at + 2) 0 ∷ get_or f n 0 ∷ drop (at + 2 + 1 + 1) f) g
    in
    ap (λ (y : List ℕ). value (take 4 y)) (p ∙ ap (λ (y : List ℕ). get_or f at 0 ∷ get_or f (at + 1) 0 ∷ y) q) ∙ omega arith
