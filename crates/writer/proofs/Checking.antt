-- An LSP's check octets, summed by pieces.
use Rattle.std.proofs.Common.{◌≡◌, ℕ, ◌-◌, true, List, [], ◌∷◌, ◌++◌, length, sym, ap, ◌∙◌, append_assoc, arith, le-leb}
use Rattle.octets.specs.declared.checks.CheckOctets.{CheckOctets}
use Rattle.octets.specs.declared.checks.Sums.{Sums}
use Rattle.octets.specs.Octets.{octets}
use Rattle.octets.specs.Checks.{c0_of, c1_of, unchecked, sums_of, sums_then, made_octets, has_places, check_octets, right}
use Rattle.octets.proofs.CheckLaws.{sums_append, computed_right}
use Rattle.frame.specs.Messages.{LspPdu, covered_part}
use Rattle.writer.specs.Writing.{with_check_octets}

pub four_pieces : (a b c d : List ℕ) → sums_then (sums_then (sums_then (sums_then (sums_of []) a) b) c) d ≡ sums_of (a ++ (b ++ (c ++ d)))
four_pieces a b c d =
    let s1 : sums_then (sums_of []) a ≡ sums_of a = sym (sums_append [] a) in
    let s2 : sums_then (sums_of a) b ≡ sums_of (a ++ b) = sym (sums_append a b) in
    let s3 : sums_then (sums_of (a ++ b)) c ≡ sums_of ((a ++ b) ++ c) = sym (sums_append (a ++ b) c) in
    let s4 : sums_then (sums_of ((a ++ b) ++ c)) d ≡ sums_of (((a ++ b) ++ c) ++ d) = sym (sums_append ((a ++ b) ++ c) d) in
    ap (λ (s : Sums). sums_then (sums_then (sums_then s b) c) d) s1
    ∙ ap (λ (s : Sums). sums_then (sums_then s c) d) s2
    ∙ ap (λ (s : Sums). sums_then s d) s3
    ∙ s4
    ∙ ap sums_of (append_assoc (a ++ b) c d ∙ append_assoc a b (c ++ d))

pub check_pieces : (m : LspPdu) (a b : List ℕ) (s : Sums) (n : ℕ) → a ≡ octets 8 m.id → b ≡ octets 4 m.number →
    s ≡ sums_then (sums_then (sums_then (sums_then (sums_of []) a) b) (0 ∷ 0 ∷ m.flags ∷ [])) m.body → n ≡ length (covered_part m) - 13 →
    made_octets n s.c0 s.c1 ≡ check_octets 13 (covered_part m)
check_pieces m a b s n p q e h =
    let f : s ≡ sums_of (octets 8 m.id ++ (octets 4 m.number ++ (0 ∷ 0 ∷ m.flags ∷ m.body))) =
    e
    ∙ four_pieces a b (0 ∷ 0 ∷ m.flags ∷ []) m.body
    ∙ ap (λ (x : List ℕ). sums_of (x ++ (b ++ (0 ∷ 0 ∷ m.flags ∷ m.body)))) p
    ∙ ap (λ (x : List ℕ). sums_of (octets 8 m.id ++ (x ++ (0 ∷ 0 ∷ m.flags ∷ m.body)))) q
    in
    ap (λ (t : Sums). made_octets n t.c0 t.c1) f ∙ ap (λ (j : ℕ). made_octets j (c0_of (unchecked 13 (covered_part m))) (c1_of (unchecked 13 (covered_part m)))) h

pub check_right : (m : LspPdu) (c : CheckOctets) → c ≡ check_octets 13 (covered_part m) → right 13 (covered_part (with_check_octets c m)) ≡ true
check_right m c e =
    let h : has_places 13 (covered_part m) ≡ true = le-leb 14 (length (covered_part m)) (omega arith) in
    rw e (computed_right 13 (covered_part m) h)
