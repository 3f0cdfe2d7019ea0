-- What can be said is written, and right check octets are the computed ones.
use Rattle.std.proofs.Common.{◌≡◌, ℕ, ◌<◌, Bool, true, false, cond, ◌&&◌, eqb, ltb, List, ◌∷◌, ◌++◌, length, take, Ok, Err, Result, sym, refl, ap, ◌∙◌, subst}
use Rattle.std.proofs.lemmas.Bool.{and_parts, and_from, eqb-true, eq-eqb, true≢false, ltb-true, ltb-false}
use Rattle.std.proofs.ByRecursion.{All-append}
use Rattle.std.proofs.lemmas.List.{take_at}
use Rattle.fault.specs.declared.FrameFault.{FrameFault}
use Rattle.fault.specs.declared.FrameFault.TheVariants.{Size}
use Rattle.fault.specs.Order.{fails, first_fault, unless}
use Rattle.octets.specs.declared.checks.CheckOctets.{CheckOctets}
use Rattle.octets.specs.Octets.{Octets, octets}
use Rattle.octets.specs.Checks.{right, check_octets}
use Rattle.octets.proofs.CheckLaws.{same_check, right_own}
use Rattle.octets.proofs.Numbers.{octets-octets}
use Rattle.frame.specs.Messages.{LspPdu, lsp, covered_part, encode}
use Rattle.frame.specs.Reading.{decode, faults}
use Rattle.frame.specs.Trip.{LspFits}
use Rattle.frame.proofs.Trips.{reads_back}
use Rattle.writer.specs.Writing.{Writes, with_check_octets}
use Rattle.writer.proofs.WriteLaws.{was_written, too_small}

pub covered_octets :
    (m : LspPdu) → m.check.x < 256 → m.check.y < 256 → m.flags < 256 → Octets m.body → Octets (covered_part m)
covered_octets m x y f b =
    All-append (λ (n : ℕ). n < 256) (octets 8 m.id ++ octets 4 m.number) (m.check.x ∷ m.check.y ∷ m.flags ∷ m.body)
    (All-append (λ (n : ℕ). n < 256) (octets 8 m.id) (octets 4 m.number) (octets-octets 8 m.id) (octets-octets 4 m.number))
    (x, (y, (f, b)))

-- the check octets are right where they are the computed ones, and only there
pub checked_right :
    (m : LspPdu) (c : CheckOctets) → m.check.x < 256 → m.check.y < 256 → c ≡ check_octets 13 (covered_part m) →
    right 13 (covered_part (with_check_octets c m)) ≡ true →
    (eqb c.x m.check.x && eqb c.y m.check.y) ≡ right 13 (covered_part m)
checked_right m c x y e h = go (right 13 (covered_part m)) refl (eqb c.x m.check.x && eqb c.y m.check.y) refl
  where
    go : (r : Bool) → right 13 (covered_part m) ≡ r → (t : Bool) → (eqb c.x m.check.x && eqb c.y m.check.y) ≡ t → t ≡ r
    go true p t q =
        let k : m.check ≡ c = right_own 13 (covered_part m) x y p ∙ sym e in
        sym q
        ∙ and_from (eqb c.x m.check.x) (eqb c.y m.check.y) (eq-eqb _ _ (ap (λ (d : CheckOctets). d.x) (sym k)))
        (eq-eqb _ _ (ap (λ (d : CheckOctets). d.y) (sym k)))
    go false p false q = refl
    go false p true q =
        let a = and_parts (eqb c.x m.check.x) (eqb c.y m.check.y) q in
        let k : c ≡ m.check = same_check c m.check (eqb-true _ _ a.0) (eqb-true _ _ a.1) in
        let z = subst (λ (d : CheckOctets). right 13 (covered_part (with_check_octets d m)) ≡ true) k h in
        absurd (true≢false (sym z ∙ p))

-- an LSP that can be said is refused for want of room alone
pub never_refused :
    (m : LspPdu) (old new : List ℕ) (a : Result ℕ FrameFault) → LspFits m → Writes (lsp m) old new a →
    a ≡ cond (ltb (length old) 275) (Err Size) (Ok (length (encode (lsp m))))
never_refused m old new a f w = w.is ∙ go (ltb (length old) 275) refl
  where
    back : decode (encode (lsp m)) ≡ Ok (lsp m)
    back = reads_back (lsp m) f

    go :
        (b : Bool) → ltb (length old) 275 ≡ b →
        unless (first_fault (fails (ltb (length old) 275) Size ∷ faults (encode (lsp m)))) (length (encode (lsp m)))
        ≡ cond b (Err Size) (Ok (length (encode (lsp m))))
    go true p = sym (too_small (lsp m) old (ltb-true (length old) 275 p)).is
    go false p = sym (was_written (lsp m) old _ (length (encode (lsp m))) (ltb-false (length old) 275 p) back refl refl).is

-- what was written at the front of a buffer
pub front_taken : (w e rest : List ℕ) → e ≡ w ++ rest → take (length w) e ≡ w
front_taken w e rest x = ap (λ (f : List ℕ). take (length w) f) x ∙ take_at w rest (length w) refl
