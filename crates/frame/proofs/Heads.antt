-- A frame without a header fault begins as the header of its kind, and the other way round.
use Rattle.std.proofs.Common.{◌≡◌, ℕ, suc, ◌+◌, ◌-◌, ◌^◌, ◌<◌, ◌≤◌, Bool, true, false, cond, not, ◌||◌, eqb, ltb, List, [], ◌∷◌, ◌++◌, length, get_or, take, drop, is_some, Some, None, Ok, Option, sym, refl, ap, ◌∙◌, arith, length-drop, take-append-drop, length-take-le, drop-cons, drop-drop, ltb-false, le-ltb, eq-eqb, eqb-true}
use borrow.Author.Tests.{not-false}
use Rattle.std.proofs.ByRecursion.{All-take, All-drop}
use Rattle.fault.specs.declared.FrameFault.{FrameFault}
use Rattle.fault.specs.declared.FrameFault.TheVariants.{Short, Fixed, Kind as UnknownKind, Header, Length}
use Rattle.fault.specs.Order.{frame_rank}
use Rattle.fault.specs.Refusals.{frame_place}
use Rattle.fault.proofs.Laws.{NoneOf, fails_not, not_fails}
use Rattle.octets.specs.Octets.{Octets, octets, part, field}
use Rattle.octets.proofs.Numbers.{octets-value, value_under}
use Rattle.frame.specs.declared.kind.Kind.{Kind}
use Rattle.frame.specs.declared.kind.Kind.TheVariants.{Lsp, Csnp, Psnp}
use Rattle.frame.specs.Kinds.{kind_octet, kind_named, header_size}
use Rattle.frame.specs.Messages.{Pdu, header}
use Rattle.frame.specs.Reading.{fixed, wrong_octet, kind_of, size_of, length_wrong, header_faults, said, answered}

-- a list of refusals of which none is there
abbrev pub NoFaults : List (Option FrameFault) → Type 0
NoFaults rs = NoneOf frame_rank frame_place rs

-- what is answered
pub answered_ok : (r : Option FrameFault) (o : Option Kind) (k : Kind) (f : List ℕ) → r ≡ None → o ≡ Some k → answered r o f ≡ Ok (said k f)
answered_ok r o k f p q = rw (p, q) refl

pub answered_is : (r : Option FrameFault) (o : Option Kind) (f : List ℕ) (m : Pdu) → answered r o f ≡ Ok m →
    (k : Kind) × (r ≡ None) × (o ≡ Some k) × (said k f ≡ m)
answered_is None None f m h = let z : ◌≡◌ {A = ℕ} 0 1 = cc in absurd (omega arith)
answered_is None (Some k) f m h = (k, refl, refl, cc)
answered_is (Some e) o f m h = let z : ◌≡◌ {A = ℕ} 0 1 = cc in absurd (omega arith)

-- kinds
pub kind_again : (k : Kind) → kind_named (kind_octet k) ≡ Some k
kind_again Lsp = refl
kind_again Csnp = refl
kind_again Psnp = refl

pub size_least : (k : Kind) → 17 ≤ header_size k
size_least Lsp = omega arith
size_least Csnp = omega arith
size_least Psnp = omega arith

some_kind : (a b : Kind) (n : ℕ) → ◌≡◌ {A = Option Kind} (Some a) (Some b) → n ≡ kind_octet a → n ≡ kind_octet b
some_kind a b n e p = let q : a ≡ b = cc in p ∙ ap kind_octet q

pub kind_octet_is : (n : ℕ) (k : Kind) → kind_named n ≡ Some k → n ≡ kind_octet k
kind_octet_is n k h = go (eqb n 18) (eqb n 24) (eqb n 26) refl refl refl h
  where
    go : (a b c : Bool) → eqb n 18 ≡ a → eqb n 24 ≡ b → eqb n 26 ≡ c →
        cond a (Some Lsp) (cond b (Some Csnp) (cond c (Some Psnp) None)) ≡ Some k → n ≡ kind_octet k
    go true b c p q r e = some_kind Lsp k n e (eqb-true n 18 p)
    go false true c p q r e = some_kind Csnp k n e (eqb-true n 24 q)
    go false false true p q r e = some_kind Psnp k n e (eqb-true n 26 r)
    go false false false p q r e = let z : ◌≡◌ {A = ℕ} 0 1 = cc in absurd (omega arith)

-- the head of a frame of a kind
pub record Heads (f : List ℕ) (k : Kind) : Type 0 where
  pub long : header_size k ≤ length f
  pub most : length f ≤ 275
  pub o0 : get_or f 0 0 ≡ 131
  pub o1 : get_or f 1 0 ≡ header_size k
  pub o2 : get_or f 2 0 ≡ 1
  pub o3 : get_or f 3 0 ≡ 0
  pub o4 : get_or f 4 0 ≡ kind_octet k
  pub o5 : get_or f 5 0 ≡ 1
  pub o6 : get_or f 6 0 ≡ 0
  pub o7 : get_or f 7 0 ≡ 0
  pub total : field 8 2 f ≡ length f

-- each place has its octet
abbrev Rights : List (ℕ × ℕ) → List ℕ → Type 0
Rights [] f = Unit {0}
Rights (a ∷ more) f = (get_or f a.0 0 ≡ a.1) × Rights more f

rights_none : (places : List (ℕ × ℕ)) (f : List ℕ) → Rights places f → wrong_octet places f ≡ None
rights_none [] f h = refl
rights_none (a ∷ more) f h = rw (eq-eqb (get_or f a.0 0) a.1 h.0) (rights_none more f h.1)

first_right : (a : ℕ × ℕ) (more : List (ℕ × ℕ)) (f : List ℕ) → wrong_octet (a ∷ more) f ≡ None →
    (get_or f a.0 0 ≡ a.1) × (wrong_octet more f ≡ None)
first_right a more f h = go (eqb (get_or f a.0 0) a.1) refl h
  where
    go : (b : Bool) → eqb (get_or f a.0 0) a.1 ≡ b → cond b (wrong_octet more f) (Some (Fixed a.0)) ≡ None →
        (get_or f a.0 0 ≡ a.1) × (wrong_octet more f ≡ None)
    go true e p = (eqb-true _ _ e, p)
    go false e p = let z : ◌≡◌ {A = ℕ} 0 1 = cc in absurd (omega arith)

rights : (places : List (ℕ × ℕ)) (f : List ℕ) → wrong_octet places f ≡ None → Rights places f
rights [] f h = tt
rights (a ∷ more) f h = let p = first_right a more f h in (p.0, rights more f p.1)

pub or_false : (a b : Bool) → a ≡ false → b ≡ false → a || b ≡ false
or_false a b p q = rw (p, q) refl

pub or_off : (a b : Bool) → a || b ≡ false → (a ≡ false) × (b ≡ false)
or_off false b h = (refl, h)
or_off true b h = let z : ◌≡◌ {A = ℕ} 0 1 = cc in absurd (omega arith)

pub not_so : (a : Bool) → a ≡ true → not a ≡ false
not_so a p = rw p refl

pub kind_is : (f : List ℕ) (k : Kind) → Heads f k → kind_of f ≡ Some k
kind_is f k h = ap kind_named h.o4 ∙ kind_again k

pub header-none : (f : List ℕ) (k : Kind) → Heads f k → NoFaults (header_faults f)
header-none f k h =
    let e : kind_of f ≡ Some k = kind_is f k h in
    let s : size_of (kind_of f) ≡ header_size k = ap size_of e in
    let n : 17 ≤ length f = omega (arith, size_least k, h.long) in (
      not_fails (ltb (length f) 8) (Short (length f)) (le-ltb (length f) 8 (omega arith)),
      (
        rights_none fixed f (h.o0, (h.o2, (h.o3, (h.o5, (h.o6, (h.o7, tt)))))),
        (
          not_fails (not (is_some (kind_of f))) UnknownKind (not_so (is_some (kind_of f)) (ap is_some e)),
          (
            not_fails (not (eqb (get_or f 1 0) (size_of (kind_of f)))) Header (not_so _ (eq-eqb _ _ (h.o1 ∙ sym s))),
            (
              not_fails (length_wrong f) Length
                  (or_false _ _ (le-ltb (length f) 10 (omega arith))
                  (or_false _ _ (not_so _ (eq-eqb _ _ h.total))
                  (or_false _ _ (le-ltb (length f) _ (omega (arith, s, h.long))) (le-ltb 275 (length f) h.most)))),
              tt,
            ),
          ),
        ),
      ),
    )

pub heads_of : (f : List ℕ) (k : Kind) → NoFaults (header_faults f) → kind_of f ≡ Some k → Heads f k
heads_of f k z e =
    let s : size_of (kind_of f) ≡ header_size k = ap size_of e in
    let w : Rights fixed f = rights fixed f z.1.0 in
    let o : get_or f 1 0 ≡ size_of (kind_of f) =
    eqb-true _ _ (not-false (eqb (get_or f 1 0) (size_of (kind_of f))) (fails_not _ Header z.1.1.1.0))
    in
    let d = or_off (ltb (length f) 10) _ (fails_not (length_wrong f) Length z.1.1.1.1.0) in
    let d2 = or_off (not (eqb (field 8 2 f) (length f))) _ d.1 in
    let d3 = or_off (ltb (length f) (size_of (kind_of f))) (ltb 275 (length f)) d2.1 in
    let t : field 8 2 f ≡ length f = eqb-true (field 8 2 f) (length f) (not-false (eqb (field 8 2 f) (length f)) d2.0) in
    let n : size_of (kind_of f) ≤ length f = ltb-false (length f) (size_of (kind_of f)) d3.0 in
    let m : length f ≤ 275 = ltb-false 275 (length f) d3.1 in
    record {
      long = omega (arith, s, n);
      most = m;
      o0 = w.0;
      o1 = o ∙ s;
      o2 = w.1.0;
      o3 = w.1.1.0;
      o4 = kind_octet_is (get_or f 4 0) k e;
      o5 = w.1.1.1.0;
      o6 = w.1.1.1.1.0;
      o7 = w.1.1.1.1.1.0;
      total = t;
    }

-- a frame cell by cell and part by part
pub cell : (f : List ℕ) (j x : ℕ) (rest : List ℕ) → j < length f → get_or f j 0 ≡ x → drop (suc j) f ≡ rest → drop j f ≡ x ∷ rest
cell f j x rest h p q = drop-cons f j 0 h ∙ ap (λ (y : ℕ). y ∷ drop (suc j) f) p ∙ ap (λ (y : List ℕ). x ∷ y) q

pub run : (f : List ℕ) (at n : ℕ) (xs rest : List ℕ) → xs ≡ part at n f → drop (at + n) f ≡ rest → drop at f ≡ xs ++ rest
run f at n xs rest p q =
    sym (take-append-drop n (drop at f))
    ∙ ap (λ (y : List ℕ). take n (drop at f) ++ y) (drop-drop n at f ∙ q)
    ∙ ap (λ (y : List ℕ). y ++ rest) (sym p)

pub octets-part : (f : List ℕ) (at n : ℕ) → Octets f → Octets (part at n f)
octets-part f at n h = All-take (λ (x : ℕ). x < 256) n (drop at f) (All-drop (λ (x : ℕ). x < 256) at f h)

pub length_part : (f : List ℕ) (at n : ℕ) → at + n ≤ length f → length (part at n f) ≡ n
length_part f at n l = let e : length (drop at f) ≡ length f - at = length-drop at f in length-take-le n (drop at f) (omega arith)

pub octets-field : (f : List ℕ) (at n : ℕ) → Octets f → at + n ≤ length f → octets n (field at n f) ≡ part at n f
octets-field f at n h l = octets-value (part at n f) n (length_part f at n l) (octets-part f at n h)

pub field_under : (f : List ℕ) (at n : ℕ) → Octets f → at + n ≤ length f → field at n f < 256 ^ n
field_under f at n h p =
    let u : field at n f < 256 ^ length (part at n f) = value_under (part at n f) (octets-part f at n h) in
    let e : 256 ^ length (part at n f) ≡ 256 ^ n = ap (λ (k : ℕ). 256 ^ k) (length_part f at n p) in
    omega arith

pub begins : (f : List ℕ) (k : Kind) (behind : ℕ) (rest : List ℕ) → Octets f → Heads f k → header_size k + behind ≡ length f → drop 10 f ≡ rest →
    f ≡ header k behind ++ rest
begins f k behind rest h l t e =
    let n : 17 ≤ length f = omega (arith, size_least k, l.long) in
    cell f 0 131 _ (omega arith) l.o0
    (cell f 1 (header_size k) _ (omega arith) l.o1
    (cell f 2 1 _ (omega arith) l.o2
    (cell f 3 0 _ (omega arith) l.o3
    (cell f 4 (kind_octet k) _ (omega arith) l.o4
    (cell f 5 1 _ (omega arith) l.o5
    (cell f 6 0 _ (omega arith) l.o6
    (cell f 7 0 _ (omega arith) l.o7
    (run f 8 2 (octets 2 (header_size k + behind)) rest (ap (octets 2) (t ∙ sym l.total) ∙ octets-field f 8 2 h (omega arith)) e))))))))
