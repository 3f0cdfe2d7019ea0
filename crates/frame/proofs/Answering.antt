-- The faults of a frame rise in rank and place as they are listed, so the first of them is answered.
use Rattle.std.proofs.Common.{◌≡◌, ℕ, suc, ◌+◌, ◌-◌, ◌*◌, ◌<◌, ◌≤◌, Bool, true, false, cond, ◌||◌, eqb, ltb, List, [], ◌∷◌, ◌++◌, length, get_or, drop, Some, None, Ok, Err, Option, Result, sym, refl, ap, ◌∙◌, subst, arith, le-ltb, lt-ltb, eq-eqb, ne_eqb, le-leb}
use Rattle.std.specs.Option.{option_or}
use Rattle.fault.specs.declared.FrameFault.{FrameFault}
use Rattle.fault.specs.declared.FrameFault.TheVariants.{Short, Fixed, Kind as UnknownKind, Header, Length, Body, Tail, Lifetime, Number, Range, Order, Check}
use Rattle.fault.specs.Order.{frame_rank, before, first_fault, fails, unless}
use Rattle.fault.specs.Refusals.{frame_place}
use Rattle.fault.proofs.Laws.{unless_ok, unless_err, Rising, Between, foremost, foremost-append, rising_first, between_fails, ranked_self}
use Rattle.octets.specs.Octets.{field}
use Rattle.octets.specs.Fields.{broken_field, body_faults, body_fault}
use Rattle.frame.specs.declared.kind.Kind.{Kind}
use Rattle.frame.specs.declared.kind.Kind.TheVariants.{Lsp, Csnp, Psnp}
use Rattle.frame.specs.Messages.{SnpEntry}
use Rattle.frame.specs.Reading.{fixed, wrong_octet, kind_of, header_faults, headed, header_answer, check_wrong, lsp_faults, tail_right, entry_at, entries_at, entries_of, entries_faults, last_id, csnp_faults, psnp_faults, kind_faults, faults, refusal}
use Rattle.octets.proofs.FieldLaws.{broken_place, body_first}

abbrev Rise : FrameFault → List (Option FrameFault) → Type 0
Rise lo rs = Rising frame_rank frame_place lo rs

abbrev InBetween : FrameFault → Option FrameFault → FrameFault → Type 0
InBetween lo r hi = Between frame_rank frame_place lo r hi

abbrev pub first_of : List (Option FrameFault) → Option FrameFault
first_of rs = foremost frame_rank frame_place rs

may_fail : (lo x : FrameFault) (c : Bool) → before frame_rank frame_place lo x ≡ true → InBetween lo (fails c x) x
may_fail lo x c h = between_fails frame_rank frame_place lo x c h

fixed_between : (n : ℕ) (a b c d e g : Bool) →
    InBetween (Short n)
    (cond a (cond b (cond c (cond d (cond e (cond g None (Some (Fixed 7))) (Some (Fixed 6))) (Some (Fixed 5))) (Some (Fixed 3))) (Some (Fixed 2))) (Some (Fixed 0)))
    (Fixed 8)
fixed_between n false b c d e g = (refl, refl)
fixed_between n true false c d e g = (refl, refl)
fixed_between n true true false d e g = (refl, refl)
fixed_between n true true true false e g = (refl, refl)
fixed_between n true true true true false g = (refl, refl)
fixed_between n true true true true true false = (refl, refl)
fixed_between n true true true true true true = refl

header_rising : (f : List ℕ) (rest : List (Option FrameFault)) → Rise Length rest → Rise (Short (length f)) (header_faults f ++ rest)
header_rising f rest h = (
  Short (length f),
  may_fail (Short (length f)) (Short (length f)) _ (ranked_self 10 (length f)),
  (
    Fixed 8,
    fixed_between (length f) (eqb (get_or f 0 0) 131) (eqb (get_or f 2 0) 1) (eqb (get_or f 3 0) 0) (eqb (get_or f 5 0) 1) (eqb (get_or f 6 0) 0) (eqb (get_or f 7 0) 0),
    (
      UnknownKind,
      may_fail (Fixed 8) UnknownKind _ refl,
      (
        Header,
        may_fail UnknownKind Header _ refl,
        (Length, may_fail Header Length _ refl, h),
      ),
    ),
  ),
)

broken_between : (at : ℕ) (body : List ℕ) (r : Option FrameFault) → broken_field at body ≡ r → InBetween (Body at) r (Lifetime 10)
broken_between at body None e = refl
broken_between at body (Some x) e =
    let b = broken_place at body x e in
    subst (λ (y : FrameFault). InBetween (Body at) (Some y) (Lifetime 10)) (sym b.1) (le-leb at b.0 b.2, refl)

lsp_rising : (f : List ℕ) → Rise Length (lsp_faults f)
lsp_rising f = (
  Body 27,
  may_fail Length (Body 27) _ refl,
  (
    Lifetime 10,
    broken_between 27 (drop 27 f) _ refl,
    (
      Lifetime 10,
      may_fail (Lifetime 10) (Lifetime 10) _ refl,
      (
        Number,
        may_fail (Lifetime 10) Number _ refl,
        (Check, may_fail Number Check _ refl, tt),
      ),
    ),
  ),
)

entries_rising : (es : List SnpEntry) (at low high : ℕ) (lo : FrameFault) → before frame_rank frame_place lo (Lifetime at) ≡ true →
    Rise lo (entries_faults at low high es)
entries_rising [] at low high lo h = tt
entries_rising (e ∷ es) at low high lo h = (
  Lifetime at,
  may_fail lo (Lifetime at) _ h,
  (
    Order (at + 2),
    may_fail (Lifetime at) (Order (at + 2)) _ (le-leb at (at + 2) (omega arith)),
    entries_rising es (at + 16) (e.id + 1) high (Order (at + 2)) (le-leb (at + 2) (at + 16) (omega arith)),
  ),
)

pub kind_rising : (o : Option Kind) (f : List ℕ) → Rise Length (kind_faults o f)
kind_rising None f = tt
kind_rising (Some Lsp) f = lsp_rising f
kind_rising (Some Csnp) f = (
  Tail 33,
  may_fail Length (Tail 33) _ refl,
  (Range, may_fail (Tail 33) Range _ refl, entries_rising (entries_of 33 f) 35 (field 17 8 f) (field 25 8 f) Range refl),
)
kind_rising (Some Psnp) f =
    (Tail 17, may_fail Length (Tail 17) _ refl, entries_rising (entries_of 17 f) 19 0 last_id (Tail 17) refl)

-- the first fault that is there is the one that is answered
pub first_header : (f : List ℕ) → first_fault (header_faults f) ≡ first_of (header_faults f)
first_header f = rising_first frame_rank frame_place (Short (length f)) (header_faults f) (header_rising f [] tt)

pub first_kind : (o : Option Kind) (f : List ℕ) → first_fault (kind_faults o f) ≡ first_of (kind_faults o f)
first_kind o f = rising_first frame_rank frame_place Length (kind_faults o f) (kind_rising o f)

-- the header's fault, or else the kind's
pub first_refusal : (f : List ℕ) → refusal f ≡ option_or (first_fault (header_faults f)) (first_fault (kind_faults (kind_of f) f))
first_refusal f =
    let k = kind_faults (kind_of f) f in
    let a : refusal f ≡ first_of (faults f) =
    rising_first frame_rank frame_place (Short (length f)) (faults f) (header_rising f k (kind_rising (kind_of f) f))
    in
    let b : first_of (faults f) ≡ option_or (first_of (header_faults f)) (first_of k) = foremost-append frame_rank frame_place (header_faults f) k in
    let c : first_fault (header_faults f) ≡ first_of (header_faults f) = first_header f in
    let d : first_fault k ≡ first_of k = first_kind (kind_of f) f in
    a ∙ b ∙ rw (c, d) refl

header_first : (f : List ℕ) → header_answer f ≡ headed (first_of (header_faults f)) (kind_of f)
header_first f = ap (λ (o : Option FrameFault). headed o (kind_of f)) (first_header f)

pub header-fixed : (f : List ℕ) → ltb (length f) 8 ≡ false → (e : FrameFault) → wrong_octet fixed f ≡ Some e → header_answer f ≡ Err e
header-fixed f a e b = header_first f ∙ rw (a, b) refl

-- an LSP's first fault: the body's, or else that of lifetime, number and check octets
abbrev header_checks : List ℕ → List (Option FrameFault)
header_checks f =
    fails (ltb 1200 (field 10 2 f)) (Lifetime 10) ∷ fails (eqb (field 20 4 f) 0) Number ∷ fails (check_wrong f) Check ∷ []

lsp_first : (f : List ℕ) → first_fault (lsp_faults f) ≡ option_or (body_fault 27 (drop 27 f)) (first_of (header_checks f))
lsp_first f =
    let a : first_of (lsp_faults f) ≡ option_or (first_of (body_faults 27 (drop 27 f))) (first_of (header_checks f)) =
    foremost-append frame_rank frame_place (body_faults 27 (drop 27 f)) (header_checks f)
    in
    first_kind (Some Lsp) f ∙ a ∙ ap (λ (o : Option FrameFault). option_or o (first_of (header_checks f))) (sym (body_first 27 (drop 27 f)))

pub lsp_body : (f : List ℕ) (e : FrameFault) → body_fault 27 (drop 27 f) ≡ Some e → first_fault (lsp_faults f) ≡ Some e
lsp_body f e b = lsp_first f ∙ rw b refl

module _ (f : List ℕ) (b : body_fault 27 (drop 27 f) ≡ None) where
  pub lsp_lifetime : 1200 < field 10 2 f → first_fault (lsp_faults f) ≡ Some (Lifetime 10)
  lsp_lifetime l = lsp_first f ∙ rw (b, lt-ltb 1200 (field 10 2 f) l) refl

  module _ (l : field 10 2 f ≤ 1200) where
    pub lsp_number : field 20 4 f ≡ 0 → first_fault (lsp_faults f) ≡ Some Number
    lsp_number n = lsp_first f ∙ rw (b, le-ltb 1200 (field 10 2 f) l, eq-eqb (field 20 4 f) 0 n) refl

    module _ (n : field 20 4 f ≡ 0 → ⊥) where
      pub lsp_check : check_wrong f ≡ true → first_fault (lsp_faults f) ≡ Some Check
      lsp_check c = lsp_first f ∙ rw (b, le-ltb 1200 (field 10 2 f) l, ne_eqb (field 20 4 f) 0 n, c) refl

      pub lsp_right : check_wrong f ≡ false → first_fault (lsp_faults f) ≡ None
      lsp_right c = lsp_first f ∙ rw (b, le-ltb 1200 (field 10 2 f) l, ne_eqb (field 20 4 f) 0 n, c) refl

-- what the check of a body answered, of the octets behind the header
pub body_clear : (f body : List ℕ) → body ≡ drop 27 f → ◌≡◌ {A = Result (Unit {0}) FrameFault} (Ok tt) (unless (body_fault 27 body) tt) → body_fault 27 (drop 27 f) ≡ None
body_clear f body e h = ap (body_fault 27) (sym e) ∙ unless_ok (body_fault 27 body) tt tt (sym h)

pub body_refused : (f body : List ℕ) (x : FrameFault) → body ≡ drop 27 f → ◌≡◌ {A = Result (Unit {0}) FrameFault} (Err x) (unless (body_fault 27 body) tt) → body_fault 27 (drop 27 f) ≡ Some x
body_refused f body x e h = ap (body_fault 27) (sym e) ∙ unless_err (body_fault 27 body) tt x (sym h)

pub first_entries : (es : List SnpEntry) (at low high : ℕ) → first_fault (entries_faults at low high es) ≡ first_of (entries_faults at low high es)
first_entries es at low high =
    rising_first frame_rank frame_place (Lifetime at) (entries_faults at low high es) (entries_rising es at low high (Lifetime at) (ranked_self 60 at))

-- the first fault of entries that stand at a place
abbrev pub entries_fault : ℕ → ℕ → ℕ → List SnpEntry → Option FrameFault
entries_fault place low high es = first_of (entries_faults place low high es)

-- of the first entry, or of the others
module _ (e : SnpEntry) (es : List SnpEntry) (place low high : ℕ) where
  pub here_lifetime : 1200 < e.lifetime → entries_fault place low high (e ∷ es) ≡ Some (Lifetime place)
  here_lifetime l = rw (lt-ltb 1200 e.lifetime l) refl

  module _ (l : e.lifetime ≤ 1200) where
    pub here_order : (ltb e.id low || ltb high e.id) ≡ true → entries_fault place low high (e ∷ es) ≡ Some (Order (place + 2))
    here_order o = rw (le-ltb 1200 e.lifetime l, o) refl

-- of n entries, the first fault of those from k on
abbrev pub remaining : ℕ → ℕ → ℕ → ℕ → ℕ → List ℕ → Option FrameFault
remaining n k place low high octets = first_of (entries_faults (place + 16 * k) low high (entries_at (n - k) (16 * k) octets))

module _ (n k place low high : ℕ) (octets : List ℕ) (h : k < n) where
  one_here : entries_at (n - k) (16 * k) octets ≡ entry_at (16 * k) octets ∷ entries_at (n - (k + 1)) (16 * k + 16) octets
  one_here = let e : n - k ≡ suc (n - (k + 1)) = omega arith in ap (λ (m : ℕ). entries_at m (16 * k) octets) e

  here : remaining n k place low high octets ≡ first_of (entries_faults (place + 16 * k) low high (entry_at (16 * k) octets ∷ entries_at (n - (k + 1)) (16 * k + 16) octets))
  here = ap (λ (es : List SnpEntry). first_of (entries_faults (place + 16 * k) low high es)) one_here

  pub kth_lifetime : 1200 < field (16 * k) 2 octets → remaining n k place low high octets ≡ Some (Lifetime (place + 16 * k))
  kth_lifetime l = here ∙ rw (lt-ltb 1200 (field (16 * k) 2 octets) l) refl

  module _ (l : field (16 * k) 2 octets ≤ 1200) where
    pub kth_order : (ltb (field (16 * k + 2) 8 octets) low || ltb high (field (16 * k + 2) 8 octets)) ≡ true →
        remaining n k place low high octets ≡ Some (Order (place + 16 * k + 2))
    kth_order o = here ∙ rw (le-ltb 1200 (field (16 * k) 2 octets) l, o) refl

    pub here_right : (ltb (field (16 * k + 2) 8 octets) low || ltb high (field (16 * k + 2) 8 octets)) ≡ false →
        remaining n k place low high octets ≡ remaining n (k + 1) place (field (16 * k + 2) 8 octets + 1) high octets
    here_right o =
        let p : place + 16 * k + 16 ≡ place + 16 * (k + 1) = omega arith in
        let q : 16 * k + 16 ≡ 16 * (k + 1) = omega arith in
        here
        ∙ rw (le-ltb 1200 (field (16 * k) 2 octets) l, o) refl
        ∙ ap (λ (a : ℕ). first_of (entries_faults a (field (16 * k + 2) 8 octets + 1) high (entries_at (n - (k + 1)) (16 * k + 16) octets))) p
        ∙ ap (λ (a : ℕ). first_of (entries_faults (place + 16 * (k + 1)) (field (16 * k + 2) 8 octets + 1) high (entries_at (n - (k + 1)) a octets))) q

pub at_first : (n place low high : ℕ) (octets : List ℕ) → remaining n 0 place low high octets ≡ first_fault (entries_faults place low high (entries_at n 0 octets))
at_first n place low high octets =
    let p : place + 16 * 0 ≡ place = omega arith in
    let q : n - 0 ≡ n = omega arith in
    ap (λ (a : ℕ). first_of (entries_faults a low high (entries_at (n - 0) 0 octets))) p
    ∙ ap (λ (m : ℕ). first_of (entries_faults place low high (entries_at m 0 octets))) q
    ∙ sym (first_entries (entries_at n 0 octets) place low high)

pub at_last : (n k place low high : ℕ) (octets : List ℕ) → n ≤ k → remaining n k place low high octets ≡ None
at_last n k place low high octets h =
    let e : n - k ≡ 0 = omega arith in
    ap (λ (m : ℕ). first_of (entries_faults (place + 16 * k) low high (entries_at m (16 * k) octets))) e

-- what a check answers
pub refused : (o : Option FrameFault) (x y : FrameFault) → o ≡ Some x → y ≡ x → ◌≡◌ {A = Result (Unit {0}) FrameFault} (Err y) (unless o tt)
refused o x y p q = rw (p, q) refl

pub let_through : (o : Option FrameFault) → o ≡ None → ◌≡◌ {A = Result (Unit {0}) FrameFault} (Ok tt) (unless o tt)
let_through o p = rw p refl

-- a summary's first fault: the tail's, the range's, or an entry's
pub csnp_tail_fault : (f : List ℕ) → tail_right (drop 33 f) ≡ false → first_fault (csnp_faults f) ≡ Some (Tail 33)
csnp_tail_fault f t = first_kind (Some Csnp) f ∙ rw t refl

module _ (f : List ℕ) (t : tail_right (drop 33 f) ≡ true) where
  pub csnp_range_fault : field 25 8 f < field 17 8 f → first_fault (csnp_faults f) ≡ Some Range
  csnp_range_fault r = first_kind (Some Csnp) f ∙ rw (t, lt-ltb (field 25 8 f) (field 17 8 f) r) refl

  pub csnp_entries : field 17 8 f ≤ field 25 8 f →
      first_fault (csnp_faults f) ≡ first_fault (entries_faults 35 (field 17 8 f) (field 25 8 f) (entries_of 33 f))
  csnp_entries r =
      first_kind (Some Csnp) f
      ∙ rw (t, le-ltb (field 25 8 f) (field 17 8 f) r) refl
      ∙ sym (first_entries (entries_of 33 f) 35 (field 17 8 f) (field 25 8 f))

pub psnp_tail_fault : (f : List ℕ) → tail_right (drop 17 f) ≡ false → first_fault (psnp_faults f) ≡ Some (Tail 17)
psnp_tail_fault f t = first_kind (Some Psnp) f ∙ rw t refl

pub psnp_entries : (f : List ℕ) → tail_right (drop 17 f) ≡ true →
    first_fault (psnp_faults f) ≡ first_fault (entries_faults 19 0 last_id (entries_of 17 f))
psnp_entries f t = first_kind (Some Psnp) f ∙ rw t refl ∙ sym (first_entries (entries_of 17 f) 19 0 last_id)

-- the same faults at entries that are the same
pub same_first : (at at' low low' high high' : ℕ) (es es' : List SnpEntry) → at ≡ at' → low ≡ low' → high ≡ high' → es ≡ es' →
    first_fault (entries_faults at low high es) ≡ first_fault (entries_faults at' low' high' es')
same_first at at' low low' high high' es es' o p q r = rw (o, p, q, r) refl
