-- Entries of a summary, written and read back, at an offset that stays a variable.
use Rattle.std.proofs.Common.{◌≡◌, ℕ, zero, suc, ◌+◌, ◌-◌, ◌*◌, ◌/◌, ◌%◌, ◌<◌, ◌≤◌, min, Bool, true, false, ◌&&◌, eqb, ltb, leb, List, [], ◌∷◌, ◌++◌, length, get_or, take, drop, Some, slice_get, add-zero, sym, refl, ap, ◌∙◌, arith, length-drop, get_or-drop, drop-drop, ltb-false, le-ltb, eq-eqb, eqb-true, le-leb, leb-true}
use Rattle.std.specs.List.{AllByRecursion}
use Rattle.std.proofs.ByRecursion.{All-drop}
use Rattle.std.proofs.lemmas.List.{take_all, take-take, drop-take, get_or-take, length-take}
use Rattle.fault.specs.declared.FrameFault.TheVariants.{Lifetime, Order}
use Rattle.fault.proofs.Laws.{fails_not, not_fails}
use Rattle.octets.specs.declared.checks.CheckOctets.{CheckOctets}
use Rattle.octets.specs.Octets.{Octets, value, octets, part, field}
use Rattle.octets.specs.Fields.{Front}
use Rattle.octets.proofs.Numbers.{value-octets}
use Rattle.frame.specs.Messages.{SnpEntry, entry_octets, entries_octets, tail_octets}
use Rattle.frame.specs.Reading.{check_at, entry_at, entries_at, entries_of, entries_faults, tail_right, field_lists}
use Rattle.frame.specs.Meaning.{entry_count, entries_in}
use Rattle.frame.specs.Trip.{EntryFits, Rises}
use Rattle.frame.proofs.Heads.{NoFaults, cell, run, octets-field, field_under, or_false, or_off}

-- offsets are taken from what stands there
pub part_from : (f g : List ℕ) (at k n : ℕ) → drop at f ≡ g → part (at + k) n f ≡ part k n g
part_from f g at k n e = ap (take n) (sym (drop-drop k at f) ∙ ap (drop k) e)

pub field_from : (f g : List ℕ) (at k n : ℕ) → drop at f ≡ g → field (at + k) n f ≡ field k n g
field_from f g at k n e = ap value (part_from f g at k n e)

pub octet_from : (f g : List ℕ) (at k : ℕ) → drop at f ≡ g → get_or f (at + k) 0 ≡ get_or g k 0
octet_from f g at k e = sym (get_or-drop at f k 0) ∙ ap (λ (y : List ℕ). get_or y k 0) e

made_check : (x x' y y' : ℕ) → x ≡ x' → y ≡ y' → ◌≡◌ {A = CheckOctets} (record { x = x; y = y }) (record { x = x'; y = y' })
made_check x x' y y' p q = rw (p, q) refl

pub check_from : (f g : List ℕ) (at k : ℕ) → drop at f ≡ g → check_at (at + k) f ≡ check_at k g
check_from f g at k e =
    made_check _ _ _ _ (octet_from f g at k e)
    (ap (λ (n : ℕ). get_or f n 0) (let a : at + k + 1 ≡ at + (k + 1) = omega arith in a) ∙ octet_from f g at (k + 1) e)

pub made_entry : (t t' i i' n n' : ℕ) (c c' : CheckOctets) → t ≡ t' → i ≡ i' → n ≡ n' → c ≡ c' →
    ◌≡◌ {A = SnpEntry} (record { lifetime = t; id = i; number = n; check = c }) (record { lifetime = t'; id = i'; number = n'; check = c' })
made_entry t t' i i' n n' c c' p q r s = rw (p, q, r, s) refl

-- an entry at an offset is the one at the front of what stands there
pub entry_from : (f g : List ℕ) (at : ℕ) → drop at f ≡ g → entry_at at f ≡ entry_at 0 g
entry_from f g at e =
    made_entry _ _ _ _ _ _ _ _ (ap (λ (y : List ℕ). value (take 2 y)) e) (field_from f g at 2 8 e) (field_from f g at 10 4 e) (check_from f g at 14 e)

entry_read : (e : SnpEntry) (rest f : List ℕ) (at : ℕ) → EntryFits e → drop at f ≡ entry_octets e ++ rest → entry_at at f ≡ e
entry_read e rest f at h p =
    entry_from f (entry_octets e ++ rest) at p
    ∙ made_entry _ _ _ _ _ _ _ _ (value-octets 2 e.lifetime (omega (arith, h.lifetime))) (value-octets 8 e.id h.id)
    (value-octets 4 e.number h.number) refl

entry_past : (e : SnpEntry) (rest f : List ℕ) (at : ℕ) → drop at f ≡ entry_octets e ++ rest → drop (at + 16) f ≡ rest
entry_past e rest f at p = sym (drop-drop 16 at f) ∙ ap (drop 16) p

pub entries_read : (es : List SnpEntry) (f : List ℕ) (at : ℕ) → AllByRecursion EntryFits es → drop at f ≡ entries_octets es → entries_at (length es) at f ≡ es
entries_read [] f at h p = refl
entries_read (e ∷ es) f at h p =
    ap (λ (x : SnpEntry). x ∷ entries_at (length es) (at + 16) f) (entry_read e (entries_octets es) f at h.0 p)
    ∙ ap (λ (x : List SnpEntry). e ∷ x) (entries_read es f (at + 16) h.1 (entry_past e (entries_octets es) f at p))

pub length_entries : (es : List SnpEntry) → length (entries_octets es) ≡ 16 * length es
length_entries [] = refl
length_entries (e ∷ es) = let i : length (entries_octets es) ≡ 16 * length es = length_entries es in omega arith

pub length_tail : (es : List SnpEntry) → length es ≤ 15 → length (tail_octets es) ≤ 242
length_tail [] l = omega arith
length_tail (e ∷ es) l = omega (arith, length_entries (e ∷ es))

five : (a b c d e : Bool) → a ≡ true → b ≡ true → c ≡ true → d ≡ true → e ≡ true → a && (b && (c && (d && e))) ≡ true
five a b c d e p q r s t = rw (p, q, r, s, t) refl

pub tail_fits : (es : List SnpEntry) → length es ≤ 15 → tail_right (tail_octets es) ≡ true
tail_fits [] l = refl
tail_fits (e ∷ es) l =
    five _ _ _ _ _ refl (eq-eqb (16 * length (e ∷ es)) (length (entries_octets (e ∷ es))) (omega (arith, length_entries (e ∷ es))))
    (eq-eqb ((16 * length (e ∷ es)) % 16) 0 (omega arith)) (le-leb 16 (16 * length (e ∷ es)) (omega arith))
    (le-leb (16 * length (e ∷ es)) 240 (omega arith))

pub tail_read : (es : List SnpEntry) (f : List ℕ) (size : ℕ) → AllByRecursion EntryFits es → drop size f ≡ tail_octets es → entries_of size f ≡ es
tail_read [] f size h p =
    let g : get_or f (size + 1) 0 ≡ 0 = octet_from f [] size 1 p in
    ap (λ (n : ℕ). entries_at (n / 16) (size + 2) f) g
tail_read (e ∷ es) f size h p =
    let g : get_or f (size + 1) 0 ≡ 16 * length (e ∷ es) = octet_from f (tail_octets (e ∷ es)) size 1 p in
    let n : get_or f (size + 1) 0 / 16 ≡ length (e ∷ es) = omega arith in
    ap (λ (k : ℕ). entries_at k (size + 2) f) n
    ∙ entries_read (e ∷ es) f (size + 2) h (sym (drop-drop 2 size f) ∙ ap (drop 2) p)

pub entries_none : (es : List SnpEntry) (at low high : ℕ) → AllByRecursion EntryFits es → Rises low high es → NoFaults (entries_faults at low high es)
entries_none [] at low high h r = tt
entries_none (e ∷ es) at low high h r = (
  not_fails _ (Lifetime at) (le-ltb 1200 e.lifetime h.0.lifetime),
  (
    not_fails _ (Order (at + 2)) (or_false _ _ (le-ltb e.id low r.0) (le-ltb high e.id r.1)),
    entries_none es (at + 16) (e.id + 1) high h.1 r.2,
  ),
)

-- entries without a fault rise
pub entries_rise : (es : List SnpEntry) (at low high : ℕ) → NoFaults (entries_faults at low high es) → Rises low high es
entries_rise [] at low high z = tt
entries_rise (e ∷ es) at low high z =
    let o = or_off (ltb e.id low) (ltb high e.id) (fails_not _ (Order (at + 2)) z.1.0) in
    (ltb-false e.id low o.0, ltb-false high e.id o.1, entries_rise es (at + 16) (e.id + 1) high z.1.1)

-- entries that were read without a fault can be said
pub entries_fit : (k : ℕ) (f : List ℕ) (at place low high : ℕ) → Octets f → at + 16 * k ≤ length f →
    NoFaults (entries_faults place low high (entries_at k at f)) → AllByRecursion EntryFits (entries_at k at f)
entries_fit zero f at place low high h n z = tt
entries_fit (suc k) f at place low high h n z = (
  record {
    lifetime = ltb-false 1200 (field at 2 f) (fails_not (ltb 1200 (field at 2 f)) (Lifetime place) z.0);
    id = field_under f (at + 2) 8 h (omega arith);
    number = field_under f (at + 10) 4 h (omega arith);
  },
  entries_fit k f (at + 16) (place + 16) (field (at + 2) 8 f + 1) high h (omega arith) z.1.1,
)

-- octets that are read as entries are written again
front_back : (g rest : List ℕ) → Octets g → 16 ≤ length g → drop 16 g ≡ rest → g ≡ entry_octets (entry_at 0 g) ++ rest
front_back g rest h n e =
    run g 0 2 (octets 2 (field 0 2 g)) _ (octets-field g 0 2 h (omega arith))
    (run g 2 8 (octets 8 (field 2 8 g)) _ (octets-field g 2 8 h (omega arith))
    (run g 10 4 (octets 4 (field 10 4 g)) _ (octets-field g 10 4 h (omega arith))
    (cell g 14 (get_or g 14 0) _ (omega arith) refl (cell g 15 (get_or g 15 0) rest (omega arith) refl e))))

nothing : (g : List ℕ) → length g ≡ 0 → g ≡ []
nothing [] h = refl
nothing (x ∷ g) h = absurd (omega arith)

pub entries_back : (k : ℕ) (f : List ℕ) (at : ℕ) → Octets f → length (drop at f) ≡ 16 * k → drop at f ≡ entries_octets (entries_at k at f)
entries_back zero f at h n = nothing (drop at f) (omega arith)
entries_back (suc k) f at h n =
    let d : length (drop at f) ≡ length f - at = length-drop at f in
    let d' : length (drop (at + 16) f) ≡ length f - (at + 16) = length-drop (at + 16) f in
    let ih : drop (at + 16) f ≡ entries_octets (entries_at k (at + 16) f) = entries_back k f (at + 16) h (omega arith) in
    front_back (drop at f) (entries_octets (entries_at k (at + 16) f)) (All-drop (λ (x : ℕ). x < 256) at f h) (omega arith) (drop-drop 16 at f ∙ ih)
    ∙ ap (λ (e : SnpEntry). entry_octets e ++ entries_octets (entries_at k (at + 16) f)) (sym (entry_from f (drop at f) at refl))

pub length_entries_at : (k : ℕ) (f : List ℕ) (at : ℕ) → length (entries_at k at f) ≡ k
length_entries_at zero f at = refl
length_entries_at (suc k) f at = ap suc (length_entries_at k f (at + 16))

pub and_on : (a b : Bool) → a && b ≡ true → (a ≡ true) × (b ≡ true)
and_on true b h = (refl, h)
and_on false b h = let z : ◌≡◌ {A = ℕ} 0 1 = cc in absurd (omega arith)

-- a right tail by its octets: k entries behind 09 and 16 × k
pub record Tailed (x n : ℕ) (xs : List ℕ) : Type 0 where
  pub code : x ≡ 9
  pub count : n ≡ length xs
  pub whole : n ≡ 16 * (n / 16)
  pub least : 16 ≤ n
  pub most : n ≤ 240

pub tailed : (x n : ℕ) (xs : List ℕ) → tail_right (x ∷ n ∷ xs) ≡ true → Tailed x n xs
tailed x n xs r =
    let a = and_on (eqb x 9) _ r in
    let b = and_on (eqb n (length xs)) _ a.1 in
    let c = and_on (eqb (n % 16) 0) _ b.1 in
    let d = and_on (leb 16 n) (leb n 240) c.1 in
    let n16 : n % 16 ≡ 0 = eqb-true (n % 16) 0 c.0 in
    record {
      code = eqb-true x 9 a.0;
      count = eqb-true n (length xs) b.0;
      whole = omega arith;
      least = leb-true 16 n d.0;
      most = leb-true n 240 d.1;
    }

some_tail : (k : ℕ) (es : List SnpEntry) → length es ≡ k → 1 ≤ k → tail_octets es ≡ 9 ∷ 16 * k ∷ entries_octets es
some_tail k [] h p = absurd (omega arith)
some_tail k (e ∷ es) h p = ap (λ (n : ℕ). 9 ∷ 16 * n ∷ entries_octets (e ∷ es)) h

no_tail : (x : ℕ) → tail_right (x ∷ []) ≡ true → ⊥
no_tail x r = let z : ◌≡◌ {A = ℕ} 0 1 = cc in omega arith

pub tail_back : (g f : List ℕ) (size : ℕ) → Octets f → drop size f ≡ g → tail_right g ≡ true → g ≡ tail_octets (entries_of size f)
tail_back [] f size h p r =
    let n : get_or f (size + 1) 0 ≡ 0 = octet_from f [] size 1 p in
    sym (ap (λ (k : ℕ). tail_octets (entries_at (k / 16) (size + 2) f)) n)
tail_back (x ∷ []) f size h p r = absurd (no_tail x r)
tail_back (x ∷ n ∷ xs) f size h p r =
    let w = tailed x n xs r in
    let q : drop (size + 2) f ≡ xs = sym (drop-drop 2 size f) ∙ ap (drop 2) p in
    let k : get_or f (size + 1) 0 / 16 ≡ n / 16 = ap (λ (y : ℕ). y / 16) (octet_from f (x ∷ n ∷ xs) size 1 p) in
    let l : length (drop (size + 2) f) ≡ 16 * (n / 16) = ap (length {A = ℕ}) q ∙ (sym w.count ∙ w.whole) in
    let s : xs ≡ entries_octets (entries_at (n / 16) (size + 2) f) = sym q ∙ entries_back (n / 16) f (size + 2) h l in
    let t : tail_octets (entries_at (n / 16) (size + 2) f) ≡ 9 ∷ 16 * (n / 16) ∷ entries_octets (entries_at (n / 16) (size + 2) f) =
    some_tail (n / 16) (entries_at (n / 16) (size + 2) f) (length_entries_at (n / 16) f (size + 2)) (omega (arith, w.least))
    in
    ap (λ (y : ℕ). y ∷ n ∷ xs) w.code
    ∙ ap (λ (y : ℕ). 9 ∷ y ∷ xs) w.whole
    ∙ ap (λ (y : List ℕ). 9 ∷ 16 * (n / 16) ∷ y) s
    ∙ sym t
    ∙ sym (ap (λ (y : ℕ). tail_octets (entries_at y (size + 2) f)) k)

-- how many entries a right tail has, and that they are there
pub tail_counts : (g f : List ℕ) (size : ℕ) → drop size f ≡ g → tail_right g ≡ true → size ≤ length f →
    (get_or f (size + 1) 0 / 16 ≤ 15) × ((1 ≤ get_or f (size + 1) 0 / 16) → size + 2 + 16 * (get_or f (size + 1) 0 / 16) ≡ length f)
tail_counts [] f size p r b =
    let n : get_or f (size + 1) 0 ≡ 0 = octet_from f [] size 1 p in (omega arith, λ z. absurd (omega arith))
tail_counts (x ∷ []) f size p r b = absurd (no_tail x r)
tail_counts (x ∷ n ∷ xs) f size p r b =
    let w = tailed x n xs r in
    let g : get_or f (size + 1) 0 ≡ n = octet_from f (x ∷ n ∷ xs) size 1 p in
    let d : length (drop size f) ≡ length f - size = length-drop size f in
    let e : length (drop size f) ≡ suc (suc (length xs)) = ap (length {A = ℕ}) p in
    (omega (arith, w.most), λ z. omega (arith, w.whole, w.count))

-- entries at an offset are those of what stands there
entries_shift : (k : ℕ) (f g : List ℕ) (at j : ℕ) → drop at f ≡ g → entries_at k (at + j) f ≡ entries_at k j g
entries_shift zero f g at j e = refl
entries_shift (suc k) f g at j e =
    let d : drop (at + j) f ≡ drop j g = sym (drop-drop j at f) ∙ ap (drop j) e in
    let a : at + j + 16 ≡ at + (j + 16) = omega arith in
    ap (λ (x : SnpEntry). x ∷ entries_at k (at + j + 16) f) (entry_from f (drop j g) (at + j) d ∙ sym (entry_from g (drop j g) j refl))
    ∙ ap (λ (x : List SnpEntry). entry_at j g ∷ x) (ap (λ (n : ℕ). entries_at k n f) a ∙ entries_shift k f g at (j + 16) e)

-- the octets behind a right tail's code and length hold the summary's entries
pub tail_listed : (g f : List ℕ) (size : ℕ) → drop size f ≡ g → tail_right g ≡ true → entries_in (drop 2 g) ≡ entries_of size f
tail_listed [] f size p r =
    let n : get_or f (size + 1) 0 ≡ 0 = octet_from f [] size 1 p in
    sym (ap (λ (k : ℕ). entries_at (k / 16) (size + 2) f) n)
tail_listed (x ∷ []) f size p r = absurd (no_tail x r)
tail_listed (x ∷ n ∷ xs) f size p r =
    let w = tailed x n xs r in
    let q : drop (size + 2) f ≡ xs = sym (drop-drop 2 size f) ∙ ap (drop 2) p in
    let g : get_or f (size + 1) 0 ≡ n = octet_from f (x ∷ n ∷ xs) size 1 p in
    let c : min (length xs / 16) 15 ≡ get_or f (size + 1) 0 / 16 = omega (arith, w.count, w.most) in
    let z : size + 2 + 0 ≡ size + 2 = omega arith in
    ap (λ (k : ℕ). entries_at k 0 xs) c
    ∙ sym (entries_shift (get_or f (size + 1) 0 / 16) f xs (size + 2) 0 q)
    ∙ ap (λ (a : ℕ). entries_at (get_or f (size + 1) 0 / 16) a f) z

-- the same of a tail and a part that were taken from the frame
pub listed_of : (size : ℕ) (f t xs : List ℕ) → t ≡ drop size f → (tail_right t ≡ true) × (xs ≡ drop 2 t) →
    (tail_right (drop size f) ≡ true) × (entries_in xs ≡ entries_of size f)
listed_of size f t xs e h = (ap tail_right (sym e) ∙ h.0, ap entries_in h.1 ∙ tail_listed t f size (sym e) h.0)

pub own_part : (size : ℕ) (f t xs : List ℕ) → t ≡ drop size f → xs ≡ drop 2 t → xs ≡ drop (size + 2) f
own_part size f t xs e h = h ∙ ap (drop 2) e ∙ drop-drop 2 size f

-- what stands in the first m octets
part_front : (f : List ℕ) (at n m : ℕ) → at + n ≤ m → part at n (take m f) ≡ part at n f
part_front f at n m h =
    let e : m ≡ at + (m - at) = omega arith in
    ap (λ (k : ℕ). part at n (take k f)) e ∙ ap (take n) (drop-take at (m - at) f) ∙ take-take n (m - at) (drop at f) (omega arith)

entry_front : (f : List ℕ) (at m : ℕ) → at + 16 ≤ m → entry_at at (take m f) ≡ entry_at at f
entry_front f at m h =
    made_entry _ _ _ _ _ _ _ _ (ap value (part_front f at 2 m (omega arith))) (ap value (part_front f (at + 2) 8 m (omega arith)))
    (ap value (part_front f (at + 10) 4 m (omega arith)))
    (made_check _ _ _ _ (get_or-take m f (at + 14) 0 (omega arith)) (get_or-take m f (at + 14 + 1) 0 (omega arith)))

entries_front : (k : ℕ) (f : List ℕ) (at m : ℕ) → at + 16 * k ≤ m → entries_at k at (take m f) ≡ entries_at k at f
entries_front zero f at m h = refl
entries_front (suc k) f at m h =
    ap (λ (e : SnpEntry). e ∷ entries_at k (at + 16) (take m f)) (entry_front f at m (omega arith))
    ∙ ap (λ (es : List SnpEntry). entry_at at f ∷ es) (entries_front k f (at + 16) m (omega arith))

-- the octets of the entries hold these
pub entries_cut : (f : List ℕ) (n : ℕ) → n ≡ entry_count f → entries_at (length (take (16 * n) f) / 16) 0 (take (16 * n) f) ≡ entries_in f
entries_cut f n h =
    let l : length (take (16 * n) f) / 16 ≡ n = omega (arith, length-take (16 * n) f) in
    ap (λ (k : ℕ). entries_at k 0 (take (16 * n) f)) l ∙ entries_front n f 0 (16 * n) (omega arith) ∙ ap (λ (k : ℕ). entries_at k 0 f) h

pub length_entries_in : (f : List ℕ) → length (entries_in f) ≤ 15
length_entries_in f = omega (arith, length_entries_at (entry_count f) f 0)

-- the first entry and the others
pub entries_first : (f : List ℕ) → 16 ≤ length f →
    entries_at (length f / 16) 0 f ≡ entry_at 0 (take 16 f) ∷ entries_at (length (drop 16 f) / 16) 0 (drop 16 f)
entries_first f h =
    let n = length (drop 16 f) / 16 in
    let k : length f / 16 ≡ suc n = omega (arith, length-drop 16 f) in
    let a : entry_at 0 f ≡ entry_at 0 (take 16 f) = sym (entry_front f 0 16 (omega arith)) in
    ap (λ (k : ℕ). entries_at k 0 f) k
    ∙ ap (λ (x : SnpEntry). x ∷ entries_at n 16 f) a
    ∙ ap (λ (es : List SnpEntry). entry_at 0 (take 16 f) ∷ es) (entries_shift n f (drop 16 f) 16 0 refl)

-- the k-th entry
get_from : (n k : ℕ) (f : List ℕ) (at : ℕ) → k < n → slice_get (entries_at n at f) k ≡ Some (entry_at (16 * k + at) f)
get_from zero k f at h = absurd (omega arith)
get_from (suc n) zero f at h = ap (λ (a : ℕ). Some (entry_at a f)) (let e : at ≡ 16 * 0 + at = omega arith in e)
get_from (suc n) (suc k) f at h =
    get_from n k f (at + 16) (omega arith)
    ∙ ap (λ (a : ℕ). Some (entry_at a f)) (let e : 16 * k + (at + 16) ≡ 16 * suc k + at = omega arith in e)

pub entries_get : (n k : ℕ) (f : List ℕ) → k < n → slice_get (entries_at n 0 f) k ≡ Some (entry_at 0 (part (16 * k) 16 f))
entries_get n k f h =
    get_from n k f 0 h
    ∙ ap (λ (a : ℕ). Some (entry_at a f)) (add-zero (16 * k))
    ∙ ap Some (entry_from f (drop (16 * k) f) (16 * k) refl ∙ sym (entry_front (drop (16 * k) f) 0 16 (omega arith)))

pub tail_lists : (t v rest : List ℕ) (code : ℕ) → Front t code v rest → field_lists code v rest ≡ true → (tail_right t ≡ true) × (v ≡ drop 2 t)
tail_lists [] v rest code f h = absurd (omega (arith, f.rest_length))
tail_lists (x ∷ []) v rest code f h = absurd (omega (arith, f.rest_length))
tail_lists (x ∷ n ∷ xs) v rest code f h =
    let a = and_on (eqb code 9) _ h in
    let b = and_on (eqb (length rest) 0) _ a.1 in
    let c = and_on (eqb (length v % 16) 0) _ b.1 in
    let d = and_on (leb 16 (length v)) (leb (length v) 240) c.1 in
    let r0 : length rest ≡ 0 = eqb-true (length rest) 0 b.0 in
    let n16 : length v % 16 ≡ 0 = eqb-true (length v % 16) 0 c.0 in
    let low : 16 ≤ length v = leb-true 16 (length v) d.0 in
    let high : length v ≤ 240 = leb-true (length v) 240 d.1 in
    let vn : length v ≡ n = f.value_length in
    let nx : n ≡ length xs = omega (arith, f.rest_length) in (
      five _ _ _ _ _ (eq-eqb x 9 (sym f.code_is ∙ eqb-true code 9 a.0)) (eq-eqb n (length xs) nx) (eq-eqb (n % 16) 0 (sym (ap (λ (k : ℕ). k % 16) vn) ∙ n16))
          (le-leb 16 n (omega arith)) (le-leb n 240 (omega arith)),
      f.value_is ∙ take_all n xs (omega arith),
    )
