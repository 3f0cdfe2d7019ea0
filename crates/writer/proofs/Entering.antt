-- Entries that are taken one after another.
use Rattle.std.proofs.Common.{Some, Option, MatchOption, Bool, Bor, ◌≡◌, ℕ, suc, ◌+◌, ◌-◌, ◌*◌, ◌^◌, ◌<◌, ◌≤◌, true, false, not, ◌&&◌, ltb, leb, List, [], ◌∷◌, ◌++◌, map, length, get_or, take, drop, set, None, sym, refl, ap, ◌∙◌, arith, ltb-false, le-ltb, le-leb, leb-false}
use Rattle.std.specs.List.{slice_get}
use Rattle.std.specs.Option.{option_map, option_copied}
use Rattle.std.proofs.lemmas.Bool.Decides.{nat_tests}
use Rattle.std.proofs.lemmas.Option.{none-some, same_Some}
use Rattle.std.proofs.lemmas.List.{length-take-le, take_more_set, drop_more, drop_all, take_more, map-append, length-map}
use Rattle.fault.specs.declared.FrameFault.TheVariants.{Summary}
use Rattle.fault.proofs.Laws.{fails_not}
use Rattle.octets.specs.Octets.{value}
use Rattle.octets.specs.declared.ids.IdRange.{IdRange}
use Rattle.octets.specs.Ranges.{in_range}
use Rattle.frame.specs.declared.message.Entry.{Entry}
use Rattle.frame.specs.Messages.{SnpEntry, entry_octets, entries_octets, tail_octets}
use Rattle.frame.specs.Meaning.{entry_said}
use Rattle.frame.specs.Reading.{last_id}
use Rattle.frame.proofs.Heads.{or_off}
use Rattle.writer.specs.Listing.{entry_right, rises, next_low, inside, entry_fault}

-- what an element past the end is taken as
abbrev pub blank : Entry
blank = record { lifetime = 0; id = []; number = 0; check = record { x = 0; y = 0 } }

-- one over an identifier
abbrev above : Entry → ℕ
above e = value e.id + 1

last_low : (low : ℕ) (x : Entry) (xs : List Entry) → option_map above (slice_get (x ∷ xs) (length xs)) ≡ Some (next_low low (x ∷ xs))
last_low low x [] = refl
last_low low x (y ∷ ys) = last_low (value x.id + 1) y ys

-- an identifier against the last one listed, where there is one
pub not_over :
    (es : List Entry) (i : List ℕ) (o : Option (Bor Entry)) (b : Bool)
    → option_copied o ≡ slice_get es (length es - 1)
    → MatchOption o (b ≡ false) (λ x. b ≡ not (ltb (value x.now.id) (value i)))
    → b ≡ ltb (value i) (next_low 0 es)
not_over [] i None b h k = k ∙ sym (le-ltb (value i) 0 (omega arith))
not_over [] i (Some y) b h k = absurd (none-some _ (sym h))
not_over (x ∷ xs) i o b h k = by o (ap (option_map above) h ∙ ap (λ n. option_map above (slice_get (x ∷ xs) n)) n ∙ last_low 0 x xs) k
  where
    n : length (x ∷ xs) - 1 ≡ length xs
    n = omega arith

    over_or_not : (u v : ℕ) → ltb u (v + 1) ≡ not (ltb v u)
    over_or_not u v = grind (arith, nat_tests)

    by :
        (o : Option (Bor Entry))
        → option_map above (option_copied o) ≡ Some (next_low 0 (x ∷ xs))
        → MatchOption o (b ≡ false) (λ y. b ≡ not (ltb (value y.now.id) (value i)))
        → b ≡ ltb (value i) (next_low 0 (x ∷ xs))
    by None e k = absurd (none-some _ e)
    by (Some y) e k =
        let l : value y.now.id + 1 ≡ next_low 0 (x ∷ xs) = same_Some _ _ e in
        k ∙ sym (over_or_not (value i) (value y.now.id)) ∙ ap (ltb (value i)) l

pub none_over : (es : List Entry) (i : List ℕ) → length es ≡ 0 → ltb (value i) (next_low 0 es) ≡ false
none_over [] i h = le-ltb (value i) 0 (omega arith)
none_over (x ∷ es) i h = absurd (omega arith)

-- one entry more at the end
pub rises_push :
    (low : ℕ) (es : List Entry) (e : Entry)
    → rises low es ≡ true
    → next_low low es ≤ value e.id
    → entry_right e ≡ true
    → rises low (es ++ e ∷ []) ≡ true
rises_push low [] e h n r = grind (arith, nat_tests)
rises_push low (x ∷ es) e h n r = grind (arith, nat_tests, rises_push (value x.id + 1) es e)

pub entry_is_right : (e : Entry) → e.lifetime ≤ 1200 → value e.id < 256 ^ 8 → e.number < 256 ^ 4 → entry_right e ≡ true
entry_is_right e l i n =
    rw (le-leb e.lifetime 1200 l, le-leb (value e.id) last_id (omega arith), le-leb e.number 4294967295 (omega arith)) refl

-- an entry that is not refused
pub record Passes (es : List Entry) (e : Entry) : Type 0 where
  pub room : length es < 15
  pub lifetime : e.lifetime ≤ 1200
  pub over : next_low 0 es ≤ value e.id

pub passes : (es : List Entry) (e : Entry) → entry_fault es e ≡ None → Passes es e
passes es e h =
    let a = or_off (leb 15 (length es)) _ (fails_not _ Summary h) in
    let b = or_off (ltb 1200 e.lifetime) (ltb (value e.id) (next_low 0 es)) a.1 in
    record {
      room = leb-false 15 (length es) a.0;
      lifetime = ltb-false 1200 e.lifetime b.0;
      over = ltb-false (value e.id) (next_low 0 es) b.1;
    }

-- it is right, and over the last
pub taken_right :
    (es : List Entry) (e : Entry)
    → entry_fault es e ≡ None
    → value e.id < 256 ^ 8
    → e.number < 256 ^ 4
    → (entry_right e ≡ true) × (next_low 0 es ≤ value e.id)
taken_right es e h i n = let p = passes es e h in (entry_is_right e p.lifetime i n, p.over)

-- the first entries of a table, after one more
module _ (xs : List Entry) (n : ℕ) (e : Entry) (few : n ≤ length xs) (h : entry_fault (take n xs) e ≡ None) where
  took : Passes (take n xs) e
  took = passes (take n xs) e h

  pub took_room : n < 15
  took_room = let p : length (take n xs) ≡ n = length-take-le n xs few in omega (arith, took.room)

  pub took_right :
      (ys : List Entry)
      → ys ≡ set xs n e
      → n < length xs
      → rises 0 (take n xs) ≡ true
      → value e.id < 256 ^ 8
      → e.number < 256 ^ 4
      → rises 0 (take (n + 1) ys) ≡ true
  took_right ys w l r i m =
      ap (λ (zs : List Entry). rises 0 (take (n + 1) zs)) w
      ∙ ap (rises 0) (take_more_set xs n e l)
      ∙ rises_push 0 (take n xs) e r took.over (entry_is_right e took.lifetime i m)

-- the identifiers from an index on, one after another
module _ (xs : List Entry) (i : ℕ) (r : IdRange) (h : i < length xs) where
  pub one_inside : inside r (drop i xs) ≡ (in_range r (value (get_or xs i blank).id) && inside r (drop (i + 1) xs))
  one_inside = ap (inside r) (drop_more xs i blank h)

  pub one_out : in_range r (value (get_or xs i blank).id) ≡ false → inside r (drop i xs) ≡ false
  one_out e = one_inside ∙ rw e refl

  pub one_in : in_range r (value (get_or xs i blank).id) ≡ true → inside r (drop i xs) ≡ inside r (drop (i + 1) xs)
  one_in e = one_inside ∙ rw e refl

pub all_in : (xs : List Entry) (i : ℕ) (r : IdRange) → length xs ≤ i → inside r (drop i xs) ≡ true
all_in xs i r h = ap (inside r) (drop_all i xs h)

-- the octets of entries, one after another
entries_push : (es : List SnpEntry) (e : SnpEntry) → entries_octets (es ++ e ∷ []) ≡ entries_octets es ++ entry_octets e
entries_push [] e = refl
entries_push (x ∷ es) e = ap (λ (w : List ℕ). entry_octets x ++ w) (entries_push es e)

pub entries_more : (xs : List Entry) (i : ℕ) → i < length xs →
    entries_octets (map entry_said (take i xs)) ++ entry_octets (entry_said (get_or xs i blank)) ≡ entries_octets (map entry_said (take (i + 1) xs))
entries_more xs i h =
    sym
    (ap (λ (es : List Entry). entries_octets (map entry_said es)) (take_more xs i blank h)
    ∙ ap entries_octets (map-append entry_said (take i xs) (get_or xs i blank ∷ []))
    ∙ entries_push (map entry_said (take i xs)) (entry_said (get_or xs i blank)))

-- a tail of entries by their octets
pub tail_is : (xs : List Entry) → 1 ≤ length xs → 9 ∷ 16 * length xs ∷ entries_octets (map entry_said xs) ≡ tail_octets (map entry_said xs)
tail_is [] h = absurd (omega arith)
tail_is (x ∷ xs) h = ap (λ (n : ℕ). 9 ∷ 16 * suc n ∷ entries_octets (map entry_said (x ∷ xs))) (sym (length-map xs entry_said))

pub no_tail_is : (xs : List Entry) → length xs ≡ 0 → [] ≡ tail_octets (map entry_said xs)
no_tail_is [] h = refl
no_tail_is (x ∷ xs) h = absurd (omega arith)
