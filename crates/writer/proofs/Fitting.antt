-- A closed summary can be said, and its octets are those of its parts.
use Rattle.std.specs.Prelude.{◌&&◌, nat_le}
use Rattle.std.proofs.Common.{◌≡◌, ℕ, ◌+◌, ◌^◌, ◌<◌, ◌≤◌, true, not, List, [], ◌∷◌, ◌++◌, map, length, sym, refl, ap, ◌∙◌, arith}
use Rattle.std.proofs.lemmas.Bool.{and_parts}
use Rattle.std.proofs.lemmas.Bool.Decides.{nat_tests}
use Rattle.std.proofs.lemmas.List.{length-map}
use Rattle.std.specs.List.{AllByRecursion}
use Rattle.octets.specs.Octets.{value, octets}
use Rattle.octets.specs.declared.ids.IdRange.{IdRange}
use Rattle.octets.specs.Ranges.{empty}
use Rattle.frame.specs.declared.message.Entry.{Entry}
use Rattle.frame.specs.declared.kind.Kind.TheVariants as Kind
use Rattle.frame.specs.Messages.{SnpEntry, header, tail_octets, encode}
use Rattle.frame.specs.Meaning.{entry_said}
use Rattle.frame.specs.Reading.{last_id}
use Rattle.frame.specs.Trip.{EntryFits, Rises, Fits}
use Rattle.frame.proofs.EntryLists.{length_entries}
use Rattle.writer.specs.declared.scope.Scope.{Scope}
use Rattle.writer.specs.declared.scope.Scope.TheVariants.{Csnp, Psnp}
use Rattle.writer.specs.Listing.{entry_right, rises, inside, in_scope}
use Rattle.writer.specs.Summaries.{said_in, tail_size, head_octets}

entry_fits : (e : Entry) → entry_right e ≡ true → EntryFits (entry_said e)
entry_fits e h =
    record { lifetime = grind (arith, nat_tests); id = grind (arith, nat_tests); number = grind (arith, nat_tests) }

-- the parts of a rising list
head_of :
    (low : ℕ) (e : Entry) (es : List Entry)
    → rises low (e ∷ es) ≡ true
    → (low ≤ value e.id) × (entry_right e ≡ true) × (rises (value e.id + 1) es ≡ true)
head_of low e es h = (grind (arith, nat_tests), grind (arith, nat_tests), grind (arith, nat_tests))

entries_fit : (low : ℕ) (es : List Entry) → rises low es ≡ true → AllByRecursion EntryFits (map entry_said es)
entries_fit low [] h = tt
entries_fit low (e ∷ es) h = let p = head_of low e es h in (entry_fits e p.1, entries_fit (value e.id + 1) es p.2)

-- whatever lies inside, in order
inside_of :
    (r : IdRange) (e : Entry) (es : List Entry)
    → inside r (e ∷ es) ≡ true
    → (value r.start ≤ value e.id) × (value e.id ≤ value r.end) × (inside r es ≡ true)
inside_of r e es h = (grind (arith, nat_tests), grind (arith, nat_tests), grind (arith, nat_tests))

onward-rises : (low : ℕ) (r : IdRange) (es : List Entry) → rises low es ≡ true → inside r es ≡ true → Rises low (value r.end) (map entry_said es)
onward-rises low r [] h i = tt
onward-rises low r (e ∷ es) h i =
    let p = head_of low e es h in
    let q = inside_of r e es i in
    (p.0, q.1, onward-rises (value e.id + 1) r es p.2 q.2)

range_rises : (r : IdRange) (es : List Entry) → rises 0 es ≡ true → inside r es ≡ true → Rises (value r.start) (value r.end) (map entry_said es)
range_rises r [] h i = tt
range_rises r (e ∷ es) h i =
    let p = head_of 0 e es h in
    let q = inside_of r e es i in
    (q.0, q.1, onward-rises (value e.id + 1) r es p.2 q.2)

whole_rises : (low : ℕ) (es : List Entry) → rises low es ≡ true → Rises low last_id (map entry_said es)
whole_rises low [] h = tt
whole_rises low (e ∷ es) h =
    let p = head_of low e es h in
    let i : value e.id < 256 ^ 8 = (entry_fits e p.1).id in
    (p.0, omega arith, whole_rises (value e.id + 1) es p.2)

pub summary_fits :
    (s : Scope) (source : ℕ) (es : List Entry)
    → source < 256 ^ 7
    → length es ≤ 15
    → rises 0 es ≡ true
    → in_scope s es ≡ true
    → Fits (said_in s source (map entry_said es))
summary_fits (Csnp r) source es k few h c =
    let a = and_parts (not (empty r)) (nat_le (value r.end) last_id && inside r es) c in
    let b = and_parts (nat_le (value r.end) last_id) (inside r es) a.1 in
    let l : value r.start ≤ value r.end = grind (arith, nat_tests, a.0) in
    let m : value r.end ≤ last_id = grind (arith, nat_tests, b.0) in
    record {
      source = k;
      start = omega arith;
      end = omega arith;
      range = l;
      entries = entries_fit 0 es h;
      few = omega (arith, length-map es entry_said);
      rising = range_rises r es h b.1;
    }
summary_fits Psnp source es k few h c =
    record {
      source = k;
      entries = entries_fit 0 es h;
      few = omega (arith, length-map es entry_said);
      rising = whole_rises 0 es h;
    }

length_tail_is : (es : List SnpEntry) → length (tail_octets es) ≡ tail_size (length es)
length_tail_is [] = refl
length_tail_is (e ∷ es) = grind (arith, nat_tests, length_entries (e ∷ es))

pub summary_octets : (s : Scope) (source : ℕ) (es : List Entry) →
    head_octets s source (tail_size (length es)) ++ tail_octets (map entry_said es) ≡ encode (said_in s source (map entry_said es))
summary_octets (Csnp r) source es =
    ap (λ (n : ℕ). (header Kind.Csnp n ++ octets 7 source ++ octets 8 (value r.start) ++ octets 8 (value r.end)) ++ tail_octets (map entry_said es))
    (sym (length_tail_is (map entry_said es) ∙ ap tail_size (length-map es entry_said)))
summary_octets Psnp source es =
    ap (λ (n : ℕ). (header Kind.Psnp n ++ octets 7 source) ++ tail_octets (map entry_said es))
    (sym (length_tail_is (map entry_said es) ∙ ap tail_size (length-map es entry_said)))

pub head_short : (s : Scope) (source behind : ℕ) → length (head_octets s source behind) ≤ 33
head_short (Csnp r) source behind = omega arith
head_short Psnp source behind = omega arith
