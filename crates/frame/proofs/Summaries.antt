-- A summary that is written reads back, one that is read is written again, and fits.
use Rattle.std.proofs.Common.{◌≡◌, ℕ, zero, suc, ◌+◌, ◌-◌, ◌*◌, ◌/◌, ◌≤◌, true, not, List, length, get_or, drop, sym, refl, ap, ◌∙◌, subst, arith, length-drop, ltb-false, le-ltb}
use borrow.Author.Tests.{not-false}
use Rattle.std.specs.List.{AllByRecursion}
use Rattle.fault.specs.declared.FrameFault.TheVariants.{Tail, Range}
use Rattle.fault.proofs.Laws.{fails_not, not_fails}
use Rattle.octets.specs.Octets.{Octets, octets, field}
use Rattle.octets.proofs.Numbers.{value-octets}
use Rattle.frame.specs.declared.kind.Kind.TheVariants.{Csnp, Psnp}
use Rattle.frame.specs.Messages.{SnpEntry, CsnpPdu, PsnpPdu, csnp, psnp, tail_octets, encode}
use Rattle.frame.specs.Reading.{last_id, tail_right, entries_at, entries_of, entries_faults, csnp_faults, psnp_faults, csnp_in, psnp_in}
use Rattle.frame.specs.Trip.{EntryFits, CsnpFits, PsnpFits}
use Rattle.frame.proofs.Heads.{NoFaults, Heads, run, begins, octets-field, field_under, not_so}
use Rattle.frame.proofs.EntryLists.{length_tail, tail_fits, tail_read, entries_none, entries_rise, entries_fit, tail_back, tail_counts, length_entries_at}

pub made_psnp : (s s' : ℕ) (es es' : List SnpEntry) → s ≡ s' → es ≡ es' →
    ◌≡◌ {A = PsnpPdu} (record { source = s; entries = es }) (record { source = s'; entries = es' })
made_psnp s s' es es' p q = rw (p, q) refl

pub made_csnp : (s s' a a' b b' : ℕ) (es es' : List SnpEntry) → s ≡ s' → a ≡ a' → b ≡ b' → es ≡ es' →
    ◌≡◌ {A = CsnpPdu} (record { source = s; start = a; end = b; entries = es }) (record { source = s'; start = a'; end = b'; entries = es' })
made_csnp s s' a a' b b' es es' p q r t = rw (p, q, r, t) refl

same_faults : (at x x' y y' : ℕ) (es es' : List SnpEntry) → x ≡ x' → y ≡ y' → es ≡ es' → entries_faults at x y es ≡ entries_faults at x' y' es'
same_faults at x x' y y' es es' p q r = rw (p, q, r) refl

-- over a frame that stays a variable
module _ (f : List ℕ) (m : PsnpPdu) (h : PsnpFits m) (s : field 10 7 f ≡ m.source) (t : drop 17 f ≡ tail_octets m.entries) where
  psnp_listed : entries_of 17 f ≡ m.entries
  psnp_listed = tail_read m.entries f 17 h.entries t

  pub psnp_says : psnp_in f ≡ m
  psnp_says = made_psnp _ _ _ _ s psnp_listed

  pub psnp_none : NoFaults (psnp_faults f)
  psnp_none = (
    not_fails _ (Tail 17) (not_so _ (ap tail_right t ∙ tail_fits m.entries h.few)),
    subst (λ (es : List SnpEntry). NoFaults (entries_faults 19 0 last_id es)) (sym psnp_listed)
        (entries_none m.entries 19 0 last_id h.entries h.rising),
  )

pub psnp_heads : (m : PsnpPdu) → length m.entries ≤ 15 → Heads (encode (psnp m)) Psnp
psnp_heads m few =
    let n : length (tail_octets m.entries) ≤ 242 = length_tail m.entries few in
    record {
      long = omega arith;
      most = omega arith;
      o0 = refl;
      o1 = refl;
      o2 = refl;
      o3 = refl;
      o4 = refl;
      o5 = refl;
      o6 = refl;
      o7 = refl;
      total = value-octets 2 (17 + length (tail_octets m.entries)) (omega arith) ∙ omega arith;
    }

module _ (f : List ℕ) (m : CsnpPdu) (h : CsnpFits m) (s : field 10 7 f ≡ m.source)
    (a : field 17 8 f ≡ m.start) (b : field 25 8 f ≡ m.end) (t : drop 33 f ≡ tail_octets m.entries) where
  csnp_listed : entries_of 33 f ≡ m.entries
  csnp_listed = tail_read m.entries f 33 h.entries t

  pub csnp_says : csnp_in f ≡ m
  csnp_says = made_csnp _ _ _ _ _ _ _ _ s a b csnp_listed

  pub csnp_none : NoFaults (csnp_faults f)
  csnp_none = (
    not_fails _ (Tail 33) (not_so _ (ap tail_right t ∙ tail_fits m.entries h.few)),
    (
      not_fails _ Range (le-ltb (field 25 8 f) (field 17 8 f) (omega (arith, a, b, h.range))),
      subst NoFaults (sym (same_faults 35 _ _ _ _ _ _ a b csnp_listed))
          (entries_none m.entries 35 m.start m.end h.entries h.rising),
    ),
  )

pub csnp_heads : (m : CsnpPdu) → length m.entries ≤ 15 → Heads (encode (csnp m)) Csnp
csnp_heads m few =
    let n : length (tail_octets m.entries) ≤ 242 = length_tail m.entries few in
    record {
      long = omega arith;
      most = omega arith;
      o0 = refl;
      o1 = refl;
      o2 = refl;
      o3 = refl;
      o4 = refl;
      o5 = refl;
      o6 = refl;
      o7 = refl;
      total = value-octets 2 (33 + length (tail_octets m.entries)) (omega arith) ∙ omega arith;
    }

-- a summary's entries, read from a frame with a right tail
module _ (f : List ℕ) (size : ℕ) (h : Octets f) (b : size ≤ length f) (r : tail_right (drop size f) ≡ true) where
  pub few_entries : length (entries_of size f) ≤ 15
  few_entries =
      omega (arith, length_entries_at (get_or f (size + 1) 0 / 16) f (size + 2), (tail_counts (drop size f) f size refl r b).0)

  pub fit_entries : (place low high : ℕ) → NoFaults (entries_faults place low high (entries_of size f)) → AllByRecursion EntryFits (entries_of size f)
  fit_entries place low high z = go (get_or f (size + 1) 0 / 16) (tail_counts (drop size f) f size refl r b).1 z
    where
      go : (k : ℕ) → (1 ≤ k → size + 2 + 16 * k ≡ length f) → NoFaults (entries_faults place low high (entries_at k (size + 2) f)) →
          AllByRecursion EntryFits (entries_at k (size + 2) f)
      go zero e z = tt
      go (suc k) e z = entries_fit (suc k) f (size + 2) place low high h (omega (arith, e (omega arith))) z

module _ (f : List ℕ) (h : Octets f) (l : Heads f Psnp) (z : NoFaults (psnp_faults f)) where
  psnp_tail : tail_right (drop 17 f) ≡ true
  psnp_tail = not-false (tail_right (drop 17 f)) (fails_not (not (tail_right (drop 17 f))) (Tail 17) z.0)

  pub psnp_back : encode (psnp (psnp_in f)) ≡ f
  psnp_back =
      let b : drop 17 f ≡ tail_octets (entries_of 17 f) = tail_back (drop 17 f) f 17 h refl psnp_tail in
      let e : length (drop 17 f) ≡ length f - 17 = length-drop 17 f in
      let c : length (drop 17 f) ≡ length (tail_octets (entries_of 17 f)) = ap (length {A = ℕ}) b in
      sym
      (begins f Psnp (length (tail_octets (entries_of 17 f))) _ h l (omega (arith, c, e, l.long))
      (run f 10 7 (octets 7 (field 10 7 f)) _ (octets-field f 10 7 h l.long) b))

  pub psnp_fitting : PsnpFits (psnp_in f)
  psnp_fitting =
      record {
        source = field_under f 10 7 h l.long;
        entries = fit_entries f 17 h l.long psnp_tail 19 0 last_id z.1;
        few = few_entries f 17 h l.long psnp_tail;
        rising = entries_rise (entries_of 17 f) 19 0 last_id z.1;
      }

module _ (f : List ℕ) (h : Octets f) (l : Heads f Csnp) (z : NoFaults (csnp_faults f)) where
  csnp_tail : tail_right (drop 33 f) ≡ true
  csnp_tail = not-false (tail_right (drop 33 f)) (fails_not (not (tail_right (drop 33 f))) (Tail 33) z.0)

  pub csnp_back : encode (csnp (csnp_in f)) ≡ f
  csnp_back =
      let b : drop 33 f ≡ tail_octets (entries_of 33 f) = tail_back (drop 33 f) f 33 h refl csnp_tail in
      let e : length (drop 33 f) ≡ length f - 33 = length-drop 33 f in
      let c : length (drop 33 f) ≡ length (tail_octets (entries_of 33 f)) = ap (length {A = ℕ}) b in
      sym
      (begins f Csnp (length (tail_octets (entries_of 33 f))) _ h l (omega (arith, c, e, l.long))
      (run f 10 7 (octets 7 (field 10 7 f)) _ (octets-field f 10 7 h (omega (arith, l.long)))
      (run f 17 8 (octets 8 (field 17 8 f)) _ (octets-field f 17 8 h (omega (arith, l.long)))
      (run f 25 8 (octets 8 (field 25 8 f)) _ (octets-field f 25 8 h l.long) b))))

  pub csnp_fitting : CsnpFits (csnp_in f)
  csnp_fitting =
      record {
        source = field_under f 10 7 h (omega (arith, l.long));
        start = field_under f 17 8 h (omega (arith, l.long));
        end = field_under f 25 8 h l.long;
        range = ltb-false (field 25 8 f) (field 17 8 f) (fails_not _ Range z.1.0);
        entries = fit_entries f 33 h l.long csnp_tail 35 (field 17 8 f) (field 25 8 f) z.1.1;
        few = few_entries f 33 h l.long csnp_tail;
        rising = entries_rise (entries_of 33 f) 35 (field 17 8 f) (field 25 8 f) z.1.1;
      }
