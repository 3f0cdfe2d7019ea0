-- An LSP that is written reads back, one that is read is written again, and fits.
use Rattle.std.proofs.Common.{◌≡◌, ℕ, zero, suc, ◌+◌, ◌-◌, ◌^◌, ◌<◌, ◌≤◌, Bool, true, false, not, ◌&&◌, eqb, ltb, leb, List, length, get_or, drop, sym, refl, ap, ◌∙◌, arith, length-drop, ltb-false, le-ltb, ne_eqb, le-leb}
use borrow.Author.Tests.{eqb-false}
use Rattle.fault.specs.declared.FrameFault.TheVariants.{Body, Lifetime, Number, Check}
use Rattle.fault.proofs.Laws.{fails_not, not_fails}
use Rattle.octets.specs.Octets.{Octets, octets, field}
use Rattle.octets.specs.Checks.{right}
use Rattle.octets.specs.Fields.{broken_field}
use Rattle.octets.specs.declared.checks.CheckOctets.{CheckOctets}
use Rattle.octets.proofs.Numbers.{value-octets}
use Rattle.octets.proofs.FieldLaws.{whole_none, none_whole}
use Rattle.frame.specs.declared.kind.Kind.TheVariants.{Lsp}
use Rattle.frame.specs.Messages.{LspPdu, lsp, covered_part, encode}
use Rattle.frame.specs.Reading.{lsp_faults, lsp_in, check_wrong, check_at}
use Rattle.frame.specs.Trip.{LspFits}
use Rattle.frame.proofs.Heads.{NoFaults, Heads, cell, run, begins, octets-field, field_under}

-- where the parts of an LSP stand in a frame
pub record Lays (f : List ℕ) (m : LspPdu) : Type 0 where
  pub heads : Heads f Lsp
  pub body : drop 27 f ≡ m.body
  pub lifetime : field 10 2 f ≡ m.lifetime
  pub id : field 12 8 f ≡ m.id
  pub number : field 20 4 f ≡ m.number
  pub check : check_at 24 f ≡ m.check
  pub flags : get_or f 26 0 ≡ m.flags
  pub sums : drop 12 f ≡ covered_part m

-- the last test: lifetime n, and the sums b where it is live
live : (n : ℕ) (b : Bool) → (1 ≤ n → b ≡ true) → leb 1 n && not b ≡ false
live zero b h = refl
live (suc n) b h = rw (h (omega arith), le-leb 1 (suc n) (omega arith)) refl

live_on : (n : ℕ) (b : Bool) → leb 1 n && not b ≡ false → 1 ≤ n → b ≡ true
live_on n true h p = refl
live_on n false h p = let q : leb 1 n ≡ true = le-leb 1 n p in sym h ∙ ap (λ (c : Bool). c && true) q

pub made_lsp : (l l' i i' n n' : ℕ) (c c' : CheckOctets) (g g' : ℕ) (b b' : List ℕ) →
    l ≡ l' → i ≡ i' → n ≡ n' → c ≡ c' → g ≡ g' → b ≡ b' →
    ◌≡◌ {A = LspPdu} (record { lifetime = l; id = i; number = n; check = c; flags = g; body = b })
    (record { lifetime = l'; id = i'; number = n'; check = c'; flags = g'; body = b' })
made_lsp l l' i i' n n' c c' g g' b b' p q r s t u = rw (p, q, r, s, t, u) refl

module _ (f : List ℕ) (m : LspPdu) (l : Lays f m) where
  pub lsp_says : lsp_in f ≡ m
  lsp_says = made_lsp _ _ _ _ _ _ _ _ _ _ _ _ l.lifetime l.id l.number l.check l.flags l.body

  pub lsp_none : LspFits m → NoFaults (lsp_faults f)
  lsp_none h =
      let n : length (drop 27 f) ≡ length m.body = ap (length {A = ℕ}) l.body in (
        not_fails (ltb 100 (length (drop 27 f))) (Body 27) (le-ltb 100 (length (drop 27 f)) (omega (arith, n, h.body))),
        (
          ap (broken_field 27) l.body ∙ whole_none 27 h.fields,
          (
            not_fails _ (Lifetime 10) (le-ltb 1200 (field 10 2 f) (omega (arith, l.lifetime, h.lifetime))),
            (
              not_fails _ Number (ne_eqb (field 20 4 f) 0 (λ e. omega (arith, l.number, h.issued, e))),
              (not_fails (check_wrong f) Check (live _ _ (λ p. ap (right 13) l.sums ∙ h.sums (omega (arith, l.lifetime, p)))), tt),
            ),
          ),
        ),
      )

-- a frame that encode makes: every offset computes, since `octets` at a numeral is a row of cells
pub lays : (m : LspPdu) → m.lifetime < 65536 → m.id < 256 ^ 8 → m.number < 256 ^ 4 → length m.body ≤ 248 → Lays (encode (lsp m)) m
lays m ht hi hn hb =
    record {
      heads = record {
        long = omega arith;
        most = omega arith;
        o0 = refl;
        o1 = refl;
        o2 = refl;
        o3 = refl;
        o4 = refl;
        o5 = refl;
        o6 = refl;
        o7 = refl;
        total = value-octets 2 (27 + length m.body) (omega arith) ∙ omega arith;
      };
      body = refl;
      lifetime = value-octets 2 m.lifetime (omega arith);
      id = value-octets 8 m.id hi;
      number = value-octets 4 m.number hn;
      check = refl;
      flags = refl;
      sums = refl;
    }

module _ (f : List ℕ) (h : Octets f) (l : Heads f Lsp) where
  pub lsp_back : encode (lsp (lsp_in f)) ≡ f
  lsp_back =
      let e : length (drop 27 f) ≡ length f - 27 = length-drop 27 f in
      sym
      (begins f Lsp (length (drop 27 f)) _ h l (omega (arith, e, l.long))
      (run f 10 2 (octets 2 (field 10 2 f)) _ (octets-field f 10 2 h (omega (arith, l.long)))
      (run f 12 8 (octets 8 (field 12 8 f)) _ (octets-field f 12 8 h (omega (arith, l.long)))
      (run f 20 4 (octets 4 (field 20 4 f)) _ (octets-field f 20 4 h (omega (arith, l.long)))
      (cell f 24 (get_or f 24 0) _ (omega (arith, l.long)) refl
      (cell f 25 (get_or f 25 0) _ (omega (arith, l.long)) refl
      (cell f 26 (get_or f 26 0) _ (omega (arith, l.long)) refl refl)))))))

  pub lsp_fitting : NoFaults (lsp_faults f) → LspFits (lsp_in f)
  lsp_fitting p =
      let n : length (drop 27 f) ≤ 100 = ltb-false 100 (length (drop 27 f)) (fails_not (ltb 100 (length (drop 27 f))) (Body 27) p.0) in
      let t : field 10 2 f ≤ 1200 = ltb-false 1200 (field 10 2 f) (fails_not (ltb 1200 (field 10 2 f)) (Lifetime 10) p.1.1.0) in
      let z : field 20 4 f ≡ 0 → ⊥ = eqb-false (field 20 4 f) 0 (fails_not (eqb (field 20 4 f) 0) Number p.1.1.1.0) in
      let c : covered_part (lsp_in f) ≡ drop 12 f = ap (drop 12) lsp_back in
      let s : check_wrong f ≡ false = fails_not (check_wrong f) Check p.1.1.1.1.0 in
      record {
        lifetime = t;
        id = field_under f 12 8 h (omega (arith, l.long));
        number = field_under f 20 4 h (omega (arith, l.long));
        issued = omega (arith, z);
        body = n;
        fields = none_whole 27 (drop 27 f) p.1.0;
        sums = λ v. ap (right 13) c ∙ live_on (field 10 2 f) (right 13 (drop 12 f)) s v;
      }
