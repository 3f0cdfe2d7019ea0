-- Every record has one of the three forms.
use Rattle.std.proofs.Common.{◌≡◌, ℕ, ◌≤◌, Bool, true, false, cond, not, eqb, leb, List, length, length-take, is_some, Some, None, Option, sym, refl, ap, ◌∙◌, subst, inl, inr, arith, lit<}
use Rattle.std.proofs.lemmas.Bool.{cases_lt, and_parts, and_from, or_cases, or_left, or_right, leb-true, le-leb, eqb-true, eq-eqb, cond-true, true≢false}
use Rattle.std.proofs.lemmas.List.{nil_from_length}
use Rattle.fault.specs.declared.FrameFault.{FrameFault}
use Rattle.octets.specs.declared.checks.CheckOctets.{CheckOctets}
use Rattle.octets.specs.Checks.{right}
use Rattle.octets.specs.Fields.{Whole, broken_field, body_fault}
use Rattle.octets.proofs.FieldLaws.{none_whole, whole_none, body_long}
use Rattle.octets.proofs.CheckLaws.{same_check}
use Rattle.frame.specs.Messages.{LspPdu, covered_part}
use Rattle.frame.specs.Trip.{LspFits}
use Rattle.record.specs.declared.body.Body.{Body}
use Rattle.record.specs.declared.form.Form.TheVariants.{Live, Purge, Placeholder}
use Rattle.record.specs.declared.port.Ports.{Ports}
use Rattle.record.specs.declared.record.Record.{Record}
use Rattle.record.specs.declared.state.State.{State}
use Rattle.record.specs.declared.state.State.TheVariants.{Live as live, Purge as purge, Placeholder as placeholder}
use Rattle.record.specs.Fields.{whole_fields}
use Rattle.record.specs.States.{number_in, lifetime_in, check_in, flags_in, body_in, wait_in, no_check, live_form, waits, formed, may_be_sent, quiet}
use Rattle.record.specs.Bodies.{body_octets, lsp_by, pdu}
use Rattle.record.specs.Bits.{bit}
use Rattle.record.specs.Ports.{has_port}
use Rattle.record.specs.Forms.{number_of, lifetime_of, check_of, body_of, wait_of, record_said, Bare, form_in, form_by, HasForm, WellFormed}
use Rattle.record.proofs.Masks.{bit_zero, bits_same}

none_left : {F : Type 0} (o : Option F) → not (is_some o) ≡ true → o ≡ None
none_left None h = refl
none_left (Some x) h = absurd (true≢false (sym h))

pub fields_whole : (b : List ℕ) → whole_fields b ≡ true → Whole b
unfolding whole_fields
fields_whole b h = none_whole 0 b (none_left (broken_field 0 b) h)

pub whole_test : (b : List ℕ) → Whole b → whole_fields b ≡ true
unfolding whole_fields
whole_test b h = ap (λ (o : Option FrameFault). not (is_some o)) (whole_none 0 h)

pub fault_short : (at : ℕ) (b : List ℕ) → body_fault at b ≡ None → length b ≤ 100
fault_short at b h =
    elim (cases_lt 100 (length b)) [
      | inl l ↦ (let e = body_long at b l in let z : ◌≡◌ {A = ℕ} 0 1 = cc in absurd (omega arith))
      | inr l ↦ l
    ]

-- a set that has no port is quiet in any state
none_has : (a : Ports) → ((k : ℕ) → has_port a k ≡ false) → eqb a.bits 0 ≡ true
none_has a f = eq-eqb a.bits 0 (bits_same a.bits 0 a.few (lit< tt) (λ k l. f k ∙ sym (bit_zero k)))

pub quiet_none : (s : State) (a : Ports) → ((k : ℕ) → has_port a k ≡ false) → quiet s a ≡ true
quiet_none s a f = or_right (may_be_sent s) (eqb a.bits 0) (none_has a f)

-- and so is a set that has no port which a quiet one has not
pub quiet_fewer : (s : State) (a r : Ports) → ((k : ℕ) → has_port a k ≡ false → has_port r k ≡ false) → quiet s a ≡ true → quiet s r ≡ true
quiet_fewer s a r f q =
    elim (or_cases (may_be_sent s) (eqb a.bits 0) q) [
      | inl l ↦ or_left (may_be_sent s) (eqb r.bits 0) l
      | inr z ↦
          or_right (may_be_sent s) (eqb r.bits 0)
          (none_has r (λ k. f k (ap (λ (b : ℕ). bit b k) (eqb-true a.bits 0 z) ∙ bit_zero k)))
    ]

pub octets_short : (b : Body) → length (body_octets b) ≤ 100
octets_short b = omega (arith, length-take b.len b.octets, b.few)

-- the parts of the live form
pub record Lives (m : LspPdu) : Type 0 where
  pub number : 1 ≤ m.number
  pub lifetime : 1 ≤ m.lifetime
  pub short : m.lifetime ≤ 1200
  pub sums : right 13 (covered_part m) ≡ true

lives : (m : LspPdu) → live_form m ≡ true → Lives m
unfolding live_form
lives m h =
    let a = and_parts _ _ h in
    let b = and_parts _ _ a.1 in
    let c = and_parts _ _ b.1 in
    record { number = leb-true 1 _ a.0; lifetime = leb-true 1 _ b.0; short = leb-true _ 1200 c.0; sums = c.1 }

pub lived : (m : LspPdu) → Lives m → live_form m ≡ true
unfolding live_form
lived m h =
    and_from _ _ (le-leb 1 m.number h.number)
    (and_from _ _ (le-leb 1 m.lifetime h.lifetime) (and_from _ _ (le-leb m.lifetime 1200 h.short) h.sums))

-- and of the two with nothing left
pub record Bares (m : LspPdu) (w : ℕ) : Type 0 where
  pub lifetime : m.lifetime ≡ 0
  pub x : m.check.x ≡ 0
  pub y : m.check.y ≡ 0
  pub body : length m.body ≡ 0
  pub wait : (1 ≤ w) × (w ≤ 60)

waiting : (w : ℕ) → waits w ≡ true → (1 ≤ w) × (w ≤ 60)
unfolding waits
waiting w h = let a = and_parts _ _ h in (leb-true 1 w a.0, leb-true w 60 a.1)

pub waits_sixty : waits 60 ≡ true
unfolding waits
waits_sixty = refl

waited : (w : ℕ) → (1 ≤ w) × (w ≤ 60) → waits w ≡ true
unfolding waits
waited w h = and_from _ _ (le-leb 1 w h.0) (le-leb w 60 h.1)

-- what a state says as an LSP
abbrev pub said_in : List ℕ → State → LspPdu
said_in id s = pdu id (number_in s) (lifetime_in s) (check_in s) (flags_in s) (body_in s)

-- the forms of what is said
pub live_formed : (id : List ℕ) (s : State) → Lives (said_in id s) → formed id s ≡ true
live_formed id (live n l c f b) h = lived _ h
live_formed id (purge n f w) h = absurd (omega (arith, h.lifetime))
live_formed id (placeholder w) h = absurd (omega (arith, h.lifetime))

not_live : (b : Bool) → Live ≡ cond b Purge Placeholder → ⊥
not_live true e = cc
not_live false e = cc

numbered : (b : Bool) → Purge ≡ cond b Purge Placeholder → b ≡ true
numbered true e = refl
numbered false e = cc

pub bare-formed :
    (id : List ℕ) (s : State) → Bares (said_in id s) (wait_in s) → form_in s ≡ form_by (number_in s) (lifetime_in s) → formed id s ≡ true
bare-formed id (live n l c f b) h t = absurd (not_live (leb 1 n) (subst (λ (k : ℕ). Live ≡ form_by n k) h.lifetime t))
bare-formed id (purge n f w) h t = and_from _ _ (numbered (leb 1 n) t) (waited w h.wait)
bare-formed id (placeholder w) h t = waited w h.wait

-- which of the three
pub data Which (m : LspPdu) (w : ℕ) : Type 0 where
  alive : Lives m → w ≡ 0 → Which m w
  purged : 1 ≤ m.number → Bares m w → Which m w
  unheld : m.number ≡ 0 → m.flags ≡ 0 → Bares m w → Which m w

pub which : (id : List ℕ) (s : State) → formed id s ≡ true → Which (said_in id s) (wait_in s)
which id (live n l c f b) h = alive (lives _ h) refl
which id (purge n f w) h =
    let a = and_parts _ _ h in
    purged (leb-true 1 n a.0) (record { lifetime = refl; x = refl; y = refl; body = refl; wait = waiting w a.1 })
which id (placeholder w) h = unheld refl refl (record { lifetime = refl; x = refl; y = refl; body = refl; wait = waiting w h })

-- what was heard live makes a live record
pub heard-formed :
    (id kept : List ℕ) (n l : ℕ) (c : CheckOctets) (f : ℕ) (b : Body) (body : List ℕ) →
    kept ≡ id → body_octets b ≡ body → 1 ≤ n → 1 ≤ l → l ≤ 1200 → right 13 (covered_part (lsp_by 0 id n c f body)) ≡ true →
    formed kept (live n l c f b) ≡ true
heard-formed id kept n l c f b body e d hn hl hs r =
    lived (pdu kept n l c f b)
    (record {
      number = hn;
      lifetime = hl;
      short = hs;
      sums =
          subst (λ (i : List ℕ). right 13 (covered_part (lsp_by 0 i n c f (body_octets b))) ≡ true) (sym e)
          (subst (λ (o : List ℕ). right 13 (covered_part (lsp_by 0 id n c f o)) ≡ true) (sym d) r);
    })

-- what holds of every state
pub live_lasts : (id : List ℕ) (s : State) → formed id s ≡ true → form_in s ≡ Live → 1 ≤ lifetime_in s
live_lasts id (live n l c f b) h e = (lives _ h).lifetime
live_lasts id (purge n f w) h e = cc
live_lasts id (placeholder w) h e = cc

told_by : (id : List ℕ) (s : State) → formed id s ≡ true → form_in s ≡ form_by (number_in s) (lifetime_in s)
told_by id (live n l c f b) h = sym (cond-true (leb 1 l) Live _ (le-leb 1 l (lives _ h).lifetime))
told_by id (purge n f w) h = sym (cond-true (leb 1 n) Purge Placeholder (and_parts _ _ h).0)
told_by id (placeholder w) h = refl

sent_by : (id : List ℕ) (s : State) → formed id s ≡ true → may_be_sent s ≡ leb 1 (number_in s)
sent_by id (live n l c f b) h = sym (le-leb 1 n (lives _ h).number)
sent_by id (purge n f w) h = sym (and_parts _ _ h).0
sent_by id (placeholder w) h = refl

short_in : (id : List ℕ) (s : State) → formed id s ≡ true → lifetime_in s ≤ 1200
short_in id (live n l c f b) h = (lives _ h).short
short_in id (purge n f w) h = omega arith
short_in id (placeholder w) h = omega arith

sums_in :
    (id : List ℕ) (s : State) → formed id s ≡ true → 1 ≤ lifetime_in s →
    right 13 (covered_part (pdu id (number_in s) (lifetime_in s) (check_in s) (flags_in s) (body_in s))) ≡ true
sums_in id (live n l c f b) h p = (lives _ h).sums
sums_in id (purge n f w) h p = absurd (omega arith)
sums_in id (placeholder w) h p = absurd (omega arith)

-- what holds of every record
module _ (x : Record) where
  form_is : (s : State) → x.state ≡ s → formed x.id s ≡ true → quiet s x.srm ≡ true → HasForm (form_in s) x
  form_is (live n l c f b) e h q = let a = lives _ h in rw e (a.number, a.lifetime, a.short, refl, a.sums)
  form_is (purge n f w) e h q =
      let a = and_parts _ _ h in
      (rw e (leb-true 1 n a.0), record { lifetime = rw e refl; check = rw e refl; body = rw e refl; wait = rw e (waiting w a.1) })
  form_is (placeholder w) e h q =
      let z = eqb-true x.srm.bits 0 q in (
        rw e refl,
        rw e refl,
        record { lifetime = rw e refl; check = rw e refl; body = rw e refl; wait = rw e (waiting w h) },
        λ k. ap (λ (b : ℕ). bit b k) z ∙ bit_zero k,
      )

  pub bare_record : Bares (record_said x) (wait_of x) → Bare x
  bare_record h =
      record {
        lifetime = h.lifetime;
        check = same_check (check_of x) no_check h.x h.y;
        body = nil_from_length (body_octets (body_of x)) h.body;
        wait = h.wait;
      }

  pub sums_of_form : 1 ≤ lifetime_of x → right 13 (covered_part (record_said x)) ≡ true
  sums_of_form = sums_in x.id x.state x.form

  pub short_of_form : lifetime_of x ≤ 1200
  short_of_form = short_in x.id x.state x.form

  pub record_fits : 1 ≤ number_of x → LspFits (record_said x)
  record_fits n =
      record {
        lifetime = short_of_form;
        id = x.sized;
        number = x.numbered;
        issued = n;
        body = octets_short (body_in x.state);
        fields = fields_whole (body_octets (body_in x.state)) (body_in x.state).fields;
        sums = sums_of_form;
      }

  pub well_formed : WellFormed x
  well_formed =
      record {
        form = form_is x.state refl x.form x.unsent;
        told = told_by x.id x.state x.form;
        sent = sent_by x.id x.state x.form;
        whole = fields_whole (body_octets (body_in x.state)) (body_in x.state).fields;
        short = octets_short (body_in x.state);
        fits = record_fits;
      }
