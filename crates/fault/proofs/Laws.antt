-- Laws of the refusal that is answered.
use Rattle.std.proofs.Common.{◌≡◌, ℕ, Bool, true, false, cond, List, [], ◌∷◌, ◌++◌, Some, None, Ok, Err, Option, refl, inl, inr, arith}
use Rattle.std.proofs.lemmas.Bool.Decides.{nat_tests}
use Rattle.std.specs.Option.{option_or}
use Rattle.fault.specs.Order.{ranked, fails, unless, before, sooner, soonest, Answers}

pub ranked_trans : (a b c d e f : ℕ) → ranked a b c d ≡ true → ranked c d e f ≡ true → ranked a b e f ≡ true
ranked_trans a b c d e f p q = grind (arith, nat_tests)

pub ranked_total : (a b c d : ℕ) → ranked a b c d ≡ false → ranked c d a b ≡ true
ranked_total a b c d p = grind (arith, nat_tests)

pub ranked_self : (a b : ℕ) → ranked a b a b ≡ true
ranked_self a b = grind (arith, nat_tests)

module _ {F : Type 0} (rank place : F → ℕ) where
  -- no refusal of a list is there
  abbrev pub NoneOf : List (Option F) → Type 0
  NoneOf [] = Unit {0}
  NoneOf (r ∷ rs) = (r ≡ None) × NoneOf rs

  -- the first of a list that is there
  abbrev pub foremost : List (Option F) → Option F
  foremost [] = None
  foremost (r ∷ rs) = option_or r (foremost rs)

  sooner-none : (r s : Option F) → sooner rank place r s ≡ None → (r ≡ None) × (s ≡ None)
  sooner-none None s h = (refl, h)
  sooner-none (Some a) None h = let z : ◌≡◌ {A = ℕ} 0 1 = cc in absurd (omega arith)
  sooner-none (Some a) (Some b) h = let z : ◌≡◌ {A = ℕ} 0 1 = cc in absurd (omega arith)

  pub none_of : (rs : List (Option F)) → soonest rank place rs ≡ None → NoneOf rs
  none_of [] h = tt
  none_of (r ∷ rs) h = let p = sooner-none r (soonest rank place rs) h in (p.0, none_of rs p.1)

  pub of_none : (rs : List (Option F)) → NoneOf rs → soonest rank place rs ≡ None
  of_none [] h = refl
  of_none (r ∷ rs) h = rw (h.0, of_none rs h.1) refl

  -- one more refusal
  one_more : (r : Option F) (rs : List (Option F)) (s : Option F) → Answers rank place rs s → Answers rank place (r ∷ rs) (sooner rank place r s)
  one_more None rs None h = λ a m. elim m [ inl e ↦ (let z : ◌≡◌ {A = ℕ} 0 1 = cc in omega arith) | inr n ↦ h a n ]
  one_more None rs (Some b) h =
      (inr h.0, λ c m. elim m [ inl e ↦ (let z : ◌≡◌ {A = ℕ} 0 1 = cc in absurd (omega arith)) | inr n ↦ h.1 c n ])
  one_more (Some a) rs None h = (
    inl refl,
    λ b m. elim m [ inl e ↦ (let p : a ≡ b = cc in rw p (ranked_self (rank b) (place b))) | inr n ↦ absurd (h b n) ],
  )
  one_more (Some a) rs (Some b) h = go (before rank place a b) refl
    where
      go : (w : Bool) → before rank place a b ≡ w → Answers rank place (Some a ∷ rs) (Some (cond w a b))
      go true e = (
        inl refl,
        λ c m.
            elim m [
              | inl q ↦ (let p : a ≡ c = cc in rw p (ranked_self (rank c) (place c)))
              | inr n ↦ ranked_trans (rank a) (place a) (rank b) (place b) (rank c) (place c) e (h.1 c n)
            ],
      )
      go false e = (
        inr h.0,
        λ c m.
            elim m [
              | inl q ↦ (let p : a ≡ c = cc in rw (← p) (ranked_total (rank a) (place a) (rank b) (place b) e))
              | inr n ↦ h.1 c n
            ],
      )

  -- what is answered is the refusal to be answered
  pub answers : (rs : List (Option F)) → Answers rank place rs (soonest rank place rs)
  answers [] = λ a m. m
  answers (r ∷ rs) = one_more r rs (soonest rank place rs) (answers rs)

  -- a refusal that may be there lies between two
  abbrev pub Between : F → Option F → F → Type 0
  Between lo None hi = before rank place lo hi ≡ true
  Between lo (Some x) hi = (before rank place lo x ≡ true) × (before rank place x hi ≡ true)

  -- refusals that may be there rise from one on
  abbrev pub Rising : F → List (Option F) → Type 0
  Rising lo [] = Unit {0}
  Rising lo (r ∷ rs) = (hi : F) × Between lo r hi × Rising hi rs

  pub before_trans : (a b c : F) → before rank place a b ≡ true → before rank place b c ≡ true → before rank place a c ≡ true
  before_trans a b c p q = ranked_trans (rank a) (place a) (rank b) (place b) (rank c) (place c) p q

  over : (lo hi : F) (r : Option F) → Between lo r hi → before rank place lo hi ≡ true
  over lo hi None h = h
  over lo hi (Some x) h = before_trans lo x hi h.0 h.1

  pub foremost_over : (lo : F) (rs : List (Option F)) → Rising lo rs → (b : F) → foremost rs ≡ Some b → before rank place lo b ≡ true
  foremost_over lo [] h b e = let z : ◌≡◌ {A = ℕ} 0 1 = cc in absurd (omega arith)
  foremost_over lo (None ∷ rs) h b e = before_trans lo h.0 b h.1 (foremost_over h.0 rs h.2 b e)
  foremost_over lo (Some x ∷ rs) h b e = let p : x ≡ b = cc in rw (← p) h.1.0

  -- refusals that rise are answered in their order
  pub rising_first : (lo : F) (rs : List (Option F)) → Rising lo rs → soonest rank place rs ≡ foremost rs
  rising_first lo [] h = refl
  rising_first lo (None ∷ rs) h = rising_first h.0 rs h.2
  rising_first lo (Some x ∷ rs) h = rw (rising_first h.0 rs h.2) (go (foremost rs) refl)
    where
      go : (s : Option F) → foremost rs ≡ s → sooner rank place (Some x) s ≡ Some x
      go None e = refl
      go (Some b) e =
          let p : before rank place x b ≡ true = before_trans x h.0 b h.1.1 (foremost_over h.0 rs h.2 b e) in
          rw p refl

  -- a cause that may be there
  pub between_fails : (lo x : F) (c : Bool) → before rank place lo x ≡ true → Between lo (fails c x) x
  between_fails lo x true h = (h, ranked_self (rank x) (place x))
  between_fails lo x false h = h

pub foremost-append : {F : Type 0} (rank place : F → ℕ) (rs ss : List (Option F)) →
    foremost rank place (rs ++ ss) ≡ option_or (foremost rank place rs) (foremost rank place ss)
foremost-append rank place [] ss = refl
foremost-append rank place (None ∷ rs) ss = foremost-append rank place rs ss
foremost-append rank place (Some a ∷ rs) ss = refl

pub fails_not : {F : Type 0} (c : Bool) (x : F) → fails c x ≡ None → c ≡ false
fails_not false x h = refl
fails_not true x h = let z : ◌≡◌ {A = ℕ} 0 1 = cc in absurd (omega arith)

pub not_fails : {F : Type 0} (c : Bool) (x : F) → c ≡ false → fails c x ≡ None
not_fails c x e = rw e refl

pub unless_err : {A F : Type 0} (o : Option F) (a : A) (e : F) → unless o a ≡ Err e → o ≡ Some e
unless_err None a e h = let z : ◌≡◌ {A = ℕ} 0 1 = cc in absurd (omega arith)
unless_err (Some x) a e h = cc

pub unless_ok : {A F : Type 0} (o : Option F) (a b : A) → unless o a ≡ Ok b → o ≡ None
unless_ok None a b h = refl
unless_ok (Some x) a b h = let z : ◌≡◌ {A = ℕ} 0 1 = cc in absurd (omega arith)
