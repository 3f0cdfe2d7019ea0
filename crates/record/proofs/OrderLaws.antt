-- The order of records is the order of one rank.
use Rattle.std.proofs.Common.{◌≡◌, ℕ, ◌<◌, Bool, true, false, cond, eqb, ltb, refl, arith}
use Rattle.std.proofs.lemmas.Bool.Decides.{nat_tests}
use Rattle.std.proofs.lemmas.Bool.{ltb-true, ltb-false, eqb-true, eqb-false}
use Rattle.record.specs.declared.form.Recency.TheVariants.{Newer, Same, Older}
use Rattle.record.specs.Order.{recency, rank, Stands}

larger : (n m : ℕ) (a b : Bool) → m < n → rank m b < rank n a
larger n m true true h = grind (arith, nat_tests)
larger n m true false h = grind (arith, nat_tests)
larger n m false true h = grind (arith, nat_tests)
larger n m false false h = grind (arith, nat_tests)

pub by_rank : (n m : ℕ) (live held : Bool) → Stands (recency n live m held) (rank n live) (rank m held)
by_rank n m live held = go (ltb m n) refl (ltb n m) refl (eqb n 0) refl live refl held refl
  where
    go :
        (b : Bool) → ltb m n ≡ b → (c : Bool) → ltb n m ≡ c → (z : Bool) → eqb n 0 ≡ z →
        (a : Bool) → live ≡ a → (d : Bool) → held ≡ d →
        Stands (cond b Newer (cond c Older (cond z Same (cond a (cond d Same Older) (cond d Newer Same))))) (rank n live) (rank m held)
    go true p c q z r a s d t = larger n m live held (ltb-true m n p)
    go false p true q z r a s d t = larger m n held live (ltb-true n m q)
    go false p false q true r a s d t =
        let u = ltb-false m n p in let v = ltb-false n m q in let w = eqb-true n 0 r in
        let e : n ≡ m = omega arith in
        let f : m ≡ 0 = omega arith in
        rw (w, f) refl
    go false p false q false r true s true t =
        let u = ltb-false m n p in let v = ltb-false n m q in
        let e : n ≡ m = omega arith in rw (e, s, t) refl
    go false p false q false r true s false t =
        let u = ltb-false m n p in let v = ltb-false n m q in let w = eqb-false n 0 r in
        let e : n ≡ m = omega arith in rw (s, t, e) (grind (arith, nat_tests))
    go false p false q false r false s true t =
        let u = ltb-false m n p in let v = ltb-false n m q in let w = eqb-false n 0 r in
        let e : n ≡ m = omega arith in rw (s, t, e) (grind (arith, nat_tests))
    go false p false q false r false s false t =
        let u = ltb-false m n p in let v = ltb-false n m q in
        let e : n ≡ m = omega arith in rw (e, s, t) refl
