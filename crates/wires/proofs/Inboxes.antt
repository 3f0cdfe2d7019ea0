-- Which inboxes hold a frame, and one that is changed.
use Rattle.std.proofs.Common.{◌≡◌, ℕ, zero, suc, ◌<◌, ◌≤◌, Bool, true, false, cond, not, ◌&&◌, ◌||◌, eqb, List, ◌++◌, map, length, replicate, get_or, take, drop, set, is_some, None, sym, refl, ap, ◌∙◌, arith, add-one, zero-add}
use Rattle.std.specs.List.{list_any, enumerate_from}
use Rattle.std.proofs.lemmas.List.{get_or-map, length-replicate, length-set, take_all, take-append-le}
use Rattle.std.proofs.lemmas.List.Folds.{list_any_more}
use Rattle.std.proofs.lemmas.List.FromFn.{length-enumerate_from, get_or-enumerate_from}
use Rattle.plant.specs.Calls.{waits_elsewhere}
use Rattle.wires.specs.Held.{held}
use Rattle.wires.specs.declared.inbox.Inbox.{Inbox}

pub waits-at : (xs : List Inbox) (k : ℕ) (d : Inbox) → k < length xs → is_some (get_or (map held xs) k None) ≡ is_some (held (get_or xs k d))
waits-at xs k d h = ap is_some (get_or-map held xs k d None h)

one_more : (own here before : Bool) → (before || (not own && here)) ≡ (cond own false here || before)
one_more true here true = refl
one_more true here false = refl
one_more false true true = refl
one_more false true false = refl
one_more false false true = refl
one_more false false false = refl

-- an inbox in which no frame waits
blank : Inbox
blank = record { octets = replicate 275 0; len = 0; few = omega arith; whole = length-replicate {A = ℕ} 275 0 }

module _ (xs : List Inbox) (e : ℕ) where
  abbrev Other : ℕ × Inbox → Bool
  Other p = not (eqb p.0 e) && is_some (held p.1)

  upto : (n : ℕ) → n ≤ length xs → list_any Other (take n (enumerate_from 0 xs)) ≡ waits_elsewhere (map held xs) e n
  upto zero h = refl
  upto (suc n) h =
      let l : n < length (enumerate_from 0 xs) = omega (arith, length-enumerate_from 0 xs) in
      let at : get_or (enumerate_from 0 xs) n (0, blank) ≡ (n, get_or xs n blank) = rw (zero-add n) at (get_or-enumerate_from 0 xs n (0, blank) h) in
      (rw (add-one n) at (list_any_more Other (enumerate_from 0 xs) n (0, blank) l))
      ∙ rw (at, upto n (omega arith), waits-at xs n blank h) (one_more (eqb n e) (is_some (held (get_or xs n blank))) (waits_elsewhere (map held xs) e n))

  pub any_other : list_any Other (enumerate_from 0 xs) ≡ waits_elsewhere (map held xs) e (length xs)
  any_other =
      ap (list_any Other) (sym (take_all (length xs) (enumerate_from 0 xs) (omega (arith, length-enumerate_from 0 xs))))
      ∙ upto (length xs) (omega arith)

pub refill-set : {X : Type 0} (xs : List X) (i : ℕ) (x : X) → take (length xs) (set xs i x ++ drop (length (set xs i x)) xs) ≡ set xs i x
refill-set xs i x =
    let h : length xs ≤ length (set xs i x) = omega (arith, length-set xs i x) in
    rw take-append-le (take_all (length xs) (set xs i x) (omega (arith, length-set xs i x)))
