-- A row after a set and after a removal.
use Rattle.std.specs.Prelude.{◌≡◌, ℕ, ◌+◌, ◌-◌, ◌<◌, ◌≤◌, true, false, not, ◌⊎◌, List, [], ◌∷◌, ◌++◌, length, take, drop, is_some, Some, None, ◌≢◌, nat_le, slice_index_or, slice_set}
use Rattle.std.proofs.Common.{sym, ◌∙◌, ap, inl, inr, arith, length-append, length-drop}
use Rattle.std.specs.List.{remove}
use Rattle.std.proofs.lemmas.Bool.{and_cases, not-false, leb-false}
use Rattle.std.proofs.lemmas.List.{take_more_set, take_at, take-append-le, length-set, length_push, length-take-le}
use Rattle.record.specs.declared.record.Record.{Record}
use Rattle.store.specs.declared.row.Row.{Row}
use Rattle.store.specs.Lists.{key_of, rises, lookup, placed, without, place_of}
use Rattle.store.specs.Calls.{is_full}
use Rattle.store.specs.Kept.{kept}
use Rattle.store.proofs.Placing.{rises-placed, length-placed}
use Rattle.store.proofs.Removing.{found_at, found_none, without_at, without-none, rises-without}

-- there is room, or the record is there already
pub room_for : (x : Record) (xs : List Record) → is_full x xs ≡ false → (is_some (lookup (key_of x) xs) ≡ true) ⊎ (length xs < 32)
room_for x xs h =
    elim (and_cases (not (is_some (lookup (key_of x) xs))) (nat_le 32 (length xs)) h) [
      | inl a ↦ inl (not-false _ a)
      | inr b ↦ inr (leb-false 32 (length xs) b)
    ]

-- where all moved up, the identifier was new
pub was_new :
    (xs ys : List Record) (z r : Record) → rises xs ≡ true → length ys ≡ length xs → ys ++ z ∷ [] ≡ placed r xs →
    is_some (lookup (key_of r) xs) ≢ true
was_new xs ys z r h l e f = omega (arith, l, length_push ys z, ap length e, length-placed r xs h f)

-- an array whose first n records became ys, with a record more, with as many, and with one fewer; k is n too
pub record Grown (items ys : List Record) (n k : ℕ) (z item : Record) : Type 0 where
  pub more : n < 32
  pub whole : length (ys ++ drop k items) ≡ 32
  pub room : length (slice_set (ys ++ drop k items) n z) ≡ 32
  pub front : take (n + 1) (slice_set (ys ++ drop k items) n z) ≡ placed item (take n items)
  pub rising : rises (take (n + 1) (slice_set (ys ++ drop k items) n z)) ≡ true

pub record Same (items ys : List Record) (n k : ℕ) (item : Record) : Type 0 where
  pub room : length (ys ++ drop k items) ≡ 32
  pub front : take n (ys ++ drop k items) ≡ placed item (take n items)
  pub rising : rises (take n (ys ++ drop k items)) ≡ true

-- and without the identifier i
pub record Shrunk (items ys : List Record) (n k i : ℕ) : Type 0 where
  pub room : length (ys ++ drop k items) ≡ 32
  pub front : take (n - 1) (ys ++ drop k items) ≡ without i (take n items)
  pub rising : rises (take (n - 1) (ys ++ drop k items)) ≡ true

module _
    (items ys : List Record)
    (n : ℕ)
    (room : length items ≡ 32)
    (few : n ≤ 32)
    (rising : rises (take n items) ≡ true)
    (long : length ys ≡ length (take n items))
  where
    many : length (take n items) ≡ n
    many = length-take-le n items (omega arith)

    count : length ys ≡ n
    count = long ∙ many

    back_length : length (ys ++ drop n items) ≡ 32
    back_length = let c = count in simp (length-append, length-drop) (omega arith)

    front : take n (ys ++ drop n items) ≡ ys
    front = take_at ys (drop n items) n count

    grown_at : (item z : Record) → n < 32 → ys ++ z ∷ [] ≡ placed item (take n items) → Grown items ys n n z item
    grown_at item z l e =
        let f : take (n + 1) (slice_set (ys ++ drop n items) n z) ≡ placed item (take n items) =
        take_more_set (ys ++ drop n items) n z (omega (arith, back_length)) ∙ (ap (λ (v : List Record). v ++ z ∷ []) front ∙ e) in
        record {
          more = l;
          whole = back_length;
          room = length-set (ys ++ drop n items) n z ∙ back_length;
          front = f;
          rising = ap rises f ∙ rises-placed item (take n items) rising;
        }

    pub grown : (item z : Record) → is_full item (take n items) ≡ false → ys ++ z ∷ [] ≡ placed item (take n items) → Grown items ys n n z item
    grown item z h e =
        elim (room_for item (take n items) h) [
          | inl f ↦ absurd (was_new (take n items) ys z item rising long e f)
          | inr l ↦ grown_at item z (omega (arith, l, many)) e
        ]

    pub same : (item : Record) → ys ≡ placed item (take n items) → Same items ys n n item
    same item e =
        let f : take n (ys ++ drop n items) ≡ placed item (take n items) = front ∙ e in
        record { room = back_length; front = f; rising = ap rises f ∙ rises-placed item (take n items) rising }

    pub shrunk :
        (i at : ℕ) → at ≡ place_of i (take n items) → at < n → take (length (take n items) - 1) ys ≡ remove (take n items) at →
        Shrunk items ys n n i
    shrunk i at e l g =
        let m = many in
        let c = count in
        let w : without i (take n items) ≡ remove (take n items) at =
        without_at i (take n items) (omega arith) ∙ ap (remove (take n items)) (sym e) in
        let f : take (n - 1) (ys ++ drop n items) ≡ without i (take n items) =
        take-append-le (n - 1) ys (drop n items) (omega arith) ∙ (ap (λ (j : ℕ). take (j - 1) ys) (sym m) ∙ (g ∙ sym w)) in
        record { room = back_length; front = f; rising = ap rises f ∙ rises-without i (take n items) rising }

-- a search in a row
module _ (w : Row) (i at : ℕ) (s : at ≡ place_of i (kept w)) where
  pub row_found : (d : Record) → at < length (kept w) → Some (slice_index_or (kept w) at d) ≡ lookup i (kept w)
  row_found d l = let f = found_at i (kept w) d (omega arith) in ap (λ (j : ℕ). Some (slice_index_or (kept w) j d)) s ∙ sym f

  pub row_missing : length (kept w) ≤ at → None ≡ lookup i (kept w)
  row_missing l = sym (found_none i (kept w) (omega arith))

  pub row_stays : length (kept w) ≤ at → kept w ≡ without i (kept w)
  row_stays l = sym (without-none i (kept w) (omega arith))
