-- What the calls of a store answer and leave.
use Rattle.std.specs.Prelude.{◌≡◌, ℕ, Bool, cond, not, ◌&&◌, List, [], ◌∷◌, length, is_some, is_ok, Option, Result, nat_le, slice_set}
use Rattle.fault.specs.declared.CallFault.{CallFault}
use Rattle.fault.specs.declared.CallFault.TheVariants.{Unknown, Full}
use Rattle.fault.specs.Order.{fails, unless, first_refusal}
use Rattle.record.specs.declared.record.Record.{Record}
use Rattle.store.specs.Lists.{Lists, of_router, key_of, lookup, placed, without}

-- there is no such router
abbrev pub router_fault : ℕ → Option CallFault
router_fault r = fails (nat_le 8 r) Unknown

-- the record is new, and 32 are held
abbrev pub is_full : Record → List Record → Bool
is_full x xs = not (is_some (lookup (key_of x) xs)) && nat_le 32 (length xs)

abbrev pub set_fault : Lists → ℕ → Record → Option CallFault
set_fault t r x = first_refusal (router_fault r ∷ fails (is_full x (of_router t r)) Full ∷ [])

-- setting a record: one router's list has it in its place, and the others stay; a refusal changes nothing
pub record Sets (t u : Lists) (r : ℕ) (x : Record) (answer : Result (Unit {0}) CallFault) : Type 0 where
  pub is : answer ≡ unless (set_fault t r x) tt
  pub after : u ≡ cond (is_ok answer) (slice_set t r (placed x (of_router t r))) t

-- removing a record answers it
pub record Removes (t u : Lists) (r k : ℕ) (answer : Result (Option Record) CallFault) : Type 0 where
  pub is : answer ≡ unless (router_fault r) (lookup k (of_router t r))
  pub after : u ≡ cond (is_ok answer) (slice_set t r (without k (of_router t r))) t
