-- The table by its rows.
use Rattle.std.proofs.Common.{◌≡◌, ℕ, zero, suc, ◌<◌, Bool, true, false, List, [], ◌∷◌, length, get_or, replicate, None, refl, arith}
use Rattle.std.proofs.lemmas.Bool.{lt-leb}
use Rattle.std.proofs.lemmas.Grind.{common_steps}
use Rattle.std.proofs.lemmas.List.{get_or-map, map-set, set-get_or}
use Rattle.fault.specs.declared.CallFault.TheVariants.{Full}
use Rattle.fault.specs.Order.{fails, first_refusal}
use Rattle.fault.proofs.Laws.{unless_err}
use Rattle.record.specs.declared.record.Record.{Record}
use Rattle.store.specs.declared.row.Row.{Row}
use Rattle.store.specs.Lists.{Lists, of_router}
use Rattle.store.specs.Calls.{set_fault, is_full}
use Rattle.store.specs.Kept.{kept, all_kept}

-- no records in any row
pub none_kept : (ws : List Row) (n : ℕ) → length ws ≡ n → ((i : ℕ) (d : Row) → i < n → kept (get_or ws i d) ≡ []) → all_kept ws ≡ replicate n []
none_kept [] zero e h = refl
none_kept [] (suc n) e h = absurd (omega arith)
none_kept (w ∷ ws) zero e h = absurd (omega arith)
none_kept (w ∷ ws) (suc n) e h =
    let first : kept w ≡ [] = h 0 w (omega arith) in
    let rest = none_kept ws n (omega arith) (λ i d l. h (suc i) d (omega arith)) in
    cc

-- the refusal of a set to a router that there is
full_alone : (b : Bool) → first_refusal (None ∷ fails b Full ∷ []) ≡ fails b Full
full_alone true = refl
full_alone false = refl

pub fault_is : (t : Lists) (r : ℕ) (x : Record) → r < 8 → set_fault t r x ≡ fails (is_full x (of_router t r)) Full
fault_is t r x l = rw (lt-leb 8 r l) (full_alone (is_full x (of_router t r)))

pub ruleset table_steps = (common_steps, fault_is, map-set)

pub ruleset request_steps = (common_steps, unless_err)
