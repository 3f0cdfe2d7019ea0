-- What the rows of the table keep.
use Rattle.std.specs.Prelude.{◌≡◌, ℕ, zero, suc, ◌≤◌, true, List, [], ◌∷◌, length, map, refl}
use Rattle.std.proofs.Common.{lit≤}
use Rattle.record.specs.declared.record.Record.{Record}
use Rattle.store.specs.declared.row.Row.{Row}
use Rattle.store.specs.Lists.{Lists, of_router, rises}

abbrev pub kept : Row → List Record
kept w = w.records.items

abbrev pub all_kept : List Row → Lists
all_kept ws = map kept ws

pub all_rise : (ws : List Row) (r : ℕ) → rises (of_router (all_kept ws) r) ≡ true
all_rise [] r = refl
all_rise (w ∷ ws) zero = w.rising
all_rise (w ∷ ws) (suc r) = all_rise ws r

pub all_few : (ws : List Row) (r : ℕ) → length (of_router (all_kept ws) r) ≤ 32
all_few [] r = lit≤ tt
all_few (w ∷ ws) zero = w.few
all_few (w ∷ ws) (suc r) = all_few ws r
