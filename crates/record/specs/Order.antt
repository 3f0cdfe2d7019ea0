-- Which of two records is newer.
use Rattle.std.specs.Prelude.{◌≡◌, ℕ, ◌+◌, ◌*◌, ◌<◌, Bool, if◌then◌else◌, ◌==◌, nat_lt}
use Rattle.record.specs.declared.form.Recency.{Recency}
use Rattle.record.specs.declared.form.Recency.TheVariants.{Newer, Same, Older}

-- how a number that was heard, live or not, stands to a number that is held, live or not:
-- the larger number is newer, then at equal numbers above 0 what is not live
abbrev pub recency : ℕ → Bool → ℕ → Bool → Recency
recency n live m held =
    if nat_lt m n then Newer
    else if nat_lt n m then Older
    else if n == 0 then Same
    else if live then (if held then Same else Older)
    else if held then Newer
    else Same

-- one number for both: 2n for live n, 2n + 1 for a purge of n, 0 for number 0 whatever its lifetime
abbrev pub rank : ℕ → Bool → ℕ
rank n live = if n == 0 then 0 else if live then 2 * n else 2 * n + 1

-- how a rank stands to one that is held
abbrev pub Stands : Recency → ℕ → ℕ → Type 0
Stands Newer heard held = held < heard
Stands Same heard held = heard ≡ held
Stands Older heard held = heard < held
