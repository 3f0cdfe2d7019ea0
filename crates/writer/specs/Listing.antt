-- The entries of a summary that is being made.
use Rattle.std.specs.Prelude.{ℕ, ◌+◌, Bool, true, not, ◌&&◌, ◌||◌, List, [], ◌∷◌, length, Option, nat_le, nat_lt}
use Rattle.std.specs.List.{list_all}
use Rattle.fault.specs.declared.FrameFault.{FrameFault}
use Rattle.fault.specs.declared.FrameFault.TheVariants.{Summary}
use Rattle.fault.specs.Order.{fails}
use Rattle.octets.specs.Octets.{value}
use Rattle.octets.specs.declared.ids.IdRange.{IdRange}
use Rattle.octets.specs.Ranges.{empty, in_range}
use Rattle.frame.specs.declared.message.Entry.{Entry}
use Rattle.frame.specs.Reading.{last_id}
use Rattle.writer.specs.declared.scope.Scope.{Scope}
use Rattle.writer.specs.declared.scope.Scope.TheVariants.{Csnp, Psnp}

-- an entry whose numbers fit a frame, its lifetime at most 1,200
abbrev pub entry_right : Entry → Bool
entry_right e = nat_le e.lifetime 1200 && (nat_le (value e.id) last_id && nat_le e.number 4294967295)

-- right entries whose identifiers rise from low on
abbrev pub rises : ℕ → List Entry → Bool
rises low [] = true
rises low (e ∷ es) = nat_le low (value e.id) && (entry_right e && rises (value e.id + 1) es)

-- the least identifier that may come next: one over the last, or low where there is none
abbrev pub next_low : ℕ → List Entry → ℕ
next_low low [] = low
next_low low (e ∷ es) = next_low (value e.id + 1) es

-- every identifier is in the range
abbrev pub inside : IdRange → List Entry → Bool
inside r es = list_all (λ e. in_range r (value e.id)) es

-- an entry is refused as a 16th, with a lifetime over 1,200, and where its identifier does not rise
abbrev pub entry_fault : List Entry → Entry → Option FrameFault
entry_fault es e = fails (nat_le 15 (length es) || (nat_lt 1200 e.lifetime || nat_lt (value e.id) (next_low 0 es))) Summary

-- a range is refused that ends before it starts, or that an entry is not in
abbrev pub range_fault : List Entry → IdRange → Option FrameFault
range_fault es r = fails (empty r || not (inside r es)) Summary

-- what a summary is closed with suits its entries
abbrev pub in_scope : Scope → List Entry → Bool
in_scope (Csnp r) es = not (empty r) && (nat_le (value r.end) last_id && inside r es)
in_scope Psnp es = true
