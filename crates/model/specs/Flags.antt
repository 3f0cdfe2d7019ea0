-- Flags by port: SRM (to be sent) and SSN (to be reported) have one for each of a router's ports 0 to 7. Ports in service are written the same way.
use Rattle.std.specs.Prelude.{ℕ, Bool, true, false, not, ◌&&◌, ◌||◌, List, [], ◌∷◌, replicate, slice_index_or, slice_set}

abbrev pub Flags : Type 0
Flags = List Bool

abbrev pub no_flags : Flags
no_flags = replicate 8 false

-- one port
abbrev pub only : ℕ → Flags
only p = slice_set no_flags p true

abbrev pub has : Flags → ℕ → Bool
has fs p = slice_index_or fs p false

-- the flags of the first, and also those of the second set
abbrev pub join : Flags → Flags → Flags
join [] gs = []
join (f ∷ fs) [] = f ∷ fs
join (f ∷ fs) (g ∷ gs) = (f || g) ∷ join fs gs

-- the flags of the first, with those of the second cleared
abbrev pub except : Flags → Flags → Flags
except [] gs = []
except (f ∷ fs) [] = f ∷ fs
except (f ∷ fs) (g ∷ gs) = (f && not g) ∷ except fs gs
