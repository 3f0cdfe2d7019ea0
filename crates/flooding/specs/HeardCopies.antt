-- What a router that does not own the identifier makes of a mention, as a function.
use Rattle.std.specs.Prelude.{[], Bool, true, false, cond, ℕ, ◌%◌, ◌≢◌, nat_eq, nat_lt, nat_le}
use Rattle.flooding.specs.Rules.{Hears}
use Rattle.flooding.specs.Copies.{Topology, Copy, Held, none, held, Mention, copy, entry, unlisted, Content}

-- the flag on circuit c set to b, the others as they are
abbrev pub flag_set : ℕ → Bool → (ℕ → Bool) → ℕ → Bool
flag_set c b f e = cond (nat_eq e c) b (f e)

-- the rank of a live record
abbrev pub live_rank : ℕ → Bool
live_rank R = cond (nat_lt 1 R) (nat_eq (R % 2) 0) false

-- a purge and a placeholder have no content
abbrev pub no_content : Content
no_content = record { check = []; body = [] }

-- stored from c: to be sent on the other circuits in service
abbrev pub stored : Topology → ℕ → ℕ → ℕ → ℕ → Content → (ℕ → Bool) → (ℕ → Bool) → Copy
stored P x c R L C srm ssn = record {
  rank = R;
  lifetime = L;
  content = cond (nat_le 1 L) C no_content;
  wait = cond (nat_le 1 L) 0 60;
  srm = λ e. cond (nat_eq e c) false (cond (P.attached x e) true (srm e));
  ssn = λ e. cond (nat_eq e c) (cond (P.point_to_point c) true (ssn e)) (cond (P.attached x e) false (ssn e));
}

-- a copy with another wait, and with SRM a and SSN b on circuit c
abbrev pub marked : Copy → ℕ → ℕ → Bool → Bool → Copy
marked k w c a b = record { rank = k.rank; lifetime = k.lifetime; content = k.content; wait = w; srm = flag_set c a k.srm; ssn = flag_set c b k.ssn }

abbrev pub no_flags : ℕ → Bool
no_flags e = false

-- router x, which is not the owner, hears a mention on circuit c
unfoldable pub heard : Topology → ℕ → ℕ → Mention → Held → Held
heard P x c (copy R L C) none = cond (live_rank R) (held (stored P x c R L C no_flags no_flags)) none
heard P x c (copy R L C) (held k) =
    cond (nat_lt k.rank R) (held (stored P x c R L C k.srm k.ssn))
    (cond (nat_eq R k.rank) (held (marked k k.wait c false (cond (P.point_to_point c) true (k.ssn c)))) (held (marked k k.wait c true false)))
heard P x c (entry R) none = cond (live_rank R) (held (record { rank = 0; lifetime = 0; content = no_content; wait = 60; srm = no_flags; ssn = flag_set c true no_flags })) none
heard P x c (entry R) (held k) =
    cond (nat_lt k.rank R) (held (marked k (cond (nat_eq k.wait 0) 0 60) c (cond (P.point_to_point c) false (k.srm c)) true))
    (cond (nat_eq R k.rank) (held (marked k k.wait c (cond (P.point_to_point c) false (k.srm c)) (k.ssn c))) (held (marked k k.wait c true false)))
heard P x c unlisted none = none
heard P x c unlisted (held k) = cond (nat_le 1 k.lifetime) (held (marked k k.wait c true (k.ssn c))) (held k)

-- the function is an instance of the rules
abbrev pub HeardByRule : Type 0
HeardByRule = (P : Topology) (x c : ℕ) → x ≢ P.owner → (w : Mention) (h : Held) → Hears P x c w h (heard P x c w h)
