-- One identifier, seen alone: its owner and the circuits, what each router holds of it, and what a frame says of it.
--
-- A record's number and form are one rank: 0 for a placeholder, 2 n for a live record of number n, 2 n + 1 for a purge of number n.
-- So newer is a larger rank (specs/Ranks).
use Rattle.std.specs.Prelude.{◌≡◌, Bool, List, ℕ, ◌+◌, ◌≤◌, ◌<◌}

-- check octets and body, which routers pass on as they are. Nothing in the argument looks inside.
pub record Content : Type 0 where
  pub check : List ℕ
  pub body : List ℕ

-- The circuits in service, and the identifier's owner. Routers and circuits go by number.
pub record Topology : Type 0 where
  -- router x is attached to circuit c, and c is in service
  pub attached : ℕ → ℕ → Bool
  -- circuit c is point-to-point; else it is broadcast
  pub point_to_point : ℕ → Bool
  -- the designated router of a broadcast circuit
  pub designated : ℕ → ℕ
  -- the router whose slot the identifier belongs to, and whether that slot is active
  pub owner : ℕ
  pub active : Bool

-- a router's copy of the record; the flags SRM and SSN go by circuit
pub record Copy : Type 0 where
  pub rank : ℕ
  pub lifetime : ℕ
  pub content : Content
  pub wait : ℕ
  pub srm : ℕ → Bool
  pub ssn : ℕ → Bool

-- what one router holds of the identifier
pub data Held : Type 0 where
  none : Held
  held : Copy → Held

-- what each router holds of it
abbrev pub Holdings : Type 0
Holdings = ℕ → Held

-- what a frame says of the identifier: an LSP carries a copy (rank, lifetime, content); a PSNP or CSNP has an entry (rank), or a CSNP
-- has it in its range and does not list it
pub data Mention : Type 0 where
  copy : ℕ → ℕ → Content → Mention
  entry : ℕ → Mention
  unlisted : Mention

-- holds the live record of number n
abbrev pub Live : ℕ → Held → Type 0
Live n none = ⊥
Live n (held k) = k.rank ≡ n + n

-- holds nothing live
abbrev pub NotLive : Held → Type 0
NotLive none = Unit {0}
NotLive (held k) = k.lifetime ≡ 0

-- rank R is newer than what is held; to a router that holds nothing only a live record is newer
abbrev pub Newer : ℕ → Held → Type 0
Newer R none = (n : ℕ) × (R ≡ n + n) × (1 ≤ n)
Newer R (held k) = k.rank < R
