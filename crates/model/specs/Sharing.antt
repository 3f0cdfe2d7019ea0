-- Which records a turn puts, and how a database is shared among frames: LSPs one to a record, PSNPs of 15 entries, and CSNP sets, of which the sharing is free.
-- Identifiers rise within each, as they do in the database.
use Rattle.std.specs.Prelude.{◌≡◌, ℕ, ◌+◌, ◌≤◌, not, ◌&&◌, List, [], ◌∷◌, map, length, filter, nat_le}
use Rattle.std.specs.List.{AllByRecursion}
use Rattle.frame.specs.Messages.{CsnpPdu}
use Rattle.frame.specs.Reading.{last_id}
use Rattle.model.specs.Lists.{cut_by}
use Rattle.model.specs.Flags.{has}
use Rattle.model.specs.Records.{HeldRecord, is_placeholder}
use Rattle.model.specs.Databases.{Database}
use Rattle.model.specs.Sending.{entry_of, source_of}

-- the records that a turn puts: those with SRM at the port
abbrev pub sent_on : ℕ → Database → List HeldRecord
sent_on p d = filter (λ x. has x.srm p) d

-- the records that a PSNP turn reports: those with SSN at the port
abbrev pub reported_on : ℕ → Database → List HeldRecord
reported_on p d = filter (λ x. has x.ssn p) d

-- one PSNP for each 15 of them, the last for 1 to 15
abbrev pub psnp_parts : ℕ → Database → List (List HeldRecord)
psnp_parts p d = cut_by (length (reported_on p d)) 15 (reported_on p d)

-- the records in a range but placeholders
abbrev pub listed_between : ℕ → ℕ → Database → List HeldRecord
listed_between low high d = filter (λ x. not (is_placeholder x) && (nat_le low x.id && nat_le x.id high)) d

-- a CSNP lists all records in its range but placeholders
pub record ListsRange (system : ℕ) (d : Database) (m : CsnpPdu) : Type 0 where
  pub source : m.source ≡ source_of system
  pub range : m.start ≤ m.end
  pub entries : m.entries ≡ map entry_of (listed_between m.start m.end d)
  pub room : length m.entries ≤ 15

-- CSNPs from `start` to eight FF, each later start the previous end + 1
pub data Spans : ℕ → List CsnpPdu → Type 0 where
  last : {start : ℕ} {m : CsnpPdu} → m.start ≡ start → m.end ≡ last_id → Spans start (m ∷ [])
  more : {start : ℕ} {m : CsnpPdu} {ms : List CsnpPdu} → m.start ≡ start → Spans (m.end + 1) ms → Spans start (m ∷ ms)

-- a CSNP set of a system that holds d: from eight 00 to eight FF, in at most four frames
pub record CsnpSet (system : ℕ) (d : Database) (ms : List CsnpPdu) : Type 0 where
  pub spans : Spans 0 ms
  pub lists : AllByRecursion (ListsRange system d) ms
  pub few : length ms ≤ 4
