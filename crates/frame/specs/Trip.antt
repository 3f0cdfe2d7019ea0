-- Writing and reading back.
use Rattle.std.specs.Prelude.{◌≡◌, ℕ, ◌+◌, ◌^◌, ◌<◌, ◌≤◌, true, List, [], ◌∷◌, length, drop, Ok, Result}
use Rattle.std.specs.List.{AllByRecursion}
use Rattle.fault.specs.declared.FrameFault.{FrameFault}
use Rattle.fault.specs.Order.{frame_rank, Answers}
use Rattle.fault.specs.Refusals.{frame_place}
use Rattle.octets.specs.Octets.{Octets}
use Rattle.octets.specs.Checks.{right}
use Rattle.octets.specs.Fields.{Whole}
use Rattle.frame.specs.Messages.{LspPdu, SnpEntry, CsnpPdu, PsnpPdu, Pdu, lsp, csnp, psnp, covered_part, encode}
use Rattle.frame.specs.Reading.{last_id, faults, refusal, decode}

-- an LSP that a frame can say: what is refused neither in reading nor in writing
pub record LspFits (m : LspPdu) : Type 0 where
  pub lifetime : m.lifetime ≤ 1200
  pub id : m.id < 256 ^ 8
  pub number : m.number < 256 ^ 4
  pub issued : 1 ≤ m.number
  pub body : length m.body ≤ 100
  pub fields : Whole m.body
  pub sums : 1 ≤ m.lifetime → right 13 (covered_part m) ≡ true

pub record EntryFits (e : SnpEntry) : Type 0 where
  pub lifetime : e.lifetime ≤ 1200
  pub id : e.id < 256 ^ 8
  pub number : e.number < 256 ^ 4

-- identifiers rise from low on, and none is over high
abbrev pub Rises : ℕ → ℕ → List SnpEntry → Type 0
Rises low high [] = Unit {0}
Rises low high (e ∷ es) = (low ≤ e.id) × (e.id ≤ high) × Rises (e.id + 1) high es

pub record PsnpFits (m : PsnpPdu) : Type 0 where
  pub source : m.source < 256 ^ 7
  pub entries : AllByRecursion EntryFits m.entries
  pub few : length m.entries ≤ 15
  pub rising : Rises 0 last_id m.entries

pub record CsnpFits (m : CsnpPdu) : Type 0 where
  pub source : m.source < 256 ^ 7
  pub start : m.start < 256 ^ 8
  pub end : m.end < 256 ^ 8
  pub range : m.start ≤ m.end
  pub entries : AllByRecursion EntryFits m.entries
  pub few : length m.entries ≤ 15
  pub rising : Rises m.start m.end m.entries

abbrev pub Fits : Pdu → Type 0
Fits (lsp m) = LspFits m
Fits (csnp m) = CsnpFits m
Fits (psnp m) = PsnpFits m

-- what can be said reads back as it was
abbrev pub ReadsBack : Type 0
ReadsBack = (m : Pdu) → Fits m → decode (encode m) ≡ Ok m

-- what was read is written octet for octet
abbrev pub WritesBack : Type 0
WritesBack = (f : List ℕ) (m : Pdu) → Octets f → decode f ≡ Ok m → encode m ≡ f

-- what was read can be said
abbrev pub ReadFits : Type 0
ReadFits = (f : List ℕ) (m : Pdu) → Octets f → decode f ≡ Ok m → Fits m

-- what reading the octets f answers
pub record Reads (f : List ℕ) (answer : Result Pdu FrameFault) : Type 0 where
  pub is : decode f ≡ answer
  -- of the faults that f has, the one of least rank and then of least place is answered; none only where there is none
  pub soonest : Answers frame_rank frame_place (faults f) (refusal f)
  -- what was read is written octet for octet
  pub back : (m : Pdu) → answer ≡ Ok m → encode m ≡ f
  pub fits : (m : Pdu) → answer ≡ Ok m → Fits m

-- where an LSP's body and a summary's entries begin
abbrev pub content_place : Pdu → ℕ
content_place (lsp m) = 27
content_place (csnp m) = 35
content_place (psnp m) = 19

-- the frame f says something, and these octets at this place are its body or its entries
abbrev pub Holds : List ℕ → ℕ → List ℕ → Type 0
Holds f place octets = (m : Pdu) × (decode f ≡ Ok m) × (place ≡ content_place m) × (octets ≡ drop place f)
