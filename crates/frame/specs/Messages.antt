-- What frames say, and the octets that say it.
use Rattle.std.specs.Prelude.{ℕ, ◌+◌, ◌*◌, List, [], ◌∷◌, ◌++◌, length}
use Rattle.octets.specs.Octets.{octets}
use Rattle.octets.specs.declared.checks.CheckOctets.{CheckOctets}
use Rattle.frame.specs.declared.kind.Kind.{Kind}
use Rattle.frame.specs.declared.kind.Kind.TheVariants.{Lsp, Csnp, Psnp}
use Rattle.frame.specs.Kinds.{kind_octet, header_size}

-- identifiers and sources are the numbers that their octets write
pub record LspPdu : Type 0 where
  pub lifetime : ℕ
  pub id : ℕ
  pub number : ℕ
  pub check : CheckOctets
  pub flags : ℕ
  pub body : List ℕ

pub record SnpEntry : Type 0 where
  pub lifetime : ℕ
  pub id : ℕ
  pub number : ℕ
  pub check : CheckOctets

pub record CsnpPdu : Type 0 where
  pub source : ℕ
  pub start : ℕ
  pub end : ℕ
  pub entries : List SnpEntry

pub record PsnpPdu : Type 0 where
  pub source : ℕ
  pub entries : List SnpEntry

pub data Pdu : Type 0 where
  lsp : LspPdu → Pdu
  csnp : CsnpPdu → Pdu
  psnp : PsnpPdu → Pdu

-- the octets that all frames begin with, then the frame's length
abbrev pub header : Kind → ℕ → List ℕ
header k behind = 131 ∷ header_size k ∷ 1 ∷ 0 ∷ kind_octet k ∷ 1 ∷ 0 ∷ 0 ∷ octets 2 (header_size k + behind)

abbrev pub check_list : CheckOctets → List ℕ
check_list c = c.x ∷ c.y ∷ []

-- the part from octet 12 on, which the check octets cover
abbrev pub covered_part : LspPdu → List ℕ
covered_part m = octets 8 m.id ++ octets 4 m.number ++ m.check.x ∷ m.check.y ∷ m.flags ∷ m.body

abbrev pub entry_octets : SnpEntry → List ℕ
entry_octets e = octets 2 e.lifetime ++ octets 8 e.id ++ octets 4 e.number ++ check_list e.check

abbrev pub entries_octets : List SnpEntry → List ℕ
entries_octets [] = []
entries_octets (e ∷ es) = entry_octets e ++ entries_octets es

-- nothing, or one field of code 09
abbrev pub tail_octets : List SnpEntry → List ℕ
tail_octets [] = []
tail_octets (e ∷ es) = 9 ∷ 16 * length (e ∷ es) ∷ entries_octets (e ∷ es)

abbrev pub encode : Pdu → List ℕ
encode (lsp m) = header Lsp (length m.body) ++ octets 2 m.lifetime ++ covered_part m
encode (csnp m) =
    header Csnp (length (tail_octets m.entries))
    ++ octets 7 m.source ++ octets 8 m.start ++ octets 8 m.end ++ tail_octets m.entries
encode (psnp m) = header Psnp (length (tail_octets m.entries)) ++ octets 7 m.source ++ tail_octets m.entries
