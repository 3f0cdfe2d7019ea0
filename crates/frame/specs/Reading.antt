-- Reading a frame: its faults, and what it says where it has none.
use Rattle.std.specs.Prelude.{ℕ, zero, suc, ◌+◌, ◌/◌, ◌%◌, Bool, true, false, cond, not, ◌&&◌, ◌||◌, List, [], ◌∷◌, ◌++◌, length, drop, is_some, Some, None, Ok, Err, Option, Result, ◌==◌, nat_le, nat_lt, slice_index}
use Rattle.fault.specs.declared.FrameFault.{FrameFault}
use Rattle.fault.specs.declared.FrameFault.TheVariants.{Short, Fixed, Kind as UnknownKind, Header, Length, Tail, Lifetime, Number, Range, Order, Check}
use Rattle.fault.specs.Order.{fails, first_fault}
use Rattle.octets.specs.declared.checks.CheckOctets.{CheckOctets}
use Rattle.octets.specs.Octets.{value, field}
use Rattle.octets.specs.Checks.{right}
use Rattle.octets.specs.Fields.{body_faults}
use Rattle.frame.specs.declared.kind.Kind.{Kind}
use Rattle.frame.specs.declared.kind.Kind.TheVariants.{Lsp, Csnp, Psnp}
use Rattle.frame.specs.Kinds.{kind_named, header_size}
use Rattle.frame.specs.Messages.{LspPdu, SnpEntry, CsnpPdu, PsnpPdu, Pdu, lsp, csnp, psnp}

-- the fixed octets with their places
abbrev pub fixed : List (ℕ × ℕ)
fixed = (0, 131) ∷ (2, 1) ∷ (3, 0) ∷ (5, 1) ∷ (6, 0) ∷ (7, 0) ∷ []

-- the first of these places that has another octet
abbrev pub wrong_octet : List (ℕ × ℕ) → List ℕ → Option FrameFault
wrong_octet [] f = None
wrong_octet (a ∷ more) f = cond (slice_index f a.0 == a.1) (wrong_octet more f) (Some (Fixed a.0))

abbrev pub kind_of : List ℕ → Option Kind
kind_of f = kind_named (slice_index f 4)

abbrev pub size_of : Option Kind → ℕ
size_of None = 0
size_of (Some k) = header_size k

-- the length at octet 8 is absent or not the octets present, or these are under the header or over 275
abbrev pub length_off : ℕ → List ℕ → Bool
length_off size f = nat_lt (length f) 10 || (not (field 8 2 f == length f) || (nat_lt (length f) size || nat_lt 275 (length f)))

abbrev pub length_wrong : List ℕ → Bool
length_wrong f = length_off (size_of (kind_of f)) f

-- the faults of all kinds
abbrev pub header_faults : List ℕ → List (Option FrameFault)
header_faults f =
    fails (nat_lt (length f) 8) (Short (length f))
    ∷ wrong_octet fixed f
    ∷ fails (not (is_some (kind_of f))) UnknownKind
    ∷ fails (not (slice_index f 1 == size_of (kind_of f))) Header
    ∷ fails (length_wrong f) Length
    ∷ []

-- the kind of a frame without a header fault
abbrev pub headed : Option FrameFault → Option Kind → Result Kind FrameFault
headed (Some e) k = Err e
headed None None = Err UnknownKind
headed None (Some k) = Ok k

-- what a header answers
abbrev pub header_answer : List ℕ → Result Kind FrameFault
header_answer f = headed (first_fault (header_faults f)) (kind_of f)

-- a live LSP's check octets are wrong
abbrev pub check_wrong : List ℕ → Bool
check_wrong f = nat_le 1 (field 10 2 f) && not (right 13 (drop 12 f))

abbrev pub lsp_faults : List ℕ → List (Option FrameFault)
lsp_faults f =
    body_faults 27 (drop 27 f)
    ++ fails (nat_lt 1200 (field 10 2 f)) (Lifetime 10)
    ∷ fails (field 20 4 f == 0) Number
    ∷ fails (check_wrong f) Check
    ∷ []

abbrev pub check_at : ℕ → List ℕ → CheckOctets
check_at at f = record { x = slice_index f at; y = slice_index f (at + 1) }

abbrev pub entry_at : ℕ → List ℕ → SnpEntry
entry_at at f = record { lifetime = field at 2 f; id = field (at + 2) 8 f; number = field (at + 10) 4 f; check = check_at (at + 14) f }

-- n entries from an offset on
abbrev pub entries_at : ℕ → ℕ → List ℕ → List SnpEntry
entries_at zero at f = []
entries_at (suc n) at f = entry_at at f ∷ entries_at n (at + 16) f

-- the entries' faults: a lifetime over 1,200; an identifier below `low`, which is over the one before, or over `high`
abbrev pub entries_faults : ℕ → ℕ → ℕ → List SnpEntry → List (Option FrameFault)
entries_faults at low high [] = []
entries_faults at low high (e ∷ es) =
    fails (nat_lt 1200 e.lifetime) (Lifetime at)
    ∷ fails (nat_lt e.id low || nat_lt high e.id) (Order (at + 2))
    ∷ entries_faults (at + 16) (e.id + 1) high es

-- the least identifier that may come next: the start, or one over the last
abbrev pub floor : ℕ → Option (List ℕ) → ℕ
floor start None = start
floor start (Some last) = value last + 1

-- nothing, or one field of code 09 with 1 to 15 entries
abbrev pub tail_right : List ℕ → Bool
tail_right [] = true
tail_right (x ∷ []) = false
tail_right (x ∷ n ∷ xs) = x == 9 && (n == length xs && (n % 16 == 0 && (nat_le 16 n && nat_le n 240)))

-- a field of this code and value is the last and holds 1 to 15 entries
abbrev pub field_lists : ℕ → List ℕ → List ℕ → Bool
field_lists code v rest =
    (code == 9) && (length rest == 0 && (length v % 16 == 0 && (nat_le 16 (length v) && nat_le (length v) 240)))

-- the entries of a summary whose header has this size
abbrev pub entries_of : ℕ → List ℕ → List SnpEntry
entries_of size f = entries_at (slice_index f (size + 1) / 16) (size + 2) f

-- eight octets FF
abbrev pub last_id : ℕ
last_id = 18446744073709551615

abbrev pub csnp_faults : List ℕ → List (Option FrameFault)
csnp_faults f =
    fails (not (tail_right (drop 33 f))) (Tail 33)
    ∷ fails (nat_lt (field 25 8 f) (field 17 8 f)) Range
    ∷ entries_faults 35 (field 17 8 f) (field 25 8 f) (entries_of 33 f)

abbrev pub psnp_faults : List ℕ → List (Option FrameFault)
psnp_faults f = fails (not (tail_right (drop 17 f))) (Tail 17) ∷ entries_faults 19 0 last_id (entries_of 17 f)

-- the faults of a kind
abbrev pub kind_faults : Option Kind → List ℕ → List (Option FrameFault)
kind_faults None f = []
kind_faults (Some Lsp) f = lsp_faults f
kind_faults (Some Csnp) f = csnp_faults f
kind_faults (Some Psnp) f = psnp_faults f

-- every fault that a frame has
abbrev pub faults : List ℕ → List (Option FrameFault)
faults f = header_faults f ++ kind_faults (kind_of f) f

-- the fault that is answered
abbrev pub refusal : List ℕ → Option FrameFault
refusal f = first_fault (faults f)

abbrev pub lsp_in : List ℕ → LspPdu
lsp_in f =
    record { lifetime = field 10 2 f; id = field 12 8 f; number = field 20 4 f; check = check_at 24 f; flags = slice_index f 26; body = drop 27 f }

abbrev pub csnp_in : List ℕ → CsnpPdu
csnp_in f = record { source = field 10 7 f; start = field 17 8 f; end = field 25 8 f; entries = entries_of 33 f }

abbrev pub psnp_in : List ℕ → PsnpPdu
psnp_in f = record { source = field 10 7 f; entries = entries_of 17 f }

-- what a frame of a kind says
abbrev pub said : Kind → List ℕ → Pdu
said Lsp f = lsp (lsp_in f)
said Csnp f = csnp (csnp_in f)
said Psnp f = psnp (psnp_in f)

-- where there is no refusal, what the frame says; a frame of no kind has its refusal
abbrev pub answered : Option FrameFault → Option Kind → List ℕ → Result Pdu FrameFault
answered (Some e) k f = Err e
answered None None f = Err UnknownKind
answered None (Some k) f = Ok (said k f)

abbrev pub decode : List ℕ → Result Pdu FrameFault
decode f = answered (refusal f) (kind_of f) f
