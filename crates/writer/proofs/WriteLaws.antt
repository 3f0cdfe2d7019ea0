-- What writing a message answers.
use Rattle.std.proofs.Common.{◌≡◌, ℕ, ◌^◌, ◌<◌, ◌≤◌, Bool, true, false, ◌||◌, ltb, List, length, Some, None, Ok, Err, Option, Result, sym, refl, ap, ◌∙◌, arith, le-ltb, lt-ltb}
use Rattle.std.specs.Option.{option_or}
use Rattle.std.proofs.lemmas.Bool.Decides.{nat_tests}
use Rattle.fault.specs.declared.FrameFault.{FrameFault}
use Rattle.fault.specs.declared.FrameFault.TheVariants.{Length, Size}
use Rattle.fault.specs.Order.{frame_rank, before, sooner, fails, first_fault}
use Rattle.fault.specs.Refusals.{frame_place}
use Rattle.fault.proofs.Laws.{foremost_over, before_trans}
use Rattle.frame.specs.declared.kind.Kind.{Kind}
use Rattle.frame.specs.declared.kind.Kind.TheVariants.{Lsp, Csnp, Psnp}
use Rattle.frame.specs.Messages.{LspPdu, Pdu, lsp, csnp, psnp, encode}
use Rattle.frame.specs.Reading.{kind_of, length_wrong, header_faults, kind_faults, refusal, said, answered, decode}
use Rattle.frame.proofs.Answering.{first_header, first_kind, first_refusal, kind_rising}
use Rattle.frame.proofs.Lsps.{lays, lsp_says}
use Rattle.writer.specs.Writing.{write_fault, in_front, Writes}

-- the kind of a written message
abbrev pub kind_as : Pdu → Kind
kind_as (lsp m) = Lsp
kind_as (csnp m) = Csnp
kind_as (psnp m) = Psnp

pub kind_written : (m : Pdu) → kind_of (encode m) ≡ Some (kind_as m)
kind_written (lsp m) = refl
kind_written (csnp m) = refl
kind_written (psnp m) = refl

-- a written header can only be at fault by its length
by_length : (a : Bool) (x : FrameFault) (r : Option FrameFault) → a ≡ false →
    option_or (fails a x) (option_or None (option_or None (option_or None (option_or r None)))) ≡ r
by_length a x None h = rw h refl
by_length a x (Some y) h = rw h refl

pub header-written : (m : Pdu) → first_fault (header_faults (encode m)) ≡ fails (length_wrong (encode m)) Length
header-written (lsp m) =
    first_header (encode (lsp m)) ∙ by_length _ _ (fails (length_wrong (encode (lsp m))) Length) (le-ltb (length (encode (lsp m))) 8 (omega arith))
header-written (csnp m) =
    first_header (encode (csnp m)) ∙ by_length _ _ (fails (length_wrong (encode (csnp m))) Length) (le-ltb (length (encode (csnp m))) 8 (omega arith))
header-written (psnp m) =
    first_header (encode (psnp m)) ∙ by_length _ _ (fails (length_wrong (encode (psnp m))) Length) (le-ltb (length (encode (psnp m))) 8 (omega arith))

-- a buffer's size is answered rather than any fault of a written frame
size_over : (m : Pdu) (w : Bool) (x : FrameFault) → option_or (fails w Length) (first_fault (kind_faults (kind_of (encode m)) (encode m))) ≡ Some x →
    before frame_rank frame_place Size x ≡ true
size_over m true x e = let p : x ≡ Length = cc in rw p refl
size_over m false x e =
    let f = encode m in
    let k = kind_faults (kind_of f) f in
    let b : before frame_rank frame_place Length x ≡ true =
    foremost_over frame_rank frame_place Length k (kind_rising (kind_of f) f) x (sym (first_kind (kind_of f) f) ∙ e)
    in
    before_trans frame_rank frame_place Size Length x refl b

pub size_first : (m : Pdu) (o : Option FrameFault) → refusal (encode m) ≡ o → sooner frame_rank frame_place (Some Size) o ≡ Some Size
size_first m None e = refl
size_first m (Some x) e =
    let f = encode m in
    let a : option_or (fails (length_wrong f) Length) (first_fault (kind_faults (kind_of f) f)) ≡ Some x =
    sym (first_refusal f ∙ ap (λ (o : Option FrameFault). option_or o (first_fault (kind_faults (kind_of f) f))) (header-written m)) ∙ e
    in
    let b : before frame_rank frame_place Size x ≡ true = size_over m (length_wrong f) x a in
    rw b refl

-- the refusals of writing
abbrev refusal_of : Pdu → Option FrameFault
refusal_of m = refusal (encode m)

fault_small : (room : ℕ) (m : Pdu) → room < 275 → write_fault room m ≡ Some Size
fault_small room m h = rw (lt-ltb room 275 h) (size_first m (refusal_of m) refl)

fault_room : (room : ℕ) (m : Pdu) → 275 ≤ room → write_fault room m ≡ refusal_of m
fault_room room m h = rw (le-ltb room 275 h) refl

refused : (m : Pdu) (old : List ℕ) (e : FrameFault) → write_fault (length old) m ≡ Some e → Writes m old old (Err e)
refused m old e h = record { is = rw h refl; after = refl; back = λ z. cc }

pub too_small : (m : Pdu) (old : List ℕ) → length old < 275 → Writes m old old (Err Size)
too_small m old h = refused m old Size (fault_small (length old) m h)

-- what reading the frame refuses
answered_err : (r : Option FrameFault) (k : Kind) (f : List ℕ) (e : FrameFault) → answered r (Some k) f ≡ Err e → r ≡ Some e
answered_err None k f e h = cc
answered_err (Some x) k f e h = cc

answered_ok : (r : Option FrameFault) (k : Kind) (f : List ℕ) (m : Pdu) → answered r (Some k) f ≡ Ok m → (r ≡ None) × (said k f ≡ m)
answered_ok None k f m h = (refl, cc)
answered_ok (Some x) k f m h = (cc, cc)

as_kind : (m : Pdu) (x : Result Pdu FrameFault) → decode (encode m) ≡ x → answered (refusal_of m) (Some (kind_as m)) (encode m) ≡ x
as_kind m x e = ap (λ (o : Option Kind). answered (refusal_of m) o (encode m)) (sym (kind_written m)) ∙ e

pub as_reading : (m : Pdu) (old : List ℕ) (e : FrameFault) → 275 ≤ length old → decode (encode m) ≡ Err e → Writes m old old (Err e)
as_reading m old e h d =
    refused m old e (fault_room (length old) m h ∙ answered_err (refusal_of m) (kind_as m) (encode m) e (as_kind m (Err e) d))

-- what is written
pub was_written : (m : Pdu) (old new : List ℕ) (n : ℕ) → 275 ≤ length old → decode (encode m) ≡ Ok m → n ≡ length (encode m) →
    new ≡ in_front (encode m) old → Writes m old new (Ok n)
was_written m old new n h d e w =
    let z : write_fault (length old) m ≡ None =
    fault_room (length old) m h ∙ (answered_ok (refusal_of m) (kind_as m) (encode m) m (as_kind m (Ok m) d)).0
    in
    record { is = rw (z, e) refl; after = w; back = λ _. d }

-- an LSP of numbers that fit their octets reads back, if it reads at all
pub lsp_again : (m : LspPdu) (x : Pdu) → m.lifetime < 65536 → m.id < 256 ^ 8 → m.number < 256 ^ 4 → length m.body ≤ 248 →
    decode (encode (lsp m)) ≡ Ok x → decode (encode (lsp m)) ≡ Ok (lsp m)
lsp_again m x ht hi hn hb d =
    let a = answered_ok (refusal_of (lsp m)) Lsp (encode (lsp m)) x (as_kind (lsp m) (Ok x) d) in
    d ∙ ap Ok (sym a.1) ∙ ap (λ (y : LspPdu). Ok (lsp y)) (lsp_says (encode (lsp m)) m (lays m ht hi hn hb))

pub four_true : (a b c : Bool) → a || (b || (c || true)) ≡ true
four_true true b c = refl
four_true false true c = refl
four_true false false true = refl
four_true false false false = refl

-- an LSP whose body is too long for a frame
pub too_long : (m : LspPdu) (old : List ℕ) → 275 ≤ length old → 248 < length m.body → Writes (lsp m) old old (Err Length)
too_long m old h b =
    let f = encode (lsp m) in
    let l : ltb 275 (length f) ≡ true = lt-ltb 275 (length f) (omega arith) in
    let w : length_wrong f ≡ true = grind (arith, nat_tests, l) in
    let r : refusal_of (lsp m) ≡ Some Length = first_refusal f ∙ rw (header-written (lsp m), w) refl in
    refused (lsp m) old Length (fault_room (length old) (lsp m) h ∙ r)
