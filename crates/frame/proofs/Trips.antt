-- Every message that can be said reads back, and every frame that was read is written octet for octet.
use Rattle.std.proofs.Common.{◌≡◌, ℕ, List, drop, Some, Ok, Option, Result, sym, refl, ap, ◌∙◌, subst, arith}
use Rattle.fault.specs.declared.FrameFault.{FrameFault}
use Rattle.fault.specs.Order.{frame_rank}
use Rattle.fault.specs.Refusals.{frame_place}
use Rattle.fault.proofs.Laws.{answers, none_of, of_none}
use Rattle.octets.specs.Octets.{Octets}
use Rattle.octets.proofs.Numbers.{value-octets}
use Rattle.frame.specs.declared.kind.Kind.{Kind}
use Rattle.frame.specs.declared.kind.Kind.TheVariants.{Lsp, Csnp, Psnp}
use Rattle.frame.specs.declared.message.Message.{Message}
use Rattle.frame.specs.Meaning.{message_said, OwnParts, content_octets}
use Rattle.frame.specs.Messages.{LspPdu, CsnpPdu, PsnpPdu, Pdu, lsp, csnp, psnp, encode}
use Rattle.frame.specs.Reading.{kind_of, header_faults, kind_faults, faults, refusal, said, decode}
use Rattle.frame.specs.Trip.{Reads, content_place, Fits, ReadsBack, WritesBack, ReadFits}
use Rattle.frame.proofs.Heads.{NoFaults, Heads, answered_ok, answered_is, kind_is, header-none, heads_of}
use Rattle.frame.proofs.Lsps.{Lays, lays, lsp_says, lsp_none, lsp_back, lsp_fitting}
use Rattle.frame.proofs.Summaries.{psnp_heads, psnp_says, psnp_none, psnp_back, psnp_fitting, csnp_heads, csnp_says, csnp_none, csnp_back, csnp_fitting}

-- the header's faults and those of the kind
split : (f : List ℕ) → NoFaults (faults f) → NoFaults (header_faults f) × NoFaults (kind_faults (kind_of f) f)
split f z = ((z.0, (z.1.0, (z.1.1.0, (z.1.1.1.0, (z.1.1.1.1.0, tt))))), z.1.1.1.1.1)

join : (f : List ℕ) → NoFaults (header_faults f) → NoFaults (kind_faults (kind_of f) f) → NoFaults (faults f)
join f z w = (z.0, (z.1.0, (z.1.1.0, (z.1.1.1.0, (z.1.1.1.1.0, w)))))

-- a frame that begins as a kind, without that kind's faults, says what it says
pub decodes : (f : List ℕ) (k : Kind) → Heads f k → NoFaults (kind_faults (Some k) f) → decode f ≡ Ok (said k f)
decodes f k h z =
    let e : kind_of f ≡ Some k = kind_is f k h in
    let w : NoFaults (kind_faults (kind_of f) f) = subst (λ (o : Option Kind). NoFaults (kind_faults o f)) (sym e) z in
    answered_ok (refusal f) (kind_of f) k f (of_none frame_rank frame_place (faults f) (join f (header-none f k h) w)) e

-- what a frame that was read is like
pub was_read : (f : List ℕ) (m : Pdu) → decode f ≡ Ok m → (k : Kind) × Heads f k × NoFaults (kind_faults (Some k) f) × (said k f ≡ m)
was_read f m h =
    let a = answered_is (refusal f) (kind_of f) f m h in
    let z = split f (none_of frame_rank frame_place (faults f) a.1) in
    (a.0, heads_of f a.0 z.0 a.2, subst (λ (o : Option Kind). NoFaults (kind_faults o f)) a.2 z.1, a.3)

pub reads_back : ReadsBack
reads_back (lsp m) h =
    let l : Lays (encode (lsp m)) m = lays m (omega (arith, h.lifetime)) h.id h.number (omega (arith, h.body)) in
    decodes (encode (lsp m)) Lsp l.heads (lsp_none (encode (lsp m)) m l h) ∙ ap (λ (x : LspPdu). Ok (lsp x)) (lsp_says (encode (lsp m)) m l)
reads_back (csnp m) h =
    let s = value-octets 7 m.source h.source in
    let a = value-octets 8 m.start h.start in
    let b = value-octets 8 m.end h.end in
    decodes (encode (csnp m)) Csnp (csnp_heads m h.few) (csnp_none (encode (csnp m)) m h s a b refl)
    ∙ ap (λ (x : CsnpPdu). Ok (csnp x)) (csnp_says (encode (csnp m)) m h s a b refl)
reads_back (psnp m) h =
    let s = value-octets 7 m.source h.source in
    decodes (encode (psnp m)) Psnp (psnp_heads m h.few) (psnp_none (encode (psnp m)) m h s refl)
    ∙ ap (λ (x : PsnpPdu). Ok (psnp x)) (psnp_says (encode (psnp m)) m h s refl)

said_back : (f : List ℕ) (k : Kind) → Octets f → Heads f k → NoFaults (kind_faults (Some k) f) → encode (said k f) ≡ f
said_back f Lsp o h z = lsp_back f o h
said_back f Csnp o h z = csnp_back f o h z
said_back f Psnp o h z = psnp_back f o h z

pub writes_back : WritesBack
writes_back f m o h = let w = was_read f m h in ap encode (sym w.3) ∙ said_back f w.0 o w.1 w.2

said_fits : (f : List ℕ) (k : Kind) → Octets f → Heads f k → NoFaults (kind_faults (Some k) f) → Fits (said k f)
said_fits f Lsp o h z = lsp_fitting f o h z
said_fits f Csnp o h z = csnp_fitting f o h z
said_fits f Psnp o h z = psnp_fitting f o h z

pub read_fits : ReadFits
read_fits f m o h = let w = was_read f m h in subst Fits w.3 (said_fits f w.0 o w.1 w.2)

pub reads : (f : List ℕ) (answer : Result Pdu FrameFault) → Octets f → decode f ≡ answer → Reads f answer
reads f answer o e =
    record {
      is = e;
      soonest = answers frame_rank frame_place (faults f);
      back = λ m h. writes_back f m o (e ∙ h);
      fits = λ m h. read_fits f m o (e ∙ h);
    }

-- what a message hands out stands in its frame
pub own_content : (f : List ℕ) (m : Message) → OwnParts f m → content_octets m ≡ drop (content_place (message_said m)) f
own_content f (Message.Lsp m) h = h
own_content f (Message.Csnp m) h = h.0
own_content f (Message.Psnp m) h = h.0
