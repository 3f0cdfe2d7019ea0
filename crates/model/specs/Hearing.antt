-- What a router that hears a message then holds: the rules for an LSP, for a summary's entries, and for what a CSNP does not list.
-- 'Here' is the port on which the message was heard. Flags that no rule names stay as they were.
use Rattle.std.specs.Prelude.{ℕ, ◌+◌, max, Bool, true, false, cond, not, ◌&&◌, map, length, Some, None, Option, ◌==◌, nat_eq, nat_le, nat_lt}
use Rattle.frame.specs.Messages.{LspPdu, SnpEntry, CsnpPdu, Pdu, lsp, csnp, psnp}
use Rattle.record.specs.declared.form.Recency.{Recency}
use Rattle.record.specs.declared.form.Recency.TheVariants.{Newer, Same, Older}
use Rattle.model.specs.Lists.{any, through}
use Rattle.model.specs.Flags.{Flags, only, join, except}
use Rattle.model.specs.Records.{HeldRecord, is_live, purge, placeholder, order, marked, with_srm, with_ssn, stored_over, last_number, owning_slot, system_in}
use Rattle.model.specs.Databases.{Database, find, placed, amended}
use Rattle.model.specs.Sending.{issue, record_of}
use Rattle.model.specs.State.{Slot, Node, Interface, slot, with_slot, holding, flooding}

-- a slot issues: the slot becomes z, and its record of number n is stored and flooded
abbrev pub issuing : Flags → ℕ → Slot → ℕ → Node → Node
issuing serving k z n y = with_slot k z (flooding serving (issue y.router.system k n z.body) y)

-- an LSP against what is held. With nothing held a live one is newer, and a purge is dropped
abbrev pub lsp_recency : LspPdu → Option HeldRecord → Option Recency
lsp_recency m None = cond (nat_le 1 m.lifetime) (Some Newer) None
lsp_recency m (Some x) = Some (order m.number m.lifetime x)

-- the purge that an LSP leaves: of the heard number, with the heard flag octet; its check octets and body are dropped
abbrev pub heard_purge : LspPdu → HeldRecord
heard_purge m = purge m.id m.number m.flags

-- the record that an LSP leaves: an LSP of lifetime 0 is heard as a purge
abbrev pub heard_record : LspPdu → HeldRecord
heard_record m = cond (nat_le 1 m.lifetime) (record_of m) (heard_purge m)

-- own system identifier, and newer than held, or live with nothing held. An active slot reissues under the heard number + 1;
-- after the last number it turns inactive. An inactive slot, and no slot, stores a purge of the heard number. Each is flooded, and a smaller last number rises
abbrev pub own_purged : Interface → LspPdu → Node → Node
own_purged v m y = flooding v.serving (heard_purge m) y

abbrev pub own_heard : Interface → LspPdu → Option ℕ → Node → Node
own_heard v m None y = own_purged v m y
own_heard v m (Some k) y =
    cond ((slot y.router k).active && nat_lt m.number last_number)
    (issuing v.serving k
    (record { last = max (slot y.router k).last (m.number + 1); active = true; body = (slot y.router k).body })
    (m.number + 1) y)
    (with_slot k
    (record { last = max (slot y.router k).last m.number; active = false; body = (slot y.router k).body })
    (own_purged v m y))

-- newer: SRM cleared here and set on all other ports in service; SSN cleared on those, and on point-to-point set here
abbrev pub newer_marked : Interface → HeldRecord → HeldRecord
newer_marked v x =
    marked x
    (join (except x.srm (only v.port)) (except v.serving (only v.port)))
    (except (cond v.broadcast x.ssn (join x.ssn (only v.port))) (except v.serving (only v.port)))
    x.wait

abbrev pub newer_stored : Interface → LspPdu → Node → Node
newer_stored v m y = holding (placed (newer_marked v (stored_over (find m.id y.records) (heard_record m))) y.records) y

-- same: SRM cleared here, on point-to-point SSN set here
abbrev pub same_marked : Interface → HeldRecord → HeldRecord
same_marked v x =
    marked x (except x.srm (only v.port)) (cond v.broadcast x.ssn (join x.ssn (only v.port))) x.wait

-- older: SRM set here, SSN cleared here
abbrev pub older_marked : Interface → HeldRecord → HeldRecord
older_marked v x = marked x (join x.srm (only v.port)) (except x.ssn (only v.port)) x.wait

abbrev pub lsp_by_recency : Interface → LspPdu → Option Recency → Node → Node
lsp_by_recency v m None y = y
lsp_by_recency v m (Some Newer) y =
    cond (system_in m.id == y.router.system)
    (own_heard v m (owning_slot y.router.system m.id) y)
    (newer_stored v m y)
lsp_by_recency v m (Some Same) y = holding (amended (same_marked v) m.id y.records) y
lsp_by_recency v m (Some Older) y = holding (amended (older_marked v) m.id y.records) y

abbrev pub heard_lsp : Interface → LspPdu → Node → Node
heard_lsp v m y = lsp_by_recency v m (lsp_recency m (find m.id y.records)) y

-- an entry for a record that is held; check octets are not compared.
-- Same: on point-to-point SRM cleared here. Older: SSN cleared and SRM set here. Newer: SSN set here, a wait above 0 becomes 60, on point-to-point SRM cleared here
abbrev pub entry_marked : Interface → Recency → HeldRecord → HeldRecord
entry_marked v Same x = cond v.broadcast x (with_srm (except x.srm (only v.port)) x)
entry_marked v Older x = older_marked v x
entry_marked v Newer x =
    marked x
    (cond v.broadcast x.srm (except x.srm (only v.port)))
    (join x.ssn (only v.port))
    (cond (nat_le 1 x.wait) 60 x.wait)

-- an entry for a record that is not held makes a placeholder where lifetime and number are not 0, check octets not 0000, and fewer than 32 are held
abbrev pub makes_placeholder : SnpEntry → Database → Bool
makes_placeholder e d =
    nat_le 1 e.lifetime && (nat_le 1 e.number && (not (e.check.x == 0 && e.check.y == 0) && nat_lt (length d) 32))

abbrev pub entry_compared : Interface → SnpEntry → Option HeldRecord → Database → Database
entry_compared v e None d = cond (makes_placeholder e d) (placed (with_ssn (only v.port) (placeholder e.id)) d) d
entry_compared v e (Some x) d = amended (entry_marked v (order e.number e.lifetime x)) e.id d

abbrev pub heard_entry : Interface → SnpEntry → Database → Database
heard_entry v e d = entry_compared v e (find e.id d) d

-- a live record between a CSNP's start and end that it does not list
abbrev pub unlisted : CsnpPdu → HeldRecord → Bool
unlisted m x = is_live x && (nat_le m.start x.id && (nat_le x.id m.end && not (any (λ e. nat_eq e.id x.id) m.entries)))

-- after a CSNP's entries, in order, SRM is set here on the unlisted records
abbrev pub heard_csnp : Interface → CsnpPdu → Database → Database
heard_csnp v m d =
    map (λ x. cond (unlisted m x) (with_srm (join x.srm (only v.port)) x) x) (through (heard_entry v) m.entries d)

-- a router that is not designated ignores a PSNP on broadcast
abbrev pub ignored : Interface → Pdu → Bool
ignored v (lsp m) = false
ignored v (csnp m) = false
ignored v (psnp m) = v.broadcast && not v.designated

abbrev pub heard : Interface → Pdu → Node → Node
heard v (lsp m) y = heard_lsp v m y
heard v (csnp m) y = holding (heard_csnp v m y.records) y
heard v (psnp m) y = cond (ignored v (psnp m)) y (holding (through (heard_entry v) m.entries y.records) y)
