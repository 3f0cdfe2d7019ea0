-- The rows of the table by what they keep.
use Rattle.std.specs.Prelude.{◌≡◌, ℕ, ◌<◌, Bool, true, false, cond, List, [], length, set, is_some, is_ok, Some, None, Ok, Err, Option, Result, slice_index_or, slice_set}
use Rattle.std.proofs.Common.{sym, ap, ◌∙◌, arith}
use Rattle.std.proofs.lemmas.List.{get_or-map, length-map, map-set, get_or-set_same, set-get_or}
use Rattle.fault.specs.declared.CallFault.{CallFault}
use Rattle.fault.specs.declared.CallFault.TheVariants.{Full}
use Rattle.fault.specs.Order.{fails, unless}
use Rattle.fault.proofs.Laws.{unless_err}
use Rattle.store.specs.declared.requests.Request.{Request}
use Rattle.store.specs.declared.requests.Request.TheVariants.{Set}
use Rattle.store.specs.declared.requests.Reply.TheVariants.{Done}
use Rattle.store.specs.Asking.{reply, asked}
use Rattle.record.specs.declared.record.Record.{Record}
use Rattle.store.specs.declared.row.Row.{Row}
use Rattle.store.specs.Lists.{Lists, of_router, placed}
use Rattle.store.specs.Calls.{set_fault, is_full, Sets}
use Rattle.store.specs.Kept.{kept, all_kept}
use Rattle.store.proofs.TableLaws.{fault_is}

pub row_at : (ws : List Row) (r : ℕ) (d : Row) → r < length ws → of_router (all_kept ws) r ≡ kept (slice_index_or ws r d)
row_at ws r d l = get_or-map kept ws r d [] l

-- what was read at r is the row there
pub row_read : (ws : List Row) (r : ℕ) (w : Row) → r < length ws → w ≡ slice_index_or ws r w → of_router (all_kept ws) r ≡ kept w
row_read ws r w l e = row_at ws r w l ∙ ap kept (sym e)

pub row_set : (ws : List Row) (r : ℕ) (w : Row) → r < length ws → of_router (all_kept (slice_set ws r w)) r ≡ kept w
row_set ws r w l =
    ap (λ (z : Lists). of_router z r) (map-set kept ws r w) ∙ get_or-set_same (all_kept ws) r (kept w) [] (omega (arith, length-map ws kept))

pub rows_set : (ws : List Row) (r : ℕ) (w : Row) → all_kept (slice_set ws r w) ≡ slice_set (all_kept ws) r (kept w)
rows_set ws r w = map-set kept ws r w

-- a set in one row; w was read there, and v stands there now
module _
    (ws : List Row) (r : ℕ) (w v : Row) (x : Record) (l : r < 8) (n : length ws ≡ 8) (e : of_router (all_kept ws) r ≡ kept w)
  where
    fault_of : (b : Bool) → is_full x (kept w) ≡ b → set_fault (all_kept ws) r x ≡ cond b (Some Full) None
    fault_of b h = fault_is (all_kept ws) r x l ∙ ap (λ (c : Bool). fails c Full) (ap (is_full x) e ∙ h)

    pub set_there : (is_full x (kept w) ≡ false) × (kept v ≡ placed x (kept w)) → Sets (all_kept ws) (all_kept (slice_set ws r v)) r x (Ok tt)
    set_there h =
        record {
          is = sym (ap (λ (o : Option CallFault). unless o tt) (fault_of false h.0));
          after = rows_set ws r v ∙ ap (λ (z : List Record). set (all_kept ws) r z) (h.1 ∙ ap (placed x) (sym e));
        }

    pub set_full : (is_full x (kept w) ≡ true) × (kept v ≡ kept w) → Sets (all_kept ws) (all_kept (slice_set ws r v)) r x (Err Full)
    set_full h =
        record {
          is = sym (ap (λ (o : Option CallFault). unless o tt) (fault_of true h.0));
          after = rows_set ws r v ∙ (ap (λ (z : List Record). set (all_kept ws) r z) (h.1 ∙ sym e) ∙ set-get_or (all_kept ws) r []);
        }

-- a set that is refused, as one of the calls
pub set_refused :
    (t u : Lists) (r : ℕ) (x : Record) (a : Result (Unit {0}) CallFault) (q : Request) (e : CallFault) →
    q ≡ Set x → Sets t u r x a → a ≡ Err e → (Err e ≡ reply t r q) × (u ≡ asked t r q)
set_refused t u r x a q e p s w =
    let f : set_fault t r x ≡ Some e = unless_err (set_fault t r x) tt e (sym s.is ∙ w) in
    let m : reply t r (Set x) ≡ Err e = ap (λ (o : Option CallFault). unless o Done) f in
    let n : asked t r (Set x) ≡ t = ap (λ (o : Option CallFault). cond (is_some o) t (slice_set t r (placed x (of_router t r)))) f in
    let k : u ≡ t = s.after ∙ ap (λ (b : Result (Unit {0}) CallFault). cond (is_ok b) (slice_set t r (placed x (of_router t r))) t) w in
    (sym m ∙ ap (reply t r) (sym p), k ∙ (sym n ∙ ap (asked t r) (sym p)))
