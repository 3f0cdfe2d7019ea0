-- Writes into a buffer, one after another.
use Rattle.std.proofs.Common.{◌≡◌, ℕ, ◌+◌, ◌-◌, ◌<◌, ◌≤◌, List, [], ◌∷◌, ◌++◌, length, take, drop, set, sym, refl, ap, ◌∙◌, subst, add-zero, zero-add, add-one, arith, length-append, length-set, take_at}
use lib.Seq.{paste}
use borrow.Rule.Slice.PartMut.{put_mid}
use Rattle.std.proofs.lemmas.List.{set_split, length-take, length-drop, drop-drop, take-append-drop}
use Rattle.std.proofs.lemmas.List.Edits.{paste_all, paste-paste}
use Rattle.writer.specs.Places.{placed, Wrote}

-- one octet
pub wrote_one : (d : List ℕ) (at b : ℕ) → at < length d → Wrote d at (b ∷ []) (set d at b) (at + 1)
wrote_one d at b h =
    record { after = rw (set_split d at b h, add-one at); place = refl; len = length-set d at b }

length-placed : (d : List ℕ) (at : ℕ) (w : List ℕ) → at + length w ≤ length d → length (placed d at w) ≡ length d
length-placed d at w h = simp (length-append, length-take, length-drop) (omega arith)

pub as_paste : (d : List ℕ) (at : ℕ) (w : List ℕ) → placed d at w ≡ paste d at w (length w)
as_paste d at w = sym (paste_all d at w (length w) refl)

-- nothing
pub wrote_none : (d : List ℕ) (at : ℕ) → at ≤ length d → Wrote d at [] d at
wrote_none d at h =
    record { after = rw (add-zero at) (sym (take-append-drop at d)); place = sym (add-zero at); len = refl }

-- one write after another
pub wrote_then :
    {d : List ℕ} {at : ℕ} {v e : List ℕ} {p : ℕ} {w f : List ℕ} {q : ℕ}
    → at + length v ≤ length d
    → Wrote d at v e p
    → Wrote e p w f q
    → Wrote d at (v ++ w) f q
wrote_then {d} {at} {v} {e} {p} {w} {f} {q} h x y =
    let a : placed e p w ≡ paste (paste d at v (length v)) (at + length v) w (length w) =
    rw (as_paste e p w, x.after, x.place, as_paste d at v)
    in
    let b = paste-paste d at v w (length v) (length w) refl refl (omega arith) in
    let c : paste d at (v ++ w) (length v + length w) ≡ placed d at (v ++ w) =
    rw (← length-append v w) (sym (as_paste d at (v ++ w)))
    in
    record { after = y.after ∙ (a ∙ (b ∙ c)); place = rw length-append (omega (arith, x, y)); len = y.len ∙ x.len }

-- the same text in other words
pub wrote_as :
    {d : List ℕ} {at : ℕ} {v w e : List ℕ} {p : ℕ}
    → v ≡ w
    → Wrote d at v e p
    → Wrote d at w e p
wrote_as {d} {at} {v} {w} {e} {p} h x = subst (λ u. Wrote d at u e p) h x

-- a write to a part
pub wrote_part :
    (d : List ℕ) (at k : ℕ) (w v : List ℕ)
    → v ≡ w
    → at + length w ≤ length d
    → k ≡ length w
    → Wrote d at w (put_mid at k d v) (at + length w)
wrote_part d at k w v e h l =
    let g : put_mid at k d v ≡ placed d at w = rw (e, l) (ap (λ t. take at d ++ (w ++ t)) (drop-drop (length w) at d)) in
    record { after = g; place = refl; len = ap length g ∙ length-placed d at w h }

-- the whole, from the front
pub wrote_front : {d w e : List ℕ} {p : ℕ} → Wrote d 0 w e p → e ≡ w ++ drop (length w) d
wrote_front {d} {w} {e} {p} x = x.after ∙ ap (λ n. w ++ drop n d) (zero-add (length w))

-- what was written at the front
pub wrote_whole : {d w e : List ℕ} {p : ℕ} → Wrote d 0 w e p → take p e ≡ w
wrote_whole {d} {w} {e} {p} x =
    let n : p ≡ length w = omega (arith, x.place) in
    ap (λ (k : ℕ). take k e) n ∙ ap (take (length w)) (wrote_front x) ∙ take_at w (drop (length w) d) (length w) refl

pub wrote_taken : {d w e : List ℕ} {p : ℕ} → Wrote d 0 w e p → take (p - 0) e ≡ w
wrote_taken {d} {w} {e} {p} x = ap (λ (k : ℕ). take k e) (let n : p - 0 ≡ p = omega arith in n) ∙ wrote_whole x
