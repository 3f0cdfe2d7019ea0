-- What a router makes of a mention, as a function, is an instance of the rules.
use mathlib.Core.Path.{◌≡◌, refl}
use mathlib.Core.Logic.{◌≢◌, ◌⊎◌, inl, inr}
use mathlib.Core.Bool.{Bool, true, false, cond}
use Prim.Native.Nat.{ℕ, ◌%◌, ◌/◌, ◌<◌}
use native.Mathlib.Omega.{arith}
use lib.Dec.{eqb, ltb, leb}
use Rattle.flooding.specs.Copies.{Topology, Copy, Held, none, held, Mention, copy, entry, unlisted, Newer, Content}
use Rattle.flooding.specs.Rules.{Reflagged, Stored, Hears, newer_lsp, unknown_purge, same_lsp, older_lsp, unknown_not_live, unknown_entry, same_entry, older_entry, newer_entry, unlisted_none, unlisted_live, unlisted_purge}
use Rattle.flooding.specs.HeardCopies.{HeardByRule, heard, flag_set, live_rank, stored, marked, no_flags}
use Rattle.flooding.proofs.Tests.{outcome, is_true, is_false, clash, eqb_is, eqb_same, eqb_not, eqb_isnt, ltb_is, ltb_isnt, leb_is, leb_isnt}

set_same : (c : ℕ) (b : Bool) (f : ℕ → Bool) → flag_set c b f c ≡ b
set_same c b f = rw (eqb_same c)

set_other : (c e : ℕ) (b : Bool) (f : ℕ → Bool) → e ≢ c → flag_set c b f e ≡ f e
set_other c e b f n = rw (eqb_not e c n)

live_newer : (R : ℕ) → live_rank R ≡ true → Newer R none
live_newer R e = let a : 1 < R = grind arith in let b : R % 2 ≡ 0 = grind arith in (R / 2, omega arith, omega arith)

newer_live : (R : ℕ) → Newer R none → live_rank R ≡ true
newer_live R (j, e, p) = let a : 1 < R = omega arith in let b : R % 2 ≡ 0 = omega arith in grind arith

reflagged_marked : (k : Copy) (w c : ℕ) (a b : Bool) → Reflagged c k (marked k w c a b)
reflagged_marked k w c a b = record { rank = refl; lifetime = refl; content = refl; srm = λ e n. set_other c e a k.srm n; ssn = λ e n. set_other c e b k.ssn n }

wait_is : (w : ℕ) → (cond {A = ℕ} (eqb w 0) 0 60 ≡ 0) ⊎ (cond {A = ℕ} (eqb w 0) 0 60 ≡ 60)
wait_is w = elim (outcome (eqb w 0)) [ is_true i ↦ inl (rw i) | is_false i ↦ inr (rw i) ]

keeps_srm : (P : Topology) (c : ℕ) (k : Copy) → P.point_to_point c ≡ false → flag_set c (cond (P.point_to_point c) false (k.srm c)) k.srm c ≡ k.srm c
keeps_srm P c k z = rw (eqb_same c, z)

module _ (P : Topology) (x c : ℕ) (ne : x ≢ P.owner) where
  stored_is : (R L : ℕ) (C : Content) (srm ssn : ℕ → Bool) → Stored P x c R L C (stored P x c R L C srm ssn)
  stored_is R L C srm ssn = record {
    foreign = ne;
    rank = refl;
    lifetime = refl;
    content = λ i. let e : leb 1 L ≡ true = grind arith in rw e;
    wait = elim (outcome (leb 1 L)) [ is_true e ↦ inl (rw e) | is_false e ↦ inr (rw e) ];
    srm_here = rw (eqb_same c);
    ssn_here = λ a. rw (eqb_same c, a);
    elsewhere = λ e n o. (rw (eqb_not e c n, o), rw (eqb_not e c n, o));
  }

  heard_is : (w : Mention) (h : Held) → Hears P x c w h (heard P x c w h)
  unfolding heard
  heard_is (copy R L C) none = elim (outcome (live_rank R)) [
    | is_true e ↦ rw e (newer_lsp (live_newer R e) (stored_is R L C no_flags no_flags))
    | is_false e ↦ rw e (unknown_purge (λ n. clash (newer_live R n) e))
  ]
  heard_is (copy R L C) (held k) = elim (outcome (ltb k.rank R)) [
    | is_true e ↦ rw e (newer_lsp (ltb_is k.rank R e) (stored_is R L C k.srm k.ssn))
    | is_false e ↦ elim (outcome (eqb R k.rank)) [
      | is_true f ↦ rw (e, f) (same_lsp (eqb_is R k.rank f) (reflagged_marked k k.wait c _ _) refl (set_same c _ k.srm))
      | is_false f ↦ let a = ltb_isnt k.rank R e in let b = eqb_isnt R k.rank f in let d : R < k.rank = omega arith in
          rw (e, f) (older_lsp d (reflagged_marked k k.wait c _ _) refl (set_same c _ k.srm))
    ]
  ]
  heard_is (entry R) none = elim (outcome (live_rank R)) [
    | is_true e ↦ rw e (unknown_entry (live_newer R e) refl refl refl (set_same c _ no_flags))
    | is_false e ↦ rw e (unknown_not_live (λ n. clash (newer_live R n) e))
  ]
  heard_is (entry R) (held k) = elim (outcome (ltb k.rank R)) [
    | is_true e ↦ rw e (newer_entry (ltb_is k.rank R e) (reflagged_marked k _ c _ _) (wait_is k.wait) (set_same c _ k.ssn) (keeps_srm P c k))
    | is_false e ↦ elim (outcome (eqb R k.rank)) [
      | is_true f ↦ rw (e, f) (same_entry (eqb_is R k.rank f) (reflagged_marked k k.wait c _ _) refl (set_same c _ k.ssn) (keeps_srm P c k))
      | is_false f ↦ let a = ltb_isnt k.rank R e in let b = eqb_isnt R k.rank f in let d : R < k.rank = omega arith in
          rw (e, f) (older_entry d (reflagged_marked k k.wait c _ _) refl (set_same c _ k.srm))
    ]
  ]
  heard_is unlisted none = unlisted_none
  heard_is unlisted (held k) = elim (outcome (leb 1 k.lifetime)) [
    | is_true e ↦ rw e (unlisted_live (leb_is 1 k.lifetime e) (reflagged_marked k k.wait c _ _) refl (set_same c _ k.ssn) (set_same c _ k.srm))
    | is_false e ↦ let a = leb_isnt 1 k.lifetime e in let b : k.lifetime ≡ 0 = omega arith in rw e (unlisted_purge b)
  ]

pub heard_by_rule : HeardByRule
heard_by_rule P x c ne w h = heard_is P x c ne w h
