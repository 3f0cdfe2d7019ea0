-- A stretch of a run whose owner holds one number live at both ends is a stretch through which it holds it: nothing is issued or withdrawn.
use mathlib.Core.Path.{◌≡◌, refl, sym, ◌∙◌, ap, subst}
use mathlib.Core.Logic.{◌⊎◌, inl, inr}
use mathlib.Core.Bool.{Bool, true, false}
use Prim.Native.Nat.{ℕ, zero, suc, ◌+◌, ◌≤◌, ◌<◌}
use native.Mathlib.Omega.{arith}
use native.Mathlib.Nat.{add-zero, zero-add}
use Rattle.flooding.specs.Copies.{Topology, Held, none, held, Holdings, Live, NotLive, Copy}
use Rattle.flooding.specs.CopyTicks.{Turns}
use Rattle.flooding.specs.Stretches.{KeepsCircuits, LeftAlone, none_kept, held_kept, Step, HeldStretch, bit, count_of, InStep}
use Rattle.flooding.specs.CopyRuns.{Slot, View, Call, other, issue, withdraw, Ticks, Stretch, begun, with_call, with_tick}
use Rattle.flooding.specs.Convergence.{HeldAtEnds}
use Rattle.flooding.specs.Consistency.{Allowed, Consistent, ConsistentView}
use Rattle.flooding.proofs.Tests.{outcome, is_true, is_false, clash}
use Rattle.flooding.proofs.Invariant.{consistent_in_step}
use Rattle.flooding.proofs.RunsConsistent.{consistent_call, consistent_tick}

-- the same calls and ticks, the first first
data Forward (Q : Topology) : View → View → ℕ → ℕ → Type 0 where
  nothing : {v : View} → Forward Q v v 0 0
  call_first : {v w z : View} {m d : ℕ} → Call Q v w → Forward Q w z m d → Forward Q v z m d
  tick_first : {v w z : View} {m d : ℕ} {b : Bool} → Ticks b v w → KeepsCircuits Q w.topology → Forward Q w z m d →
      Forward Q v z (suc m) (bit b + d)

turned : {Q : Topology} {v w z : View} {m d m' d' : ℕ} → Stretch Q v w m d → Forward Q w z m' d' → Forward Q v z (m + m') (d + d')
turned {m' = m'} {d' = d'} (begun k) r = rw (zero-add m', zero-add d') r
turned (with_call y c k) r = turned y (call_first c r)
turned {Q} {v} {w} {z} {m' = m'} {d' = d'} (with_tick {ticks = m} {missing = d} {missed = b} y t k) r =
    let e : m + suc m' ≡ suc m + m' = omega arith in
    let f : d + (bit b + d') ≡ d + bit b + d' = omega arith in
    subst (λ (i : ℕ). Forward Q v z i (d + bit b + d')) e (subst (λ (i : ℕ). Forward Q v z (m + suc m') i) f (turned y (tick_first t k r)))

forward : {Q : Topology} {v w : View} {m d : ℕ} → Stretch Q v w m d → Forward Q v w m d
forward {Q} {v} {w} {m} {d} y = subst (λ (i : ℕ). Forward Q v w i d) (add-zero m) (subst (λ (i : ℕ). Forward Q v w (m + 0) i) (add-zero d) (turned y nothing))

-- numbers only rise
tick_last : {b : Bool} {v w : View} → Ticks b v w → v.slot.last ≤ w.slot.last
tick_last {b} {v} {w} (e, f) = elim f.reissue [
  | inl q ↦ let z : w.slot.last ≡ v.slot.last = ap (λ (S : Slot). S.last) q.0 in omega arith
  | inr i ↦ let z = i.last in omega arith
]

call_last : {Q : Topology} {v w : View} → Call Q v w → v.slot.last ≤ w.slot.last
call_last {Q} {v} {w} (other e f o) = let z : w.slot.last ≡ v.slot.last = ap (λ (S : Slot). S.last) f in omega arith
call_last (issue e i) = let z = i.last in omega arith
call_last {Q} {v} {w} (withdraw e f i) = let z : w.slot.last ≡ v.slot.last = ap (λ (S : Slot). S.last) f in omega arith

last_rises : {Q : Topology} {v z : View} {m d : ℕ} → Forward Q v z m d → v.slot.last ≤ z.slot.last
last_rises nothing = omega arith
last_rises (call_first c r) = omega (arith, call_last c, last_rises r)
last_rises (tick_first t k r) = omega (arith, tick_last t, last_rises r)

-- an inactive slot stays so, or issues
stays_inactive : {Q : Topology} {v z : View} {m d : ℕ} → v.topology.active ≡ false → Forward Q v z m d →
    (z.topology.active ≡ false) ⊎ (v.slot.last < z.slot.last)
stays_inactive a nothing = inl a
stays_inactive a (call_first (other e f o) r) =
    elim (stays_inactive (o.active ∙ a) r) [ inl i ↦ inl i | inr i ↦ inr (omega (arith, call_last (other e f o))) ]
stays_inactive a (call_first (issue e i) r) = let q = i.last in inr (omega (arith, last_rises r))
stays_inactive {Q} a (call_first (withdraw e f i) r) =
    elim (stays_inactive i.inactive r) [ inl j ↦ inl j | inr j ↦ inr (omega (arith, call_last {Q = Q} (withdraw e f i))) ]
stays_inactive {Q} {v} {z} a (tick_first {w = w} t k r) = elim (outcome w.topology.active) [
  | is_true b ↦ clash (t.1.stays_active b).0 a
  | is_false b ↦ elim (stays_inactive b r) [ inl e ↦ inl e | inr e ↦ inr (omega (arith, tick_last t)) ]
]

left_alone_trans : {Q : Topology} {x : ℕ} {a b c : Held} → LeftAlone Q x a b → LeftAlone Q x b c → LeftAlone Q x a c
left_alone_trans none_kept q = q
left_alone_trans (held_kept a b d e u) (held_kept a' b' d' e' u') =
    held_kept (a' ∙ a) (b' ∙ b) (d' ∙ d) (λ i o. ((e' i o).0 ∙ (e i o).0, (e' i o).1 ∙ (e i o).1)) (u' ∙ u)

left_alone_refl : {Q : Topology} {x : ℕ} (h : Held) → LeftAlone Q x h h
left_alone_refl none = none_kept
left_alone_refl (held k) = held_kept refl refl refl (λ i o. (refl, refl)) refl

-- one more in front
abbrev front : {A : Type 0} → A → (ℕ → A) → ℕ → A
front a f zero = a
front a f (suc k) = f k

count-front : (b : Bool) (f : ℕ → Bool) (m : ℕ) → count_of (front b f) (suc m) ≡ bit b + count_of f m
unfolding count_of
count-front b f zero = omega arith
count-front b f (suc m) = omega (arith, count-front b f m)

-- the ticks as one held stretch from s on, with what was missed; what is held at the end, the calls after the last tick left alone
pub record Along (Q : Topology) (n T m d : ℕ) (s e : Holdings) : Type 0 where
  pub stretch : HeldStretch Q n T m
  pub starts : stretch.holdings 0 ≡ s
  pub counted : count_of stretch.missed m ≡ d
  pub ends : (x : ℕ) → LeftAlone Q x (stretch.holdings m x) (e x)

module _ (Q : Topology) (n : ℕ) where
  along_none : {T : ℕ} {s e : Holdings} → ((x : ℕ) → LeftAlone Q x (s x) (e x)) → Along Q n T 0 0 s e
  unfolding count_of
  along_none {T} {s} {e} h = record {
    stretch = record { holdings = λ _. s; missed = λ _. false; tick = λ k i. absurd (omega arith) };
    starts = refl;
    counted = refl;
    ends = h;
  }

  along_more : {T m d : ℕ} {b : Bool} {s a e : Holdings} → Step Q n b (suc T) s a → Along Q n (suc T) m d a e → Along Q n T (suc m) (bit b + d) s e
  along_more {T} {m} {d} {b} {s} {a} {e} k r = record {
    stretch = record { holdings = front s r.stretch.holdings; missed = front b r.stretch.missed; tick = at };
    starts = refl;
    counted = count-front b r.stretch.missed m ∙ ap (λ (i : ℕ). bit b + i) r.counted;
    ends = r.ends;
  }
    where
      at : (i : ℕ) → i < suc m → Step Q n (front b r.stretch.missed i) (T + suc i) (front s r.stretch.holdings i) (r.stretch.holdings i)
      at zero h =
          let q : suc T ≡ T + suc zero = omega arith in
          subst (λ (t : ℕ). Step Q n b t s (r.stretch.holdings 0)) q (subst (λ (z : Holdings). Step Q n b (suc T) s z) (sym r.starts) k)
      at (suc i) h =
          let q : suc T + suc i ≡ T + suc (suc i) = omega arith in
          subst (λ (t : ℕ). Step Q n (r.stretch.missed i) t (r.stretch.holdings i) (r.stretch.holdings (suc i))) q (r.stretch.tick i (omega arith))

  -- the slot is active with number n from v to z
  module _ {z : View} (za : z.topology.active ≡ true) (zn : z.slot.last ≡ n) where
    stays_active : {v : View} {m d : ℕ} → n ≤ v.slot.last → Forward Q v z m d → v.topology.active ≡ true
    stays_active {v} i r = elim (outcome v.topology.active) [
      | is_true a ↦ a
      | is_false a ↦ elim (stays_inactive a r) [ inl e ↦ clash za e | inr e ↦ absurd (omega arith) ]
    ]

    along : {v : View} {m d : ℕ} → Forward Q v z m d → (s : Holdings) → ((x : ℕ) → LeftAlone Q x (s x) (v.holdings x)) → v.slot.last ≡ n →
        Along Q n v.clock m d s z.holdings
    along nothing s h l = along_none h
    along {v} {m} {d} (call_first {w = w} (other e f o) r) s h l =
        let q : w.slot.last ≡ n = ap (λ (S : Slot). S.last) f ∙ l in
        subst (λ (T : ℕ). Along Q n T m d s z.holdings) e (along r s (λ x. left_alone_trans (h x) (o.left_alone x)) q)
    along (call_first (issue e i) r) s h l = let q = i.last in absurd (omega (arith, last_rises r))
    along (call_first {w = w} (withdraw e f i) r) s h l =
        let q : w.slot.last ≡ n = ap (λ (S : Slot). S.last) f ∙ l in
        clash (stays_active (omega arith) r) i.inactive
    along {v} (tick_first {w = w} {m = m} {d = d} {b = b} t k r) s h l =
        let f = t.1 in
        let a : w.topology.active ≡ true = stays_active (omega (arith, tick_last t)) r in
        let q : w.slot.last ≡ n = omega (arith, tick_last t, last_rises r) in
        let g : f.reissued ≡ f.aged = elim f.reissue [ inl i ↦ i.1 | inr i ↦ let y = i.last in absurd (omega arith) ] in
        let u : Live n (f.aged v.topology.owner) = subst (λ (y : ℕ). Live y (f.aged v.topology.owner)) l (f.stays_active a).1 in
        let step : Step Q n b (suc v.clock) s w.holdings = record {
          topology = w.topology;
          keeps_circuits = k;
          before_tick = v.holdings;
          left_alone = h;
          tick = record {
            aged = f.aged;
            ages = f.ages;
            owner_keeps = subst (λ (y : ℕ). Live n (f.aged y)) (sym f.owner) u;
            order = f.order;
            every = f.every;
            turns = subst (λ (y : Holdings). Turns w.topology b (suc v.clock) f.order y w.holdings) g f.turns;
          };
        } in
        along_more step (subst (λ (T : ℕ). Along Q n T m d w.holdings z.holdings) t.0 (along r w.holdings (λ x. left_alone_refl (w.holdings x)) q))

-- an owner that holds n live has an active slot, whose last number n is
pub active_with : {P : Topology} {clock : ℕ} {S : Slot} {s : Holdings} (n : ℕ) → 1 ≤ n → Consistent P clock S s → Live n (s P.owner) → (P.active ≡ true) × (S.last ≡ n)
active_with {P} {clock} {S} {s} n one Z l = elim (outcome P.active) [
  | is_true a ↦ (a, same (s P.owner) (Z.owner_holds a) l)
  | is_false a ↦ absurd (ended (s P.owner) (Z.allowed P.owner) l (Z.not_live a))
]
  where
    same : (h : Held) → Live S.last h → Live n h → S.last ≡ n
    same none a b = absurd a
    same (held k) a b = omega arith

    ended : (h : Held) → Allowed S clock h → Live n h → NotLive h → ⊥
    ended none a l e = l
    ended (held k) (inl (m, q, i, j, z, y, u)) l e = omega arith
    ended (held k) (inr (z, inl y)) l e = omega arith
    ended (held k) (inr (z, inr (m, y, j, i))) l e = omega arith

keeps_start : {Q : Topology} {v w : View} {m d : ℕ} → Stretch Q v w m d → KeepsCircuits Q v.topology
keeps_start (begun k) = k
keeps_start (with_call y c k) = keeps_start y
keeps_start (with_tick y t k) = keeps_start y

keeps_end : {Q : Topology} {v w : View} {m d : ℕ} → Stretch Q v w m d → KeepsCircuits Q w.topology
keeps_end (begun k) = k
keeps_end (with_call y c k) = k
keeps_end (with_tick y t k) = k

pub stretch_consistent : {Q : Topology} {v w : View} {m d : ℕ} → Stretch Q v w m d → ConsistentView v → ConsistentView w
stretch_consistent (begun k) Z = Z
stretch_consistent (with_call y c k) Z = consistent_call c (stretch_consistent y Z)
stretch_consistent (with_tick y t k) Z = consistent_tick t (stretch_consistent y Z)

module _ {Q : Topology} {v w : View} {m d n : ℕ} {k : Copy} (y : Stretch Q v w m d) (Z : ConsistentView v) (H : HeldAtEnds Q v w n k) where
  live_start : Live n (v.holdings v.topology.owner)
  live_start = rw ((keeps_start y).owner, H.at_start) H.number_at_start

  live_end : Live n (w.holdings w.topology.owner)
  live_end = rw ((keeps_end y).owner, H.at_end) H.number_at_end

  pub held-through : Along Q n v.clock m d v.holdings w.holdings
  held-through =
      let a = active_with n H.numbered Z live_start in
      let b = active_with n H.numbered (stretch_consistent y Z) live_end in
      along Q n b.0 b.1 (forward y) v.holdings (λ x. left_alone_refl (v.holdings x)) a.1

  pub in_step_at_start : InStep Q n v.holdings
  in_step_at_start =
      let a = active_with n H.numbered Z live_start in
      let G : InStep v.topology n v.holdings =
      subst (λ (i : ℕ). InStep v.topology i v.holdings) a.1 (consistent_in_step v.topology v.clock v.slot Z a.0) in
      record { left = G.left; positive = G.positive; conforming = G.conforming; owner_holds = rw H.at_start H.number_at_start }
