-- The number of a frame on its circuit decides whether it fades.
use Rattle.std.proofs.Common.{◌≡◌, ℕ, ◌+◌, ◌%◌, ◌<◌, Bool, true, ltb, ◌≢◌, List, length, get_or, sym, refl, ap, ◌∙◌, arith}
use Rattle.std.proofs.lemmas.List.{get_or-set_same, get_or-set_other, length-set, get_or-replicate}
use Rattle.std.proofs.lemmas.Bool.{lt-ltb}
use Rattle.plant.specs.Air.{Air, Frame}
use Rattle.plant.specs.Calls.{PutOver, TakeOver}
use Rattle.spans.specs.Fades.{bit_of, one_more, fades_next, next, FaderPut, Ran, FadesByNumber}

module _ {P : Type 0} (air : P → Air) (on_put : PutOver P) (on_take : TakeOver P) (patterns : List ℕ) where
  -- the patterns stay, and a circuit's count is its number of frames modulo 64
  record Counts (c n : ℕ) (ps ns : List ℕ) : Type 0 where
    same : ps ≡ patterns
    twelve : length ns ≡ 12
    count : get_or ns c 0 ≡ n % 64

  -- what any accepted put leaves
  after : (p q : P) (ps qs ns ms : List ℕ) (c e : ℕ) (f : Frame) (missed : ℕ → Bool) → FaderPut air on_put p q ps qs ns ms c e f missed → (qs ≡ ps) × (ms ≡ next ns c)
  after p q ps qs ns ms c e f missed (FaderPut.faded _ _ _ _ s t) = (s, t)
  after p q ps qs ns ms c e f missed (FaderPut.passed _ _ s t) = (s, t)

  length-next : (ns : List ℕ) (c : ℕ) → length (next ns c) ≡ length ns
  unfolding next
  length-next ns c = length-set ns c (one_more (get_or ns c 0))

  next_same : (ns : List ℕ) (c n : ℕ) → c < length ns → get_or ns c 0 ≡ n % 64 → get_or (next ns c) c 0 ≡ (n + 1) % 64
  unfolding next
  next_same ns c n h e = get_or-set_same ns c (one_more (get_or ns c 0)) 0 h ∙ omega arith

  next_other : (ns : List ℕ) (d c : ℕ) → d ≢ c → get_or (next ns d) c 0 ≡ get_or ns c 0
  unfolding next
  next_other ns d c h = get_or-set_other ns d c (one_more (get_or ns d 0)) 0 (λ e. h (sym e))

  counts : (c n : ℕ) (p : P) (ps ns : List ℕ) → c < 12 → Ran air on_put on_take patterns c n p ps ns → Counts c n ps ns
  counts c n p ps ns l Ran.begun = record { same = refl; twelve = refl; count = get_or-replicate 12 c 0 0 l }
  counts c n p ps ns l (Ran.put_here {n = m} {p = o} {ps = os} {ns = bs} {e = e} {f = f} {missed = missed} r v) =
      let h = counts c m o os bs l r in
      let s = after o p os ps bs ns c e f missed v in
      record {
        same = s.0 ∙ h.same;
        twelve = ap length s.1 ∙ (length-next bs c ∙ h.twelve);
        count = ap (λ xs. get_or xs c 0) s.1 ∙ next_same bs c m (omega (arith, h.twelve)) h.count;
      }
  counts c n p ps ns l (Ran.put_elsewhere {p = o} {ps = os} {ns = bs} {d = d} {e = e} {f = f} {missed = missed} ne r v) =
      let h = counts c n o os bs l r in
      let s = after o p os ps bs ns d e f missed v in
      record {
        same = s.0 ∙ h.same;
        twelve = ap length s.1 ∙ (length-next bs d ∙ h.twelve);
        count = ap (λ xs. get_or xs c 0) s.1 ∙ (next_other bs d c ne ∙ h.count);
      }
  counts c n p ps ns l (Ran.taken {p = o} {ps = os} {ns = bs} r v) =
      let h = counts c n o os bs l r in
      record {
        same = v.same_patterns ∙ h.same;
        twelve = ap length v.same_count ∙ h.twelve;
        count = ap (λ xs. get_or xs c 0) v.same_count ∙ h.count;
      }

  bit_mod : (x m n : ℕ) → m ≡ n % 64 → bit_of x m ≡ bit_of x n
  bit_mod x m n h = let e : m % 64 ≡ n % 64 = omega arith in rw e refl

  pub by_number : FadesByNumber air on_put on_take patterns
  unfolding fades_next
  by_number c n p ps ns l r =
      let h = counts c n p ps ns l r in
      let t : ltb c 12 ≡ true = lt-ltb c 12 l in
      rw (t, h.same) (bit_mod (get_or patterns c 0) (get_or ns c 0) n h.count)
