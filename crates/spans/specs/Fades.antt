-- The meaning of a fader: which frames fade.
use Rattle.std.specs.Prelude.{◌≡◌, ℕ, ◌+◌, ◌/◌, ◌%◌, ◌^◌, ◌<◌, Bool, true, false, ◌&&◌, ◌≢◌, List, map, replicate, None, Option, ◌==◌, nat_lt, slice_index, slice_set}
use Rattle.plant.specs.Air.{Air, Frame, ends_of}
use Rattle.spans.specs.declared.fader.Fade.{Fade}
use Rattle.plant.specs.Calls.{PutOver, TakeOver, put_refusal, others}

-- each circuit's pattern, and how many frames were accepted on each circuit, modulo 64
abbrev pub patterns_of : List Fade → List ℕ
patterns_of fades = map (λ (f : Fade). f.pattern) fades

abbrev pub accepted_of : List Fade → List ℕ
accepted_of fades = map (λ (f : Fade). f.accepted) fades

-- whether bit n modulo 64 of a pattern is set, 0 being the lowest
abbrev pub bit_of : ℕ → ℕ → Bool
bit_of pattern n = pattern / 2 ^ (n % 64) % 2 == 1

-- one more, modulo 64
abbrev pub one_more : ℕ → ℕ
one_more n = (n % 64 + 1) % 64

-- whether the next frame that is accepted on a circuit fades; a plant has at most 12 circuits
unfoldable pub fades_next : List ℕ → List ℕ → ℕ → Bool
fades_next patterns accepted c = nat_lt c 12 && bit_of (slice_index patterns c) (slice_index accepted c)

-- one frame more was accepted on a circuit
unfoldable pub next : List ℕ → ℕ → List ℕ
next accepted c = slice_set accepted c (one_more (slice_index accepted c))

-- an accepted frame is counted. Where its bit is set it fades: nothing changes below, and all other ends miss it. Else it is put below
pub data FaderPut {P : Type 0} (air : P → Air) (over : PutOver P) (p q : P) (patterns new_patterns accepted new_accepted : List ℕ) (c e : ℕ) (f : Frame) (missed : ℕ → Bool) : Type 0 where
  faded :
      fades_next patterns accepted c ≡ true →
      put_refusal (air p) c e f ≡ None →
      q ≡ p →
      missed ≡ others (ends_of (air p) c) e →
      new_patterns ≡ patterns →
      new_accepted ≡ next accepted c →
      FaderPut air over p q patterns new_patterns accepted new_accepted c e f missed
  passed :
      fades_next patterns accepted c ≡ false →
      over p q c e f missed →
      new_patterns ≡ patterns →
      new_accepted ≡ next accepted c →
      FaderPut air over p q patterns new_patterns accepted new_accepted c e f missed

-- a take is the plant's below
pub record FaderTake {P : Type 0} (over : TakeOver P) (p q : P) (patterns new_patterns accepted new_accepted : List ℕ) (c e : ℕ) (got : Option Frame) : Type 0 where
  pub below : over p q c e got
  pub same_patterns : new_patterns ≡ patterns
  pub same_count : new_accepted ≡ accepted

-- a fader begun with nothing accepted has come to a plant, patterns and counts by accepted puts and takes, n of the puts on circuit c
pub data Ran {P : Type 0} (air : P → Air) (on_put : PutOver P) (on_take : TakeOver P) (patterns : List ℕ) (c : ℕ) : ℕ → P → List ℕ → List ℕ → Type 0 where
  begun : {p : P} → Ran air on_put on_take patterns c 0 p patterns (replicate 12 0)
  put_here :
      {n : ℕ} {p q : P} {ps qs ns ms : List ℕ} {e : ℕ} {f : Frame} {missed : ℕ → Bool} →
      Ran air on_put on_take patterns c n p ps ns →
      FaderPut air on_put p q ps qs ns ms c e f missed →
      Ran air on_put on_take patterns c (n + 1) q qs ms
  put_elsewhere :
      {n : ℕ} {p q : P} {ps qs ns ms : List ℕ} {d e : ℕ} {f : Frame} {missed : ℕ → Bool} →
      d ≢ c →
      Ran air on_put on_take patterns c n p ps ns →
      FaderPut air on_put p q ps qs ns ms d e f missed →
      Ran air on_put on_take patterns c n q qs ms
  taken :
      {n : ℕ} {p q : P} {ps qs ns ms : List ℕ} {d e : ℕ} {got : Option Frame} →
      Ran air on_put on_take patterns c n p ps ns →
      FaderTake on_take p q ps qs ns ms d e got →
      Ran air on_put on_take patterns c n q qs ms

-- the n-th frame that is accepted on a circuit, from 0, fades exactly where bit n modulo 64 of the circuit's pattern is set
abbrev pub FadesByNumber : {P : Type 0} → (P → Air) → PutOver P → TakeOver P → List ℕ → Type 0
FadesByNumber {P} air on_put on_take patterns =
    (c n : ℕ) (p : P) (ps ns : List ℕ) →
    c < 12 →
    Ran air on_put on_take patterns c n p ps ns →
    fades_next ps ns c ≡ bit_of (slice_index patterns c) n
