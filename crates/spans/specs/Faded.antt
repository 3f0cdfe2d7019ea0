-- A put on a fader is a put on the plant below, or one that all other ends miss.
use Rattle.std.specs.Prelude.{ℕ, Bool, List}
use Rattle.plant.specs.Air.{Air, Frame}
use Rattle.plant.specs.Calls.{Put, PutOver}
use Rattle.plant.proofs.Blocked.{all_missed}
use Rattle.spans.specs.Fades.{FaderPut}

module _
    {P : Type 0} (air : P → Air) (over : PutOver P)
    (means : (p q : P) (c e : ℕ) (f : Frame) (missed : ℕ → Bool) → over p q c e f missed → Put (air p) (air q) c e f missed) where
  pub fader_put_means :
      (p q : P) (ps qs ns ms : List ℕ) (c e : ℕ) (f : Frame) (missed : ℕ → Bool) →
      FaderPut air over p q ps qs ns ms c e f missed →
      Put (air p) (air q) c e f missed
  fader_put_means p q ps qs ns ms c e f missed (FaderPut.faded _ h s m _ _) =
      rw (s, m) (all_missed (air p) c e f h)
  fader_put_means p q ps qs ns ms c e f missed (FaderPut.passed _ h _ _) = means p q c e f missed h
