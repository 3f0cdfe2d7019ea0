-- All identifiers together: every router's database, frames put one after the other, and a tick of the whole network. A tick of the whole is a
-- tick of each identifier.
use Rattle.std.specs.Prelude.{◌≡◌, ◌≢◌, ◌⊎◌, Bool, true, false, List, [], ◌∷◌, ℕ, suc}
use Rattle.flooding.specs.Copies.{Topology, Held, Holdings, Mention, Live, NotLive}
use Rattle.flooding.specs.Rules.{Kind, lsp, psnp, csnp, Sends, Delivery}
use Rattle.flooding.specs.CopyTicks.{Due, Ages, Among}
use Rattle.flooding.specs.CopyRuns.{Slot, Issue, FullTick}
use Rattle.flooding.specs.Frames.{Saying, silent, mentions, Frame, NeverMentions, MentionsOnce}

-- what router x holds of identifier i
abbrev pub Databases : Type 0
Databases = ℕ → ℕ → Held

-- what is held of identifier i
abbrev pub of_id : ℕ → Databases → Holdings
of_id i s x = s x i

-- what becomes of the copy of router x, which is not the sender, as a frame that says this of the identifier is put
abbrev pub Delivered : Topology → Bool → ℕ → ℕ → Kind → Saying → ℕ → Held → Held → Type 0
Delivered P missed r c g silent x h h' = h' ≡ h
Delivered P missed r c g (mentions w) x h h' = Delivery P missed r c g w x h h'

-- Router r puts frames on circuit c, one after the other, and the other routers hear them or not; P i is the topology with the owner of identifier
-- i. Nothing is said of the sender's own database here: when it clears flags, after each frame or after all, is free.
pub data FramesPut (P : ℕ → Topology) (missed : Bool) (r c : ℕ) (g : Kind) : List Frame → Databases → Databases → Type 0 where
  all_put : {s e : Databases} → ((i x : ℕ) → x ≢ r → e x i ≡ s x i) → FramesPut P missed r c g [] s e
  one_put : {f : Frame} {fs : List Frame} {s m e : Databases} → ((i x : ℕ) → x ≢ r → Delivered (P i) missed r c g (f i) x (s x i) (m x i)) →
      FramesPut P missed r c g fs m e → FramesPut P missed r c g (f ∷ fs) s e

-- identifier i is due, and one frame says of it what the sender's copy at the start of the phase says; at its end the sender holds what it then is to hold
pub record Mentioned (P : Topology) (t r c : ℕ) (g : Kind) (i : ℕ) (frames : List Frame) (h h' : Held) : Type 0 where
  pub due : Due P t r c g h
  pub mention : Mention
  pub once : MentionsOnce i mention frames
  pub sends : Sends P r c g mention h h'

-- or it is not due, no frame mentions it, and the sender keeps its copy
pub record PassedOver (P : Topology) (t r c : ℕ) (g : Kind) (i : ℕ) (frames : List Frame) (h h' : Held) : Type 0 where
  pub not_due : Due P t r c g h → ⊥
  pub never : NeverMentions i frames
  pub kept : h' ≡ h

-- one phase of a turn: the frames mention each identifier that is due once, and no other
pub record AllPhase (P : ℕ → Topology) (missed : Bool) (t r c : ℕ) (g : Kind) (s s' : Databases) : Type 0 where
  pub sender_attached : (i : ℕ) → (P i).attached r c ≡ true
  pub frames : List Frame
  pub puts : FramesPut P missed r c g frames s s'
  pub each : (i : ℕ) → Mentioned (P i) t r c g i frames (s r i) (s' r i) ⊎ PassedOver (P i) t r c g i frames (s r i) (s' r i)

-- router r's turn on circuit c
pub data AllTurn (P : ℕ → Topology) (missed : Bool) (t r c : ℕ) : Databases → Databases → Type 0 where
  all_turn : {p q m e : Databases} → AllPhase P missed t r c lsp p q → AllPhase P missed t r c psnp q m → AllPhase P missed t r c csnp m e →
      AllTurn P missed t r c p e

pub data AllTurns (P : ℕ → Topology) (missed : Bool) (t : ℕ) : List (ℕ × ℕ) → Databases → Databases → Type 0 where
  all_done : {s : Databases} → AllTurns P missed t [] s s
  all_then : {r c : ℕ} {l : List (ℕ × ℕ)} {p q e : Databases} → AllTurn P missed t r c p q → AllTurns P missed t l q e →
      AllTurns P missed t ((r, c) ∷ l) p e

-- a whole tick of the network: P i and S i are the topology and the slot of identifier i
pub record NetworkTick (P P' : ℕ → Topology) (clock : ℕ) (S S' : ℕ → Slot) (missed : Bool) (s s' : Databases) : Type 0 where
  pub owner : (i : ℕ) → (P' i).owner ≡ (P i).owner
  pub aged : Databases
  pub ages : (i x : ℕ) → Ages (P' i) x (s x i) (aged x i)
  pub stays_active : (i : ℕ) → (P' i).active ≡ true → ((P i).active ≡ true) × Live (S i).last (aged (P i).owner i)
  pub turns_inactive : (i : ℕ) → (P' i).active ≡ false → ((P i).active ≡ false) ⊎ NotLive (aged (P i).owner i)
  pub reissued : Databases
  pub reissue : (i : ℕ) →
      ((S' i ≡ S i) × (of_id i reissued ≡ of_id i aged)) ⊎ Issue (P' i) (P' i) (suc clock) (S i) (S' i) (of_id i aged) (of_id i reissued)
  pub order : List (ℕ × ℕ)
  pub every : (i r c : ℕ) → (P' i).attached r c ≡ true → Among r c order
  pub turns : AllTurns P' missed (suc clock) order reissued s'

abbrev pub Projects : Type 0
Projects =
    (P P' : ℕ → Topology) (clock : ℕ) (S S' : ℕ → Slot) (missed : Bool) (s s' : Databases) → NetworkTick P P' clock S S' missed s s' →
    (i : ℕ) → FullTick (P i) (P' i) clock (S i) (S' i) missed (of_id i s) (of_id i s')
