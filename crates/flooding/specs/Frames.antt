-- Frames, as what each says of every identifier, and when a list of frames mentions an identifier once or never. Identifiers are numbers here.
use Rattle.std.specs.Prelude.{◌≡◌, ◌⊎◌, List, [], ◌∷◌, ◌++◌, ℕ, suc, ◌≤◌, ◌<◌, length}
use Rattle.flooding.specs.Copies.{Mention}

pub data Saying : Type 0 where
  silent : Saying
  mentions : Mention → Saying

-- what a frame says of each identifier
abbrev pub Frame : Type 0
Frame = ℕ → Saying

pub data NeverMentions (i : ℕ) : List Frame → Type 0 where
  no_frame : NeverMentions i []
  silent_frame : {f : Frame} {fs : List Frame} → f i ≡ silent → NeverMentions i fs → NeverMentions i (f ∷ fs)

-- one frame of the list says this of the identifier, and the others are silent on it
pub data MentionsOnce (i : ℕ) (w : Mention) : List Frame → Type 0 where
  in_first : {f : Frame} {fs : List Frame} → f i ≡ mentions w → NeverMentions i fs → MentionsOnce i w (f ∷ fs)
  in_later : {f : Frame} {fs : List Frame} → f i ≡ silent → MentionsOnce i w fs → MentionsOnce i w (f ∷ fs)

-- Frames that take the identifiers of D from lo on in ranges, one after the other: each mentions those of D from its start to before the next
-- frame's start, and no others. A set of CSNPs is such, with all identifiers for D: it mentions what it lists, and what it does not list.
pub data InRanges (D : ℕ → Type 0) : ℕ → List Frame → Type 0 where
  no_more : {lo : ℕ} → ((j : ℕ) → lo ≤ j → D j → ⊥) → InRanges D lo []
  range : {lo : ℕ} {f : Frame} {fs : List Frame} (next : ℕ) → lo ≤ next →
      ((j : ℕ) → lo ≤ j → j < next → D j → (w : Mention) × (f j ≡ mentions w)) →
      ((j : ℕ) → (j < lo) ⊎ ((next ≤ j) ⊎ (D j → ⊥)) → f j ≡ silent) → InRanges D next fs → InRanges D lo (f ∷ fs)

-- so each identifier below `top` is mentioned once
abbrev pub RangesMentionOnce : Type 0
RangesMentionOnce =
    (lo top : ℕ) (fs : List Frame) → InRanges (λ j. j < top) lo fs →
    (j : ℕ) → (lo ≤ j → j < top → (w : Mention) × MentionsOnce j w fs) × (top ≤ j → NeverMentions j fs)

pub data In (i : ℕ) : List ℕ → Type 0 where
  first_in : {l : List ℕ} → In i (i ∷ l)
  later_in : {j : ℕ} {l : List ℕ} → In i l → In i (j ∷ l)

-- strictly rising, from lo on
pub data Rising : ℕ → List ℕ → Type 0 where
  rising_none : {lo : ℕ} → Rising lo []
  rising_more : {lo i : ℕ} {l : List ℕ} → lo ≤ i → Rising (suc i) l → Rising lo (i ∷ l)

-- a frame that mentions the identifiers of a part alone
pub record FrameOf (part : List ℕ) (f : Frame) : Type 0 where
  pub mentioned : (i : ℕ) → In i part → (w : Mention) × (f i ≡ mentions w)
  pub others : (i : ℕ) → (In i part → ⊥) → f i ≡ silent

-- identifiers cut into parts, of any size, with a frame for each
pub data CutInto : List ℕ → List Frame → Type 0 where
  cut_none : CutInto [] []
  cut_more : (part rest : List ℕ) {f : Frame} {fs : List Frame} → FrameOf part f → CutInto rest fs → CutInto (part ++ rest) (f ∷ fs)

-- LSPs, one for each identifier with SRM, and PSNPs, of 15 entries each but the last, are such
abbrev pub PartsMentionOnce : Type 0
PartsMentionOnce =
    (lo : ℕ) (l : List ℕ) (fs : List Frame) → Rising lo l → CutInto l fs →
    (i : ℕ) → (In i l → (w : Mention) × MentionsOnce i w fs) × ((In i l → ⊥) → NeverMentions i fs)

-- A rising list drawn from another list is no longer than that, and shorter if it lacks one of it: a database of identifiers that belong to slots is
-- never longer than there are slots, and has room for each that it lacks.
abbrev pub RisingNoLonger : Type 0
RisingNoLonger =
    (lo : ℕ) (l all : List ℕ) → Rising lo l → ((i : ℕ) → In i l → In i all) →
    (length l ≤ length all) × ((j : ℕ) → In j all → (In j l → ⊥) → length l < length all)
