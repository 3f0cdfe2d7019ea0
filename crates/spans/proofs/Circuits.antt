-- The patterns and the counts of a fader's circuits.
use Rattle.std.proofs.Common.{◌≡◌, ℕ, ◌<◌, ◌≤◌, List, length, replicate, get_or, set, sym, ap, ◌∙◌, arith}
use Rattle.std.proofs.lemmas.List.{get_or-map, get_or-replicate, length-map, length-replicate, map-set, set-get_or, set_past, ext_get_or}
use Rattle.spans.specs.Fades.{one_more, next, patterns_of, accepted_of}
use Rattle.spans.specs.declared.fader.Fade.{Fade}

abbrev pub blank : Fade
blank = record { pattern = 0; accepted = 0 }

module _ (fs : List Fade) (c : ℕ) where
  pub pattern_at : c < length fs → get_or (patterns_of fs) c 0 ≡ (get_or fs c blank).pattern
  pattern_at h = get_or-map (λ (f : Fade). f.pattern) fs c blank 0 h

  pub accepted_at : c < length fs → get_or (accepted_of fs) c 0 ≡ (get_or fs c blank).accepted
  accepted_at h = get_or-map (λ (f : Fade). f.accepted) fs c blank 0 h

  -- one frame more is accepted on a circuit that is there
  pub patterns_stay : (f : Fade) → c < length fs → f.pattern ≡ (get_or fs c blank).pattern → patterns_of (set fs c f) ≡ patterns_of fs
  patterns_stay f h e =
      map-set (λ (x : Fade). x.pattern) fs c f
      ∙ (ap (set (patterns_of fs) c) (e ∙ sym (pattern_at h)) ∙ set-get_or (patterns_of fs) c 0)

  pub accepted-counted :
      (f : Fade) → c < length fs → f.accepted ≡ one_more (get_or fs c blank).accepted → accepted_of (set fs c f) ≡ next (accepted_of fs) c
  unfolding next
  accepted-counted f h e =
      map-set (λ (x : Fade). x.accepted) fs c f
      ∙ ap (set (accepted_of fs) c) (e ∙ ap one_more (sym (accepted_at h)))

  -- and on one that is not
  pub accepted_past : length fs ≤ c → accepted_of fs ≡ next (accepted_of fs) c
  unfolding next
  accepted_past h =
      sym (set_past (accepted_of fs) c (one_more (get_or (accepted_of fs) c 0)) (omega (arith, length-map fs (λ (f : Fade). f.accepted))))

-- circuits on which nothing was accepted
pub fresh :
    (ps : List ℕ) (fs : List Fade) (n : ℕ) →
    length ps ≡ n →
    length fs ≡ n →
    ((i : ℕ) → i < n → get_or fs i blank ≡ record { pattern = get_or ps i 0; accepted = 0 }) →
    (patterns_of fs ≡ ps) × (accepted_of fs ≡ replicate n 0)
fresh ps fs n l m h = (
  ext_get_or 0 (patterns_of fs) ps (length-map fs (λ (f : Fade). f.pattern) ∙ (m ∙ sym l))
      (λ i k. let k' : i < length fs = omega (arith, length-map fs (λ (f : Fade). f.pattern)) in
      pattern_at fs i k' ∙ ap (λ (f : Fade). f.pattern) (h i (omega arith))),
  ext_get_or 0 (accepted_of fs) (replicate n 0) (length-map fs (λ (f : Fade). f.accepted) ∙ (m ∙ sym (length-replicate n 0)))
      (λ i k. let k' : i < length fs = omega (arith, length-map fs (λ (f : Fade). f.accepted)) in
      accepted_at fs i k' ∙ (ap (λ (f : Fade). f.accepted) (h i (omega arith)) ∙ sym (get_or-replicate n i 0 0 (omega arith)))),
)
