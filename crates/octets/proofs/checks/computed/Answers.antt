use Rattle.std.proofs.Common.{◌≡◌, ℕ, ◌+◌, ◌-◌, [], ◌∷◌, length, take, drop, ap, ◌∙◌}
use native.Mathlib.Nat.{sub-zero}
use Rattle.std.proofs.lemmas.List.{take_rest}
use Rattle.octets.specs.Checks.{made_octets, sums_of, sums_then, unchecked}
use Rattle.octets.specs.declared.checks.Sums.{Sums}
use Rattle.octets.proofs.CheckLaws.{sums_pieces, computed_right}
use Rattle.octets.proofs.checks.computed.Goals as goal

pub returns : goal.returns
returns c =
    let part = c.args.part.now in
    let p = c.args.p in
    let a : take (p - 1 - 0) part ≡ take (p - 1) part = ap (λ (n : ℕ). take n part) (sub-zero (p - 1)) in
    let b = take_rest part (p + 1) in
    let before = c.over-before.ensures ∙ ap (sums_then c.new.result) a ∙ ap (λ (s : Sums). sums_then s (take (p - 1) part)) c.new.ensures in
    let two = c.over.ensures ∙ ap (λ (s : Sums). sums_then s (0 ∷ 0 ∷ [])) before in
    let all = c.over-all.ensures ∙ ap (sums_then c.over.result) b ∙ ap (λ (s : Sums). sums_then s (drop (p + 1) part)) two in
    let f : c.over-all.result ≡ sums_of (unchecked p part) = all ∙ sums_pieces (take (p - 1) part) (0 ∷ 0 ∷ []) (drop (p + 1) part) in
    let m = c.octets.ensures ∙ ap (λ (s : Sums). made_octets (length part - p) s.c0 s.c1) f in
    record { made = m; right = rw m (computed_right p part c.requires); always = computed_right }
