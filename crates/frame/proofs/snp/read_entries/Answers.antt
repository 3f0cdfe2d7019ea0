use Rattle.std.proofs.Common.{◌≡◌, ℕ, drop, refl, ap, ◌∙◌}
use Rattle.frame.proofs.EntryLists.{listed_of, own_part}
use Rattle.frame.proofs.snp.read_entries.Goals as goal

pub returns : goal.returns
returns c =
    let f = c.args.f.now in
    let h = c.in_ok-octets.ensures in
    let t : c.split_at.result.1.now ≡ drop c.args.size f = c.split_at.ensures.back ∙ ap (λ (n : ℕ). drop n f) c.from.ensures in
    let l = listed_of c.args.size f _ _ t h in
    (l.0, (l.1, own_part c.args.size f _ _ t h.1, refl))
