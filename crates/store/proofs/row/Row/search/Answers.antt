use Rattle.std.proofs.Common.{rules, ap, ◌∙◌}
use Rattle.std.proofs.lemmas.Fn.{always_returns_same}
use Rattle.std.specs.Ordering.{nat_cmp}
use Rattle.octets.specs.Octets.{value}
use Rattle.store.specs.Lists.{key_of, rises}
use Rattle.store.proofs.Places.{searched}
use Rattle.store.proofs.row.Row.search.Goals as goal

pub returns : goal.returns
returns c =
    let facts = c.binary_search_by.ensures in
    let by_order = facts.position (λ x. nat_cmp (key_of x) (value c.args.id)) (always_returns_same _ _ _ (λ a r f' called. search rules)) in
    rw (← c.as_slice.ensures.value) (searched (value c.args.id) _ (ap rises c.as_slice.ensures.value ∙ c.args.self.now.rising) _ facts.bound by_order)
