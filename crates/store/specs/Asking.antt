-- What a store answers, and what it means afterwards, by what it means.
use Rattle.std.specs.Prelude.{ℕ, cond, length, is_some, Result, slice_set}
use Rattle.octets.specs.Octets.{value}
use Rattle.fault.specs.declared.CallFault.{CallFault}
use Rattle.fault.specs.Order.{unless}
use Rattle.store.specs.declared.requests.Request.{Request}
use Rattle.store.specs.declared.requests.Request.TheVariants.{Set, Remove, Find, Count, Nth}
use Rattle.store.specs.declared.requests.Reply.{Reply}
use Rattle.store.specs.declared.requests.Reply.TheVariants.{Done, Found, Counted}
use Rattle.store.specs.Lists.{Lists, of_router, lookup, placed, without, nth}
use Rattle.store.specs.Calls.{router_fault, set_fault}

abbrev pub reply : Lists → ℕ → Request → Result Reply CallFault
reply t r (Set x) = unless (set_fault t r x) Done
reply t r (Remove id) = unless (router_fault r) (Found (lookup (value id) (of_router t r)))
reply t r (Find id) = unless (router_fault r) (Found (lookup (value id) (of_router t r)))
reply t r Count = unless (router_fault r) (Counted (length (of_router t r)))
reply t r (Nth n) = unless (router_fault r) (Found (nth (of_router t r) n))

abbrev pub asked : Lists → ℕ → Request → Lists
asked t r (Set x) = cond (is_some (set_fault t r x)) t (slice_set t r (placed x (of_router t r)))
asked t r (Remove id) = cond (is_some (router_fault r)) t (slice_set t r (without (value id) (of_router t r)))
asked t r (Find id) = t
asked t r Count = t
asked t r (Nth n) = t
