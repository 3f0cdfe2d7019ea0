use Rattle.std.proofs.Common.{rules}
use Rattle.store.proofs.TableLaws.{none_kept}
use Rattle.store.proofs.table.Table.new.Goals as goal

pub returns : goal.returns
returns c =
    let rows = c.from_fn.ensures.items in
    none_kept c.from_fn.result 8 rows.long (λ i d l. let called = rows.at i d l in search rules)
