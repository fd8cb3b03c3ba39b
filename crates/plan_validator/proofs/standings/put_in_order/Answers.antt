use Rattle.std.proofs.lemmas.List.Filters.{dedup_is}
use Rattle.plan_validator.proofs.Rising.{ties, in_order}
use Rattle.plan_validator.proofs.standings.put_in_order.Goals as goal

pub returns : goal.returns
returns c =
    in_order c.args.standings.now.items c.sort_unstable.new.self.items c.dedup.new.self.items c.sort_unstable.ensures.permutation c.sort_unstable.ensures.sorted
    (dedup_is ties c.sort_unstable.new.self.items c.dedup.new.self.items c.dedup.ensures.filtered)
