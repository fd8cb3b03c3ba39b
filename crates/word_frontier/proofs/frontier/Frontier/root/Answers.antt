use Rattle.std.proofs.Common.{refl}
use Rattle.word_frontier.proofs.Growing.{root-made}
use Rattle.word_frontier.proofs.frontier.Frontier.root.Goals as goal

pub invariant_of-result : goal.invariant_of-result
invariant_of-result c =
    root-made c.push.new.self.items c.new-slots.result.items _ c.in_ok-lasts.lasts.items c.in_ok-opens.opens c.in_ok-stands.stands c.enter.new.self c.enter-2.new.self c.args.rank c.args.ranks
    c.in-Ok.ensures.items c.new-slots.ensures.items refl refl c.requires
    c.in_ok-lasts.ensures.ranks c.in_ok-opens.ensures.ranks c.in_ok-stands.ensures.ranks c.in_ok-lasts.ensures.none c.in_ok-opens.ensures.none c.in_ok-stands.ensures.none c.enter.ensures c.enter-2.ensures
