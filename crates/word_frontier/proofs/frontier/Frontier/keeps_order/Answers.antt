use Rattle.std.proofs.Common.{arith, subst}
use Rattle.word_frontier.specs.Nodes.{AreApart}
use Rattle.word_frontier.specs.Slots.{helds_of, words_of, step_of}
use Rattle.word_frontier.proofs.Keeping.{words-slots}
use Rattle.word_frontier.proofs.Nodes.{rising, given, helds-length}
use Rattle.word_frontier.proofs.frontier.Frontier.keeps_order.Goals as goal
use Rattle.std.proofs.Common.{map}

pub returns : goal.returns
returns c =
    let slots = c.self.inside.slots.items in
    let n = helds-length (words_of (map step_of slots)) slots (words-slots slots) in
    subst AreApart c.self.view_is (record {
      rising = rising (helds_of slots) 0;
      given = given (helds_of slots) 0 _ (omega (arith, n));
    })
