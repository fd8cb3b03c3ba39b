use Rattle.std.proofs.Common.{◌≡◌, ◌+◌, List, true, sym, subst, arith}
use Rattle.word_frontier.specs.Nodes.{FrontierView, RankedNode, has_id}
use Rattle.word_frontier.proofs.Children.{Grown, given-id, stands-taken, has_id-taken, room-for, grown-yes, grown-no, expanded}
use Rattle.word_frontier.proofs.frontier.Frontier.expand.Goals as goal
use Rattle.word_frontier.proofs.frontier.Frontier.expand.Goals.{then-now-child, else-now-child}

pub enter-requires-clause-there : goal.enter-requires-clause-there
enter-requires-clause-there c =
    let h = given-id _ c.args.id c.args.self.now.made c.args.self.now.nodes (stands-taken c.args.actor c.args.id c.args.self.now.nodes c.requires.taken) c.keeps_order.ensures.given in
    let made = c.loop-child.invariant.made in omega (arith, h, made)

pub enter-requires-clause-room : goal.enter-requires-clause-room
enter-requires-clause-room c =
    let less = room-for c.args.now c.loop-child.child-index c.args.children.now _ c.loop-child-test.true c.if-now-child.true in
    let room = c.requires.room in let kept = c.loop-child.invariant.room in omega (arith, less, room, kept)

pub enter-requires-clause-ids : goal.enter-requires-clause-ids
enter-requires-clause-ids c =
    let less = room-for c.args.now c.loop-child.child-index c.args.children.now _ c.loop-child-test.true c.if-now-child.true in
    let ids = c.requires.ids in let made = c.loop-child.invariant.made in omega (arith, less, ids, made)

pub loop-child-preserved : goal.loop-child-preserved
loop-child-preserved c =
    let before : Grown c.args.known c.args.self.now c.loop-child.self c.args.id c.args.now c.loop-child.child-index c.args.children.now = record {
      nodes = c.loop-child.invariant.nodes;
      made = c.loop-child.invariant.made;
      ranks = c.loop-child.invariant.ranks;
      room = c.loop-child.invariant.room;
    } in
    let g = (elim c.if-now-child.branch as (λ x. Grown c.args.known c.args.self.now c.if-now-child.self c.args.id c.args.now (c.loop-child.child-index + 1) c.args.children.now) [
      | then-now-child w ↦ subst (λ (f : FrontierView). Grown c.args.known c.args.self.now f c.args.id c.args.now (c.loop-child.child-index + 1) c.args.children.now) (sym w.self-is)
          (grown-yes _ _ _ _ c.args.actor _ _ _ _ _ c.requires.taken before c.loop-child-test.true w.if-now-child.true (record {
            nodes = w.enter.ensures.nodes;
            made = w.enter.ensures.made;
            ranks = w.enter.ensures.ranks;
            room = w.enter.ensures.room;
          }))
      | else-now-child w ↦ subst (λ (f : FrontierView). Grown c.args.known c.args.self.now f c.args.id c.args.now (c.loop-child.child-index + 1) c.args.children.now) (sym w.self-is)
          (grown-no _ _ _ _ _ _ _ _ before c.loop-child-test.true w.if-now-child.false)
    ]) in record {
      nodes = g.nodes;
      made = g.made;
      ranks = g.ranks;
      room = g.room;
    }

pub leave-requires : goal.leave-requires
leave-requires c = subst (λ (ns : List RankedNode). has_id c.args.id ns ≡ true) (sym c.loop-child.invariant.nodes) (has_id-taken c.args.actor c.args.id c.args.self.now.nodes _ c.requires.taken)

pub returns-clause-nodes : goal.returns-clause-nodes
returns-clause-nodes c =
    expanded _ _ _ _ c.args.actor c.args.id _ c.args.now c.loop-child.child-index c.args.children.now c.requires.taken c.keeps_order.ensures.given c.loop-child-test.false c.loop-child.invariant.nodes c.leave.ensures.nodes
