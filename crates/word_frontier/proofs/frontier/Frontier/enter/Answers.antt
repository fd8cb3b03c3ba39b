use Rattle.std.proofs.Common.{◌∙◌, ◌≡◌, ◌++◌, ◌∷◌, [], refl, sym, ap, subst, arith}
use Rattle.word_frontier.specs.Nodes.{FrontierView, StandsAt, child_of}
use Rattle.word_frontier.specs.Slots.{head_at}
use Rattle.word_frontier.proofs.Growing.{Between, read-head, between-some, between-none, enters-kept, enters-nodes}
use Rattle.word_frontier.proofs.frontier.Frontier.enter.Goals as goal
use Rattle.word_frontier.proofs.frontier.Frontier.enter.Goals.{in-Some, in_default}

pub invariant_of-self : goal.invariant_of-self
invariant_of-self c =
    let ranks = ap (λ (f : FrontierView). f.ranks) c.self.view_is in
    let made = ap (λ (f : FrontierView). f.made) c.self.view_is in
    let head = read-head c.self.inside.lasts.items c.args.child.rank c.index.result.now (omega (arith, ranks)) c.index.ensures in
    let between = (elim c.match-index.branch as (λ x. Between c.self.inside c.match-index.self-inside (head_at c.self.inside.lasts.items c.args.child.rank) c.len-made.result) [
      | in-Some w ↦ between-some _ _ _ _ _ _ _ c.self.invariant (head ∙ w.in-Some.is) w.index_mut.ensures.value w.note_next.ensures w.self-inside-is
      | in_default w ↦ between-none _ _ _ _ (head ∙ w.in_default.is) w.self-inside-is
    ]) in
    enters-kept _ _ _ _ _ _ c.args.id _ _ c.self.invariant between (record {
      next = omega arith;
      few = omega (arith, made);
      parent_is = c.open.ensures.parent;
      earlier = omega (arith, made);
      rank_is = c.open.ensures.rank;
      state = c.open.ensures.state;
    }) (omega (arith, ranks)) c.push_reserved.ensures.items c.enter.ensures c.enter-2.ensures

pub returns-clause-nodes : goal.returns-clause-nodes
returns-clause-nodes c = λ w h.
    let ranks = ap (λ (f : FrontierView). f.ranks) c.self.view_is in
    let made = ap (λ (f : FrontierView). f.made) c.self.view_is in
    let head = read-head c.self.inside.lasts.items c.args.child.rank c.index.result.now (omega (arith, ranks)) c.index.ensures in
    let between = (elim c.match-index.branch as (λ x. Between c.self.inside c.match-index.self-inside (head_at c.self.inside.lasts.items c.args.child.rank) c.len-made.result) [
      | in-Some w ↦ between-some _ _ _ _ _ _ _ c.self.invariant (head ∙ w.in-Some.is) w.index_mut.ensures.value w.note_next.ensures w.self-inside-is
      | in_default w ↦ between-none _ _ _ _ (head ∙ w.in_default.is) w.self-inside-is
    ]) in
    let made-is : c.len-made.result ≡ c.args.self.now.made = c.len-made.ensures ∙ made in
    enters-nodes _ _ _ _ _ c.args.id c.args.child.rank _ w c.args.child c.args.known between.linked c.self.invariant.some (record {
      next = omega arith;
      few = omega (arith, made);
      parent_is = c.open.ensures.parent;
      earlier = omega (arith, made);
      rank_is = c.open.ensures.rank;
      state = c.open.ensures.state;
    }) c.push_reserved.ensures.items c.open.ensures.mark refl c.open.ensures.deadline c.open.ensures.known (subst (λ (f : FrontierView). StandsAt w c.args.id f.nodes) (sym c.self.view_is) h)
    ∙ (λ i. (c.self.view_is i).nodes ++ child_of c.args.known (made-is i) w c.args.child ∷ [])
