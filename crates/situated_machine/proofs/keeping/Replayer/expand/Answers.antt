use Rattle.std.proofs.Common.{◌≡◌, refl, sym, subst, ap, ◌∙◌, ◌+◌, ◌++◌, length, true, arith}
use Rattle.tp_spec.specs.declared.event.Event.TheVariants.{Expand}
use Rattle.situated_machine.specs.Keeping.{view_of, ReplayView}
use Rattle.tp_spec.specs.Machine.{word_of}
use Rattle.word_frontier.specs.Nodes.{live_at, without, word_at, children_from, is_taken}
use Rattle.machine_run.specs.Children.{marks_of}
use Rattle.situated_machine.specs.Judged.{AreChildrenOf, Steps}
use Rattle.situated_machine.specs.Rules.{KeepsAll}
use Rattle.situated_machine.proofs.Stepping.{kept-lent, node-taken, ranks-fit, ids-fit, all-live, behind-expand, parts}
use Rattle.situated_machine.proofs.keeping.Replayer.expand.Goals as goal

pub invariant_of-self : goal.invariant_of-self
invariant_of-self c = kept-lent c.self.invariant c.reserve.new.self c.reserve.ensures.nodes c.reserve.ensures.made c.reserve.ensures.ranks

pub expand-requires-clause-taken : goal.expand-requires-clause-taken
expand-requires-clause-taken c =
    let are = subst (λ (r : ReplayView). AreChildrenOf r (word_of c.args.id r.machine.nodes) c.args.children.now) (sym c.self.view_is) c.requires.children in
    let keeps = subst (λ (r : ReplayView). KeepsAll r.problem r.limits r.machine (Expand c.args.actor c.args.id (marks_of c.args.children.now))) (sym c.self.view_is) c.requires.kept in
    subst (λ ns. is_taken c.args.actor c.args.id ns ≡ true) (sym c.reserve.ensures.nodes) (node-taken c.self.invariant c.args.actor c.args.id c.args.children.now are keeps)

pub expand-requires-clause-below : goal.expand-requires-clause-below
expand-requires-clause-below c =
    let are = subst (λ (r : ReplayView). AreChildrenOf r (word_of c.args.id r.machine.nodes) c.args.children.now) (sym c.self.view_is) c.requires.children in
    let keeps = subst (λ (r : ReplayView). KeepsAll r.problem r.limits r.machine (Expand c.args.actor c.args.id (marks_of c.args.children.now))) (sym c.self.view_is) c.requires.kept in
    ranks-fit c.self.invariant c.args.actor c.args.id c.args.children.now are keeps c.reserve.new.self.ranks c.reserve.ensures.ranks

pub expand-requires-clause-room : goal.expand-requires-clause-room
expand-requires-clause-room c =
    let are = subst (λ (r : ReplayView). AreChildrenOf r (word_of c.args.id r.machine.nodes) c.args.children.now) (sym c.self.view_is) c.requires.children in
    let keeps = subst (λ (r : ReplayView). KeepsAll r.problem r.limits r.machine (Expand c.args.actor c.args.id (marks_of c.args.children.now))) (sym c.self.view_is) c.requires.kept in
    omega (arith, c.in_ok-reserve.ensures.room, ap length (all-live c.self.invariant c.args.actor c.args.id c.args.children.now are keeps))

pub expand-requires-clause-ids : goal.expand-requires-clause-ids
expand-requires-clause-ids c =
    let are = subst (λ (r : ReplayView). AreChildrenOf r (word_of c.args.id r.machine.nodes) c.args.children.now) (sym c.self.view_is) c.requires.children in
    let keeps = subst (λ (r : ReplayView). KeepsAll r.problem r.limits r.machine (Expand c.args.actor c.args.id (marks_of c.args.children.now))) (sym c.self.view_is) c.requires.kept in
    ids-fit c.self.invariant c.args.actor c.args.id c.args.children.now are keeps c.reserve.new.self.made (length (live_at c.self.inside.clock c.args.children.now)) c.reserve.ensures.made refl

pub invariant_of-self-2 : goal.invariant_of-self-2
invariant_of-self-2 c =
    let are = subst (λ (r : ReplayView). AreChildrenOf r (word_of c.args.id r.machine.nodes) c.args.children.now) (sym c.self.view_is) c.requires.children in
    let keeps = subst (λ (r : ReplayView). KeepsAll r.problem r.limits r.machine (Expand c.args.actor c.args.id (marks_of c.args.children.now))) (sym c.self.view_is) c.requires.kept in
    (behind-expand c.self.invariant c.args.actor c.args.id c.args.children.now are keeps (length c.acts.result.now) c.expand.new.self
    (ap length c.acts.ensures)
    (c.expand.ensures.nodes ∙ (λ i. without c.args.id (c.reserve.ensures.nodes i) ++ children_from (length c.acts.result.now) (word_at c.args.id (c.reserve.ensures.nodes i)) (c.reserve.ensures.made i) (live_at c.self.inside.clock c.args.children.now)))
    (c.expand.ensures.made ∙ ap (λ n. n + length (live_at c.self.inside.clock c.args.children.now)) c.reserve.ensures.made)
    (c.expand.ensures.ranks ∙ c.reserve.ensures.ranks)).kept

pub returns-clause-ok : goal.returns-clause-ok
returns-clause-ok c =
    let are = subst (λ (r : ReplayView). AreChildrenOf r (word_of c.args.id r.machine.nodes) c.args.children.now) (sym c.self.view_is) c.requires.children in
    let keeps = subst (λ (r : ReplayView). KeepsAll r.problem r.limits r.machine (Expand c.args.actor c.args.id (marks_of c.args.children.now))) (sym c.self.view_is) c.requires.kept in
    (subst (λ (r : ReplayView). Steps r (view_of (parts c.self.inside.problem.now c.self.inside.walker c.self.inside.limits c.expand.new.self c.self.inside.commits c.self.inside.clock c.self.inside.actor true c.self.inside.over)) (Expand c.args.actor c.args.id (marks_of c.args.children.now))) c.self.view_is
    (record {
      problem = refl;
      limits = refl;
      stepped = (behind-expand c.self.invariant c.args.actor c.args.id c.args.children.now are keeps (length c.acts.result.now) c.expand.new.self
          (ap length c.acts.ensures)
          (c.expand.ensures.nodes ∙ (λ i. without c.args.id (c.reserve.ensures.nodes i) ++ children_from (length c.acts.result.now) (word_at c.args.id (c.reserve.ensures.nodes i)) (c.reserve.ensures.made i) (live_at c.self.inside.clock c.args.children.now)))
          (c.expand.ensures.made ∙ ap (λ n. n + length (live_at c.self.inside.clock c.args.children.now)) c.reserve.ensures.made)
          (c.expand.ensures.ranks ∙ c.reserve.ensures.ranks)).stepped;
    }))
