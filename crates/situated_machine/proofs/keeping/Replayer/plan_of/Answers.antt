use Rattle.std.proofs.Common.{◌∙◌, sym}
use Rattle.situated_machine.proofs.Marking.{part-none, lacking, plan-some, plan-none}
use Rattle.situated_machine.specs.Marked.{sight_of}
use Rattle.situated_machine.proofs.keeping.Replayer.plan_of.Goals as goal
use Rattle.situated_machine.proofs.keeping.Replayer.plan_of.Goals.{then-not-whole-via-then-not-whole, then-not-whole-via-else-not-whole+then-not-are_held}

pub returns-then-not-whole-clause-none : goal.returns-then-not-whole-clause-none
returns-then-not-whole-clause-none c = elim c.then-not-whole.branch [
  | then-not-whole-via-then-not-whole w ↦ part-none (sight_of c.args.self.now c.args.word.now) c.requires.known (sym c.requires.whole ∙ w.if-not-whole.true)
  | then-not-whole-via-else-not-whole+then-not-are_held w ↦
      lacking c.self.invariant c.args.self.now c.self.view_is c.args.word.now c.acts-commits.result.now c.acts-commits.ensures c.requires.known (sym w.are_held.ensures ∙ w.if-not-are_held.true)
]

pub returns-clause-some : goal.returns-clause-some
returns-clause-some c =
    plan-some c.self.invariant c.args.self.now c.self.view_is c.args.word.now c.acts-commits.result.now c.acts-commits.ensures c.requires.known
    (sym c.requires.whole ∙ c.if-not-whole.false) (sym c.are_held.ensures ∙ c.if-not-are_held.false) c.earliest_plan.result c.earliest_plan.ensures.some

pub returns-clause-none : goal.returns-clause-none
returns-clause-none c =
    plan-none c.self.invariant c.args.self.now c.self.view_is c.args.word.now c.acts-commits.result.now c.acts-commits.ensures c.requires.known c.earliest_plan.result c.earliest_plan.ensures.none
