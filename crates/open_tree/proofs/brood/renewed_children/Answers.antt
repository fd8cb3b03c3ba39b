use Rattle.std.proofs.Common.{ap, ◌∙◌, length, arith}
use Rattle.machine_run.specs.Views.{state}
use Rattle.open_tree.proofs.Renewing.{told-some, told-none, sound-child, all-told}
use Rattle.open_tree.proofs.brood.renewed_children.Goals.{in-Some+in_ok-push, in_default}
use Rattle.open_tree.proofs.brood.renewed_children.Goals as goal

pub renewed_child-requires-clause-sound : goal.renewed_child-requires-clause-sound
renewed_child-requires-clause-sound c =
    sound-child c.args.run.now c.args.sprouts.now c.requires.ready c.children-child-items.ensures.children
    (c.word-word.ensures ∙ ap (λ n. n.word) (c.node.ensures ∙ ap (λ j. j.node) c.job.ensures)) c.loop-child.child-index _ c.loop-child-test.true

pub renewed_child-requires-clause-few : goal.renewed_child-requires-clause-few
renewed_child-requires-clause-few c =
    let word = ap length (c.word-word.ensures ∙ ap (λ n. n.word) (c.node.ensures ∙ ap (λ j. j.node) c.job.ensures)) in
    omega (arith, word, c.requires.ready.few)

pub loop-child-preserved : goal.loop-child-preserved
loop-child-preserved c = elim c.match-branch-2.branch [
  | in-Some+in_ok-push w ↦
      told-some c.args.run.now.problem c.args.run.now.limits (state c.args.run.now).commits c.word-word.result.now c.children-child-items.result.now c.loop-child.children c.loop-child.child-index _ c.loop-child-test.true
      c.loop-child.invariant _ c.in_ok-renewed.ensures w.in-Some.renewed c.match-branch-2.children w.in-Some.is (w.children-is ∙ w.in_ok-push.ensures.ok)
  | in_default w ↦
      told-none c.args.run.now.problem c.args.run.now.limits (state c.args.run.now).commits c.word-word.result.now c.children-child-items.result.now c.loop-child.children c.loop-child.child-index _ c.loop-child-test.true
      c.loop-child.invariant _ c.in_ok-renewed.ensures c.match-branch-2.children w.in_default.is w.children-is
]

pub returns : goal.returns
returns c =
    all-told c.args.run.now c.args.sprouts.now c.requires.ready c.children-child-items.ensures.children
    (c.word-word.ensures ∙ ap (λ n. n.word) (c.node.ensures ∙ ap (λ j. j.node) c.job.ensures)) c.loop-child.child-index c.loop-child.children
    (omega (arith, c.loop-child-test.false)) c.loop-child.invariant
