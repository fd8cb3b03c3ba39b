use Rattle.std.proofs.Common.{◌∙◌, ap, length, arith, []}
use Rattle.tp_spec.specs.declared.problem.Problem.{Problem}
use Rattle.machine_run.proofs.Ranks.{rank-few}
use Rattle.tp_spec.specs.Machine.{rank}
use Rattle.situated_machine.proofs.Stepping.{kept-first, root-of}
use Rattle.situated_machine.proofs.keeping.Replayer.new.Goals as goal

pub root-requires : goal.root-requires
root-requires c =
    omega (arith, c.in_ok-rank.ensures, ap (λ (q : Problem). rank q []) c.in_ok-walker.ensures, rank-few c.args.problem.now [], ap length (c.as_slice.ensures ∙ ap (λ (q : Problem). q.goal) c.problem.view_is))

pub invariant_of-result : goal.invariant_of-result
invariant_of-result c = kept-first c.in_ok-walker.ensures c.requires.limited c.new-2.ensures
    (root-of c.requires.formed (c.in_ok-rank.ensures ∙ ap (λ (q : Problem). rank q []) c.in_ok-walker.ensures) c.in_ok-frontier.ensures.nodes c.in_ok-frontier.ensures.made
    (omega (arith, c.in_ok-frontier.ensures.ranks, ap length (c.as_slice.ensures ∙ ap (λ (q : Problem). q.goal) c.problem.view_is))))
