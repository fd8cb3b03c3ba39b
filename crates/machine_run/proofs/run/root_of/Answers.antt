use Rattle.std.proofs.Common.{◌∙◌, ap, length, arith, []}
use Rattle.tp_spec.specs.declared.problem.Problem.{Problem}
use Rattle.machine_run.proofs.Ranks.{rank-few}
use Rattle.machine_run.proofs.run.root_of.Goals as goal

pub root-requires : goal.root-requires
root-requires c = omega (arith, c.in_ok-rank.ensures, rank-few c.args.problem.now [], ap length (c.as_slice.ensures ∙ ap (λ (q : Problem). q.goal) c.problem.view_is))
