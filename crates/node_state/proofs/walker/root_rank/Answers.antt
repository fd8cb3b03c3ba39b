use Rattle.std.proofs.Common.{◌∙◌, sym, ap, not, count_by}
use Rattle.tp_spec.specs.States.{State, holds, initial}
use Rattle.tp_spec.specs.Machine.{rank}
use Rattle.tp_laws.proofs.States.{next-none}
use Rattle.node_state.proofs.walker.root_rank.Goals as goal

pub returns : goal.returns
unfolding rank
returns c =
    c.unmet_in.ensures ∙ ap (λ (s : State). count_by (λ g. not (holds s g)) c.args.problem.now.goal) (c.in_ok-start.ensures.is ∙ sym (next-none (initial c.args.problem.now)))
