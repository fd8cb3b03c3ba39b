use Rattle.tp_laws.proofs.TellOfTicks.{are-happenings, spelled-word}
use Rattle.tp_laws.proofs.plans.spelled_plans.Goals as goal

pub returns-clause-groups : goal.returns-clause-groups
returns-clause-groups c p l formed now commits w x turn sound complete is =
    are-happenings p l now commits w x formed sound complete is

pub returns-clause-spelled : goal.returns-clause-spelled
returns-clause-spelled c p l formed now commits w x turn sound complete is =
    spelled-word p l now commits w x formed sound complete is
