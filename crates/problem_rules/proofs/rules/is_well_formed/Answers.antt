use Rattle.std.proofs.Common.{sym, ◌∙◌}
use Rattle.std.proofs.lemmas.Result.{IfOk-weaker}
use Rattle.problem_rules.specs.Parts.{ground_of}
use Rattle.problem_rules.proofs.Tested.{tested, passes}
use Rattle.problem_rules.proofs.rules.is_well_formed.Goals as goal

pub returns-clause-yes : goal.returns-clause-yes
returns-clause-yes c = IfOk-weaker c.rules_hold.result _ _ (λ is same holds. tested (ground_of c.args.parts.now) (sym same ∙ holds)) c.rules_hold.ensures

pub returns-clause-no : goal.returns-clause-no
returns-clause-no c = IfOk-weaker c.rules_hold.result _ _ (λ is same w. same ∙ passes (ground_of c.args.parts.now) w) c.rules_hold.ensures
