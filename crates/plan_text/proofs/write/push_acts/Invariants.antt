use Rattle.std.proofs.Common.{◌≡◌, ◌++◌, take, codes}
use Rattle.std.specs.List.{flat_map}
use Rattle.tp_spec.specs.Texts.{act_text}
use Rattle.plan_text.proofs.write.push_acts.Given as goal

abbrev pub invariant-loop-act : goal.invariant-loop-act
invariant-loop-act l = l.text.items ≡ l.fn.text.items ++ flat_map (λ x. act_text l.problem x ++ codes "\n") (take l.act-index l.acts)
