use Rattle.std.proofs.Common.{◌≡◌, ap, sym, subst, ◌∙◌, suc}
use Rattle.std.specs.Prelude.{◌||◌, ◌==◌, not, true}
use Rattle.tp_spec.specs.Lists.{is_empty}
use Rattle.tp_spec.specs.Courses.{happening}
use Rattle.tp_spec.specs.Words.{spelled}
use Rattle.tp_laws.proofs.Ends.{groups-spelled, last-tick, same-end}
use Rattle.tp_laws.proofs.laws.end_of_word.Goals as goal

pub returns-clause-last : goal.returns-clause-last
returns-clause-last c p l plan valid = record {
  grouped = groups-spelled p plan.acts (suc plan.end);
  ends = last-tick p plan.acts plan.end valid.closing;
}

pub returns-clause-given : goal.returns-clause-given
returns-clause-given c p l m a b first second same_acts same_word =
    let closing : ((b.end == 0) || not (is_empty (happening p a.acts b.end))) ≡ true =
    subst (λ acts. ((b.end == 0) || not (is_empty (happening p acts b.end))) ≡ true) (sym same_acts) second.closing in
    same-end p a.acts a.end b.end first.closing closing (same_word ∙ ap (λ acts. spelled p acts (suc b.end)) (sym same_acts))
