use Rattle.std.proofs.Common.{arith, ◌≡◌, ◌≤◌, ℕ, length, Option, Some, None, IsTrue, not, List, sym, ◌∙◌, refl}
use Rattle.std.specs.Prelude.{MatchOption}
use Rattle.std.specs.List.{list_all, find}
use Rattle.std.proofs.lemmas.Option.{MatchOption-at_some, MatchOption-at_none}
use Rattle.tp_spec.specs.declared.plan.Timed.{Timed}
use Rattle.tp_spec.specs.Lists.{each_pair, each_next}
use Rattle.tp_spec.specs.Courses.{in_range, act_before}
use Rattle.plan_validator.specs.declared.acts.Rule.{Rule}
use Rattle.plan_validator.specs.declared.acts.Rule.TheVariants.{StartsApart, InTurn}
use Rattle.plan_validator.specs.Acts.{keeps}
use Rattle.plan_validator.specs.Verdicts.{IsFirstOut, starts_apart}
use Rattle.plan_validator.proofs.Lists.{find-none}
use Rattle.plan_validator.proofs.Order.{all_apart, first_again}
use Rattle.plan_validator.proofs.acts.fault_of_acts.Goals as goal

abbrev Judged : Rule → List Timed → Option Timed → Type 0
Judged rule acts o = MatchOption o (IsTrue (each_pair (keeps rule) acts)) (λ x. IsFirstOut (keeps rule) acts x.start x.action)

all_keep : (rule : Rule) (acts : List Timed) (o : Option Timed) → o ≡ None → Judged rule acts o → IsTrue (each_pair (keeps rule) acts)
all_keep rule acts o is h = MatchOption-at_none (IsTrue (each_pair (keeps rule) acts)) (λ x. IsFirstOut (keeps rule) acts x.start x.action) is h

one_breaks : (rule : Rule) (acts : List Timed) (o : Option Timed) (x : Timed) → o ≡ Some x → Judged rule acts o → IsFirstOut (keeps rule) acts x.start x.action
one_breaks rule acts o x is h = MatchOption-at_some (IsTrue (each_pair (keeps rule) acts)) (λ x. IsFirstOut (keeps rule) acts x.start x.action) x is h

pub returns-in-Some : goal.returns-in-Some
returns-in-Some c = record {
  few = omega arith;
  out = first_again c.args.acts.now c.in-Some.act.start c.in-Some.act.action c.requires.in_order (one_breaks StartsApart c.args.acts.now c.in_ok-act.field-0 c.in-Some.act c.in-Some.is c.in_ok-act.ensures);
}

pub returns-in-Some-first_length_out : goal.returns-in-Some-first_length_out
returns-in-Some-first_length_out c = record {
  few = omega arith;
  once = all_apart c.args.acts.now c.requires.in_order (all_keep StartsApart c.args.acts.now c.in_ok-act.field-0 c.in_default.is c.in_ok-act.ensures);
  out = record { act = c.in-Some-first_length_out.act; first = sym c.in-Some-first_length_out.ensures; starts = refl; names = refl };
}

pub returns-in-Some-2 : goal.returns-in-Some-2
returns-in-Some-2 c = record {
  few = omega arith;
  once = all_apart c.args.acts.now c.requires.in_order (all_keep StartsApart c.args.acts.now c.in_ok-act.field-0 c.in_default.is c.in_ok-act.ensures);
  lengths = find-none (λ x. in_range c.args.problem.now x.action x.length) c.args.acts.now (sym c.in_default-first_length_out.ensures);
  out = one_breaks InTurn c.args.acts.now c.in_ok-act-2.field-0 c.in-Some-2.act c.in-Some-2.is c.in_ok-act-2.ensures;
}

pub returns : goal.returns
returns c = record {
  few = omega arith;
  once = all_apart c.args.acts.now c.requires.in_order (all_keep StartsApart c.args.acts.now c.in_ok-act.field-0 c.in_default.is c.in_ok-act.ensures);
  lengths = find-none (λ x. in_range c.args.problem.now x.action x.length) c.args.acts.now (sym c.in_default-first_length_out.ensures);
  turns = all_keep InTurn c.args.acts.now c.in_ok-act-2.field-0 c.in_default-2.is c.in_ok-act-2.ensures;
}
