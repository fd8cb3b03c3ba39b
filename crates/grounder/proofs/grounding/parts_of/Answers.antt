use Rattle.std.proofs.Common.{◌≡◌, [], true, map, refl, ap, ◌∙◌}
use Rattle.std.specs.List.{flat_map}
use Rattle.tp_spec.specs.Lists.{each_pair}
use Rattle.tp_spec.specs.WellFormed.{name_before}
use Rattle.grounder.specs.Sources.{source_of}
use Rattle.grounder.specs.Objects.{numbers_where}
use Rattle.grounder.specs.Starts.{is_true, given}
use Rattle.grounder.specs.Naming.{facts, fluents, fact_names, fluent_names}
use Rattle.grounder.specs.Parts.{schema_actions, cond_of}
use Rattle.grounder.specs.Grounded.{timed_item, timed_ticks, ground_actions}
use Rattle.grounder.proofs.Rising.{names_rise}
use Rattle.grounder.proofs.grounding.parts_of.Goals as goal

pub numbering_of-requires-clause-facts : goal.numbering_of-requires-clause-facts
numbering_of-requires-clause-facts c =
    ap (each_pair name_before) c.requires.facts_are ∙ names_rise [] (fact_names (source_of c.args.start.now.source)) refl

pub numbering_of-requires-clause-fluents : goal.numbering_of-requires-clause-fluents
numbering_of-requires-clause-fluents c =
    ap (each_pair name_before) c.requires.fluents_are ∙ names_rise [] (fluent_names (source_of c.args.start.now.source)) refl

pub returns : goal.returns
returns c =
    let s = source_of c.args.start.now.source in
    let acts = c.args.start.now.source.domain.now.actions in
    let F : c.in_ok-numbering.numbering.facts ≡ facts s = c.in_ok-numbering.ensures.facts ∙ c.requires.facts_are in
    let L : c.in_ok-numbering.numbering.fluents ≡ fluents s = c.in_ok-numbering.ensures.fluents ∙ c.requires.fluents_are in
    let T : c.as_slice-2.result.now ≡ facts s = c.as_slice-2.ensures ∙ c.requires.facts_are in
    let K : c.as_slice-3.result.now ≡ timed_ticks s = c.as_slice-3.ensures ∙ c.requires.ticks_are in
    let made : flat_map (schema_actions s c.in_ok-numbering.numbering.facts c.in_ok-numbering.numbering.fluents) acts ≡ ground_actions s = λ i. flat_map (schema_actions s (F i) (L i)) acts in
    let dated : map (timed_item s c.as_slice-2.result.now) c.as_slice-3.result.now ≡ map (timed_item s (facts s)) (timed_ticks s) = λ i. map (timed_item s (T i)) (K i) in
    let aimed : map (cond_of s c.in_ok-numbering.numbering.facts c.in_ok-numbering.numbering.fluents true []) c.as_slice-6.result.now ≡ map (cond_of s (facts s) (fluents s) true []) s.task.goal = λ i. map (cond_of s (F i) (L i) true []) (c.as_slice-6.ensures i) in
    let actions = c.in_ok-actions.ensures ∙ made in
    let timed = c.in_ok-timed.ensures ∙ dated in
    let init = c.in_ok-init.ensures ∙ ap (numbers_where (is_true s) 0) (c.as_slice-4.ensures ∙ c.requires.facts_are) in
    let values = c.in_ok-values.ensures ∙ ap (map (given s)) (c.as_slice-5.ensures ∙ c.requires.fluents_are) in
    let goal_is = c.in_ok-goal.ensures ∙ aimed in
    λ i. record {
      scale = c.args.scale;
      facts = c.requires.facts_are i;
      fluents = c.requires.fluents_are i;
      actions = actions i;
      timed = timed i;
      init = init i;
      values = values i;
      goal = goal_is i;
    }

pub actions_of-requires : goal.actions_of-requires
actions_of-requires c = c.as_slice.ensures ∙ c.requires.kept_are
