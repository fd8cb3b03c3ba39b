-- The lines that a problem begins with are completed to those of a problem.
use Rattle.std.proofs.Common.{◌≡◌, ℕ, zero, suc, ◌-◌, ◌^◌, ◌≤◌, ◌<◌, true, List, [], ◌∷◌, ◌++◌, length, drop, Option, refl, sym, ap, subst, ◌∙◌, append_assoc, arith}
use Rattle.std.specs.Prelude.{ℤ, decimal, codes, nat_lt, ◌==◌, ◌||◌}
use Rattle.std.specs.List.{list_all}
use Rattle.std.proofs.lemmas.Bool.{false≢true, and_parts, and_from, le-leb, leb-true}
use Rattle.std.proofs.lemmas.Bool.Decides.{nat_tests}
use Rattle.tp_spec.specs.WellFormed.{Ground, is_timed}
use Rattle.tp_spec.specs.declared.problem.Action.{Action}
use Rattle.tp_spec.specs.declared.problem.TimedItem.{TimedItem}
use Rattle.ground_text.specs.Texts.{name_text, action_text, timed_text, header_text, problem_text}
use Rattle.ground_text.proofs.Kept.{IsProblem}
use Rattle.ground_text.specs.Reading.{number_at, index_at, name_at, action_at, timed_at, indices_at, values_at, conds_at, counted_at, parts_at}
use Rattle.problem_rules.specs.Tests.{are_actions, are_timed}
use Rattle.line_text.specs.Lines.{lines}
use Rattle.ground_text.specs.Completion.{filled, filled_actions, filled_timed, scale_or_one, completed}
use Rattle.ground_text.proofs.Numbers.{index_again}
use Rattle.ground_text.proofs.Blocks.{both_hold, good_timed}
use Rattle.ground_text.proofs.Cuts.{is_inside, line_first, decimal_inside}
use Rattle.ground_text.proofs.Picks.{pick, values_cut, conds_cut}
use Rattle.ground_text.proofs.Counts.{blocks}
use Rattle.ground_text.proofs.Naming.{cut_section, section_cut, section_same, names_of, names_test, cut_names, all_named, cut_long, cut_few}
use Rattle.ground_text.proofs.Acts.{lines_of, cut_action_section, actions_cut, actions_same}
use Rattle.ground_text.proofs.FilledActions.{ActionRules, actions_hold}
use Rattle.ground_text.proofs.Timings.{cut_timed_section, Timings, timed_cut, timed_same, timed_hold}
use Rattle.ground_text.proofs.Tail.{goal_line, values_line, init_line, init_cut, last_same, AsMany, starting_holds, aiming_holds, goal_kept, valued_holds, values_kept}

-- ---- the text, section by section

init_of : Ground → List ℕ
init_of p = init_line p.init p.values p.goal

timed_of : Ground → List ℕ
timed_of p = blocks timed_text (codes "timed ") p.timed (init_of p)

actions_of : Ground → List ℕ
actions_of p = blocks action_text (codes "actions ") p.actions (timed_of p)

fluents_of : Ground → List ℕ
fluents_of p = blocks name_text (codes "fluents ") p.fluents (actions_of p)

-- what stands behind the second line
facts_of : Ground → List ℕ
facts_of p = blocks name_text (codes "facts ") p.facts (fluents_of p)

shape : (p : Ground) → problem_text p ≡ codes "ground 1" ++ (10 ∷ ((codes "scale " ++ decimal p.scale) ++ (10 ∷ facts_of p)))
unfolding problem_text header_text facts_of fluents_of actions_of timed_of init_of
shape p = simp append_assoc

abbrev IsScale : ℕ → Type 0
IsScale s = (s == 1 || s == 10 || s == 100 || s == 1000) ≡ true

scale_small : (s : ℕ) → IsScale s → s < 2 ^ 32
scale_small s h = grind (arith, nat_tests)

scale_kept : (s : ℕ) → IsScale s → scale_or_one s ≡ s
scale_kept zero h = absurd (false≢true h)
scale_kept (suc s) h = grind (arith, nat_tests)

scale_inside : (s : ℕ) → IsScale s → list_all is_inside (codes "scale " ++ decimal s) ≡ true
scale_inside s h = decimal_inside s (let fits = scale_small s h in omega arith)

-- ---- the first two lines

first_lines : (p : Ground) → lines 1 (problem_text p) ≡ codes "ground 1\n"
first_lines p = ap (lines 1) (shape p)

header_lines : (p : Ground) (k : ℕ) → IsScale p.scale → lines (suc (suc k)) (problem_text p) ≡ codes "ground 1\nscale " ++ (decimal p.scale ++ (10 ∷ lines k (facts_of p)))
header_lines p k h =
    ap (lines (suc (suc k))) (shape p)
    ∙ line_first (codes "ground 1") ((codes "scale " ++ decimal p.scale) ++ (10 ∷ facts_of p)) (suc k) refl
    ∙ ap (λ (t : List ℕ). codes "ground 1\n" ++ t) (line_first (codes "scale " ++ decimal p.scale) (facts_of p) k (scale_inside p.scale h))

abbrev cut_scale : ℕ → ℕ → ℕ
cut_scale zero scale = 0
cut_scale (suc zero) scale = 0
cut_scale (suc (suc k)) scale = scale

-- how many lines are left behind the first two
abbrev behind_two : ℕ → ℕ
behind_two zero = 0
behind_two (suc zero) = 0
behind_two (suc (suc k)) = k

record Header (p : Ground) (n : ℕ) : Type 0 where
  pub scale : (index_at (drop 15 (lines n (problem_text p)))).0 ≡ cut_scale n p.scale
  pub behind : drop 7 (index_at (drop 15 (lines n (problem_text p)))).1 ≡ drop 6 (lines (behind_two n) (facts_of p))

header_read : (p : Ground) (n : ℕ) → IsScale p.scale → Header p n
unfolding index_at number_at
header_read p zero h = record { scale = refl; behind = refl }
header_read p (suc zero) h = record {
  scale = ap (λ (t : List ℕ). (index_at (drop 15 t)).0) (first_lines p);
  behind = ap (λ (t : List ℕ). drop 7 (index_at (drop 15 t)).1) (first_lines p);
}
header_read p (suc (suc k)) h =
    let all : index_at (drop 15 (lines (suc (suc k)) (problem_text p))) ≡ (p.scale, 10 ∷ lines k (facts_of p)) =
    ap (λ (t : List ℕ). index_at (drop 15 t)) (header_lines p k h) ∙ index_again p.scale _ (scale_small p.scale h) refl in
    record { scale = ap (λ (x : ℕ × List ℕ). x.0) all; behind = ap (λ (x : ℕ × List ℕ). drop 7 x.1) all }

-- ---- how many of n lines are left behind each section

abbrev behind_facts : Ground → ℕ → ℕ
behind_facts p n = behind_two n - suc (length p.facts)

abbrev behind_fluents : Ground → ℕ → ℕ
behind_fluents p n = behind_facts p n - suc (length p.fluents)

abbrev behind_actions : Ground → ℕ → ℕ
behind_actions p n = behind_fluents p n - suc (lines_of p.actions)

abbrev behind_timed : Ground → ℕ → ℕ
behind_timed p n = behind_actions p n - suc (length p.timed)

-- what is read of the first n lines of the text of a problem
abbrev pub cut : Ground → ℕ → Ground
cut p n = record {
  scale = cut_scale n p.scale;
  facts = cut_section (behind_two n) p.facts;
  fluents = cut_section (behind_facts p n) p.fluents;
  actions = cut_action_section (behind_fluents p n) p.actions;
  timed = cut_timed_section (behind_actions p n) p.timed;
  init = pick (behind_timed p n) p.init;
  values = pick (behind_timed p n - 1) p.values;
  goal = pick (behind_timed p n - 1 - 1) p.goal;
}

-- ---- the rules of a problem, part by part

actions_rules : (p : Ground) → IsProblem p → ActionRules (length p.facts) (length p.fluents) p.actions
actions_rules p is =
    let a = and_parts _ _ is.well_formed.acting in
    record { few = a.0; are = a.1; kept = is.kept_actions; told_apart = is.well_formed.told_apart }

timed_rules : (p : Ground) → IsProblem p → Timings (length p.facts) p.timed
timed_rules p is =
    let a = and_parts _ _ is.well_formed.timing in
    let b = and_parts _ _ a.0 in
    record { few = leb-true (length p.timed) 256 b.0; are = b.1; rise = a.1; fit = is.kept_ticks }

good_items : (f : ℕ) (items : List TimedItem) → Timings f items → list_all (good_timed f) items ≡ true
unfolding good_timed
good_items f items t = both_hold (is_timed f) (λ t. nat_lt t.tick (2 ^ 64)) items t.are t.fit

-- ---- what is read of the first lines

pub front_read : (p : Ground) (n : ℕ) → IsProblem p → parts_at (lines n (problem_text p)) ≡ cut p n
unfolding parts_at facts_of fluents_of actions_of timed_of init_of
front_read p n is =
    let w = is.well_formed in
    let read = header_read p n w.scaled in
    let f = names_of 4096 p.facts w.fact_names in
    let l = names_of 256 p.fluents w.fluent_names in
    let a = actions_rules p is in
    let t = timed_rules p is in
    let facts = ap (counted_at name_at 4096) read.behind
    ∙ section_cut (codes "facts ") 6 4096 (behind_two n) p.facts (fluents_of p) (record { inside = refl; skips = λ t. refl }) (omega arith) f.few f.are in
    let fluents = ap (λ (x : List (List ℕ) × List ℕ). counted_at name_at 256 (drop 8 x.1)) facts
    ∙ section_cut (codes "fluents ") 8 256 (behind_facts p n) p.fluents (actions_of p) (record { inside = refl; skips = λ t. refl }) (omega arith) l.few l.are in
    let actions = ap (λ (x : List (List ℕ) × List ℕ). counted_at action_at 4096 (drop 8 x.1)) fluents
    ∙ actions_cut (length p.facts) (length p.fluents) f.few l.few (behind_fluents p n) p.actions (timed_of p) (leb-true _ _ a.few) a.are a.kept in
    let timed = ap (λ (x : List Action × List ℕ). counted_at timed_at 256 (drop 6 x.1)) actions
    ∙ timed_cut (length p.facts) f.few (behind_actions p n) p.timed (init_of p) t.few (good_items (length p.facts) p.timed t) in
    let init = ap (λ (x : List TimedItem × List ℕ). indices_at (drop 4 x.1)) timed
    ∙ init_cut (length p.facts) f.few (behind_timed p n) p.init (values_line p.values p.goal) (and_parts _ _ w.starting).0 in
    let values = ap (λ (x : List ℕ × List ℕ). values_at (drop 7 x.1)) init
    ∙ values_cut (codes "values") 6 (behind_timed p n) p.values (goal_line p.goal) (record { inside = refl; skips = λ t. refl }) is.kept_values in
    let goal = ap (λ (x : List (Option ℤ) × List ℕ). conds_at (drop 5 x.1)) values
    ∙ conds_cut (length p.facts) (length p.fluents) f.few l.few (codes "goal") 4 (behind_timed p n - 1) p.goal (codes "end\n") (record { inside = refl; skips = λ t. refl }) (and_parts _ _ w.aiming).1 is.kept_goal in
    λ i. record { scale = read.scale i; facts = (facts i).0; fluents = (fluents i).0; actions = (actions i).0; timed = (timed i).0; init = (init i).0; values = (values i).0; goal = (goal i).0 }

-- ---- the completion is a problem

cut_scaled : (n s : ℕ) → IsScale s → IsScale (scale_or_one (cut_scale n s))
cut_scaled zero s h = refl
cut_scaled (suc zero) s h = refl
cut_scaled (suc (suc k)) s h = ap (λ (x : ℕ). x == 1 || x == 10 || x == 100 || x == 1000) (scale_kept s h) ∙ h

cut_actions_hold : (k f facts n fluents : ℕ) (actions : List Action) → AsMany k f facts → AsMany k n fluents
    → ActionRules facts fluents actions → ActionRules f n (filled_actions [] (cut_action_section k actions))
cut_actions_hold zero f facts n fluents actions same_facts same_fluents a = record { few = refl; are = refl; kept = refl; told_apart = refl }
cut_actions_hold (suc k) f facts n fluents actions same_facts same_fluents a =
    let filled = filled_actions [] (cut_action_section (suc k) actions) in
    subst (λ (x : ℕ). ActionRules x n filled) (sym (same_facts (omega arith)))
    (subst (λ (x : ℕ). ActionRules facts x filled) (sym (same_fluents (omega arith))) (actions_hold facts fluents (suc k) actions a))

cut_timed_hold : (k f facts : ℕ) (items : List TimedItem) → AsMany k f facts → Timings facts items → Timings f (filled_timed 0 (cut_timed_section k items))
cut_timed_hold zero f facts items same_facts t = record { few = omega arith; are = refl; rise = refl; fit = refl }
cut_timed_hold (suc k) f facts items same_facts t =
    subst (λ (x : ℕ). Timings x (filled_timed 0 (cut_timed_section (suc k) items))) (sym (same_facts (omega arith))) (timed_hold facts (suc k) items t)

acting_test : (f n : ℕ) (actions : List Action) → ActionRules f n actions → are_actions f n actions ≡ true
acting_test f n actions a = and_from _ _ a.few a.are

timing_test : (f : ℕ) (items : List TimedItem) → Timings f items → are_timed f items ≡ true
timing_test f items t = and_from _ _ (and_from _ _ (le-leb (length items) 256 t.few) t.are) t.rise

pub front_is : (p : Ground) (n : ℕ) → IsProblem p → IsProblem (completed (cut p n))
front_is p n is =
    let w = is.well_formed in
    let f = names_of 4096 p.facts w.fact_names in
    let l = names_of 256 p.fluents w.fluent_names in
    let facts : (0 < behind_two n) → length (filled [] (cut_section (behind_two n) p.facts)) ≡ length p.facts = all_named (behind_two n) p.facts in
    let fluents : (0 < behind_facts p n) → length (filled [] (cut_section (behind_facts p n) p.fluents)) ≡ length p.fluents = all_named (behind_facts p n) p.fluents in
    let acts = cut_actions_hold (behind_fluents p n) _ (length p.facts) _ (length p.fluents) p.actions (λ lt. facts (omega arith)) (λ lt. fluents (omega arith)) (actions_rules p is) in
    let times = cut_timed_hold (behind_actions p n) _ (length p.facts) p.timed (λ lt. facts (omega arith)) (timed_rules p is) in
    record {
      well_formed = record {
        scaled = cut_scaled n p.scale w.scaled;
        fact_names = names_test 4096 _ (cut_names 4096 (behind_two n) p.facts f);
        fluent_names = names_test 256 _ (cut_names 256 (behind_facts p n) p.fluents l);
        acting = acting_test _ _ _ acts;
        told_apart = acts.told_apart;
        timing = timing_test _ _ times;
        ticks_fit = times.fit;
        starting = starting_holds (behind_timed p n) _ (length p.facts) p.init (λ lt. facts (omega arith)) w.starting;
        valued = valued_holds (behind_timed p n - 1) _ (length p.fluents) _ p.values (cut_long (behind_facts p n) p.fluents) (λ lt. fluents (omega arith)) w.valued;
        values_fit = values_kept (behind_timed p n - 1) _ p.values is.kept_values;
        aiming = aiming_holds (behind_timed p n - 1 - 1) _ (length p.facts) _ (length p.fluents) p.goal (λ lt. facts (omega arith)) (λ lt. fluents (omega arith)) w.aiming;
      };
      kept_actions = acts.kept;
      kept_ticks = times.fit;
      kept_values = values_kept (behind_timed p n - 1) _ p.values is.kept_values;
      kept_goal = goal_kept (behind_timed p n - 1 - 1) p.goal is.kept_goal;
    }

-- ---- its text begins with these lines

pub front_same : (p : Ground) (n : ℕ) → IsProblem p → lines n (problem_text (completed (cut p n))) ≡ lines n (problem_text p)
unfolding facts_of fluents_of actions_of timed_of init_of
front_same p zero is = refl
front_same p (suc zero) is = first_lines (completed (cut p 1)) ∙ sym (first_lines p)
front_same p (suc (suc k)) is =
    let n = suc (suc k) in
    let q = completed (cut p n) in
    let w = is.well_formed in
    let f = names_of 4096 p.facts w.fact_names in
    let l = names_of 256 p.fluents w.fluent_names in
    let a = actions_rules p is in
    let t = timed_rules p is in
    let many = subst (λ (m : ℕ). length (cut_section (behind_facts p n) p.fluents) ≤ m) (sym w.valued) (cut_few (behind_facts p n) p.fluents) in
    let last = last_same (length p.facts) f.few (length p.fluents) l.few (cut_section (behind_facts p n) p.fluents) (behind_timed p n) p.init p.values p.goal
    (and_parts _ _ w.starting).0 many is.kept_values (and_parts _ _ w.aiming).1 is.kept_goal in
    let timed = timed_same (length p.facts) f.few (behind_actions p n) p.timed (init_of p) (init_of q) t.few (good_items (length p.facts) p.timed t) last in
    let actions = actions_same (length p.facts) (length p.fluents) f.few l.few (behind_fluents p n) p.actions (timed_of p) (timed_of q) (leb-true _ _ a.few) a.are a.kept timed in
    let fluents = section_same (codes "fluents ") (behind_facts p n) p.fluents (actions_of p) (actions_of q) refl (few256 _ l.few) l.are actions in
    let facts = section_same (codes "facts ") k p.facts (fluents_of p) (fluents_of q) refl (few4096 _ f.few) f.are fluents in
    header_lines q k (cut_scaled n p.scale w.scaled)
    ∙ (λ i. codes "ground 1\nscale " ++ (decimal (scale_kept p.scale w.scaled i) ++ (10 ∷ facts i)))
    ∙ sym (header_lines p k w.scaled) where
      few256 : (n : ℕ) → n ≤ 256 → n < 2 ^ 64
      few256 n h = omega arith

      few4096 : (n : ℕ) → n ≤ 4096 → n < 2 ^ 64
      few4096 n h = omega arith
