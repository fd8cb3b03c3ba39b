-- A domain and a problem that fit have a ground problem, where no count is past its limit.
use Rattle.std.proofs.Common.{◌≡◌, ℕ, ◌+◌, ◌-◌, ◌^◌, ◌≤◌, min, Bool, true, false, not, ◌&&◌, cond, List, [], ◌∷◌, length, map, Option, Some, None, refl, ap, sym, ◌∙◌, arith}
use Rattle.std.specs.Prelude.{nat_lt, nat_le, ◌==◌}
use Rattle.std.specs.List.{list_all, flat_map}
use Rattle.std.specs.Ordering.{is_lt, nat_cmp}
use Rattle.std.specs.Str.{bytes_eq}
use Rattle.std.proofs.lemmas.Bool.{and_parts, and_from, le-leb, ltb-false, eq-eqb}
use Rattle.std.proofs.lemmas.List.Concat.{flat_map-cons}
use Rattle.std.proofs.lemmas.List.{length-append, length-map}
use Rattle.tp_spec.specs.Lists.{is_empty, each_pair, each_next, IsIn}
use Rattle.tp_spec.specs.WellFormed.{IsWellFormed, name_before, is_name, is_value, is_cond, is_effect, are_effects, is_kind, is_action, is_timed, overwrite, is_relative, far}
use Rattle.tp_spec.specs.declared.problem.Action.{Action}
use Rattle.pddl_meaning.specs.declared.conditions.Condition.{Condition}
use Rattle.pddl_meaning.specs.declared.conditions.Condition.TheVariants.{Lit, Same, Compare}
use Rattle.pddl_meaning.specs.declared.changes.Change.{Change}
use Rattle.pddl_meaning.specs.declared.changes.Change.TheVariants.{Lit as Make, Update}
use Rattle.pddl_domain.specs.declared.domain.Bound.{Bound}
use Rattle.pddl_domain.specs.declared.domain.Schema.{Schema}
use Rattle.pddl_problem.specs.declared.task.Dated.{Dated}
use Rattle.grounder.specs.declared.fault.CountKind.{CountKind}
use Rattle.grounder.specs.declared.fault.CountKind.TheVariants.{Substitutions, Actions, Facts, Fluents, Timed}
use Rattle.grounder.specs.Sources.{Source, object_of, atom_name, call_name}
use Rattle.grounder.specs.Objects.{numbers_where, substitutions, raw_number}
use Rattle.grounder.specs.Starts.{is_true, given}
use Rattle.grounder.specs.Rigid.{is_so, is_static}
use Rattle.grounder.specs.Lengths.{has_length, kind_of, has_worth, least_from, most_from}
use Rattle.grounder.specs.Kept.{is_kept, kept, conditions_allow, are_sound, rewrites, is_known_by}
use Rattle.grounder.specs.Naming.{facts, fluents, fact_names, fluent_names, schema_facts, schema_fluents, action_facts, action_fluents, conds_facts, conds_fluents, remaining_facts, remaining_fluents, cond_facts, cond_fluents, change_facts, change_fluents, dated_facts, value_fluents}
use Rattle.grounder.specs.Parts.{number_in, certainty, cond_of, cond_left, conds_of, effect_of, action_of, schema_actions}
use Rattle.grounder.specs.Grounded.{timed_ticks, is_dated, timed_item, problem_of, total, past, excess}
use Rattle.grounder.proofs.Rising.{names_rise, next_of_pair}
use Rattle.problem_files.specs.Rules.{cond_fits, change_fits, changes_fit, kind_fits, conds_fit, schema_fits, Fits}
use Rattle.problem_files.proofs.Tests.{each_both, each_three, each_in, in_all, in_any, halves, from_flat, to_flat, to_map, all_filter, all_names, all_numbers, empty_flat, empty_map, pairs, is_found, any_found, same_bytes, all_found, number_below, one_name}
use Rattle.problem_files.proofs.Ranges.{where_rises, where_below, where_some, where_apart, less_than, ticks_rise, least_is, most_is, given_fits}
use Rattle.problem_files.proofs.Worths.{zero_fits, expr_fits}

-- ---- limits

past_at : (limit number : ℕ) (kind : CountKind) (next : Option (CountKind × ℕ)) (b : Bool) → nat_lt limit number ≡ b → cond b (Some (kind, min number (2 ^ 128 - 1))) next ≡ None → (number ≤ limit) × (next ≡ None)
past_at limit number kind next true e h = absurd (cc)
past_at limit number kind next false e h = (ltb-false limit number e, h)

past_none : (limit number : ℕ) (kind : CountKind) (next : Option (CountKind × ℕ)) → past limit kind number next ≡ None → (number ≤ limit) × (next ≡ None)
past_none limit number kind next h = past_at limit number kind next (nat_lt limit number) refl h

pub record IsWithin (s : Source) : Type 0 where
  pub actions : total (map (kept s) s.domain.actions) ≤ 4096
  pub facts_few : length (facts s) ≤ 4096
  pub fluents_few : length (fluents s) ≤ 256
  pub ticks_few : length (timed_ticks s) ≤ 256

within : (s : Source) → excess s ≡ None → IsWithin s
within s h =
    let a = past_none (2 ^ 24) (raw_number s s.domain.actions) Substitutions _ h in
    let b = past_none 4096 (total (map (kept s) s.domain.actions)) Actions _ a.1 in
    let c = past_none 4096 (length (facts s)) Facts _ b.1 in
    let d = past_none 256 (length (fluents s)) Fluents _ c.1 in
    let e = past_none 256 (length (timed_ticks s)) Timed None d.1 in
    record { actions = b.0; facts_few = c.0; fluents_few = d.0; ticks_few = e.0 }

acts_number : (s : Source) (fs ns : List (List ℕ)) (schemas : List Schema) → length (flat_map (schema_actions s fs ns) schemas) ≡ total (map (kept s) schemas)
acts_number s fs ns [] = refl
acts_number s fs ns (a ∷ rest) =
    ap length (flat_map-cons (schema_actions s fs ns) a rest)
    ∙ (length-append (schema_actions s fs ns a) (flat_map (schema_actions s fs ns) rest)
    ∙ (λ i. length-map (kept s a) (action_of s fs ns a) i + acts_number s fs ns rest i))

-- ---- conditions and effects over names that are found

module _ (s : Source) (fs ns : List (List ℕ)) (starts : (name : List ℕ) → is_value (given s name) ≡ true) where
  certain : (b : Bool) → is_cond (length fs) (length ns) (certainty b) ≡ true
  certain true = and_from _ _ (zero_fits (length ns)) (zero_fits (length ns))
  certain false = and_from _ _ (zero_fits (length ns)) (zero_fits (length ns))

  cond_keeps : (in_goal : Bool) (objects : List ℕ) (c : Condition) → list_all (is_found fs) (cond_facts s objects c) ≡ true → list_all (is_found ns) (cond_fluents s in_goal objects c) ≡ true → cond_fits c ≡ true → is_cond (length fs) (length ns) (cond_of s fs ns in_goal objects c) ≡ true
  cond_keeps in_goal objects (Lit positive atom) f n h = number_below fs (atom_name s objects atom) (and_parts _ _ f).0
  cond_keeps in_goal objects (Same positive left right) f n h = certain (is_so positive (object_of objects left == object_of objects right))
  cond_keeps in_goal objects (Compare op left right) f n h =
      let p = halves (is_found ns) (value_fluents s in_goal objects left) (value_fluents s in_goal objects right) n in
      let q = and_parts _ _ h in
      and_from _ _ (expr_fits s ns in_goal objects starts left p.0 q.0) (expr_fits s ns in_goal objects starts right p.1 q.1)

  left_keeps : (objects : List ℕ) (c : Condition) (b : Bool) → list_all (is_found fs) (cond b [] (cond_facts s objects c)) ≡ true → list_all (is_found ns) (cond b [] (cond_fluents s false objects c)) ≡ true → cond_fits c ≡ true → list_all (is_cond (length fs) (length ns)) (cond b [] (cond_of s fs ns false objects c ∷ [])) ≡ true
  left_keeps objects c true f n h = refl
  left_keeps objects c false f n h = and_from _ _ (cond_keeps false objects c f n h) refl

  conds_keep : (objects : List ℕ) (conds : List Condition) → list_all (is_found fs) (conds_facts s objects conds) ≡ true → list_all (is_found ns) (conds_fluents s objects conds) ≡ true → list_all cond_fits conds ≡ true → list_all (is_cond (length fs) (length ns)) (conds_of s fs ns objects conds) ≡ true
  conds_keep objects conds f n h =
      to_flat (is_cond (length fs) (length ns)) (cond_left s fs ns objects) conds
      (each_three (λ c. list_all (is_found fs) (remaining_facts s objects c)) (λ c. list_all (is_found ns) (remaining_fluents s objects c)) cond_fits (λ c. list_all (is_cond (length fs) (length ns)) (cond_left s fs ns objects c))
      (λ c a b e. left_keeps objects c (is_static s c) a b e) conds
      (from_flat (is_found fs) (remaining_facts s objects) conds f)
      (from_flat (is_found ns) (remaining_fluents s objects) conds n)
      h)

  effect_keeps : (objects : List ℕ) (c : Change) → list_all (is_found fs) (change_facts s objects c) ≡ true → list_all (is_found ns) (change_fluents s objects c) ≡ true → change_fits c ≡ true → is_effect (length fs) (length ns) (effect_of s fs ns objects c) ≡ true
  effect_keeps objects (Make true atom) f n h = number_below fs (atom_name s objects atom) (and_parts _ _ f).0
  effect_keeps objects (Make false atom) f n h = number_below fs (atom_name s objects atom) (and_parts _ _ f).0
  effect_keeps objects (Update how target value) f n h =
      let p = and_parts _ _ n in
      and_from _ _ (number_below ns (call_name s objects target) p.0) (expr_fits s ns false objects starts value p.1 h)

  refused : (e q b : Bool) → (e ≡ true → q ≡ true) → not (q && b) ≡ true → not (e && b) ≡ true
  refused false q b up h = refl
  refused true q b up h = ap (λ t. not (t && b)) (sym (up refl)) ∙ h

  not_over : (objects : List ℕ) (c d : Change) → list_all (is_found ns) (change_fluents s objects c) ≡ true → list_all (is_found ns) (change_fluents s objects d) ≡ true → not (rewrites s objects c d) ≡ true → not (overwrite (effect_of s fs ns objects c) (effect_of s fs ns objects d)) ≡ true
  not_over objects (Make true atom) d f g h = refl
  not_over objects (Make false atom) d f g h = refl
  not_over objects (Update how target value) (Make true atom) f g h = refl
  not_over objects (Update how target value) (Make false atom) f g h = refl
  not_over objects (Update how target value) (Update how' target' value') f g h =
      refused (number_in ns (call_name s objects target) == number_in ns (call_name s objects target')) (bytes_eq (call_name s objects target) (call_name s objects target')) (not (is_relative how && is_relative how'))
      (λ e. one_name ns (call_name s objects target) (call_name s objects target') (and_parts _ _ f).0 (and_parts _ _ g).0 e) h

  effects_keep : (objects : List ℕ) (changes : List Change) → list_all (is_found fs) (flat_map (change_facts s objects) changes) ≡ true → list_all (is_found ns) (flat_map (change_fluents s objects) changes) ≡ true → changes_fit changes ≡ true → are_sound s objects changes ≡ true → are_effects (length fs) (length ns) (map (effect_of s fs ns objects) changes) ≡ true
  effects_keep objects changes f n h sound =
      let w = and_parts (nat_le (length changes) 4096) (list_all change_fits changes) h in
      let v = and_parts (list_all (is_known_by s objects) changes) (each_pair (λ c d. not (rewrites s objects c d)) changes) sound in
      let fluents_found = from_flat (is_found ns) (change_fluents s objects) changes n in
      and_from _ _
      (and_from _ _ (ap (λ k. nat_le k 4096) (length-map changes (effect_of s fs ns objects)) ∙ w.0)
      (to_map (is_effect (length fs) (length ns)) (effect_of s fs ns objects) changes
      (each_three (λ c. list_all (is_found fs) (change_facts s objects c)) (λ c. list_all (is_found ns) (change_fluents s objects c)) change_fits (λ c. is_effect (length fs) (length ns) (effect_of s fs ns objects c))
      (λ c a b e. effect_keeps objects c a b e) changes (from_flat (is_found fs) (change_facts s objects) changes f) fluents_found w.1)))
      (pairs (λ c. list_all (is_found ns) (change_fluents s objects c)) (λ c d. not (rewrites s objects c d)) (λ a b. not (overwrite a b)) (effect_of s fs ns objects)
      (λ c d a b e. not_over objects c d a b e) changes fluents_found v.1)

  kind_keeps : (a : Schema) (objects : List ℕ) (b : Option (List Bound)) → kind_fits b a ≡ true → has_length s objects b ≡ true → is_kind (kind_of s objects b) (action_of s fs ns a objects) ≡ true
  kind_keeps a objects None h g =
      let w = and_parts (is_empty a.all_conds && is_empty a.end_conds) (is_empty a.end_effects) h in
      let v = and_parts (is_empty a.all_conds) (is_empty a.end_conds) w.0 in
      and_from _ _
      (and_from _ _ (empty_flat (cond_left s fs ns objects) a.all_conds v.0) (empty_flat (cond_left s fs ns objects) a.end_conds v.1))
      (empty_map (effect_of s fs ns objects) a.end_effects w.1)
  kind_keeps a objects (Some bounds) h g =
      let w = and_parts (list_all (has_worth s objects) bounds) (nat_le (least_from s objects 1 bounds) (most_from s objects far bounds)) g in
      and_from _ _
      (and_from _ _ (le-leb 1 (least_from s objects 1 bounds) (least_is s objects 1 bounds (omega arith))) w.1)
      (le-leb (most_from s objects far bounds) far (most_is s objects far bounds))

  -- all of an action but its name
  abbrev pub has_parts : Action → Bool
  has_parts a =
      is_kind a.kind a && list_all (is_cond (length fs) (length ns)) a.start_conds && list_all (is_cond (length fs) (length ns)) a.all_conds
      && list_all (is_cond (length fs) (length ns)) a.end_conds
      && are_effects (length fs) (length ns) a.start_effects
      && are_effects (length fs) (length ns) a.end_effects

  action_keeps : (a : Schema) (objects : List ℕ) → schema_fits a ≡ true → list_all (is_found fs) (action_facts s a objects) ≡ true → list_all (is_found ns) (action_fluents s a objects) ≡ true → is_kept s a objects ≡ true → has_parts (action_of s fs ns a objects) ≡ true
  action_keeps a objects h f n k =
      let k3 = and_parts (conditions_allow s a objects && has_length s objects a.bounds && are_sound s objects a.start_effects) (are_sound s objects a.end_effects) k in
      let k2 = and_parts (conditions_allow s a objects && has_length s objects a.bounds) (are_sound s objects a.start_effects) k3.0 in
      let k1 = and_parts (conditions_allow s a objects) (has_length s objects a.bounds) k2.0 in
      let h3 = and_parts (kind_fits a.bounds a && conds_fit a && changes_fit a.start_effects) (changes_fit a.end_effects) h in
      let h2 = and_parts (kind_fits a.bounds a && conds_fit a) (changes_fit a.start_effects) h3.0 in
      let h1 = and_parts (kind_fits a.bounds a) (conds_fit a) h2.0 in
      let c2 = and_parts (list_all cond_fits a.start_conds && list_all cond_fits a.all_conds) (list_all cond_fits a.end_conds) h1.1 in
      let c1 = and_parts (list_all cond_fits a.start_conds) (list_all cond_fits a.all_conds) c2.0 in
      let f4 = halves (is_found fs) _ _ f in
      let f3 = halves (is_found fs) _ _ f4.0 in
      let f2 = halves (is_found fs) _ _ f3.0 in
      let f1 = halves (is_found fs) _ _ f2.0 in
      let n4 = halves (is_found ns) _ _ n in
      let n3 = halves (is_found ns) _ _ n4.0 in
      let n2 = halves (is_found ns) _ _ n3.0 in
      let n1 = halves (is_found ns) _ _ n2.0 in
      and_from _ _
      (and_from _ _
      (and_from _ _
      (and_from _ _
      (and_from _ _ (kind_keeps a objects a.bounds h1.0 k1.1)
      (conds_keep objects a.start_conds f1.0 n1.0 c1.0))
      (conds_keep objects a.all_conds f1.1 n1.1 c1.1))
      (conds_keep objects a.end_conds f2.1 n2.1 c2.1))
      (effects_keep objects a.start_effects f3.1 n3.1 h2.1 k2.1))
      (effects_keep objects a.end_effects f4.1 n4.1 h3.1 k3.1)

  schema_keeps : (a : Schema) → schema_fits a ≡ true → list_all (is_found fs) (schema_facts s a) ≡ true → list_all (is_found ns) (schema_fluents s a) ≡ true → list_all has_parts (schema_actions s fs ns a) ≡ true
  schema_keeps a h f n =
      to_map has_parts (action_of s fs ns a) (kept s a)
      (each_three (λ o. list_all (is_found fs) (action_facts s a o)) (λ o. list_all (is_found ns) (action_fluents s a o)) (is_kept s a) (λ o. has_parts (action_of s fs ns a o))
      (λ o x y z. action_keeps a o h x y z) (kept s a)
      (from_flat (is_found fs) (action_facts s a) (kept s a) f)
      (from_flat (is_found ns) (action_fluents s a) (kept s a) n)
      (all_filter (is_kept s a) (substitutions s a.sorts)))

  pub parts_keep : (schemas : List Schema) → list_all schema_fits schemas ≡ true → list_all (is_found fs) (flat_map (schema_facts s) schemas) ≡ true → list_all (is_found ns) (flat_map (schema_fluents s) schemas) ≡ true → list_all has_parts (flat_map (schema_actions s fs ns) schemas) ≡ true
  parts_keep schemas h f n =
      to_flat has_parts (schema_actions s fs ns) schemas
      (each_three schema_fits (λ a. list_all (is_found fs) (schema_facts s a)) (λ a. list_all (is_found ns) (schema_fluents s a)) (λ a. list_all has_parts (schema_actions s fs ns a))
      (λ a x y z. schema_keeps a x y z) schemas h
      (from_flat (is_found fs) (schema_facts s) schemas f)
      (from_flat (is_found ns) (schema_fluents s) schemas n))

  named_too : (a : Action) → is_name a.name ≡ true → has_parts a ≡ true → is_action (length fs) (length ns) a ≡ true
  named_too a h g =
      let g5 = and_parts _ _ g in
      let g4 = and_parts _ _ g5.0 in
      let g3 = and_parts _ _ g4.0 in
      let g2 = and_parts _ _ g3.0 in
      let g1 = and_parts _ _ g2.0 in
      and_from _ _ (and_from _ _ (and_from _ _ (and_from _ _ (and_from _ _ (and_from _ _ h g1.0) g1.1) g2.1) g3.1) g4.1) g5.1

  pub actions_keep : (schemas : List Schema) → list_all (λ a. is_name a.name) (flat_map (schema_actions s fs ns) schemas) ≡ true → list_all schema_fits schemas ≡ true → list_all (is_found fs) (flat_map (schema_facts s) schemas) ≡ true → list_all (is_found ns) (flat_map (schema_fluents s) schemas) ≡ true → list_all (is_action (length fs) (length ns)) (flat_map (schema_actions s fs ns) schemas) ≡ true
  actions_keep schemas names h f n =
      each_both (λ a. is_name a.name) has_parts (is_action (length fs) (length ns)) named_too (flat_map (schema_actions s fs ns) schemas) names (parts_keep schemas h f n)

  pub goal_keeps : (goal : List Condition) → list_all (is_found fs) (flat_map (cond_facts s []) goal) ≡ true → list_all (is_found ns) (flat_map (cond_fluents s true []) goal) ≡ true → list_all cond_fits goal ≡ true → list_all (is_cond (length fs) (length ns)) (map (cond_of s fs ns true []) goal) ≡ true
  goal_keeps goal f n h =
      to_map (is_cond (length fs) (length ns)) (cond_of s fs ns true []) goal
      (each_three (λ c. list_all (is_found fs) (cond_facts s [] c)) (λ c. list_all (is_found ns) (cond_fluents s true [] c)) cond_fits (λ c. is_cond (length fs) (length ns) (cond_of s fs ns true [] c))
      (λ c a b e. cond_keeps true [] c a b e) goal
      (from_flat (is_found fs) (cond_facts s []) goal f)
      (from_flat (is_found ns) (cond_fluents s true []) goal n)
      h)

-- ---- timed literals

so_itself : (b : Bool) → is_so b b ≡ true
so_itself true = refl
so_itself false = refl

not_both : (a b : Bool) → a ≡ false → not (a && b) ≡ true
not_both a b h = ap (λ t. not (t && b)) h

not_both_2 : (a b : Bool) → b ≡ false → not (a && b) ≡ true
not_both_2 true b h = ap not h
not_both_2 false b h = refl

module _ (s : Source) (fs : List (List ℕ)) (no_clash : (tick : ℕ) (name : List ℕ) → is_dated s tick true name ≡ true → is_dated s tick false name ≡ false) where
  here : (d : Dated) (b : Bool) → d.positive ≡ b → IsIn d s.task.timed → is_dated s d.tick b (atom_name s [] d.atom) ≡ true
  here d b e i =
      in_any (λ x. x.tick == d.tick && is_so b x.positive && bytes_eq (atom_name s [] x.atom) (atom_name s [] d.atom)) s.task.timed d i
      (and_from _ _ (and_from _ _ (eq-eqb d.tick d.tick refl) (ap (is_so b) e ∙ so_itself b)) (same_bytes (atom_name s [] d.atom)))

  some_number : (d : Dated) (b : Bool) → d.positive ≡ b → IsIn d s.task.timed → list_all (is_found fs) (dated_facts s d) ≡ true → is_empty (numbers_where (is_dated s d.tick b) 0 fs) ≡ false
  some_number d b e i f =
      where_some (is_dated s d.tick b) 0 fs (any_found (is_dated s d.tick b) fs (atom_name s [] d.atom) (here d b e i) (and_parts _ _ f).0)

  says_some : (d : Dated) (b : Bool) → d.positive ≡ b → IsIn d s.task.timed → list_all (is_found fs) (dated_facts s d) ≡ true → not (is_empty (numbers_where (is_dated s d.tick true) 0 fs) && is_empty (numbers_where (is_dated s d.tick false) 0 fs)) ≡ true
  says_some d true e i f = not_both _ _ (some_number d true e i f)
  says_some d false e i f = not_both_2 _ _ (some_number d false e i f)

  item_keeps : (d : Dated) → IsIn d s.task.timed → list_all (is_found fs) (dated_facts s d) ≡ true → is_timed (length fs) (timed_item s fs d.tick) ≡ true
  item_keeps d i f =
      and_from _ _
      (and_from _ _
      (and_from _ _
      (and_from _ _
      (and_from _ _ (says_some d d.positive refl i f)
      (where_below (is_dated s d.tick true) fs))
      (where_below (is_dated s d.tick false) fs))
      (where_rises (is_dated s d.tick true) fs))
      (where_rises (is_dated s d.tick false) fs))
      (where_apart (is_dated s d.tick true) (is_dated s d.tick false) (no_clash d.tick) 0 fs)

  pub timed_keeps : list_all (is_found fs) (flat_map (dated_facts s) s.task.timed) ≡ true → list_all (is_timed (length fs)) (map (timed_item s fs) (timed_ticks s)) ≡ true
  timed_keeps f =
      let each_found = from_flat (is_found fs) (dated_facts s) s.task.timed f in
      to_map (is_timed (length fs)) (timed_item s fs) (timed_ticks s)
      (all_numbers (λ t. is_timed (length fs) (timed_item s fs t)) [] (map (λ d. d.tick) s.task.timed) refl
      (to_map (λ t. is_timed (length fs) (timed_item s fs t)) (λ d. d.tick) s.task.timed
      (each_in (λ d. is_timed (length fs) (timed_item s fs d.tick)) s.task.timed
      (λ d i. item_keeps d i (in_all (λ x. list_all (is_found fs) (dated_facts s x)) s.task.timed d i each_found)))))

  pub items_rise : each_next (λ s t. nat_lt s.tick t.tick) (map (timed_item s fs) (timed_ticks s)) ≡ true
  items_rise =
      next_of_pair (λ s t. nat_lt s.tick t.tick) (map (timed_item s fs) (timed_ticks s))
      (pairs (λ t. true) (λ a b. is_lt (nat_cmp a b)) (λ s t. nat_lt s.tick t.tick) (timed_item s fs) (λ x y a b e. less_than x y e) (timed_ticks s)
      (each_in (λ t. true) (timed_ticks s) (λ t i. refl))
      (ticks_rise [] (map (λ d. d.tick) s.task.timed) refl))

-- ---- all rules

pub keeps : (scale : ℕ) (s : Source) → Fits scale s → excess s ≡ None → IsWellFormed (problem_of scale s)
keeps scale s fits none =
    let few = within s none in
    let fs = facts s in
    let ns = fluents s in
    let starts : (name : List ℕ) → is_value (given s name) ≡ true = λ name. given_fits s name s.task.values fits.values_fit in
    let f2 = halves (is_found fs) _ _ (all_found [] (fact_names s)) in
    let f1 = halves (is_found fs) _ _ f2.0 in
    let n1 = halves (is_found ns) _ _ (all_found [] (fluent_names s)) in
    record {
      scaled = fits.scaled;
      fact_names =
          and_from _ _
          (and_from _ _ (le-leb (length fs) 4096 few.facts_few) (all_names is_name [] (fact_names s) refl fits.facts_named))
          (next_of_pair name_before fs (names_rise [] (fact_names s) refl));
      fluent_names =
          and_from _ _
          (and_from _ _ (le-leb (length ns) 256 few.fluents_few) (all_names is_name [] (fluent_names s) refl fits.fluents_named))
          (next_of_pair name_before ns (names_rise [] (fluent_names s) refl));
      acting =
          and_from _ _
          (ap (λ n. nat_le n 4096) (acts_number s fs ns s.domain.actions) ∙ le-leb (total (map (kept s) s.domain.actions)) 4096 few.actions)
          (actions_keep s fs ns starts s.domain.actions fits.actions_named fits.schemas_fit f1.0 n1.0);
      told_apart = fits.told_apart;
      timing =
          and_from _ _
          (and_from _ _ (ap (λ n. nat_le n 256) (length-map (timed_ticks s) (timed_item s fs)) ∙ le-leb (length (timed_ticks s)) 256 few.ticks_few)
          (timed_keeps s fs fits.no_clash f1.1))
          (items_rise s fs fits.no_clash);
      ticks_fit =
          to_map (λ t. nat_lt t.tick (2 ^ 64)) (timed_item s fs) (timed_ticks s)
          (all_numbers (λ t. nat_lt t (2 ^ 64)) [] (map (λ d. d.tick) s.task.timed) refl (to_map (λ t. nat_lt t (2 ^ 64)) (λ d. d.tick) s.task.timed fits.ticks_fit));
      starting = and_from _ _ (where_below (is_true s) fs) (where_rises (is_true s) fs);
      valued = length-map ns (given s);
      values_fit = to_map is_value (given s) ns (each_in (λ name. is_value (given s name)) ns (λ name i. starts name));
      aiming =
          and_from _ _
          (ap (λ n. nat_lt n (2 ^ 31)) (length-map s.task.goal (cond_of s fs ns true [])) ∙ fits.goal_short)
          (goal_keeps s fs ns starts s.task.goal f2.1 n1.1 fits.goal_fits);
    }
