-- The rules of a ground problem as tests, three by three.
use Rattle.std.specs.Prelude.{ℕ, ◌^◌, Bool, not, ◌&&◌, ◌||◌, ◌==◌, nat_le, nat_lt, List, length, bytes_eq}
use Rattle.std.specs.List.{list_all}
use Rattle.tp_spec.specs.Lists.{each_pair, each_next}
use Rattle.tp_spec.specs.WellFormed.{Ground, is_name, name_before, is_cond, is_action, is_timed, is_value}
use Rattle.tp_spec.specs.declared.list.Name.{Name}
use Rattle.tp_spec.specs.declared.problem.Action.{Action}
use Rattle.tp_spec.specs.declared.problem.Cond.{Cond}
use Rattle.tp_spec.specs.declared.problem.TimedItem.{TimedItem}

abbrev pub is_scale : ℕ → Bool
is_scale scale = scale == 1 || scale == 10 || scale == 100 || scale == 1000

abbrev pub are_few_names : ℕ → List Name → Bool
are_few_names most names =
    nat_le (length names) most && list_all is_name names && each_next name_before names

abbrev pub are_actions : ℕ → ℕ → List Action → Bool
are_actions facts fluents actions =
    nat_le (length actions) 4096 && list_all (is_action facts fluents) actions

abbrev pub are_timed : ℕ → List TimedItem → Bool
are_timed facts items =
    nat_le (length items) 256 && list_all (is_timed facts) items
    && each_next (λ s t. nat_lt s.tick t.tick) items

abbrev pub are_init : ℕ → List ℕ → Bool
are_init facts init = list_all (λ f. nat_lt f facts) init && each_next nat_lt init

abbrev pub is_goal : ℕ → ℕ → List Cond → Bool
is_goal facts fluents goal = nat_lt (length goal) (2 ^ 31) && list_all (is_cond facts fluents) goal

abbrev pub names_hold : Ground → Bool
names_hold p = is_scale p.scale && are_few_names 4096 p.facts && are_few_names 256 p.fluents

abbrev pub items_hold : Ground → Bool
items_hold p =
    are_actions (length p.facts) (length p.fluents) p.actions
    && each_pair (λ a b. not (bytes_eq a.name b.name)) p.actions
    && are_timed (length p.facts) p.timed

abbrev pub states_hold : Ground → Bool
states_hold p =
    are_init (length p.facts) p.init
    && length p.values == length p.fluents
    && is_goal (length p.facts) (length p.fluents) p.goal

abbrev pub ranges_hold : Ground → Bool
ranges_hold p = list_all (λ t. nat_lt t.tick (2 ^ 64)) p.timed && list_all is_value p.values

abbrev pub well_formed : Ground → Bool
well_formed p = names_hold p && items_hold p && states_hold p && ranges_hold p
