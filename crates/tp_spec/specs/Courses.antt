-- What stands at a tick, the states that a plan goes through, and which plans are valid.
use Rattle.std.specs.Prelude.{ℕ, zero, suc, ◌+◌, ◌≤◌, Bool, not, ◌&&◌, ◌||◌, ◌==◌, nat_le, nat_lt, List, length, Option, Some, IsTrue, IsSome, slice_get}
use Rattle.std.specs.List.{list_any, list_all, filter}
use Rattle.std.specs.Option.{option_and_then}
use Rattle.tp_spec.specs.declared.plan.Item.{Item}
use Rattle.tp_spec.specs.declared.plan.Item.TheVariants.{TimedAt, End, Start}
use Rattle.tp_spec.specs.declared.plan.Plan.{Plan}
use Rattle.tp_spec.specs.declared.plan.Timed.{Timed}
use Rattle.tp_spec.specs.declared.plan.Limits.{Limits}
use Rattle.tp_spec.specs.declared.problem.Kind.{Kind}
use Rattle.tp_spec.specs.declared.problem.Kind.TheVariants.{Instant, Durative}
use Rattle.tp_spec.specs.declared.problem.Problem.{Problem}
use Rattle.tp_spec.specs.Lists.{is_empty, each_pair, each_next, some_and}
use Rattle.tp_spec.specs.States.{State, initial, holds}
use Rattle.tp_spec.specs.Items.{all_items, is_durative, invariants, own, after}
use Rattle.tp_spec.specs.Interference.{interfere}

abbrev pub allows_length : Kind → ℕ → Bool
allows_length Instant n = n == 0
allows_length (Durative least most) n = nat_le least n && nat_le n most

-- whether an action of the problem may have this length; no other number is an action
abbrev pub in_range : Problem → ℕ → ℕ → Bool
in_range p a n = some_and (slice_get p.actions a) (λ x. allows_length x.kind n)

-- whether an item stands at a tick
abbrev pub stands : Problem → List Timed → ℕ → Item → Bool
stands p acts t (TimedAt k) = some_and (slice_get p.timed k) (λ x. x.tick == t)
stands p acts t (End a) =
    is_durative p a && list_any (λ x. x.action == a && x.start + x.length == t) acts
stands p acts t (Start a) = list_any (λ x. x.action == a && x.start == t) acts

-- What stands at a tick, in item order. The tick is a happening where this is not empty. PDDL 2.1,
-- section 5 (the happening sequence of a plan). The definition tries each item, the code sorts what
-- stands.
abbrev pub happening : Problem → List Timed → ℕ → List Item
happening p acts t = filter (stands p acts t) (all_items p)

-- Whether an act runs at a tick: from its start on, and not at its end.
-- PDDL 2.1, section 5 (an invariant is asked over an open interval), by the states after ticks.
abbrev pub runs_at : ℕ → Timed → Bool
runs_at t x = nat_le x.start t && nat_lt t (x.start + x.length)

-- The state before a tick: none stays none. PDDL 2.1, section 6 (the trace of a plan). The
-- definition visits every tick, the code visits happenings.
abbrev pub state_before : Problem → List Timed → ℕ → Option State
state_before p acts zero = Some (initial p)
state_before p acts (suc t) =
    option_and_then (λ s. after p s (happening p acts t)) (state_before p acts t)

abbrev pub state_after : Problem → List Timed → ℕ → Option State
state_after p acts t = state_before p acts (suc t)

-- whether the invariants of what runs at a tick hold in a state
abbrev pub keeps_invariants : Problem → List Timed → ℕ → State → Bool
keeps_invariants p acts t s =
    list_all (λ x. not (runs_at t x) || list_all (holds s) (invariants p x.action)) acts

-- What is asked of one tick: no two items interfere, the conditions of each hold before, there is a
-- state after, and the invariants of what runs hold in it. PDDL 2.1, sections 5 and 6; an invariant
-- is asked from the start tick on, so two starts may give each other's. The code judges happenings
-- alone.
pub record Passes (p : Problem) (acts : List Timed) (t : ℕ) : Type 0 where
  pub apart : IsTrue (each_pair (λ i j. not (interfere p i j)) (happening p acts t))
  pub met : IsTrue (some_and (state_before p acts t) (λ s. list_all (own p s) (happening p acts t)))
  pub exists : IsSome (state_after p acts t)
  pub kept : IsTrue (some_and (state_after p acts t) (keeps_invariants p acts t))

-- the order of a plan's acts: by start, action and length
abbrev pub act_before : Timed → Timed → Bool
act_before x y =
    nat_lt x.start y.start
    || (x.start == y.start
    && (nat_lt x.action y.action || (x.action == y.action && nat_le x.length y.length)))

-- Which plans are valid. `few`: the limit on acts. `once`: no action starts twice at a tick.
-- `lengths`: each in its action's range. `in_turn`: of two acts of one action the earlier ends no
-- later than the later starts. `closing`: the end is 0 or a happening. `within`, `all_ended`: no
-- later than the horizon, and no earlier than any act's end. PDDL 2.1, section 6 (validity); whole
-- ticks, separation by a tick, no overlap and the end tick are this project's own. The code goes
-- from one happening to the next, and stops at the first part that is broken.
pub record Valid (p : Problem) (l : Limits) (plan : Plan) : Type 0 where
  pub in_order : IsTrue (each_next act_before plan.acts)
  pub few : length plan.acts ≤ l.actions
  pub once : IsTrue (each_pair (λ x y. not (x.action == y.action && x.start == y.start)) plan.acts)
  pub lengths : IsTrue (list_all (λ x. in_range p x.action x.length) plan.acts)
  pub in_turn : IsTrue (each_pair
      (λ x y. not (x.action == y.action) || nat_le (x.start + x.length) y.start) plan.acts)
  pub closing : IsTrue (plan.end == 0 || not (is_empty (happening p plan.acts plan.end)))
  pub within : plan.end ≤ l.horizon
  pub all_ended : IsTrue (list_all (λ x. nat_le (x.start + x.length) plan.end) plan.acts)
  pub course : (t : ℕ) → t ≤ plan.end → Passes p plan.acts t
  pub goal : IsTrue (some_and (state_after p plan.acts plan.end) (λ s. list_all (holds s) p.goal))

abbrev pub same_act : Timed → Timed → Bool
same_act x y = x.action == y.action && x.start == y.start && x.length == y.length

abbrev pub has_act : List Timed → Timed → Bool
has_act acts x = list_any (same_act x) acts

-- Which plans are still possible at a clock and after commitments: valid ones that contain each
-- commitment, and whose other acts start at the clock or later, and later than each committed start
-- of the same action. This project's own. The definition speaks of plans, the search of words.
pub record Possible (p : Problem) (l : Limits) (now : ℕ) (commits : List Timed) (plan : Plan) :
    Type 0 where
  pub valid : Valid p l plan
  pub committed : IsTrue (list_all (has_act plan.acts) commits)
  pub later : IsTrue (list_all
      (λ x. has_act commits x
      || (nat_le now x.start
      && list_all (λ c. not (c.action == x.action) || nat_lt c.start x.start) commits)) plan.acts)
