-- The problem of a domain and a task, or the first count past its limit.
use Rattle.std.specs.Prelude.{◌≡◌, ℕ, ◌+◌, ◌^◌, ◌-◌, Bool, true, false, ◌&&◌, ◌==◌, nat_lt, min, List, [], ◌∷◌, length, map, Option, Some, None, Result, Ok, Err, if◌then◌else◌}
use Rattle.std.specs.List.{flat_map, list_any}
use Rattle.std.specs.Ordering.{nat_cmp}
use Rattle.std.specs.Str.{bytes_eq}
use Rattle.std.specs.BTreeSet.{insert_key}
use Rattle.tp_spec.specs.WellFormed.{Ground, IsWellFormed}
use Rattle.tp_spec.specs.declared.problem.Action.{Action}
use Rattle.tp_spec.specs.declared.problem.TimedItem.{TimedItem}
use Rattle.pddl_domain.specs.declared.domain.Schema.{Schema}
use Rattle.grounder.specs.declared.fault.CountKind.{CountKind}
use Rattle.grounder.specs.declared.fault.CountKind.TheVariants.{Substitutions, Actions, Facts, Fluents, Timed}
use Rattle.grounder.specs.declared.fault.GroundFault.{GroundFault}
use Rattle.grounder.specs.declared.fault.GroundFault.TheVariants.{NoMemory, TooMany}
use Rattle.grounder.specs.Sources.{Source, atom_name}
use Rattle.grounder.specs.Objects.{numbers_where, raw_number}
use Rattle.grounder.specs.Starts.{is_true, given}
use Rattle.grounder.specs.Rigid.{is_so}
use Rattle.grounder.specs.Kept.{kept}
use Rattle.grounder.specs.Naming.{facts, fluents}
use Rattle.grounder.specs.Parts.{schema_actions, cond_of}

-- all ground actions, in the order of the actions and then of their substitutions
abbrev pub ground_actions : Source → List Action
ground_actions s =
    flat_map (schema_actions s (facts s) (fluents s)) s.domain.actions

-- numbers with more, each once, rising
abbrev pub with_numbers : List ℕ → List ℕ → List ℕ
with_numbers sorted [] = sorted
with_numbers sorted (n ∷ rest) = with_numbers (insert_key nat_cmp sorted n) rest

-- the ticks of timed literals
abbrev pub timed_ticks : Source → List ℕ
timed_ticks s = with_numbers [] (map (λ d. d.tick) s.task.timed)

-- whether a timed literal of this tick and sign names an atom
abbrev pub is_dated : Source → ℕ → Bool → List ℕ → Bool
is_dated s tick positive name =
    list_any (λ d. d.tick == tick && is_so positive d.positive
    && bytes_eq (atom_name s [] d.atom) name) s.task.timed

-- all timed literals of one tick, each once, in the order of their facts
abbrev pub timed_item : Source → List (List ℕ) → ℕ → TimedItem
timed_item s facts tick =
    record {
      tick = tick;
      adds = numbers_where (is_dated s tick true) 0 facts;
      deletes = numbers_where (is_dated s tick false) 0 facts;
    }

-- The ground problem. Its goal is not simplified.
abbrev pub problem_of : ℕ → Source → Ground
problem_of scale s =
    record {
      scale = scale;
      facts = facts s;
      fluents = fluents s;
      actions = ground_actions s;
      timed = map (timed_item s (facts s)) (timed_ticks s);
      init = numbers_where (is_true s) 0 (facts s);
      values = map (given s) (fluents s);
      goal = map (cond_of s (facts s) (fluents s) true []) s.task.goal;
    }

-- how many members some lists have together
abbrev pub total : List (List (List ℕ)) → ℕ
total [] = 0
total (l ∷ ls) = length l + total ls

-- a count past its limit, or what comes next
abbrev pub past : ℕ → CountKind → ℕ → Option (CountKind × ℕ) → Option (CountKind × ℕ)
past limit kind number next =
    if nat_lt limit number then Some (kind, min number (2 ^ 128 - 1)) else next

-- the first count past its limit, in this order, with its number
abbrev pub excess : Source → Option (CountKind × ℕ)
excess s =
    past (2 ^ 24) Substitutions (raw_number s s.domain.actions)
    (past 4096 Actions (total (map (kept s) s.domain.actions))
    (past 4096 Facts (length (facts s))
    (past 256 Fluents (length (fluents s))
    (past 256 Timed (length (timed_ticks s)) None))))

-- whether an answer says that no count is past its limit, or tells the first one
abbrev pub IsJudged : {A : Type 0} → Option (CountKind × ℕ) → Result A GroundFault → Type 0
IsJudged excess (Ok x) = excess ≡ None
IsJudged excess (Err NoMemory) = Unit {0}
IsJudged excess (Err (TooMany kind number)) = excess ≡ Some (kind, number)

-- what is counted of a ground problem is its own
pub record IsCounted (s : Source) (are_kept : List (List (List ℕ)))
    (are_facts are_fluents : List (List ℕ)) (are_ticks : List ℕ) : Type 0 where
  pub kept_are : are_kept ≡ map (kept s) s.domain.actions
  pub facts_are : are_facts ≡ facts s
  pub fluents_are : are_fluents ≡ fluents s
  pub ticks_are : are_ticks ≡ timed_ticks s

-- Where no count is past its limit, the problem keeps the rules of a ground problem. The readers
-- give no domain and problem of which this does not hold.
pub record IsGroundable (scale : ℕ) (s : Source) : Type 0 where
  pub keeps : excess s ≡ None → IsWellFormed (problem_of scale s)
