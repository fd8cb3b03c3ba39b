-- The search of one worker on a seed's problem, and what sums it up.
use Rattle.std.specs.Prelude.{◌≡◌, ℕ, ◌+◌, suc, List, [], ◌∷◌, ◌++◌, true, length, codes, decimal}
use Rattle.tp_spec.specs.declared.event.Event.{Event}
use Rattle.tp_spec.specs.declared.event.Event.TheVariants.{Publish, Limit, Exhaust, Expand}
use Rattle.tp_spec.specs.declared.plan.Limits.{Limits}
use Rattle.tp_spec.specs.declared.problem.Problem.{Problem}
use Rattle.tp_spec.specs.Machine.{IsWholeRun, state_of}
use Rattle.problem_files.specs.Answers.{IsPddlProblem}
use Rattle.serial_runs.specs.Endings.{is_result}
use Rattle.serial_runs.specs.OneWorker.{IsWorked}
use Rattle.workload.specs.Texts.{made_texts}
use Rattle.workload_run.specs.Readings.{ReadsByTurns}

-- A whole run, busy for one worker, each of whose turns is actor 1's; the k-th from 0 reads
-- k / 1000. It ends with a result of the search.
pub record IsSearch (p : Problem) (l : Limits) (history : List Event) (last : Event) : Type 0 where
  pub whole : IsWholeRun p l history
  pub worked : IsWorked l history
  pub timed : ReadsByTurns history
  pub front : List Event
  pub ends : history ≡ front ++ last ∷ []
  pub result : is_result last ≡ true

-- the status for a result: 0 for a plan, 1 where the search is exhausted, 2 at the limit of ids
abbrev pub result_status : Event → ℕ
result_status (Publish actor id plan) = 0
result_status Exhaust = 1
result_status _ = 2

abbrev pub result_word : Event → List ℕ
result_word (Publish actor id plan) = codes "plan"
result_word Exhaust = codes "exhausted"
result_word _ = codes "limit"

-- the tick at which a plan ends, and 0 where there is none
abbrev pub end_tick : Event → ℕ
end_tick (Publish actor id plan) = plan.end
end_tick _ = 0

-- how many marks the nodes of a history were expanded by: so many ids were given beside the root's
abbrev pub marks_in : List Event → ℕ
marks_in [] = 0
marks_in (Expand actor id marks ∷ rest) = length marks + marks_in rest
marks_in (_ ∷ rest) = marks_in rest

-- The number of ids given is that of the root and of these marks.
abbrev pub IdsByMarks : Type 0
IdsByMarks = (l : Limits) (history : List Event) → (state_of l history).made ≡ marks_in history + 1

abbrev pub History : Type 0
History = List Event

abbrev pub line : List ℕ → ℕ → List ℕ
line name number = name ++ decimal number ++ codes "\n"

-- The seven lines: the seed, how many facts, ground actions and timed items the problem has, how
-- many ids the search gave, how it ended, and the tick at which the plan ends.
abbrev pub summary_text : ℕ → Problem → ℕ → Event → List ℕ
summary_text seed p ids last =
    line (codes "seed ") seed ++ line (codes "facts ") (length p.facts)
    ++ line (codes "actions ") (length p.actions) ++ line (codes "timed ") (length p.timed)
    ++ line (codes "nodes ") ids ++ (codes "outcome " ++ result_word last ++ codes "\n")
    ++ line (codes "end ") (end_tick last)

-- a search of a problem that ends with some result
abbrev pub IsSearched : Problem → Limits → List Event → Type 0
IsSearched p l history = (last : Event) × IsSearch p l history last

-- The problem is that of the texts which the seed draws, at one tick a unit of time; the history is
-- a search of it, and the text and the status sum it up.
pub record IsSummary (seed : ℕ) (l : Limits) (text : List ℕ) (status : ℕ) (history : List Event) :
    Type 0 where
  pub problem : Problem
  pub made : IsPddlProblem (made_texts seed).0 (made_texts seed).1 1 problem
  pub last : Event
  pub search : IsSearch problem l history last
  pub status_is : status ≡ result_status last
  pub text_is : text ≡ summary_text seed problem (state_of l history).made last
