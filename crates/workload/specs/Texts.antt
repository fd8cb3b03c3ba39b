-- The text of the problem that a seed draws: two couriers start at the depot, the number of
-- customers, the distances and the deadlines are drawn in this order.
use Rattle.std.specs.Prelude.{ℕ, ◌+◌, ◌*◌, List, [], ◌∷◌, ◌++◌, codes, decimal, if◌then◌else◌}
use Rattle.tp_spec.specs.Lists.{is_empty}
use Rattle.workload.specs.Domain.{domain_text}
use Rattle.workload.specs.Draws.{next_state, draw, state_after}
use Rattle.workload.specs.Places.{customers, places, place_name, legs}
use Rattle.workload.specs.declared.places.Leg.{Leg}

-- The number of customers, 4 to 6.
abbrev pub customers_drawn : ℕ → ℕ
customers_drawn seed = 4 + draw 3 seed

-- the distance of a leg, 3 to 9, drawn behind a state
abbrev pub distance_drawn : ℕ → ℕ
distance_drawn x = 3 + draw 7 x

-- the deadline of a customer, drawn behind a state
abbrev pub deadline_drawn : ℕ → ℕ → ℕ
deadline_drawn customer x = 100 + 40 * customer + draw 20 x

-- names, each behind a space
abbrev pub names_text : List ℕ → List ℕ
names_text [] = []
names_text (customer ∷ rest) = codes " " ++ place_name customer ++ names_text rest

abbrev pub objects_text : List ℕ → List ℕ
objects_text all =
    codes " (:objects v1 v2 - vehicle" ++ names_text all ++ codes " - customer)\n"

abbrev pub distance_text : Leg → ℕ → List ℕ
distance_text leg distance =
    codes "  (= (dist " ++ place_name leg.from ++ codes " " ++ place_name leg.to ++ codes ") "
    ++ decimal distance ++ codes ".000)\n"

-- a line for each leg, whose distance is drawn
abbrev pub distances_text : List Leg → ℕ → List ℕ
distances_text [] x = []
distances_text (leg ∷ rest) x =
    distance_text leg (distance_drawn x) ++ distances_text rest (next_state x)

abbrev pub open_text : ℕ → List ℕ
open_text customer = codes "  (open " ++ place_name customer ++ codes ")\n"

abbrev pub opens_text : List ℕ → List ℕ
opens_text [] = []
opens_text (customer ∷ rest) = open_text customer ++ opens_text rest

-- closing parentheses behind the last line of a list, and a line feed
abbrev pub line_end : List ℕ → List ℕ → List ℕ
line_end rest closing = if is_empty rest then closing ++ codes "\n" else codes "\n"

abbrev pub deadline_text : ℕ → ℕ → List ℕ
deadline_text customer deadline =
    codes "  (at " ++ decimal deadline ++ codes ".000 (not (open " ++ place_name customer
    ++ codes ")))"

-- a line for each customer, whose deadline is drawn
abbrev pub deadlines_text : List ℕ → ℕ → List ℕ
deadlines_text [] x = []
deadlines_text (customer ∷ rest) x =
    deadline_text customer (deadline_drawn customer x) ++ line_end rest (codes ")")
    ++ deadlines_text rest (next_state x)

abbrev pub goal_text : ℕ → List ℕ
goal_text customer = codes "  (served " ++ place_name customer ++ codes ")"

abbrev pub goals_text : List ℕ → List ℕ
goals_text [] = []
goals_text (customer ∷ rest) =
    goal_text customer ++ line_end rest (codes "))") ++ goals_text rest

-- The lines of a problem with these customers and legs, whose distances and then deadlines are
-- drawn behind a state.
abbrev pub lines_text : List ℕ → List Leg → ℕ → List ℕ
lines_text all ways x =
    codes "(define (problem Courier-1)\n (:domain COURIER)\n" ++ objects_text all
    ++ codes " (:init\n  (at v1 depot) (at v2 depot)\n" ++ distances_text ways x
    ++ opens_text all ++ deadlines_text all (state_after ways x)
    ++ codes " (:goal (and\n" ++ goals_text all
    ++ codes " (:metric minimize (total-time)))\n"

abbrev pub problem_text : ℕ → List ℕ
problem_text seed =
    lines_text (customers (customers_drawn seed)) (legs (places (customers_drawn seed)))
    (next_state seed)

-- The texts of the domain and of the problem that a seed draws. The domain is the same at each.
abbrev pub made_texts : ℕ → List ℕ × List ℕ
made_texts seed = (domain_text, problem_text seed)
