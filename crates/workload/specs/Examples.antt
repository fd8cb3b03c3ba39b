-- What the definitions say, worked out by another program: the first states and draws, and the
-- whole texts of three seeds, one with each number of customers.
use Rattle.std.specs.Prelude.{◌≡◌, ℕ, ◌^◌, ◌-◌, List, [], ◌∷◌, ◌++◌, codes}
use Rattle.workload.specs.Draws.{next_state, number_of}
use Rattle.workload.specs.Places.{legs, leg, places, place_name}
use Rattle.workload.specs.Texts.{customers_drawn, problem_text}

-- The states behind 0, of which the upper 31 bits give the numbers.
abbrev pub States : Type 0
States = (next_state 0 ≡ 1442695040888963407)
    × (next_state 1442695040888963407 ≡ 1876011003808476466)
    × (next_state 1876011003808476466 ≡ 11166244414315200793)
    × (next_state (2 ^ 64 - 1) ≡ 13525302890751722018)

-- What they give below 3, 7 and 20.
abbrev pub Numbers : Type 0
Numbers = (number_of 3 1442695040888963407 ≡ 2)
    × (number_of 7 1876011003808476466 ≡ 1)
    × (number_of 7 11166244414315200793 ≡ 6)
    × (number_of 20 7401132627792533940 ≡ 16)
    × (number_of 20 (2 ^ 64 - 1) ≡ 7)

-- The numbers of customers of some seeds.
abbrev pub CustomersDrawn : Type 0
CustomersDrawn = (customers_drawn 0 ≡ 6) × (customers_drawn 2 ≡ 5) × (customers_drawn 107 ≡ 4)
    × (customers_drawn (2 ^ 64 - 1) ≡ 5)

-- The legs of two customers and the depot, in their order.
abbrev pub Legs : Type 0
Legs = legs (places 2)
    ≡ leg 0 1 ∷ leg 0 2 ∷ leg 1 0 ∷ leg 1 2 ∷ leg 2 0 ∷ leg 2 1 ∷ []

abbrev pub Names : Type 0
Names = (place_name 0 ≡ codes "depot") × (place_name 1 ≡ codes "c1") × (place_name 6 ≡ codes "c6")

-- the text of seed 107, which has four customers
abbrev pub four_text : List ℕ
four_text =
    codes "(define (problem Courier-1)\n (:domain COURIER)\n"
    ++ codes " (:objects v1 v2 - vehicle c1 c2 c3 c4 - customer)\n (:init\n"
    ++ codes "  (at v1 depot) (at v2 depot)\n  (= (dist depot c1) 3.000)\n"
    ++ codes "  (= (dist depot c2) 4.000)\n  (= (dist depot c3) 7.000)\n"
    ++ codes "  (= (dist depot c4) 7.000)\n  (= (dist c1 depot) 7.000)\n"
    ++ codes "  (= (dist c1 c2) 8.000)\n  (= (dist c1 c3) 4.000)\n  (= (dist c1 c4) 6.000)\n"
    ++ codes "  (= (dist c2 depot) 9.000)\n  (= (dist c2 c1) 9.000)\n  (= (dist c2 c3) 9.000)\n"
    ++ codes "  (= (dist c2 c4) 9.000)\n  (= (dist c3 depot) 4.000)\n  (= (dist c3 c1) 8.000)\n"
    ++ codes "  (= (dist c3 c2) 6.000)\n  (= (dist c3 c4) 8.000)\n  (= (dist c4 depot) 6.000)\n"
    ++ codes "  (= (dist c4 c1) 8.000)\n  (= (dist c4 c2) 7.000)\n  (= (dist c4 c3) 3.000)\n"
    ++ codes "  (open c1)\n  (open c2)\n  (open c3)\n  (open c4)\n"
    ++ codes "  (at 143.000 (not (open c1)))\n  (at 194.000 (not (open c2)))\n"
    ++ codes "  (at 227.000 (not (open c3)))\n  (at 273.000 (not (open c4))))\n (:goal (and\n"
    ++ codes "  (served c1)\n  (served c2)\n  (served c3)\n  (served c4)))\n"
    ++ codes " (:metric minimize (total-time)))\n"

-- the text of seed 2, which has five
abbrev pub five_text : List ℕ
five_text =
    codes "(define (problem Courier-1)\n (:domain COURIER)\n"
    ++ codes " (:objects v1 v2 - vehicle c1 c2 c3 c4 c5 - customer)\n (:init\n"
    ++ codes "  (at v1 depot) (at v2 depot)\n  (= (dist depot c1) 4.000)\n"
    ++ codes "  (= (dist depot c2) 7.000)\n  (= (dist depot c3) 5.000)\n"
    ++ codes "  (= (dist depot c4) 5.000)\n  (= (dist depot c5) 5.000)\n"
    ++ codes "  (= (dist c1 depot) 3.000)\n  (= (dist c1 c2) 6.000)\n  (= (dist c1 c3) 5.000)\n"
    ++ codes "  (= (dist c1 c4) 5.000)\n  (= (dist c1 c5) 9.000)\n  (= (dist c2 depot) 7.000)\n"
    ++ codes "  (= (dist c2 c1) 4.000)\n  (= (dist c2 c3) 3.000)\n  (= (dist c2 c4) 4.000)\n"
    ++ codes "  (= (dist c2 c5) 9.000)\n  (= (dist c3 depot) 4.000)\n  (= (dist c3 c1) 4.000)\n"
    ++ codes "  (= (dist c3 c2) 8.000)\n  (= (dist c3 c4) 4.000)\n  (= (dist c3 c5) 9.000)\n"
    ++ codes "  (= (dist c4 depot) 6.000)\n  (= (dist c4 c1) 7.000)\n  (= (dist c4 c2) 6.000)\n"
    ++ codes "  (= (dist c4 c3) 4.000)\n  (= (dist c4 c5) 9.000)\n  (= (dist c5 depot) 8.000)\n"
    ++ codes "  (= (dist c5 c1) 4.000)\n  (= (dist c5 c2) 5.000)\n  (= (dist c5 c3) 6.000)\n"
    ++ codes "  (= (dist c5 c4) 4.000)\n  (open c1)\n  (open c2)\n  (open c3)\n  (open c4)\n"
    ++ codes "  (open c5)\n  (at 152.000 (not (open c1)))\n  (at 193.000 (not (open c2)))\n"
    ++ codes "  (at 226.000 (not (open c3)))\n  (at 279.000 (not (open c4)))\n"
    ++ codes "  (at 309.000 (not (open c5))))\n (:goal (and\n  (served c1)\n  (served c2)\n"
    ++ codes "  (served c3)\n  (served c4)\n  (served c5)))\n (:metric minimize (total-time)))\n"

-- the text of seed 0, which has six
abbrev pub six_text : List ℕ
six_text =
    codes "(define (problem Courier-1)\n (:domain COURIER)\n"
    ++ codes " (:objects v1 v2 - vehicle c1 c2 c3 c4 c5 c6 - customer)\n (:init\n"
    ++ codes "  (at v1 depot) (at v2 depot)\n  (= (dist depot c1) 4.000)\n"
    ++ codes "  (= (dist depot c2) 9.000)\n  (= (dist depot c3) 5.000)\n"
    ++ codes "  (= (dist depot c4) 9.000)\n  (= (dist depot c5) 3.000)\n"
    ++ codes "  (= (dist depot c6) 7.000)\n  (= (dist c1 depot) 9.000)\n"
    ++ codes "  (= (dist c1 c2) 8.000)\n  (= (dist c1 c3) 5.000)\n  (= (dist c1 c4) 4.000)\n"
    ++ codes "  (= (dist c1 c5) 8.000)\n  (= (dist c1 c6) 8.000)\n  (= (dist c2 depot) 5.000)\n"
    ++ codes "  (= (dist c2 c1) 6.000)\n  (= (dist c2 c3) 3.000)\n  (= (dist c2 c4) 9.000)\n"
    ++ codes "  (= (dist c2 c5) 9.000)\n  (= (dist c2 c6) 6.000)\n  (= (dist c3 depot) 6.000)\n"
    ++ codes "  (= (dist c3 c1) 8.000)\n  (= (dist c3 c2) 5.000)\n  (= (dist c3 c4) 4.000)\n"
    ++ codes "  (= (dist c3 c5) 6.000)\n  (= (dist c3 c6) 9.000)\n  (= (dist c4 depot) 8.000)\n"
    ++ codes "  (= (dist c4 c1) 4.000)\n  (= (dist c4 c2) 7.000)\n  (= (dist c4 c3) 6.000)\n"
    ++ codes "  (= (dist c4 c5) 4.000)\n  (= (dist c4 c6) 3.000)\n  (= (dist c5 depot) 7.000)\n"
    ++ codes "  (= (dist c5 c1) 8.000)\n  (= (dist c5 c2) 3.000)\n  (= (dist c5 c3) 3.000)\n"
    ++ codes "  (= (dist c5 c4) 4.000)\n  (= (dist c5 c6) 3.000)\n  (= (dist c6 depot) 3.000)\n"
    ++ codes "  (= (dist c6 c1) 7.000)\n  (= (dist c6 c2) 7.000)\n  (= (dist c6 c3) 5.000)\n"
    ++ codes "  (= (dist c6 c4) 6.000)\n  (= (dist c6 c5) 5.000)\n  (open c1)\n  (open c2)\n"
    ++ codes "  (open c3)\n  (open c4)\n  (open c5)\n  (open c6)\n"
    ++ codes "  (at 157.000 (not (open c1)))\n  (at 181.000 (not (open c2)))\n"
    ++ codes "  (at 232.000 (not (open c3)))\n  (at 267.000 (not (open c4)))\n"
    ++ codes "  (at 307.000 (not (open c5)))\n  (at 344.000 (not (open c6))))\n (:goal (and\n"
    ++ codes "  (served c1)\n  (served c2)\n  (served c3)\n  (served c4)\n  (served c5)\n"
    ++ codes "  (served c6)))\n (:metric minimize (total-time)))\n"

abbrev pub FourCustomers : Type 0
FourCustomers = problem_text 107 ≡ four_text

abbrev pub FiveCustomers : Type 0
FiveCustomers = problem_text 2 ≡ five_text

abbrev pub SixCustomers : Type 0
SixCustomers = problem_text 0 ≡ six_text
