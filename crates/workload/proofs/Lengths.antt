-- How long the texts are at most.
use Rattle.std.proofs.Common.{◌≡◌, ℕ, zero, suc, ◌+◌, ◌*◌, ◌≤◌, ◌<◌, Bool, true, false, List, [], ◌∷◌, ◌++◌, length, refl, length-append, arith}
use Rattle.std.specs.Prelude.{codes, decimal, ◌==◌, ◌&&◌, nat_lt, if◌then◌else◌}
use Rattle.std.specs.List.{list_all}
use Rattle.std.proofs.lemmas.Bool.{and_parts}
use Rattle.std.proofs.lemmas.Bool.Decides.{nat_tests}
use Rattle.std.proofs.lemmas.Fmt.{length-decimal-le}
use Rattle.workload.specs.Domain.{domain_text}
use Rattle.workload.specs.Draws.{next_state, number_of, draw, state_after}
use Rattle.workload.specs.Places.{customers, places, place_name, legs}
use Rattle.workload.specs.Texts.{distance_drawn, deadline_drawn, names_text, objects_text, distance_text, distances_text, open_text, opens_text, line_end, deadline_text, deadlines_text, goal_text, goals_text, lines_text, problem_text}
use Rattle.workload.specs.declared.places.Leg.{Leg}

-- a place whose name has one digit at most
abbrev is_near : ℕ → Bool
is_near place = nat_lt place 10

abbrev is_near_leg : Leg → Bool
is_near_leg leg = is_near leg.from && is_near leg.to

near_is : (place : ℕ) → is_near place ≡ true → place < 10
near_is place h = grind (arith, nat_tests)

three_len : (a b c : List ℕ) → length (a ++ b ++ c) ≡ length a + length b + length c
three_len a b c =
    let e = length-append a b in
    let f = length-append (a ++ b) c in
    omega (arith, e, f)

five_len : (a b c d e : List ℕ) → length (a ++ b ++ c ++ d ++ e) ≡ length a + length b + length c + length d + length e
five_len a b c d e =
    let f = three_len a b c in
    let g = three_len (a ++ b ++ c) d e in
    omega (arith, f, g)

seven_len : (a b c d e f g : List ℕ)
    → length (a ++ b ++ c ++ d ++ e ++ f ++ g) ≡ length a + length b + length c + length d + length e + length f + length g
seven_len a b c d e f g =
    let h = five_len a b c d e in
    let i = three_len (a ++ b ++ c ++ d ++ e) f g in
    omega (arith, h, i)

nine_len : (a b c d e f g h i : List ℕ)
    → length (a ++ b ++ c ++ d ++ e ++ f ++ g ++ h ++ i) ≡ length a + length b + length c + length d + length e + length f + length g + length h + length i
nine_len a b c d e f g h i =
    let j = seven_len a b c d e f g in
    let k = three_len (a ++ b ++ c ++ d ++ e ++ f ++ g) h i in
    omega (arith, j, k)

name_len : (place : ℕ) → is_near place ≡ true → length (place_name place) ≤ 5
name_len place near = by_depot (place == 0) where
  digit : length (decimal place) ≤ 1
  digit = let small = near_is place near in length-decimal-le 1 place (omega arith) (omega (arith, small)) (omega (arith, small))

  by_depot : (is : Bool) → length (if is then codes "depot" else codes "c" ++ decimal place) ≤ 5
  by_depot true = omega arith
  by_depot false = let e = length-append (codes "c") (decimal place) in omega (arith, e, digit)

pub below_7 : (x : ℕ) → draw 7 x < 7
unfolding number_of
below_7 x = omega arith

pub below_20 : (x : ℕ) → draw 20 x < 20
unfolding number_of
below_20 x = omega arith

pub below_3 : (x : ℕ) → draw 3 x < 3
unfolding number_of
below_3 x = omega arith

distance_len : (leg : Leg) (x : ℕ) → is_near_leg leg ≡ true → length (distance_text leg (distance_drawn x)) ≤ 31
distance_len leg x near =
    let parts = and_parts (is_near leg.from) (is_near leg.to) near in
    let drawn = below_7 x in
    let digit : length (decimal (distance_drawn x)) ≤ 1 = length-decimal-le 1 (distance_drawn x) (omega arith) (omega (arith, drawn)) (omega (arith, drawn)) in
    let from = name_len leg.from parts.0 in
    let to = name_len leg.to parts.1 in
    let e = seven_len (codes "  (= (dist ") (place_name leg.from) (codes " ") (place_name leg.to) (codes ") ") (decimal (distance_drawn x)) (codes ".000)\n") in
    omega (arith, digit, from, to, e)

distances_len : (ways : List Leg) (x : ℕ) → list_all is_near_leg ways ≡ true → length (distances_text ways x) ≤ 31 * length ways
distances_len [] x near = omega arith
distances_len (leg ∷ rest) x near =
    let parts = and_parts (is_near_leg leg) (list_all is_near_leg rest) near in
    let one = distance_len leg x parts.0 in
    let more = distances_len rest (next_state x) parts.1 in
    let e = length-append (distance_text leg (distance_drawn x)) (distances_text rest (next_state x)) in
    omega (arith, one, more, e)

names_len : (all : List ℕ) → list_all is_near all ≡ true → length (names_text all) ≤ 6 * length all
names_len [] near = omega arith
names_len (customer ∷ rest) near =
    let parts = and_parts (is_near customer) (list_all is_near rest) near in
    let one = name_len customer parts.0 in
    let more = names_len rest parts.1 in
    let e = length-append (place_name customer) (names_text rest) in
    let f = length-append (codes " ") (place_name customer ++ names_text rest) in
    omega (arith, one, more, e, f)

open_len : (customer : ℕ) → is_near customer ≡ true → length (open_text customer) ≤ 15
open_len customer near =
    let one = name_len customer near in
    let e = length-append (place_name customer) (codes ")\n") in
    let f = length-append (codes "  (open ") (place_name customer ++ codes ")\n") in
    omega (arith, one, e, f)

opens_len : (all : List ℕ) → list_all is_near all ≡ true → length (opens_text all) ≤ 15 * length all
opens_len [] near = omega arith
opens_len (customer ∷ rest) near =
    let parts = and_parts (is_near customer) (list_all is_near rest) near in
    let one = open_len customer parts.0 in
    let more = opens_len rest parts.1 in
    let e = length-append (open_text customer) (opens_text rest) in
    omega (arith, one, more, e)

end_len : (rest closing : List ℕ) → length (line_end rest closing) ≤ length closing + 1
end_len [] closing = let e = length-append closing (codes "\n") in omega (arith, e)
end_len (customer ∷ rest) closing = omega arith

deadline_len : (customer x : ℕ) → is_near customer ≡ true → length (deadline_text customer (deadline_drawn customer x)) ≤ 33
deadline_len customer x near =
    let drawn = below_20 x in
    let small = near_is customer near in
    let digits : length (decimal (deadline_drawn customer x)) ≤ 3 = length-decimal-le 3 (deadline_drawn customer x) (omega arith) (omega (arith, drawn, small)) (omega (arith, drawn, small)) in
    let one = name_len customer near in
    let e = five_len (codes "  (at ") (decimal (deadline_drawn customer x)) (codes ".000 (not (open ") (place_name customer) (codes ")))") in
    omega (arith, digits, one, e)

deadlines_len : (all : List ℕ) (x : ℕ) → list_all is_near all ≡ true → length (deadlines_text all x) ≤ 35 * length all
deadlines_len [] x near = omega arith
deadlines_len (customer ∷ rest) x near =
    let parts = and_parts (is_near customer) (list_all is_near rest) near in
    let one = deadline_len customer x parts.0 in
    let more = deadlines_len rest (next_state x) parts.1 in
    let last = end_len rest (codes ")") in
    let e = three_len (deadline_text customer (deadline_drawn customer x)) (line_end rest (codes ")")) (deadlines_text rest (next_state x)) in
    omega (arith, one, more, last, e)

goal_len : (customer : ℕ) → is_near customer ≡ true → length (goal_text customer) ≤ 17
goal_len customer near =
    let one = name_len customer near in
    let e = length-append (place_name customer) (codes ")") in
    let f = length-append (codes "  (served ") (place_name customer ++ codes ")") in
    omega (arith, one, e, f)

goals_len : (all : List ℕ) → list_all is_near all ≡ true → length (goals_text all) ≤ 20 * length all
goals_len [] near = omega arith
goals_len (customer ∷ rest) near =
    let parts = and_parts (is_near customer) (list_all is_near rest) near in
    let one = goal_len customer parts.0 in
    let more = goals_len rest parts.1 in
    let last = end_len rest (codes "))") in
    let e = three_len (goal_text customer) (line_end rest (codes "))")) (goals_text rest) in
    omega (arith, one, more, last, e)

objects_len : (all : List ℕ) → list_all is_near all ≡ true → length (objects_text all) ≤ 40 + 6 * length all
objects_len all near =
    let names = names_len all near in
    let e = length-append (names_text all) (codes " - customer)\n") in
    let f = length-append (codes " (:objects v1 v2 - vehicle") (names_text all ++ codes " - customer)\n") in
    omega (arith, names, e, f)

lines_len : (all : List ℕ) (ways : List Leg) (x : ℕ) → list_all is_near all ≡ true → list_all is_near_leg ways ≡ true
    → length all ≤ 6 → length ways ≤ 42 → length (lines_text all ways x) ≤ 2048
lines_len all ways x near near_ways few few_ways =
    let objects = objects_len all near in
    let distances = distances_len ways x near_ways in
    let opens = opens_len all near in
    let deadlines = deadlines_len all (state_after ways x) near in
    let goals = goals_len all near in
    let e =
    nine_len (codes "(define (problem Courier-1)\n (:domain COURIER)\n") (objects_text all) (codes " (:init\n  (at v1 depot) (at v2 depot)\n")
    (distances_text ways x) (opens_text all) (deadlines_text all (state_after ways x)) (codes " (:goal (and\n") (goals_text all)
    (codes " (:metric minimize (total-time)))\n") in
    omega (arith, objects, distances, opens, deadlines, goals, few, few_ways, e)

count_len : (drawn x : ℕ) → drawn < 3 → length (lines_text (customers (4 + drawn)) (legs (places (4 + drawn))) x) ≤ 2048
count_len zero x below = lines_len (customers 4) (legs (places 4)) x refl refl (omega arith) (omega arith)
count_len (suc zero) x below = lines_len (customers 5) (legs (places 5)) x refl refl (omega arith) (omega arith)
count_len (suc (suc zero)) x below = lines_len (customers 6) (legs (places 6)) x refl refl (omega arith) (omega arith)
count_len (suc (suc (suc n))) x below = absurd (omega (arith, below))

pub problem_len : (seed : ℕ) → length (problem_text seed) ≤ 2048
problem_len seed = count_len (draw 3 seed) (next_state seed) (below_3 seed)

pub domain_len : length domain_text ≤ 2048
domain_len = omega arith
