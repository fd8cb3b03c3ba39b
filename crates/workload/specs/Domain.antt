-- The text of the domain: couriers drive between places, and serve customers that are still open.
use Rattle.std.specs.Prelude.{ℕ, List, ◌++◌, codes}

abbrev pub heading_text : List ℕ
heading_text =
    codes "(define (domain Courier)\n"
    ++ codes " (:requirements :typing :durative-actions"
    ++ codes " :numeric-fluents :timed-initial-literals)\n"
    ++ codes " (:types vehicle place - object customer - place)\n"
    ++ codes " (:constants Depot - place)\n"

abbrev pub functions_text : List ℕ
functions_text =
    codes " (:predicates (at ?v - vehicle ?p - place) (open ?c - customer)"
    ++ codes " (served ?c - customer))\n"
    ++ codes " (:functions (dist ?a ?b - place) - number)\n"

abbrev pub drive_text : List ℕ
drive_text =
    codes " (:durative-action drive\n"
    ++ codes "  :parameters (?v - vehicle ?a ?b - place)\n"
    ++ codes "  :duration (= ?duration (dist ?a ?b))\n"
    ++ codes "  :condition (at start (at ?v ?a))\n"
    ++ codes "  :effect (and (at start (not (at ?v ?a))) (at end (at ?v ?b))))\n"

abbrev pub serve_text : List ℕ
serve_text =
    codes " (:durative-action serve\n"
    ++ codes "  :parameters (?v - vehicle ?c - customer)\n"
    ++ codes "  :duration (= ?duration 3.000)\n"
    ++ codes "  :condition (and (at start (at ?v ?c))"
    ++ codes " (over all (at ?v ?c)) (over all (open ?c)))\n"
    ++ codes "  :effect (at end (served ?c))))\n"

abbrev pub domain_text : List ℕ
domain_text = heading_text ++ functions_text ++ drive_text ++ serve_text
