-- The first of two lists of faults, and the first fault of some arguments.
use Rattle.std.proofs.Common.{◌≡◌, ◌∙◌, ◌≤◌, ℕ, List, [], ◌∷◌, ◌++◌, map, take, drop, length, get_or, Option, Some, None, refl, sym, ap, arith}
use Rattle.run_cli.specs.declared.words.WordFault.{WordFault}
use Rattle.run_cli.specs.declared.arguments.Argument.{Argument}
use Rattle.run_cli.specs.Arguments.{view_of}
use Rattle.run_cli.specs.Orders.{argument_faults, faults_from, first_of}

abbrev pub before_other : Option WordFault → Option WordFault → Option WordFault
before_other (Some f) other = Some f
before_other None other = other

pub first_onto : (xs ys : List WordFault) → first_of (xs ++ ys) ≡ before_other (first_of xs) (first_of ys)
first_onto [] ys = refl
first_onto (x ∷ xs) ys = refl

-- a fault of the next argument is the first one
head_found : (before rest : List Argument) (d : Argument) (f : WordFault) → 1 ≤ length rest
    → first_of (argument_faults (map view_of before) (view_of (get_or rest 0 d))) ≡ Some f
    → first_of (faults_from (map view_of before) (map view_of rest)) ≡ Some f
head_found before [] d f some is = absurd (omega (arith, some))
head_found before (x ∷ rest) d f some is =
    first_onto (argument_faults (map view_of before) (view_of x)) (faults_from (map view_of before ++ view_of x ∷ []) (map view_of rest))
    ∙ ap (λ r. before_other r (first_of (faults_from (map view_of before ++ view_of x ∷ []) (map view_of rest)))) is

pub found_here : (arguments before rest : List Argument) (i : ℕ) (d : Argument) (f : WordFault)
    → before ≡ take i arguments → rest ≡ drop i arguments → 1 ≤ length rest
    → first_of (argument_faults (map view_of before) (view_of (get_or rest 0 d))) ≡ Some f
    → first_of (faults_from (map view_of (take i arguments)) (map view_of (drop i arguments))) ≡ first_of (faults_from [] (map view_of arguments))
    → Some f ≡ first_of (faults_from [] (map view_of arguments))
found_here arguments before rest i d f front back some is so_far =
    sym (head_found before rest d f some is) ∙ (λ k. first_of (faults_from (map view_of (front k)) (map view_of (back k)))) ∙ so_far
