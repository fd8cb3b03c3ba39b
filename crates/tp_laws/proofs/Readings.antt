-- Reading a plan's word leads to the states of its course.
use Rattle.std.proofs.Common.{◌≡◌, refl, sym, ap, subst, ◌∙◌, ℕ, zero, suc, ◌<◌, List, [], ◌∷◌, ◌++◌, map, Some, None, arith, append_assoc, append-nil}
use Rattle.std.specs.Prelude.{Bool, true, false, IsSome, if◌then◌else◌}
use Rattle.std.specs.Option.{option_and_then}
use Rattle.std.proofs.lemmas.Bool.{false≢true}
use Rattle.tp_spec.specs.declared.plan.Item.{Item}
use Rattle.tp_spec.specs.declared.plan.Mark.{Mark}
use Rattle.tp_spec.specs.declared.plan.Timed.{Timed}
use Rattle.tp_spec.specs.declared.problem.Problem.{Problem}
use Rattle.tp_spec.specs.States.{State, initial}
use Rattle.tp_spec.specs.Items.{next, effects_of, has_after, after}
use Rattle.tp_spec.specs.Courses.{happening, state_before}
use Rattle.tp_spec.specs.Words.{Progress, at_start, state_past, past_group, with_item, read_mark, read_on, progress, joining, marked, spelled}
use Rattle.tp_laws.proofs.States.{next-none}

pub read_on-append : (p : Problem) (c : Progress) (u v : List Mark) → read_on p c (u ++ v) ≡ read_on p (read_on p c u) v
read_on-append p c [] v = refl
read_on-append p c (m ∷ u) v = read_on-append p (read_mark p c m) u v

pub before-joining : (p : Problem) (c : Progress) (is : List Item) → (read_on p c (map joining is)).before ≡ c.before
before-joining p c [] = refl
before-joining p c (i ∷ is) = before-joining p (with_item c i) is

pub group-joining : (p : Problem) (c : Progress) (is : List Item) → (read_on p c (map joining is)).group ≡ c.group ++ is
group-joining p c [] = sym (append-nil c.group)
group-joining p c (i ∷ is) = group-joining p (with_item c i) is ∙ append_assoc c.group (i ∷ []) is

-- a happening's marks lead to the state after it
pub past-marked : (p : Problem) (c : Progress) (is : List Item) → state_past p (read_on p c (marked is)) ≡ next (state_past p c) (effects_of p is)
past-marked p c [] = sym (next-none (state_past p c))
past-marked p c (i ∷ is) =
    let opened : Progress = with_item (past_group p c) i in
    λ k. next (before-joining p opened is k) (effects_of p (group-joining p opened is k))

after-some : (p : Problem) (s : State) (is : List Item) → IsSome (after p s is) → after p s is ≡ Some (next s (effects_of p is))
after-some p s is h = by_test (has_after p s is) h where
  by_test : (b : Bool) → IsSome (if b then Some (next s (effects_of p is)) else None)
      → (if b then Some (next s (effects_of p is)) else None) ≡ Some (next s (effects_of p is))
  by_test true h = refl
  by_test false h = absurd (false≢true h)

pub state_before-spelled : (p : Problem) (acts : List Timed) (t : ℕ) → ((k : ℕ) → k < t → IsSome (state_before p acts (suc k)))
    → state_before p acts t ≡ Some (state_past p (progress p (spelled p acts t)))
state_before-spelled p acts zero some = ap Some (sym (next-none (initial p)))
state_before-spelled p acts (suc t) some =
    let c : Progress = progress p (spelled p acts t) in
    let is : List Item = happening p acts t in
    let moved : state_before p acts (suc t) ≡ after p (state_past p c) is =
    ap (option_and_then (λ s. after p s is)) (state_before-spelled p acts t (λ k b. some k (omega (arith, b)))) in
    moved
    ∙ after-some p (state_past p c) is (subst IsSome moved (some t (omega arith)))
    ∙ ap Some (sym (past-marked p c is) ∙ ap (state_past p) (sym (read_on-append p (at_start p) (spelled p acts t) (marked is))))
