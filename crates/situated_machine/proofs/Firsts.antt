-- What is asked of each rule before one of them.
use Rattle.std.proofs.Common.{ℕ, zero, suc, ◌<◌, arith, sym, ap, subst, ◌∙◌, inl, inr}
use Rattle.tp_spec.specs.declared.event.Event.{Event}
use Rattle.tp_spec.specs.declared.plan.Limits.{Limits}
use Rattle.tp_spec.specs.declared.problem.Problem.{Problem}
use Rattle.tp_spec.specs.Machine.{Machine}
use Rattle.situated_machine.specs.declared.replayed.Rule.{Rule}
use Rattle.situated_machine.specs.declared.replayed.Rule.TheVariants as rules
use Rattle.situated_machine.specs.Judged.{Firsts, KeepsEach, rule_at}
use Rattle.situated_machine.specs.Rules.{BreaksFirst, Keeps, KeepsAll, place}
use Rattle.situated_machine.proofs.Answering.{placed, by_order}

pub first_rules : (P : Rule → Type 0) (n : ℕ) → Firsts P n → (r : Rule) → place r < n → P r
first_rules P zero h r lt = absurd (omega (arith, lt))
first_rules P (suc n) h r lt = elim (by_order (place r) n) [
  | inl less ↦ first_rules P n h.0 r less
  | inr q ↦ elim q [
    | inl same ↦ subst P (ap rule_at (sym same) ∙ placed r) h.1
    | inr more ↦ absurd (omega (arith, lt, more))
  ]
]

pub breaks : (p : Problem) (l : Limits) (m : Machine) (e : Event) (rule : Rule)
    → Firsts (λ r. Keeps p l m e r) (place rule) → ¬ (Keeps p l m e rule) → BreaksFirst p l m e rule
breaks p l m e rule h broken = record { before = first_rules (λ r. Keeps p l m e r) (place rule) h; broken = broken }

-- what an event keeps rule by rule it keeps for each rule
pub each-all : (p : Problem) (l : Limits) (m : Machine) (e : Event) → KeepsEach p l m e → KeepsAll p l m e
each-all p l m e h r = first_rules (λ r. Keeps p l m e r) 10 h r (under r)
  where
    under : (r : Rule) → place r < 10
    under rules.Outcome = omega arith
    under rules.Turn = omega arith
    under rules.Id = omega arith
    under rules.Least = omega arith
    under rules.Live = omega arith
    under rules.Marks = omega arith
    under rules.Commit = omega arith
    under rules.Plan = omega arith
    under rules.Number = omega arith
    under rules.Early = omega arith
