-- How the code judges an event: rule by rule, in their order.
use Rattle.std.specs.Prelude.{◌≡◌, ℕ, zero, suc, false, List, Option, Some, None, IsTrue}
use Rattle.std.specs.List.{AllByRecursion}
use Rattle.tp_spec.specs.declared.event.Event.{Event}
use Rattle.tp_spec.specs.declared.event.Event.TheVariants.{Expand, Publish, Limit}
use Rattle.tp_spec.specs.declared.plan.Limits.{Limits}
use Rattle.tp_spec.specs.declared.plan.Mark.{Mark}
use Rattle.tp_spec.specs.declared.problem.Problem.{Problem}
use Rattle.tp_spec.specs.Machine.{Machine, IsBest, IsDue, IsQuiet, AreLiveMarks, SpellsNone, step}
use Rattle.tp_spec.specs.Machine as machine
use Rattle.tp_spec.specs.Schedules.{Live}
use Rattle.word_frontier.specs.declared.child.Child.{Child}
use Rattle.machine_run.specs.Children.{IsChild, marks_of}
use Rattle.situated_machine.specs.declared.quiet.Next.{Next}
use Rattle.situated_machine.specs.declared.quiet.Next.TheVariants as next
use Rattle.situated_machine.specs.declared.replayed.Rule.{Rule}
use Rattle.situated_machine.specs.declared.replayed.Rule.TheVariants as rules
use Rattle.situated_machine.specs.Keeping.{ReplayView}
use Rattle.situated_machine.specs.Rules.{Keeps, MayMakeDeed, has_id, place, taken_nodes}

abbrev pub rule_at : ℕ → Rule
rule_at zero = rules.Outcome
rule_at (suc zero) = rules.Turn
rule_at (suc (suc zero)) = rules.Id
rule_at (suc (suc (suc zero))) = rules.Least
rule_at (suc (suc (suc (suc zero)))) = rules.Live
rule_at (suc (suc (suc (suc (suc zero))))) = rules.Marks
rule_at (suc (suc (suc (suc (suc (suc zero)))))) = rules.Commit
rule_at (suc (suc (suc (suc (suc (suc (suc zero))))))) = rules.Plan
rule_at (suc (suc (suc (suc (suc (suc (suc (suc zero)))))))) = rules.Number
rule_at (suc (suc (suc (suc (suc (suc (suc (suc (suc n))))))))) = rules.Early

-- what holds of the first n rules
abbrev pub Firsts : (Rule → Type 0) → ℕ → Type 0
Firsts P zero = Unit {0}
Firsts P (suc n) = Firsts P n × P (rule_at n)

-- an event keeps each of the ten rules
abbrev pub KeepsEach : Problem → Limits → Machine → Event → Type 0
KeepsEach p l m e = Firsts (λ r. Keeps p l m e r) 10

-- it keeps the rules before this one, and breaks this one
abbrev pub BreaksAt : Problem → Limits → Machine → Event → Rule → Type 0
BreaksAt p l m e rule = Firsts (λ r. Keeps p l m e r) (place rule) × ¬ (Keeps p l m e rule)

-- it keeps each rule, and the machine took its step
pub record Follows (old new : ReplayView) (e : Event) : Type 0 where
  pub problem : new.problem ≡ old.problem
  pub limits : new.limits ≡ old.limits
  pub kept : KeepsEach old.problem old.limits old.machine e
  pub stepped : new.machine ≡ step old.limits old.machine e

-- no rule is broken and the machine took the step, or this is the first rule that is broken
abbrev pub IsJudged : ReplayView → ReplayView → Event → Option Rule → Type 0
IsJudged old new e None = Follows old new e
IsJudged old new e (Some rule) = BreaksAt old.problem old.limits old.machine e rule

-- The actor may make a deed on this node: no outcome stands, it is the actor's turn, without a deed
-- so far, and the actor took the node.
pub record MayWorkOn (m : Machine) (actor id : ℕ) : Type 0 where
  pub standing : m.over ≡ false
  pub turn : MayMakeDeed m actor
  pub taken : IsTrue (has_id id (taken_nodes actor m.nodes))

-- a deed of this actor on this node, which it took before
abbrev pub IsWorkOn : ℕ → ℕ → Event → Type 0
IsWorkOn actor id (Expand a i marks) = (a ≡ actor) × (i ≡ id)
IsWorkOn actor id (Publish a i plan) = (a ≡ actor) × (i ≡ id)
IsWorkOn actor id (Limit a i made marks) = (a ≡ actor) × (i ≡ id)
IsWorkOn actor id other = ⊥

-- each such deed breaks this rule first
abbrev pub BreaksWork : Problem → Limits → Machine → ℕ → ℕ → Rule → Type 0
BreaksWork p l m actor id rule = (e : Event) → IsWorkOn actor id e → BreaksAt p l m e rule

-- the machine took a step, in the same problem and limits
pub record Steps (old new : ReplayView) (e : Event) : Type 0 where
  pub problem : new.problem ≡ old.problem
  pub limits : new.limits ≡ old.limits
  pub stepped : new.machine ≡ step old.limits old.machine e

-- the best node, if there is one, is dead
abbrev pub HasNoLiveBest : ReplayView → Type 0
HasNoLiveBest r = (n : machine.Node) → IsBest r.problem r.machine.nodes n
    → ¬ (Live r.problem r.limits r.machine.now r.machine.commits n.word)

-- What the machine needs next: a Drop or an Exhaust, the Dispatch of this act, or nothing at once.
abbrev pub IsNext : ReplayView → Next → Type 0
IsNext r next.Dead = HasNoLiveBest r
IsNext r (next.Due act) = IsDue r.problem r.limits r.machine act
IsNext r next.Nothing = IsQuiet r.problem r.limits r.machine

-- No possible plan has this word, and among these are its children: exactly the marks that make it
-- a live word, each with the rank and the deadline of the longer word.
pub record AreChildrenOf (r : ReplayView) (w : List Mark) (children : List Child) : Type 0 where
  pub incomplete : SpellsNone r.problem r.limits r.machine w
  pub exact : AreLiveMarks r.problem r.limits r.machine w (marks_of children)
  pub each : AllByRecursion (IsChild r.problem r.limits r.machine.commits w) children
