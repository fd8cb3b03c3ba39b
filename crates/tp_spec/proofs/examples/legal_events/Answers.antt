use Rattle.std.proofs.Common.{inl, inr, ◌≡◌, sym, subst, ◌∙◌, ◌+◌, ◌≤◌, ◌<◌, true, false}
use Rattle.std.proofs.lemmas.Bool.{false≢true}
use Rattle.tp_spec.specs.declared.event.Event.{Event}
use Rattle.tp_spec.specs.declared.event.Event.TheVariants.{Tick, Drop, Dispatch, Take, Expand, Publish, Limit, Exhaust, Halt}
use Rattle.tp_spec.specs.declared.plan.Limits.{Limits}
use Rattle.tp_spec.specs.declared.problem.Problem.{Problem}
use Rattle.tp_spec.specs.Machine.{Machine, Legal}
use Rattle.tp_spec.proofs.examples.legal_events.Goals as goal

both_ways : (m : Machine) → m.over ≡ true → m.over ≡ false → ⊥
both_ways m e f = false≢true (sym f ∙ e)

none_after : (p : Problem) (l : Limits) (m : Machine) (e : Event) → m.over ≡ true → Legal p l m e → ⊥
none_after p l m (Tick actor reading) e h = both_ways m e h.standing
none_after p l m (Drop id) e h = both_ways m e h.in_turn.standing
none_after p l m (Dispatch act) e h = both_ways m e h.in_turn.standing
none_after p l m (Take actor id) e h = both_ways m e h.may.between.standing
none_after p l m (Expand actor id marks) e h = both_ways m e h.may.between.standing
none_after p l m (Publish actor id plan) e h = both_ways m e h.may.between.standing
none_after p l m (Limit actor id made marks) e h = both_ways m e h.may.between.standing
none_after p l m Exhaust e h = both_ways m e h.in_turn.standing
none_after p l m (Halt cause) e h = both_ways m e h.standing

pub returns-clause-none_after_outcome : goal.returns-clause-none_after_outcome
returns-clause-none_after_outcome c p l m e over h = none_after p l m e over h

pub returns-clause-of_takers : goal.returns-clause-of_takers
returns-clause-of_takers c p l m actor id made marks plan = (
  λ h. (h.may.turn, (h.node, h.taken.there, h.taken.named, h.taken.taken)),
  λ h. (h.may.turn, (h.node, h.taken.there, h.taken.named, h.taken.taken)),
  λ h. (h.may.turn, (h.node, h.taken.there, h.taken.named, h.taken.taken)),
)

pub returns-clause-at_limit : goal.returns-clause-at_limit
returns-clause-at_limit c p l m actor id made n marks = (
  λ h. h.room,
  λ h. subst (λ k. l.nodes < k + n) h.given h.full,
)

pub returns-clause-dropped : goal.returns-clause-dropped
returns-clause-dropped c p l m id h = (h.node, h.there, h.named, h.hopeless)

pub returns-clause-published : goal.returns-clause-published
returns-clause-published c p l m actor id plan h = h.possible

pub returns-clause-exhausted : goal.returns-clause-exhausted
returns-clause-exhausted c p l m h = (h.none_left, h.hopeless)

pub returns-clause-due_soon : goal.returns-clause-due_soon
returns-clause-due_soon c p l m act h = subst (λ a. a.start ≤ m.now + l.lead) (sym h.is) h.soon

pub returns-clause-marks : goal.returns-clause-marks
returns-clause-marks c p l m w marks h a = (h.live a, h.all a)

pub returns-clause-expanded : goal.returns-clause-expanded
returns-clause-expanded c p l m actor id marks h = (h.node, h.taken.named, h.exact, h.incomplete)

pub returns-clause-taken : goal.returns-clause-taken
returns-clause-taken c p l m actor id h = (h.node, h.named, h.least, h.live)

pub returns-clause-least : goal.returns-clause-least
returns-clause-least c p l m actor id plan h = (h.node, h.taken.named, h.spells, (h.schedule, h.least, h.is))

pub returns-clause-due_act : goal.returns-clause-due_act
returns-clause-due_act c p l m act h = (h.node, h.best, (h.schedule, h.greatest, (h.next, h.is_next, h.is)))

pub returns-clause-settled : goal.returns-clause-settled
returns-clause-settled c p l m = (
  λ e. inl e,
  λ q. inr q,
  λ h f. elim h [ inl e ↦ absurd (both_ways m e f) | inr q ↦ q ],
)

pub returns-clause-quiet : goal.returns-clause-quiet
returns-clause-quiet c p l m h = ((h.node, h.best, h.live), h.not_urgent)

pub returns-clause-runs : goal.returns-clause-runs
returns-clause-runs c p l e f = (λ h. (h.legal.0, h.legal.1.0), λ h. h.settled)

pub returns-clause-covered : goal.returns-clause-covered
returns-clause-covered c p m plan h = (h.node, h.there, h.begins)
