-- The deadline of a live word is the tick of its first start that is no commitment.
use Rattle.std.proofs.Common.{◌≡◌, refl, sym, subst, ◌+◌, ◌<◌, ◌≤◌, ◌==◌, ◌||◌, Bool, true, false, arith, nat_le}
use Rattle.std.proofs.lemmas.Bool.{leb-true, false≢true}
use Rattle.tp_spec.specs.declared.plan.Limits.{Limits}
use Rattle.tp_spec.specs.declared.problem.Problem.{Problem}
use Rattle.tp_spec.specs.Lists.{IsIn}
use Rattle.tp_spec.specs.Schedules.{Live, acts_by}
use Rattle.tp_spec.specs.Words.{acts_of, groups}
use Rattle.run_laws.specs.Commitments.{DeadlineIsNextStart, NothingIsDue}
use Rattle.tp_laws.specs.Clocks.{IsDeadline}
use Rattle.tp_laws.proofs.Members.{in-filter}
use Rattle.tp_laws.proofs.ClockActs.{sound-acts}
use Rattle.tp_laws.proofs.ClockCommits.{in_get}
use Rattle.tp_laws.proofs.ClockLaws.{candidate-tells}
use Rattle.run_laws.proofs.Candidates.{next-place}

pub deadline-next : (p : Problem) (l : Limits) → DeadlineIsNextStart p l
deadline-next p l now deadline commits w x a is greatest clock live next =
    let among : IsIn a (acts_of p w) = in-filter (λ y. y.action == a.action) a (acts_of p w) (in_get (acts_by a.action (acts_of p w)) _ a (next-place commits (acts_of p w) a next)) in
    let inside : a.opens < groups w = (sound-acts p w live.sound).opens a among in
    let top : x.tick a.opens ≤ l.horizon = greatest.is.within a.opens inside in
    let before : now ≤ x.tick a.opens = (candidate-tells p l now now commits w x a (omega arith) live.sound greatest next).0 live in
    let at : Live p l (x.tick a.opens) commits w = (candidate-tells p l now (x.tick a.opens) commits w x a before live.sound greatest next).1 (omega arith) in
    let low : x.tick a.opens ≤ deadline = (is.tells (x.tick a.opens) (omega (arith, top))).0 at in
    let last : Live p l deadline commits w = (is.tells deadline is.within).1 (omega arith) in
    let high : deadline ≤ x.tick a.opens = (candidate-tells p l now deadline commits w x a (omega (arith, before, low)) live.sound greatest next).0 last in
    (omega (arith, low, high), omega (arith, high, top))

pub nothing-due : (p : Problem) (l : Limits) → NothingIsDue p l
nothing-due p l m w deadline best clock far act due = by_test (nat_le (m.now + l.lead + 1) deadline) (nat_le (l.horizon + 1) deadline) refl refl far where
  timely : IsDeadline p l m.commits due.node.word deadline
  timely = subst (λ v. IsDeadline p l m.commits v deadline) (sym (best.told_apart act due)) best.timely

  at : (due.schedule.tick due.next.opens ≡ deadline) × (deadline ≤ l.horizon)
  at = deadline-next p l m.now deadline m.commits due.node.word due.schedule due.next timely due.greatest clock due.live due.is_next

  by_test : (a b : Bool) → nat_le (m.now + l.lead + 1) deadline ≡ a → nat_le (l.horizon + 1) deadline ≡ b → (a || b) ≡ true → ⊥
  by_test true b e f h = omega (arith, leb-true (m.now + l.lead + 1) deadline e, at.0, due.soon)
  by_test false true e f h = omega (arith, leb-true (l.horizon + 1) deadline f, at.1)
  by_test false false e f h = false≢true h
