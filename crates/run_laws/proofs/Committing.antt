-- The commitments of a run grow, its possible plans shrink, and a word stays live where its start is committed.
use Rattle.std.proofs.Common.{◌≡◌, refl, sym, ap, subst, ◌∙◌, ℕ, zero, suc, ◌≤◌, ◌==◌, ◌⊎◌, inl, inr, Bool, true, false, cond, List, [], ◌∷◌, ◌++◌, length, Option, Some, arith, append_assoc, append-nil}
use Rattle.std.specs.Prelude.{IfSome, slice_get}
use Rattle.std.proofs.lemmas.Bool.{eqb-true}
use Rattle.std.proofs.lemmas.List.Elements.{filter-append}
use Rattle.tp_spec.specs.declared.event.Event.{Event}
use Rattle.tp_spec.specs.declared.event.Event.TheVariants.{Tick, Drop, Dispatch, Take, Expand, Publish, Limit, Exhaust, Halt}
use Rattle.tp_spec.specs.declared.plan.Limits.{Limits}
use Rattle.tp_spec.specs.declared.plan.Plan.{Plan}
use Rattle.tp_spec.specs.declared.plan.Timed.{Timed}
use Rattle.tp_spec.specs.declared.problem.Problem.{Problem}
use Rattle.tp_spec.specs.Courses.{Possible}
use Rattle.tp_spec.specs.Lists.{IsIn}
use Rattle.tp_spec.specs.Machine.{Machine, first, step, end_of, Legal, AreLegal}
use Rattle.tp_spec.specs.Schedules.{Schedule, IsOnTime, acts_by, commits_by}
use Rattle.tp_spec.specs.Words.{Act}
use Rattle.run_laws.specs.Commitments.{CommitsGrow, PlansShrink, DispatchKeepsLive}
use Rattle.tp_laws.specs.Clocks.{StartFrom}
use Rattle.tp_laws.proofs.Members.{in-append}
use Rattle.run_laws.proofs.Dispatching.{due-acts, due-here, due-spans, due-action, due-start, due-lasts, due-met, due-next, possible-fewer}
use Rattle.run_laws.proofs.Runs.{end-append, legal-parts, possible-before}

-- what an event adds to the commitments
record Adds (l : Limits) (m : Machine) (e : Event) : Type 0 where
  more : List Timed
  commits : (step l m e).commits ≡ m.commits ++ more
  from_now : StartFrom m.now more
  later : m.now ≤ (step l m e).now

adds-none : (l : Limits) (m : Machine) (e : Event) → (step l m e).commits ≡ m.commits → m.now ≤ (step l m e).now → Adds l m e
adds-none l m e same later = record { more = []; commits = same ∙ sym (append-nil m.commits); from_now = λ d i. absurd i; later = later }

adds : (p : Problem) (l : Limits) (m : Machine) (e : Event) → Legal p l m e → Adds l m e
adds p l m (Tick actor reading) legal = adds-none l m (Tick actor reading) refl (omega arith)
adds p l m (Drop id) legal = adds-none l m (Drop id) refl (omega arith)
adds p l m (Dispatch act) legal = record {
  more = act ∷ [];
  commits = refl;
  from_now = λ d i. one d i;
  later = omega arith;
}
  where
    one : (d : Timed) → IsIn d (act ∷ []) → m.now ≤ d.start
    one d (inl e) = subst (λ (c : Timed). m.now ≤ c.start) e (due-next p l m act legal.due).from_now
    one d (inr i) = absurd i
adds p l m (Take actor id) legal = adds-none l m (Take actor id) refl (omega arith)
adds p l m (Expand actor id marks) legal = adds-none l m (Expand actor id marks) refl (omega arith)
adds p l m (Publish actor id plan) legal = adds-none l m (Publish actor id plan) refl (omega arith)
adds p l m (Limit actor id made marks) legal = adds-none l m (Limit actor id made marks) refl (omega arith)
adds p l m Exhaust legal = adds-none l m Exhaust refl (omega arith)
adds p l m (Halt cause) legal = adds-none l m (Halt cause) refl (omega arith)

abbrev Grows : Machine → Machine → Type 0
Grows m n = (more : List Timed) × (n.commits ≡ m.commits ++ more) × StartFrom m.now more

grows : (p : Problem) (l : Limits) (m : Machine) (es : List Event) → AreLegal p l m es → Grows m (end_of l m es)
grows p l m [] legal = ([], sym (append-nil m.commits), λ d i. absurd i)
grows p l m (e ∷ es) legal =
    let a : Adds l m e = adds p l m e legal.0 in
    let r : Grows (step l m e) (end_of l (step l m e) es) = grows p l (step l m e) es legal.1 in (
      a.more ++ r.0,
      r.1 ∙ ap (λ cs. cs ++ r.0) a.commits ∙ append_assoc m.commits a.more r.0,
      λ d i. from d a r (in-append d a.more r.0 i),
    )
  where
    from : (d : Timed) (a : Adds l m e) (r : Grows (step l m e) (end_of l (step l m e) es)) → IsIn d a.more ⊎ IsIn d r.0 → m.now ≤ d.start
    from d a r (inl i) = a.from_now d i
    from d a r (inr i) = omega (arith, a.later, r.2 d i)

pub commits-grow : (p : Problem) (l : Limits) → CommitsGrow p l
commits-grow p l front rest run =
    let g : Grows (end_of l first front) (end_of l (end_of l first front) rest) = grows p l (end_of l first front) rest (legal-parts p l first front rest run.legal).1 in
    (g.0, ap (λ n. n.commits) (end-append l first front rest) ∙ g.1, g.2)

-- a plan that is possible behind an event was possible before it
shrinks : (p : Problem) (l : Limits) (m : Machine) (e : Event) (plan : Plan) → Legal p l m e → Possible p l (step l m e).now (step l m e).commits plan → Possible p l m.now m.commits plan
shrinks p l m (Tick actor reading) plan legal h = possible-before p l m.now (step l m (Tick actor reading)).now m.commits plan (omega arith) h
shrinks p l m (Drop id) plan legal h = h
shrinks p l m (Dispatch act) plan legal h = possible-fewer p l m.now m.commits act (due-next p l m act legal.due) plan h
shrinks p l m (Take actor id) plan legal h = h
shrinks p l m (Expand actor id marks) plan legal h = h
shrinks p l m (Publish actor id other) plan legal h = h
shrinks p l m (Limit actor id made marks) plan legal h = h
shrinks p l m Exhaust plan legal h = h
shrinks p l m (Halt cause) plan legal h = h

shrinks-on : (p : Problem) (l : Limits) (m : Machine) (es : List Event) (plan : Plan) → AreLegal p l m es → Possible p l (end_of l m es).now (end_of l m es).commits plan → Possible p l m.now m.commits plan
shrinks-on p l m [] plan legal h = h
shrinks-on p l m (e ∷ es) plan legal h = shrinks p l m e plan legal.0 (shrinks-on p l (step l m e) es plan legal.1 h)

pub plans-shrink : (p : Problem) (l : Limits) → PlansShrink p l
plans-shrink p l front rest plan run h =
    shrinks-on p l (end_of l first front) rest plan (legal-parts p l first front rest run.legal).1
    (subst (λ (n : Machine). Possible p l n.now n.commits plan) (end-append l first front rest) h)

-- one commitment more, which the next act keeps
push-time : (x : Schedule) (now : ℕ) (act : Timed) (cs : List Timed) (k : ℕ) (o : Option Act) → IfSome o (λ y. IsOnTime x now y (slice_get cs k)) → (k ≡ length cs → IfSome o (λ y. IsOnTime x now y (Some act))) → IfSome o (λ y. IsOnTime x now y (slice_get (cs ++ act ∷ []) k))
push-time x now act [] zero o h f = f refl
push-time x now act [] (suc k) o h f = h
push-time x now act (c ∷ cs) zero o h f = h
push-time x now act (c ∷ cs) (suc k) o h f = push-time x now act cs k o h (λ e. f (ap suc e))

pub dispatch-live : (p : Problem) (l : Limits) → DispatchKeepsLive p l
dispatch-live p l m act due = record {
  sound = due.live.sound;
  schedule = x;
  is = record {
    rises = due.greatest.is.rises;
    within = due.greatest.is.within;
    timed = due.greatest.is.timed;
    before_next = due.greatest.is.before_next;
    lengths = due.greatest.is.lengths;
    open_late = due.greatest.is.open_late;
    on_time = λ a k. subst (λ cs. IfSome (slice_get (acts_by a acts) k) (λ y. IsOnTime x m.now y (slice_get cs k))) (sym (filter-append (λ c. c.action == a) m.commits (act ∷ []))) (by_test a k (act.action == a) refl);
    late = λ c g i b. due.greatest.is.late c g (subst (IsIn c) (due-met p l m act due) i) b;
    few = omega (arith, due.greatest.is.few, ap length (due-met p l m act due));
  };
}
  where
    x : Schedule
    x = due.schedule

    acts : List Act
    acts = due-acts p l m act due

    -- the next act starts and ends as it is committed
    keeps : IsOnTime x m.now due.next (Some act)
    keeps = (sym (due-start p l m act due), omega (arith, due-start p l m act due, due-lasts p l m act due, (due-spans p l m act due).forward))

    by_test : (a k : ℕ) (b : Bool) → (act.action == a) ≡ b → IfSome (slice_get (acts_by a acts) k) (λ y. IsOnTime x m.now y (slice_get (commits_by a m.commits ++ cond b (act ∷ []) []) k))
    by_test a k false e = subst (λ cs. IfSome (slice_get (acts_by a acts) k) (λ y. IsOnTime x m.now y (slice_get cs k))) (sym (append-nil (commits_by a m.commits))) (due.greatest.is.on_time a k)
    by_test a k true e = push-time x m.now act (commits_by a m.commits) k (slice_get (acts_by a acts) k) (due.greatest.is.on_time a k) (λ last. subst (λ o. IfSome o (λ y. IsOnTime x m.now y (Some act))) (sym (ap (slice_get (acts_by a acts)) last ∙ here)) keeps) where
      named : due.next.action ≡ a
      named = sym (due-action p l m act due) ∙ eqb-true act.action a e

      here : slice_get (acts_by a acts) (length (commits_by a m.commits)) ≡ Some due.next
      here = subst (λ b. slice_get (acts_by b acts) (length (commits_by b m.commits)) ≡ Some due.next) named (due-here p l m act due)
