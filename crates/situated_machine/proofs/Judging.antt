-- A legal event keeps every rule and is founded, and an event that keeps every rule and is founded is legal.
use Rattle.std.proofs.Common.{◌≡◌, refl, sym, ap, subst, ◌∙◌, ℕ, inl, inr, ◌==◌, true, false, not, List, Option, Some, None}
use Rattle.std.proofs.lemmas.Bool.{false≢true, eqb-true, eq-eqb}
use Rattle.tp_spec.specs.declared.event.Event.{Event}
use Rattle.tp_spec.specs.declared.event.Event.TheVariants.{Tick, Drop, Dispatch, Take, Expand, Publish, Limit, Exhaust, Halt}
use Rattle.tp_spec.specs.declared.plan.Limits.{Limits}
use Rattle.tp_spec.specs.declared.problem.Problem.{Problem}
use Rattle.tp_spec.specs.Lists.{IsIn, BeginsWith, each_pair, some_and}
use Rattle.tp_spec.specs.Machine.{Machine, Node, Legal, IsBetween, IsQuiet, IsSettled, MayAct, IsTaken, AreLiveMarks, SpellsNone, is_open, open_nodes, word_of}
use Rattle.tp_spec.specs.Schedules.{Live}
use Rattle.tp_spec.specs.Words.{spell}
use Rattle.tp_laws.proofs.Members.{in-filter}
use Rattle.tp_laws.proofs.PlanOfStages.{any-of}
use Rattle.tp_laws.proofs.ValidOfLists.{any-true, filter-passes}
use Rattle.tp_laws.proofs.WordOfLists.{filter-in}
use Rattle.run_laws.proofs.Covering.{word_of-in}
use Rattle.situated_machine.specs.declared.replayed.Rule.TheVariants as rules
use Rattle.situated_machine.specs.Rules.{HasTurn, HasNode, TakesLeast, TakesLive, HasMarks, CommitsDue, HasPlan, HasNumber, IsInTime, IsOfBest, IsPlanOf, IsFull, KeepsAll, MayMakeDeed, has_id, is_taken_by, taken_nodes}
use Rattle.situated_machine.specs.Laws.{IsFounded}

-- ids and takers

has-true : (id : ℕ) (n : Node) (nodes : List Node) → IsIn n nodes → n.id ≡ id → has_id id nodes ≡ true
has-true id n nodes i e = any-true (λ k. k.id == id) nodes n i (eq-eqb n.id id e)

has-node : (id : ℕ) (nodes : List Node) → has_id id nodes ≡ true → (n : Node) × IsIn n nodes × (n.id ≡ id)
has-node id nodes h = let r = any-of (λ k. k.id == id) nodes h in (r.0, r.1, eqb-true r.0.id id r.2)

by_taker : (actor : ℕ) (o : Option ℕ) → some_and o (λ a. a == actor) ≡ true → o ≡ Some actor
by_taker actor None h = absurd (false≢true h)
by_taker actor (Some a) h = ap Some (eqb-true a actor h)

has-taken : (m : Machine) (actor id : ℕ) (n : Node) → IsTaken m actor id n → has_id id (taken_nodes actor m.nodes) ≡ true
has-taken m actor id n h =
    let own : is_taken_by actor n ≡ true = ap (λ o. some_and o (λ a. a == actor)) h.taken ∙ eq-eqb actor actor refl in
    has-true id n (taken_nodes actor m.nodes) (filter-in (is_taken_by actor) m.nodes n h.there own) h.named

pub taken-node : (m : Machine) (actor id : ℕ) → has_id id (taken_nodes actor m.nodes) ≡ true → (n : Node) × IsTaken m actor id n
taken-node m actor id h =
    let r : (n : Node) × IsIn n (taken_nodes actor m.nodes) × (n.id ≡ id) = has-node id (taken_nodes actor m.nodes) h in (
      r.0,
      record {
        there = in-filter (is_taken_by actor) r.0 m.nodes r.1;
        named = r.2;
        taken = by_taker actor r.0.taker (filter-passes (is_taken_by actor) m.nodes r.0 r.1);
      },
    )

module _ (p : Problem) (l : Limits) (m : Machine) (told_apart : each_pair (λ a b. not (a.id == b.id)) m.nodes ≡ true) where
  pub word-of : (id : ℕ) (n : Node) → IsIn n m.nodes → n.id ≡ id → word_of id m.nodes ≡ n.word
  word-of id n i e = word_of-in id n m.nodes told_apart i (eq-eqb n.id id e)

  -- a legal event keeps each rule

  outcome : (e : Event) → Legal p l m e → m.over ≡ false
  outcome (Tick actor reading) h = h.standing
  outcome (Drop id) h = h.in_turn.standing
  outcome (Dispatch act) h = h.in_turn.standing
  outcome (Take actor id) h = h.may.between.standing
  outcome (Expand actor id marks) h = h.may.between.standing
  outcome (Publish actor id plan) h = h.may.between.standing
  outcome (Limit actor id made marks) h = h.may.between.standing
  outcome Exhaust h = h.in_turn.standing
  outcome (Halt cause) h = h.standing

  turn : (e : Event) → Legal p l m e → HasTurn m e
  turn (Tick actor reading) h = tt
  turn (Drop id) h = h.in_turn.turn
  turn (Dispatch act) h = h.in_turn.turn
  turn (Take actor id) h = h.may.turn
  turn (Expand actor id marks) h = h.may.turn
  turn (Publish actor id plan) h = h.may.turn
  turn (Limit actor id made marks) h = h.may.turn
  turn Exhaust h = h.in_turn.turn
  turn (Halt cause) h = tt

  has : (e : Event) → Legal p l m e → HasNode m e
  has (Tick actor reading) h = tt
  has (Drop id) h = has-true id h.node m.nodes h.there h.named
  has (Dispatch act) h = tt
  has (Take actor id) h = has-true id h.node (open_nodes m.nodes) h.least.there h.named
  has (Expand actor id marks) h = has-taken m actor id h.node h.taken
  has (Publish actor id plan) h = has-taken m actor id h.node h.taken
  has (Limit actor id made marks) h = has-taken m actor id h.node h.taken
  has Exhaust h = tt
  has (Halt cause) h = tt

  least : (e : Event) → Legal p l m e → TakesLeast p m e
  least (Tick actor reading) h = tt
  least (Drop id) h = tt
  least (Dispatch act) h = tt
  least (Take actor id) h = record { node = h.node; best = h.least; named = h.named }
  least (Expand actor id marks) h = tt
  least (Publish actor id plan) h = tt
  least (Limit actor id made marks) h = tt
  least Exhaust h = tt
  least (Halt cause) h = tt

  live : (e : Event) → Legal p l m e → TakesLive p l m e
  live (Tick actor reading) h = tt
  live (Drop id) h = tt
  live (Dispatch act) h = tt
  live (Take actor id) h = subst (λ w. Live p l m.now m.commits w) (sym (word-of id h.node (in-filter is_open h.node m.nodes h.least.there) h.named)) h.live
  live (Expand actor id marks) h = tt
  live (Publish actor id plan) h = tt
  live (Limit actor id made marks) h = tt
  live Exhaust h = tt
  live (Halt cause) h = tt

  marked : (e : Event) → Legal p l m e → HasMarks p l m e
  marked (Tick actor reading) h = tt
  marked (Drop id) h = tt
  marked (Dispatch act) h = tt
  marked (Take actor id) h = tt
  marked (Expand actor id marks) h =
      let w : word_of id m.nodes ≡ h.node.word = word-of id h.node h.taken.there h.taken.named in
      (subst (SpellsNone p l m) (sym w) h.incomplete, subst (λ v. AreLiveMarks p l m v marks) (sym w) h.exact)
  marked (Publish actor id plan) h = tt
  marked (Limit actor id made marks) h = subst (SpellsNone p l m) (sym (word-of id h.node h.taken.there h.taken.named)) h.incomplete
  marked Exhaust h = tt
  marked (Halt cause) h = tt

  commit : (e : Event) → Legal p l m e → CommitsDue p l m e
  commit (Tick actor reading) h = tt
  commit (Drop id) h = tt
  commit (Dispatch act) h = h.due
  commit (Take actor id) h = tt
  commit (Expand actor id marks) h = tt
  commit (Publish actor id plan) h = tt
  commit (Limit actor id made marks) h = tt
  commit Exhaust h = tt
  commit (Halt cause) h = tt

  planned : (e : Event) → Legal p l m e → HasPlan p l m e
  planned (Tick actor reading) h = tt
  planned (Drop id) h = tt
  planned (Dispatch act) h = tt
  planned (Take actor id) h = tt
  planned (Expand actor id marks) h = tt
  planned (Publish actor id plan) h =
      subst (λ v. IsPlanOf p l m v plan) (sym (word-of id h.node h.taken.there h.taken.named))
      (record { possible = h.possible; spells = h.spells; schedule = h.schedule; least = h.least; is = h.is })
  planned (Limit actor id made marks) h = tt
  planned Exhaust h = tt
  planned (Halt cause) h = tt

  numbered : (e : Event) → Legal p l m e → HasNumber p l m e
  numbered (Tick actor reading) h = tt
  numbered (Drop id) h = tt
  numbered (Dispatch act) h = tt
  numbered (Take actor id) h = tt
  numbered (Expand actor id marks) h = h.room
  numbered (Publish actor id plan) h = tt
  numbered (Limit actor id made marks) h =
      subst (λ v. IsFull p l m v made marks) (sym (word-of id h.node h.taken.there h.taken.named))
      (record { live_marks = h.live_marks; exact = h.exact; counted = h.counted; given = h.given; full = h.full })
  numbered Exhaust h = tt
  numbered (Halt cause) h = tt

  in-time : (e : Event) → Legal p l m e → IsInTime p l m e
  in-time (Tick actor reading) h = inr h.quiet
  in-time (Drop id) h = tt
  in-time (Dispatch act) h = tt
  in-time (Take actor id) h = inr h.may.between.quiet
  in-time (Expand actor id marks) h = inr h.may.between.quiet
  in-time (Publish actor id plan) h = inr h.may.between.quiet
  in-time (Limit actor id made marks) h = inr h.may.between.quiet
  in-time Exhaust h = h.none_left
  in-time (Halt cause) h = inr h.quiet

  pub legal-keeps : (e : Event) → Legal p l m e → KeepsAll p l m e
  legal-keeps e h rules.Outcome = outcome e h
  legal-keeps e h rules.Turn = turn e h
  legal-keeps e h rules.Id = has e h
  legal-keeps e h rules.Least = least e h
  legal-keeps e h rules.Live = live e h
  legal-keeps e h rules.Marks = marked e h
  legal-keeps e h rules.Commit = commit e h
  legal-keeps e h rules.Plan = planned e h
  legal-keeps e h rules.Number = numbered e h
  legal-keeps e h rules.Early = in-time e h

  pub legal-founded : (e : Event) → Legal p l m e → IsFounded p l m e
  legal-founded (Tick actor reading) h = tt
  legal-founded (Drop id) h = λ plan possible begins. h.hopeless plan possible (subst (λ w. BeginsWith (spell p plan) w) (word-of id h.node h.there h.named) begins)
  legal-founded (Dispatch act) h = tt
  legal-founded (Take actor id) h = tt
  legal-founded (Expand actor id marks) h = tt
  legal-founded (Publish actor id plan) h = tt
  legal-founded (Limit actor id made marks) h = tt
  legal-founded Exhaust h = h.hopeless
  legal-founded (Halt cause) h = tt

  -- an event that keeps each rule and is founded is legal

  quiet : m.over ≡ false → IsSettled p l m → IsQuiet p l m
  quiet e (inl over) = absurd (false≢true (sym e ∙ over))
  quiet e (inr q) = q

  between : m.over ≡ false → IsSettled p l m → IsBetween p l m
  between e s = record { standing = e; quiet = quiet e s }

  may : (actor : ℕ) → m.over ≡ false → MayMakeDeed m actor → IsSettled p l m → MayAct p l m actor
  may actor e t s = record { between = between e s; turn = t }

  taken : (actor id : ℕ) → has_id id (taken_nodes actor m.nodes) ≡ true → (n : Node) × IsTaken m actor id n × (word_of id m.nodes ≡ n.word)
  taken actor id h =
      let r : (n : Node) × IsTaken m actor id n = taken-node m actor id h in
      (r.0, r.1, word-of id r.0 r.1.there r.1.named)

  pub founded-legal : (e : Event) → KeepsAll p l m e → IsFounded p l m e → Legal p l m e
  founded-legal (Tick actor reading) k f = between (k rules.Outcome) (k rules.Early)
  founded-legal (Drop id) k f =
      let r : (n : Node) × IsIn n m.nodes × (n.id ≡ id) = has-node id m.nodes (k rules.Id) in
      record {
        in_turn = record { standing = k rules.Outcome; turn = k rules.Turn };
        node = r.0;
        there = r.1;
        named = r.2;
        hopeless = λ plan possible begins. f plan possible (subst (λ w. BeginsWith (spell p plan) w) (sym (word-of id r.0 r.1 r.2)) begins);
      }
  founded-legal (Dispatch act) k f = record { in_turn = record { standing = k rules.Outcome; turn = k rules.Turn }; due = k rules.Commit }
  founded-legal (Take actor id) k f =
      let r : IsOfBest p (open_nodes m.nodes) id = k rules.Least in
      record {
        may = may actor (k rules.Outcome) (k rules.Turn) (k rules.Early);
        node = r.node;
        least = r.best;
        named = r.named;
        live = subst (λ w. Live p l m.now m.commits w) (word-of id r.node (in-filter is_open r.node m.nodes r.best.there) r.named) (k rules.Live);
      }
  founded-legal (Expand actor id marks) k f =
      let r : (n : Node) × IsTaken m actor id n × (word_of id m.nodes ≡ n.word) = taken actor id (k rules.Id) in
      record {
        may = may actor (k rules.Outcome) (k rules.Turn) (k rules.Early);
        node = r.0;
        taken = r.1;
        incomplete = subst (SpellsNone p l m) r.2 (k rules.Marks).0;
        exact = subst (λ v. AreLiveMarks p l m v marks) r.2 (k rules.Marks).1;
        room = k rules.Number;
      }
  founded-legal (Publish actor id plan) k f =
      let r : (n : Node) × IsTaken m actor id n × (word_of id m.nodes ≡ n.word) = taken actor id (k rules.Id) in
      let q : IsPlanOf p l m r.0.word plan = subst (λ v. IsPlanOf p l m v plan) r.2 (k rules.Plan) in
      record {
        may = may actor (k rules.Outcome) (k rules.Turn) (k rules.Early);
        node = r.0;
        taken = r.1;
        possible = q.possible;
        spells = q.spells;
        schedule = q.schedule;
        least = q.least;
        is = q.is;
      }
  founded-legal (Limit actor id made marks) k f =
      let r : (n : Node) × IsTaken m actor id n × (word_of id m.nodes ≡ n.word) = taken actor id (k rules.Id) in
      let q : IsFull p l m r.0.word made marks = subst (λ v. IsFull p l m v made marks) r.2 (k rules.Number) in
      record {
        may = may actor (k rules.Outcome) (k rules.Turn) (k rules.Early);
        node = r.0;
        taken = r.1;
        incomplete = subst (SpellsNone p l m) r.2 (k rules.Marks);
        live_marks = q.live_marks;
        exact = q.exact;
        counted = q.counted;
        given = q.given;
        full = q.full;
      }
  founded-legal Exhaust k f = record { in_turn = record { standing = k rules.Outcome; turn = k rules.Turn }; none_left = k rules.Early; hopeless = f }
  founded-legal (Halt cause) k f = between (k rules.Outcome) (k rules.Early)
