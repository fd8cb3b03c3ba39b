-- One worker keeps a history busy.
use Rattle.std.proofs.Common.{◌≡◌, refl, sym, ap, subst, ◌∙◌, ℕ, suc, ◌≤◌, length, arith, ◌==◌, Bool, true, false, not, ◌&&◌, ◌||◌, List, [], ◌∷◌, ◌++◌, append_assoc, append-nil, fold, map, if◌then◌else◌, Option, Some, None}
use Rattle.std.specs.List.{list_all, list_any}
use Rattle.std.proofs.lemmas.Bool.{and_parts, and_from, eq-eqb, false≢true}
use Rattle.std.proofs.lemmas.List.Sums.{fold-append}
use Rattle.std.proofs.lemmas.List.Folds.{list_all-append}
use Rattle.tp_spec.specs.declared.event.Event.{Event}
use Rattle.tp_spec.specs.declared.event.Event.TheVariants.{Tick, Drop, Dispatch, Take, Expand, Publish, Limit, Exhaust, Halt}
use Rattle.tp_spec.specs.declared.plan.Limits.{Limits}
use Rattle.tp_spec.specs.declared.plan.Mark.{Mark}
use Rattle.tp_spec.specs.Machine.{Machine, Node, first, step, end_of, state_of, is_open, taken_by, without, children}
use Rattle.tp_spec.specs.Following.{are_busy, is_busy_turn, turn_events, last_take, took_after, serves_take, serves_merge, is_deed_on, is_take}
use Rattle.run_laws.proofs.Runs.{end-append}
use Rattle.machine_run.specs.Turns.{IsTurn, event_list, is_settling, is_outcome, has_outcome}
use Rattle.machine_run.proofs.Outcomes.{over-of}
use Rattle.serial_runs.specs.Playing.{is_inside}
use Rattle.serial_runs.specs.OneWorker.{IsRested, HasTaken, IsWorked, is_open_or, is_turn_of}

-- a Tick ends the turn before it
turn-ends : (es fs : List Event) (actor r : ℕ) → turn_events (es ++ Tick actor r ∷ fs) ≡ turn_events es
turn-ends [] fs actor r = refl
turn-ends (Tick a s ∷ es) fs actor r = refl
turn-ends (Halt c ∷ es) fs actor r = refl
turn-ends (Drop id ∷ es) fs actor r = ap (λ x. Drop id ∷ x) (turn-ends es fs actor r)
turn-ends (Dispatch act ∷ es) fs actor r = ap (λ x. Dispatch act ∷ x) (turn-ends es fs actor r)
turn-ends (Take a id ∷ es) fs actor r = ap (λ x. Take a id ∷ x) (turn-ends es fs actor r)
turn-ends (Expand a id marks ∷ es) fs actor r = ap (λ x. Expand a id marks ∷ x) (turn-ends es fs actor r)
turn-ends (Publish a id plan ∷ es) fs actor r = ap (λ x. Publish a id plan ∷ x) (turn-ends es fs actor r)
turn-ends (Limit a id made marks ∷ es) fs actor r = ap (λ x. Limit a id made marks ∷ x) (turn-ends es fs actor r)
turn-ends (Exhaust ∷ es) fs actor r = ap (λ x. Exhaust ∷ x) (turn-ends es fs actor r)

and-assoc : (a b c : Bool) → (a && (b && c)) ≡ ((a && b) && c)
and-assoc false b c = refl
and-assoc true b c = refl

-- the events behind the first one, of a history that is longer by that one
past : (l : Limits) (w : ℕ) (before : List Event) (e : Event) (es fs : List Event) (actor r : ℕ)
    → are_busy l w (before ++ e ∷ []) (es ++ Tick actor r ∷ fs) ≡ (are_busy l w (before ++ e ∷ []) es && are_busy l w ((before ++ e ∷ []) ++ es) (Tick actor r ∷ fs))
    → are_busy l w (before ++ e ∷ []) (es ++ Tick actor r ∷ fs) ≡ (are_busy l w (before ++ e ∷ []) es && are_busy l w (before ++ e ∷ es) (Tick actor r ∷ fs))
past l w before e es fs actor r h = h ∙ ap (λ b. are_busy l w (before ++ e ∷ []) es && are_busy l w b (Tick actor r ∷ fs)) (append_assoc before (e ∷ []) es)

-- a history with one turn more is busy where the history is and the turn is
busy-append : (l : Limits) (w : ℕ) (before es fs : List Event) (actor r : ℕ)
    → are_busy l w before (es ++ Tick actor r ∷ fs) ≡ (are_busy l w before es && are_busy l w (before ++ es) (Tick actor r ∷ fs))
busy-append l w before [] fs actor r = ap (λ b. are_busy l w b (Tick actor r ∷ fs)) (sym (append-nil before))
busy-append l w before (Tick a s ∷ es) fs actor r =
    (λ i. is_busy_turn l w before a s (turn-ends es fs actor r i) && past l w before (Tick a s) es fs actor r (busy-append l w (before ++ Tick a s ∷ []) es fs actor r) i)
    ∙ and-assoc (is_busy_turn l w before a s (turn_events es)) (are_busy l w (before ++ Tick a s ∷ []) es) (are_busy l w (before ++ Tick a s ∷ es) (Tick actor r ∷ fs))
busy-append l w before (Drop id ∷ es) fs actor r = past l w before (Drop id) es fs actor r (busy-append l w (before ++ Drop id ∷ []) es fs actor r)
busy-append l w before (Dispatch act ∷ es) fs actor r = past l w before (Dispatch act) es fs actor r (busy-append l w (before ++ Dispatch act ∷ []) es fs actor r)
busy-append l w before (Take a id ∷ es) fs actor r = past l w before (Take a id) es fs actor r (busy-append l w (before ++ Take a id ∷ []) es fs actor r)
busy-append l w before (Expand a id marks ∷ es) fs actor r = past l w before (Expand a id marks) es fs actor r (busy-append l w (before ++ Expand a id marks ∷ []) es fs actor r)
busy-append l w before (Publish a id plan ∷ es) fs actor r = past l w before (Publish a id plan) es fs actor r (busy-append l w (before ++ Publish a id plan ∷ []) es fs actor r)
busy-append l w before (Limit a id made marks ∷ es) fs actor r = past l w before (Limit a id made marks) es fs actor r (busy-append l w (before ++ Limit a id made marks ∷ []) es fs actor r)
busy-append l w before (Exhaust ∷ es) fs actor r = past l w before Exhaust es fs actor r (busy-append l w (before ++ Exhaust ∷ []) es fs actor r)
busy-append l w before (Halt cause ∷ es) fs actor r = past l w before (Halt cause) es fs actor r (busy-append l w (before ++ Halt cause ∷ []) es fs actor r)

-- who is open is so or has this id after the Take
pub taken_open : (id : ℕ) (ns : List Node) → list_all is_open ns ≡ true → list_all (is_open_or id) (map (taken_by 1 id) ns) ≡ true
taken_open id [] h = refl
taken_open id (n ∷ ns) h = and_from _ _ (by_test (n.id == id) refl) (taken_open id ns (and_parts _ _ h).1) where
  by_test : (b : Bool) → (n.id == id) ≡ b → is_open_or id (if n.id == id then record n { taker = Some 1 } else n) ≡ true
  by_test true e = ap (λ b. is_open_or id (if b then record n { taker = Some 1 } else n)) e ∙ e
  by_test false e = ap (λ b. is_open_or id (if b then record n { taker = Some 1 } else n)) e ∙ ap (λ b. b || (n.id == id)) (and_parts _ _ h).0

or-false : (a b : Bool) → b ≡ false → (a || b) ≡ true → a ≡ true
or-false true b e h = refl
or-false false b e h = sym e ∙ h

pub left_open : (id : ℕ) (ns : List Node) → list_all (is_open_or id) ns ≡ true → list_all is_open (without id ns) ≡ true
left_open id [] h = refl
left_open id (n ∷ ns) h = by_test (left_open id ns (and_parts _ _ h).1) (n.id == id) refl where
  by_test : list_all is_open (without id ns) ≡ true → (b : Bool) → (n.id == id) ≡ b → list_all is_open (if not (n.id == id) then n ∷ without id ns else without id ns) ≡ true
  by_test ih true e = ap (λ b. list_all is_open (if not b then n ∷ without id ns else without id ns)) e ∙ ih
  by_test ih false e = ap (λ b. list_all is_open (if not b then n ∷ without id ns else without id ns)) e
      ∙ and_from _ _ (or-false (is_open n) (n.id == id) e (and_parts _ _ h).0) ih

pub children_open : (w : List Mark) (made : ℕ) (marks : List Mark) → list_all is_open (children w made marks) ≡ true
children_open w made [] = refl
children_open w made (a ∷ marks) = children_open w (suc made) marks

or-certain : (b : Bool) → true ≡ (b || true)
or-certain true = refl
or-certain false = refl

settling-inside : (e : Event) → is_settling e ≡ true → is_inside e ≡ true
settling-inside (Tick a r) h = absurd (false≢true h)
settling-inside (Drop id) h = refl
settling-inside (Dispatch act) h = refl
settling-inside (Take a id) h = refl
settling-inside (Expand a id marks) h = refl
settling-inside (Publish a id plan) h = refl
settling-inside (Limit a id made marks) h = refl
settling-inside Exhaust h = refl
settling-inside (Halt cause) h = absurd (false≢true h)

pub all-inside : (es : List Event) → list_all is_settling es ≡ true → list_all is_inside es ≡ true
all-inside [] h = refl
all-inside (e ∷ es) h = and_from _ _ (settling-inside e (and_parts _ _ h).0) (all-inside es (and_parts _ _ h).1)

turn-inside : (es : List Event) → list_all is_inside es ≡ true → turn_events es ≡ es
turn-inside [] h = refl
turn-inside (Tick a r ∷ es) h = absurd (false≢true h)
turn-inside (Drop id ∷ es) h = ap (λ x. Drop id ∷ x) (turn-inside es h)
turn-inside (Dispatch act ∷ es) h = ap (λ x. Dispatch act ∷ x) (turn-inside es h)
turn-inside (Take a id ∷ es) h = ap (λ x. Take a id ∷ x) (turn-inside es h)
turn-inside (Expand a id marks ∷ es) h = ap (λ x. Expand a id marks ∷ x) (turn-inside es h)
turn-inside (Publish a id plan ∷ es) h = ap (λ x. Publish a id plan ∷ x) (turn-inside es h)
turn-inside (Limit a id made marks ∷ es) h = ap (λ x. Limit a id made marks ∷ x) (turn-inside es h)
turn-inside (Exhaust ∷ es) h = ap (λ x. Exhaust ∷ x) (turn-inside es h)
turn-inside (Halt cause ∷ es) h = absurd (false≢true h)

own-inside : (actor : ℕ) (es : List Event) → list_all is_inside es ≡ true → list_all (is_turn_of actor) es ≡ true
own-inside actor [] h = refl
own-inside actor (Tick a r ∷ es) h = absurd (false≢true h)
own-inside actor (Drop id ∷ es) h = own-inside actor es h
own-inside actor (Dispatch act ∷ es) h = own-inside actor es h
own-inside actor (Take a id ∷ es) h = own-inside actor es h
own-inside actor (Expand a id marks ∷ es) h = own-inside actor es h
own-inside actor (Publish a id plan ∷ es) h = own-inside actor es h
own-inside actor (Limit a id made marks ∷ es) h = own-inside actor es h
own-inside actor (Exhaust ∷ es) h = own-inside actor es h
own-inside actor (Halt cause ∷ es) h = absurd (false≢true h)

busy-inside : (l : Limits) (w : ℕ) (before es : List Event) → list_all is_inside es ≡ true → are_busy l w before es ≡ true
busy-inside l w before [] h = refl
busy-inside l w before (Tick a r ∷ es) h = absurd (false≢true h)
busy-inside l w before (Drop id ∷ es) h = busy-inside l w (before ++ Drop id ∷ []) es h
busy-inside l w before (Dispatch act ∷ es) h = busy-inside l w (before ++ Dispatch act ∷ []) es h
busy-inside l w before (Take a id ∷ es) h = busy-inside l w (before ++ Take a id ∷ []) es h
busy-inside l w before (Expand a id marks ∷ es) h = busy-inside l w (before ++ Expand a id marks ∷ []) es h
busy-inside l w before (Publish a id plan ∷ es) h = busy-inside l w (before ++ Publish a id plan ∷ []) es h
busy-inside l w before (Limit a id made marks ∷ es) h = busy-inside l w (before ++ Limit a id made marks ∷ []) es h
busy-inside l w before (Exhaust ∷ es) h = busy-inside l w (before ++ Exhaust ∷ []) es h
busy-inside l w before (Halt cause ∷ es) h = absurd (false≢true h)

-- settling takes nothing, gives no id, and only drops nodes
took-settling : (o : Option ℕ) (es : List Event) → list_all is_settling es ≡ true → fold (took_after 1) o es ≡ o
took-settling o [] h = refl
took-settling o (Tick a r ∷ es) h = absurd (false≢true h)
took-settling o (Drop id ∷ es) h = took-settling o es h
took-settling o (Dispatch act ∷ es) h = took-settling o es h
took-settling o (Take a id ∷ es) h = absurd (false≢true h)
took-settling o (Expand a id marks ∷ es) h = absurd (false≢true h)
took-settling o (Publish a id plan ∷ es) h = absurd (false≢true h)
took-settling o (Limit a id made marks ∷ es) h = absurd (false≢true h)
took-settling o (Exhaust ∷ es) h = took-settling o es h
took-settling o (Halt cause ∷ es) h = absurd (false≢true h)

-- what a smaller frontier keeps of another one
pub record IsLess (m n : Machine) : Type 0 where
  pub made : m.made ≡ n.made
  pub nodes : length m.nodes ≤ length n.nodes
  pub beside : (id : ℕ) → length (without id m.nodes) ≤ length (without id n.nodes)
  pub all : (test : Node → Bool) → list_all test n.nodes ≡ true → list_all test m.nodes ≡ true

keep-or-drop : (b : Bool) (n : Node) (ns rest : List Node) → length rest ≤ length ns → length (if not b then n ∷ rest else rest) ≤ suc (length ns)
keep-or-drop true n ns rest h = omega (arith, h)
keep-or-drop false n ns rest h = omega (arith, h)

no-more : (id : ℕ) (ns : List Node) → length (without id ns) ≤ length ns
no-more id [] = omega arith
no-more id (n ∷ ns) = keep-or-drop (n.id == id) n ns (without id ns) (no-more id ns)

beside-less : (id gone : ℕ) (ns : List Node) → length (without id (without gone ns)) ≤ length (without id ns)
beside-less id gone [] = omega arith
beside-less id gone (n ∷ ns) = by_tests (n.id == gone) (n.id == id) refl (beside-less id gone ns) where
  by_tests : (b c : Bool) → (n.id == id) ≡ c → length (without id (without gone ns)) ≤ length (without id ns) → length (without id (if not b then n ∷ without gone ns else without gone ns)) ≤ length (if not c then n ∷ without id ns else without id ns)
  by_tests true true e h = h
  by_tests true false e h = omega (arith, h)
  by_tests false true e h = subst (λ t. length (if not t then n ∷ without id (without gone ns) else without id (without gone ns)) ≤ length (without id ns)) (sym e) h
  by_tests false false e h = subst (λ t. length (if not t then n ∷ without id (without gone ns) else without id (without gone ns)) ≤ suc (length (without id ns))) (sym e) (omega (arith, h))

all-without : (test : Node → Bool) (gone : ℕ) (ns : List Node) → list_all test ns ≡ true → list_all test (without gone ns) ≡ true
all-without test gone [] h = refl
all-without test gone (n ∷ ns) h = by_test (n.id == gone) (and_parts _ _ h).0 (all-without test gone ns (and_parts _ _ h).1) where
  by_test : (b : Bool) → test n ≡ true → list_all test (without gone ns) ≡ true → list_all test (if not b then n ∷ without gone ns else without gone ns) ≡ true
  by_test true one rest = rest
  by_test false one rest = and_from _ _ one rest

less-same : (m : Machine) → IsLess m m
less-same m = record { made = refl; nodes = omega arith; beside = λ id. omega arith; all = λ test h. h }

less-on : (a b c : Machine) → IsLess a b → IsLess b c → IsLess a c
less-on a b c x y = record {
  made = x.made ∙ y.made;
  nodes = omega (arith, x.nodes, y.nodes);
  beside = λ id. omega (arith, x.beside id, y.beside id);
  all = λ test h. x.all test (y.all test h);
}

pub settles-less : (l : Limits) (m : Machine) (es : List Event) → list_all is_settling es ≡ true → IsLess (end_of l m es) m
settles-less l m [] h = less-same m
settles-less l m (Tick a r ∷ es) h = absurd (false≢true h)
settles-less l m (Drop id ∷ es) h = less-on (end_of l (step l m (Drop id)) es) (step l m (Drop id)) m (settles-less l (step l m (Drop id)) es h) (record {
  made = refl;
  nodes = no-more id m.nodes;
  beside = λ other. beside-less other id m.nodes;
  all = λ test. all-without test id m.nodes;
})
settles-less l m (Dispatch act ∷ es) h = less-on (end_of l (step l m (Dispatch act)) es) (step l m (Dispatch act)) m (settles-less l (step l m (Dispatch act)) es h) (record { made = refl; nodes = omega arith; beside = λ id. omega arith; all = λ test k. k })
settles-less l m (Take a id ∷ es) h = absurd (false≢true h)
settles-less l m (Expand a id marks ∷ es) h = absurd (false≢true h)
settles-less l m (Publish a id plan ∷ es) h = absurd (false≢true h)
settles-less l m (Limit a id made marks ∷ es) h = absurd (false≢true h)
settles-less l m (Exhaust ∷ es) h = less-on (end_of l (step l m Exhaust) es) (step l m Exhaust) m (settles-less l (step l m Exhaust) es h) (record { made = refl; nodes = omega arith; beside = λ id. omega arith; all = λ test k. k })
settles-less l m (Halt cause ∷ es) h = absurd (false≢true h)

pub or-mid : (a c : Bool) → ((a || true) || c) ≡ true
or-mid true c = refl
or-mid false c = refl

pub or-last : (a b : Bool) → ((a || b) || true) ≡ true
or-last true b = refl
or-last false true = refl
or-last false false = refl

pub any-mid : {A : Type 0} (test : A → Bool) (xs ys : List A) (x : A) → test x ≡ true → list_any test (xs ++ (x ∷ ys)) ≡ true
any-mid test [] ys x h = ap (λ b. b || list_any test ys) h
any-mid test (y ∷ xs) ys x h = ap (λ b. test y || b) (any-mid test xs ys x h) ∙ sym (or-certain (test y))

-- the events of a turn behind its Tick
abbrev pub events_of : List Event → Option Event → List Event → List Event
events_of before deed after = before ++ (event_list deed ++ after)

-- One turn of the worker: the states within it, and what it keeps.
module _ (l : Limits) (h new : List Event) (r : ℕ) (deed : Option Event) (t : IsTurn h new 1 r deed) where
  abbrev pub rest : List Event
  rest = events_of t.before deed t.after

  abbrev pub opening : Machine
  opening = step l (state_of l h) (Tick 1 r)

  abbrev pub settled : Machine
  settled = end_of l opening t.before

  abbrev pub acted : Machine
  acted = end_of l settled (event_list deed)

  pub end-is : end_of l (state_of l h) (Tick 1 r ∷ rest) ≡ state_of l new
  end-is = sym (ap (state_of l) t.grown ∙ end-append l first h (Tick 1 r ∷ rest))

  pub parts-are : state_of l new ≡ end_of l acted t.after
  parts-are = sym end-is ∙ end-append l opening t.before (event_list deed ++ t.after) ∙ end-append l settled (event_list deed) t.after

  pub less-before : IsLess settled opening
  less-before = settles-less l opening t.before t.first_settling

  pub less-after : IsLess (state_of l new) acted
  less-after = subst (λ m. IsLess m acted) (sym parts-are) (settles-less l acted t.after t.last_settling)

  pub rest-inside : list_all is_inside (event_list deed) ≡ true → list_all is_inside rest ≡ true
  rest-inside d = list_all-append is_inside t.before (event_list deed ++ t.after)
      ∙ and_from _ _ (all-inside t.before t.first_settling) (list_all-append is_inside (event_list deed) t.after ∙ and_from _ _ d (all-inside t.after t.last_settling))

  took-new : (o : Option ℕ) → fold (took_after 1) None (event_list deed) ≡ o → last_take 1 new ≡ o
  took-new o d = ap (last_take 1) t.grown ∙ fold-append (took_after 1) None h (Tick 1 r ∷ rest)
      ∙ fold-append (took_after 1) None t.before (event_list deed ++ t.after)
      ∙ ap (λ x. fold (took_after 1) x (event_list deed ++ t.after)) (took-settling None t.before t.first_settling)
      ∙ fold-append (took_after 1) None (event_list deed) t.after
      ∙ ap (λ x. fold (took_after 1) x t.after) d
      ∙ took-settling o t.after t.last_settling

  -- it is busy where it serves what its actor took before
  turn-busy : (took : Option ℕ) → IsWorked l h → list_all is_inside (event_list deed) ≡ true → last_take 1 h ≡ took
      → (elim took [
        | Some id ↦ serves_merge id (state_of l new) rest
        | None ↦ list_any is_open (state_of l h).nodes && serves_take (state_of l new) rest
      ]) ≡ true
      → IsWorked l new
  turn-busy took b d e served = subst (IsWorked l) (sym t.grown) (record {
    busy = record { busy = busy-append l 1 [] h rest 1 r ∙ and_from _ _ b.busy.busy (and_from _ _ turn (busy-inside l 1 (h ++ Tick 1 r ∷ []) rest (rest-inside d))) };
    own = list_all-append (is_turn_of 1) h (Tick 1 r ∷ rest) ∙ and_from _ _ b.own (own-inside 1 rest (rest-inside d));
  }) where
    at_end : is_busy_turn l 1 h 1 r rest ≡ true
    at_end = ap (λ o. elim o [
      | Some id ↦ serves_merge id (end_of l (state_of l h) (Tick 1 r ∷ rest)) rest
      | None ↦ list_any is_open (state_of l h).nodes && serves_take (end_of l (state_of l h) (Tick 1 r ∷ rest)) rest
    ]) e ∙ ap (λ m. elim took [
      | Some id ↦ serves_merge id m rest
      | None ↦ list_any is_open (state_of l h).nodes && serves_take m rest
    ]) end-is ∙ served

    turn : is_busy_turn l 1 h 1 r (turn_events rest) ≡ true
    turn = ap (is_busy_turn l 1 h 1 r) (turn-inside rest (rest-inside d)) ∙ at_end

  -- a turn that takes, and one that ends with an outcome, where nothing was taken
  pub busy-over : IsWorked l h → list_all is_inside (event_list deed) ≡ true → last_take 1 h ≡ None → list_any is_open (state_of l h).nodes ≡ true → has_outcome new ≡ true → IsWorked l new
  busy-over b d e some over = turn-busy None b d e (and_from _ _ some
      (ap (λ o. (list_any is_take rest || o) || not (list_any is_open (state_of l new).nodes)) (over-of l new ∙ over) ∙ or-mid (list_any is_take rest) (not (list_any is_open (state_of l new).nodes))))

  -- a turn that ends with an outcome, and one that ends without the node, where that was taken
  pub merge-over : (id : ℕ) → IsWorked l h → list_all is_inside (event_list deed) ≡ true → last_take 1 h ≡ Some id → has_outcome new ≡ true → IsWorked l new
  merge-over id b d e over = turn-busy (Some id) b d e
      (ap (λ o. (list_any (is_deed_on id) rest || o) || not (list_any (λ n. n.id == id) (state_of l new).nodes)) (over-of l new ∙ over) ∙ or-mid (list_any (is_deed_on id) rest) (not (list_any (λ n. n.id == id) (state_of l new).nodes)))

  pub merge-left : (id : ℕ) → IsWorked l h → list_all is_inside (event_list deed) ≡ true → last_take 1 h ≡ Some id → not (list_any (λ n. n.id == id) (state_of l new).nodes) ≡ true → IsWorked l new
  merge-left id b d e left = turn-busy (Some id) b d e
      (ap (λ o. (list_any (is_deed_on id) rest || (state_of l new).over) || o) left ∙ or-last (list_any (is_deed_on id) rest) (state_of l new).over)

pub same : (n : ℕ) → (n == n) ≡ true
same n = eq-eqb n n refl

pub taken : (l : Limits) (h new : List Event) (r id : ℕ) → IsRested l h → list_any is_open (state_of l h).nodes ≡ true → IsTurn h new 1 r (Some (Take 1 id)) → HasTaken l new id
taken l h new r id rested some t = record {
  busy = turn-busy l h new r (Some (Take 1 id)) t None rested.busy refl rested.free (and_from _ _ some served);
  took = took-new l h new r (Some (Take 1 id)) t (Some id) refl;
  rest_open = (less-after l h new r (Some (Take 1 id)) t).all (is_open_or id)
      (taken_open id (settled l h new r (Some (Take 1 id)) t).nodes ((less-before l h new r (Some (Take 1 id)) t).all is_open rested.all_open));
} where
  served : serves_take (state_of l new) (rest l h new r (Some (Take 1 id)) t) ≡ true
  served = ap (λ b. (b || (state_of l new).over) || not (list_any is_open (state_of l new).nodes)) (any-mid is_take t.before t.after (Take 1 id) refl)

pub expanded : (l : Limits) (h new : List Event) (r id : ℕ) (marks : List Mark) → HasTaken l h id → IsTurn h new 1 r (Some (Expand 1 id marks)) → IsRested l new
expanded l h new r id marks has t = record {
  busy = turn-busy l h new r deed t (Some id) has.busy refl has.took served;
  free = took-new l h new r deed t None refl;
  all_open = (less-after l h new r deed t).all is_open
      (list_all-append is_open (without id before.nodes) _ ∙ and_from _ _ (left_open id before.nodes ((less-before l h new r deed t).all (is_open_or id) has.rest_open)) (children_open _ _ marks));
} where
  deed : Option Event
  deed = Some (Expand 1 id marks)

  before : Machine
  before = settled l h new r (Some (Expand 1 id marks)) t

  served : serves_merge id (state_of l new) (rest l h new r (Some (Expand 1 id marks)) t) ≡ true
  served = ap (λ b. (b || (state_of l new).over) || not (list_any (λ n. n.id == id) (state_of l new).nodes)) (any-mid (is_deed_on id) t.before t.after (Expand 1 id marks) (same id))

-- none has this id, so all are open
none_held : (id : ℕ) (ns : List Node) → list_all (is_open_or id) ns ≡ true → list_any (λ n. n.id == id) ns ≡ false → list_all is_open ns ≡ true
none_held id [] h e = refl
none_held id (n ∷ ns) h e = and_from _ _ (or-false (is_open n) (n.id == id) (or-first (n.id == id) _ e) (and_parts _ _ h).0) (none_held id ns (and_parts _ _ h).1 (or-second (n.id == id) _ e)) where
  or-first : (a b : Bool) → (a || b) ≡ false → a ≡ false
  or-first true b k = k
  or-first false b k = refl

  or-second : (a b : Bool) → (a || b) ≡ false → b ≡ false
  or-second true b k = absurd (false≢true (sym k))
  or-second false b k = k

pub stale : (l : Limits) (h new : List Event) (r id : ℕ) → HasTaken l h id → IsTurn h new 1 r None → list_any (λ n. n.id == id) (state_of l new).nodes ≡ false → IsRested l new
stale l h new r id has t left = record {
  busy = merge-left l h new r None t id has.busy refl has.took (ap not left);
  free = took-new l h new r None t None refl;
  all_open = none_held id (state_of l new).nodes ((less-after l h new r None t).all (is_open_or id) ((less-before l h new r None t).all (is_open_or id) has.rest_open)) left;
}
