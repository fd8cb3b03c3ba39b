-- A search by one worker: each step keeps the history busy, and comes to an end.
use Rattle.std.proofs.Common.{◌≡◌, refl, sym, ap, subst, ◌∙◌, ℕ, suc, ◌+◌, ◌-◌, ◌^◌, ◌<◌, ◌≤◌, inl, inr, ◌⊎◌, ◌==◌, max, Bool, true, false, not, ◌||◌, cond, List, [], ◌∷◌, ◌++◌, length, map, Option, Some, None, if◌then◌else◌, arith, append_assoc, nat_le, Result, Ok, Err, IfOk, OnErr}
use Rattle.std.specs.List.{list_all, list_any, filter}
use Rattle.std.proofs.lemmas.Bool.{and_parts, and_from, false≢true, eq-eqb, ltb-true, leb-true, le-leb}
use Rattle.std.proofs.lemmas.List.{length-map, length-append}
use Rattle.std.proofs.lemmas.List.Folds.{list_all-append, list_any-append}
use Rattle.tp_spec.specs.declared.event.Cause.{Cause}
use Rattle.tp_spec.specs.declared.event.Cause.TheVariants.{Memory, Out}
use Rattle.tp_spec.specs.declared.event.Event.{Event}
use Rattle.tp_spec.specs.declared.event.Event.TheVariants.{Tick, Drop, Dispatch, Take, Expand, Publish, Limit, Exhaust, Halt}
use Rattle.tp_spec.specs.declared.plan.Limits.{Limits}
use Rattle.tp_spec.specs.declared.plan.Mark.{Mark}
use Rattle.tp_spec.specs.declared.plan.Timed.{Timed}
use Rattle.tp_spec.specs.declared.problem.Problem.{Problem}
use Rattle.tp_spec.specs.Lists.{IsIn}
use Rattle.tp_spec.specs.Machine.{Machine, Node, first, step, state_of, is_open, taken_by, without, children, word_of, AreLegal, TakeIsLegal, IsWholeRun, IsRun}
use Rattle.tp_laws.specs.Clocks.{IsDeadline}
use Rattle.run_laws.specs.Histories.{IsTree, RunsLeadToTrees, is_below}
use Rattle.tp_laws.proofs.EarlyLists.{each-in, each-true}
use Rattle.machine_run.specs.Turns.{IsTurn, event_list, has_outcome, is_outcome}
use Rattle.machine_run.proofs.Outcomes.{over-of}
use Rattle.open_tree.specs.Answers.{GivesJob, GivesNothing, GivesTaken, GivesMerged, FindsOutcome, IsExpanded, IsStale, EndsSearch, IsDeedOn}
use Rattle.open_tree.specs.declared.job.Merged.{Merged}
use Rattle.open_tree.specs.declared.job.Merged.TheVariants as merged
use Rattle.open_tree.specs.declared.job.Taken.{Taken}
use Rattle.open_tree.specs.declared.job.Taken.TheVariants as taken
use Rattle.open_tree.specs.Charter.{SameCharter}
use Rattle.open_tree.specs.Views.{JobView, TreeView}
use Rattle.tp_laws.proofs.Members.{in-filter}
use Rattle.run_laws.proofs.Runs.{legal-parts, taken-id}
use Rattle.serial_runs.specs.OneWorker.{IsBounded, IsSearching, IsHolding, IsGoing, GoesOn, TakesOn, HasJob, HasSearched, IsWorked, left_of, left_beside}
use Rattle.tp_world.specs.declared.sink.SendFault.{SendFault}
use Rattle.tp_world.specs.declared.sink.SendFault.TheVariants.{Failed, NoMemory}
use Rattle.serial_runs.specs.Playing.{is_inside}
use Rattle.serial_runs.specs.Stopping.{HaltsBy, cause_by}
use Rattle.word_network.specs.Conditions.{AreCommits, AreLimits}
use Rattle.serial_runs.specs.Endings.{HasResult, IsHaltedBy, Ends, is_result}
use Rattle.search_workers.specs.Sprouting.{CanSprout}
use Rattle.serial_runs.proofs.OneWorker as worker
use Rattle.serial_runs.proofs.Puts.{Turned, HasTurn, turned}
use Rattle.serial_runs.proofs.OneWorker.{expanded, stale, busy-over, merge-over, IsLess, less-before, less-after, rest-inside, settled, rest, same}

pub searching-first : (p : Problem) (l : Limits) → IsBounded p l → IsWholeRun p l [] → IsSearching p l []
searching-first p l bounded whole = record { bounded = bounded; rested = record { busy = record { busy = record { busy = refl }; own = refl }; free = refl; all_open = refl }; whole = whole; standing = refl }

in-any : {A : Type 0} (test : A → Bool) (x : A) (xs : List A) → IsIn x xs → test x ≡ true → list_any test xs ≡ true
in-any test x [] h e = absurd h
in-any test x (y ∷ ys) (inl same) e = ap (λ b. b || list_any test ys) (ap test same ∙ e)
in-any test x (y ∷ ys) (inr h) e = ap (λ b. test y || b) (in-any test x ys h e) ∙ or-true (test y) where
  or-true : (b : Bool) → (b || true) ≡ true
  or-true true = refl
  or-true false = refl

in-all : {A : Type 0} (test : A → Bool) (x : A) (xs : List A) → IsIn x xs → list_all test xs ≡ true → test x ≡ true
in-all test x [] h e = absurd h
in-all test x (y ∷ ys) (inl same) e = ap test (sym same) ∙ (and_parts _ _ e).0
in-all test x (y ∷ ys) (inr h) e = in-all test x ys h (and_parts _ _ e).1

-- while the search goes on some node stands, and it is open where none is taken
some-open : (p : Problem) (l : Limits) (h : List Event) → IsSearching p l h → (n : Node) × IsIn n (state_of l h).nodes × (is_open n ≡ true)
some-open p l h s = elim s.whole.settled [
  | inl over ↦ absurd (false≢true (sym s.standing ∙ sym (over-of l h) ∙ over))
  | inr quiet ↦ (quiet.node, quiet.best.there, in-all is_open quiet.node (state_of l h).nodes quiet.best.there s.rested.all_open)
]

open-any : (p : Problem) (l : Limits) (h : List Event) → IsSearching p l h → list_any is_open (state_of l h).nodes ≡ true
open-any p l h s = let o = some-open p l h s in in-any is_open o.0 (state_of l h).nodes o.1 o.2

-- a take always finds a node
cons-nil : {A : Type 0} (x : A) (ys : List A) → x ∷ ys ≡ [] → ⊥
cons-nil x ys e = omega (arith, ap length e)

pub any-filter : {A : Type 0} (test : A → Bool) (xs : List A) → filter test xs ≡ [] → list_any test xs ≡ false
any-filter test [] e = refl
any-filter test (x ∷ xs) e = by_test (any-filter test xs) (test x) refl e where
  by_test : (filter test xs ≡ [] → list_any test xs ≡ false) → (b : Bool) → test x ≡ b → cond b (x ∷ filter test xs) (filter test xs) ≡ [] → (test x || list_any test xs) ≡ false
  by_test ih true t e = absurd (cons-nil x (filter test xs) e)
  by_test ih false t e = ap (λ b. b || list_any test xs) t ∙ ih e

-- a turn without a deed leaves nothing taken, so that the best node is open
pub not-nothing : (p : Problem) (l : Limits) (h new : List Event) (r : ℕ) → IsSearching p l h → IsWholeRun p l new → GivesNothing l h new 1 r → ⊥
not-nothing p l h new r s whole g = elim whole.settled [
  | inl over ↦ false≢true (sym g.standing ∙ sym (over-of l new) ∙ over)
  | inr quiet ↦ false≢true (sym (any-filter is_open (state_of l new).nodes g.none_open)
      ∙ in-any is_open quiet.node (state_of l new).nodes quiet.best.there (in-all is_open quiet.node (state_of l new).nodes quiet.best.there all_open))
] where
  all_open : list_all is_open (state_of l new).nodes ≡ true
  all_open = (less-after l h new r None g.turn).all is_open ((less-before l h new r None g.turn).all is_open s.rested.all_open)

or-keeps : (a b c d : Bool) → (a ≡ true → b ≡ true) → (c ≡ true → d ≡ true) → (a || c) ≡ true → (b || d) ≡ true
or-keeps true b c d f g e = ap (λ x. x || d) (f refl)
or-keeps false true c d f g e = refl
or-keeps false false c d f g e = g e

any-map : (id : ℕ) (ns : List Node) → list_any (λ n. n.id == id) ns ≡ true → list_any (λ n. n.id == id) (map (taken_by 1 id) ns) ≡ true
any-map id [] e = e
any-map id (n ∷ ns) e = or-keeps (n.id == id) ((taken_by 1 id n).id == id) (list_any (λ k. k.id == id) ns) (list_any (λ k. k.id == id) (map (taken_by 1 id) ns)) (λ t. ap (λ k. k == id) (taken-id 1 id n) ∙ t) (any-map id ns) e

-- the node of a legal Take is there, also after it
taken-there : (p : Problem) (l : Limits) (h new : List Event) (r id : ℕ) (t : IsTurn h new 1 r (Some (Take 1 id))) → IsRun p l new
    → list_any (λ n. n.id == id) (map (taken_by 1 id) (settled l h new r (Some (Take 1 id)) t).nodes) ≡ true
taken-there p l h new r id t run = any-map id before.nodes (in-any (λ n. n.id == id) take.node before.nodes (in-filter is_open take.node before.nodes take.least.there) (eq-eqb take.node.id id take.named)) where
  before : Machine
  before = settled l h new r (Some (Take 1 id)) t

  legal : AreLegal p l (state_of l h) (Tick 1 r ∷ (t.before ++ (Take 1 id ∷ t.after)))
  legal = (legal-parts p l first h (Tick 1 r ∷ (t.before ++ (Take 1 id ∷ t.after))) (subst (AreLegal p l first) t.grown run.legal)).1

  take : TakeIsLegal p l before 1 id
  take = (legal-parts p l (step l (state_of l h) (Tick 1 r)) t.before (Take 1 id ∷ t.after) legal.1).1.0

keep-or-drop : (b : Bool) (n : Node) (ns rest : List Node) → length rest ≤ length ns → length (if not b then n ∷ rest else rest) ≤ suc (length ns)
keep-or-drop true n ns rest h = omega (arith, h)
keep-or-drop false n ns rest h = omega (arith, h)

no-more : (id : ℕ) (ns : List Node) → length (without id ns) ≤ length ns
no-more id [] = omega arith
no-more id (n ∷ ns) = keep-or-drop (n.id == id) n ns (without id ns) (no-more id ns)

-- a node of this id leaves
fewer : (id : ℕ) (ns : List Node) → list_any (λ n. n.id == id) ns ≡ true → length (without id ns) < length ns
fewer id [] e = absurd (false≢true e)
fewer id (n ∷ ns) e = by_test (n.id == id) e (no-more id ns) (fewer id ns) where
  by_test : (b : Bool) → (b || list_any (λ k. k.id == id) ns) ≡ true → length (without id ns) ≤ length ns → (list_any (λ k. k.id == id) ns ≡ true → length (without id ns) < length ns) → length (if not b then n ∷ without id ns else without id ns) < suc (length ns)
  by_test true t some ih = omega (arith, some)
  by_test false t some ih = let less : length (without id ns) < length ns = ih t in omega (arith, less)

children-length : (w : List Mark) (made : ℕ) (marks : List Mark) → length (children w made marks) ≡ length marks
children-length w made [] = refl
children-length w made (a ∷ marks) = ap suc (children-length w (suc made) marks)

less-left : (top made n n' k many : ℕ) → made + k ≤ suc top → n' < n → many ≤ n' + k → (suc top + many) - (made + k) < (suc top + n) - made
less-left top made n n' k many few h m = omega (arith, few, h, m)

-- a Take leaves as much as there was, its node counted beside the others
pub left-taken : (p : Problem) (l : Limits) (h new : List Event) (r id : ℕ) → IsRun p l new → IsTurn h new 1 r (Some (Take 1 id)) → left_beside id l (state_of l new) ≤ left_of l (state_of l h)
left-taken p l h new r id run t =
    let made : (state_of l new).made ≡ (state_of l h).made = after.made ∙ before.made in
    let one : length (without id acted) < length acted = fewer id acted (taken-there p l h new r id t run) in
    let some : suc (length (without id (state_of l new).nodes)) ≤ length (state_of l h).nodes = omega (arith, one, after.beside id, length-map held.nodes (taken_by 1 id), before.nodes) in
    omega (arith, made, some)
  where
    held : Machine
    held = settled l h new r (Some (Take 1 id)) t

    acted : List Node
    acted = map (taken_by 1 id) (settled l h new r (Some (Take 1 id)) t).nodes

    before : IsLess (settled l h new r (Some (Take 1 id)) t) (step l (state_of l h) (Tick 1 r))
    before = less-before l h new r (Some (Take 1 id)) t

    after : IsLess (state_of l new) (step l (settled l h new r (Some (Take 1 id)) t) (Take 1 id))
    after = less-after l h new r (Some (Take 1 id)) t

pub job-held : (p : Problem) (l : Limits) (h new : List Event) (actor r : ℕ) (job : JobView) → GivesJob p l h new actor r job → HasJob p l new actor job
job-held p l h new actor r job g = record { job = g.job; problem = g.problem; limits = g.limits; live = g.live; timely = g.timely }

pub holding : (p : Problem) (l : Limits) (h new : List Event) (r : ℕ) (job : JobView) → IsSearching p l h → IsWholeRun p l new → GivesJob p l h new 1 r job → IsHolding p l new job
holding p l h new r job s whole g = record {
  bounded = s.bounded;
  taken = worker.taken l h new r job.id s.rested (open-any p l h s) g.turn;
  whole = whole;
  standing = g.standing;
  held = job-held p l h new 1 r job g;
}

few-made : (p : Problem) (l : Limits) (new : List Event) → RunsLeadToTrees p l → IsRun p l new → (state_of l new).made ≤ suc (max 1 l.nodes)
few-made p l new trees run = let b : (state_of l new).made ≤ max 1 l.nodes = (trees new run).few in omega (arith, b)

pub goes-on : (p : Problem) (l : Limits) → RunsLeadToTrees p l → (h new : List Event) (r : ℕ) (job : JobView) → IsHolding p l h job → IsWholeRun p l new → IsExpanded h new 1 r job.id → GoesOn p l job.id h new
goes-on p l trees h new r job k whole g = record {
  searching = record { bounded = k.bounded; rested = expanded l h new r job.id g.marks k.taken g.turn; whole = whole; standing = g.standing };
  less =
      let made : (state_of l new).made ≡ (state_of l h).made + length g.marks = after.made ∙ ap (λ n. n + length g.marks) before.made in
      let long : length (without job.id held.nodes ++ children (word_of job.id held.nodes) held.made g.marks) ≡ length (without job.id held.nodes) + length g.marks =
      length-append (without job.id held.nodes) (children (word_of job.id held.nodes) held.made g.marks) ∙ ap (λ n. length (without job.id held.nodes) + n) (children-length (word_of job.id held.nodes) held.made g.marks) in
      let many : length (state_of l new).nodes ≤ length (without job.id (state_of l h).nodes) + length g.marks = omega (arith, after.nodes, long, before.beside job.id) in
      let few : (state_of l h).made + length g.marks ≤ suc (max 1 l.nodes) = omega (arith, made, few-made p l new trees whole.run) in
      subst (λ m. (suc (max 1 l.nodes) + length (state_of l new).nodes) - m < left_beside job.id l (state_of l h)) (sym made)
      (less-left (max 1 l.nodes) (state_of l h).made (suc (length (without job.id (state_of l h).nodes))) (length (without job.id (state_of l h).nodes)) (length g.marks) (length (state_of l new).nodes) few (omega arith) many);
} where
  deed : Option Event
  deed = Some (Expand 1 job.id g.marks)

  held : Machine
  held = settled l h new r (Some (Expand 1 job.id g.marks)) g.turn

  before : IsLess (settled l h new r (Some (Expand 1 job.id g.marks)) g.turn) (step l (state_of l h) (Tick 1 r))
  before = less-before l h new r (Some (Expand 1 job.id g.marks)) g.turn

  after : IsLess (state_of l new) (step l (settled l h new r (Some (Expand 1 job.id g.marks)) g.turn) (Expand 1 job.id g.marks))
  after = less-after l h new r (Some (Expand 1 job.id g.marks)) g.turn

-- none of them has this id
without-none : (id : ℕ) (ns : List Node) → list_any (λ n. n.id == id) ns ≡ false → length (without id ns) ≡ length ns
without-none id [] e = refl
without-none id (n ∷ ns) e = by_test (n.id == id) e (without-none id ns) where
  by_test : (b : Bool) → (b || list_any (λ k. k.id == id) ns) ≡ false → (list_any (λ k. k.id == id) ns ≡ false → length (without id ns) ≡ length ns) → length (if not b then n ∷ without id ns else without id ns) ≡ suc (length ns)
  by_test true t ih = absurd (false≢true (sym t))
  by_test false t ih = ap suc (ih t)

not-true : (b : Bool) → not b ≡ true → b ≡ false
not-true true e = sym e
not-true false e = refl

pub goes-stale : (p : Problem) (l : Limits) → RunsLeadToTrees p l → (h new : List Event) (r : ℕ) (job : JobView) → IsHolding p l h job → IsWholeRun p l new → IsStale l h new 1 r job.id → GoesOn p l job.id h new
goes-stale p l trees h new r job k whole g = record {
  searching = record { bounded = k.bounded; rested = stale l h new r job.id k.taken g.turn gone; whole = whole; standing = g.standing };
  less =
      let made : (state_of l new).made ≡ (state_of l h).made + 0 = after.made ∙ before.made ∙ omega arith in
      let many : length (state_of l new).nodes ≤ length (without job.id (state_of l h).nodes) + 0 = omega (arith, without-none job.id (state_of l new).nodes gone, after.beside job.id, before.beside job.id) in
      let few : (state_of l h).made + 0 ≤ suc (max 1 l.nodes) = omega (arith, made, few-made p l new trees whole.run) in
      subst (λ m. (suc (max 1 l.nodes) + length (state_of l new).nodes) - m < left_beside job.id l (state_of l h)) (sym made)
      (less-left (max 1 l.nodes) (state_of l h).made (suc (length (without job.id (state_of l h).nodes))) (length (without job.id (state_of l h).nodes)) 0 (length (state_of l new).nodes) few (omega arith) many);
} where
  gone : list_any (λ n. n.id == job.id) (state_of l new).nodes ≡ false
  gone = not-true _ g.left

  before : IsLess (settled l h new r None g.turn) (step l (state_of l h) (Tick 1 r))
  before = less-before l h new r None g.turn

  after : IsLess (state_of l new) (settled l h new r None g.turn)
  after = less-after l h new r None g.turn

-- a halt is no result

abbrev ends_well : List Event → Bool
ends_well [] = false
ends_well (e ∷ []) = is_result e
ends_well (e ∷ f ∷ es) = ends_well (f ∷ es)

ends-last : (es : List Event) (e : Event) → ends_well (es ++ e ∷ []) ≡ is_result e
ends-last [] e = refl
ends-last (f ∷ []) e = refl
ends-last (f ∷ g ∷ es) e = ends-last (g ∷ es) e

pub no-result : (h new : List Event) (cause : Cause) → new ≡ h ++ Halt cause ∷ [] → HasResult new → ⊥
no-result h new cause e r = false≢true (sym (ends-last h (Halt cause)) ∙ ap ends_well (sym e ∙ r.is) ∙ ends-last r.front r.last ∙ r.result)

pub halt-over : (h new : List Event) (cause : Cause) → new ≡ h ++ Halt cause ∷ [] → has_outcome new ≡ true
halt-over h new cause e = ap has_outcome e ∙ list_any-append is_outcome h (Halt cause ∷ []) ∙ or-true (has_outcome h) where
  or-true : (b : Bool) → (b || true) ≡ true
  or-true true = refl
  or-true false = refl

pub halted : (l : Limits) (h new : List Event) → new ≡ h ++ Halt Memory ∷ [] → HasSearched l new (Ok tt)
halted l h new e = record {
  outcome = halt-over h new Memory e;
  ends = inr (record { front = h; is = e });
  busy = λ r. absurd (no-result h new Memory e r);
}

-- the run ends with a result, and was busy
abbrev pub IsFound : Limits → List Event → Type 0
IsFound l h = HasResult h × IsWorked l h

pub found-searched : (l : Limits) (h : List Event) (answer : Result Unit SendFault) → IsFound l h → has_outcome h ≡ true → HasSearched l h answer
found-searched l h (Ok done) f o = record { outcome = o; ends = inl f.0; busy = λ r. f.1 }
found-searched l h (Err Failed) f o = record { outcome = o; ends = inl f.0; busy = λ r. f.1 }
found-searched l h (Err NoMemory) f o = record { outcome = o; ends = inl f.0; busy = λ r. f.1 }

-- a command could not be sent
pub sent-fault : (l : Limits) (h new : List Event) (fault : SendFault) → HaltsBy (cause_by fault) h new → (has_outcome h ≡ true → IsFound l h) → HasSearched l new (Err fault)
sent-fault l h new fault stop found = by_outcome (has_outcome h) refl where
  ended : (f : SendFault) → new ≡ h ++ Halt (cause_by f) ∷ [] → Ends new (Err f)
  ended Failed e = inr (record { front = h; is = e })
  ended NoMemory e = inr (record { front = h; is = e })

  by_outcome : (b : Bool) → has_outcome h ≡ b → HasSearched l new (Err fault)
  by_outcome true o = subst (λ z. HasSearched l z (Err fault)) (sym (stop.over o)) (found-searched l h (Err fault) (found o) o)
  by_outcome false o = record {
    outcome = halt-over h new (cause_by fault) (stop.halted o);
    ends = ended fault (stop.halted o);
    busy = λ r. absurd (no-result h new (cause_by fault) (stop.halted o) r);
  }

-- Nothing is legal behind an outcome, so that it is the last event.
abbrev EndsIn : List Event → Type 0
EndsIn es = (front : List Event) × (last : Event) × (es ≡ front ++ last ∷ []) × (is_outcome last ≡ true)

none-behind : (p : Problem) (l : Limits) (m : Machine) (es : List Event) → m.over ≡ true → AreLegal p l m es → es ≡ []
none-behind p l m [] o legal = refl
none-behind p l m (Tick a r ∷ es) o legal = absurd (false≢true (sym legal.0.standing ∙ o))
none-behind p l m (Drop id ∷ es) o legal = absurd (false≢true (sym legal.0.in_turn.standing ∙ o))
none-behind p l m (Dispatch act ∷ es) o legal = absurd (false≢true (sym legal.0.in_turn.standing ∙ o))
none-behind p l m (Take a id ∷ es) o legal = absurd (false≢true (sym legal.0.may.between.standing ∙ o))
none-behind p l m (Expand a id marks ∷ es) o legal = absurd (false≢true (sym legal.0.may.between.standing ∙ o))
none-behind p l m (Publish a id plan ∷ es) o legal = absurd (false≢true (sym legal.0.may.between.standing ∙ o))
none-behind p l m (Limit a id made marks ∷ es) o legal = absurd (false≢true (sym legal.0.may.between.standing ∙ o))
none-behind p l m (Exhaust ∷ es) o legal = absurd (false≢true (sym legal.0.in_turn.standing ∙ o))
none-behind p l m (Halt cause ∷ es) o legal = absurd (false≢true (sym legal.0.standing ∙ o))

alone : (e : Event) (es : List Event) → es ≡ [] → is_outcome e ≡ true → EndsIn (e ∷ es)
alone e es none o = ([], e, ap (λ x. e ∷ x) none, o)

behind : (e : Event) (es : List Event) → EndsIn es → EndsIn (e ∷ es)
behind e es ends = (e ∷ ends.0, ends.1, ap (λ x. e ∷ x) ends.2, ends.3)

ends-in : (p : Problem) (l : Limits) (m : Machine) (es : List Event) → AreLegal p l m es → list_any is_outcome es ≡ true → EndsIn es
ends-in p l m [] legal o = absurd (false≢true o)
ends-in p l m (Tick a r ∷ es) legal o = behind (Tick a r) es (ends-in p l (step l m (Tick a r)) es legal.1 o)
ends-in p l m (Drop id ∷ es) legal o = behind (Drop id) es (ends-in p l (step l m (Drop id)) es legal.1 o)
ends-in p l m (Dispatch act ∷ es) legal o = behind (Dispatch act) es (ends-in p l (step l m (Dispatch act)) es legal.1 o)
ends-in p l m (Take a id ∷ es) legal o = behind (Take a id) es (ends-in p l (step l m (Take a id)) es legal.1 o)
ends-in p l m (Expand a id marks ∷ es) legal o = behind (Expand a id marks) es (ends-in p l (step l m (Expand a id marks)) es legal.1 o)
ends-in p l m (Publish a id plan ∷ es) legal o = alone (Publish a id plan) es (none-behind p l (step l m (Publish a id plan)) es refl legal.1) refl
ends-in p l m (Limit a id made marks ∷ es) legal o = alone (Limit a id made marks) es (none-behind p l (step l m (Limit a id made marks)) es refl legal.1) refl
ends-in p l m (Exhaust ∷ es) legal o = alone Exhaust es (none-behind p l (step l m Exhaust) es refl legal.1) refl
ends-in p l m (Halt cause ∷ es) legal o = alone (Halt cause) es (none-behind p l (step l m (Halt cause)) es refl legal.1) refl

-- within a turn an outcome is a result
inside-result : (e : Event) → is_inside e ≡ true → is_outcome e ≡ true → is_result e ≡ true
inside-result (Tick a r) i o = absurd (false≢true o)
inside-result (Drop id) i o = absurd (false≢true o)
inside-result (Dispatch act) i o = absurd (false≢true o)
inside-result (Take a id) i o = absurd (false≢true o)
inside-result (Expand a id marks) i o = absurd (false≢true o)
inside-result (Publish a id plan) i o = refl
inside-result (Limit a id made marks) i o = refl
inside-result Exhaust i o = refl
inside-result (Halt cause) i o = absurd (false≢true i)

last-passes : (test : Event → Bool) (front : List Event) (last : Event) → list_all test (front ++ last ∷ []) ≡ true → test last ≡ true
last-passes test front last h = (and_parts _ _ (and_parts _ _ (sym (list_all-append test front (last ∷ [])) ∙ h)).1).0

-- a turn that ends with an outcome ends with a result
pub turn-result : (p : Problem) (l : Limits) (h new : List Event) (t : HasTurn h new) → has_outcome h ≡ false → has_outcome new ≡ true → IsRun p l new → HasResult new
turn-result p l h new t none over run = record {
  front = h ++ Tick t.actor t.reading ∷ ends.0;
  last = ends.1;
  is = t.grown ∙ ap (λ x. h ++ Tick t.actor t.reading ∷ x) ends.2 ∙ sym (append_assoc h (Tick t.actor t.reading ∷ ends.0) (ends.1 ∷ []));
  result = inside-result ends.1 (last-passes is_inside ends.0 ends.1 (subst (λ x. list_all is_inside x ≡ true) ends.2 t.inside)) ends.3;
} where
  legal : AreLegal p l (state_of l h) (Tick t.actor t.reading ∷ t.events)
  legal = (legal-parts p l first h (Tick t.actor t.reading ∷ t.events) (subst (AreLegal p l first) t.grown run.legal)).1

  outcome : list_any is_outcome t.events ≡ true
  outcome = sym (ap (λ b. b || has_outcome t.events) none) ∙ sym (list_any-append is_outcome h (Tick t.actor t.reading ∷ t.events)) ∙ ap has_outcome (sym t.grown) ∙ over

  ends : EndsIn t.events
  ends = ends-in p l (step l (state_of l h) (Tick t.actor t.reading)) t.events legal.1 outcome

-- an outcome came as the turn of a take settled
pub found : (p : Problem) (l : Limits) (h new : List Event) (r : ℕ) → IsSearching p l h → IsWholeRun p l new → FindsOutcome h new 1 r → IsFound l new
found p l h new r s whole g = (turn-result p l h new (turned h new 1 r None refl g.turn) s.standing g.outcome whole.run, busy-over l h new r None g.turn s.rested.busy refl s.rested.free (open-any p l h s) g.outcome)

-- a deed on a node stands within a turn
pub deed-inside : (actor id : ℕ) (deed : Option Event) → (deed ≡ None) ⊎ ((e : Event) × (deed ≡ Some e) × IsDeedOn actor id e) → list_all is_inside (event_list deed) ≡ true
deed-inside actor id deed (inl e) = ap (λ d. list_all is_inside (event_list d)) e
deed-inside actor id deed (inr (e, some, inl (marks, is))) = ap (λ d. list_all is_inside (event_list d)) (some ∙ ap Some is)
deed-inside actor id deed (inr (e, some, inr (inl (plan, is)))) = ap (λ d. list_all is_inside (event_list d)) (some ∙ ap Some is)
deed-inside actor id deed (inr (e, some, inr (inr (made, marks, is)))) = ap (λ d. list_all is_inside (event_list d)) (some ∙ ap Some is)

-- an outcome stands behind a merge
pub ended : (p : Problem) (l : Limits) (h new : List Event) (r : ℕ) (job : JobView) → IsHolding p l h job → IsWholeRun p l new → EndsSearch h new 1 r job.id → IsFound l new
ended p l h new r job k whole g = (turn-result p l h new (turned h new 1 r g.deed inside g.turn) k.standing g.outcome whole.run, merge-over l h new r g.deed g.turn job.id k.taken.busy inside k.taken.took g.outcome) where
  inside : list_all is_inside (event_list g.deed) ≡ true
  inside = deed-inside 1 job.id g.deed g.on

early-commits : (horizon : ℕ) (commits : List Timed) → horizon ≤ 2 ^ 40 → list_all (λ c. nat_le (c.start + c.length) horizon) commits ≡ true → list_all (λ c. nat_le c.start (2 ^ 40)) commits ≡ true
early-commits horizon [] top h = refl
early-commits horizon (c ∷ commits) top h =
    let first : c.start + c.length ≤ horizon = leb-true (c.start + c.length) horizon (and_parts _ _ h).0 in
    and_from _ _ (le-leb c.start (2 ^ 40) (omega (arith, first, top))) (early-commits horizon commits top (and_parts _ _ h).1)

-- A job of a run may be sprouted: the commitments are in turn, its word is no longer than its id,
-- and the clock stops one tick past the horizon.
pub can-sprout : (p : Problem) (l : Limits) (h : List Event) (actor : ℕ) (job : JobView) → RunsLeadToTrees p l → IsBounded p l → IsWholeRun p l h → HasJob p l h actor job → CanSprout p job
can-sprout p l h actor job trees bounded whole k = record {
  formed = bounded.formed;
  problem = k.problem;
  limited = subst AreLimits (sym k.limits) bounded.limited;
  commits = subst (AreCommits p) (sym k.job.commits) (record {
    in_turn = tree.committed.in_turn;
    early = early-commits l.horizon (state_of l front).commits bounded.limited.horizon tree.committed.within;
    ranged = tree.committed.ranged;
  });
  clock = subst (λ x. job.clock ≤ x.horizon + 1) (sym k.limits) (subst (λ n. n ≤ l.horizon + 1) (sym k.job.clock) tree.clocked);
  sound = k.live.sound;
  timely = subst (λ x. IsDeadline p x job.commits job.node.word job.node.deadline) (sym k.limits) k.timely;
  short = subst (λ w. length w + 1 < 2 ^ 31) (sym k.job.word) (omega (arith, few, given, short, few_nodes));
} where
  front : List Event
  front = k.job.front ++ Take actor job.id ∷ []

  run : IsRun p l (k.job.front ++ Take actor job.id ∷ [])
  run = record { legal = (legal-parts p l first (k.job.front ++ Take actor job.id ∷ []) k.job.rest (subst (AreLegal p l first) k.job.split whole.run.legal)).0 }

  tree : IsTree p l (state_of l (k.job.front ++ Take actor job.id ∷ []))
  tree = trees (k.job.front ++ Take actor job.id ∷ []) run

  few : (state_of l (k.job.front ++ Take actor job.id ∷ [])).made ≤ max 1 l.nodes
  few = tree.few

  given : k.job.node.id < (state_of l (k.job.front ++ Take actor job.id ∷ [])).made
  given = ltb-true k.job.node.id (state_of l (k.job.front ++ Take actor job.id ∷ [])).made (each-in (λ n. is_below (state_of l (k.job.front ++ Take actor job.id ∷ [])).made n ≡ true) (state_of l (k.job.front ++ Take actor job.id ∷ [])).nodes k.job.node (each-true (is_below (state_of l (k.job.front ++ Take actor job.id ∷ [])).made) (state_of l (k.job.front ++ Take actor job.id ∷ [])).nodes tree.below) k.job.taken.there)

  short : length k.job.node.word ≤ k.job.node.id
  short = tree.short k.job.node k.job.taken.there

  few_nodes : l.nodes ≤ 200000
  few_nodes = bounded.limited.nodes

-- the tree of a search

pub charter-on : {C : Type 0} {a b c : TreeView C} → SameCharter a b → SameCharter b c → SameCharter a c
charter-on x y = record { problem = x.problem ∙ y.problem; limits = x.limits ∙ y.limits; opened = x.opened ∙ y.opened }

-- a turn of a tree, told by its problem and its limits as they are before and behind it
module _ {C : Type 0} (p : Problem) (old mid : TreeView C) (same : SameCharter old mid) (is : old.problem ≡ p) (whole : IsWholeRun mid.problem mid.limits mid.history) where
  pub whole-next : IsWholeRun p old.limits mid.history
  whole-next = subst (λ q. IsWholeRun q old.limits mid.history) (sym same.problem ∙ is) (subst (λ l. IsWholeRun mid.problem l mid.history) (sym same.limits) whole)

-- what a take gives, in a search
module _ (p : Problem) (l : Limits) (h new : List Event) (r : ℕ) (s : IsSearching p l h) (whole : IsWholeRun p l new) where
  pub takes-on : (job : JobView) → GivesJob p l h new 1 r job → TakesOn p l h new job
  takes-on job g = record { holding = holding p l h new r job s whole g; less = left-taken p l h new r job.id whole.run g.turn }

  -- where an outcome stands behind a turn that had its memory, it is a result
  pub take-found : {E : Type 0} (t : Result Taken E) → IfOk t (GivesTaken p l h new 1 r) → OnErr t (new ≡ h ++ Halt Memory ∷ []) → (new ≡ h ++ Halt Memory ∷ [] → ⊥) → has_outcome new ≡ true → IsFound l new
  take-found (Ok (taken.Job job)) g e none o = absurd (false≢true (sym g.standing ∙ o))
  take-found (Ok taken.Nothing) g e none o = absurd (false≢true (sym g.standing ∙ o))
  take-found (Ok taken.Over) g e none o = found p l h new r s whole g
  take-found (Err x) g e none o = absurd (none e)

-- and a merge
module _ (p : Problem) (l : Limits) (h new : List Event) (r : ℕ) (job : JobView) (k : IsHolding p l h job) (whole : IsWholeRun p l new) where
  pub merge-found : {E : Type 0} (m : Result Merged E) → IfOk m (GivesMerged l h new 1 r job.id) → OnErr m (new ≡ h ++ Halt Memory ∷ []) → (new ≡ h ++ Halt Memory ∷ [] → ⊥) → has_outcome new ≡ true → IsFound l new
  merge-found (Ok merged.Done) g e none o = absurd (false≢true (sym g.standing ∙ o))
  merge-found (Ok merged.Stale) g e none o = absurd (false≢true (sym g.standing ∙ o))
  merge-found (Ok merged.Over) g e none o = ended p l h new r job k whole g
  merge-found (Err x) g e none o = absurd (none e)

-- both are turns, or a halt for want of memory
pub take-turned : {E : Type 0} (p : Problem) (l : Limits) (h new : List Event) (actor r : ℕ) (t : Result Taken E) → IfOk t (GivesTaken p l h new actor r) → OnErr t (new ≡ h ++ Halt Memory ∷ []) → Turned h new
take-turned p l h new actor r (Ok (taken.Job job)) g e = inl (turned h new actor r (Some (Take actor job.id)) refl g.turn)
take-turned p l h new actor r (Ok taken.Nothing) g e = inl (turned h new actor r None refl g.turn)
take-turned p l h new actor r (Ok taken.Over) g e = inl (turned h new actor r None refl g.turn)
take-turned p l h new actor r (Err x) g e = inr e

pub merge-turned : {E : Type 0} (l : Limits) (h new : List Event) (actor r id : ℕ) (m : Result Merged E) → IfOk m (GivesMerged l h new actor r id) → OnErr m (new ≡ h ++ Halt Memory ∷ []) → Turned h new
merge-turned l h new actor r id (Ok merged.Done) g e = inl (turned h new actor r (Some (Expand actor id g.marks)) refl g.turn)
merge-turned l h new actor r id (Ok merged.Stale) g e = inl (turned h new actor r None refl g.turn)
merge-turned l h new actor r id (Ok merged.Over) g e = inl (turned h new actor r g.deed (deed-inside actor id g.deed g.on) g.turn)
merge-turned l h new actor r id (Err x) g e = inr e
