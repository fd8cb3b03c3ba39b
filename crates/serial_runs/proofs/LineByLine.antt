-- A script's run, line by line.
use Rattle.std.proofs.Common.{◌≡◌, refl, sym, ap, subst, ◌∙◌, ℕ, suc, ◌+◌, ◌-◌, ◌^◌, ◌<◌, ◌≤◌, ◌≢◌, nat_le, min, arith, inl, inr, ◌⊎◌, ◌==◌, Bool, true, false, ◌&&◌, if◌then◌else◌, List, [], ◌∷◌, ◌++◌, length, length-set, map, set, take, drop, slice_index, get_or, get_or-set_same, get_or-set_other, IsErr, IsErrAnd, append_assoc, append-nil, Option, Some, None, IfSome, Result, Ok, Err, IfOk, IfErr, OnErr}
use Rattle.std.proofs.Math.Seq.{get_or-append_seam}
use Rattle.std.proofs.lemmas.Bool.{and_parts, eq-eqb, eqb-true, false≢true, leb-true}
use Rattle.std.proofs.lemmas.List.{length-append, length-map}
use Rattle.std.specs.List.{list_all}
use Rattle.tp_spec.specs.declared.event.Cause.{Cause}
use Rattle.tp_spec.specs.declared.event.Cause.TheVariants.{Memory, Out, Script}
use Rattle.tp_spec.specs.declared.event.Event.{Event}
use Rattle.tp_spec.specs.declared.event.Event.TheVariants.{Tick, Drop, Dispatch, Take, Expand, Publish, Limit, Exhaust, Halt}
use Rattle.tp_spec.specs.declared.plan.Limits.{Limits}
use Rattle.tp_spec.specs.declared.problem.Problem.{Problem}
use Rattle.tp_spec.specs.Machine.{Machine, IsWholeRun, first, end_of, state_of, readings}
use Rattle.tp_world.specs.Readings.{reading_at, AreNext}
use Rattle.tp_world.specs.Sinks.{SinkView}
use Rattle.tp_world.specs.declared.sink.SendFault.{SendFault}
use Rattle.tp_world.specs.declared.sink.SendFault.TheVariants.{Failed, NoMemory}
use Rattle.run_laws.proofs.Runs.{end-append}
use Rattle.machine_run.specs.Turns.{has_outcome}
use Rattle.machine_run.proofs.Outcomes.{over-of}
use Rattle.open_tree.proofs.Turns.{readings-append}
use Rattle.open_tree.specs.Charter.{SameCharter}
use Rattle.open_tree.specs.Jobs.{IsJobOf}
use Rattle.open_tree.specs.Views.{JobView, TreeView}
use Rattle.dispatcher.specs.Sending.{GivesSent}
use Rattle.script_text.specs.declared.script.ScriptLine.{ScriptLine}
use Rattle.script_text.specs.declared.script.Verb.{Verb}
use Rattle.script_text.specs.declared.script.Verb.TheVariants as verbs
use Rattle.script_text.specs.Follows.{Follows, follow, nothing, serves, serves_held, held_after, taken_id, is_early}
use Rattle.script_text.specs.Playable.{IsPlayable, are_in_turn, has_actor, holds_behind, may_come, nobody}
use Rattle.script_text.specs.Scripts.{least_actor}
use Rattle.serial_runs.specs.Commands.{committed}
use Rattle.serial_runs.specs.Endings.{HasResult, EndsScript}
use Rattle.serial_runs.specs.OneWorker.{HasJob, IsBounded}
use Rattle.serial_runs.specs.Playing.{GoesOnBehind, GoesPast, IsAtLine, IsHeld, IsPlaying, Leaves, Nothing, PlaysLine, StopsAtLine, StopsPast, StopsUnput, held_by, id_of, is_inside, reading_in}
use Rattle.serial_runs.specs.Stopping.{HaltsBy, PutsOn, StopsBy, cause_by}
use Rattle.serial_runs.proofs.Following.{follow-line}
use Rattle.serial_runs.proofs.OneJob.{charter-on}
use Rattle.serial_runs.proofs.Puts.{HasTurn, Turned, sent-before, puts-next, turn-sent}

-- the turn of a line is a turn
plays-turn : (l : Limits) (line : ScriptLine) (took : Option ℕ) (r : ℕ) (old new : List Event) → PlaysLine l line took r old new → HasTurn old new
plays-turn l line took r old new t = record { actor = line.actor; reading = r; events = t.events; grown = t.grown; inside = t.inside }

line-turned : {E : Type 0} (p : Problem) (l : Limits) (line : ScriptLine) (r : ℕ) (old mid : List Event) (held : Option JobView) (t : Result (Option JobView) E)
    → IfOk t (GoesOnBehind p l line r old mid held) → OnErr t (StopsAtLine l line (id_of held) r old mid) → Turned old mid
line-turned p l line r old mid held (Ok next) on over = inl (plays-turn l line (id_of held) r old mid on.turn)
line-turned p l line r old mid held (Err x) on over = by_how over.how where
  by_how : (HasResult mid × PlaysLine l line (id_of held) r old mid) ⊎ (mid ≡ old ++ Halt Memory ∷ []) → Turned old mid
  by_how (inl (res, t)) = inl (plays-turn l line (id_of held) r old mid t)
  by_how (inr e) = inr e

-- The turn of a line in a tree, and the sending behind it.
module _ {C : Type 0} (p : Problem) (old mid : TreeView C) (same : SameCharter old mid) (n : ℕ) (len : n ≡ length (committed old.limits old.history)) (line : ScriptLine) (held : Option JobView) (r : ℕ)
    {E : Type 0} (t : Result (Option JobView) E) (on : IfOk t (GoesOnBehind p old.limits line r old.history mid.history held)) (over : OnErr t (StopsAtLine old.limits line (id_of held) r old.history mid.history)) where
  turn : Turned old.history mid.history
  turn = line-turned p old.limits line r old.history mid.history held t on over

  pub line-before : n ≤ length (committed mid.limits mid.history)
  line-before = sent-before p old mid same turn n len

  pub line-puts : (final : List Event) (before after : SinkView) (answer : Result Unit SendFault) → StopsBy answer mid.history final → GivesSent p (drop n (committed mid.limits mid.history)) before after answer
      → PutsOn p old.limits old.history final before after answer
  line-puts final before after answer stop s = puts-next p old mid same turn n len final before after answer stop s

  pub line-fault : (final : List Event) (before after : SinkView) (fault : SendFault) → HaltsBy (cause_by fault) mid.history final → GivesSent p (drop n (committed mid.limits mid.history)) before after (Err fault)
      → StopsUnput old.limits line (id_of held) old.history final fault
  line-fault final before after fault stop s = by_answer t on over where
    sent : GivesSent p (drop n (committed old.limits mid.history)) before after (Err fault)
    sent = subst (λ l. GivesSent p (drop n (committed l mid.history)) before after (Err fault)) (sym same.limits) s

    by_how : (HasResult mid.history × PlaysLine old.limits line (id_of held) r old.history mid.history) ⊎ (mid.history ≡ old.history ++ Halt Memory ∷ []) → StopsUnput old.limits line (id_of held) old.history final fault
    by_how (inl (res, t)) = record { mid = mid.history; reading = r; turn = t; result = λ o. res; halts = stop }
    by_how (inr e) = absurd (turn-sent p old.limits old.history mid.history before after fault n len sent e)

    by_answer : (t : Result (Option JobView) E) → IfOk t (GoesOnBehind p old.limits line r old.history mid.history held) → OnErr t (StopsAtLine old.limits line (id_of held) r old.history mid.history) → StopsUnput old.limits line (id_of held) old.history final fault
    by_answer (Ok next) g e = record { mid = mid.history; reading = r; turn = g.turn; result = λ o. absurd (false≢true (sym g.standing ∙ o)); halts = stop }
    by_answer (Err x) g e = by_how e.how

  pub line-on : (final : List Event) → final ≡ mid.history → IfOk t (GoesPast p old.limits line old.history final held)
  line-on final stay = by_answer t on where
    by_answer : (t : Result (Option JobView) E) → IfOk t (GoesOnBehind p old.limits line r old.history mid.history held) → IfOk t (GoesPast p old.limits line old.history final held)
    by_answer (Ok next) g = record { reading = r; goes = subst (λ z. GoesOnBehind p old.limits line r old.history z held next) (sym stay) g }
    by_answer (Err x) g = tt

  pub line-over : (final : List Event) → final ≡ mid.history → OnErr t (StopsPast old.limits line (id_of held) old.history final)
  line-over final stay = by_answer t over where
    by_answer : (t : Result (Option JobView) E) → OnErr t (StopsAtLine old.limits line (id_of held) r old.history mid.history) → OnErr t (StopsPast old.limits line (id_of held) old.history final)
    by_answer (Ok next) g = tt
    by_answer (Err x) g = record { reading = r; stops = subst (StopsAtLine old.limits line (id_of held) r old.history) (sym stay) g }

-- who holds what

job-grown : (l : Limits) (h more : List Event) (actor : ℕ) (j : JobView) → IsJobOf l h actor j → IsJobOf l (h ++ more) actor j
job-grown l h more actor j k = record {
  front = k.front;
  rest = k.rest ++ more;
  split = ap (λ z. z ++ more) k.split ∙ append_assoc (k.front ++ Take actor j.id ∷ []) k.rest more;
  node = k.node;
  taken = k.taken;
  word = k.word;
  clock = k.clock;
  commits = k.commits;
}

has-grown : (p : Problem) (l : Limits) (h more new : List Event) (actor : ℕ) (j : JobView) → new ≡ h ++ more → HasJob p l h actor j → HasJob p l new actor j
has-grown p l h more new actor j e k = subst (λ z. HasJob p l z actor j) (sym e) (record { job = job-grown l h more actor j k.job; problem = k.problem; limits = k.limits; live = k.live; timely = k.timely })

kept-job : (p : Problem) (l : Limits) (old more new : List Event) (actor : ℕ) (job : Option JobView) → new ≡ old ++ more → IfSome job (HasJob p l old actor) → IfSome job (HasJob p l new actor)
kept-job p l old more new actor None e k = tt
kept-job p l old more new actor (Some j) e k = has-grown p l old more new actor j e k

-- what one actor holds behind a line of another one, and of its own
module _ (p : Problem) (l : Limits) (old more new : List Event) (e : new ≡ old ++ more) (actor : ℕ) (holds : ℕ → Bool) (took : ℕ → Option ℕ) (events : List Event) where
  other-holds : (v : Verb) (other : ℕ) → (other == actor) ≡ false → holds_behind v actor holds other ≡ holds other
  other-holds verbs.Take other n = ap (λ b. if b then true else holds other) n
  other-holds verbs.Merge other n = ap (λ b. if b then false else holds other) n
  other-holds verbs.Look other n = refl

  other-took : (v : Verb) (other : ℕ) → (other == actor) ≡ false → held_after v actor events took other ≡ took other
  other-took verbs.Take other n = ap (λ b. if b then taken_id events else took other) n
  other-took verbs.Merge other n = refl
  other-took verbs.Look other n = refl

  other-held : (v : Verb) (other : ℕ) (job : Option JobView) → (other == actor) ≡ false → IsHeld p l old other (holds other) (took other) job
      → IsHeld p l new other (holds_behind v actor holds other) (held_after v actor events took other) job
  other-held v other job n h = record {
    free = λ f. h.free (sym (other-holds v other n) ∙ f);
    taken = λ t. other-took v other n ∙ h.taken (sym (other-holds v other n) ∙ t);
    is_job = kept-job p l old more new other job e h.is_job;
  }

  same : (actor == actor) ≡ true
  same = eq-eqb actor actor refl

  own-held : (v : Verb) (job next : Option JobView) → Leaves v events job next → (v ≡ verbs.Take → IfSome next (HasJob p l new actor)) → IsHeld p l old actor (holds actor) (took actor) job
      → IsHeld p l new actor (holds_behind v actor holds actor) (held_after v actor events took actor) next
  own-held verbs.Take job next leaves has h = record {
    free = λ f. absurd (false≢true (sym f ∙ ap (λ b. if b then true else holds actor) same));
    taken = λ t. ap (λ b. if b then taken_id events else took actor) same ∙ leaves;
    is_job = has refl;
  }
  own-held verbs.Merge job next leaves has h = record {
    free = λ f. leaves;
    taken = λ t. absurd (false≢true (sym (ap (λ b. if b then false else holds actor) same) ∙ t));
    is_job = subst (λ z. IfSome z (HasJob p l new actor)) (sym leaves) tt;
  }
  own-held verbs.Look job next leaves has h = subst (IsHeld p l new actor (holds actor) (took actor)) (sym leaves)
      (record { free = h.free; taken = h.taken; is_job = kept-job p l old more new actor job e h.is_job })

  -- what all hold, where what the line's actor held was taken out, and what it holds then put there
  all-held : (v : Verb) (held : List (Option JobView)) (next : Option JobView) → actor < length held → Leaves v events (held_by held actor) next → (v ≡ verbs.Take → IfSome next (HasJob p l new actor))
      → ((other : ℕ) → IsHeld p l old other (holds other) (took other) (held_by held other))
      → (other : ℕ) → IsHeld p l new other (holds_behind v actor holds other) (held_after v actor events took other) (held_by (set (set held actor None) actor next) other)
  all-held v held next low leaves has each other = by_actor (other == actor) refl where
    by_actor : (b : Bool) → (other == actor) ≡ b → IsHeld p l new other (holds_behind v actor holds other) (held_after v actor events took other) (held_by (set (set held actor None) actor next) other)
    by_actor true is = subst (λ a. IsHeld p l new a (holds_behind v actor holds a) (held_after v actor events took a) (held_by (set (set held actor None) actor next) a)) (sym (eqb-true other actor is))
        (subst (IsHeld p l new actor (holds_behind v actor holds actor) (held_after v actor events took actor))
        (sym (get_or-set_same (set held actor None) actor next None (subst (λ n. actor < n) (sym (length-set held actor None)) low)))
        (own-held v (held_by held actor) next leaves has (each actor)))
    by_actor false is =
        let differ : other ≢ actor = λ k. false≢true (sym is ∙ eq-eqb other actor k) in
        subst (IsHeld p l new other (holds_behind v actor holds other) (held_after v actor events took other))
        (sym (get_or-set_other (set held actor None) actor other next None differ ∙ get_or-set_other held actor other None None differ))
        (other-held v other (held_by held other) is (each other))

-- a take comes where its actor holds no job
take-free : (v : Verb) (holds : Bool) (job : Option JobView) → may_come v holds ≡ true → v ≡ verbs.Take → (holds ≡ false → job ≡ None) → job ≡ None
take-free v false job may is free = free refl
take-free v true job may is free = absurd (false≢true (sym (ap (λ w. may_come w true) is) ∙ may))

serves-took : (v : Verb) (holds : Bool) (took b : Option ℕ) (end : Machine) (events : List Event) → may_come v holds ≡ true → (holds ≡ true → took ≡ b)
    → serves v b end events ≡ true → serves v took end events ≡ true
serves-took verbs.Take holds took b end events may is h = h
serves-took verbs.Look holds took b end events may is h = h
serves-took verbs.Merge holds took b end events may is h = ap (λ o. serves_held o end events) (is may) ∙ h

low-actor : (line : ScriptLine) (behind : List ScriptLine) (n : ℕ) → list_all has_actor (line ∷ behind) ≡ true → n ≡ 9 → line.actor < n
low-actor line behind n h is =
    let most : nat_le line.actor 8 ≡ true = (and_parts (nat_le (least_actor line.verb) line.actor) (nat_le line.actor 8) (and_parts (has_actor line) (list_all has_actor behind) h).0).1 in
    let low : line.actor ≤ 8 = leb-true line.actor 8 most in
    omega (arith, low, is)

-- the readings

inside-readings : (es : List Event) → list_all is_inside es ≡ true → readings es ≡ []
inside-readings [] h = refl
inside-readings (Tick a r ∷ es) h = absurd (false≢true h)
inside-readings (Drop id ∷ es) h = inside-readings es h
inside-readings (Dispatch act ∷ es) h = inside-readings es h
inside-readings (Take a id ∷ es) h = inside-readings es h
inside-readings (Expand a id marks ∷ es) h = inside-readings es h
inside-readings (Publish a id plan ∷ es) h = inside-readings es h
inside-readings (Limit a id made marks ∷ es) h = inside-readings es h
inside-readings (Exhaust ∷ es) h = inside-readings es h
inside-readings (Halt cause ∷ es) h = absurd (false≢true h)

line-readings : (l : Limits) (line : ScriptLine) (took : Option ℕ) (r : ℕ) (old new : List Event) → PlaysLine l line took r old new → readings new ≡ readings old ++ r ∷ []
line-readings l line took r old new t = ap readings t.grown ∙ readings-append old (Tick line.actor r ∷ t.events) ∙ ap (λ z. readings old ++ r ∷ z) (inside-readings t.events t.inside)

-- the next reading is the one that the clock tells
next-reading : (xs before ys : List ℕ) (r x : ℕ) → length xs ≤ 2 ^ 64 → xs ≡ before ++ x ∷ ys → AreNext xs 0 (before ++ r ∷ []) → r ≡ x
next-reading xs before ys r x few is next =
    let long : length xs ≡ length before + suc (length ys) = ap length is ∙ length-append before (x ∷ ys) in
    let more : length (before ++ r ∷ []) ≡ length before + 1 = length-append before (r ∷ []) in
    let at : min (0 + length before) (min (length xs) (2 ^ 64) - 1) ≡ length before = omega (arith, long, few) in
    sym (get_or-append_seam before r [] 0) ∙ next (length before) (omega (arith, more)) ∙ ap (slice_index xs) at
    ∙ ap (λ z. slice_index z (length before)) is ∙ get_or-append_seam before x ys 0

-- where an outcome stands the script may end
follow-over : (l : Limits) (m : Machine) (held : ℕ → Option ℕ) (lines : List ScriptLine) → m.over ≡ true → follow l m held lines [] ≡ true
follow-over l m held [] o = refl
follow-over l m held (line ∷ lines) o = o

follow-early : (l : Limits) (m : Machine) (held : ℕ → Option ℕ) (lines : List ScriptLine) (cause : Cause) → is_early cause ≡ true → follow l m held lines (Halt cause ∷ []) ≡ true
follow-early l m held [] cause e = refl
follow-early l m held (line ∷ lines) cause e = e

fault-early : (fault : SendFault) → is_early (cause_by fault) ≡ true
fault-early Failed = refl
fault-early NoMemory = refl

fault-ends : (old new : List Event) (fault : SendFault) → new ≡ old ++ Halt (cause_by fault) ∷ [] → EndsScript new (Err fault)
fault-ends old new Failed e = inr (record { front = old; is = e })
fault-ends old new NoMemory e = inr (record { front = old; is = e })

result-ends : (new : List Event) (fault : SendFault) → HasResult new → EndsScript new (Err fault)
result-ends new Failed r = inl r
result-ends new NoMemory r = inl r

pub playing-first : (p : Problem) (l : Limits) (script : List ScriptLine) (held : List (Option JobView)) → IsBounded p l → IsWholeRun p l [] → IsPlayable script → Nothing held → IsPlaying p l script script [] held
playing-first p l script held bounded whole playable none = record {
  bounded = bounded;
  whole = whole;
  standing = refl;
  holds = nobody;
  in_turn = playable.in_turn;
  actors = playable.actors;
  took = nothing;
  places = none.0;
  each = λ actor. record {
    free = λ f. none.1 actor;
    taken = λ t. absurd (false≢true t);
    is_job = subst (λ z. IfSome z (HasJob p l [] actor)) (sym (none.1 actor)) tt;
  };
  read = refl;
  follows = λ tail f. f;
}

-- the last line is behind
pub script-ends : (p : Problem) (l : Limits) (script : List ScriptLine) (old new : List Event) (held : List (Option JobView)) → IsPlaying p l script [] old held → new ≡ old ++ Halt Script ∷ [] → Follows l script new
script-ends p l script old new held s e = record { follows = subst (λ z. follow l first nothing script z ≡ true) (sym e) (s.follows (Halt Script ∷ []) refl) }

-- One line of a script.
module _ (p : Problem) (l : Limits) (script : List ScriptLine) (line : ScriptLine) (behind : List ScriptLine) (old : List Event) (held : List (Option JobView)) (s : IsPlaying p l script (line ∷ behind) old held) where
  abbrev pub own : Option JobView
  own = held_by held line.actor

  pub line-low : line.actor < length held
  line-low = low-actor line behind (length held) s.actors s.places

  pub line-may : may_come line.verb (s.holds line.actor) ≡ true
  line-may = (and_parts _ _ s.in_turn).0

  pub line-free : line.verb ≡ verbs.Take → own ≡ None
  line-free is = let h = s.each line.actor in take-free line.verb (s.holds line.actor) own line-may is h.free

  pub line-job : IfSome own (HasJob p l old line.actor)
  line-job = let h = s.each line.actor in h.is_job

  -- what follows the lines behind this one follows the script
  past : (mid : List Event) (r : ℕ) (t : PlaysLine l line (id_of own) r old mid) → r ≡ line.reading → (tail : List Event)
      → follow l (state_of l mid) (held_after line.verb line.actor t.events s.took) behind tail ≡ true → follow l first nothing script (mid ++ tail) ≡ true
  past mid r t read tail f =
      let h = s.each line.actor in
      subst (λ z. follow l first nothing script z ≡ true) (sym (ap (λ z. z ++ tail) t.grown ∙ append_assoc old (Tick line.actor r ∷ t.events) tail))
      (s.follows (Tick line.actor r ∷ (t.events ++ tail)) (follow-line l (state_of l old) s.took line behind r t.events tail t.inside read
      (subst (λ m. serves line.verb (s.took line.actor) m t.events ≡ true) end-is (serves-took line.verb (s.holds line.actor) (s.took line.actor) (id_of own) (state_of l mid) t.events line-may h.taken t.serves))
      (subst (λ m. follow l m (held_after line.verb line.actor t.events s.took) behind tail ≡ true) end-is f)))
    where
      end-is : state_of l mid ≡ end_of l (state_of l old) (Tick line.actor r ∷ t.events)
      end-is = ap (state_of l) t.grown ∙ end-append l first old (Tick line.actor r ∷ t.events)

  past-over : (mid : List Event) (r : ℕ) → PlaysLine l line (id_of own) r old mid → r ≡ line.reading → has_outcome mid ≡ true → Follows l script mid
  past-over mid r t read o = record { follows = subst (λ z. follow l first nothing script z ≡ true) (append-nil mid) (past mid r t read [] (follow-over l (state_of l mid) (held_after line.verb line.actor t.events s.took) behind (over-of l mid ∙ o))) }

  past-halt : (mid new : List Event) (r : ℕ) (cause : Cause) → PlaysLine l line (id_of own) r old mid → r ≡ line.reading → is_early cause ≡ true → new ≡ mid ++ Halt cause ∷ [] → Follows l script new
  past-halt mid new r cause t read early e = record { follows = subst (λ z. follow l first nothing script z ≡ true) (sym e) (past mid r t read (Halt cause ∷ []) (follow-early l (state_of l mid) (held_after line.verb line.actor t.events s.took) behind cause early)) }

  module _ (few : length script ≤ 2 ^ 64) (new : List Event) (next : AreNext (map reading_in script) 0 (readings new)) where
    read-so : (mid : List Event) (r : ℕ) → PlaysLine l line (id_of own) r old mid → readings new ≡ readings mid → r ≡ line.reading
    read-so mid r t same = next-reading (map reading_in script) (readings old) (map reading_in behind) r line.reading
        (subst (λ n. n ≤ 2 ^ 64) (sym (length-map script reading_in)) few) s.read
        (subst (AreNext (map reading_in script) 0) (same ∙ line-readings l line (id_of own) r old mid t) next)

    pub next-line : (h : Option JobView) → GoesPast p l line old new own h → IsWholeRun p l new → IsPlaying p l script behind new (set (set held line.actor None) line.actor h)
    next-line h g whole = record {
      bounded = s.bounded;
      whole = whole;
      standing = g.goes.standing;
      holds = holds_behind line.verb line.actor s.holds;
      in_turn = (and_parts _ _ s.in_turn).1;
      actors = (and_parts _ _ s.actors).1;
      took = held_after line.verb line.actor g.goes.turn.events s.took;
      places = length-set (set held line.actor None) line.actor h ∙ length-set held line.actor None ∙ s.places;
      each = all-held p l old (Tick line.actor g.reading ∷ g.goes.turn.events) new g.goes.turn.grown line.actor s.holds s.took g.goes.turn.events line.verb held h line-low g.goes.leaves g.goes.job s.each;
      read = s.read ∙ sym (ap (λ z. z ++ map reading_in behind) (line-readings l line (id_of own) g.reading old new g.goes.turn
          ∙ ap (λ r. readings old ++ r ∷ []) read) ∙ append_assoc (readings old) (line.reading ∷ []) (map reading_in behind));
      follows = past new g.reading g.goes.turn read;
    } where
      read : g.reading ≡ line.reading
      read = read-so new g.reading g.goes.turn refl

    pub stop-follows : StopsPast l line (id_of own) old new → Follows l script new
    stop-follows g = by_how g.stops.how where
      by_how : (HasResult new × PlaysLine l line (id_of own) g.reading old new) ⊎ (new ≡ old ++ Halt Memory ∷ []) → Follows l script new
      by_how (inl (res, t)) = past-over new g.reading t (read-so new g.reading t refl) g.stops.outcome
      by_how (inr e) = record { follows = subst (λ z. follow l first nothing script z ≡ true) (sym e) (s.follows (Halt Memory ∷ []) refl) }

    pub stop-ends : StopsPast l line (id_of own) old new → EndsScript new (Ok tt)
    stop-ends g = by_how g.stops.how where
      by_how : (HasResult new × PlaysLine l line (id_of own) g.reading old new) ⊎ (new ≡ old ++ Halt Memory ∷ []) → EndsScript new (Ok tt)
      by_how (inl (res, t)) = inl res
      by_how (inr e) = inr (inl (record { front = old; is = e }))

    module _ (fault : SendFault) (g : StopsUnput l line (id_of own) old new fault) where
      halt-readings : new ≡ g.mid ++ Halt (cause_by fault) ∷ [] → readings new ≡ readings g.mid
      halt-readings e = ap readings e ∙ readings-append g.mid (Halt (cause_by fault) ∷ []) ∙ append-nil (readings g.mid)

      pub unput-follows : Follows l script new
      unput-follows = by_outcome (has_outcome g.mid) refl where
        by_outcome : (b : Bool) → has_outcome g.mid ≡ b → Follows l script new
        by_outcome true o = let stay = g.halts.over o in subst (Follows l script) (sym stay) (past-over g.mid g.reading g.turn (read-so g.mid g.reading g.turn (ap readings stay)) o)
        by_outcome false o = past-halt g.mid new g.reading (cause_by fault) g.turn (read-so g.mid g.reading g.turn (halt-readings (g.halts.halted o))) (fault-early fault) (g.halts.halted o)

      pub unput-ends : EndsScript new (Err fault)
      unput-ends = by_outcome (has_outcome g.mid) refl where
        by_outcome : (b : Bool) → has_outcome g.mid ≡ b → EndsScript new (Err fault)
        by_outcome true o = subst (λ z. EndsScript z (Err fault)) (sym (g.halts.over o)) (result-ends g.mid fault (g.result o))
        by_outcome false o = fault-ends g.mid new fault (g.halts.halted o)

-- the readings that a clock tells
pub told-next : (given : Option (List ℕ)) (began : ℕ) (xs taken : List ℕ) → given ≡ Some xs → began ≡ 0 → IfSome given (λ ys. AreNext ys began taken) → AreNext xs 0 taken
told-next given began xs taken is none h = subst (λ n. AreNext xs n taken) none (subst (λ o. IfSome o (λ ys. AreNext ys began taken)) is h)

-- there is a place for the actor of the next line
pub at-low : {C : Type 0} (p : Problem) (began old : TreeView C) (script : List ScriptLine) (line : ScriptLine) (behind rest : List ScriptLine) (held : List (Option JobView)) → rest ≡ line ∷ behind → IsAtLine p began old script rest held → line.actor < length held
at-low p began old script line behind rest held is at = line-low p old.limits script line behind old.history held (subst (λ z. IsPlaying p old.limits script z old.history held) is at.playing)

-- One line of a script in a tree.
module _ {C : Type 0} (p : Problem) (began old new : TreeView C) (script : List ScriptLine) (line : ScriptLine) (behind rest : List ScriptLine) (held : List (Option JobView)) (own : Option JobView) (is : rest ≡ line ∷ behind) (has : own ≡ held_by held line.actor)
    (at : IsAtLine p began old script rest held) where
  playing : IsPlaying p old.limits script (line ∷ behind) old.history held
  playing = subst (λ z. IsPlaying p old.limits script z old.history held) is at.playing

  pub at-free : line.verb ≡ verbs.Take → own ≡ None
  at-free take = has ∙ line-free p old.limits script line behind old.history held playing take

  pub at-job : line.verb ≡ verbs.Merge → IfSome own (HasJob p old.limits old.history line.actor)
  at-job merge = subst (λ z. IfSome z (HasJob p old.limits old.history line.actor)) (sym has) (line-job p old.limits script line behind old.history held playing)

  module _ (same : SameCharter old new) (few : length script ≤ 2 ^ 64) (next : AreNext (map reading_in script) 0 (readings new.history)) where
    next-by : (h : Option JobView) → IsWholeRun new.problem new.limits new.history → GoesPast p old.limits line old.history new.history own h → IsAtLine p began new script behind (set (set held line.actor None) line.actor h)
    next-by h whole g = record {
      charter = charter-on at.charter same;
      problem = sym same.problem ∙ at.problem;
      playing = subst (λ l. IsPlaying p l script behind new.history (set (set held line.actor None) line.actor h)) same.limits (next-line p old.limits script line behind old.history held playing few new.history next h
          (subst (λ o. GoesPast p old.limits line old.history new.history o h) has g)
          (subst (λ q. IsWholeRun q old.limits new.history) (sym same.problem ∙ at.problem) (subst (λ l. IsWholeRun new.problem l new.history) (sym same.limits) whole)));
    }

    pub at-next : {E : Type 0} (t : Result (Option JobView) E) (h : Option JobView) → t ≡ Ok h → IsWholeRun new.problem new.limits new.history → IfOk t (GoesPast p old.limits line old.history new.history own)
        → (left after : List (Option JobView)) → left ≡ set held line.actor None → after ≡ set left line.actor h → IsAtLine p began new script behind after
    at-next t h e whole g left after taken put = subst (IsAtLine p began new script behind) (sym (put ∙ ap (λ z. set z line.actor h) taken))
        (next-by h whole (subst (λ z. IfOk z (GoesPast p old.limits line old.history new.history own)) e g))

    stops : {E : Type 0} (t : Result (Option JobView) E) (x : E) → t ≡ Err x → OnErr t (StopsPast old.limits line (id_of own) old.history new.history) → StopsPast old.limits line (id_of (held_by held line.actor)) old.history new.history
    stops t x e g = subst (λ o. StopsPast old.limits line (id_of o) old.history new.history) has (subst (λ z. OnErr z (StopsPast old.limits line (id_of own) old.history new.history)) e g)

    pub at-over : {E : Type 0} (t : Result (Option JobView) E) (x : E) → t ≡ Err x → OnErr t (StopsPast old.limits line (id_of own) old.history new.history) → Follows new.limits script new.history
    at-over t x e g = subst (λ l. Follows l script new.history) same.limits (stop-follows p old.limits script line behind old.history held playing few new.history next (stops t x e g))

    pub at-over-ends : {E : Type 0} (t : Result (Option JobView) E) (x : E) → t ≡ Err x → OnErr t (StopsPast old.limits line (id_of own) old.history new.history) → EndsScript new.history (Ok tt)
    at-over-ends t x e g = stop-ends p old.limits script line behind old.history held playing few new.history next (stops t x e g)

    pub at-unput : (fault : SendFault) → StopsUnput old.limits line (id_of own) old.history new.history fault → Follows new.limits script new.history
    at-unput fault g = subst (λ l. Follows l script new.history) same.limits (unput-follows p old.limits script line behind old.history held playing few new.history next fault
        (subst (λ o. StopsUnput old.limits line (id_of o) old.history new.history fault) has g))

    pub at-unput-ends : (fault : SendFault) → StopsUnput old.limits line (id_of own) old.history new.history fault → EndsScript new.history (Err fault)
    at-unput-ends fault g = unput-ends p old.limits script line behind old.history held playing few new.history next fault
        (subst (λ o. StopsUnput old.limits line (id_of o) old.history new.history fault) has g)

pub at-first : {C : Type 0} (p : Problem) (tree : TreeView C) (script : List ScriptLine) (held : List (Option JobView)) → Nothing held → tree.problem ≡ p → IsBounded p tree.limits → IsPlayable script → tree.history ≡ [] → IsWholeRun tree.problem tree.limits tree.history → IsAtLine p tree tree script script held
at-first p tree script held none is bounded playable fresh whole = record {
  charter = record { problem = refl; limits = refl; opened = refl };
  problem = is;
  playing = subst (λ h. IsPlaying p tree.limits script script h held) (sym fresh) (playing-first p tree.limits script held bounded (subst (λ h. IsWholeRun p tree.limits h) fresh (subst (λ q. IsWholeRun q tree.limits tree.history) is whole)) playable none);
}

pub at-end : {C : Type 0} (p : Problem) (began old new : TreeView C) (script rest : List ScriptLine) (held : List (Option JobView)) → rest ≡ [] → IsAtLine p began old script rest held → SameCharter old new → new.history ≡ old.history ++ Halt Script ∷ [] → Follows new.limits script new.history
at-end p began old new script rest held is at same e = subst (λ l. Follows l script new.history) same.limits (script-ends p old.limits script old.history new.history held (subst (λ z. IsPlaying p old.limits script z old.history held) is at.playing) e)

take-whole : {A : Type 0} (xs : List A) → take (length xs) xs ≡ xs
take-whole [] = refl
take-whole (x ∷ xs) = ap (λ ys. x ∷ ys) (take-whole xs)

-- the first of some lines, and those behind it
pub head-is : (rest : List ScriptLine) (d : ScriptLine) → 1 ≤ length rest → rest ≡ get_or rest 0 d ∷ take (length rest - 1) (drop 1 rest)
head-is [] d h = absurd (omega (arith, h))
head-is (x ∷ xs) d h = let n : suc (length xs) - 1 ≡ length xs = omega arith in ap (λ ys. x ∷ ys) (sym (ap (λ k. take k xs) n ∙ take-whole xs))

pub err-is : (P : Result Unit SendFault → Type 0) (r : Result Unit SendFault) (t : SendFault) → IsErr r × IsErrAnd r (λ s. s ≡ t) → P (Err t) → P r
err-is P (Ok x) t e h = absurd (false≢true e.0)
err-is P (Err s) t e h = subst (λ z. P (Err z)) (sym e.1) h
