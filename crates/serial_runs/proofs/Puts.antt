-- What is put of a run's commands, turn by turn.
use Rattle.std.proofs.Common.{◌≡◌, refl, sym, ap, subst, ◌∙◌, ℕ, zero, suc, ◌+◌, ◌≤◌, ◌⊎◌, inl, inr, min, Bool, true, false, not, ◌&&◌, ◌||◌, List, [], ◌∷◌, ◌++◌, length, map, take, drop, Option, Some, None, is_some, slice_get, Result, Ok, Err, IfOk, OnErr, IsTrue, arith, append_assoc, append-nil}
use Rattle.std.proofs.KnownBytes.{Appends-trans, Appends-nil}
use Rattle.std.proofs.Math.Seq.{take-append-add, drop-append_seam, take-length}
use Rattle.std.proofs.lemmas.Bool.{and_parts, and_from, false≢true}
use Rattle.std.proofs.lemmas.Grind.{common_steps}
use Rattle.std.proofs.lemmas.List.{map-append, length-append, take-append-drop}
use Rattle.std.proofs.lemmas.List.Concat.{flat_map-append}
use Rattle.std.proofs.lemmas.List.Folds.{list_all-append}
use Rattle.std.specs.Io.KnownBytes.{Appends}
use Rattle.std.specs.List.{flat_map, list_all, list_any}
use Rattle.dispatcher.specs.Sending.{GivesSent, command_lines, commands}
use Rattle.tp_spec.specs.declared.event.Cause.{Cause}
use Rattle.tp_spec.specs.declared.event.Cause.TheVariants.{Memory}
use Rattle.tp_spec.specs.declared.event.Event.{Event}
use Rattle.tp_spec.specs.declared.event.Event.TheVariants.{Tick, Drop, Dispatch, Take, Expand, Publish, Limit, Exhaust, Halt}
use Rattle.tp_spec.specs.declared.plan.Limits.{Limits}
use Rattle.tp_spec.specs.declared.plan.Timed.{Timed}
use Rattle.tp_spec.specs.declared.problem.Problem.{Problem}
use Rattle.tp_spec.specs.Machine.{Machine, first, step, end_of, state_of}
use Rattle.tp_spec.specs.Texts.{command_text, command_of}
use Rattle.tp_world.specs.Counts.{Rose}
use Rattle.tp_world.specs.Sinks.{SinkView}
use Rattle.tp_world.specs.declared.sink.SendFault.{SendFault}
use Rattle.tp_world.specs.declared.sink.SendFault.TheVariants.{Failed, NoMemory}
use Rattle.run_laws.proofs.Runs.{end-append}
use Rattle.machine_run.specs.Turns.{IsTurn, event_list, has_outcome}
use Rattle.open_tree.specs.Charter.{SameCharter}
use Rattle.open_tree.specs.Views.{TreeView}
use Rattle.serial_runs.proofs.OneWorker.{all-inside}
use Rattle.serial_runs.specs.Playing.{is_inside}
use Rattle.serial_runs.specs.Commands.{committed, PutsAll, PutsFront, PutsUntil, PutsSome, GivesCommands}
use Rattle.serial_runs.specs.Stopping.{StopsBy, HaltsBy, PutsOn, cause_by}

-- the commitments that events make

abbrev pub dispatched : List Event → List Timed
dispatched [] = []
dispatched (Tick actor reading ∷ es) = dispatched es
dispatched (Drop id ∷ es) = dispatched es
dispatched (Dispatch act ∷ es) = act ∷ dispatched es
dispatched (Take actor id ∷ es) = dispatched es
dispatched (Expand actor id marks ∷ es) = dispatched es
dispatched (Publish actor id plan ∷ es) = dispatched es
dispatched (Limit actor id made marks ∷ es) = dispatched es
dispatched (Exhaust ∷ es) = dispatched es
dispatched (Halt cause ∷ es) = dispatched es

commits-run : (l : Limits) (m : Machine) (es : List Event) → (end_of l m es).commits ≡ m.commits ++ dispatched es
commits-run l m [] = sym (append-nil m.commits)
commits-run l m (Tick actor reading ∷ es) = commits-run l (step l m (Tick actor reading)) es
commits-run l m (Drop id ∷ es) = commits-run l (step l m (Drop id)) es
commits-run l m (Dispatch act ∷ es) = commits-run l (step l m (Dispatch act)) es ∙ append_assoc m.commits (act ∷ []) (dispatched es)
commits-run l m (Take actor id ∷ es) = commits-run l (step l m (Take actor id)) es
commits-run l m (Expand actor id marks ∷ es) = commits-run l (step l m (Expand actor id marks)) es
commits-run l m (Publish actor id plan ∷ es) = commits-run l (step l m (Publish actor id plan)) es
commits-run l m (Limit actor id made marks ∷ es) = commits-run l (step l m (Limit actor id made marks)) es
commits-run l m (Exhaust ∷ es) = commits-run l (step l m Exhaust) es
commits-run l m (Halt cause ∷ es) = commits-run l (step l m (Halt cause)) es

pub committed-append : (l : Limits) (h es : List Event) → committed l (h ++ es) ≡ committed l h ++ dispatched es
committed-append l h es = ap (λ (m : Machine). m.commits) (end-append l first h es) ∙ commits-run l (state_of l h) es

-- what a history prints of its commands

lines-of : (p : Problem) (es : List Event) → flat_map (command_of p) es ≡ commands p (dispatched es)
lines-of p [] = refl
lines-of p (Tick actor reading ∷ es) = lines-of p es
lines-of p (Drop id ∷ es) = lines-of p es
lines-of p (Dispatch act ∷ es) = ap (λ xs. command_text p act ++ xs) (lines-of p es)
lines-of p (Take actor id ∷ es) = lines-of p es
lines-of p (Expand actor id marks ∷ es) = lines-of p es
lines-of p (Publish actor id plan ∷ es) = lines-of p es
lines-of p (Limit actor id made marks ∷ es) = lines-of p es
lines-of p (Exhaust ∷ es) = lines-of p es
lines-of p (Halt cause ∷ es) = lines-of p es

pub commands-committed : (p : Problem) (l : Limits) (h : List Event) → flat_map (command_of p) h ≡ commands p (committed l h)
commands-committed p l h = lines-of p h ∙ ap (commands p) (sym (commits-run l first h))

-- A turn, or a halt for want of memory in its place.

pub record HasTurn (old new : List Event) : Type 0 where
  pub actor : ℕ
  pub reading : ℕ
  pub events : List Event
  pub grown : new ≡ old ++ Tick actor reading ∷ events
  pub inside : list_all is_inside events ≡ true

abbrev pub Turned : List Event → List Event → Type 0
Turned old new = HasTurn old new ⊎ (new ≡ old ++ Halt Memory ∷ [])

pub turn-inside : (old new : List Event) (actor reading : ℕ) (deed : Option Event) → list_all is_inside (event_list deed) ≡ true → (t : IsTurn old new actor reading deed) → list_all is_inside (t.before ++ (event_list deed ++ t.after)) ≡ true
turn-inside old new actor reading deed d t = list_all-append is_inside t.before (event_list deed ++ t.after)
    ∙ and_from _ _ (all-inside t.before t.first_settling) (list_all-append is_inside (event_list deed) t.after ∙ and_from _ _ d (all-inside t.after t.last_settling))

pub turned : (old new : List Event) (actor reading : ℕ) (deed : Option Event) → list_all is_inside (event_list deed) ≡ true → IsTurn old new actor reading deed → HasTurn old new
turned old new actor reading deed d t = record {
  actor = actor;
  reading = reading;
  events = t.before ++ (event_list deed ++ t.after);
  grown = t.grown;
  inside = turn-inside old new actor reading deed d t;
}

-- the commitments that a turn makes
grown-by : (l : Limits) (h new : List Event) → Turned h new → (more : List Timed) × (committed l new ≡ committed l h ++ more)
grown-by l h new (inl t) = (dispatched t.events, ap (committed l) t.grown ∙ committed-append l h (Tick t.actor t.reading ∷ t.events))
grown-by l h new (inr e) = ([], ap (committed l) e ∙ committed-append l h (Halt Memory ∷ []))

-- No Tick stands behind the last one.

abbrev no_tick : Event → Bool
no_tick (Tick actor reading) = false
no_tick _ = true

inside-tick : (e : Event) → is_inside e ≡ true → no_tick e ≡ true
inside-tick (Tick actor reading) h = h
inside-tick (Drop id) h = refl
inside-tick (Dispatch act) h = refl
inside-tick (Take actor id) h = refl
inside-tick (Expand actor id marks) h = refl
inside-tick (Publish actor id plan) h = refl
inside-tick (Limit actor id made marks) h = refl
inside-tick Exhaust h = refl
inside-tick (Halt cause) h = refl

inside-ticks : (es : List Event) → list_all is_inside es ≡ true → list_all no_tick es ≡ true
inside-ticks [] h = refl
inside-ticks (e ∷ es) h = and_from _ _ (inside-tick e (and_parts _ _ h).0) (inside-ticks es (and_parts _ _ h).1)

abbrev head_or : Event → List Event → Event
head_or e [] = e
head_or e (x ∷ xs) = x

-- so that what stands before some Tick is a front of what stands before the last one
before-tick : (front h rest es : List Event) (a r b s : ℕ) → list_all no_tick es ≡ true → h ++ Tick b s ∷ es ≡ front ++ Tick a r ∷ rest → (k : List Event) × (h ≡ front ++ k)
before-tick [] h rest es a r b s q e = (h, refl)
before-tick (f ∷ front) [] rest es a r b s q e =
    absurd (false≢true (and_parts false (list_all no_tick rest) (and_parts (list_all no_tick front) (list_all no_tick (Tick a r ∷ rest)) (sym (list_all-append no_tick front (Tick a r ∷ rest)) ∙ sym (ap (list_all no_tick) (ap (drop 1) e)) ∙ q)).1).0)
before-tick (f ∷ front) (x ∷ h) rest es a r b s q e =
    let k = before-tick front h rest es a r b s q (ap (drop 1) e) in
    (k.0, λ i. ap (head_or x) e i ∷ k.1 i)

-- the last turn of a history, behind which it may be halted
record LastTurn (l : Limits) (h final : List Event) (more : List Timed) : Type 0 where
  pub actor : ℕ
  pub reading : ℕ
  pub events : List Event
  pub is : final ≡ h ++ Tick actor reading ∷ events
  pub ticks : list_all no_tick events ≡ true
  pub commits : committed l final ≡ committed l h ++ more

last-turn : (l : Limits) (h new : List Event) (t : HasTurn h new) → LastTurn l h new (dispatched t.events)
last-turn l h new t = record {
  actor = t.actor;
  reading = t.reading;
  events = t.events;
  is = t.grown;
  ticks = inside-ticks t.events t.inside;
  commits = ap (committed l) t.grown ∙ committed-append l h (Tick t.actor t.reading ∷ t.events);
}

last-halted : (l : Limits) (h new final : List Event) (cause : Cause) (t : HasTurn h new) → HaltsBy cause new final → LastTurn l h final (dispatched t.events)
last-halted l h new final cause t s = by_outcome (has_outcome new) refl where
  by_outcome : (b : Bool) → has_outcome new ≡ b → LastTurn l h final (dispatched t.events)
  by_outcome true o = subst (λ z. LastTurn l h z (dispatched t.events)) (sym (s.over o)) (last-turn l h new t)
  by_outcome false o = record {
    actor = t.actor;
    reading = t.reading;
    events = t.events ++ Halt cause ∷ [];
    is = s.halted o ∙ ap (λ z. z ++ Halt cause ∷ []) t.grown ∙ append_assoc h (Tick t.actor t.reading ∷ t.events) (Halt cause ∷ []);
    ticks = list_all-append no_tick t.events (Halt cause ∷ []) ∙ and_from _ _ (inside-ticks t.events t.inside) refl;
    commits = ap (committed l) (s.halted o) ∙ committed-append l new (Halt cause ∷ []) ∙ append-nil (committed l new) ∙ (last-turn l h new t).commits;
  }

take-min : (bs cs : List ℕ) (n : ℕ) → take n bs ≡ take (min n (length bs)) (bs ++ cs)
take-min bs cs n = grind (arith, common_steps)

map-front : {A B : Type 0} (f : A → B) (n : ℕ) (xs : List A) → map f (take n xs) ≡ take n (map f xs)
map-front f zero [] = refl
map-front f (suc n) [] = refl
map-front f zero (x ∷ xs) = refl
map-front f (suc n) (x ∷ xs) = ap (λ ys. f x ∷ ys) (map-front f n xs)

commands-append : (p : Problem) (xs ys : List Timed) → commands p (xs ++ ys) ≡ commands p xs ++ commands p ys
commands-append p xs ys = flat_map-append (command_text p) xs ys

-- a front of a front of the commands is one of all
commands-front : (p : Problem) (n k : ℕ) (xs : List Timed) → take n (commands p (take k xs)) ≡ take (min n (length (commands p (take k xs)))) (commands p xs)
commands-front p n k xs = take-min (commands p (take k xs)) (commands p (drop k xs)) n
    ∙ ap (take (min n (length (commands p (take k xs))))) (sym (commands-append p (take k xs) (drop k xs)) ∙ ap (commands p) (take-append-drop k xs))

-- A sink that got all commands of some acts, and then some of more.
module _ (p : Problem) (xs more : List Timed) (began before after : SinkView)
    (puts : before.puts ≡ began.puts ++ command_lines p xs) (held : Appends began.held before.held (commands p xs)) where
  all-puts : after.puts ≡ before.puts ++ command_lines p more → after.puts ≡ began.puts ++ command_lines p (xs ++ more)
  all-puts a = a ∙ ap (λ z. z ++ command_lines p more) puts ∙ append_assoc began.puts (command_lines p xs) (command_lines p more)
      ∙ ap (λ z. began.puts ++ z) (sym (map-append (command_text p) xs more))

  all-held : Appends before.held after.held (commands p more) → Appends began.held after.held (commands p (xs ++ more))
  all-held a = subst (Appends began.held after.held) (sym (commands-append p xs more)) (Appends-trans began.held before.held after.held (commands p xs) (commands p more) held a)

  some-puts : (k : ℕ) → after.puts ≡ before.puts ++ command_lines p (take k more) → after.puts ≡ began.puts ++ take (length (command_lines p xs) + k) (command_lines p (xs ++ more))
  some-puts k a = a ∙ ap (λ z. z ++ command_lines p (take k more)) puts ∙ append_assoc began.puts (command_lines p xs) (command_lines p (take k more))
      ∙ ap (λ z. began.puts ++ (command_lines p xs ++ z)) (map-front (command_text p) k more)
      ∙ ap (λ z. began.puts ++ z) (sym (take-append-add (command_lines p xs) (command_lines p more) k) ∙ ap (take (length (command_lines p xs) + k)) (sym (map-append (command_text p) xs more)))

  some-held : (n k : ℕ) → Appends before.held after.held (take n (commands p (take k more)))
      → Appends began.held after.held (take (length (commands p xs) + min n (length (commands p (take k more)))) (commands p (xs ++ more)))
  some-held n k a = subst (Appends began.held after.held)
      (sym (take-append-add (commands p xs) (commands p more) (min n (length (commands p (take k more))))) ∙ ap (take (length (commands p xs) + min n (length (commands p (take k more))))) (sym (commands-append p xs more)))
      (Appends-trans began.held before.held after.held (commands p xs) (take (min n (length (commands p (take k more)))) (commands p more)) held
      (subst (Appends before.held after.held) (commands-front p n k more) a))

-- what stands before a Tick has no more commands than what stands before the last one
enough-of : (p : Problem) (l : Limits) (h final : List Event) (more : List Timed) → LastTurn l h final more → (front rest : List Event) (actor reading : ℕ) → final ≡ front ++ Tick actor reading ∷ rest
    → length (commands p (committed l front)) ≤ length (commands p (committed l h))
enough-of p l h final more t front rest actor reading e =
    let k = before-tick front h rest t.events actor reading t.actor t.reading t.ticks (sym t.is ∙ e) in
    let long : length (commands p (committed l h)) ≡ length (commands p (committed l front)) + length (commands p (dispatched k.0)) =
    ap (λ z. length (commands p (committed l z))) k.1 ∙ ap (λ z. length (commands p z)) (committed-append l front k.0) ∙ ap length (commands-append p (committed l front) (dispatched k.0)) ∙ length-append (commands p (committed l front)) (commands p (dispatched k.0)) in
    omega (arith, long)

front-of : (p : Problem) (l : Limits) (h final : List Event) (more : List Timed) (began before after : SinkView) → LastTurn l h final more → PutsAll p l h began before
    → (j n k : ℕ) → after.puts ≡ before.puts ++ command_lines p (take j more) → Appends before.held after.held (take n (commands p (take k more))) → PutsFront p l final began after
front-of p l h final more began before after t all j n k a b = record {
  count = length (command_lines p (committed l h)) + j;
  puts = some-puts p (committed l h) more began before after all.puts all.held j a ∙ ap (λ z. began.puts ++ take (length (command_lines p (committed l h)) + j) (command_lines p z)) (sym t.commits);
  bytes = length (commands p (committed l h)) + min n (length (commands p (take k more)));
  held = subst (λ z. Appends began.held after.held (take (length (commands p (committed l h)) + min n (length (commands p (take k more)))) (commands p z))) (sym t.commits)
      (some-held p (committed l h) more began before after all.puts all.held n k b);
  enough = λ front rest actor reading e. let le = enough-of p l h final more t front rest actor reading e in omega (arith, le);
}

pub no-next : (p : Problem) (before after : SinkView) (fault : SendFault) → GivesSent p [] before after (Err fault) → ⊥
no-next p before after Failed s = false≢true (ap is_some s.is_next)
no-next p before after NoMemory s = false≢true (ap is_some s.is_next)

module _ (p : Problem) (l : Limits) (h new final : List Event) (began before after : SinkView) where
  -- all that is new was put
  put-all : (more : List Timed) → committed l new ≡ committed l h ++ more → PutsAll p l h began before → GivesSent p more before after (Ok tt) → PutsAll p l new began after
  put-all more e all s = record {
    puts = all-puts p (committed l h) more began before after all.puts all.held s.puts ∙ ap (λ z. began.puts ++ command_lines p z) (sym e);
    held = subst (λ z. Appends began.held after.held (commands p z)) (sym e) (all-held p (committed l h) more began before after all.puts all.held s.held);
    unfailed = s.unfailed ∙ all.unfailed;
  }

  put-some : (t : HasTurn h new) (fault : SendFault) → HaltsBy (cause_by fault) new final → PutsAll p l h began before → GivesSent p (dispatched t.events) before after (Err fault) → GivesCommands p l final began after (Err fault)
  put-some t Failed stop all s = record {
    front = front-of p l h final (dispatched t.events) began before after (last-halted l h new final (cause_by Failed) t stop) all (suc s.done) s.bytes (suc s.done) s.puts s.held;
    failed = subst (λ z. Rose z after.faults) all.unfailed s.failed;
  }
  put-some t NoMemory stop all s = record {
    front = by_put s.puts;
    unfailed = s.unfailed ∙ all.unfailed;
  } where
    whole : Appends before.held after.held (take (length (commands p (take s.done (dispatched t.events)))) (commands p (take s.done (dispatched t.events))))
    whole = subst (Appends before.held after.held) (sym (take-length (commands p (take s.done (dispatched t.events))))) s.held

    by_put : (after.puts ≡ before.puts ++ command_lines p (take s.done (dispatched t.events))) ⊎ (after.puts ≡ before.puts ++ command_lines p (take (suc s.done) (dispatched t.events))) → PutsFront p l final began after
    by_put (inl a) = front-of p l h final (dispatched t.events) began before after (last-halted l h new final (cause_by NoMemory) t stop) all s.done (length (commands p (take s.done (dispatched t.events)))) s.done a whole
    by_put (inr a) = front-of p l h final (dispatched t.events) began before after (last-halted l h new final (cause_by NoMemory) t stop) all (suc s.done) (length (commands p (take s.done (dispatched t.events)))) s.done a whole

-- what is sent is what is new
sent-more : (p : Problem) (l : Limits) (h new : List Event) (more : List Timed) (before after : SinkView) (answer : Result Unit SendFault) (n : ℕ) → n ≡ length (committed l h) → committed l new ≡ committed l h ++ more
    → GivesSent p (drop n (committed l new)) before after answer → GivesSent p more before after answer
sent-more p l h new more before after answer n len e s = subst (λ z. GivesSent p z before after answer) ((λ i. drop (len i) (e i)) ∙ drop-append_seam (committed l h) more) s

-- a turn whose commands could not be sent was one
pub turn-sent : (p : Problem) (l : Limits) (h new : List Event) (before after : SinkView) (fault : SendFault) (n : ℕ) → n ≡ length (committed l h)
    → GivesSent p (drop n (committed l new)) before after (Err fault) → new ≡ h ++ Halt Memory ∷ [] → ⊥
turn-sent p l h new before after fault n len s e =
    no-next p before after fault (sent-more p l h new [] before after (Err fault) n len (ap (committed l) e ∙ committed-append l h (Halt Memory ∷ [])) s)

pub put-on : (p : Problem) (l : Limits) (h new final : List Event) (before after : SinkView) (answer : Result Unit SendFault) (n : ℕ) → n ≡ length (committed l h) → Turned h new → StopsBy answer new final
    → GivesSent p (drop n (committed l new)) before after answer → PutsOn p l h final before after answer
put-on p l h new final before after (Ok done) n len t stop s began all =
    let g = grown-by l h new t in
    subst (λ z. PutsAll p l z began after) (sym stop) (put-all p l h new final began before after g.0 g.1 all (sent-more p l h new g.0 before after (Ok done) n len g.1 s))
put-on p l h new final before after (Err fault) n len (inl t) stop s began all =
    put-some p l h new final began before after t fault stop all (sent-more p l h new (dispatched t.events) before after (Err fault) n len (last-turn l h new t).commits s)
put-on p l h new final before after (Err fault) n len (inr e) stop s began all = absurd (turn-sent p l h new before after fault n len s e)

-- the same of a tree, whose limits stay
module _ {C : Type 0} (p : Problem) (old mid : TreeView C) (same : SameCharter old mid) (t : Turned old.history mid.history) (n : ℕ) (len : n ≡ length (committed old.limits old.history)) where
  pub sent-before : n ≤ length (committed mid.limits mid.history)
  sent-before =
      let g = grown-by old.limits old.history mid.history t in
      let long : length (committed old.limits mid.history) ≡ length (committed old.limits old.history) + length g.0 = ap length g.1 ∙ length-append (committed old.limits old.history) g.0 in
      subst (λ l. n ≤ length (committed l mid.history)) same.limits (omega (arith, len, long))

  pub puts-next : (final : List Event) (before after : SinkView) (answer : Result Unit SendFault) → StopsBy answer mid.history final → GivesSent p (drop n (committed mid.limits mid.history)) before after answer
      → PutsOn p old.limits old.history final before after answer
  puts-next final before after answer stop s = put-on p old.limits old.history mid.history final before after answer n len t stop
      (subst (λ l. GivesSent p (drop n (committed l mid.history)) before after answer) (sym same.limits) s)
