-- A turn's Tick and the steps in which it settles.
use Rattle.std.proofs.Common.{◌≡◌, refl, sym, ap, subst, ◌∙◌, ℕ, ◌+◌, ◌-◌, ◌<◌, ◌≤◌, inl, inr, ◌==◌, ◌||◌, nat_lt, Bool, true, false, not, List, [], ◌∷◌, ◌++◌, append_assoc, append-nil, length, Some, arith, IsSome}
use Rattle.std.specs.List.{list_all}
use Rattle.std.proofs.lemmas.Bool.{and_parts, and_from, false≢true, eq-eqb}
use Rattle.std.proofs.lemmas.List.{length-append}
use Rattle.tp_spec.specs.declared.event.Event.{Event}
use Rattle.tp_spec.specs.declared.event.Event.TheVariants.{Tick, Drop, Dispatch, Take, Expand, Publish, Limit, Exhaust, Halt}
use Rattle.tp_spec.specs.declared.plan.Limits.{Limits}
use Rattle.tp_spec.specs.declared.plan.Timed.{Timed}
use Rattle.tp_spec.specs.declared.problem.Problem.{Problem}
use Rattle.tp_spec.specs.Lists.{IsIn}
use Rattle.tp_spec.specs.Machine.{Machine, first, step, end_of, state_of, now_after, AreLegal, IsDue, IsSettled, IsInTurn, MayAct}
use Rattle.run_laws.specs.Histories.{IsTree}
use Rattle.tp_laws.specs.Plans.{AreInTurn}
use Rattle.tp_laws.proofs.EarlyLists.{each-in, each-true, in-right}
use Rattle.tp_laws.proofs.WordLaws.{word-laws}
use Rattle.run_laws.proofs.Runs.{tree-of, end-append, legal-append}
use Rattle.commit_book.specs.Commits.{IsLater}
use Rattle.word_frontier.specs.Nodes.{RankedNode, FrontierView, IsLeast}
use Rattle.word_frontier.specs.Nodes as kept_nodes
use Rattle.machine_run.specs.Deeds.{SameTask, IsRested, Begins}
use Rattle.machine_run.specs.Frontiers.{Stands, IsFrontierOf}
use Rattle.machine_run.specs.Kept.{IsKept, Writes}
use Rattle.machine_run.specs.Settling.{SettlesOn, LeavesOne, LeastIs, Renews, IsDead, IsCurrent, IsLiveUntil, unsettled}
use Rattle.machine_run.specs.Turns.{Settles, is_settling, is_outcome, has_outcome}
use Rattle.machine_run.specs.Views.{RunView, state}
use Rattle.machine_run.proofs.Frontiers.{frontier-same, frontier-drop, frontier-dispatch}
use Rattle.machine_run.proofs.Legal.{drop-legal, dispatch-legal, quiet-by, exhaust-legal}
use Rattle.machine_run.proofs.Nodes.{filter-less}
use Rattle.machine_run.proofs.Outcomes.{over-of, none-behind}
use Rattle.machine_run.proofs.Standing.{run, parts, tree-stands, state-behind, rested-between, kept-step, kept-end}

module _ {p : Problem} {l : Limits} {h : List Event} {f : FrontierView} {commits : List Timed} {len capacity clock : ℕ} {over : Bool} (kept : IsKept (parts (run p l h f) commits len capacity clock over)) (none : has_outcome h ≡ false) where
  abbrev at_end : Machine
  at_end = state_of l h

  pub still : over ≡ false
  still = kept.told ∙ none

  pub tree : IsTree p l at_end
  tree = tree-stands (run p l h f) kept.stands

  pub frontier-is : IsFrontierOf p l f at_end
  frontier-is = kept.stands.frontier none

  pub in-turn : IsSome at_end.turn → IsInTurn at_end
  in-turn turn = record { standing = over-of l h ∙ none; turn = turn }

  pub kept-tick : {new_clock new_len new_capacity : ℕ} (actor reading : ℕ) (new : List Event) → IsRested (run p l h f) → new ≡ h ++ Tick actor reading ∷ [] → new_clock ≡ now_after l clock reading → new_len < new_capacity
      → IsKept (parts (run p l new f) commits new_len new_capacity new_clock over)
  kept-tick actor reading new rested grown told room =
      kept-step kept (Tick actor reading) new f still grown refl refl (rested-between (run p l h f) rested)
      (frontier-same p l f f at_end (step l at_end (Tick actor reading)) refl refl refl refl refl frontier-is)
      kept.committed (told ∙ ap (λ n. now_after l n reading) (kept.clocked still)) room

  pub kept-exhaust : {new_clock new_len new_capacity : ℕ} (new : List Event) → IsSome at_end.turn → f.nodes ≡ [] → new ≡ h ++ Exhaust ∷ []
      → IsKept (parts (run p l new f) commits new_len new_capacity new_clock true)
  kept-exhaust new turn empty grown = kept-end kept Exhaust new f grown refl refl (exhaust-legal p l kept.stands.formed at_end tree f frontier-is (in-turn turn) empty) refl

  pub kept-drop : {new_len new_capacity : ℕ} (n : RankedNode) (id : ℕ) (new : List Event) (g : FrontierView) → IsSome at_end.turn → IsIn n f.nodes → n.id ≡ id → IsDead (run p l h f) id
      → new ≡ h ++ Drop id ∷ [] → g.nodes ≡ kept_nodes.without n.id f.nodes → g.made ≡ f.made → g.ranks ≡ f.ranks → new_len < new_capacity
      → IsKept (parts (run p l new g) commits new_len new_capacity clock over)
  kept-drop n id new g turn there named dead grown nodes made ranks room =
      kept-step kept (Drop n.id) new g still (grown ∙ ap (λ k. h ++ Drop k ∷ []) (sym named)) ranks refl
      (drop-legal p l kept.stands.formed at_end tree f frontier-is n there (in-turn turn) (dead n there named))
      (frontier-drop p l f g at_end n.id nodes made frontier-is)
      kept.committed (kept.clocked still) room

  pub kept-dispatch : {new_commits : List Timed} {new_len new_capacity : ℕ} (act : Timed) (new : List Event) → IsSome at_end.turn → IsDue p l at_end act → new ≡ h ++ Dispatch act ∷ [] → new_commits ≡ commits ++ act ∷ [] → new_len < new_capacity
      → IsKept (parts (run p l new f) new_commits new_len new_capacity clock over)
  kept-dispatch act new turn due grown joined room =
      kept-step kept (Dispatch act) new f still grown refl refl
      (dispatch-legal p l kept.stands.formed at_end tree act (in-turn turn) due)
      (frontier-dispatch p l f at_end act frontier-is)
      (joined ∙ ap (λ cs. cs ++ act ∷ []) kept.committed) (kept.clocked still) room

  -- an act that is due starts behind the commitments of its action
  pub due-later : (act : Timed) → IsSome at_end.turn → IsDue p l at_end act → IsLater commits act
  due-later act turn due =
      let legal : AreLegal p l first (h ++ Dispatch act ∷ []) = legal-append p l first h (Dispatch act ∷ []) kept.stands.run.legal (dispatch-legal p l kept.stands.formed at_end tree act (in-turn turn) due, tt) in
      let trees : IsTree p l (state_of l (h ++ Dispatch act ∷ [])) = tree-of p l (word-laws p l kept.stands.formed).fronts (h ++ Dispatch act ∷ []) (record { legal = legal }) in
      let turns : AreInTurn (at_end.commits ++ act ∷ []) = subst (λ (m : Machine). AreInTurn m.commits) (end-append l first h (Dispatch act ∷ [])) trees.committed.in_turn in
      subst (λ cs. IsLater cs act) (sym kept.committed) (later-last at_end.commits turns) where
        later-last : (cs : List Timed) → AreInTurn (cs ++ act ∷ []) → IsLater cs act
        later-last [] h = refl
        later-last (c ∷ cs) h = and_from _ _
            (each-in (λ d. (not (c.action == d.action) || nat_lt c.start d.start) ≡ true) (cs ++ act ∷ []) act (each-true (λ d. not (c.action == d.action) || nat_lt c.start d.start) (cs ++ act ∷ []) (and_parts _ _ h).0) (in-right act cs (act ∷ []) (inl refl)))
            (later-last cs (and_parts _ _ h).1)

-- one that leaves makes fewer
pub fewer-left : (n : RankedNode) (f g : FrontierView) → IsIn n f.nodes → g.nodes ≡ kept_nodes.without n.id f.nodes → length g.nodes < length f.nodes
fewer-left n f g there nodes = subst (λ ns. length ns < length f.nodes) (sym nodes) (filter-less (λ k. not (k.id == n.id)) n f.nodes there (ap not (eq-eqb n.id n.id refl)))

-- settling leaves the turn and the clock

pub record KeepsTurn (l : Limits) (old new : List Event) : Type 0 where
  pub turn : (state_of l new).turn ≡ (state_of l old).turn
  pub now : (state_of l new).now ≡ (state_of l old).now

settling-turn : (l : Limits) (m : Machine) (es : List Event) → list_all is_settling es ≡ true → (end_of l m es).turn ≡ m.turn
settling-turn l m [] h = refl
settling-turn l m (Tick actor reading ∷ es) h = absurd (false≢true h)
settling-turn l m (Drop id ∷ es) h = settling-turn l (step l m (Drop id)) es h
settling-turn l m (Dispatch act ∷ es) h = settling-turn l (step l m (Dispatch act)) es h
settling-turn l m (Take actor id ∷ es) h = absurd (false≢true h)
settling-turn l m (Expand actor id marks ∷ es) h = absurd (false≢true h)
settling-turn l m (Publish actor id plan ∷ es) h = absurd (false≢true h)
settling-turn l m (Limit actor id made marks ∷ es) h = absurd (false≢true h)
settling-turn l m (Exhaust ∷ es) h = settling-turn l (step l m Exhaust) es h
settling-turn l m (Halt cause ∷ es) h = absurd (false≢true h)

settling-now : (l : Limits) (m : Machine) (es : List Event) → list_all is_settling es ≡ true → (end_of l m es).now ≡ m.now
settling-now l m [] h = refl
settling-now l m (Tick actor reading ∷ es) h = absurd (false≢true h)
settling-now l m (Drop id ∷ es) h = settling-now l (step l m (Drop id)) es h
settling-now l m (Dispatch act ∷ es) h = settling-now l (step l m (Dispatch act)) es h
settling-now l m (Take actor id ∷ es) h = absurd (false≢true h)
settling-now l m (Expand actor id marks ∷ es) h = absurd (false≢true h)
settling-now l m (Publish actor id plan ∷ es) h = absurd (false≢true h)
settling-now l m (Limit actor id made marks ∷ es) h = absurd (false≢true h)
settling-now l m (Exhaust ∷ es) h = settling-now l (step l m Exhaust) es h
settling-now l m (Halt cause ∷ es) h = absurd (false≢true h)

pub keeps-turn : (l : Limits) (old new : List Event) → Settles old new → KeepsTurn l old new
keeps-turn l old new s = record {
  turn = ap (λ es. (state_of l es).turn) s.grown ∙ ap (λ (m : Machine). m.turn) (end-append l first old s.events) ∙ settling-turn l (state_of l old) s.events s.settling;
  now = ap (λ es. (state_of l es).now) s.grown ∙ ap (λ (m : Machine). m.now) (end-append l first old s.events) ∙ settling-now l (state_of l old) s.events s.settling;
}

-- settling goes on

-- the turn goes on with it
pub turn-goes-on : (r s : RunView) → SettlesOn r s → IsSome (state r).turn → IsSome (state s).turn
turn-goes-on r s a turn =
    subst IsSome (sym (keeps-turn r.limits r.history s.history a.events).turn ∙ ap (λ l. (state_of l s.history).turn) (sym a.task.limits)) turn

-- the state behind an outcome is settled
pub settled-over : (r : RunView) → has_outcome r.history ≡ true → IsSettled r.problem r.limits (state r)
settled-over r over = inl (over-of r.limits r.history ∙ over)

-- the best node's deadline has not passed, and nothing is due
pub settled-best : (r : RunView) (id deadline : ℕ) → Stands r → has_outcome r.history ≡ false → LeastIs r.frontier.nodes id → IsLiveUntil r id deadline → ((act : Timed) → ¬ (IsDue r.problem r.limits (state r) act)) → IsSettled r.problem r.limits (state r)
settled-best r id deadline s none best live nothing =
    let current : IsCurrent r deadline best.node = live.kept best.node best.least.there best.id_is in
    inr (quiet-by r.problem r.limits s.formed (state r) (tree-stands r s) r.frontier (s.frontier none) best.node best.least current.known (omega (arith, current.deadline_is, live.early)) nothing)

-- a step of settling behind deadlines that were found anew

pub state-renewed : (r s : RunView) → Renews r s → state s ≡ state r
state-renewed r s e = λ i. state_of (e.task.limits i) (e.history i)

pub unsettled-renewed : (r s : RunView) → Renews r s → unsettled s ≡ unsettled r
unsettled-renewed r s e = λ i. e.count i + ((e.task.limits i).actions - length (state-renewed r s e i).commits)

pub settles-renewed : (r s : RunView) → Renews r s → SettlesOn r s
settles-renewed r s e = record { task = e.task; events = record { events = []; grown = e.history ∙ sym (append-nil r.history); settling = refl } }

pub settles-wrote : (r s t : RunView) (e : Event) → Renews r s → Writes s t e → is_settling e ≡ true → SettlesOn r t
settles-wrote r s t e renewed wrote is = record {
  task = record { problem = wrote.task.problem ∙ renewed.task.problem; limits = wrote.task.limits ∙ renewed.task.limits };
  events = record { events = e ∷ []; grown = wrote.history ∙ ap (λ es. es ++ e ∷ []) renewed.history; settling = and_from _ _ is refl };
}

pub leaves-one : (r s t : RunView) (e : Event) → Renews r s → Writes s t e → has_outcome r.history ≡ false → is_outcome e ≡ false → unsettled t < unsettled s → LeavesOne r t
leaves-one r s t e renewed wrote none plain fewer = record {
  standing = none-behind s.history e t.history wrote.history (ap has_outcome renewed.history ∙ none) plain;
  fewer = omega (arith, fewer, unsettled-renewed r s renewed);
}

-- the state behind a written event
pub state-wrote : (r s : RunView) (e : Event) → Writes r s e → state s ≡ step r.limits (state r) e
state-wrote r s e wrote = state-behind s.limits r.history e s.history wrote.history ∙ ap (λ l. step l (state_of l r.history) e) wrote.task.limits

pub drop-fewer : (r s : RunView) (id : ℕ) → Writes r s (Drop id) → length s.frontier.nodes < length r.frontier.nodes → unsettled s < unsettled r
drop-fewer r s id wrote fewer =
    let same : length (state s).commits ≡ length (state r).commits = ap (λ (m : Machine). length m.commits) (state-wrote r s (Drop id) wrote) in
    omega (arith, fewer, same, ap (λ (l : Limits). l.actions) wrote.task.limits)

pub dispatch-fewer : (r s : RunView) (act : Timed) → Stands s → Writes r s (Dispatch act) → s.frontier.nodes ≡ r.frontier.nodes → unsettled s < unsettled r
dispatch-fewer r s act stands wrote nodes =
    let more : length (state s).commits ≡ length (state r).commits + 1 = ap (λ (m : Machine). length m.commits) (state-wrote r s (Dispatch act) wrote) ∙ length-append (state r).commits (act ∷ []) in
    let few : length (state s).commits ≤ s.limits.actions = (tree-stands s stands).committed.few in
    omega (arith, more, few, ap (λ (l : Limits). l.actions) wrote.task.limits, ap length nodes)

pub may-act : (r : RunView) (actor : ℕ) → IsSettled r.problem r.limits (state r) → has_outcome r.history ≡ false → (state r).turn ≡ Some (record { actor = actor; acted = false }) → MayAct r.problem r.limits (state r) actor
may-act r actor settled none turn = record { between = rested-between r (record { standing = none; settled = settled }); turn = turn }

-- a Tick and settling

module _ (r s t : RunView) (actor reading : ℕ) (ticked : Writes r s (Tick actor reading)) where
  pub ticked-turn : (state s).turn ≡ Some (record { actor = actor; acted = false })
  ticked-turn = ap (λ (m : Machine). m.turn) (state-behind s.limits r.history (Tick actor reading) s.history ticked.history)

  pub ticked-some : IsSome (state s).turn
  ticked-some = subst IsSome (sym ticked-turn) refl

  module _ (task : SameTask s t) (more : Settles s.history t.history) where
    grown : t.history ≡ r.history ++ Tick actor reading ∷ more.events
    grown = more.grown ∙ ap (λ es. es ++ more.events) ticked.history ∙ append_assoc r.history (Tick actor reading ∷ []) more.events

    pub begins : IsSettled t.problem t.limits (state t) → Begins r t actor reading
    begins settled = record {
      turn = record {
        before = more.events;
        after = [];
        grown = grown ∙ ap (λ es. r.history ++ Tick actor reading ∷ es) (sym (append-nil more.events));
        first_settling = more.settling;
        last_settling = refl;
      };
      settled = settled;
      may = λ none. may-act t actor settled none
          ((keeps-turn t.limits s.history t.history more).turn ∙ ap (λ l. (state_of l s.history).turn) task.limits ∙ ticked-turn);
    }
