-- What a replay keeps as it goes: behind so many events the state to which they lead, and that none of them broke a rule.
use Rattle.std.proofs.Common.{◌≡◌, refl, sym, ap, subst, ◌∙◌, ℕ, suc, ◌+◌, ◌<◌, Bool, true, false, cond, ◌==◌, ◌||◌, List, [], ◌∷◌, ◌++◌, length, get_or, take, drop, arith}
use Rattle.std.proofs.Math.Seq.{drop-cons}
use Rattle.std.proofs.lemmas.List.{length-take-le, take_more, take-append-drop}
use Rattle.tp_spec.specs.declared.event.Event.{Event}
use Rattle.tp_spec.specs.declared.event.Event.TheVariants.{Expand, Publish, Limit}
use Rattle.tp_spec.specs.declared.plan.Limits.{Limits}
use Rattle.tp_spec.specs.declared.plan.Mark.{Mark}
use Rattle.tp_spec.specs.declared.plan.Plan.{Plan}
use Rattle.tp_spec.specs.declared.problem.Problem.{Problem}
use Rattle.tp_spec.specs.Machine.{Machine, Node, AreLiveMarks, IsSettled, SpellsNone, end_of, first, step, word_of}
use Rattle.run_laws.proofs.Runs.{end-append}
use Rattle.situated_machine.specs.declared.replayed.Rule.{Rule}
use Rattle.situated_machine.specs.declared.replayed.Rule.TheVariants as rules
use Rattle.situated_machine.specs.Keeping.{ReplayView}
use Rattle.situated_machine.specs.Rules.{IsPlanOf, KeepsAll, has_id, is_taken_by, taken_nodes}
use Rattle.situated_machine.specs.Replays.{AreKept, IsBrokenAt}
use Rattle.situated_machine.specs.Judged.{BreaksAt, Follows, KeepsEach, MayWorkOn, Steps}
use Rattle.situated_machine.proofs.Firsts.{breaks, each-all}
use Rattle.situated_machine.proofs.Single.{one-marks}

pub kept-append : (p : Problem) (l : Limits) (m : Machine) (es fs : List Event) → AreKept p l m es → AreKept p l (end_of l m es) fs → AreKept p l m (es ++ fs)
kept-append p l m [] fs h k = k
kept-append p l m (e ∷ es) fs h k = (h.0, kept-append p l (step l m e) es fs h.1 k)

-- the view of a replay behind the first i events
pub record IsBehind (p : Problem) (l : Limits) (history : List Event) (i : ℕ) (r : ReplayView) : Type 0 where
  pub problem : r.problem ≡ p
  pub limits : r.limits ≡ l
  pub machine : r.machine ≡ end_of l first (take i history)
  pub kept : AreKept p l first (take i history)

module _ (p : Problem) (l : Limits) (history : List Event) (i : ℕ) (e : Event) (lt : i < length history) (is : get_or history i e ≡ e) (r : ReplayView) (b : IsBehind p l history i r) where
  more : take (i + 1) history ≡ take i history ++ e ∷ []
  more = take_more history i e lt ∙ ap (λ x. take i history ++ x ∷ []) is

  pub behind-next : (s : ReplayView) → Follows r s e → IsBehind p l history (i + 1) s
  behind-next s f = record {
    problem = f.problem ∙ b.problem;
    limits = f.limits ∙ b.limits;
    machine = f.stepped ∙ (λ t. step (b.limits t) (b.machine t) e) ∙ sym (end-append l first (take i history) (e ∷ [])) ∙ ap (end_of l first) (sym more);
    kept = subst (AreKept p l first) (sym more) (kept-append p l first (take i history) (e ∷ []) b.kept (kept, tt));
  }
    where
      here : KeepsEach p l (end_of l first (take i history)) e
      here = subst (λ m. KeepsEach p l m e) b.machine (subst (λ x. KeepsEach p x r.machine e) b.limits (subst (λ q. KeepsEach q r.limits r.machine e) b.problem f.kept))

      kept : KeepsAll p l (end_of l first (take i history)) e
      kept = each-all p l (end_of l first (take i history)) e here

  pub behind-broken : (rule : Rule) → BreaksAt r.problem r.limits r.machine e rule → IsBrokenAt p l history i rule
  behind-broken rule h = record {
    front = take i history;
    next = e;
    rest = drop (suc i) history;
    parts = sym (take-append-drop i history) ∙ ap (λ xs. take i history ++ xs) (drop-cons history i e lt ∙ ap (λ x. x ∷ drop (suc i) history) is);
    counted = sym (length-take-le i history (omega (arith, lt)));
    kept = b.kept;
    breaks = breaks p l (end_of l first (take i history)) e rule here.0 here.1;
  }
    where
      here : BreaksAt p l (end_of l first (take i history)) e rule
      here = subst (λ m. BreaksAt p l m e rule) b.machine (subst (λ x. BreaksAt p x r.machine e rule) b.limits (subst (λ q. BreaksAt q r.limits r.machine e rule) b.problem h))

-- a step from a view that is the old one

pub steps-follow : (old mid new : ReplayView) (e : Event) → mid ≡ old → KeepsEach old.problem old.limits old.machine e → Steps mid new e → Follows old new e
steps-follow old mid new e same k s = record { problem = here.problem; limits = here.limits; kept = k; stepped = here.stepped }
  where
    here : Steps old new e
    here = subst (λ r. Steps r new e) same s

-- a node that an actor took stands
pub taken-stands : (id actor : ℕ) (nodes : List Node) → has_id id (taken_nodes actor nodes) ≡ true → has_id id nodes ≡ true
taken-stands id actor [] h = h
taken-stands id actor (n ∷ nodes) h = by_test (is_taken_by actor n) (n.id == id) (taken-stands id actor nodes) h refl
  where
    by_test : (t same : Bool) → (has_id id (taken_nodes actor nodes) ≡ true → has_id id nodes ≡ true)
        → has_id id (cond t (n ∷ taken_nodes actor nodes) (taken_nodes actor nodes)) ≡ true → ((n.id == id) ≡ same) → (same || has_id id nodes) ≡ true
    by_test t true there h e = refl
    by_test true false there h e = there (subst (λ b. (b || has_id id (taken_nodes actor nodes)) ≡ true) e h)
    by_test false false there h e = there h

-- what a deed that may be made breaks or keeps besides

module _ (p : Problem) (l : Limits) (m : Machine) (actor id : ℕ) (may : MayWorkOn m actor id) where
  pub marks-broken : (xs marks : List Mark) → AreLiveMarks p l m (word_of id m.nodes) xs → ¬ (xs ≡ marks) → BreaksAt p l m (Expand actor id marks) rules.Marks
  marks-broken xs marks exact fails = ((((((tt, may.standing), may.turn), may.taken), tt), tt), λ k. fails (one-marks p l m (word_of id m.nodes) xs marks exact k.1))

  pub number-broken : (xs : List Mark) (made marks : ℕ) → SpellsNone p l m (word_of id m.nodes) → AreLiveMarks p l m (word_of id m.nodes) xs
      → (made ≡ m.made → marks ≡ length xs → l.nodes < m.made + length xs → ⊥) → BreaksAt p l m (Limit actor id made marks) rules.Number
  number-broken xs made marks incomplete exact fails = (
    ((((((((tt, may.standing), may.turn), may.taken), tt), tt), incomplete), tt), tt),
    λ k. let same : length k.live_marks ≡ length xs = ap length (one-marks p l m (word_of id m.nodes) k.live_marks xs k.exact exact) in
        fails k.given (k.counted ∙ same) (omega (arith, k.full, k.given, k.counted, same)),
  )

  pub plan-keeps : (plan : Plan) → IsPlanOf p l m (word_of id m.nodes) plan → IsSettled p l m → KeepsEach p l m (Publish actor id plan)
  plan-keeps plan is settled = ((((((((((tt, may.standing), may.turn), may.taken), tt), tt), tt), tt), is), tt), settled)
