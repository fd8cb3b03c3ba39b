-- A node that an actor took keeps its word and its taker as long as it stands, and its id is never given again.
use Rattle.std.proofs.Common.{◌≡◌, refl, sym, ap, subst, ◌∙◌, ℕ, ◌<◌, ◌≤◌, inl, inr, ◌==◌, Bool, true, false, not, is_some, cond, List, [], ◌∷◌, ◌++◌, length, Some, arith}
use Rattle.std.specs.List.{filter}
use Rattle.std.proofs.lemmas.Bool.{and_parts, false≢true, ltb-true, eq-eqb, eqb-true}
use Rattle.tp_spec.specs.declared.event.Event.{Event}
use Rattle.tp_spec.specs.declared.event.Event.TheVariants.{Tick, Drop, Dispatch, Take, Expand, Publish, Limit, Exhaust, Halt}
use Rattle.tp_spec.specs.declared.plan.Limits.{Limits}
use Rattle.tp_spec.specs.declared.plan.Mark.{Mark}
use Rattle.tp_spec.specs.declared.plan.Timed.{Timed}
use Rattle.tp_spec.specs.declared.problem.Problem.{Problem}
use Rattle.tp_spec.specs.Lists.{IsIn, each_pair}
use Rattle.tp_spec.specs.Schedules.{Live}
use Rattle.tp_spec.specs.Machine.{Machine, Node, first, step, end_of, state_of, AreLegal, Legal, IsRun, TakeIsLegal, is_open, taken_by, without, children, word_of}
use Rattle.tp_laws.proofs.EarlyLists.{each-in, each-true}
use Rattle.open_tree.specs.Views.{JobView}
use Rattle.open_tree.specs.Jobs.{IsJobOf}
use Rattle.run_laws.specs.Commitments.{CommitsGrow}
use Rattle.run_laws.specs.Histories.{IsTree, RunsLeadToTrees, is_below}
use Rattle.tp_laws.specs.Clocks.{StartFrom}
use Rattle.tp_laws.proofs.Members.{in-filter, in-append, in-map}
use Rattle.run_laws.proofs.Runs.{end-append, legal-parts, differ, in-children, taken-id}

-- nodes of one id are one node

pub in-passes : {A : Type 0} (test : A → Bool) (x : A) (xs : List A) → IsIn x (filter test xs) → test x ≡ true
in-passes test x [] h = absurd h
in-passes {A} test x (y ∷ xs) h = by_test (λ i. in-passes test x xs i) (test y) refl h where
  by_test : (IsIn x (filter test xs) → test x ≡ true) → (b : Bool) → test y ≡ b → IsIn x (cond b (y ∷ filter test xs) (filter test xs)) → test x ≡ true
  by_test ih true e (inl s) = sym (ap test s) ∙ e
  by_test ih true e (inr i) = ih i
  by_test ih false e i = ih i

other-id : (a b : Node) (ns : List Node) → each_pair differ (a ∷ ns) ≡ true → IsIn b ns → a.id ≡ b.id → ⊥
other-id a b ns apart h same =
    let e : not (a.id == b.id) ≡ true = each-in (λ k. not (a.id == k.id) ≡ true) ns b (each-true (differ a) ns (and_parts _ _ apart).0) h in
    false≢true (ap not (sym (eq-eqb a.id b.id same)) ∙ e)

pub same-node : (a b : Node) (ns : List Node) → each_pair differ ns ≡ true → IsIn a ns → IsIn b ns → a.id ≡ b.id → a ≡ b
same-node a b [] apart h k same = absurd h
same-node a b (n ∷ ns) apart (inl e) (inl d) same = sym e ∙ d
same-node a b (n ∷ ns) apart (inl e) (inr k) same = absurd (other-id n b ns apart k (ap (λ x. x.id) e ∙ same))
same-node a b (n ∷ ns) apart (inr h) (inl d) same = absurd (other-id n a ns apart h (ap (λ x. x.id) d ∙ sym same))
same-node a b (n ∷ ns) apart (inr h) (inr k) same = same-node a b ns (and_parts _ _ apart).1 h k same

-- the id was given, and a node that stands under it has this word and this taker
pub record IsHeld (m : Machine) (actor id : ℕ) (w : List Mark) : Type 0 where
  pub given : id < m.made
  pub word : (n : Node) → IsIn n m.nodes → n.id ≡ id → n.word ≡ w
  pub taker : (n : Node) → IsIn n m.nodes → n.id ≡ id → n.taker ≡ Some actor

module _ (p : Problem) (l : Limits) (actor id : ℕ) (w : List Mark) where
  held-same : (m n : Machine) → m.nodes ≡ n.nodes → m.made ≡ n.made → IsHeld m actor id w → IsHeld n actor id w
  held-same m n nodes made h = record {
    given = subst (λ k. id < k) made h.given;
    word = λ k i. h.word k (subst (λ ns. IsIn k ns) (sym nodes) i);
    taker = λ k i. h.taker k (subst (λ ns. IsIn k ns) (sym nodes) i);
  }

  held-drop : (m : Machine) (other : ℕ) → IsHeld m actor id w → IsHeld (step l m (Drop other)) actor id w
  held-drop m other h = record {
    given = h.given;
    word = λ n i. h.word n (in-filter (λ k. not (k.id == other)) n m.nodes i);
    taker = λ n i. h.taker n (in-filter (λ k. not (k.id == other)) n m.nodes i);
  }

  -- only an open node is taken
  held-take : (m : Machine) (a other : ℕ) → TakeIsLegal p l m a other → IsHeld m actor id w → IsHeld (step l m (Take a other)) actor id w
  held-take m a other legal h = record {
    given = h.given;
    word = λ n i e. let from = in-map (taken_by a other) n m.nodes i in let r = by_test n e from.0 from.1 from.2 (from.0.id == other) refl in r.0;
    taker = λ n i e. let from = in-map (taken_by a other) n m.nodes i in let r = by_test n e from.0 from.1 from.2 (from.0.id == other) refl in r.1;
  }
    where
      not_taken : other ≡ id → ⊥
      not_taken same =
          let there : IsIn legal.node m.nodes = in-filter is_open legal.node m.nodes legal.least.there in
          let open_one : is_open legal.node ≡ true = in-passes is_open legal.node m.nodes legal.least.there in
          false≢true (ap (λ o. not (is_some o)) (sym (h.taker legal.node there (legal.named ∙ same))) ∙ open_one)

      by_test : (n : Node) → n.id ≡ id → (k : Node) → IsIn k m.nodes → taken_by a other k ≡ n → (b : Bool) → (k.id == other) ≡ b → (n.word ≡ w) × (n.taker ≡ Some actor)
      by_test n e k i is true t = absurd (not_taken (sym (eqb-true k.id other t) ∙ sym (taken-id a other k) ∙ ap (λ x. x.id) is ∙ e))
      by_test n e k i is false t =
          let same : k ≡ n = sym (ap (λ b. cond b (record k { taker = Some a }) k) t) ∙ is in
          let named : k.id ≡ id = ap (λ x. x.id) same ∙ e in
          (sym (ap (λ x. x.word) same) ∙ h.word k i named, sym (ap (λ x. x.taker) same) ∙ h.taker k i named)

  held-expand : (m : Machine) (a other : ℕ) (marks : List Mark) → IsHeld m actor id w → IsHeld (step l m (Expand a other marks)) actor id w
  held-expand m a other marks h = record {
    given = let b : id < m.made = h.given in omega arith;
    word = λ n i e. h.word n (old n i e) e;
    taker = λ n i e. h.taker n (old n i e) e;
  }
    where
      old : (n : Node) → IsIn n (without other m.nodes ++ children (word_of other m.nodes) m.made marks) → n.id ≡ id → IsIn n m.nodes
      old n i e = elim (in-append n (without other m.nodes) (children (word_of other m.nodes) m.made marks) i) [
        | inl k ↦ in-filter (λ x. not (x.id == other)) n m.nodes k
        | inr k ↦ let c = in-children (word_of other m.nodes) m.made marks n k in absurd (omega (arith, c.new, e, h.given))
      ]

  held-step : (m : Machine) (e : Event) → Legal p l m e → IsHeld m actor id w → IsHeld (step l m e) actor id w
  held-step m (Tick a reading) legal h = held-same m (step l m (Tick a reading)) refl refl h
  held-step m (Drop other) legal h = held-drop m other h
  held-step m (Dispatch act) legal h = held-same m (step l m (Dispatch act)) refl refl h
  held-step m (Take a other) legal h = held-take m a other legal h
  held-step m (Expand a other marks) legal h = held-expand m a other marks h
  held-step m (Publish a other plan) legal h = held-same m (step l m (Publish a other plan)) refl refl h
  held-step m (Limit a other made marks) legal h = held-same m (step l m (Limit a other made marks)) refl refl h
  held-step m Exhaust legal h = held-same m (step l m Exhaust) refl refl h
  held-step m (Halt cause) legal h = held-same m (step l m (Halt cause)) refl refl h

  held-run : (m : Machine) (es : List Event) → AreLegal p l m es → IsHeld m actor id w → IsHeld (end_of l m es) actor id w
  held-run m [] legal h = h
  held-run m (e ∷ es) legal h = held-run (step l m e) es legal.1 (held-step m e legal.0 h)

-- a clock never goes back
later-run : (l : Limits) (m : Machine) (es : List Event) → m.now ≤ (end_of l m es).now
later-run l m [] = omega arith
later-run l m (Tick actor reading ∷ es) = omega (arith, later-run l (step l m (Tick actor reading)) es)
later-run l m (Drop id ∷ es) = later-run l (step l m (Drop id)) es
later-run l m (Dispatch act ∷ es) = later-run l (step l m (Dispatch act)) es
later-run l m (Take actor id ∷ es) = later-run l (step l m (Take actor id)) es
later-run l m (Expand actor id marks ∷ es) = later-run l (step l m (Expand actor id marks)) es
later-run l m (Publish actor id plan ∷ es) = later-run l (step l m (Publish actor id plan)) es
later-run l m (Limit actor id made marks ∷ es) = later-run l (step l m (Limit actor id made marks)) es
later-run l m (Exhaust ∷ es) = later-run l (step l m Exhaust) es
later-run l m (Halt cause ∷ es) = later-run l (step l m (Halt cause)) es

-- what a run says of a job that was taken in it
pub record JobStands (p : Problem) (l : Limits) (history : List Event) (actor : ℕ) (job : JobView) : Type 0 where
  pub held : IsHeld (state_of l history) actor job.id job.node.word
  pub clock : job.clock ≤ (state_of l history).now
  pub more : List Timed
  pub grown : (state_of l history).commits ≡ job.commits ++ more
  pub from : StartFrom job.clock more
  pub live : Live p l 0 [] job.node.word
  pub short : length job.node.word ≤ job.id

pub job-stands : (p : Problem) (l : Limits) → RunsLeadToTrees p l → CommitsGrow p l → (history : List Event) (actor : ℕ) (job : JobView) → IsRun p l history → IsJobOf l history actor job → JobStands p l history actor job
job-stands p l runs grow history actor job run j =
    let front : List Event = j.front ++ Take actor job.id ∷ [] in
    let m : Machine = state_of l front in
    let parts : AreLegal p l first front × AreLegal p l m j.rest = legal-parts p l first front j.rest (subst (AreLegal p l first) j.split run.legal) in
    let t : IsTree p l m = runs front (record { legal = parts.0 }) in
    let whole : IsRun p l (front ++ j.rest) = record { legal = subst (AreLegal p l first) j.split run.legal } in
    let g = grow front j.rest whole in
    let given : j.node.id < m.made = ltb-true j.node.id m.made (each-in (λ n. is_below m.made n ≡ true) m.nodes j.node (each-true (is_below m.made) m.nodes t.below) j.taken.there) in
    let same : (n : Node) → IsIn n m.nodes → n.id ≡ job.id → n ≡ j.node = λ n i e. same-node n j.node m.nodes t.told_apart i j.taken.there (e ∙ sym j.taken.named) in
    let held : IsHeld m actor job.id job.node.word = record {
      given = subst (λ k. k < m.made) j.taken.named given;
      word = λ n i e. ap (λ (k : Node). k.word) (same n i e) ∙ sym j.word;
      taker = λ n i e. ap (λ (k : Node). k.taker) (same n i e) ∙ j.taken.taken;
    } in
    let ends : end_of l m j.rest ≡ state_of l history = sym (ap (state_of l) j.split ∙ end-append l first front j.rest) in
    record {
      held = subst (λ s. IsHeld s actor job.id job.node.word) ends (held-run p l actor job.id job.node.word m j.rest parts.1 held);
      clock = subst (λ k. job.clock ≤ k) (ap (λ (s : Machine). s.now) ends) (subst (λ k. k ≤ (end_of l m j.rest).now) (sym j.clock) (later-run l m j.rest));
      more = g.0;
      grown = ap (λ h. (state_of l h).commits) j.split ∙ g.1 ∙ ap (λ cs. cs ++ g.0) (sym j.commits);
      from = subst (λ k. StartFrom k g.0) (sym j.clock) g.2;
      live = subst (λ w. Live p l 0 [] w) (sym j.word) (t.live j.node j.taken.there);
      short = subst (λ k. length job.node.word ≤ k) j.taken.named (subst (λ (w : List Mark). length w ≤ j.node.id) (sym j.word) (t.short j.node j.taken.there));
    }
