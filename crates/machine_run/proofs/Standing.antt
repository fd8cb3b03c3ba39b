-- One legal event more: what a run keeps.
use Rattle.std.proofs.Common.{◌≡◌, refl, sym, ap, subst, ◌∙◌, ℕ, ◌<◌, inl, inr, Bool, true, false, List, [], ◌∷◌, ◌++◌, length, take}
use Rattle.std.proofs.lemmas.Bool.{false≢true}
use Rattle.std.proofs.lemmas.List.{take_at}
use Rattle.tp_spec.specs.declared.event.Event.{Event}
use Rattle.tp_spec.specs.declared.event.Event.TheVariants.{Halt}
use Rattle.tp_spec.specs.declared.event.Cause.{Cause}
use Rattle.tp_spec.specs.declared.event.Cause.TheVariants.{Memory}
use Rattle.tp_spec.specs.declared.plan.Limits.{Limits}
use Rattle.tp_spec.specs.declared.plan.Timed.{Timed}
use Rattle.tp_spec.specs.declared.problem.Problem.{Problem}
use Rattle.tp_spec.specs.Machine.{Machine, first, step, state_of, AreLegal, IsRun, Legal, IsBetween}
use Rattle.run_laws.specs.Commitments.{CommitsGrow}
use Rattle.run_laws.specs.Histories.{IsTree}
use Rattle.run_laws.proofs.Runs.{tree-of, end-append, legal-append, legal-parts}
use Rattle.tp_laws.proofs.WordLaws.{word-laws}
use Rattle.word_frontier.specs.Nodes.{FrontierView}
use Rattle.machine_run.specs.Deeds.{IsRested, HasStart}
use Rattle.machine_run.specs.Frontiers.{Stands, CoversAll, IsFrontierOf}
use Rattle.machine_run.specs.Kept.{RunParts, IsKept}
use Rattle.machine_run.specs.Turns.{is_outcome, has_outcome}
use Rattle.machine_run.specs.Views.{RunView, state}
use Rattle.machine_run.proofs.Frontiers.{frontier-same}
use Rattle.machine_run.proofs.Outcomes.{over-of, outcome-behind, none-behind}

pub tree-stands : (r : RunView) → Stands r → IsTree r.problem r.limits (state r)
tree-stands r s = tree-of r.problem r.limits (word-laws r.problem r.limits s.formed).fronts r.history s.run

pub covers-all : (r : RunView) → Stands r → CoversAll r.problem r.limits (state r)
covers-all r s = (tree-stands r s).covers

-- the state behind one event more
pub state-behind : (l : Limits) (h : List Event) (e : Event) (new : List Event) → new ≡ h ++ e ∷ [] → state_of l new ≡ step l (state_of l h) e
state-behind l h e new grown = ap (state_of l) grown ∙ end-append l first h (e ∷ [])

pub rested-between : (r : RunView) → IsRested r → IsBetween r.problem r.limits (state r)
rested-between r rested = elim rested.settled [
  | inl o ↦ absurd (false≢true (sym (over-of r.limits r.history ∙ rested.standing) ∙ o))
  | inr q ↦ record { standing = over-of r.limits r.history ∙ rested.standing; quiet = q }
]

-- a run by its parts
abbrev pub run : Problem → Limits → List Event → FrontierView → RunView
run p l h f = record { problem = p; limits = l; history = h; frontier = f }

abbrev pub parts : RunView → List Timed → ℕ → ℕ → ℕ → Bool → RunParts
parts r commits len capacity clock over = record { run = r; commits = commits; len = len; capacity = capacity; clock = clock; over = over }

module _ {p : Problem} {l : Limits} {h : List Event} {f : FrontierView} {commits : List Timed} {len capacity clock : ℕ} {over : Bool} (kept : IsKept (parts (run p l h f) commits len capacity clock over)) where
  abbrev now_at : Machine
  now_at = state_of l h

  -- no outcome stands where the run is not over, and the other way round
  pub none-of : over ≡ false → has_outcome h ≡ false
  none-of e = sym kept.told ∙ e

  pub over-none : has_outcome h ≡ false → over ≡ false
  over-none e = kept.told ∙ e

  stands-step : (e : Event) (new : List Event) (g : FrontierView) → new ≡ h ++ e ∷ [] → g.ranks ≡ f.ranks → Legal p l now_at e
      → (has_outcome new ≡ false → IsFrontierOf p l g (step l now_at e)) → Stands (run p l new g)
  stands-step e new g grown ranks legal is = record {
    formed = kept.stands.formed;
    limited = kept.stands.limited;
    run = record { legal = subst (AreLegal p l first) (sym grown) (legal-append p l first h (e ∷ []) kept.stands.run.legal (legal, tt)) };
    queued = subst (λ n. length p.goal < n) (sym ranks) kept.stands.queued;
    frontier = λ none. subst (IsFrontierOf p l g) (sym (state-behind l h e new grown)) (is none);
  }

  -- an event that is no outcome
  pub kept-step : {new_commits : List Timed} {new_clock new_len new_capacity : ℕ} (e : Event) (new : List Event) (g : FrontierView) → over ≡ false → new ≡ h ++ e ∷ [] → g.ranks ≡ f.ranks → is_outcome e ≡ false
      → Legal p l now_at e → IsFrontierOf p l g (step l now_at e) → new_commits ≡ (step l now_at e).commits → new_clock ≡ (step l now_at e).now → new_len < new_capacity
      → IsKept (parts (run p l new g) new_commits new_len new_capacity new_clock over)
  kept-step e new g open_still grown ranks plain legal is committed told room = record {
    stands = stands-step e new g grown ranks legal (λ none. is);
    committed = committed ∙ sym (ap (λ (m : Machine). m.commits) (state-behind l h e new grown));
    told = open_still ∙ sym (none-behind h e new grown (none-of open_still) plain);
    clocked = λ none. told ∙ sym (ap (λ (m : Machine). m.now) (state-behind l h e new grown));
    room = λ none. room;
  }

  -- an outcome
  pub kept-end : {new_clock new_len new_capacity : ℕ} (e : Event) (new : List Event) (g : FrontierView) → new ≡ h ++ e ∷ [] → g.ranks ≡ f.ranks → is_outcome e ≡ true
      → Legal p l now_at e → (step l now_at e).commits ≡ now_at.commits → IsKept (parts (run p l new g) commits new_len new_capacity new_clock true)
  kept-end e new g grown ranks ends legal same =
      let is_over : has_outcome new ≡ true = outcome-behind h e new grown ends in record {
        stands = stands-step e new g grown ranks legal (λ none. absurd (false≢true (sym none ∙ is_over)));
        committed = kept.committed ∙ sym same ∙ sym (ap (λ (m : Machine). m.commits) (state-behind l h e new grown));
        told = sym is_over;
        clocked = λ none. absurd (false≢true (sym none));
        room = λ none. absurd (false≢true (sym none));
      }

  -- more room alone
  pub kept-lent : {new_len new_capacity : ℕ} (new : List Event) (g : FrontierView) → new ≡ h → g.nodes ≡ f.nodes → g.made ≡ f.made → g.ranks ≡ f.ranks → (over ≡ false → new_len < new_capacity)
      → IsKept (parts (run p l new g) commits new_len new_capacity clock over)
  kept-lent {new_len} {new_capacity} new g same nodes made ranks room = subst (λ es. IsKept (parts (run p l es g) commits new_len new_capacity clock over)) (sym same) (record {
    stands = record {
      formed = kept.stands.formed;
      limited = kept.stands.limited;
      run = kept.stands.run;
      queued = subst (λ n. length p.goal < n) (sym ranks) kept.stands.queued;
      frontier = λ none. frontier-same p l f g now_at now_at nodes made refl refl refl (kept.stands.frontier none);
    };
    committed = kept.committed;
    told = kept.told;
    clocked = kept.clocked;
    room = room;
  })

  -- a halt behind a settled run
  pub kept-halt : {new_clock new_len new_capacity : ℕ} (cause : Cause) (new : List Event) → IsRested (run p l h f) → new ≡ h ++ Halt cause ∷ []
      → IsKept (parts (run p l new f) commits new_len new_capacity new_clock true)
  kept-halt cause new rested grown = kept-end (Halt cause) new f grown refl refl (rested-between (run p l h f) rested) refl

module _ {p : Problem} {l : Limits} {h : List Event} {f : FrontierView} {commits : List Timed} {len capacity clock : ℕ} {over : Bool} (kept : IsKept (parts (run p l h f) commits len capacity clock over)) where
  pub kept-cut : {new_commits : List Timed} {new_clock new_len new_capacity : ℕ} (n held : ℕ) (new cut : List Event) → CommitsGrow p l → HasStart (run p l h f) n held → cut ≡ take n h → new_commits ≡ take held commits → new ≡ cut ++ Halt Memory ∷ []
      → IsKept (parts (run p l new f) new_commits new_len new_capacity new_clock true)
  kept-cut n held new cut grow start taken left grown =
      let more = grow start.front start.rest (subst (IsRun p l) start.grown kept.stands.run) in
      let front_is : cut ≡ start.front = taken ∙ ap (take n) start.grown ∙ take_at start.front start.rest n start.counted in
      let whole : new ≡ start.front ++ Halt Memory ∷ [] = grown ∙ ap (λ es. es ++ Halt Memory ∷ []) front_is in
      let legal : AreLegal p l first start.front = (legal-parts p l first start.front start.rest (subst (AreLegal p l first) start.grown kept.stands.run.legal)).0 in
      let is_over : has_outcome new ≡ true = outcome-behind start.front (Halt Memory) new whole refl in record {
        stands = record {
          formed = kept.stands.formed;
          limited = kept.stands.limited;
          run = record {
            legal = subst (AreLegal p l first) (sym whole)
                (legal-append p l first start.front (Halt Memory ∷ []) legal (rested-between (run p l start.front f) (record { standing = start.standing; settled = start.settled }), tt));
          };
          queued = kept.stands.queued;
          frontier = λ none. absurd (false≢true (sym none ∙ is_over));
        };
        committed = left
            ∙ ap (take held) (kept.committed ∙ ap (λ es. (state_of l es).commits) start.grown ∙ more.1)
            ∙ take_at (state_of l start.front).commits more.0 held start.committed
            ∙ sym (ap (λ (m : Machine). m.commits) (state-behind l start.front (Halt Memory) new whole));
        told = sym is_over;
        clocked = λ none. absurd (false≢true (sym none));
        room = λ none. absurd (false≢true (sym none));
      }
