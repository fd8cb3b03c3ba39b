-- Before the first event: the root alone.
use Rattle.std.proofs.Common.{◌≡◌, refl, sym, ap, subst, ◌∙◌, ℕ, ◌+◌, ◌<◌, inl, inr, true, false, ◌||◌, ◌&&◌, ◌==◌, nat_lt, nat_le, List, [], ◌∷◌, map, None, Some, arith}
use Rattle.std.proofs.lemmas.Bool.{and_from}
use Rattle.std.proofs.lemmas.Bool.Decides.{nat_tests}
use Rattle.tp_spec.specs.declared.event.Event.{Event}
use Rattle.tp_spec.specs.declared.plan.Limits.{Limits}
use Rattle.tp_spec.specs.declared.plan.Mark.{Mark}
use Rattle.tp_spec.specs.declared.plan.Timed.{Timed}
use Rattle.tp_spec.specs.declared.problem.Problem.{Problem}
use Rattle.tp_spec.specs.Lists.{IsIn}
use Rattle.tp_spec.specs.Machine.{Node, first, root, rank, candidate, IsQuiet, state_of}
use Rattle.tp_spec.specs.Schedules.{Live}
use Rattle.tp_spec.specs.Words.{Act, acts_of}
use Rattle.tp_laws.specs.Clocks.{IsDeadline}
use Rattle.word_frontier.specs.Nodes.{RankedNode, FrontierView}
use Rattle.word_network.specs.Conditions.{AreLimits}
use Rattle.machine_run.specs.Deeds.{IsRested}
use Rattle.machine_run.specs.Frontiers.{Stands, plain_node}
use Rattle.machine_run.specs.Turns.{has_outcome}
use Rattle.machine_run.specs.Kept.{IsKept, IsRoot}
use Rattle.machine_run.proofs.Frontiers.{IsTold, frontier-by}
use Rattle.machine_run.proofs.Standing.{run, parts}

-- the empty word is live at each clock
empty-live : (p : Problem) (l : Limits) (now : ℕ) → Live p l now [] []
empty-live p l now = record {
  sound = record { follows = tt };
  schedule = record { tick = λ g. g; end = λ a. 0 };
  is = record {
    rises = λ g below. absurd (omega (arith, below));
    within = λ g below. absurd (omega (arith, below));
    timed = λ k. tt;
    before_next = λ g below. absurd (omega (arith, below));
    lengths = λ a h. absurd h;
    open_late = λ a g h. absurd h;
    on_time = λ a k. tt;
    late = λ c g h. absurd h;
    few = omega arith;
  };
}

empty-deadline : (p : Problem) (l : Limits) → IsDeadline p l [] [] (l.horizon + 1)
empty-deadline p l = record { within = omega arith; tells = λ now below. (λ live. below, λ late. empty-live p l now) }

worse-itself : (a i : ℕ) → (nat_lt a a || (a == a && nat_le i i)) ≡ true
worse-itself a i = grind (arith, nat_tests)

abbrev root_node : Problem → ℕ → RankedNode
root_node p horizon = record { id = 0; word = []; rank = rank p []; deadline = horizon + 1; known = 0; taker = None }

module _ (p : Problem) (l : Limits) (f : FrontierView) (h : List Event) (limited : AreLimits l) (r : IsRoot p l.horizon f) (begun : h ≡ []) where
  told : (n : RankedNode) → IsIn n (root_node p l.horizon ∷ []) → IsTold p l [] n
  told n (inl e) = subst (IsTold p l []) e (record { ranked = refl; known = omega arith; timely = empty-deadline p l })
  told n (inr i) = absurd i

  pub root-stands : Stands (run p l h f)
  root-stands = subst (λ es. Stands (run p l es f)) (sym begun) (record {
    formed = r.formed;
    limited = limited;
    run = record { legal = tt };
    queued = r.ranks;
    frontier = λ none. frontier-by p l f first (ap (map plain_node) r.nodes) r.made (λ n i. told n (subst (λ ns. IsIn n ns) r.nodes i));
  })

  pub root-kept : {commits : List Timed} {len capacity : ℕ} → commits ≡ [] → len < capacity → IsKept (parts (run p l h f) commits len capacity 0 false)
  root-kept {commits} {len} {capacity} no_commits room = record {
    stands = root-stands;
    committed = no_commits ∙ sym (ap (λ es. (state_of l es).commits) begun);
    told = sym (ap has_outcome begun);
    clocked = λ none. sym (ap (λ es. (state_of l es).now) begun);
    room = λ none. room;
  }

  pub root-rested : IsRested (run p l h f)
  root-rested = subst (λ es. IsRested (run p l es f)) (sym begun) (record { standing = refl; settled = inr quiet }) where
    root-word : (n : Node) → IsIn n (root ∷ []) → n.word ≡ []
    root-word n (inl e) = sym (ap (λ (k : Node). k.word) e)
    root-word n (inr i) = absurd i

    none-next : (w : List Mark) (next : Act) → w ≡ [] → candidate [] [] (acts_of p w) ≡ Some next → ⊥
    none-next w next e is = never (sym (ap (λ v. candidate [] [] (acts_of p v)) e) ∙ is) where
      never : None ≡ Some next → ⊥
      never h = absurd cc

    quiet : IsQuiet p l first
    quiet = record {
      node = root;
      best = record { there = inl refl; least = and_from _ _ (worse-itself (rank p []) 0) refl };
      live = empty-live p l 0;
      not_urgent = λ act due. none-next (due.node.word) (due.next) (root-word due.node due.best.there) due.is_next;
    }
