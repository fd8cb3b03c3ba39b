-- What an act that is due keeps: commitments in turn, and plans that were possible.
use Rattle.std.proofs.Common.{◌≡◌, refl, sym, ap, subst, ◌∙◌, ℕ, suc, ◌+◌, ◌-◌, ◌<◌, ◌≤◌, ◌==◌, nat_lt, nat_le, Bool, true, false, not, ◌&&◌, ◌||◌, List, [], ◌∷◌, ◌++◌, length, arith}
use Rattle.std.specs.Prelude.{IfSome, slice_get}
use Rattle.std.specs.List.{list_all}
use Rattle.std.proofs.lemmas.Bool.{and_parts, and_from, false≢true, eqb-true, lt-ltb, le-leb}
use Rattle.std.proofs.lemmas.List.{length-append}
use Rattle.std.proofs.lemmas.List.Folds.{list_all-append, list_any-append}
use Rattle.std.proofs.lemmas.Option.{slice_get_within, slice_get_past}
use Rattle.tp_spec.specs.declared.plan.Limits.{Limits}
use Rattle.tp_spec.specs.declared.plan.Plan.{Plan}
use Rattle.tp_spec.specs.declared.plan.Timed.{Timed}
use Rattle.tp_spec.specs.declared.problem.Problem.{Problem}
use Rattle.tp_spec.specs.Courses.{Possible, has_act, same_act, in_range}
use Rattle.tp_spec.specs.Lists.{IsIn, each_pair}
use Rattle.tp_spec.specs.Words.{Act, acts_of}
use Rattle.tp_spec.specs.Schedules.{IsInLength, IsOnTime, finish, awaited, acts_by, commits_by}
use Rattle.tp_spec.specs.Machine.{Machine, IsDue}
use Rattle.run_laws.specs.Commitments.{AreCommitted}
use Rattle.tp_laws.proofs.EarlyLists.{true-each}
use Rattle.tp_laws.proofs.Members.{in-filter}
use Rattle.tp_laws.proofs.ClockCommits.{in_get}
use Rattle.tp_laws.proofs.ValidOfLists.{each-of}
use Rattle.run_laws.proofs.Candidates.{IsNextOf, next-place, awaited-met, commits-few, acts-follow, starts-before}

-- an act that may be the next commitment
pub record IsNext (p : Problem) (l : Limits) (now : ℕ) (commits : List Timed) (act : Timed) : Type 0 where
  pub from_now : now ≤ act.start
  pub behind : (c : Timed) → IsIn c commits → c.action ≡ act.action → c.start < act.start
  pub within : act.start + act.length ≤ l.horizon
  pub ranged : in_range p act.action act.length ≡ true
  pub few : suc (length commits) ≤ l.actions

-- what an act that is due has from its schedule
module _ (p : Problem) (l : Limits) (m : Machine) (act : Timed) (due : IsDue p l m act) where
  abbrev pub due-acts : List Act
  due-acts = acts_of p due.node.word

  pub due-here : IsNextOf m.commits due-acts due.next
  due-here = next-place m.commits due-acts due.next due.is_next

  pub due-in : IsIn due.next due-acts
  due-in = in-filter (λ y. y.action == due.next.action) due.next due-acts (in_get (acts_by due.next.action due-acts) _ due.next due-here)

  pub due-spans : IsInLength p l due.schedule due.next
  due-spans = due.greatest.is.lengths due.next due-in

  pub due-clock : m.now ≤ due.schedule.tick due.next.opens
  due-clock =
      subst (IsOnTime due.schedule m.now due.next) (slice_get_past (commits_by due.next.action m.commits) (length (commits_by due.next.action m.commits)) (omega arith))
      (subst (λ o. IfSome o (λ a. IsOnTime due.schedule m.now a (slice_get (commits_by due.next.action m.commits) (length (commits_by due.next.action m.commits))))) due-here (due.greatest.is.on_time due.next.action (length (commits_by due.next.action m.commits))))

  pub due-action : act.action ≡ due.next.action
  due-action = ap (λ t. t.action) due.is

  pub due-start : act.start ≡ due.schedule.tick due.next.opens
  due-start = ap (λ t. t.start) due.is

  pub due-lasts : act.length ≡ finish due.schedule due.next - due.schedule.tick due.next.opens
  due-lasts = ap (λ t. t.length) due.is

  -- it is awaited no more than before
  pub due-met : awaited due-acts (m.commits ++ act ∷ []) ≡ awaited due-acts m.commits
  due-met = awaited-met due-acts m.commits act (subst (λ a. length (commits_by a m.commits) < length (acts_by a due-acts)) (sym due-action) (slice_get_within (acts_by due.next.action due-acts) _ due.next due-here))

  pub due-next : IsNext p l m.now m.commits act
  due-next = record {
    from_now = omega (arith, due-start, due-clock);
    behind = λ c i same.
        let before : c.start < due.schedule.tick due.next.opens = starts-before due.schedule m.now due-acts m.commits due.greatest.is.on_time (acts-follow p l m.now m.commits due.node.word due.schedule due.live.sound due.greatest.is) due.next due-here c i (same ∙ due-action) in
        omega (arith, before, due-start);
    within = omega (arith, due-start, due-lasts, due-spans.forward, due-spans.within);
    ranged = (λ i. in_range p (due-action i) (due-lasts i)) ∙ due-spans.allowed;
    few = omega (arith, due.greatest.is.few, ap length due-met, commits-few due-acts (m.commits ++ act ∷ []), length-append m.commits (act ∷ []));
  }

-- whether an act is one of the commitments, or starts at the clock or later and behind those of its action
abbrev pub is_later : ℕ → List Timed → Timed → Bool
is_later now commits x = has_act commits x || (nat_le now x.start && list_all (λ c. not (c.action == x.action) || nat_lt c.start x.start) commits)

pub record IsSame (x y : Timed) : Type 0 where
  pub action : x.action ≡ y.action
  pub start : x.start ≡ y.start
  pub length : x.length ≡ y.length

pub same-act : (x y : Timed) → same_act x y ≡ true → IsSame x y
same-act x y h = record {
  action = eqb-true x.action y.action (and_parts _ _ (and_parts _ _ h).0).0;
  start = eqb-true x.start y.start (and_parts _ _ (and_parts _ _ h).0).1;
  length = eqb-true x.length y.length (and_parts _ _ h).1;
}

-- two tests of three
first-two : (a b c : Bool) → (a && (b && (c && true))) ≡ true → (a && b) ≡ true
first-two true true c h = refl
first-two true false c h = absurd (false≢true h)
first-two false b c h = absurd (false≢true h)

-- one member more

pub all-push : {A : Type 0} (test : A → Bool) (xs : List A) (y : A) → list_all test xs ≡ true → test y ≡ true → list_all test (xs ++ y ∷ []) ≡ true
all-push test xs y h k = list_all-append test xs (y ∷ []) ∙ and_from _ _ h (and_from _ _ k refl)

pair-push : {A : Type 0} (test : A → A → Bool) (xs : List A) (y : A) → each_pair test xs ≡ true → list_all (λ x. test x y) xs ≡ true → each_pair test (xs ++ y ∷ []) ≡ true
pair-push test [] y h k = refl
pair-push test (x ∷ xs) y h k = and_from _ _ (all-push (test x) xs y (and_parts _ _ h).0 (and_parts _ _ k).0) (pair-push test xs y (and_parts _ _ h).1 (and_parts _ _ k).1)

module _ (p : Problem) (l : Limits) (now : ℕ) (commits : List Timed) (act : Timed) (next : IsNext p l now commits act) where
  -- each commitment is of another action or starts before one that starts with the act
  all-before : (x : Timed) → x.action ≡ act.action → x.start ≡ act.start → list_all (λ c. not (c.action == x.action) || nat_lt c.start x.start) commits ≡ true
  all-before x e s = true-each (λ c. not (c.action == x.action) || nat_lt c.start x.start) commits (each-of (λ c. (not (c.action == x.action) || nat_lt c.start x.start) ≡ true) commits (λ c i. by_test c i (c.action == x.action) refl)) where
    by_test : (c : Timed) → IsIn c commits → (b : Bool) → (c.action == x.action) ≡ b → (not b || nat_lt c.start x.start) ≡ true
    by_test c i false f = refl
    by_test c i true f = lt-ltb c.start x.start (omega (arith, next.behind c i (eqb-true c.action x.action f ∙ e), s))

  pub committed-more : AreCommitted p l commits → AreCommitted p l (commits ++ act ∷ [])
  committed-more h = record {
    in_turn = pair-push (λ c d. not (c.action == d.action) || nat_lt c.start d.start) commits act h.in_turn (all-before act refl refl);
    within = all-push (λ c. nat_le (c.start + c.length) l.horizon) commits act h.within (le-leb (act.start + act.length) l.horizon next.within);
    ranged = all-push (λ c. in_range p c.action c.length) commits act h.ranged next.ranged;
    few = omega (arith, next.few, length-append commits (act ∷ []));
  }

  -- a plan that is possible with the act among the commitments was possible before
  pub possible-fewer : (plan : Plan) → Possible p l now (commits ++ act ∷ []) plan → Possible p l now commits plan
  possible-fewer plan h = record {
    valid = h.valid;
    committed = (and_parts _ _ (sym (list_all-append (has_act plan.acts) commits (act ∷ [])) ∙ h.committed)).0;
    later = fewer-later plan.acts h.later;
  }
    where
      one : (x : Timed) → is_later now (commits ++ act ∷ []) x ≡ true → is_later now commits x ≡ true
      one x h =
          by_tests (has_act commits x) (same_act x act) refl
          (sym (λ i. list_any-append (same_act x) commits (act ∷ []) i || (nat_le now x.start && list_all-append (λ c. not (c.action == x.action) || nat_lt c.start x.start) commits (act ∷ []) i)) ∙ h)
        where
          by_tests : (a b : Bool) → same_act x act ≡ b
              → ((a || (b || false)) || (nat_le now x.start && (list_all (λ c. not (c.action == x.action) || nat_lt c.start x.start) commits && ((not (act.action == x.action) || nat_lt act.start x.start) && true)))) ≡ true
              → (a || (nat_le now x.start && list_all (λ c. not (c.action == x.action) || nat_lt c.start x.start) commits)) ≡ true
          by_tests true b e k = refl
          by_tests false true e k =
              let same : IsSame x act = same-act x act e in
              and_from _ _ (le-leb now x.start (omega (arith, next.from_now, same.start))) (all-before x same.action same.start)
          by_tests false false e k = first-two (nat_le now x.start) (list_all (λ c. not (c.action == x.action) || nat_lt c.start x.start) commits) (not (act.action == x.action) || nat_lt act.start x.start) k

      fewer-later : (xs : List Timed) → list_all (is_later now (commits ++ act ∷ [])) xs ≡ true → list_all (is_later now commits) xs ≡ true
      fewer-later [] h = refl
      fewer-later (x ∷ xs) h = and_from _ _ (one x (and_parts _ _ h).0) (fewer-later xs (and_parts _ _ h).1)
