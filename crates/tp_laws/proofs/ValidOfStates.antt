-- Where the acts of a plan spell a sound word whose last group closes, each tick up to its end passes.
use Rattle.std.proofs.Common.{◌≡◌, refl, sym, ap, subst, ◌∙◌, ℕ, zero, suc, ◌+◌, ◌<◌, ◌≤◌, ◌==◌, ◌⊎◌, inl, inr, Bool, true, false, not, ◌&&◌, ◌||◌, cond, List, [], ◌∷◌, ◌++◌, map, length, Option, Some, None, arith, IsSome, IsTrue}
use Rattle.std.specs.Prelude.{slice_get}
use Rattle.std.specs.List.{AllByRecursion as Each, list_any, list_all, filter, range_with_len}
use Rattle.std.specs.Option.{option_and_then}
use Rattle.std.proofs.lemmas.Bool.{and_parts, and_from, and_right, or_left, or_right, or_from, not_from_true, false≢true, eqb-true, eq-eqb, ltb-true, leb-true, cases_lt}
use Rattle.std.proofs.lemmas.Option.{slice_get_past}
use Rattle.tp_spec.specs.declared.plan.Item.{Item}
use Rattle.tp_spec.specs.declared.plan.Item.TheVariants.{TimedAt, End, Start}
use Rattle.tp_spec.specs.declared.plan.Mark.{Mark}
use Rattle.tp_spec.specs.declared.plan.Timed.{Timed}
use Rattle.tp_spec.specs.declared.problem.Action.{Action}
use Rattle.tp_spec.specs.declared.problem.Kind.{Kind}
use Rattle.tp_spec.specs.declared.problem.Kind.TheVariants.{Instant, Durative}
use Rattle.tp_spec.specs.declared.problem.Problem.{Problem}
use Rattle.tp_spec.specs.Lists.{is_empty, some_and, IsIn}
use Rattle.tp_spec.specs.States.{State, initial, holds}
use Rattle.tp_spec.specs.Items.{all_items, own, after, has_after, next, effects_of, invariants, is_durative, is_durative_kind}
use Rattle.tp_spec.specs.Courses.{Passes, stands, happening, state_before, keeps_invariants, runs_at, in_range, allows_length}
use Rattle.tp_spec.specs.Words.{Progress, Follow, may_join, closes, past_group, state_past, runs_after, keeps_running, read_mark, read_on, progress, with_item, at_start, is_start_of, is_end_of, marked, joining, spelled}
use Rattle.tp_laws.proofs.States.{next-none}
use Rattle.tp_laws.proofs.Readings.{read_on-append, before-joining, group-joining, past-marked}
use Rattle.tp_laws.proofs.EarlyReading.{Opens, spelled-rest, follow-front, follow-back, grown, Chain, chain-to, marked-follow, only-apart}
use Rattle.tp_laws.proofs.EarlyLists.{each-in, each-true, true-each, in-right}
use Rattle.tp_laws.proofs.Members.{map-in}
use Rattle.tp_laws.proofs.WordOfLists.{range-in, filter-in}
use Rattle.tp_laws.proofs.ValidOfLists.{Pairs, each-of, any-true}

-- a group closes where a group or nothing comes next
front-closes : (p : Problem) (c : Progress) (v : List Mark) → Opens v → Follow p c v → closes p (read_on p c v) ≡ true → closes p c ≡ true
front-closes p c [] o f h = h
front-closes p c (m ∷ v) o f h = (and_parts _ _ (subst (λ b. IsTrue (cond b (closes p c && may_join p (past_group p c) m.item) (not (is_empty c.group) && may_join p c m.item))) o f.0)).0

-- nothing runs before the first group
abbrev Begun : Progress → Type 0
Begun c = is_empty c.group ≡ true → (a : ℕ) → c.running a ≡ false

begun-on : (p : Problem) (c : Progress) (w : List Mark) → Begun c → Begun (read_on p c w)
begun-on p c [] h = h
begun-on p c (m ∷ w) h = begun-on p (read_mark p c m) w (λ e. absurd (false≢true (sym (grown (cond m.fresh (past_group p c) c).group m.item) ∙ e)))

running-joining : (p : Problem) (c : Progress) (is : List Item) → (read_on p c (map joining is)).running ≡ c.running
running-joining p c [] = refl
running-joining p c (i ∷ is) = running-joining p (with_item c i) is

-- what runs after a happening
runs-marked : (p : Problem) (c : Progress) (is : List Item) (a : ℕ) → runs_after p (read_on p c (marked is)) a ≡ ((list_any (is_start_of a) is && is_durative p a) || (runs_after p c a && not (list_any (is_end_of a) is)))
runs-marked p c [] a = sym (stays (runs_after p c a)) where
  stays : (b : Bool) → (b && true) ≡ b
  stays true = refl
  stays false = refl
runs-marked p c (i ∷ is) a =
    let d : Progress = with_item (past_group p c) i in
    λ k. (list_any (is_start_of a) (group-joining p d is k) && is_durative p a) || (running-joining p d is k a && not (list_any (is_end_of a) (group-joining p d is k)))

either-of : (b c : Bool) → b ≡ false → (b || c) ≡ true → c ≡ true
either-of true c e h = absurd (false≢true (sym e))
either-of false c e h = h

-- a group that closes has a state after it
marked-after : (p : Problem) (c : Progress) (is : List Item) → closes p (read_on p c (marked is)) ≡ true → has_after p (state_past p c) is ≡ true
marked-after p c [] h = refl
marked-after p c (i ∷ is) h =
    let d : Progress = with_item (past_group p c) i in
    let e : Progress = read_on p d (map joining is) in
    let group : e.group ≡ i ∷ is = group-joining p d is in
    let some : is_empty e.group ≡ false = ap is_empty group in
    (λ k. has_after p (sym (before-joining p d is) k) (sym group k)) ∙ (and_parts _ _ (either-of (is_empty e.group) (has_after p e.before e.group && keeps_running p e) some h)).0

-- and keeps the invariants of what runs after it
closed-keeps : (p : Problem) (c : Progress) (a : ℕ) → Begun c → closes p c ≡ true → a < length p.actions → runs_after p c a ≡ true → list_all (holds (state_past p c)) (invariants p a) ≡ true
closed-keeps p c a begun shut there runs = by_group (is_empty c.group) refl shut where
  still : (is : List Item) → is_empty is ≡ true → c.running a ≡ false → ((list_any (is_start_of a) is && is_durative p a) || (c.running a && not (list_any (is_end_of a) is))) ≡ false
  still [] e h = ap (λ b. b && true) h
  still (i ∷ is) e h = absurd (false≢true e)

  by_group : (b : Bool) → is_empty c.group ≡ b → (b || (has_after p c.before c.group && keeps_running p c)) ≡ true → list_all (holds (state_past p c)) (invariants p a) ≡ true
  by_group true e h = absurd (false≢true (sym (still c.group e (begun e a)) ∙ runs))
  by_group false e h =
      let place : IsIn a (range_with_len 0 (length p.actions)) = range-in a 0 (length p.actions) (omega arith) (omega (arith, there)) in
      let all = each-true (λ b. not (runs_after p c b) || list_all (holds (state_past p c)) (invariants p b)) (range_with_len 0 (length p.actions)) (and_parts _ _ h).1 in
      either-of (not (runs_after p c a)) _ (not_from_true _ runs) (each-in (λ b. (not (runs_after p c b) || list_all (holds (state_past p c)) (invariants p b)) ≡ true) (range_with_len 0 (length p.actions)) a all place)

-- of two acts of one action the earlier ends no later than the later starts
abbrev pub Turn : Timed → Timed → Type 0
Turn x y = x.action ≡ y.action → x.start + x.length ≤ y.start

never-by : (b c : Bool) → (b ≡ true → c ≡ true → ⊥) → (b && c) ≡ false
never-by true true f = absurd (f refl refl)
never-by true false f = refl
never-by false c f = refl

-- no act of an action ends while another one runs
none-ends : (x : Timed) (t : ℕ) (acts : List Timed) → x.start < t → t < x.start + x.length → IsIn x acts → Pairs Turn acts → list_any (λ y. y.action == x.action && y.start + y.length == t) acts ≡ false
none-ends x t [] b c i r = refl
none-ends x t (y ∷ ys) b c (inl e) r = or_from _ _ (never-by (y.action == x.action) (y.start + y.length == t) self) (others ys r.0) where
  self : (y.action == x.action) ≡ true → (y.start + y.length == t) ≡ true → ⊥
  self f g = omega (arith, c, eqb-true _ _ g, ap (λ (z : Timed). z.start + z.length) e)

  others : (zs : List Timed) → Each (Turn y) zs → list_any (λ z. z.action == x.action && z.start + z.length == t) zs ≡ false
  others [] h = refl
  others (z ∷ zs) h = or_from _ _ (never-by (z.action == x.action) (z.start + z.length == t) (λ f g. omega (arith, c, eqb-true _ _ g, h.0 (ap (λ (u : Timed). u.action) e ∙ sym (eqb-true _ _ f)), ap (λ (u : Timed). u.start + u.length) e))) (others zs h.1)
none-ends x t (y ∷ ys) b c (inr i) r = or_from _ _ (never-by (y.action == x.action) (y.start + y.length == t) (λ f g. omega (arith, b, eqb-true _ _ g, each-in (Turn y) ys x r.0 i (eqb-true _ _ f)))) (none-ends x t ys b c i r.1)

-- what is found among the items of a happening
end-only : (test : Item → Bool) (a : ℕ) (i : Item) → test i ≡ true → test (End a) ≡ false → is_end_of a i ≡ false
end-only test a (TimedAt k) h e = refl
end-only test a (Start b) h e = refl
end-only test a (End b) h e = by_test (a == b) refl where
  by_test : (c : Bool) → (a == b) ≡ c → (a == b) ≡ false
  by_test true f = absurd (false≢true (sym e ∙ ap (λ j. test (End j)) (eqb-true a b f) ∙ h))
  by_test false f = f

no-end : (test : Item → Bool) (a : ℕ) (is : List Item) → test (End a) ≡ false → list_any (is_end_of a) (filter test is) ≡ false
no-end test a [] e = refl
no-end test a (i ∷ is) e = by_test (no-end test a is e) (test i) refl where
  by_test : list_any (is_end_of a) (filter test is) ≡ false → (b : Bool) → test i ≡ b → list_any (is_end_of a) (cond b (i ∷ filter test is) (filter test is)) ≡ false
  by_test ih true h = or_from _ _ (end-only test a i h e) ih
  by_test ih false h = ih

start-there : (p : Problem) (a : ℕ) → a < length p.actions → IsIn (Start a) (all_items p)
start-there p a b =
    let place : IsIn a (range_with_len 0 (length p.actions)) = range-in a 0 (length p.actions) (omega arith) (omega (arith, b)) in
    let others : List Item = map TimedAt (range_with_len 0 (length p.timed)) ++ map End (range_with_len 0 (length p.actions)) in
    in-right (Start a) others (map Start (range_with_len 0 (length p.actions))) (map-in Start a (range_with_len 0 (length p.actions)) place)

-- an act that takes time is of a durative action
takes-time : (p : Problem) (a n : ℕ) → 0 < n → in_range p a n ≡ true → is_durative p a ≡ true
takes-time p a n b h = by_action (slice_get p.actions a) h where
  by_kind : (k : Kind) → allows_length k n ≡ true → is_durative_kind k ≡ true
  by_kind Instant e = absurd (omega (arith, b, eqb-true n 0 e))
  by_kind (Durative least most) e = refl

  by_action : (o : Option Action) → some_and o (λ x. allows_length x.kind n) ≡ true → some_and o (λ x. is_durative_kind x.kind) ≡ true
  by_action None e = absurd (false≢true e)
  by_action (Some x) e = by_kind x.kind e

pub of-actions : (p : Problem) (a n : ℕ) → in_range p a n ≡ true → a < length p.actions
of-actions p a n h = by_order (cases_lt a (length p.actions)) where
  by_order : (a < length p.actions) ⊎ (length p.actions ≤ a) → a < length p.actions
  by_order (inl b) = b
  by_order (inr b) = absurd (false≢true (ap (λ o. some_and o (λ x. allows_length x.kind n)) (sym (slice_get_past p.actions a b)) ∙ h))

runs-span : (t : ℕ) (x : Timed) → runs_at t x ≡ true → (x.start ≤ t) × (t < x.start + x.length)
runs-span t x e = (leb-true x.start t (and_parts _ _ e).0, ltb-true t (x.start + x.length) (and_parts _ _ e).1)

longer : {m n t : ℕ} → (m ≤ t) × (t < m + n) → 0 < n
longer h = omega (arith, h.0, h.1)

module _ (p : Problem) (acts : List Timed) where
  abbrev pub at : ℕ → Progress
  at t = progress p (spelled p acts t)

  moved : (t : ℕ) → at (suc t) ≡ read_on p (at t) (marked (happening p acts t))
  moved t = read_on-append p (at_start p) (spelled p acts t) (marked (happening p acts t))

  -- what runs after a tick
  runs-next : (t a : ℕ) → runs_after p (at (suc t)) a ≡ ((list_any (is_start_of a) (happening p acts t) && is_durative p a) || (runs_after p (at t) a && not (list_any (is_end_of a) (happening p acts t))))
  runs-next t a = ap (λ c. runs_after p c a) (moved t) ∙ runs-marked p (at t) (happening p acts t) a

  -- an act of the plan that takes time
  record Lasts (x : Timed) : Type 0 where
    among : IsIn x acts
    durative : is_durative p x.action ≡ true
    known : x.action < length p.actions

  starts-here : (x : Timed) (t : ℕ) → Lasts x → x.start ≡ t → runs_after p (at (suc t)) x.action ≡ true
  starts-here x t h e =
      let stand : stands p acts t (Start x.action) ≡ true = any-true (λ y. y.action == x.action && y.start == t) acts x h.among (and_from _ _ (eq-eqb x.action x.action refl) (eq-eqb x.start t e)) in
      let item : list_any (is_start_of x.action) (happening p acts t) ≡ true = any-true (is_start_of x.action) (happening p acts t) (Start x.action) (filter-in (stands p acts t) (all_items p) (Start x.action) (start-there p x.action h.known) stand) (eq-eqb x.action x.action refl) in
      runs-next t x.action ∙ or_left _ _ (and_from _ _ item h.durative)

  -- it runs from the tick of its start on until its end
  runs-through : (x : Timed) → Lasts x → Pairs Turn acts → (t : ℕ) → x.start ≤ t → t < x.start + x.length → runs_after p (at (suc t)) x.action ≡ true
  runs-through x h turn zero b c = starts-here x zero h (omega (arith, b))
  runs-through x h turn (suc t) b c = by_order (cases_lt x.start (suc t)) (λ le. runs-through x h turn t le (omega (arith, c))) where
    by_order : (x.start < suc t) ⊎ (suc t ≤ x.start) → (x.start ≤ t → runs_after p (at (suc t)) x.action ≡ true) → runs_after p (at (suc (suc t))) x.action ≡ true
    by_order (inr le) ih = starts-here x (suc t) h (omega (arith, b, le))
    by_order (inl lt) ih =
        let quiet : stands p acts (suc t) (End x.action) ≡ false = and_right (is_durative p x.action) _ (none-ends x (suc t) acts lt c h.among turn) in
        let none : list_any (is_end_of x.action) (happening p acts (suc t)) ≡ false = no-end (stands p acts (suc t)) x.action (all_items p) quiet in
        runs-next (suc t) x.action ∙ or_right (list_any (is_start_of x.action) (happening p acts (suc t)) && is_durative p x.action) _ (and_from _ _ (ih (omega (arith, lt))) (ap not none))

-- acts of which no two of one action overlap, each of an allowed length, which spell a sound word
-- whose last group closes
pub record Spells (p : Problem) (acts : List Timed) (n : ℕ) : Type 0 where
  pub follows : Follow p (at_start p) (spelled p acts n)
  pub shut : closes p (progress p (spelled p acts n)) ≡ true
  pub turn : Pairs Turn acts
  pub ranged : Each (λ x. in_range p x.action x.length ≡ true) acts

module _ (p : Problem) (acts : List Timed) (n : ℕ) (spells : Spells p acts n) where
  -- the groups before a tick close
  shut-at : (t : ℕ) → t ≤ n → closes p (at p acts t) ≡ true
  shut-at t b =
      let rest = spelled-rest p acts t n b in
      let follows : Follow p (at_start p) (spelled p acts t ++ rest.0) = subst (Follow p (at_start p)) rest.1 spells.follows in
      let shut : closes p (read_on p (at p acts t) rest.0) ≡ true = subst (λ c. closes p c ≡ true) (ap (progress p) rest.1 ∙ read_on-append p (at_start p) (spelled p acts t) rest.0) spells.shut in
      front-closes p (at p acts t) rest.0 rest.2 (follow-back p (at_start p) (spelled p acts t) rest.0 follows) shut

  lasting : (t : ℕ) → t < n → has_after p (state_past p (at p acts t)) (happening p acts t) ≡ true
  lasting t b = marked-after p (at p acts t) (happening p acts t) (subst (λ c. closes p c ≡ true) (moved p acts t) (shut-at (suc t) (omega (arith, b))))

  -- the state before a tick is the one after the groups before it
  pub state-at : (t : ℕ) → t ≤ n → state_before p acts t ≡ Some (state_past p (at p acts t))
  state-at zero b = ap Some (sym (next-none (initial p)))
  state-at (suc t) b =
      let is : List Item = happening p acts t in
      let s : State = state_past p (at p acts t) in
      ap (option_and_then (λ s. after p s is)) (state-at t (omega (arith, b)))
      ∙ ap (λ c. cond c (Some (next s (effects_of p is))) None) (lasting t b)
      ∙ ap Some (sym (past-marked p (at p acts t) is) ∙ ap (state_past p) (sym (moved p acts t)))

  asked : (t : ℕ) → t < n → (list_all (own p (state_past p (at p acts t))) (happening p acts t) ≡ true) × Chain p [] (happening p acts t)
  asked t b =
      let rest = spelled-rest p acts (suc t) n (omega (arith, b)) in
      let up_to : Follow p (at_start p) (spelled p acts (suc t)) = follow-front p (at_start p) (spelled p acts (suc t)) rest.0 (subst (Follow p (at_start p)) rest.1 spells.follows) in
      marked-follow p (at p acts t) (happening p acts t) (follow-back p (at_start p) (spelled p acts t) (marked (happening p acts t)) up_to)

  -- the invariants of what runs at a tick hold after it
  keeps : (t : ℕ) → t < n → keeps_invariants p acts t (state_past p (at p acts (suc t))) ≡ true
  keeps t b = true-each _ acts (each-of (λ x. (not (runs_at t x) || list_all (holds (state_past p (at p acts (suc t)))) (invariants p x.action)) ≡ true) acts (λ x i. by_test x i (runs_at t x) refl)) where
    by_test : (x : Timed) → IsIn x acts → (c : Bool) → runs_at t x ≡ c → (not c || list_all (holds (state_past p (at p acts (suc t)))) (invariants p x.action)) ≡ true
    by_test x i false e = refl
    by_test x i true e =
        let span : (x.start ≤ t) × (t < x.start + x.length) = runs-span t x e in
        let ranged : in_range p x.action x.length ≡ true = each-in (λ y. in_range p y.action y.length ≡ true) acts x spells.ranged i in
        let known : x.action < length p.actions = of-actions p x.action x.length ranged in
        let lasts : Lasts p acts x = record { among = i; durative = takes-time p x.action x.length (longer span) ranged; known = known } in
        closed-keeps p (at p acts (suc t)) x.action (begun-on p (at_start p) (spelled p acts (suc t)) (λ f a. refl)) (shut-at (suc t) b) known (runs-through p acts x lasts spells.turn t span.0 span.1)

  pub passes : (t : ℕ) → t < n → Passes p acts t
  passes t b =
      let is : List Item = happening p acts t in
      let here : state_before p acts t ≡ Some (state_past p (at p acts t)) = state-at t (omega (arith, b)) in
      let next : state_before p acts (suc t) ≡ Some (state_past p (at p acts (suc t))) = state-at (suc t) b in
      record {
        apart = only-apart p is (chain-to p [] is (asked t b).1).1;
        met = subst (λ o. some_and o (λ s. list_all (own p s) is) ≡ true) (sym here) (asked t b).0;
        exists = subst IsSome (sym next) refl;
        kept = subst (λ o. some_and o (keeps_invariants p acts t) ≡ true) (sym next) (keeps t b);
      }
