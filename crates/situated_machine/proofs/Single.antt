-- A rule that asks for one thing asks for one alone: live marks, the act that is due, the plan of a word.
use Rattle.std.proofs.Common.{◌≡◌, refl, sym, ap, subst, ◌∙◌, ℕ, zero, suc, ◌-◌, ◌<◌, ◌≤◌, ◌==◌, nat_lt, nat_le, Bool, true, false, not, cond, ◌&&◌, ◌||◌, List, [], ◌∷◌, map, Option, Some, None, inl, inr, arith}
use Rattle.std.specs.Prelude.{IfSome}
use Rattle.std.specs.List.{AllByRecursion as Each}
use Rattle.std.proofs.lemmas.Bool.{and_parts, false≢true, eq-eqb}
use Rattle.std.proofs.lemmas.Bool.Decides.{nat_tests}
use Rattle.tp_spec.specs.declared.plan.Item.{Item}
use Rattle.tp_spec.specs.declared.plan.Limits.{Limits}
use Rattle.tp_spec.specs.declared.plan.Mark.{Mark}
use Rattle.tp_spec.specs.declared.plan.Plan.{Plan}
use Rattle.tp_spec.specs.declared.plan.Timed.{Timed}
use Rattle.tp_spec.specs.declared.problem.Problem.{Problem}
use Rattle.tp_spec.specs.Items.{item_before, kind_index, number}
use Rattle.tp_spec.specs.Lists.{IsIn, each_next, each_pair}
use Rattle.tp_spec.specs.Machine.{Machine, Node, AreLiveMarks, IsBest, IsDue, candidate, mark_before, no_worse, rank}
use Rattle.tp_spec.specs.Schedules.{Schedule, IsGreatest, IsLeast, finish, last_tick, plan_of, timed_act}
use Rattle.tp_spec.specs.Words.{Act, Sound, acts_of, groups}
use Rattle.tp_laws.specs.Clocks.{HasActsInGroups}
use Rattle.tp_laws.specs.Plans.{WordsOfPlansAreSound}
use Rattle.tp_laws.proofs.ClockActs.{sound-acts}
use Rattle.tp_laws.proofs.EarlyLists.{Rising, each-in, each-map, each-true}
use Rattle.run_laws.proofs.Covering.{word_of-in}
use Rattle.run_laws.proofs.Dispatching.{due-in}
use Rattle.situated_machine.specs.Rules.{IsPlanOf}

-- marks are ordered

numbers-before : (a b c x y z : ℕ) → (nat_lt a b || (a == b && nat_lt x y)) ≡ true → (nat_lt b c || (b == c && nat_lt y z)) ≡ true → (nat_lt a c || (a == c && nat_lt x z)) ≡ true
numbers-before a b c x y z h k = grind (arith, nat_tests)

numbers-differ : (a b x y : ℕ) → (nat_lt a b || (a == b && nat_lt x y)) ≡ true → (nat_lt b a || (b == a && nat_lt y x)) ≡ true → ⊥
numbers-differ a b x y h k = grind (arith, nat_tests)

items-before : (i j k : Item) → item_before i j ≡ true → item_before j k ≡ true → item_before i k ≡ true
items-before i j k = numbers-before (kind_index i) (kind_index j) (kind_index k) (number i) (number j) (number k)

items-differ : (i j : Item) → item_before i j ≡ true → item_before j i ≡ true → ⊥
items-differ i j = numbers-differ (kind_index i) (kind_index j) (number i) (number j)

kinds-before : (f g h : Bool) (i j k : Item) → cond f (g && item_before i j) (g || item_before i j) ≡ true → cond g (h && item_before j k) (h || item_before j k) ≡ true → cond f (h && item_before i k) (h || item_before i k) ≡ true
kinds-before true true true i j k a b = items-before i j k a b
kinds-before true true false i j k a b = absurd (false≢true b)
kinds-before true false h i j k a b = absurd (false≢true a)
kinds-before false true true i j k a b = refl
kinds-before false true false i j k a b = absurd (false≢true b)
kinds-before false false true i j k a b = refl
kinds-before false false false i j k a b = items-before i j k a b

kinds-differ : (f g : Bool) (i j : Item) → cond f (g && item_before i j) (g || item_before i j) ≡ true → cond g (f && item_before j i) (f || item_before j i) ≡ true → ⊥
kinds-differ true true i j a b = items-differ i j a b
kinds-differ true false i j a b = false≢true a
kinds-differ false true i j a b = false≢true b
kinds-differ false false i j a b = items-differ i j a b

marks-before : (a b c : Mark) → mark_before a b ≡ true → mark_before b c ≡ true → mark_before a c ≡ true
marks-before a b c = kinds-before a.fresh b.fresh c.fresh a.item b.item c.item

marks-differ : (a b : Mark) → mark_before a b ≡ true → mark_before b a ≡ true → ⊥
marks-differ a b = kinds-differ a.fresh b.fresh a.item b.item

marks-rise : (xs : List Mark) → each_next mark_before xs ≡ true → Rising mark_before xs
marks-rise [] h = tt
marks-rise (a ∷ []) h = (tt, tt)
marks-rise (a ∷ b ∷ xs) h =
    let r : Rising mark_before (b ∷ xs) = marks-rise (b ∷ xs) (and_parts _ _ h).1 in
    (((and_parts _ _ h).0, each-map (λ c. mark_before b c ≡ true) (λ c. mark_before a c ≡ true) xs (λ c. marks-before a b c (and_parts _ _ h).0) r.0), r)

-- what is behind a mark is another one
behind : (x y : Mark) (ys : List Mark) → x ≡ y → Each (λ c. mark_before y c ≡ true) ys → IsIn x ys → ⊥
behind x y ys e each i =
    let lt : mark_before y x ≡ true = each-in (λ c. mark_before y c ≡ true) ys x each i in
    let le : mark_before y y ≡ true = subst (λ c. mark_before y c ≡ true) e lt in
    marks-differ y y le le

only : (x y : Mark) (ys : List Mark) → (x ≡ y → ⊥) → IsIn x (y ∷ ys) → IsIn x ys
only x y ys differ (inl e) = absurd (differ (sym e))
only x y ys differ (inr i) = i

-- two lists that rise and have the same members are one list
same-rising : (xs zs : List Mark) → Rising mark_before xs → Rising mark_before zs → ((a : Mark) → IsIn a xs → IsIn a zs) → ((a : Mark) → IsIn a zs → IsIn a xs) → xs ≡ zs
same-rising [] [] r s f g = refl
same-rising [] (b ∷ zs) r s f g = absurd (g b (inl refl))
same-rising (a ∷ xs) [] r s f g = absurd (f a (inl refl))
same-rising (a ∷ xs) (b ∷ zs) r s f g =
    by_heads
    (λ e. same-rising xs zs r.1 s.1
    (λ x i. only x b zs (λ same. behind x a xs (same ∙ sym e) r.0 i) (f x (inr i)))
    (λ x i. only x a xs (λ same. behind x b zs (same ∙ e) s.0 i) (g x (inr i))))
    (f a (inl refl)) (g b (inl refl))
  where
    by_heads : (a ≡ b → xs ≡ zs) → IsIn a (b ∷ zs) → IsIn b (a ∷ xs) → ◌≡◌ {A = List Mark} (a ∷ xs) (b ∷ zs)
    by_heads tails (inl e) k = λ i. sym e i ∷ tails (sym e) i
    by_heads tails (inr h) (inl e) = λ i. e i ∷ tails e i
    by_heads tails (inr h) (inr k) = absurd (marks-differ a b (each-in (λ c. mark_before a c ≡ true) xs b r.0 k) (each-in (λ c. mark_before b c ≡ true) zs a s.0 h))

pub one-marks : (p : Problem) (l : Limits) (m : Machine) (w xs zs : List Mark) → AreLiveMarks p l m w xs → AreLiveMarks p l m w zs → xs ≡ zs
one-marks p l m w xs zs h k = same-rising xs zs (marks-rise xs h.in_order) (marks-rise zs k.in_order) (λ a i. k.all a (h.live a i)) (λ a i. h.all a (k.live a i))

-- two best nodes have one id, and so one word
worse-both : (a b i j : ℕ) → (nat_lt a b || (a == b && nat_le i j)) ≡ true → (nat_lt b a || (b == a && nat_le j i)) ≡ true → i ≡ j
worse-both a b i j h k = grind (arith, nat_tests)

pub best-id : (p : Problem) (ns : List Node) (a b : Node) → IsBest p ns a → IsBest p ns b → a.id ≡ b.id
best-id p ns a b h k =
    worse-both (rank p a.word) (rank p b.word) a.id b.id
    (each-in (λ n. no_worse p a n ≡ true) ns b (each-true (no_worse p a) ns h.least) k.there)
    (each-in (λ n. no_worse p b n ≡ true) ns a (each-true (no_worse p b) ns k.least) h.there)

pub best-word : (p : Problem) (ns : List Node) → each_pair (λ a b. not (a.id == b.id)) ns ≡ true → (a b : Node) → IsBest p ns a → IsBest p ns b → a.word ≡ b.word
best-word p ns apart a b h k =
    sym (word_of-in b.id a ns apart h.there (eq-eqb a.id b.id (best-id p ns a b h k))) ∙ word_of-in b.id b ns apart k.there (eq-eqb b.id b.id refl)

-- schedules that agree at each group and at each end of a running act

record Agree (p : Problem) (w : List Mark) (x y : Schedule) : Type 0 where
  ticks : (g : ℕ) → g < groups w → x.tick g ≡ y.tick g
  ends : (a : Act) → IsIn a (acts_of p w) → a.closes ≡ None → x.end a.action ≡ y.end a.action

both-ways : (a b : ℕ) → a ≤ b → b ≤ a → a ≡ b
both-ways a b h k = omega (arith, h, k)

agree-greatest : (p : Problem) (l : Limits) (now : ℕ) (c : List Timed) (w : List Mark) (x y : Schedule) → IsGreatest p l now c w x → IsGreatest p l now c w y → Agree p w x y
agree-greatest p l now c w x y h k = record {
  ticks = λ g b. both-ways (x.tick g) (y.tick g) ((k.last x h.is).ticks g b) ((h.last y k.is).ticks g b);
  ends = λ a i e. both-ways (x.end a.action) (y.end a.action) ((k.last x h.is).ends a i e) ((h.last y k.is).ends a i e);
}

agree-least : (p : Problem) (l : Limits) (now : ℕ) (c : List Timed) (w : List Mark) (x y : Schedule) → IsLeast p l now c w x → IsLeast p l now c w y → Agree p w x y
agree-least p l now c w x y h k = record {
  ticks = λ g b. both-ways (x.tick g) (y.tick g) ((h.first y k.is).ticks g b) ((k.first x h.is).ticks g b);
  ends = λ a i e. both-ways (x.end a.action) (y.end a.action) ((h.first y k.is).ends a i e) ((k.first x h.is).ends a i e);
}

module _ (p : Problem) (w : List Mark) (sound : Sound p w) (x y : Schedule) (agree : Agree p w x y) where
  has : HasActsInGroups p w
  has = sound-acts p w sound

  finish-by : (a : Act) → IsIn a (acts_of p w) → (o : Option ℕ) → a.closes ≡ o → IfSome o (λ g. g < groups w)
      → ◌≡◌ {A = ℕ} (elim o [ Some g ↦ x.tick g | None ↦ x.end a.action ]) (elim o [ Some g ↦ y.tick g | None ↦ y.end a.action ])
  finish-by a i None e h = agree.ends a i e
  finish-by a i (Some g) e h = agree.ticks g h

  same-act : (a : Act) → IsIn a (acts_of p w) → timed_act x a ≡ timed_act y a
  same-act a i =
      let start : x.tick a.opens ≡ y.tick a.opens = agree.ticks a.opens (has.opens a i) in
      let end : finish x a ≡ finish y a = finish-by a i a.closes refl (has.closes a i) in
      λ t. record { action = a.action; start = start t; length = end t - start t }

  same-acts : (xs : List Act) → ((a : Act) → IsIn a xs → IsIn a (acts_of p w)) → map (timed_act x) xs ≡ map (timed_act y) xs
  same-acts [] f = refl
  same-acts (a ∷ xs) f = λ t. same-act a (f a (inl refl)) t ∷ same-acts xs (λ b i. f b (inr i)) t

  same-last : (n : ℕ) → groups w ≡ n → last_tick x n ≡ last_tick y n
  same-last zero e = refl
  same-last (suc g) e = agree.ticks g (omega (arith, e))

  same-plan : plan_of p w x ≡ plan_of p w y
  same-plan = λ t. record { acts = same-acts (acts_of p w) (λ a i. i) t; end = same-last (groups w) refl t }

-- the act that is due

some-same : (u v : Act) → ◌≡◌ {A = Option Act} (Some u) (Some v) → u ≡ v
some-same u v e = cc

pub one-due : (p : Problem) (l : Limits) (m : Machine) (a b : Timed) → each_pair (λ c d. not (c.id == d.id)) m.nodes ≡ true → IsDue p l m a → IsDue p l m b → a ≡ b
one-due p l m a b apart h k = h.is ∙ same-act p h.node.word h.live.sound h.schedule k.schedule agree h.next (due-in p l m a h) ∙ ap (timed_act k.schedule) same ∙ sym k.is where
  word : h.node.word ≡ k.node.word
  word = best-word p m.nodes apart h.node k.node h.best k.best

  agree : Agree p h.node.word h.schedule k.schedule
  agree = agree-greatest p l m.now m.commits h.node.word h.schedule k.schedule h.greatest (subst (λ w. IsGreatest p l m.now m.commits w k.schedule) (sym word) k.greatest)

  found : ◌≡◌ {A = Option Act} (Some h.next) (Some k.next)
  found = sym h.is_next ∙ ap (λ w. candidate [] m.commits (acts_of p w)) word ∙ k.is_next

  same : h.next ≡ k.next
  same = some-same h.next k.next found

-- the plan of a word

pub one-plan : (p : Problem) (l : Limits) → WordsOfPlansAreSound p l → (m : Machine) (w : List Mark) (a b : Plan) → IsPlanOf p l m w a → IsPlanOf p l m w b → a ≡ b
one-plan p l sounds m w a b h k =
    h.is
    ∙ same-plan p w (subst (Sound p) h.spells (sounds a h.possible.valid)) h.schedule k.schedule
    (agree-least p l m.now m.commits w h.schedule k.schedule h.least k.least)
    ∙ sym k.is
