-- Which of the marks that may follow a word are live, put together mark by mark.
use Rattle.std.proofs.Common.{◌≡◌, refl, sym, ap, subst, ◌∙◌, inl, inr, ℕ, zero, suc, ◌+◌, ◌<◌, Bool, true, false, ◌&&◌, ◌||◌, cond, List, [], ◌∷◌, ◌++◌, length, map, take, get_or, arith}
use Rattle.std.specs.List.{All, AllByRecursion as Each}
use Rattle.std.proofs.lemmas.Bool.{and_from, false≢true}
use Rattle.std.proofs.lemmas.List.Elements.{All-append, All-from_recursion}
use Rattle.std.proofs.lemmas.List.{map-append, take_more, get_or-map}
use Rattle.tp_spec.specs.declared.plan.Item.{Item}
use Rattle.tp_spec.specs.declared.plan.Item.TheVariants.{TimedAt, End, Start}
use Rattle.tp_spec.specs.declared.plan.Mark.{Mark}
use Rattle.tp_spec.specs.declared.problem.Problem.{Problem}
use Rattle.tp_spec.specs.Items.{all_items, item_before}
use Rattle.tp_spec.specs.Lists.{IsIn, each_next}
use Rattle.tp_spec.specs.Machine.{AreLiveMarks, mark_before}
use Rattle.tp_spec.specs.Words.{Sound, at_start, progress, may_follow}
use Rattle.tp_laws.proofs.EarlyLists.{Rising, rising-filter, in-left, in-right}
use Rattle.tp_laws.proofs.EarlyReading.{follow-append, follow-back}
use Rattle.tp_laws.proofs.Members.{in-append, in-map, in-filter, map-in}
use Rattle.tp_laws.proofs.WordOfLists.{filter-in, filter-passes, rising-append}
use Rattle.tp_laws.proofs.WordOfHappenings.{HasItem, item-in, items-rise}
use Rattle.node_state.specs.Growths.{mark_of, marks_by, next_marks, rank_with}
use Rattle.machine_run.specs.Children.{AreChildren, marks_of, view_at}
use Rattle.open_tree.specs.Views.{JobView}
use Rattle.word_frontier.specs.declared.child.Child.{Child}
use Rattle.machine_run.proofs.LiveMarks.{Fits, fits-mark, steady-read}
use Rattle.node_state.specs.Growths.{IsGrowthOf}
use Rattle.node_state.specs.declared.growth.Growth.{Growth}
use Rattle.open_tree.specs.Jobs.{AreSprouts}
use Rattle.tp_laws.specs.Plans.{is_whole}
use Rattle.search_workers.specs.Sprouting.{AreThose, IsLiveMark, AreKept}

module _ {A : Type 0} (P : A → Type 0) where
  -- one member more, which has the property or has it not
  pub those-more : (xs ys : List A) (x : A) → P x → AreThose P xs ys → AreThose P (xs ++ x ∷ []) (ys ++ x ∷ [])
  those-more [] ys x h t = subst (λ zs. AreThose P (x ∷ []) (zs ++ x ∷ [])) (sym t) (inl (h, refl, refl))
  those-more (z ∷ xs) [] x h t = inr (t.0, those-more xs [] x h t.1)
  those-more (z ∷ xs) (y ∷ ys) x h (inl t) = inl (t.0, t.1, those-more xs ys x h t.2)
  those-more (z ∷ xs) (y ∷ ys) x h (inr t) = inr (t.0, those-more xs (y ∷ ys) x h t.1)

  pub those-less : (xs ys : List A) (x : A) → (P x → ⊥) → AreThose P xs ys → AreThose P (xs ++ x ∷ []) ys
  those-less [] ys x h t = subst (λ zs. AreThose P (x ∷ []) zs) (sym t) (h, refl)
  those-less (z ∷ xs) [] x h t = (t.0, those-less xs [] x h t.1)
  those-less (z ∷ xs) (y ∷ ys) x h (inl t) = inl (t.0, t.1, those-less xs ys x h t.2)
  those-less (z ∷ xs) (y ∷ ys) x h (inr t) = inr (t.0, those-less xs (y ∷ ys) x h t.1)

-- a member by its place
pub at-in : {A : Type 0} (xs : List A) (i : ℕ) (d : A) → i < length xs → IsIn (get_or xs i d) xs
at-in [] i d h = absurd (omega (arith, h))
at-in (x ∷ xs) zero d h = inl refl
at-in (x ∷ xs) (suc i) d h = inr (at-in xs i d (omega (arith, h)))

module _ (p : Problem) (w : List Mark) where
  of-kind : (b : Bool) (a : Mark) → IsIn a (marks_by p (progress p w) b) → may_follow p (progress p w) a ≡ true
  of-kind b a i = filter-passes (may_follow p (progress p w)) (map (mark_of b) (all_items p)) a i

  -- each of the marks that may come next may follow, so that the longer word is sound
  pub next-follows : (a : Mark) → IsIn a (next_marks p w) → may_follow p (progress p w) a ≡ true
  next-follows a i = elim (in-append a (marks_by p (progress p w) false) (marks_by p (progress p w) true) i) [
    | inl j ↦ of-kind false a j
    | inr j ↦ of-kind true a j
  ]

  pub next-sound : Sound p w → (a : Mark) → IsIn a (next_marks p w) → Sound p (w ++ a ∷ [])
  next-sound sound a i = record { follows = follow-append p (at_start p) w (a ∷ []) sound.follows (next-follows a i, tt) }

  -- a mark that makes a longer sound word is among them
  follow-one : (a : Mark) → Sound p (w ++ a ∷ []) → may_follow p (progress p w) a ≡ true
  follow-one a s = (follow-back p (at_start p) w (a ∷ []) s.follows).0

  has-item : (a : Mark) → may_follow p (progress p w) a ≡ true → HasItem p a.item
  has-item a h = to-item a.item (fits-mark p (progress p w) (steady-read p (at_start p) w (λ b e. absurd (false≢true e))) a.fresh a.item h) where
    to-item : (i : Item) → Fits p i → HasItem p i
    to-item (TimedAt k) f = f
    to-item (End b) f = f
    to-item (Start b) f = f

  pub in-next : (a : Mark) → Sound p (w ++ a ∷ []) → IsIn a (next_marks p w)
  in-next a s = by_kind a.fresh refl where
    h : may_follow p (progress p w) a ≡ true
    h = follow-one a s

    of_kind : (b : Bool) → a.fresh ≡ b → IsIn a (marks_by p (progress p w) b)
    of_kind b e = filter-in (may_follow p (progress p w)) (map (mark_of b) (all_items p)) a
        (subst (λ (x : Mark). IsIn x (map (mark_of b) (all_items p))) (λ i. record { fresh = sym e i; item = a.item }) (map-in (mark_of b) a.item (all_items p) (item-in p a.item (has-item a h)))) h

    by_kind : (b : Bool) → a.fresh ≡ b → IsIn a (next_marks p w)
    by_kind false e = in-left a (marks_by p (progress p w) false) (marks_by p (progress p w) true) (of_kind false e)
    by_kind true e = in-right a (marks_by p (progress p w) false) (marks_by p (progress p w) true) (of_kind true e)

  -- their order
  kind-rises : (b : Bool) → Rising mark_before (marks_by p (progress p w) b)
  kind-rises b = rising-filter mark_before (may_follow p (progress p w)) (map (mark_of b) (all_items p)) (marks-rise b (all_items p) (items-rise p)) where
    before : (b : Bool) (i j : Item) → item_before i j ≡ true → mark_before (mark_of b i) (mark_of b j) ≡ true
    before true i j h = h
    before false i j h = h

    marks-rise : (b : Bool) (is : List Item) → Rising item_before is → Rising mark_before (map (mark_of b) is)
    marks-rise b [] r = tt
    marks-rise b (i ∷ is) r = (each_mark is r.0, marks-rise b is r.1) where
      each_mark : (js : List Item) → Each (λ j. item_before i j ≡ true) js → Each (λ x. mark_before (mark_of b i) x ≡ true) (map (mark_of b) js)
      each_mark [] e = tt
      each_mark (j ∷ js) e = (before b i j e.0, each_mark js e.1)

  fresh-of : (b : Bool) (a : Mark) → IsIn a (marks_by p (progress p w) b) → a.fresh ≡ b
  fresh-of b a i = let r = in-map (mark_of b) a (all_items p) (in-filter (may_follow p (progress p w)) a (map (mark_of b) (all_items p)) i) in sym (ap (λ m. m.fresh) r.2)

  pub next-rises : Rising mark_before (next_marks p w)
  next-rises = rising-append mark_before (marks_by p (progress p w) false) (marks_by p (progress p w) true) (kind-rises false) (kind-rises true)
      (λ a b i j. ap (λ f. cond f (b.fresh && item_before a.item b.item) (b.fresh || item_before a.item b.item)) (fresh-of false a i) ∙ ap (λ g. g || item_before a.item b.item) (fresh-of true b j))

-- those members of a list that have a property

module _ {A : Type 0} (P : A → Type 0) where
  pub those-have : (xs ys : List A) → AreThose P xs ys → (y : A) → IsIn y ys → P y × IsIn y xs
  those-have [] ys t y i = absurd (subst (IsIn y) t i)
  those-have (x ∷ xs) [] t y i = absurd i
  those-have (x ∷ xs) (z ∷ ys) (inl t) y (inl e) = (subst P (t.1 ∙ e) t.0, inl (t.1 ∙ e))
  those-have (x ∷ xs) (z ∷ ys) (inl t) y (inr i) = let r = those-have xs ys t.2 y i in (r.0, inr r.1)
  those-have (x ∷ xs) (z ∷ ys) (inr t) y i = let r = those-have xs (z ∷ ys) t.1 y i in (r.0, inr r.1)

  pub have-those : (xs ys : List A) → AreThose P xs ys → (x : A) → IsIn x xs → P x → IsIn x ys
  have-those [] ys t x i h = absurd i
  have-those (z ∷ xs) [] t x (inl e) h = absurd (t.0 (subst P (sym e) h))
  have-those (z ∷ xs) [] t x (inr i) h = absurd (have-those xs [] t.1 x i h)
  have-those (z ∷ xs) (y ∷ ys) (inl t) x (inl e) h = inl (sym t.1 ∙ e)
  have-those (z ∷ xs) (y ∷ ys) (inl t) x (inr i) h = inr (have-those xs ys t.2 x i h)
  have-those (z ∷ xs) (y ∷ ys) (inr t) x (inl e) h = absurd (t.0 (subst P (sym e) h))
  have-those (z ∷ xs) (y ∷ ys) (inr t) x (inr i) h = have-those xs (y ∷ ys) t.1 x i h

  pub those-all : (xs : List A) → ((x : A) → IsIn x xs → P x) → AreThose P xs xs
  those-all [] h = refl
  those-all (x ∷ xs) h = inl (h x (inl refl), refl, those-all xs (λ y i. h y (inr i)))

  each-those : (Q : A → Type 0) (xs ys : List A) → AreThose P xs ys → Each Q xs → Each Q ys
  each-those Q [] ys t e = subst (Each Q) (sym t) tt
  each-those Q (x ∷ xs) [] t e = tt
  each-those Q (x ∷ xs) (y ∷ ys) (inl t) e = (subst Q t.1 e.0, each-those Q xs ys t.2 e.1)
  each-those Q (x ∷ xs) (y ∷ ys) (inr t) e = each-those Q xs (y ∷ ys) t.1 e.1

  pub those-rise : (lt : A → A → Bool) (xs ys : List A) → AreThose P xs ys → Rising lt xs → Rising lt ys
  those-rise lt [] ys t r = subst (Rising lt) (sym t) tt
  those-rise lt (x ∷ xs) [] t r = tt
  those-rise lt (x ∷ xs) (y ∷ ys) (inl t) r = (subst (λ z. Each (λ k. lt z k ≡ true) ys) t.1 (each-those (λ k. lt x k ≡ true) xs ys t.2 r.0), those-rise lt xs ys t.2 r.1)
  those-rise lt (x ∷ xs) (y ∷ ys) (inr t) r = those-rise lt xs (y ∷ ys) t.1 r.1

rising-next : {A : Type 0} (lt : A → A → Bool) (xs : List A) → Rising lt xs → each_next lt xs ≡ true
rising-next lt [] r = refl
rising-next lt (x ∷ []) r = refl
rising-next lt (x ∷ y ∷ xs) r = and_from _ _ r.0.0 (rising-next lt (y ∷ xs) r.1)

-- a list of the live ones of the marks that may come next is the list of the live marks
pub kept-live : (p : Problem) (j : JobView) (marks : List Mark) → AreThose (IsLiveMark p j) (next_marks p j.node.word) marks → AreLiveMarks p j.limits (view_at j.clock j.commits) j.node.word marks
kept-live p j marks t = record {
  in_order = rising-next mark_before marks (those-rise (IsLiveMark p j) mark_before (next_marks p j.node.word) marks t (next-rises p j.node.word));
  live = λ a i. (those-have (IsLiveMark p j) (next_marks p j.node.word) marks t a i).0;
  all = λ a live. have-those (IsLiveMark p j) (next_marks p j.node.word) marks t a (in-next p j.node.word a live.sound) live;
}

-- one mark more was judged
module _ (p : Problem) (j : JobView) (marks : List Mark) (i : ℕ) (d : Mark) (below : i < length marks) (cs : List Child) (before : AreThose (IsLiveMark p j) (take i marks) (marks_of cs)) where
  pub those-kept : (new : List Child) (c : Child) → c.mark ≡ get_or marks i d → IsLiveMark p j (get_or marks i d) → new ≡ cs ++ c ∷ [] → AreThose (IsLiveMark p j) (take (i + 1) marks) (marks_of new)
  those-kept new c same live is =
      let grown : marks_of new ≡ marks_of cs ++ get_or marks i d ∷ [] = ap marks_of is ∙ map-append (λ k. k.mark) cs (c ∷ []) ∙ ap (λ m. marks_of cs ++ m ∷ []) same in
      subst (AreThose (IsLiveMark p j) (take (i + 1) marks)) (sym grown)
      (subst (λ xs. AreThose (IsLiveMark p j) xs (marks_of cs ++ get_or marks i d ∷ [])) (sym (take_more marks i d below)) (those-more (IsLiveMark p j) (take i marks) (marks_of cs) (get_or marks i d) live before))

  pub those-left : (new : List Child) → (IsLiveMark p j (get_or marks i d) → ⊥) → new ≡ cs → AreThose (IsLiveMark p j) (take (i + 1) marks) (marks_of new)
  those-left new dead is =
      subst (AreThose (IsLiveMark p j) (take (i + 1) marks)) (sym (ap marks_of is))
      (subst (λ xs. AreThose (IsLiveMark p j) xs (marks_of cs)) (sym (take_more marks i d below)) (those-less (IsLiveMark p j) (take i marks) (marks_of cs) (get_or marks i d) dead before))

-- one child more
pub each-kept : (P : Child → Type 0) (cs new : List Child) (c : Child) → All P cs → P c → new ≡ cs ++ c ∷ [] → All P new
each-kept P cs new c all one is = subst (All P) (sym is) (All-append P cs (c ∷ []) all (All-from_recursion P (c ∷ []) (one, tt)))

-- the rank beside a mark is the longer word's
pub rank-of : (p : Problem) (w : List Mark) (marks : List Mark) (ranks : List ℕ) (i : ℕ) (d : Mark) → i < length marks → ranks ≡ map (rank_with p w) marks → get_or ranks i 0 ≡ rank_with p w (get_or marks i d)
rank-of p w marks ranks i d below all = ap (λ xs. get_or xs i 0) all ∙ get_or-map (rank_with p w) marks i d 0 below

-- what a worker keeps of a growth are the sprouts of its job
pub sprouts-of : (p : Problem) (j : JobView) → j.problem ≡ p → (g : Growth) → IsGrowthOf p j.node.word g → (children : List Child) → AreKept p j g.marks children
    → AreSprouts (record { job = j; children = children; whole = g.whole })
sprouts-of p j problem g grown children kept = record {
  exact = subst (λ q. AreChildren q j.limits j.clock j.commits j.node.word children) (sym problem) (record {
    exact = kept-live p j (marks_of children) (subst (λ ms. AreThose (IsLiveMark p j) ms (marks_of children)) grown.marks kept.those);
    each = kept.each;
  });
  told = grown.whole ∙ ap (λ q. is_whole q j.node.word) (sym problem);
}
