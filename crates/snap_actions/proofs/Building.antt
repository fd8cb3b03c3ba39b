-- How the rows of an item are built.
use Rattle.std.proofs.Common.{◌≡◌, refl, sym, ap, subst, ◌∙◌, ℕ, zero, suc, ◌+◌, ◌<◌, Bool, true, false, ◌&&◌, ◌||◌, eqb, List, [], ◌∷◌, ◌++◌, ◌⊎◌, inl, inr, length, map, take, get_or, Some, slice_get, length-append}
use Rattle.std.specs.List.{list_any}
use Rattle.std.proofs.lemmas.Bool.{and_right, or_from}
use Rattle.std.proofs.lemmas.List.Folds.{list_any-append}
use Rattle.std.proofs.lemmas.Option.{none-some, slice_get_read}
use Rattle.tp_spec.specs.declared.list.Name.{Name}
use Rattle.tp_spec.specs.declared.plan.Item.{Item}
use Rattle.tp_spec.specs.declared.problem.Cond.{Cond}
use Rattle.tp_spec.specs.declared.problem.Effect.{Effect}
use Rattle.tp_spec.specs.declared.problem.Effect.TheVariants.{Add, Delete}
use Rattle.tp_spec.specs.declared.problem.TimedItem.{TimedItem}
use Rattle.tp_spec.specs.Interference.{asks, cond_reads, effect_reads}
use Rattle.tp_spec.specs.Items.{adds, deletes, conditions, effects, timed_effects}
use Rattle.tp_spec.specs.WellFormed.{Ground}
use Rattle.world_state.specs.declared.rows.BitRow.{BitRow}
use Rattle.world_state.specs.Rows.{has_place, words_for, IsRowOf, Takes}
use Rattle.world_state.proofs.RowSets.{takes_none, takes_both, takes_same, takes_more, row_from_none}
use Rattle.world_state.proofs.TimedFacts.{timed_adds, timed_deletes}
use Rattle.snap_actions.specs.declared.tables.ItemRows.{ItemRows}
use Rattle.snap_actions.specs.Tables.{steps, assigns, AreItemRows, AreRowsWithin, AreEmpty, TookConds, TookEffects}

or_false : (b : Bool) → (b || false) ≡ b
or_false true = refl
or_false false = refl

pub took_conds_none : (rows : ItemRows) → TookConds rows rows (λ f. false) (λ x. false)
took_conds_none rows = record {
  asked = takes_none rows.asked (λ f. false) (λ f. refl);
  read = takes_none rows.read (λ x. false) (λ x. refl);
  added = refl;
  deleted = refl;
  stepped = refl;
  assigned = refl;
}

-- one condition more
pub took_conds_more : (old mid new : ItemRows) (conds : List Cond) (i : ℕ) (c : Cond) → i < length conds → c ≡ get_or conds i c
    → TookConds old mid (λ f. list_any (asks f) (take i conds)) (λ x. list_any (cond_reads x) (take i conds))
    → TookConds mid new (λ f. asks f c) (λ x. cond_reads x c)
    → TookConds old new (λ f. list_any (asks f) (take (i + 1) conds)) (λ x. list_any (cond_reads x) (take (i + 1) conds))
took_conds_more old mid new conds i c below is h k = record {
  asked = takes_more old.asked mid.asked new.asked asks conds i c below is h.asked k.asked;
  read = takes_more old.read mid.read new.read cond_reads conds i c below is h.read k.read;
  added = k.added ∙ h.added;
  deleted = k.deleted ∙ h.deleted;
  stepped = k.stepped ∙ h.stepped;
  assigned = k.assigned ∙ h.assigned;
}

pub took_effects_none : (rows : ItemRows) → TookEffects rows rows []
took_effects_none rows = record {
  added = takes_none rows.added (λ f. false) (λ f. refl);
  deleted = takes_none rows.deleted (λ f. false) (λ f. refl);
  read = takes_none rows.read (λ x. false) (λ x. refl);
  stepped = takes_none rows.stepped (λ x. false) (λ x. refl);
  assigned = takes_none rows.assigned (λ x. false) (λ x. refl);
  asked = refl;
}

-- what one effect brings in
takes_one : (brings : ℕ → Effect → Bool) (e : Effect) (old new : BitRow) → Takes old new (λ f. list_any (brings f) (e ∷ [])) → Takes old new (λ f. brings f e)
takes_one brings e old new h = takes_same old new (λ f. list_any (brings f) (e ∷ [])) (λ f. brings f e) (λ f. or_false (brings f e)) h

-- one effect more
pub took_effects_more : (old mid new : ItemRows) (does : List Effect) (i : ℕ) (e : Effect) → i < length does → e ≡ get_or does i e
    → TookEffects old mid (take i does) → TookEffects mid new (e ∷ []) → TookEffects old new (take (i + 1) does)
took_effects_more old mid new does i e below is h k = record {
  added = takes_more old.added mid.added new.added adds does i e below is h.added (takes_one adds e mid.added new.added k.added);
  deleted = takes_more old.deleted mid.deleted new.deleted deletes does i e below is h.deleted (takes_one deletes e mid.deleted new.deleted k.deleted);
  read = takes_more old.read mid.read new.read effect_reads does i e below is h.read (takes_one effect_reads e mid.read new.read k.read);
  stepped = takes_more old.stepped mid.stepped new.stepped steps does i e below is h.stepped (takes_one steps e mid.stepped new.stepped k.stepped);
  assigned = takes_more old.assigned mid.assigned new.assigned assigns does i e below is h.assigned (takes_one assigns e mid.assigned new.assigned k.assigned);
  asked = k.asked ∙ h.asked;
}

row_after : (old mid new : BitRow) (words : ℕ) (set : ℕ → Bool) → mid ≡ old → IsRowOf old words (λ f. false) → Takes mid new set
    → IsRowOf new words (λ f. has_place words f && set f)
row_after old mid new words set same none h = row_from_none old new words set none.wide none.has (subst (λ row. Takes row new set) same h)

-- empty rows that took in all conditions and then all effects
pub rows_made : (fact_words fluent_words : ℕ) (none asked new : ItemRows) (conds : List Cond) (does : List Effect) → AreEmpty fact_words fluent_words none
    → TookConds none asked (λ f. list_any (asks f) conds) (λ x. list_any (cond_reads x) conds) → TookEffects asked new does
    → AreRowsWithin fact_words fluent_words new conds does
rows_made fact_words fluent_words none asked new conds does z t e = record {
  asked =
      subst (λ row. IsRowOf row fact_words (λ f. has_place fact_words f && list_any (asks f) conds)) (sym e.asked)
      (row_from_none none.asked asked.asked fact_words (λ f. list_any (asks f) conds) z.asked.wide z.asked.has t.asked);
  added = row_after none.added asked.added new.added fact_words (λ f. list_any (adds f) does) t.added z.added e.added;
  deleted = row_after none.deleted asked.deleted new.deleted fact_words (λ f. list_any (deletes f) does) t.deleted z.deleted e.deleted;
  read =
      row_from_none none.read new.read fluent_words (λ x. list_any (cond_reads x) conds || list_any (effect_reads x) does) z.read.wide z.read.has
      (takes_both none.read asked.read new.read (λ x. list_any (cond_reads x) conds) (λ x. list_any (effect_reads x) does) t.read e.read);
  stepped = row_after none.stepped asked.stepped new.stepped fluent_words (λ x. list_any (steps x) does) t.stepped z.stepped e.stepped;
  assigned = row_after none.assigned asked.assigned new.assigned fluent_words (λ x. list_any (assigns x) does) t.assigned z.assigned e.assigned;
}

empty_row : (row : BitRow) (words : ℕ) (set : ℕ → Bool) → IsRowOf row words (λ f. false) → ((f : ℕ) → set f ≡ false)
    → IsRowOf row words (λ f. has_place words f && set f)
empty_row row words set z none = record {
  wide = z.wide;
  has = λ f. z.has f ∙ sym (and_right (has_place words f) (set f) (none f));
}

none_in : {A : Type 0} (q : Effect → Bool) (make : A → Effect) → ((x : A) → q (make x) ≡ false) → (xs : List A) → list_any q (map make xs) ≡ false
none_in q make none [] = refl
none_in q make none (x ∷ xs) = or_from _ _ (none x) (none_in q make none xs)

none_of_timed : (q : Effect → Bool) → ((f : ℕ) → q (Add f) ≡ false) → ((f : ℕ) → q (Delete f) ≡ false) → (t : TimedItem) → list_any q (timed_effects t) ≡ false
none_of_timed q added deleted t =
    list_any-append q (map Add t.adds) (map Delete t.deletes)
    ∙ or_from (list_any q (map Add t.adds)) (list_any q (map Delete t.deletes)) (none_in q Add added t.adds) (none_in q Delete deleted t.deletes)

-- the rows of a timed item
pub timed_rows : (fact_words fluent_words : ℕ) (none : ItemRows) (added deleted : BitRow) (t : TimedItem) (adding deleting : List ℕ) → AreEmpty fact_words fluent_words none
    → adding ≡ t.adds → deleting ≡ t.deletes
    → Takes none.added added (λ f. list_any (λ g. eqb f g) adding) → Takes none.deleted deleted (λ f. list_any (λ g. eqb f g) deleting)
    → AreRowsWithin fact_words fluent_words
    (record { asked = none.asked; added = added; deleted = deleted; read = none.read; stepped = none.stepped; assigned = none.assigned }) [] (timed_effects t)
timed_rows fact_words fluent_words none added deleted t adding deleting z adds_of deletes_of h k = record {
  asked = empty_row none.asked fact_words (λ f. false) z.asked (λ f. refl);
  added =
      row_from_none none.added added fact_words (λ f. list_any (adds f) (timed_effects t)) z.added.wide z.added.has
      (takes_same none.added added (λ f. list_any (λ g. eqb f g) adding) (λ f. list_any (adds f) (timed_effects t))
      (λ f. ap (list_any (λ g. eqb f g)) adds_of ∙ timed_adds f t) h);
  deleted =
      row_from_none none.deleted deleted fact_words (λ f. list_any (deletes f) (timed_effects t)) z.deleted.wide z.deleted.has
      (takes_same none.deleted deleted (λ f. list_any (λ g. eqb f g) deleting) (λ f. list_any (deletes f) (timed_effects t))
      (λ f. ap (list_any (λ g. eqb f g)) deletes_of ∙ timed_deletes f t) k);
  read = empty_row none.read fluent_words (λ x. list_any (effect_reads x) (timed_effects t)) z.read (λ x. none_of_timed (effect_reads x) (λ f. refl) (λ f. refl) t);
  stepped = empty_row none.stepped fluent_words (λ x. list_any (steps x) (timed_effects t)) z.stepped (λ x. none_of_timed (steps x) (λ f. refl) (λ f. refl) t);
  assigned = empty_row none.assigned fluent_words (λ x. list_any (assigns x) (timed_effects t)) z.assigned (λ x. none_of_timed (assigns x) (λ f. refl) (λ f. refl) t);
}

-- a table with the rows of one item more
pub got_push : {A : Type 0} (xs : List A) (y : A) (a : ℕ) (r : A) → slice_get (xs ++ y ∷ []) a ≡ Some r → (slice_get xs a ≡ Some r) ⊎ ((a ≡ length xs) × (Some y ≡ Some r))
got_push [] y zero r e = inr (refl, e)
got_push [] y (suc a) r e = absurd (none-some r e)
got_push (x ∷ xs) y zero r e = inl e
got_push (x ∷ xs) y (suc a) r e = elim (got_push xs y a r e) [ inl h ↦ inl h | inr h ↦ inr (ap suc h.0, h.1) ]

pub table_more : (are : ℕ → ItemRows → Type 0) (rows more : List ItemRows) (row : ItemRows) (i : ℕ) → more ≡ rows ++ row ∷ [] → length rows ≡ i
    → ((a : ℕ) (r : ItemRows) → slice_get rows a ≡ Some r → are a r) → are i row → (a : ℕ) (r : ItemRows) → slice_get more a ≡ Some r → are a r
table_more are rows more row i pushed len each here a r got =
    elim (got_push rows row a r (sym (ap (λ xs. slice_get xs a) pushed) ∙ got)) [
      | inl before ↦ each a r before
      | inr last ↦
          let at : i ≡ a = sym (last.0 ∙ len) in
          let same : row ≡ r = cc last.1 in
          subst (λ x. are a x) same (subst (λ k. are k row) at here)
    ]

pub none_got : (are : ℕ → ItemRows → Type 0) (rows : List ItemRows) → rows ≡ [] → (a : ℕ) (r : ItemRows) → slice_get rows a ≡ Some r → are a r
none_got are rows none a r got = absurd (nothing a r (sym (ap (λ xs. slice_get xs a) none) ∙ got))
  where
    nothing : (a : ℕ) (r : ItemRows) → slice_get {X = ItemRows} [] a ≡ Some r → ⊥
    nothing zero r e = none-some r e
    nothing (suc a) r e = none-some r e

-- a member of a list that was read by its index
pub got_at : {A : Type 0} (xs ys : List A) (k : ℕ) (x : A) → xs ≡ ys → k < length xs → x ≡ get_or xs k x → Some x ≡ slice_get ys k
got_at xs ys k x same below is = sym (ap (λ zs. slice_get zs k) (sym same) ∙ slice_get_read xs (length xs) k x refl below is)

-- rows of an item's conditions and effects
pub item_rows_at : (p : Ground) (i : Item) (row : ItemRows) (facts fluents : List Name) (conds : List Cond) (does : List Effect) → facts ≡ p.facts → fluents ≡ p.fluents
    → conds ≡ conditions p i → does ≡ effects p i → AreRowsWithin (words_for (length facts)) (words_for (length fluents)) row conds does → AreItemRows p i row
item_rows_at p i row facts fluents conds does same_facts same_fluents same_conds same_does h =
    subst (λ xs. AreRowsWithin (words_for (length xs)) (words_for (length p.fluents)) row (conditions p i) (effects p i)) same_facts
    (subst (λ xs. AreRowsWithin (words_for (length facts)) (words_for (length xs)) row (conditions p i) (effects p i)) same_fluents
    (subst (λ xs. AreRowsWithin (words_for (length facts)) (words_for (length fluents)) row xs (effects p i)) same_conds
    (subst (λ xs. AreRowsWithin (words_for (length facts)) (words_for (length fluents)) row conds xs) same_does h)))

pub pushed_length : (rows more : List ItemRows) (row : ItemRows) (i : ℕ) → more ≡ rows ++ row ∷ [] → length rows ≡ i → length more ≡ i + 1
pushed_length rows more row i pushed len = ap length pushed ∙ length-append rows (row ∷ []) ∙ ap (λ n. n + 1) len
