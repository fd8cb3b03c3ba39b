-- What rows say of interference.
use Rattle.std.proofs.Common.{◌≡◌, ◌↔◌, refl, sym, ap, subst, ◌∙◌, ℕ, zero, suc, ◌*◌, ◌/◌, ◌≤◌, ◌<◌, Bool, true, false, not, ◌&&◌, ◌||◌, eqb, ltb, List, [], ◌∷◌, length, get_or, Some, None, slice_get, inl, inr, arith}
use Rattle.std.specs.List.{list_any, list_all}
use Rattle.std.proofs.lemmas.Bool.{false≢true, and_parts, and_from, or_cases, or_from, or_left, or_right, cases_lt, cases_eq, cases_Bool, not-true, eqb-true, eq-eqb, ltb-true}
use Rattle.std.proofs.lemmas.Option.{none-some, slice_get-get_or, slice_get_past}
use Rattle.tp_spec.specs.declared.plan.Item.{Item}
use Rattle.tp_spec.specs.declared.plan.Item.TheVariants.{TimedAt, End, Start}
use Rattle.tp_spec.specs.declared.expr.Expr.{Expr}
use Rattle.tp_spec.specs.declared.problem.Cond.{Cond}
use Rattle.tp_spec.specs.declared.problem.Effect.{Effect}
use Rattle.tp_spec.specs.declared.problem.Effect.TheVariants.{Add, Delete, Change}
use Rattle.tp_spec.specs.declared.problem.How.{How}
use Rattle.tp_spec.specs.Interference.{asks, cond_reads, effect_reads, disturbs, collides, touches, interfere}
use Rattle.tp_spec.specs.Items.{adds, deletes, conditions, effects, timed_effects}
use Rattle.tp_spec.specs.Lists.{part_of}
use Rattle.tp_spec.specs.WellFormed.{Ground, IsWellFormed, is_effect, is_expr, is_relative, overwrite}
use Rattle.world_state.specs.declared.rows.BitRow.{BitRow}
use Rattle.world_state.specs.Rows.{has_bit, is_in_row, has_place, words_for, InBoth, IsRowOf}
use Rattle.world_state.proofs.RowBits.{none_past}
use Rattle.world_state.proofs.RowSets.{place_below}
use Rattle.world_state.proofs.After.{same_Bool}
use Rattle.world_state.proofs.Problems.{item_inside}
use Rattle.snap_actions.specs.declared.tables.ItemRows.{ItemRows}
use Rattle.snap_actions.specs.declared.tables.Items.{Items}
use Rattle.snap_actions.specs.Tables.{steps, assigns, some_below, rows_meet, meets, touch_facts, touch_fluents, table_get, AreRowsWithin, AreItemRows, AreTables}

some_found : (n : ℕ) (test : ℕ → Bool) → some_below n test ≡ true → (k : ℕ) × (test k ≡ true)
some_found zero test h = absurd (false≢true h)
some_found (suc n) test h = elim (or_cases (test n) (some_below n test) h) [ inl here ↦ (n, here) | inr there ↦ some_found n test there ]

some_from : (n : ℕ) (test : ℕ → Bool) (k : ℕ) → k < n → test k ≡ true → some_below n test ≡ true
some_from zero test k below h = absurd (omega arith)
some_from (suc n) test k below h =
    elim (cases_eq k n) [
      | inl same ↦ or_left (test n) (some_below n test) (subst (λ i. test i ≡ true) same h)
      | inr other ↦ let less : k < n = omega arith in or_right (test n) (some_below n test) (some_from n test k less h)
    ]

-- a number that two rows have
pub meets_found : (a b : BitRow) → meets a b ≡ true → (f : ℕ) × (is_in_row a f ≡ true) × (is_in_row b f ≡ true)
unfolding rows_meet
meets_found a b h =
    let found = some_found (64 * length a.words.items) (λ f. has_bit a.words.items f && has_bit b.words.items f) h in
    let both = and_parts (has_bit a.words.items found.0) (has_bit b.words.items found.0) found.1 in
    (found.0, both.0, both.1)

pub meets_from : (a b : BitRow) (f : ℕ) → is_in_row a f ≡ true → is_in_row b f ≡ true → meets a b ≡ true
unfolding rows_meet
meets_from a b f here there =
    elim (cases_lt f (64 * length a.words.items)) [
      | inl below ↦
          some_from (64 * length a.words.items) (λ f. has_bit a.words.items f && has_bit b.words.items f) f below
          (and_from (has_bit a.words.items f) (has_bit b.words.items f) here there)
      | inr past ↦
          let out : length a.words.items ≤ f / 64 = omega arith in
          absurd (false≢true (sym (none_past a.words.items f out) ∙ here))
    ]

-- a member that passes a test
record Found {A : Type 0} (test : A → Bool) (xs : List A) : Type 0 where
  member : A
  passes : test member ≡ true
  any : (q : A → Bool) → q member ≡ true → list_any q xs ≡ true
  all : (q : A → Bool) → list_all q xs ≡ true → q member ≡ true

found : {A : Type 0} (test : A → Bool) (xs : List A) → list_any test xs ≡ true → Found test xs
found test [] h = absurd (false≢true h)
found test (x ∷ xs) h =
    elim (or_cases (test x) (list_any test xs) h) [
      | inl here ↦ record {
        member = x;
        passes = here;
        any = λ q is. or_left (q x) (list_any q xs) is;
        all = λ q each. (and_parts (q x) (list_all q xs) each).0;
      }
      | inr there ↦
          let f = found test xs there in
          record {
            member = f.member;
            passes = f.passes;
            any = λ q is. or_right (q x) (list_any q xs) (f.any q is);
            all = λ q each. f.all q (and_parts (q x) (list_all q xs) each).1;
          }
    ]

-- what an effect adds, deletes or writes, against what the other one asks, reads, adds, deletes or writes
adds_asked : (f : ℕ) (e : Effect) (c : Cond) → adds f e ≡ true → asks f c ≡ true → disturbs e c ≡ true
adds_asked f (Add g) c h k = subst (λ x. asks x c ≡ true) (eqb-true f g h) k
adds_asked f (Delete g) c h k = absurd (false≢true h)
adds_asked f (Change how y v) c h k = absurd (false≢true h)

deletes_asked : (f : ℕ) (e : Effect) (c : Cond) → deletes f e ≡ true → asks f c ≡ true → disturbs e c ≡ true
deletes_asked f (Add g) c h k = absurd (false≢true h)
deletes_asked f (Delete g) c h k = subst (λ x. asks x c ≡ true) (eqb-true f g h) k
deletes_asked f (Change how y v) c h k = absurd (false≢true h)

adds_deleted : (f : ℕ) (e d : Effect) → adds f e ≡ true → deletes f d ≡ true → collides e d ≡ true
adds_deleted f (Add g) d h k = subst (λ x. deletes x d ≡ true) (eqb-true f g h) k
adds_deleted f (Delete g) d h k = absurd (false≢true h)
adds_deleted f (Change how y v) d h k = absurd (false≢true h)

deletes_added : (f : ℕ) (e d : Effect) → deletes f e ≡ true → adds f d ≡ true → collides e d ≡ true
deletes_added f (Add g) d h k = absurd (false≢true h)
deletes_added f (Delete g) d h k = subst (λ x. adds x d ≡ true) (eqb-true f g h) k
deletes_added f (Change how y v) d h k = absurd (false≢true h)

-- whether an effect writes fluent x
abbrev writes : ℕ → Effect → Bool
writes x (Add f) = false
writes x (Delete f) = false
writes x (Change how y e) = eqb x y

steps_writes : (x : ℕ) (e : Effect) → steps x e ≡ true → writes x e ≡ true
steps_writes x (Add f) h = h
steps_writes x (Delete f) h = h
steps_writes x (Change how y v) h = (and_parts (eqb x y) (is_relative how) h).0

assigns_writes : (x : ℕ) (e : Effect) → assigns x e ≡ true → writes x e ≡ true
assigns_writes x (Add f) h = h
assigns_writes x (Delete f) h = h
assigns_writes x (Change how y v) h = (and_parts (eqb x y) (not (is_relative how)) h).0

writes_read : (x : ℕ) (e : Effect) (c : Cond) → writes x e ≡ true → cond_reads x c ≡ true → disturbs e c ≡ true
writes_read x (Add f) c h k = absurd (false≢true h)
writes_read x (Delete f) c h k = absurd (false≢true h)
writes_read x (Change how y v) c h k = subst (λ z. cond_reads z c ≡ true) (eqb-true x y h) k

writes_used : (x : ℕ) (e d : Effect) → writes x e ≡ true → effect_reads x d ≡ true → collides e d ≡ true
writes_used x (Add f) d h k = absurd (false≢true h)
writes_used x (Delete f) d h k = absurd (false≢true h)
writes_used x (Change how y v) d h k =
    or_left (effect_reads y d) (overwrite (Change how y v) d) (subst (λ z. effect_reads z d ≡ true) (eqb-true x y h) k)

-- the second one assigns
both_write_second : (x : ℕ) (e d : Effect) → writes x e ≡ true → assigns x d ≡ true → collides e d ≡ true
both_write_second x (Add f) d h k = absurd (false≢true h)
both_write_second x (Delete f) d h k = absurd (false≢true h)
both_write_second x (Change how y v) (Add f) h k = absurd (false≢true k)
both_write_second x (Change how y v) (Delete f) h k = absurd (false≢true k)
both_write_second x (Change how y v) (Change how' y' v') h k =
    let parts = and_parts (eqb x y') (not (is_relative how')) k in
    let same : eqb y y' ≡ true = eq-eqb y y' (sym (eqb-true x y h) ∙ eqb-true x y' parts.0) in
    or_right (effect_reads y (Change how' y' v')) (overwrite (Change how y v) (Change how' y' v'))
    (and_from (eqb y y') (not (is_relative how && is_relative how')) same (not_both (is_relative how) (is_relative how') parts.1))
  where
    not_both : (a b : Bool) → not b ≡ true → not (a && b) ≡ true
    not_both true b h = h
    not_both false b h = refl

-- the first one assigns
both_write_first : (x : ℕ) (e d : Effect) → assigns x e ≡ true → writes x d ≡ true → collides e d ≡ true
both_write_first x (Add f) d h k = absurd (false≢true h)
both_write_first x (Delete f) d h k = absurd (false≢true h)
both_write_first x (Change how y v) (Add f) h k = absurd (false≢true k)
both_write_first x (Change how y v) (Delete f) h k = absurd (false≢true k)
both_write_first x (Change how y v) (Change how' y' v') h k =
    let parts = and_parts (eqb x y) (not (is_relative how)) h in
    let same : eqb y y' ≡ true = eq-eqb y y' (sym (eqb-true x y parts.0) ∙ eqb-true x y' k) in
    or_right (effect_reads y (Change how' y' v')) (overwrite (Change how y v) (Change how' y' v'))
    (and_from (eqb y y') (not (is_relative how && is_relative how')) same (not_both (is_relative how) (is_relative how') parts.1))
  where
    not_both : (a b : Bool) → not a ≡ true → not (a && b) ≡ true
    not_both true b h = absurd (false≢true h)
    not_both false b h = refl

-- whether an effect of the first item disturbs a condition of the second or collides with an effect of it
abbrev hits : List Cond → List Effect → Effect → Bool
hits conds does e = list_any (disturbs e) conds || list_any (collides e) does

by_cond : (es : List Effect) (cs : List Cond) (ds : List Effect) (q : Effect → Bool) (k : Cond → Bool) → ((e : Effect) (c : Cond) → q e ≡ true → k c ≡ true → disturbs e c ≡ true)
    → list_any q es ≡ true → list_any k cs ≡ true → list_any (hits cs ds) es ≡ true
by_cond es cs ds q k rule some some' =
    let e = found q es some in
    let c = found k cs some' in
    e.any (hits cs ds) (or_left (list_any (disturbs e.member) cs) (list_any (collides e.member) ds) (c.any (disturbs e.member) (rule e.member c.member e.passes c.passes)))

by_effect : (es : List Effect) (cs : List Cond) (ds : List Effect) (q k : Effect → Bool) → ((e d : Effect) → q e ≡ true → k d ≡ true → collides e d ≡ true)
    → list_any q es ≡ true → list_any k ds ≡ true → list_any (hits cs ds) es ≡ true
by_effect es cs ds q k rule some some' =
    let e = found q es some in
    let d = found k ds some' in
    e.any (hits cs ds) (or_right (list_any (disturbs e.member) cs) (list_any (collides e.member) ds) (d.any (collides e.member) (rule e.member d.member e.passes d.passes)))

by_read : (es : List Effect) (cs : List Cond) (ds : List Effect) (x : ℕ) (q : Effect → Bool) → ((e : Effect) → q e ≡ true → writes x e ≡ true)
    → list_any q es ≡ true → (list_any (cond_reads x) cs || list_any (effect_reads x) ds) ≡ true → list_any (hits cs ds) es ≡ true
by_read es cs ds x q write some read =
    elim (or_cases (list_any (cond_reads x) cs) (list_any (effect_reads x) ds) read) [
      | inl asked ↦ by_cond es cs ds q (cond_reads x) (λ e c h k. writes_read x e c (write e h) k) some asked
      | inr used ↦ by_effect es cs ds q (effect_reads x) (λ e d h k. writes_used x e d (write e h) k) some used
    ]

-- from a number in a row to the set, and back
from_row : (row : BitRow) (words : ℕ) (set : ℕ → Bool) (f : ℕ) → IsRowOf row words (λ f. has_place words f && set f) → is_in_row row f ≡ true → set f ≡ true
from_row row words set f r h = (and_parts (has_place words f) (set f) (sym (r.has f) ∙ h)).1

to_row : (row : BitRow) (count : ℕ) (set : ℕ → Bool) (f : ℕ) → IsRowOf row (words_for count) (λ f. has_place (words_for count) f && set f) → f < count → set f ≡ true
    → is_in_row row f ≡ true
to_row row count set f r below h = r.has f ∙ and_from (has_place (words_for count) f) (set f) (place_below count f below) h

module _ (facts fluents : ℕ) (r s : ItemRows) (is cs : List Cond) (es ds : List Effect)
    (first : AreRowsWithin (words_for facts) (words_for fluents) r is es) (second : AreRowsWithin (words_for facts) (words_for fluents) s cs ds) where
  -- rows that touch
  facts_hit : touch_facts r s ≡ true → list_any (hits cs ds) es ≡ true
  facts_hit h =
      elim (or_cases (meets r.added s.asked || meets r.deleted s.asked || meets r.added s.deleted) (meets r.deleted s.added) h) [
        | inr last ↦
            let f = meets_found r.deleted s.added last in
            by_effect es cs ds (deletes f.0) (adds f.0) (deletes_added f.0)
            (from_row r.deleted (words_for facts) (λ f. list_any (deletes f) es) f.0 first.deleted f.1)
            (from_row s.added (words_for facts) (λ f. list_any (adds f) ds) f.0 second.added f.2)
        | inl before ↦
            elim (or_cases (meets r.added s.asked || meets r.deleted s.asked) (meets r.added s.deleted) before) [
              | inr third ↦
                  let f = meets_found r.added s.deleted third in
                  by_effect es cs ds (adds f.0) (deletes f.0) (adds_deleted f.0)
                  (from_row r.added (words_for facts) (λ f. list_any (adds f) es) f.0 first.added f.1)
                  (from_row s.deleted (words_for facts) (λ f. list_any (deletes f) ds) f.0 second.deleted f.2)
              | inl early ↦
                  elim (or_cases (meets r.added s.asked) (meets r.deleted s.asked) early) [
                    | inl adding ↦
                        let f = meets_found r.added s.asked adding in
                        by_cond es cs ds (adds f.0) (asks f.0) (adds_asked f.0)
                        (from_row r.added (words_for facts) (λ f. list_any (adds f) es) f.0 first.added f.1)
                        (from_row s.asked (words_for facts) (λ f. list_any (asks f) cs) f.0 second.asked f.2)
                    | inr deleting ↦
                        let f = meets_found r.deleted s.asked deleting in
                        by_cond es cs ds (deletes f.0) (asks f.0) (deletes_asked f.0)
                        (from_row r.deleted (words_for facts) (λ f. list_any (deletes f) es) f.0 first.deleted f.1)
                        (from_row s.asked (words_for facts) (λ f. list_any (asks f) cs) f.0 second.asked f.2)
                  ]
            ]
      ]

  in_stepped : (x : ℕ) → is_in_row r.stepped x ≡ true → list_any (steps x) es ≡ true
  in_stepped x h = from_row r.stepped (words_for fluents) (λ x. list_any (steps x) es) x first.stepped h

  in_assigned : (x : ℕ) → is_in_row r.assigned x ≡ true → list_any (assigns x) es ≡ true
  in_assigned x h = from_row r.assigned (words_for fluents) (λ x. list_any (assigns x) es) x first.assigned h

  in_read : (x : ℕ) → is_in_row s.read x ≡ true → (list_any (cond_reads x) cs || list_any (effect_reads x) ds) ≡ true
  in_read x h = from_row s.read (words_for fluents) (λ x. list_any (cond_reads x) cs || list_any (effect_reads x) ds) x second.read h

  fluents_hit : touch_fluents r s ≡ true → list_any (hits cs ds) es ≡ true
  fluents_hit h =
      elim (or_cases (meets r.stepped s.read || meets r.assigned s.read || meets r.stepped s.assigned || meets r.assigned s.stepped) (meets r.assigned s.assigned) h) [
        | inr last ↦
            let x = meets_found r.assigned s.assigned last in
            by_effect es cs ds (assigns x.0) (assigns x.0) (λ e d h k. both_write_first x.0 e d h (assigns_writes x.0 d k)) (in_assigned x.0 x.1)
            (from_row s.assigned (words_for fluents) (λ x. list_any (assigns x) ds) x.0 second.assigned x.2)
        | inl a ↦
            elim (or_cases (meets r.stepped s.read || meets r.assigned s.read || meets r.stepped s.assigned) (meets r.assigned s.stepped) a) [
              | inr fourth ↦
                  let x = meets_found r.assigned s.stepped fourth in
                  by_effect es cs ds (assigns x.0) (steps x.0) (λ e d h k. both_write_first x.0 e d h (steps_writes x.0 d k)) (in_assigned x.0 x.1)
                  (from_row s.stepped (words_for fluents) (λ x. list_any (steps x) ds) x.0 second.stepped x.2)
              | inl b ↦
                  elim (or_cases (meets r.stepped s.read || meets r.assigned s.read) (meets r.stepped s.assigned) b) [
                    | inr third ↦
                        let x = meets_found r.stepped s.assigned third in
                        by_effect es cs ds (steps x.0) (assigns x.0) (λ e d h k. both_write_second x.0 e d (steps_writes x.0 e h) k) (in_stepped x.0 x.1)
                        (from_row s.assigned (words_for fluents) (λ x. list_any (assigns x) ds) x.0 second.assigned x.2)
                    | inl early ↦
                        elim (or_cases (meets r.stepped s.read) (meets r.assigned s.read) early) [
                          | inl stepping ↦
                              let x = meets_found r.stepped s.read stepping in
                              by_read es cs ds x.0 (steps x.0) (steps_writes x.0) (in_stepped x.0 x.1) (in_read x.0 x.2)
                          | inr assigning ↦
                              let x = meets_found r.assigned s.read assigning in
                              by_read es cs ds x.0 (assigns x.0) (assigns_writes x.0) (in_assigned x.0 x.1) (in_read x.0 x.2)
                        ]
                  ]
            ]
      ]

  facts_touch : touch_facts r s ≡ true → (touch_facts r s || touch_fluents r s) ≡ true
  facts_touch h = or_left (touch_facts r s) (touch_fluents r s) h

  fluents_touch : touch_fluents r s ≡ true → (touch_facts r s || touch_fluents r s) ≡ true
  fluents_touch h = or_right (touch_facts r s) (touch_fluents r s) h

  -- an effect that writes a fluent is in one of the two rows
  in_first : (how : How) (y : ℕ) (v : Expr) (x : ℕ) → eqb x y ≡ true → x < fluents → ((q : Effect → Bool) → q (Change how y v) ≡ true → list_any q es ≡ true)
      → (is_relative how ≡ true → is_in_row r.stepped x ≡ true) × (is_relative how ≡ false → is_in_row r.assigned x ≡ true)
  in_first how y v x same below any = (
    λ relative. to_row r.stepped fluents (λ x. list_any (steps x) es) x first.stepped below
        (any (steps x) (and_from (eqb x y) (is_relative how) same relative)),
    λ absolute. to_row r.assigned fluents (λ x. list_any (assigns x) es) x first.assigned below
        (any (assigns x) (and_from (eqb x y) (not (is_relative how)) same (ap not absolute))),
  )

  in_second : (how : How) (y : ℕ) (v : Expr) (x : ℕ) → eqb x y ≡ true → x < fluents → ((q : Effect → Bool) → q (Change how y v) ≡ true → list_any q ds ≡ true)
      → (is_relative how ≡ true → is_in_row s.stepped x ≡ true) × (is_relative how ≡ false → is_in_row s.assigned x ≡ true)
  in_second how y v x same below any = (
    λ relative. to_row s.stepped fluents (λ x. list_any (steps x) ds) x second.stepped below
        (any (steps x) (and_from (eqb x y) (is_relative how) same relative)),
    λ absolute. to_row s.assigned fluents (λ x. list_any (assigns x) ds) x second.assigned below
        (any (assigns x) (and_from (eqb x y) (not (is_relative how)) same (ap not absolute))),
  )

  -- a fluent that the first writes and the second reads
  reading_touches : (how : How) (v : Expr) (x : ℕ) → x < fluents → ((q : Effect → Bool) → q (Change how x v) ≡ true → list_any q es ≡ true)
      → (list_any (cond_reads x) cs || list_any (effect_reads x) ds) ≡ true → (touch_facts r s || touch_fluents r s) ≡ true
  reading_touches how v x below any read =
      let written = in_first how x v x (eq-eqb x x refl) below any in
      let there : is_in_row s.read x ≡ true = to_row s.read fluents (λ x. list_any (cond_reads x) cs || list_any (effect_reads x) ds) x second.read below read in
      let a : Bool = meets r.stepped s.read in
      let b : Bool = meets r.assigned s.read in
      let c : Bool = meets r.stepped s.assigned in
      let d : Bool = meets r.assigned s.stepped in
      let e : Bool = meets r.assigned s.assigned in
      fluents_touch (or_left (a || b || c || d) e (or_left (a || b || c) d (or_left (a || b) c
      (elim (cases_Bool (is_relative how)) [
        | inl relative ↦ or_left a b (meets_from r.stepped s.read x (written.0 relative) there)
        | inr absolute ↦ or_right a b (meets_from r.assigned s.read x (written.1 absolute) there)
      ]))))

  -- a fluent that both write, and not both by increase or decrease
  writing_touches : (how : How) (v : Expr) (x : ℕ) (how' : How) (y : ℕ) (v' : Expr) → x < fluents → eqb x y ≡ true → not (is_relative how && is_relative how') ≡ true
      → ((q : Effect → Bool) → q (Change how x v) ≡ true → list_any q es ≡ true) → ((q : Effect → Bool) → q (Change how' y v') ≡ true → list_any q ds ≡ true)
      → (touch_facts r s || touch_fluents r s) ≡ true
  writing_touches how v x how' y v' below same apart any any' =
      let written = in_first how x v x (eq-eqb x x refl) below any in
      let written' = in_second how' y v' x same below any' in
      let a : Bool = meets r.stepped s.read in
      let b : Bool = meets r.assigned s.read in
      let c : Bool = meets r.stepped s.assigned in
      let d : Bool = meets r.assigned s.stepped in
      let e : Bool = meets r.assigned s.assigned in
      fluents_touch
      (elim (cases_Bool (is_relative how)) [
        | inl relative ↦
            let absolute' : is_relative how' ≡ false = not-true (is_relative how') (sym (ap (λ k. not (k && is_relative how')) relative) ∙ apart) in
            or_left (a || b || c || d) e (or_left (a || b || c) d (or_right (a || b) c (meets_from r.stepped s.assigned x (written.0 relative) (written'.1 absolute'))))
        | inr absolute ↦
            elim (cases_Bool (is_relative how')) [
              | inl relative' ↦ or_left (a || b || c || d) e (or_right (a || b || c) d (meets_from r.assigned s.stepped x (written.1 absolute) (written'.0 relative')))
              | inr absolute' ↦ or_right (a || b || c || d) e (meets_from r.assigned s.assigned x (written.1 absolute) (written'.1 absolute'))
            ]
      ])

  cond_touches : (e : Effect) (c : Cond) → is_effect facts fluents e ≡ true → ((q : Effect → Bool) → q e ≡ true → list_any q es ≡ true)
      → ((k : Cond → Bool) → k c ≡ true → list_any k cs ≡ true) → disturbs e c ≡ true → (touch_facts r s || touch_fluents r s) ≡ true
  cond_touches (Add g) c good any any' h =
      let below : g < facts = ltb-true g facts good in
      let a : Bool = meets r.added s.asked in
      let b : Bool = meets r.deleted s.asked in
      facts_touch (or_left (a || b || meets r.added s.deleted) (meets r.deleted s.added) (or_left (a || b) (meets r.added s.deleted) (or_left a b
      (meets_from r.added s.asked g
      (to_row r.added facts (λ f. list_any (adds f) es) g first.added below (any (adds g) (eq-eqb g g refl)))
      (to_row s.asked facts (λ f. list_any (asks f) cs) g second.asked below (any' (asks g) h))))))
  cond_touches (Delete g) c good any any' h =
      let below : g < facts = ltb-true g facts good in
      let a : Bool = meets r.added s.asked in
      let b : Bool = meets r.deleted s.asked in
      facts_touch (or_left (a || b || meets r.added s.deleted) (meets r.deleted s.added) (or_left (a || b) (meets r.added s.deleted) (or_right a b
      (meets_from r.deleted s.asked g
      (to_row r.deleted facts (λ f. list_any (deletes f) es) g first.deleted below (any (deletes g) (eq-eqb g g refl)))
      (to_row s.asked facts (λ f. list_any (asks f) cs) g second.asked below (any' (asks g) h))))))
  cond_touches (Change how x v) c good any any' h =
      let below : x < fluents = ltb-true x fluents (and_parts (ltb x fluents) (is_expr fluents v) good).0 in
      reading_touches how v x below any (or_left (list_any (cond_reads x) cs) (list_any (effect_reads x) ds) (any' (cond_reads x) h))

  overwrite_touches : (how : How) (x : ℕ) (v : Expr) (d : Effect) → x < fluents → ((q : Effect → Bool) → q (Change how x v) ≡ true → list_any q es ≡ true)
      → ((q : Effect → Bool) → q d ≡ true → list_any q ds ≡ true) → overwrite (Change how x v) d ≡ true → (touch_facts r s || touch_fluents r s) ≡ true
  overwrite_touches how x v (Add f) below any any' h = absurd (false≢true h)
  overwrite_touches how x v (Delete f) below any any' h = absurd (false≢true h)
  overwrite_touches how x v (Change how' y v') below any any' h =
      let parts = and_parts (eqb x y) (not (is_relative how && is_relative how')) h in
      writing_touches how v x how' y v' below parts.0 parts.1 any any'

  effect_touches : (e d : Effect) → is_effect facts fluents e ≡ true → ((q : Effect → Bool) → q e ≡ true → list_any q es ≡ true)
      → ((q : Effect → Bool) → q d ≡ true → list_any q ds ≡ true) → collides e d ≡ true → (touch_facts r s || touch_fluents r s) ≡ true
  effect_touches (Add g) d good any any' h =
      let below : g < facts = ltb-true g facts good in
      let a : Bool = meets r.added s.asked || meets r.deleted s.asked in
      facts_touch (or_left (a || meets r.added s.deleted) (meets r.deleted s.added) (or_right a (meets r.added s.deleted)
      (meets_from r.added s.deleted g
      (to_row r.added facts (λ f. list_any (adds f) es) g first.added below (any (adds g) (eq-eqb g g refl)))
      (to_row s.deleted facts (λ f. list_any (deletes f) ds) g second.deleted below (any' (deletes g) h)))))
  effect_touches (Delete g) d good any any' h =
      let below : g < facts = ltb-true g facts good in
      facts_touch (or_right (meets r.added s.asked || meets r.deleted s.asked || meets r.added s.deleted) (meets r.deleted s.added)
      (meets_from r.deleted s.added g
      (to_row r.deleted facts (λ f. list_any (deletes f) es) g first.deleted below (any (deletes g) (eq-eqb g g refl)))
      (to_row s.added facts (λ f. list_any (adds f) ds) g second.added below (any' (adds g) h))))
  effect_touches (Change how x v) d good any any' h =
      let below : x < fluents = ltb-true x fluents (and_parts (ltb x fluents) (is_expr fluents v) good).0 in
      elim (or_cases (effect_reads x d) (overwrite (Change how x v) d) h) [
        | inl used ↦ reading_touches how v x below any (or_right (list_any (cond_reads x) cs) (list_any (effect_reads x) ds) (any' (effect_reads x) used))
        | inr both ↦ overwrite_touches how x v d below any any' both
      ]

  -- the rows touch exactly where an effect of the first disturbs a condition of the second or collides with an effect of it
  pub rows_touch : list_all (is_effect facts fluents) es ≡ true → (touch_facts r s || touch_fluents r s) ≡ list_any (hits cs ds) es
  rows_touch good =
      same_Bool (touch_facts r s || touch_fluents r s) (list_any (hits cs ds) es)
      (λ h. elim (or_cases (touch_facts r s) (touch_fluents r s) h) [ inl by_facts ↦ facts_hit by_facts | inr by_fluents ↦ fluents_hit by_fluents ])
      (λ h.
      let e = found (hits cs ds) es h in
      elim (or_cases (list_any (disturbs e.member) cs) (list_any (collides e.member) ds) e.passes) [
        | inl asked ↦
            let c = found (disturbs e.member) cs asked in
            cond_touches e.member c.member (e.all (is_effect facts fluents) good) e.any c.any c.passes
        | inr done ↦
            let d = found (collides e.member) ds done in
            effect_touches e.member d.member (e.all (is_effect facts fluents) good) e.any d.any d.passes
      ])

pub touches_is : (p : Ground) → IsWellFormed p → (i j : Item) (r s : ItemRows) → AreItemRows p i r → AreItemRows p j s
    → (touch_facts r s || touch_fluents r s) ≡ touches p i j
touches_is p formed i j r s first second =
    rows_touch (length p.facts) (length p.fluents) r s (conditions p i) (conditions p j) (effects p i) (effects p j) first second (item_inside p formed i)

pub meets_is : (a b : BitRow) (result : Bool) → (result ≡ true) ↔ InBoth a.words.items b.words.items → result ≡ meets a b
meets_is a b result iff =
    same_Bool result (meets a b)
    (λ yes. let both = iff.0 yes in meets_from a b both.member both.in_first both.in_second)
    (λ yes. let f = meets_found a b yes in iff.1 (record { member = f.0; in_first = f.1; in_second = f.2 }))

none_past_end : {A : Type 0} (xs : List A) (k : ℕ) → None ≡ slice_get xs k → length xs ≤ k
none_past_end xs k h =
    elim (cases_lt k (length xs)) [
      | inl below ↦ got xs k h below
      | inr past ↦ past
    ]
  where
    got : {A : Type 0} (xs : List A) (k : ℕ) → None ≡ slice_get xs k → k < length xs → length xs ≤ k
    got [] k h below = absurd (omega arith)
    got (x ∷ xs) k h below = absurd (none-some (get_or (x ∷ xs) k x) (h ∙ slice_get-get_or (x ∷ xs) k x below))

no_part : {A B C : Type 0} (xs : List A) (ys : List B) (k : ℕ) (part : B → List C) → None ≡ slice_get xs k → length xs ≡ length ys → part_of (slice_get ys k) part ≡ []
no_part xs ys k part none same =
    let past : length xs ≤ k = none_past_end xs k none in
    let out : length ys ≤ k = omega arith in
    ap (λ o. part_of o part) (slice_get_past ys k out)

-- an item that the tables do not have does nothing and asks nothing
no_effects : (p : Ground) (t : Items) (i : Item) → AreTables p t → None ≡ table_get t i → effects p i ≡ []
no_effects p t (TimedAt k) h none = no_part t.timed.items p.timed k timed_effects none h.timed_count
no_effects p t (End a) h none = no_part t.ends.items p.actions a (λ x. x.end_effects) none h.end_count
no_effects p t (Start a) h none = no_part t.starts.items p.actions a (λ x. x.start_effects) none h.start_count

no_conds : (p : Ground) (t : Items) (i : Item) → AreTables p t → None ≡ table_get t i → conditions p i ≡ []
no_conds p t (TimedAt k) h none = refl
no_conds p t (End a) h none = no_part t.ends.items p.actions a (λ x. x.end_conds) none h.end_count
no_conds p t (Start a) h none = no_part t.starts.items p.actions a (λ x. x.start_conds) none h.start_count

none_hit : (es : List Effect) → list_any (hits [] []) es ≡ false
none_hit [] = refl
none_hit (e ∷ es) = none_hit es

untouched : (p : Ground) (i j : Item) → effects p i ≡ [] → touches p i j ≡ false
untouched p i j none = ap (list_any (hits (conditions p j) (effects p j))) none

untouching : (p : Ground) (i j : Item) → effects p i ≡ [] → conditions p i ≡ [] → touches p j i ≡ false
untouching p i j none none' = ap (λ cs. list_any (hits cs (effects p i)) (effects p j)) none' ∙ ap (λ ds. list_any (hits [] ds) (effects p j)) none ∙ none_hit (effects p j)

pub first_missing : (p : Ground) (t : Items) (i j : Item) → AreTables p t → None ≡ table_get t i → false ≡ interfere p i j
first_missing p t i j h none =
    let does = no_effects p t i h none in
    sym (or_from (touches p i j) (touches p j i) (untouched p i j does) (untouching p i j does (no_conds p t i h none)))

pub second_missing : (p : Ground) (t : Items) (i j : Item) → AreTables p t → None ≡ table_get t j → false ≡ interfere p i j
second_missing p t i j h none =
    let does = no_effects p t j h none in
    sym (or_from (touches p i j) (touches p j i) (untouching p j i does (no_conds p t j h none)) (untouched p j i does))

rows_at : (p : Ground) (t : Items) (i : Item) (r : ItemRows) → AreTables p t → Some r ≡ table_get t i → AreItemRows p i r
rows_at p t (TimedAt k) r h got = h.timed k r (sym got)
rows_at p t (End a) r h got = h.ends a r (sym got)
rows_at p t (Start a) r h got = h.starts a r (sym got)

pub table_touches : (p : Ground) (t : Items) (i j : Item) (r s : ItemRows) (result : Bool) → AreTables p t → Some r ≡ table_get t i → Some s ≡ table_get t j
    → result ≡ (touch_facts r s || touch_fluents r s) → result ≡ touches p i j
table_touches p t i j r s result h got got' is = is ∙ touches_is p h.formed i j r s (rows_at p t i r h got) (rows_at p t j s h got')

pub first_touches : (p : Ground) (i j : Item) (result : Bool) → result ≡ touches p i j → result ≡ true → result ≡ interfere p i j
first_touches p i j result is true_here = true_here ∙ sym (or_left (touches p i j) (touches p j i) (sym is ∙ true_here))

pub second_touches : (p : Ground) (i j : Item) (first second : Bool) → first ≡ touches p i j → first ≡ false → second ≡ touches p j i → second ≡ interfere p i j
second_touches p i j first second is false_here is' = is' ∙ sym (ap (λ b. b || touches p j i) (sym is ∙ false_here))
