-- What a timed item adds and deletes, as a change of a row of facts.
use Rattle.std.proofs.Common.{◌≡◌, refl, sym, ap, ◌∙◌, ℕ, Bool, true, false, ◌||◌, eqb, List, [], ◌∷◌, map, Option, Some, None, slice_get}
use Rattle.std.specs.List.{list_any}
use Rattle.std.proofs.lemmas.List.Folds.{list_any-append}
use Rattle.tp_spec.specs.declared.problem.Effect.TheVariants.{Add, Delete}
use Rattle.tp_spec.specs.declared.problem.TimedItem.{TimedItem}
use Rattle.tp_spec.specs.declared.plan.Item.{Item}
use Rattle.tp_spec.specs.declared.plan.Item.TheVariants.{TimedAt}
use Rattle.tp_spec.specs.Items.{adds, deletes, effects, timed_effects}
use Rattle.tp_spec.specs.Lists.{part_of}
use Rattle.tp_spec.specs.WellFormed.{Ground}
use Rattle.world_state.specs.declared.rows.BitRow.{BitRow}
use Rattle.world_state.specs.Rows.{Takes, Loses}
use Rattle.world_state.proofs.RowSets.{takes_same, takes_none, loses_same, loses_none}

or_false : (b : Bool) → b ≡ (b || false)
or_false true = refl
or_false false = refl

any_added : (f : ℕ) (xs : List ℕ) → list_any (adds f) (map Add xs) ≡ list_any (λ g. eqb f g) xs
any_added f [] = refl
any_added f (x ∷ xs) = ap (λ b. eqb f x || b) (any_added f xs)

any_deleted : (f : ℕ) (xs : List ℕ) → list_any (deletes f) (map Delete xs) ≡ list_any (λ g. eqb f g) xs
any_deleted f [] = refl
any_deleted f (x ∷ xs) = ap (λ b. eqb f x || b) (any_deleted f xs)

none_added : (f : ℕ) (xs : List ℕ) → list_any (adds f) (map Delete xs) ≡ false
none_added f [] = refl
none_added f (x ∷ xs) = none_added f xs

none_deleted : (f : ℕ) (xs : List ℕ) → list_any (deletes f) (map Add xs) ≡ false
none_deleted f [] = refl
none_deleted f (x ∷ xs) = none_deleted f xs

pub timed_adds : (f : ℕ) (t : TimedItem) → list_any (λ g. eqb f g) t.adds ≡ list_any (adds f) (timed_effects t)
timed_adds f t =
    sym (list_any-append (adds f) (map Add t.adds) (map Delete t.deletes)
    ∙ ap (λ b. b || list_any (adds f) (map Delete t.deletes)) (any_added f t.adds)
    ∙ ap (λ b. list_any (λ g. eqb f g) t.adds || b) (none_added f t.deletes)
    ∙ sym (or_false (list_any (λ g. eqb f g) t.adds)))

pub timed_deletes : (f : ℕ) (t : TimedItem) → list_any (λ g. eqb f g) t.deletes ≡ list_any (deletes f) (timed_effects t)
timed_deletes f t =
    sym (list_any-append (deletes f) (map Add t.adds) (map Delete t.deletes)
    ∙ ap (λ b. b || list_any (deletes f) (map Delete t.deletes)) (none_deleted f t.adds)
    ∙ any_deleted f t.deletes)

effects_of_timed : (p : Ground) (i : Item) (k : ℕ) (o : Option TimedItem) → i ≡ TimedAt k → o ≡ slice_get p.timed k → part_of o timed_effects ≡ effects p i
effects_of_timed p i k o is got = ap (λ q. part_of q timed_effects) got ∙ ap (effects p) (sym is)

pub timed_takes : (p : Ground) (i : Item) (k : ℕ) (t : TimedItem) (members : List ℕ) (old new : BitRow) → i ≡ TimedAt k → Some t ≡ slice_get p.timed k
    → members ≡ t.adds → Takes old new (λ f. list_any (λ g. eqb f g) members) → Takes old new (λ f. list_any (adds f) (effects p i))
timed_takes p i k t members old new is got of h =
    takes_same old new (λ f. list_any (λ g. eqb f g) members) (λ f. list_any (adds f) (effects p i))
    (λ f. ap (list_any (λ g. eqb f g)) of ∙ timed_adds f t ∙ ap (list_any (adds f)) (effects_of_timed p i k (Some t) is got)) h

pub no_timed_takes : (p : Ground) (i : Item) (k : ℕ) (row : BitRow) → i ≡ TimedAt k → None ≡ slice_get p.timed k → Takes row row (λ f. list_any (adds f) (effects p i))
no_timed_takes p i k row is got =
    takes_none row (λ f. list_any (adds f) (effects p i)) (λ f. ap (list_any (adds f)) (sym (effects_of_timed p i k None is got)))

pub timed_loses : (p : Ground) (i : Item) (k : ℕ) (t : TimedItem) (members : List ℕ) (old new : BitRow) → i ≡ TimedAt k → Some t ≡ slice_get p.timed k
    → members ≡ t.deletes → Loses old new (λ f. list_any (λ g. eqb f g) members) → Loses old new (λ f. list_any (deletes f) (effects p i))
timed_loses p i k t members old new is got of h =
    loses_same old new (λ f. list_any (λ g. eqb f g) members) (λ f. list_any (deletes f) (effects p i))
    (λ f. ap (list_any (λ g. eqb f g)) of ∙ timed_deletes f t ∙ ap (list_any (deletes f)) (effects_of_timed p i k (Some t) is got)) h

pub no_timed_loses : (p : Ground) (i : Item) (k : ℕ) (row : BitRow) → i ≡ TimedAt k → None ≡ slice_get p.timed k → Loses row row (λ f. list_any (deletes f) (effects p i))
no_timed_loses p i k row is got =
    loses_none row (λ f. list_any (deletes f) (effects p i)) (λ f. ap (list_any (deletes f)) (sym (effects_of_timed p i k None is got)))
