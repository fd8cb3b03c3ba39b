-- Whether an item may join a group, by tests in another order.
use Rattle.std.proofs.Common.{◌≡◌, refl, ap, ◌∙◌, sym, ℕ, Bool, true, false, not, ◌&&◌, List, [], ◌∷◌, Some, slice_get, unwrap_or}
use Rattle.std.specs.List.{list_all}
use Rattle.std.proofs.lemmas.List.Folds.{list_all_at}
use Rattle.std.proofs.lemmas.Option.{slice_get_within, unwrap_or-slice_get}
use Rattle.tp_spec.specs.declared.problem.Cond.{Cond}
use Rattle.tp_spec.specs.States.{State, holds}
use Rattle.tp_spec.specs.declared.plan.Item.{Item}
use Rattle.tp_spec.specs.declared.problem.Problem.{Problem}
use Rattle.tp_spec.specs.Items.{conditions, effects, is_defined, item_before, own}
use Rattle.tp_spec.specs.Interference.{interfere}
use Rattle.tp_spec.specs.Words.{Progress, in_turn, may_join}

crossed : (a b c d : Bool) → ((a && b) && (c && d)) ≡ ((a && c) && (b && d))
crossed false b c d = refl
crossed true false false d = refl
crossed true false true d = refl
crossed true true c d = refl

all-of-both : {A : Type 0} (f g : A → Bool) (xs : List A) → list_all (λ x. f x && g x) xs ≡ (list_all f xs && list_all g xs)
all-of-both f g [] = refl
all-of-both f g (x ∷ xs) = ap (λ b. (f x && g x) && b) (all-of-both f g xs) ∙ crossed (f x) (g x) (list_all f xs) (list_all g xs)

order-first : (t b o a : Bool) → (((t && b) && o) && a) ≡ ((t && o) && (b && a))
order-first false b o a = refl
order-first true false false a = refl
order-first true false true a = refl
order-first true true o a = refl

module _ (p : Problem) (c : Progress) (i : Item) where
  abbrev pub next : Bool
  next = in_turn p c i && list_all (λ j. item_before j i) c.group

  abbrev pub apart : Bool
  apart = list_all (λ j. not (interfere p j i)) c.group

  -- the order of the group before the conditions
  join-by : ((next && own p c.before i) && apart) ≡ may_join p c i
  join-by =
      order-first (in_turn p c i) (list_all (λ j. item_before j i) c.group) (own p c.before i) apart
      ∙ ap (λ b. (in_turn p c i && own p c.before i) && b) (sym (all-of-both (λ j. item_before j i) (λ j. not (interfere p j i)) c.group))

  pub not-next : next ≡ false → false ≡ may_join p c i
  not-next e = ap (λ b. (b && own p c.before i) && apart) (sym e) ∙ join-by

  pub not-able : next ≡ true → own p c.before i ≡ false → false ≡ may_join p c i
  not-able e o = (λ k. (sym e k && sym o k) && apart) ∙ join-by

  pub if-apart : next ≡ true → own p c.before i ≡ true → apart ≡ may_join p c i
  if-apart e o = (λ k. (sym e k && sym o k) && apart) ∙ join-by

broken-at : {A : Type 0} (f : A → Bool) (xs : List A) (k : ℕ) (x : A) → slice_get xs k ≡ Some x → f x ≡ false → list_all f xs ≡ false
broken-at f xs k x got broken = list_all_at f xs k x (slice_get_within xs k x got) (ap f (sym (unwrap_or-slice_get xs k x) ∙ ap (λ o. unwrap_or o x) got) ∙ broken)

-- a condition that does not hold
pub own-broken : (p : Problem) (s : State) (i : Item) (k : ℕ) (g : Cond) → slice_get (conditions p i) k ≡ Some g → holds s g ≡ false → own p s i ≡ false
own-broken p s i k g got broken = ap (λ b. b && list_all (is_defined s) (effects p i)) (broken-at (holds s) (conditions p i) k g got broken)

and-none : (b : Bool) → (b && false) ≡ false
and-none true = refl
and-none false = refl

pub none-joins : (p : Problem) (c : Progress) (i : Item) → own p c.before i ≡ false → may_join p c i ≡ false
none-joins p c i e =
    ap (λ b. (in_turn p c i && b) && list_all (λ j. item_before j i && not (interfere p j i)) c.group) e
    ∙ ap (λ b. b && list_all (λ j. item_before j i && not (interfere p j i)) c.group) (and-none (in_turn p c i))
