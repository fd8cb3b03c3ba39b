-- The deadline of a word of instant actions with one mark more, by the word's.
use Rattle.std.proofs.Common.{◌≡◌, refl, sym, ap, subst, ◌∙◌, ℕ, suc, ◌-◌, ◌<◌, Bool, true, false, ◌&&◌, cond, List, [], ◌∷◌, ◌++◌, length, Option, Some, None, arith, nat_le, slice_get, append-nil}
use Rattle.std.proofs.lemmas.Bool.{and_parts, false≢true}
use Rattle.std.proofs.lemmas.List.Folds.{list_all-append}
use Rattle.tp_spec.specs.declared.plan.Item.{Item}
use Rattle.tp_spec.specs.declared.plan.Item.TheVariants.{TimedAt, End, Start}
use Rattle.tp_spec.specs.declared.plan.Limits.{Limits}
use Rattle.tp_spec.specs.declared.plan.Mark.{Mark}
use Rattle.tp_spec.specs.declared.problem.Problem.{Problem}
use Rattle.tp_spec.specs.Items.{is_durative}
use Rattle.tp_spec.specs.WellFormed.{IsWellFormed}
use Rattle.tp_spec.specs.Words.{Act, Sound, groups, acts_of, timed_of}
use Rattle.tp_laws.specs.Clocks.{IsDeadline}
use Rattle.tp_laws.specs.Plans.{OfFormed}
use Rattle.tp_laws.specs.Instants.{is_instant_item, is_instant_mark, of_instants, outlook_of, tick_in, tick_of, deadline_by, HasDeadline, DeadlinesByMark}
use Rattle.tp_laws.proofs.PlanOfClocks.{Emits, emits}
use Rattle.tp_laws.proofs.WordOfTimes.{timed-rises}
use Rattle.tp_laws.proofs.InstantActs.{placed, deadline-from, places-at, at-most}
use Rattle.tp_laws.proofs.InstantTicks.{Facts, facts}
use Rattle.tp_laws.proofs.InstantJoins.{TellsPlaces, HasPlaces, start-joins}
use Rattle.tp_laws.proofs.InstantOpens.{start-opens}
use Rattle.tp_laws.proofs.InstantTimes.{timed-opens, timed-joins}
use Rattle.tp_laws.proofs.InstantWords.{front, last-timed, some-group, next-item, next-place, other-item}

tells-word : (p : Problem) (l : Limits) (w : List Mark) (d : ℕ) → Sound p w → of_instants p w ≡ true → IsDeadline p l [] w d → TellsPlaces p l (groups w) (acts_of p w) (timed_of w) d
tells-word p l w d sound instants is = record {
  within = is.within;
  before = λ now t le at. at-most p l w d now t sound instants is le at;
  after = λ now le. places-at p l w d now is le;
}

word-tells : (p : Problem) (l : Limits) (w : List Mark) (o : Option ℕ) → Sound p w → of_instants p w ≡ true → HasPlaces p l (groups w) (acts_of p w) (timed_of w) o → HasDeadline p l w o
word-tells p l w None sound instants none = λ now live. none now live.schedule.tick (placed p l now w live.schedule live.is)
word-tells p l w (Some d) sound instants h = deadline-from p l w d sound instants h.within h.before h.after

-- what holds of a word's groups, acts and timed items holds of the same ones
alike : (P : ℕ → List Act → List ℕ → Type 0) (n m : ℕ) (xs ys : List Act) (ts us : List ℕ) → n ≡ m → xs ≡ ys → ts ≡ us → P n xs ts → P m ys us
alike P n m xs ys ts us e f g h = subst (λ k. P k ys us) e (subst (λ zs. P n zs us) f (subst (λ gs. P n xs gs) g h))

-- a word and one mark more
abbrev longer : List Mark → Bool → Item → List Mark
longer w fresh i = w ++ record { fresh = fresh; item = i } ∷ []

abbrev HasTold : Problem → Limits → List Mark → Option ℕ → Type 0
HasTold p l w o = HasPlaces p l (groups w) (acts_of p w) (timed_of w) o

-- the act of a start in group g
abbrev start_act : Problem → ℕ → ℕ → Act
start_act p b g = record { action = b; opens = g; closes = cond (is_durative p b) None (Some g) }

module _ (p : Problem) (l : Limits) (formed : IsWellFormed p) (w : List Mark) (d : ℕ) (is : IsDeadline p l [] w d) where
  parts : (fresh : Bool) (i : Item) → of_instants p (longer w fresh i) ≡ true → (of_instants p w ≡ true) × (is_instant_item p i ≡ true)
  parts fresh i instants =
      let both = and_parts (of_instants p w) (is_instant_item p i && true) (sym (list_all-append (is_instant_mark p) w (record { fresh = fresh; item = i } ∷ [])) ∙ instants) in
      (both.0, (and_parts (is_instant_item p i) true both.1).0)

  tells : (fresh : Bool) (i : Item) → Sound p (longer w fresh i) → of_instants p (longer w fresh i) ≡ true → TellsPlaces p l (groups w) (acts_of p w) (timed_of w) d
  tells fresh i sound instants = tells-word p l w d (front p w fresh i sound) (parts fresh i instants).0 is

  start-fresh : (b : ℕ) → Sound p (longer w true (Start b)) → of_instants p (longer w true (Start b)) ≡ true
      → HasTold p l (longer w true (Start b)) (deadline_by p l (outlook_of p w) d true (Start b))
  start-fresh b sound instants =
      let v : List Mark = longer w true (Start b) in
      let e : Emits p w v (Start b) (groups w) = emits p w true (Start b) (groups w) refl in
      let timed : timed_of v ≡ timed_of w = e.timed ∙ append-nil (timed_of w) in
      let x : Act = start_act p b (groups w) in
      let more : Facts p (suc (groups w)) (acts_of p w ++ x ∷ []) (timed_of w) =
      alike (Facts p) (groups v) (suc (groups w)) (acts_of p v) (acts_of p w ++ x ∷ []) (timed_of v) (timed_of w) e.count e.acts timed (facts p v sound) in
      alike (λ n xs ts. HasPlaces p l n xs ts (deadline_by p l (outlook_of p w) d true (Start b))) (suc (groups w)) (groups v) (acts_of p w ++ x ∷ []) (acts_of p v) (timed_of w) (timed_of v) (sym e.count) (sym e.acts) (sym timed)
      (start-opens p l (groups w) (acts_of p w) (timed_of w) x (timed-rises p formed) (facts p w (front p w true (Start b) sound)) more refl d (tells true (Start b) sound instants))

  start-joining : (b : ℕ) → Sound p (longer w false (Start b)) → of_instants p (longer w false (Start b)) ≡ true
      → HasTold p l (longer w false (Start b)) (deadline_by p l (outlook_of p w) d false (Start b))
  start-joining b sound instants =
      let v : List Mark = longer w false (Start b) in
      let some : 0 < groups w = some-group p w false (Start b) sound refl in
      let counted : groups w ≡ suc (groups w - 1) = omega (arith, some) in
      let e : Emits p w v (Start b) (groups w - 1) = emits p w false (Start b) (groups w - 1) counted in
      let timed : timed_of v ≡ timed_of w = e.timed ∙ append-nil (timed_of w) in
      let x : Act = start_act p b (groups w - 1) in
      let known : Facts p (suc (groups w - 1)) (acts_of p w) (timed_of w) =
      subst (λ (n : ℕ). Facts p n (acts_of p w) (timed_of w)) counted (facts p w (front p w false (Start b) sound)) in
      let more : Facts p (suc (groups w - 1)) (acts_of p w ++ x ∷ []) (timed_of w) =
      alike (Facts p) (groups v) (suc (groups w - 1)) (acts_of p v) (acts_of p w ++ x ∷ []) (timed_of v) (timed_of w) e.count e.acts timed (facts p v sound) in
      alike (λ n xs ts. HasPlaces p l n xs ts (deadline_by p l (outlook_of p w) d false (Start b))) (suc (groups w - 1)) (groups v) (acts_of p w ++ x ∷ []) (acts_of p v) (timed_of w) (timed_of v) (sym e.count) (sym e.acts) (sym timed)
      (start-joins p l (groups w - 1) (acts_of p w) (timed_of w) x known more refl d (last-timed p w (parts false (Start b) instants).0 (groups w - 1) counted)
      (subst (λ (n : ℕ). TellsPlaces p l n (acts_of p w) (timed_of w) d) counted (tells false (Start b) sound instants)))

  timed-fresh : (k : ℕ) → Sound p (longer w true (TimedAt k)) → of_instants p (longer w true (TimedAt k)) ≡ true
      → HasTold p l (longer w true (TimedAt k)) (deadline_by p l (outlook_of p w) d true (TimedAt k))
  timed-fresh k sound instants =
      let v : List Mark = longer w true (TimedAt k) in
      let e : Emits p w v (TimedAt k) (groups w) = emits p w true (TimedAt k) (groups w) refl in
      let i = next-item p w true k sound in
      let here : slice_get p.timed (length (timed_of w)) ≡ Some i.0 = ap (slice_get p.timed) (sym (next-place p w true k sound)) ∙ i.1 in
      let tick : i.0.tick ≡ tick_of p k = sym (ap tick_in i.1) in
      alike (λ n xs ts. HasPlaces p l n xs ts (deadline_by p l (outlook_of p w) d true (TimedAt k))) (suc (groups w)) (groups v) (acts_of p w) (acts_of p v) (timed_of w ++ groups w ∷ []) (timed_of v) (sym e.count) (sym e.acts) (sym e.timed)
      (subst (λ (t : ℕ). HasPlaces p l (suc (groups w)) (acts_of p w) (timed_of w ++ groups w ∷ []) (cond (nat_le t l.horizon) (Some d) None)) tick
      (timed-opens p l (groups w) (acts_of p w) (timed_of w) i.0 (timed-rises p formed) here (facts p w (front p w true (TimedAt k) sound)) d (tells true (TimedAt k) sound instants)))

  timed-joining : (k : ℕ) → Sound p (longer w false (TimedAt k))
      → HasTold p l (longer w false (TimedAt k)) None
  timed-joining k sound =
      let v : List Mark = longer w false (TimedAt k) in
      let some : 0 < groups w = some-group p w false (TimedAt k) sound refl in
      let counted : groups w ≡ suc (groups w - 1) = omega (arith, some) in
      let e : Emits p w v (TimedAt k) (groups w - 1) = emits p w false (TimedAt k) (groups w - 1) counted in
      let i = next-item p w false k sound in
      let here : slice_get p.timed (length (timed_of w)) ≡ Some i.0 = ap (slice_get p.timed) (sym (next-place p w false k sound)) ∙ i.1 in
      let other = other-item p w k (groups w - 1) sound counted in
      alike (λ n xs ts. HasPlaces p l n xs ts None) (groups w) (groups v) (acts_of p w) (acts_of p v) (timed_of w ++ (groups w - 1) ∷ []) (timed_of v) (counted ∙ sym e.count) (sym e.acts) (sym e.timed)
      (timed-joins p l (groups w) (acts_of p w) (timed_of w) i.0 (timed-rises p formed) here (facts p w (front p w false (TimedAt k) sound)) (groups w - 1) other.0 other.1 other.2)

  by-mark : (fresh : Bool) (i : Item) → Sound p (longer w fresh i) → of_instants p (longer w fresh i) ≡ true
      → HasTold p l (longer w fresh i) (deadline_by p l (outlook_of p w) d fresh i)
  by-mark true (TimedAt k) sound instants = timed-fresh k sound instants
  by-mark false (TimedAt k) sound instants = timed-joining k sound
  by-mark fresh (End a) sound instants = absurd (false≢true (parts fresh (End a) instants).1)
  by-mark true (Start b) sound instants = start-fresh b sound instants
  by-mark false (Start b) sound instants = start-joining b sound instants

pub deadlines-by-mark : OfFormed DeadlinesByMark
deadlines-by-mark p l formed w a d is sound instants =
    word-tells p l (w ++ a ∷ []) (deadline_by p l (outlook_of p w) d a.fresh a.item) sound instants (by-mark p l formed w d is a.fresh a.item sound instants)
