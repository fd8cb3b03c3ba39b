-- Acts in order start one after another.
use Rattle.std.proofs.Common.{◌≡◌, refl, sym, ap, subst, ◌∙◌, ℕ, ◌+◌, ◌≤◌, ◌<◌, Bool, true, false, not, ◌&&◌, ◌||◌, ◌==◌, nat_le, nat_lt, List, [], ◌∷◌, ◌++◌, arith, inl, inr, IsTrue}
use Rattle.std.specs.List.{list_all}
use Rattle.std.proofs.lemmas.Bool.{and_parts, and_from, or_cases, le-leb, leb-true, ltb-true, eqb-true}
use Rattle.std.proofs.lemmas.Bool.Decides.{nat_tests}
use Rattle.tp_spec.specs.declared.plan.Timed.{Timed}
use Rattle.tp_spec.specs.Lists.{each_pair, each_next}
use Rattle.tp_spec.specs.Courses.{act_before}
use Rattle.plan_validator.specs.declared.acts.Rule.TheVariants.{StartsApart}
use Rattle.plan_validator.specs.Acts.{keeps}
use Rattle.plan_validator.specs.Verdicts.{starts_apart, IsFirstOut}
use Rattle.plan_validator.proofs.Lists.{pairs_parts, all_same, pairs_same}

-- whether an act starts no later than another one
abbrev pub no_later : Timed → Timed → Bool
no_later x y = nat_le x.start y.start

before_starts : (x y : Timed) → act_before x y ≡ true → x.start ≤ y.start
before_starts x y h = elim (or_cases (nat_lt x.start y.start) (x.start == y.start && (nat_lt x.action y.action || (x.action == y.action && nat_le x.length y.length))) h) [
  | inl less ↦ let below : x.start < y.start = ltb-true x.start y.start less in omega arith
  | inr same ↦ let equal : x.start ≡ y.start = eqb-true x.start y.start (and_parts (x.start == y.start) _ same).0 in omega arith
]

later_still : (m n : ℕ) → m ≤ n → (ys : List Timed) → list_all (λ y. nat_le n y.start) ys ≡ true → list_all (λ y. nat_le m y.start) ys ≡ true
later_still m n le [] h = refl
later_still m n le (y ∷ ys) h =
    let parts = and_parts (nat_le n y.start) (list_all (λ y. nat_le n y.start) ys) h in
    let here : n ≤ y.start = leb-true n y.start parts.0 in
    and_from (nat_le m y.start) (list_all (λ y. nat_le m y.start) ys) (le-leb m y.start (omega arith)) (later_still m n le ys parts.1)

pub starts_rise : (acts : List Timed) → each_next act_before acts ≡ true → each_pair no_later acts ≡ true
starts_rise [] h = refl
starts_rise (x ∷ []) h = refl
starts_rise (x ∷ y ∷ ys) h =
    let parts = and_parts (act_before x y) (each_next act_before (y ∷ ys)) h in
    let rest = starts_rise (y ∷ ys) parts.1 in
    let le = before_starts x y parts.0 in
    and_from (list_all (no_later x) (y ∷ ys)) (each_pair no_later (y ∷ ys))
    (and_from (no_later x y) (list_all (no_later x) ys) (le-leb x.start y.start le)
    (later_still x.start y.start le ys (and_parts (list_all (no_later y) ys) (each_pair no_later ys) rest).0))
    rest

by_action : (same : Bool) (m n : ℕ) → m ≤ n → (not same || nat_le (m + 1) n) ≡ not (same && m == n)
by_action false m n le = refl
by_action true m n le = grind (arith, nat_tests)

same_rule : (x y : Timed) → no_later x y ≡ true → keeps StartsApart x y ≡ starts_apart x y
same_rule x y h = by_action (x.action == y.action) x.start y.start (leb-true x.start y.start h)

-- of acts in order, one that starts no later than the tick behind an earlier start of its action starts with it
pub all_apart : (acts : List Timed) → IsTrue (each_next act_before acts) → IsTrue (each_pair (keeps StartsApart) acts) → IsTrue (each_pair starts_apart acts)
all_apart acts order h = sym (pairs_same no_later (keeps StartsApart) starts_apart same_rule acts (starts_rise acts order)) ∙ h

pub first_again : (acts : List Timed) (start action : ℕ) → IsTrue (each_next act_before acts) → IsFirstOut (keeps StartsApart) acts start action → IsFirstOut starts_apart acts start action
first_again acts start action order out =
    let rise = starts_rise acts order in
    let parts = pairs_parts no_later out.before out.act out.behind (subst (λ ys. each_pair no_later ys ≡ true) out.split rise) in
    record {
      act = out.act;
      before = out.before;
      behind = out.behind;
      split = out.split;
      starts = out.starts;
      names = out.names;
      whole = sym (pairs_same no_later (keeps StartsApart) starts_apart same_rule out.before parts.0) ∙ out.whole;
      broken = ap not (sym (all_same (λ x. no_later x out.act) (λ x. keeps StartsApart x out.act) (λ x. starts_apart x out.act) (λ x. same_rule x out.act) out.before parts.1)) ∙ out.broken;
    }
