-- Actions that are cut off and filled in keep the rules of actions.
use Rattle.std.proofs.Common.{◌≡◌, ℕ, zero, suc, ◌-◌, Bool, true, false, not, ◌&&◌, List, [], ◌∷◌, length, refl, sym, ap, ◌∙◌, arith}
use Rattle.std.specs.Prelude.{nat_le, ◌==◌, bytes_eq, if◌then◌else◌}
use Rattle.std.specs.List.{list_all}
use Rattle.std.proofs.lemmas.Bool.{false≢true, false_from_ne_true, and_parts, and_from}
use Rattle.std.proofs.lemmas.Slice.Eq.{bytes_eq-Decides}
use Rattle.tp_spec.specs.Lists.{each_pair}
use Rattle.tp_spec.specs.WellFormed.{is_name, are_words, is_cond, are_effects, is_kind, is_action}
use Rattle.tp_spec.specs.declared.problem.Action.{Action}
use Rattle.tp_spec.specs.declared.problem.Kind.{Kind}
use Rattle.tp_spec.specs.declared.problem.Kind.TheVariants.{Instant, Durative}
use Rattle.ground_text.proofs.Kept.{is_kept_cond, is_kept_effect, is_kept_action}
use Rattle.ground_text.specs.Completion.{bang_name, bangs, first_free, with_name, name_or_bangs, filled_action, filled_actions}
use Rattle.ground_text.proofs.Marks.{IsTaken, free_unmarked, own_taken, still_taken}
use Rattle.ground_text.proofs.Picks.{pick}
use Rattle.ground_text.proofs.Acts.{action_lines, cut_body, cut_action, cut_actions, cut_action_section, cut_name, kept_kind, kept_action_name, filled_actions_length}

-- the rules of the actions of a problem with so many facts and fluents
pub record ActionRules (f n : ℕ) (actions : List Action) : Type 0 where
  pub few : nat_le (length actions) 4096 ≡ true
  pub are : list_all (is_action f n) actions ≡ true
  pub kept : list_all is_kept_action actions ≡ true
  pub told_apart : each_pair (λ a b. not (bytes_eq a.name b.name)) actions ≡ true

-- ---- names of `!` alone

bang_words : (n : ℕ) → are_words false (bang_name n) ≡ true
bang_words zero = refl
bang_words (suc n) = bang_words n

bang_all : (n : ℕ) → list_all (λ c. c == 33) (bang_name n) ≡ true
bang_all zero = refl
bang_all (suc n) = bang_all n

bang_length : (n : ℕ) → length (bang_name n) ≡ n
bang_length zero = refl
bang_length (suc n) = ap suc (bang_length n)

bangs_are : (n : ℕ) → bangs (bang_name n) ≡ n
bangs_are n = ap (λ (is : Bool). if is then length (bang_name n) else 0) (bang_all n) ∙ bang_length n

-- a name of `!` alone whose place is free is another than each that is taken
bang_apart : (marks : List Bool) (name : List ℕ) → IsTaken marks name → not (bytes_eq name (bang_name (suc (first_free marks)))) ≡ true
bang_apart marks name taken = ap not (false_from_ne_true (bytes_eq name free) differs) where
  free : List ℕ
  free = bang_name (suc (first_free marks))

  differs : bytes_eq name free ≡ true → ⊥
  differs same =
      let count : bangs name ≡ suc (first_free marks) = ap bangs ((bytes_eq-Decides name free).0 same) ∙ bangs_are (suc (first_free marks)) in
      false≢true (sym (free_unmarked marks) ∙ taken (first_free marks) count)

-- ---- an action that is cut off and filled in

picked : {A : Type 0} (test : List A → Bool) (k : ℕ) (xs : List A) → test [] ≡ true → test xs ≡ true → test (pick k xs) ≡ true
picked test zero xs none some = none
picked test (suc k) xs none some = some

all_seven : (a b c d e f g : Bool) → a ≡ true → b ≡ true → c ≡ true → d ≡ true → e ≡ true → f ≡ true → g ≡ true → (a && b && c && d && e && f && g) ≡ true
all_seven a b c d e f g ha hb hc hd he hf hg = and_from _ _ (and_from _ _ (and_from _ _ (and_from _ _ (and_from _ _ (and_from _ _ ha hb) hc) hd) he) hf) hg

all_five : (a b c d e : Bool) → a ≡ true → b ≡ true → c ≡ true → d ≡ true → e ≡ true → (a && b && c && d && e) ≡ true
all_five a b c d e ha hb hc hd he = and_from _ _ (and_from _ _ (and_from _ _ (and_from _ _ ha hb) hc) hd) he

filled_name_is : (place k : ℕ) (name : List ℕ) → is_name name ≡ true → is_name (name_or_bangs place (pick k name)) ≡ true
filled_name_is place zero name h = bang_words place
filled_name_is place (suc k) name h = ap is_name (kept_action_name place name h) ∙ h

module _ (f n : ℕ) where
  filled_is : (kind : Kind) (place j : ℕ) (name : List ℕ) (a : Action) → is_name (name_or_bangs place name) ≡ true → is_kind kind a ≡ true
      → list_all (is_cond f n) a.start_conds ≡ true → list_all (is_cond f n) a.all_conds ≡ true → list_all (is_cond f n) a.end_conds ≡ true
      → are_effects f n a.start_effects ≡ true → are_effects f n a.end_effects ≡ true
      → is_action f n (filled_action place (cut_body kind j name a)) ≡ true
  filled_is Instant place zero name a named shaped sc ac ec se ee = all_seven _ _ _ _ _ _ _ named refl refl refl refl refl refl
  filled_is Instant place (suc m) name a named shaped sc ac ec se ee =
      let j = suc m in
      all_seven _ _ _ _ _ _ _ named refl (picked (list_all (is_cond f n)) (j - 1) a.start_conds refl sc) refl refl
      (picked (are_effects f n) (j - 1 - 1) a.start_effects refl se) refl
  filled_is (Durative least most_ticks) place zero name a named shaped sc ac ec se ee = all_seven _ _ _ _ _ _ _ named refl refl refl refl refl refl
  filled_is (Durative least most_ticks) place (suc m) name a named shaped sc ac ec se ee =
      let j = suc m in
      let q = filled_action place (cut_body (Durative least most_ticks) j name a) in
      let kind : is_kind q.kind q ≡ true = ap (λ (x : Kind). is_kind x q) (kept_kind (Durative least most_ticks) a shaped) ∙ shaped in
      all_seven _ _ _ _ _ _ _ named kind (picked (list_all (is_cond f n)) (j - 1) a.start_conds refl sc)
      (picked (list_all (is_cond f n)) (j - 1 - 1) a.all_conds refl ac) (picked (list_all (is_cond f n)) (j - 1 - 1 - 1) a.end_conds refl ec)
      (picked (are_effects f n) (j - 1 - 1 - 1 - 1) a.start_effects refl se) (picked (are_effects f n) (j - 1 - 1 - 1 - 1 - 1) a.end_effects refl ee)

  filled_action_is : (place k : ℕ) (a : Action) → is_action f n a ≡ true → is_action f n (filled_action place (cut_action k a)) ≡ true
  filled_action_is place k a h =
      let p6 = and_parts _ _ h in
      let p5 = and_parts _ _ p6.0 in
      let p4 = and_parts _ _ p5.0 in
      let p3 = and_parts _ _ p4.0 in
      let p2 = and_parts _ _ p3.0 in
      let p1 = and_parts _ _ p2.0 in
      filled_is a.kind place (k - 1) (pick k a.name) a (filled_name_is place k a.name p1.0) p1.1 p2.1 p3.1 p4.1 p5.1 p6.1

  filled_are : (k : ℕ) (marks : List Bool) (actions : List Action) → list_all (is_action f n) actions ≡ true → list_all (is_action f n) (filled_actions marks (cut_actions k actions)) ≡ true
  filled_are k marks [] h = refl
  filled_are k marks (a ∷ actions) h =
      let p = and_parts _ _ h in
      and_from _ _ (filled_action_is (first_free marks) k a p.0) (filled_are (k - action_lines a) _ actions p.1)

kept_body : (kind : Kind) (place j : ℕ) (name : List ℕ) (a : Action)
    → list_all is_kept_cond a.start_conds ≡ true → list_all is_kept_cond a.all_conds ≡ true → list_all is_kept_cond a.end_conds ≡ true
    → list_all is_kept_effect a.start_effects ≡ true → list_all is_kept_effect a.end_effects ≡ true
    → is_kept_action (filled_action place (cut_body kind j name a)) ≡ true
kept_body Instant place j name a sc ac ec se ee =
    all_five _ _ _ _ _ (picked (list_all is_kept_cond) (j - 1) a.start_conds refl sc) refl refl (picked (list_all is_kept_effect) (j - 1 - 1) a.start_effects refl se) refl
kept_body (Durative least most_ticks) place j name a sc ac ec se ee =
    all_five _ _ _ _ _ (picked (list_all is_kept_cond) (j - 1) a.start_conds refl sc)
    (picked (list_all is_kept_cond) (j - 1 - 1) a.all_conds refl ac) (picked (list_all is_kept_cond) (j - 1 - 1 - 1) a.end_conds refl ec)
    (picked (list_all is_kept_effect) (j - 1 - 1 - 1 - 1) a.start_effects refl se) (picked (list_all is_kept_effect) (j - 1 - 1 - 1 - 1 - 1) a.end_effects refl ee)

kept_all : (k : ℕ) (marks : List Bool) (actions : List Action) → list_all is_kept_action actions ≡ true → list_all is_kept_action (filled_actions marks (cut_actions k actions)) ≡ true
kept_all k marks [] h = refl
kept_all k marks (a ∷ actions) h =
    let p : (is_kept_action a ≡ true) × (list_all is_kept_action actions ≡ true) = and_parts _ _ h in
    let p4 = and_parts _ _ p.0 in
    let p3 = and_parts _ _ p4.0 in
    let p2 = and_parts _ _ p3.0 in
    let p1 = and_parts _ _ p2.0 in
    and_from _ _ (kept_body a.kind (first_free marks) (k - 1) (pick k a.name) a p1.0 p1.1 p2.1 p3.1 p4.1) (kept_all (k - action_lines a) _ actions p.1)

-- ---- their names are told apart

named : (f n : ℕ) (a : Action) → is_action f n a ≡ true → is_name a.name ≡ true
named f n a h = (and_parts _ _ (and_parts _ _ (and_parts _ _ (and_parts _ _ (and_parts _ _ (and_parts _ _ h).0).0).0).0).0).0

abbrev is_apart : List ℕ → Action → Bool
is_apart name a = not (bytes_eq name a.name)

-- the name of an action that is filled in
filled_name : (place k : ℕ) (a : Action) → (filled_action place (cut_action k a)).name ≡ name_or_bangs place (pick k a.name)
filled_name place k a = ap (name_or_bangs place) (cut_name a.kind (k - 1) (pick k a.name) a)

none_left : (lines : ℕ) → 0 - lines ≡ 0
none_left lines = omega arith

-- missing names are told apart from one that is taken
missing_apart : (marks : List Bool) (name : List ℕ) (actions : List Action) → IsTaken marks name → list_all (is_apart name) (filled_actions marks (cut_actions 0 actions)) ≡ true
missing_apart marks name [] taken = refl
missing_apart marks name (a ∷ actions) taken =
    let other = (filled_action (first_free marks) (cut_action 0 a)).name in
    let next = with_name other marks in
    and_from _ _ (ap (λ (x : List ℕ). not (bytes_eq name x)) (filled_name (first_free marks) 0 a) ∙ bang_apart marks name taken)
    (ap (λ (k : ℕ). list_all (is_apart name) (filled_actions next (cut_actions k actions))) (none_left (action_lines a))
    ∙ missing_apart next name actions (still_taken name other marks taken))

module _ (f n : ℕ) where
  -- a name before actions that is told apart from theirs
  later_apart : (k : ℕ) (marks : List Bool) (name : List ℕ) (actions : List Action) → list_all (is_action f n) actions ≡ true → IsTaken marks name
      → list_all (is_apart name) actions ≡ true → list_all (is_apart name) (filled_actions marks (cut_actions k actions)) ≡ true
  later_apart k marks name [] h taken apart = refl
  later_apart zero marks name (a ∷ actions) h taken apart = missing_apart marks name (a ∷ actions) taken
  later_apart (suc m) marks name (a ∷ actions) h taken apart =
      let p : (is_action f n a ≡ true) × (list_all (is_action f n) actions ≡ true) = and_parts _ _ h in
      let q : (is_apart name a ≡ true) × (list_all (is_apart name) actions ≡ true) = and_parts _ _ apart in
      let other = (filled_action (first_free marks) (cut_action (suc m) a)).name in
      let same : other ≡ a.name = filled_name (first_free marks) (suc m) a ∙ kept_action_name (first_free marks) a.name (named f n a p.0) in
      and_from _ _ (ap (λ (x : List ℕ). not (bytes_eq name x)) same ∙ q.0)
      (later_apart (suc m - action_lines a) (with_name other marks) name actions p.1 (still_taken name other marks taken) q.1)

  all_apart : (k : ℕ) (marks : List Bool) (actions : List Action) → list_all (is_action f n) actions ≡ true → each_pair (λ a b. is_apart a.name b) actions ≡ true
      → each_pair (λ a b. is_apart a.name b) (filled_actions marks (cut_actions k actions)) ≡ true
  all_apart k marks [] h apart = refl
  all_apart zero marks (a ∷ actions) h apart =
      let p : (is_action f n a ≡ true) × (list_all (is_action f n) actions ≡ true) = and_parts _ _ h in
      let q : (list_all (is_apart a.name) actions ≡ true) × (each_pair (λ a b. is_apart a.name b) actions ≡ true) = and_parts _ _ apart in
      let first = (filled_action (first_free marks) (cut_action 0 a)).name in
      let next = with_name first marks in
      and_from _ _
      (ap (λ (k : ℕ). list_all (is_apart first) (filled_actions next (cut_actions k actions))) (none_left (action_lines a)) ∙ missing_apart next first actions (own_taken first marks))
      (all_apart (0 - action_lines a) next actions p.1 q.1)
  all_apart (suc m) marks (a ∷ actions) h apart =
      let p : (is_action f n a ≡ true) × (list_all (is_action f n) actions ≡ true) = and_parts _ _ h in
      let q : (list_all (is_apart a.name) actions ≡ true) × (each_pair (λ a b. is_apart a.name b) actions ≡ true) = and_parts _ _ apart in
      let first = (filled_action (first_free marks) (cut_action (suc m) a)).name in
      let next = with_name first marks in
      let k = suc m - action_lines a in
      let same : first ≡ a.name = filled_name (first_free marks) (suc m) a ∙ kept_action_name (first_free marks) a.name (named f n a p.0) in
      and_from _ _ (later_apart k next first actions p.1 (own_taken first marks) (ap (λ (x : List ℕ). list_all (is_apart x) actions) same ∙ q.0)) (all_apart k next actions p.1 q.1)

  -- the first k lines of a section of actions that keep the rules are completed to such actions
  pub actions_hold : (k : ℕ) (actions : List Action) → ActionRules f n actions → ActionRules f n (filled_actions [] (cut_action_section k actions))
  actions_hold zero actions rules = record { few = refl; are = refl; kept = refl; told_apart = refl }
  actions_hold (suc k) actions rules = record {
    few = ap (λ (i : ℕ). nat_le i 4096) (filled_actions_length k [] actions) ∙ rules.few;
    are = filled_are f n k [] actions rules.are;
    kept = kept_all k [] actions rules.kept;
    told_apart = all_apart k [] actions rules.are rules.told_apart;
  }
