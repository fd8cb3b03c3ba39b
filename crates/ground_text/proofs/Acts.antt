-- What is read of the first lines of actions, and how they are completed.
use Rattle.std.proofs.Common.{◌≡◌, ℕ, zero, suc, ◌+◌, ◌-◌, ◌*◌, ◌^◌, ◌≤◌, ◌<◌, Bool, true, false, List, [], ◌∷◌, ◌++◌, length, drop, refl, sym, ap, subst, ◌∙◌, append_assoc, arith}
use Rattle.std.specs.Prelude.{decimal, codes, ◌==◌, if◌then◌else◌}
use Rattle.std.specs.List.{list_all, flat_map}
use Rattle.std.proofs.lemmas.Bool.{false≢true, and_parts, leb-true}
use Rattle.std.proofs.lemmas.Bool.Decides.{nat_tests}
use Rattle.std.proofs.Math.Nat.{le_refl}
use Rattle.tp_spec.specs.WellFormed.{is_name, is_kind, is_action, far}
use Rattle.tp_spec.specs.declared.problem.Action.{Action}
use Rattle.tp_spec.specs.declared.problem.Cond.{Cond}
use Rattle.tp_spec.specs.declared.problem.Effect.{Effect}
use Rattle.tp_spec.specs.declared.problem.Kind.{Kind}
use Rattle.tp_spec.specs.declared.problem.Kind.TheVariants.{Instant, Durative}
use Rattle.ground_text.specs.Texts.{cond_text, effect_text, body_text, action_text}
use Rattle.ground_text.proofs.Kept.{is_kept_action}
use Rattle.ground_text.specs.Reading.{first_is, number_at, name_at, conds_at, effects_at, instant_at, durative_at, action_at, repeated_at, counted_at}
use Rattle.line_text.specs.Lines.{lines}
use Rattle.ground_text.specs.Completion.{name_or_bangs, kind_or_instant, first_free, with_name, filled_action, filled_actions}
use Rattle.ground_text.proofs.Numbers.{number_again}
use Rattle.ground_text.proofs.Members.{words_plain, name_again}
use Rattle.ground_text.proofs.Blocks.{both_hold, Good, good_action, good_parts}
use Rattle.ground_text.proofs.Cuts.{is_inside, line_first, decimal_inside, plain_inside}
use Rattle.ground_text.proofs.Picks.{pick, line_end, behind_end, joined_inside, members_line, conds_cut, conds_same, effects_cut, effects_same}
use Rattle.ground_text.proofs.Counts.{blocks, counted_none, repeated_first, counted_cut, counted_same}

-- how many lines stand behind an action's name
abbrev pub body_lines : Kind → ℕ
body_lines Instant = 3
body_lines (Durative least most) = 6

abbrev pub action_lines : Action → ℕ
action_lines a = 1 + body_lines a.kind

abbrev pub lines_of : List Action → ℕ
lines_of [] = 0
lines_of (a ∷ actions) = action_lines a + lines_of actions

-- ---- what is read of the first lines of a block

-- where no line is left behind the name, no length is read
abbrev pub cut_kind : ℕ → Kind → Kind
cut_kind zero kind = Durative 0 0
cut_kind (suc j) kind = kind

-- what is read of the first j lines behind a name
abbrev pub cut_body : Kind → ℕ → List ℕ → Action → Action
cut_body Instant j name a = record {
  name = name;
  kind = cut_kind j Instant;
  start_conds = pick (j - 1) a.start_conds;
  all_conds = [];
  end_conds = [];
  start_effects = pick (j - 1 - 1) a.start_effects;
  end_effects = [];
}
cut_body (Durative least most) j name a = record {
  name = name;
  kind = cut_kind j (Durative least most);
  start_conds = pick (j - 1) a.start_conds;
  all_conds = pick (j - 1 - 1) a.all_conds;
  end_conds = pick (j - 1 - 1 - 1) a.end_conds;
  start_effects = pick (j - 1 - 1 - 1 - 1) a.start_effects;
  end_effects = pick (j - 1 - 1 - 1 - 1 - 1) a.end_effects;
}

-- what is read of the first k lines of a block
abbrev pub cut_action : ℕ → Action → Action
cut_action k a = cut_body a.kind (k - 1) (pick k a.name) a

abbrev pub cut_actions : ℕ → List Action → List Action
cut_actions k [] = []
cut_actions k (a ∷ actions) = cut_action k a ∷ cut_actions (k - action_lines a) actions

-- what is read of the first k lines of the section
abbrev pub cut_action_section : ℕ → List Action → List Action
cut_action_section zero actions = []
cut_action_section (suc k) actions = cut_actions k actions

-- a line without members, and what stands behind it
line_read : (word rest : List ℕ) (m : ℕ) → list_all is_inside word ≡ true → lines (suc m) (word ++ (10 ∷ rest)) ≡ word ++ line_end (suc m) rest
line_read word rest m inside = line_first word rest m inside

line_same : (word : List ℕ) (j : ℕ) (rest other : List ℕ) → list_all is_inside word ≡ true → lines (j - 1) other ≡ lines (j - 1) rest → lines j (word ++ (10 ∷ other)) ≡ lines j (word ++ (10 ∷ rest))
line_same word zero rest other inside e = refl
line_same word (suc m) rest other inside e =
    let less : suc m - 1 ≡ m = omega arith in
    line_first word other m inside
    ∙ ap (λ (t : List ℕ). word ++ (10 ∷ t)) (subst (λ (n : ℕ). lines n other ≡ lines n rest) less e)
    ∙ sym (line_first word rest m inside)

-- what stands behind a name, as a reader takes it
behind_name : List ℕ → List ℕ → Action × List ℕ
behind_name name bytes = if first_is 105 bytes then instant_at name bytes else durative_at name bytes

nothing_read : (name rest : List ℕ) (kind : Kind) (a : Action) → behind_name name [] ≡ (cut_body kind 0 name a, lines (0 - body_lines kind) rest)
unfolding behind_name durative_at number_at conds_at effects_at
nothing_read name rest Instant a = refl
nothing_read name rest (Durative least most) a = refl

short : (least most : ℕ) → least ≤ most → most ≤ far → least < 2 ^ 64
short least most h k = omega arith

lengths : (least most : ℕ) (a : Action) → is_kind (Durative least most) a ≡ true → (least < 2 ^ 64) × (most < 2 ^ 64)
lengths least most a h =
    let bounds = and_parts _ _ h in
    let lower = and_parts _ _ bounds.0 in
    let most_far : most ≤ far = leb-true most far bounds.1 in
    (short least most (leb-true least most lower.1) most_far, short most most (le_refl most) most_far)

lengths_from : (least most : ℕ) (a : Action) → is_kind (Durative least most) a ≡ true → 1 ≤ most
lengths_from least most a h =
    let lower = and_parts _ _ (and_parts _ _ h).0 in
    let some : 1 ≤ least = leb-true 1 least lower.0 in
    let more : least ≤ most = leb-true least most lower.1 in
    omega (arith, some, more)

pub cut_name : (kind : Kind) (j : ℕ) (name : List ℕ) (a : Action) → (cut_body kind j name a).name ≡ name
cut_name Instant j name a = refl
cut_name (Durative least most) j name a = refl

cut_kind_is : (kind : Kind) (j : ℕ) (name : List ℕ) (a : Action) → (cut_body kind j name a).kind ≡ cut_kind j kind
cut_kind_is Instant j name a = refl
cut_kind_is (Durative least most) j name a = refl

pub kept_action_name : (place : ℕ) (name : List ℕ) → is_name name ≡ true → name_or_bangs place name ≡ name
kept_action_name place [] h = absurd (false≢true h)
kept_action_name place (c ∷ name) h = refl

pub filled_actions_length : (k : ℕ) (marks : List Bool) (actions : List Action) → length (filled_actions marks (cut_actions k actions)) ≡ length actions
filled_actions_length k marks [] = refl
filled_actions_length k marks (a ∷ actions) = ap suc (filled_actions_length (k - action_lines a) _ actions)

-- the most lines of so many actions
pub lines_most : (actions : List Action) → lines_of actions ≤ 7 * length actions
lines_most [] = omega arith
lines_most (a ∷ actions) = by_kind a.kind (lines_most actions) where
  by_kind : (kind : Kind) → lines_of actions ≤ 7 * length actions → (1 + body_lines kind) + lines_of actions ≤ 7 * suc (length actions)
  by_kind Instant others = omega (arith, others)
  by_kind (Durative least most) others = omega (arith, others)

pub kept_kind : (kind : Kind) (a : Action) → is_kind kind a ≡ true → kind_or_instant kind ≡ kind
kept_kind Instant a h = refl
kept_kind (Durative least most) a h = some most (lengths_from least most a h) where
  some : (most : ℕ) → 1 ≤ most → (if most == 0 then Instant else Durative least most) ≡ Durative least most
  some most le = let not_none : (most == 0) ≡ false = grind (arith, nat_tests) in rw not_none refl

module _ (f n : ℕ) (small : f ≤ 4096) (few : n ≤ 256) where
  abbrev Whole : Kind → Action → Type 0
  Whole kind a = Good f n small few kind a

  abbrev instant_lines : Action → List ℕ → List ℕ
  instant_lines a rest = members_line cond_text (codes "cs") a.start_conds (members_line effect_text (codes "es") a.start_effects rest)

  abbrev durative_lines : Action → List ℕ → List ℕ
  durative_lines a rest =
      members_line cond_text (codes "cs") a.start_conds (members_line cond_text (codes "co") a.all_conds (members_line cond_text (codes "ce") a.end_conds
      (members_line effect_text (codes "es") a.start_effects (members_line effect_text (codes "ee") a.end_effects rest))))

  abbrev length_line : ℕ → ℕ → List ℕ
  length_line least most = codes "length " ++ (decimal least ++ (codes " " ++ decimal most))

  body_shape : Kind → Action → List ℕ → List ℕ
  body_shape Instant a rest = codes "instant" ++ (10 ∷ instant_lines a rest)
  body_shape (Durative least most) a rest = length_line least most ++ (10 ∷ durative_lines a rest)

  shape : (kind : Kind) (a : Action) (rest : List ℕ) → body_text kind a ++ rest ≡ body_shape kind a rest
  unfolding body_text body_shape
  shape Instant a rest = simp append_assoc
  shape (Durative least most) a rest = simp append_assoc

  length_inside : (least most : ℕ) → least < 2 ^ 64 → most < 2 ^ 64 → list_all is_inside (length_line least most) ≡ true
  length_inside least most low high = joined_inside (decimal least) (32 ∷ decimal most) (decimal_inside least low) (decimal_inside most high)

  instant_cut : (name : List ℕ) (a : Action) (rest : List ℕ) (m : ℕ) → Whole Instant a
      → behind_name name (codes "instant" ++ line_end (suc m) (instant_lines a rest)) ≡ (cut_body Instant (suc m) name a, lines (suc m - 1 - 1 - 1) rest)
  unfolding behind_name instant_at
  instant_cut name a rest m g =
      let j = suc m in
      let sc : conds_at (drop 3 (line_end j (instant_lines a rest))) ≡ (pick (j - 1) a.start_conds, line_end (j - 1) (members_line effect_text (codes "es") a.start_effects rest)) =
      conds_cut f n small few (codes "cs") 2 j a.start_conds _ (record { inside = refl; skips = λ t. refl }) g.start_conds g.kept_start_conds in
      let se = ap (λ (x : List Cond × List ℕ). effects_at (drop 3 x.1)) sc
      ∙ effects_cut f n small few (codes "es") 2 (j - 1) a.start_effects rest (record { inside = refl; skips = λ t. refl }) g.start_effects g.kept_start_effects in
      let end = ap (λ (x : List Effect × List ℕ). drop 1 x.1) se ∙ behind_end (j - 1 - 1) rest in
      λ i. (record { name = name; kind = Instant; start_conds = (sc i).0; all_conds = []; end_conds = []; start_effects = (se i).0; end_effects = [] }, end i)

  durative_cut : (least most : ℕ) (name : List ℕ) (a : Action) (rest : List ℕ) (m : ℕ) → least < 2 ^ 64 → most < 2 ^ 64 → Whole (Durative least most) a
      → behind_name name (length_line least most ++ line_end (suc m) (durative_lines a rest)) ≡ (cut_body (Durative least most) (suc m) name a, lines (suc m - 1 - 1 - 1 - 1 - 1 - 1) rest)
  unfolding behind_name durative_at
  durative_cut least most name a rest m low high g =
      let j = suc m in
      let r5 = members_line effect_text (codes "ee") a.end_effects rest in
      let r4 = members_line effect_text (codes "es") a.start_effects r5 in
      let r3 = members_line cond_text (codes "ce") a.end_conds r4 in
      let r2 = members_line cond_text (codes "co") a.all_conds r3 in
      let r1 = line_end j (durative_lines a rest) in
      let grouped : length_line least most ++ r1 ≡ codes "length " ++ (decimal least ++ (codes " " ++ (decimal most ++ r1))) = simp append_assoc in
      let lo : number_at (decimal least ++ (codes " " ++ (decimal most ++ r1))) ≡ (least, codes " " ++ (decimal most ++ r1)) = number_again least _ low refl in
      let hi : number_at (drop 1 (number_at (decimal least ++ (codes " " ++ (decimal most ++ r1)))).1) ≡ (most, r1) = ap (λ (x : ℕ × List ℕ). number_at (drop 1 x.1)) lo ∙ number_again most r1 high refl in
      let sc = ap (λ (x : ℕ × List ℕ). conds_at (drop 3 x.1)) hi
      ∙ conds_cut f n small few (codes "cs") 2 j a.start_conds r2 (record { inside = refl; skips = λ t. refl }) g.start_conds g.kept_start_conds in
      let oc = ap (λ (x : List Cond × List ℕ). conds_at (drop 3 x.1)) sc
      ∙ conds_cut f n small few (codes "co") 2 (j - 1) a.all_conds r3 (record { inside = refl; skips = λ t. refl }) g.all_conds g.kept_all_conds in
      let ec = ap (λ (x : List Cond × List ℕ). conds_at (drop 3 x.1)) oc
      ∙ conds_cut f n small few (codes "ce") 2 (j - 1 - 1) a.end_conds r4 (record { inside = refl; skips = λ t. refl }) g.end_conds g.kept_end_conds in
      let se = ap (λ (x : List Cond × List ℕ). effects_at (drop 3 x.1)) ec
      ∙ effects_cut f n small few (codes "es") 2 (j - 1 - 1 - 1) a.start_effects r5 (record { inside = refl; skips = λ t. refl }) g.start_effects g.kept_start_effects in
      let ee = ap (λ (x : List Effect × List ℕ). effects_at (drop 3 x.1)) se
      ∙ effects_cut f n small few (codes "ee") 2 (j - 1 - 1 - 1 - 1) a.end_effects rest (record { inside = refl; skips = λ t. refl }) g.end_effects g.kept_end_effects in
      let end = ap (λ (x : List Effect × List ℕ). drop 1 x.1) ee ∙ behind_end (j - 1 - 1 - 1 - 1 - 1) rest in
      ap (behind_name name) grouped
      ∙ (λ i. (record { name = name; kind = Durative (lo i).0 (hi i).0; start_conds = (sc i).0; all_conds = (oc i).0; end_conds = (ec i).0; start_effects = (se i).0; end_effects = (ee i).0 }, end i))

  body_cut : (kind : Kind) (name : List ℕ) (a : Action) (rest : List ℕ) (j : ℕ) → Whole kind a
      → behind_name name (lines j (body_text kind a ++ rest)) ≡ (cut_body kind j name a, lines (j - body_lines kind) rest)
  unfolding body_shape
  body_cut kind name a rest zero g = nothing_read name rest kind a
  body_cut Instant name a rest (suc m) g =
      let left : suc m - 1 - 1 - 1 ≡ suc m - 3 = omega arith in
      ap (λ (t : List ℕ). behind_name name (lines (suc m) t)) (shape Instant a rest)
      ∙ ap (behind_name name) (line_first (codes "instant") (instant_lines a rest) m refl)
      ∙ instant_cut name a rest m g
      ∙ ap (λ (k : ℕ). (cut_body Instant (suc m) name a, lines k rest)) left
  body_cut (Durative least most) name a rest (suc m) g =
      let bounds = lengths least most a g.shaped in
      let left : suc m - 1 - 1 - 1 - 1 - 1 - 1 ≡ suc m - 6 = omega arith in
      ap (λ (t : List ℕ). behind_name name (lines (suc m) t)) (shape (Durative least most) a rest)
      ∙ ap (behind_name name) (line_first (length_line least most) (durative_lines a rest) m (length_inside least most bounds.0 bounds.1))
      ∙ durative_cut least most name a rest m bounds.0 bounds.1 g
      ∙ ap (λ (k : ℕ). (cut_body (Durative least most) (suc m) name a, lines k rest)) left

  block_line : (k : ℕ) (a : Action) (rest : List ℕ) → is_name a.name ≡ true
      → lines (suc k) (action_text a ++ rest) ≡ codes "act " ++ (a.name ++ (10 ∷ lines k (body_text a.kind a ++ rest)))
  unfolding action_text
  block_line k a rest h =
      let grouped : action_text a ++ rest ≡ (codes "act " ++ a.name) ++ (10 ∷ (body_text a.kind a ++ rest)) = simp append_assoc in
      ap (lines (suc k)) grouped
      ∙ line_first (codes "act " ++ a.name) (body_text a.kind a ++ rest) k (plain_inside a.name (words_plain true a.name h))

  action_cut : (k : ℕ) (a : Action) (rest : List ℕ) → good_action f n small few a ≡ true
      → action_at (lines k (action_text a ++ rest)) ≡ (cut_action k a, lines (k - action_lines a) rest)
  unfolding action_at name_at behind_name
  action_cut zero a rest h =
      let none : 0 - body_lines a.kind ≡ 0 - (1 + body_lines a.kind) = omega arith in
      nothing_read [] rest a.kind a ∙ ap (λ (k : ℕ). (cut_action 0 a, lines k rest)) none
  action_cut (suc m) a rest h =
      let good = good_parts f n small few a h in
      let less : m ≡ suc m - 1 = omega arith in
      let left : m - body_lines a.kind ≡ suc m - (1 + body_lines a.kind) = omega arith in
      ap action_at (block_line m a rest good.0)
      ∙ ap (λ (x : List ℕ × List ℕ). behind_name x.0 x.1) (name_again a.name (lines m (body_text a.kind a ++ rest)) good.0)
      ∙ body_cut a.kind a.name a rest m good.1
      ∙ (λ i. (cut_body a.kind (less i) a.name a, lines (left i) rest))

  blocks_cut : (k : ℕ) (actions : List Action) (rest : List ℕ) → list_all (good_action f n small few) actions ≡ true
      → repeated_at action_at (length actions) (lines k (flat_map action_text actions ++ rest)) ≡ (cut_actions k actions, lines (k - lines_of actions) rest)
  blocks_cut k [] rest h =
      let same : k ≡ k - 0 = omega arith in
      ap (λ (n : ℕ). ([], lines n rest)) same
  blocks_cut k (a ∷ actions) rest h =
      let p : (good_action f n small few a ≡ true) × (list_all (good_action f n small few) actions ≡ true) = and_parts _ _ h in
      let left : (k - (1 + body_lines a.kind)) - lines_of actions ≡ k - ((1 + body_lines a.kind) + lines_of actions) = omega arith in
      let behind = flat_map action_text actions ++ rest in
      ap (λ (t : List ℕ). repeated_at action_at (suc (length actions)) (lines k t)) (append_assoc (action_text a) (flat_map action_text actions) rest)
      ∙ repeated_first action_at (length actions) (lines k (action_text a ++ behind)) (lines (k - action_lines a) behind) (cut_action k a)
      (cut_actions (k - action_lines a) actions, lines ((k - action_lines a) - lines_of actions) rest)
      (action_cut k a behind p.0) (blocks_cut (k - action_lines a) actions rest p.1)
      ∙ ap (λ (i : ℕ). (cut_actions k (a ∷ actions), lines i rest)) left

  -- ---- the completed blocks begin with the same lines

  body_same : (kind : Kind) (name : List ℕ) (place j : ℕ) (a : Action) (rest other : List ℕ) → Whole kind a
      → lines (j - body_lines kind) other ≡ lines (j - body_lines kind) rest
      → lines j (body_text (kind_or_instant (cut_kind j kind)) (filled_action place (cut_body kind j name a)) ++ other) ≡ lines j (body_text kind a ++ rest)
  unfolding body_shape
  body_same kind name place zero a rest other g e = refl
  body_same Instant name place (suc m) a rest other g e =
      let j = suc m in
      let left : j - 3 ≡ j - 1 - 1 - 1 = omega arith in
      let q = filled_action place (cut_body Instant j name a) in
      let se = effects_same f n small few (codes "es") (j - 1 - 1) a.start_effects rest other refl g.start_effects g.kept_start_effects
      (subst (λ (k : ℕ). lines k other ≡ lines k rest) left e) in
      let sc = conds_same f n small few (codes "cs") (j - 1) a.start_conds _ _ refl g.start_conds g.kept_start_conds se in
      ap (lines j) (shape Instant q other)
      ∙ line_same (codes "instant") j (instant_lines a rest) (instant_lines q other) refl sc
      ∙ sym (ap (lines j) (shape Instant a rest))
  body_same (Durative least most_ticks) name place (suc m) a rest other g e =
      let kind = Durative least most_ticks in
      let bounds = lengths least most_ticks a g.shaped in
      let j = suc m in
      let left : j - 6 ≡ j - 1 - 1 - 1 - 1 - 1 - 1 = omega arith in
      let q = filled_action place (cut_body kind j name a) in
      let ee = effects_same f n small few (codes "ee") (j - 1 - 1 - 1 - 1 - 1) a.end_effects rest other refl g.end_effects g.kept_end_effects
      (subst (λ (k : ℕ). lines k other ≡ lines k rest) left e) in
      let se = effects_same f n small few (codes "es") (j - 1 - 1 - 1 - 1) a.start_effects _ _ refl g.start_effects g.kept_start_effects ee in
      let ec = conds_same f n small few (codes "ce") (j - 1 - 1 - 1) a.end_conds _ _ refl g.end_conds g.kept_end_conds se in
      let oc = conds_same f n small few (codes "co") (j - 1 - 1) a.all_conds _ _ refl g.all_conds g.kept_all_conds ec in
      let sc = conds_same f n small few (codes "cs") (j - 1) a.start_conds _ _ refl g.start_conds g.kept_start_conds oc in
      ap (λ (k : Kind). lines j (body_text k q ++ other)) (kept_kind kind a g.shaped)
      ∙ ap (lines j) (shape kind q other)
      ∙ line_same (length_line least most_ticks) j (durative_lines a rest) (durative_lines q other) (length_inside least most_ticks bounds.0 bounds.1) sc
      ∙ sym (ap (lines j) (shape kind a rest))

  block_same : (k place : ℕ) (a : Action) (rest other : List ℕ) → good_action f n small few a ≡ true
      → lines (k - action_lines a) other ≡ lines (k - action_lines a) rest
      → lines k (action_text (filled_action place (cut_action k a)) ++ other) ≡ lines k (action_text a ++ rest)
  block_same zero place a rest other h e = refl
  block_same (suc m) place a rest other h e =
      let good = good_parts f n small few a h in
      let less : suc m - 1 ≡ m = omega arith in
      let left : suc m - (1 + body_lines a.kind) ≡ m - body_lines a.kind = omega arith in
      let q = filled_action place (cut_body a.kind m a.name a) in
      let name : q.name ≡ a.name = ap (name_or_bangs place) (cut_name a.kind m a.name a) ∙ kept_action_name place a.name good.0 in
      let kind : q.kind ≡ kind_or_instant (cut_kind m a.kind) = ap kind_or_instant (cut_kind_is a.kind m a.name a) in
      let body : lines m (body_text q.kind q ++ other) ≡ lines m (body_text a.kind a ++ rest) =
      ap (λ (x : Kind). lines m (body_text x q ++ other)) kind
      ∙ body_same a.kind a.name place m a rest other good.1 (subst (λ (i : ℕ). lines i other ≡ lines i rest) left e) in
      ap (λ (j : ℕ). lines (suc m) (action_text (filled_action place (cut_body a.kind j a.name a)) ++ other)) less
      ∙ block_line m q other (ap is_name name ∙ good.0)
      ∙ (λ i. codes "act " ++ (name i ++ (10 ∷ body i)))
      ∙ sym (block_line m a rest good.0)

  blocks_same : (k : ℕ) (marks : List Bool) (actions : List Action) (rest other : List ℕ) → list_all (good_action f n small few) actions ≡ true
      → lines (k - lines_of actions) other ≡ lines (k - lines_of actions) rest
      → lines k (flat_map action_text (filled_actions marks (cut_actions k actions)) ++ other) ≡ lines k (flat_map action_text actions ++ rest)
  blocks_same k marks [] rest other h e =
      let same : k - 0 ≡ k = omega arith in
      subst (λ (i : ℕ). lines i other ≡ lines i rest) same e
  blocks_same k marks (a ∷ actions) rest other h e =
      let p : (good_action f n small few a ≡ true) × (list_all (good_action f n small few) actions ≡ true) = and_parts _ _ h in
      let left : k - ((1 + body_lines a.kind) + lines_of actions) ≡ (k - (1 + body_lines a.kind)) - lines_of actions = omega arith in
      let first = filled_action (first_free marks) (cut_action k a) in
      let others = filled_actions (with_name first.name marks) (cut_actions (k - action_lines a) actions) in
      ap (lines k) (append_assoc (action_text first) (flat_map action_text others) other)
      ∙ block_same k (first_free marks) a (flat_map action_text actions ++ rest) (flat_map action_text others ++ other) p.0
      (blocks_same (k - action_lines a) _ actions rest other p.1 (subst (λ (i : ℕ). lines i other ≡ lines i rest) left e))
      ∙ sym (ap (lines k) (append_assoc (action_text a) (flat_map action_text actions) rest))

  -- ---- the section

  goods : (actions : List Action) → list_all (is_action f n) actions ≡ true → list_all is_kept_action actions ≡ true → list_all (good_action f n small few) actions ≡ true
  unfolding good_action
  goods actions h kept = both_hold (is_action f n) is_kept_action actions h kept

  -- what is read of the first k lines of the section
  pub actions_cut : (k : ℕ) (actions : List Action) (rest : List ℕ) → length actions ≤ 4096 → list_all (is_action f n) actions ≡ true → list_all is_kept_action actions ≡ true
      → counted_at action_at 4096 (drop 8 (lines k (blocks action_text (codes "actions ") actions rest))) ≡ (cut_action_section k actions, lines (k - suc (lines_of actions)) rest)
  actions_cut zero actions rest short_list h kept =
      let none : 0 ≡ 0 - suc (lines_of actions) = omega arith in
      counted_none action_at 8 4096 ∙ ap (λ (i : ℕ). ([], lines i rest)) none
  actions_cut (suc k) actions rest short_list h kept =
      let left : k - lines_of actions ≡ suc k - suc (lines_of actions) = omega arith in
      counted_cut action_at action_text (codes "actions ") 8 4096 k actions rest _ (record { inside = refl; skips = λ t. refl }) (omega arith) short_list
      (blocks_cut k actions rest (goods actions h kept) ∙ ap (λ (i : ℕ). (cut_actions k actions, lines i rest)) left)

  -- its completion begins with the same k lines
  pub actions_same : (k : ℕ) (actions : List Action) (rest other : List ℕ) → length actions ≤ 4096 → list_all (is_action f n) actions ≡ true → list_all is_kept_action actions ≡ true
      → lines (k - suc (lines_of actions)) other ≡ lines (k - suc (lines_of actions)) rest
      → lines k (blocks action_text (codes "actions ") (filled_actions [] (cut_action_section k actions)) other) ≡ lines k (blocks action_text (codes "actions ") actions rest)
  actions_same zero actions rest other short_list h kept e = refl
  actions_same (suc k) actions rest other short_list h kept e =
      let left : suc k - suc (lines_of actions) ≡ k - lines_of actions = omega arith in
      counted_same action_text (codes "actions ") k actions (filled_actions [] (cut_actions k actions)) rest other refl (omega (arith, short_list)) (filled_actions_length k [] actions)
      (blocks_same k [] actions rest other (goods actions h kept) (subst (λ (i : ℕ). lines i other ≡ lines i rest) left e))
