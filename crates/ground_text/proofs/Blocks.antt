-- Actions, timed items and whole problems that are written are read again.
use Rattle.std.proofs.Common.{◌≡◌, ℕ, ◌^◌, ◌≤◌, ◌<◌, Bool, true, false, ◌&&◌, List, [], ◌∷◌, ◌++◌, length, map, drop, Option, refl, ap, ◌∙◌, append_assoc, arith}
use Rattle.std.specs.Prelude.{decimal, codes, ℤ, nat_lt, ◌==◌, ◌||◌, if◌then◌else◌}
use Rattle.std.specs.List.{list_all, flat_map}
use Rattle.std.proofs.lemmas.Bool.{false≢true, and_parts, and_from, ltb-true, leb-true}
use Rattle.std.proofs.lemmas.Bool.Decides.{nat_tests}
use Rattle.tp_spec.specs.Lists.{is_empty}
use Rattle.tp_spec.specs.WellFormed.{Ground, is_name, is_cond, is_effect, are_effects, is_kind, is_action, is_timed, far}
use Rattle.tp_spec.specs.declared.problem.Action.{Action}
use Rattle.tp_spec.specs.declared.problem.Cond.{Cond}
use Rattle.tp_spec.specs.declared.problem.Effect.{Effect}
use Rattle.tp_spec.specs.declared.problem.Effect.TheVariants.{Add, Delete}
use Rattle.tp_spec.specs.declared.problem.Kind.{Kind}
use Rattle.tp_spec.specs.declared.problem.Kind.TheVariants.{Instant, Durative}
use Rattle.tp_spec.specs.declared.problem.TimedItem.{TimedItem}
use Rattle.ground_text.specs.Texts.{listed, cond_text, effect_text, value_text, name_text, body_text, action_text, merged, timed_text, counted, header_text, problem_text}
use Rattle.tp_spec.specs.WellFormed.{is_value}
use Rattle.ground_text.proofs.Kept.{is_kept_cond, is_kept_effect, is_kept_action, IsProblem}
use Rattle.ground_text.specs.Reading.{first_is, number_at, index_at, name_at, cond_at, effect_at, value_at, conds_at, effects_at, indices_at, values_at, instant_at, durative_at, action_at, added, deleted, timed_at, counted_at, parts_at}
use Rattle.ground_text.proofs.Numbers.{number_again, index_again, value_again}
use Rattle.ground_text.proofs.Members.{name_again, name_line_again, listed_ends, members_again, counted_again}
use Rattle.ground_text.proofs.Words.{good_cond, good_effect, cond_again, effect_again}

-- two tests of all members
pub both_hold : {A : Type 0} (p q : A → Bool) (xs : List A) → list_all p xs ≡ true → list_all q xs ≡ true → list_all (λ x. p x && q x) xs ≡ true
both_hold p q [] h k = refl
both_hold p q (x ∷ xs) h k =
    let a = and_parts _ _ h in
    let b = and_parts _ _ k in
    and_from _ _ (and_from _ _ a.0 b.0) (both_hold p q xs a.1 b.1)

nothing : {A : Type 0} (xs : List A) → is_empty xs ≡ true → [] ≡ xs
nothing [] h = refl
nothing (x ∷ xs) h = absurd (false≢true h)

module _ (f n : ℕ) (small : f ≤ 4096) (few : n ≤ 256) where
  conds_again : (xs : List Cond) (rest : List ℕ) → list_all (is_cond f n) xs ≡ true → list_all is_kept_cond xs ≡ true → conds_at (listed cond_text xs ++ (10 ∷ rest)) ≡ (xs, 10 ∷ rest)
  unfolding conds_at
  conds_again xs rest h k = members_again cond_at cond_text (good_cond f n) (cond_again f n small few) xs (10 ∷ rest) (both_hold (is_cond f n) is_kept_cond xs h k) refl refl

  effects_again : (xs : List Effect) (rest : List ℕ) → list_all (is_effect f n) xs ≡ true → list_all is_kept_effect xs ≡ true → effects_at (listed effect_text xs ++ (10 ∷ rest)) ≡ (xs, 10 ∷ rest)
  unfolding effects_at
  effects_again xs rest h k = members_again effect_at effect_text (good_effect f n) (effect_again f n small few) xs (10 ∷ rest) (both_hold (is_effect f n) is_kept_effect xs h k) refl refl

  -- what is behind an action's name
  body_at : List ℕ → List ℕ → Action × List ℕ
  body_at name bytes = if first_is 105 bytes then instant_at name bytes else durative_at name bytes

  -- the parts of an action's test
  pub record Good (kind : Kind) (a : Action) : Type 0 where
    pub shaped : is_kind kind a ≡ true
    pub start_conds : list_all (is_cond f n) a.start_conds ≡ true
    pub all_conds : list_all (is_cond f n) a.all_conds ≡ true
    pub end_conds : list_all (is_cond f n) a.end_conds ≡ true
    pub start_effects : list_all (is_effect f n) a.start_effects ≡ true
    pub end_effects : list_all (is_effect f n) a.end_effects ≡ true
    pub kept_start_conds : list_all is_kept_cond a.start_conds ≡ true
    pub kept_all_conds : list_all is_kept_cond a.all_conds ≡ true
    pub kept_end_conds : list_all is_kept_cond a.end_conds ≡ true
    pub kept_start_effects : list_all is_kept_effect a.start_effects ≡ true
    pub kept_end_effects : list_all is_kept_effect a.end_effects ≡ true

  abbrev of_kind : Kind → Action → Action
  of_kind kind a = record { name = a.name; kind = kind; start_conds = a.start_conds; all_conds = a.all_conds; end_conds = a.end_conds; start_effects = a.start_effects; end_effects = a.end_effects }

  short : (least most : ℕ) → least ≤ most → most ≤ far → least < 2 ^ 64
  short least most h k = omega arith

  body_again : (kind : Kind) (a : Action) (rest : List ℕ) → Good kind a → body_at a.name (body_text kind a ++ rest) ≡ (of_kind kind a, rest)
  unfolding body_at body_text instant_at durative_at
  body_again Instant a rest g =
      let r2 = 10 ∷ rest in
      let r1 = codes "\nes" ++ (listed effect_text a.start_effects ++ r2) in
      let shape : body_text Instant a ++ rest ≡ codes "instant\ncs" ++ (listed cond_text a.start_conds ++ r1) = simp append_assoc in
      let sc : conds_at (listed cond_text a.start_conds ++ r1) ≡ (a.start_conds, r1) = conds_again a.start_conds _ g.start_conds g.kept_start_conds in
      let se : effects_at (drop 3 (conds_at (listed cond_text a.start_conds ++ r1)).1) ≡ (a.start_effects, r2) =
      ap (λ (x : List Cond × List ℕ). effects_at (drop 3 x.1)) sc ∙ effects_again a.start_effects rest g.start_effects g.kept_start_effects in
      let rest_empty = and_parts _ _ g.shaped in
      let conds_empty = and_parts _ _ rest_empty.0 in
      ap (body_at a.name) shape
      ∙ (λ i. (record { name = a.name; kind = Instant; start_conds = (sc i).0; all_conds = nothing a.all_conds conds_empty.0 i; end_conds = nothing a.end_conds conds_empty.1 i; start_effects = (se i).0; end_effects = nothing a.end_effects rest_empty.1 i }, drop 1 (se i).1))
  body_again (Durative least most) a rest g =
      let bounds = and_parts _ _ g.shaped in
      let lower = and_parts _ _ bounds.0 in
      let most_far : most ≤ far = leb-true most far bounds.1 in
      let least_most : least ≤ most = leb-true least most lower.1 in
      let r7 = 10 ∷ rest in
      let r6 = codes "\nee" ++ (listed effect_text a.end_effects ++ r7) in
      let r5 = codes "\nes" ++ (listed effect_text a.start_effects ++ r6) in
      let r4 = codes "\nce" ++ (listed cond_text a.end_conds ++ r5) in
      let r3 = codes "\nco" ++ (listed cond_text a.all_conds ++ r4) in
      let r2 = codes "\ncs" ++ (listed cond_text a.start_conds ++ r3) in
      let r1 = codes " " ++ (decimal most ++ r2) in
      let shape : body_text (Durative least most) a ++ rest ≡ codes "length " ++ (decimal least ++ r1) = simp append_assoc in
      let lo : number_at (decimal least ++ r1) ≡ (least, r1) = number_again least r1 (short least most least_most most_far) refl in
      let hi = ap (λ (x : ℕ × List ℕ). number_at (drop 1 x.1)) lo ∙ number_again most r2 (short most most (omega arith) most_far) refl in
      let sc = ap (λ (x : ℕ × List ℕ). conds_at (drop 3 x.1)) hi ∙ conds_again a.start_conds _ g.start_conds g.kept_start_conds in
      let oc = ap (λ (x : List Cond × List ℕ). conds_at (drop 3 x.1)) sc ∙ conds_again a.all_conds _ g.all_conds g.kept_all_conds in
      let ec = ap (λ (x : List Cond × List ℕ). conds_at (drop 3 x.1)) oc ∙ conds_again a.end_conds _ g.end_conds g.kept_end_conds in
      let se = ap (λ (x : List Cond × List ℕ). effects_at (drop 3 x.1)) ec ∙ effects_again a.start_effects _ g.start_effects g.kept_start_effects in
      let ee = ap (λ (x : List Effect × List ℕ). effects_at (drop 3 x.1)) se ∙ effects_again a.end_effects rest g.end_effects g.kept_end_effects in
      ap (body_at a.name) shape
      ∙ (λ i. (record { name = a.name; kind = Durative (lo i).0 (hi i).0; start_conds = (sc i).0; all_conds = (oc i).0; end_conds = (ec i).0; start_effects = (se i).0; end_effects = (ee i).0 }, drop 1 (ee i).1))

  effects_each : (xs : List Effect) → are_effects f n xs ≡ true → list_all (is_effect f n) xs ≡ true
  effects_each xs h = (and_parts _ _ (and_parts _ _ h).0).1

  unfoldable pub good_action : Action → Bool
  good_action a = is_action f n a && is_kept_action a

  pub good_parts : (a : Action) → good_action a ≡ true → (is_name a.name ≡ true) × Good a.kind a
  unfolding good_action
  good_parts a h =
      let p = and_parts _ _ h in
      let p6 = and_parts _ _ p.0 in
      let p5 = and_parts _ _ p6.0 in
      let p4 = and_parts _ _ p5.0 in
      let p3 = and_parts _ _ p4.0 in
      let p2 = and_parts _ _ p3.0 in
      let p1 = and_parts _ _ p2.0 in
      let k4 = and_parts _ _ p.1 in
      let k3 = and_parts _ _ k4.0 in
      let k2 = and_parts _ _ k3.0 in
      let k1 = and_parts _ _ k2.0 in (
        p1.0,
        record {
          shaped = p1.1;
          start_conds = p2.1;
          all_conds = p3.1;
          end_conds = p4.1;
          start_effects = effects_each a.start_effects p5.1;
          end_effects = effects_each a.end_effects p6.1;
          kept_start_conds = k1.0;
          kept_all_conds = k1.1;
          kept_end_conds = k2.1;
          kept_start_effects = k3.1;
          kept_end_effects = k4.1;
        },
      )

  pub action_again : (a : Action) (rest : List ℕ) → good_action a ≡ true → action_at (action_text a ++ rest) ≡ (a, rest)
  unfolding body_at action_at action_text
  action_again a rest h =
      let good = good_parts a h in
      let shape : action_text a ++ rest ≡ codes "act " ++ (a.name ++ (10 ∷ (body_text a.kind a ++ rest))) = simp append_assoc in
      ap action_at shape
      ∙ ap (λ (x : List ℕ × List ℕ). body_at x.0 x.1) (name_again a.name (body_text a.kind a ++ rest) good.0)
      ∙ body_again a.kind a rest good.1

-- ---- timed items

added_deletes : (ys : List ℕ) → flat_map added (map Delete ys) ≡ []
added_deletes [] = refl
added_deletes (y ∷ ys) = added_deletes ys

added_adds : (xs : List ℕ) → flat_map added (map Add xs) ≡ xs
added_adds [] = refl
added_adds (x ∷ xs) = ap (λ (r : List ℕ). x ∷ r) (added_adds xs)

deleted_deletes : (ys : List ℕ) → flat_map deleted (map Delete ys) ≡ ys
deleted_deletes [] = refl
deleted_deletes (y ∷ ys) = ap (λ (r : List ℕ). y ∷ r) (deleted_deletes ys)

deleted_adds : (xs : List ℕ) → flat_map deleted (map Add xs) ≡ []
deleted_adds [] = refl
deleted_adds (x ∷ xs) = deleted_adds xs

-- a fact of either side comes next
either : (P : List Effect → Type 0) (b : Bool) (x y : List Effect) → P x → P y → P (if b then x else y)
either P true x y p q = p
either P false x y p q = q

added_merged : (xs ys : List ℕ) → flat_map added (merged xs ys) ≡ xs
added_merged [] ys = added_deletes ys
added_merged (x ∷ xs) [] = added_adds (x ∷ xs)
added_merged (x ∷ xs) (y ∷ ys) =
    either (λ (es : List Effect). flat_map added es ≡ x ∷ xs) (nat_lt x y) (Add x ∷ merged xs (y ∷ ys)) (Delete y ∷ merged (x ∷ xs) ys)
    (ap (λ (r : List ℕ). x ∷ r) (added_merged xs (y ∷ ys))) (added_merged (x ∷ xs) ys)

deleted_merged : (xs ys : List ℕ) → flat_map deleted (merged xs ys) ≡ ys
deleted_merged [] ys = deleted_deletes ys
deleted_merged (x ∷ xs) [] = deleted_adds (x ∷ xs)
deleted_merged (x ∷ xs) (y ∷ ys) =
    either (λ (es : List Effect). flat_map deleted es ≡ y ∷ ys) (nat_lt x y) (Add x ∷ merged xs (y ∷ ys)) (Delete y ∷ merged (x ∷ xs) ys)
    (deleted_merged xs (y ∷ ys)) (ap (λ (r : List ℕ). y ∷ r) (deleted_merged (x ∷ xs) ys))

good_adds : (f : ℕ) (xs : List ℕ) → list_all (λ x. nat_lt x f) xs ≡ true → list_all (good_effect f 0) (map Add xs) ≡ true
good_adds f [] h = refl
good_adds f (x ∷ xs) h = let p = and_parts _ _ h in and_from _ _ (and_from _ _ p.0 refl) (good_adds f xs p.1)

good_deletes : (f : ℕ) (xs : List ℕ) → list_all (λ x. nat_lt x f) xs ≡ true → list_all (good_effect f 0) (map Delete xs) ≡ true
good_deletes f [] h = refl
good_deletes f (x ∷ xs) h = let p = and_parts _ _ h in and_from _ _ (and_from _ _ p.0 refl) (good_deletes f xs p.1)

pub good_merged : (f : ℕ) (xs ys : List ℕ) → list_all (λ x. nat_lt x f) xs ≡ true → list_all (λ x. nat_lt x f) ys ≡ true → list_all (good_effect f 0) (merged xs ys) ≡ true
good_merged f [] ys h k = good_deletes f ys k
good_merged f (x ∷ xs) [] h k = good_adds f (x ∷ xs) h
good_merged f (x ∷ xs) (y ∷ ys) h k =
    let p = and_parts _ _ h in
    let q = and_parts _ _ k in
    either (λ (es : List Effect). list_all (good_effect f 0) es ≡ true) (nat_lt x y) (Add x ∷ merged xs (y ∷ ys)) (Delete y ∷ merged (x ∷ xs) ys)
    (and_from _ _ (and_from _ _ p.0 refl) (good_merged f xs (y ∷ ys) p.1 k))
    (and_from _ _ (and_from _ _ q.0 refl) (good_merged f (x ∷ xs) ys h q.1))

unfoldable pub good_timed : ℕ → TimedItem → Bool
good_timed f t = is_timed f t && nat_lt t.tick (2 ^ 64)

pub timed_again : (f : ℕ) → f ≤ 4096 → (t : TimedItem) (rest : List ℕ) → good_timed f t ≡ true → timed_at (timed_text t ++ rest) ≡ (t, rest)
unfolding good_timed timed_at timed_text effects_at
timed_again f small t rest h =
    let p = and_parts _ _ h in
    let p5 = and_parts _ _ p.0 in
    let p4 = and_parts _ _ p5.0 in
    let p3 = and_parts _ _ p4.0 in
    let p2 = and_parts _ _ p3.0 in
    let p1 = and_parts _ _ p2.0 in
    let literals = merged t.adds t.deletes in
    let behind = listed effect_text literals ++ (10 ∷ rest) in
    let shape : timed_text t ++ rest ≡ codes "at " ++ (decimal t.tick ++ behind) = simp append_assoc in
    let tick : number_at (decimal t.tick ++ behind) ≡ (t.tick, behind) = number_again t.tick behind (ltb-true t.tick (2 ^ 64) p.1) (listed_ends effect_text literals (10 ∷ rest) refl) in
    let all : effects_at (number_at (decimal t.tick ++ behind)).1 ≡ (literals, 10 ∷ rest) =
    ap (λ (x : ℕ × List ℕ). effects_at x.1) tick
    ∙ members_again effect_at effect_text (good_effect f 0) (effect_again f 0 small (omega arith)) literals (10 ∷ rest) (good_merged f t.adds t.deletes p1.1 p2.1) refl refl in
    let adds = ap (λ (x : List Effect × List ℕ). flat_map added x.0) all ∙ added_merged t.adds t.deletes in
    let deletes = ap (λ (x : List Effect × List ℕ). flat_map deleted x.0) all ∙ deleted_merged t.adds t.deletes in
    ap timed_at shape ∙ (λ i. (record { tick = (tick i).0; adds = adds i; deletes = deletes i }, drop 1 (all i).1))

-- ---- whole problems

indices_again : (f : ℕ) → f ≤ 4096 → (xs : List ℕ) (rest : List ℕ) → list_all (λ x. nat_lt x f) xs ≡ true → indices_at (listed decimal xs ++ (10 ∷ rest)) ≡ (xs, 10 ∷ rest)
unfolding indices_at
indices_again f small xs rest h =
    members_again index_at decimal (λ x. nat_lt x f) (λ x r below ends. index_again x r (within x below) ends) xs (10 ∷ rest) h refl refl where
      within : (x : ℕ) → nat_lt x f ≡ true → x < 2 ^ 32
      within x below = let lt = ltb-true x f below in omega arith

values_again : (xs : List (Option ℤ)) (rest : List ℕ) → list_all is_value xs ≡ true → values_at (listed value_text xs ++ (10 ∷ rest)) ≡ (xs, 10 ∷ rest)
unfolding values_at
values_again xs rest h = members_again value_at value_text is_value (λ x r kept ends. value_again x r kept ends) xs (10 ∷ rest) h refl refl

scale_small : (s : ℕ) → (s == 1 || s == 10 || s == 100 || s == 1000) ≡ true → s < 2 ^ 32
scale_small s h = grind (arith, nat_tests)

pub parts_again : (p : Ground) → IsProblem p → parts_at (problem_text p) ≡ p
unfolding parts_at problem_text header_text good_action good_timed
parts_again p is =
    let w = is.well_formed in
    let named = and_parts _ _ (and_parts _ _ w.fact_names).0 in
    let fluent_named = and_parts _ _ (and_parts _ _ w.fluent_names).0 in
    let acting = and_parts _ _ w.acting in
    let timing = and_parts _ _ (and_parts _ _ w.timing).0 in
    let f = length p.facts in
    let n = length p.fluents in
    let small : f ≤ 4096 = leb-true f 4096 named.0 in
    let few : n ≤ 256 = leb-true n 256 fluent_named.0 in
    let r8 = codes "\nend\n" in
    let r7 = codes "\ngoal" ++ (listed cond_text p.goal ++ r8) in
    let r6 = codes "\nvalues" ++ (listed value_text p.values ++ r7) in
    let r5 = codes "init" ++ (listed decimal p.init ++ r6) in
    let r4 = codes "timed " ++ (counted timed_text p.timed ++ r5) in
    let r3 = codes "actions " ++ (counted action_text p.actions ++ r4) in
    let r2 = codes "fluents " ++ (counted name_text p.fluents ++ r3) in
    let r1 = codes "\nfacts " ++ (counted name_text p.facts ++ r2) in
    let shape : problem_text p ≡ codes "ground 1\nscale " ++ (decimal p.scale ++ r1) = simp append_assoc in
    let scale : index_at (decimal p.scale ++ r1) ≡ (p.scale, r1) = index_again p.scale r1 (scale_small p.scale w.scaled) refl in
    let facts = ap (λ (x : ℕ × List ℕ). counted_at name_at 4096 (drop 7 x.1)) scale
    ∙ counted_again name_at name_text is_name name_line_again 4096 p.facts r2 (omega arith) small named.1 in
    let fluents = ap (λ (x : List (List ℕ) × List ℕ). counted_at name_at 256 (drop 8 x.1)) facts
    ∙ counted_again name_at name_text is_name name_line_again 256 p.fluents r3 (omega arith) few fluent_named.1 in
    let actions = ap (λ (x : List (List ℕ) × List ℕ). counted_at action_at 4096 (drop 8 x.1)) fluents
    ∙ counted_again action_at action_text (good_action f n small few) (action_again f n small few) 4096 p.actions r4 (omega arith) (leb-true _ _ acting.0) (both_hold (is_action f n) is_kept_action p.actions acting.1 is.kept_actions) in
    let timed = ap (λ (x : List Action × List ℕ). counted_at timed_at 256 (drop 6 x.1)) actions
    ∙ counted_again timed_at timed_text (good_timed f) (timed_again f small) 256 p.timed r5 (omega arith) (leb-true _ _ timing.0) (both_hold (is_timed f) (λ t. nat_lt t.tick (2 ^ 64)) p.timed timing.1 is.kept_ticks) in
    let init = ap (λ (x : List TimedItem × List ℕ). indices_at (drop 4 x.1)) timed
    ∙ indices_again f small p.init _ (and_parts _ _ w.starting).0 in
    let values = ap (λ (x : List ℕ × List ℕ). values_at (drop 7 x.1)) init
    ∙ values_again p.values _ is.kept_values in
    let goal = ap (λ (x : List (Option ℤ) × List ℕ). conds_at (drop 5 x.1)) values
    ∙ conds_again f n small few p.goal _ (and_parts _ _ w.aiming).1 is.kept_goal in
    ap parts_at shape
    ∙ (λ i. record { scale = (scale i).0; facts = (facts i).0; fluents = (fluents i).0; actions = (actions i).0; timed = (timed i).0; init = (init i).0; values = (values i).0; goal = (goal i).0 })
