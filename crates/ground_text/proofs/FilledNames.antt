-- Names that are filled in without being written out, and texts of which only the first bytes are written.
use Rattle.std.proofs.Common.{◌≡◌, ℕ, zero, suc, ◌-◌, ◌≤◌, ◌<◌, min, Bool, true, false, ◌&&◌, List, [], ◌∷◌, ◌++◌, length, take, drop, refl, sym, ap, subst, ◌∙◌, append_assoc, arith}
use Rattle.std.specs.Prelude.{◌==◌, nat_le, not, bytes_eq, decimal, codes, get_or, if◌then◌else◌}
use Rattle.std.specs.List.{list_all, flat_map}
use Rattle.std.proofs.lemmas.Bool.{false≢true, and_parts, le-leb, lt-leb}
use Rattle.std.proofs.lemmas.List.{take-append-drop, take-append-le, take_min, take_all}
use Rattle.tp_spec.specs.Lists.{each_next, each_pair}
use Rattle.tp_spec.specs.WellFormed.{Ground, is_name, name_before}
use Rattle.line_text.specs.Lines.{lines, has_lines}
use Rattle.ground_text.specs.Completion.{name_or_next, filled}
use Rattle.ground_text.specs.Filling.{rise_from, filled_ground}
use Rattle.problem_rules.specs.Parts.{ground_of}
use Rattle.problem_rules.specs.Tests.{are_few_names, are_actions, are_timed, are_init, is_goal, items_hold, states_hold, ranges_hold}
use Rattle.ground_text.specs.Texts.{listed, cond_text, value_text, name_text, action_text, timed_text, counted, header_text, problem_text}
use Rattle.problem_rules.specs.declared.parts.Parts.{Parts}
use Rattle.ground_text.proofs.Cuts.{next_words, before_next}

-- ---- the first bytes of a text

pub take_more : (k : ℕ) (a b x : List ℕ) → take k a ≡ take k b → take k (a ++ x) ≡ take k (b ++ x)
take_more k a b x h = by_lists k a b h where
  by_lists : (k : ℕ) (a b : List ℕ) → take k a ≡ take k b → take k (a ++ x) ≡ take k (b ++ x)
  by_lists zero a b h = refl
  by_lists (suc k) [] [] h = refl
  by_lists (suc k) [] (d ∷ b) h = cc
  by_lists (suc k) (c ∷ a) [] h = cc
  by_lists (suc k) (c ∷ a) (d ∷ b) h =
      let first : c ≡ d = cc in
      let rest : take k a ≡ take k b = cc in
      let more = by_lists k a b rest in
      λ i. first i ∷ more i

-- where so many bytes are written, the rest may lack
pub take_stops : (k : ℕ) (a x total : List ℕ) → k ≤ length a → take k (a ++ x) ≡ take k total → take k a ≡ take k total
take_stops k a x total le h = sym (take-append-le k a x le) ∙ h

lines_first : (n : ℕ) (whole : List ℕ) → take (length (lines n whole)) whole ≡ lines n whole
lines_first zero [] = refl
lines_first zero (c ∷ whole) = refl
lines_first (suc n) [] = refl
lines_first (suc n) (c ∷ whole) = by_end (c == 10) (lines_first n whole) (lines_first (suc n) whole) where
  by_end : (is : Bool) → take (length (lines n whole)) whole ≡ lines n whole → take (length (lines (suc n) whole)) whole ≡ lines (suc n) whole
      → take (length (if is then c ∷ lines n whole else c ∷ lines (suc n) whole)) (c ∷ whole) ≡ (if is then c ∷ lines n whole else c ∷ lines (suc n) whole)
  by_end true fewer same = ap (λ (y : List ℕ). c ∷ y) fewer
  by_end false fewer same = ap (λ (y : List ℕ). c ∷ y) same

lines_alone : (n : ℕ) (text rest : List ℕ) → has_lines n text ≡ true → lines n (lines n text ++ rest) ≡ lines n text
lines_alone zero text rest h = refl
lines_alone (suc n) [] rest h = absurd (false≢true h)
lines_alone (suc n) (c ∷ text) rest h = by_end (c == 10) refl (λ k. lines_alone n text rest k) (λ k. lines_alone (suc n) text rest k) where
  by_end : (is : Bool) → (c == 10) ≡ is → (has_lines n text ≡ true → lines n (lines n text ++ rest) ≡ lines n text)
      → (has_lines (suc n) text ≡ true → lines (suc n) (lines (suc n) text ++ rest) ≡ lines (suc n) text)
      → lines (suc n) (lines (suc n) (c ∷ text) ++ rest) ≡ lines (suc n) (c ∷ text)
  by_end true e fewer same = let k = rw e at h in rw (e, e) (ap (λ (y : List ℕ). c ∷ y) (fewer k))
  by_end false e fewer same = let k = rw e at h in rw (e, e) (ap (λ (y : List ℕ). c ∷ y) (same k))

-- a text begins with whole lines where its first bytes are these
pub begins_bytes : (n : ℕ) (whole text front : List ℕ) → front ≡ lines n text → has_lines n text ≡ true → take (length front) whole ≡ front → lines n whole ≡ front
begins_bytes n whole text front same has h =
    let split : whole ≡ lines n text ++ drop (length front) whole = sym (take-append-drop (length front) whole) ∙ ap (λ (x : List ℕ). x ++ drop (length front) whole) (h ∙ same) in
    ap (lines n) split ∙ lines_alone n text (drop (length front) whole) has ∙ sym same

pub bytes_begin : (n : ℕ) (whole front : List ℕ) → lines n whole ≡ front → take (length front) whole ≡ front
bytes_begin n whole front h = subst (λ (x : List ℕ). take (length x) whole ≡ x) h (lines_first n whole)

-- ---- names

pub filled_len : (before : List ℕ) (names : List (List ℕ)) → length (filled before names) ≡ length names
filled_len before [] = refl
filled_len before (name ∷ names) = ap suc (filled_len (name_or_next before name) names)

-- a name that may stand behind the one before it
pub rise_goes_on : (before name next : List ℕ) (names : List (List ℕ)) (total : Bool) → next ≡ name_or_next before name → is_name next ≡ true → name_before before next ≡ true
    → rise_from before (filled before (name ∷ names)) ≡ total → rise_from next (filled next names) ≡ total
rise_goes_on before name next names total same is less h =
    let first : rise_from before (next ∷ filled next names) ≡ total = ap (λ (x : List ℕ). rise_from before (x ∷ filled x names)) same ∙ h in
    sym (stays (is_name next) (name_before before next) (list_all is_name (filled next names)) (each_next name_before (next ∷ filled next names)) is less) ∙ first where
      stays : (a b x y : Bool) → a ≡ true → b ≡ true → ((a && x) && (b && y)) ≡ (x && y)
      stays true true x y p q = refl
      stays false b x y p q = absurd (false≢true p)
      stays true false x y p q = absurd (false≢true q)

-- and one that may not
pub rise_stops : (before name : List ℕ) (names : List (List ℕ)) → (is_name (name_or_next before name) && name_before before (name_or_next before name)) ≡ false
    → false ≡ rise_from before (filled before (name ∷ names))
rise_stops before name names h =
    let next = name_or_next before name in
    sym (falls (is_name next) (name_before before next) (list_all is_name (filled next names)) (each_next name_before (next ∷ filled next names)) h) where
      falls : (a b x y : Bool) → (a && b) ≡ false → ((a && x) && (b && y)) ≡ false
      falls true true x y h = absurd (false≢true (sym h))
      falls true false true y h = refl
      falls true false false y h = refl
      falls false b x y h = refl

-- what is filled in behind a name may stand there
pub missing_stands : (before next name : List ℕ) → is_name before ≡ true → length name ≡ 0 → next ≡ before ++ 33 ∷ []
    → (next ≡ name_or_next before name) × (is_name next ≡ true) × (name_before before next ≡ true)
missing_stands before next [] is none same = (same, ap is_name same ∙ next_words true before is, ap (name_before before) same ∙ before_next before)
missing_stands before next (c ∷ name) is none same = absurd (omega arith)

pub given_stands : (before next name : List ℕ) → (length name == 0) ≡ false → (is_name name && name_before before name) ≡ true → next ≡ name
    → (next ≡ name_or_next before name) × (is_name next ≡ true) × (name_before before next ≡ true)
given_stands before next [] some h same = absurd (false≢true (sym some))
given_stands before next (c ∷ name) some h same =
    let p = and_parts _ _ h in
    (same, ap is_name same ∙ p.0, ap (name_before before) same ∙ p.1)

pub given_falls : (before name : List ℕ) → (length name == 0) ≡ false → (is_name name && name_before before name) ≡ false
    → (is_name (name_or_next before name) && name_before before (name_or_next before name)) ≡ false
given_falls before [] some h = absurd (false≢true (sym some))
given_falls before (c ∷ name) some h = h

-- the first name, and those that rise from it
pub few_rise : (most : ℕ) (name : List ℕ) (names : List (List ℕ)) (first : List ℕ) (is : Bool) → suc (length names) ≤ most → first ≡ name_or_next [] name → is_name first ≡ true
    → is ≡ rise_from first (filled first names) → is ≡ are_few_names most (filled [] (name ∷ names))
few_rise most name names first is few same one h =
    let len : nat_le (suc (length (filled first names))) most ≡ true = le-leb _ most (let same_len = filled_len first names in omega arith) in
    h ∙ sym (all (nat_le (suc (length (filled first names))) most) (is_name first) (list_all is_name (filled first names)) (each_next name_before (first ∷ filled first names)) len one)
    ∙ ap (λ (x : List ℕ). are_few_names most (x ∷ filled x names)) same where
      all : (n a x y : Bool) → n ≡ true → a ≡ true → ((n && (a && x)) && y) ≡ (x && y)
      all true true x y p q = refl
      all false a x y p q = absurd (false≢true p)
      all true false x y p q = absurd (false≢true q)

pub few_falls : (most : ℕ) (name : List ℕ) (names : List (List ℕ)) (first : List ℕ) → first ≡ name_or_next [] name → is_name first ≡ false → false ≡ are_few_names most (filled [] (name ∷ names))
few_falls most name names first same none =
    sym (falls (nat_le (suc (length (filled first names))) most) (is_name first) (list_all is_name (filled first names)) (each_next name_before (first ∷ filled first names)) none)
    ∙ ap (λ (x : List ℕ). are_few_names most (x ∷ filled x names)) same where
      falls : (n a x y : Bool) → a ≡ false → ((n && (a && x)) && y) ≡ false
      falls true true x y h = absurd (false≢true (sym h))
      falls true false x y h = refl
      falls false a x y h = refl

pub too_many : (most : ℕ) (names : List (List ℕ)) → most < length names → false ≡ are_few_names most (filled [] names)
too_many most names more =
    let same_len = filled_len [] names in
    sym (falls (nat_le (length (filled [] names)) most) _ _ (lt-leb _ most (omega arith))) where
      falls : (n x y : Bool) → n ≡ false → ((n && x) && y) ≡ false
      falls true x y h = absurd (false≢true (sym h))
      falls false x y h = refl

-- ---- writing

pub put_goes_on : (limit : ℕ) (out out' before name next : List ℕ) (names : List (List ℕ)) (total : List ℕ) → next ≡ name_or_next before name → out' ≡ out ++ name_text next
    → take limit (out ++ flat_map name_text (filled before (name ∷ names))) ≡ total → take limit (out' ++ flat_map name_text (filled next names)) ≡ total
put_goes_on limit out out' before name next names total same written h =
    ap (λ (o : List ℕ). take limit (o ++ flat_map name_text (filled next names))) written
    ∙ ap (take limit) (append_assoc out (name_text next) (flat_map name_text (filled next names)))
    ∙ ap (λ (x : List ℕ). take limit (out ++ (name_text x ++ flat_map name_text (filled x names)))) same
    ∙ h

pub front_written : (k : ℕ) (old h w f v g o1 o2 o3 o4 o5 : List ℕ) → o1 ≡ old ++ h → o2 ≡ o1 ++ w → take k o3 ≡ take k (o2 ++ f) → o4 ≡ o3 ++ v → take k o5 ≡ take k (o4 ++ g)
    → take k o5 ≡ take k (old ++ (h ++ w ++ f ++ v ++ g))
front_written k old h w f v g o1 o2 o3 o4 o5 e1 e2 e3 e4 e5 =
    e5
    ∙ ap (λ (o : List ℕ). take k (o ++ g)) e4
    ∙ ap (take k) (append_assoc o3 v g)
    ∙ take_more k o3 (o2 ++ f) (v ++ g) e3
    ∙ ap (λ (o : List ℕ). take k ((o ++ f) ++ (v ++ g))) (e2 ∙ ap (λ (o : List ℕ). o ++ w) e1)
    ∙ ap (take k) (regroup old h w f v g) where
      regroup : (old h w f v g : List ℕ) → (((old ++ h) ++ w) ++ f) ++ (v ++ g) ≡ old ++ (h ++ w ++ f ++ v ++ g)
      regroup old h w f v g = simp append_assoc

pub all_written : (k : ℕ) (old n i s e o1 o2 o3 o4 : List ℕ) → take k o1 ≡ take k (old ++ n) → o2 ≡ o1 ++ i → o3 ≡ o2 ++ s → o4 ≡ o3 ++ e
    → take k o4 ≡ take k (old ++ (n ++ (i ++ (s ++ e))))
all_written k old n i s e o1 o2 o3 o4 e1 e2 e3 e4 =
    ap (take k) (e4 ∙ ap (λ (o : List ℕ). o ++ e) (e3 ∙ ap (λ (o : List ℕ). o ++ s) e2) ∙ behind o1 i s e)
    ∙ take_more k o1 (old ++ n) (i ++ (s ++ e)) e1
    ∙ ap (take k) (append_assoc old n (i ++ (s ++ e))) where
      behind : (o i s e : List ℕ) → ((o ++ i) ++ s) ++ e ≡ o ++ (i ++ (s ++ e))
      behind o i s e = simp append_assoc

abbrev pub front_text : Ground → List ℕ
front_text p = header_text p.scale ++ codes "\nfacts " ++ counted name_text p.facts ++ codes "fluents " ++ counted name_text p.fluents

abbrev pub items_text : Ground → List ℕ
items_text p = codes "actions " ++ counted action_text p.actions ++ codes "timed " ++ counted timed_text p.timed

abbrev pub states_text : Ground → List ℕ
states_text p = codes "init" ++ listed decimal p.init ++ codes "\nvalues" ++ listed value_text p.values ++ codes "\ngoal" ++ listed cond_text p.goal

regroup_all : (x1 x2 x3 x4 x5 x6 x7 x8 x9 x10 x11 x12 x13 x14 x15 x16 : List ℕ)
    → x1 ++ x2 ++ x3 ++ x4 ++ x5 ++ x6 ++ x7 ++ x8 ++ x9 ++ x10 ++ x11 ++ x12 ++ x13 ++ x14 ++ x15 ++ x16 ≡ (x1 ++ x2 ++ x3 ++ x4 ++ x5) ++ ((x6 ++ x7 ++ x8 ++ x9) ++ ((x10 ++ x11 ++ x12 ++ x13 ++ x14 ++ x15) ++ x16))
regroup_all x1 x2 x3 x4 x5 x6 x7 x8 x9 x10 x11 x12 x13 x14 x15 x16 = simp append_assoc

pub text_parts : (p : Ground) → problem_text p ≡ front_text p ++ (items_text p ++ (states_text p ++ codes "\nend\n"))
unfolding problem_text
text_parts p =
    regroup_all (header_text p.scale) (codes "\nfacts ") (counted name_text p.facts) (codes "fluents ") (counted name_text p.fluents)
    (codes "actions ") (counted action_text p.actions) (codes "timed ") (counted timed_text p.timed)
    (codes "init") (listed decimal p.init) (codes "\nvalues") (listed value_text p.values) (codes "\ngoal") (listed cond_text p.goal) (codes "\nend\n")

-- what is shown of a text of which only the first bytes were written
pub shown_bytes : (items whole front : List ℕ) (shown limit : ℕ) → shown ≡ min limit (length items) → limit ≡ length front → take limit items ≡ take limit whole → take shown items ≡ take (length front) whole
shown_bytes items whole front shown limit least all h = ap (λ (n : ℕ). take n items) least ∙ take_min limit items ∙ h ∙ ap (λ (n : ℕ). take n whole) all

-- ---- rules

pub items_same : (p : Parts) → items_hold (ground_of p) ≡ items_hold (filled_ground p)
items_same p = λ i. are_actions (sym (filled_len [] p.facts) i) (sym (filled_len [] p.fluents) i) p.actions && each_pair (λ a b. not (bytes_eq a.name b.name)) p.actions && are_timed (sym (filled_len [] p.facts) i) p.timed

pub states_same : (p : Parts) → states_hold (ground_of p) ≡ states_hold (filled_ground p)
states_same p = λ i. are_init (sym (filled_len [] p.facts) i) p.init && length p.values == sym (filled_len [] p.fluents) i && is_goal (sym (filled_len [] p.facts) i) (sym (filled_len [] p.fluents) i) p.goal

-- a count and the names behind it, as they are written
pub names_counted : (limit : ℕ) (out : List ℕ) (names : List (List ℕ)) (before : List ℕ) → before ≡ []
    → take limit (((out ++ decimal (length names)) ++ (10 ∷ [])) ++ flat_map name_text (filled before names)) ≡ take limit (out ++ counted name_text (filled [] names))
unfolding counted
names_counted limit out names before same =
    ap (take limit) (
    ap (λ (b : List ℕ). ((out ++ decimal (length names)) ++ (10 ∷ [])) ++ flat_map name_text (filled b names)) same
    ∙ ap (λ (n : ℕ). ((out ++ decimal n) ++ (10 ∷ [])) ++ flat_map name_text (filled [] names)) (sym (filled_len [] names))
    ∙ simp append_assoc
    )

-- the same of names that a first one was taken from
pub few_all : (most : ℕ) (names : List (List ℕ)) (name shown first bytes text : List ℕ) (is : Bool) → 1 ≤ length names → length names ≤ most
    → name ≡ get_or names 0 name → shown ≡ name → first ≡ name_or_next [] shown → bytes ≡ first → is_name bytes ≡ true → text ≡ first
    → is ≡ rise_from text (filled text (take (length names - 1) (drop 1 names))) → is ≡ are_few_names most (filled [] names)
few_all most [] name shown first bytes text is some few a k f l one v rises = absurd (omega (arith, some))
few_all most (x ∷ names) name shown first bytes text is some few a k f l one v rises =
    let left : suc (length names) - 1 ≡ length names = omega arith in
    few_rise most x names first is few (f ∙ ap (name_or_next []) (k ∙ a)) (ap is_name (sym l) ∙ one)
    (rises ∙ ap (λ (t : List ℕ). rise_from t (filled t (take (suc (length names) - 1) names))) v ∙ ap (λ (xs : List (List ℕ)). rise_from first (filled first xs)) (take_all (suc (length names) - 1) names (omega (arith, left))))

pub ranges_same : (p : Parts) → ranges_hold (ground_of p) ≡ ranges_hold (filled_ground p)
ranges_same p = refl
