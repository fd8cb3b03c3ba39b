-- The network that is built of a word is proper, and its solutions are the ticks that keep the
-- word's bounds and rows.
use Rattle.std.proofs.Common.{◌≡◌, ℕ, zero, suc, ◌+◌, ◌-◌, ◌<◌, ◌≤◌, ◌^◌, Bool, true, false, List, [], ◌∷◌, ◌++◌, length, replicate, map, Option, Some, None, refl, sym, ap, subst, arith, ◌∙◌, inl, inr}
use Rattle.std.specs.Prelude.{nat_le, ◌&&◌, All, pos, negsuc, ◌-ℤ◌, ◌≤ℤ◌, slice_get, IfSome, IsTrue}
use Rattle.std.specs.List.{flat_map, list_all, AllByRecursion as Each}
use Rattle.std.proofs.lemmas.Int.{ints}
use Rattle.std.proofs.lemmas.Bool.{and_parts, leb-true, cases_lt, false≢true}
use Rattle.std.proofs.lemmas.List.{get_or-replicate, get_or_past, length-replicate, length-map}
use Rattle.std.proofs.lemmas.List.Elements.{All-from_recursion}
use Rattle.tick_network.specs.declared.net.Net.{Net}
use Rattle.tick_network.specs.declared.net.Row.{Row}
use Rattle.tick_network.specs.Nets.{HasEnds, IsSmallRow, AreSmall, IsNet}
use Rattle.tp_spec.specs.declared.plan.Limits.{Limits}
use Rattle.tp_spec.specs.declared.plan.Mark.{Mark}
use Rattle.tp_spec.specs.declared.plan.Timed.{Timed}
use Rattle.tp_spec.specs.declared.problem.Action.{Action}
use Rattle.tp_spec.specs.declared.problem.Kind.{Kind}
use Rattle.tp_spec.specs.declared.problem.Kind.TheVariants.{Instant, Durative}
use Rattle.tp_spec.specs.declared.problem.TimedItem.{TimedItem}
use Rattle.tp_spec.specs.Courses.{in_range}
use Rattle.tp_spec.specs.Lists.{IsIn, some_and}
use Rattle.tp_spec.specs.WellFormed.{Ground, IsWellFormed, is_action, is_kind}
use Rattle.tp_spec.specs.Words.{Act, groups, acts_of, timed_of}
use Rattle.tp_spec.specs.Schedules.{Schedule, IsSchedule, awaited, commits_by}
use Rattle.tp_laws.specs.Clocks.{HasActsInGroups}
use Rattle.tp_laws.proofs.ClockActs.{each-append}
use Rattle.word_rows.specs.declared.bound.Bound.{Bound}
use Rattle.word_rows.specs.Rows.{open_acts, end_of, least_of, most_of, least_length, most_length, rise_rows, late_rows, length_rows, word_rows, timed_bounds, commit_bounds, clock_bounds, by_acts, seen_more, word_exact, next_bounds, last_bounds, variables}
use Rattle.word_rows.proofs.Pieces.{each-flat, each-map, range-from}
use Rattle.word_rows.proofs.Acts.{next-some}
use Rattle.word_rows.proofs.Scheduled.{end_below}
use Rattle.word_network.specs.Conditions.{AreCommits}
use Rattle.word_network.specs.declared.net.WordNet.{WordNet}
use Rattle.word_network.specs.declared.parts.WordParts.{WordParts}
use Rattle.word_network.specs.Nets.{raised, lowered, exact_of, lasts_at, IsNetOf}
use Rattle.word_network.specs.Parts.{act_of, ArePartsOf}
use Rattle.word_network.proofs.Relaxing.{length-raised, length-lowered, raised-small, lowered-small}

-- no length passes 2^40
member_good : {A : Type 0} (good : A → Bool) (xs : List A) (i : ℕ) (x : A) → list_all good xs ≡ true → slice_get xs i ≡ Some x → good x ≡ true
member_good good [] i x all is = absurd cc
member_good good (y ∷ ys) zero x all is = subst (λ o. some_and o good ≡ true) is (and_parts _ _ all).0
member_good good (y ∷ ys) (suc i) x all is = member_good good ys i x (and_parts _ _ all).1 is

kind_small : (k : Kind) (a : Action) → is_kind k a ≡ true → (least_of k ≤ 2 ^ 40) × (most_of k ≤ 2 ^ 40)
kind_small Instant a h = (omega arith, omega arith)
kind_small (Durative least most) a h =
    let outer : ((nat_le 1 least && nat_le least most) ≡ true) × (nat_le most (2 ^ 40) ≡ true) = and_parts _ _ h in
    let inner : (nat_le 1 least ≡ true) × (nat_le least most ≡ true) = and_parts _ _ outer.0 in
    (omega (arith, leb-true least most inner.1, leb-true most (2 ^ 40) outer.1), leb-true most (2 ^ 40) outer.1)

action_small : (p : Ground) (i : ℕ) (o : Option Action) → IsWellFormed p → slice_get p.actions i ≡ o → (elim o as (λ _. ℕ) [ None ↦ 0 | Some x ↦ least_of x.kind ] ≤ 2 ^ 40) × (elim o as (λ _. ℕ) [ None ↦ 0 | Some x ↦ most_of x.kind ] ≤ 2 ^ 40)
action_small p i None formed is = (omega arith, omega arith)
action_small p i (Some a) formed is =
    let good : is_action (length p.facts) (length p.fluents) a ≡ true = member_good (is_action (length p.facts) (length p.fluents)) p.actions i a (and_parts _ _ formed.acting).1 is in
    kind_small a.kind a (and_parts _ _ (and_parts _ _ (and_parts _ _ (and_parts _ _ (and_parts _ _ (and_parts _ _ good).0).0).0).0).0).1

-- no commitment ends past 2^41
commits_small : (p : Ground) (c : List Timed) → IsWellFormed p → list_all (λ d. nat_le d.start (2 ^ 40)) c ≡ true → list_all (λ d. in_range p d.action d.length) c ≡ true → Each (λ d. d.start + d.length ≤ 2 ^ 41) c
commits_small p [] formed early ranged = tt
commits_small p (d ∷ c) formed early ranged =
    let start : d.start ≤ 2 ^ 40 = leb-true d.start (2 ^ 40) (and_parts _ _ early).0 in
    let range : (least_length p d.action ≤ d.length) × (d.length ≤ most_length p d.action) = range-from p d.action d.length (and_parts _ _ ranged).0 in
    let most : most_length p d.action ≤ 2 ^ 40 = (action_small p d.action (slice_get p.actions d.action) formed refl).1 in
    (omega arith, commits_small p c formed (and_parts _ _ early).1 (and_parts _ _ ranged).1)

pub commits-small : (p : Ground) (c : List Timed) → IsWellFormed p → AreCommits p c → All (λ d. d.start + d.length ≤ 2 ^ 41) c
commits-small p c formed h = All-from_recursion (λ d. d.start + d.length ≤ 2 ^ 41) c (commits_small p c formed h.early h.ranged)

-- rows are between variables, and small
rise_ends : (n m : ℕ) → (0 < m → m < n) → Each (HasEnds n) (rise_rows m)
rise_ends n zero h = tt
rise_ends n (suc m) h = let top : suc m < n = h (omega arith) in (record { y = omega arith; x = omega arith }, rise_ends n m (λ s. omega arith))

rise_small : (m : ℕ) → Each IsSmallRow (rise_rows m)
rise_small zero = tt
rise_small (suc m) = (record { least = omega (arith, ints); most = omega (arith, ints) }, rise_small m)

late_ends : (n g e : ℕ) (o : Option ℕ) → g - 1 < n → e < n → Each (HasEnds n) (late_rows g e o)
late_ends n g e None a b = (record { y = a; x = b }, tt)
late_ends n g e (Some k) a b = tt

late_small : (g e : ℕ) (o : Option ℕ) → Each IsSmallRow (late_rows g e o)
late_small g e None = (record { least = omega (arith, ints); most = omega (arith, ints) }, tt)
late_small g e (Some k) = tt

row_small : (n : ℕ) → n ≤ 2 ^ 40 → (negsuc (2 ^ 41 - 1) ≤ℤ (pos 0 -ℤ pos n)) × ((pos 0 -ℤ pos n) ≤ℤ pos (2 ^ 41)) × (negsuc (2 ^ 41 - 1) ≤ℤ pos n) × (pos n ≤ℤ pos (2 ^ 41))
row_small n le = (omega (arith, ints), omega (arith, ints), omega (arith, ints), omega (arith, ints))

word_ends : (p : Ground) (w : List Mark) → HasActsInGroups p w → Each (HasEnds (variables p w)) (word_rows p w)
word_ends p w formed =
    each-append (HasEnds (variables p w)) (rise_rows (groups w - 1)) (flat_map (length_rows p (groups w) (open_acts (acts_of p w))) (acts_of p w))
    (rise_ends (variables p w) (groups w - 1) (λ s. omega arith))
    (each-flat (HasEnds (variables p w)) (length_rows p (groups w) (open_acts (acts_of p w))) (acts_of p w) (λ a i.
    let e : end_of (groups w) (open_acts (acts_of p w)) a < variables p w = end_below (groups w) (acts_of p w) a i (formed.closes a i) in
    let o : a.opens < variables p w = omega (arith, formed.opens a i) in
    (record { y = e; x = o }, (record { y = o; x = e }, late_ends (variables p w) (groups w) (end_of (groups w) (open_acts (acts_of p w)) a) a.closes (omega (arith, formed.opens a i)) e))))

word_small : (p : Ground) (w : List Mark) → IsWellFormed p → Each IsSmallRow (word_rows p w)
word_small p w formed =
    each-append IsSmallRow (rise_rows (groups w - 1)) (flat_map (length_rows p (groups w) (open_acts (acts_of p w))) (acts_of p w))
    (rise_small (groups w - 1))
    (each-flat IsSmallRow (length_rows p (groups w) (open_acts (acts_of p w))) (acts_of p w) (λ a i.
    let s = action_small p a.action (slice_get p.actions a.action) formed refl in
    let l = row_small (least_length p a.action) s.0 in
    let m = row_small (most_length p a.action) s.1 in
    (record { least = m.2; most = m.3 }, (record { least = l.0; most = l.1 }, late_small (groups w) (end_of (groups w) (open_acts (acts_of p w)) a) a.closes))))

same_small : (n x : ℕ) → x ≤ 2 ^ 41 → AreSmall (replicate n x)
same_small n x le v = elim (cases_lt v n) [
  | inl below ↦ omega (arith, get_or-replicate n v x 0 below)
  | inr above ↦ omega (arith, get_or_past (replicate n x) v 0 (omega (arith, length-replicate n x)))
]

-- bounds are on variables
abbrev pub IsOf : ℕ → Bound → Type 0
IsOf n b = b.variable < n

by_each : (Q : Bound → Type 0) (f : Act → Option Timed → List Bound) (c : List Timed) (seen : ℕ → ℕ) (acts : List Act) → ((a : Act) (o : Option Timed) → IsIn a acts → Each Q (f a o)) → Each Q (by_acts f c seen acts)
by_each Q f c seen [] h = tt
by_each Q f c seen (a ∷ acts) h =
    each-append Q (f a (slice_get (commits_by a.action c) (seen a.action))) (by_acts f c (seen_more a.action seen) acts)
    (h a (slice_get (commits_by a.action c) (seen a.action)) (inl refl))
    (by_each Q f c (seen_more a.action seen) acts (λ b o i. h b o (inr i)))

timed_of_groups : (n : ℕ) (gs : List ℕ) (items : List TimedItem) → ((g : ℕ) → IsIn g gs → g < n) → Each (IsOf n) (timed_bounds gs items)
timed_of_groups n [] items h = tt
timed_of_groups n (g ∷ gs) [] h = tt
timed_of_groups n (g ∷ gs) (i ∷ items) h = (h g (inl refl), timed_of_groups n gs items (λ k j. h k (inr j)))

commit_of_word : (n m : ℕ) (running : List Act) (a : Act) (o : Option Timed) → a.opens < m → end_of n running a < m → Each (IsOf m) (commit_bounds n running a o)
commit_of_word n m running a None s e = tt
commit_of_word n m running a (Some c) s e = (s, (e, tt))

clock_of_word : (now m : ℕ) (a : Act) (o : Option Timed) → a.opens < m → Each (IsOf m) (clock_bounds now a o)
clock_of_word now m a None s = (s, tt)
clock_of_word now m a (Some c) s = tt

pub exact_of_word : (p : Ground) (c : List Timed) (w : List Mark) → HasActsInGroups p w → Each (IsOf (variables p w)) (word_exact p c w)
exact_of_word p c w formed =
    each-append (IsOf (variables p w)) (timed_bounds (timed_of w) p.timed) (by_acts (commit_bounds (groups w) (open_acts (acts_of p w))) c (λ a. 0) (acts_of p w))
    (timed_of_groups (variables p w) (timed_of w) p.timed (λ g i. omega (arith, formed.timed g i)))
    (by_each (IsOf (variables p w)) (commit_bounds (groups w) (open_acts (acts_of p w))) c (λ a. 0) (acts_of p w) (λ a o i. commit_of_word (groups w) (variables p w) (open_acts (acts_of p w)) a o (omega (arith, formed.opens a i)) (end_below (groups w) (acts_of p w) a i (formed.closes a i))))

pub clocks_of_word : (p : Ground) (now : ℕ) (c : List Timed) (w : List Mark) → HasActsInGroups p w → Each (IsOf (variables p w)) (by_acts (clock_bounds now) c (λ a. 0) (acts_of p w))
clocks_of_word p now c w formed = by_each (IsOf (variables p w)) (clock_bounds now) c (λ a. 0) (acts_of p w) (λ a o i. clock_of_word now (variables p w) a o (omega (arith, formed.opens a i)))

next_of_word : (g m : ℕ) (o : Option TimedItem) → g < m → Each (IsOf m) (next_bounds g o)
next_of_word g m None b = tt
next_of_word g m (Some i) b = (b, tt)

pub lasts_of_word : (p : Ground) (n m k : ℕ) (waiting : List Timed) → n ≤ m → Each (IsOf m) (lasts_at p n k waiting)
lasts_of_word p zero m k waiting le = tt
lasts_of_word p (suc g) m k waiting le =
    each-append (IsOf m) (next_bounds g (slice_get p.timed k)) (map (λ d. record { variable = g; tick = d.start }) waiting)
    (next_of_word g m (slice_get p.timed k) (omega arith))
    (each-map (IsOf m) (λ d. record { variable = g; tick = d.start }) waiting (λ d i. omega arith))

pub last-same : (p : Ground) (c : List Timed) (w : List Mark) (n : ℕ) → lasts_at p n (length (timed_of w)) (awaited (acts_of p w) c) ≡ last_bounds p c w n
last-same p c w zero = refl
last-same p c w (suc g) = refl

-- what the code has when it builds the network
pub record ArePieces (p : Ground) (l : Limits) (now : ℕ) (c : List Timed) (w : List Mark) (r : WordParts) (exact clock last : List Bound) (waiting : List Timed) : Type 0 where
  pub made : ArePartsOf p w r
  pub exact_is : exact ≡ exact_of p c r.groups (map act_of r.acts.items) r.timed.items
  pub clock_is : clock ≡ by_acts (clock_bounds now) c (λ a. 0) (map act_of r.acts.items)
  pub waiting_is : waiting ≡ awaited (map act_of r.acts.items) c
  pub last_is : last ≡ lasts_at p r.groups (length r.timed.items) waiting

abbrev pub size_of : WordParts → ℕ
size_of r = r.groups + length (open_acts (map act_of r.acts.items))

size-is : (p : Ground) (w : List Mark) (r : WordParts) → ArePartsOf p w r → size_of r ≡ variables p w
size-is p w r made = λ i. made.counted i + length (open_acts (made.acting i))

exact-is : (p : Ground) (l : Limits) (now : ℕ) (c : List Timed) (w : List Mark) (r : WordParts) (exact clock last : List Bound) (waiting : List Timed) → ArePieces p l now c w r exact clock last waiting → exact ≡ word_exact p c w
exact-is p l now c w r exact clock last waiting h = h.exact_is ∙ (λ i. exact_of p c (h.made.counted i) (h.made.acting i) (h.made.timing i))

clock-is : (p : Ground) (l : Limits) (now : ℕ) (c : List Timed) (w : List Mark) (r : WordParts) (exact clock last : List Bound) (waiting : List Timed) → ArePieces p l now c w r exact clock last waiting → clock ≡ by_acts (clock_bounds now) c (λ a. 0) (acts_of p w)
clock-is p l now c w r exact clock last waiting h = h.clock_is ∙ ap (by_acts (clock_bounds now) c (λ a. 0)) h.made.acting

waiting-is : (p : Ground) (l : Limits) (now : ℕ) (c : List Timed) (w : List Mark) (r : WordParts) (exact clock last : List Bound) (waiting : List Timed) → ArePieces p l now c w r exact clock last waiting → waiting ≡ awaited (acts_of p w) c
waiting-is p l now c w r exact clock last waiting h = h.waiting_is ∙ ap (λ (xs : List Act). awaited xs c) h.made.acting

last-is : (p : Ground) (l : Limits) (now : ℕ) (c : List Timed) (w : List Mark) (r : WordParts) (exact clock last : List Bound) (waiting : List Timed) → ArePieces p l now c w r exact clock last waiting → last ≡ last_bounds p c w (groups w)
last-is p l now c w r exact clock last waiting h =
    let known : waiting ≡ awaited (acts_of p w) c = waiting-is p l now c w r exact clock last waiting h in
    h.last_is ∙ (λ i. lasts_at p (h.made.counted i) (length (h.made.timing i)) (known i)) ∙ last-same p c w (groups w)

inside_of : (m n : ℕ) (bs cs : List Bound) → m ≡ n → bs ≡ cs → Each (IsOf n) cs → All (IsOf m) bs
inside_of m n bs cs e f h = subst (λ (k : ℕ). All (IsOf k) bs) (sym e) (subst (λ (ds : List Bound). All (IsOf n) ds) (sym f) (All-from_recursion (IsOf n) cs h))

pub exact-inside : (p : Ground) (l : Limits) (now : ℕ) (c : List Timed) (w : List Mark) (r : WordParts) (exact clock last : List Bound) (waiting : List Timed) → ArePieces p l now c w r exact clock last waiting → HasActsInGroups p w → All (IsOf (size_of r)) exact
exact-inside p l now c w r exact clock last waiting h formed = inside_of (size_of r) (variables p w) exact (word_exact p c w) (size-is p w r h.made) (exact-is p l now c w r exact clock last waiting h) (exact_of_word p c w formed)

pub clock-inside : (p : Ground) (l : Limits) (now : ℕ) (c : List Timed) (w : List Mark) (r : WordParts) (exact clock last : List Bound) (waiting : List Timed) → ArePieces p l now c w r exact clock last waiting → HasActsInGroups p w → All (IsOf (size_of r)) clock
clock-inside p l now c w r exact clock last waiting h formed = inside_of (size_of r) (variables p w) clock (by_acts (clock_bounds now) c (λ a. 0) (acts_of p w)) (size-is p w r h.made) (clock-is p l now c w r exact clock last waiting h) (clocks_of_word p now c w formed)

pub last-inside : (p : Ground) (l : Limits) (now : ℕ) (c : List Timed) (w : List Mark) (r : WordParts) (exact clock last : List Bound) (waiting : List Timed) → ArePieces p l now c w r exact clock last waiting → All (IsOf (size_of r)) last
last-inside p l now c w r exact clock last waiting h = inside_of (size_of r) (size_of r) last (lasts_at p r.groups (length r.timed.items) waiting) refl h.last_is (lasts_of_word p r.groups (size_of r) (length r.timed.items) waiting (omega arith))

-- bounds and rows as the code builds them
pub record IsBuilt (p : Ground) (l : Limits) (r : WordParts) (exact clock last : List Bound) (net : Net) : Type 0 where
  pub low : net.low.items ≡ raised (raised (replicate (size_of r) 0) exact) clock
  pub high : net.high.items ≡ lowered (lowered (replicate (size_of r) l.horizon) exact) last
  pub rows : net.rows.items ≡ rise_rows (r.groups - 1) ++ flat_map (length_rows p r.groups (open_acts (map act_of r.acts.items))) (map act_of r.acts.items)

proper_of : (p : Ground) (l : Limits) (now : ℕ) (c : List Timed) (w : List Mark) (net : Net) → HasActsInGroups p w → IsWellFormed p → l.horizon ≤ 2 ^ 40
    → net.low.items ≡ raised (raised (replicate (variables p w) 0) (word_exact p c w)) (by_acts (clock_bounds now) c (λ a. 0) (acts_of p w))
    → net.high.items ≡ lowered (lowered (replicate (variables p w) l.horizon) (word_exact p c w)) (last_bounds p c w (groups w))
    → net.rows.items ≡ word_rows p w → IsNet net
proper_of p l now c w net formed good small low high rows =
    let n : ℕ = variables p w in
    let exact : List Bound = word_exact p c w in
    let clock : List Bound = by_acts (clock_bounds now) c (λ a. 0) (acts_of p w) in
    let last : List Bound = last_bounds p c w (groups w) in
    let zeros : List ℕ = replicate n 0 in
    let tops : List ℕ = replicate n l.horizon in
    let in_exact : Each (IsOf n) exact = exact_of_word p c w formed in
    let in_clock : Each (IsOf n) clock = clocks_of_word p now c w formed in
    let in_last : Each (IsOf n) last = subst (λ (bs : List Bound). Each (IsOf n) bs) (last-same p c w (groups w)) (lasts_of_word p (groups w) n (length (timed_of w)) (awaited (acts_of p w) c) (omega arith)) in
    let once : length (raised zeros exact) ≡ n = length-raised zeros exact ∙ length-replicate n 0 in
    let cut : length (lowered tops exact) ≡ n = length-lowered tops exact ∙ length-replicate n l.horizon in
    let count : length net.low.items ≡ n = ap length low ∙ length-raised (raised zeros exact) clock ∙ once in
    record {
      bounds = ap length high ∙ length-lowered (lowered tops exact) last ∙ cut ∙ sym count;
      low_small = subst AreSmall (sym low) (raised-small n (raised zeros exact) clock once in_clock (raised-small n zeros exact (length-replicate n 0) in_exact (same_small n 0 (omega arith))));
      high_small = subst AreSmall (sym high) (lowered-small n (lowered tops exact) last cut in_last (lowered-small n tops exact (length-replicate n l.horizon) in_exact (same_small n l.horizon (omega arith))));
      ends = subst (λ (k : ℕ). All (HasEnds k) net.rows.items) (sym count) (subst (λ (rs : List Row). All (HasEnds n) rs) (sym rows) (All-from_recursion (HasEnds n) (word_rows p w) (word_ends p w formed)));
      weights = subst (λ (rs : List Row). All IsSmallRow rs) (sym rows) (All-from_recursion IsSmallRow (word_rows p w) (word_small p w good));
    }

pub net-made : (p : Ground) (l : Limits) (now : ℕ) (c : List Timed) (w : List Mark) (n : WordNet) (exact clock last : List Bound) (waiting : List Timed) → ArePieces p l now c w n.parts exact clock last waiting → IsBuilt p l n.parts exact clock last n.net → HasActsInGroups p w → IsWellFormed p → l.horizon ≤ 2 ^ 40
    → length n.parts.acts.items + length waiting ≤ l.actions → (0 < n.parts.groups → IfSome (slice_get p.timed (length n.parts.timed.items)) (λ i. 0 < i.tick)) → IsNetOf p l now c w n
net-made p l now c w n exact clock last waiting h b formed good small few next =
    let r : WordParts = n.parts in
    let size : size_of r ≡ variables p w = size-is p w r h.made in
    let e : exact ≡ word_exact p c w = exact-is p l now c w r exact clock last waiting h in
    let k : clock ≡ by_acts (clock_bounds now) c (λ a. 0) (acts_of p w) = clock-is p l now c w r exact clock last waiting h in
    let z : last ≡ last_bounds p c w (groups w) = last-is p l now c w r exact clock last waiting h in
    let u : waiting ≡ awaited (acts_of p w) c = waiting-is p l now c w r exact clock last waiting h in
    let low : n.net.low.items ≡ raised (raised (replicate (variables p w) 0) (word_exact p c w)) (by_acts (clock_bounds now) c (λ a. 0) (acts_of p w)) = b.low ∙ (λ i. raised (raised (replicate (size i) 0) (e i)) (k i)) in
    let high : n.net.high.items ≡ lowered (lowered (replicate (variables p w) l.horizon) (word_exact p c w)) (last_bounds p c w (groups w)) = b.high ∙ (λ i. lowered (lowered (replicate (size i) l.horizon) (e i)) (z i)) in
    let rows : n.net.rows.items ≡ word_rows p w = b.rows ∙ (λ i. rise_rows (h.made.counted i - 1) ++ flat_map (length_rows p (h.made.counted i) (open_acts (h.made.acting i))) (h.made.acting i)) in
    let acts : length n.parts.acts.items ≡ length (acts_of p w) = sym (length-map n.parts.acts.items act_of) ∙ ap length h.made.acting in
    record {
      made = h.made;
      room = record {
        few = omega (arith, few, acts, ap length u);
        next = λ s. subst (λ (m : ℕ). IfSome (slice_get p.timed m) (λ i. 0 < i.tick)) (ap length h.made.timing) (next (omega (arith, h.made.counted)));
      };
      low = low;
      high = high;
      rows = rows;
      proper = proper_of p l now c w n.net formed good small low high rows;
    }

-- a schedule leaves room
pub no-room : (p : Ground) (l : Limits) (now : ℕ) (c : List Timed) (w : List Mark) (n k : ℕ) (b : Bool) (x : Schedule) → ((0 < n → IfSome (slice_get p.timed k) (λ i. 0 < i.tick)) → IsTrue b) → b ≡ false → n ≡ groups w → k ≡ length (timed_of w) → IsSchedule p l now c w x → ⊥
no-room p l now c w n k b x told is en ek s =
    let at : 0 < groups w → IfSome (slice_get p.timed (length (timed_of w))) (λ i. 0 < i.tick) = λ h. next-some (x.tick 0) (slice_get p.timed (length (timed_of w))) (s.before_next 0 h) in
    let yes : b ≡ true = told (λ h. subst (λ (m : ℕ). IfSome (slice_get p.timed m) (λ i. 0 < i.tick)) (sym ek) (at (omega (arith, en, h)))) in
    false≢true (sym is ∙ yes)
