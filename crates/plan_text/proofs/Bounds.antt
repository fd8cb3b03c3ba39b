-- What is read is bounded.
use Rattle.std.proofs.Common.{◌≡◌, ℕ, zero, suc, ◌+◌, ◌*◌, ◌/◌, ◌%◌, ◌^◌, ◌<◌, ◌≤◌, ℤ, pos, negsuc, neg_ℤ, Bool, true, false, cond, ◌&&◌, nat_lt, nat_eq, List, [], ◌∷◌, ◌++◌, length, drop, Option, Some, None, Result, Ok, Err, IfOk, IsTrue, refl, ap, sym, subst, arith}
use Rattle.std.specs.List.{list_all, slice_split}
use Rattle.std.specs.List.Sorted.{IsPermutation}
use Rattle.std.proofs.lemmas.Bool.{and_from, and_parts}
use Rattle.std.proofs.lemmas.Bool.Decides.{nat_tests}
use Rattle.std.proofs.lemmas.List.Sums.{length-filter, count_by-le-length, AllPass-from_list_all, list_all-from_AllPass}
use Rattle.std.proofs.lemmas.List.Splits.{length-slice_split}
use Rattle.std.proofs.lemmas.List.Sorted.{All-permutation, length_permutation}
use Rattle.pddl_tokens.specs.Numbers.{Numeral, in_range, product_if, number_of, numeral_of, decimal}
use Rattle.pddl_tokens.specs.declared.numbers.NumberFault.{NumberFault}
use Rattle.pddl_tokens.specs.declared.numbers.NumberFault.TheVariants.{NotNumber, NotWhole as not_whole, TooLarge as too_large}
use Rattle.tp_spec.specs.Lists.{each_next}
use Rattle.tp_spec.specs.Courses.{act_before}
use Rattle.tp_spec.specs.declared.plan.Plan.{Plan}
use Rattle.tp_spec.specs.declared.plan.Timed.{Timed}
use Rattle.tp_spec.specs.declared.problem.Problem.{Problem}
use Rattle.plan_text.specs.declared.amount.Amount.{Amount}
use Rattle.plan_text.specs.declared.amount.Amount.TheVariants.{Ticks, Parted, Far}
use Rattle.plan_text.specs.declared.fault.Fault.{Fault}
use Rattle.plan_text.specs.declared.fault.Fault.TheVariants.{Shape, TooLarge}
use Rattle.plan_text.specs.declared.fault.PlanFault.{PlanFault}
use Rattle.plan_text.specs.Pieces.{is_mark, spaced, plain}
use Rattle.plan_text.specs.Acts.{Parts, has_minus, amount_from, amount_of, action_of, lasting, timed, act_from, act_of, parts_of}
use Rattle.plan_text.specs.Files.{Numbered, numbered, says, kept, words, is_head, headless, without_last, endless, ends, end_line, at_number, lasts, with_act, acts_of, reach, whole, end_of, at_end, with_end, body_plan, first_remark, with_remark, written_plan, IsOrdered, IsPutInOrder, IsReading, IsBounded}

is_less : (k n : ℕ) → nat_lt k n ≡ true → k < n
is_less k n h = grind (arith, nat_tests)

-- a number of a text is below 2^63
abbrev IsShort : Result ℤ NumberFault → Type 0
IsShort (Ok (pos n)) = n < 2 ^ 63
IsShort (Ok (negsuc n)) = Unit {0}
IsShort (Err f) = Unit {0}

short_by : (minus : Bool) (n : ℕ) (b d : Bool) → nat_lt n (2 ^ 63) ≡ b → nat_eq n (2 ^ 63) ≡ d
    → IsShort (cond b (Ok (cond minus (neg_ℤ (pos n)) (pos n))) (cond (minus && d) (Ok (neg_ℤ (pos n))) (Err too_large)))
short_by false n true d e f = is_less n (2 ^ 63) e
short_by true zero true d e f = is_less 0 (2 ^ 63) e
short_by true (suc n) true d e f = tt
short_by false n false d e f = tt
short_by true zero false true e f = is_less 0 (2 ^ 63) refl
short_by true (suc n) false true e f = tt
short_by true n false false e f = tt

range_short : (minus : Bool) (n : ℕ) → IsShort (in_range minus n)
range_short minus n = short_by minus n _ _ refl refl

whole_short : (b : Bool) (r : Result ℤ NumberFault) → IsShort r → IsShort (cond b r (Err not_whole))
whole_short true r h = h
whole_short false r h = tt

product_short : (scale : ℕ) (n : Option Numeral) → IsShort (product_if scale n)
product_short scale None = tt
product_short scale (Some n) =
    let above : ℕ = decimal (n.whole ++ n.part) * scale in
    let below : ℕ = 10 ^ length n.part in
    whole_short (nat_eq (above % below) 0) (in_range n.minus (above / below)) (range_short n.minus (above / below))

-- a number of ticks is below 2^63
abbrev IsShortAmount : Result Amount Fault → Type 0
IsShortAmount (Ok (Ticks n)) = n < 2 ^ 63
IsShortAmount (Ok Parted) = Unit {0}
IsShortAmount (Ok Far) = Unit {0}
IsShortAmount (Err f) = Unit {0}

ticks_by : (b : Bool) (n : ℕ) → n < 2 ^ 63 → IsShortAmount (cond b (Err Shape) (Ok (Ticks n)))
ticks_by true n h = tt
ticks_by false n h = h

other_by : (b : Bool) (a : Amount) → IsShortAmount (Ok a) → IsShortAmount (cond b (Err Shape) (Ok a))
other_by true a h = tt
other_by false a h = h

amount_short : (minus : Bool) (r : Result ℤ NumberFault) → IsShort r → IsShortAmount (amount_from minus r)
amount_short minus (Ok (pos n)) h = ticks_by _ n h
amount_short minus (Ok (negsuc n)) h = tt
amount_short minus (Err NotNumber) h = tt
amount_short minus (Err not_whole) h = other_by minus Parted tt
amount_short minus (Err too_large) h = other_by minus Far tt

abbrev IsShortTick : Result ℕ Fault → Type 0
IsShortTick (Ok n) = n < 2 ^ 63
IsShortTick (Err f) = Unit {0}

tick_short : (a : Result Amount Fault) → IsShortAmount a → IsShortTick (whole a)
tick_short (Ok (Ticks n)) h = h
tick_short (Ok Parted) h = tt
tick_short (Ok Far) h = tt
tick_short (Err f) h = tt

end_short : (p : Problem) (text : List ℕ) → IsShortTick (end_of p text)
end_short p text =
    let numeral : List ℕ = drop 4 (words text) in
    tick_short (amount_of p.scale numeral) (amount_short (has_minus numeral) (number_of p.scale numeral) (product_short p.scale (numeral_of numeral)))

-- an act is of the problem's actions and ends below 2^63
abbrev is_known : Problem → Timed → Bool
is_known p x = nat_lt x.action (length p.actions)

abbrev IsKnownAct : Problem → Result Timed Fault → Type 0
IsKnownAct p (Ok x) = (is_known p x ≡ true) × (lasts x ≡ true)
IsKnownAct p (Err f) = Unit {0}

abbrev IsIndex : Problem → Option ℕ → Type 0
IsIndex p None = Unit {0}
IsIndex p (Some a) = nat_lt a (length p.actions) ≡ true

index_by : (p : Problem) (k : ℕ) (b : Bool) → nat_lt k (length p.actions) ≡ b → IsIndex p (cond b (Some k) None)
index_by p k true e = e
index_by p k false e = tt

found_index : (p : Problem) (name : List ℕ) → IsIndex p (action_of p name)
found_index p name = index_by p _ _ refl

lasts_by : (p : Problem) (x : Timed) (b : Bool) → is_known p x ≡ true → lasts x ≡ b → IsKnownAct p (cond b (Ok x) (Err TooLarge))
lasts_by p x true k e = (k, e)
lasts_by p x false k e = tt

act_lasting : (p : Problem) (a : ℕ) (start length : Amount) → IsIndex p (Some a) → IsKnownAct p (lasting a start length)
act_lasting p a (Ticks s) (Ticks l) h = lasts_by p (record { action = a; start = s; length = l }) _ h refl
act_lasting p a (Ticks s) Parted h = tt
act_lasting p a (Ticks s) Far h = tt
act_lasting p a Parted l h = tt
act_lasting p a Far (Ticks l) h = tt
act_lasting p a Far Parted h = tt
act_lasting p a Far Far h = tt

act_timed : (p : Problem) (a : Option ℕ) (start length : Result Amount Fault) → IsIndex p a → IsKnownAct p (timed a start length)
act_timed p None (Ok s) (Ok l) h = tt
act_timed p (Some a) (Ok s) (Ok l) h = act_lasting p a s l h
act_timed p a (Ok s) (Err f) h = tt
act_timed p a (Err f) l h = tt

parts_known : (p : Problem) (x : Option Parts) → IsKnownAct p (act_from p x)
parts_known p None = tt
parts_known p (Some x) = act_timed p (action_of p (spaced x.name)) _ _ (found_index p (spaced x.name))

act_by : (p : Problem) (b : Bool) (r : Result Timed Fault) → IsKnownAct p r → IsKnownAct p (cond b r (Err Shape))
act_by p true r h = h
act_by p false r h = tt

act_known : (p : Problem) (line : List ℕ) → IsKnownAct p (act_of p line)
act_known p line = act_by p _ _ (parts_known p (parts_of (plain line)))

-- so many acts of the problem's actions, each of which ends below 2^63
pub record AreKnown (p : Problem) (n : ℕ) (acts : List Timed) : Type 0 where
  pub known : list_all (is_known p) acts ≡ true
  pub short : list_all lasts acts ≡ true
  pub count : length acts ≡ n

abbrev AreKnownActs : Problem → ℕ → Result (List Timed) PlanFault → Type 0
AreKnownActs p n (Ok acts) = AreKnown p n acts
AreKnownActs p n (Err f) = Unit {0}

one_known : (p : Problem) (n number : ℕ) (x : Result Timed Fault) (acts : Result (List Timed) PlanFault)
    → IsKnownAct p x → AreKnownActs p n acts → AreKnownActs p (suc n) (with_act (at_number number x) acts)
one_known p n number (Ok x) (Ok acts) h k = record { known = and_from _ _ h.0 k.known; short = and_from _ _ h.1 k.short; count = ap suc k.count }
one_known p n number (Ok x) (Err f) h k = tt
one_known p n number (Err f) acts h k = tt

acts_known : (p : Problem) (lines : List Numbered) → AreKnownActs p (length lines) (acts_of p lines)
acts_known p [] = record { known = refl; short = refl; count = refl }
acts_known p (x ∷ rest) = one_known p (length rest) x.number (act_of p x.text) (acts_of p rest) (act_known p x.text) (acts_known p rest)

reach_short : (acts : List Timed) → list_all lasts acts ≡ true → reach acts < 2 ^ 63
reach_short [] h = is_less 0 (2 ^ 63) refl
reach_short (x ∷ acts) h =
    let w = and_parts (lasts x) (list_all lasts acts) h in
    let first = is_less (x.start + x.length) (2 ^ 63) w.0 in
    let others = reach_short acts w.1 in
    omega arith

pub record IsKnownPlan (p : Problem) (n : ℕ) (plan : Plan) : Type 0 where
  pub acts : AreKnown p n plan.acts
  pub end : plan.end < 2 ^ 63

abbrev IsKnownAnswer : Problem → ℕ → Result Plan PlanFault → Type 0
IsKnownAnswer p n (Ok plan) = IsKnownPlan p n plan
IsKnownAnswer p n (Err f) = Unit {0}

ended : (p : Problem) (n number : ℕ) (acts : List Timed) (end : Result ℕ Fault) → AreKnown p n acts → IsShortTick end → IsKnownAnswer p n (at_end acts number end)
ended p n number acts (Ok end) h k = record { acts = h; end = k }
ended p n number acts (Err f) h k = tt

whole_known : (p : Problem) (n : ℕ) (last : Option Numbered) (acts : Result (List Timed) PlanFault) → AreKnownActs p n acts → IsKnownAnswer p n (with_end p last acts)
whole_known p n last (Err f) h = tt
whole_known p n None (Ok acts) h = record { acts = h; end = reach_short acts h.short }
whole_known p n (Some x) (Ok acts) h = ended p n x.number acts (end_of p x.text) h (end_short p x.text)

-- the lines are no more than those of the text
front_less : (test : Numbered → Bool) (ls : List Numbered) → length (without_last test ls) ≤ length ls
front_less test [] = omega arith
front_less test (x ∷ []) = by_test (test x) where
  by_test : (b : Bool) → length (cond b [] (x ∷ [])) ≤ 1
  by_test true = omega arith
  by_test false = omega arith
front_less test (x ∷ y ∷ rest) = let ih = front_less test (y ∷ rest) in omega arith

behind_less : (ls : List Numbered) → length (headless ls) ≤ length ls
behind_less [] = omega arith
behind_less (x ∷ rest) = by_test (is_head x.text) where
  by_test : (b : Bool) → length (cond b rest (x ∷ rest)) ≤ suc (length rest)
  by_test true = omega arith
  by_test false = omega arith

as_many : (n : ℕ) (ls : List (List ℕ)) → length (numbered n ls) ≡ length ls
as_many n [] = refl
as_many n (l ∷ ls) = ap suc (as_many (n + 1) ls)

lines_few : (text : List ℕ) → length (kept text) ≤ length text + 1
lines_few text =
    let lines = slice_split (is_mark 10) text in
    let said = length-filter says (numbered 1 lines) in
    let less = count_by-le-length says (numbered 1 lines) in
    let same = as_many 1 lines in
    let feeds = length-slice_split (is_mark 10) text in
    let few = count_by-le-length (is_mark 10) text in
    omega arith

body_few : (text : List ℕ) → length (endless (headless (kept text))) ≤ length text + 1
body_few text =
    let a = front_less ends (headless (kept text)) in
    let b = behind_less (kept text) in
    let c = lines_few text in
    omega arith

moved : (test : Timed → Bool) (xs ys : List Timed) → IsPermutation xs ys → list_all test xs ≡ true → list_all test ys ≡ true
moved test xs ys put h = list_all-from_AllPass test ys (All-permutation (λ x. test x ≡ true) xs ys put (AllPass-from_list_all test xs h))

pub bounded_plan : (p : Problem) (text : List ℕ) (n : ℕ) (written plan : Plan) → n ≤ length text + 1 → IsKnownPlan p n written → IsPutInOrder written plan → IsBounded p text plan
bounded_plan p text n written plan few h put =
    let same = length_permutation written.acts plan.acts put.acts in
    let count = h.acts.count in
    let end = h.end in
    record {
      in_order = put.in_order;
      known = moved (is_known p) written.acts plan.acts put.acts h.acts.known;
      short = moved lasts written.acts plan.acts put.acts h.acts.short;
      end = subst (λ (e : ℕ). e < 2 ^ 63) (sym put.end) h.end;
      few = omega arith;
    }

by_written : (p : Problem) (text : List ℕ) (n : ℕ) (w : Result Plan PlanFault) (plan : Plan) → n ≤ length text + 1 → IsKnownAnswer p n w → IsOrdered w plan → IsBounded p text plan
by_written p text n (Ok written) plan few h put = bounded_plan p text n written plan few h put
by_written p text n (Err f) plan few h put = absurd put

remark_known : (p : Problem) (n : ℕ) (number : Option ℕ) (read : Result Plan PlanFault) → IsKnownAnswer p n read → IsKnownAnswer p n (with_remark number read)
remark_known p n None read h = h
remark_known p n (Some k) (Ok plan) h = tt
remark_known p n (Some k) (Err f) h = tt

pub bounded : (p : Problem) (text : List ℕ) (r : Result Plan PlanFault) → IsReading p text r → IfOk r (IsBounded p text)
bounded p text (Ok plan) h =
    by_written p text (length (endless (headless (kept text)))) (written_plan p text) plan (body_few text)
    (remark_known p _ (first_remark text) (body_plan p (headless (kept text))) (whole_known p _ (end_line (headless (kept text))) _ (acts_known p (endless (headless (kept text)))))) h
bounded p text (Err f) h = tt

-- the same from the steps of the reader
pub bounded_read : (p : Problem) (text : List ℕ) (acts sorted listed : List Timed) (end : ℕ)
    → written_plan p text ≡ Ok (record { acts = acts; end = end })
    → IsPermutation acts sorted → IsTrue (each_next act_before sorted) → listed ≡ sorted
    → IsBounded p text (record { acts = listed; end = end })
bounded_read p text acts sorted listed end written put in_order same =
    let plan : Plan = record { acts = listed; end = end } in
    let ordered : IsPutInOrder (record { acts = acts; end = end }) plan = record {
      acts = subst (IsPermutation acts) (sym same) put;
      in_order = subst (λ (xs : List Timed). IsTrue (each_next act_before xs)) (sym same) in_order;
      end = refl;
    } in
    bounded p text (Ok plan) (subst (λ (w : Result Plan PlanFault). IsOrdered w plan) (sym written) ordered)
