-- A plan file: lines of acts, before them maybe a line `plan`, and behind them maybe a line `end
-- NUMERAL`.
use Rattle.std.specs.Prelude.{◌≡◌, ℕ, ◌+◌, ◌^◌, ◌<◌, ◌≤◌, Bool, not, ◌&&◌, nat_lt, max, IsTrue, if◌then◌else◌, List, [], ◌∷◌, ◌++◌, ◌==◌, length, drop, bytes_eq, codes, Option, Some, None, Result, Ok, Err}
use Rattle.std.specs.List.{list_all, filter, slice_split, starts_with}
use Rattle.std.specs.List.Sorted.{IsPermutation}
use Rattle.std.specs.Str.{is_utf8}
use Rattle.pddl_tokens.specs.Tokens.{is_blank}
use Rattle.tp_spec.specs.Lists.{each_next}
use Rattle.tp_spec.specs.Courses.{act_before}
use Rattle.tp_spec.specs.declared.plan.Plan.{Plan}
use Rattle.tp_spec.specs.declared.plan.Timed.{Timed}
use Rattle.tp_spec.specs.declared.problem.Problem.{Problem}
use Rattle.plan_text.specs.declared.fault.Fault.{Fault}
use Rattle.plan_text.specs.declared.fault.Fault.TheVariants.{Shape, UnknownAction, NotWhole, TooLarge, NoMemory}
use Rattle.plan_text.specs.declared.fault.PlanFault.{PlanFault}
use Rattle.plan_text.specs.declared.fault.PlanFault.TheVariants as faults
use Rattle.plan_text.specs.declared.amount.Amount.{Amount}
use Rattle.plan_text.specs.declared.amount.Amount.TheVariants.{Ticks, Parted, Far}
use Rattle.plan_text.specs.declared.read.Line.{Line}
use Rattle.plan_text.specs.Pieces.{is_mark, spaced, uncommented, plain}
use Rattle.plan_text.specs.Acts.{amount_of, act_of}

-- a line with its number, from 1
pub record Numbered : Type 0 where
  pub number : ℕ
  pub text : List ℕ

-- a line as the code keeps it
abbrev pub seen : Line → Numbered
seen x = record { number = x.number; text = x.text.now }

abbrev pub numbered : ℕ → List (List ℕ) → List Numbered
numbered n [] = []
numbered n (text ∷ rest) = record { number = n; text = text } ∷ numbered (n + 1) rest

-- a line of which nothing but white space is left without its comment
abbrev pub is_skipped : List ℕ → Bool
is_skipped text = list_all is_blank (uncommented text)

-- a comment alone that is not UTF-8
abbrev pub is_remark : List ℕ → Bool
is_remark text = not (is_utf8 text) && is_skipped text

-- the number of the first such line, where the first line has the number n
abbrev pub remark : ℕ → List (List ℕ) → Option ℕ
remark n [] = None
remark n (text ∷ rest) = if is_remark text then Some n else remark (n + 1) rest

abbrev pub first_remark : List ℕ → Option ℕ
first_remark text = remark 1 (slice_split (is_mark 10) text)

abbrev pub says : Numbered → Bool
says x = not (is_skipped x.text)

-- the lines that say something
abbrev pub kept : List ℕ → List Numbered
kept text = filter says (numbered 1 (slice_split (is_mark 10) text))

-- the words of a line in lower case, without its comment
abbrev pub words : List ℕ → List ℕ
words text = spaced (plain text)

abbrev pub is_head : List ℕ → Bool
is_head text = is_utf8 text && bytes_eq (words text) (codes "plan")

abbrev pub is_end : List ℕ → Bool
is_end text = is_utf8 text && starts_with (λ a b. a == b) (words text) (codes "end ")

-- lines without a first one that is `plan`
abbrev pub headless : List Numbered → List Numbered
headless [] = []
headless (x ∷ rest) = if is_head x.text then rest else x ∷ rest

abbrev pub without_last : (Numbered → Bool) → List Numbered → List Numbered
without_last test [] = []
without_last test (x ∷ []) = if test x then [] else x ∷ []
without_last test (x ∷ y ∷ rest) = x ∷ without_last test (y ∷ rest)

abbrev pub last_if : (Numbered → Bool) → List Numbered → Option Numbered
last_if test [] = None
last_if test (x ∷ []) = if test x then Some x else None
last_if test (x ∷ y ∷ rest) = last_if test (y ∷ rest)

abbrev pub ends : Numbered → Bool
ends x = is_end x.text

-- lines without a last one that is `end ..`, and that one
abbrev pub endless : List Numbered → List Numbered
endless lines = without_last ends lines

abbrev pub end_line : List Numbered → Option Numbered
end_line lines = last_if ends lines

-- a fault of a line
abbrev pub at_line : ℕ → Fault → PlanFault
at_line n Shape = faults.Shape n
at_line n UnknownAction = faults.UnknownAction n
at_line n NotWhole = faults.NotWhole n
at_line n TooLarge = faults.TooLarge n
at_line n NoMemory = faults.NoMemory

-- acts before others
abbrev pub after_acts : List Timed → Result (List Timed) PlanFault → Result (List Timed) PlanFault
after_acts acts (Ok more) = Ok (acts ++ more)
after_acts acts (Err fault) = Err fault

abbrev pub one_more : Timed → Result (List Timed) PlanFault → Result (List Timed) PlanFault
one_more act (Ok acts) = Ok (act ∷ acts)
one_more act (Err fault) = Err fault

abbrev pub at_number : ℕ → Result Timed Fault → Result Timed PlanFault
at_number n (Ok act) = Ok act
at_number n (Err fault) = Err (at_line n fault)

-- whether an act ends below 2^63
abbrev pub lasts : Timed → Bool
lasts x = nat_lt (x.start + x.length) (2 ^ 63)

abbrev pub with_act : Result Timed PlanFault → Result (List Timed) PlanFault
    → Result (List Timed) PlanFault
with_act (Ok act) acts = one_more act acts
with_act (Err fault) acts = Err fault

-- the acts of lines, in the order in which they stand, or the first fault
abbrev pub acts_of : Problem → List Numbered → Result (List Timed) PlanFault
acts_of p [] = Ok []
acts_of p (x ∷ rest) = with_act (at_number x.number (act_of p x.text)) (acts_of p rest)

-- the greatest start and length together
abbrev pub reach : List Timed → ℕ
reach [] = 0
reach (x ∷ rest) = max (x.start + x.length) (reach rest)

abbrev pub whole : Result Amount Fault → Result ℕ Fault
whole (Ok (Ticks n)) = Ok n
whole (Ok Parted) = Err NotWhole
whole (Ok Far) = Err TooLarge
whole (Err fault) = Err fault

-- the tick that a line `end NUMERAL` says
abbrev pub end_of : Problem → List ℕ → Result ℕ Fault
end_of p text = whole (amount_of p.scale (drop 4 (words text)))

abbrev pub at_end : List Timed → ℕ → Result ℕ Fault → Result Plan PlanFault
at_end acts n (Ok end) = Ok (record { acts = acts; end = end })
at_end acts n (Err fault) = Err (at_line n fault)

abbrev pub with_end : Problem → Option Numbered → Result (List Timed) PlanFault
    → Result Plan PlanFault
with_end p x (Err fault) = Err fault
with_end p None (Ok acts) = Ok (record { acts = acts; end = reach acts })
with_end p (Some x) (Ok acts) = at_end acts x.number (end_of p x.text)

abbrev pub body_plan : Problem → List Numbered → Result Plan PlanFault
body_plan p body = with_end p (end_line body) (acts_of p (endless body))

-- of a fault and of `Shape` at line n, the one whose line comes first
abbrev pub sooner : ℕ → PlanFault → PlanFault
sooner n (faults.Shape k) = if nat_lt k n then faults.Shape k else faults.Shape n
sooner n (faults.UnknownAction k) = if nat_lt k n then faults.UnknownAction k else faults.Shape n
sooner n (faults.NotWhole k) = if nat_lt k n then faults.NotWhole k else faults.Shape n
sooner n (faults.TooLarge k) = if nat_lt k n then faults.TooLarge k else faults.Shape n
sooner n faults.NoMemory = faults.NoMemory

-- a comment that is not UTF-8 is a fault at its line, also behind the line `end ..`
abbrev pub with_remark : Option ℕ → Result Plan PlanFault → Result Plan PlanFault
with_remark None read = read
with_remark (Some n) (Ok plan) = Err (faults.Shape n)
with_remark (Some n) (Err fault) = Err (sooner n fault)

-- the plan that a text says, its acts as they stand there, or the fault of the first line that has
-- one
abbrev pub written_plan : Problem → List ℕ → Result Plan PlanFault
written_plan p text = with_remark (first_remark text) (body_plan p (headless (kept text)))

-- a plan is another one with its acts in order
pub record IsPutInOrder (written plan : Plan) : Type 0 where
  pub acts : IsPermutation written.acts plan.acts
  pub in_order : IsTrue (each_next act_before plan.acts)
  pub end : plan.end ≡ written.end

abbrev pub IsOrdered : Result Plan PlanFault → Plan → Type 0
IsOrdered (Ok written) plan = IsPutInOrder written plan
IsOrdered (Err fault) plan = ⊥

-- a fault that is this answer's; want of memory is free
abbrev pub IsFaultOf : {A : Type 0} → Result A PlanFault → PlanFault → Type 0
IsFaultOf answer faults.NoMemory = Unit {0}
IsFaultOf answer fault = answer ≡ Err fault

-- What is read of a text: its plan with the acts in order, or its first fault; or memory was
-- refused.
abbrev pub IsReading : Problem → List ℕ → Result Plan PlanFault → Type 0
IsReading p text (Ok plan) = IsOrdered (written_plan p text) plan
IsReading p text (Err fault) = IsFaultOf (written_plan p text) fault

-- What is known of each plan that is read of a text: its acts are in order, of the problem's
-- actions, and end below 2^63, as the plan does; and they are no more than the text can have lines.
pub record IsBounded (p : Problem) (text : List ℕ) (plan : Plan) : Type 0 where
  pub in_order : IsTrue (each_next act_before plan.acts)
  pub known : IsTrue (list_all (λ x. nat_lt x.action (length p.actions)) plan.acts)
  pub short : IsTrue (list_all lasts plan.acts)
  pub end : plan.end < 2 ^ 63
  pub few : length plan.acts ≤ length text + 1
