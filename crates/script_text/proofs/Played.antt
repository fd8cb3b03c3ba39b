-- A text that is a script says lines that may be played.
use Rattle.std.proofs.Common.{◌≡◌, ℕ, ◌+◌, ◌-◌, Bool, true, false, not, nat_le, List, [], ◌∷◌, ◌++◌, Option, Some, None, ◌⊎◌, inl, inr, refl, ap, sym, subst, ◌∙◌, arith}
use Rattle.std.specs.Prelude.{Result, Ok, Err, IfOk, ◌==◌, ◌&&◌, ◌||◌, if◌then◌else◌}
use Rattle.std.specs.List.{list_all, filter}
use Rattle.std.proofs.lemmas.Bool.{and_parts}
use Rattle.std.proofs.lemmas.Bool.Decides.{nat_tests}
use Rattle.tp_spec.specs.Lists.{is_empty}
use Rattle.script_text.specs.declared.script.ScriptLine.{ScriptLine}
use Rattle.script_text.specs.declared.script.Verb.{Verb}
use Rattle.script_text.specs.declared.script.Verb.TheVariants.{Take, Merge, Look}
use Rattle.script_text.specs.declared.script.ScriptFault.{ScriptFault}
use Rattle.script_text.specs.declared.script.ScriptFault.TheVariants.{Line, Holding, Idle}
use Rattle.script_text.specs.Scripts.{least_actor, actor_of, with_actor, verb_of, with_verb, reading_of, with_reading, with_words, words, three, line_of, is_holder, turn, before, with_turn, with_line, lines_from, pieces, IsScript}
use Rattle.script_text.specs.Playable.{may_come, nobody, holds_behind, are_in_turn, has_actor, IsPlayable}

-- ---- actors

in_range : (least c actor : ℕ) → nat_le (48 + least) c ≡ true → nat_le c 56 ≡ true → c - 48 ≡ actor → (nat_le least actor && nat_le actor 8) ≡ true
in_range least c actor low high is = grind (arith, nat_tests)

actor_is : (verb : Verb) (word : List ℕ) (actor : ℕ) → actor_of verb word ≡ Some actor → (nat_le (least_actor verb) actor && nat_le actor 8) ≡ true
actor_is verb [] actor h = absurd (cc)
actor_is verb (c ∷ rest) actor h = by_test (is_empty rest && nat_le (48 + least_actor verb) c && nat_le c 56) refl h where
  by_test : (b : Bool) → (is_empty rest && nat_le (48 + least_actor verb) c && nat_le c 56) ≡ b → (if b then Some (c - 48) else None) ≡ Some actor → (nat_le (least_actor verb) actor && nat_le actor 8) ≡ true
  by_test false e is = absurd (cc)
  by_test true e is =
      let w = and_parts (is_empty rest && nat_le (48 + least_actor verb) c) (nat_le c 56) e in
      let v = and_parts (is_empty rest) (nat_le (48 + least_actor verb) c) w.0 in
      let same : c - 48 ≡ actor = cc in
      in_range (least_actor verb) c actor v.1 w.1 same

some_is : (x y : ScriptLine) → Some x ≡ Some y → x ≡ y
some_is x y e = cc

from_actor : (r : ℕ) (verb : Verb) (found : Option ℕ) (line : ScriptLine)
    → ((actor : ℕ) → found ≡ Some actor → (nat_le (least_actor verb) actor && nat_le actor 8) ≡ true)
    → with_actor r verb found ≡ Some line → has_actor line ≡ true
from_actor r verb None line known h = absurd (cc)
from_actor r verb (Some actor) line known h =
    subst (λ (x : ScriptLine). has_actor x ≡ true) (some_is _ line h) (known actor refl)

from_verb : (r : ℕ) (found : Option Verb) (actor : List ℕ) (line : ScriptLine) → with_verb r found actor ≡ Some line → has_actor line ≡ true
from_verb r None actor line h = absurd (cc)
from_verb r (Some verb) actor line h = from_actor r verb (actor_of verb actor) line (λ a e. actor_is verb actor a e) h

from_reading : (found : Option ℕ) (verb actor : List ℕ) (line : ScriptLine) → with_reading found verb actor ≡ Some line → has_actor line ≡ true
from_reading None verb actor line h = absurd (cc)
from_reading (Some r) verb actor line h = from_verb r (verb_of verb) actor line h

from_words : (found : Option (List ℕ × List ℕ × List ℕ)) (line : ScriptLine) → with_words found ≡ Some line → has_actor line ≡ true
from_words None line h = absurd (cc)
from_words (Some w) line h = from_reading (reading_of w.0) w.1 w.2 line h

line_is : (piece : List ℕ) (line : ScriptLine) → line_of piece ≡ Some line → has_actor line ≡ true
line_is piece line h = from_words (three (words piece)) line h

-- ---- who holds a job

or_one : (b : Bool) → (b || false) ≡ (if b then true else false)
or_one true = refl
or_one false = refl

or_other : (x b y : Bool) → (x || (if b then true else y)) ≡ (if b then true else x || y)
or_other true true y = refl
or_other true false y = refl
or_other false b y = refl

if_none : (b : Bool) → false ≡ (if b then false else false)
if_none true = refl
if_none false = refl

turned_round : (x y : ℕ) → (x == y) ≡ (y == x)
turned_round x y = grind (arith, nat_tests)

-- one more among them
put_behind : (actor other : ℕ) (hs : List ℕ) → is_holder (hs ++ actor ∷ []) other ≡ (if other == actor then true else is_holder hs other)
put_behind actor other [] = ap (λ b. b || false) (turned_round actor other) ∙ or_one (other == actor)
put_behind actor other (h ∷ hs) = ap (λ b. (h == other) || b) (put_behind actor other hs) ∙ or_other (h == other) (other == actor) (is_holder hs other)

-- the first one is the actor or another one, and so is the one that is asked for
first_out : (actor other h : ℕ) (a b : Bool) (rest : List ℕ) (y : Bool) → (h == actor) ≡ a → (other == actor) ≡ b → is_holder rest other ≡ (if b then false else y)
    → is_holder (if not a then h ∷ rest else rest) other ≡ (if b then false else (h == other) || y)
first_out actor other h true true rest y e f same = same
first_out actor other h true false rest y e f same =
    let differ : (h == other) ≡ false = grind (arith, nat_tests) in
    same ∙ sym (ap (λ b. b || y) differ)
first_out actor other h false true rest y e f same =
    let differ : (h == other) ≡ false = grind (arith, nat_tests) in
    ap (λ b. b || is_holder rest other) differ ∙ same
first_out actor other h false false rest y e f same = ap (λ b. (h == other) || b) same

-- one taken out of them
taken_out : (actor other : ℕ) (hs : List ℕ) → is_holder (filter (λ a. not (a == actor)) hs) other ≡ (if other == actor then false else is_holder hs other)
taken_out actor other [] = if_none (other == actor)
taken_out actor other (h ∷ hs) =
    first_out actor other h (h == actor) (other == actor) (filter (λ a. not (a == actor)) hs) (is_holder hs other) refl refl (taken_out actor other hs)

-- ---- turns

-- these actors, and no others, hold a job
abbrev Hold : List ℕ → (ℕ → Bool) → Type 0
Hold holders holds = (other : ℕ) → is_holder holders other ≡ holds other

-- a line has a fault, or may come
record Faulty (n : ℕ) (holders : List ℕ) (verb : Verb) (actor : ℕ) : Type 0 where
  pub fault : ScriptFault
  pub is : turn n holders verb actor ≡ Err fault

record Comes (n : ℕ) (holders : List ℕ) (holds : ℕ → Bool) (verb : Verb) (actor : ℕ) : Type 0 where
  pub after : List ℕ
  pub is : turn n holders verb actor ≡ Ok after
  pub may : may_come verb (holds actor) ≡ true
  pub same : Hold after (holds_behind verb actor holds)

turned : (n : ℕ) (verb : Verb) (holders : List ℕ) (holds : ℕ → Bool) (actor : ℕ) → Hold holders holds → Faulty n holders verb actor ⊎ Comes n holders holds verb actor
turned n Take holders holds actor same = by_holder (is_holder holders actor) refl where
  by_holder : (b : Bool) → is_holder holders actor ≡ b → Faulty n holders Take actor ⊎ Comes n holders holds Take actor
  by_holder true e = inl (record {
    fault = Holding n;
    is = ap (λ (b : Bool). if b then Err (Holding n) else Ok (holders ++ actor ∷ [])) e;
  })
  by_holder false e = inr (record {
    after = holders ++ actor ∷ [];
    is = ap (λ (b : Bool). if b then Err (Holding n) else Ok (holders ++ actor ∷ [])) e;
    may = ap not (sym (same actor) ∙ e);
    same = λ other. put_behind actor other holders ∙ ap (λ (b : Bool). if other == actor then true else b) (same other);
  })
turned n Merge holders holds actor same = by_holder (is_holder holders actor) refl where
  by_holder : (b : Bool) → is_holder holders actor ≡ b → Faulty n holders Merge actor ⊎ Comes n holders holds Merge actor
  by_holder true e = inr (record {
    after = filter (λ a. not (a == actor)) holders;
    is = ap (λ (b : Bool). if b then Ok (filter (λ a. not (a == actor)) holders) else Err (Idle n)) e;
    may = sym (same actor) ∙ e;
    same = λ other. taken_out actor other holders ∙ ap (λ (b : Bool). if other == actor then false else b) (same other);
  })
  by_holder false e = inl (record {
    fault = Idle n;
    is = ap (λ (b : Bool). if b then Ok (filter (λ a. not (a == actor)) holders) else Err (Idle n)) e;
  })
turned n Look holders holds actor same = inr (record { after = holders; is = refl; may = refl; same = same })

-- ---- lines

abbrev Plays : (ℕ → Bool) → List ScriptLine → Type 0
Plays holds lines = (are_in_turn holds lines ≡ true) × (list_all has_actor lines ≡ true)

ok_is : (x y : List ScriptLine) → ◌≡◌ {A = Result (List ScriptLine) ScriptFault} (Ok x) (Ok y) → x ≡ y
ok_is x y e = cc

-- what stands behind a line
record Rest (line : ScriptLine) (more : Result (List ScriptLine) ScriptFault) (lines : List ScriptLine) : Type 0 where
  pub rest : List ScriptLine
  pub is : more ≡ Ok rest
  pub first : line ∷ rest ≡ lines

rest_of : (line : ScriptLine) (more : Result (List ScriptLine) ScriptFault) (lines : List ScriptLine) → before line more ≡ Ok lines → Rest line more lines
rest_of line (Ok rest) lines h = record { rest = rest; is = refl; first = ok_is _ lines h }
rest_of line (Err fault) lines h = absurd (cc)

more_plays : (holds : ℕ → Bool) (line : ScriptLine) (rest : List ScriptLine) → may_come line.verb (holds line.actor) ≡ true → has_actor line ≡ true
    → Plays (holds_behind line.verb line.actor holds) rest → Plays holds (line ∷ rest)
more_plays holds line rest may has plays = (
  ap (λ (b : Bool). b && are_in_turn (holds_behind line.verb line.actor holds) rest) may ∙ plays.0,
  ap (λ (b : Bool). b && list_all has_actor rest) has ∙ plays.1,
)

abbrev Goes : Type 0
Goes = List ℕ → Result (List ScriptLine) ScriptFault

-- what reading goes on with gives lines that may be played
abbrev GoesPlays : Goes → Type 0
GoesPlays behind = (after : List ℕ) (holds : ℕ → Bool) (rest : List ScriptLine) → Hold after holds → behind after ≡ Ok rest → Plays holds rest

module _ (n : ℕ) (holders : List ℕ) (holds : ℕ → Bool) (hold : Hold holders holds) (behind : Goes) (go : GoesPlays behind) where
  by_turn : (line : ScriptLine) (lines : List ScriptLine) → has_actor line ≡ true → Faulty n holders line.verb line.actor ⊎ Comes n holders holds line.verb line.actor
      → with_turn line (turn n holders line.verb line.actor) behind ≡ Ok lines → Plays holds lines
  by_turn line lines has (inl faulty) h =
      let wrong : Err faulty.fault ≡ Ok lines = sym (ap (λ (r : Result (List ℕ) ScriptFault). with_turn line r behind) faulty.is) ∙ h in
      absurd (cc)
  by_turn line lines has (inr comes) h =
      let r = rest_of line (behind comes.after) lines (sym (ap (λ (r : Result (List ℕ) ScriptFault). with_turn line r behind) comes.is) ∙ h) in
      subst (Plays holds) r.first (more_plays holds line r.rest comes.may has (go comes.after (holds_behind line.verb line.actor holds) r.rest comes.same r.is))

  by_line : (found : Option ScriptLine) (lines : List ScriptLine) → ((line : ScriptLine) → found ≡ Some line → has_actor line ≡ true)
      → with_line n holders found behind ≡ Ok lines → Plays holds lines
  by_line None lines known h = absurd (cc)
  by_line (Some line) lines known h = by_turn line lines (known line refl) (turned n line.verb holders holds line.actor hold) h

plays_from : (ps : List (List ℕ)) (n : ℕ) (holders : List ℕ) (holds : ℕ → Bool) (lines : List ScriptLine) → Hold holders holds → lines_from n holders ps ≡ Ok lines → Plays holds lines
plays_from [] n holders holds lines hold h = subst (Plays holds) (ok_is [] lines h) (refl, refl)
plays_from (piece ∷ []) n holders holds lines hold h = by_empty (is_empty piece) h where
  by_empty : (b : Bool) → (if b then Ok [] else Err (Line n)) ≡ Ok lines → Plays holds lines
  by_empty true e = subst (Plays holds) (ok_is [] lines e) (refl, refl)
  by_empty false e = absurd (cc)
plays_from (piece ∷ next ∷ rest) n holders holds lines hold h =
    by_line n holders holds hold (λ after. lines_from (n + 1) after (next ∷ rest)) (λ after hs ls k e. plays_from (next ∷ rest) (n + 1) after hs ls k e)
    (line_of piece) lines (λ line e. line_is piece line e) h

-- the lines of a script may be played
pub playable : (text : List ℕ) (result : Result (List ScriptLine) ScriptFault) → IsScript text result → IfOk result (λ lines. IsPlayable lines)
playable text (Ok lines) is = let p = plays_from (pieces text) 1 [] nobody lines (λ other. refl) is in record { in_turn = p.0; actors = p.1 }
playable text (Err fault) is = tt
