-- Each event's line is its keyword and what stands behind that, and is read in one way.
use Rattle.std.proofs.Common.{◌≡◌, ℕ, Bool, true, false, List, [], ◌∷◌, ◌++◌, refl, sym, ap, subst, ◌∙◌, append_assoc, Some, None}
use Rattle.std.specs.Prelude.{bytes_eq, codes, if◌then◌else◌}
use Rattle.std.proofs.lemmas.List.{take-append-drop}
use Rattle.std.proofs.lemmas.Slice.Eq.{bytes_eq-Decides}
use Rattle.tp_spec.specs.declared.event.Event.{Event}
use Rattle.tp_spec.specs.declared.event.Event.TheVariants.{Tick, Drop, Dispatch, Take, Expand, Publish, Limit, Exhaust, Halt}
use Rattle.trace_text.specs.declared.keyword.Keyword.{Keyword}
use Rattle.trace_text.specs.declared.keyword.Keyword.TheVariants.{OfTick, OfTake, OfExpand, OfDrop, OfDispatch, OfPublish, OfExhaust, OfLimit, OfHalt}
use Rattle.trace_text.specs.Traces.{field, listed, act_text, event_line}
use Rattle.trace_text.specs.Grammar.{fits_event}
use Rattle.trace_text.specs.Cuts.{IsRead, NoneRead}
use Rattle.trace_text.specs.Reading.{word_len, first_word, behind_word, word_text, keyword_among, all_keywords, keyword_of, pair_text, Args, args_text, fits_args, event_of, IsOf}

abbrev keyword_in : Event → Keyword
keyword_in (Tick actor reading) = OfTick
keyword_in (Take actor id) = OfTake
keyword_in (Expand actor id marks) = OfExpand
keyword_in (Drop id) = OfDrop
keyword_in (Dispatch act) = OfDispatch
keyword_in (Publish actor id plan) = OfPublish
keyword_in Exhaust = OfExhaust
keyword_in (Limit actor id made marks) = OfLimit
keyword_in (Halt cause) = OfHalt

abbrev args_in : (e : Event) → Args (keyword_in e)
args_in (Tick actor reading) = (actor, reading)
args_in (Take actor id) = (actor, id)
args_in (Expand actor id marks) = ((actor, id), marks)
args_in (Drop id) = id
args_in (Dispatch act) = act
args_in (Publish actor id plan) = ((actor, id), (plan.end, plan.acts))
args_in Exhaust = tt
args_in (Limit actor id made marks) = ((actor, id), (made, marks))
args_in (Halt cause) = cause

made_again : (e : Event) → event_of (keyword_in e) (args_in e) ≡ e
made_again (Tick actor reading) = refl
made_again (Take actor id) = refl
made_again (Expand actor id marks) = refl
made_again (Drop id) = refl
made_again (Dispatch act) = refl
made_again (Publish actor id plan) = refl
made_again Exhaust = refl
made_again (Limit actor id made marks) = refl
made_again (Halt cause) = refl

-- the line of an event
pub line_is : (k : Keyword) (x : Args k) → event_line (event_of k x) ≡ word_text k ++ args_text k x
unfolding event_line
line_is OfTick x = refl
line_is OfTake x = refl
line_is OfExpand x = refl
line_is OfDrop x = refl
line_is OfDispatch x = ap (λ (l : List ℕ). codes "do" ++ l) (append_assoc (field x.action) (field x.start) (field x.length))
line_is OfPublish x =
    ap (λ (l : List ℕ). codes "publish" ++ l) (append_assoc (pair_text x.0) (field x.1.0) (listed act_text x.1.1))
line_is OfExhaust x = refl
line_is OfLimit x = ap (λ (l : List ℕ). codes "limit" ++ l) (append_assoc (pair_text x.0) (field x.1.0) (field x.1.1))
line_is OfHalt x = refl

pub fits_is : (k : Keyword) (x : Args k) → fits_event (event_of k x) ≡ fits_args k x
unfolding fits_event
fits_is OfTick x = refl
fits_is OfTake x = refl
fits_is OfExpand x = refl
fits_is OfDrop x = refl
fits_is OfDispatch x = refl
fits_is OfPublish x = refl
fits_is OfExhaust x = refl
fits_is OfLimit x = refl
fits_is OfHalt x = refl

-- its first word, and what stands behind that
first_is : (k : Keyword) (x : Args k) → first_word (word_text k ++ args_text k x) ≡ word_text k
unfolding field
first_is OfTick x = refl
first_is OfTake x = refl
first_is OfExpand x = refl
first_is OfDrop x = refl
first_is OfDispatch x = refl
first_is OfPublish x = refl
first_is OfExhaust x = refl
first_is OfLimit x = refl
first_is OfHalt x = refl

behind_is : (k : Keyword) (x : Args k) → behind_word (word_text k ++ args_text k x) ≡ args_text k x
unfolding field
behind_is OfTick x = refl
behind_is OfTake x = refl
behind_is OfExpand x = refl
behind_is OfDrop x = refl
behind_is OfDispatch x = refl
behind_is OfPublish x = refl
behind_is OfExhaust x = refl
behind_is OfLimit x = refl
behind_is OfHalt x = refl

keyword_is : (k : Keyword) → keyword_of (word_text k) ≡ Some k
keyword_is OfTick = refl
keyword_is OfTake = refl
keyword_is OfExpand = refl
keyword_is OfDrop = refl
keyword_is OfDispatch = refl
keyword_is OfPublish = refl
keyword_is OfExhaust = refl
keyword_is OfLimit = refl
keyword_is OfHalt = refl

some_is : (x y : Keyword) → Some x ≡ Some y → x ≡ y
some_is x y e = cc

-- the word that is a keyword
word_is : (word : List ℕ) (k : Keyword) (ks : List Keyword) → keyword_among ks word ≡ Some k → word ≡ word_text k
word_is word k [] e = absurd (cc)
word_is word k (x ∷ ks) e = by_test (bytes_eq word (word_text x)) refl e (word_is word k ks) where
  by_test : (b : Bool) → bytes_eq word (word_text x) ≡ b → (if b then Some x else keyword_among ks word) ≡ Some k → (keyword_among ks word ≡ Some k → word ≡ word_text k) → word ≡ word_text k
  by_test true is e more = (bytes_eq-Decides word (word_text x)).0 is ∙ ap word_text (some_is x k e)
  by_test false is e more = more e

pub parts_of : (line : List ℕ) → line ≡ first_word line ++ behind_word line
parts_of line = sym (take-append-drop (word_len line) line)

-- an event whose line this is
module _ (line : List ℕ) (y : Event) (is : line ≡ event_line y) where
  spelled : line ≡ word_text (keyword_in y) ++ args_text (keyword_in y) (args_in y)
  spelled = is ∙ sym (ap event_line (made_again y)) ∙ line_is (keyword_in y) (args_in y)

  its_keyword : keyword_of (first_word line) ≡ Some (keyword_in y)
  its_keyword = ap (λ (l : List ℕ). keyword_of (first_word l)) spelled ∙ ap keyword_of (first_is (keyword_in y) (args_in y)) ∙ keyword_is (keyword_in y)

  its_rest : behind_word line ≡ args_text (keyword_in y) (args_in y)
  its_rest = ap behind_word spelled ∙ behind_is (keyword_in y) (args_in y)

  its_fit : fits_event y ≡ true → fits_args (keyword_in y) (args_in y) ≡ true
  its_fit fits = sym (fits_is (keyword_in y) (args_in y)) ∙ ap fits_event (made_again y) ∙ fits

-- what is read behind the keyword is all that may stand there
same_args : (rest : List ℕ) (found k : Keyword) → found ≡ k → (x : Args found) → fits_args found x ≡ true → rest ≡ args_text found x
    → (args : Args k) → IsRead (args_text k) (fits_args k) rest args → event_of found x ≡ event_of k args
same_args rest found k same x fits is =
    subst (λ (k : Keyword). (args : Args k) → IsRead (args_text k) (fits_args k) rest args → event_of found x ≡ event_of k args) same
    (λ args read. ap (event_of found) (read.only x fits is))

no_args : (rest : List ℕ) (found k : Keyword) → found ≡ k → (x : Args found) → fits_args found x ≡ true → rest ≡ args_text found x
    → NoneRead (args_text k) (fits_args k) rest → ⊥
no_args rest found k same x fits is =
    subst (λ (k : Keyword). NoneRead (args_text k) (fits_args k) rest → ⊥) same (λ none. none x fits is)

module _ (line : List ℕ) (k : Keyword) (known : keyword_of (first_word line) ≡ Some k) where
  pub is_event : (e : Event) → IsOf k (behind_word line) e → IsRead event_line fits_event line e
  is_event e of = record {
    is = parts_of line ∙ ap (λ (l : List ℕ). l ++ behind_word line) (word_is (first_word line) k all_keywords known)
        ∙ ap (λ (l : List ℕ). word_text k ++ l) of.read.is ∙ sym (line_is k of.args) ∙ sym (ap event_line of.made);
    may_be = ap fits_event of.made ∙ fits_is k of.args ∙ of.read.may_be;
    only = λ y may is.
        let same = some_is (keyword_in y) k (sym (its_keyword line y is) ∙ known) in
        sym (made_again y)
        ∙ same_args (behind_word line) (keyword_in y) k same (args_in y) (its_fit line y is may) (its_rest line y is) of.args of.read
        ∙ sym of.made;
  }

  pub no_event : NoneRead (args_text k) (fits_args k) (behind_word line) → NoneRead event_line fits_event line
  no_event none = λ y may is.
      no_args (behind_word line) (keyword_in y) k (some_is (keyword_in y) k (sym (its_keyword line y is) ∙ known)) (args_in y)
      (its_fit line y is may) (its_rest line y is) none

pub no_keyword : (line : List ℕ) → keyword_of (first_word line) ≡ None → NoneRead event_line fits_event line
no_keyword line none = λ y may is. let wrong : None ≡ Some (keyword_in y) = sym none ∙ its_keyword line y is in absurd (cc)
