-- What stands behind a keyword.
use Rattle.std.proofs.Common.{◌≡◌, ℕ, Bool, true, false, List, [], ◌∷◌, ◌++◌, Some, None, refl, sym, ap, ◌∙◌}
use Rattle.std.specs.Prelude.{bytes_eq, codes, if◌then◌else◌}
use Rattle.std.specs.List.{list_all}
use Rattle.std.proofs.lemmas.Slice.Eq.{bytes_eq-Decides}
use Rattle.tp_spec.specs.declared.event.Cause.{Cause}
use Rattle.tp_spec.specs.declared.event.Cause.TheVariants.{Out, Script, Memory}
use Rattle.tp_spec.specs.declared.event.Event.TheVariants.{Exhaust, Halt}
use Rattle.tp_spec.specs.declared.plan.Mark.{Mark}
use Rattle.tp_spec.specs.declared.plan.Timed.{Timed}
use Rattle.trace_text.specs.declared.keyword.Keyword.{Keyword}
use Rattle.trace_text.specs.declared.keyword.Keyword.TheVariants.{OfTick, OfTake, OfExpand, OfDrop, OfDispatch, OfPublish, OfExhaust, OfLimit, OfHalt}
use Rattle.trace_text.specs.Traces.{field, listed, mark_text, act_text, cause_text}
use Rattle.trace_text.specs.Grammar.{is_narrow, is_wide, fits_mark, fits_act}
use Rattle.trace_text.specs.Cuts.{IsCut, NoneCut, IsRead, NoneRead}
use Rattle.trace_text.specs.Reading.{pair_text, are_narrow, Args, args_text, fits_args, event_of, IsOf, GivesEvent, cause_among, cause_of, all_causes}
use Rattle.trace_text.proofs.Seams.{both, may_both, Opens, whole_read, none_read, more_read, both_read, none_read_first, none_read_second, as_read, as_none_read}
use Rattle.trace_text.proofs.Fronts.{field_opens, pair_opens, act_made, act_parts}
use Rattle.trace_text.proofs.Listing.{listed_opens}

-- the value is read
abbrev pub ReadOf : (k : Keyword) → List ℕ → Args k → Type 0
ReadOf k rest x = IsRead (args_text k) (fits_args k) rest x

pub made : (k : Keyword) (rest : List ℕ) (x : Args k) → ReadOf k rest x → IsOf k rest (event_of k x)
made k rest x read = record { args = x; made = refl; read = read }

end_opens : Opens (both field (listed act_text))
unfolding field
end_opens y rest h = refl

two_opens : Opens (both field field)
unfolding field
two_opens y rest h = refl

cause_again : (x : Cause) → cause_of (codes " " ++ cause_text x) ≡ Some x
cause_again Out = refl
cause_again Script = refl
cause_again Memory = refl

some_is : (x y : Cause) → Some x ≡ Some y → x ≡ y
some_is x y e = cc

cause_is : (text : List ℕ) (x : Cause) (xs : List Cause) → cause_among xs text ≡ Some x → text ≡ codes " " ++ cause_text x
cause_is text x [] e = absurd (cc)
cause_is text x (y ∷ ys) e = by_test (bytes_eq text (codes " " ++ cause_text y)) refl e (cause_is text x ys) where
  by_test : (b : Bool) → bytes_eq text (codes " " ++ cause_text y) ≡ b → (if b then Some y else cause_among ys text) ≡ Some x
      → (cause_among ys text ≡ Some x → text ≡ codes " " ++ cause_text x) → text ≡ codes " " ++ cause_text x
  by_test true is e more = (bytes_eq-Decides text (codes " " ++ cause_text y)).0 is ∙ ap (λ (z : Cause). codes " " ++ cause_text z) (some_is y x e)
  by_test false is e more = more e

module _ (rest : List ℕ) where
  -- ---- two numbers
  pub tick_none : NoneCut field is_narrow rest → GivesEvent OfTick rest None
  tick_none none = none_read_first field is_narrow field is_wide rest field_opens none

  module _ (actor : ℕ) (r : List ℕ) (c : IsCut field is_narrow rest actor r) where
    pub tick_none_second : NoneCut field is_wide r → GivesEvent OfTick rest None
    tick_none_second none = none_read_second field is_narrow field is_wide rest actor r field_opens c (none_read field is_wide r none)

    pub tick_more : (reading : ℕ) (s : List ℕ) → IsCut field is_wide r reading s → (s ≡ [] → ⊥) → GivesEvent OfTick rest None
    tick_more reading s d some = none_read_second field is_narrow field is_wide rest actor r field_opens c (more_read field is_wide r reading s d some)

    pub tick_read : (reading : ℕ) (s : List ℕ) → IsCut field is_wide r reading s → s ≡ [] → IsOf OfTick rest (event_of OfTick (actor, reading))
    tick_read reading s d empty =
        made OfTick rest (actor, reading) (both_read field is_narrow field is_wide rest actor reading r field_opens c (whole_read field is_wide r reading s d empty))

  pub take_none : NoneCut pair_text are_narrow rest → GivesEvent OfTake rest None
  take_none none = none_read pair_text are_narrow rest none

  module _ (x : ℕ × ℕ) (r : List ℕ) (c : IsCut pair_text are_narrow rest x r) where
    pub take_more : (r ≡ [] → ⊥) → GivesEvent OfTake rest None
    take_more some = more_read pair_text are_narrow rest x r c some

    pub take_read : r ≡ [] → IsOf OfTake rest (event_of OfTake x)
    take_read empty = made OfTake rest x (whole_read pair_text are_narrow rest x r c empty)

    -- ---- four numbers
    pub limit_none_second : NoneCut pair_text are_narrow r → GivesEvent OfLimit rest None
    limit_none_second none = none_read_second pair_text are_narrow pair_text are_narrow rest x r pair_opens c (none_read pair_text are_narrow r none)

    pub limit_more : (y : ℕ × ℕ) (s : List ℕ) → IsCut pair_text are_narrow r y s → (s ≡ [] → ⊥) → GivesEvent OfLimit rest None
    limit_more y s d some = none_read_second pair_text are_narrow pair_text are_narrow rest x r pair_opens c (more_read pair_text are_narrow r y s d some)

    pub limit_read : (y : ℕ × ℕ) (s : List ℕ) → IsCut pair_text are_narrow r y s → s ≡ [] → IsOf OfLimit rest (event_of OfLimit (x, y))
    limit_read y s d empty =
        made OfLimit rest (x, y) (both_read pair_text are_narrow pair_text are_narrow rest x y r pair_opens c (whole_read pair_text are_narrow r y s d empty))

    -- ---- marks
    pub expand_none_marks : NoneRead (listed mark_text) (list_all fits_mark) r → GivesEvent OfExpand rest None
    expand_none_marks none = none_read_second pair_text are_narrow (listed mark_text) (list_all fits_mark) rest x r (listed_opens mark_text) c none

    pub expand_read : (marks : List Mark) → IsRead (listed mark_text) (list_all fits_mark) r marks → IsOf OfExpand rest (event_of OfExpand (x, marks))
    expand_read marks d = made OfExpand rest (x, marks) (both_read pair_text are_narrow (listed mark_text) (list_all fits_mark) rest x marks r (listed_opens mark_text) c d)

    -- ---- a plan
    pub publish_none_end : NoneCut field is_wide r → GivesEvent OfPublish rest None
    publish_none_end none =
        none_read_second pair_text are_narrow (both field (listed act_text)) (may_both is_wide (list_all fits_act)) rest x r end_opens c
        (none_read_first field is_wide (listed act_text) (list_all fits_act) r (listed_opens act_text) none)

    module _ (end : ℕ) (s : List ℕ) (d : IsCut field is_wide r end s) where
      pub publish_none_acts : NoneRead (listed act_text) (list_all fits_act) s → GivesEvent OfPublish rest None
      publish_none_acts none =
          none_read_second pair_text are_narrow (both field (listed act_text)) (may_both is_wide (list_all fits_act)) rest x r end_opens c
          (none_read_second field is_wide (listed act_text) (list_all fits_act) r end s (listed_opens act_text) d none)

      pub publish_read : (acts : List Timed) → IsRead (listed act_text) (list_all fits_act) s acts → IsOf OfPublish rest (event_of OfPublish (x, (end, acts)))
      publish_read acts f =
          made OfPublish rest (x, (end, acts))
          (both_read pair_text are_narrow (both field (listed act_text)) (may_both is_wide (list_all fits_act)) rest x (end, acts) r end_opens c
          (both_read field is_wide (listed act_text) (list_all fits_act) r end acts s (listed_opens act_text) d f))

  pub expand_none : NoneCut pair_text are_narrow rest → GivesEvent OfExpand rest None
  expand_none none = none_read_first pair_text are_narrow (listed mark_text) (list_all fits_mark) rest (listed_opens mark_text) none

  pub publish_none : NoneCut pair_text are_narrow rest → GivesEvent OfPublish rest None
  publish_none none = none_read_first pair_text are_narrow (both field (listed act_text)) (may_both is_wide (list_all fits_act)) rest end_opens none

  pub limit_none : NoneCut pair_text are_narrow rest → GivesEvent OfLimit rest None
  limit_none none = none_read_first pair_text are_narrow pair_text are_narrow rest pair_opens none

  -- ---- one number
  pub drop_none : NoneCut field is_narrow rest → GivesEvent OfDrop rest None
  drop_none none = none_read field is_narrow rest none

  module _ (id : ℕ) (r : List ℕ) (c : IsCut field is_narrow rest id r) where
    pub drop_more : (r ≡ [] → ⊥) → GivesEvent OfDrop rest None
    drop_more some = more_read field is_narrow rest id r c some

    pub drop_read : r ≡ [] → IsOf OfDrop rest (event_of OfDrop id)
    drop_read empty = made OfDrop rest id (whole_read field is_narrow rest id r c empty)

  -- ---- an act, by three numbers
  act_none : NoneRead (both field (both field field)) (may_both is_narrow (may_both is_wide is_wide)) rest → GivesEvent OfDispatch rest None
  act_none none =
      as_none_read (both field (both field field)) (may_both is_narrow (may_both is_wide is_wide)) (args_text OfDispatch) (fits_args OfDispatch) act_made act_parts
      (λ y. refl) (λ y. refl) (λ x. refl) (λ y. refl) rest none

  pub dispatch_none : NoneCut field is_narrow rest → GivesEvent OfDispatch rest None
  dispatch_none none = act_none (none_read_first field is_narrow (both field field) (may_both is_wide is_wide) rest two_opens none)

  module _ (action : ℕ) (r : List ℕ) (c : IsCut field is_narrow rest action r) where
    behind_action : NoneRead (both field field) (may_both is_wide is_wide) r → GivesEvent OfDispatch rest None
    behind_action none = act_none (none_read_second field is_narrow (both field field) (may_both is_wide is_wide) rest action r two_opens c none)

    pub dispatch_none_start : NoneCut field is_wide r → GivesEvent OfDispatch rest None
    dispatch_none_start none = behind_action (none_read_first field is_wide field is_wide r field_opens none)

    module _ (start : ℕ) (s : List ℕ) (d : IsCut field is_wide r start s) where
      pub dispatch_none_length : NoneCut field is_wide s → GivesEvent OfDispatch rest None
      dispatch_none_length none = behind_action (none_read_second field is_wide field is_wide r start s field_opens d (none_read field is_wide s none))

      pub dispatch_more : (length : ℕ) (t : List ℕ) → IsCut field is_wide s length t → (t ≡ [] → ⊥) → GivesEvent OfDispatch rest None
      dispatch_more length t f some = behind_action (none_read_second field is_wide field is_wide r start s field_opens d (more_read field is_wide s length t f some))

      pub dispatch_read : (length : ℕ) (t : List ℕ) → IsCut field is_wide s length t → t ≡ []
          → IsOf OfDispatch rest (event_of OfDispatch (record { action = action; start = start; length = length }))
      dispatch_read length t f empty =
          made OfDispatch rest (record { action = action; start = start; length = length })
          (as_read (both field (both field field)) (may_both is_narrow (may_both is_wide is_wide)) (args_text OfDispatch) (fits_args OfDispatch) act_made act_parts
          (λ y. refl) (λ y. refl) (λ x. refl) (λ y. refl) rest (action, (start, length))
          (both_read field is_narrow (both field field) (may_both is_wide is_wide) rest action (start, length) r two_opens c
          (both_read field is_wide field is_wide r start length s field_opens d (whole_read field is_wide s length t f empty))))

  -- ---- nothing
  pub exhaust_more : (rest ≡ [] → ⊥) → GivesEvent OfExhaust rest None
  exhaust_more some = λ y may e. some e

  pub exhaust_read : rest ≡ [] → IsOf OfExhaust rest Exhaust
  exhaust_read empty = made OfExhaust rest tt (record { is = empty; may_be = refl; only = λ y may e. refl })

  -- ---- a cause
  pub halt_none : cause_of rest ≡ None → GivesEvent OfHalt rest None
  halt_none none = λ y may e. let wrong : None ≡ Some y = sym none ∙ ap cause_of e ∙ cause_again y in absurd (cc)

  pub halt_read : (x : Cause) → cause_of rest ≡ Some x → IsOf OfHalt rest (Halt x)
  halt_read x found =
      made OfHalt rest x (record {
        is = cause_is rest x all_causes found;
        may_be = refl;
        only = λ y may e. some_is y x (sym (ap cause_of e ∙ cause_again y) ∙ found);
      })
