-- The text of a plan is read as that plan.
use Rattle.std.proofs.Common.{◌≡◌, ℕ, ◌+◌, Bool, true, false, not, cond, ◌&&◌, ◌==◌, List, [], ◌∷◌, ◌++◌, map, drop, codes, Some, None, Result, Ok, Err, refl, ap, sym, subst, ◌∙◌, append_assoc, ◌⊎◌, inl, inr}
use Rattle.std.specs.List.{list_all, filter, flat_map, slice_split, starts_with}
use Rattle.std.proofs.lemmas.List.Folds.{list_all-append}
use Rattle.tp_spec.specs.Lists.{each_next}
use Rattle.tp_spec.specs.Courses.{act_before}
use Rattle.std.proofs.lemmas.Bool.{and_from, and_parts, not_from_false}
use Rattle.pddl_tokens.specs.Tokens.{is_blank}
use Rattle.tp_spec.specs.Texts.{tick_text, act_text, plan_text}
use Rattle.tp_spec.specs.WellFormed as ground
use Rattle.tp_spec.specs.declared.problem.Problem.{Problem}
use Rattle.tp_spec.specs.declared.plan.Plan.{Plan}
use Rattle.tp_spec.specs.declared.plan.Timed.{Timed}
use Rattle.plan_text.specs.declared.fault.PlanFault.{PlanFault}
use Rattle.plan_text.specs.declared.fault.PlanFault.TheVariants as faults
use Rattle.plan_text.specs.Pieces.{is_mark, spaced}
use Rattle.plan_text.specs.Acts.{amount_of}
use Rattle.plan_text.specs.Files.{Numbered, numbered, is_skipped, is_remark, remark, first_remark, with_remark, says, kept, words, is_head, is_end, headless, without_last, last_if, ends, at_number, with_act, acts_of, whole, end_of, at_end, with_end, body_plan, written_plan, IsPutInOrder, IsOrdered, IsFaultOf, IsReading}
use Rattle.plan_text.specs.Laws.{is_act_of, IsOrderly}
use Rattle.plan_text.proofs.Places.{split_seam}
use Rattle.plan_text.proofs.Numerals.{all_imply}
use Rattle.plan_text.proofs.Spells.{is_line_byte, line_no_feed, utf8_line, plain_line, uncommented_line, IsTickText, tick_is, tick_line, tick_behind, tick_amount}
use Rattle.plan_text.proofs.ActLines.{act_line_is, scale_is}
use Rattle.plan_text.proofs.Sorting.{put_in_order_same}

-- lines that stand in a text: what they hold, and that they are seen
abbrev pub is_shown : List ℕ → Bool
is_shown text = list_all is_line_byte text && not (list_all is_blank text)

no_feed : (text : List ℕ) → list_all is_line_byte text ≡ true → list_all (λ b. not (is_mark 10 b)) text ≡ true
no_feed text h = all_imply is_line_byte (λ b. not (is_mark 10 b)) line_no_feed text h

shown_said : (text : List ℕ) → is_shown text ≡ true → not (is_skipped text) ≡ true
shown_said text h =
    let w = and_parts (list_all is_line_byte text) (not (list_all is_blank text)) h in
    let same = uncommented_line text w.0 in
    ap (λ (l : List ℕ). not (list_all is_blank l)) same ∙ w.1

-- the text of lines, each ended by a line feed, before another text
lines_apart : (ls : List (List ℕ)) (rest : List ℕ) → list_all is_shown ls ≡ true
    → slice_split (is_mark 10) (flat_map (λ l. l ++ 10 ∷ []) ls ++ rest) ≡ ls ++ slice_split (is_mark 10) rest
lines_apart [] rest h = refl
lines_apart (l ∷ ls) rest h =
    let w = and_parts (is_shown l) (list_all is_shown ls) h in
    let clean = no_feed l (and_parts (list_all is_line_byte l) (not (list_all is_blank l)) w.0).0 in
    let shape : ((l ++ 10 ∷ []) ++ flat_map (λ l. l ++ 10 ∷ []) ls) ++ rest ≡ l ++ 10 ∷ (flat_map (λ l. l ++ 10 ∷ []) ls ++ rest) =
    append_assoc (l ++ 10 ∷ []) (flat_map (λ l. l ++ 10 ∷ []) ls) rest ∙ append_assoc l (10 ∷ []) (flat_map (λ l. l ++ 10 ∷ []) ls ++ rest) in
    ap (slice_split (is_mark 10)) shape
    ∙ (split_seam (is_mark 10) l 10 (flat_map (λ l. l ++ 10 ∷ []) ls ++ rest) clean refl
    ∙ ap (λ (t : List (List ℕ)). l ∷ t) (lines_apart ls rest w.1))

skipped_none : is_skipped [] ≡ true
skipped_none = refl

-- of shown lines and an empty last one all but that one are kept
lines_kept : (n : ℕ) (ls : List (List ℕ)) → list_all is_shown ls ≡ true → filter says (numbered n (ls ++ [] ∷ [])) ≡ numbered n ls
lines_kept n [] h = ap (λ (b : Bool). cond (not b) (record { number = n; text = [] } ∷ []) []) skipped_none
lines_kept n (l ∷ ls) h =
    let w = and_parts (is_shown l) (list_all is_shown ls) h in
    ap (λ (b : Bool). cond b (record { number = n; text = l } ∷ filter says (numbered (n + 1) (ls ++ [] ∷ []))) (filter says (numbered (n + 1) (ls ++ [] ∷ [])))) (shown_said l w.0)
    ∙ ap (λ (t : List Numbered). record { number = n; text = l } ∷ t) (lines_kept (n + 1) ls w.1)

pub text_kept : (ls : List (List ℕ)) → list_all is_shown ls ≡ true → kept (flat_map (λ l. l ++ 10 ∷ []) ls ++ []) ≡ numbered 1 ls
text_kept ls h = ap (λ (t : List (List ℕ)). filter says (numbered 1 t)) (lines_apart ls [] h) ∙ lines_kept 1 ls h

-- no line that is shown is a comment that is not UTF-8
plain_none : (text : List ℕ) → list_all is_line_byte text ≡ true → is_remark text ≡ false
plain_none text h = ap (λ (b : Bool). not b && is_skipped text) (utf8_line text h)

lines_plain : (n : ℕ) (ls : List (List ℕ)) → list_all is_shown ls ≡ true → remark n (ls ++ [] ∷ []) ≡ None
lines_plain n [] h = ap (λ (b : Bool). cond b (Some n) None) (plain_none [] refl)
lines_plain n (l ∷ ls) h =
    let w = and_parts (is_shown l) (list_all is_shown ls) h in
    ap (λ (b : Bool). cond b (Some n) (remark (n + 1) (ls ++ [] ∷ []))) (plain_none l (and_parts (list_all is_line_byte l) (not (list_all is_blank l)) w.0).0)
    ∙ lines_plain (n + 1) ls w.1

text_plain : (ls : List (List ℕ)) → list_all is_shown ls ≡ true → first_remark (flat_map (λ l. l ++ 10 ∷ []) ls ++ []) ≡ None
text_plain ls h = ap (remark 1) (lines_apart ls [] h) ∙ lines_plain 1 ls h

-- the last line's number
abbrev count_on : ℕ → List (List ℕ) → ℕ
count_on n [] = n
count_on n (l ∷ ls) = count_on (n + 1) ls

numbered_last : (n : ℕ) (ls : List (List ℕ)) (z : List ℕ) → numbered n (ls ++ z ∷ []) ≡ numbered n ls ++ record { number = count_on n ls; text = z } ∷ []
numbered_last n [] z = refl
numbered_last n (l ∷ ls) z = ap (λ (t : List Numbered). record { number = n; text = l } ∷ t) (numbered_last (n + 1) ls z)

body_of : (test : Numbered → Bool) (ls : List Numbered) (z : Numbered) → test z ≡ true → without_last test (ls ++ z ∷ []) ≡ ls
body_of test [] z h = ap (λ (b : Bool). cond b [] (z ∷ [])) h
body_of test (l ∷ []) z h = ap (λ (t : List Numbered). l ∷ t) (body_of test [] z h)
body_of test (l ∷ k ∷ ls) z h = ap (λ (t : List Numbered). l ∷ t) (body_of test (k ∷ ls) z h)

last_of : (test : Numbered → Bool) (ls : List Numbered) (z : Numbered) → test z ≡ true → last_if test (ls ++ z ∷ []) ≡ Some z
last_of test [] z h = ap (λ (b : Bool). cond b (Some z) None) h
last_of test (l ∷ []) z h = last_of test [] z h
last_of test (l ∷ k ∷ ls) z h = last_of test (k ∷ ls) z h

-- the acts of their lines
acts_read : (p : Problem) (n : ℕ) (acts : List Timed) → ground.IsWellFormed p → list_all (is_act_of p) acts ≡ true → acts_of p (numbered n (map (act_text p) acts)) ≡ Ok acts
acts_read p n [] w h = refl
acts_read p n (x ∷ acts) w h =
    let parts = and_parts (is_act_of p x) (list_all (is_act_of p) acts) h in
    let first = (act_line_is p x w parts.0).act in
    let rest = acts_read p (n + 1) acts w parts.1 in
    λ i. with_act (at_number n (first i)) (rest i)

acts_shown : (p : Problem) (acts : List Timed) → ground.IsWellFormed p → list_all (is_act_of p) acts ≡ true → list_all is_shown (map (act_text p) acts) ≡ true
acts_shown p [] w h = refl
acts_shown p (x ∷ acts) w h =
    let parts = and_parts (is_act_of p x) (list_all (is_act_of p) acts) h in
    let line = act_line_is p x w parts.0 in
    and_from _ _ (and_from _ _ line.bytes (not_from_false _ line.shown)) (acts_shown p acts w parts.1)

-- the last line
abbrev pub end_text : List ℕ → List ℕ
end_text tick = 101 ∷ 110 ∷ 100 ∷ 32 ∷ tick

end_words : (scale t : ℕ) (tick : List ℕ) → IsTickText scale t tick → words (end_text tick) ≡ end_text tick
end_words scale t tick k =
    ap spaced (plain_line (end_text tick) (tick_line scale t tick k))
    ∙ ap (λ (l : List ℕ). 101 ∷ 110 ∷ 100 ∷ l) (tick_behind scale t tick k)

abbrev begins_end : List ℕ → Bool
begins_end l = starts_with (λ a b. a == b) l (codes "end ")

end_is : (scale t : ℕ) (tick : List ℕ) → IsTickText scale t tick → is_end (end_text tick) ≡ true
end_is scale t tick k =
    and_from _ _ (utf8_line (end_text tick) (tick_line scale t tick k)) (ap begins_end (end_words scale t tick k))

end_read : (p : Problem) (t : ℕ) (tick : List ℕ) → IsTickText p.scale t tick → end_of p (end_text tick) ≡ Ok t
end_read p t tick k =
    ap (λ (l : List ℕ). whole (amount_of p.scale (drop 4 l))) (end_words p.scale t tick k)
    ∙ ap whole (tick_amount p.scale t tick k)

head_is : is_head (112 ∷ 108 ∷ 97 ∷ 110 ∷ []) ≡ true
head_is = and_from _ _ (utf8_line (112 ∷ 108 ∷ 97 ∷ 110 ∷ []) refl) refl

-- the lines of a plan's text
abbrev pub plan_lines : Problem → Plan → List (List ℕ)
plan_lines p plan = (112 ∷ 108 ∷ 97 ∷ 110 ∷ []) ∷ (map (act_text p) plan.acts ++ end_text (tick_text p.scale plan.end) ∷ [])

lines_flat : (p : Problem) (acts : List Timed) (tail : List ℕ)
    → flat_map (λ x. act_text p x ++ 10 ∷ []) acts ++ (tail ++ 10 ∷ []) ≡ flat_map (λ l. l ++ 10 ∷ []) (map (act_text p) acts ++ tail ∷ []) ++ []
lines_flat p [] tail = sym (append_assoc (tail ++ 10 ∷ []) [] [] ∙ nil_right (tail ++ 10 ∷ []))
  where
    nil_right : (l : List ℕ) → l ++ [] ≡ l
    nil_right [] = refl
    nil_right (b ∷ rest) = ap (λ (t : List ℕ). b ∷ t) (nil_right rest)
lines_flat p (x ∷ acts) tail =
    let line : List ℕ = act_text p x ++ 10 ∷ [] in
    append_assoc line (flat_map (λ x. act_text p x ++ 10 ∷ []) acts) (tail ++ 10 ∷ [])
    ∙ (ap (λ (l : List ℕ). line ++ l) (lines_flat p acts tail)
    ∙ sym (append_assoc line (flat_map (λ l. l ++ 10 ∷ []) (map (act_text p) acts ++ tail ∷ [])) []))

plan_flat : (p : Problem) (plan : Plan) → plan_text p plan ≡ flat_map (λ l. l ++ 10 ∷ []) (plan_lines p plan) ++ []
plan_flat p plan =
    let acts : List ℕ = flat_map (λ x. act_text p x ++ 10 ∷ []) plan.acts in
    let tick : List ℕ = tick_text p.scale plan.end in
    ap (λ (l : List ℕ). 112 ∷ 108 ∷ 97 ∷ 110 ∷ 10 ∷ l)
    (ap (λ (l : List ℕ). l ++ 10 ∷ []) (append_assoc acts (101 ∷ 110 ∷ 100 ∷ 32 ∷ []) tick)
    ∙ (append_assoc acts (end_text tick) (10 ∷ [])
    ∙ lines_flat p plan.acts (end_text tick)))

lines_shown : (p : Problem) (plan : Plan) → ground.IsWellFormed p → IsOrderly p plan → list_all is_shown (plan_lines p plan) ≡ true
lines_shown p plan w o =
    let tick = tick_is p.scale plan.end (scale_is p w) o.end in
    let last : is_shown (end_text (tick_text p.scale plan.end)) ≡ true = and_from _ true (tick_line p.scale plan.end (tick_text p.scale plan.end) tick) refl in
    list_all-append is_shown (map (act_text p) plan.acts) (end_text (tick_text p.scale plan.end) ∷ [])
    ∙ and_from _ _ (acts_shown p plan.acts w o.acts) (and_from _ true last refl)

body_read : (p : Problem) (n : ℕ) (plan : Plan) → ground.IsWellFormed p → IsOrderly p plan
    → body_plan p (numbered n (map (act_text p) plan.acts ++ end_text (tick_text p.scale plan.end) ∷ [])) ≡ Ok plan
body_read p n plan w o =
    let tick = tick_is p.scale plan.end (scale_is p w) o.end in
    let text : List ℕ = end_text (tick_text p.scale plan.end) in
    let lines : List Numbered = numbered n (map (act_text p) plan.acts) in
    let last : Numbered = record { number = count_on n (map (act_text p) plan.acts); text = text } in
    let test : ends last ≡ true = end_is p.scale plan.end (tick_text p.scale plan.end) tick in
    let end = last_of ends lines last test in
    let acts = ap (acts_of p) (body_of ends lines last test) ∙ acts_read p n plan.acts w o.acts in
    ap (body_plan p) (numbered_last n (map (act_text p) plan.acts) text)
    ∙ ((λ i. with_end p (end i) (acts i))
    ∙ ap (at_end plan.acts last.number) (end_read p plan.end (tick_text p.scale plan.end) tick))

pub plan_written : (p : Problem) (plan : Plan) → ground.IsWellFormed p → IsOrderly p plan → written_plan p (plan_text p plan) ≡ Ok plan
plan_written p plan w o =
    let body : List Numbered = numbered 2 (map (act_text p) plan.acts ++ end_text (tick_text p.scale plan.end) ∷ []) in
    let first : Numbered = record { number = 1; text = 112 ∷ 108 ∷ 97 ∷ 110 ∷ [] } in
    ap (written_plan p) (plan_flat p plan)
    ∙ ((λ i. with_remark (text_plain (plan_lines p plan) (lines_shown p plan w o) i) (body_plan p (headless (text_kept (plan_lines p plan) (lines_shown p plan w o) i))))
    ∙ (ap (λ (b : Bool). body_plan p (cond b body (first ∷ body))) head_is
    ∙ body_read p 2 plan w o))

same_plan : (plan q : Plan) → each_next act_before plan.acts ≡ true → IsPutInOrder plan q → q ≡ plan
same_plan plan q o h =
    let acts = put_in_order_same plan.acts q.acts o h.acts h.in_order in
    let end = h.end in
    λ i. record { acts = acts i; end = end i }

no_fault : (w : Result Plan PlanFault) (plan : Plan) (f : PlanFault) → w ≡ Ok plan → w ≡ Err f → ⊥
no_fault w plan f h k = absurd (cc)

answer : (plan : Plan) (w : Result Plan PlanFault) → w ≡ Ok plan → (f : PlanFault) → IsFaultOf w f
    → (◌≡◌ {A = Result Plan PlanFault} (Err f) (Ok plan)) ⊎ (◌≡◌ {A = Result Plan PlanFault} (Err f) (Err faults.NoMemory))
answer plan w e (faults.Shape n) h = absurd (no_fault w plan (faults.Shape n) e h)
answer plan w e (faults.UnknownAction n) h = absurd (no_fault w plan (faults.UnknownAction n) e h)
answer plan w e (faults.NotWhole n) h = absurd (no_fault w plan (faults.NotWhole n) e h)
answer plan w e (faults.TooLarge n) h = absurd (no_fault w plan (faults.TooLarge n) e h)
answer plan w e faults.NoMemory h = inr refl

-- whatever is read of the text of a plan is that plan, unless memory is refused
pub read_back : (p : Problem) (plan : Plan) → ground.IsWellFormed p → IsOrderly p plan
    → (r : Result Plan PlanFault) → IsReading p (plan_text p plan) r → (r ≡ Ok plan) ⊎ (r ≡ Err faults.NoMemory)
read_back p plan w o (Ok q) h =
    let put : IsPutInOrder plan q = subst (λ (v : Result Plan PlanFault). IsOrdered v q) (plan_written p plan w o) h in
    inl (ap (λ (v : Plan). Ok v) (same_plan plan q o.in_order put))
read_back p plan w o (Err f) h = answer plan (written_plan p (plan_text p plan)) (plan_written p plan w o) f h
