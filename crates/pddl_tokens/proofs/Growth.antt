-- How a tree grows by one token.
use Rattle.std.proofs.Common.{◌≡◌, ℕ, List, [], ◌∷◌, ◌++◌, Bool, true, false, suc, ◌+◌, Option, Some, None, cond, nat_eq, map, length, refl, ap, sym, ◌∙◌, append_assoc, append-nil, add-one, take, arith, eqb-true}
use Rattle.std.specs.Str.Lossy.{utf8_valid_len}
use Rattle.std.proofs.lemmas.List.{map-append, length-map, length-reverse, length-take, take_all}
use Rattle.pddl_tokens.specs.declared.builder.Frame.{Frame}
use Rattle.pddl_tokens.specs.declared.form.Form.{Form}
use Rattle.pddl_tokens.specs.declared.form.TextFault.TheVariants.{TooDeep}
use Rattle.pddl_tokens.specs.Tokens.{Token, Opens, Closes, Spells, tokens_from, word_before, mark_at, is_letter, tokens_of_text}
use Rattle.pddl_tokens.specs.Trees.{tree_of, trees_of, spelled, all_spelled}
use Rattle.pddl_tokens.specs.Faults.{fault_from, fault_of}
use Rattle.pddl_tokens.specs.Building.{joined, read_so_far, frame_tokens, stack_of, GoesOn}

-- one member more
pub all_spelled-push : (parts : List Form) (form : Form) → all_spelled (trees_of (parts ++ form ∷ [])) ≡ all_spelled (trees_of parts) ++ spelled (tree_of form)
all_spelled-push [] form = append-nil (spelled (tree_of form))
all_spelled-push (p ∷ parts) form =
    ap (λ ts. spelled (tree_of p) ++ ts) (all_spelled-push parts form)
    ∙ sym (append_assoc (spelled (tree_of p)) (all_spelled (trees_of parts)) (spelled (tree_of form)))

joined-push : (a : List (List Token)) (ts : List Token) → joined (a ++ ts ∷ []) ≡ joined a ++ ts
joined-push [] ts = append-nil ts
joined-push (us ∷ a) ts = ap (λ x. us ++ x) (joined-push a ts) ∙ sym (append_assoc us (joined a) ts)

frames-push : (frames : List Frame) (f : Frame) → joined (map frame_tokens (frames ++ f ∷ [])) ≡ joined (map frame_tokens frames) ++ frame_tokens f
frames-push frames f = ap joined (map-append frame_tokens frames (f ∷ [])) ∙ joined-push (map frame_tokens frames) (frame_tokens f)

-- one form more
pub read_form : (frames : List Frame) (parts : List Form) (form : Form) → read_so_far frames (parts ++ form ∷ []) ≡ read_so_far frames parts ++ spelled (tree_of form)
read_form frames parts form =
    ap (λ ts. joined (map frame_tokens frames) ++ ts) (all_spelled-push parts form)
    ∙ sym (append_assoc (joined (map frame_tokens frames)) (all_spelled (trees_of parts)) (spelled (tree_of form)))

-- one list more that is open
pub read_frame : (frames : List Frame) (f : Frame) (parts : List Form) → read_so_far (frames ++ f ∷ []) parts ≡ read_so_far frames f.before ++ Opens f.at ∷ all_spelled (trees_of parts)
read_frame frames f parts =
    ap (λ ts. ts ++ all_spelled (trees_of parts)) (frames-push frames f)
    ∙ (append_assoc (joined (map frame_tokens frames)) (frame_tokens f) (all_spelled (trees_of parts))
    ∙ (ap (λ ts. joined (map frame_tokens frames) ++ ts) (append_assoc (all_spelled (trees_of f.before)) (Opens f.at ∷ []) (all_spelled (trees_of parts)))
    ∙ sym (append_assoc (joined (map frame_tokens frames)) (all_spelled (trees_of f.before)) (Opens f.at ∷ all_spelled (trees_of parts)))))

-- a list ends
pub read_end : (frames : List Frame) (f : Frame) (parts : List Form) (close : ℕ) (form : Form)
    → spelled (tree_of form) ≡ Opens f.at ∷ (all_spelled (trees_of parts) ++ Closes close ∷ [])
    → read_so_far frames (f.before ++ form ∷ []) ≡ read_so_far (frames ++ f ∷ []) parts ++ Closes close ∷ []
read_end frames f parts close form e =
    read_form frames f.before form
    ∙ (ap (λ ts. read_so_far frames f.before ++ ts) e
    ∙ (sym (append_assoc (read_so_far frames f.before) (Opens f.at ∷ all_spelled (trees_of parts)) (Closes close ∷ []))
    ∙ ap (λ ts. ts ++ Closes close ∷ []) (sym (read_frame frames f parts))))

pub stack_length : (frames : List Frame) → length (stack_of frames) ≡ length frames
stack_length frames = length-reverse (map (λ (f : Frame). f.at) frames) ∙ length-map frames (λ f. f.at)

-- a word is no fault
pub word_passes : (bad : Option ℕ) (stack : List ℕ) (at : ℕ) (word : List ℕ) (rest : List Token) → fault_from bad stack (word_before at word ++ rest) ≡ fault_from bad stack rest
word_passes bad stack at [] rest = refl
word_passes bad stack at (c ∷ word) rest = refl

-- what a byte does
pub reads_letter : (at : ℕ) (word : List ℕ) (c : ℕ) (rest : List ℕ) → is_letter c ≡ true → tokens_from at word (c ∷ rest) ≡ tokens_from (at + 1) (word ++ c ∷ []) rest
reads_letter at word c rest h = rw (h, add-one) refl

pub reads_mark : (at : ℕ) (word : List ℕ) (c : ℕ) (rest : List ℕ) → is_letter c ≡ false → tokens_from at word (c ∷ rest) ≡ word_before at word ++ (mark_at at c ++ tokens_from (at + 1) [] rest)
reads_mark at word c rest h = rw (h, add-one) (append_assoc (word_before at word) (mark_at at c) (tokens_from (suc at) [] rest))

some_or : {A : Type 0} (b : Bool) (f : A) (y : Option A) → cond b (Some f) y ≡ None → (y ≡ None → ⊥) → ⊥
some_or true f y h k = cc
some_or false f y h k = k h

-- what is no text is a fault
pub bad_is_fault : (n : ℕ) (stack : List ℕ) (ts : List Token) → fault_from (Some n) stack ts ≡ None → ⊥
bad_is_fault n stack [] h = cc
bad_is_fault n stack (Spells at text ∷ rest) h = bad_is_fault n stack rest h
bad_is_fault n stack (Opens at ∷ rest) h = some_or (nat_eq (length stack) 64) (TooDeep at) (fault_from (Some n) (at ∷ stack) rest) h (bad_is_fault n (at ∷ stack) rest)
bad_is_fault n [] (Closes at ∷ rest) h = cc
bad_is_fault n (o ∷ outer) (Closes at ∷ rest) h = bad_is_fault n outer rest h

-- a byte that ends a word
pub step_goes : (old mid new : List ℕ) (at : ℕ) (word after : List ℕ) (c : ℕ) → is_letter c ≡ false → mid ≡ old → after ≡ [] → GoesOn mid new (mark_at at c)
    → (bad : Option ℕ) (rest : List ℕ) → fault_from bad new (tokens_from (at + 1) after rest) ≡ fault_from bad old (tokens_from at word (c ∷ rest))
step_goes old mid new at word after c h e n g bad rest =
    ap (λ (w : List ℕ). fault_from bad new (tokens_from (at + 1) w rest)) n
    ∙ sym (ap (λ (ts : List Token). fault_from bad old ts) (reads_mark at word c rest h)
    ∙ (word_passes bad old at word (mark_at at c ++ tokens_from (at + 1) [] rest)
    ∙ (ap (λ (s : List ℕ). fault_from bad s (mark_at at c ++ tokens_from (at + 1) [] rest)) (sym e)
    ∙ g bad (tokens_from (at + 1) [] rest))))

-- where there is no fault all bytes are text
pub all_valid : (text : List ℕ) → fault_of text ≡ None → take (utf8_valid_len text) text ≡ text
all_valid text h = from_test (nat_eq (utf8_valid_len text) (length text)) refl
  where
    from_test : (b : Bool) → nat_eq (utf8_valid_len text) (length text) ≡ b → take (utf8_valid_len text) text ≡ text
    from_test true e = rw (eqb-true (utf8_valid_len text) (length text) e) (take_all (length text) text (omega arith))
    from_test false e = absurd (bad_is_fault (utf8_valid_len text) [] (tokens_of_text (take (utf8_valid_len text) text)) (rw e at h))

pub tokens_valid : (text : List ℕ) → fault_of text ≡ None → tokens_of_text (take (utf8_valid_len text) text) ≡ tokens_of_text text
tokens_valid text h = ap tokens_of_text (all_valid text h)

pub ruleset whole = (tokens_valid, length-take)

pub ruleset reads = (reads_letter, reads_mark, word_passes)
