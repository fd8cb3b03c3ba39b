-- The first fault of a text.
use Rattle.std.specs.Prelude.{◌≡◌, ℕ, nat_eq, if◌then◌else◌, List, [], ◌∷◌, length, Option, Some, None, Result, Ok, Err, take}
use Rattle.std.specs.Str.Lossy.{utf8_valid_len}
use Rattle.pddl_tokens.specs.declared.form.TextFault.{TextFault}
use Rattle.pddl_tokens.specs.declared.form.TextFault.TheVariants.{NotUtf8, Unopened, Unclosed, TooDeep, NoMemory}
use Rattle.pddl_tokens.specs.Tokens.{Token, Opens, Closes, Spells, tokens_of_text}

-- where nothing follows: the byte that is no text, where there is one, or else the innermost open
-- parenthesis
abbrev pub fault_at_end : Option ℕ → List ℕ → Option TextFault
fault_at_end (Some bad) stack = Some (NotUtf8 bad)
fault_at_end None [] = None
fault_at_end None (at ∷ outer) = Some (Unclosed at)

-- the first fault among tokens that follow open parentheses, the innermost first; a list may be
-- nested 64 deep
abbrev pub fault_from : Option ℕ → List ℕ → List Token → Option TextFault
fault_from bad stack [] = fault_at_end bad stack
fault_from bad stack (Spells at text ∷ rest) = fault_from bad stack rest
fault_from bad stack (Opens at ∷ rest) =
    if nat_eq (length stack) 64 then Some (TooDeep at) else fault_from bad (at ∷ stack) rest
fault_from bad [] (Closes at ∷ rest) = Some (Unopened at)
fault_from bad (inner ∷ outer) (Closes at ∷ rest) = fault_from bad outer rest

-- the first byte that is no text
abbrev pub bad_byte : List ℕ → Option ℕ
bad_byte text =
    if nat_eq (utf8_valid_len text) (length text) then None else Some (utf8_valid_len text)

-- the first fault of a text, by its bytes before the first one that is no text
abbrev pub fault_of : List ℕ → Option TextFault
fault_of text = fault_from (bad_byte text) [] (tokens_of_text (take (utf8_valid_len text) text))

-- what a reader answers: an Ok where there is no fault, this one, or that memory was refused
abbrev pub Gives : {A : Type 0} → Result A TextFault → Option TextFault → Type 0
Gives (Ok x) fault = fault ≡ None
Gives (Err NoMemory) fault = Unit {0}
Gives (Err f) fault = fault ≡ Some f
