-- A tree that is being read.
use Rattle.std.specs.Prelude.{◌≡◌, ℕ, List, [], ◌∷◌, ◌++◌, map, reverse, Option, Some}
use Rattle.pddl_tokens.specs.declared.builder.Frame.{Frame}
use Rattle.pddl_tokens.specs.declared.form.Form.{Form}
use Rattle.pddl_tokens.specs.declared.form.TextFault.{TextFault}
use Rattle.pddl_tokens.specs.declared.form.TextFault.TheVariants.{NoMemory}
use Rattle.pddl_tokens.specs.Tokens.{Token, Opens, tokens_from}
use Rattle.pddl_tokens.specs.Trees.{trees_of, all_spelled}
use Rattle.pddl_tokens.specs.Faults.{fault_from}

abbrev pub joined : List (List Token) → List Token
joined [] = []
joined (ts ∷ rest) = ts ++ joined rest

-- what stands before a list's members, from the list around it on, and its parenthesis
abbrev pub frame_tokens : Frame → List Token
frame_tokens f = all_spelled (trees_of f.before) ++ Opens f.at ∷ []

-- all tokens so far: those of the open lists, the outermost first, and of the members of the
-- innermost
abbrev pub read_so_far : List Frame → List Form → List Token
read_so_far frames parts = joined (map frame_tokens frames) ++ all_spelled (trees_of parts)

-- the open parentheses, the innermost first
abbrev pub stack_of : List Frame → List ℕ
stack_of frames = reverse (map (λ f. f.at) frames)

-- these tokens are no fault: behind them the rest decides
abbrev pub GoesOn : List ℕ → List ℕ → List Token → Type 0
GoesOn old new ts =
    (bad : Option ℕ) (rest : List Token) → fault_from bad old (ts ++ rest) ≡ fault_from bad new rest

-- a fault among these tokens, whatever follows
abbrev pub IsFaultAmong : TextFault → List ℕ → List Token → Type 0
IsFaultAmong NoMemory stack ts = Unit {0}
IsFaultAmong f stack ts =
    (bad : Option ℕ) (rest : List Token) → fault_from bad stack (ts ++ rest) ≡ Some f

-- a list without its first member
abbrev pub IsTail : List ℕ → List ℕ → Type 0
IsTail rest [] = ⊥
IsTail rest (x ∷ xs) = rest ≡ xs

-- a fault at a byte, whatever follows
abbrev pub IsFaultAt : TextFault → List ℕ → ℕ → List ℕ → ℕ → Type 0
IsFaultAt NoMemory stack at word c = Unit {0}
IsFaultAt f stack at word c =
    (bad : Option ℕ) (rest : List ℕ)
    → fault_from bad stack (tokens_from at word (c ∷ rest)) ≡ Some f
