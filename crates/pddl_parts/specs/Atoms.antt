-- Terms, and atoms and function terms over what is declared.
use Rattle.std.specs.Prelude.{ℕ, suc, Bool, nat_eq, if◌then◌else◌, List, [], ◌∷◌, ◌++◌, Option, Some, None}
use Rattle.std.specs.List.{list_any}
use Rattle.std.specs.Str.{bytes_eq}
use Rattle.pddl_tokens.specs.Trees.{Trees, Leaf, Node, End, More}
use Rattle.pddl_parts.specs.declared.faults.Fault.{Fault}
use Rattle.pddl_parts.specs.declared.faults.Kind.TheVariants.{Shape, LeftOut, Unknown, Arity}
use Rattle.pddl_parts.specs.Settings.{Setting}
use Rattle.pddl_parts.specs.First.{fault}
use Rattle.pddl_parts.specs.Tables.{value_of}
use Rattle.pddl_parts.specs.Words.{is_variable, is_name}
use Rattle.pddl_parts.specs.Literals.{is_left_out_at, unfit_list, name_faults}

-- a name where only a declared one may stand
abbrev pub known_faults : Bool → ℕ → List Fault
known_faults known at = if known then [] else fault Unknown at ∷ []

-- a variable or an object where one is to stand
abbrev pub term_faults : Setting → ℕ → List ℕ → List Fault
term_faults setting at text =
    if is_left_out_at setting.place text then fault LeftOut at ∷ []
    else if is_variable text then known_faults (list_any (bytes_eq text) setting.variables) at
    else if is_name text then known_faults (list_any (bytes_eq text) setting.scope.objects) at
    else fault Shape at ∷ []

-- terms, up to the closing parenthesis
abbrev pub terms_faults : Setting → Trees → List Fault
terms_faults setting End = []
terms_faults setting (More (Leaf at text) rest) =
    term_faults setting at text ++ terms_faults setting rest
terms_faults setting (More (Node at close parts) rest) =
    unfit_list setting.place at parts ++ terms_faults setting rest

-- how many forms there are
abbrev pub count_of : Trees → ℕ
count_of End = 0
count_of (More t rest) = suc (count_of rest)

-- a name is declared with its number of arguments
abbrev pub arity_faults : Option ℕ → ℕ → ℕ → Trees → List Fault
arity_faults None head at arguments = fault Unknown head ∷ []
arity_faults (Some n) head at arguments =
    if nat_eq (count_of arguments) n then [] else fault Arity at ∷ []

-- what is wrong with a list of a name of this table and its arguments
abbrev pub atom_faults : Setting → List (List ℕ × ℕ) → ℕ → ℕ → List ℕ → Trees → List Fault
atom_faults setting table at head text arguments =
    name_faults head text
    ++ (arity_faults (value_of table text) head at arguments ++ terms_faults setting arguments)

-- a predicate with its arguments
abbrev pub predicate_faults : Setting → ℕ → ℕ → List ℕ → Trees → List Fault
predicate_faults setting at head text arguments =
    atom_faults setting setting.scope.predicates at head text arguments
