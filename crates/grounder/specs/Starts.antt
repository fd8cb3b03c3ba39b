-- What holds at the start.
use Rattle.std.specs.Prelude.{◌≡◌, ℕ, ℤ, pos, negsuc, int_le, ◌+ℤ◌, ◌-ℤ◌, ◌^◌, ◌-◌, Bool, ◌&&◌, List, [], ◌∷◌, Option, Some, None, if◌then◌else◌}
use Rattle.std.specs.List.{list_any}
use Rattle.std.specs.Str.{bytes_eq}
use Rattle.tp_spec.specs.States.{of_both}
use Rattle.pddl_meaning.specs.declared.values.Value.{Value, fold-Value}
use Rattle.pddl_meaning.specs.declared.values.Value.TheOpen.{Value-F}
use Rattle.pddl_problem.specs.declared.task.Given.{Given}
use Rattle.grounder.specs.Sources.{Source, atom_name, call_name}

-- whether an atom is true at the start, by its name
abbrev pub is_true : Source → List ℕ → Bool
is_true s name = list_any (λ a. bytes_eq (atom_name s [] a) name) s.task.init

abbrev pub or_else : Option ℤ → Option ℤ → Option ℤ
or_else None other = other
or_else (Some z) other = Some z

-- the value of a function term among some, by its name: the last one, and in an accepted text one
-- that is given again is the same
abbrev pub given_among : Source → List ℕ → List Given → Option ℤ
given_among s name [] = None
given_among s name (g ∷ rest) =
    or_else (given_among s name rest)
    (if bytes_eq (call_name s [] g.target) name then Some g.value else None)

-- the value of a function term at the start
abbrev pub given : Source → List ℕ → Option ℤ
given s name = given_among s name s.task.values

abbrev pub is_i128 : ℤ → Bool
is_i128 z = int_le (negsuc (2 ^ 127 - 1)) z && int_le z (pos (2 ^ 127 - 1))

-- no result where a sum leaves 128 bits, which none of an accepted text does: it adds and subtracts
-- numbers of 64 bits at most 32 deep
abbrev pub within : Option ℤ → Option ℤ
within None = None
within (Some z) = if is_i128 z then Some z else None

abbrev pub worth_at : Source → List ℕ → Value-F (Option ℤ) → Option ℤ
worth_at s objects (Value-F.Number n) = Some n
worth_at s objects (Value-F.Call a) = given s (call_name s objects a)
worth_at s objects (Value-F.Sum a b) = within (of_both (λ m n. m +ℤ n) a b)
worth_at s objects (Value-F.Difference a b) = within (of_both (λ m n. m -ℤ n) a b)

-- the value of an expression at the start under a substitution, none where a function has none
abbrev pub worth : Source → List ℕ → Value → Option ℤ
worth s objects v = fold-Value (Option ℤ) (worth_at s objects) v

-- a test that tells what is true at the start, and a look-up that gives the values there
abbrev pub Tells : Source → (List ℕ → Bool) → Type 0
Tells s test = (name : List ℕ) → test name ≡ is_true s name

abbrev pub Gives : Source → (List ℕ → Option ℤ) → Type 0
Gives s look = (name : List ℕ) → look name ≡ given s name
