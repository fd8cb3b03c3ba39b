-- What a problem may name: what its domain declares, and its own objects.
use Rattle.std.specs.Prelude.{ℕ, List, [], ◌∷◌, length}
use Rattle.pddl_tokens.specs.Trees.{Trees}
use Rattle.pddl_parts.specs.declared.scope.Scope.{Scope}
use Rattle.pddl_parts.specs.declared.typed.Part.TheVariants.{Start}
use Rattle.pddl_parts.specs.Names.{with_name}
use Rattle.pddl_parts.specs.Tables.{with_value}
use Rattle.pddl_parts.specs.Items.{with_items}
use Rattle.pddl_meaning.specs.declared.groups.Object.{Object}
use Rattle.pddl_domain.specs.declared.domain.Sort.{Sort}
use Rattle.pddl_domain.specs.declared.domain.Head.{Head}
use Rattle.pddl_domain.specs.declared.domain.Domain.{Domain}
use Rattle.domain_faults.specs.Sections.{objects}

-- the names of types
abbrev pub with_sorts : List (List ℕ) → List Sort → List (List ℕ)
with_sorts names [] = names
with_sorts names (s ∷ sorts) = with_sorts (with_name names s.name) sorts

-- the names of constants
abbrev pub with_constants : List (List ℕ) → List Object → List (List ℕ)
with_constants names [] = names
with_constants names (o ∷ constants) = with_constants (with_name names o.name) constants

-- the constants with the numbers of their types
abbrev pub with_typed : List (List ℕ × ℕ) → List Object → List (List ℕ × ℕ)
with_typed table [] = table
with_typed table (o ∷ constants) = with_typed (with_value table o.name o.sort) constants

-- heads with the numbers of their arguments
abbrev pub with_heads : List (List ℕ × ℕ) → List Head → List (List ℕ × ℕ)
with_heads table [] = table
with_heads table (h ∷ heads) = with_heads (with_value table h.name (length h.sorts)) heads

-- what `:init` and `:goal` may name, by the members of `:objects`
abbrev pub scope_of : Domain → Trees → Scope
scope_of domain members =
    record {
      types = with_sorts [] domain.types;
      objects = with_items objects (with_constants [] domain.constants) Start members;
      predicates = with_heads [] domain.predicates;
      functions = with_heads [] domain.functions;
      written = [];
    }
