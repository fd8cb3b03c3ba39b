-- What the sections of a domain declare, for its actions.
use Rattle.std.specs.Prelude.{ℕ, Bool, true, false, if◌then◌else◌, List, [], length, codes}
use Rattle.pddl_tokens.specs.Trees.{Trees, Leaf, Node, End, More}
use Rattle.pddl_parts.specs.declared.scope.Scope.{Scope}
use Rattle.pddl_parts.specs.declared.typed.Part.{Part}
use Rattle.pddl_parts.specs.declared.typed.Part.TheVariants.{Start, Items, Hyphen}
use Rattle.pddl_parts.specs.Members.{members_of}
use Rattle.pddl_parts.specs.Words.{is_thing}
use Rattle.pddl_parts.specs.Items.{with_items}
use Rattle.pddl_parts.specs.Tables.{with_value}
use Rattle.domain_faults.specs.declared.heads.HeadKind.{HeadKind}
use Rattle.domain_faults.specs.declared.heads.HeadKind.TheVariants.{Predicates, Functions}
use Rattle.domain_faults.specs.Heads.{parameters, behind_word, behind_list}
use Rattle.domain_faults.specs.Sections.{objects}
use Rattle.domain_faults.specs.Types.{type_names}
use Rattle.domain_faults.specs.Written.{written_of}

-- the heads, with this list's name and the number of its variables where it is a head
abbrev pub with_arity : List (List ℕ × ℕ) → Trees → List (List ℕ × ℕ)
with_arity table End = table
with_arity table (More (Node first end parts) rest) = table
with_arity table (More (Leaf head text) rest) =
    if is_thing text then with_value table text (length (with_items parameters [] Start rest))
    else table

-- but not directly behind a hyphen
abbrev pub with_arity_at : List (List ℕ × ℕ) → Part → Trees → List (List ℕ × ℕ)
with_arity_at table Start parts = with_arity table parts
with_arity_at table Items parts = with_arity table parts
with_arity_at table Hyphen parts = table

-- the heads among the members of `:predicates`, or of `:functions`
abbrev pub with_arities : HeadKind → List (List ℕ × ℕ) → Part → Trees → List (List ℕ × ℕ)
with_arities kind table part End = table
with_arities kind table part (More (Leaf at text) rest) =
    with_arities kind table (behind_word part text) rest
with_arities kind table part (More (Node at end parts) rest) =
    with_arities kind (with_arity_at table part parts) (behind_list kind part) rest

abbrev pub arities_of : HeadKind → Trees → List (List ℕ × ℕ)
arities_of kind members = with_arities kind [] Start members

-- what the sections of a domain declare
abbrev pub scope_of : Trees → Scope
scope_of sections =
    record {
      types = type_names (members_of (codes ":types") sections);
      objects = with_items objects [] Start (members_of (codes ":constants") sections);
      predicates = arities_of Predicates (members_of (codes ":predicates") sections);
      functions = arities_of Functions (members_of (codes ":functions") sections);
      written = written_of sections;
    }
