-- Small domains and problems, for what the definitions say of them.
use Rattle.std.specs.Prelude.{ℕ, pos, Bool, true, false, List, [], ◌∷◌, Some, None, codes}
use Rattle.tp_spec.specs.declared.problem.How.{How}
use Rattle.pddl_meaning.specs.declared.groups.Object.{Object as Thing}
use Rattle.pddl_meaning.specs.declared.terms.Term.{Term}
use Rattle.pddl_meaning.specs.declared.terms.Term.TheVariants.{Parameter, Object}
use Rattle.pddl_meaning.specs.declared.terms.Atom.{Atom}
use Rattle.pddl_meaning.specs.declared.values.Value.{Value}
use Rattle.pddl_meaning.specs.declared.values.Value.TheVariants.{Number, Call}
use Rattle.pddl_meaning.specs.declared.conditions.Condition.{Condition}
use Rattle.pddl_meaning.specs.declared.conditions.Condition.TheVariants.{Lit, Same}
use Rattle.pddl_meaning.specs.declared.changes.Change.{Change}
use Rattle.pddl_meaning.specs.declared.changes.Change.TheVariants.{Lit as Make, Update}
use Rattle.pddl_domain.specs.declared.domain.Bound.{Bound}
use Rattle.pddl_domain.specs.declared.domain.Bound.TheVariants.{Least, Most}
use Rattle.pddl_domain.specs.declared.domain.Sort.{Sort}
use Rattle.pddl_domain.specs.declared.domain.Head.{Head}
use Rattle.pddl_domain.specs.declared.domain.Schema.{Schema}
use Rattle.pddl_domain.specs.declared.domain.Domain.{Domain}
use Rattle.pddl_problem.specs.declared.task.Dated.{Dated}
use Rattle.grounder.specs.Sources.{Source}

abbrev pub sort : List ℕ → ℕ → Sort
sort name parent = record { name = name; parent = parent }

abbrev pub head : List ℕ → List ℕ → Head
head name sorts = record { name = name; sorts = sorts }

abbrev pub thing : List ℕ → ℕ → Thing
thing name sort = record { name = name; sort = sort }

abbrev pub atom : ℕ → List Term → Atom
atom head terms = record { head = head; terms = terms }

abbrev pub dated : ℕ → Bool → Atom → Dated
dated tick positive a = record { tick = tick; positive = positive; atom = a }

abbrev pub first : Term
first = Parameter 0

abbrev pub second : Term
second = Parameter 1

-- an action that asks and does nothing
abbrev pub idle : List ℕ → List ℕ → Schema
idle name sorts =
    record {
      name = name;
      sorts = sorts;
      bounds = None;
      start_conds = [];
      all_conds = [];
      end_conds = [];
      start_effects = [];
      end_effects = [];
    }

abbrev pub five : Value
five = Number (pos 5)

-- `go`, from one place to another, in five ticks; `open` is asked at its end
abbrev pub go : Schema
go = record (idle (codes "go") (1 ∷ 1 ∷ [])) {
  bounds = Some (Least five ∷ Most five ∷ []);
  start_conds = Same false first second ∷ Lit true (atom 0 (first ∷ [])) ∷ [];
  end_conds = Lit true (atom 1 []) ∷ [];
  start_effects = Make false (atom 0 (first ∷ [])) ∷ [];
  end_effects = Make true (atom 0 (second ∷ [])) ∷ [];
}

-- places, with a predicate called `at`, and these actions
abbrev pub places : List Schema → Domain
places actions =
    record {
      name = codes "t";
      types = sort (codes "object") 0 ∷ sort (codes "place") 0 ∷ [];
      constants = [];
      predicates = head (codes "at") (1 ∷ []) ∷ head (codes "open") [] ∷ [];
      functions = [];
      actions = actions;
    }

-- from a to b; what is open at first is closed at 9, which is said twice
abbrev pub trip : Source
trip = record {
  domain = places (go ∷ []);
  task = record {
    objects = thing (codes "a") 1 ∷ thing (codes "b") 1 ∷ [];
    init = atom 0 (Object 0 ∷ []) ∷ atom 1 [] ∷ [];
    values = [];
    timed = dated 9 false (atom 1 []) ∷ dated 9 false (atom 1 []) ∷ [];
    goal = Lit true (atom 0 (Object 1 ∷ [])) ∷ [];
  };
}

-- types with objects: `c` is a truck, and so a vehicle; `x` a vehicle; `y` an object
abbrev pub vehicles : Source
vehicles = record {
  domain = record {
    name = codes "v";
    types = sort (codes "object") 0 ∷ sort (codes "vehicle") 0 ∷ sort (codes "truck") 1 ∷ [];
    constants = thing (codes "c") 2 ∷ [];
    predicates = [];
    functions = [];
    actions = [];
  };
  task = record {
    objects = thing (codes "c") 2 ∷ thing (codes "x") 1 ∷ thing (codes "y") 0 ∷ [];
    init = [];
    values = [];
    timed = [];
    goal = [];
  };
}

-- Objects `a` and `b`; a predicate `p` that is true of a, a function `f` with the value 7 of a and
-- none of b; these actions, of which the first may be for a type without objects, and this goal.
abbrev pub small : List Schema → List Condition → Source
small actions goal = record {
  domain = record {
    name = codes "s";
    types = sort (codes "object") 0 ∷ sort (codes "none") 0 ∷ [];
    constants = [];
    predicates = head (codes "p") (0 ∷ []) ∷ head (codes "q") (0 ∷ []) ∷ [];
    functions = head (codes "f") (0 ∷ []) ∷ head (codes "g") (0 ∷ []) ∷ [];
    actions = actions;
  };
  task = record {
    objects = thing (codes "a") 0 ∷ thing (codes "b") 0 ∷ [];
    init = atom 0 (Object 0 ∷ []) ∷ [];
    values = record { target = atom 0 (Object 0 ∷ []); value = pos 7 } ∷ [];
    timed = [];
    goal = goal;
  };
}

-- `p` and `f` of the first parameter
abbrev pub is_p : Condition
is_p = Lit true (atom 0 (first ∷ []))

abbrev pub f : Value
f = Call (atom 0 (first ∷ []))

-- `f` of `a`, and of the first parameter, as the target of an update
abbrev pub update : How → ℕ → List Term → Change
update how function terms = Update how (atom function terms) (Number (pos 1))

-- an action `t` of one parameter with these bounds
abbrev pub lasting : List Bound → Schema
lasting bounds = record (idle (codes "t") (0 ∷ [])) { bounds = Some bounds }

abbrev pub asking : List Condition → List Condition → List Condition → Schema
asking start all end = record (idle (codes "t") (0 ∷ [])) {
  start_conds = start;
  all_conds = all;
  end_conds = end;
}

abbrev pub doing : List Change → List Change → Schema
doing start end = record (idle (codes "t") (0 ∷ 0 ∷ [])) {
  start_effects = start;
  end_effects = end;
}

-- timed literals of two ticks, the later tick and the later names first
abbrev pub timed_two : Source
timed_two = record (small [] []) {
  task = record (small [] []).task {
    timed = dated 9 true (atom 1 (Object 1 ∷ [])) ∷ dated 3 false (atom 1 (Object 0 ∷ []))
        ∷ dated 9 true (atom 1 (Object 0 ∷ [])) ∷ [];
  };
}
