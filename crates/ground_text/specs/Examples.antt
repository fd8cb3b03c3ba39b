-- A small problem with a part of each kind, for its text to be computed.
use Rattle.std.specs.Prelude.{ℕ, pos, negsuc, true, false, List, [], ◌∷◌, ◌++◌, Some, None, codes}
use Rattle.tp_spec.specs.WellFormed.{Ground}
use Rattle.tp_spec.specs.declared.expr.Expr.{Expr, roll-Expr}
use Rattle.tp_spec.specs.declared.expr.Expr.TheOpen.{Expr-F}
use Rattle.tp_spec.specs.declared.problem.Action.{Action}
use Rattle.tp_spec.specs.declared.problem.Cond.TheVariants.{Lit, Compare}
use Rattle.tp_spec.specs.declared.problem.Effect.TheVariants.{Add, Delete, Change}
use Rattle.tp_spec.specs.declared.problem.How.TheVariants.{Decrease}
use Rattle.tp_spec.specs.declared.problem.Kind.TheVariants.{Instant, Durative}
use Rattle.tp_spec.specs.declared.problem.Op.TheVariants.{MoreEq}

abbrev pub tank : Expr
tank = roll-Expr (Expr-F.Fluent 0)

abbrev pub one_left : Expr
one_left = roll-Expr (Expr-F.Difference tank (roll-Expr (Expr-F.Number (pos 3))))

abbrev pub owed : Expr
owed = roll-Expr (Expr-F.Number (negsuc 1))

-- from a to b, with three units of fuel
abbrev pub go : Action
go = record {
  name = codes "go a b";
  kind = Durative 5 8;
  start_conds = Lit 0 true ∷ Compare MoreEq one_left owed ∷ [];
  all_conds = [];
  end_conds = Lit 2 false ∷ [];
  start_effects = Delete 0 ∷ Change Decrease 0 (roll-Expr (Expr-F.Number (pos 3))) ∷ [];
  end_effects = Add 1 ∷ [];
}

abbrev pub wave : Action
wave =
    record {
      name = codes "wave";
      kind = Instant;
      start_conds = [];
      all_conds = [];
      end_conds = [];
      start_effects = [];
      end_effects = [];
    }

abbrev pub small : Ground
small = record {
  scale = 1;
  facts = codes "at a" ∷ codes "at b" ∷ codes "shut" ∷ [];
  fluents = codes "fuel" ∷ codes "load" ∷ [];
  actions = go ∷ wave ∷ [];
  timed =
      record { tick = 0; adds = 2 ∷ []; deletes = [] }
      ∷ record { tick = 9; adds = 2 ∷ []; deletes = 1 ∷ [] } ∷ [];
  init = 0 ∷ 2 ∷ [];
  values = Some (pos 7) ∷ None ∷ [];
  goal = Lit 1 true ∷ [];
}

-- its text, by the rules of the format
abbrev pub small_text : List ℕ
small_text =
    codes "ground 1\nscale 1\nfacts 3\nat a\nat b\nshut\nfluents 2\nfuel\nload\n"
    ++ codes "actions 2\nact go a b\nlength 5 8\ncs +0 (>= (- n0 3) -2)\nco\nce -2\n"
    ++ codes "es -0 (dec 0 3)\nee +1\nact wave\ninstant\ncs\nes\n"
    ++ codes "timed 2\nat 0 +2\nat 9 -1 +2\ninit 0 2\nvalues 7 -\ngoal +1\nend\n"
