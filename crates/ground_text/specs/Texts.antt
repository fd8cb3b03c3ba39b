-- The canonical ground text of a problem.
use Rattle.std.specs.Prelude.{ℕ, ℤ, true, false, List, [], ◌∷◌, ◌++◌, length, map, Option, Some, None, codes, decimal, nat_lt, if◌then◌else◌}
use Rattle.std.specs.Fmt.{signed_decimal}
use Rattle.std.specs.List.{flat_map}
use Rattle.tp_spec.specs.WellFormed.{Ground}
use Rattle.tp_spec.specs.declared.expr.Expr.{Expr, fold-Expr}
use Rattle.tp_spec.specs.declared.expr.Expr.TheOpen.{Expr-F}
use Rattle.tp_spec.specs.declared.problem.Action.{Action}
use Rattle.tp_spec.specs.declared.problem.Cond.{Cond}
use Rattle.tp_spec.specs.declared.problem.Cond.TheVariants.{Lit, Compare}
use Rattle.tp_spec.specs.declared.problem.Effect.{Effect}
use Rattle.tp_spec.specs.declared.problem.Effect.TheVariants.{Add, Delete, Change}
use Rattle.tp_spec.specs.declared.problem.How.{How}
use Rattle.tp_spec.specs.declared.problem.How.TheVariants.{Increase, Decrease, Assign}
use Rattle.tp_spec.specs.declared.problem.Kind.{Kind}
use Rattle.tp_spec.specs.declared.problem.Kind.TheVariants.{Instant, Durative}
use Rattle.tp_spec.specs.declared.problem.Op.{Op}
use Rattle.tp_spec.specs.declared.problem.Op.TheVariants.{Less, LessEq, Equal, MoreEq, More}
use Rattle.tp_spec.specs.declared.problem.TimedItem.{TimedItem}

-- members of a line, each behind one space
unfoldable pub listed : {A : Type 0} → (A → List ℕ) → List A → List ℕ
listed text xs = flat_map (λ x. codes " " ++ text x) xs

-- a number, the fluent k as `nk`, `(+ E E)` or `(- E E)`
abbrev pub expr_text_at : Expr-F (List ℕ) → List ℕ
expr_text_at (Expr-F.Number z) = signed_decimal z
expr_text_at (Expr-F.Fluent x) = codes "n" ++ decimal x
expr_text_at (Expr-F.Sum a b) = codes "(+ " ++ a ++ codes " " ++ b ++ codes ")"
expr_text_at (Expr-F.Difference a b) = codes "(- " ++ a ++ codes " " ++ b ++ codes ")"

unfoldable pub expr_text : Expr → List ℕ
expr_text e = fold-Expr (List ℕ) expr_text_at e

abbrev pub op_text : Op → List ℕ
op_text Less = codes "<"
op_text LessEq = codes "<="
op_text Equal = codes "="
op_text MoreEq = codes ">="
op_text More = codes ">"

-- `+f` where the fact f is to hold, `-f` where it is not to, or `(op E E)`
unfoldable pub cond_text : Cond → List ℕ
cond_text (Lit fact true) = codes "+" ++ decimal fact
cond_text (Lit fact false) = codes "-" ++ decimal fact
cond_text (Compare op left right) =
    codes "(" ++ op_text op ++ codes " " ++ expr_text left ++ codes " " ++ expr_text right
    ++ codes ")"

abbrev pub how_text : How → List ℕ
how_text Increase = codes "inc"
how_text Decrease = codes "dec"
how_text Assign = codes "set"

-- `+f` adds the fact f, `-f` deletes it; `(inc k E)`, `(dec k E)` and `(set k E)` change the fluent
-- k
unfoldable pub effect_text : Effect → List ℕ
effect_text (Add fact) = codes "+" ++ decimal fact
effect_text (Delete fact) = codes "-" ++ decimal fact
effect_text (Change how fluent e) =
    codes "(" ++ how_text how ++ codes " " ++ decimal fluent ++ codes " " ++ expr_text e
    ++ codes ")"

-- what stands behind the name of an action; an instant action has a start alone
unfoldable pub body_text : Kind → Action → List ℕ
body_text Instant a =
    codes "instant\ncs" ++ listed cond_text a.start_conds
    ++ codes "\nes" ++ listed effect_text a.start_effects ++ codes "\n"
body_text (Durative least most) a =
    codes "length " ++ decimal least ++ codes " " ++ decimal most
    ++ codes "\ncs" ++ listed cond_text a.start_conds
    ++ codes "\nco" ++ listed cond_text a.all_conds
    ++ codes "\nce" ++ listed cond_text a.end_conds
    ++ codes "\nes" ++ listed effect_text a.start_effects
    ++ codes "\nee" ++ listed effect_text a.end_effects ++ codes "\n"

unfoldable pub action_text : Action → List ℕ
action_text a = codes "act " ++ a.name ++ codes "\n" ++ body_text a.kind a

-- the literals of a timed item, in order of their facts where each kind rises
abbrev pub merged : List ℕ → List ℕ → List Effect
merged [] deletes = map Delete deletes
merged (a ∷ adds) [] = map Add (a ∷ adds)
merged (a ∷ adds) (d ∷ deletes) =
    if nat_lt a d then Add a ∷ merged adds (d ∷ deletes) else Delete d ∷ merged (a ∷ adds) deletes

unfoldable pub timed_text : TimedItem → List ℕ
timed_text t =
    codes "at " ++ decimal t.tick ++ listed effect_text (merged t.adds t.deletes) ++ codes "\n"

-- a fluent's value at the start, or `-` where it has none
abbrev pub value_text : Option ℤ → List ℕ
value_text None = codes "-"
value_text (Some z) = signed_decimal z

unfoldable pub name_text : List ℕ → List ℕ
name_text name = name ++ codes "\n"

-- a number, and then as many lines or blocks
unfoldable pub counted : {A : Type 0} → (A → List ℕ) → List A → List ℕ
counted text xs = decimal (length xs) ++ codes "\n" ++ flat_map text xs

-- the first two lines, but for the end of the second
unfoldable pub header_text : ℕ → List ℕ
header_text scale = codes "ground 1\nscale " ++ decimal scale

-- The one text of a problem: ASCII lines, each ended by a line feed, one space between words. This
-- project's own format; the parts are those of a ground problem of PDDL 2.1 with timed initial
-- literals.
unfoldable pub problem_text : Ground → List ℕ
problem_text p =
    header_text p.scale
    ++ codes "\nfacts " ++ counted name_text p.facts
    ++ codes "fluents " ++ counted name_text p.fluents
    ++ codes "actions " ++ counted action_text p.actions
    ++ codes "timed " ++ counted timed_text p.timed
    ++ codes "init" ++ listed decimal p.init
    ++ codes "\nvalues" ++ listed value_text p.values
    ++ codes "\ngoal" ++ listed cond_text p.goal
    ++ codes "\nend\n"
