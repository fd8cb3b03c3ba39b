-- Which items may not stand at one tick.
use Rattle.std.specs.Prelude.{ℕ, Bool, false, ◌||◌, ◌==◌}
use Rattle.std.specs.List.{list_any}
use Rattle.tp_spec.specs.declared.expr.Expr.{Expr, fold-Expr}
use Rattle.tp_spec.specs.declared.expr.Expr.TheOpen.{Expr-F}
use Rattle.tp_spec.specs.declared.plan.Item.{Item}
use Rattle.tp_spec.specs.declared.problem.Effect.{Effect}
use Rattle.tp_spec.specs.declared.problem.Effect.TheVariants.{Add, Delete, Change}
use Rattle.tp_spec.specs.declared.problem.Cond.{Cond}
use Rattle.tp_spec.specs.declared.problem.Cond.TheVariants.{Lit, Compare}
use Rattle.tp_spec.specs.declared.problem.Problem.{Problem}
use Rattle.tp_spec.specs.Items.{effects, conditions, adds, deletes}
use Rattle.tp_spec.specs.WellFormed.{overwrite}

abbrev pub reads_at : ℕ → Expr-F Bool → Bool
reads_at x (Expr-F.Number n) = false
reads_at x (Expr-F.Fluent y) = x == y
reads_at x (Expr-F.Sum a b) = a || b
reads_at x (Expr-F.Difference a b) = a || b

-- whether an expression reads fluent x
abbrev pub reads : ℕ → Expr → Bool
reads x e = fold-Expr Bool (reads_at x) e

-- whether a condition asks fact f, be it to hold or not to hold
abbrev pub asks : ℕ → Cond → Bool
asks f (Lit g positive) = f == g
asks f (Compare op left right) = false

-- whether a condition reads fluent x
abbrev pub cond_reads : ℕ → Cond → Bool
cond_reads x (Lit f positive) = false
cond_reads x (Compare op left right) = reads x left || reads x right

-- whether the right side of an effect reads fluent x. An increase of x does not read x
abbrev pub effect_reads : ℕ → Effect → Bool
effect_reads x (Add f) = false
effect_reads x (Delete f) = false
effect_reads x (Change how y e) = reads x e

-- whether an effect adds, deletes or writes what a condition asks or reads
abbrev pub disturbs : Effect → Cond → Bool
disturbs (Add f) c = asks f c
disturbs (Delete f) c = asks f c
disturbs (Change how x e) c = cond_reads x c

-- whether an effect adds what the other deletes, or writes a fluent that the other reads, or both
-- write one fluent and not both by increase or decrease
abbrev pub collides : Effect → Effect → Bool
collides (Add f) other = deletes f other
collides (Delete f) other = adds f other
collides (Change how x e) other = effect_reads x other || overwrite (Change how x e) other

-- whether an effect of i disturbs a condition of j or collides with an effect of j
abbrev pub touches : Problem → Item → Item → Bool
touches p i j =
    list_any (λ e. list_any (disturbs e) (conditions p j) || list_any (collides e) (effects p j))
    (effects p i)

-- Whether two different items interfere, in either direction. PDDL 2.1, section 6 ('no moving
-- targets'); the part on fluents is this project's own. The code has rows of bits.
abbrev pub interfere : Problem → Item → Item → Bool
interfere p i j = touches p i j || touches p j i
