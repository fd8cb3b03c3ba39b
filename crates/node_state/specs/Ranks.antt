-- What of a goal holds after items that write facts alone, by their effects.
use Rattle.std.specs.Prelude.{◌≡◌, ℕ, Bool, true, false, not, ◌&&◌, ◌||◌, ◌==◌, List, count_by}
use Rattle.std.specs.List.{list_any, list_all}
use Rattle.tp_spec.specs.declared.plan.Item.{Item}
use Rattle.tp_spec.specs.declared.plan.Item.TheVariants.{TimedAt, End, Start}
use Rattle.tp_spec.specs.declared.problem.Cond.{Cond}
use Rattle.tp_spec.specs.declared.problem.Cond.TheVariants.{Lit, Compare}
use Rattle.tp_spec.specs.declared.problem.Effect.{Effect}
use Rattle.tp_spec.specs.declared.problem.Effect.TheVariants.{Add, Delete, Change}
use Rattle.tp_spec.specs.declared.problem.Problem.{Problem}
use Rattle.tp_spec.specs.Items.{adds, deletes, effects}
use Rattle.tp_spec.specs.States.{State, holds}
use Rattle.tp_spec.specs.Words.{Progress}
use Rattle.world_state.specs.declared.rows.BitRow.{BitRow}
use Rattle.world_state.specs.Rows.{is_in_row}

abbrev pub is_of_fact : Effect → Bool
is_of_fact (Add f) = true
is_of_fact (Delete f) = true
is_of_fact (Change how x e) = false

-- whether an item changes no fluent
abbrev pub writes_facts : Problem → Item → Bool
writes_facts p i = list_all is_of_fact (effects p i)

abbrev pub adds_it : Problem → ℕ → Item → Bool
adds_it p f i = list_any (adds f) (effects p i)

abbrev pub deletes_it : Problem → ℕ → Item → Bool
deletes_it p f i = list_any (deletes f) (effects p i)

-- whether a fact is true after a group and some effects more
abbrev pub fact_by : Problem → State → List Item → List Effect → ℕ → Bool
fact_by p s group es f =
    (s.fact f && not (list_any (deletes_it p f) group || list_any (deletes f) es))
    || (list_any (adds_it p f) group || list_any (adds f) es)

-- whether a condition holds after them, where none of them changes a fluent
abbrev pub holds_by : Problem → State → List Item → List Effect → Cond → Bool
holds_by p s group es (Lit f true) = fact_by p s group es f
holds_by p s group es (Lit f false) = not (fact_by p s group es f)
holds_by p s group es (Compare op left right) = holds s (Compare op left right)

-- the same after a group with one item more
abbrev pub fact_with : Problem → State → List Item → Item → ℕ → Bool
fact_with p s group i f = fact_by p s group (effects p i) f

abbrev pub holds_with : Problem → State → List Item → Item → Cond → Bool
holds_with p s group i g = holds_by p s group (effects p i) g

-- whether a condition asks for a fact or for its absence
abbrev pub speaks_of : ℕ → Cond → Bool
speaks_of f (Lit g positive) = f == g
speaks_of f (Compare op left right) = false

-- a row of facts of which no goal part speaks
abbrev pub IsFree : Problem → BitRow → Type 0
IsFree p row = (f : ℕ) → is_in_row row f ≡ true → list_any (speaks_of f) p.goal ≡ false

-- whether an effect writes a fact of a row
abbrev pub writes_in : BitRow → Effect → Bool
writes_in row (Add f) = is_in_row row f
writes_in row (Delete f) = is_in_row row f
writes_in row (Change how x e) = false

-- whether all that the start or the end of an action writes is in a row
abbrev pub stays_in : Problem → BitRow → Item → Bool
stays_in p row (TimedAt k) = false
stays_in p row (End a) = list_all (writes_in row) (effects p (End a))
stays_in p row (Start a) = list_all (writes_in row) (effects p (Start a))

-- how many goal parts do not hold before a group
abbrev pub unmet_before : Problem → Progress → ℕ
unmet_before p c = count_by (λ g. not (holds c.before g)) p.goal
