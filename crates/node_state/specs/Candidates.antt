-- Which actions may start, as far as the first fact that each wants tells.
use Rattle.std.specs.Prelude.{◌≡◌, ℕ, Bool, true, false, ◌&&◌, ◌==◌, nat_lt, List, [], ◌∷◌, length, Option, Some, None, slice_get, if◌then◌else◌}
use Rattle.tp_spec.specs.declared.problem.Cond.{Cond}
use Rattle.tp_spec.specs.declared.problem.Cond.TheVariants.{Lit, Compare}
use Rattle.tp_spec.specs.declared.problem.Problem.{Problem}
use Rattle.tp_spec.specs.declared.plan.Item.TheVariants.{Start}
use Rattle.tp_spec.specs.Items.{conditions}
use Rattle.world_state.specs.declared.rows.BitRow.{BitRow}
use Rattle.world_state.specs.Rows.{is_in_row, width, words_for}
use Rattle.node_state.specs.declared.wants.Wants.{Wants}

-- the fact that a condition wants to hold, one of the first n
abbrev pub wanted_by : ℕ → Cond → Option ℕ
wanted_by n (Lit f true) = if nat_lt f n then Some f else None
wanted_by n (Lit f false) = None
wanted_by n (Compare op left right) = None

abbrev pub or_else : Option ℕ → Option ℕ → Option ℕ
or_else (Some f) other = Some f
or_else None other = other

-- the first fact that conditions want to hold
abbrev pub first_wanted : ℕ → List Cond → Option ℕ
first_wanted n [] = None
first_wanted n (c ∷ cs) = or_else (wanted_by n c) (first_wanted n cs)

-- the first fact that the start of an action wants
abbrev pub want_of : Problem → ℕ → Option ℕ
want_of p a = first_wanted (length p.facts) (conditions p (Start a))

abbrev pub is_fact : ℕ → Option ℕ → Bool
is_fact f None = false
is_fact f (Some g) = g == f

-- whether an action wants this fact first
abbrev pub wants : Problem → ℕ → ℕ → Bool
wants p f a = nat_lt a (length p.actions) && is_fact f (want_of p a)

abbrev pub granted : (ℕ → Bool) → Option ℕ → Bool
granted facts None = true
granted facts (Some f) = facts f

-- whether an action's first wanted fact is one of these, or it wants none
abbrev pub candidate : Problem → (ℕ → Bool) → ℕ → Bool
candidate p facts a = nat_lt a (length p.actions) && granted facts (want_of p a)

-- the row of all these actions
pub record IsCandidateRow (p : Problem) (facts : ℕ → Bool) (row : BitRow) : Type 0 where
  pub wide : width row ≡ words_for (length p.actions)
  pub has : (a : ℕ) → is_in_row row a ≡ candidate p facts a

-- the row of those below a number
pub record IsCandidateRowBelow (p : Problem) (facts : ℕ → Bool) (n : ℕ) (row : BitRow)
    : Type 0 where
  pub wide : width row ≡ words_for (length p.actions)
  pub has : (a : ℕ) → is_in_row row a ≡ (nat_lt a n && granted facts (want_of p a))

-- facts with one set anew
abbrev pub with_fact : (ℕ → Bool) → ℕ → Bool → ℕ → Bool
with_fact facts f holds g = if g == f then holds else facts g

-- the facts of one state below a number, and of another from there on
abbrev pub mixed : ℕ → (ℕ → Bool) → (ℕ → Bool) → ℕ → Bool
mixed n new old f = if nat_lt f n then new f else old f

-- for each fact the row of the actions below a number that want it first
pub record AreWantsBelow (p : Problem) (n : ℕ) (rows : List BitRow) : Type 0 where
  pub count : length rows ≡ length p.facts
  pub wide : (f : ℕ) (row : BitRow) → slice_get rows f ≡ Some row
      → width row ≡ words_for (length p.actions)
  pub has : (f : ℕ) (row : BitRow) → slice_get rows f ≡ Some row
      → (a : ℕ) → is_in_row row a ≡ (nat_lt a n && is_fact f (want_of p a))

-- for each fact the row of the actions that want it first
abbrev pub AreWants : Problem → Wants → Type 0
AreWants p w = AreWantsBelow p (length p.actions) w.rows.items

-- so many empty rows
pub record AreEmptyRows (p : Problem) (n : ℕ) (rows : List BitRow) : Type 0 where
  pub count : length rows ≡ n
  pub wide : (f : ℕ) (row : BitRow) → slice_get rows f ≡ Some row
      → width row ≡ words_for (length p.actions)
  pub none : (f : ℕ) (row : BitRow) → slice_get rows f ≡ Some row
      → (a : ℕ) → is_in_row row a ≡ false
