-- The acts that run while the happenings go by, of those whose actions have invariants.
use Rattle.std.specs.Prelude.{◌≡◌, ℕ, ◌+◌, ◌≤◌, Bool, not, nat_le, List, [], ◌∷◌, ◌++◌, IsTrue, if◌then◌else◌}
use Rattle.std.specs.List.{list_all}
use Rattle.tp_spec.specs.declared.plan.Timed.{Timed}
use Rattle.tp_spec.specs.declared.problem.Problem.{Problem}
use Rattle.tp_spec.specs.Lists.{is_empty, each_next}
use Rattle.tp_spec.specs.States.{State}
use Rattle.tp_spec.specs.Items.{invariants}
use Rattle.tp_spec.specs.Courses.{act_before}
use Rattle.plan_validator.specs.declared.standings.Standing.{Standing}
use Rattle.plan_validator.specs.Verdicts.{is_broken_in}

-- whether an act ended by a tick
abbrev pub is_over : ℕ → Timed → Bool
is_over t x = nat_le (x.start + x.length) t

-- whether there is something to be asked while an act runs
abbrev pub is_watched : Problem → Timed → Bool
is_watched p x = not (is_empty (invariants p x.action))

-- the acts in front that start by a tick, and what is behind them
abbrev pub begun_at : ℕ → List Timed → List Timed
begun_at t [] = []
begun_at t (x ∷ xs) = if nat_le x.start t then x ∷ begun_at t xs else []

abbrev pub later_at : ℕ → List Timed → List Timed
later_at t [] = []
later_at t (x ∷ xs) = if nat_le x.start t then later_at t xs else x ∷ xs

-- the actions whose invariants break at a tick are the same by these acts as by all
abbrev pub AreRunning : Problem → List Timed → ℕ → List Timed → Type 0
AreRunning p acts t running =
    (s : State) (a : ℕ) → is_broken_in p running t s a ≡ is_broken_in p acts t s a

-- From a tick on, before which nothing is left, what breaks by the running and the coming acts is
-- what breaks by all.
pub record AreWatched (p : Problem) (acts running coming : List Timed) (rest : List Standing) :
    Type 0 where
  pub tick : ℕ
  pub late : IsTrue (list_all (λ x. nat_le tick x.tick) rest)
  pub rising : IsTrue (each_next act_before coming)
  pub same : (u : ℕ) → tick ≤ u → AreRunning p acts u (running ++ coming)
