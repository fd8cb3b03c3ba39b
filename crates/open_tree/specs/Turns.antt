-- What a tree's clock and history have to do with one another.
use Rattle.std.specs.Prelude.{◌≡◌, ℕ, ◌+◌, Bool, true, false, List, [], ◌∷◌, ◌++◌, Option, IfSome, if◌then◌else◌, fold}
use Rattle.tp_spec.specs.declared.event.Event.{Event}
use Rattle.tp_spec.specs.declared.event.Event.TheVariants.{Halt}
use Rattle.tp_spec.specs.declared.event.Cause.TheVariants.{Memory}
use Rattle.tp_spec.specs.Machine.{readings, ticks}
use Rattle.tp_world.specs.Counts.{count_after}
use Rattle.tp_world.specs.Readings.{AreNext}

-- From the clock as it was at the start to the clock now: its count rose by the number of Ticks, or
-- by one more behind a reading that no Tick holds; where it tells its readings, the Ticks hold the
-- next ones in order.
pub record IsClocked (began count : ℕ) (told now : Option (List ℕ)) (history : List Event)
    (spare : Bool) : Type 0 where
  pub counted : count ≡ count_after began (ticks history + (if spare then 1 else 0))
  pub same : now ≡ told
  pub next : IfSome told (λ xs. AreNext xs began (readings history))

-- The last reading is that of the last Tick, and what it was at the start where there is none; a
-- reading that no Tick holds comes only before a halt for want of memory.
pub record IsLatest (began last : ℕ) (history : List Event) (spare : Bool) : Type 0 where
  pub latest : spare ≡ false → last ≡ fold (λ earlier r. r) began (readings history)
  pub behind : spare ≡ true → (front : List Event) × (history ≡ front ++ Halt Memory ∷ [])

-- the same of both, where it is left open whether one reading more was made
pub record IsTold (began count : ℕ) (first last : ℕ) (told : Option (List ℕ)) (history : List Event)
    : Type 0 where
  pub spare : Bool
  pub counted : count ≡ count_after began (ticks history + (if spare then 1 else 0))
  pub latest : spare ≡ false → last ≡ fold (λ earlier r. r) first (readings history)
  pub behind : spare ≡ true → (front : List Event) × (history ≡ front ++ Halt Memory ∷ [])
  pub next : IfSome told (λ xs. AreNext xs began (readings history))
