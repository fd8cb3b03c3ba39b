-- The literals of a timed item that deletes nothing.
use Rattle.std.proofs.Common.{◌≡◌, ℕ, List, [], ◌∷◌, map, refl}
use Rattle.tp_spec.specs.declared.problem.Effect.TheVariants.{Add}
use Rattle.ground_text.specs.Texts.{merged}

pub merged_adds : (adds : List ℕ) → merged adds [] ≡ map Add adds
merged_adds [] = refl
merged_adds (a ∷ adds) = refl
