-- A plan that is read meets what a validator asks for.
use Rattle.std.proofs.Common.{◌≡◌, ℕ, ◌+◌, ◌^◌, ◌<◌, ◌≤◌, true, ◌&&◌, nat_lt, List, [], ◌∷◌, refl, arith}
use Rattle.std.specs.List.{list_all}
use Rattle.std.proofs.lemmas.Bool.{and_from, and_parts}
use Rattle.std.proofs.lemmas.Bool.Decides.{nat_tests}
use Rattle.tp_spec.specs.declared.plan.Timed.{Timed}
use Rattle.plan_text.specs.Files.{lasts}
use Rattle.plan_validator.specs.Acts.{is_small}

small_parts : (s l : ℕ) → nat_lt (s + l) (2 ^ 63) ≡ true → (nat_lt s (2 ^ 63) && nat_lt l (2 ^ 63)) ≡ true
small_parts s l h = grind (arith, nat_tests)

-- acts that end below 2^63 start and last below it
pub small_acts : (acts : List Timed) → list_all lasts acts ≡ true → list_all is_small acts ≡ true
small_acts [] h = refl
small_acts (x ∷ acts) h =
    let w = and_parts (lasts x) (list_all lasts acts) h in
    and_from _ _ (small_parts x.start x.length w.0) (small_acts acts w.1)

pub few_acts : (count bytes : ℕ) → count ≤ bytes + 1 → bytes ≤ 1048576 → count < 2 ^ 31
few_acts count bytes h k = omega arith
