-- What a problem asks is shallow, so that its conditions can be judged in 128 bits.
use Rattle.std.proofs.Common.{◌≡◌, refl, ℕ, true, length, Option, Some, None, slice_get}
use Rattle.std.specs.List.{list_all}
use Rattle.std.proofs.lemmas.Bool.{and_parts}
use Rattle.tp_spec.specs.declared.problem.Action.{Action}
use Rattle.tp_spec.specs.Items.{invariants}
use Rattle.tp_spec.specs.Lists.{part_of}
use Rattle.tp_spec.specs.WellFormed.{Ground, IsWellFormed}
use Rattle.world_state.specs.Exact.{is_shallow}
use Rattle.world_state.proofs.Problems.{action_inside, conds_shallow}

of_found : (p : Ground) → IsWellFormed p → (a : ℕ) (o : Option Action) → slice_get p.actions a ≡ o → list_all is_shallow (part_of o (λ x. x.all_conds)) ≡ true
of_found p formed a None e = refl
of_found p formed a (Some x) e = conds_shallow (length p.facts) (length p.fluents) x.all_conds (action_inside p formed a x e).all_conds

pub invariants_shallow : (p : Ground) → IsWellFormed p → (a : ℕ) → list_all is_shallow (invariants p a) ≡ true
invariants_shallow p formed a = of_found p formed a (slice_get p.actions a) refl

pub goal_shallow : (p : Ground) → IsWellFormed p → list_all is_shallow p.goal ≡ true
goal_shallow p formed = conds_shallow (length p.facts) (length p.fluents) p.goal (and_parts _ _ formed.aiming).1
