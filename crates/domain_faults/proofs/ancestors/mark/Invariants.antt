use Rattle.std.proofs.Common.{◌≡◌, ℕ, ◌<◌, ◌≤◌, true, false, get_or}
use Rattle.domain_faults.proofs.ancestors.mark.Given as goal

abbrev pub invariant-loop-place : goal.invariant-loop-place
invariant-loop-place l = record {
  ring : (i : ℕ) → l.first ≤ i → i < l.place → get_or l.marks (get_or l.order i 0) false ≡ true;
  rest : (v : ℕ) → ((i : ℕ) → l.first ≤ i → i < l.place → get_or l.order i 0 ≡ v → ⊥) → get_or l.marks v false ≡ get_or l.fn.marks v false;
}
