use Rattle.std.proofs.Common.{◌≡◌, ℕ, ◌+◌, ◌-◌, ◌^◌, min, List, length, take, drop, refl, ap, sym, ◌∙◌, arith}
use Rattle.grounder.specs.Grounded.{total}
use Rattle.grounder.proofs.Counting.{sum_step, total_split}
use Rattle.grounder.proofs.counts.total.Goals as goal

pub lists-preserved : goal.lists-preserved
lists-preserved c =
    let rest = c.lists.rest.now in
    let item = c.lists-item.result in
    let tail = take (length rest - 1) (drop 1 rest) in
    let split : total rest ≡ length item + total tail = total_split total (λ (y : List (List ℕ)) (n : ℕ). length y + n) (λ y ys. refl) rest item c.in-len1-up.len_at_least c.lists-item.is in
    let number : c.lists_number.result ≡ min (length item) (2 ^ 128 - 1) = c.lists_number.ensures ∙ ap (λ (l : List (List ℕ)). min (length l) (2 ^ 128 - 1)) c.as_slice.ensures in
    record {
      sum = sum_step (2 ^ 128 - 1) c.lists.sum (length item) c.saturating_add-sum.result c.lists_number.result (total tail) number c.saturating_add-sum.ensures
          ∙ ap (λ (k : ℕ). min (c.lists.sum + k) (2 ^ 128 - 1)) (sym split)
          ∙ c.lists.invariant.sum;
      small = omega (arith, c.saturating_add-sum.ensures);
    }
