use Rattle.std.proofs.Common.{◌≡◌, ℕ, ◌*◌, ◌-◌, ◌^◌, min, List, length, take, drop, refl, ap, sym, ◌∙◌, arith}
use Rattle.grounder.specs.Objects.{choices_number}
use Rattle.grounder.proofs.Counting.{product_step, total_split}
use Rattle.grounder.proofs.counts.product.Goals as goal

pub members-preserved : goal.members-preserved
members-preserved c =
    let rest = c.members.rest.now in
    let item = c.range-item.result in
    let tail = take (length rest - 1) (drop 1 rest) in
    let split : choices_number rest ≡ length item * choices_number tail = total_split choices_number (λ (y : List ℕ) (n : ℕ). length y * n) (λ y ys. refl) rest item c.in-len1-up.len_at_least c.range-item.is in
    let made : c.saturating_mul-product.result ≡ min (c.members.product * length item) (2 ^ 128 - 1) = c.saturating_mul-product.ensures ∙ ap (λ (l : List ℕ). min (c.members.product * length l) (2 ^ 128 - 1)) c.as_slice.ensures in
    record {
      total = product_step (2 ^ 128 - 1) c.members.product (length item) c.saturating_mul-product.result (choices_number tail) made
          ∙ ap (λ (k : ℕ). min (c.members.product * k) (2 ^ 128 - 1)) (sym split)
          ∙ c.members.invariant.total;
      small = omega (arith, made);
    }
