use Rattle.std.proofs.Common.{◌≡◌, ℕ, ◌+◌, ◌-◌, ◌^◌, min, length, take, drop, refl, ap, sym, ◌∙◌, arith}
use Rattle.pddl_domain.specs.declared.domain.Schema.{Schema}
use Rattle.grounder.specs.Sources.{source_of}
use Rattle.grounder.specs.Objects.{raw_number, number_of}
use Rattle.grounder.proofs.Counting.{sum_step, total_split}
use Rattle.grounder.proofs.counts.raw_number.Goals as goal

pub actions-preserved : goal.actions-preserved
actions-preserved c =
    let s = source_of c.args.start.now.source in
    let rest = c.actions.rest.now in
    let item = c.schema-item.result in
    let tail = take (length rest - 1) (drop 1 rest) in
    let one = λ (y : Schema). number_of s y.sorts in
    let split : raw_number s rest ≡ one item + raw_number s tail = total_split (raw_number s) (λ (y : Schema) (n : ℕ). one y + n) (λ y ys. refl) rest item c.in-len1-up.len_at_least c.schema-item.is in
    record {
      total = sum_step (2 ^ 128 - 1) c.actions.sum (one item) c.saturating_add-sum.result c.in_ok-number_of-in-len1-up.field-0 (raw_number s tail) c.in_ok-number_of-in-len1-up.ensures c.saturating_add-sum.ensures
          ∙ ap (λ (k : ℕ). min (c.actions.sum + k) (2 ^ 128 - 1)) (sym split)
          ∙ c.actions.invariant.total;
      small = omega (arith, c.saturating_add-sum.ensures);
    }
