use Rattle.std.proofs.Common.{◌++◌, ◌-◌, ℕ, List, length, take, drop, get_or, refl, sym, ap, ◌∙◌}
use Rattle.grounder.specs.Sources.{source_of}
use Rattle.grounder.specs.Kept.{is_kept, kept_behind}
use Rattle.grounder.proofs.Choices.{behind_step}
use Rattle.grounder.proofs.Cutting.{cut_branch}
use Rattle.grounder.proofs.search.+with_kept.Goals as goal

pub loop-object-preserved : goal.loop-object-preserved
loop-object-preserved t c =
    let s = source_of c.args.start.now.source in
    let tail = take (length c.args.ranges.now - 1) (drop 1 c.args.ranges.now) in
    behind_step (is_kept s c.args.schema.now) c.args.objects.now c.as_slice-object-items.result.now tail c.loop-object.object-index (get_or c.as_slice-object-items.result.now c.loop-object.object-index 0) 0 c.args.kept c.loop-object.kept c.in_ok-kept-in-len1-up.kept
    c.loop-object-test.true
    refl
    c.loop-object.invariant
    (c.in_ok-kept-in-len1-up.ensures
    ∙ ap (λ (front : List ℕ). c.loop-object.kept ++ kept_behind s c.args.schema.now front tail) (c.as_slice.ensures ∙ c.in_ok-more-in-len1-up.ensures))

pub returns-then-branch : goal.returns-then-branch
returns-then-branch t c =
    cut_branch (source_of c.args.start.now.source) c.args.schema.now c.args.objects.now c.args.ranges.now c.args.kept (sym c.in_ok-has_failed.ensures ∙ c.if-branch.true)
