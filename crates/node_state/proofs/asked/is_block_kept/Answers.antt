use Rattle.std.proofs.Common.{◌≡◌, ◌∙◌, sym, subst, ℕ, ◌*◌, not, ◌||◌, true, arith}
use Rattle.std.specs.List.{list_all, range_with_len}
use Rattle.tp_spec.specs.States.{holds}
use Rattle.tp_spec.specs.Items.{invariants}
use Rattle.world_state.specs.Rows.{is_in_row}
use Rattle.world_state.specs.View.{meaning}
use Rattle.node_state.proofs.Ranges.{all-next, block-broken-at, kept-none}
use Rattle.node_state.proofs.asked.is_block_kept.Goals as goal

pub returns-then-word-eq0 : goal.returns-then-word-eq0
returns-then-word-eq0 c = sym (kept-none c.args.problem.now c.args.running.now (meaning c.args.state.now) c.args.block (sym c.word.ensures ∙ c.if-word-eq0.true))

pub returns-then-not-is_kept : goal.returns-then-not-is_kept
returns-then-not-is_kept c = sym (block-broken-at (λ a. not (is_in_row c.args.running.now a) || list_all (holds (meaning c.args.state.now)) (invariants c.args.problem.now a)) (64 * c.args.block) c.loop-bit.bit c.loop-bit-test.true (sym c.if-not-is_kept.ensures))

pub loop-bit-preserved : goal.loop-bit-preserved
loop-bit-preserved c = all-next (λ a. not (is_in_row c.args.running.now a) || list_all (holds (meaning c.args.state.now)) (invariants c.args.problem.now a)) (64 * c.args.block) c.loop-bit.bit c.loop-bit.invariant (sym c.if-not-is_kept.ensures)

pub returns : goal.returns
returns c =
    let all : c.loop-bit.bit ≡ 64 = omega (arith, c.loop-bit.auto.bit-end, c.loop-bit-test.false) in
    sym (subst (λ (n : ℕ). list_all (λ a. not (is_in_row c.args.running.now a) || list_all (holds (meaning c.args.state.now)) (invariants c.args.problem.now a)) (range_with_len (64 * c.args.block) n) ≡ true) all c.loop-bit.invariant)
