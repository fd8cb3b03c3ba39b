use Rattle.std.proofs.Common.{◌≡◌, refl, subst, ◌*◌, ◌+◌, [], ◌∷◌, ℕ, map, arith}
use Rattle.std.specs.List.{range_with_len}
use Rattle.tp_spec.specs.declared.plan.Item.{Item}
use Rattle.node_state.specs.Readings.{progress_of}
use Rattle.node_state.specs.Founds.{Grew}
use Rattle.node_state.specs.Judges.{item_of}
use Rattle.node_state.proofs.Growing.{grew-next, grew-none, grew-on}
use Rattle.node_state.proofs.judge.Judge.offer_block.Goals as goal

pub loop-bit-init : goal.loop-bit-init
loop-bit-init c = (
  c.next_one-bit.ensures.inside,
  grew-on c.args.self.now (progress_of c.args.reading.now) c.args.fresh c.args.found.now c.args.found.now c.args.starts c.args.row.now c.args.block 0 c.next_one-bit.result c.word-word.result c.requires.covers c.word-word.ensures c.next_one-bit.ensures.after c.next_one-bit.ensures.inside c.next_one-bit.ensures.none
      (grew-none c.args.self.now (progress_of c.args.reading.now) c.args.fresh c.args.found.now),
)

pub loop-bit-preserved : goal.loop-bit-preserved
loop-bit-preserved c = (
  c.next_one-bit-in-loop-bit.ensures.inside,
  grew-on c.args.self.now (progress_of c.args.reading.now) c.args.fresh c.args.found.now c.offer_member.new.found c.args.starts c.args.row.now c.args.block (c.loop-bit.bit + 1) c.next_one-bit-in-loop-bit.result c.word-word.result c.requires.covers c.word-word.ensures c.next_one-bit-in-loop-bit.ensures.after c.next_one-bit-in-loop-bit.ensures.inside c.next_one-bit-in-loop-bit.ensures.none
      (grew-next c.args.self.now (progress_of c.args.reading.now) c.args.fresh c.args.found.now c.loop-bit.found c.offer_member.new.found (item_of c.args.starts) (64 * c.args.block) c.loop-bit.bit (64 * c.args.block + c.loop-bit.bit) refl c.loop-bit.invariant.1
      (subst (λ (i : Item). Grew c.args.self.now (progress_of c.args.reading.now) c.args.fresh c.loop-bit.found c.offer_member.new.found (i ∷ [])) c.item.ensures c.in_ok-offer_member.ensures)),
)

pub returns : goal.returns
returns c =
    let all : c.loop-bit.bit ≡ 64 = omega (arith, c.loop-bit.invariant.0, c.loop-bit-test.false) in
    subst (λ (n : ℕ). Grew c.args.self.now (progress_of c.args.reading.now) c.args.fresh c.args.found.now c.loop-bit.found (map (item_of c.args.starts) (range_with_len (64 * c.args.block) n))) all c.loop-bit.invariant.1
