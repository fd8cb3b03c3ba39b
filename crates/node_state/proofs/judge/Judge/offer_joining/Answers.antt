use Rattle.std.proofs.Common.{◌∙◌, sym, ap}
use Rattle.tp_spec.specs.Lists.{is_empty}
use Rattle.node_state.specs.Readings.{progress_of}
use Rattle.node_state.proofs.Growing.{took-joining, took-none-joining}
use Rattle.node_state.proofs.judge.Judge.offer_joining.Goals as goal

pub returns-then-is_without : goal.returns-then-is_without
returns-then-is_without c = took-none-joining c.args.self.now (progress_of c.args.reading.now) c.args.found.now (ap is_empty (sym c.deref.ensures.value) ∙ sym c.if-is_without.ensures)

pub returns : goal.returns
returns c = took-joining c.args.self.now (progress_of c.args.reading.now) c.args.found.now c.offer_all.new.found (ap is_empty (sym c.deref.ensures.value) ∙ sym c.if-is_without.ensures) c.in_ok-offer_all.ensures
