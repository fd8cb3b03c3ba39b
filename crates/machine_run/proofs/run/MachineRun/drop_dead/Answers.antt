use Rattle.std.proofs.Common.{◌≡◌, sym, subst, false, None}
use Rattle.tp_laws.proofs.Members.{in-filter}
use Rattle.word_frontier.specs.Nodes.{is_open}
use Rattle.machine_run.specs.Settling.{FindsOpen, IsToldOf}
use Rattle.machine_run.specs.Turns.{has_outcome}
use Rattle.machine_run.specs.Views.{RunView}
use Rattle.machine_run.proofs.Taking.{none-open}
use Rattle.machine_run.proofs.run.MachineRun.drop_dead.Goals as goal

pub returns-in_default-clause-ok : goal.returns-in_default-clause-ok
returns-in_default-clause-ok c =
    let none = subst (λ (r : RunView). has_outcome r.history ≡ false) (sym c.self.view_is) c.loop-least.invariant.standing in
    subst (λ (r : RunView). FindsOpen r None) c.self.view_is (none-open _ c.self.invariant.stands none c.in_default.ensures)

pub live_deadline-requires-clause-told : goal.live_deadline-requires-clause-told
live_deadline-requires-clause-told c =
    let found = c.in-Some.ensures in
    subst (λ (r : RunView). IsToldOf r c.in-Some.least) c.self.view_is
    (record { node = found.0; there = in-filter is_open found.0 _ found.1.there; tells = found.2 })
