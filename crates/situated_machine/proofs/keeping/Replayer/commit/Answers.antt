use Rattle.std.proofs.Common.{sym, subst}
use Rattle.tp_spec.specs.declared.event.Event.TheVariants.{Dispatch}
use Rattle.situated_machine.specs.Keeping.{ReplayView}
use Rattle.situated_machine.specs.Rules.{KeepsAll}
use Rattle.situated_machine.proofs.Stepping.{act-later, kept-added}
use Rattle.situated_machine.proofs.keeping.Replayer.commit.Goals as goal

pub add-requires : goal.add-requires
add-requires c =
    act-later c.self.invariant c.args.act
    (subst (λ (r : ReplayView). KeepsAll r.problem r.limits r.machine (Dispatch c.args.act)) (sym c.self.view_is) c.requires.kept)

pub invariant_of-self : goal.invariant_of-self
invariant_of-self c =
    kept-added c.self.invariant c.args.act c.add.new.self
    (subst (λ (r : ReplayView). KeepsAll r.problem r.limits r.machine (Dispatch c.args.act)) (sym c.self.view_is) c.requires.kept)
    c.add.result c.add.ensures.ok c.add.ensures.err
