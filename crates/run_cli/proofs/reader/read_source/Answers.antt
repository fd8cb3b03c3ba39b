use Rattle.std.proofs.Common.{refl, sym, subst, ℕ, List}
use Rattle.run_cli.specs.Sources.{texts_of, IsRefusal, IsPddlRefusal}
use Rattle.run_cli.specs.declared.loading.SourceTexts.{SourceTexts}
use Rattle.run_cli.proofs.SourceReads.{HasTexts, pddl-refused, each-err}
use Rattle.run_cli.proofs.reader.read_source.Goals as goal

pub returns-in-Pddl-clause-stop : goal.returns-in-Pddl-clause-stop
returns-in-Pddl-clause-stop c =
    let domain : List ℕ = c.deref-in-Pddl.result.now in
    let problem : List ℕ = c.deref-in-Pddl-2.result.now in
    let has : HasTexts c.args.texts.now domain problem c.in-Pddl.scale =
    subst (λ (t : SourceTexts). HasTexts t domain problem c.in-Pddl.scale) (sym c.in-Pddl.is) (c.deref-in-Pddl.ensures.value, c.deref-in-Pddl-2.ensures.value, refl) in
    each-err (IsPddlRefusal domain problem c.in-Pddl.scale) (IsRefusal c.args.source.now (texts_of c.args.texts.now)) c.read_pddl_files.result
    (λ stop refused. pddl-refused c.args.source.now c.args.texts.now domain problem c.in-Pddl.scale stop c.requires.texts has refused) c.read_pddl_files.ensures.stop
