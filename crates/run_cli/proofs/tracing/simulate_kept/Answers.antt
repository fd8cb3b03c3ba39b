use Rattle.std.proofs.Common.{subst, List}
use Rattle.tp_spec.specs.declared.event.Event.{Event}
use Rattle.run_cli.specs.Tracing.{KeepsTrace}
use Rattle.run_cli.proofs.Traced.{keeps-all}
use Rattle.run_cli.proofs.tracing.simulate_kept.Goals as goal

pub returns-clause-ends : goal.returns-clause-ends
returns-clause-ends g c =
    let loaded = g.F.Files.view c.simulate_files-played.new.files in
    let after = g.F.Files.view c.keep_trace-status.new.files in
    let first = c.simulate_files-played.result.status in
    record {
      loaded = loaded;
      first = first;
      ends = c.simulate_files-played.ensures.ends;
      unchanged = c.simulate_files-played.ensures.contents;
      kept = subst (λ (k : List Event). KeepsTrace c.args.trace.now k first loaded after c.keep_trace-status.result) c.deref.ensures.value c.keep_trace-status.ensures;
    }

pub returns-clause-contents : goal.returns-clause-contents
returns-clause-contents g c =
    keeps-all c.args.trace.now c.deref.result.now c.simulate_files-played.result.status
    (g.F.Files.view c.args.files.now) (g.F.Files.view c.simulate_files-played.new.files) (g.F.Files.view c.keep_trace-status.new.files) c.keep_trace-status.result
    c.simulate_files-played.ensures.contents c.keep_trace-status.ensures
