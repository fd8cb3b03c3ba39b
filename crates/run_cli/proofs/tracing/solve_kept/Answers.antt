use Rattle.std.proofs.Common.{◌<◌, subst, List}
use Rattle.tp_spec.specs.declared.event.Event.{Event}
use Rattle.run_cli.specs.Tracing.{KeepsTrace}
use Rattle.run_cli.proofs.Traced.{keeps-all, kept-status}
use Rattle.run_cli.proofs.tracing.solve_kept.Goals as goal

pub returns-clause-ends : goal.returns-clause-ends
returns-clause-ends g c =
    let loaded = g.F.Files.view c.solve_file-solved.new.files in
    let after = g.F.Files.view c.keep_trace-status.new.files in
    let first = c.solve_file-solved.result.status in
    record {
      loaded = loaded;
      first = first;
      ends = c.solve_file-solved.ensures.ends;
      unchanged = c.solve_file-solved.ensures.contents;
      kept = subst (λ (k : List Event). KeepsTrace c.args.trace.now k first loaded after c.keep_trace-status.result) c.deref.ensures.value c.keep_trace-status.ensures;
    }

pub returns-clause-contents : goal.returns-clause-contents
returns-clause-contents g c =
    keeps-all c.args.trace.now c.deref.result.now c.solve_file-solved.result.status
    (g.F.Files.view c.args.files.now) (g.F.Files.view c.solve_file-solved.new.files) (g.F.Files.view c.keep_trace-status.new.files) c.keep_trace-status.result
    c.solve_file-solved.ensures.contents c.keep_trace-status.ensures

pub returns-clause-same : goal.returns-clause-same
returns-clause-same g c above below =
    let same = kept-status c.args.trace.now c.deref.result.now c.solve_file-solved.result.status (g.F.Files.view c.solve_file-solved.new.files) (g.F.Files.view c.keep_trace-status.new.files)
    c.keep_trace-status.result c.keep_trace-status.ensures below in
    c.solve_file-solved.ensures.same (subst (λ n. 2 < n) same above) (subst (λ n. n < 6) same below)
