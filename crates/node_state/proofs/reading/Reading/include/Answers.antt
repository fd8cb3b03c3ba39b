use Rattle.node_state.specs.Readings.{progress_of}
use Rattle.node_state.proofs.Insides.{few-timed, reading-with}
use Rattle.node_state.proofs.reading.Reading.include.Goals as goal

pub push-requires : goal.push-requires
push-requires c = few-timed c.args.problem.now c.keeps_the_rules.ensures (progress_of c.args.self.now) c.requires.reading.inside

pub returns-clause-reading : goal.returns-clause-reading
returns-clause-reading c =
    reading-with c.args.problem.now c.args.self.now c.push.new.self c.args.item c.requires.reading c.requires.joins c.push.ensures.before c.push.ensures.running c.push.ensures.candidates c.in_ok-push.ensures.progress
