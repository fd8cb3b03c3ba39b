use Rattle.std.proofs.Common.{refl}
use Rattle.std.specs.Fmt.{digits}
use Rattle.trace_text.specs.Traces.{field, listed, mark_text, act_text, event_line, header_line, event_lines, trace_text}
use Rattle.trace_text.specs.Grammar.{fits_event}
use Rattle.trace_text.proofs.examples.traces.Goals as goal

pub returns-clause-nothing : goal.returns-clause-nothing
unfolding field listed mark_text act_text event_line header_line event_lines trace_text digits
returns-clause-nothing c = refl

pub returns-clause-drive : goal.returns-clause-drive
unfolding field listed mark_text act_text event_line header_line event_lines trace_text digits
returns-clause-drive c = refl

pub returns-clause-turns : goal.returns-clause-turns
unfolding field listed mark_text act_text event_line header_line event_lines trace_text digits
returns-clause-turns c = refl

pub returns-clause-outcomes : goal.returns-clause-outcomes
unfolding field listed mark_text act_text event_line header_line event_lines trace_text digits
returns-clause-outcomes c = (refl, refl, refl, refl, refl, refl, refl, refl)

pub returns-clause-ranges : goal.returns-clause-ranges
unfolding fits_event
returns-clause-ranges c = (refl, refl, refl, refl, refl, refl, refl, refl)
