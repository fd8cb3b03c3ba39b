use Rattle.run_laws.proofs.Runs.{end-append, legal-append, legal-parts}
use Rattle.run_laws.proofs.histories.histories_in_parts.Goals as goal

pub returns-clause-ends : goal.returns-clause-ends
returns-clause-ends c = end-append

pub returns-clause-legal : goal.returns-clause-legal
returns-clause-legal c p l m es fs = (legal-parts p l m es fs, λ h. legal-append p l m es fs h.0 h.1)
