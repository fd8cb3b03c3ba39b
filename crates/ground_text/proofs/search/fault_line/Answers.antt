use Rattle.std.proofs.Common.{refl}
use Rattle.ground_text.proofs.Told.{told}
use Rattle.ground_text.proofs.search.fault_line.Goals as goal

pub returns : goal.returns
returns c = told c.in_ok-begun.begun _ c.args.text.now c.in_ok-begun.ensures.begins c.in_ok-begun.ensures.ends refl
