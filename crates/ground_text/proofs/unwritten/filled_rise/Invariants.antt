use Rattle.std.proofs.Common.{◌≡◌, length, true}
use Rattle.std.specs.Prelude.{string_bytes}
use Rattle.tp_spec.specs.WellFormed.{is_name}
use Rattle.ground_text.specs.Completion.{filled}
use Rattle.ground_text.specs.Filling.{rise_from}
use Rattle.ground_text.proofs.unwritten.filled_rise.Given as goal

abbrev pub invariant-names : goal.invariant-names
invariant-names l = record {
  is : is_name (string_bytes l.before) ≡ true;
  rises : rise_from (string_bytes l.before) (filled (string_bytes l.before) l.rest) ≡ rise_from l.first (filled l.first l.names);
}

abbrev pub decreases-names : goal.decreases-names
decreases-names l = length l.rest
