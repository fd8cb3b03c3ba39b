use Rattle.std.proofs.Common.{◌≡◌, length}
use Rattle.ground_text.specs.Reading.{number_from}
use Rattle.ground_text.proofs.bytes.number.Given as goal

abbrev pub invariant-digits : goal.invariant-digits
invariant-digits l = number_from l.sum l.rest ≡ number_from 0 l.bytes

abbrev pub decreases-digits : goal.decreases-digits
decreases-digits l = length l.rest
