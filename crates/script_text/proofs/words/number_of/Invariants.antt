use Rattle.std.proofs.Common.{◌≡◌, ◌<◌, ◌^◌, length}
use Rattle.script_text.specs.Scripts.{number_from}
use Rattle.script_text.proofs.words.number_of.Given as goal

abbrev pub invariant-digits : goal.invariant-digits
invariant-digits l = record {
  so_far : number_from l.number l.rest ≡ number_from 0 l.word;
  fits : l.number < 2 ^ 64;
}

abbrev pub decreases-digits : goal.decreases-digits
decreases-digits l = length l.rest
