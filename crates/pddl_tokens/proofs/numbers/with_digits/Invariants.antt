use Rattle.std.proofs.Common.{◌≡◌, ◌<◌, ◌^◌, map, drop}
use Rattle.std.specs.Int.Digits.{number_from_digits_after}
use Rattle.pddl_tokens.specs.Numbers.{digit, in_u64}
use Rattle.pddl_tokens.proofs.numbers.with_digits.Given as goal

abbrev pub invariant-loop-c : goal.invariant-loop-c
invariant-loop-c l =
    record {
      number : in_u64 (number_from_digits_after 10 l.sum (map digit (drop l.c-index l.digits))) ≡ in_u64 (number_from_digits_after 10 l.number (map digit l.digits));
      fits : l.sum < 2 ^ 64;
    }
