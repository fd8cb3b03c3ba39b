use Rattle.std.proofs.Common.{◌≡◌, ◌+◌, ◌++◌, map, drop, vec_len}
use Rattle.pddl_tokens.specs.Tokens.{uncommented, lower, uncommented_lower}
use Rattle.pddl_tokens.proofs.plain.push_plain.Given as goal

abbrev pub invariant-loop-byte : goal.invariant-loop-byte
invariant-loop-byte l =
    record {
      plain : l.out.items ++ uncommented l.inside (map lower (drop l.byte-index l.text)) ≡ l.initial.out.items ++ uncommented_lower l.text;
      len : vec_len l.out ≡ vec_len l.initial.out + l.byte-index;
    }
