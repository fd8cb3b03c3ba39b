use Rattle.std.proofs.Common.{◌≡◌, ℕ, ◌≤◌, ◌++◌, [], drop, vec_len, Option}
use Rattle.pddl_tokens.specs.Tokens.{tokens_from}
use Rattle.pddl_tokens.specs.Faults.{fault_from}
use Rattle.pddl_tokens.specs.Building.{read_so_far, stack_of}
use Rattle.pddl_tokens.proofs.reader.read_plain.Given as goal

abbrev pub invariant-loop-i : goal.invariant-loop-i
invariant-loop-i l =
    record {
      read : read_so_far l.tree.frames.items l.tree.parts ++ tokens_from l.i l.word.items (drop l.i l.plain) ≡ tokens_from 0 [] l.plain;
      fault : (bad : Option ℕ) → fault_from bad (stack_of l.tree.frames.items) (tokens_from l.i l.word.items (drop l.i l.plain)) ≡ fault_from bad [] (tokens_from 0 [] l.plain);
      short : vec_len l.word ≤ l.i;
    }
