use Rattle.std.proofs.Common.{◌≡◌, ◌+◌, nat_le, length, IsTrue}
use Rattle.std.specs.List.{list_all}
use Rattle.plan_validator.specs.Acts.{is_small}
use Rattle.plan_validator.proofs.judge.all_ended.Given as goal

abbrev pub invariant-loop-rest : goal.invariant-loop-rest
invariant-loop-rest l = record {
  small : IsTrue (list_all is_small l.rest);
  same : list_all (λ x. nat_le (x.start + x.length) l.end) l.rest ≡ list_all (λ x. nat_le (x.start + x.length) l.end) l.acts;
}

abbrev pub decreases-loop-rest : goal.decreases-loop-rest
decreases-loop-rest l = length l.rest
