use Rattle.std.proofs.Common.{◌≡◌, length, IsTrue, take}
use Rattle.tp_spec.specs.Lists.{each_pair}
use Rattle.plan_validator.specs.Acts.{keeps, AreFree}
use Rattle.plan_validator.proofs.acts.first_out.Given as goal

abbrev pub invariant-loop-act : goal.invariant-loop-act
invariant-loop-act l = record {
  len : length l.free.items ≡ l.fn.count;
  whole : IsTrue (each_pair (keeps l.rule) (take l.act-index l.acts));
  free : AreFree l.rule (take l.act-index l.acts) l.free.items;
}
