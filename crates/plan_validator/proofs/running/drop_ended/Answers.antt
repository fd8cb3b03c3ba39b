use Rattle.std.proofs.Common.{rules, not}
use Rattle.std.proofs.lemmas.Fn.{filter_same}
use Rattle.plan_validator.specs.Watched.{is_over}
use Rattle.plan_validator.proofs.running.drop_ended.Goals as goal

pub returns : goal.returns
returns c = filter_same _ (λ x. not (is_over c.args.tick x)) _ (λ x b f' k. search rules) c.args.running.now.items c.retain.new.self.items c.retain.ensures.filtered
