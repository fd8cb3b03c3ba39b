use Rattle.std.proofs.Common.{rules, not}
use Rattle.std.specs.Prelude.{◌==◌}
use Rattle.std.proofs.lemmas.Fn.{filter_same}
use Rattle.script_text.proofs.read.release.Goals as goal

pub returns : goal.returns
returns c = filter_same _ (λ a. not (a == c.args.actor)) _ (λ x b f' k. search rules) c.args.holders.now.items c.retain.new.self.items c.retain.ensures.filtered
