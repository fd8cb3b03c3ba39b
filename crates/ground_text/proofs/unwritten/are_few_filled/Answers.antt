use Rattle.std.proofs.Common.{sym, ◌∙◌}
use Rattle.std.specs.Prelude.{string_bytes}
use Rattle.std.proofs.lemmas.Result.{IfOk-weaker}
use Rattle.ground_text.proofs.FilledNames.{too_many, few_all}
use Rattle.ground_text.proofs.unwritten.are_few_filled.Goals as goal

pub returns-then-names-most : goal.returns-then-names-most
returns-then-names-most c = too_many c.args.most c.args.names.now c.if-names-most.true

pub returns-else-not-is_name : goal.returns-else-not-is_name
returns-else-not-is_name c =
    IfOk-weaker c.filled_rise.result _ _
    (λ is rises. few_all c.args.most c.args.names.now c.first-item.result c.as_str.result.now (string_bytes c.in_ok-first-in-len1-up.first) c.as_bytes.result.now c.as_str-in-len1-up.result.now is
    c.in-len1-up.len_at_least c.if-names-most.false c.first-item.is c.as_str.ensures c.in_ok-first-in-len1-up.ensures c.as_bytes.ensures.value (sym c.is_name.ensures ∙ c.if-not-is_name.false) c.as_str-in-len1-up.ensures.value rises)
    c.filled_rise.ensures
