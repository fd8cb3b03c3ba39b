use Rattle.std.proofs.Common.{◌++◌, ℕ, List, length, sym, ap, ◌∙◌, arith}
use Rattle.std.specs.Prelude.{string_bytes}
use Rattle.std.proofs.lemmas.Bool.{eqb-true}
use Rattle.ground_text.proofs.FilledNames.{missing_stands}
use Rattle.ground_text.proofs.unwritten.next_name.Goals as goal

pub returns-then-is_empty : goal.returns-then-is_empty
returns-then-is_empty c =
    missing_stands (string_bytes c.args.before) _ c.args.name.now c.requires
    (eqb-true (length c.args.name.now) 0 (sym c.is_empty.ensures ∙ c.if-is_empty.true))
    (c.in_ok-push.ensures.bytes ∙ ap (λ (x : List ℕ). string_bytes c.args.before ++ x) (c.in_ok-push.ensures.ascii (omega arith)))
