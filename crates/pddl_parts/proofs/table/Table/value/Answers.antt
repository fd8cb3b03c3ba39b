use Rattle.std.proofs.Common.{ℕ, List, sym, ap, ◌∙◌}
use Rattle.std.specs.Str.{bytes_eq}
use Rattle.pddl_parts.specs.Tables.{value_of}
use Rattle.pddl_parts.proofs.Entries.{lookup_map}
use Rattle.pddl_parts.proofs.table.Table.value.Goals as goal

pub returns : goal.returns
returns c =
    c.copied.ensures
    ∙ (c.get.ensures.value
    ∙ (sym (lookup_map (bytes_eq c.args.name.now) c.self.inside.values.entries)
    ∙ ap (λ (t : List (List ℕ × ℕ)). value_of t c.args.name.now) c.self.view_is))
