use Rattle.std.proofs.Common.{ℕ, List, position, ap, sym, ◌∙◌}
use Rattle.std.specs.Str.{bytes_eq}
use Rattle.pddl_parts.proofs.Tables.{items_of, position_map}
use Rattle.pddl_parts.proofs.names.Names.find.Goals as goal

pub returns : goal.returns
returns c =
    c.get_index_of.ensures.index
    ∙ (sym (position_map (bytes_eq c.args.name.now) items_of c.self.inside.names.keys)
    ∙ ap (λ (ns : List (List ℕ)). position (bytes_eq c.args.name.now) ns) c.self.view_is)
