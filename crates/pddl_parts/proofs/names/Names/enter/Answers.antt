use Rattle.std.proofs.Common.{ℕ, List, map, not, ap, sym, ◌∙◌}
use Rattle.std.specs.List.{position_or_len}
use Rattle.std.specs.Str.{bytes_eq}
use Rattle.pddl_parts.specs.Names.{with_name, is_new}
use Rattle.pddl_parts.proofs.Tables.{items_of, table_with, prefix_map, any_map}
use Rattle.pddl_parts.proofs.names.Names.enter.Goals as goal

pub returns-clause-table : goal.returns-clause-table
returns-clause-table c =
    ap (map items_of) c.in-Ok-insert_full.ensures.keys
    ∙ (table_with items_of c.self.inside.names.keys c.in-Ok.key
    ∙ (ap (λ (ns : List (List ℕ)). with_name ns c.in-Ok.key.items) c.self.view_is
    ∙ ap (λ (n : List ℕ). with_name c.args.self.now n) c.in-Ok.ensures.items))

pub returns-clause-place : goal.returns-clause-place
returns-clause-place c =
    c.in-Ok-insert_full.ensures.index
    ∙ (sym (prefix_map (λ (y : List ℕ). not (bytes_eq c.in-Ok.key.items y)) items_of c.self.inside.names.keys)
    ∙ (ap (λ (ns : List (List ℕ)). position_or_len (bytes_eq c.in-Ok.key.items) ns) c.self.view_is
    ∙ ap (λ (n : List ℕ). position_or_len (bytes_eq n) c.args.self.now) c.in-Ok.ensures.items))

pub returns-clause-fresh : goal.returns-clause-fresh
returns-clause-fresh c =
    c.in-Ok-insert_full.ensures.added
    ∙ (ap not (sym (any_map (bytes_eq c.in-Ok.key.items) items_of c.self.inside.names.keys))
    ∙ (ap (λ (ns : List (List ℕ)). is_new ns c.in-Ok.key.items) c.self.view_is
    ∙ ap (λ (n : List ℕ). is_new c.args.self.now n) c.in-Ok.ensures.items))
