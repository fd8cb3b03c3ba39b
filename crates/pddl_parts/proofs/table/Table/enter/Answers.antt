use Rattle.std.proofs.Common.{◌≡◌, ℕ, List, None, map, sym, ap, ◌∙◌}
use Rattle.std.specs.Map.{lookup}
use Rattle.std.specs.Str.{bytes_eq}
use Rattle.std.specs.declared.alloc.Global.{Global}
use Rattle.std.specs.declared.vec.Vec.{Vec}
use Rattle.pddl_parts.specs.Tables.{value_of}
use Rattle.pddl_parts.proofs.Entries.{named, entered, none_of_not_some, lookup_map}
use Rattle.indexmap.proofs.CallerLemmas.{insert_entry-new}
use Rattle.pddl_parts.proofs.table.Table.enter.Goals as goal

pub returns : goal.returns
returns c =
    let none : value_of c.args.self.now c.args.name.now ≡ None = sym c.value.ensures ∙ none_of_not_some c.value.result (sym c.is_some.ensures ∙ c.if-is_some.false) in
    let absent =
    sym (lookup_map (bytes_eq c.in-Ok.key.items) c.self.inside.values.entries)
    ∙ (ap (λ (n : List ℕ). lookup (bytes_eq n) (map named c.self.inside.values.entries)) c.in-Ok.ensures.items
    ∙ (ap (λ (t : List (List ℕ × ℕ)). value_of t c.args.name.now) c.self.view_is ∙ none)) in
    let grown = c.in-Ok-insert.ensures.entries ∙ insert_entry-new (λ (a b : Vec ℕ Global). bytes_eq a.items b.items) c.self.inside.values c.in-Ok.key c.args.value absent in
    record { table = entered c.self.inside.values.entries c.insert.new.self.entries c.in-Ok.key c.args.value c.args.self.now c.args.name.now c.self.view_is c.in-Ok.ensures.items none grown }
