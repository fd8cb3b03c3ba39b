use Rattle.std.proofs.Common.{ℤ, string_bytes, cond, Some, ◌∙◌, ap, w64}
use Rattle.std.specs.Str.{bytes_eq}
use Rattle.std.specs.BTreeMap.{get_by_text}
use Rattle.std.proofs.lemmas.Map.Text.{btree_map_updates_text}
use Rattle.std.proofs.lemmas.Int.{to_z-of_z}
use Rattle.grounder.proofs.tables.put_value.Goals as goal

pub returns : goal.returns
returns c other =
    btree_map_updates_text (string_bytes c.args.name) c.args.values.now c.insert.new.self _ c.in-Ok.ensures.updates other
    ∙ ap (λ (v : ℤ). cond (bytes_eq (string_bytes c.args.name) other) (Some v) (get_by_text c.args.values.now other)) (to_z-of_z w64 c.args.value c.ranges.value)
