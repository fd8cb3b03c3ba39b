use Rattle.std.proofs.Common.{◌&&◌, Bool, true, cond, sym, ap, ◌∙◌, string_bytes}
use Rattle.std.specs.Str.{bytes_eq}
use Rattle.std.specs.BTreeSet.{contains_text}
use Rattle.std.proofs.lemmas.Map.Text.{btree_set_updates_text}
use Rattle.grounder.proofs.timed.enter.Goals as goal

pub returns : goal.returns
returns c other =
    let text = string_bytes c.args.name in
    btree_set_updates_text text c.args.names.now c.insert.new.self true c.in-Ok.ensures.updates other
    ∙ ap (λ (b : Bool). cond (b && bytes_eq text other) true (contains_text c.args.names.now other)) (sym c.if-not-passes.false)
