-- The name's first entry is written over, or where it has none, one more stands behind the others.
use Rattle.std.proofs.Common.{position, string_bytes, sym, ap, ◌∙◌, map}
use Rattle.std.specs.Str.{bytes_eq}
use Rattle.tp_world.specs.Contents.{file_of}
use Rattle.tp_world.proofs.Entries.{Stores-set_entry, Stores-append_ok, absent_entry}
use Rattle.tp_world.proofs.files.store.Goals as goal

pub returns-in-Some-clause-ok : goal.returns-in-Some-clause-ok
returns-in-Some-clause-ok c =
    let at = ap (position (λ e. bytes_eq (string_bytes e.0) c.args.name.now)) (sym c.deref.ensures.value) ∙ sym c.in-Some.ensures in
    Stores-set_entry c.args.entries.now.items c.in-Some.at c.index_mut.result.now c.in-Ok.content c.args.name.now c.args.bytes.now at c.index_mut.ensures.value c.in-Ok.ensures.items

pub returns-in-None-clause-ok : goal.returns-in-None-clause-ok
returns-in-None-clause-ok c =
    let absent = ap (position (λ e. bytes_eq (string_bytes e.0) c.args.name.now)) (sym c.deref.ensures.value) ∙ sym c.in-None.ensures in
    Stores-append_ok (map file_of c.args.entries.now.items) (map file_of c.append.new.entries.items) c.args.name.now c.in-Ok.content.items c.args.bytes.now c.append.result
    (absent_entry c.args.entries.now.items c.args.name.now absent) c.in-Ok.ensures.items c.append.ensures.ok
