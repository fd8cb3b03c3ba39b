use Rattle.ground_text.proofs.FilledNames.{names_counted}
use Rattle.std.specs.Prelude.{string_bytes}
use Rattle.ground_text.proofs.unwritten.put_filled_names.Goals as goal

pub names-init : goal.names-init
names-init c = rw (c.in_ok-extend_from_slice.ensures.items, c.in_ok-push_number.ensures) (names_counted c.args.limit c.args.out.now.items c.args.names.now (string_bytes c.new-before.result) c.new-before.ensures.bytes)
