use Rattle.std.proofs.Common.{◌≡◌, take}
use Rattle.std.specs.Prelude.{string_bytes}
use Rattle.std.specs.List.{filter}
use Rattle.ground_text.specs.Reading.{is_ascii_byte}
use Rattle.ground_text.proofs.bytes.ascii.Given as goal

abbrev pub invariant-loop-byte : goal.invariant-loop-byte
invariant-loop-byte l = string_bytes l.text ≡ filter is_ascii_byte (take l.byte-index l.line)
