use Rattle.std.proofs.Common.{◌≡◌, drop}
use Rattle.command_words.specs.Names.{all_bytes, is_name_byte}
use Rattle.command_words.proofs.names.all_name_bytes.Given as goal

abbrev pub invariant-loop-byte : goal.invariant-loop-byte
invariant-loop-byte l = all_bytes is_name_byte l.bytes ≡ all_bytes is_name_byte (drop l.byte-index l.bytes)
