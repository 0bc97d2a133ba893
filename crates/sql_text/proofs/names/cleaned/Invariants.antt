use Rattle.std.proofs.Common.{◌≡◌, string_bytes, map, take}
use Rattle.sql_text.specs.Names.{cleaned_byte}
use Rattle.sql_text.proofs.names.cleaned.Given as goal

abbrev pub invariant-loop-byte : goal.invariant-loop-byte
invariant-loop-byte l = (l.byte-items ≡ l.base) × (string_bytes l.clean ≡ map cleaned_byte (take l.byte-index l.byte-items))
