use Rattle.std.proofs.Common.{◌≡◌, ◌++◌, string_bytes, length}
use denote.Text.{Utf8}
use denote.Shadow.{shadow}
use Rattle.sql_text.specs.Names.{with_byte_doubled}
use Rattle.sql_text.proofs.names.doubled.Given as goal

abbrev pub invariant-loop-before : goal.invariant-loop-before
invariant-loop-before l = shadow (Utf8 l.rest) × (string_bytes l.shown ++ with_byte_doubled l.mark l.rest ≡ with_byte_doubled l.mark l.text)

abbrev pub decreases-loop-before : goal.decreases-loop-before
decreases-loop-before l = length l.rest
