use Rattle.std.proofs.Common.{◌≡◌, ◌++◌, length}
use Rattle.script_lex.specs.Content.{bytes_of_hex}
use Rattle.script_lex.proofs.content.decoded.Given as goal

abbrev pub invariant-loop-digits : goal.invariant-loop-digits
invariant-loop-digits l = l.bytes.items ++ bytes_of_hex l.digits ≡ bytes_of_hex l.initial.digits

abbrev pub decreases-loop-digits : goal.decreases-loop-digits
decreases-loop-digits l = length l.digits
