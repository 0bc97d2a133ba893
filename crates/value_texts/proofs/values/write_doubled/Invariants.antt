use Rattle.std.proofs.Common.{◌≡◌, ℕ, List, ◌++◌, length}
use denote.Text.{Utf8}
use denote.Shadow.{shadow}
use Rattle.std.specs.Fmt.{HasWritten, IsPlainFormatter}
use Rattle.value_texts.specs.Values.{with_quotes_doubled}
use Rattle.value_texts.proofs.values.write_doubled.Given as goal

abbrev pub invariant-loop-before : goal.invariant-loop-before
invariant-loop-before g l =
    shadow (Utf8 l.rest) × (IsPlainFormatter l.initial.f → (done : List ℕ) × HasWritten g.W.Write.write_str_gives l.initial.f done l.f × (done ++ with_quotes_doubled l.rest ≡ with_quotes_doubled l.text))

abbrev pub decreases-loop-before : goal.decreases-loop-before
decreases-loop-before g l = length l.rest
