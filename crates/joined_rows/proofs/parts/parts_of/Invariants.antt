use Rattle.std.proofs.Common.{◌≡◌, ◌++◌, drop}
use Rattle.joined_rows.specs.Parts.{parts_from, width_of}
use Rattle.joined_rows.proofs.parts.parts_of.Given as goal

abbrev pub invariant-loop-place : goal.invariant-loop-place
invariant-loop-place l = l.parts ++ parts_from l.mapping l.class l.first (drop l.place-index l.places) ≡ parts_from l.mapping l.class (width_of l.mapping l.class) l.places
