use Rattle.std.proofs.Common.{◌≡◌, drop}
use Rattle.class_blocks.specs.Plain.{repeats_column}
use Rattle.class_blocks.proofs.plain.repeats_column.Given as goal

abbrev pub invariant-loop-place : goal.invariant-loop-place
invariant-loop-place l = repeats_column (drop l.place l.columns) ≡ repeats_column l.columns
