use Rattle.std.proofs.Common.{◌≡◌, [], drop}
use Rattle.select_sources.specs.Frames.{frame_of}
use Rattle.sql_semantics.specs.Rows as spec
use Rattle.select_rows.proofs.output.outputs.Given as goal

abbrev pub invariant-loop-basis : goal.invariant-loop-basis
invariant-loop-basis l = spec.mapped_from (spec.output (frame_of l.frame) l.select) l.outputs.items (drop l.basis-index l.bases) ≡ spec.mapped_from (spec.output (frame_of l.frame) l.select) [] l.bases
