use Rattle.std.proofs.Common.{◌≡◌, ◌++◌, drop, map}
use Rattle.sql_semantics.specs.Rows as spec
use Rattle.select_sources.proofs.survey.+named.Given as goal

abbrev pub invariant-named_all-loop-part : goal.invariant-named_all-loop-part
invariant-named_all-loop-part l = l.found.items ++ spec.flat (map spec.exists_tables (drop l.part-index l.part-items)) ≡ l.initial.found.items ++ spec.flat (map spec.exists_tables l.parts)
