use Rattle.std.proofs.Common.{◌≡◌, drop}
use Rattle.query_names.specs.Scopes.{AreDeclared}
use Rattle.query_names.specs.Sources.{with_joins}
use Rattle.query_names.proofs.sources.join_all.Given as goal

-- the joins that are left lead from here to where all lead
abbrev pub invariant-loop-written : goal.invariant-loop-written
invariant-loop-written l = record {
  told : with_joins l.mapping l.sources (drop l.written-index l.joins) ≡ with_joins l.mapping l.fn.sources l.joins;
  declared : AreDeclared l.mapping l.sources.classes;
}
