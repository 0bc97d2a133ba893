use Rattle.std.proofs.Common.{◌≡◌, map, drop}
use Rattle.std.specs.List.{list_all}
use Rattle.sql_semantics.specs.Plain.{has_full_lists}
use Rattle.expr_scopes.proofs.grouping.+full.Given as goal

abbrev pub invariant-all_full-loop-e : goal.invariant-all_full-loop-e
invariant-all_full-loop-e l = list_all (λ has. has) (map has_full_lists (drop l.e-index l.es)) ≡ list_all (λ has. has) (map has_full_lists l.es)
