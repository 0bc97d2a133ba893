use Rattle.std.proofs.Common.{◌≡◌, ◌++◌, drop}
use Rattle.std.specs.List.{flat_map}
use Rattle.alias_names.specs.Names.{exists_names}
use Rattle.alias_names.proofs.names.+names.Given as goal

abbrev pub invariant-push_all_names-loop-e : goal.invariant-push_all_names-loop-e
invariant-push_all_names-loop-e l =
    l.out ++ flat_map (exists_names l.mapping.schema) (drop l.e-index l.es)
    ≡ l.fn.out ++ flat_map (exists_names l.mapping.schema) l.es
