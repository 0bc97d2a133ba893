use Rattle.std.proofs.Common.{◌≡◌, ◌++◌, drop}
use Rattle.std.specs.List.{flat_map}
use Rattle.load_selects.specs.Branches.{is_of_branch}
use Rattle.query_names.proofs.select.push_branches.Given as goal

abbrev pub invariant-loop-placed : goal.invariant-loop-placed
invariant-loop-placed l =
    l.out ++ flat_map (λ placed. is_of_branch l.mapping placed.class placed.placement) (drop l.placed-index l.classes)
    ≡ l.fn.out ++ flat_map (λ placed. is_of_branch l.mapping placed.class placed.placement) l.classes
