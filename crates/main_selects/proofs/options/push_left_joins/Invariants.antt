use Rattle.std.proofs.Common.{◌≡◌, fold, map, drop}
use Rattle.main_selects.specs.MainSelect.{with_left_join, within_branch}
use Rattle.main_selects.proofs.options.push_left_joins.Given as goal

abbrev pub invariant-loop-source : goal.invariant-loop-source
invariant-loop-source l =
    fold (with_left_join l.mapping.schema) l.select (map (within_branch l.mapping l.class l.placement) (drop l.source-index l.further))
    ≡ fold (with_left_join l.mapping.schema) l.fn.select (map (within_branch l.mapping l.class l.placement) l.further)
