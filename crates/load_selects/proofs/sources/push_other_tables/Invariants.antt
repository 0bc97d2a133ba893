use Rattle.std.proofs.Common.{◌≡◌, ◌++◌, drop}
use Rattle.std.specs.List.{enumerate_from, flat_map}
use Rattle.load_selects.specs.Sources.{ranked_source}
use Rattle.load_selects.proofs.sources.push_other_tables.Given as goal

abbrev pub invariant-loop-place : goal.invariant-loop-place
invariant-loop-place l =
    l.out ++ flat_map (ranked_source l.mapping l.class l.placement) (enumerate_from l.place (drop l.place l.tables))
    ≡ l.fn.out ++ flat_map (ranked_source l.mapping l.class l.placement) (enumerate_from 0 l.tables)
