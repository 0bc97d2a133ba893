use Rattle.std.proofs.Common.{◌≡◌, ◌++◌, map, drop}
use Rattle.std.specs.List.{enumerate_from, filter}
use Rattle.object_rows.specs.Late.{is_late}
use Rattle.object_rows.proofs.late.push_late_in.Given as goal

abbrev pub invariant-loop-number : goal.invariant-loop-number
invariant-loop-number l =
    l.out ++ map (λ placed. (l.table, placed.0)) (filter (λ placed. is_late l.mapping l.table placed.0) (enumerate_from l.number (drop l.number l.foreigns)))
    ≡ l.fn.out ++ map (λ placed. (l.table, placed.0)) (filter (λ placed. is_late l.mapping l.table placed.0) (enumerate_from 0 l.foreigns))
