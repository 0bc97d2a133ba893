use Rattle.std.proofs.Common.{◌≡◌, ◌++◌, map, drop}
use Rattle.std.specs.List.{enumerate_from}
use Rattle.object_rows.specs.Seen.{is_cleared}
use Rattle.graph_flushed.specs.Flushed.{prepared_link, prepared_links}
use Rattle.graph_flushed.proofs.links.prepared_links.Given as goal

abbrev pub invariant-loop-number : goal.invariant-loop-number
invariant-loop-number l =
    l.all ++ map (λ placed. prepared_link (is_cleared l.prepared l.object (record { 0 = placed.0 })) placed.1) (enumerate_from l.number (drop l.number l.links)) ≡ prepared_links l.prepared l.object l.links
