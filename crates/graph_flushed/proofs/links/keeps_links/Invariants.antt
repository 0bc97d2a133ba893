use Rattle.std.proofs.Common.{◌≡◌, map}
use Rattle.std.specs.List.{enumerate_from}
use Rattle.object_rows.specs.Seen.{is_cleared}
use Rattle.graph_flushed.specs.Flushed.{kept_link, kept_links, prepared_link}
use Rattle.graph_flushed.proofs.SettledSteps.{StayFrom}
use Rattle.graph_flushed.proofs.links.keeps_links.Given as goal

abbrev pub invariant-loop-number : goal.invariant-loop-number
invariant-loop-number l = StayFrom (λ placed. kept_link (prepared_link (is_cleared l.prepared l.object (record { 0 = placed.0 })) placed.1)) l.links l.number → kept_links l.prepared l.object l.links ≡ l.links
