use Rattle.std.proofs.Common.{◌≡◌, ◌++◌, map, drop}
use Rattle.graph_flushed.specs.Flushed.{kept_link}
use Rattle.graph_flushed.proofs.links.without_flags.Given as goal

abbrev pub invariant-loop-link : goal.invariant-loop-link
invariant-loop-link l = l.all ++ map kept_link (drop l.link-index l.links) ≡ map kept_link l.links
