use Rattle.std.proofs.Common.{◌≡◌, length}
use Rattle.object_arena.specs.declared.object.Link.TheVariants.{Unset}
use Rattle.object_records.proofs.PutSteps.{AreLeft, links_before}
use Rattle.object_records.proofs.puts.put_links.Given as goal

abbrev pub invariant-loop-place : goal.invariant-loop-place
invariant-loop-place l = (l.arena ≡ links_before l.fn.arena l.object l.fn.links l.place) × AreLeft Unset l.fn.links l.links l.place × (length l.links ≡ length l.fn.links)
