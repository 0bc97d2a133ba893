use Rattle.std.proofs.Common.{◌≡◌, [], drop, fold}
use Rattle.load_rows.specs.Links.{with_key}
use Rattle.load_rows.proofs.order.in_key_order.Given as goal

abbrev pub invariant-loop-object : goal.invariant-loop-object
invariant-loop-object l = fold (with_key l.arena) l.entries.entries (drop l.object-index l.objects) ≡ fold (with_key l.arena) [] l.objects
