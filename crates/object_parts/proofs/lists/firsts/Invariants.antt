use Rattle.std.proofs.Common.{◌≡◌, [], drop, fold}
use Rattle.object_parts.specs.Lists.{HasSeen, with_first}
use Rattle.object_parts.proofs.lists.firsts.Given as goal

abbrev pub invariant-loop-object : goal.invariant-loop-object
invariant-loop-object l = record {
  left : fold with_first l.kept (drop l.object-index l.objects) ≡ fold with_first [] l.objects;
  seen : HasSeen l.seen l.kept;
}
