use Rattle.std.proofs.Common.{◌≡◌, [], drop, fold}
use Rattle.std.specs.List.{All}
use Rattle.load_ends.specs.Ends.{FitsClass, HasSeen, with_key_of}
use Rattle.load_ends.proofs.keys.wanted_keys.Given as goal

abbrev pub invariant-loop-owner : goal.invariant-loop-owner
invariant-loop-owner l = record {
  left : fold (with_key_of l.mapping l.relation l.arena) l.keys (drop l.owner-index l.owners) ≡ fold (with_key_of l.mapping l.relation l.arena) [] l.owners;
  seen : HasSeen l.seen l.keys;
  fits : All (FitsClass l.mapping l.relation.target) l.keys;
}
