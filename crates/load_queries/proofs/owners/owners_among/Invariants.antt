use Rattle.std.proofs.Common.{◌≡◌, ◌++◌, drop}
use Rattle.std.specs.List.{All, flat_map}
use Rattle.load_queries.specs.Selectin.{IsOwnerOf, if_owner}
use Rattle.load_queries.proofs.owners.owners_among.Given as goal

abbrev pub invariant-loop-object : goal.invariant-loop-object
invariant-loop-object l = record {
  owners : l.owners ++ flat_map (if_owner l.mapping l.class l.arena) (drop l.object-index l.objects) ≡ flat_map (if_owner l.mapping l.class l.arena) l.objects;
  of : All (IsOwnerOf l.mapping l.arena l.class) l.owners;
}
