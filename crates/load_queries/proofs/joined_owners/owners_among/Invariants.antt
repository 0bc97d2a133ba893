use Rattle.std.proofs.Common.{◌≡◌, ◌++◌, drop}
use Rattle.load_queries.specs.Joined.{owners_among}
use Rattle.load_queries.proofs.joined_owners.owners_among.Given as goal

abbrev pub invariant-loop-object : goal.invariant-loop-object
invariant-loop-object l = l.owners ++ owners_among l.mapping l.class l.arena (drop l.object-index l.objects) ≡ owners_among l.mapping l.class l.arena l.objects
