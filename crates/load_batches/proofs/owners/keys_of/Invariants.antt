use Rattle.std.proofs.Common.{◌≡◌, ◌++◌, drop}
use Rattle.load_batches.specs.Batches.{keys_of}
use Rattle.load_batches.proofs.owners.keys_of.Given as goal

abbrev pub invariant-loop-owner : goal.invariant-loop-owner
invariant-loop-owner l = l.keys ++ keys_of (drop l.owner-index l.owners) ≡ keys_of l.owners
