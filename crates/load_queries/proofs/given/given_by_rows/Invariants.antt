use Rattle.std.proofs.Common.{◌≡◌, ◌++◌, drop}
use Rattle.base_core.specs.declared.ids.ObjId.{ObjId}
use Rattle.load_queries.specs.Joined.{given_to, objects_at}
use Rattle.load_queries.proofs.given.given_by_rows.Given as goal

abbrev pub invariant-loop-one : goal.invariant-loop-one
invariant-loop-one l = (owner : ObjId) → objects_at l.given owner.0 ++ given_to l.number (drop l.one-index l.taken) owner ≡ given_to l.number l.taken owner
