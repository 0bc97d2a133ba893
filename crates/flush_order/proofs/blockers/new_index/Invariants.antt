use Rattle.flush_order.specs.Index.{IsIndexOf, new_place}
use Rattle.flush_order.proofs.blockers.new_index.Given as goal

abbrev pub invariant-loop-place : goal.invariant-loop-place
invariant-loop-place l = IsIndexOf (new_place l.new.schema.now l.new.changes.now) l.place l.index
