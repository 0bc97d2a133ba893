use Rattle.flush_order.specs.Index.{IsIndexOf, gone_place}
use Rattle.flush_order.proofs.blockers.gone_index.Given as goal

abbrev pub invariant-loop-place : goal.invariant-loop-place
invariant-loop-place l = IsIndexOf (gone_place l.gone.schema.now l.gone.changes.now) l.place l.index
