-- The last row's key is the greatest; an empty place is none.
use Rattle.std.proofs.Common.{sym, ◌∙◌}
use Rattle.table_rows.proofs.Bounds.{last_before, last_here}
use Rattle.table_rows.proofs.rows.last_full.Goals as goal

pub returns-then-is_some : goal.returns-then-is_some
returns-then-is_some c =
    last_here c.loop-key.places c.next_back.new.self c.in-Some.key.now c.in-Some.place.now c.in-Some.ensures.steps (sym c.is_some.ensures ∙ c.if-is_some.true) ∙ c.loop-key.invariant

pub loop-key-preserved : goal.loop-key-preserved
loop-key-preserved c =
    last_before c.loop-key.places c.next_back.new.self c.in-Some.key.now c.in-Some.place.now c.in-Some.ensures.steps (sym c.is_some.ensures ∙ c.if-is_some.false) ∙ c.loop-key.invariant
