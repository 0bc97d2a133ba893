use Rattle.std.proofs.Common.{◌∙◌, rules}
use Rattle.session_scopes.proofs.LoadLemmas.{filled_all, filled_more}
use Rattle.session_scopes.proofs.load.touch_filled.Goals as goal

pub loop-note-preserved : goal.loop-note-preserved
loop-note-preserved c = (
  filled_more c.args.arena.now c.args.notes.now c.loop-note.note-index _ c.args.frames.now c.loop-note.frames c.touch_noted.new.frames c.loop-note-test.true (search rules) c.in_ok-touch_noted.ensures.ok c.loop-note.invariant.0,
  c.touch_noted.ensures.scopes ∙ c.loop-note.invariant.1,
)

pub returns-clause-ok : goal.returns-clause-ok
returns-clause-ok c = filled_all c.args.arena.now c.args.notes.now c.loop-note.note-index c.args.frames.now c.loop-note.frames c.loop-note-test.false c.loop-note.invariant.0
