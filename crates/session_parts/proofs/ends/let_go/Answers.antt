use Rattle.session_parts.proofs.ObjectLemmas.{left_is}
use Rattle.session_parts.proofs.ends.let_go.Goals as goal

pub returns-clause-left : goal.returns-clause-left
returns-clause-left c =
    left_is c.args.arena.now c.unmark.new.arena c.put_state.new.self c.args.object c.object.result.now c.left_state.result c.requires c.unmark.ensures.unmarked c.object.ensures.is c.left_state.ensures c.put_state.ensures.put
