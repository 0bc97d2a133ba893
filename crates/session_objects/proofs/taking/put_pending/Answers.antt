use Rattle.std.proofs.Common.{ap}
use Rattle.object_arena.specs.declared.object.Object.{Object}
use Rattle.session_objects.proofs.TakingLemmas.{pending_is}
use Rattle.session_objects.proofs.taking.put_pending.Goals as goal

pub returns-clause-taken : goal.returns-clause-taken
returns-clause-taken c =
    pending_is c.args.arena.now c.put_marks.new.self c.put_state.new.self c.args.object c.args.number c.object-record.result.now.marked c.object-record.result.now.orphan c.requires.object c.requires.transient
    (ap (λ (o : Object). o.marked) c.object-record.ensures.is) (ap (λ (o : Object). o.orphan) c.object-record.ensures.is) c.put_marks.ensures.put c.put_state.ensures.put
