use Rattle.std.proofs.Common.{ap, ◌∙◌}
use Rattle.class_mapping.specs.Mapped.{Mapped}
use Rattle.session_scopes.specs.SessionState.{SessionState}
use Rattle.session_statements.specs.Steps.{send_bulk}
use Rattle.session_statements.proofs.Statements.{no_room_call, sends_bulk, sent_refused}
use Rattle.session_statements.proofs.sending.send_bulk.Goals as goal

pub returns-in-Ok-clause-call : goal.returns-in-Ok-clause-call
returns-in-Ok-clause-call g c =
    sends_bulk g.K.Keeper.moment c.schema.result.now c.args.statement.now
    (c.schema.ensures.schema ∙ ap (λ (m : Mapped). m.schema) c.mapping.ensures ∙ ap (λ (s : SessionState). s.mapping.schema) c.in-Ok.ensures.ok)
    c.in-Ok.ensures.ok c.requires.in_step c.bulk.ensures

pub returns-in-Err-clause-call : goal.returns-in-Err-clause-call
returns-in-Err-clause-call g c = no_room_call g.K.Keeper.moment (send_bulk c.args.statement.now) c.in-Err.ensures.err

pub returns-in-Ok-clause-refused : goal.returns-in-Ok-clause-refused
returns-in-Ok-clause-refused g c =
    sent_refused g.K.Keeper.moment c.schema.result.now c.args.statement.now c.args.session.now c.note_bulk.new.session
    (c.schema.ensures.schema ∙ ap (λ (m : Mapped). m.schema) c.mapping.ensures ∙ ap (λ (s : SessionState). s.mapping.schema) c.in-Ok.ensures.ok)
    c.in-Ok.ensures.ok c.bulk.ensures
