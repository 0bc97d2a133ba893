use Rattle.std.proofs.Common.{IfOk, refl, ap, ◌∙◌, subst}
use Rattle.schema_core.specs.Catalog.{Catalog}
use Rattle.schema_core.specs.WellFormed.{AreKeysFor}
use Rattle.class_mapping.specs.Mapped.{Mapped}
use Rattle.session_scopes.specs.SessionState.{SessionState}
use Rattle.session_statements.proofs.Noted.{no_room_call, wrote}
use Rattle.session_statements.proofs.writing.write_noted.Goals as goal

pub returns-in-Ok-clause-call : goal.returns-in-Ok-clause-call
returns-in-Ok-clause-call g c =
    wrote g.K.Keeper.moment c.args.session.now.mapping.schema c.schema.result.now c.args.statement.now
    (c.schema.ensures.schema ∙ ap (λ (m : Mapped). m.schema) c.mapping.ensures ∙ ap (λ (s : SessionState). s.mapping.schema) c.in-Ok.ensures.ok)
    c.in-Ok.ensures.ok c.requires.in_step c.write.ensures.call

pub returns-in-Ok-clause-keys : goal.returns-in-Ok-clause-keys
returns-in-Ok-clause-keys g c =
    subst (λ (schema : Catalog). IfOk c.write.result (λ keys. AreKeysFor schema c.args.statement.now keys))
    (c.schema.ensures.schema ∙ ap (λ (m : Mapped). m.schema) c.mapping.ensures ∙ ap (λ (s : SessionState). s.mapping.schema) c.in-Ok.ensures.ok) c.write.ensures.keys

pub returns-in-Err-clause-call : goal.returns-in-Err-clause-call
returns-in-Err-clause-call g c = no_room_call g.K.Keeper.moment refl c.in-Err.ensures.err
