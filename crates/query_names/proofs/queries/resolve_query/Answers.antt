use Rattle.std.proofs.Common.{Result, Ok, subst}
use Rattle.base_core.specs.declared.refusal.Refusal.{Refusal}
use Rattle.expr_types.specs.declared.select.ObjectQuery.{ObjectQuery}
use Rattle.sql_semantics.specs.Plain.{IsPlainSelect}
use Rattle.main_selects.specs.MainSelect.{main_select}
use Rattle.query_names.proofs.Readable.{readable}
use Rattle.query_names.proofs.Selectable.{selectable}
use Rattle.query_names.proofs.queries.resolve_query.Goals as goal

pub returns-clause-selectable : goal.returns-clause-selectable
returns-clause-selectable c =
    let mapped = c.args.mapping.now in
    let found : Result ObjectQuery Refusal = Ok c.in_ok-query.query in
    let plain : IsPlainSelect mapped.schema (main_select mapped c.in_ok-query.query) =
    subst (λ (query : ObjectQuery). IsPlainSelect mapped.schema (main_select mapped query)) c.get.ensures (c.in_ok-has_plain_select.ensures.plain.0 c.if-not-branch.false) in
    selectable mapped c.in_ok-has_plain_select.ensures.configured.hierarchies c.args.written.now found c.in_ok-query.ensures.told c.in_ok-query.ensures.class c.in_ok-query.ensures.options plain

pub returns-clause-readable : goal.returns-clause-readable
returns-clause-readable c =
    let configured = c.in_ok-has_plain_select.ensures.configured in
    let found : Result ObjectQuery Refusal = Ok c.in_ok-query.query in
    readable c.args.mapping.now configured.hierarchies configured.related c.args.written.now found c.in_ok-query.ensures.told
