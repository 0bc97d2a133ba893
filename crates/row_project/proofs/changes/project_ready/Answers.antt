use Rattle.std.proofs.Common.{sym, ◌∙◌, subst}
use Rattle.schema_core.specs.Catalog.{Catalog}
use Rattle.flush_order.specs.Ready.{AreInRange, AreReady}
use Rattle.row_project.proofs.Range.{all_declared, plain_declared}
use Rattle.row_project.proofs.Unswitched.{as_switched, as_they_are}
use Rattle.row_project.proofs.changes.project_ready.Goals as goal

pub rows_ready-requires : goal.rows_ready-requires
rows_ready-requires c =
    plain_declared c.args.mapping.now c.args.arena.now c.args.prepared.now c.schema-schema.result.now c.in_ok-plain.plain c.schema-schema.ensures.schema c.in_ok-plain.ensures c.schema-schema.ensures.configured.related c.requires.fit

pub rows_ready-requires-in-Some : goal.rows_ready-requires-in-Some
rows_ready-requires-in-Some c =
    all_declared c.args.mapping.now c.args.arena.now c.args.prepared.now c.schema-schema.result.now c.in-Some.changes c.schema-schema.ensures.schema
    (as_switched c.args.mapping.now c.args.arena.now c.args.prepared.now c.in_ok-plain.plain c.in-Some.changes c.in_ok-plain.ensures (sym c.in-Some.is ∙ c.in_ok-changes.ensures))
    c.schema-schema.ensures.configured.related c.requires.fit

pub returns-in_ok-rows-in-Some-clause-changes : goal.returns-in_ok-rows-in-Some-clause-changes
returns-in_ok-rows-in-Some-clause-changes c =
    as_switched c.args.mapping.now c.args.arena.now c.args.prepared.now c.in_ok-plain.plain c.in-Some.changes c.in_ok-plain.ensures (sym c.in-Some.is ∙ c.in_ok-changes.ensures)

pub returns-in_ok-rows-in-Some-clause-range : goal.returns-in_ok-rows-in-Some-clause-range
returns-in_ok-rows-in-Some-clause-range c = subst (λ (s : Catalog). AreInRange s c.in-Some.changes) c.schema-schema.ensures.schema c.in_ok-rows-in-Some.ensures.range

pub returns-in_ok-rows-in-Some-clause-ready : goal.returns-in_ok-rows-in-Some-clause-ready
returns-in_ok-rows-in-Some-clause-ready c = subst (λ (s : Catalog). AreReady s c.in-Some.changes c.in_ok-rows-in-Some.rows.items) c.schema-schema.ensures.schema c.in_ok-rows-in-Some.ensures.ready

pub returns-in-None-clause-changes : goal.returns-in-None-clause-changes
returns-in-None-clause-changes c = as_they_are c.args.mapping.now c.args.arena.now c.args.prepared.now c.in_ok-plain.plain c.in_ok-plain.ensures (sym c.in-None.is ∙ c.in_ok-changes.ensures)

pub returns-in-None-clause-range : goal.returns-in-None-clause-range
returns-in-None-clause-range c = subst (λ (s : Catalog). AreInRange s c.in_ok-plain.plain) c.schema-schema.ensures.schema c.in_ok-rows.ensures.range

pub returns-in-None-clause-ready : goal.returns-in-None-clause-ready
returns-in-None-clause-ready c = subst (λ (s : Catalog). AreReady s c.in_ok-plain.plain c.in_ok-rows.rows.items) c.schema-schema.ensures.schema c.in_ok-rows.ensures.ready
