use Rattle.std.proofs.Common.{ap, ◌∙◌}
use Rattle.class_mapping.specs.Mapped.{Mapped}
use Rattle.session_tables.proofs.Scans.{scans_all}
use Rattle.session_tables.proofs.scanning.scan_tables.Goals as goal

pub returns-clause-call : goal.returns-clause-call
returns-clause-call g c =
    scans_all g.K.Keeper.moment c.schema.result.now c.args.session.now
    (c.schema.ensures.schema ∙ ap (λ (mapped : Mapped). mapped.schema) c.mapping.ensures) c.requires.in_step
    c.scan_each.ensures.step c.scan_each.ensures.deep c.scan_each.ensures.stops
