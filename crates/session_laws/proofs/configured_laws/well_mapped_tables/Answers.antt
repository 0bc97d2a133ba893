use Rattle.session_laws.proofs.Configured.{plain_late, well_mapped}
use Rattle.session_laws.proofs.configured_laws.well_mapped_tables.Goals as goal

pub returns-clause-well : goal.returns-clause-well
returns-clause-well c =
    let h = c.schema.ensures.configured.hierarchies in
    well_mapped c.args.mapping.now h.lined h.lines h.valid c.schema.ensures.configured.related h.declared

pub returns-clause-plain : goal.returns-clause-plain
returns-clause-plain c = λ all.
    let h = c.schema.ensures.configured.hierarchies in
    well_mapped c.args.mapping.now h.lined h.lines h.valid c.schema.ensures.configured.related h.declared (plain_late c.args.mapping.now.classes.specs all)
