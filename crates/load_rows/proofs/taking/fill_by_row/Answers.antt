use Rattle.load_rows.proofs.taking.fill_by_row.Goals as goal

pub found_in_row-requires-clause-own : goal.found_in_row-requires-clause-own
found_in_row-requires-clause-own c = (c.object.ensures.fits c.args.mapping.now c.requires.fit).class
