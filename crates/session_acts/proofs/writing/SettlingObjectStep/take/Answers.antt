use Rattle.session_acts.proofs.writing.SettlingObjectStep.take.Goals as goal

pub returns-clause-fits : goal.returns-clause-fits
returns-clause-fits c =
    c.settle.ensures.fits
    (c.flushes_fit.ensures c.args.mapping.now c.args.arena.now c.args.self.prepared.now c.args.self.rows.now c.args.self.keys.now c.requires.ready.0.hierarchies c.requires.ready.0.related
    c.requires.fit c.requires.ready.1)
