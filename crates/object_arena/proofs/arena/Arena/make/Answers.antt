use Rattle.object_arena.proofs.FitLemmas.{fit_fresh}
use Rattle.object_arena.proofs.arena.Arena.make.Goals as goal

pub returns-clause-fits : goal.returns-clause-fits
returns-clause-fits c = fit_fresh c.args.mapping.now c.args.self.now c.add_fresh.new.self c.args.class c.requires.declared c.in_ok-add_fresh.ensures.ok
