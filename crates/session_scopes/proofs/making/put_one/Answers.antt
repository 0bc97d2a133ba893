use Rattle.std.proofs.Common.{◌<◌, ℕ, subst}
use Rattle.object_arena.proofs.FitLemmas.{fit_cells}
use Rattle.session_scopes.proofs.MakingLemmas.{taken_fits}
use Rattle.object_arena.specs.Graph.{object_at}
use Rattle.session_scopes.proofs.making.put_one.Goals as goal

pub put_cell-requires : goal.put_cell-requires
put_cell-requires c = record {
  object = c.requires.object;
  attr = subst (λ (n : ℕ). c.args.attr.0 < n) (fit_cells c.args.mapping.now c.args.arena.now c.args.object c.requires.fit c.requires.object) c.requires.attribute;
}

pub returns-clause-fits : goal.returns-clause-fits
returns-clause-fits c =
    c.put_cell.ensures.keeps.fits c.args.mapping.now (taken_fits c.args.mapping.now (object_at c.args.arena.now c.args.object).class c.args.attr c.args.value c.requires.kind) c.requires.fit
