use Rattle.std.proofs.Common.{refl}
use Rattle.load_filling.proofs.LoadedLemmas.{grows_same}
use Rattle.load_filling.proofs.rows.row_object.Goals as goal

pub returns-in_err-key-clause-grows : goal.returns-in_err-key-clause-grows
returns-in_err-key-clause-grows c = grows_same c.args.arena.now c.args.arena.now refl

pub returns-in-Some-clause-grows : goal.returns-in-Some-clause-grows
returns-in-Some-clause-grows c = grows_same c.args.arena.now c.args.arena.now refl

pub returns-in-None-clause-grows : goal.returns-in-None-clause-grows
returns-in-None-clause-grows c = grows_same c.args.arena.now c.args.arena.now refl
