use Rattle.std.proofs.Common.{refl}
use Rattle.session_calls.proofs.Joining.{stays_there}
use Rattle.session_loads.proofs.LoadLemmas.{grows_classes}
use Rattle.session_loads.proofs.RowLemmas.{row_filled}
use Rattle.session_loads.specs.Rows.{attrs_of}
use Rattle.session_loads.proofs.rows.FillRowObjectLoad.take.Goals as goal

pub returns-clause-step : goal.returns-clause-step
returns-clause-step g c = row_filled g.K.Keeper.moment c.args.mapping.now c.args.self.object (attrs_of c.args.mapping.now c.args.arena.now c.args.self.object) c.args.self.rows.now refl c.fill_row.ensures.step

pub returns-clause-depth : goal.returns-clause-depth
returns-clause-depth g c = stays_there c.fill_row.result (g.K.Keeper.moment c.args._keeper.now).depth (g.K.Keeper.moment c.args._keeper.now) (c.requires.attached, refl)

pub returns-clause-grows : goal.returns-clause-grows
returns-clause-grows g c = grows_classes c.args.arena.now c.fill_row.new.arena c.fill_row.ensures.classes
