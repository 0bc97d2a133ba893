use Rattle.object_arena.specs.Graph.{object_at}
use Rattle.class_mapping.specs.Mapped.{root_of}
use Rattle.load_rows.specs.Loading.{loading, take_row}
use Rattle.load_rows.proofs.TakenLemmas.{grows_filled, object_stays, root_stays, row_fits, take_done, take_lost, take_stopped}
use Rattle.load_rows.proofs.taking.take_row.Goals as goal

pub returns-in_err-object-clause-step : goal.returns-in_err-object-clause-step
returns-in_err-object-clause-step c =
    take_stopped (λ object. object) c.args.mapping.now c.args.class c.args.values.now c.args.arena.now c.row_object.new.arena c.args.notes.now _ c.from_residual.result c.from_residual.ensures.1
    c.in_err-object.ensures.step.0 c.in_err-object.ensures.step.1

pub returns-in_err-fill_by_row-clause-step : goal.returns-in_err-fill_by_row-clause-step
returns-in_err-fill_by_row-clause-step c =
    take_lost (λ object. object) (take_row c.args.mapping.now c.args.class c.args.values.now (loading c.args.arena.now c.args.notes.now)) _ c.from_residual-in_err-fill_by_row.result c.from_residual-in_err-fill_by_row.ensures.1

pub returns-clause-step : goal.returns-clause-step
returns-clause-step c =
    take_done c.args.mapping.now c.args.class c.args.values.now c.args.arena.now c.row_object.new.arena c.fill_by_row.new.arena c.args.notes.now c.fill_by_row.new.notes c.in_ok-object.object
    c.in_ok-object.ensures.step c.in_ok-fill_by_row.ensures.filled

pub returns-clause-exists : goal.returns-clause-exists
returns-clause-exists c = object_stays c.row_object.new.arena c.fill_by_row.new.arena c.in_ok-object.object c.in_ok-fill_by_row.ensures.keeps.classes c.in_ok-object.ensures.exists

pub returns-clause-rooted : goal.returns-clause-rooted
returns-clause-rooted c =
    root_stays c.row_object.new.arena c.fill_by_row.new.arena c.in_ok-object.object (root_of c.args.mapping.now c.args.class) c.in_ok-fill_by_row.ensures.keeps.classes c.in_ok-object.ensures.rooted

pub returns-clause-grows : goal.returns-clause-grows
returns-clause-grows c = grows_filled c.args.arena.now c.row_object.new.arena c.fill_by_row.new.arena c.in_ok-object.ensures.grows c.in_ok-fill_by_row.ensures.keeps.classes

pub returns-in_err-fill_by_row-clause-grows : goal.returns-in_err-fill_by_row-clause-grows
returns-in_err-fill_by_row-clause-grows c = grows_filled c.args.arena.now c.row_object.new.arena c.fill_by_row.new.arena c.in_ok-object.ensures.grows c.in_err-fill_by_row.ensures.keeps.classes

pub returns-clause-fits : goal.returns-clause-fits
returns-clause-fits c =
    c.in_ok-fill_by_row.ensures.keeps.fits c.args.mapping.now
    (row_fits c.args.mapping.now c.args.class (object_at c.row_object.new.arena c.in_ok-object.object).class c.args.values.now c.requires.row.kinds) (c.in_ok-object.ensures.fits c.requires.fit)

pub returns-in_err-fill_by_row-clause-fits : goal.returns-in_err-fill_by_row-clause-fits
returns-in_err-fill_by_row-clause-fits c =
    c.in_err-fill_by_row.ensures.keeps.fits c.args.mapping.now
    (row_fits c.args.mapping.now c.args.class (object_at c.row_object.new.arena c.in_ok-object.object).class c.args.values.now c.requires.row.kinds) (c.in_ok-object.ensures.fits c.requires.fit)
