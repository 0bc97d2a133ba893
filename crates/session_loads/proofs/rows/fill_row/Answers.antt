use Rattle.std.proofs.Common.{List, ap, subst, sym, ◌∙◌}
use Rattle.std.specs.List.{AllByRecursion}
use Rattle.base_core.specs.declared.ids.AttrNo.{AttrNo}
use Rattle.class_mapping.specs.Mapped.{IsClass}
use Rattle.collection_selects.specs.Rows.{AreCellsOf}
use Rattle.keeper_core.specs.Alone.{IsQuiet}
use Rattle.object_arena.specs.Graph.{object_at}
use Rattle.object_arena.proofs.FitLemmas.{fit_class}
use Rattle.load_rows.specs.Loading.{loading}
use Rattle.load_rows.proofs.TakenLemmas.{take_lost}
use Rattle.load_calls.specs.Refreshing.{take_cells}
use Rattle.session_loads.specs.Rows.{all_attrs, attrs_of}
use Rattle.session_loads.proofs.RowLemmas.{filled_unless}
use Rattle.session_loads.proofs.rows.fill_row.Goals as goal

pub all_attrs-requires : goal.all_attrs-requires
all_attrs-requires c = subst (IsClass c.args.mapping.now) (sym c.class_of.ensures.class) (fit_class c.args.mapping.now c.args.arena.now c.args.object c.requires.fit c.requires.object)

pub returns-in_err-attrs-clause-step : goal.returns-in_err-attrs-clause-step
returns-in_err-attrs-clause-step c =
    take_lost (λ u. u) (take_cells c.args.object (attrs_of c.args.mapping.now c.args.arena.now c.args.object) c.args.rows.now (loading c.args.arena.now c.args.notes.now)) (loading c.args.arena.now c.args.notes.now) c.from_residual.result c.from_residual.ensures.1

pub returns-clause-step : goal.returns-clause-step
returns-clause-step c =
    subst (λ (attrs : List AttrNo). IsQuiet (λ (u : Unit {0}). u) (take_cells c.args.object attrs c.args.rows.now (loading c.args.arena.now c.args.notes.now)) c.take_cells.result (loading c.take_cells.new.arena c.take_cells.new.notes))
    (c.as_slice.ensures ∙ c.in_ok-attrs.ensures ∙ ap (all_attrs c.args.mapping.now) c.class_of.ensures.class) c.take_cells.ensures.step

pub returns-clause-fits : goal.returns-clause-fits
returns-clause-fits c =
    c.take_cells.ensures.keeps.fits c.args.mapping.now
    (subst (λ (attrs : List AttrNo). AllByRecursion (AreCellsOf c.args.mapping.now (object_at c.args.arena.now c.args.object).class attrs) c.args.rows.now)
    (sym (c.as_slice.ensures ∙ c.in_ok-attrs.ensures ∙ ap (all_attrs c.args.mapping.now) c.class_of.ensures.class)) c.requires.rows.cells)
    c.requires.fit

pub returns-clause-cause : goal.returns-clause-cause
returns-clause-cause c =
    filled_unless c.args.object c.as_slice.result.now c.args.rows.now (loading c.args.arena.now c.args.notes.now) (loading c.take_cells.new.arena c.take_cells.new.notes) c.take_cells.result c.requires.rows.some c.take_cells.ensures.step
