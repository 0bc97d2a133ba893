use Rattle.std.proofs.Common.{◌∙◌, ap, sym, length, Ok, Some, List}
use Rattle.std.specs.Option.{option_copied}
use Rattle.base_core.specs.declared.value.Value.{Value}
use Rattle.object_arena.specs.Graph.{object_at}
use Rattle.load_calls.proofs.RefreshLemmas.{cells_fit, filled_by, first_fits, is_deleted}
use Rattle.load_rows.specs.Loading.{loading}
use Rattle.load_rows.proofs.TakenLemmas.{take_lost}
use Rattle.load_calls.specs.Refreshing.{take_cells}
use Rattle.load_calls.proofs.refreshing.take_cells.Goals as goal

pub returns-in_ok-fill_cells-in-Some-clause-step : goal.returns-in_ok-fill_cells-in-Some-clause-step
returns-in_ok-fill_cells-in-Some-clause-step c =
    filled_by c.args.object c.args.attrs.now c.args.rows.now c.as_slice.result.now (loading c.args.arena.now c.args.notes.now) (loading c.fill_cells.new.arena c.fill_cells.new.notes) (Ok tt)
    (sym c.get.ensures ∙ ap option_copied c.in-Some.is ∙ ap (λ (row : List Value). Some row) (sym c.as_slice.ensures)) c.in_ok-fill_cells-in-Some.ensures.filled tt

pub returns-in_ok-fill_cells-in-Some-clause-keeps : goal.returns-in_ok-fill_cells-in-Some-clause-keeps
returns-in_ok-fill_cells-in-Some-clause-keeps c = record {
  fits = λ mapped all fit. c.in_ok-fill_cells-in-Some.ensures.keeps.fits mapped
      (cells_fit mapped (object_at c.args.arena.now c.args.object).class (length (object_at c.args.arena.now c.args.object).cells) c.args.attrs.now c.as_slice.result.now
      (first_fits mapped (object_at c.args.arena.now c.args.object).class c.args.attrs.now c.args.rows.now c.as_slice.result.now
      (sym c.get.ensures ∙ ap option_copied c.in-Some.is ∙ ap (λ (row : List Value). Some row) (sym c.as_slice.ensures)) all)) fit;
  classes = c.in_ok-fill_cells-in-Some.ensures.keeps.classes;
}

pub returns-in_err-fill_cells-in-Some-clause-keeps : goal.returns-in_err-fill_cells-in-Some-clause-keeps
returns-in_err-fill_cells-in-Some-clause-keeps c = record {
  fits = λ mapped all fit. c.in_err-fill_cells-in-Some.ensures.keeps.fits mapped
      (cells_fit mapped (object_at c.args.arena.now c.args.object).class (length (object_at c.args.arena.now c.args.object).cells) c.args.attrs.now c.as_slice.result.now
      (first_fits mapped (object_at c.args.arena.now c.args.object).class c.args.attrs.now c.args.rows.now c.as_slice.result.now
      (sym c.get.ensures ∙ ap option_copied c.in-Some.is ∙ ap (λ (row : List Value). Some row) (sym c.as_slice.ensures)) all)) fit;
  classes = c.in_err-fill_cells-in-Some.ensures.keeps.classes;
}

pub returns-in_err-fill_cells-in-Some-clause-step : goal.returns-in_err-fill_cells-in-Some-clause-step
returns-in_err-fill_cells-in-Some-clause-step c =
    take_lost (λ u. u) (take_cells c.args.object c.args.attrs.now c.args.rows.now (loading c.args.arena.now c.args.notes.now)) (loading c.fill_cells.new.arena c.fill_cells.new.notes) c.from_residual.result c.from_residual.ensures.1

pub returns-in-None-clause-step : goal.returns-in-None-clause-step
returns-in-None-clause-step c =
    is_deleted c.args.object c.args.attrs.now c.args.rows.now (loading c.args.arena.now c.args.notes.now) (sym c.get.ensures ∙ ap option_copied c.in-None.is)
