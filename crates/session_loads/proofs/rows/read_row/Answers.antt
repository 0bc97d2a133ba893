use Rattle.std.proofs.Common.{ap, refl, subst, sym, ◌∙◌}
use Rattle.std.proofs.lemmas.Bool.{false≢true}
use Rattle.std.specs.List.{All}
use Rattle.class_mapping.specs.Mapped.{IsAttribute, IsClass}
use Rattle.object_arena.specs.Graph.{object_at}
use Rattle.object_arena.proofs.FitLemmas.{fit_class}
use Rattle.keeper_core.proofs.Sequence.{no_memory, passed_on}
use Rattle.load_rows.specs.Loading.{loading}
use Rattle.load_calls.specs.Refreshing.{CanRefuse}
use Rattle.load_calls.proofs.ReadLemmas.{passed_memory, passed_refusal, passed_stays}
use Rattle.load_calls.proofs.RefreshLemmas.{cells_refuse}
use Rattle.session_loads.specs.Rows.{IsShownGone, all_attrs}
use Rattle.session_loads.proofs.RowLemmas.{all_attributes, cells_shown, nonempty, row_gone, row_read, row_refused, rows_found, without_whole}
use Rattle.session_loads.proofs.rows.read_row.Goals as goal

pub all_attrs-requires : goal.all_attrs-requires
all_attrs-requires g c = subst (IsClass c.args.mapping.now) (sym c.class_of.ensures.class) (fit_class c.args.mapping.now c.args.arena.now c.args.object c.requires.fit c.requires.object)

pub returns-in_err-attrs-clause-step : goal.returns-in_err-attrs-clause-step
returns-in_err-attrs-clause-step g c = passed_on c.from_residual.ensures.1 no_memory

pub returns-in_err-attrs-clause-stays : goal.returns-in_err-attrs-clause-stays
returns-in_err-attrs-clause-stays g c = passed_stays (g.K.Keeper.moment c.args.keeper.now) (g.K.Keeper.moment c.args.keeper.now) c.from_residual.result c.from_residual.ensures.1

pub returns-in_err-attrs-clause-refuses : goal.returns-in_err-attrs-clause-refuses
returns-in_err-attrs-clause-refuses g c = passed_memory (CanRefuse c.args.mapping.now c.args.object) c.from_residual.result c.from_residual.ensures.1 tt

pub returns-in_err-attrs-clause-shown : goal.returns-in_err-attrs-clause-shown
returns-in_err-attrs-clause-shown g c =
    passed_memory (IsShownGone c.args.mapping.now c.args.object (loading c.args.arena.now c.args.notes.now, g.K.Keeper.moment c.args.keeper.now) (loading c.args.arena.now c.args.notes.now, g.K.Keeper.moment c.args.keeper.now))
    c.from_residual.result c.from_residual.ensures.1 tt

pub read_cells-requires-clause-attrs : goal.read_cells-requires-clause-attrs
read_cells-requires-clause-attrs g c =
    subst (All (IsAttribute c.args.mapping.now (object_at c.args.arena.now c.args.object).class)) (sym (c.as_slice-attrs.ensures ∙ c.in_ok-attrs.ensures ∙ ap (all_attrs c.args.mapping.now) c.class_of.ensures.class))
    (all_attributes c.args.mapping.now (object_at c.args.arena.now c.args.object).class)

pub returns-in_err-rows-clause-step : goal.returns-in_err-rows-clause-step
returns-in_err-rows-clause-step g c =
    passed_on c.from_residual-in_err-rows.ensures.1
    (row_refused g.K.Keeper.moment c.args.mapping.now c.args.object c.as_slice-attrs.result.now c.args.arena.now (c.as_slice-attrs.ensures ∙ c.in_ok-attrs.ensures ∙ ap (all_attrs c.args.mapping.now) c.class_of.ensures.class) c.in_err-rows.ensures.step)

pub returns-in_err-rows-clause-refuses : goal.returns-in_err-rows-clause-refuses
returns-in_err-rows-clause-refuses g c =
    passed_refusal (CanRefuse c.args.mapping.now c.args.object) _ c.from_residual-in_err-rows.result c.from_residual-in_err-rows.ensures.1 (cells_refuse c.args.mapping.now c.args.object _ c.in_err-rows.ensures.refuses)

pub returns-in_err-rows-clause-shown : goal.returns-in_err-rows-clause-shown
returns-in_err-rows-clause-shown g c =
    passed_refusal (IsShownGone c.args.mapping.now c.args.object (loading c.args.arena.now c.args.notes.now, g.K.Keeper.moment c.args.keeper.now) (loading c.args.arena.now c.read_cells.new.notes, g.K.Keeper.moment c.read_cells.new.keeper)) _
    c.from_residual-in_err-rows.result c.from_residual-in_err-rows.ensures.1 (cells_shown c.args.mapping.now c.args.object _ _ _ c.in_err-rows.ensures.refuses)

pub returns-then-is_empty-clause-step : goal.returns-then-is_empty-clause-step
returns-then-is_empty-clause-step g c =
    row_gone g.K.Keeper.moment c.args.mapping.now c.args.object c.as_slice-attrs.result.now c.args.arena.now c.in_ok-rows.rows (c.as_slice-attrs.ensures ∙ c.in_ok-attrs.ensures ∙ ap (all_attrs c.args.mapping.now) c.class_of.ensures.class)
    (c.if-is_empty.ensures.0 refl) c.in_ok-rows.ensures.step

pub returns-then-is_empty-clause-stays : goal.returns-then-is_empty-clause-stays
returns-then-is_empty-clause-stays g c = λ own. c.in_ok-rows.ensures.stays

pub returns-then-is_empty-clause-refuses : goal.returns-then-is_empty-clause-refuses
returns-then-is_empty-clause-refuses g c = refl

pub returns-then-is_empty-clause-shown : goal.returns-then-is_empty-clause-shown
returns-then-is_empty-clause-shown g c =
    without_whole g.K.Keeper.moment c.args.mapping.now c.args.object c.as_slice-attrs.result.now c.args.arena.now c.in_ok-rows.rows (c.as_slice-attrs.ensures ∙ c.in_ok-attrs.ensures ∙ ap (all_attrs c.args.mapping.now) c.class_of.ensures.class)
    c.in_ok-rows.ensures.noted c.in_ok-rows.ensures.step

pub returns-clause-step : goal.returns-clause-step
returns-clause-step g c =
    row_read g.K.Keeper.moment c.args.mapping.now c.args.object c.as_slice-attrs.result.now c.args.arena.now c.in_ok-rows.rows (c.as_slice-attrs.ensures ∙ c.in_ok-attrs.ensures ∙ ap (all_attrs c.args.mapping.now) c.class_of.ensures.class)
    (nonempty c.in_ok-rows.rows (λ e. false≢true (c.if-is_empty.ensures.1 e))) c.in_ok-rows.ensures.step

pub returns-clause-found : goal.returns-clause-found
returns-clause-found g c = rows_found c.args.mapping.now c.args.arena.now c.args.object c.as_slice-attrs.result.now c.in_ok-rows.rows (c.as_slice-attrs.ensures ∙ c.in_ok-attrs.ensures ∙ ap (all_attrs c.args.mapping.now) c.class_of.ensures.class)
    (nonempty c.in_ok-rows.rows (λ e. false≢true (c.if-is_empty.ensures.1 e))) c.in_ok-rows.ensures.cells
