use Rattle.std.proofs.Common.{◌∙◌, ap, sym, refl, length}
use Rattle.class_mapping.specs.Mapped.{attributes_of}
use Rattle.std.proofs.lemmas.Bool.{false≢true}
use Rattle.object_arena.specs.Graph.{object_at}
use Rattle.keeper_core.proofs.Sequence.{no_memory, passed_on}
use Rattle.load_rows.specs.Loading.{loading}
use Rattle.load_calls.specs.Refreshing.{CanRefuse, IsShownDeleted, expired_attrs}
use Rattle.load_calls.proofs.ReadLemmas.{passed_memory, passed_refusal, passed_stays, ready_stays}
use Rattle.load_calls.proofs.RefreshLemmas.{are_attributes, cells_refuse, err_deleted, nothing_expired, passed_show, refresh_refused, refreshed, without_row}
use Rattle.load_calls.proofs.refreshing.refresh.Goals as goal

pub returns-in_err-attrs-clause-step : goal.returns-in_err-attrs-clause-step
returns-in_err-attrs-clause-step g c = passed_on c.from_residual.ensures.1 no_memory

pub returns-in_err-attrs-clause-stays : goal.returns-in_err-attrs-clause-stays
returns-in_err-attrs-clause-stays g c = passed_stays (g.K.Keeper.moment c.args.keeper.now) (g.K.Keeper.moment c.args.keeper.now) c.from_residual.result c.from_residual.ensures.1

pub returns-in_err-attrs-clause-refuses : goal.returns-in_err-attrs-clause-refuses
returns-in_err-attrs-clause-refuses g c = passed_memory (CanRefuse c.args.mapping.now c.args.object) c.from_residual.result c.from_residual.ensures.1 tt

pub returns-then-is_empty-clause-step : goal.returns-then-is_empty-clause-step
returns-then-is_empty-clause-step g c =
    nothing_expired g.K.Keeper.moment c.args.mapping.now c.args.object c.in_ok-attrs.attrs c.args.arena.now (c.in_ok-attrs.ensures ∙ ap expired_attrs c.object.ensures.is) (c.if-is_empty.ensures.0 refl)

pub read_cells-requires-clause-attrs : goal.read_cells-requires-clause-attrs
read_cells-requires-clause-attrs g c =
    are_attributes c.args.mapping.now (object_at c.args.arena.now c.args.object).class (object_at c.args.arena.now c.args.object) c.as_slice-attrs.result.now
    (ap (λ o. length o.cells) (sym c.object.ensures.is) ∙ c.object.ensures.cells c.args.mapping.now c.requires.fit ∙ ap (λ o. length (attributes_of c.args.mapping.now o.class)) c.object.ensures.is)
    (c.as_slice-attrs.ensures ∙ c.in_ok-attrs.ensures ∙ ap expired_attrs c.object.ensures.is)

pub returns-in_err-rows-clause-step : goal.returns-in_err-rows-clause-step
returns-in_err-rows-clause-step g c =
    passed_on c.from_residual-in_err-rows.ensures.1
    (refresh_refused g.K.Keeper.moment c.args.mapping.now c.args.object c.as_slice-attrs.result.now c.args.arena.now (c.as_slice-attrs.ensures ∙ c.in_ok-attrs.ensures ∙ ap expired_attrs c.object.ensures.is) (λ e. false≢true (c.if-is_empty.ensures.1 (sym c.as_slice-attrs.ensures ∙ e)))
    c.in_err-rows.ensures.step)

pub returns-in_err-rows-clause-refuses : goal.returns-in_err-rows-clause-refuses
returns-in_err-rows-clause-refuses g c = passed_refusal (CanRefuse c.args.mapping.now c.args.object) _ c.from_residual-in_err-rows.result c.from_residual-in_err-rows.ensures.1 (cells_refuse c.args.mapping.now c.args.object _ c.in_err-rows.ensures.refuses)

pub returns-clause-step : goal.returns-clause-step
returns-clause-step g c =
    refreshed g.K.Keeper.moment c.args.mapping.now c.args.object c.as_slice-attrs.result.now c.args.arena.now (c.as_slice-attrs.ensures ∙ c.in_ok-attrs.ensures ∙ ap expired_attrs c.object.ensures.is) (λ e. false≢true (c.if-is_empty.ensures.1 (sym c.as_slice-attrs.ensures ∙ e)))
    c.in_ok-rows.ensures.step c.take_cells.ensures.step

pub returns-clause-stays : goal.returns-clause-stays
returns-clause-stays g c = ready_stays (g.K.Keeper.moment c.args.keeper.now) (g.K.Keeper.moment c.read_cells.new.keeper) c.take_cells.result c.in_ok-rows.ensures.stays

pub returns-clause-fits : goal.returns-clause-fits
returns-clause-fits g c = c.take_cells.ensures.keeps.fits c.args.mapping.now c.in_ok-rows.ensures.cells c.requires.fit

pub returns-clause-refuses : goal.returns-clause-refuses
returns-clause-refuses g c = err_deleted c.args.mapping.now c.args.object c.take_cells.result c.take_cells.ensures.cause

pub returns-in_err-attrs-clause-shown : goal.returns-in_err-attrs-clause-shown
returns-in_err-attrs-clause-shown g c =
    passed_memory (IsShownDeleted c.args.mapping.now c.args.object (loading c.args.arena.now c.args.notes.now, g.K.Keeper.moment c.args.keeper.now) (loading c.args.arena.now c.args.notes.now, g.K.Keeper.moment c.args.keeper.now))
    c.from_residual.result c.from_residual.ensures.1 tt

pub returns-in_err-rows-clause-shown : goal.returns-in_err-rows-clause-shown
returns-in_err-rows-clause-shown g c =
    passed_show c.args.mapping.now c.args.object (loading c.args.arena.now c.args.notes.now, g.K.Keeper.moment c.args.keeper.now) (loading c.args.arena.now c.read_cells.new.notes, g.K.Keeper.moment c.read_cells.new.keeper) _
    c.from_residual-in_err-rows.result c.from_residual-in_err-rows.ensures.1 c.in_err-rows.ensures.refuses

pub returns-clause-shown : goal.returns-clause-shown
returns-clause-shown g c =
    without_row g.K.Keeper.moment c.args.mapping.now c.args.object c.as_slice-attrs.result.now (loading c.args.arena.now c.args.notes.now) (loading c.args.arena.now c.read_cells.new.notes) (loading c.take_cells.new.arena c.take_cells.new.notes) c.take_cells.result
    (c.as_slice-attrs.ensures ∙ c.in_ok-attrs.ensures ∙ ap expired_attrs c.object.ensures.is) (λ e. false≢true (c.if-is_empty.ensures.1 (sym c.as_slice-attrs.ensures ∙ e))) c.in_ok-rows.ensures.noted c.in_ok-rows.ensures.step c.take_cells.ensures.step
