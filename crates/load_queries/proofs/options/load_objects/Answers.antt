use Rattle.std.proofs.Common.{List, subst, sym}
use Rattle.std.specs.List.{All}
use Rattle.base_core.specs.declared.ids.ObjId.{ObjId}
use Rattle.base_core.specs.declared.ids.RelNo.{RelNo}
use Rattle.class_mapping.specs.Mapped.{root_of}
use Rattle.object_arena.specs.Graph.{IsObject}
use Rattle.keeper_core.proofs.Sequence.{passed_on}
use Rattle.load_calls.proofs.RowsLemmas.{grows_then}
use Rattle.load_calls.specs.Refusals.{CanRefuseQuery}
use Rattle.load_calls.proofs.RefusalLemmas.{rows_of_query}
use Rattle.load_calls.proofs.ReadLemmas.{passed_refusal, passed_still, stays_then, still_then}
use Rattle.load_rows.proofs.LinkLemmas.{are_made}
use Rattle.load_queries.specs.Selectin.{IsOption}
use Rattle.load_queries.proofs.KindLemmas.{objects_loaded, objects_refused, options_refused}
use Rattle.load_queries.proofs.OwnerLemmas.{objects_still}
use Rattle.load_queries.proofs.options.load_objects.Goals as goal

pub returns-in_err-objects-clause-step : goal.returns-in_err-objects-clause-step
returns-in_err-objects-clause-step g c = passed_on c.from_residual.ensures.1 (objects_refused g.K.Keeper.moment c.args.mapping.now c.args.query.now _ c.in_err-objects.ensures.step)

pub returns-in_err-objects-clause-refuses : goal.returns-in_err-objects-clause-refuses
returns-in_err-objects-clause-refuses g c = passed_refusal (CanRefuseQuery c.args.mapping.now c.load_select.new.arena c.args.query.now.select) _ c.from_residual.result c.from_residual.ensures.1 c.in_err-objects.ensures.refuses

pub load_options-requires-clause-objects : goal.load_options-requires-clause-objects
load_options-requires-clause-objects g c =
    subst (λ (xs : List ObjId). All (IsObject c.load_select.new.arena) xs) (sym c.as_slice.ensures)
    (are_made c.args.mapping.now c.load_select.new.arena (root_of c.args.mapping.now c.args.query.now.class) c.in_ok-objects.objects c.in_ok-objects.ensures.fits c.in_ok-objects.ensures.of)

pub load_options-requires-clause-places : goal.load_options-requires-clause-places
load_options-requires-clause-places g c = subst (λ (xs : List RelNo). All (IsOption c.args.mapping.now c.args.query.now.class) xs) (sym c.as_slice-2.ensures) c.requires.options

pub returns-in_err-load_options-clause-step : goal.returns-in_err-load_options-clause-step
returns-in_err-load_options-clause-step g c =
    passed_on c.from_residual-in_err-load_options.ensures.1
    (options_refused g.K.Keeper.moment c.args.mapping.now c.args.query.now c.in_ok-objects.objects c.as_slice.result.now c.as_slice-2.result.now _ c.as_slice.ensures c.as_slice-2.ensures c.in_ok-objects.ensures.step c.in_err-load_options.ensures.step)

pub returns-in_err-load_options-clause-grows : goal.returns-in_err-load_options-clause-grows
returns-in_err-load_options-clause-grows g c = grows_then c.args.arena.now c.load_select.new.arena c.load_options.new.arena c.in_ok-objects.ensures.grows c.in_err-load_options.ensures.grows

pub returns-in_err-load_options-clause-refuses : goal.returns-in_err-load_options-clause-refuses
returns-in_err-load_options-clause-refuses g c =
    passed_refusal (CanRefuseQuery c.args.mapping.now c.load_options.new.arena c.args.query.now.select) _ c.from_residual-in_err-load_options.result c.from_residual-in_err-load_options.ensures.1 (rows_of_query c.args.mapping.now c.args.query.now.select c.load_options.new.arena _ c.in_err-load_options.ensures.refuses)

pub returns-clause-step : goal.returns-clause-step
returns-clause-step g c =
    objects_loaded g.K.Keeper.moment c.args.mapping.now c.args.query.now c.in_ok-objects.objects c.as_slice.result.now c.as_slice-2.result.now c.as_slice.ensures c.as_slice-2.ensures c.in_ok-objects.ensures.step c.in_ok-load_options.ensures.step

pub returns-clause-grows : goal.returns-clause-grows
returns-clause-grows g c = grows_then c.args.arena.now c.load_select.new.arena c.load_options.new.arena c.in_ok-objects.ensures.grows c.in_ok-load_options.ensures.grows

pub returns-clause-made : goal.returns-clause-made
returns-clause-made g c =
    objects_still c.load_select.new.arena c.load_options.new.arena c.in_ok-objects.objects c.in_ok-load_options.ensures.grows
    (are_made c.args.mapping.now c.load_select.new.arena (root_of c.args.mapping.now c.args.query.now.class) c.in_ok-objects.objects c.in_ok-objects.ensures.fits c.in_ok-objects.ensures.of)

pub load_options-requires-clause-ready : goal.load_options-requires-clause-ready
load_options-requires-clause-ready g c = c.in_ok-objects.ensures.stays.0

pub returns-in_err-load_options-clause-stays : goal.returns-in_err-load_options-clause-stays
returns-in_err-load_options-clause-stays g c =
    passed_still (g.K.Keeper.moment c.args.keeper.now) (g.K.Keeper.moment c.load_options.new.keeper) _ c.from_residual-in_err-load_options.result c.from_residual-in_err-load_options.ensures.1
    (stays_then (g.K.Keeper.moment c.args.keeper.now) (g.K.Keeper.moment c.load_select.new.keeper) (g.K.Keeper.moment c.load_options.new.keeper) _ c.in_ok-objects.ensures.stays c.in_err-load_options.ensures.stays)

pub returns-clause-stays : goal.returns-clause-stays
returns-clause-stays g c = still_then (g.K.Keeper.moment c.args.keeper.now) (g.K.Keeper.moment c.load_select.new.keeper) (g.K.Keeper.moment c.load_options.new.keeper) c.in_ok-objects.ensures.stays c.in_ok-load_options.ensures.stays
