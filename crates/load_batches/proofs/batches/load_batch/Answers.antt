use Rattle.std.proofs.Common.{◌≡◌, List, true, refl, subst, sym}
use Rattle.std.specs.List.{All, AllByRecursion}
use Rattle.class_mapping.specs.Mapped.{root_of}
use Rattle.object_arena.specs.Fit.{is_of_root}
use Rattle.keeper_core.proofs.Sequence.{passed_on}
use Rattle.load_filling.proofs.LoadedLemmas.{grows_same}
use Rattle.load_rows.proofs.TakenLemmas.{grows_filled}
use Rattle.collection_selects.specs.Pairs.{IsMemberRow}
use Rattle.load_calls.proofs.ReadLemmas.{passed_memory, passed_refusal, passed_stays, ready_stays}
use Rattle.load_calls.specs.Refusals.{CanRefuseRows}
use Rattle.load_calls.proofs.RefusalLemmas.{of_cells, of_row}
use Rattle.load_batches.specs.Batches.{objects_in}
use Rattle.load_batches.specs.declared.members.Member.{Member}
use Rattle.load_batches.proofs.BatchSteps.{batch_filled, batch_refused, no_batch, none_there, row_refused, some_there}
use Rattle.load_batches.proofs.OwnerSteps.{keyed_all, owned_still}
use Rattle.keeper_core.proofs.AloneLemmas.{lost_alone}
use Rattle.load_batches.proofs.batches.load_batch.Goals as goal

pub returns-then-is_empty-clause-step : goal.returns-then-is_empty-clause-step
returns-then-is_empty-clause-step g c = no_batch g.K.Keeper.moment c.args.mapping.now c.args.relation.now c.args.place c.args.owners.now (none_there c.args.owners.now c.if-is_empty.ensures)

pub returns-then-is_empty-clause-grows : goal.returns-then-is_empty-clause-grows
returns-then-is_empty-clause-grows g c = grows_same c.args.arena.now c.args.arena.now refl

pub read_batch-requires-clause-some : goal.read_batch-requires-clause-some
read_batch-requires-clause-some g c = some_there c.args.owners.now c.if-is_empty.ensures

pub read_batch-requires-clause-keyed : goal.read_batch-requires-clause-keyed
read_batch-requires-clause-keyed g c = λ configured.
    keyed_all c.args.mapping.now c.args.arena.now c.args.relation.now c.args.place c.args.owners.now c.requires.owned configured.hierarchies configured.related

pub returns-in_err-rows-clause-step : goal.returns-in_err-rows-clause-step
returns-in_err-rows-clause-step g c =
    passed_on c.from_residual.ensures.1
    (batch_refused g.K.Keeper.moment c.args.mapping.now c.args.relation.now c.args.place c.args.owners.now _ (some_there c.args.owners.now c.if-is_empty.ensures) (c.in_err-rows.ensures.step c.args.arena.now))

pub returns-in_err-rows-clause-grows : goal.returns-in_err-rows-clause-grows
returns-in_err-rows-clause-grows g c = grows_same c.args.arena.now c.args.arena.now refl

pub take_members-requires-clause-rows : goal.take_members-requires-clause-rows
take_members-requires-clause-rows g c = subst (AllByRecursion (IsMemberRow c.args.mapping.now c.args.relation.now)) (sym c.as_slice.ensures) c.in_ok-rows.ensures.rows

pub returns-in_err-members-clause-step : goal.returns-in_err-members-clause-step
returns-in_err-members-clause-step g c =
    passed_on c.from_residual-in_err-members.ensures.1
    (row_refused g.K.Keeper.moment c.args.mapping.now c.args.relation.now c.args.place c.args.owners.now c.in_ok-rows.rows c.as_slice.result.now _ (some_there c.args.owners.now c.if-is_empty.ensures) c.as_slice.ensures
    (c.in_ok-rows.ensures.step c.args.arena.now) c.in_err-members.ensures.step)

pub returns-in_err-members-clause-stays : goal.returns-in_err-members-clause-stays
returns-in_err-members-clause-stays g c = ready_stays (g.K.Keeper.moment c.args.keeper.now) (g.K.Keeper.moment c.read_batch.new.keeper) c.from_residual-in_err-members.result c.in_ok-rows.ensures.stays

pub fill_owners-requires-clause-owned : goal.fill_owners-requires-clause-owned
fill_owners-requires-clause-owned g c = owned_still c.args.mapping.now c.args.arena.now c.take_members.new.arena c.args.relation.now c.args.place c.args.owners.now c.in_ok-members.ensures.grows c.requires.owned

pub fill_owners-requires-clause-of : goal.fill_owners-requires-clause-of
fill_owners-requires-clause-of g c =
    subst (λ (members : List Member). All (λ object. is_of_root c.take_members.new.arena.roots (root_of c.args.mapping.now c.args.relation.now.target) object ≡ true) (objects_in members)) (sym c.as_slice-2.ensures) c.in_ok-members.ensures.of

pub returns-clause-step : goal.returns-clause-step
returns-clause-step g c =
    batch_filled g.K.Keeper.moment c.args.mapping.now c.args.relation.now c.args.place c.args.owners.now c.in_ok-rows.rows c.as_slice.result.now c.in_ok-members.members c.as_slice-2.result.now (some_there c.args.owners.now c.if-is_empty.ensures)
    c.as_slice.ensures c.as_slice-2.ensures (c.in_ok-rows.ensures.step c.args.arena.now) c.in_ok-members.ensures.step c.in_ok-fill_owners.ensures.step

pub returns-in_err-fill_owners-clause-step : goal.returns-in_err-fill_owners-clause-step
returns-in_err-fill_owners-clause-step g c =
    passed_on c.from_residual-in_err-fill_owners.ensures.1
    (batch_filled g.K.Keeper.moment c.args.mapping.now c.args.relation.now c.args.place c.args.owners.now c.in_ok-rows.rows c.as_slice.result.now c.in_ok-members.members c.as_slice-2.result.now (some_there c.args.owners.now c.if-is_empty.ensures)
    c.as_slice.ensures c.as_slice-2.ensures (c.in_ok-rows.ensures.step c.args.arena.now) c.in_ok-members.ensures.step (lost_alone refl))

pub returns-in_err-fill_owners-clause-stays : goal.returns-in_err-fill_owners-clause-stays
returns-in_err-fill_owners-clause-stays g c =
    passed_stays (g.K.Keeper.moment c.args.keeper.now) (g.K.Keeper.moment c.read_batch.new.keeper) c.from_residual-in_err-fill_owners.result c.from_residual-in_err-fill_owners.ensures.1

pub returns-clause-grows : goal.returns-clause-grows
returns-clause-grows g c = grows_filled c.args.arena.now c.take_members.new.arena c.fill_owners.new.arena c.in_ok-members.ensures.grows c.in_ok-fill_owners.ensures.classes

pub returns-in_err-fill_owners-clause-grows : goal.returns-in_err-fill_owners-clause-grows
returns-in_err-fill_owners-clause-grows g c = grows_filled c.args.arena.now c.take_members.new.arena c.fill_owners.new.arena c.in_ok-members.ensures.grows c.in_err-fill_owners.ensures.classes

pub returns-in_err-members-clause-refuses : goal.returns-in_err-members-clause-refuses
returns-in_err-members-clause-refuses g c =
    passed_refusal (CanRefuseRows c.args.mapping.now c.take_members.new.arena) _ c.from_residual-in_err-members.result c.from_residual-in_err-members.ensures.1 (of_row c.args.mapping.now c.take_members.new.arena _ c.in_err-members.ensures.refuses)

pub returns-in_err-fill_owners-clause-refuses : goal.returns-in_err-fill_owners-clause-refuses
returns-in_err-fill_owners-clause-refuses g c = passed_memory (CanRefuseRows c.args.mapping.now c.fill_owners.new.arena) c.from_residual-in_err-fill_owners.result c.from_residual-in_err-fill_owners.ensures.1 tt

pub returns-in_err-rows-clause-refuses : goal.returns-in_err-rows-clause-refuses
returns-in_err-rows-clause-refuses g c = passed_refusal (CanRefuseRows c.args.mapping.now c.args.arena.now) _ c.from_residual.result c.from_residual.ensures.1 (of_cells c.args.mapping.now c.args.arena.now _ c.in_err-rows.ensures.refuses)
