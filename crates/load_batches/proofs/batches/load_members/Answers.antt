use Rattle.std.proofs.Common.{refl, subst, sym, List}
use Rattle.std.specs.List.{All}
use Rattle.keeper_core.proofs.Sequence.{no_memory, passed_on}
use Rattle.load_filling.proofs.LoadedLemmas.{grows_same}
use Rattle.load_calls.proofs.ReadLemmas.{passed_memory, passed_stays}
use Rattle.load_calls.specs.Refusals.{CanRefuseRows}
use Rattle.load_batches.specs.Batches.{IsOwned}
use Rattle.load_batches.specs.declared.owners.Owner.{Owner}
use Rattle.load_batches.proofs.BatchSteps.{members_loaded}
use Rattle.load_batches.proofs.batches.load_members.Goals as goal

pub returns-in_err-unloaded-clause-step : goal.returns-in_err-unloaded-clause-step
returns-in_err-unloaded-clause-step g c = passed_on c.from_residual.ensures.1 no_memory

pub returns-in_err-unloaded-clause-stays : goal.returns-in_err-unloaded-clause-stays
returns-in_err-unloaded-clause-stays g c = passed_stays (g.K.Keeper.moment c.args.keeper.now) (g.K.Keeper.moment c.args.keeper.now) c.from_residual.result c.from_residual.ensures.1

pub returns-in_err-unloaded-clause-grows : goal.returns-in_err-unloaded-clause-grows
returns-in_err-unloaded-clause-grows g c = grows_same c.args.arena.now c.args.arena.now refl

pub unloaded_owners-requires : goal.unloaded_owners-requires
unloaded_owners-requires g c = λ i object less. (c.requires.owners i object less).made

pub load_batches-requires-clause-owned : goal.load_batches-requires-clause-owned
load_batches-requires-clause-owned g c =
    subst (λ (owners : List Owner). All (IsOwned c.args.mapping.now c.args.arena.now c.args.relation.now c.args.place) owners) (sym c.as_slice.ensures)
    (c.in_ok-unloaded.ensures.owned c.args.mapping.now c.args.relation.now c.requires.fit c.requires.owners)

pub returns-clause-step : goal.returns-clause-step
returns-clause-step g c =
    members_loaded g.K.Keeper.moment c.args.mapping.now c.args.relation.now c.args.place c.args.owners.now c.args.arena.now c.in_ok-unloaded.unloaded c.as_slice.result.now c.in_ok-unloaded.ensures.owners c.as_slice.ensures c.load_batches.ensures.step

pub returns-in_err-unloaded-clause-refuses : goal.returns-in_err-unloaded-clause-refuses
returns-in_err-unloaded-clause-refuses g c = passed_memory (CanRefuseRows c.args.mapping.now c.args.arena.now) c.from_residual.result c.from_residual.ensures.1 tt
