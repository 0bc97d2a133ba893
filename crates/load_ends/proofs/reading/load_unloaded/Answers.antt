use Rattle.std.proofs.Common.{refl, subst, sym, List}
use Rattle.std.specs.List.{All}
use Rattle.base_core.specs.declared.value.Value.{Value}
use Rattle.keeper_core.proofs.Sequence.{no_memory, passed_on}
use Rattle.load_filling.proofs.LoadedLemmas.{grows_same}
use Rattle.load_rows.proofs.TakenLemmas.{grows_filled}
use Rattle.load_calls.proofs.ReadLemmas.{passed_memory, passed_refusal, passed_stays}
use Rattle.load_calls.specs.Refusals.{CanRefuseRows}
use Rattle.load_ends.specs.Ends.{FitsClass}
use Rattle.load_ends.proofs.EndSteps.{children_still}
use Rattle.load_ends.proofs.ReadSteps.{links_filled, links_refused}
use Rattle.keeper_core.proofs.AloneLemmas.{lost_alone}
use Rattle.load_ends.proofs.reading.load_unloaded.Goals as goal

pub returns-in_err-keys-clause-step : goal.returns-in_err-keys-clause-step
returns-in_err-keys-clause-step g c = passed_on c.from_residual.ensures.1 no_memory

pub returns-in_err-keys-clause-stays : goal.returns-in_err-keys-clause-stays
returns-in_err-keys-clause-stays g c = passed_stays (g.K.Keeper.moment c.args.keeper.now) (g.K.Keeper.moment c.args.keeper.now) c.from_residual.result c.from_residual.ensures.1

pub returns-in_err-keys-clause-grows : goal.returns-in_err-keys-clause-grows
returns-in_err-keys-clause-grows g c = grows_same c.args.arena.now c.args.arena.now refl

pub returns-in_err-keys-clause-refuses : goal.returns-in_err-keys-clause-refuses
returns-in_err-keys-clause-refuses g c = passed_memory (CanRefuseRows c.args.mapping.now c.args.arena.now) c.from_residual.result c.from_residual.ensures.1 tt

pub load_all-requires-clause-class : goal.load_all-requires-clause-class
load_all-requires-clause-class g c = c.requires.related.target

pub load_all-requires-clause-keys : goal.load_all-requires-clause-keys
load_all-requires-clause-keys g c = subst (λ (keys : List (List Value)). All (FitsClass c.args.mapping.now c.args.relation.now.target) keys) (sym c.as_slice.ensures) c.in_ok-keys.ensures.fits

pub returns-in_err-load_all-clause-step : goal.returns-in_err-load_all-clause-step
returns-in_err-load_all-clause-step g c =
    passed_on c.from_residual-in_err-load_all.ensures.1
    (links_refused g.K.Keeper.moment c.args.mapping.now c.args.relation.now c.args.place c.args.arena.now c.args.owners.now c.in_ok-keys.keys c.as_slice.result.now _ c.in_ok-keys.ensures.keys c.as_slice.ensures c.in_err-load_all.ensures.step)

pub fill_owners-requires-clause-owners : goal.fill_owners-requires-clause-owners
fill_owners-requires-clause-owners g c = children_still c.args.mapping.now c.args.arena.now c.load_all.new.arena c.args.relation.now c.args.place c.args.owners.now c.in_ok-load_all.ensures.grows c.requires.owners

pub returns-clause-step : goal.returns-clause-step
returns-clause-step g c =
    links_filled g.K.Keeper.moment c.args.mapping.now c.args.relation.now c.args.place c.args.arena.now c.args.owners.now c.in_ok-keys.keys c.as_slice.result.now c.in_ok-keys.ensures.keys c.as_slice.ensures c.in_ok-load_all.ensures.step
    c.in_ok-fill_owners.ensures.step

pub returns-in_err-fill_owners-clause-step : goal.returns-in_err-fill_owners-clause-step
returns-in_err-fill_owners-clause-step g c =
    passed_on c.from_residual-in_err-fill_owners.ensures.1
    (links_filled g.K.Keeper.moment c.args.mapping.now c.args.relation.now c.args.place c.args.arena.now c.args.owners.now c.in_ok-keys.keys c.as_slice.result.now c.in_ok-keys.ensures.keys c.as_slice.ensures c.in_ok-load_all.ensures.step
    (lost_alone refl))

pub returns-in_err-fill_owners-clause-stays : goal.returns-in_err-fill_owners-clause-stays
returns-in_err-fill_owners-clause-stays g c =
    passed_stays (g.K.Keeper.moment c.args.keeper.now) (g.K.Keeper.moment c.load_all.new.keeper) c.from_residual-in_err-fill_owners.result c.from_residual-in_err-fill_owners.ensures.1

pub returns-clause-grows : goal.returns-clause-grows
returns-clause-grows g c = grows_filled c.args.arena.now c.load_all.new.arena c.fill_owners.new.arena c.in_ok-load_all.ensures.grows c.in_ok-fill_owners.ensures.classes

pub returns-in_err-fill_owners-clause-grows : goal.returns-in_err-fill_owners-clause-grows
returns-in_err-fill_owners-clause-grows g c = grows_filled c.args.arena.now c.load_all.new.arena c.fill_owners.new.arena c.in_ok-load_all.ensures.grows c.in_err-fill_owners.ensures.classes

pub returns-in_err-fill_owners-clause-refuses : goal.returns-in_err-fill_owners-clause-refuses
returns-in_err-fill_owners-clause-refuses g c = passed_memory (CanRefuseRows c.args.mapping.now c.fill_owners.new.arena) c.from_residual-in_err-fill_owners.result c.from_residual-in_err-fill_owners.ensures.1 tt

pub returns-in_err-load_all-clause-refuses : goal.returns-in_err-load_all-clause-refuses
returns-in_err-load_all-clause-refuses g c = passed_refusal (CanRefuseRows c.args.mapping.now c.load_all.new.arena) _ c.from_residual-in_err-load_all.result c.from_residual-in_err-load_all.ensures.1 c.in_err-load_all.ensures.refuses
