use Rattle.std.proofs.Common.{◌∙◌, refl, subst, sym, List}
use Rattle.std.specs.List.{All}
use Rattle.base_core.specs.declared.ids.ObjId.{ObjId}
use Rattle.keeper_core.proofs.Sequence.{no_memory, passed_on}
use Rattle.load_filling.proofs.LoadedLemmas.{grows_same}
use Rattle.load_calls.proofs.ReadLemmas.{passed_memory, passed_stays}
use Rattle.load_calls.specs.Refusals.{CanRefuseRows}
use Rattle.load_ends.specs.Ends.{IsChild}
use Rattle.load_ends.proofs.EndSteps.{unloaded_all}
use Rattle.load_ends.proofs.ReadSteps.{ends_loaded}
use Rattle.load_ends.proofs.reading.load_ends.Goals as goal

pub returns-in_err-unread-clause-step : goal.returns-in_err-unread-clause-step
returns-in_err-unread-clause-step g c = passed_on c.from_residual.ensures.1 no_memory

pub returns-in_err-unread-clause-stays : goal.returns-in_err-unread-clause-stays
returns-in_err-unread-clause-stays g c = passed_stays (g.K.Keeper.moment c.args.keeper.now) (g.K.Keeper.moment c.args.keeper.now) c.from_residual.result c.from_residual.ensures.1

pub returns-in_err-unread-clause-grows : goal.returns-in_err-unread-clause-grows
returns-in_err-unread-clause-grows g c = grows_same c.args.arena.now c.args.arena.now refl

pub returns-in_err-unread-clause-refuses : goal.returns-in_err-unread-clause-refuses
returns-in_err-unread-clause-refuses g c = passed_memory (CanRefuseRows c.args.mapping.now c.args.arena.now) c.from_residual.result c.from_residual.ensures.1 tt

pub unloaded-requires : goal.unloaded-requires
unloaded-requires g c = λ i object less. (c.requires.owners i object less).made

pub load_unloaded-requires-clause-owners : goal.load_unloaded-requires-clause-owners
load_unloaded-requires-clause-owners g c =
    subst (λ (owners : List ObjId). All (IsChild c.args.mapping.now c.args.arena.now c.args.relation.now c.args.place) owners) (sym (c.as_slice.ensures ∙ c.in_ok-unread.ensures))
    (unloaded_all (IsChild c.args.mapping.now c.args.arena.now c.args.relation.now c.args.place) c.args.arena.now c.args.place c.args.owners.now c.requires.owners)

pub returns-clause-step : goal.returns-clause-step
returns-clause-step g c =
    ends_loaded g.K.Keeper.moment c.args.mapping.now c.args.relation.now c.args.place c.args.owners.now c.args.arena.now c.in_ok-unread.unread c.as_slice.result.now c.in_ok-unread.ensures c.as_slice.ensures c.load_unloaded.ensures.step
