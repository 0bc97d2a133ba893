use Rattle.std.proofs.Common.{refl}
use Rattle.keeper_core.proofs.Sequence.{no_memory, passed_on}
use Rattle.load_filling.proofs.LoadedLemmas.{grows_same}
use Rattle.load_calls.proofs.ReadLemmas.{passed_memory, passed_stays}
use Rattle.load_calls.specs.Refusals.{CanRefuseRows}
use Rattle.load_queries.proofs.KindLemmas.{option_loaded}
use Rattle.load_queries.proofs.OwnerLemmas.{option_owners}
use Rattle.load_queries.proofs.options.load_option.Goals as goal

pub returns-in_err-owners-clause-step : goal.returns-in_err-owners-clause-step
returns-in_err-owners-clause-step g c = passed_on c.from_residual.ensures.1 no_memory

pub returns-in_err-owners-clause-stays : goal.returns-in_err-owners-clause-stays
returns-in_err-owners-clause-stays g c = passed_stays (g.K.Keeper.moment c.args.keeper.now) (g.K.Keeper.moment c.args.keeper.now) c.from_residual.result c.from_residual.ensures.1

pub returns-in_err-owners-clause-grows : goal.returns-in_err-owners-clause-grows
returns-in_err-owners-clause-grows g c = grows_same c.args.arena.now c.args.arena.now refl

pub returns-in_err-owners-clause-refuses : goal.returns-in_err-owners-clause-refuses
returns-in_err-owners-clause-refuses g c = passed_memory (CanRefuseRows c.args.mapping.now c.args.arena.now) c.from_residual.result c.from_residual.ensures.1 tt

pub related-relation-requires-clause-place : goal.related-relation-requires-clause-place
related-relation-requires-clause-place g c = λ paired. c.requires.place

pub load_together-requires-clause-owners : goal.load_together-requires-clause-owners
load_together-requires-clause-owners g c =
    option_owners c.args.mapping.now c.args.arena.now c.args.class c.args.place c.related-relation.result.now c.in_ok-owners.owners c.as_slice.result.now c.related-relation.ensures.paired c.requires.place c.related-relation.ensures.is
    c.as_slice.ensures c.in_ok-owners.ensures.of

pub returns-clause-step : goal.returns-clause-step
returns-clause-step g c =
    option_loaded g.K.Keeper.moment c.args.mapping.now c.args.class c.args.objects.now c.related-relation.result.now c.args.place c.in_ok-owners.owners c.as_slice.result.now c.args.arena.now c.related-relation.ensures.is c.in_ok-owners.ensures.owners
    c.as_slice.ensures c.load_together.ensures.step
