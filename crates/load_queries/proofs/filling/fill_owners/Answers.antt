use Rattle.std.proofs.Common.{subst, sym}
use Rattle.std.specs.List.{All}
use Rattle.class_mapping.specs.Mapped.{root_of}
use Rattle.load_rows.specs.Loading.{loading}
use Rattle.load_rows.proofs.LinkLemmas.{are_made}
use Rattle.load_queries.specs.Joined.{IsOwner}
use Rattle.load_queries.proofs.FillSteps.{owners_filled}
use Rattle.load_queries.proofs.filling.fill_owners.Goals as goal

pub owners_among-requires : goal.owners_among-requires
owners_among-requires c = are_made c.args.mapping.now c.args.arena.now (root_of c.args.mapping.now c.args.class) c.args.objects.now c.requires.fit c.requires.of

pub fill_options-requires-clause-owners : goal.fill_options-requires-clause-owners
fill_options-requires-clause-owners c = subst (All (IsOwner c.args.mapping.now c.args.arena.now c.args.class)) (sym c.as_slice.ensures) c.in_ok-owners.ensures.of

pub returns-clause-step : goal.returns-clause-step
returns-clause-step c =
    owners_filled c.args.mapping.now c.args.class c.args.parts.now c.args.taken.now c.args.objects.now c.in_ok-owners.owners c.as_slice.result.now (loading c.args.arena.now c.args.notes.now) (loading c.fill_options.new.arena c.fill_options.new.notes) c.fill_options.result
    c.in_ok-owners.ensures.owners c.as_slice.ensures c.fill_options.ensures.step
