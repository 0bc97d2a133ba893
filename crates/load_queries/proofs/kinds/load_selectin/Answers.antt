use Rattle.std.proofs.Common.{◌∙◌, ◌<◌, ap, refl, subst, sym, length}
use Rattle.class_mapping.specs.Mapped.{relations_of}
use Rattle.object_arena.specs.declared.object.Object.{Object}
use Rattle.object_arena.specs.Fit.{relation_of}
use Rattle.load_filling.proofs.LoadedLemmas.{grows_same}
use Rattle.load_rows.specs.Loading.{loading}
use Rattle.load_queries.proofs.KindLemmas.{no_owners, owners_loaded}
use Rattle.load_queries.proofs.OwnerLemmas.{first_of, named_owners, owner_under}
use Rattle.load_queries.specs.Selectin.{IsOwnerOf}
use Rattle.load_queries.proofs.kinds.load_selectin.Goals as goal

pub object-requires : goal.object-requires
object-requires g c =
    (first_of (IsOwnerOf c.args.mapping.now c.args.arena.now c.requires.owners.class) c.args.owners.now c.in-Some.first (sym c.first_of.ensures ∙ c.in-Some.is) c.requires.owners.each).made

pub related-relation-requires-clause-class : goal.related-relation-requires-clause-class
related-relation-requires-clause-class g c = (c.object.ensures.fits c.args.mapping.now c.requires.fit).class

pub related-relation-requires-clause-place : goal.related-relation-requires-clause-place
related-relation-requires-clause-place g c = λ paired.
    subst (λ (o : Object). c.args.place.0 < length (relations_of c.args.mapping.now o.class)) (sym c.object.ensures.is)
    (owner_under c.args.mapping.now c.args.arena.now c.requires.owners.class c.args.place c.in-Some.first paired c.requires.owners.within
    (first_of (IsOwnerOf c.args.mapping.now c.args.arena.now c.requires.owners.class) c.args.owners.now c.in-Some.first (sym c.first_of.ensures ∙ c.in-Some.is) c.requires.owners.each)).within

pub load_together-requires-clause-owners : goal.load_together-requires-clause-owners
load_together-requires-clause-owners g c =
    named_owners c.args.mapping.now c.args.arena.now c.args.place c.args.owners.now c.in-Some.first c.related-relation.result.now c.related-relation.ensures.paired c.requires.owners
    (sym c.first_of.ensures ∙ c.in-Some.is) (c.related-relation.ensures.is ∙ ap (λ (o : Object). relation_of c.args.mapping.now o.class c.args.place) c.object.ensures.is)

pub returns-in-Some-clause-step : goal.returns-in-Some-clause-step
returns-in-Some-clause-step g c =
    owners_loaded g.K.Keeper.moment c.args.mapping.now c.related-relation.result.now c.args.place c.args.owners.now c.in-Some.first c.args.arena.now (sym c.first_of.ensures ∙ c.in-Some.is)
    (c.related-relation.ensures.is ∙ ap (λ (o : Object). relation_of c.args.mapping.now o.class c.args.place) c.object.ensures.is) c.load_together.ensures.step

pub returns-in-None-clause-step : goal.returns-in-None-clause-step
returns-in-None-clause-step g c =
    no_owners g.K.Keeper.moment c.args.mapping.now c.args.place c.args.owners.now (loading c.args.arena.now c.args.notes.now) c.args.keeper.now (sym c.first_of.ensures ∙ c.in-None.is)

pub returns-in-None-clause-grows : goal.returns-in-None-clause-grows
returns-in-None-clause-grows g c = grows_same c.args.arena.now c.args.arena.now refl
