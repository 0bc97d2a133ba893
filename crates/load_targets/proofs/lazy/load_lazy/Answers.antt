use Rattle.std.proofs.Common.{◌∙◌, ◌<◌, ap, sym, subst, length}
use Rattle.class_types.specs.declared.mapped.Relation.{Relation}
use Rattle.class_mapping.specs.Mapped.{relations_of}
use Rattle.object_arena.specs.declared.object.Object.{Object}
use Rattle.object_arena.specs.Fit.{relation_of}
use Rattle.load_rows.specs.Loading.{loading}
use Rattle.load_calls.proofs.RefusalLemmas.{refused_load}
use Rattle.load_targets.proofs.TargetLemmas.{collection_chosen, end_chosen, refused_show}
use Rattle.load_targets.proofs.lazy.load_lazy.Goals as goal

pub relation_at-relation-requires-clause-class : goal.relation_at-relation-requires-clause-class
relation_at-relation-requires-clause-class g c = (c.object.ensures.fits c.args.mapping.now c.requires.fit).class

pub relation_at-relation-requires-clause-place : goal.relation_at-relation-requires-clause-place
relation_at-relation-requires-clause-place g c = subst (λ (o : Object). c.args.place.0 < length (relations_of c.args.mapping.now o.class)) (sym c.object.ensures.is) c.requires.place

pub returns-then-relation-clause-step : goal.returns-then-relation-clause-step
returns-then-relation-clause-step g c =
    collection_chosen g.K.Keeper.moment c.args.mapping.now c.args.arena.now c.args.object c.args.place
    (ap (λ (r : Relation). r.many) (sym (c.relation_at-relation.ensures.is ∙ ap (λ (o : Object). relation_of c.args.mapping.now o.class c.args.place) c.object.ensures.is)) ∙ c.if-relation.true) c.load_collection.ensures.step

pub returns-clause-step : goal.returns-clause-step
returns-clause-step g c =
    end_chosen g.K.Keeper.moment c.args.mapping.now c.args.arena.now c.args.object c.args.place
    (ap (λ (r : Relation). r.many) (sym (c.relation_at-relation.ensures.is ∙ ap (λ (o : Object). relation_of c.args.mapping.now o.class c.args.place) c.object.ensures.is)) ∙ c.if-relation.false) c.load_target.ensures.step

pub returns-then-relation-clause-refuses : goal.returns-then-relation-clause-refuses
returns-then-relation-clause-refuses g c = refused_load c.args.mapping.now c.args.object c.load_collection.new.arena c.load_collection.result c.load_collection.ensures.refuses

pub returns-then-relation-clause-shown : goal.returns-then-relation-clause-shown
returns-then-relation-clause-shown g c =
    refused_show c.args.mapping.now c.args.object (loading c.args.arena.now c.args.notes.now, g.K.Keeper.moment c.args.keeper.now) (loading c.load_collection.new.arena c.load_collection.new.notes, g.K.Keeper.moment c.load_collection.new.keeper) c.load_collection.new.arena c.load_collection.result
    c.load_collection.ensures.refuses

pub returns-clause-shown : goal.returns-clause-shown
returns-clause-shown g c = c.load_target.ensures.shown
