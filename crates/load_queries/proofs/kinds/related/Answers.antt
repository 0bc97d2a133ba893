use Rattle.std.proofs.Common.{◌<◌, ◌∙◌, List, length, get_or, ap, subst, sym}
use Rattle.std.proofs.lemmas.List.{get_or_read}
use Rattle.class_types.specs.declared.mapped.Relation.{Relation}
use Rattle.class_mapping.specs.Related.{IsRelated}
use Rattle.object_arena.specs.Fit.{no_relation}
use Rattle.load_calls.proofs.CollectionLemmas.{related_at}
use Rattle.load_queries.proofs.kinds.related.Goals as goal

pub bounds-relations-place : goal.bounds-relations-place
bounds-relations-place c = subst (λ (listed : List Relation). c.args.place.0 < length listed) (sym c.relations.ensures.relations) (c.requires.place c.relations.ensures.paired)

pub returns-clause-is : goal.returns-clause-is
returns-clause-is c =
    let within : c.args.place.0 < length c.relations.result.now =
    subst (λ (listed : List Relation). c.args.place.0 < length listed) (sym c.relations.ensures.relations) (c.requires.place c.relations.ensures.paired) in
    get_or_read c.relations.result.now c.args.place.0 c.index-relations-place.result within c.index-relations-place.is no_relation
    ∙ ap (λ (listed : List Relation). get_or listed c.args.place.0 no_relation) c.relations.ensures.relations

pub returns-clause-related : goal.returns-clause-related
returns-clause-related c =
    subst (IsRelated c.args.mapping.now) (sym (returns-clause-is c))
    (related_at c.args.mapping.now c.args.class c.args.place c.relations.ensures.related c.requires.class (c.requires.place c.relations.ensures.paired))
