use Rattle.std.proofs.Common.{◌∙◌, List, ap, subst}
use Rattle.std.specs.Prelude.{slice_get}
use Rattle.class_types.specs.declared.mapped.Relation.{Relation}
use Rattle.class_mapping.specs.Mapped.{Mapped, list_or_none, relations_of}
use Rattle.class_mapping.specs.Paired.{HasPairs}
use Rattle.class_mapping.specs.Related.{AreRelated}
use Rattle.class_mapping.proofs.mapping.Mapping.linked.Goals as goal

pub returns-in-Some-clause-relations : goal.returns-in-Some-clause-relations
returns-in-Some-clause-relations c =
    c.as_slice.ensures ∙ ap list_or_none c.in-Some.ensures
    ∙ ap (λ (kept : List (List Relation)). list_or_none (slice_get kept c.args.class.0)) c.self.invariant.linked
    ∙ ap (λ (m : Mapped). relations_of m c.args.class) c.self.view_is

pub returns-in-None-clause-relations : goal.returns-in-None-clause-relations
returns-in-None-clause-relations c =
    ap list_or_none c.in-None.ensures
    ∙ ap (λ (kept : List (List Relation)). list_or_none (slice_get kept c.args.class.0)) c.self.invariant.linked
    ∙ ap (λ (m : Mapped). relations_of m c.args.class) c.self.view_is

pub returns-in-Some-clause-paired : goal.returns-in-Some-clause-paired
returns-in-Some-clause-paired c = subst HasPairs c.self.view_is c.self.invariant.configured.hierarchies.paired

pub returns-in-None-clause-paired : goal.returns-in-None-clause-paired
returns-in-None-clause-paired c = subst HasPairs c.self.view_is c.self.invariant.configured.hierarchies.paired

pub returns-in-Some-clause-related : goal.returns-in-Some-clause-related
returns-in-Some-clause-related c = subst AreRelated c.self.view_is c.self.invariant.configured.related

pub returns-in-None-clause-related : goal.returns-in-None-clause-related
returns-in-None-clause-related c = subst AreRelated c.self.view_is c.self.invariant.configured.related
