use Rattle.std.proofs.Common.{◌≡◌, ◌∙◌, ap, subst, sym}
use Rattle.std.specs.List.{All}
use Rattle.base_core.specs.declared.ids.AttrNo.{AttrNo}
use Rattle.base_core.specs.declared.ids.ClassId.{ClassId}
use Rattle.base_core.specs.declared.value.Value.{Value}
use Rattle.class_mapping.specs.Mapped.{IsAttribute}
use Rattle.object_arena.specs.declared.object.Object.{Object}
use Rattle.object_arena.specs.Graph.{object_at}
use Rattle.object_arena.proofs.FitLemmas.{fit_at}
use Rattle.session_parts.proofs.ObjectLemmas.{class_still}
use Rattle.session_scopes.specs.Making.{first_given_fault}
use Rattle.session_objects.specs.Taking.{changed_values}
use Rattle.session_objects.proofs.TakingLemmas.{changed_fit, returned_is}
use Rattle.session_objects.proofs.taking.put_returned.Goals as goal

pub put_given-requires-clause-attributes : goal.put_given-requires-clause-attributes
put_given-requires-clause-attributes c =
    let mapped = c.args.mapping.now in
    let o : Object = object_at c.args.arena.now c.args.object in
    let values : c.in_ok-values.values.items ≡ changed_values 0 o.cells = c.in_ok-values.ensures ∙ ap (changed_values 0) (c.as_slice.ensures ∙ ap (λ (x : Object). x.cells) c.object.ensures.is) in
    let class : (object_at c.expire.new.self c.args.object).class ≡ o.class = class_still c.args.arena.now c.expire.new.self c.args.object (c.expire.ensures.keeps.classes ∙ c.stand.ensures.keeps.classes) c.requires.object in
    subst (λ (k : ClassId). All (λ (one : AttrNo × Value). IsAttribute mapped k one.0) c.in_ok-values.values.items) (sym class)
    (subst (All (λ (one : AttrNo × Value). IsAttribute mapped o.class one.0)) (sym values) (changed_fit mapped o (fit_at mapped c.args.arena.now c.args.object c.requires.fit c.requires.object)).0)

pub put_given-requires-clause-kinds : goal.put_given-requires-clause-kinds
put_given-requires-clause-kinds c =
    let mapped = c.args.mapping.now in
    let o : Object = object_at c.args.arena.now c.args.object in
    let values : c.in_ok-values.values.items ≡ changed_values 0 o.cells = c.in_ok-values.ensures ∙ ap (changed_values 0) (c.as_slice.ensures ∙ ap (λ (x : Object). x.cells) c.object.ensures.is) in
    let class : (object_at c.expire.new.self c.args.object).class ≡ o.class = class_still c.args.arena.now c.expire.new.self c.args.object (c.expire.ensures.keeps.classes ∙ c.stand.ensures.keeps.classes) c.requires.object in
    ap (λ (k : ClassId). first_given_fault mapped k c.in_ok-values.values.items) class
    ∙ ap (first_given_fault mapped o.class) values ∙ (changed_fit mapped o (fit_at mapped c.args.arena.now c.args.object c.requires.fit c.requires.object)).1

pub returns-clause-ok : goal.returns-clause-ok
returns-clause-ok c =
    returned_is c.args.arena.now c.stand.new.self c.expire.new.self c.put_given.new.arena c.args.object c.in_ok-values.values.items c.requires.object
    (c.in_ok-values.ensures ∙ ap (changed_values 0) (c.as_slice.ensures ∙ ap (λ (x : Object). x.cells) c.object.ensures.is))
    c.stand.ensures.stands c.expire.ensures.expired c.put_given.ensures.put
