use Rattle.std.proofs.Common.{◌≡◌, ◌∙◌, ◌∷◌, List, None, ap, subst, sym}
use Rattle.std.specs.List.{All}
use Rattle.std.specs.Vec.Iter.{into_iter_items}
use Rattle.std.proofs.lemmas.List.Elements.{All-head, All-tail}
use Rattle.base_core.specs.declared.ids.AttrNo.{AttrNo}
use Rattle.base_core.specs.declared.ids.ClassId.{ClassId}
use Rattle.base_core.specs.declared.value.Value.{Value}
use Rattle.class_mapping.specs.Mapped.{IsAttribute}
use Rattle.object_arena.specs.Graph.{object_at}
use Rattle.session_parts.proofs.ObjectLemmas.{class_still, made_still}
use Rattle.session_scopes.specs.Making.{given_fault}
use Rattle.session_scopes.proofs.MakingLemmas.{given_all, given_more, taken_both}
use Rattle.session_scopes.proofs.making.put_given.Goals as goal

pub put_one-requires : goal.put_one-requires
put_one-requires c =
    let mapped = c.args.mapping.now in
    let one : AttrNo × Value = (c.in-Some.attr, c.in-Some.value) in
    let rest : List (AttrNo × Value) = into_iter_items c.next.new.self in
    let items : into_iter_items c.loop-attr.attr-iterator ≡ one ∷ rest = c.in-Some.ensures.steps.0 in
    let first : ClassId = (object_at c.args.arena.now c.args.object).class in
    let class : (object_at c.loop-attr.arena c.args.object).class ≡ first = class_still c.args.arena.now c.loop-attr.arena c.args.object c.loop-attr.invariant.5 c.requires.object in
    record {
      fit = c.loop-attr.invariant.4;
      object = c.loop-attr.invariant.3;
      attribute = subst (λ (k : ClassId). IsAttribute mapped k c.in-Some.attr) (sym class)
          (All-head (λ (it : AttrNo × Value). IsAttribute mapped first it.0) one rest (subst (All (λ (it : AttrNo × Value). IsAttribute mapped first it.0)) items c.loop-attr.invariant.6));
      kind = subst (λ (k : ClassId). given_fault mapped k one ≡ None) (sym class) (taken_both mapped first (into_iter_items c.loop-attr.attr-iterator) one rest items c.loop-attr.invariant.7).0;
    }

pub loop-attr-preserved : goal.loop-attr-preserved
loop-attr-preserved c =
    let mapped = c.args.mapping.now in
    let one : AttrNo × Value = (c.in-Some.attr, c.in-Some.value) in
    let rest : List (AttrNo × Value) = into_iter_items c.next.new.self in
    let items : into_iter_items c.loop-attr.attr-iterator ≡ one ∷ rest = c.in-Some.ensures.steps.0 in
    let first : ClassId = (object_at c.args.arena.now c.args.object).class in (
      tt,
      tt,
      given_more c.loop-attr.arena c.put_one.new.arena c.args.object (into_iter_items c.loop-attr.attr-iterator) rest one c.loop-attr.invariant.3 items c.put_one.ensures.put ∙ c.loop-attr.invariant.2,
      made_still c.loop-attr.arena c.put_one.new.arena c.args.object c.put_one.ensures.classes c.loop-attr.invariant.3,
      c.put_one.ensures.fits,
      c.put_one.ensures.classes ∙ c.loop-attr.invariant.5,
      All-tail (λ (it : AttrNo × Value). IsAttribute mapped first it.0) one rest (subst (All (λ (it : AttrNo × Value). IsAttribute mapped first it.0)) items c.loop-attr.invariant.6),
      (taken_both mapped first (into_iter_items c.loop-attr.attr-iterator) one rest items c.loop-attr.invariant.7).1,
    )
