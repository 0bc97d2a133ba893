use Rattle.std.proofs.Common.{◌≡◌, ◌∷◌, ◌++◌, ◌∙◌, List, map, ap, sym, subst}
use Rattle.std.proofs.lemmas.Map.Iter.{rest_more}
use Rattle.base_core.specs.declared.ids.ObjId.{ObjId}
use Rattle.base_core.specs.Ascending.{IsAscending}
use Rattle.cascades.specs.Walks.{id_of_number}
use Rattle.cascades.proofs.ClosureLemmas.{above_before, in_order}
use Rattle.cascades.proofs.walk.Walk.into_set.Goals as goal

pub push-requires : goal.push-requires
push-requires c =
    let turn : c.loop-number.number-iterator ≡ c.in-Some.number ∷ c.next.new.self = rest_more (λ x. x) c.loop-number.number-iterator c.next.new.self c.next.result c.in-Some.number c.in-Some.is c.next.ensures.steps in
    let whole : c.loop-number.set ++ id_of_number c.in-Some.number ∷ map id_of_number c.next.new.self ≡ map id_of_number c.args.self.reached.keys =
    ap (λ xs. c.loop-number.set ++ map id_of_number xs) (sym turn) ∙ c.loop-number.invariant.2 in
    above_before c.loop-number.set (id_of_number c.in-Some.number) (map id_of_number c.next.new.self) (subst (λ (xs : List ObjId). IsAscending xs) (sym whole) c.loop-number.invariant.3)

pub loop-number-init : goal.loop-number-init
loop-number-init c = (
  tt,
  tt,
  ap (λ xs. xs ++ map id_of_number c.into_iter-number-iterator.result) c.new-set.ensures ∙ ap (map id_of_number) c.into_iter-number-iterator.ensures.into_iter_gives.0,
  in_order c.args.self.reached.keys c.requires,
)
