use Rattle.std.proofs.Common.{[], List, sym, subst}
use Rattle.std.specs.List.{All}
use Rattle.std.proofs.lemmas.List.Elements.{All-nil, All-cons}
use Rattle.base_core.specs.declared.ids.ObjId.{ObjId}
use Rattle.object_arena.specs.Graph.{IsObject}
use Rattle.cascades.proofs.LeastLemmas.{if_one}
use Rattle.cascades.proofs.closures.closure.Goals as goal

pub reach-requires-clause-starts : goal.reach-requires-clause-starts
reach-requires-clause-starts c =
    subst (λ (objects : List ObjId). All (IsObject c.args.arena.now) objects) (sym c.from_ref.ensures.value)
    (All-cons (IsObject c.args.arena.now) c.args.object [] c.requires.object (All-nil (IsObject c.args.arena.now)))

pub returns : goal.returns
returns c = if_one c.args.flag c.args.mapping.now c.args.arena.now c.from_ref.result.now c.args.object c.reach.result c.from_ref.ensures.value c.reach.ensures
