use Rattle.std.proofs.Common.{◌≡◌, ◌+◌, ◌∙◌, true, Some, List, ap, sym, subst, arith}
use Rattle.std.specs.List.{position, zip}
use Rattle.base_core.specs.declared.ids.ClassId.{ClassId}
use Rattle.base_core.specs.declared.ids.ObjId.{ObjId}
use Rattle.object_arena.specs.declared.object.Object.{Object}
use Rattle.object_arena.specs.Graph.{Graph, object_at, root_at}
use Rattle.object_arena.specs.Identity.{holds}
use Rattle.object_arena.proofs.HolderLemmas.{found_holds, holds_some}
use Rattle.object_arena.proofs.arena.Arena.scan.Goals as goal

pub returns-in-Some-clause-holds : goal.returns-in-Some-clause-holds
returns-in-Some-clause-holds c =
    let holder : ObjId = record { 0 = c.in-Some.place + 1 } in
    let at : position (holds c.args.root c.args.key.now) (zip c.self.inside.objects.items c.self.inside.roots.items) ≡ Some c.in-Some.place =
    ap (λ (objects : List Object). position (holds c.args.root c.args.key.now) (zip objects c.self.inside.roots.items)) (sym c.as_slice.ensures.value)
    ∙ ap (λ (roots : List ClassId). position (holds c.args.root c.args.key.now) (zip c.as_slice.result.now roots)) (sym c.as_slice-2.ensures.value)
    ∙ sym c.in-Some.ensures.place in
    subst (λ (g : Graph). holds c.args.root c.args.key.now (object_at g holder, root_at g holder) ≡ true) c.self.view_is
    (found_holds c.self.inside.objects.items c.self.inside.roots.items c.args.root c.args.key.now c.in-Some.place holder c.self.invariant.graph at (omega arith))

pub returns-in-Some-clause-identified : goal.returns-in-Some-clause-identified
returns-in-Some-clause-identified c =
    let holder : ObjId = record { 0 = c.in-Some.place + 1 } in
    holds_some c.args.root (root_at c.args.self.now holder) c.args.key.now (object_at c.args.self.now holder) (returns-in-Some-clause-holds c)
