use Rattle.std.proofs.Common.{◌≡◌, ◌-◌, ◌<◌, ◌∙◌, List, length, true, false, refl, sym, subst, arith, get_or}
use Rattle.std.proofs.lemmas.List.{get_or_default}
use Rattle.base_core.specs.declared.ids.ClassId.{ClassId}
use Rattle.object_arena.specs.Entries.{IsPut}
use Rattle.object_arena.specs.Graph.{Graph, IsObject, no_class_id}
use Rattle.object_arena.specs.Identity.{is_taken}
use Rattle.object_arena.proofs.IndexLemmas.{indexed_registered}
use Rattle.object_arena.proofs.arena.Arena.settle_identity.Goals as goal

pub invariant_of-self : goal.invariant_of-self
invariant_of-self c =
    let within = subst (λ (g : Graph). IsObject g c.args.object) (sym c.self.view_is) c.requires.object in
    let free = subst (λ (g : Graph). is_taken g c.args.object c.args.key ≡ false) (sym c.self.view_is) c.requires.free in
    let roots : List ClassId = c.self.inside.roots.items in
    let place = c.args.object.0 - 1 in
    let less : place < length roots = omega (arith, within.0, within.1, c.self.invariant.graph.rooted) in
    let root_is : c.index.result.now ≡ get_or roots place no_class_id = c.index.ensures ∙ get_or_default roots place c.index.result.now no_class_id less in
    indexed_registered c.self.inside.objects.items roots c.self.inside.index.entries.maps.items c.enter.new.self.entries.maps.items c.self.inside.index.complete c.enter.new.self.complete c.args.object c.args.key _
    c.self.invariant within.0 within.1 free refl refl
    (subst (λ (r : ClassId). c.enter.new.self.complete ≡ true → (c.self.inside.index.complete ≡ true) × IsPut c.self.inside.index.entries.maps.items c.enter.new.self.entries.maps.items r c.args.key c.args.object) root_is c.enter.ensures)
