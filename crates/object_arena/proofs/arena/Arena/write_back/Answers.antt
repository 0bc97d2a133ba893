use Rattle.std.proofs.Common.{◌≡◌, ◌-◌, ◌<◌, ◌∙◌, List, length, true, sym, subst, arith, get_or}
use Rattle.std.proofs.lemmas.List.{get_or_default}
use Rattle.base_core.specs.declared.ids.ClassId.{ClassId}
use Rattle.object_arena.specs.Graph.{Graph, IsObject, is_persistent, no_class_id}
use Rattle.object_arena.specs.Identity.{IsFree}
use Rattle.object_arena.specs.Index.{IsMoved}
use Rattle.object_arena.proofs.IndexLemmas.{indexed_back}
use Rattle.object_arena.proofs.arena.Arena.write_back.Goals as goal

pub invariant_of-self : goal.invariant_of-self
invariant_of-self c =
    let Free : Graph → Type 0 = λ g. is_persistent c.args.state ≡ true → IsFree g c.args.object c.args.identity in
    let within = subst (λ (g : Graph). IsObject g c.args.object) (sym c.self.view_is) c.requires.object in
    let roots : List ClassId = c.self.inside.roots.items in
    let place = c.args.object.0 - 1 in
    let less : place < length roots = omega (arith, within.0, within.1, c.self.invariant.graph.rooted) in
    let root_is : c.index.result.now ≡ get_or roots place no_class_id = c.index.ensures ∙ get_or_default roots place c.index.result.now no_class_id less in
    indexed_back c.self.inside.objects.items roots c.self.inside.index.entries.maps.items c.go_back.new.self.entries.maps.items c.self.inside.index.complete c.go_back.new.self.complete c.args.object c.index_mut.result.now c.put_back.new.object c.args.state c.args.identity
    c.self.invariant within.0 within.1 c.requires.identity (subst Free (sym c.self.view_is) c.requires.one) c.put_back.ensures
    (subst (λ (r : ClassId). c.go_back.new.self.complete ≡ true → (c.self.inside.index.complete ≡ true) × IsMoved c.self.inside.index.entries.maps.items c.go_back.new.self.entries.maps.items r c.args.state c.args.identity c.args.object) root_is c.go_back.ensures)
