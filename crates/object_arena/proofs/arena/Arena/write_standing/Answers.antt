use Rattle.std.proofs.Common.{◌≡◌, ◌-◌, ◌<◌, ◌∙◌, List, length, true, sym, ap, subst, arith, get_or}
use Rattle.std.specs.Prelude.{is_some}
use Rattle.std.proofs.lemmas.List.{get_or_default}
use Rattle.base_core.specs.declared.ids.ClassId.{ClassId}
use Rattle.object_arena.specs.declared.object.Object.{Object}
use Rattle.object_arena.specs.Graph.{Graph, IsObject, has_identity, is_persistent, no_class_id, no_object, object_at}
use Rattle.object_arena.specs.Identity.{IsFree}
use Rattle.object_arena.specs.Index.{IsMoved}
use Rattle.object_arena.proofs.IndexLemmas.{indexed_back}
use Rattle.object_arena.proofs.arena.Arena.write_standing.Goals as goal

pub invariant_of-self : goal.invariant_of-self
invariant_of-self c =
    let within = subst (λ (g : Graph). IsObject g c.args.object) (sym c.self.view_is) c.requires.object in
    let roots : List ClassId = c.self.inside.roots.items in
    let place = c.args.object.0 - 1 in
    let less : place < length c.self.inside.objects.items = omega (arith, within.0, within.1) in
    let less_root : place < length roots = omega (arith, less, c.self.invariant.graph.rooted) in
    let old : Object = c.index_mut-target.result.now in
    let is : old ≡ object_at c.args.self.now c.args.object =
    c.index_mut-target.ensures.value ∙ get_or_default c.self.inside.objects.items place old no_object less ∙ ap (λ (g : Graph). object_at g c.args.object) c.self.view_is in
    let Free : Graph → Object → Type 0 = λ g o. is_persistent c.args.state ≡ true → IsFree g c.args.object o.identity in
    let root_is : c.index.result.now ≡ get_or roots place no_class_id = c.index.ensures ∙ get_or_default roots place c.index.result.now no_class_id less_root in
    indexed_back c.self.inside.objects.items roots c.self.inside.index.entries.maps.items c.go_back.new.self.entries.maps.items c.self.inside.index.complete c.go_back.new.self.complete c.args.object old c.stand.new.object c.args.state old.identity
    c.self.invariant within.0 within.1
    (subst (λ (o : Object). has_identity c.args.state ≡ is_some o.identity) (sym is) c.requires.identity)
    (subst (λ (g : Graph). Free g old) (sym c.self.view_is) (subst (λ (o : Object). Free c.args.self.now o) (sym is) c.requires.one)) c.stand.ensures
    (subst (λ (r : ClassId). c.go_back.new.self.complete ≡ true → (c.self.inside.index.complete ≡ true) × IsMoved c.self.inside.index.entries.maps.items c.go_back.new.self.entries.maps.items r c.args.state old.identity c.args.object) root_is c.go_back.ensures)
