use Rattle.std.proofs.Common.{◌≡◌, ◌<◌, ◌∙◌, ◌-◌, true, false, length, Some, ap, sym, subst, arith}
use Rattle.std.specs.Prelude.{is_some}
use Rattle.object_arena.specs.declared.object.Object.{Object}
use Rattle.object_arena.specs.Graph.{Graph, IsObject, has_identity, is_persistent, object_at}
use Rattle.object_arena.specs.Identity.{find_identity}
use Rattle.object_arena.proofs.HolderLemmas.{holder_left}
use Rattle.object_arena.proofs.IndexLemmas.{indexed_stated}
use Rattle.object_arena.proofs.arena.Arena.write_state.Goals as goal

pub returns-clause-frees : goal.returns-clause-frees
returns-clause-frees c =
    λ root key is.
    let within = subst (λ (g : Graph). IsObject g c.args.object) (sym c.self.view_is) c.requires.object in
    let less : c.args.object.0 - 1 < length c.self.inside.objects.items = omega (arith, within.0, within.1) in
    let left : is_persistent c.put_state.new.object.state ≡ false = ap (λ (o : Object). is_persistent o.state) c.put_state.ensures ∙ c.requires.state in
    holder_left c.self.inside.objects.items c.self.inside.roots.items c.args.object c.put_state.new.object root key c.self.invariant.graph less left
    (subst (λ (g : Graph). find_identity g root key ≡ Some c.args.object) (sym c.self.view_is) is)

pub invariant_of-self : goal.invariant_of-self
invariant_of-self c =
    let within = subst (λ (g : Graph). IsObject g c.args.object) (sym c.self.view_is) c.requires.object in
    indexed_stated c.self.inside.objects.items c.self.inside.roots.items c.self.inside.index.entries.maps.items c.self.inside.index.complete (c.args.object.0 - 1) c.index_mut.result.now c.put_state.new.object c.args.state
    c.self.invariant (omega (arith, within.0, within.1)) c.index_mut.ensures.value c.requires.state
    (subst (λ (g : Graph). has_identity c.args.state ≡ true → is_some (object_at g c.args.object).identity ≡ true) (sym c.self.view_is) c.requires.identity) c.put_state.ensures
