use Rattle.std.proofs.Common.{◌-◌, ap, sym, subst, arith}
use Rattle.object_arena.specs.declared.object.Object.{Object}
use Rattle.object_arena.specs.Graph.{Graph, IsObject}
use Rattle.object_arena.proofs.IndexLemmas.{indexed_kept}
use Rattle.object_arena.proofs.arena.Arena.write_expired.Goals as goal

pub invariant_of-self : goal.invariant_of-self
invariant_of-self c =
    let within = subst (λ (g : Graph). IsObject g c.args.object) (sym c.self.view_is) c.requires in
    indexed_kept c.self.inside.objects.items c.self.inside.roots.items c.self.inside.index.entries.maps.items c.self.inside.index.complete (c.args.object.0 - 1) c.index_mut.result.now c.expire.new.object
    c.self.invariant (omega (arith, within.0, within.1)) c.index_mut.ensures.value (ap (λ (o : Object). o.state) c.expire.ensures) (ap (λ (o : Object). o.identity) c.expire.ensures)
