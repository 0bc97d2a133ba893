use Rattle.std.proofs.Common.{◌<◌, length, ap, sym, subst}
use Rattle.object_arena.specs.declared.object.Object.{Object}
use Rattle.object_arena.specs.Graph.{Graph, object_limit}
use Rattle.object_arena.proofs.IndexLemmas.{indexed_after}
use Rattle.object_arena.proofs.arena.Arena.add_fresh.Goals as goal

pub invariant_of-self : goal.invariant_of-self
invariant_of-self c =
    indexed_after c.self.inside.objects.items c.push_both.new.objects.items c.self.inside.roots.items c.push_both.new.roots.items c.self.inside.index.entries.maps.items c.self.inside.index.complete c.in_ok-object.object c.root_of-root.result c.push_both.result
    c.self.invariant (subst (λ (g : Graph). length g.objects < object_limit) (sym c.self.view_is) c.requires.room)
    (ap (λ (o : Object). o.state) c.in_ok-object.ensures) (ap (λ (o : Object). o.identity) c.in_ok-object.ensures)
    c.push_both.ensures.ok c.push_both.ensures.err
