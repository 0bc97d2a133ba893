use Rattle.std.proofs.Common.{◌-◌, refl, sym, subst, arith}
use Rattle.object_arena.specs.Graph.{Graph, IsObject}
use Rattle.object_arena.proofs.IndexLemmas.{indexed_kept}
use Rattle.object_arena.proofs.arena.Arena.write_cell.Goals as goal

pub invariant_of-self : goal.invariant_of-self
invariant_of-self c =
    let within = subst (λ (g : Graph). IsObject g c.args.object) (sym c.self.view_is) c.requires.object in
    indexed_kept c.self.inside.objects.items c.self.inside.roots.items c.self.inside.index.entries.maps.items c.self.inside.index.complete (c.args.object.0 - 1) c.index_mut-target.result.now _
    c.self.invariant (omega (arith, within.0, within.1)) c.index_mut-target.ensures.value refl refl
