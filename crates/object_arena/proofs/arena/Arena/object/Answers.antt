use Rattle.std.proofs.Common.{◌≡◌, ◌<◌, ◌-◌, ◌∙◌, length, ap, sym, subst, arith}
use Rattle.std.proofs.lemmas.List.{get_or_default}
use Rattle.object_arena.specs.declared.object.Object.{Object}
use Rattle.object_arena.specs.Graph.{Graph, IsObject, no_object, object_at}
use Rattle.object_arena.specs.Fit.{ObjectFits}
use Rattle.object_arena.proofs.FitLemmas.{fit_at}
use Rattle.object_arena.proofs.RowLemmas.{object_row}
use Rattle.object_arena.proofs.arena.Arena.object.Goals as goal

pub returns-clause-row : goal.returns-clause-row
returns-clause-row c =
    let within = subst (λ (g : Graph). IsObject g c.args.object) (sym c.self.view_is) c.requires in
    let less : c.args.object.0 - 1 < length c.self.inside.objects.items = omega (arith, within.0, within.1) in
    let is : c.index.result.now ≡ object_at c.args.self.now c.args.object =
    c.index.ensures
    ∙ get_or_default c.self.inside.objects.items (c.args.object.0 - 1) c.index.result.now no_object less
    ∙ ap (λ (g : Graph). object_at g c.args.object) c.self.view_is in
    λ mapped fit plain. object_row mapped c.index.result.now plain (subst (λ (o : Object). ObjectFits mapped o) (sym is) (fit_at mapped c.args.self.now c.args.object fit c.requires))
