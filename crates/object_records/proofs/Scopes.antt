-- A touch leaves the scopes that are in progress.
use Rattle.std.proofs.Common.{◌≡◌, List, [], ◌∷◌, Result, Ok, Err, OnOk, refl, ap, ◌∙◌}
use Rattle.std.specs.Prelude.{OnErr}
use Rattle.base_core.specs.declared.ids.ObjId.{ObjId}
use Rattle.object_arena.specs.Graph.{Graph}
use Rattle.savepoints.specs.declared.scope.Scope.{Scope}
use Rattle.savepoints.specs.Scopes.{Framed, touch, touch_in}

touched_in : (scopes : List Scope) (graph : Graph) (object : ObjId) (frames : Framed) → (touch_in scopes graph object frames).scopes ≡ frames.scopes
touched_in [] graph object frames = refl
touched_in (scope ∷ scopes) graph object frames = refl

touched : (graph : Graph) (object : ObjId) (frames : Framed) → (touch graph object frames).scopes ≡ frames.scopes
unfolding touch
touched graph object frames = touched_in frames.scopes graph object frames

pub kept_scopes : {E : Type 0} (graph : Graph) (object : ObjId) (old now : Framed) (r : Result (Unit {0}) E) → OnOk r (now ≡ touch graph object old) → OnErr r (now ≡ old) → now.scopes ≡ old.scopes
kept_scopes graph object old now (Ok u) is none = ap (λ (f : Framed). f.scopes) is ∙ touched graph object old
kept_scopes graph object old now (Err e) none is = ap (λ (f : Framed). f.scopes) is
