-- Loads of a session, seen from the loads below.
use Rattle.std.proofs.Common.{◌≡◌, true, [], Option, None, Some, Result, Ok, Err, IfOk, sym, ap, ◌∙◌}
use Rattle.std.proofs.Common.{append-nil}
use Rattle.base_core.specs.declared.ids.ClassId.{ClassId}
use Rattle.base_core.specs.declared.ids.ObjId.{ObjId}
use Rattle.base_core.specs.declared.refusal.Refusal.{Refusal}
use Rattle.class_mapping.specs.Mapped.{Mapped}
use Rattle.keeper_core.specs.Store.{Store}
use Rattle.keeper_core.specs.Moment.{Moment}
use Rattle.load_filling.specs.Growing.{Grows}
use Rattle.load_calls.specs.Reading.{IsReadyStill, StaysReady}
use Rattle.object_arena.specs.Every.{classes_of}
use Rattle.object_arena.specs.Fit.{IsFit, end_fits}
use Rattle.object_arena.specs.Graph.{Graph}
use Rattle.relations.specs.Keys.{IsEnd}
use Rattle.relations.proofs.EndLemmas.{of_root_made, roots_long}
use Rattle.session_parts.specs.Depths.{StaysAt}

-- a keeper that stays ready stays at its depth
pub stays_at : {A : Type 0} (before moment : Moment Store) (r : Result A Refusal) → StaysReady before r moment → StaysAt r before.depth moment
stays_at before moment (Ok x) still = (still.0.attached, still.1)
stays_at before moment (Err e) still = λ own. let there : IsReadyStill before moment = still own in (there.0.attached, there.1)

-- objects that change, each in its class
pub grows_classes : (old new : Graph) → classes_of new ≡ classes_of old → Grows old new
grows_classes old new same = record {
  classes = [];
  roots = [];
  longer = ap (λ c. c.0) same ∙ sym (append-nil (classes_of old).0);
  rooted = ap (λ c. c.1) same ∙ sym (append-nil (classes_of old).1);
}

-- the end of a link is an object
pub end_made : (mapped : Mapped) (graph : Graph) (root : ClassId) (end : Option ObjId) → IsFit mapped graph → end_fits graph.roots root end ≡ true → IsEnd graph end
end_made mapped graph root None fit fits = tt
end_made mapped graph root (Some object) fit fits = of_root_made graph root object (roots_long mapped graph fit) fits

pub end_found : (mapped : Mapped) (graph : Graph) (root : ClassId) (r : Result (Option ObjId) Refusal) → IsFit mapped graph → IfOk r (λ end. end_fits graph.roots root end ≡ true) → IfOk r (IsEnd graph)
end_found mapped graph root (Ok end) fit fits = end_made mapped graph root end fit fits
end_found mapped graph root (Err e) fit fits = tt
