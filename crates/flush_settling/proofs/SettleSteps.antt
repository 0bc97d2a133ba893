-- The records that are put in are the objects after success.
use Rattle.std.proofs.Common.{◌≡◌, List, length, Option, Result, Ok, Err, OnErr, OnOk, IfOk, sym, ap, ◌∙◌}
use Rattle.std.specs.declared.alloc.AllocError.{AllocError}
use Rattle.base_core.specs.declared.refusal.Refusal.TheVariants.{Memory}
use Rattle.base_core.specs.declared.value.Value.{Value}
use Rattle.schema_core.specs.declared.changes.RowChanges.{RowChanges}
use Rattle.class_mapping.specs.Mapped.{Mapped}
use Rattle.object_arena.specs.declared.object.Object.{Object}
use Rattle.object_arena.specs.Every.{classes_of}
use Rattle.object_arena.specs.Fit.{IsFit}
use Rattle.object_arena.specs.Graph.{Graph}
use Rattle.object_arena.specs.Identity.{IsGraph}
use Rattle.object_records.specs.Records.{CanFollow, with_records}
use Rattle.savepoints.specs.Scopes.{Framed}
use Rattle.object_records.specs.Touched.{frames_touched_between}
use Rattle.object_rows.specs.declared.prepared.Prepared.{Prepared}
use Rattle.graph_flushed.specs.Fitting.{IsFitting}
use Rattle.graph_flushed.specs.Flushed.{Written, graph_flushed, graph_written, written_with}
use Rattle.graph_flushed.specs.Ready.{AreNarrowThen}
use Rattle.graph_flushed.proofs.FitSteps.{flushed_fits}
use Rattle.graph_flushed.proofs.FollowSteps.{can_follow}
use Rattle.graph_flushed.proofs.ObjectSteps.{narrow_all}

pub settled_ok : (written : Written) (new : Graph) (records : List (Option Object)) (r : Result (Unit {0}) AllocError) → with_records written.graph records ≡ graph_written written → OnOk r (new ≡ with_records written.graph records) → OnOk r (new ≡ graph_written written)
settled_ok written new records (Ok u) is put = put ∙ is
settled_ok written new records (Err e) is put = tt

pub settled_touched : (written : Written) (new : Graph) (records : List (Option Object)) (r : Result (Unit {0}) AllocError) (old now : Framed) → OnOk r (new ≡ with_records written.graph records)
    → OnOk r (now ≡ frames_touched_between written.graph (with_records written.graph records) old) → OnOk r (now ≡ frames_touched_between written.graph new old)
settled_touched written new records (Ok u) old now put touched = touched ∙ ap (λ (g : Graph). frames_touched_between written.graph g old) (sym put)
settled_touched written new records (Err e) old now put touched = tt

-- the objects fit then; a want of memory changes nothing
pub settled_fits : (mapped : Mapped) (graph new : Graph) (prepared : Prepared) (changes : RowChanges) (keys : List (List Value)) (r : Result (Unit {0}) AllocError) → IsFit mapped graph
    → OnOk r (new ≡ graph_flushed mapped prepared changes keys graph) → OnErr r (new ≡ graph) → classes_of new ≡ classes_of graph → IsFitting (written_with mapped prepared changes keys graph) → IsFit mapped new
settled_fits mapped graph new prepared changes keys (Ok u) fit ok err same good = flushed_fits mapped graph new prepared changes keys (Ok u) fit ok tt same good
settled_fits mapped graph new prepared changes keys (Err e) fit ok err same good = flushed_fits mapped graph new prepared changes keys (Err Memory) fit tt err same good

-- ---- the objects can follow

pub records_follow : (written : Written) (r : Result (List (Option Object)) AllocError) → IfOk r (λ records. with_records written.graph records ≡ graph_written written) → IsGraph written.graph.objects written.graph.roots → length written.keys ≡ length written.graph.objects
    → IfOk r (λ records. AreNarrowThen written.graph records (length written.graph.objects)) → IfOk r (λ records. CanFollow written.graph (with_records written.graph records).objects)
records_follow written (Ok records) is graph long narrow =
    can_follow written (with_records written.graph records).objects (ap (λ (g : Graph). g.objects) is) graph long (narrow_all written.graph records narrow)
records_follow written (Err e) is graph long narrow = tt
