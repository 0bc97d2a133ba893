-- The objects after success, one after another.
use Rattle.std.proofs.Common.{◌≡◌, ℕ, ◌+◌, ◌-◌, ◌<◌, ◌≤◌, List, [], ◌∷◌, ◌++◌, length, get_or, Option, None, sym, ap, ◌∙◌, subst, below_more, arith}
use Rattle.std.specs.List.{All}
use Rattle.std.proofs.Math.Seq.{get_or-append_seam}
use Rattle.std.proofs.lemmas.List.{get_or_append_left, same_lists}
use Rattle.object_arena.specs.declared.object.Object.{Object}
use Rattle.object_arena.specs.Every.{each_placed}
use Rattle.object_arena.specs.Graph.{Graph, no_object, object_at}
use Rattle.object_arena.specs.Identity.{id_of_place}
use Rattle.savepoints.proofs.BackLemmas.{each_at, each_long}
use Rattle.object_records.specs.Records.{record_at, with_records}
use Rattle.graph_flushed.specs.Flushed.{Written, graph_written, object_flushed}
use Rattle.graph_flushed.specs.Ready.{AreNarrowThen, IsNarrow}

pub flushed_long : (written : Written) → length (graph_written written).objects ≡ length written.graph.objects
unfolding graph_written
flushed_long written = each_long (λ place it. object_flushed written (id_of_place place) it) written.graph

-- the object at a place
pub flushed_at : (written : Written) (i : ℕ) → i < length written.graph.objects → get_or (graph_written written).objects i no_object ≡ object_flushed written (id_of_place i) (get_or written.graph.objects i no_object)
unfolding graph_written
flushed_at written i less = each_at (λ place it. object_flushed written (id_of_place place) it) written.graph i no_object no_object less

-- ---- the records that objects get, one after another

-- those of the objects before a place are what success makes of these
abbrev pub AreFlushed : Written → List (Option Object) → ℕ → Type 0
AreFlushed written records count = (place : ℕ) → place < count → record_at records place (get_or written.graph.objects place no_object) ≡ object_flushed written (id_of_place place) (get_or written.graph.objects place no_object)

-- a fact of the records before a place, and of the one there, holds where it was pushed
pub pushed_more : (P : ℕ → Option Object → Type 0) (records new : List (Option Object)) (i : ℕ) (it : Option Object) → length records ≡ i → new ≡ records ++ it ∷ [] → P i it
    → ((place : ℕ) → place < i → P place (get_or records place None)) → (place : ℕ) → place < i + 1 → P place (get_or new place None)
pushed_more P records new i it long write here before =
    below_more (λ place. P place (get_or new place None)) i
    (λ place less.
    subst (P place) (sym (ap (λ (rs : List (Option Object)). get_or rs place None) write ∙ get_or_append_left records (it ∷ []) None place (omega (arith, long, less)))) (before place less))
    (subst (P i) (sym (ap (λ (rs : List (Option Object)). get_or rs i None) write ∙ ap (λ (n : ℕ). get_or (records ++ it ∷ []) n None) (sym long) ∙ get_or-append_seam records it [] None)) here)

-- the object at a place is that of the next number
pub object_here : (graph : Graph) (i : ℕ) → object_at graph (id_of_place i) ≡ get_or graph.objects i no_object
object_here graph i = ap (λ (p : ℕ). get_or graph.objects p no_object) (omega arith)

pub records_whole : (written : Written) (records : List (Option Object)) (i : ℕ) → length written.graph.objects ≤ i → AreFlushed written records i → with_records written.graph records ≡ graph_written written
unfolding graph_written
records_whole written records i ended are =
    ap (λ (objects : List Object). record { objects = objects; roots = written.graph.roots })
    (same_lists (with_records written.graph records).objects (each_placed (λ place it. object_flushed written (id_of_place place) it) written.graph).objects
    (each_long (record_at records) written.graph ∙ sym (each_long (λ place it. object_flushed written (id_of_place place) it) written.graph))
    (λ place d less.
    let within : place < length written.graph.objects = omega (arith, each_long (record_at records) written.graph, less) in
    each_at (record_at records) written.graph place d no_object within ∙ are place (omega (arith, ended, within)) ∙ sym (each_at (λ place it. object_flushed written (id_of_place place) it) written.graph place d no_object within)))

-- what the objects come to be has numbers
pub narrow_all : (graph : Graph) (records : List (Option Object)) → AreNarrowThen graph records (length graph.objects) → All IsNarrow (with_records graph records).objects
narrow_all graph records narrow =
    λ place d less.
    let within : place < length graph.objects = omega (arith, each_long (record_at records) graph, less) in
    subst IsNarrow (sym (each_at (record_at records) graph place d no_object within)) (narrow place within)
