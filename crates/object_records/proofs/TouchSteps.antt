-- The touching of all objects that differ, one after another.
use Rattle.std.proofs.Common.{◌≡◌, ℕ, ◌+◌, ◌-◌, ◌<◌, ◌≤◌, Bool, true, false, cond, List, [], ◌∷◌, ◌++◌, length, get_or, take, refl, sym, ap, ◌∙◌, arith}
use Rattle.std.specs.Prelude.{not, fold, Option, None}
use Rattle.std.specs.Option.{unwrap_or}
use Rattle.std.specs.List.{enumerate_from, filter}
use Rattle.std.proofs.lemmas.List.{get_or-map, get_or_default, length-map, take_all, take_more}
use Rattle.std.proofs.lemmas.List.Elements.{filter-append}
use Rattle.std.proofs.lemmas.List.FromFn.{get_or-enumerate_from, length-enumerate_from}
use Rattle.std.proofs.lemmas.List.Sums.{fold-append}
use Rattle.base_core.specs.declared.ids.ObjId.{ObjId}
use Rattle.object_arena.specs.declared.object.Object.{Object}
use Rattle.object_arena.specs.Graph.{Graph, no_object, object_at}
use Rattle.object_arena.specs.Identity.{id_of_place}
use Rattle.savepoints.proofs.BackLemmas.{each_at}
use Rattle.savepoints.specs.Scopes.{Framed, touch}
use Rattle.object_records.proofs.Exact.{object_itself}
use Rattle.object_records.specs.Same.{same_object}
use Rattle.object_records.specs.Touched.{differs, frames_touched_between, frames_with_touched, object_ids}
use Rattle.object_records.specs.Records.{record_at, with_records}
use Rattle.object_records.specs.Way.{touched_if}

-- ---- one object

-- a record that stays is not touched for
pub not_asked : (graph : Graph) (object : ObjId) (frames : Framed) (same : Bool) → same ≡ true → frames ≡ touched_if (not same) graph object frames
not_asked graph object frames same is = sym (ap (λ (b : Bool). touched_if (not b) graph object frames) is)

pub asked : (graph : Graph) (object : ObjId) (frames : Framed) (same : Bool) → same ≡ false → touch graph object frames ≡ touched_if (not same) graph object frames
asked graph object frames same is = sym (ap (λ (b : Bool). touched_if (not b) graph object frames) is)

-- nor for an object that gets no record
pub not_given : (graph : Graph) (object : ObjId) (frames : Framed) → frames ≡ touched_if (not (same_object (object_at graph object) (object_at graph object))) graph object frames
not_given graph object frames = not_asked graph object frames (same_object (object_at graph object) (object_at graph object)) (object_itself (object_at graph object))

pub ruleset one_touched = (not_asked, asked, not_given)

-- ---- all objects

-- the scopes when those that differ of the objects before a place have been touched
abbrev pub touched_before : Graph → List (Option Object) → ℕ → Framed → Framed
touched_before old records place frames = frames_with_touched old (filter (differs old (with_records old records)) (take place (object_ids old))) frames

ids_long : (graph : Graph) → length (object_ids graph) ≡ length graph.objects
ids_long graph = length-map (enumerate_from 0 graph.objects) (λ (placed : ℕ × Object). id_of_place placed.0) ∙ length-enumerate_from 0 graph.objects

id_at : (graph : Graph) (i : ℕ) → i < length graph.objects → get_or (object_ids graph) i (id_of_place 0) ≡ id_of_place i
id_at graph i less =
    let within : i < length (enumerate_from 0 graph.objects) = rw length-enumerate_from less in
    get_or-map (λ (placed : ℕ × Object). id_of_place placed.0) (enumerate_from 0 graph.objects) i (0, no_object) (id_of_place 0) within
    ∙ ap (λ (placed : ℕ × Object). id_of_place placed.0) (get_or-enumerate_from 0 graph.objects i (0, no_object) less)
    ∙ ap id_of_place (omega arith)

-- one object more, which is touched where a test says so
folded_more : (step : Framed → ObjId → Framed) (test : ObjId → Bool) (ids : List ObjId) (frames now new : Framed) (i : ℕ) (object d : ObjId) → i < length ids → get_or ids i d ≡ object
    → now ≡ fold step frames (filter test (take i ids)) → new ≡ cond (test object) (step now object) now
    → new ≡ fold step frames (filter test (take (i + 1) ids))
folded_more step test ids frames now new i object d less at so_far write =
    let last : (b : Bool) → cond b (step now object) now ≡ fold step now (cond b (object ∷ []) []) = λ b. elim b as (λ (c : Bool). cond c (step now object) now ≡ fold step now (cond c (object ∷ []) [])) [ true ↦ refl | false ↦ refl ] in
    write ∙ last (test object)
    ∙ ap (λ (f : Framed). fold step f (filter test (object ∷ []))) so_far
    ∙ sym (fold-append step frames (filter test (take i ids)) (filter test (object ∷ [])))
    ∙ ap (fold step frames) (sym (filter-append test (take i ids) (object ∷ [])))
    ∙ ap (λ (some : List ObjId). fold step frames (filter test some)) (sym (take_more ids i d less ∙ ap (λ (id : ObjId). take i ids ++ id ∷ []) at))

pub touched_more : (old : Graph) (records : List (Option Object)) (frames now new : Framed) (i : ℕ) (it : Option Object) → i < length old.objects → it ≡ get_or records i it → i < length records
    → now ≡ touched_before old records i frames → new ≡ touched_if (not (same_object (object_at old (id_of_place i)) (unwrap_or it (object_at old (id_of_place i))))) old (id_of_place i) now
    → new ≡ touched_before old records (i + 1) frames
touched_more old records frames now new i it less at within so_far write =
    let place : i + 1 - 1 ≡ i = omega arith in
    let here : unwrap_or it (object_at old (id_of_place i)) ≡ get_or (with_records old records).objects (i + 1 - 1) no_object =
    ap (λ (r : Option Object). unwrap_or r (object_at old (id_of_place i))) (at ∙ get_or_default records i it None within)
    ∙ ap (λ (p : ℕ). record_at records i (get_or old.objects p no_object)) place
    ∙ sym (each_at (record_at records) old i no_object no_object less)
    ∙ ap (λ (p : ℕ). get_or (with_records old records).objects p no_object) (sym place) in
    folded_more (λ f object. touch old object f) (differs old (with_records old records)) (object_ids old) frames now new i (id_of_place i) (id_of_place 0) (rw ids_long less) (id_at old i less) so_far
    (write ∙ ap (λ (o : Object). touched_if (not (same_object (object_at old (id_of_place i)) o)) old (id_of_place i) now) here)

pub touched_all : (old : Graph) (records : List (Option Object)) (frames now : Framed) (i : ℕ) → length old.objects ≤ i → now ≡ touched_before old records i frames → now ≡ frames_touched_between old (with_records old records) frames
unfolding frames_touched_between
touched_all old records frames now i ended so_far =
    so_far ∙ ap (λ (ids : List ObjId). frames_with_touched old (filter (differs old (with_records old records)) ids) frames) (take_all i (object_ids old) (rw ids_long ended))

pub ruleset touch_steps = (touched_all)
