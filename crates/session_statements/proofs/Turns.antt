-- Objects that change in turn, of which those that come to differ are touched before.
use Rattle.std.proofs.Common.{◌≡◌, ℕ, zero, suc, cond, ◌+◌, ◌<◌, ◌≤◌, Bool, true, false, not, List, [], ◌∷◌, ◌++◌, length, map, get_or, take, refl, sym, ap, ◌∙◌, arith}
use Rattle.std.specs.List.{enumerate_from, filter}
use Rattle.std.proofs.lemmas.List.{take_all, take_more, get_or-map}
use Rattle.std.proofs.lemmas.List.Elements.{filter-append}
use Rattle.std.proofs.lemmas.List.Sums.{fold-append}
use Rattle.base_core.specs.declared.ids.ObjId.{ObjId}
use Rattle.object_arena.specs.declared.object.Object.{Object}
use Rattle.object_arena.specs.Every.{each_object}
use Rattle.object_arena.specs.Graph.{Graph, IsObject, no_object, object_at, place_of}
use Rattle.object_arena.specs.Identity.{id_of_place}
use Rattle.savepoints.specs.Scopes.{Framed, touch}
use Rattle.object_records.specs.Same.{same_object}
use Rattle.object_records.specs.Touched.{differs, frames_touched_between, frames_with_touched, object_ids}

-- ---- the objects by number

numbers_long : (n : ℕ) (objects : List Object) → length (map (λ placed. id_of_place placed.0) (enumerate_from n objects)) ≡ length objects
numbers_long n [] = refl
numbers_long n (o ∷ objects) = ap (λ (k : ℕ). suc k) (numbers_long (n + 1) objects)

number_at : (n : ℕ) (objects : List Object) (i : ℕ) (d : ObjId) → i < length objects → get_or (map (λ placed. id_of_place placed.0) (enumerate_from n objects)) i d ≡ id_of_place (n + i)
number_at n [] i d less = absurd (omega arith)
number_at n (o ∷ objects) zero d less = ap id_of_place (let e : n ≡ n + 0 = omega arith in e)
number_at n (o ∷ objects) (suc i) d less = number_at (n + 1) objects i d (omega (arith, less)) ∙ ap id_of_place (let e : n + 1 + i ≡ n + suc i = omega arith in e)

-- ---- touches

-- the scopes when those of these objects that pass were touched
abbrev touched_of : Graph → (ObjId → Bool) → List ObjId → Framed → Framed
touched_of graph test objects frames = frames_with_touched graph (filter test objects) frames

-- the scopes when those before a place that come to differ were touched
abbrev pub touched_before : (Object → Object) → Graph → ℕ → Framed → Framed
touched_before change graph place frames = touched_of graph (differs graph (each_object change graph)) (take place (object_ids graph)) frames

asked_for : (graph : Graph) (object : ObjId) (test : Bool) (frames : Framed) → frames_with_touched graph (cond test (object ∷ []) []) frames ≡ cond test (touch graph object frames) frames
asked_for graph object true frames = refl
asked_for graph object false frames = refl

one_more : (graph : Graph) (test : ObjId → Bool) (objects : List ObjId) (object : ObjId) (frames : Framed)
    → touched_of graph test (objects ++ object ∷ []) frames ≡ cond (test object) (touch graph object (touched_of graph test objects frames)) (touched_of graph test objects frames)
one_more graph test objects object frames =
    ap (λ (ids : List ObjId). frames_with_touched graph ids frames) (filter-append test objects (object ∷ []))
    ∙ fold-append (λ (now : Framed) (it : ObjId). touch graph it now) frames (filter test objects) (filter test (object ∷ []))
    ∙ asked_for graph object (test object) (touched_of graph test objects frames)

-- what is read of a graph of changed objects
changed_at : (change : Object → Object) (graph : Graph) (object : ObjId) → IsObject graph object → object_at (each_object change graph) object ≡ change (object_at graph object)
changed_at change graph object made = get_or-map change graph.objects (place_of object) no_object no_object (omega (arith, made.0, made.1))

-- one object more
pub touched_more : (change : Object → Object) (graph : Graph) (first mid now : Framed) (i n : ℕ) → i < length graph.objects → n ≡ i + 1 → mid ≡ touched_before change graph i first
    → (let object : ObjId = record { 0 = n } in now ≡ cond (not (same_object (object_at graph object) (change (object_at graph object)))) (touch graph object mid) mid) → now ≡ touched_before change graph (i + 1) first
touched_more change graph first mid now i n less number so_far is =
    let object : ObjId = record { 0 = n } in
    let made : IsObject graph object = (omega (arith, number), omega (arith, number, less)) in
    let test : ObjId → Bool = differs graph (each_object change graph) in
    let long : i < length (object_ids graph) = omega (arith, less, numbers_long 0 graph.objects) in
    let here : get_or (object_ids graph) i object ≡ object = number_at 0 graph.objects i object less ∙ ap (λ (k : ℕ). record { 0 = k }) (let e : 0 + i + 1 ≡ n = omega (arith, number) in e) in
    is
    ∙ ap (λ (o : Object). cond (not (same_object (object_at graph object) o)) (touch graph object mid) mid) (sym (changed_at change graph object made))
    ∙ ap (λ (frames : Framed). cond (test object) (touch graph object frames) frames) so_far
    ∙ sym (one_more graph test (take i (object_ids graph)) object first)
    ∙ sym (ap (λ (ids : List ObjId). touched_of graph test ids first) (take_more (object_ids graph) i object long ∙ ap (λ (it : ObjId). take i (object_ids graph) ++ it ∷ []) here))

-- all of them
pub touched_all : (change : Object → Object) (graph : Graph) (first now : Framed) (i : ℕ) → length graph.objects ≤ i → now ≡ touched_before change graph i first → now ≡ frames_touched_between graph (each_object change graph) first
unfolding frames_touched_between
touched_all change graph first now i ended so_far =
    so_far ∙ ap (λ (ids : List ObjId). touched_of graph (differs graph (each_object change graph)) ids first) (take_all i (object_ids graph) (omega (arith, ended, numbers_long 0 graph.objects)))
