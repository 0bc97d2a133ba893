-- The cells of an object that are filled one by one.
use Rattle.std.proofs.Common.{◌≡◌, ℕ, suc, subst, length-drop, ◌+◌, ◌-◌, ◌<◌, ◌≤◌, List, [], ◌∷◌, ◌++◌, map, take, drop, length, get_or, sym, ap, ◌∙◌, arith, append_assoc, append-nil, length-append}
use Rattle.std.specs.Prelude.{slice_set}
use Rattle.std.specs.List.{enumerate_from}
use Rattle.std.proofs.Math.Seq.{get_or-append_seam, set-append_seam}
use Rattle.std.proofs.lemmas.List.{drop_all, drop_more, get_or-set_same, length-map, length-set, length-take-le, set-get_or, take_all, take_more}
use Rattle.std.proofs.lemmas.List.FromFn.{length-enumerate_from}
use Rattle.base_core.specs.declared.ids.AttrNo.{AttrNo}
use Rattle.base_core.specs.declared.ids.ClassId.{ClassId}
use Rattle.base_core.specs.declared.ids.ObjId.{ObjId}
use Rattle.object_arena.specs.declared.object.Cell.{Cell}
use Rattle.object_arena.specs.declared.object.Object.{Object}
use Rattle.object_arena.specs.Graph.{Graph, IsObject, cell_at, cell_in, cell_put, expired_cell, no_object, object_at, place_of, with_cell, with_object}
use Rattle.object_arena.specs.Fit.{KeepsWith}
use Rattle.object_arena.proofs.PartLemmas.{set_twice}
use Rattle.load_filling.specs.Filled.{AreFoundFor, Found, IsFilledInPart, filled_cell, filled_to, first_filled, with_filled}

object_same : (graph : Graph) (object : ObjId) → with_object graph object (object_at graph object) ≡ graph
object_same graph object = ap (λ (objects : List Object). let new : Graph = record { objects = objects; roots = graph.roots } in new) (set-get_or graph.objects (place_of object) no_object)

-- a cell that is put where it stands changes nothing
pub cell_same : (graph : Graph) (object : ObjId) (attr : AttrNo) → with_cell graph object attr (cell_at graph object attr) ≡ graph
cell_same graph object attr =
    let own : Object = object_at graph object in
    ap (λ (cells : List Cell). with_object graph object (record own { cells = cells })) (set-get_or own.cells attr.0 expired_cell) ∙ object_same graph object

pub none_filled : (graph : Graph) (object : ObjId) (found : Found) → graph ≡ filled_to graph object found 0
none_filled graph object found = sym (object_same graph object)

numbered_more : (found : Found) (n : ℕ) (cells : List Cell) (cell : Cell)
    → map (filled_cell found) (enumerate_from n (cells ++ cell ∷ [])) ≡ map (filled_cell found) (enumerate_from n cells) ++ filled_cell found (n + length cells, cell) ∷ []
numbered_more found n [] cell =
    let same : n ≡ n + 0 = omega arith in
    ap (λ (k : ℕ). filled_cell found (k, cell) ∷ []) same
numbered_more found n (first ∷ cells) cell =
    let same : n + 1 + length cells ≡ n + suc (length cells) = omega arith in
    ap (λ (more : List Cell). filled_cell found (n, first) ∷ more)
    (numbered_more found (n + 1) cells cell ∙ ap (λ (k : ℕ). map (filled_cell found) (enumerate_from (n + 1) cells) ++ filled_cell found (k, cell) ∷ []) same)

before_long : (found : Found) (cells : List Cell) (n : ℕ) → n ≤ length cells → length (map (filled_cell found) (enumerate_from 0 (take n cells))) ≡ n
before_long found cells n within =
    length-map (enumerate_from 0 (take n cells)) (filled_cell found) ∙ length-enumerate_from 0 (take n cells) ∙ length-take-le n cells within

split_at : (found : Found) (cells : List Cell) (n : ℕ) → n < length cells
    → first_filled found cells n ≡ map (filled_cell found) (enumerate_from 0 (take n cells)) ++ get_or cells n expired_cell ∷ drop (n + 1) cells
split_at found cells n less = ap (λ (rest : List Cell). map (filled_cell found) (enumerate_from 0 (take n cells)) ++ rest) (drop_more cells n expired_cell less)

-- the next cell is as it was
cell_next : (found : Found) (cells : List Cell) (n : ℕ) → n < length cells → get_or (first_filled found cells n) n expired_cell ≡ get_or cells n expired_cell
cell_next found cells n less =
    let before : List Cell = map (filled_cell found) (enumerate_from 0 (take n cells)) in
    let within : n ≤ length cells = omega (arith, less) in
    let long : length before ≡ n = before_long found cells n within in
    ap (λ (all : List Cell). get_or all n expired_cell) (split_at found cells n less)
    ∙ ap (λ (k : ℕ). get_or (before ++ get_or cells n expired_cell ∷ drop (n + 1) cells) k expired_cell) (sym long)
    ∙ get_or-append_seam before (get_or cells n expired_cell) (drop (n + 1) cells) expired_cell

-- with it filled one more is
cells_next : (found : Found) (cells : List Cell) (n : ℕ) → n < length cells
    → slice_set (first_filled found cells n) n (filled_cell found (n, get_or cells n expired_cell)) ≡ first_filled found cells (n + 1)
cells_next found cells n less =
    let before : List Cell = map (filled_cell found) (enumerate_from 0 (take n cells)) in
    let cell : Cell = get_or cells n expired_cell in
    let within : n ≤ length cells = omega (arith, less) in
    let long : length before ≡ n = before_long found cells n within in
    let taken : 0 + length (take n cells) ≡ n = omega (arith, length-take-le n cells within) in
    ap (λ (all : List Cell). slice_set all n (filled_cell found (n, cell))) (split_at found cells n less)
    ∙ ap (λ (k : ℕ). slice_set (before ++ cell ∷ drop (n + 1) cells) k (filled_cell found (n, cell))) (sym long)
    ∙ set-append_seam before cell (drop (n + 1) cells) (filled_cell found (n, cell))
    ∙ sym (append_assoc before (filled_cell found (n, cell) ∷ []) (drop (n + 1) cells))
    ∙ ap (λ (k : ℕ). (before ++ filled_cell found (k, cell) ∷ []) ++ drop (n + 1) cells) (sym taken)
    ∙ ap (λ (all : List Cell). all ++ drop (n + 1) cells) (sym (numbered_more found 0 (take n cells) cell))
    ∙ ap (λ (all : List Cell). map (filled_cell found) (enumerate_from 0 all) ++ drop (n + 1) cells) (sym (take_more cells n expired_cell less))

inside : (graph : Graph) (object : ObjId) → IsObject graph object → place_of object < length graph.objects
inside graph object made =
    let first : 0 < object.0 = made.0 in
    let last : object.0 ≤ length graph.objects = made.1 in
    omega (arith, first, last)

-- one more cell of the object is filled
pub filled_next : (graph : Graph) (object : ObjId) (found : Found) (attr : AttrNo) → IsObject graph object → attr.0 < length (object_at graph object).cells
    → with_cell (filled_to graph object found attr.0) object attr (filled_cell found (attr.0, cell_at (filled_to graph object found attr.0) object attr)) ≡ filled_to graph object found (attr.0 + 1)
filled_next graph object found attr made less =
    let own : Object = object_at graph object in
    let n : ℕ = attr.0 in
    let middle : Object = record own { cells = first_filled found own.cells n } in
    let there : object_at (filled_to graph object found n) object ≡ middle = get_or-set_same graph.objects (place_of object) middle no_object (inside graph object made) in
    ap (λ (now : Object). with_object (filled_to graph object found n) object (cell_put now attr (filled_cell found (n, cell_in now attr)))) there
    ∙ ap (λ (objects : List Object). let new : Graph = record { objects = objects; roots = graph.roots } in new)
    (set_twice graph.objects (place_of object) middle (cell_put middle attr (filled_cell found (n, cell_in middle attr))))
    ∙ ap (λ (cell : Cell). with_object graph object (record own { cells = slice_set (first_filled found own.cells n) n (filled_cell found (n, cell)) })) (cell_next found own.cells n less)
    ∙ ap (λ (cells : List Cell). with_object graph object (record own { cells = cells })) (cells_next found own.cells n less)

-- all are
pub all_filled : (graph : Graph) (object : ObjId) (found : Found) (n : ℕ) → length (object_at graph object).cells ≤ n → filled_to graph object found n ≡ with_filled graph object found
unfolding with_filled
all_filled graph object found n most =
    let own : Object = object_at graph object in
    ap (λ (cells : List Cell). with_object graph object (record own { cells = map (filled_cell found) (enumerate_from 0 cells) ++ drop n own.cells })) (take_all n own.cells most)
    ∙ ap (λ (rest : List Cell). with_object graph object (record own { cells = map (filled_cell found) (enumerate_from 0 own.cells) ++ rest })) (drop_all n own.cells most)
    ∙ ap (λ (cells : List Cell). with_object graph object (record own { cells = cells })) (append-nil (map (filled_cell found) (enumerate_from 0 own.cells)))

-- ---- a graph of which the first cells of an object are filled

there_is : (graph now : Graph) (object : ObjId) (found : Found) (n : ℕ) → now ≡ filled_to graph object found n → IsObject graph object
    → object_at now object ≡ record (object_at graph object) { cells = first_filled found (object_at graph object).cells n }
there_is graph now object found n is made =
    ap (λ (g : Graph). object_at g object) is
    ∙ get_or-set_same graph.objects (place_of object) (record (object_at graph object) { cells = first_filled found (object_at graph object).cells n }) no_object (inside graph object made)

pub object_there : (graph now : Graph) (object : ObjId) (found : Found) (n : ℕ) → now ≡ filled_to graph object found n → IsObject graph object → IsObject now object
object_there graph now object found n is made =
    let middle : Object = record (object_at graph object) { cells = first_filled found (object_at graph object).cells n } in
    let long : length now.objects ≡ length graph.objects = ap (λ (g : Graph). length g.objects) is ∙ length-set graph.objects (place_of object) middle in
    (made.0, subst (λ (k : ℕ). object.0 ≤ k) (sym long) made.1)

pub cell_there : (graph now : Graph) (object : ObjId) (found : Found) (n : ℕ) (attr : AttrNo) → now ≡ filled_to graph object found n → IsObject graph object → n < length (object_at graph object).cells → attr.0 ≡ n
    → attr.0 < length (object_at now object).cells
cell_there graph now object found n attr is made less same =
    let cells : List Cell = (object_at graph object).cells in
    let before : List Cell = map (filled_cell found) (enumerate_from 0 (take n cells)) in
    let within : n ≤ length cells = omega (arith, less) in
    let long : length before ≡ n = before_long found cells n within in
    let whole : length (first_filled found cells n) ≡ length before + length (drop n cells) = length-append before (drop n cells) in
    let there : length (object_at now object).cells ≡ length (first_filled found cells n) = ap (λ (o : Object). length o.cells) (there_is graph now object found n is made) in
    omega (arith, less, same, long, whole, there, length-drop n cells)

pub next_filled : (graph now new : Graph) (object : ObjId) (found : Found) (n : ℕ) (attr : AttrNo) → now ≡ filled_to graph object found n → IsObject graph object → n < length (object_at graph object).cells → attr.0 ≡ n
    → new ≡ with_cell now object attr (filled_cell found (attr.0, cell_at now object attr)) → new ≡ filled_to graph object found (n + 1)
next_filled graph now new object found n attr is made less same filled =
    let from : now ≡ filled_to graph object found attr.0 = is ∙ ap (filled_to graph object found) (sym same) in
    let within : attr.0 < length (object_at graph object).cells = subst (λ (k : ℕ). k < length (object_at graph object).cells) (sym same) less in
    filled ∙ ap (λ (g : Graph). with_cell g object attr (filled_cell found (attr.0, cell_at g object attr))) from
    ∙ filled_next graph object found attr made within ∙ ap (λ (k : ℕ). filled_to graph object found (k + 1)) same

pub next_keeps : (graph now new : Graph) (object : ObjId) (found : Found) (n : ℕ) → now ≡ filled_to graph object found n → IsObject graph object
    → KeepsWith (AreFoundFor (object_at graph object).class found) graph now → KeepsWith (AreFoundFor (object_at now object).class found) now new → KeepsWith (AreFoundFor (object_at graph object).class found) graph new
next_keeps graph now new object found n is made before after =
    let same : (object_at now object).class ≡ (object_at graph object).class = ap (λ (o : Object). o.class) (there_is graph now object found n is made) in
    record {
      fits = λ mapped given fit. after.fits mapped (subst (λ (class : ClassId). AreFoundFor class found mapped) (sym same) given) (before.fits mapped given fit);
      classes = after.classes ∙ before.classes;
    }

-- memory ran out at a cell
pub filled_in_part : (graph now new : Graph) (object : ObjId) (found : Found) (n : ℕ) → now ≡ filled_to graph object found n → new ≡ now → IsFilledInPart graph object found new
filled_in_part graph now new object found n is same = (n, same ∙ is)
