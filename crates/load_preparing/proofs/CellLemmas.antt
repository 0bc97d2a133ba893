-- Cells that are to be read again, one after another.
use Rattle.std.proofs.Common.{◌≡◌, ℕ, ◌+◌, ◌<◌, ◌≤◌, Bool, false, List, length, map, take, drop, get_or, refl, sym, ap, ◌∙◌, arith, ◌++◌}
use Rattle.std.specs.Prelude.{Some, if◌then◌else◌, is_none, slice_get, slice_set}
use Rattle.std.proofs.lemmas.List.{append-nil, drop_all, length-append, length-drop, length-map, length-set, length-take, set-get_or, take_all}
use Rattle.std.proofs.lemmas.Option.{get_or_from_slice_get, slice_get-get_or}
use Rattle.base_core.specs.declared.ids.AttrNo.{AttrNo}
use Rattle.base_core.specs.declared.ids.ObjId.{ObjId}
use Rattle.object_arena.specs.declared.object.Cell.{Cell}
use Rattle.object_arena.specs.declared.object.Object.{Object}
use Rattle.object_arena.specs.Graph.{Graph, IsObject, cell_at, cell_in, cell_put, expired_cell, object_at, place_of, with_cell, with_object}
use Rattle.object_arena.proofs.PartLemmas.{write_over}
use Rattle.object_arena.proofs.TurnLemmas.{at_with, with_same, written_twice}
use Rattle.load_preparing.specs.Preparing.{reread_cell, reread_object}

-- the cells before a place are to be read again
abbrev pub reread_before : List Cell → ℕ → List Cell
reread_before cells place = map reread_cell (take place cells) ++ drop place cells

abbrev pub object_before : Graph → ObjId → ℕ → Object
object_before graph object place = record (object_at graph object) { cells = reread_before (object_at graph object).cells place }

abbrev pub graph_before : Graph → ObjId → ℕ → Graph
graph_before graph object place = with_object graph object (object_before graph object place)

pub none_reread : (graph : Graph) (object : ObjId) → graph ≡ graph_before graph object 0
none_reread graph object = sym (with_same graph object)

before_long : (cells : List Cell) (place : ℕ) → length (reread_before cells place) ≡ length cells
before_long cells place = simp (length-append, length-map, length-take, length-drop) (omega arith)

-- the cells that are there on the way
pub cells_there : (graph now : Graph) (object : ObjId) (place : ℕ) → IsObject graph object → now ≡ graph_before graph object place → length (object_at now object).cells ≡ length (object_at graph object).cells
cells_there graph now object place made so_far =
    ap (λ (g : Graph). length (object_at g object).cells) so_far ∙ ap (λ (o : Object). length o.cells) (at_with graph object (object_before graph object place) made) ∙ before_long (object_at graph object).cells place

pub next_reread : (graph now new : Graph) (object : ObjId) (attr : AttrNo) (place : ℕ) → IsObject graph object → place < length (object_at graph object).cells → attr.0 ≡ place → now ≡ graph_before graph object place
    → new ≡ with_cell now object attr (reread_cell (cell_at now object attr)) → new ≡ graph_before graph object (place + 1)
next_reread graph now new object attr place made less number so_far write =
    let cells : List Cell = (object_at graph object).cells in
    let mid : List Cell = reread_before cells place in
    let inside : place < length mid = omega (arith, less, before_long cells place) in
    let put : List Cell = slice_set mid place (reread_cell (get_or mid place expired_cell)) in
    let turned : put ≡ reread_before cells (place + 1) = write_over reread_cell cells mid put place (get_or mid place expired_cell) less refl (slice_get-get_or mid place expired_cell inside) refl in
    written_twice (λ (o : Object). cell_put o attr (reread_cell (cell_in o attr))) graph now new object (object_before graph object place) made so_far write
    ∙ ap (λ (p : ℕ). with_object graph object (record (object_at graph object) { cells = slice_set mid p (reread_cell (get_or mid p expired_cell)) })) number
    ∙ ap (λ (xs : List Cell). with_object graph object (record (object_at graph object) { cells = xs })) turned

pub all_reread : (graph now : Graph) (object : ObjId) (place : ℕ) → length (object_at graph object).cells ≤ place → now ≡ graph_before graph object place → now ≡ with_object graph object (reread_object (object_at graph object))
all_reread graph now object place ended so_far =
    let cells : List Cell = (object_at graph object).cells in
    so_far
    ∙ ap (λ (xs : List Cell). with_object graph object (record (object_at graph object) { cells = xs }))
    (ap (λ (xs : List Cell). map reread_cell (take place cells) ++ xs) (drop_all place cells ended) ∙ append-nil (map reread_cell (take place cells)) ∙ ap (map reread_cell) (take_all place cells ended))

-- the object is one still
pub there_still : (graph now : Graph) (object : ObjId) (it : Object) → now ≡ with_object graph object it → IsObject graph object → IsObject now object
there_still graph now object it write made =
    (made.0, omega (arith, made.1, ap (λ (g : Graph). length g.objects) write ∙ length-put graph object it))
  where
    length-put : (graph : Graph) (object : ObjId) (it : Object) → length (with_object graph object it).objects ≡ length graph.objects
    length-put graph object it = length-set graph.objects (place_of object) it

-- a cell whose row's value is known stays
pub known_stays : (graph : Graph) (object : ObjId) (attr : AttrNo) (own : Object) (cell : Cell) (b : Bool) → own ≡ object_at graph object → slice_get own.cells attr.0 ≡ Some cell → b ≡ is_none cell.base → b ≡ false → graph ≡ with_cell graph object attr (reread_cell (cell_at graph object attr))
known_stays graph object attr own cell b is there asked not_none =
    let o : Object = object_at graph object in
    let read : cell_in o attr ≡ cell = get_or_from_slice_get o.cells attr.0 cell expired_cell (ap (λ (it : Object). slice_get it.cells attr.0) (sym is) ∙ there) in
    let known : is_none (cell_in o attr).base ≡ false = ap (λ (c : Cell). is_none c.base) read ∙ sym asked ∙ not_none in
    sym
    (ap (λ (c : Bool). with_cell graph object attr (if c then expired_cell else cell_in o attr)) known
    ∙ ap (λ (xs : List Cell). with_object graph object (record o { cells = xs })) (set-get_or o.cells attr.0 expired_cell)
    ∙ with_same graph object)
