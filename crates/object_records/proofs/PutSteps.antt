-- Records, and the lists of their cells and links, put in one after another.
use Rattle.std.proofs.Common.{◌≡◌, ℕ, ◌+◌, ◌-◌, ◌<◌, ◌≤◌, List, [], ◌∷◌, ◌++◌, length, get_or, take, drop, zero, suc, refl, sym, ap, ◌∙◌, arith, add-one}
use Rattle.std.specs.Prelude.{Option, None, Some, slice_get, slice_set}
use Rattle.std.specs.Option.{unwrap_or}
use Rattle.std.proofs.lemmas.List.{append-nil, drop_all, get_or-set_other, length-append, length-drop, length-set, length-take, take_all}
use Rattle.std.proofs.lemmas.Option.{get_or_from_slice_get}
use Rattle.base_core.specs.declared.ids.AttrNo.{AttrNo}
use Rattle.base_core.specs.declared.ids.ClassId.{ClassId}
use Rattle.base_core.specs.declared.ids.ObjId.{ObjId}
use Rattle.base_core.specs.declared.ids.RelNo.{RelNo}
use Rattle.base_core.specs.declared.value.Value.{Value}
use Rattle.object_arena.specs.declared.object.Cell.{Cell}
use Rattle.object_arena.specs.declared.object.Link.{Link}
use Rattle.object_arena.specs.declared.object.Object.{Object}
use Rattle.object_arena.specs.declared.object.State.{State}
use Rattle.object_arena.specs.declared.object.State.TheVariants.{Transient, Pending, Persistent, Deleted, Detached}
use Rattle.object_arena.specs.Graph.{Graph, IsObject, cell_put, no_object, object_at, place_of, with_cell, with_link, with_object}
use Rattle.object_arena.specs.Identity.{id_of_place}
use Rattle.object_arena.proofs.TurnLemmas.{at_with, graph_before, placed_all, placed_left, placed_long, placed_more, with_same, written_twice}
use Rattle.savepoints.proofs.BackLemmas.{each_at}
use Rattle.object_records.specs.Records.{record_at, with_records}
use Rattle.object_records.specs.Way.{stood, with_own_marks}

-- ---- what is left of a list whose items are taken out in order

-- the items from a place on are those of the first list
abbrev pub AreLeft : {X : Type 0} → X → List X → List X → ℕ → Type 0
AreLeft d first left place = (k : ℕ) → place ≤ k → get_or left k d ≡ get_or first k d

pub left_more : {X : Type 0} (d hole : X) (first left new : List X) (i : ℕ) → new ≡ slice_set left i hole → AreLeft d first left i → AreLeft d first new (i + 1)
left_more d hole first left new i write so_far =
    λ k past.
    ap (λ xs. get_or xs k d) write ∙ get_or-set_other left i k hole d (λ e. omega (arith, past, e)) ∙ so_far k (omega (arith, past))

pub left_taken : {X : Type 0} (d it : X) (first left : List X) (i : ℕ) → slice_get left i ≡ Some it → AreLeft d first left i → it ≡ get_or first i d
left_taken d it first left i taken so_far = sym (get_or_from_slice_get left i it d taken) ∙ so_far i (omega arith)

-- ---- a list of which the first items are those of another

abbrev pub mixed : {X : Type 0} → List X → List X → ℕ → List X
mixed new old place = take place new ++ drop place old

mixed_set : {X : Type 0} (new old : List X) (i : ℕ) (d : X) → length new ≡ length old → i < length new → slice_set (mixed new old i) i (get_or new i d) ≡ mixed new old (suc i)
mixed_set [] old i d long less = absurd (omega arith)
mixed_set (x ∷ new) [] i d long less = absurd (omega arith)
mixed_set (x ∷ new) (y ∷ old) zero d long less = refl
mixed_set (x ∷ new) (y ∷ old) (suc i) d long less = ap (λ xs. x ∷ xs) (mixed_set new old i d (omega arith) (omega arith))

mixed_more : {X : Type 0} (new old : List X) (it d : X) (i : ℕ) → length new ≡ length old → i < length new → it ≡ get_or new i d → slice_set (mixed new old i) i it ≡ mixed new old (i + 1)
mixed_more new old it d i long less at = ap (slice_set (mixed new old i) i) at ∙ mixed_set new old i d long less ∙ ap (mixed new old) (sym (add-one i))

mixed_all : {X : Type 0} (new old : List X) (i : ℕ) → length new ≡ length old → length new ≤ i → mixed new old i ≡ new
mixed_all new old i long ended = ap (λ xs. take i new ++ xs) (drop_all i old (omega (arith, long, ended))) ∙ append-nil (take i new) ∙ take_all i new ended

mixed_long : {X : Type 0} (new old : List X) (i : ℕ) → length new ≡ length old → length (mixed new old i) ≡ length new
mixed_long new old i long = simp (length-append, length-take, length-drop) (omega (arith, long))

-- ---- the cells of an object

abbrev pub with_cells : Object → List Cell → Object
with_cells object cells = record object { cells = cells }

abbrev pub cells_before : Graph → ObjId → List Cell → ℕ → Graph
cells_before graph object cells place = with_object graph object (with_cells (object_at graph object) (mixed cells (object_at graph object).cells place))

pub cells_none : (graph : Graph) (object : ObjId) (cells : List Cell) → graph ≡ cells_before graph object cells 0
cells_none graph object cells = sym (with_same graph object)

pub cells_more : (graph now new : Graph) (object : ObjId) (cells : List Cell) (it d : Cell) (i : ℕ) → IsObject graph object → length cells ≡ length (object_at graph object).cells → i < length cells → it ≡ get_or cells i d
    → now ≡ cells_before graph object cells i → (let attr : AttrNo = record { 0 = i } in new ≡ with_cell now object attr it) → new ≡ cells_before graph object cells (i + 1)
cells_more graph now new object cells it d i made long less at so_far write =
    let old : Object = object_at graph object in
    let attr : AttrNo = record { 0 = i } in
    written_twice (λ (o : Object). cell_put o attr it) graph now new object (with_cells old (mixed cells old.cells i)) made so_far write
    ∙ ap (λ (xs : List Cell). with_object graph object (with_cells old xs)) (mixed_more cells old.cells it d i long less at)

pub cells_all : (graph now : Graph) (object : ObjId) (cells : List Cell) (i : ℕ) → length cells ≡ length (object_at graph object).cells → length cells ≤ i → now ≡ cells_before graph object cells i
    → now ≡ with_object graph object (with_cells (object_at graph object) cells)
cells_all graph now object cells i long ended so_far =
    so_far ∙ ap (λ (xs : List Cell). with_object graph object (with_cells (object_at graph object) xs)) (mixed_all cells (object_at graph object).cells i long ended)

-- as many cells are there on the way
pub cells_there : (graph now : Graph) (object : ObjId) (cells : List Cell) (i : ℕ) → IsObject graph object → length cells ≡ length (object_at graph object).cells → now ≡ cells_before graph object cells i → length (object_at now object).cells ≡ length cells
cells_there graph now object cells i made long so_far =
    let old : Object = object_at graph object in
    ap (λ (g : Graph). length (object_at g object).cells) so_far
    ∙ ap (λ (o : Object). length o.cells) (at_with graph object (with_cells old (mixed cells old.cells i)) made)
    ∙ mixed_long cells old.cells i long

-- ---- the links of an object

abbrev pub with_links : Object → List Link → Object
with_links object links = record object { links = links }

abbrev pub links_before : Graph → ObjId → List Link → ℕ → Graph
links_before graph object links place = with_object graph object (with_links (object_at graph object) (mixed links (object_at graph object).links place))

pub links_none : (graph : Graph) (object : ObjId) (links : List Link) → graph ≡ links_before graph object links 0
links_none graph object links = sym (with_same graph object)

pub links_more : (graph now new : Graph) (object : ObjId) (links : List Link) (it d : Link) (i : ℕ) → IsObject graph object → length links ≡ length (object_at graph object).links → i < length links → it ≡ get_or links i d
    → now ≡ links_before graph object links i → (let relation : RelNo = record { 0 = i } in new ≡ with_link now object relation it) → new ≡ links_before graph object links (i + 1)
links_more graph now new object links it d i made long less at so_far write =
    let old : Object = object_at graph object in
    written_twice (λ (o : Object). record o { links = slice_set o.links i it }) graph now new object (with_links old (mixed links old.links i)) made so_far write
    ∙ ap (λ (xs : List Link). with_object graph object (with_links old xs)) (mixed_more links old.links it d i long less at)

pub links_all : (graph now : Graph) (object : ObjId) (links : List Link) (i : ℕ) → length links ≡ length (object_at graph object).links → length links ≤ i → now ≡ links_before graph object links i
    → now ≡ with_object graph object (with_links (object_at graph object) links)
links_all graph now object links i long ended so_far =
    so_far ∙ ap (λ (xs : List Link). with_object graph object (with_links (object_at graph object) xs)) (mixed_all links (object_at graph object).links i long ended)

pub links_there : (graph now : Graph) (object : ObjId) (links : List Link) (i : ℕ) → IsObject graph object → length links ≡ length (object_at graph object).links → now ≡ links_before graph object links i → length (object_at now object).links ≡ length links
links_there graph now object links i made long so_far =
    let old : Object = object_at graph object in
    ap (λ (g : Graph). length (object_at g object).links) so_far
    ∙ ap (λ (o : Object). length o.links) (at_with graph object (with_links old (mixed links old.links i)) made)
    ∙ mixed_long links old.links i long

-- ---- an object's record

-- an object is one still, after a write
pub made_after : (graph new : Graph) (object : ObjId) (it : Object) → new ≡ with_object graph object it → IsObject graph object → IsObject new object
made_after graph new object it write made = (made.0, omega (arith, made.1, ap (λ (g : Graph). length g.objects) write ∙ length-set graph.objects (place_of object) it))

pub at_after : (graph new : Graph) (object : ObjId) (it : Object) → new ≡ with_object graph object it → IsObject graph object → object_at new object ≡ it
at_after graph new object it write made = ap (λ (g : Graph). object_at g object) write ∙ at_with graph object it made

-- all parts have been put in
pub record_whole : (a b c d e : Graph) (object : ObjId) (new : Object) → IsObject a object → new.class ≡ (object_at a object).class
    → b ≡ with_object a object (stood new.state new.identity (object_at a object))
    → c ≡ with_object b object (with_own_marks new.added new.marked new.orphan (object_at b object))
    → d ≡ with_object c object (with_cells (object_at c object) new.cells)
    → e ≡ with_object d object (with_links (object_at d object) new.links)
    → e ≡ with_object a object new
record_whole a b c d e object new made class one two three four =
    let first : Object = stood new.state new.identity (object_at a object) in
    let marks : Object → Object = with_own_marks new.added new.marked new.orphan in
    let second = written_twice marks a b c object first made one two in
    let third = written_twice (λ (o : Object). with_cells o new.cells) a c d object (marks first) made second three in
    let fourth = written_twice (λ (o : Object). with_links o new.links) a d e object (with_cells (marks first) new.cells) made third four in
    fourth ∙ ap (with_object a object) (whole new.state new.identity (object_at a object) class refl refl)
  where
    joined : (class : ClassId) (state : State) (identity : Option (List Value)) → new.class ≡ class → new.state ≡ state → new.identity ≡ identity → record new { class = class; state = state; identity = identity } ≡ new
    joined class state identity c s i =
        ap (λ (it : ClassId). record new { class = it; state = state; identity = identity }) (sym c)
        ∙ ap (λ (it : State). record new { state = it; identity = identity }) (sym s)
        ∙ ap (λ (it : Option (List Value)). record new { identity = it }) (sym i)

    whole : (state : State) (identity : Option (List Value)) (it : Object) → new.class ≡ it.class → new.state ≡ state → new.identity ≡ identity
        → with_links (with_cells (with_own_marks new.added new.marked new.orphan (stood state identity it)) new.cells) new.links ≡ new
    whole Transient identity it class state own = joined it.class Transient identity class state own
    whole Pending identity it class state own = joined it.class Pending identity class state own
    whole Persistent identity it class state own = joined it.class Persistent identity class state own
    whole Deleted identity it class state own = joined it.class Deleted identity class state own
    whole Detached identity it class state own = joined it.class Detached identity class state own

-- ---- all records

abbrev pub records_before : List (Option Object) → Graph → ℕ → Graph
records_before records graph place = graph_before (record_at records) graph place

-- an object whose record is still to come
pub record_left : (records : List (Option Object)) (graph now : Graph) (i : ℕ) → now ≡ records_before records graph i → object_at now (id_of_place i) ≡ get_or graph.objects i no_object
record_left records graph now i so_far =
    let place : i + 1 - 1 ≡ i = omega arith in
    ap (λ (g : Graph). object_at g (id_of_place i)) so_far
    ∙ ap (λ (p : ℕ). get_or (records_before records graph i).objects p no_object) place
    ∙ placed_left (record_at records) 0 graph.objects i i no_object (omega arith)

-- what it comes to be
pub record_taken : (records : List (Option Object)) (graph now : Graph) (i : ℕ) (record_there : Option Object) → i < length graph.objects → record_there ≡ get_or records i None → now ≡ records_before records graph i
    → unwrap_or record_there (object_at now (id_of_place i)) ≡ get_or (with_records graph records).objects i no_object
record_taken records graph now i record_there less at so_far =
    ap (λ (r : Option Object). unwrap_or r (object_at now (id_of_place i))) at
    ∙ ap (λ (o : Object). record_at records i o) (record_left records graph now i so_far)
    ∙ sym (each_at (record_at records) graph i no_object no_object less)

pub records_more : (records : List (Option Object)) (graph now new : Graph) (i : ℕ) (record_there : Option Object) → i < length graph.objects → record_there ≡ get_or records i None → now ≡ records_before records graph i
    → new ≡ with_object now (id_of_place i) (unwrap_or record_there (object_at now (id_of_place i))) → new ≡ records_before records graph (i + 1)
records_more records graph now new i record_there less at so_far write =
    placed_more (record_at records) graph now new i (i + 1) less so_far refl
    (write ∙ ap (λ (r : Option Object). with_object now (id_of_place i) (unwrap_or r (object_at now (id_of_place i)))) at)

pub records_long : (records : List (Option Object)) (graph now : Graph) (i : ℕ) → now ≡ records_before records graph i → length now.objects ≡ length graph.objects
records_long records graph now i so_far = ap (λ (g : Graph). length g.objects) so_far ∙ placed_long (record_at records) 0 graph.objects i

pub records_all : (records : List (Option Object)) (graph now : Graph) (i : ℕ) → length graph.objects ≤ i → now ≡ records_before records graph i → now ≡ with_records graph records
records_all records graph now i ended so_far = placed_all (record_at records) graph now i ended so_far

pub ruleset puts = (cells_none, cells_all, links_none, links_all, records_all)
