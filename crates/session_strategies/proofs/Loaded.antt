-- A load behind which nothing was left to flush leaves nothing to flush.
use Rattle.std.proofs.Common.{◌≡◌, ◌⊎◌, inl, inr, ℕ, zero, suc, ◌+◌, ◌<◌, ◌≤◌, nat_lt, Bool, true, false, List, [], ◌∷◌, ◌++◌, filter, get_or, length, map, Option, None, Some, Result, Ok, Err, if◌then◌else◌, refl, sym, ap, subst, ◌∙◌, arith, append-nil}
use Rattle.std.specs.Prelude.{slice_set}
use Rattle.std.specs.List.{AllByRecursion}
use Rattle.std.proofs.Math.Seq.{get_or-append_seam}
use Rattle.std.proofs.lemmas.Bool.{cases_lt}
use Rattle.std.proofs.lemmas.List.{get_or_append_left, length-append, length-set}
use Rattle.base_core.specs.declared.ids.AttrNo.{AttrNo}
use Rattle.base_core.specs.declared.ids.ClassId.{ClassId}
use Rattle.base_core.specs.declared.ids.ObjId.{ObjId}
use Rattle.base_core.specs.declared.ids.RelNo.{RelNo}
use Rattle.base_core.specs.declared.refusal.LimitKind.TheVariants.{Objects}
use Rattle.base_core.specs.declared.refusal.Refusal.{Refusal}
use Rattle.base_core.specs.declared.refusal.Refusal.TheVariants.{LimitReached}
use Rattle.base_core.specs.declared.value.Value.{Value}
use Rattle.schema_core.specs.Tables.{Tables}
use Rattle.class_types.specs.declared.mapped.Attribute.{Attribute}
use Rattle.class_types.specs.declared.mapped.Relation.{Relation}
use Rattle.class_mapping.specs.Mapped.{Mapped, attributes_of, relations_of, root_of}
use Rattle.mapping_laws.specs.Hierarchies.{HasHierarchies}
use Rattle.table_laws.specs.Legality.{AreSound}
use Rattle.object_arena.specs.declared.object.Cell.{Cell}
use Rattle.object_arena.specs.declared.object.Link.{Link}
use Rattle.object_arena.specs.declared.object.Link.TheVariants.{Unset, Unloaded, One, Many}
use Rattle.object_arena.specs.declared.object.Object.{Object}
use Rattle.object_arena.specs.Graph.{Graph, cell_in, expired_cell, is_persistent, no_object, object_at, object_limit, place_of, with_object}
use Rattle.object_arena.specs.Identity.{find_identity}
use Rattle.object_parts.specs.Members.{is_apart, linked, without}
use Rattle.load_filling.specs.Filled.{filled_object, with_filled}
use Rattle.load_filling.specs.Loaded.{load, loaded_object, with_loaded}
use Rattle.load_filling.specs.Rows.{class_named, found_or_loaded, loaded_as, row_key, row_object}
use Rattle.load_rows.specs.Loading.{Loading, filled, found_in_row, take_row, taken_as}
use Rattle.load_rows.specs.Links as links
use Rattle.load_rows.specs.Links.{collection_filled, collection_of, end_filled, end_of, in_key_order, link_at}
use Rattle.loading_laws.proofs.Strategies.Standing.{set_related}
use Rattle.load_steps.specs.Based.{AreReadOfTables, IsRowOfTables}
use Rattle.load_steps.specs.Loads.{CanLoad, IsLoadStage, Load}
use Rattle.load_steps.specs.Steps.{AreLoadSteps}
use Rattle.load_steps.proofs.Loads.{load_leaves, rows_of_tables}
use Rattle.prepared_objects.specs.Leaving.{starts_deletes}
use Rattle.ranked_rows.specs.Laws.{MainSelectsAnswerTableRows, OwnSelectsAnswerTableRows, SelectsAnswerTableRows}
use Rattle.session_calls.specs.Parts.{World}
use Rattle.load_steps.specs.Loaded.{IsReadCell}
use Rattle.session_laws.specs.Loads.{IsLoadOf, IsReadFrom, loading_of, row_value}
use Rattle.session_laws.specs.Sound.{EachObject, IsSettled}
use Rattle.session_laws.specs.Whole.{IsHale}
use Rattle.session_laws.proofs.OwnRows.Standing.{hierarchies}
use Rattle.session_load_laws.specs.Loads.{LoadsLeaveLoaded, MayLoad, loaded_by}
use Rattle.session_strategies.specs.Unwritten.{IsAsFlushed, NothingIsLeft}
use Rattle.session_strategies.proofs.Kept.{IsKeptCell, IsKeptLink}

-- the links of an object that is persistent are as a flush keeps them
abbrev pub KeepsLinks : Object → Type 0
KeepsLinks it = is_persistent it.state ≡ true → AllByRecursion IsKeptLink it.links

abbrev pub AllKeepLinks : Graph → Type 0
AllKeepLinks graph = EachObject KeepsLinks graph

-- ---- one link

all_stay : (read : List ObjId) → filter (is_apart []) read ≡ read
all_stay [] = refl
all_stay (object ∷ read) = ap (λ (os : List ObjId). object ∷ os) (all_stay read)

linked_same : (read : List ObjId) → linked [] [] read ≡ read
linked_same read = append-nil (without [] read) ∙ all_stay read

adds_none : (added removed : List ObjId) → IsKeptLink (Unloaded added removed) → [] ≡ added
adds_none added removed kept = cc

removes_none : (added removed : List ObjId) → IsKeptLink (Unloaded added removed) → [] ≡ removed
removes_none added removed kept = cc

collection_kept : (read : List ObjId) (old now : Link) → IsKeptLink old → collection_of read old ≡ Some now → IsKeptLink now
collection_kept read Unset now kept is = absurd cc
collection_kept read (Unloaded added removed) now kept is =
    let same : Many (linked added removed read) read ≡ now = cc in
    subst IsKeptLink same
    (subst (λ (a : List ObjId). IsKeptLink (Many (linked a removed read) read)) (adds_none added removed kept)
    (subst (λ (r : List ObjId). IsKeptLink (Many (linked [] r read) read)) (removes_none added removed kept) (ap (λ (members : List ObjId). Many (linked [] [] read) members) (linked_same read))))
collection_kept read (One end changed) now kept is = absurd cc
collection_kept read (Many members base) now kept is = absurd cc

end_kept : (end : Option ObjId) (old now : Link) → end_of end old ≡ Some now → IsKeptLink now
end_kept end Unset now is = absurd cc
end_kept end (Unloaded added removed) now is = let same : One end false ≡ now = cc in subst IsKeptLink same refl
end_kept end (One other changed) now is = absurd cc
end_kept end (Many members base) now is = absurd cc

link_there : (all : List Link) (n : ℕ) → AllByRecursion IsKeptLink all → (get_or all n Unset ≡ Unset) ⊎ IsKeptLink (get_or all n Unset)
link_there [] n kept = inl refl
link_there (link ∷ all) zero kept = inr kept.0
link_there (link ∷ all) (suc n) kept = link_there all n kept.1

put_kept : (all : List Link) (n : ℕ) (now : Link) → AllByRecursion IsKeptLink all → IsKeptLink now → AllByRecursion IsKeptLink (slice_set all n now)
put_kept [] n now kept is = tt
put_kept (link ∷ all) zero now kept is = (is, kept.1)
put_kept (link ∷ all) (suc n) now kept is = (kept.0, put_kept all n now kept.1 is)

-- ---- all objects

put_links : (graph : Graph) (object : ObjId) (new : Object) → AllKeepLinks graph → (KeepsLinks (object_at graph object) → KeepsLinks new) → AllKeepLinks (with_object graph object new)
put_links graph object new is keeps = λ place less.
    set_related (λ (x y : Object). KeepsLinks x → KeepsLinks y) graph.objects (place_of object) place new no_object (λ x f. f) keeps (is place (subst (λ (n : ℕ). place < n) (length-set graph.objects (place_of object) new) less))

unloaded_all : (relations : List Relation) → AllByRecursion IsKeptLink (map (λ (relation : Relation). Unloaded [] []) relations)
unloaded_all [] = tt
unloaded_all (relation ∷ relations) = (refl, unloaded_all relations)

module _ (mapped : Mapped) where
  made_links : (graph : Graph) (named : ClassId) (key : List Value) → AllKeepLinks graph → AllKeepLinks (with_loaded mapped named key graph)
  made_links graph named key is = λ place less. by place (cases_lt place (length graph.objects)) (let long : length (graph.objects ++ loaded_object mapped named key ∷ []) ≡ length graph.objects + 1 = length-append graph.objects (loaded_object mapped named key ∷ []) in omega (arith, less, long))
    where
      new : Object
      new = loaded_object mapped named key

      by : (place : ℕ) → (place < length graph.objects) ⊎ (length graph.objects ≤ place) → place ≤ length graph.objects → KeepsLinks (get_or (graph.objects ++ new ∷ []) place no_object)
      by place (inl before) within = subst KeepsLinks (sym (get_or_append_left graph.objects (new ∷ []) no_object place before)) (is place before)
      by place (inr behind) within =
          let last : place ≡ length graph.objects = omega (arith, behind, within) in
          subst KeepsLinks (sym (ap (λ (n : ℕ). get_or (graph.objects ++ new ∷ []) n no_object) last ∙ get_or-append_seam graph.objects new [] no_object)) (λ persistent. unloaded_all (relations_of mapped named))

  link_loaded : (owner : ObjId) (place : RelNo) (link : Option Link) (own : Loading) → ((now : Link) → link ≡ Some now → KeepsLinks (object_at own.graph owner) → is_persistent (object_at own.graph owner).state ≡ true → IsKeptLink now) → AllKeepLinks own.graph
      → AllKeepLinks (links.with_loaded owner place link own).graph
  link_loaded owner place None own keeps is = is
  link_loaded owner place (Some now) own keeps is =
      put_links own.graph owner (record (object_at own.graph owner) { links = slice_set (object_at own.graph owner).links place.0 now }) is
      (λ kept persistent. put_kept (object_at own.graph owner).links place.0 now (kept persistent) (keeps now refl kept persistent))

  module _ (class : ClassId) (row : List Value) (own : Loading) (is : AllKeepLinks own.graph) where
    same_pair : (x y : ObjId × Graph) → ◌≡◌ {A = Result (ObjId × Graph) Refusal} (Ok x) (Ok y) → x ≡ y
    same_pair x y e = cc

    loaded_links : (named : ClassId) (found : ObjId × Graph) (b : Bool)
        → ◌≡◌ {A = Result (ObjId × Graph) Refusal} (if b then Ok (record { 0 = length own.graph.objects + 1 }, with_loaded mapped named (row_key mapped class row) own.graph) else Err (LimitReached Objects)) (Ok found)
        → AllKeepLinks found.1
    loaded_links named found false e = absurd cc
    loaded_links named found true e =
        subst (λ (one : ObjId × Graph). AllKeepLinks one.1) (same_pair (record { 0 = length own.graph.objects + 1 }, with_loaded mapped named (row_key mapped class row) own.graph) found e) (made_links own.graph named (row_key mapped class row) is)

    named_links : (named : Option ClassId) (found : ObjId × Graph) → loaded_as mapped (row_key mapped class row) own.graph named ≡ Ok found → AllKeepLinks found.1
    unfolding load
    named_links None found e = absurd cc
    named_links (Some named) found e = loaded_links named found (nat_lt (length own.graph.objects) object_limit) e

    holder_links : (holder : Option ObjId) (found : ObjId × Graph) → found_or_loaded mapped class row own.graph holder ≡ Ok found → AllKeepLinks found.1
    holder_links None found e = named_links (class_named mapped class row) found e
    holder_links (Some object) found e = subst (λ (one : ObjId × Graph). AllKeepLinks one.1) (same_pair (object, own.graph) found e) is

    taken_links : (r : Result (ObjId × Graph) Refusal) → row_object mapped class row own.graph ≡ r → AllKeepLinks (taken_as mapped class row own r).after.graph
    unfolding filled with_filled row_object
    taken_links (Err e) made = is
    taken_links (Ok found) made =
        let one : Object = object_at found.1 found.0 in
        put_links found.1 found.0 (filled_object (found_in_row mapped class row one.class) one) (holder_links (find_identity own.graph (root_of mapped class) (row_key mapped class row)) found made) (λ kept. kept)

    row_links : AllKeepLinks (take_row mapped class row own).after.graph
    unfolding take_row
    row_links = taken_links (row_object mapped class row own.graph) refl

-- each step of a load keeps them so
pub link_steps : (mapped : Mapped) (IsRow : ClassId → List Value → Type 0) (IsCells : ClassId → List AttrNo → List Value → List Value → Type 0) → AreLoadSteps mapped IsRow IsCells (λ own. AllKeepLinks own.graph)
unfolding collection_filled end_filled filled with_filled
link_steps mapped IsRow IsCells = record {
  noted = λ statement own is. is;
  taken = λ class row own declared of arena is. row_links mapped class row own is;
  filled = λ root object attrs row own found cells arena is. put_links own.graph object (filled_object _ (object_at own.graph object)) is (λ kept. kept);
  members = λ relation place owner members own related many child found arena is.
      let base : List ObjId = in_key_order own.graph members in
      let old : Link = link_at own.graph owner place in
      link_loaded mapped owner place (collection_of base old) own (λ now e kept persistent. by base old now e (link_there (object_at own.graph owner).links place.0 (kept persistent))) is;
  ended = λ relation place owner end own related single child found arena is.
      link_loaded mapped owner place (end_of end (link_at own.graph owner place)) own (λ now e kept persistent. end_kept end (link_at own.graph owner place) now e) is;
}
  where
    by : (base : List ObjId) (old now : Link) → collection_of base old ≡ Some now → (old ≡ Unset) ⊎ IsKeptLink old → IsKeptLink now
    by base old now e (inl unset) = absurd (let never = sym (ap (collection_of base) unset) ∙ e in cc)
    by base old now e (inr kept) = collection_kept base old now kept e

-- ---- cells

one_cell : (found : Option Value) (was now : Cell) → IsReadCell found was now → IsKeptCell was → IsKeptCell now
one_cell found was now (inl same) kept = subst IsKeptCell (sym same) kept
one_cell found was now (inr filled) kept = subst IsKeptCell (sym filled.even) refl

each_at : (cells : List Cell) → ((n : ℕ) → n < length cells → IsKeptCell (get_or cells n expired_cell)) → AllByRecursion IsKeptCell cells
each_at [] each = tt
each_at (cell ∷ cells) each = (each 0 (omega arith), each_at cells (λ n less. each (suc n) (omega (arith, less))))

cell_at : (cells : List Cell) (n : ℕ) → AllByRecursion IsKeptCell cells → IsKeptCell (get_or cells n expired_cell)
cell_at [] n kept = refl
cell_at (cell ∷ cells) zero kept = kept.0
cell_at (cell ∷ cells) (suc n) kept = cell_at cells n kept.1

expired_all : (attributes : List Attribute) → AllByRecursion IsKeptCell (map (λ (attribute : Attribute). expired_cell) attributes)
expired_all [] = tt
expired_all (attribute ∷ attributes) = (refl, expired_all attributes)

-- ---- a session

module _ (selects : SelectsAnswerTableRows) (owns : OwnSelectsAnswerTableRows) (mains : MainSelectsAnswerTableRows) (leaves : LoadsLeaveLoaded) (world : World) (hale : IsHale world) where
  abbrev mapped : Mapped
  mapped = world.own.mapping

  abbrev tables : Tables
  tables = world.store.tables

  has : HasHierarchies mapped
  has = hierarchies mapped hale.keyed.well

  legal : AreSound mapped.schema tables
  legal = record { legal = hale.healthy.sound.legal; ascending = hale.healthy.tidy.ascending.tables }

  stage : IsLoadStage mapped (IsRowOfTables mapped tables) (AreReadOfTables mapped tables) (loading_of world)
  stage = record { has = has; related = hale.keyed.well.related; arena = record { fit = hale.keyed.fit; graph = hale.healthy.sound.graph }; answers = selects mapped tables has legal }

  can : (load : Load) → MayLoad load world → CanLoad mapped (IsRowOfTables mapped tables) (AreReadOfTables mapped tables) (loading_of world) load
  can (Load.Cells object) may = may
  can (Load.Rows object attrs) may = may
  can (Load.Taken object attrs rows) may = may
  can (Load.Link object place) may = may
  can (Load.Key class key) may = may
  can (Load.Links class objects places) may = may
  can (Load.Objects query) may = (may.0.class, may.1, owns mapped tables query has legal may.0)
  can (Load.Query query) may = (may.0.own.class, may.1, may.2, mains mapped tables query has hale.keyed.well.related legal may.0)

  -- what was read of an object of which nothing was left leaves nothing
  object_left : (was now : Object) → IsReadFrom mapped tables was now → IsSettled was → starts_deletes was ≡ false → (is_persistent was.state ≡ true → AllByRecursion IsKeptCell was.cells) → KeepsLinks now → IsAsFlushed now
  object_left was now read settled stays cells kept =
      let state : now.state ≡ was.state = ap (λ (o : Object). o.state) read.rest in
      record {
        settled = record { settled = λ pending. settled.settled (sym state ∙ pending); unmarked = ap (λ (o : Object). o.marked) read.rest ∙ settled.unmarked };
        stays = ap starts_deletes read.rest ∙ stays;
        cells = λ persistent.
            let before : AllByRecursion IsKeptCell was.cells = cells (sym (ap is_persistent state) ∙ persistent) in
            each_at now.cells
            (λ n less.
            let attr : AttrNo = record { 0 = n } in
            one_cell (row_value mapped tables now attr) (cell_in was attr) (cell_in now attr) (read.cells attr less) (cell_at was.cells n before));
        links = kept;
      }

  pub load_left : (load : Load) → MayLoad load world → NothingIsLeft world.own.graph → NothingIsLeft (loaded_by load world).own.graph
  load_left load may nothing = λ place less. by place less (cases_lt place (length world.own.graph.objects))
    where
      now : Graph
      now = (loaded_by load world).own.graph

      of : IsLoadOf world (loaded_by load world).own
      of = (leaves load world may hale).0

      kept : AllKeepLinks now
      kept =
          (load_leaves (rows_of_tables mapped tables has) (link_steps mapped (IsRowOfTables mapped tables) (AreReadOfTables mapped tables)) (loading_of world) stage (λ place less. (nothing place less).links) load (can load may)).holds.is

      by : (place : ℕ) → place < length now.objects → (place < length world.own.graph.objects) ⊎ (length world.own.graph.objects ≤ place) → IsAsFlushed (get_or now.objects place no_object)
      by place less (inl before) =
          object_left (get_or world.own.graph.objects place no_object) (get_or now.objects place no_object) (of.read place before) (nothing place before).settled (nothing place before).stays (nothing place before).cells (kept place less)
      by place less (inr behind) =
          let made = of.made place behind less in
          let it : Object = get_or now.objects place no_object in
          object_left (loaded_object mapped it.class made.0) it made.1 (record { settled = λ pending. absurd cc; unmarked = refl }) refl (λ persistent. expired_all (attributes_of mapped it.class)) (kept place less)
