-- Of each object a load reads at most expired cells and unloaded links.
use Rattle.std.proofs.Common.{◌≡◌, ◌⊎◌, inl, inr, ℕ, zero, suc, ◌+◌, ◌-◌, ◌<◌, ◌≤◌, ◌==◌, nat_lt, ◌&&◌, Bool, true, false, List, [], ◌∷◌, ◌++◌, get_or, length, map, Option, None, Some, Result, Ok, Err, if◌then◌else◌, is_none, refl, sym, ap, subst, ◌∙◌, arith}
use Rattle.std.specs.Prelude.{slice_index_or, slice_set, unwrap_or}
use Rattle.std.specs.List.{enumerate_from}
use Rattle.std.specs.Option.{option_and_then}
use Rattle.std.proofs.Math.Seq.{get_or-append_seam, map-set_same}
use Rattle.std.proofs.lemmas.Bool.{and_parts, cases_lt, eqb-false, eqb-true}
use Rattle.std.proofs.lemmas.List.{get_or-set_other, get_or_append_left, length-append, length-map, length-set}
use Rattle.base_core.specs.declared.ids.AttrNo.{AttrNo}
use Rattle.base_core.specs.declared.ids.ClassId.{ClassId}
use Rattle.base_core.specs.declared.ids.ObjId.{ObjId}
use Rattle.base_core.specs.declared.ids.RelNo.{RelNo}
use Rattle.base_core.specs.declared.refusal.LimitKind.TheVariants.{Objects}
use Rattle.base_core.specs.declared.refusal.Refusal.{Refusal}
use Rattle.base_core.specs.declared.refusal.Refusal.TheVariants.{LimitReached}
use Rattle.base_core.specs.declared.value.Value.{Value}
use Rattle.schema_core.specs.Tables as held
use Rattle.class_mapping.specs.Mapped.{Mapped, attribute_of, attributes_of, root_of}
use Rattle.mapping_laws.specs.Hierarchies.{HasHierarchies}
use Rattle.object_arena.specs.declared.object.Cell.{Cell}
use Rattle.object_arena.specs.declared.object.Link.{Link}
use Rattle.object_arena.specs.declared.object.Link.TheVariants.{Unset}
use Rattle.object_arena.specs.declared.object.Object.{Object}
use Rattle.object_arena.specs.Every.{classes_of}
use Rattle.object_arena.specs.Graph.{Graph, cell_in, expired_cell, no_object, is_persistent, object_at, object_limit, place_of, root_at, with_object}
use Rattle.object_arena.specs.Identity.{find_identity, has_key}
use Rattle.object_parts.specs.Links.{is_unloaded}
use Rattle.load_filling.specs.Filled.{Found, cell_read, filled_cell, filled_object, value_found, with_filled}
use Rattle.load_filling.specs.Growing.{Grows}
use Rattle.load_filling.specs.Loaded.{load, loaded_object, with_loaded}
use Rattle.load_filling.specs.Rows.{class_named, found_or_loaded, loaded_as, row_key, row_object}
use Rattle.load_filling.proofs.LoadedLemmas.{grows_loaded, grows_same}
use Rattle.load_rows.specs.Loading.{Loading, filled, found_in_row, take_row, taken_as, value_for}
use Rattle.load_rows.specs.Reading.{identity_key}
use Rattle.load_rows.specs.Links.{collection_filled, collection_of, end_filled, end_of, in_key_order, link_at, link_in}
use Rattle.load_rows.specs.Links as links
use Rattle.load_rows.proofs.TakenLemmas.{grows_filled}
use Rattle.load_calls.specs.Refreshing.{found_among, found_at}
use Rattle.load_calls.proofs.RowsLemmas.{grows_then}
use Rattle.loading_laws.proofs.Loaders.Frames.{collection_waits, end_waits}
use Rattle.loading_laws.specs.Strategies.Standing.{Stands}
use Rattle.loading_laws.proofs.Strategies.KeyOrder.{key_of_stand}
use Rattle.loading_laws.proofs.Strategies.Standing.{row_object_taken, set_related}
use Rattle.load_steps.specs.Based.{AreCellsOfTables, IsOfTables, held_under}
use Rattle.load_steps.specs.Loaded.{AreReadFrom, IsMadeFrom, IsReadCell, IsReadFrom, IsReadLink, object_in, row_value}
use Rattle.load_steps.specs.Steps.{AreLoadSteps, IsFound}
use Rattle.load_steps.proofs.Based.{among_value, found_value}

-- there are as many objects, or more
pub grown_long : (old new : Graph) → Grows old new → length old.objects ≤ length new.objects
unfolding classes_of
grown_long old new grows =
    let f : Object → ClassId = λ object. object.class in
    let more : length (map f new.objects) ≡ length (map f old.objects) + length grows.classes = ap (λ (classes : List ClassId). length classes) grows.longer ∙ length-append (map f old.objects) grows.classes in
    let one : length (map f new.objects) ≡ length new.objects = length-map new.objects f in
    let two : length (map f old.objects) ≡ length old.objects = length-map old.objects f in
    omega (arith, more, one, two)

module _ (mapped : Mapped) (tables : held.Tables) where
  -- ---- one object

  -- what stands under an object's key, where it has one, is its row's
  identified : {A : Type 0} (f : List Value → Option A) (wanted : List Value) (identity : Option (List Value)) (value : A) → has_key wanted identity ≡ true → f (unwrap_or identity []) ≡ Some value → option_and_then f identity ≡ Some value
  identified f wanted None value is e = absurd cc
  identified f wanted (Some own) value is e = e

  row_there : (root : ClassId) (graph : Graph) (key : List Value) (object : ObjId) (attr : AttrNo) (value : Value) → Stands root graph key object
      → held_under tables (attribute_of mapped (object_at graph object).class attr) (identity_key graph object) ≡ Some value → row_value mapped tables (object_at graph object) attr ≡ Some value
  row_there root graph key object attr value stands e =
      let own = object_at graph object in
      let rest = (and_parts (is_persistent own.state) ((root_at graph object).0 == root.0 && has_key key own.identity) stands.1).1 in
      identified (held_under tables (attribute_of mapped own.class attr)) key own.identity value (and_parts ((root_at graph object).0 == root.0) (has_key key own.identity) rest).1 e

  read_same : (object : Object) → IsReadFrom mapped tables object object
  read_same object = record { rest = refl; long = refl; linked = refl; cells = λ attr within. inl refl; links = λ place. inl refl }

  -- a cell that is read, and then once more
  pub cell_then : (found : Option Value) (was mid now : Cell) → IsReadCell found was mid → IsReadCell found mid now → IsReadCell found was now
  cell_then found was mid now first (inl same) = subst (IsReadCell found was) (sym same) first
  cell_then found was mid now (inl same) (inr filled) = inr (record { held = filled.held; is = filled.is; expired = sym (ap (λ (cell : Cell). cell.value) same) ∙ filled.expired; even = filled.even })
  cell_then found was mid now (inr first) (inr filled) = absurd (let never = sym (ap (λ (cell : Cell). cell.value) first.even) ∙ filled.expired in cc)

  pub link_then : (was mid now : Link) → IsReadLink was mid → IsReadLink mid now → IsReadLink was now
  link_then was mid now (inr unloaded) second = inr unloaded
  link_then was mid now (inl same) (inl still) = inl (still ∙ same)
  link_then was mid now (inl same) (inr unloaded) = inr (sym (ap is_unloaded same) ∙ unloaded)

  read_then : (was mid now : Object) → IsReadFrom mapped tables was mid → IsReadFrom mapped tables mid now → IsReadFrom mapped tables was now
  read_then was mid now p q = record {
    rest = q.rest ∙ ap (λ (o : Object). record o { cells = now.cells; links = now.links }) p.rest;
    long = q.long ∙ p.long;
    linked = q.linked ∙ p.linked;
    cells = λ attr within.
        let found : row_value mapped tables now attr ≡ row_value mapped tables mid attr = ap (λ (o : Object). row_value mapped tables o attr) q.rest in
        let first = p.cells attr (subst (λ (n : ℕ). attr.0 < n) q.long within) in
        cell_then (row_value mapped tables now attr) (cell_in was attr) (cell_in mid attr) (cell_in now attr) (subst (λ (v : Option Value). IsReadCell v (cell_in was attr) (cell_in mid attr)) (sym found) first) (q.cells attr within);
    links = λ place. link_then (link_in was.links place) (link_in mid.links place) (link_in now.links place) (p.links place) (q.links place);
  }

  -- ---- cells that are filled

  filled_long : (found : Found) (k : ℕ) (cells : List Cell) → length (map (filled_cell found) (enumerate_from k cells)) ≡ length cells
  filled_long found k [] = refl
  filled_long found k (cell ∷ cells) = ap suc (filled_long found (k + 1) cells)

  filled_at : (found : Found) (k n : ℕ) (cells : List Cell) → n < length cells → get_or (map (filled_cell found) (enumerate_from k cells)) n expired_cell ≡ filled_cell found (k + n, get_or cells n expired_cell)
  filled_at found k n [] less = absurd (omega (arith, less))
  filled_at found k zero (cell ∷ cells) less = let place : k ≡ k + 0 = omega arith in ap (λ (p : ℕ). filled_cell found (p, cell)) place
  filled_at found k (suc n) (cell ∷ cells) less =
      let place : k + 1 + n ≡ k + suc n = omega arith in filled_at found (k + 1) n cells (omega (arith, less)) ∙ ap (λ (p : ℕ). filled_cell found (p, get_or cells n expired_cell)) place

  cell_filled : (wanted new : Option Value) (cell : Cell) → ((value : Value) → new ≡ Some value → wanted ≡ Some value) → IsReadCell wanted cell (if is_none cell.value then cell_read cell new else cell)
  cell_filled wanted new cell fills = by cell.value refl new fills
    where
      by : (was : Option Value) → cell.value ≡ was → (some : Option Value) → ((value : Value) → some ≡ Some value → wanted ≡ Some value) → IsReadCell wanted cell (if is_none was then cell_read cell some else cell)
      by (Some value) is some found = inl refl
      by None is None found = inl refl
      by None is (Some value) found = inr (record { held = value; is = found value refl; expired = is; even = refl })

  filled_read : (object : Object) (found : Found) → ((attr : AttrNo) (value : Value) → value_found found attr.0 ≡ Some value → row_value mapped tables object attr ≡ Some value) → IsReadFrom mapped tables object (filled_object found object)
  filled_read object found fills = record {
    rest = refl;
    long = filled_long found 0 object.cells;
    linked = refl;
    cells = λ attr within.
        let inside : attr.0 < length object.cells = subst (λ (n : ℕ). attr.0 < n) (filled_long found 0 object.cells) within in
        let first : 0 + attr.0 ≡ attr.0 = omega arith in
        let here : cell_in (filled_object found object) attr ≡ filled_cell found (attr.0, cell_in object attr) = filled_at found 0 attr.0 object.cells inside ∙ ap (λ (p : ℕ). filled_cell found (p, cell_in object attr)) first in
        subst (IsReadCell (row_value mapped tables object attr) (cell_in object attr)) (sym here) (cell_filled (row_value mapped tables object attr) (value_found found attr.0) (cell_in object attr) (fills attr));
    links = λ place. inl refl;
  }

  -- ---- a link that is loaded

  link_read : (object : Object) (place : RelNo) (link : Link) → is_unloaded (link_in object.links place) ≡ true → IsReadFrom mapped tables object (record object { links = slice_set object.links place.0 link })
  link_read object place link unloaded = record {
    rest = refl;
    long = refl;
    linked = length-set object.links place.0 link;
    cells = λ attr within. inl refl;
    links = λ other. by other (other.0 == place.0) refl;
  }
    where
      by : (other : RelNo) (b : Bool) → (other.0 == place.0) ≡ b → IsReadLink (link_in object.links other) (link_in (slice_set object.links place.0 link) other)
      by other true same = inr (ap (λ (n : ℕ). is_unloaded (slice_index_or object.links n Unset)) (eqb-true other.0 place.0 same) ∙ unloaded)
      by other false apart = inl (get_or-set_other object.links place.0 other.0 link Unset (λ e. eqb-false other.0 place.0 apart (omega (arith, e))))

  -- ---- all objects

  module _ (start : Graph) where
    put_read : (graph : Graph) (object : ObjId) (new : Object) → AreReadFrom mapped tables start graph → IsReadFrom mapped tables (object_at graph object) new → AreReadFrom mapped tables start (with_object graph object new)
    unfolding classes_of
    put_read graph object new is read =
        let long : length (slice_set graph.objects (place_of object) new) ≡ length graph.objects = length-set graph.objects (place_of object) new in
        let same : new.class ≡ (object_at graph object).class = ap (λ (o : Object). o.class) read.rest in
        record {
          grows =
              grows_filled start graph (with_object graph object new) is.grows
              (ap (λ (classes : List ClassId). (classes, graph.roots)) (map-set_same (λ (o : Object). o.class) graph.objects (place_of object) new no_object same));
          read = λ place less.
              let was : Object = object_in start place in
              set_related (λ (x y : Object). IsReadFrom mapped tables was x → IsReadFrom mapped tables was y) graph.objects (place_of object) place new no_object (λ x f. f) (λ f. read_then was (object_at graph object) new f read) (is.read place less);
          made = λ place past less.
              set_related (λ (x y : Object). IsMadeFrom mapped tables x → IsMadeFrom mapped tables y) graph.objects (place_of object) place new no_object (λ x f. f) made_then (is.made place past (subst (λ (n : ℕ). place < n) long less));
        }
      where
        made_then : IsMadeFrom mapped tables (object_at graph object) → IsMadeFrom mapped tables new
        made_then f =
            let same : (object_at graph object).class ≡ new.class = sym (ap (λ (o : Object). o.class) read.rest) in
            record {
              key = f.key;
              read = subst (λ (class : ClassId). IsReadFrom mapped tables (loaded_object mapped class f.key) new) same (read_then (loaded_object mapped (object_at graph object).class f.key) (object_at graph object) new f.read read);
            }

    made_read : (graph : Graph) (named : ClassId) (key : List Value) → AreReadFrom mapped tables start graph → AreReadFrom mapped tables start (with_loaded mapped named key graph)
    made_read graph named key is =
        let longer = grown_long start graph is.grows in
        let new : Object = loaded_object mapped named key in
        let long : length (graph.objects ++ new ∷ []) ≡ length graph.objects + 1 = length-append graph.objects (new ∷ []) in
        record {
          grows = grows_then start graph (with_loaded mapped named key graph) is.grows (grows_loaded mapped named key graph (with_loaded mapped named key graph) refl);
          read = λ place less.
              subst (IsReadFrom mapped tables (object_in start place)) (sym (get_or_append_left graph.objects (new ∷ []) no_object place (omega (arith, less, longer)))) (is.read place less);
          made = λ place past less. by place past (cases_lt place (length graph.objects)) (omega (arith, less, long));
        }
      where
        by : (place : ℕ) → length start.objects ≤ place → (place < length graph.objects) ⊎ (length graph.objects ≤ place) → place ≤ length graph.objects → IsMadeFrom mapped tables (object_in (with_loaded mapped named key graph) place)
        by place past (inl before) within =
            subst (IsMadeFrom mapped tables) (sym (get_or_append_left graph.objects (loaded_object mapped named key ∷ []) no_object place before)) (is.made place past before)
        by place past (inr behind) within =
            let last : place ≡ length graph.objects = omega (arith, behind, within) in
            let new : Object = loaded_object mapped named key in
            let there : get_or (graph.objects ++ new ∷ []) place no_object ≡ new = ap (λ (n : ℕ). get_or (graph.objects ++ new ∷ []) n no_object) last ∙ get_or-append_seam graph.objects new [] no_object in
            subst (IsMadeFrom mapped tables) (sym there) (record { key = key; read = read_same new })

    link_loaded : (owner : ObjId) (place : RelNo) (link : Option Link) (own : Loading) → ((now : Link) → link ≡ Some now → is_unloaded (link_at own.graph owner place) ≡ true) → AreReadFrom mapped tables start own.graph
        → AreReadFrom mapped tables start (links.with_loaded owner place link own).graph
    link_loaded owner place None own waits is = is
    link_loaded owner place (Some link) own waits is =
        put_read own.graph owner (record (object_at own.graph owner) { links = slice_set (object_at own.graph owner).links place.0 link }) is (link_read (object_at own.graph owner) place link (waits link refl))

    -- ---- rows

    module _ (class : ClassId) (row : List Value) (of : IsOfTables mapped tables class row) (has : HasHierarchies mapped) (own : Loading) (rooted : length own.graph.roots ≡ length own.graph.objects)
        (is : AreReadFrom mapped tables start own.graph) where
      same_pair : (x y : ObjId × Graph) → ◌≡◌ {A = Result (ObjId × Graph) Refusal} (Ok x) (Ok y) → x ≡ y
      same_pair x y e = cc

      loaded_read : (named : ClassId) (found : ObjId × Graph) (b : Bool)
          → ◌≡◌ {A = Result (ObjId × Graph) Refusal} (if b then Ok (record { 0 = length own.graph.objects + 1 }, with_loaded mapped named (row_key mapped class row) own.graph) else Err (LimitReached Objects)) (Ok found)
          → AreReadFrom mapped tables start found.1
      loaded_read named found false e = absurd cc
      loaded_read named found true e =
          subst (λ (one : ObjId × Graph). AreReadFrom mapped tables start one.1) (same_pair (record { 0 = length own.graph.objects + 1 }, with_loaded mapped named (row_key mapped class row) own.graph) found e)
          (made_read own.graph named (row_key mapped class row) is)

      named_read : (named : Option ClassId) (found : ObjId × Graph) → loaded_as mapped (row_key mapped class row) own.graph named ≡ Ok found → AreReadFrom mapped tables start found.1
      unfolding load
      named_read None found e = absurd cc
      named_read (Some named) found e = loaded_read named found (nat_lt (length own.graph.objects) object_limit) e

      holder_read : (holder : Option ObjId) (found : ObjId × Graph) → found_or_loaded mapped class row own.graph holder ≡ Ok found → AreReadFrom mapped tables start found.1
      holder_read None found e = named_read (class_named mapped class row) found e
      holder_read (Some object) found e = subst (λ (one : ObjId × Graph). AreReadFrom mapped tables start one.1) (same_pair (object, own.graph) found e) is

      taken_read : (r : Result (ObjId × Graph) Refusal) → row_object mapped class row own.graph ≡ r → AreReadFrom mapped tables start (taken_as mapped class row own r).after.graph
      unfolding filled with_filled row_object
      taken_read (Err e) made = is
      taken_read (Ok found) made =
          let one : Object = object_at found.1 found.0 in
          let values : Found = found_in_row mapped class row one.class in
          let stands = (row_object_taken mapped class row own.graph has.paired rooted found made).stands in
          let key : identity_key found.1 found.0 ≡ row_key mapped class row = key_of_stand (root_of mapped class) found.1 (row_key mapped class row) found.0 stands in
          put_read found.1 found.0 (filled_object values one) (holder_read (find_identity own.graph (root_of mapped class) (row_key mapped class row)) found made)
          (filled_read one values
          (λ attr value e.
          row_there (root_of mapped class) found.1 (row_key mapped class row) found.0 attr value stands
          (ap (held_under tables (attribute_of mapped one.class attr)) key ∙ of (attribute_of mapped one.class attr) value (found_value (value_for mapped class row) (attributes_of mapped one.class) attr.0 value e))))

      row_read : AreReadFrom mapped tables start (take_row mapped class row own).after.graph
      unfolding take_row
      row_read = taken_read (row_object mapped class row own.graph) refl

    -- ---- cells that are read

    cells_read : (root : ClassId) (object : ObjId) (attrs : List AttrNo) (row : List Value) (own : Loading) → IsFound own.graph root object → AreCellsOfTables mapped tables (object_at own.graph object).class attrs (identity_key own.graph object) row → AreReadFrom mapped tables start own.graph
        → AreReadFrom mapped tables start (filled object (found_among (length (object_at own.graph object).cells) attrs row) own).graph
    unfolding filled with_filled
    cells_read root object attrs row own found are is =
        let one : Object = object_at own.graph object in
        put_read own.graph object (filled_object (found_among (length one.cells) attrs row) one) is
        (filled_read one (found_among (length one.cells) attrs row)
        (λ attr value e.
        row_there root own.graph found.key object attr value found.stands
        (are attr value (let first : 0 + attr.0 ≡ attr.0 = omega arith in ap (found_at attrs row) (sym first) ∙ among_value (found_at attrs row) 0 (length one.cells) attr.0 value e))))

-- ---- the steps

-- nothing was read yet
pub none_read : (mapped : Mapped) (tables : held.Tables) (graph : Graph) → AreReadFrom mapped tables graph graph
none_read mapped tables graph = record { grows = grows_same graph graph refl; read = λ place less. read_same mapped tables (object_in graph place); made = λ place past less. absurd (omega (arith, past, less)) }

pub read_steps : (mapped : Mapped) (tables : held.Tables) (start : Graph) (IsRow : ClassId → List Value → Type 0) (IsCells : ClassId → List AttrNo → List Value → List Value → Type 0) → HasHierarchies mapped
    → ((class : ClassId) (row : List Value) → IsRow class row → IsOfTables mapped tables class row)
    → ((class : ClassId) (attrs : List AttrNo) (key row : List Value) → IsCells class attrs key row → AreCellsOfTables mapped tables class attrs key row)
    → AreLoadSteps mapped IsRow IsCells (λ own. AreReadFrom mapped tables start own.graph)
unfolding collection_filled end_filled
read_steps mapped tables start IsRow IsCells has rows cells = record {
  noted = λ statement own is. is;
  taken = λ class row own declared of arena is. row_read mapped tables start class row (rows class row of) has own arena.graph.rooted is;
  filled = λ root object attrs row own found of arena is. cells_read mapped tables start root object attrs row own found (cells (object_at own.graph object).class attrs (identity_key own.graph object) row of) is;
  members = λ relation place owner members own related many child found arena is.
      let base : List ObjId = in_key_order own.graph members in
      let old : Link = link_at own.graph owner place in
      link_loaded mapped tables start owner place (collection_of base old) own (λ now e. collection_waits base old now e) is;
  ended = λ relation place owner end own related single child found arena is.
      let old : Link = link_at own.graph owner place in
      link_loaded mapped tables start owner place (end_of end old) own (λ now e. end_waits end old now e) is;
}
