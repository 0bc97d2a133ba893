-- What each step keeps, each load keeps.
use Rattle.std.proofs.Common.{◌≡◌, ◌==◌, ◌&&◌, true, List, Option, None, Some, if◌then◌else◌, inr, is_some, not, refl, sym, ap, ◌∙◌, arith}
use Rattle.base_core.specs.declared.ids.AttrNo.{AttrNo}
use Rattle.base_core.specs.declared.ids.ClassId.{ClassId}
use Rattle.base_core.specs.declared.ids.ObjId.{ObjId}
use Rattle.base_core.specs.declared.ids.RelNo.{RelNo}
use Rattle.base_core.specs.declared.value.Value.{Value}
use Rattle.schema_core.specs.Tables as held
use Rattle.class_types.specs.declared.mapped.Relation.{Relation}
use Rattle.class_mapping.specs.Mapped.{Mapped, root_of}
use Rattle.mapping_laws.specs.Hierarchies.{HasHierarchies}
use Rattle.keeper_core.specs.Beside.{on_own}
use Rattle.object_arena.specs.declared.object.State.{State}
use Rattle.object_arena.specs.Fit.{relation_of}
use Rattle.object_arena.specs.Graph.{Graph, has_identity, is_persistent, no_object, object_at, place_of, root_at}
use Rattle.object_arena.specs.Identity.{IsGraph, has_key, holds, is_identified}
use Rattle.object_arena.proofs.FitLemmas.{fit_at}
use Rattle.object_arena.proofs.GraphLemmas.{same_equiv}
use Rattle.load_rows.specs.Loading.{Loading}
use Rattle.load_calls.specs.Reading.{World}
use Rattle.load_calls.specs.Refreshing.{read_cells, refresh, take_cells}
use Rattle.load_calls.proofs.CollectionLemmas.{related_at}
use Rattle.load_targets.specs.Targets.{load_lazy}
use Rattle.load_queries.specs.Selectin.{load_options}
use Rattle.load_ends.specs.Ends.{IsChild}
use Rattle.loading_laws.proofs.Strategies.Standing.{itself}
use Rattle.load_steps.specs.Based.{AreReadOfTables, IsRowOfTables}
use Rattle.load_steps.specs.Laws.{LoadsFillFromRows, LoadsKeepArenas, LoadsNoteWhatTheyFill, LoadsOnlyRead}
use Rattle.load_steps.specs.Loads.{CanLoad, Cells, IsLoadStage, IsStanding, Key, Link, Links, Load, Objects, Query, Rows, Taken, after_load}
use Rattle.load_steps.specs.Rows.{AreCellsThatFit, IsFullRow}
use Rattle.load_steps.specs.Steps.{AreFound, AreLoadSteps, IsFound, IsOver}
use Rattle.load_steps.proofs.Based.{based_steps}
use Rattle.load_steps.proofs.Filling.{fills_made}
use Rattle.load_steps.proofs.Joined.{query_load}
use Rattle.load_steps.proofs.Keeping.{keeps_own}
use Rattle.load_steps.proofs.Lasting.{AreOfMapping, With, all_found_since, child_since, found_since, steps_with}
use Rattle.load_steps.proofs.Lazily.{cells_read, cells_taken, key_keeps, lazy_keeps, refresh_keeps}
use Rattle.load_steps.proofs.Loaded.{none_read, read_steps}
use Rattle.load_steps.proofs.Noted.{noted_steps}
use Rattle.load_steps.proofs.Queries.{objects_load, options_keep}

-- a persistent object of an arena stands under its key
pub standing_found : (graph : Graph) (object : ObjId) → IsGraph graph.objects graph.roots → IsStanding graph object → IsFound graph (root_at graph object) object
standing_found graph object is standing =
    let identified : is_identified (object_at graph object) ≡ true = is.identified (place_of object) no_object (let first = standing.0.0 in let last = standing.0.1 in omega (arith, first, last)) in
    by (object_at graph object).identity refl (ap (λ (state : State). if has_identity state then is_some (object_at graph object).identity else not (is_some (object_at graph object).identity)) (sym standing.1) ∙ identified)
  where
    root : ClassId
    root = root_at graph object

    by : (identity : Option (List Value)) → (object_at graph object).identity ≡ identity → is_some (object_at graph object).identity ≡ true → IsFound graph root object
    by None here some = absurd (let never = sym (ap is_some here) ∙ some in cc)
    by (Some key) here some =
        let holding : holds root key (object_at graph object, root) ≡ true =
        ap (λ (state : State). is_persistent state && ((root.0 == root.0) && has_key key (object_at graph object).identity)) standing.1
        ∙ itself root.0 (has_key key (object_at graph object).identity) (ap (has_key key) here ∙ same_equiv.refl key) in
        record { key = key; stands = (standing.0, holding) }

module _ {mapped : Mapped} {IsRow : ClassId → List Value → Type 0} {IsCells : ClassId → List AttrNo → List Value → List Value → Type 0} {P : Loading → Type 0} (of : AreOfMapping mapped IsRow IsCells)
    (steps : AreLoadSteps mapped IsRow IsCells P) (w : World) (stage : IsLoadStage mapped IsRow IsCells w) (p : P w.own) where
  abbrev start : Graph
  start = w.own.graph

  -- with what lasts beside it
  over_with : (Q : Graph → Type 0) → Q w.own.graph → IsOver mapped (With P Q) w.store w
  over_with Q q = record { holds = record { arena = stage.arena; is = (p, q) }; store = refl }

  without : (Q : Graph → Type 0) (now : World) → IsOver mapped (With P Q) w.store now → IsOver mapped P w.store now
  without Q now over = record { holds = record { arena = over.holds.arena; is = over.holds.is.0 }; store = over.store }

  over : IsOver mapped P w.store w
  over = record { holds = record { arena = stage.arena; is = p }; store = refl }

  cells_loaded : (object : ObjId) → IsStanding w.own.graph object → IsOver mapped P w.store (refresh mapped object w).after
  cells_loaded object standing =
      let root : ClassId = root_at start object in
      let Q : Graph → Type 0 = λ graph. IsFound graph root object in
      without Q (refresh mapped object w).after
      ((refresh_keeps of (steps_with of Q (λ old new since found. found_since root object old new since found) steps) w.store stage.answers root object (λ own both. both.1)).left w (over_with Q (standing_found start object stage.arena.graph standing))).after

  rows_loaded : (object : ObjId) (attrs : List AttrNo) → CanLoad mapped IsRow IsCells w (Rows object attrs) → IsOver mapped P w.store (read_cells mapped object attrs w).after
  rows_loaded object attrs can =
      let root : ClassId = root_at start object in
      let Q : Graph → Type 0 = λ graph. IsFound graph root object in
      without Q (read_cells mapped object attrs w).after
      ((cells_read of (steps_with of Q (λ old new since found. found_since root object old new since found) steps) w.store stage.answers root object (λ own both. both.1) attrs).left w
      (over_with Q (standing_found start object stage.arena.graph can.0), can.1)).after

  taken_loaded : (object : ObjId) (attrs : List AttrNo) (rows : List (List Value)) → CanLoad mapped IsRow IsCells w (Taken object attrs rows) → IsOver mapped P w.store (on_own (take_cells object attrs rows) w).after
  taken_loaded object attrs rows can =
      let root : ClassId = root_at start object in
      let Q : Graph → Type 0 = λ graph. IsFound graph root object in
      without Q (on_own (take_cells object attrs rows) w).after
      ((keeps_own mapped (take_cells object attrs rows)
      (cells_taken of (steps_with of Q (λ old new since found. found_since root object old new since found) steps) w.store stage.answers root object (λ own both. both.1) attrs rows)).left w
      (record { holds = record { arena = stage.arena; is = ((p, standing_found start object stage.arena.graph can.0), can.1) }; store = refl })).after

  link_loaded : (object : ObjId) (place : RelNo) → CanLoad mapped IsRow IsCells w (Link object place) → IsOver mapped P w.store (load_lazy mapped object place w).after
  link_loaded object place can =
      let root : ClassId = root_at start object in
      let class : ClassId = (object_at start object).class in
      let relation : Relation = relation_of mapped class place in
      let Q : Graph → Type 0 = λ graph. IsFound graph root object × IsChild mapped graph relation place object in
      let declared = (fit_at mapped start object stage.arena.fit can.0.0).class in
      let child : IsChild mapped start relation place object = record { made = can.0.0; within = can.1; is = refl } in
      without Q (load_lazy mapped object place w).after
      ((lazy_keeps of (steps_with of Q (λ old new since both. (found_since root object old new since both.0, child_since mapped relation place object old new since both.1)) steps) w.store stage.answers relation object place
      (related_at mapped class place stage.related declared can.1) (λ own both. both.1.1) root (λ own both. both.1.0)).left w (over_with Q (standing_found start object stage.arena.graph can.0, child))).after

  links_loaded : (class : ClassId) (objects : List ObjId) (places : List RelNo) → CanLoad mapped IsRow IsCells w (Links class objects places) → IsOver mapped P w.store (load_options mapped class objects places w).after
  links_loaded class objects places can =
      let Q : Graph → Type 0 = λ graph. AreFound graph (root_of mapped class) objects in
      without Q (load_options mapped class objects places w).after
      ((options_keep of stage.related w.store stage.answers (steps_with of Q (λ old new since found. all_found_since (root_of mapped class) objects old new since found) steps) class can.0 objects (λ own both. both.1) places can.2).left w (over_with Q can.1)).after

  -- whatever a load answers
  pub load_leaves : (load : Load) → CanLoad mapped IsRow IsCells w load → IsOver mapped P w.store (after_load mapped load w)
  load_leaves (Cells object) can = cells_loaded object can
  load_leaves (Rows object attrs) can = rows_loaded object attrs can
  load_leaves (Taken object attrs rows) can = taken_loaded object attrs rows can
  load_leaves (Link object place) can = link_loaded object place can
  load_leaves (Key class key) can = ((key_keeps of steps w.store stage.answers class key can).left w over).after
  load_leaves (Links class objects places) can = links_loaded class objects places can
  load_leaves (Objects query) can = ((objects_load of stage.related w.store stage.answers steps query can.0 can.1 can.2).left w over).after
  load_leaves (Query query) can = ((query_load of stage.related steps w.store stage.answers query can.0 can.1 can.2 can.3).left w over).after

-- ---- the instances

full_rows : (mapped : Mapped) → HasHierarchies mapped → AreOfMapping mapped (IsFullRow mapped) (AreCellsThatFit mapped)
full_rows mapped has = record { has = has; rows = λ class row is. is.of; cells = λ class attrs key row count is. is count }

no_steps : (mapped : Mapped) → AreLoadSteps mapped (IsFullRow mapped) (AreCellsThatFit mapped) (λ own. Unit {0})
no_steps mapped = record {
  noted = λ statement own is. tt;
  taken = λ class row own declared of arena is. tt;
  filled = λ root object attrs row own found of arena is. tt;
  members = λ relation place owner members own related many child found arena is. tt;
  ended = λ relation place owner end own related single child found arena is. tt;
}

pub arenas_kept : LoadsKeepArenas
arenas_kept = λ mapped load w stage can. let left = load_leaves (full_rows mapped stage.has) (no_steps mapped) w stage tt load can in (left.holds.arena, left.store)

pub all_noted : LoadsNoteWhatTheyFill
all_noted = λ mapped load w stage can.
    let start : Graph = w.own.graph in
    let steps = noted_steps mapped (IsFullRow mapped) (AreCellsThatFit mapped) start stage.has (fills_made mapped (IsFullRow mapped) stage.has (λ class row is. is.wide)) in
    (load_leaves (full_rows mapped stage.has) steps w stage (λ object made. inr (record { made = made; same = refl })) load can).holds.is

pub rows_of_tables : (mapped : Mapped) (tables : held.Tables) → HasHierarchies mapped → AreOfMapping mapped (IsRowOfTables mapped tables) (AreReadOfTables mapped tables)
rows_of_tables mapped tables has = record { has = has; rows = λ class row is. is.0.of; cells = λ class attrs key row count is. is.0 count }

pub all_based : LoadsFillFromRows
all_based = λ mapped load w stage can based.
    let tables : held.Tables = w.store.tables in
    let steps = based_steps mapped tables (IsRowOfTables mapped tables) (AreReadOfTables mapped tables) stage.has (λ class row is. is.1) (λ class attrs key row is. is.1) in
    (load_leaves (rows_of_tables mapped tables stage.has) steps w stage based load can).holds.is

pub only_read : LoadsOnlyRead
only_read = λ mapped load w stage can.
    let tables : held.Tables = w.store.tables in
    let steps = read_steps mapped tables w.own.graph (IsRowOfTables mapped tables) (AreReadOfTables mapped tables) stage.has (λ class row is. is.1) (λ class attrs key row is. is.1) in
    (load_leaves (rows_of_tables mapped tables stage.has) steps w stage (none_read mapped tables w.own.graph) load can).holds.is
