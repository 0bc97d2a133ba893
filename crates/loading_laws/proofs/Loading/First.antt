-- A query's own select leaves an arena's objects that fit the mapping, and the objects of its rows are ready for loads of their links.
use Rattle.std.proofs.Common.{◌≡◌, ℕ, suc, ◌<◌, ◌==◌, ◌&&◌, true, List, [], ◌∷◌, ◌++◌, length, Ok, is_none, refl, sym, ap, subst, ◌∙◌}
use Rattle.std.specs.Prelude.{slice_get, Option, Some}
use Rattle.std.specs.List.{All, AllByRecursion}
use Rattle.std.proofs.lemmas.Bool.{and_parts}
use Rattle.std.proofs.lemmas.List.{length-map}
use Rattle.std.proofs.lemmas.List.Elements.{All-from_recursion, recursion_from_All}
use Rattle.base_core.proofs.Lists.{every_append}
use Rattle.base_core.specs.declared.ids.ClassId.{ClassId}
use Rattle.base_core.specs.declared.ids.ObjId.{ObjId}
use Rattle.base_core.specs.declared.ids.RelNo.{RelNo}
use Rattle.base_core.specs.declared.value.Value.{Value}
use Rattle.expr_types.specs.declared.expr.Expr.{Expr}
use Rattle.expr_types.specs.declared.select.ObjectQuery.{ObjectQuery}
use Rattle.sql_semantics.specs.Created.{bare}
use Rattle.sql_semantics.specs.Eval.{Row, Tables}
use Rattle.sql_semantics.specs.Rows.{answer}
use Rattle.sql_semantics.specs.Shapes.{AreRows, EachItem, IsOfItsKind, scope_of}
use Rattle.select_rows.proofs.ItemKinds.{rows_of_kinds}
use Rattle.select_rows.proofs.NotNull.{rows_given}
use Rattle.class_mapping.specs.Mapped.{IsClass, Mapped, attributes_of, relations_of, root_of}
use Rattle.mapping_laws.specs.Hierarchies.{HasHierarchies}
use Rattle.keeper_core.specs.Beside.{on_own}
use Rattle.keeper_core.specs.Programs.{each, give}
use Rattle.keeper_core.specs.Store.{Store}
use Rattle.object_arena.specs.declared.object.State.{State}
use Rattle.object_arena.specs.declared.object.State.TheVariants.{Transient, Pending, Persistent, Deleted, Detached}
use Rattle.object_arena.specs.Fit.{IsFit, relation_of}
use Rattle.object_arena.specs.Graph.{Graph, is_persistent, object_at, root_at}
use Rattle.object_arena.specs.Identity.{IsGraph, has_key}
use Rattle.relations.specs.Mirror.{is_of}
use Rattle.load_columns.specs.declared.placing.SourceColumn.{SourceColumn}
use Rattle.load_columns.specs.Placing.{attribute_column, attribute_columns, from_root}
use Rattle.load_selects.specs.Selects.{item_of}
use Rattle.load_filling.specs.Rows.{row_key}
use Rattle.load_rows.specs.Loading.{Loading, take_row}
use Rattle.load_rows.specs.Reading.{IsRowOf}
use Rattle.load_calls.specs.Reading.{World, read}
use Rattle.load_calls.specs.Collections.{take_next, take_rows}
use Rattle.object_parts.specs.Lists.{firsts}
use Rattle.load_queries.specs.Queries.{load_select, take_objects}
use Rattle.load_queries.proofs.FirstSteps.{firsts_all}
use Rattle.load_queries.proofs.QuerySteps.{query_rows}
use Rattle.load_queries.proofs.OwnerLemmas.{owner_under}
use Rattle.loading_laws.specs.Strategies.Filled.{Goes}
use Rattle.loading_laws.specs.Strategies.Standing.{Stands}
use Rattle.loading_laws.proofs.Strategies.Batch.{one_waiting}
use Rattle.loading_laws.proofs.Strategies.Goes.{given, on_own_goes, parted, read_goes, row_taken}
use Rattle.loading_laws.specs.Loaders.Linked.{IsReady}
use Rattle.loading_laws.specs.Loaders.Options.{IsAnswered, Leaves}
use Rattle.loading_laws.proofs.Loaders.Frames.{framed_row, leaves_same, leaves_then}
use Rattle.loading_laws.specs.Loading.First.{IsReadable, LeavesReady}
use Rattle.loading_laws.specs.Loading.Loadable.{IsLoadable}
use Rattle.loading_laws.proofs.Loading.Fits.{row_fit}
use Rattle.loading_laws.proofs.Loading.Rows.{held_of, legal_of, reads_of}
use Rattle.loading_laws.proofs.Loading.Held.{HoldsColumns, key_held, row_holds}

-- ---- the rows of a query

-- each item has a value
each_wide : (P : Expr → Value → Type 0) (items : List (Expr × Option (List ℕ))) (row : Row) → EachItem P items row → length row ≡ length items
each_wide P [] [] values = refl
each_wide P [] (v ∷ row) values = absurd values
each_wide P (item ∷ items) [] values = absurd values
each_wide P (item ∷ items) (v ∷ row) values = ap suc (each_wide P items row values.1)

module _ (mapped : Mapped) (class : ClassId) (has : HasHierarchies mapped) (declared : IsClass mapped class) where
  -- a row of the class, with a value for each attribute
  abbrev IsWhole : Row → Type 0
  IsWhole row = IsRowOf mapped class row × (length row ≡ length (attributes_of mapped class))

  -- a place at which no link is loaded meanwhile
  abbrev nowhere : RelNo
  nowhere = record { 0 = 0 }

  abbrev Left : Graph → Graph → Type 0
  Left old new = Leaves nowhere old new

  -- the persistent object of a row, which holds what the row has
  record IsOfRow (graph : Graph) (object : ObjId) : Type 0 where
    key : List Value
    stands : Stands (root_of mapped class) graph key object
    holds : HoldsColumns mapped class (object_at graph object)

  of_row_later : (old new : Graph) (object : ObjId) → Left old new → IsOfRow old object → IsOfRow new object
  of_row_later old new object left is = record {
    key = is.key;
    stands = left.stays.stand (root_of mapped class) is.key object is.stands;
    holds = λ attr attribute at some.
        let held = is.holds attr attribute (subst (λ (own : ClassId). slice_get (attributes_of mapped own) attr.0 ≡ Some attribute) (left.classes object is.stands.0) at) some in
        ap is_none (left.cells object is.stands.0 attr held) ∙ held;
  }

  all_later : (old new : Graph) (objects : List ObjId) → Left old new → AllByRecursion (IsOfRow old) objects → AllByRecursion (IsOfRow new) objects
  all_later old new [] left all = tt
  all_later old new (object ∷ objects) left all = (of_row_later old new object left all.0, all_later old new objects left all.1)

  record AreTaken (own : Loading) (objects : List ObjId) (now : Loading) : Type 0 where
    left : Left own.graph now.graph
    fit : IsFit mapped now.graph
    of : AllByRecursion (IsOfRow now.graph) objects

  rows_go : (rows : List Row) (before : List ObjId) (own : Loading) (objects : List ObjId) (now : Loading) → AllByRecursion IsWhole rows → IsGraph own.graph.objects own.graph.roots → IsFit mapped own.graph
      → AllByRecursion (IsOfRow own.graph) before → Goes (each (take_next mapped class) before rows) own objects now → AreTaken own objects now
  unfolding each
  rows_go [] before own objects now whole is fit of g =
      let end = given before objects own now g in
      subst (λ (u : Loading). AreTaken own objects u) end.1 (subst (λ (os : List ObjId). AreTaken own os own) end.0 (record { left = leaves_same nowhere own.graph is; fit = fit; of = of }))
  rows_go (row ∷ rows) before own objects now whole is fit of g =
      let one = parted (take_next mapped class row before) (λ (t : List ObjId). each (take_next mapped class) t rows) own objects now g in
      let two = parted (take_row mapped class row) (λ (o : ObjId). give (before ++ o ∷ [])) own one.value one.between one.first in
      let put = given (before ++ two.value ∷ []) one.value two.between one.between two.second in
      let left = framed_row nowhere mapped class has declared row own two.between two.value is two.first in
      let new : IsOfRow two.between.graph two.value = record {
        key = row_key mapped class row;
        stands = (row_taken mapped class has.paired row own two.between two.value is.rooted two.first).stands;
        holds = row_holds mapped class has declared row own two.between two.value whole.0.0 whole.0.1 fit is.rooted two.first;
      } in
      let there : AreTaken own (before ++ two.value ∷ []) two.between = record {
        left = left;
        fit = row_fit mapped class has declared row own two.between two.value whole.0.0 fit is.rooted two.first;
        of = every_append (IsOfRow two.between.graph) before (two.value ∷ []) (all_later own.graph two.between.graph before left of) (new, tt);
      } in
      let here : AreTaken own one.value one.between = subst (λ (u : Loading). AreTaken own one.value u) put.1 (subst (λ (os : List ObjId). AreTaken own os two.between) put.0 there) in
      let rest = rows_go rows one.value one.between objects now whole.1 here.left.graph here.fit here.of one.second in
      record { left = leaves_then nowhere own.graph one.between.graph now.graph here.left rest.left; fit = rest.fit; of = rest.of }

  rows_taken : (rows : List Row) (own : Loading) (objects : List ObjId) (now : Loading) → AllByRecursion IsWhole rows → IsGraph own.graph.objects own.graph.roots → IsFit mapped own.graph → Goes (take_rows mapped class rows) own objects now
      → AreTaken own objects now
  unfolding take_rows
  rows_taken rows own objects now whole is fit g = rows_go rows [] own objects now whole is fit tt (record { answer = g.answer; leaves = g.leaves })

  firsts_of : (graph : Graph) (objects : List ObjId) → AllByRecursion (IsOfRow graph) objects → All (IsOfRow graph) (firsts objects)
  firsts_of graph objects all = firsts_all (IsOfRow graph) objects (All-from_recursion (IsOfRow graph) objects all)

-- ---- what its own select leaves

pub persistent_one : (state : State) → is_persistent state ≡ true → state ≡ Persistent
persistent_one Transient h = absurd cc
persistent_one Pending h = absurd cc
persistent_one Persistent h = refl
persistent_one Deleted h = absurd cc
persistent_one Detached h = absurd cc

module _ (mapped : Mapped) (query : ObjectQuery) (w : World) (readable : IsReadable mapped query w) where
  abbrev class : ClassId
  class = query.class

  abbrev tables : Tables
  tables = bare w.store.tables

  abbrev has : HasHierarchies mapped
  has = readable.stage.has

  abbrev IsOwn : Graph → ObjId → Type 0
  IsOwn = IsOfRow mapped class has readable.class

  abbrev IsItem : Expr → Value → Type 0
  IsItem = IsOfItsKind mapped.schema (scope_of query.select)

  as_wide : (row : Row) → EachItem IsItem query.select.items row → length row ≡ length (attributes_of mapped class)
  as_wide row values =
      let columns : List SourceColumn = attribute_columns mapped class (from_root 0) in
      each_wide IsItem query.select.items row values ∙ ap length readable.reads.items ∙ length-map columns item_of
      ∙ length-map (attributes_of mapped class) (attribute_column mapped class (from_root 0))

  all_whole : (rows : List Row) → AllByRecursion (IsRowOf mapped class) rows → AllByRecursion (EachItem IsItem query.select.items) rows → AllByRecursion (IsWhole mapped class has readable.class) rows
  all_whole [] are kinds = tt
  all_whole (row ∷ rows) are kinds = ((are.0, as_wide row kinds.0), all_whole rows are.1 kinds.1)

  rows_whole : (rows : List Row) → answer mapped.schema tables query.select ≡ Ok rows → AllByRecursion (IsWhole mapped class has readable.class) rows
  rows_whole rows answered =
      let kinds = rows_of_kinds mapped.schema tables query.select (Ok rows) answered readable.plain readable.stage.held in
      let given = rows_given mapped.schema tables query.select (Ok rows) answered readable.plain readable.legal in
      all_whole rows (query_rows mapped class query.select (Ok rows) has readable.class readable.reads kinds given) kinds

  record IsSelected (objects : List ObjId) (first : World) : Type 0 where
    left : Left mapped class has readable.class w.own.graph first.own.graph
    fit : IsFit mapped first.own.graph
    of : All (IsOwn first.own.graph) objects
    store : first.store ≡ w.store

  selected : (objects : List ObjId) (first : World) → Goes (load_select mapped query) w objects first → IsSelected objects first
  unfolding load_select
  selected objects first g =
      let one = parted (read mapped.schema query.select) (λ (rows : List Row). on_own (take_objects mapped class rows)) w objects first (record { answer = g.answer; leaves = g.leaves }) in
      let sent = read_goes mapped.schema query.select w one.value one.between one.first in
      let own = on_own_goes (take_objects mapped class one.value) one.between objects first one.second in
      let two = parted (take_rows mapped class one.value) (λ (found : List ObjId). give (firsts found)) one.between.own objects first.own own.goes in
      let end = given (firsts two.value) objects two.between first.own two.second in
      let is : IsGraph one.between.own.graph.objects one.between.own.graph.roots = subst (λ (h : Graph). IsGraph h.objects h.roots) (sym sent.graph) readable.stage.graph in
      let fit : IsFit mapped one.between.own.graph = subst (IsFit mapped) (sym sent.graph) readable.stage.fit in
      let all = rows_taken mapped class has readable.class one.value one.between.own two.value two.between (rows_whole one.value sent.answered) is fit two.first in
      record {
        left = subst (λ (h : Graph). Left mapped class has readable.class h first.own.graph) sent.graph (subst (λ (u : Loading). Left mapped class has readable.class one.between.own.graph u.graph) end.1 all.left);
        fit = subst (λ (u : Loading). IsFit mapped u.graph) end.1 all.fit;
        of = subst (λ (u : Loading). All (IsOwn u.graph) objects) end.1 (subst (λ (os : List ObjId). All (IsOwn two.between.graph) os) end.0 (firsts_of mapped class has readable.class two.between.graph two.value all.of));
        store = own.store ∙ sent.store;
      }

  answered_by : (graph : Graph) (object : ObjId) → IsOwn graph object → IsAnswered graph object
  answered_by graph object is =
      let own = object_at graph object in
      (is.stands.0, persistent_one own.state (and_parts (is_persistent own.state) ((root_at graph object).0 == (root_of mapped class).0 && has_key is.key own.identity) is.stands.1).0)

  ready_by : (first : World) (place : RelNo) (one : ObjId) → place.0 < length (relations_of mapped class) → IsOwn first.own.graph one → is_of first.own.graph mapped class one ≡ true
      → IsReady mapped (relation_of mapped class place) place first.own.graph one
  ready_by first place one within is under =
      let answered = answered_by first.own.graph one is in
      record {
        owner = owner_under mapped first.own.graph class place one has.paired within (record { made = answered.0; persistent = answered.1; under = under });
        held = λ single. key_held mapped has readable.stage.related class readable.class place within (object_at first.own.graph one) is.holds under single;
      }

  pub leaves_ready : (objects : List ObjId) (first : World) → Goes (load_select mapped query) w objects first → LeavesReady mapped class objects w first
  leaves_ready objects first g =
      let is = selected objects first g in
      let graph : Graph = first.own.graph in
      record {
        store = is.store;
        stage = record {
          has = has;
          related = readable.stage.related;
          graph = is.left.graph;
          fit = is.fit;
          held = subst (λ (store : Store). AreRows mapped.schema (bare store.tables)) (sym is.store) readable.stage.held;
        };
        answered = λ i d less. answered_by graph _ (is.of i d less);
        ready = λ place one within among under. ready_by first place one within (one_waiting (IsOwn graph) objects one (recursion_from_All (IsOwn graph) objects is.of) among) under;
      }

-- ---- a query that can be loaded by any strategy

pub readable : (mapped : Mapped) (query : ObjectQuery) (w : World) → IsLoadable mapped query w → IsReadable mapped query w
readable mapped query w is = record {
  stage = record { has = is.has; related = is.related; graph = is.graph; fit = is.fit; held = held_of mapped query w is };
  legal = legal_of mapped query w is;
  class = is.class;
  reads = reads_of mapped query w is;
  plain = is.plain;
}
