-- Many-to-one links: the owner holds the foreign key of its row, and what the identity map has under that is of the target just where one
-- of the target's rows has it.
use Rattle.std.proofs.Common.{◌≡◌, ℕ, ◌<◌, Bool, true, false, not, ◌&&◌, List, [], ◌∷◌, length, map, Option, None, Some, Ok, if◌then◌else◌, is_none, refl, sym, ap, subst, ◌∙◌, arith}
use Rattle.std.specs.Prelude.{slice_get, unwrap_or}
use Rattle.std.specs.List.{list_any}
use Rattle.std.specs.Option.{option_and_then, option_map}
use Rattle.std.proofs.lemmas.Bool.{or_parts}
use Rattle.std.proofs.lemmas.Option.{slice_get-get_or, slice_get_within}
use Rattle.base_core.specs.declared.ids.AttrNo.{AttrNo}
use Rattle.base_core.specs.declared.ids.ClassId.{ClassId}
use Rattle.base_core.specs.declared.ids.ObjId.{ObjId}
use Rattle.base_core.specs.declared.ids.RelNo.{RelNo}
use Rattle.base_core.specs.declared.ids.TableId.{TableId}
use Rattle.base_core.specs.declared.value.Value.{Value}
use Rattle.schema_core.specs.Tables as held
use Rattle.schema_core.specs.Tables.{has_null, same_values, value_or_null}
use Rattle.expr_types.specs.declared.select.ObjectQuery.{ObjectQuery}
use Rattle.sql_semantics.specs.Created.{bare}
use Rattle.sql_semantics.specs.Eval.{Row, item_or_null, rows_in}
use Rattle.sql_semantics.specs.Rows.{answer}
use Rattle.class_types.specs.declared.mapped.Attribute.{Attribute}
use Rattle.class_types.specs.declared.mapped.Relation.{Relation}
use Rattle.class_sides.specs.Keys.{TableKey}
use Rattle.class_mapping.specs.Mapped.{IsClass, Mapped, attribute_of, attributes_of, no_attribute, relations_of, root_of, root_table, table_or_none, tables_of}
use Rattle.class_mapping.specs.Paired.{IsAt, is_at_or_under}
use Rattle.class_mapping.specs.Related.{IsRelated, has_keys, many_side}
use Rattle.class_mapping.proofs.Having.{Has, has_at, some_of, true_false}
use Rattle.mapping_laws.specs.Hierarchies.{HasHierarchies}
use Rattle.keeper_core.specs.Store.{Store}
use Rattle.object_arena.specs.declared.object.Cell.{Cell}
use Rattle.object_arena.specs.declared.object.Object.{Object}
use Rattle.object_arena.specs.declared.object.State.TheVariants.{Persistent}
use Rattle.object_arena.specs.Fit.{ObjectFits, cell_fits, no_relation, relation_of}
use Rattle.object_arena.specs.Graph.{Graph, no_object, object_at, place_of}
use Rattle.object_arena.specs.Identity.{find_identity}
use Rattle.load_columns.specs.Placing.{attribute_columns, foreign_numbers, from_root, place_of_table, rank_of, table_at_rank}
use Rattle.collection_selects.proofs.ClassLemmas.{rank_is}
use Rattle.collection_selects.proofs.MemberLemmas.{RefersTo}
use Rattle.collection_selects.proofs.Placed.{rank_finds}
use Rattle.load_filling.specs.Rows.{row_key, value_in}
use Rattle.load_rows.specs.Reading.{identity_key}
use Rattle.load_calls.specs.Reading.{World}
use Rattle.load_targets.specs.ForeignKeys.{foreign_attrs, is_expired_among, is_key_expired, value_at, value_of}
use Rattle.load_ends.specs.Ends.{key_of}
use Rattle.load_queries.specs.Queries.{load_select}
use Rattle.table_laws.specs.Legality.{AreSound}
use Rattle.loading_laws.specs.Answers.Answers.{AreRowsOf}
use Rattle.loading_laws.proofs.Members.Choices.{Choice, chosen, every_has, pointwise_long}
use Rattle.loading_laws.proofs.Members.Owned.{AreHeld, attribute_ranked, class_known, numbers_chosen, root_there, row_key_is, row_own}
use Rattle.loading_laws.proofs.Members.Ranks.{same_equal}
use Rattle.loading_laws.proofs.MainSelects.Referring.{HasKey, declared_above, key_of as relation_key, tables_under}
use Rattle.loading_laws.proofs.TiedRows.Owners.{legal_rank}
use Rattle.loading_laws.specs.Strategies.Ends.{has_row, leads_by, leads_to_one}
use Rattle.loading_laws.specs.Strategies.Filled.{Goes}
use Rattle.loading_laws.specs.Joined.Agree.{HoldsItsKey}
use Rattle.loading_laws.specs.Joined.Blocks.{referred_key}
use Rattle.loading_laws.proofs.Joined.Given.{among_has}
use Rattle.loading_laws.specs.Loaders.Linked.{AgreesWithMap, IsOfItsRow, IsReady, IsStage}
use Rattle.loading_laws.specs.Loaders.OwnRows.{AreOfTheirRows, has_row_under, key_in_table}
use Rattle.loading_laws.proofs.Loaders.EachKind.{far_at, owned_at}
use Rattle.loading_laws.proofs.Loaders.OwnRows.{found_known, map_agrees}
use Rattle.loading_laws.specs.Loading.Loadable.{AreFresh, IsLoadable, row_of_key, rows_of, value_under}
use Rattle.loading_laws.proofs.Loading.Fresh.{IsRanked, attribute_value, fresh_selected, plain_ranked}
use Rattle.loading_laws.proofs.Loading.Inherited.{reads_keys}
use Rattle.loading_laws.proofs.Loading.RowKeys.{foreign_cells, key_there, row_found}
use Rattle.loading_laws.proofs.Loading.Rows.{held_of, legal_of, rows_are}

-- a many-to-one relationship has no secondary table
near_of : (mapped : Mapped) (class : ClassId) (place : ℕ) (relation : Relation) → HasHierarchies mapped → IsRelated mapped relation → IsAt mapped class place relation → relation.many ≡ false → relation.far ≡ None
near_of mapped class place relation has related at single = by relation.far refl
  where
    by : (far : Option TableKey) → relation.far ≡ far → relation.far ≡ None
    by None is = is
    by (Some far) is = absurd (true_false relation.many (far_at mapped class place relation far has related at is) single)

-- ---- foreign keys in rows

module _ (mapped : Mapped) (tables : held.Tables) (sound : AreSound mapped.schema tables) (has : HasHierarchies mapped) (relation : Relation) (related : IsRelated mapped relation) (single : relation.many ≡ false) (near : relation.far ≡ None) where
  abbrev table : TableId
  table = relation.foreign.0

  abbrev cells : Row → List Value
  cells row = foreign_cells mapped tables sound relation.foreign row

  many_is : many_side relation ≡ relation.class
  many_is = ap (λ (b : Bool). if b then relation.target else relation.class) single

  own_key : HasKey mapped relation
  own_key = relation_key mapped relation (ap (has_keys mapped relation) (sym near) ∙ related.keys)

  refers_to_target : RefersTo mapped relation.foreign relation.target
  refers_to_target = subst (RefersTo mapped relation.foreign) (ap (λ (b : Bool). if b then relation.class else relation.target) single) own_key.refers

  module _ (class : ClassId) (declared : IsClass mapped class) (under : is_at_or_under mapped class relation.class ≡ true) where
    -- the table of the foreign key is one of the class's
    table_rank : slice_get (tables_of mapped class) (rank_of mapped class table) ≡ Some table
    table_rank = rank_finds (tables_of mapped class) table (tables_under mapped class relation.class table has under (subst (λ (one : ClassId). Has (tables_of mapped one) table) many_is own_key.inside))

    -- of a row of each of its tables the attributes of the foreign key have what its columns have
    cells_of_choice : (rows : Choice) → map (value_in (map (chosen rows) (attribute_columns mapped class (from_root 0)))) (foreign_attrs mapped class relation) ≡ cells (rows (rank_of mapped class table))
    cells_of_choice rows =
        reads_keys mapped has class relation (chosen rows) declared related (ap (is_at_or_under mapped class) many_is ∙ under) near
        ∙ numbers_chosen rows (place_of_table mapped class (from_root 0) table) (rows (rank_of mapped class table)) (foreign_numbers mapped relation.foreign) (ap rows (rank_is (rank_of mapped class table)))

    -- the row of the table that has the foreign key of a row of the class
    record Refers (row : Row) : Type 0 where
      one : Row
      among : Has (rows_in (bare tables) table.0) one
      found : row_of_key tables table (row_key mapped class row) ≡ Some one
      is : referred_key mapped class relation row ≡ cells one

    row_refers : (row : Row) → IsRanked mapped class (bare tables) row → Refers row
    row_refers row ranked =
        let rank : ℕ = rank_of mapped class table in
        let one : Row = ranked.rows rank in
        let among : Has (rows_in (bare tables) table.0) one = ranked.ranked.rows rank table table_rank in
        record {
          one = one;
          among = among;
          found = row_found mapped tables sound table one (row_key mapped class row) among (ap (λ (o : Option TableId). key_in_table mapped (table_or_none o) one) (sym table_rank) ∙ ranked.ranked.keys rank table table_rank);
          is = ap (λ (r : Row). map (value_in r) (foreign_attrs mapped class relation)) ranked.is ∙ cells_of_choice ranked.rows;
        }

  -- ---- foreign keys that objects hold

  module _ (graph : Graph) (fresh : AreFresh mapped tables graph) (owner : ObjId) (persistent : (object_at graph owner).state ≡ Persistent) (fits : ObjectFits mapped (object_at graph owner))
      (under : is_at_or_under mapped (object_at graph owner).class relation.class ≡ true) where
    abbrev object : Object
    object = object_at graph owner

    abbrev class : ClassId
    class = object.class

    abbrev key : List Value
    key = identity_key graph owner

    -- the rows of the object's tables under its key
    abbrev rows : Choice
    rows = λ rank. unwrap_or (row_of_key tables (table_at_rank mapped class rank) key) []

    abbrev own_row : Row
    own_row = map (chosen rows) (attribute_columns mapped class (from_root 0))

    row_at_table : (one : TableId) (row : Row) → slice_get (tables_of mapped class) (rank_of mapped class one) ≡ Some one → row_of_key tables one key ≡ Some row → rows (rank_of mapped class one) ≡ row
    row_at_table one row here found = ap (λ (o : Option TableId). unwrap_or (row_of_key tables (table_or_none o) key) []) here ∙ ap (λ (o : Option Row). unwrap_or o []) found

    -- what stands under a key in an attribute's column is of a row
    row_under : (attribute : Attribute) (value : Value) → value_under tables attribute key ≡ Some value → (row : Row) × (row_of_key tables attribute.table key ≡ Some row) × (item_or_null (slice_get row attribute.column.0) ≡ value)
    row_under attribute value e = by (row_of_key tables attribute.table key) refl e
      where
        same_some : (x y : Value) → ◌≡◌ {A = Option Value} (Some x) (Some y) → x ≡ y
        same_some x y e = cc

        by : (found : Option Row) → row_of_key tables attribute.table key ≡ found → option_map (λ (row : Row). item_or_null (slice_get row attribute.column.0)) found ≡ Some value
            → (row : Row) × (row_of_key tables attribute.table key ≡ Some row) × (item_or_null (slice_get row attribute.column.0) ≡ value)
        by None is e = absurd cc
        by (Some row) is e = (row, is, same_some (item_or_null (slice_get row attribute.column.0)) value e)

    held_within : (attr : AttrNo) (value : Value) → value_of object attr ≡ Some value → attr.0 < length (attributes_of mapped class)
    held_within attr value e = by (slice_get object.cells attr.0) refl e
      where
        by : (found : Option Cell) → slice_get object.cells attr.0 ≡ found → option_and_then (λ (cell : Cell). cell.value) found ≡ Some value → attr.0 < length (attributes_of mapped class)
        by None is e = absurd cc
        by (Some cell) is e =
            let less = slice_get_within object.cells attr.0 cell is in
            let long = pointwise_long cell_fits (attributes_of mapped class) object.cells fits.cells in
            omega (arith, less, long)

    -- a cell that is held has what the rows have
    cell_read : (attr : AttrNo) → is_none (value_of object attr) ≡ false → value_at object attr ≡ value_in own_row attr
    cell_read attr held = by (value_of object attr) refl held
      where
        by : (found : Option Value) → value_of object attr ≡ found → is_none found ≡ false → value_at object attr ≡ value_in own_row attr
        by None is h = absurd cc
        by (Some value) is h =
            let attribute : Attribute = attribute_of mapped class attr in
            let at : slice_get (attributes_of mapped class) attr.0 ≡ Some attribute = slice_get-get_or (attributes_of mapped class) attr.0 no_attribute (held_within attr value is) in
            let here = attribute_ranked mapped class attribute.table attribute (has_at (attributes_of mapped class) attr.0 attribute at) refl in
            let row = row_under attribute value (fresh owner attr value persistent is) in
            let same : rows (rank_of mapped class attribute.table) ≡ row.0 = row_at_table attribute.table row.0 here row.1 in
            ap value_or_null is
            ∙ ap (λ (v : Value). v) (sym row.2 ∙ ap (λ (r : Row). item_or_null (slice_get r attribute.column.0)) (sym same))
            ∙ ap value_or_null (sym (attribute_value mapped class rows attr.0 attribute at))

    cells_read : (attrs : List AttrNo) → is_expired_among attrs object ≡ false → map (value_at object) attrs ≡ map (value_in own_row) attrs
    cells_read [] held = refl
    cells_read (attr ∷ attrs) held =
        let parts = or_parts (is_none (value_of object attr)) (is_expired_among attrs object) held in
        ap (λ (v : Value). v ∷ map (value_at object) attrs) (cell_read attr parts.0) ∙ ap (λ (vs : List Value). value_in own_row attr ∷ vs) (cells_read attrs parts.1)

    -- so is the foreign key, where none of its cells is expired
    owner_cells : is_key_expired mapped relation object ≡ false → (one : Row) → row_of_key tables table key ≡ Some one → key_of mapped relation graph owner ≡ cells one
    owner_cells held one found =
        cells_read (foreign_attrs mapped class relation) held ∙ cells_of_choice class fits.class under rows ∙ ap cells (row_at_table table one (table_rank class fits.class under) found)

-- ---- a query's objects

module _ (mapped : Mapped) (query : ObjectQuery) (w : World) (is : IsLoadable mapped query w) (place : RelNo) (within : place.0 < length (relations_of mapped query.class)) (single : (relation_of mapped query.class place).many ≡ false) where
  abbrev relation : Relation
  relation = relation_of mapped query.class place

  abbrev target : ClassId
  target = relation.target

  abbrev all : List Row
  all = rows_of mapped (bare w.store.tables) target

  abbrev at_class : IsAt mapped query.class place.0 relation
  at_class = slice_get-get_or (relations_of mapped query.class) place.0 no_relation within

  relation_related : IsRelated mapped relation
  relation_related = is.related.each query.class is.class place.0 no_relation within

  relation_near : relation.far ≡ None
  relation_near = near_of mapped query.class place.0 relation is.has relation_related at_class single

  above : (class : ClassId) → IsAt mapped class place.0 relation → is_at_or_under mapped class relation.class ≡ true
  above class at = declared_above mapped class relation relation_related (is.has.paired.back class place.0 relation at)

  module _ (plain : List Row) (told : answer mapped.schema (bare w.store.tables) query.select ≡ Ok plain) (other : Row) (among : list_any (same_values other) plain ≡ true) where
    abbrev refers : Refers mapped w.store.tables is.sound is.has relation relation_related single relation_near query.class is.class (above query.class at_class) other
    refers =
        row_refers mapped w.store.tables is.sound is.has relation relation_related single relation_near query.class is.class (above query.class at_class) other
        (every_has (IsRanked mapped query.class (bare w.store.tables)) plain other (plain_ranked mapped query w is plain told) (among_has plain other among))

    -- an owner holds the foreign key of a row that has its key
    pub holds_key : (u : World) (owner : ObjId) → IsStage mapped u → AreFresh mapped w.store.tables u.own.graph → IsReady mapped relation place u.own.graph owner → row_key mapped query.class other ≡ identity_key u.own.graph owner
        → key_of mapped relation u.own.graph owner ≡ referred_key mapped query.class relation other
    holds_key u owner stage fresh ready same =
        let own = ready.owner in
        let less : place_of owner < length u.own.graph.objects = let made = own.made in omega (arith, made.0, made.1) in
        owner_cells mapped w.store.tables is.sound is.has relation relation_related single relation_near u.own.graph fresh owner own.persistent (stage.fit.objects (place_of owner) no_object less)
        (above (object_at u.own.graph owner).class (owned_at mapped relation place u owner stage own)) (ready.held single) refers.one
        (ap (row_of_key w.store.tables relation.foreign.0) (sym same) ∙ refers.found)
        ∙ sym refers.is

    -- what the identity map has under the foreign key of a row is of the target just where one of its rows has the key
    pub agrees_at : (u : World) (owner : ObjId) → u.store ≡ w.store → IsStage mapped u → AreOfTheirRows mapped (bare u.store.tables) u.own.graph → key_of mapped relation u.own.graph owner ≡ referred_key mapped query.class relation other
        → AgreesWithMap mapped relation all u.own.graph owner
    agrees_at u owner store stage own same one = by (find_identity u.own.graph (root_of mapped target) key) refl
      where
        key : List Value
        key = key_of mapped relation u.own.graph owner

        foreign : key ≡ foreign_cells mapped w.store.tables is.sound relation.foreign refers.one
        foreign = same ∙ refers.is

        rows_there : AreRowsOf mapped target (bare u.store.tables) all
        rows_there = subst (λ (s : Store). AreRowsOf mapped target (bare s.tables) all) (sym store) (rows_are mapped query w is target relation_related.target)

        by : (found : Option ObjId) → find_identity u.own.graph (root_of mapped target) key ≡ found → IsOfItsRow mapped target all u.own.graph key found
        by None found = tt
        by (Some object) found =
            let given : has_null key ≡ false = found_known mapped target key object u stage found in
            let present : has_row_under mapped (bare w.store.tables) key (root_table mapped target) ≡ true =
            ap (λ (k : List Value). has_row_under mapped (bare w.store.tables) k (root_table mapped target)) foreign
            ∙ key_there mapped w.store.tables is.sound is.has relation.foreign target relation_related.target (refers_to_target mapped w.store.tables is.sound is.has relation relation_related single relation_near) refers.one refers.among
            (ap has_null (sym foreign) ∙ given) in
            map_agrees mapped target key object all u stage is.over relation_related.target rows_there own found (ap (λ (s : Store). has_row_under mapped (bare s.tables) key (root_table mapped target)) store ∙ present)

  -- a key leads to an object just where it is that of a row of the target
  pub leads_at : (u : World) (owner : ObjId) → AgreesWithMap mapped relation all u.own.graph owner → leads_to_one mapped relation all u.own.graph (key_of mapped relation u.own.graph owner) ≡ has_row mapped target all (key_of mapped relation u.own.graph owner)
  leads_at u owner agrees = by (has_null key) refl
    where
      key : List Value
      key = key_of mapped relation u.own.graph owner

      led : Option ObjId → Bool
      led found = leads_by mapped relation all u.own.graph key found

      by_map : (found : Option ObjId) → IsOfItsRow mapped target all u.own.graph key found → led found ≡ has_row mapped target all key
      by_map None same = refl
      by_map (Some holder) same = same

      -- keys of rows have no NULL
      no_row : has_null key ≡ true → (b : Bool) → has_row mapped target all key ≡ b → b ≡ false
      no_row null false there = refl
      no_row null true there =
          let found = some_of (λ row. same_values (row_key mapped target row) key) all there in
          let stage : AreHeld mapped target (bare w.store.tables) all = record { has = is.has; is = relation_related.target; held = held_of mapped query w is; rows = rows_are mapped query w is target relation_related.target } in
          let known = class_known mapped target (bare w.store.tables) all stage in
          let own = row_own mapped target (bare w.store.tables) all stage found.0 found.1 in
          let keyed = sym (same_equal (row_key mapped target found.0) key found.2) ∙ ap (row_key mapped target) own.2 ∙ row_key_is mapped target known is.has own.0 in
          let given = legal_rank mapped (bare w.store.tables) (legal_of mapped query w is) target own.0 0 (root_table mapped target) (root_there mapped target known) own.1.head in
          absurd (true_false (has_null key) null (ap has_null keyed ∙ given))

      by : (null : Bool) → has_null key ≡ null → (not (has_null key) && led (find_identity u.own.graph (root_of mapped target) key)) ≡ has_row mapped target all key
      by true is_null = ap (λ (b : Bool). not b && led (find_identity u.own.graph (root_of mapped target) key)) is_null ∙ sym (no_row is_null (has_row mapped target all key) refl)
      by false is_null =
          ap (λ (b : Bool). not b && led (find_identity u.own.graph (root_of mapped target) key)) is_null ∙ by_map (find_identity u.own.graph (root_of mapped target) key) (agrees single)

-- an object of the own select holds the foreign key of its rows, and the map agrees with the rows under it
pub settled : (mapped : Mapped) (query : ObjectQuery) (w first : World) (objects : List ObjId) (plain : List Row) (place : RelNo) (row : Row) (one : ObjId) → IsLoadable mapped query w → Goes (load_select mapped query) w objects first
    → answer mapped.schema (bare w.store.tables) query.select ≡ Ok plain → list_any (same_values row) plain ≡ true → row_key mapped query.class row ≡ identity_key first.own.graph one → place.0 < length (relations_of mapped query.class)
    → first.store ≡ w.store → IsStage mapped first → IsReady mapped (relation_of mapped query.class place) place first.own.graph one → AreFresh mapped w.store.tables w.own.graph → AreOfTheirRows mapped (bare first.store.tables) first.own.graph
    → (relation_of mapped query.class place).many ≡ false
    → HoldsItsKey mapped query.class (relation_of mapped query.class place) plain (rows_of mapped (bare w.store.tables) (relation_of mapped query.class place).target) first.own.graph row one
settled mapped query w first objects plain place row one is selected told among same within store stage ready fresh own single =
    let fresh_first = fresh_selected mapped query w is objects first fresh selected in
    let held = holds_key mapped query w is place within single plain told row among first one stage fresh_first ready same in
    record {
      holds = λ other there alike. holds_key mapped query w is place within single plain told other there first one stage fresh_first ready (alike ∙ same);
      leads = leads_at mapped query w is place within single first one (agrees_at mapped query w is place within single plain told row among first one store stage own held);
    }
