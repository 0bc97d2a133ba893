-- What the loads of one object's cells and links leave, and of an object by its key.
use Rattle.std.proofs.Common.{◌≡◌, ◌==◌, ◌&&◌, Bool, true, false, List, [], ◌∷◌, Option, None, Some, Result, Ok, IfOk, if◌then◌else◌, refl, sym, ap, subst, ◌∙◌}
use Rattle.std.specs.Prelude.{unwrap_or}
use Rattle.std.specs.List.{AllByRecursion}
use Rattle.std.proofs.lemmas.Bool.{and_parts}
use Rattle.base_core.specs.declared.ids.AttrNo.{AttrNo}
use Rattle.base_core.specs.declared.ids.ClassId.{ClassId}
use Rattle.base_core.specs.declared.ids.ObjId.{ObjId}
use Rattle.base_core.specs.declared.ids.RelNo.{RelNo}
use Rattle.base_core.specs.declared.refusal.Refusal.{Refusal}
use Rattle.base_core.specs.declared.value.Value.{Value}
use Rattle.schema_core.specs.Tables.{has_null}
use Rattle.expr_types.specs.declared.select.Select.{Select}
use Rattle.sql_semantics.specs.Created.{bare}
use Rattle.sql_semantics.specs.Rows.{answer}
use Rattle.class_types.specs.declared.mapped.Relation.{Relation}
use Rattle.class_mapping.specs.Mapped.{IsClass, Mapped, root_of}
use Rattle.class_mapping.specs.Related.{IsRelated}
use Rattle.keeper_core.specs.Beside.{by_own, changes, on_own}
use Rattle.keeper_core.specs.Programs.{Run, ◌>>=◌, give}
use Rattle.keeper_core.specs.Store.{Store}
use Rattle.object_arena.specs.Fit.{ObjectFits, identity_fits, key_fits, relation_of}
use Rattle.object_arena.specs.Graph.{Graph, is_persistent, object_at, root_at}
use Rattle.object_arena.specs.Identity.{find_identity, has_key}
use Rattle.object_arena.proofs.FitLemmas.{fit_at, fit_cells}
use Rattle.load_selects.specs.Selects.{cells_select, key_select}
use Rattle.collection_selects.specs.Collections.{members_select}
use Rattle.load_rows.specs.Loading.{Loading, take_row}
use Rattle.load_rows.specs.Reading.{identity_key}
use Rattle.load_rows.specs.Links.{collection_filled, end_filled}
use Rattle.load_calls.specs.Reading.{World, read}
use Rattle.load_calls.specs.Collections.{load_collection, read_members, take_members, take_rows}
use Rattle.load_calls.specs.Refreshing.{expired_attrs, read_cells, refresh, refresh_cells, take_cells}
use Rattle.load_calls.proofs.RefreshLemmas.{are_attributes}
use Rattle.load_targets.specs.ForeignKeys.{foreign_key, is_key_expired}
use Rattle.load_targets.specs.Targets.{find_or_load, found_or_load, if_of, load_by, load_key, load_lazy, load_target, read_target, refresh_if, refresh_key, take_first}
use Rattle.load_ends.specs.Ends.{IsChild}
use Rattle.relations.specs.Mirror.{is_of}
use Rattle.loading_laws.specs.Strategies.Standing.{Stands}
use Rattle.loading_laws.proofs.Strategies.Standing.{found_stands}
use Rattle.load_steps.specs.Rows.{AnswerRows, AreAttributes}
use Rattle.load_steps.specs.Steps.{AreFound, AreLoadSteps, Holds, IsAnything, IsEnd, IsFound, IsOver, Keeps, Left}
use Rattle.load_steps.proofs.Keeping.{keeps_at, keeps_by_own, keeps_changes, keeps_from, keeps_give, keeps_given, keeps_own, keeps_read, keeps_tell, keeps_then}
use Rattle.load_steps.proofs.Lasting.{AreOfMapping, With, ended_holds, filled_holds, members_holds, noted_holds}
use Rattle.load_steps.proofs.Rows.{row_keeps, rows_keep}

-- the key of an object that is found fits its class
key_by : (mapped : Mapped) (class : ClassId) (key : List Value) (identity : Option (List Value)) → identity_fits mapped class identity ≡ true → has_key key identity ≡ true → key_fits mapped class (unwrap_or identity []) ≡ true
key_by mapped class key None fits is = absurd cc
key_by mapped class key (Some own) fits is = fits

found_key : (mapped : Mapped) (graph : Graph) (root : ClassId) (object : ObjId) → ObjectFits mapped (object_at graph object) → IsFound graph root object → key_fits mapped (object_at graph object).class (identity_key graph object) ≡ true
found_key mapped graph root object fits found =
    let own = object_at graph object in
    let rest = (and_parts (is_persistent own.state) ((root_at graph object).0 == root.0 && has_key found.key own.identity) found.stands.1).1 in
    key_by mapped own.class found.key own.identity fits.identity (and_parts ((root_at graph object).0 == root.0) (has_key found.key own.identity) rest).1

-- what is answered is such
said : {A : Type 0} (Are : A → Type 0) (r : Result A Refusal) (a : A) → IfOk r Are → r ≡ Ok a → Are a
said Are r a are e = subst (λ (s : Result _ Refusal). IfOk s Are) e are

module _ {mapped : Mapped} {IsRow : ClassId → List Value → Type 0} {IsCells : ClassId → List AttrNo → List Value → List Value → Type 0} {P : Loading → Type 0}
    (of : AreOfMapping mapped IsRow IsCells) (steps : AreLoadSteps mapped IsRow IsCells P) (store : Store) (answers : AnswerRows mapped IsRow IsCells store.tables) where
  -- the rows of a select
  pub select_keeps : (select : Select) (Are : List (List Value) → Type 0) → IfOk (answer mapped.schema (bare store.tables) select) Are → Keeps (IsOver mapped P store) (IsOver mapped P store) (λ rows w. Are rows) (read mapped.schema select)
  select_keeps select Are are =
      keeps_read (λ rows w. Are rows) mapped.schema select (λ w over. over.store)
      (λ w statement over. record { holds = noted_holds of steps statement w.own over.holds; store = over.store })
      (λ w statement rows over e. said Are (answer mapped.schema (bare store.tables) select) rows are e)

  -- ---- cells

  module _ (root : ClassId) (object : ObjId) (sees : (own : Loading) → P own → IsFound own.graph root object) where
    -- rows of cells of the object as it is
    abbrev AreCells : List AttrNo → List (List Value) → Graph → Type 0
    AreCells attrs rows graph = AllByRecursion (IsCells (object_at graph object).class attrs (identity_key graph object)) rows

    abbrev WithCells : List AttrNo → List (List Value) → Loading → Type 0
    WithCells attrs rows own = P own × AreCells attrs rows own.graph

    cells_said : (own : Loading) (attrs : List AttrNo) → Holds mapped P own → AreAttributes mapped (object_at own.graph object).class attrs
        → IfOk (answer mapped.schema (bare store.tables) (cells_select mapped (object_at own.graph object).class attrs (identity_key own.graph object))) (λ rows. AreCells attrs rows own.graph)
    cells_said own attrs h within =
        let found = sees own h.is in
        let fits = fit_at mapped own.graph object h.arena.fit found.stands.0 in
        answers.cells (object_at own.graph object).class attrs (identity_key own.graph object) fits.class within (found_key mapped own.graph root object fits found)

    abbrev HasAttrs : List AttrNo → World → Type 0
    HasAttrs attrs w = IsOver mapped P store w × AreAttributes mapped (object_at w.own.graph object).class attrs

    pub cells_read : (attrs : List AttrNo) → Keeps (HasAttrs attrs) (IsOver mapped P store) (λ rows w. AreCells attrs rows w.own.graph) (read_cells mapped object attrs)
    unfolding read_cells
    cells_read attrs =
        keeps_by_own (λ own. read mapped.schema (cells_select mapped (object_at own.graph object).class attrs (identity_key own.graph object)))
        (λ own. keeps_read (λ rows w. AreCells attrs rows w.own.graph) mapped.schema (cells_select mapped (object_at own.graph object).class attrs (identity_key own.graph object)) (λ w is. is.0.0.store)
        (λ w statement is. record { holds = noted_holds of steps statement w.own is.0.0.holds; store = is.0.0.store })
        (λ w statement rows is e. said_at attrs own w rows is e))
      where
        said_at : (attrs : List AttrNo) (own : Loading) (w : World) (rows : List (List Value)) → HasAttrs attrs w × (w.own ≡ own)
            → answer mapped.schema (bare store.tables) (cells_select mapped (object_at own.graph object).class attrs (identity_key own.graph object)) ≡ Ok rows → AreCells attrs rows w.own.graph
        said_at attrs own w rows is e =
            let here = subst (λ (o : Loading). answer mapped.schema (bare store.tables) (cells_select mapped (object_at o.graph object).class attrs (identity_key o.graph object)) ≡ Ok rows) (sym is.1) e in
            said (λ rows. AreCells attrs rows w.own.graph) (answer mapped.schema (bare store.tables) (cells_select mapped (object_at w.own.graph object).class attrs (identity_key w.own.graph object))) rows
            (cells_said w.own attrs is.0.0.holds is.0.1) here

    pub cells_taken : (attrs : List AttrNo) (rows : List (List Value)) → Keeps (Holds mapped (WithCells attrs rows)) (Holds mapped P) IsAnything (take_cells object attrs rows)
    unfolding take_cells
    cells_taken attrs rows = record { left = λ own h. by own rows h }
      where
        by : (own : Loading) (rows : List (List Value)) → Holds mapped (WithCells attrs rows) own → Left (Holds mapped P) IsAnything (take_cells object attrs rows own)
        by own [] h = record { after = record { arena = h.arena; is = h.is.0 }; answer = tt }
        by own (row ∷ rows) h = record { after = filled_holds of steps root object attrs row own (sees own h.is.0) h.is.1.0 (record { arena = h.arena; is = h.is.0 }); answer = tt }

    cells_by : (attrs : List AttrNo) → Keeps (HasAttrs attrs) (IsOver mapped P store) IsAnything (refresh_cells mapped object attrs)
    cells_by [] = keeps_from (give tt) (keeps_tell tt) (λ w is. is.0)
    cells_by (attr ∷ attrs) =
        keeps_then (read_cells mapped object (attr ∷ attrs)) (λ rows. on_own (take_cells object (attr ∷ attrs) rows)) (cells_read (attr ∷ attrs)) (λ w over. over)
        (λ rows. keeps_from (on_own (take_cells object (attr ∷ attrs) rows)) (keeps_own mapped (take_cells object (attr ∷ attrs) rows) (cells_taken (attr ∷ attrs) rows))
        (λ w is. record { holds = record { arena = is.0.holds.arena; is = (is.0.holds.is, is.1) }; store = is.0.store }))

    attrs_of : (own : Loading) → Holds mapped P own → AreAttributes mapped (object_at own.graph object).class (expired_attrs (object_at own.graph object))
    attrs_of own h =
        let found = sees own h.is in
        are_attributes mapped (object_at own.graph object).class (object_at own.graph object) (expired_attrs (object_at own.graph object)) (sym (fit_cells mapped own.graph object h.arena.fit found.stands.0)) refl

    -- the expired cells of an object
    pub refresh_keeps : Keeps (IsOver mapped P store) (IsOver mapped P store) IsAnything (refresh mapped object)
    unfolding refresh
    refresh_keeps =
        keeps_by_own (λ own. refresh_cells mapped object (expired_attrs (object_at own.graph object)))
        (λ own. keeps_from (refresh_cells mapped object (expired_attrs (object_at own.graph object)))
        (cells_by (expired_attrs (object_at own.graph object)))
        (λ w is. (is.0, subst (λ (o : Loading). AreAttributes mapped (object_at w.own.graph object).class (expired_attrs (object_at o.graph object))) is.1 (attrs_of w.own is.0.holds))))

  -- ---- an object by its key

  first_keeps : (class : ClassId) (rows : List (List Value)) → IsClass mapped class → AllByRecursion (IsRow class) rows → Keeps (Holds mapped P) (Holds mapped P) (λ end own. IsEnd own.graph (root_of mapped class) end) (take_first mapped class rows)
  unfolding take_first
  first_keeps class [] declared are = keeps_from (give None) (keeps_give None) (λ own h. (h, tt))
  first_keeps class (row ∷ rows) declared are =
      keeps_then (take_row mapped class row) (λ object. give (Some object)) (row_keeps of steps class row declared are.0) (λ own h. h)
      (λ object. keeps_give (Some object))

  -- the object of the row under a key
  pub key_keeps : (class : ClassId) (key : List Value) → IsClass mapped class → Keeps (IsOver mapped P store) (IsOver mapped P store) (λ end w. IsEnd w.own.graph (root_of mapped class) end) (load_key mapped class key)
  unfolding load_key
  key_keeps class key declared =
      keeps_then (read mapped.schema (key_select mapped class key)) (λ rows. on_own (take_first mapped class rows)) (select_keeps (key_select mapped class key) (AllByRecursion (IsRow class)) (answers.keyed class key declared)) (λ w over. over)
      (λ rows. keeps_given (on_own (take_first mapped class rows)) (λ all. keeps_own mapped (take_first mapped class rows) (first_keeps class rows declared all)))

  known_end : (graph : Graph) (root : ClassId) (object : ObjId) (b : Bool) → IsFound graph root object → IsEnd graph root (if b then Some object else None)
  known_end graph root object true found = found
  known_end graph root object false found = tt

  found_keeps : (class : ClassId) (key : List Value) (graph : Graph) (holder : Option ObjId) → IsClass mapped class → find_identity graph (root_of mapped class) key ≡ holder
      → Keeps (λ w. IsOver mapped P store w × (w.own.graph ≡ graph)) (IsOver mapped P store) (λ end w. IsEnd w.own.graph (root_of mapped class) end) (found_or_load mapped class key graph holder)
  found_keeps class key graph None declared is = keeps_from (load_key mapped class key) (key_keeps class key declared) (λ w is. is.0)
  found_keeps class key graph (Some object) declared is =
      keeps_from (give (if_of graph mapped class object))
      (keeps_give (if_of graph mapped class object))
      (λ w has.
      let root : ClassId = root_of mapped class in
      let stands : Stands root w.own.graph key object = found_stands w.own.graph root key object has.0.holds.arena.graph.rooted (ap (λ (g : Graph). find_identity g root key) has.1 ∙ is) in
      (has.0, known_end w.own.graph root object (is_of graph mapped class object) (record { key = key; stands = stands })))

  -- the object under a key, which the identity map may have
  pub find_keeps : (class : ClassId) (key : List Value) → IsClass mapped class → Keeps (IsOver mapped P store) (IsOver mapped P store) (λ end w. IsEnd w.own.graph (root_of mapped class) end) (find_or_load mapped class key)
  unfolding find_or_load
  find_keeps class key declared = by (has_null key)
    where
      sought : Loading → World → Run World (Option ObjId)
      sought own = found_or_load mapped class key own.graph (find_identity own.graph (root_of mapped class) key)

      by : (null : Bool) → Keeps (IsOver mapped P store) (IsOver mapped P store) (λ end w. IsEnd w.own.graph (root_of mapped class) end) (if null then give None else by_own sought)
      by true = keeps_from (give None) (keeps_give None) (λ w over. (over, tt))
      by false =
          keeps_by_own sought
          (λ own. keeps_from (sought own) (found_keeps class key own.graph (find_identity own.graph (root_of mapped class) key) declared refl) (λ w is. (is.0, ap (λ (o : Loading). o.graph) is.1)))

  -- ---- links

  module _ (relation : Relation) (object : ObjId) (place : RelNo) (related : IsRelated mapped relation) (sees : (own : Loading) → P own → IsChild mapped own.graph relation place object) where
    fill_keeps : (members : List ObjId) → relation.many ≡ true
        → Keeps (λ w. IsOver mapped P store w × AreFound w.own.graph (root_of mapped relation.target) members) (IsOver mapped P store) IsAnything (changes (collection_filled object place members))
    fill_keeps members many =
        keeps_from (changes (collection_filled object place members)) (keeps_changes mapped {P = With P (λ graph. AreFound graph (root_of mapped relation.target) members)} {R = P} (collection_filled object place members)
        (λ own h. members_holds of steps relation place object members own related many (sees own h.is.0) h.is.1 (record { arena = h.arena; is = h.is.0 })))
        (λ w is. record { holds = record { arena = is.0.holds.arena; is = (is.0.holds.is, is.1) }; store = is.0.store })

    -- a collection
    pub collection_keeps : relation.many ≡ true → Keeps (IsOver mapped P store) (IsOver mapped P store) IsAnything (load_collection mapped relation object place)
    unfolding load_collection read_members
    collection_keeps many =
        let asked : Loading → World → Run World (List (List Value)) = λ own. read mapped.schema (members_select mapped relation (identity_key own.graph object)) in
        keeps_then (by_own asked) (λ rows. take_members mapped relation object place rows)
        (keeps_by_own asked
        (λ own. keeps_from (asked own) (select_keeps (members_select mapped relation (identity_key own.graph object)) (AllByRecursion (IsRow relation.target)) (answers.members relation (identity_key own.graph object) related many))
        (λ w is. is.0)))
        (λ w over. over)
        (λ rows. keeps_given (take_members mapped relation object place rows)
        (λ all. keeps_then (on_own (take_rows mapped relation.target rows)) (λ members. changes (collection_filled object place members))
        (keeps_own mapped (take_rows mapped relation.target rows) (rows_keep of steps relation.target related.target rows all)) (λ w over. over) (λ members. fill_keeps members many)))

    end_keeps : (end : Option ObjId) → relation.many ≡ false → Keeps (λ w. IsOver mapped P store w × IsEnd w.own.graph (root_of mapped relation.target) end) (IsOver mapped P store) IsAnything (changes (end_filled object place end))
    end_keeps end single =
        keeps_from (changes (end_filled object place end)) (keeps_changes mapped {P = With P (λ graph. IsEnd graph (root_of mapped relation.target) end)} {R = P} (end_filled object place end)
        (λ own h. ended_holds of steps relation place object end own related single (sees own h.is.0) h.is.1 (record { arena = h.arena; is = h.is.0 })))
        (λ w is. record { holds = record { arena = is.0.holds.arena; is = (is.0.holds.is, is.1) }; store = is.0.store })

    refresh_by : (root : ClassId) (found : (own : Loading) → P own → IsFound own.graph root object) (b : Bool) → Keeps (IsOver mapped P store) (IsOver mapped P store) IsAnything (refresh_if b mapped object)
    refresh_by root found true = refresh_keeps root object found
    refresh_by root found false = keeps_tell tt

    -- a many-to-one link
    pub target_keeps : (root : ClassId) → ((own : Loading) → P own → IsFound own.graph root object) → relation.many ≡ false → Keeps (IsOver mapped P store) (IsOver mapped P store) IsAnything (load_target mapped relation object place)
    unfolding load_target refresh_key read_target
    target_keeps root found single =
        let refreshed : Loading → World → Run World (Unit {0}) = λ own. refresh_if (is_key_expired mapped relation (object_at own.graph object)) mapped object in
        let sought : Loading → World → Run World (Option ObjId) = λ own. find_or_load mapped relation.target (foreign_key mapped relation (object_at own.graph object)) in
        keeps_then (by_own refreshed) (λ u. by_own sought >>= λ end. changes (end_filled object place end))
        (keeps_by_own refreshed (λ own. keeps_from (refreshed own) (refresh_by root found (is_key_expired mapped relation (object_at own.graph object))) (λ w is. is.0)))
        (λ w over. over)
        (λ u. keeps_from (by_own sought >>= λ end. changes (end_filled object place end)) (keeps_then (by_own sought) (λ end. changes (end_filled object place end))
        (keeps_by_own sought (λ own. keeps_from (sought own) (find_keeps relation.target (foreign_key mapped relation (object_at own.graph object)) related.target) (λ w is. is.0)))
        (λ w over. over) (λ end. end_keeps end single))
        (λ w is. is.0))

    link_by : (root : ClassId) → ((own : Loading) → P own → IsFound own.graph root object) → (many : Bool) → relation.many ≡ many
        → Keeps (IsOver mapped P store) (IsOver mapped P store) IsAnything (if many then load_collection mapped relation object place else load_target mapped relation object place)
    link_by root found true many = collection_keeps many
    link_by root found false single = target_keeps root found single

    -- any link
    pub lazy_keeps : (root : ClassId) → ((own : Loading) → P own → IsFound own.graph root object) → Keeps (IsOver mapped P store) (IsOver mapped P store) IsAnything (load_lazy mapped object place)
    unfolding load_lazy
    lazy_keeps root found =
        let loaded : Loading → World → Run World (Unit {0}) = λ own. load_by mapped (relation_of mapped (object_at own.graph object).class place) object place in
        keeps_by_own loaded
        (λ own. keeps_at (loaded own)
        (λ w is.
        let same : relation_of mapped (object_at own.graph object).class place ≡ relation = ap (λ (o : Loading). relation_of mapped (object_at o.graph object).class place) (sym is.1) ∙ (sees w.own is.0.holds.is).is in
        subst (λ (r : Relation). Left (IsOver mapped P store) IsAnything (load_by mapped r object place w)) (sym same) ((link_by root found relation.many refl).left w is.0)))
