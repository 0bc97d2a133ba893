-- What the loads of a query's objects leave, and of the links that it names.
use Rattle.std.proofs.Common.{◌≡◌, List, [], ◌∷◌, refl, subst}
use Rattle.std.specs.List.{AllByRecursion}
use Rattle.std.proofs.lemmas.List.Elements.{All-from_recursion, recursion_from_All}
use Rattle.base_core.specs.declared.ids.AttrNo.{AttrNo}
use Rattle.base_core.specs.declared.ids.ClassId.{ClassId}
use Rattle.base_core.specs.declared.ids.ObjId.{ObjId}
use Rattle.base_core.specs.declared.ids.RelNo.{RelNo}
use Rattle.base_core.specs.declared.value.Value.{Value}
use Rattle.expr_types.specs.declared.select.ObjectQuery.{ObjectQuery}
use Rattle.class_types.specs.declared.mapped.Relation.{Relation}
use Rattle.class_mapping.specs.Mapped.{IsClass, Mapped, root_of}
use Rattle.class_mapping.specs.Related.{AreRelated, IsRelated}
use Rattle.keeper_core.specs.Beside.{on_own}
use Rattle.keeper_core.specs.Programs.{give}
use Rattle.keeper_core.specs.Store.{Store}
use Rattle.object_arena.specs.Fit.{relation_of}
use Rattle.object_arena.specs.Graph.{Graph, IsObject}
use Rattle.load_rows.specs.Loading.{Loading}
use Rattle.load_calls.specs.Reading.{read}
use Rattle.load_calls.specs.Collections.{take_rows}
use Rattle.load_calls.proofs.CollectionLemmas.{related_at}
use Rattle.load_ends.specs.Ends.{IsChild}
use Rattle.load_queries.specs.Queries.{load_select, take_objects}
use Rattle.load_queries.specs.Selectin.{IsOption, load_objects, load_option, load_options, load_together, owners_among, with_options}
use Rattle.load_queries.proofs.FirstSteps.{firsts_all}
use Rattle.load_queries.proofs.OwnerLemmas.{children_of, owners_of}
use Rattle.object_parts.specs.Lists.{firsts}
use Rattle.loading_laws.proofs.Loading.FitOptions.{all_owners}
use Rattle.load_steps.specs.Rows.{AnswerRows, AnswersOwn}
use Rattle.load_steps.specs.Steps.{AreFound, AreLoadSteps, Holds, IsAnything, IsFound, IsOver, Keeps, Left}
use Rattle.load_steps.proofs.Keeping.{keeps_all, keeps_at, keeps_by_own, keeps_from, keeps_give, keeps_given, keeps_less, keeps_own, keeps_then}
use Rattle.load_steps.proofs.Lasting.{AreOfMapping, IsSince, all_found_since, child_since, since_same, since_then, steps_with}
use Rattle.load_steps.proofs.Lazily.{select_keeps}
use Rattle.load_steps.proofs.Rows.{rows_keep}
use Rattle.load_steps.proofs.Together.{together_load}

made_all : (graph : Graph) (root : ClassId) (objects : List ObjId) → AreFound graph root objects → AllByRecursion (IsObject graph) objects
made_all graph root [] found = tt
made_all graph root (object ∷ objects) found = (found.0.stands.0, made_all graph root objects found.1)

module _ {mapped : Mapped} {IsRow : ClassId → List Value → Type 0} {IsCells : ClassId → List AttrNo → List Value → List Value → Type 0} (of : AreOfMapping mapped IsRow IsCells)
    (related : AreRelated mapped) (store : Store) (answers : AnswerRows mapped IsRow IsCells store.tables) where
  -- ---- the links of owners as they are now

  -- a load for objects at whose place the relationship stands, from the world on where they are
  together_keeps : {P : Loading → Type 0} → AreLoadSteps mapped IsRow IsCells P → (relation : Relation) (place : RelNo) (owners : List ObjId) (start : Graph) → IsRelated mapped relation → AllByRecursion (IsChild mapped start relation place) owners
      → Keeps (λ w. IsOver mapped P store w × (w.own.graph ≡ start)) (IsOver mapped P store) IsAnything (load_together mapped relation place owners)
  together_keeps {P = P} steps relation place owners start is owned =
      keeps_less (load_together mapped relation place owners) (keeps_from (load_together mapped relation place owners)
      (together_load of (steps_with of (IsSince start) (λ old new since was. since_then start old new was since) steps) store answers relation place is (IsChild mapped start relation place)
      (λ own p object child. child_since mapped relation place object start own.graph p.1 child) owners relation.many refl owned)
      (λ w has. record { holds = record { arena = has.0.holds.arena; is = (has.0.holds.is, subst (λ (graph : Graph). IsSince graph w.own.graph) has.1 (since_same w.own.graph)) }; store = has.0.store })) (λ w over. record { holds = record { arena = over.holds.arena; is = over.holds.is.0 }; store = over.store })
      (λ u w over q. tt)

  -- ---- the links that a query names

  module _ {P : Loading → Type 0} (steps : AreLoadSteps mapped IsRow IsCells P) (class : ClassId) (declared : IsClass mapped class) (objects : List ObjId) (sees : (own : Loading) → P own → AreFound own.graph (root_of mapped class) objects) where
    option_keeps : (place : RelNo) (u : Unit {0}) → IsOption mapped class place → Keeps (IsOver mapped P store) (IsOver mapped P store) IsAnything (load_option mapped class objects place u)
    option_keeps place u inside =
        let relation : Relation = relation_of mapped class place in
        keeps_by_own (λ own. load_together mapped relation place (owners_among mapped class own.graph objects))
        (λ own. keeps_at (load_together mapped relation place (owners_among mapped class own.graph objects))
        (λ w is.
        let made = made_all w.own.graph (root_of mapped class) objects (sees w.own is.0.holds.is) in
        let owners : List ObjId = owners_among mapped class w.own.graph objects in
        let owned = owners_of mapped w.own.graph class place owners of.has.paired inside (all_owners mapped class declared objects w.own.graph made) in
        let children = recursion_from_All (IsChild mapped w.own.graph relation place) owners (children_of mapped w.own.graph relation place owners owned) in
        subst (λ (o : Loading). Left (IsOver mapped P store) IsAnything (load_together mapped relation place (owners_among mapped class o.graph objects) w)) is.1
        ((together_keeps steps relation place owners w.own.graph (related_at mapped class place related declared inside) children).left w (is.0, refl))))

    pub options_keep : (places : List RelNo) → AllByRecursion (IsOption mapped class) places → Keeps (IsOver mapped P store) (IsOver mapped P store) IsAnything (load_options mapped class objects places)
    unfolding load_options
    options_keep places inside = keeps_all (IsOption mapped class) (load_option mapped class objects) tt places option_keeps inside

  -- the objects of a query, then with its links
  module _ {P : Loading → Type 0} (steps : AreLoadSteps mapped IsRow IsCells P) (query : ObjectQuery) (declared : IsClass mapped query.class) (inside : AllByRecursion (IsOption mapped query.class) query.selectin) where
    abbrev FoundIn : List ObjId → Graph → Type 0
    FoundIn objects graph = AreFound graph (root_of mapped query.class) objects

    pub options_with : (objects : List ObjId) → Keeps (λ w. IsOver mapped P store w × FoundIn objects w.own.graph) (IsOver mapped P store) (λ found w. FoundIn found w.own.graph) (with_options mapped query objects)
    options_with objects =
        let root : ClassId = root_of mapped query.class in
        let more = steps_with of (FoundIn objects) (λ old new since found. all_found_since root objects old new since found) steps in
        keeps_then (load_options mapped query.class objects query.selectin) (λ u. give objects)
        (keeps_from (load_options mapped query.class objects query.selectin) (options_keep more query.class declared objects (λ own p. p.1) query.selectin inside)
        (λ w is. record { holds = record { arena = is.0.holds.arena; is = (is.0.holds.is, is.1) }; store = is.0.store }))
        (λ w over. record { holds = record { arena = over.holds.arena; is = over.holds.is.0 }; store = over.store })
        (λ u. keeps_from (give objects) (keeps_give objects) (λ w is. (record { holds = record { arena = is.0.holds.arena; is = is.0.holds.is.0 }; store = is.0.store }, is.0.holds.is.1)))

    first_found : (graph : Graph) (objects : List ObjId) → FoundIn objects graph → FoundIn (firsts objects) graph
    first_found graph objects found =
        let root : ClassId = root_of mapped query.class in
        recursion_from_All (IsFound graph root) (firsts objects) (firsts_all (IsFound graph root) objects (All-from_recursion (IsFound graph root) objects found))

    objects_taken : (rows : List (List Value)) → AllByRecursion (IsRow query.class) rows → Keeps (Holds mapped P) (Holds mapped P) (λ objects own. AreFound own.graph (root_of mapped query.class) objects) (take_objects mapped query.class rows)
    objects_taken rows all =
        keeps_then (take_rows mapped query.class rows) (λ objects. give (firsts objects)) (rows_keep of steps query.class declared rows all) (λ own h. h)
        (λ objects. keeps_from (give (firsts objects)) (keeps_give (firsts objects)) (λ own h. (h.0, first_found own.graph objects h.1)))

    pub select_load : AnswersOwn mapped IsRow store.tables query → Keeps (IsOver mapped P store) (IsOver mapped P store) (λ objects w. AreFound w.own.graph (root_of mapped query.class) objects) (load_select mapped query)
    unfolding load_select
    select_load are =
        keeps_then (read mapped.schema query.select) (λ rows. on_own (take_objects mapped query.class rows)) (select_keeps of steps store answers query.select (AllByRecursion (IsRow query.class)) are) (λ w over. over)
        (λ rows. keeps_given (on_own (take_objects mapped query.class rows)) (λ all. keeps_own mapped (take_objects mapped query.class rows) (objects_taken rows all)))

    pub objects_load : AnswersOwn mapped IsRow store.tables query → Keeps (IsOver mapped P store) (IsOver mapped P store) (λ objects w. FoundIn objects w.own.graph) (load_objects mapped query)
    unfolding load_objects
    objects_load are = keeps_then (load_select mapped query) (with_options mapped query) (select_load are) (λ w over. over) options_with
