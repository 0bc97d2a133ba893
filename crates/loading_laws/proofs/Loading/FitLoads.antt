-- Loads of links leave an arena's objects that fit the mapping, over the same tables.
use Rattle.std.proofs.Common.{◌≡◌, ◌<◌, ◌==◌, ◌&&◌, Bool, true, false, not, List, [], ◌∷◌, length, Option, None, Some, Ok, if◌then◌else◌, is_some, refl, sym, ap, subst, ◌∙◌, arith}
use Rattle.std.specs.List.{All, AllByRecursion}
use Rattle.std.proofs.lemmas.Bool.{and_parts}
use Rattle.std.proofs.lemmas.List.Elements.{All-from_recursion, recursion_from_All}
use Rattle.base_core.specs.declared.ids.ClassId.{ClassId}
use Rattle.base_core.specs.declared.ids.ObjId.{ObjId}
use Rattle.base_core.specs.declared.ids.RelNo.{RelNo}
use Rattle.base_core.specs.declared.value.Value.{Value}
use Rattle.schema_core.specs.Tables.{has_null}
use Rattle.expr_types.specs.declared.select.Select.{Select}
use Rattle.sql_semantics.specs.Created.{bare}
use Rattle.sql_semantics.specs.Eval.{Row}
use Rattle.sql_semantics.specs.Plain.{IsPlainSelect}
use Rattle.sql_semantics.specs.Shapes.{AreGiven, AreLegalRows, AreOfItems, AreRows}
use Rattle.select_rows.proofs.ItemKinds.{rows_of_kinds}
use Rattle.select_rows.proofs.NotNull.{rows_given}
use Rattle.class_types.specs.declared.mapped.Relation.{Relation}
use Rattle.class_mapping.specs.Mapped.{IsClass, Mapped, relations_of, root_of}
use Rattle.class_mapping.specs.Related.{IsRelated}
use Rattle.mapping_laws.specs.Hierarchies.{HasHierarchies}
use Rattle.keeper_core.specs.Beside.{by_own, changes, on_own}
use Rattle.keeper_core.specs.Programs.{each, give}
use Rattle.keeper_core.specs.Store.{Store}
use Rattle.object_arena.specs.Fit.{IsFit, end_fits, is_of_root, key_fits, relation_of}
use Rattle.object_arena.specs.declared.object.Object.{Object}
use Rattle.object_arena.specs.declared.object.State.{State}
use Rattle.object_arena.specs.declared.object.State.TheVariants.{Persistent}
use Rattle.object_arena.specs.Graph.{Graph, IsObject, has_identity, is_persistent, no_object, object_at, place_of, root_at}
use Rattle.object_arena.specs.Identity.{IsGraph, find_identity, has_key, holds, is_identified}
use Rattle.object_arena.proofs.GraphLemmas.{same_equiv}
use Rattle.object_arena.proofs.FitLemmas.{fit_at, fit_cells}
use Rattle.collection_selects.specs.Collections.{members_select}
use Rattle.load_selects.specs.Selects.{key_select}
use Rattle.collection_selects.proofs.PairLemmas.{members_are_plain}
use Rattle.load_rows.specs.Loading.{Loading, take_row}
use Rattle.load_rows.specs.Reading.{IsRowOf, identity_key}
use Rattle.load_rows.specs.Links.{collection_filled, end_filled}
use Rattle.load_calls.specs.Reading.{World, read}
use Rattle.load_calls.specs.Collections.{load_collection, read_members, take_members, take_rows}
use Rattle.load_calls.proofs.CollectionLemmas.{members_rows}
use Rattle.load_targets.specs.ForeignKeys.{foreign_key, is_key_expired}
use Rattle.load_targets.specs.Targets.{find_or_load, found_or_load, if_of, load_end, load_key, load_lazy, load_target, read_target, refresh_if, refresh_key, take_first}
use Rattle.load_targets.proofs.EndLemmas.{key_plain, key_rows, known_of}
use Rattle.load_targets.proofs.KeyLemmas.{one_without, target_key_fits}
use Rattle.load_batches.specs.Batches.{IsOwner}
use Rattle.load_ends.specs.Ends.{IsChild}
use Rattle.loading_laws.specs.Strategies.Filled.{Goes}
use Rattle.loading_laws.proofs.Strategies.Goes.{by_own_goes, changed_to, given, on_own_goes, parted, read_goes, row_taken}
use Rattle.loading_laws.proofs.Strategies.Standing.{found_stands, itself, made_later}
use Rattle.loading_laws.specs.Loaders.Lazily.{CanBeRead, load_link, load_links}
use Rattle.loading_laws.specs.Loaders.Linked.{IsReady, IsStage}
use Rattle.loading_laws.proofs.Loaders.EachKind.{owned_at, owned_keyed, owned_related}
use Rattle.loading_laws.proofs.Loaders.Frames.{collection_leaves, end_leaves, framed_row}
use Rattle.loading_laws.proofs.Loaders.Later.{Kept, key_held, kept_by, kept_same, kept_then}
use Rattle.loading_laws.proofs.Loaders.Loads.{lazy_by}
use Rattle.loading_laws.proofs.Loading.First.{persistent_one}
use Rattle.loading_laws.proofs.Loading.Fits.{row_fit}
use Rattle.loading_laws.proofs.Loading.FitLinks.{AreRowsFit, LeavesFit, all_of_root, child_later, collection_fit, end_fit, left_same, left_then, rows_fit, stands_of_root}

-- ---- worlds

-- the objects are an arena's that fit, and the tables hold legal rows
pub record IsFirm (mapped : Mapped) (w : World) : Type 0 where
  pub stage : IsStage mapped w
  pub legal : AreLegalRows mapped.schema (bare w.store.tables)

-- a world that is left so, with the same tables
pub record LeavesFirm (place : RelNo) (mapped : Mapped) (w v : World) : Type 0 where
  pub left : LeavesFit place mapped w.own.graph v.own.graph
  pub store : v.store ≡ w.store

pub firm_later : (place : RelNo) (mapped : Mapped) (w v : World) → IsFirm mapped w → LeavesFirm place mapped w v → IsFirm mapped v
firm_later place mapped w v firm leaves = record {
  stage = record {
    has = firm.stage.has;
    related = firm.stage.related;
    graph = leaves.left.leaves.graph;
    fit = leaves.left.fit;
    held = subst (λ (store : Store). AreRows mapped.schema (bare store.tables)) (sym leaves.store) firm.stage.held;
  };
  legal = subst (λ (store : Store). AreLegalRows mapped.schema (bare store.tables)) (sym leaves.store) firm.legal;
}

pub firm_same : (place : RelNo) (mapped : Mapped) (w v : World) → w ≡ v → IsFirm mapped w → LeavesFirm place mapped w v
firm_same place mapped w v same firm = subst (LeavesFirm place mapped w) same (record { left = left_same place mapped w.own.graph firm.stage.graph firm.stage.fit; store = refl })

pub firm_then : (place : RelNo) (mapped : Mapped) (a b c : World) → LeavesFirm place mapped a b → LeavesFirm place mapped b c → LeavesFirm place mapped a c
firm_then place mapped a b c p q = record { left = left_then place mapped a.own.graph b.own.graph c.own.graph p.left q.left; store = q.store ∙ p.store }

-- the foreign key of an owner, where it has no NULL, is a key of the target
pub target_fits : (mapped : Mapped) (relation : Relation) (place : RelNo) (owner : ObjId) (w : World) → IsFirm mapped w → IsOwner mapped w.own.graph relation place owner → relation.many ≡ false
    → has_null (foreign_key mapped relation (object_at w.own.graph owner)) ≡ false → key_fits mapped relation.target (foreign_key mapped relation (object_at w.own.graph owner)) ≡ true
target_fits mapped relation place owner w firm owned single known =
    let own = object_at w.own.graph owner in
    let has = firm.stage.has in
    let related = owned_related mapped relation place w owner firm.stage owned in
    let near = one_without mapped own.class place.0 relation has related (owned_at mapped relation place w owner firm.stage owned) single in
    target_key_fits mapped relation own has related single near (fit_at mapped w.own.graph owner firm.stage.fit owned.made) (sym (fit_cells mapped w.own.graph owner firm.stage.fit owned.made)) known

-- what a plain select answers over such tables
pub record AreSent (mapped : Mapped) (select : Select) (rows : List Row) : Type 0 where
  pub kinds : AreOfItems mapped.schema select rows
  pub given : AreGiven mapped.schema select rows

module _ (place : RelNo) (mapped : Mapped) where
  pub sent_rows : (select : Select) (w : World) (rows : List Row) (v : World) → IsFirm mapped w → IsPlainSelect mapped.schema select → Goes (read mapped.schema select) w rows v → AreSent mapped select rows × LeavesFirm place mapped w v
  sent_rows select w rows v firm plain g =
      let sent = read_goes mapped.schema select w rows v g in (
        record { kinds = rows_of_kinds mapped.schema (bare w.store.tables) select (Ok rows) sent.answered plain firm.stage.held; given = rows_given mapped.schema (bare w.store.tables) select (Ok rows) sent.answered plain firm.legal },
        record {
          left = subst (λ (graph : Graph). LeavesFit place mapped w.own.graph graph) (sym sent.graph) (left_same place mapped w.own.graph firm.stage.graph firm.stage.fit);
          store = sent.store;
        },
      )

  pub taken_fit : (class : ClassId) (has : HasHierarchies mapped) (declared : IsClass mapped class) (rows : List Row) (own : Loading) (objects : List ObjId) (now : Loading) → AllByRecursion (IsRowOf mapped class) rows → IsGraph own.graph.objects own.graph.roots
      → IsFit mapped own.graph → Goes (take_rows mapped class rows) own objects now → AreRowsFit place mapped class has declared (λ row. row) (λ row object. object) (λ object. object) (λ row object. refl) own objects now
  unfolding take_rows
  taken_fit class has declared rows own objects now of is fit g =
      rows_fit place mapped class has declared (λ row. row) (λ row object. object) (λ object. object) (λ row object. refl) rows [] own objects now of is fit tt (record { answer = g.answer; leaves = g.leaves })

  -- ---- a lazy load

  module _ (relation : Relation) (owner : ObjId) (w : World) (firm : IsFirm mapped w) (ready : IsReady mapped relation place w.own.graph owner) where
    abbrev class : ClassId
    class = relation.target

    abbrev root : ClassId
    root = root_of mapped class

    related : IsRelated mapped relation
    related = owned_related mapped relation place w owner firm.stage ready.owner

    child : IsChild mapped w.own.graph relation place owner
    child = record { made = ready.owner.made; within = ready.owner.within; is = ready.owner.is }

    collection_firm : (v : World) → relation.many ≡ true → Goes (load_collection mapped relation owner place) w tt v → LeavesFirm place mapped w v
    unfolding load_collection read_members
    collection_firm v many g =
        let key : List Value = identity_key w.own.graph owner in
        let select : Select = members_select mapped relation key in
        let asked = λ (own : Loading). read mapped.schema (members_select mapped relation (identity_key own.graph owner)) in
        let one = parted (by_own asked) (λ (rows : List Row). take_members mapped relation owner place rows) w tt v (record { answer = g.answer; leaves = g.leaves }) in
        let plain = members_are_plain mapped relation key firm.stage.has related many (owned_keyed mapped relation place w owner firm.stage ready.owner) in
        let sent = sent_rows select w one.value one.between firm plain (by_own_goes asked w one.value one.between one.first) in
        let of = members_rows mapped relation key select (Ok one.value) firm.stage.has related refl sent.0.kinds sent.0.given in
        let two = parted (on_own (take_rows mapped class one.value)) (λ (members : List ObjId). changes (collection_filled owner place members)) one.between tt v one.second in
        let own = on_own_goes (take_rows mapped class one.value) one.between two.value two.between two.first in
        let next : World = two.between in
        let taken = taken_fit class firm.stage.has related.target one.value one.between.own two.value next.own of sent.1.left.leaves.graph sent.1.left.fit own.goes in
        let mid : LeavesFirm place mapped w next = firm_then place mapped w one.between next sent.1 (record { left = taken.left; store = own.store }) in
        let held : All (λ object. is_of_root next.own.graph.roots root object ≡ true) two.value = All-from_recursion _ two.value (all_of_root mapped root next.own.graph two.value taken.left.fit taken.ones) in
        let fit = collection_fit place mapped relation next.own owner taken.left.fit (child_later place mapped relation w.own.graph next.own.graph owner mid.left.leaves child) two.value many held in
        let put : LeavesFirm place mapped next (record { own = collection_filled owner place two.value next.own; store = next.store }) = record { left = record { leaves = collection_leaves place owner two.value next.own taken.left.leaves.graph; fit = fit }; store = refl } in
        subst (LeavesFirm place mapped w) (changed_to (collection_filled owner place two.value) next tt v two.second) (firm_then place mapped w next _ mid put)

    -- an end that was sought, of the hierarchy if there is one
    record IsEndFit (u v : World) (end : Option ObjId) : Type 0 where
      leaves : LeavesFirm place mapped u v
      of : end_fits v.own.graph.roots root end ≡ true

    first_fit : (rows : List Row) (own : Loading) (end : Option ObjId) (now : Loading) → AllByRecursion (IsRowOf mapped class) rows → IsGraph own.graph.objects own.graph.roots → IsFit mapped own.graph → Goes (take_first mapped class rows) own end now
        → LeavesFit place mapped own.graph now.graph × (end_fits now.graph.roots root end ≡ true)
    unfolding take_first
    first_fit [] own end now of is fit g =
        let put = given None end own now g in
        subst (λ (u : Loading). LeavesFit place mapped own.graph u.graph × (end_fits u.graph.roots root end ≡ true)) put.1
        (subst (λ (found : Option ObjId). LeavesFit place mapped own.graph own.graph × (end_fits own.graph.roots root found ≡ true)) put.0 (left_same place mapped own.graph is fit, refl))
    first_fit (row ∷ rows) own end now of is fit g =
        let two = parted (take_row mapped class row) (λ (object : ObjId). give (Some object)) own end now g in
        let put = given (Some two.value) end two.between now two.second in
        let next = row_fit mapped class firm.stage.has related.target row own two.between two.value of.0 fit is.rooted two.first in
        let stands = (row_taken mapped class firm.stage.has.paired row own two.between two.value is.rooted two.first).stands in
        let left : LeavesFit place mapped own.graph two.between.graph = record { leaves = framed_row place mapped class firm.stage.has related.target row own two.between two.value is two.first; fit = next } in
        subst (λ (u : Loading). LeavesFit place mapped own.graph u.graph × (end_fits u.graph.roots root end ≡ true)) put.1
        (subst (λ (found : Option ObjId). LeavesFit place mapped own.graph two.between.graph × (end_fits two.between.graph.roots root found ≡ true)) put.0
        (left, stands_of_root mapped root two.between.graph two.value next (record { key = _; stands = stands })))

    key_firm : (key : List Value) (v : World) (end : Option ObjId) → key_fits mapped class key ≡ true → Goes (load_key mapped class key) w end v → IsEndFit w v end
    unfolding load_key
    key_firm key v end fits g =
        let select : Select = key_select mapped class key in
        let two = parted (read mapped.schema select) (λ (rows : List Row). on_own (take_first mapped class rows)) w end v (record { answer = g.answer; leaves = g.leaves }) in
        let plain = key_plain mapped class key select firm.stage.has related.target fits refl in
        let sent = sent_rows select w two.value two.between firm plain two.first in
        let of = key_rows mapped class key select (Ok two.value) firm.stage.has related.target refl sent.0.kinds sent.0.given in
        let own = on_own_goes (take_first mapped class two.value) two.between end v two.second in
        let both = first_fit two.value two.between.own end v.own of sent.1.left.leaves.graph sent.1.left.fit own.goes in
        record { leaves = firm_then place mapped w two.between v sent.1 (record { left = both.0; store = own.store }); of = both.1 }

    found_firm : (key : List Value) (v : World) (end held : Option ObjId) → key_fits mapped class key ≡ true → find_identity w.own.graph root key ≡ held → Goes (found_or_load mapped class key w.own.graph held) w end v → IsEndFit w v end
    found_firm key v end None fits is g = key_firm key v end fits g
    found_firm key v end (Some object) fits is g =
        let put = given (if_of w.own.graph mapped class object) end w v g in
        let stands = found_stands w.own.graph root key object firm.stage.graph.rooted is in
        record {
          leaves = firm_same place mapped w v put.1 firm;
          of = subst (λ (u : World). end_fits u.own.graph.roots root end ≡ true) put.1
              (subst (λ (found : Option ObjId). end_fits w.own.graph.roots root found ≡ true) put.0 (known_of mapped w.own.graph class key object firm.stage.fit stands.0 stands.1));
        }

    end_firm : (key : List Value) (v : World) (end : Option ObjId) (null : Bool) → has_null key ≡ null → (has_null key ≡ false → key_fits mapped class key ≡ true)
        → Goes (if null then give None else by_own (λ (own : Loading). found_or_load mapped class key own.graph (find_identity own.graph root key))) w end v → IsEndFit w v end
    end_firm key v end true is fits g =
        let put = given None end w v g in
        record { leaves = firm_same place mapped w v put.1 firm; of = subst (λ (found : Option ObjId). end_fits v.own.graph.roots root found ≡ true) put.0 refl }
    end_firm key v end false is fits g =
        found_firm key v end (find_identity w.own.graph root key) (fits is) refl (by_own_goes (λ (own : Loading). found_or_load mapped class key own.graph (find_identity own.graph root key)) w end v g)

    target_firm : (v : World) → relation.many ≡ false → Goes (load_target mapped relation owner place) w tt v → LeavesFirm place mapped w v
    unfolding load_target refresh_key read_target find_or_load
    target_firm v single g =
        let refreshed = λ (own : Loading). refresh_if (is_key_expired mapped relation (object_at own.graph owner)) mapped owner in
        let sought_by = λ (own : Loading). find_or_load mapped class (foreign_key mapped relation (object_at own.graph owner)) in
        let two = parted (by_own refreshed) (load_end mapped relation owner place) w tt v (record { answer = g.answer; leaves = g.leaves }) in
        let fresh = by_own_goes refreshed w two.value two.between two.first in
        let still : w ≡ two.between = (given tt two.value w two.between (subst (λ (b : Bool). Goes (refresh_if b mapped owner) w two.value two.between) (ready.held single) fresh)).1 in
        let rest : Goes (load_end mapped relation owner place tt) w tt v = subst (λ (x : World). Goes (load_end mapped relation owner place tt) x tt v) (sym still) (record { answer = two.second.answer; leaves = two.second.leaves }) in
        let three = parted (by_own sought_by) (λ (end : Option ObjId). changes (end_filled owner place end)) w tt v (record { answer = rest.answer; leaves = rest.leaves }) in
        let key : List Value = foreign_key mapped relation (object_at w.own.graph owner) in
        let asked = by_own_goes sought_by w three.value three.between three.first in
        let next : World = three.between in
        let sought = end_firm key next three.value (has_null key) refl (target_fits mapped relation place owner w firm ready.owner single) (record { answer = asked.answer; leaves = asked.leaves }) in
        let left = sought.leaves.left in
        let fit = end_fit place mapped relation next.own owner left.fit (child_later place mapped relation w.own.graph next.own.graph owner left.leaves child) three.value single sought.of in
        let put : LeavesFirm place mapped next (record { own = end_filled owner place three.value next.own; store = next.store }) = record { left = record { leaves = end_leaves place owner three.value next.own left.leaves.graph; fit = fit }; store = refl } in
        subst (LeavesFirm place mapped w) (changed_to (end_filled owner place three.value) next tt v three.second) (firm_then place mapped w next _ sought.leaves put)

    link_firm : (v : World) (many : Bool) → relation.many ≡ many → Goes (if many then load_collection mapped relation owner place else load_target mapped relation owner place) w tt v → LeavesFirm place mapped w v
    link_firm v true many g = collection_firm v many g
    link_firm v false single g = target_firm v single g

    pub lazy_firm : (v : World) → Goes (load_lazy mapped owner place) w tt v → LeavesFirm place mapped w v
    lazy_firm v g = link_firm v relation.many refl (lazy_by mapped relation place owner w v ready.owner g)

-- ---- several lazy loads

-- who was persistent is
pub persistent_later : (start now : Graph) (object : ObjId) → IsGraph start.objects start.roots → Kept start now → IsObject start object → (object_at start object).state ≡ Persistent → (object_at now object).state ≡ Persistent
persistent_later start now object is kept made persistent =
    let identified : is_identified own ≡ true = is.identified (place_of object) no_object (omega (arith, made.0, made.1)) in
    by own.identity refl (ap (λ (state : State). if has_identity state then is_some own.identity else not (is_some own.identity)) (sym persistent) ∙ identified)
  where
    own : Object
    own = object_at start object

    by : (identity : Option (List Value)) → (object_at start object).identity ≡ identity → is_some (object_at start object).identity ≡ true → (object_at now object).state ≡ Persistent
    by None here some = absurd (let never = sym (ap is_some here) ∙ some in cc)
    by (Some key) here some =
        let root : ClassId = root_at start object in
        let holding : holds root key (object_at start object, root) ≡ true =
        ap (λ (state : State). is_persistent state && ((root.0 == root.0) && has_key key (object_at start object).identity)) persistent
        ∙ itself root.0 (has_key key (object_at start object).identity) (ap (has_key key) here ∙ same_equiv.refl key) in
        let later = kept.stays.stand root key object (made, holding) in
        persistent_one (object_at now object).state (and_parts (is_persistent (object_at now object).state) ((root_at now object).0 == root.0 && has_key key (object_at now object).identity) later.1).0

module _ (mapped : Mapped) (start : Graph) (arena : IsGraph start.objects start.roots) where
  ready_later : (u : World) (object : ObjId) (place : RelNo) → Kept start u.own.graph → CanBeRead mapped start (object, place) → CanBeRead mapped u.own.graph (object, place)
  ready_later u object place kept can =
      let made = can.owner.made in
      let same : (object_at u.own.graph object).class ≡ (object_at start object).class = kept.classes object made in
      let relation : Relation = relation_of mapped (object_at start object).class place in
      let is : relation_of mapped (object_at u.own.graph object).class place ≡ relation = ap (λ (class : ClassId). relation_of mapped class place) same in
      subst (λ (one : Relation). IsReady mapped one place u.own.graph object) (sym is)
      (record {
        owner = record {
          made = made_later start u.own.graph object kept.stays made;
          persistent = persistent_later start u.own.graph object arena kept made can.owner.persistent;
          within = subst (λ (class : ClassId). place.0 < length (relations_of mapped class)) (sym same) can.owner.within;
          is = is;
        };
        held = λ single. key_held mapped relation start u.own.graph object made kept (can.held single);
      })

  links_go : (links : List (ObjId × RelNo)) (n : Unit {0}) (u v : World) → AllByRecursion (CanBeRead mapped start) links → Kept start u.own.graph → IsFirm mapped u → Goes (each (load_link mapped) n links) u tt v → IsFit mapped v.own.graph
  unfolding each
  links_go [] n u v can kept firm g = subst (λ (x : World). IsFit mapped x.own.graph) (given n tt u v g).1 firm.stage.fit
  links_go ((object, place) ∷ links) n u v can kept firm g =
      let two = parted (load_link mapped (object, place) n) (λ (m : Unit {0}). each (load_link mapped) m links) u tt v g in
      let x : World = two.between in
      let ready = ready_later u object place kept can.0 in
      let one = lazy_firm place mapped (relation_of mapped (object_at u.own.graph object).class place) object u firm ready x two.first in
      links_go links two.value x v can.1 (kept_then start u.own.graph x.own.graph kept (kept_by place u.own.graph x.own.graph one.left.leaves)) (firm_later place mapped u x firm one) two.second

pub links_fit : (mapped : Mapped) (first lazy : World) (links : List (ObjId × RelNo)) → IsFirm mapped first → All (CanBeRead mapped first.own.graph) links → Goes (load_links mapped links) first tt lazy → IsFit mapped lazy.own.graph
links_fit mapped first lazy links firm can g =
    links_go mapped first.own.graph firm.stage.graph links tt first lazy (recursion_from_All (CanBeRead mapped first.own.graph) links can) (kept_same first.own.graph firm.stage.graph) firm g
