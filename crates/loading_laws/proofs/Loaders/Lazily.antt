-- Links that are read lazily, one after another: each read leaves all others, and in the end each holds what is related.
use Rattle.std.proofs.Common.{◌≡◌, ℕ, ◌==◌, Bool, true, false, not, ◌&&◌, ◌||◌, List, [], ◌∷◌, Option, None, Some, if◌then◌else◌, refl, sym, ap, subst, ◌∙◌, arith}
use Rattle.std.specs.Prelude.{slice_index_or, slice_set}
use Rattle.std.specs.List.{All, AllByRecursion, list_any}
use Rattle.std.proofs.lemmas.Bool.{eqb-false, eqb-true, ne_eqb}
use Rattle.std.proofs.lemmas.List.{get_or-set_other}
use Rattle.std.proofs.lemmas.List.Elements.{recursion_from_All}
use Rattle.base_core.specs.declared.ids.ClassId.{ClassId}
use Rattle.base_core.specs.declared.ids.ObjId.{ObjId}
use Rattle.base_core.specs.declared.ids.RelNo.{RelNo}
use Rattle.base_core.specs.declared.value.Value.{Value}
use Rattle.schema_core.specs.Tables.{has_null}
use Rattle.sql_semantics.specs.Created.{bare}
use Rattle.sql_semantics.specs.Eval.{Row}
use Rattle.class_types.specs.declared.mapped.Relation.{Relation}
use Rattle.class_mapping.specs.Mapped.{IsClass, Mapped, root_of}
use Rattle.mapping_laws.specs.Hierarchies.{HasHierarchies}
use Rattle.keeper_core.specs.Programs.{each, give}
use Rattle.keeper_core.specs.Beside.{by_own, changes, on_own}
use Rattle.object_arena.specs.declared.object.Link.{Link}
use Rattle.object_arena.specs.declared.object.Link.TheVariants.{Unset}
use Rattle.object_arena.specs.declared.object.Object.{Object}
use Rattle.object_arena.specs.Fit.{relation_of}
use Rattle.object_arena.specs.Graph.{Graph, IsObject, no_object, object_at, place_of}
use Rattle.object_arena.specs.Identity.{IsGraph, find_identity}
use Rattle.collection_selects.specs.Collections.{members_select}
use Rattle.load_selects.specs.Selects.{key_select}
use Rattle.load_rows.specs.Loading.{Loading, take_row}
use Rattle.load_rows.specs.Reading.{identity_key}
use Rattle.load_rows.specs.Links.{collection_filled, collection_of, end_filled, end_of, in_key_order, link_at, with_loaded}
use Rattle.load_calls.specs.Reading.{World, read}
use Rattle.load_calls.specs.Collections.{load_collection, read_members, take_members, take_rows}
use Rattle.load_targets.specs.ForeignKeys.{foreign_key, is_key_expired}
use Rattle.load_targets.specs.Targets.{find_or_load, found_or_load, if_of, load_by, load_end, load_key, load_lazy, load_target, read_target, refresh_if, refresh_key, take_first}
use Rattle.load_batches.specs.Batches.{is_unloaded}
use Rattle.loading_laws.specs.Answers.Answers.{AreRowsOf}
use Rattle.loading_laws.specs.Strategies.Filled.{Goes}
use Rattle.loading_laws.specs.Strategies.Standing.{Keeps}
use Rattle.loading_laws.proofs.Strategies.Goes.{by_own_goes, changed_to, given, on_own_goes, parted, read_goes, row_taken, rows_taken}
use Rattle.loading_laws.proofs.Strategies.Standing.{keeps_same, made_later}
use Rattle.loading_laws.specs.Loaders.Calls.{HoldsRelated}
use Rattle.loading_laws.specs.Loaders.Lazily.{CanBeRead, LeavesOthers, is_link, load_link, load_links}
use Rattle.loading_laws.specs.Loaders.Linked.{AgreesWithMap, HoldsRows, IsReady, IsStage, related_to}
use Rattle.loading_laws.specs.Loaders.Options.{Leaves, is_left}
use Rattle.loading_laws.proofs.Loaders.EachKind.{IsOpen, IsSet, opened, owned_related}
use Rattle.loading_laws.proofs.Loaders.Frames.{collection_leaves, end_leaves, framed_row, framed_rows, leaves_same, leaves_then}
use Rattle.loading_laws.proofs.Loaders.Later.{IsLater, Kept, agrees_before, holds_left, kept_by, kept_same, kept_then, key_held, later_same, later_then, open_later, related_later, set_later}
use Rattle.loading_laws.proofs.Loaders.Loads.{lazily, lazy_by}

-- ---- what one read leaves

pub record IsReadAt (place : RelNo) (owner : ObjId) (w v : World) : Type 0 where
  pub left : LeavesOthers place owner w.own.graph v.own.graph
  pub store : v.store ≡ w.store

-- objects were found or made, whose links all stay
record IsSought (place : RelNo) (w v : World) : Type 0 where
  leaves : Leaves place w.own.graph v.own.graph
  keeps : Keeps w.own.graph v.own.graph
  store : v.store ≡ w.store

abbrev InArena : World → Type 0
InArena w = IsGraph w.own.graph.objects w.own.graph.roots

module _ (place : RelNo) (owner : ObjId) where
  put_others : (link : Option Link) (own : Loading) → IsObject own.graph owner → (object : ObjId) → IsObject own.graph object → (object.0 == owner.0) ≡ false → (object_at (with_loaded owner place link own).graph object).links ≡ (object_at own.graph object).links
  put_others None own there object made apart = refl
  put_others (Some link) own there object made apart =
      let new : Object = record (object_at own.graph owner) { links = slice_set (object_at own.graph owner).links place.0 link } in
      let differs : object.0 ≡ owner.0 → ⊥ = eqb-false object.0 owner.0 apart in
      ap (λ (o : Object). o.links) (get_or-set_other own.graph.objects (place_of owner) (place_of object) new no_object (λ same. differs (omega (arith, same, made.0, there.0))))

  collection_put : (found : List ObjId) (own : Loading) → IsGraph own.graph.objects own.graph.roots → IsObject own.graph owner → LeavesOthers place owner own.graph (collection_filled owner place found own).graph
  unfolding collection_filled
  collection_put found own is there = record {
    leaves = collection_leaves place owner found own is;
    others = put_others (collection_of (in_key_order own.graph found) (link_at own.graph owner place)) own there;
  }

  end_put : (end : Option ObjId) (own : Loading) → IsGraph own.graph.objects own.graph.roots → IsObject own.graph owner → LeavesOthers place owner own.graph (end_filled owner place end own).graph
  unfolding end_filled
  end_put end own is there = record { leaves = end_leaves place owner end own is; others = put_others (end_of end (link_at own.graph owner place)) own there }

  -- the link is put behind what was sought
  put_then : (w v : World) (now : Loading) → IsSought place w v → LeavesOthers place owner v.own.graph now.graph → IsReadAt place owner w (record { own = now; store = v.store })
  put_then w v now sought put = record {
    left = record {
      leaves = leaves_then place w.own.graph v.own.graph now.graph sought.leaves put.leaves;
      others = λ object made apart. put.others object (made_later w.own.graph v.own.graph object sought.keeps.all made) apart ∙ sought.keeps.links object made;
    };
    store = sought.store;
  }

  sought_same : (w v : World) → w ≡ v → InArena w → IsSought place w v
  sought_same w v same is = subst (IsSought place w) same (record { leaves = leaves_same place w.own.graph is; keeps = keeps_same w.own.graph; store = refl })

  module _ (mapped : Mapped) (relation : Relation) (has : HasHierarchies mapped) (declared : IsClass mapped relation.target) where
    abbrev class : ClassId
    class = relation.target

    collection_read : (w v : World) → InArena w → IsObject w.own.graph owner → Goes (load_collection mapped relation owner place) w tt v → IsReadAt place owner w v
    unfolding load_collection read_members
    collection_read w v is there g =
        let asked = λ (own : Loading). read mapped.schema (members_select mapped relation (identity_key own.graph owner)) in
        let one = parted (by_own asked) (λ (rows : List Row). take_members mapped relation owner place rows) w tt v (record { answer = g.answer; leaves = g.leaves }) in
        let sent = read_goes mapped.schema (members_select mapped relation (identity_key w.own.graph owner)) w one.value one.between (by_own_goes asked w one.value one.between one.first) in
        let two = parted (on_own (take_rows mapped class one.value)) (λ (members : List ObjId). changes (collection_filled owner place members)) one.between tt v one.second in
        let own = on_own_goes (take_rows mapped class one.value) one.between two.value two.between two.first in
        let graph : Graph = two.between.own.graph in
        let here : InArena one.between = subst (λ (one : Graph). IsGraph one.objects one.roots) (sym sent.graph) is in
        let framed : Leaves place one.between.own.graph graph = framed_rows place mapped class has declared one.value one.between.own two.between.own two.value here own.goes in
        let taken = rows_taken mapped class has.paired one.value one.between.own two.value two.between.own here.rooted own.goes in
        let sought : IsSought place w two.between = record {
          leaves = subst (λ (one : Graph). Leaves place one graph) sent.graph framed;
          keeps = subst (λ (one : Graph). Keeps one graph) sent.graph taken.keeps;
          store = own.store ∙ sent.store;
        } in
        subst (IsReadAt place owner w) (changed_to (collection_filled owner place two.value) two.between tt v two.second)
        (put_then w two.between (collection_filled owner place two.value two.between.own) sought
        (collection_put two.value two.between.own framed.graph (made_later w.own.graph graph owner sought.keeps.all there)))

    first_sought : (rows : List Row) (w u v : World) (end : Option ObjId) → InArena w → u.own.graph ≡ w.own.graph → Goes (take_first mapped class rows) u.own end v.own → Leaves place w.own.graph v.own.graph × Keeps w.own.graph v.own.graph
    unfolding take_first
    first_sought [] w u v end is same g =
        let graph : w.own.graph ≡ v.own.graph = sym same ∙ ap (λ (own : Loading). own.graph) (given None end u.own v.own g).1 in
        subst (λ (one : Graph). Leaves place w.own.graph one × Keeps w.own.graph one) graph (leaves_same place w.own.graph is, keeps_same w.own.graph)
    first_sought (row ∷ rows) w u v end is same g =
        let two = parted (take_row mapped class row) (λ (object : ObjId). give (Some object)) u.own end v.own g in
        let graph : two.between.graph ≡ v.own.graph = ap (λ (own : Loading). own.graph) (given (Some two.value) end two.between v.own two.second).1 in
        let here : InArena u = subst (λ (one : Graph). IsGraph one.objects one.roots) (sym same) is in
        let framed : Leaves place u.own.graph two.between.graph = framed_row place mapped class has declared row u.own two.between two.value here two.first in
        let taken = row_taken mapped class has.paired row u.own two.between two.value here.rooted two.first in
        subst (λ (one : Graph). Leaves place w.own.graph one × Keeps w.own.graph one) graph
        (subst (λ (one : Graph). Leaves place one two.between.graph × Keeps one two.between.graph) same (framed, taken.keeps))

    key_sought : (key : List Value) (w v : World) (end : Option ObjId) → InArena w → Goes (load_key mapped class key) w end v → IsSought place w v
    unfolding load_key
    key_sought key w v end is g =
        let two = parted (read mapped.schema (key_select mapped class key)) (λ (rows : List Row). on_own (take_first mapped class rows)) w end v (record { answer = g.answer; leaves = g.leaves }) in
        let sent = read_goes mapped.schema (key_select mapped class key) w two.value two.between two.first in
        let own = on_own_goes (take_first mapped class two.value) two.between end v two.second in
        let both = first_sought two.value w two.between v end is sent.graph own.goes in
        record { leaves = both.0; keeps = both.1; store = own.store ∙ sent.store }

    found_sought : (key : List Value) (w v : World) (end held : Option ObjId) → InArena w → Goes (found_or_load mapped class key w.own.graph held) w end v → IsSought place w v
    found_sought key w v end None is g = key_sought key w v end is g
    found_sought key w v end (Some object) is g = sought_same w v (given (if_of w.own.graph mapped class object) end w v g).1 is

    end_sought : (key : List Value) (w v : World) (end : Option ObjId) (null : Bool) → InArena w
        → Goes (if null then give None else by_own (λ (own : Loading). found_or_load mapped class key own.graph (find_identity own.graph (root_of mapped class) key))) w end v → IsSought place w v
    end_sought key w v end true is g = sought_same w v (given None end w v g).1 is
    end_sought key w v end false is g =
        found_sought key w v end (find_identity w.own.graph (root_of mapped class) key) is (by_own_goes (λ (own : Loading). found_or_load mapped class key own.graph (find_identity own.graph (root_of mapped class) key)) w end v g)

    target_read : (w v : World) → InArena w → IsObject w.own.graph owner → is_key_expired mapped relation (object_at w.own.graph owner) ≡ false → Goes (load_target mapped relation owner place) w tt v → IsReadAt place owner w v
    unfolding load_target refresh_key read_target find_or_load
    target_read w v is there held g =
        let refreshed = λ (own : Loading). refresh_if (is_key_expired mapped relation (object_at own.graph owner)) mapped owner in
        let sought_by = λ (own : Loading). find_or_load mapped class (foreign_key mapped relation (object_at own.graph owner)) in
        let two = parted (by_own refreshed) (load_end mapped relation owner place) w tt v (record { answer = g.answer; leaves = g.leaves }) in
        let fresh = by_own_goes refreshed w two.value two.between two.first in
        let still : w ≡ two.between = (given tt two.value w two.between (subst (λ (b : Bool). Goes (refresh_if b mapped owner) w two.value two.between) held fresh)).1 in
        let rest : Goes (load_end mapped relation owner place tt) w tt v = subst (λ (x : World). Goes (load_end mapped relation owner place tt) x tt v) (sym still) (record { answer = two.second.answer; leaves = two.second.leaves }) in
        let three = parted (by_own sought_by) (λ (end : Option ObjId). changes (end_filled owner place end)) w tt v (record { answer = rest.answer; leaves = rest.leaves }) in
        let key : List Value = foreign_key mapped relation (object_at w.own.graph owner) in
        let asked = by_own_goes sought_by w three.value three.between three.first in
        let sought = end_sought key w three.between three.value (has_null key) is (record { answer = asked.answer; leaves = asked.leaves }) in
        subst (IsReadAt place owner w) (changed_to (end_filled owner place three.value) three.between tt v three.second)
        (put_then w three.between (end_filled owner place three.value three.between.own) sought
        (end_put three.value three.between.own sought.leaves.graph (made_later w.own.graph three.between.own.graph owner sought.keeps.all there)))

    link_read : (w v : World) (many : Bool) → relation.many ≡ many → InArena w → IsObject w.own.graph owner → (relation.many ≡ false → is_key_expired mapped relation (object_at w.own.graph owner) ≡ false)
        → Goes (if many then load_collection mapped relation owner place else load_target mapped relation owner place) w tt v → IsReadAt place owner w v
    link_read w v true many is there held g = collection_read w v is there g
    link_read w v false single is there held g = target_read w v is there (held single) g

pub lazy_leaves : (mapped : Mapped) (relation : Relation) (place : RelNo) (owner : ObjId) (w after : World) → IsStage mapped w → IsReady mapped relation place w.own.graph owner → Goes (load_lazy mapped owner place) w tt after
    → LeavesOthers place owner w.own.graph after.own.graph
lazy_leaves mapped relation place owner w after stage ready g =
    (link_read place owner mapped relation stage.has (owned_related mapped relation place w owner stage ready.owner).target w after relation.many refl stage.graph ready.owner.made ready.held (lazy_by mapped relation place owner w after ready.owner g)).left

-- ---- one link and the reads of several

-- a lazy load in a later world reads the relationship that stood at the place
load_goes : (mapped : Mapped) (start : Graph) (owner : ObjId) (place : RelNo) (u v : World) → IsObject start owner → Kept start u.own.graph → Goes (load_lazy mapped owner place) u tt v
    → Goes (load_by mapped (relation_of mapped (object_at start owner).class place) owner place) u tt v
unfolding load_lazy
load_goes mapped start owner place u v made kept g =
    subst (λ (class : ClassId). Goes (load_by mapped (relation_of mapped class place) owner place) u tt v) (kept.classes owner made)
    (by_own_goes (λ (own : Loading). load_by mapped (relation_of mapped (object_at own.graph owner).class place) owner place) u tt v (record { answer = g.answer; leaves = g.leaves }))

module _ (mapped : Mapped) (w : World) (stage : IsStage mapped w) where
  -- one read of several
  pub one_read : (object : ObjId) (other : RelNo) (u v : World) → CanBeRead mapped w.own.graph (object, other) → Kept w.own.graph u.own.graph → Goes (load_lazy mapped object other) u tt v → IsReadAt other object u v
  one_read object other u v can kept g =
      let there : Relation = relation_of mapped (object_at w.own.graph object).class other in
      link_read other object mapped there stage.has (owned_related mapped there other w object stage can.owner).target u v there.many refl kept.graph (made_later w.own.graph u.own.graph object kept.stays can.owner.made)
      (λ single. key_held mapped there w.own.graph u.own.graph object can.owner.made kept (can.held single)) (load_goes mapped w.own.graph object other u v can.owner.made kept g)

  kept_each : (links : List (ObjId × RelNo)) (n : Unit {0}) (u v : World) → AllByRecursion (CanBeRead mapped w.own.graph) links → Kept w.own.graph u.own.graph → Goes (each (load_link mapped) n links) u tt v → IsLater u v
  unfolding each
  kept_each [] n u v can kept g = later_same u v (given n tt u v g).1 kept.graph
  kept_each ((object, other) ∷ links) n u v can kept g =
      let two = parted (load_link mapped (object, other) n) (λ (m : Unit {0}). each (load_link mapped) m links) u tt v g in
      let x : World = two.between in
      let one = one_read object other u x can.0 kept two.first in
      let here : Kept u.own.graph x.own.graph = kept_by other u.own.graph x.own.graph one.left.leaves in
      later_then u x v (record { kept = here; store = one.store }) (kept_each links two.value x v can.1 (kept_then w.own.graph u.own.graph x.own.graph kept here) two.second)

  -- what the reads of all of them keep
  pub links_kept : (links : List (ObjId × RelNo)) (after : World) → All (CanBeRead mapped w.own.graph) links → Goes (load_links mapped links) w tt after → IsLater w after
  links_kept links after can g = kept_each links tt w after (recursion_from_All (CanBeRead mapped w.own.graph) links can) (kept_same w.own.graph stage.graph) g

module _ (mapped : Mapped) (relation : Relation) (place : RelNo) (owner : ObjId) (all : List Row) (w : World) (stage : IsStage mapped w) (ready : IsReady mapped relation place w.own.graph owner)
    (rows : AreRowsOf mapped relation.target (bare w.store.tables) all) (unloaded : is_unloaded (link_at w.own.graph owner place) ≡ true) where
  abbrev start : Graph
  start = w.own.graph

  abbrev wanted : List Row
  wanted = related_to mapped relation (bare w.store.tables) all start owner

  made : IsObject start owner
  made = ready.owner.made

  -- the link is filled
  abbrev pub Done : World → Type 0
  Done u = HoldsRows mapped relation wanted (link_at start owner place) u.own.graph (link_at u.own.graph owner place)

  -- it waits still
  pub record Waits (u : World) : Type 0 where
    pub kept : Kept start u.own.graph
    pub store : u.store ≡ w.store
    pub link : link_at u.own.graph owner place ≡ link_at start owner place

  record Tail (u v : World) : Type 0 where
    kept : Kept u.own.graph v.own.graph
    done : Done u → Done v

  tail_go : (links : List (ObjId × RelNo)) (n : Unit {0}) (u v : World) → AllByRecursion (CanBeRead mapped start) links → Kept start u.own.graph → Goes (each (load_link mapped) n links) u tt v → Tail u v
  unfolding each
  tail_go [] n u v can kept g =
      let same : u ≡ v = (given n tt u v g).1 in
      record { kept = subst (λ (x : World). Kept u.own.graph x.own.graph) same (kept_same u.own.graph kept.graph); done = λ done. subst Done same done }
  tail_go ((object, other) ∷ links) n u v can kept g =
      let two = parted (load_link mapped (object, other) n) (λ (m : Unit {0}). each (load_link mapped) m links) u tt v g in
      let x : World = two.between in
      let leaves : Leaves other u.own.graph x.own.graph = (one_read mapped w stage object other u x can.0 kept two.first).left.leaves in
      let rest = tail_go links two.value x v can.1 (kept_then start u.own.graph x.own.graph kept (kept_by other u.own.graph x.own.graph leaves)) two.second in
      record {
        kept = kept_then u.own.graph x.own.graph v.own.graph (kept_by other u.own.graph x.own.graph leaves) rest.kept;
        done = λ done. rest.done (holds_left mapped relation place other owner wanted (link_at start owner place) u.own.graph x.own.graph (made_later start u.own.graph owner kept.stays made) leaves done);
      }

  -- its own read
  pub filled_then : (u v : World) → Waits u → AgreesWithMap mapped relation all u.own.graph owner → Goes (load_lazy mapped owner place) u tt v → Done v
  filled_then u v waits agrees g =
      let set : IsSet mapped relation all w = record { has = stage.has; related = owned_related mapped relation place w owner stage ready.owner; rooted = stage.graph.rooted; held = stage.held; rows = rows } in
      let free : IsOpen mapped relation place u.own.graph owner = open_later mapped relation place start u.own.graph owner (opened mapped relation place w owner stage ready unloaded) waits.kept (ap is_unloaded waits.link ∙ unloaded) in
      let goes : Goes (load_by mapped relation owner place) u tt v = subst (λ (named : Relation). Goes (load_by mapped named owner place) u tt v) ready.owner.is (load_goes mapped start owner place u v made waits.kept g) in
      let done = lazily mapped relation place all u (set_later mapped relation all w u set waits.kept waits.store) owner v relation.far relation.many refl refl free agrees goes in
      subst (λ (link : Link). HoldsRows mapped relation wanted link v.own.graph (link_at v.own.graph owner place)) waits.link
      (subst (λ (found : List Row). HoldsRows mapped relation found (link_at u.own.graph owner place) v.own.graph (link_at v.own.graph owner place)) (related_later mapped relation all w u owner made waits.kept waits.store ready.held) done)

  -- the read of another link
  pub waits_then : (object : ObjId) (other : RelNo) (u v : World) → Waits u → IsReadAt other object u v → link_at v.own.graph owner place ≡ link_at u.own.graph owner place → Waits v
  waits_then object other u v waits one same = record {
    kept = kept_then start u.own.graph v.own.graph waits.kept (kept_by other u.own.graph v.own.graph one.left.leaves);
    store = one.store ∙ waits.store;
    link = same ∙ waits.link;
  }

  pub link_same : (object : ObjId) (other : RelNo) (u v : World) → Waits u → IsReadAt other object u v → (a b : Bool) → (object.0 == owner.0) ≡ a → (other.0 == place.0) ≡ b → (a && b) ≡ false → link_at v.own.graph owner place ≡ link_at u.own.graph owner place
  link_same object other u v waits one true true p q never = absurd cc
  link_same object other u v waits one true false p q never =
      let apart : (place.0 == other.0) ≡ false = ne_eqb place.0 other.0 (λ same. eqb-false other.0 place.0 q (sym same)) in
      let left : is_left other u.own.graph owner place ≡ true = ap (λ (b : Bool). not (b && is_unloaded (link_at u.own.graph owner place))) apart in
      one.left.leaves.links owner (made_later start u.own.graph owner waits.kept.stays made) place left
  link_same object other u v waits one false b p q never =
      let apart : (owner.0 == object.0) ≡ false = ne_eqb owner.0 object.0 (λ same. eqb-false object.0 owner.0 p (sym same)) in
      ap (λ (links : List Link). slice_index_or links place.0 Unset) (one.left.others owner (made_later start u.own.graph owner waits.kept.stays made) apart)

  links_go : (links : List (ObjId × RelNo)) (n : Unit {0}) (u v : World) → AllByRecursion (CanBeRead mapped start) links → list_any (is_link owner place) links ≡ true → Waits u → AgreesWithMap mapped relation all v.own.graph owner
      → Goes (each (load_link mapped) n links) u tt v → Done v
  unfolding each
  links_go [] n u v can there waits agrees g = absurd cc
  links_go ((object, other) ∷ links) n u v can there waits agrees g =
      let two = parted (load_link mapped (object, other) n) (λ (m : Unit {0}). each (load_link mapped) m links) u tt v g in
      let x : World = two.between in
      let one = one_read mapped w stage object other u x can.0 waits.kept two.first in
      let leaves : Kept u.own.graph x.own.graph = kept_by other u.own.graph x.own.graph one.left.leaves in
      let rest = tail_go links two.value x v can.1 (kept_then start u.own.graph x.own.graph waits.kept leaves) two.second in
      let before : AgreesWithMap mapped relation all u.own.graph owner =
      agrees_before mapped relation all u.own.graph v.own.graph owner waits.kept.graph (made_later start u.own.graph owner waits.kept.stays made) (kept_then u.own.graph x.own.graph v.own.graph leaves rest.kept)
      (λ single. key_held mapped relation start u.own.graph owner made waits.kept (ready.held single)) agrees in
      by x two.first one rest before (object.0 == owner.0) (other.0 == place.0) refl refl (λ more later. links_go links two.value x v can.1 more later agrees two.second)
    where
      by : (x : World) → Goes (load_lazy mapped object other) u tt x → IsReadAt other object u x → Tail x v → AgreesWithMap mapped relation all u.own.graph owner → (a b : Bool) → (object.0 == owner.0) ≡ a → (other.0 == place.0) ≡ b
          → (list_any (is_link owner place) links ≡ true → Waits x → Done v) → Done v
      by x first one rest before true true p q more =
          let at_place : Goes (load_lazy mapped object place) u tt x = subst (λ (r : RelNo). Goes (load_lazy mapped object r) u tt x) (ap (λ (k : ℕ). let r : RelNo = record { 0 = k } in r) (eqb-true other.0 place.0 q)) first in
          let here : Goes (load_lazy mapped owner place) u tt x = subst (λ (o : ObjId). Goes (load_lazy mapped o place) u tt x) (ap (λ (k : ℕ). let o : ObjId = record { 0 = k } in o) (eqb-true object.0 owner.0 p)) at_place in
          rest.done (filled_then u x waits before here)
      by x first one rest before true false p q more =
          more (sym (ap (λ (a : Bool). (a && (other.0 == place.0)) || list_any (is_link owner place) links) p ∙ ap (λ (b : Bool). b || list_any (is_link owner place) links) q) ∙ there)
          (waits_then object other u x waits one (link_same object other u x waits one true false p q refl))
      by x first one rest before false b p q more =
          more (sym (ap (λ (a : Bool). (a && (other.0 == place.0)) || list_any (is_link owner place) links) p) ∙ there) (waits_then object other u x waits one (link_same object other u x waits one false b p q refl))

  pub began : Waits w
  began = record { kept = kept_same start stage.graph; store = refl; link = refl }

  pub links_read : (links : List (ObjId × RelNo)) (after : World) → All (CanBeRead mapped start) links → list_any (is_link owner place) links ≡ true → AgreesWithMap mapped relation all after.own.graph owner → Goes (load_links mapped links) w tt after
      → HoldsRelated mapped relation place all w after owner
  links_read links after can there agrees g = links_go links tt w after (recursion_from_All (CanBeRead mapped start) links can) there began agrees g
