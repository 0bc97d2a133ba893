-- Links at several places, loaded one place after the other.
use Rattle.std.proofs.Common.{◌≡◌, ℕ, ◌<◌, ◌==◌, Bool, true, false, not, ◌&&◌, ◌||◌, List, [], ◌∷◌, ◌++◌, length, Option, None, Some, if◌then◌else◌, is_some, refl, sym, ap, subst, ◌∙◌, arith}
use Rattle.std.specs.List.{All, AllByRecursion, flat_map, list_any}
use Rattle.std.proofs.lemmas.Bool.{and_parts, eq-eqb, eqb-false, eqb-true, ne_eqb}
use Rattle.std.proofs.lemmas.List.Elements.{All-from_recursion, recursion_from_All}
use Rattle.base_core.specs.declared.ids.ClassId.{ClassId}
use Rattle.base_core.specs.declared.ids.ObjId.{ObjId}
use Rattle.base_core.specs.declared.ids.RelNo.{RelNo}
use Rattle.base_core.specs.declared.value.Value.{Value}
use Rattle.schema_core.specs.Catalog.{Catalog}
use Rattle.expr_types.specs.declared.select.Select.{Select}
use Rattle.sql_semantics.specs.Created.{bare}
use Rattle.sql_semantics.specs.Eval.{Row}
use Rattle.class_types.specs.declared.mapped.Relation.{Relation}
use Rattle.class_mapping.specs.Mapped.{IsClass, Mapped, relations_of}
use Rattle.class_mapping.specs.Paired.{is_at_or_under}
use Rattle.class_mapping.specs.Related.{AreRelated, IsRelated}
use Rattle.class_mapping.proofs.Having.{some_of}
use Rattle.mapping_laws.specs.Hierarchies.{HasHierarchies}
use Rattle.keeper_core.specs.Programs.{Run, ◌>>=◌, each}
use Rattle.keeper_core.specs.Beside.{by_own, on_own}
use Rattle.object_arena.specs.declared.object.Link.{Link}
use Rattle.object_arena.specs.declared.object.Object.{Object}
use Rattle.object_arena.specs.declared.object.State.{State}
use Rattle.object_arena.specs.Fit.{relation_of}
use Rattle.object_arena.specs.Graph.{Graph, IsObject, has_identity, is_among, is_persistent, no_object, object_at, place_of, root_at}
use Rattle.object_arena.specs.Identity.{IsGraph, has_key, holds, is_identified}
use Rattle.object_arena.proofs.GraphLemmas.{same_equiv}
use Rattle.relations.specs.Mirror.{is_of}
use Rattle.load_rows.specs.Loading.{Loading}
use Rattle.load_rows.specs.Links.{link_at}
use Rattle.load_calls.specs.Reading.{World, read}
use Rattle.load_calls.proofs.CollectionLemmas.{related_at}
use Rattle.load_batches.specs.Batches.{IsOwner, batch_at, batch_starts, fill_batch, is_unloaded, keys_of, load_batch, load_each, load_from, load_members, read_batch, unloaded_owners}
use Rattle.load_batches.specs.declared.owners.Owner.{Owner}
use Rattle.collection_selects.specs.Collections.{batch_select}
use Rattle.load_ends.specs.Ends as ends
use Rattle.load_selects.specs.Selects.{targets_select}
use Rattle.load_queries.specs.Selectin.{IsOption, IsOwnerOf, if_owner, is_owner, load_option, load_options, load_selectin, load_together, owners_among}
use Rattle.load_queries.proofs.OwnerLemmas.{owner_tested, owner_under}
use Rattle.loading_laws.specs.Answers.Answers.{AreRowsOf}
use Rattle.loading_laws.proofs.Members.Choices.{every_has}
use Rattle.loading_laws.specs.Strategies.Filled.{Goes}
use Rattle.loading_laws.proofs.Strategies.Batch.{one_waiting}
use Rattle.loading_laws.proofs.Strategies.Goes.{by_own_goes, given, on_own_goes, parted, read_goes}
use Rattle.loading_laws.proofs.Strategies.Standing.{made_later}
use Rattle.loading_laws.specs.Loaders.Calls.{HoldsRelated}
use Rattle.loading_laws.specs.Loaders.Linked.{AgreesWithMap, HoldsRows, IsReady, IsStage, related_to}
use Rattle.loading_laws.specs.Loaders.Options.{HoldsItsKey, IsAnswered, Leaves}
use Rattle.loading_laws.proofs.Loaders.Frames.{IsFramed, framed_batch, framed_ends, framed_targets, leaves_same, leaves_then}
use Rattle.loading_laws.proofs.Loaders.EachKind.{IsOpen, IsSet, opened}
use Rattle.loading_laws.proofs.Loaders.Later.{IsLater, Kept, agrees_before, holds_left, kept_by, kept_same, kept_then, key_held, later_same, later_then, open_later, related_later, set_later}
use Rattle.loading_laws.proofs.Loaders.Loads.{among_unread, every_unread, together, unread, unread_goes}

-- ---- what the loads of one place leave

-- the objects are left, and the store is the same
record IsLeft (place : RelNo) (w v : World) : Type 0 where
  leaves : Leaves place w.own.graph v.own.graph
  store : v.store ≡ w.store

abbrev InArena : World → Type 0
InArena w = IsGraph w.own.graph.objects w.own.graph.roots

module _ (place : RelNo) where
  left_same : (w v : World) → w ≡ v → InArena w → IsLeft place w v
  left_same w v same is = subst (IsLeft place w) same (record { leaves = leaves_same place w.own.graph is; store = refl })

  left_then : (a b c : World) → IsLeft place a b → IsLeft place b c → IsLeft place a c
  left_then a b c p q = record { leaves = leaves_then place a.own.graph b.own.graph c.own.graph p.leaves q.leaves; store = q.store ∙ p.store }

  read_left : (schema : Catalog) (select : Select) (next : List (List Value) → Loading → Run Loading (Unit {0})) (u v : World) → InArena u → ((rows : List (List Value)) → IsFramed place (next rows)) → Goes (read schema select >>= λ rows. on_own (next rows)) u tt v
      → IsLeft place u v
  read_left schema select next u v is framed g =
      let two = parted (read schema select) (λ (rows : List (List Value)). on_own (next rows)) u tt v g in
      let sent = read_goes schema select u two.value two.between two.first in
      let own = on_own_goes (next two.value) two.between tt v two.second in
      let here : IsGraph two.between.own.graph.objects two.between.own.graph.roots = subst (λ (graph : Graph). IsGraph graph.objects graph.roots) (sym sent.graph) is in
      record { leaves = subst (λ (graph : Graph). Leaves place graph v.own.graph) sent.graph (framed two.value two.between.own v.own tt here own.goes); store = own.store ∙ sent.store }

  each_left : {A : Type 0} (step : A → Unit {0} → World → Run World (Unit {0})) (xs : List A) (n : Unit {0}) (u v : World) → ((x : A) (m : Unit {0}) (a b : World) → InArena a → Goes (step x m) a tt b → IsLeft place a b) → InArena u
      → Goes (each step n xs) u tt v → IsLeft place u v
  unfolding each
  each_left step [] n u v all is g = left_same u v (given n tt u v g).1 is
  each_left step (x ∷ xs) n u v all is g =
      let two = parted (step x n) (λ (m : Unit {0}). each step m xs) u tt v g in
      let one = all x n u two.between is two.first in
      left_then u two.between v one (each_left step xs two.value two.between v all one.leaves.graph two.second)

  module _ (mapped : Mapped) (relation : Relation) (has : HasHierarchies mapped) (declared : IsClass mapped relation.target) where
    batch_left : (owners : List Owner) (u v : World) → InArena u → Goes (load_batch mapped relation place owners) u tt v → IsLeft place u v
    unfolding load_batch read_batch
    batch_left [] u v is g = left_same u v (given tt tt u v (record { answer = g.answer; leaves = g.leaves })).1 is
    batch_left (first ∷ more) u v is g =
        read_left mapped.schema (batch_select mapped relation (keys_of (first ∷ more))) (fill_batch mapped relation place (first ∷ more)) u v is (framed_batch place mapped relation has declared (first ∷ more)) (record { answer = g.answer; leaves = g.leaves })

    keys_left : (keys : List (List Value)) (u v : World) → InArena u → Goes (ends.load_keys mapped relation.target keys) u tt v → IsLeft place u v
    unfolding ends.load_keys
    keys_left [] u v is g = left_same u v (given tt tt u v (record { answer = g.answer; leaves = g.leaves })).1 is
    keys_left (first ∷ more) u v is g =
        read_left mapped.schema (targets_select mapped relation.target (first ∷ more)) (ends.take_targets mapped relation.target) u v is (framed_targets place mapped relation.target has declared) (record { answer = g.answer; leaves = g.leaves })

    members_left : (owners : List ObjId) (u v : World) → InArena u → Goes (load_members mapped relation place owners) u tt v → IsLeft place u v
    unfolding load_members load_each by_own
    members_left owners u v is g =
        let waiting : List Owner = unloaded_owners u.own.graph place owners in
        each_left (load_from mapped relation place waiting) (batch_starts (length waiting)) tt u v (λ start m a b here h. batch_left (batch_at waiting start) a b here h) is (record { answer = g.answer; leaves = g.leaves })

    ends_left : (owners : List ObjId) (u v : World) → InArena u → Goes (ends.load_ends mapped relation place owners) u tt v → IsLeft place u v
    unfolding ends.load_ends ends.load_each by_own
    ends_left owners u v is g =
        let waiting : List ObjId = ends.unloaded u.own.graph place owners in
        let keys : List (List Value) = ends.wanted_keys mapped relation u.own.graph waiting in
        let two = parted (ends.load_all mapped relation.target keys) (λ (n : Unit {0}). on_own (ends.fill_owners mapped relation place waiting)) u tt v (record { answer = g.answer; leaves = g.leaves }) in
        let one =
        each_left (ends.load_from mapped relation.target keys) (batch_starts (length keys)) tt u two.between (λ start m a b here h. keys_left (batch_at keys start) a b here h) is (record { answer = two.first.answer; leaves = two.first.leaves }) in
        let own = on_own_goes (ends.fill_owners mapped relation place waiting) two.between tt v two.second in
        left_then u two.between v one (record { leaves = framed_ends place mapped relation has declared waiting two.between.own v.own tt one.leaves.graph own.goes; store = own.store })

    together_left : (owners : List ObjId) (u v : World) (many : Bool) → InArena u → Goes (if many then load_members mapped relation place owners else ends.load_ends mapped relation place owners) u tt v → IsLeft place u v
    together_left owners u v true is g = members_left owners u v is g
    together_left owners u v false is g = ends_left owners u v is g

pub selectin_leaves : (mapped : Mapped) (relation : Relation) (place : RelNo) (owners : List ObjId) (w after : World) → IsStage mapped w → All (IsOwner mapped w.own.graph relation place) owners → Goes (load_selectin mapped place owners) w tt after
    → Leaves place w.own.graph after.own.graph
unfolding load_selectin
selectin_leaves mapped relation place [] w after stage owned g = (left_same place w after (given tt tt w after (record { answer = g.answer; leaves = g.leaves })).1 stage.graph).leaves
selectin_leaves mapped relation place (first ∷ more) w after stage owned g =
    let own = owned 0 first (omega arith) in
    let class : ClassId = (object_at w.own.graph first).class in
    let less : IsClass mapped class = (stage.fit.objects (place_of first) _ (let made = own.made in omega (arith, made.0, made.1))).class in
    let related : IsRelated mapped (relation_of mapped class place) = related_at mapped class place stage.related less own.within in
    let chosen = by_own_goes (λ (l : Loading). load_together mapped (relation_of mapped (object_at l.graph first).class place) place (first ∷ more)) w tt after (record { answer = g.answer; leaves = g.leaves }) in
    (together_left place mapped (relation_of mapped class place) stage.has related.target (first ∷ more) w after (relation_of mapped class place).many stage.graph chosen).leaves

-- ---- one option after the other

module _ (mapped : Mapped) (class : ClassId) (objects : List ObjId) (has : HasHierarchies mapped) (are : AreRelated mapped) (less : IsClass mapped class) where
  -- each option leaves what there was
  option_left : (q : RelNo) (n : Unit {0}) (u v : World) → IsOption mapped class q → IsGraph u.own.graph.objects u.own.graph.roots → Goes (load_option mapped class objects q n) u tt v → IsLeft q u v
  option_left q n u v inside is g =
      let there : Relation = relation_of mapped class q in
      let chosen = by_own_goes (λ (l : Loading). load_together mapped there q (owners_among mapped class l.graph objects)) u tt v (record { answer = g.answer; leaves = g.leaves }) in
      together_left q mapped there has (related_at mapped class q are less inside).target (owners_among mapped class u.own.graph objects) u v there.many is chosen

  kept_each : (places : List RelNo) (n : Unit {0}) (u v : World) → AllByRecursion (IsOption mapped class) places → IsGraph u.own.graph.objects u.own.graph.roots → Goes (each (load_option mapped class objects) n places) u tt v → IsLater u v
  unfolding each
  kept_each [] n u v inside is g = later_same u v (given n tt u v g).1 is
  kept_each (q ∷ places) n u v inside is g =
      let two = parted (load_option mapped class objects q n) (λ (m : Unit {0}). each (load_option mapped class objects) m places) u tt v g in
      let one = option_left q n u two.between inside.0 is two.first in
      later_then u two.between v (record { kept = kept_by q u.own.graph two.between.own.graph one.leaves; store = one.store }) (kept_each places two.value two.between v inside.1 one.leaves.graph two.second)

  -- what the loads of all options keep
  pub options_kept : (places : List RelNo) (u v : World) → All (IsOption mapped class) places → IsGraph u.own.graph.objects u.own.graph.roots → Goes (load_options mapped class objects places) u tt v → IsLater u v
  unfolding load_options
  options_kept places u v inside is g = kept_each places tt u v (recursion_from_All (IsOption mapped class) places inside) is (record { answer = g.answer; leaves = g.leaves })

-- ---- one owner and the options

module _ (mapped : Mapped) (class : ClassId) (place : RelNo) (objects : List ObjId) (owner : ObjId) (all : List Row) (w : World) (stage : IsStage mapped w) (less : IsClass mapped class) (within : place.0 < length (relations_of mapped class))
    (answered : AllByRecursion (IsAnswered w.own.graph) objects) (rows : AreRowsOf mapped (relation_of mapped class place).target (bare w.store.tables) all)
    (keys_held : AllByRecursion (HoldsItsKey mapped (relation_of mapped class place) w.own.graph) (owners_among mapped class w.own.graph objects)) (among : is_among (owners_among mapped class w.own.graph objects) owner ≡ true)
    (unloaded_at_first : is_unloaded (link_at w.own.graph owner place) ≡ true) where
  abbrev relation : Relation
  relation = relation_of mapped class place

  abbrev start : Graph
  start = w.own.graph

  abbrev old : Link
  old = link_at start owner place

  abbrev wanted : List Row
  wanted = related_to mapped relation (bare w.store.tables) all start owner

  related : IsRelated mapped relation
  related = related_at mapped class place stage.related less within

  abbrev owners : List ObjId
  owners = owners_among mapped class start objects

  -- the owner's link is filled
  abbrev Done : World → Type 0
  Done u = HoldsRows mapped relation wanted old u.own.graph (link_at u.own.graph owner place)

  done_step : (q : RelNo) (u v : World) → IsObject u.own.graph owner → IsLeft q u v → Done u → Done v
  done_step q u v made left done = holds_left mapped relation place q owner wanted old u.own.graph v.own.graph made left.leaves done

  record Tail (u v : World) : Type 0 where
    kept : Kept u.own.graph v.own.graph
    done : Done u → Done v

  tail_go : (places : List RelNo) (n : Unit {0}) (u v : World) → AllByRecursion (IsOption mapped class) places → IsGraph u.own.graph.objects u.own.graph.roots → IsObject u.own.graph owner → Goes (each (load_option mapped class objects) n places) u tt v → Tail u v
  unfolding each
  tail_go [] n u v inside is made g =
      let same : u ≡ v = (given n tt u v g).1 in
      record { kept = subst (λ (x : World). Kept u.own.graph x.own.graph) same (kept_same u.own.graph is); done = λ done. subst Done same done }
  tail_go (q ∷ places) n u v inside is made g =
      let two = parted (load_option mapped class objects q n) (λ (m : Unit {0}). each (load_option mapped class objects) m places) u tt v g in
      let one = option_left mapped class objects stage.has stage.related less q n u two.between inside.0 is two.first in
      let rest = tail_go places two.value two.between v inside.1 one.leaves.graph (made_later u.own.graph two.between.own.graph owner one.leaves.stays made) two.second in
      record { kept = kept_then u.own.graph two.between.own.graph v.own.graph (kept_by q u.own.graph two.between.own.graph one.leaves) rest.kept; done = λ done. rest.done (done_step q u two.between made one done) }

  -- until the place comes its links wait
  record Waits (u : World) : Type 0 where
    kept : Kept start u.own.graph
    store : u.store ≡ w.store
    links : (object : ObjId) → IsObject start object → link_at u.own.graph object place ≡ link_at start object place

  waits_step : (q : RelNo) (u v : World) → (place.0 == q.0) ≡ false → IsLeft q u v → Waits u → Waits v
  waits_step q u v apart left waits = record {
    kept = kept_then start u.own.graph v.own.graph waits.kept (kept_by q u.own.graph v.own.graph left.leaves);
    store = left.store ∙ waits.store;
    links = λ object made.
        left.leaves.links object (made_later start u.own.graph object waits.kept.stays made) place (ap (λ (b : Bool). not (b && is_unloaded (link_at u.own.graph object place))) apart) ∙ waits.links object made;
  }

  -- who was persistent is
  persists : (u : World) (object : ObjId) → Waits u → IsAnswered start object → is_persistent (object_at u.own.graph object).state ≡ true
  persists u object waits is =
      let own : Object = object_at start object in
      let identified : is_identified own ≡ true = stage.graph.identified (place_of object) no_object (let made = is.0 in omega (arith, made.0, made.1)) in
      let some : is_some own.identity ≡ true = ap (λ (state : State). if has_identity state then is_some own.identity else not (is_some own.identity)) (sym is.1) ∙ identified in
      by own.identity refl some
    where
      by : (identity : Option (List Value)) → (object_at start object).identity ≡ identity → is_some identity ≡ true → is_persistent (object_at u.own.graph object).state ≡ true
      by None here some = absurd cc
      by (Some key) here some =
          let root : ClassId = root_at start object in
          let itself : holds root key (object_at start object, root) ≡ true =
          ap (λ (state : State). is_persistent state && ((root.0 == root.0) && has_key key (object_at start object).identity)) is.1
          ∙ ap (λ (b : Bool). b && has_key key (object_at start object).identity) (eq-eqb root.0 root.0 refl) ∙ ap (has_key key) here ∙ same_equiv.refl key in
          let later = waits.kept.stays.stand root key object (is.0, itself) in
          (and_parts (is_persistent (object_at u.own.graph object).state) ((root_at u.own.graph object).0 == root.0 && has_key key (object_at u.own.graph object).identity) later.1).0

  owner_same : (u : World) (object : ObjId) → Waits u → IsAnswered start object → is_owner mapped class u.own.graph object ≡ is_owner mapped class start object
  owner_same u object waits is =
      ap (λ (b : Bool). b && is_of u.own.graph mapped class object) (persists u object waits is)
      ∙ ap (λ (own : ClassId). is_at_or_under mapped own class) (waits.kept.classes object is.0)
      ∙ ap (λ (state : State). is_persistent state && is_of start mapped class object) (sym is.1)

  owners_same : (u : World) (some : List ObjId) → Waits u → AllByRecursion (IsAnswered start) some → flat_map (if_owner mapped class u.own.graph) some ≡ flat_map (if_owner mapped class start) some
  owners_same u [] waits all_answered = refl
  owners_same u (object ∷ some) waits all_answered =
      ap (λ (b : Bool). (if b then object ∷ [] else []) ++ flat_map (if_owner mapped class u.own.graph) some) (owner_same u object waits all_answered.0)
      ∙ ap (λ (more : List ObjId). if_owner mapped class start object ++ more) (owners_same u some waits all_answered.1)

  all_owners : (some : List ObjId) → AllByRecursion (IsAnswered start) some → AllByRecursion (IsOwnerOf mapped start class) (flat_map (if_owner mapped class start) some)
  all_owners [] is = tt
  all_owners (object ∷ some) is = by (is_owner mapped class start object) refl (all_owners some is.1)
    where
      by : (b : Bool) → is_owner mapped class start object ≡ b → AllByRecursion (IsOwnerOf mapped start class) (flat_map (if_owner mapped class start) some)
          → AllByRecursion (IsOwnerOf mapped start class) ((if b then object ∷ [] else []) ++ flat_map (if_owner mapped class start) some)
      by true one rest = (owner_tested mapped start class object true is.0.0 (sym one) refl, rest)
      by false one rest = rest

  -- an owner that waits
  open_at : (u : World) (object : ObjId) → Waits u → IsOwnerOf mapped start class object → HoldsItsKey mapped relation start object → is_unloaded (link_at u.own.graph object place) ≡ true → IsOpen mapped relation place u.own.graph object
  open_at u object waits is held unloaded =
      let ready : IsReady mapped relation place start object = record { owner = owner_under mapped start class place object stage.has.paired within is; held = held } in
      open_later mapped relation place start u.own.graph object (opened mapped relation place w object stage ready (ap is_unloaded (sym (waits.links object is.made)) ∙ unloaded)) waits.kept unloaded

  open_each : (u : World) (some : List ObjId) → Waits u → AllByRecursion (IsOwnerOf mapped start class) some → AllByRecursion (HoldsItsKey mapped relation start) some
      → AllByRecursion (λ one. is_unloaded (link_at u.own.graph one place) ≡ true → IsOpen mapped relation place u.own.graph one) some
  open_each u [] waits are held = tt
  open_each u (object ∷ some) waits are held = (open_at u object waits are.0 held.0, open_each u some waits are.1 held.1)

  unfolded_owners : owners ≡ flat_map (if_owner mapped class start) objects
  unfolding owners_among
  unfolded_owners = refl

  owners_then : (u : World) → Waits u → owners_among mapped class u.own.graph objects ≡ owners
  unfolding owners_among
  owners_then u waits = owners_same u objects waits answered

  are_owners : AllByRecursion (IsOwnerOf mapped start class) owners
  are_owners = subst (AllByRecursion (IsOwnerOf mapped start class)) (sym unfolded_owners) (all_owners objects answered)

  owner_is : IsOwnerOf mapped start class owner
  owner_is = one_waiting (IsOwnerOf mapped start class) owners owner are_owners among

  owner_holds : HoldsItsKey mapped relation start owner
  owner_holds = one_waiting (HoldsItsKey mapped relation start) owners owner keys_held among

  -- the rows that are related are the same then
  same_related : (u : World) → Waits u → related_to mapped relation (bare u.store.tables) all u.own.graph owner ≡ wanted
  same_related u waits = related_later mapped relation all w u owner owner_is.made waits.kept waits.store owner_holds

  set_then : (u : World) → Waits u → IsSet mapped relation all u
  set_then u waits = set_later mapped relation all w u (record { has = stage.has; related = related; rooted = stage.graph.rooted; held = stage.held; rows = rows }) waits.kept waits.store

  -- the option of the place
  filled_there : (n : Unit {0}) (u v : World) → Waits u → AgreesWithMap mapped relation all u.own.graph owner → Goes (load_option mapped class objects place n) u tt v → Done v
  filled_there n u v waits agrees g =
      let chosen = by_own_goes (λ (l : Loading). load_together mapped relation place (owners_among mapped class l.graph objects)) u tt v (record { answer = g.answer; leaves = g.leaves }) in
      let shown : Goes (load_together mapped relation place owners) u tt v = subst (λ (some : List ObjId). Goes (load_together mapped relation place some) u tt v) (owners_then u waits) chosen in
      let waiting : is_unloaded (link_at u.own.graph owner place) ≡ true = ap is_unloaded (waits.links owner owner_is.made) ∙ unloaded_at_first in
      let free : All (IsOpen mapped relation place u.own.graph) (unread u.own.graph place owners) =
      All-from_recursion (IsOpen mapped relation place u.own.graph) (unread u.own.graph place owners) (every_unread u.own.graph place (IsOpen mapped relation place u.own.graph) owners (open_each u owners waits are_owners keys_held)) in
      let done =
      together mapped relation place all u (set_then u waits) (unread u.own.graph place owners) owner v relation.far relation.many refl refl free (among_unread u.own.graph place owners owner among waiting) agrees
      (unread_goes mapped relation place owners u v relation.many shown) in
      subst (λ (link : Link). HoldsRows mapped relation wanted link v.own.graph (link_at v.own.graph owner place)) (waits.links owner owner_is.made)
      (subst (λ (found : List Row). HoldsRows mapped relation found (link_at u.own.graph owner place) v.own.graph (link_at v.own.graph owner place)) (same_related u waits) done)

  options_go : (places : List RelNo) (n : Unit {0}) (u v : World) → AllByRecursion (IsOption mapped class) places → list_any (λ (other : RelNo). other.0 == place.0) places ≡ true → Waits u → AgreesWithMap mapped relation all v.own.graph owner
      → Goes (each (load_option mapped class objects) n places) u tt v → Done v
  unfolding each
  options_go [] n u v inside there waits agrees g = absurd cc
  options_go (q ∷ places) n u v inside there waits agrees g =
      let two = parted (load_option mapped class objects q n) (λ (m : Unit {0}). each (load_option mapped class objects) m places) u tt v g in
      let one = option_left mapped class objects stage.has stage.related less q n u two.between inside.0 waits.kept.graph two.first in
      let made : IsObject u.own.graph owner = made_later start u.own.graph owner waits.kept.stays owner_is.made in
      let rest = tail_go places two.value two.between v inside.1 one.leaves.graph (made_later u.own.graph two.between.own.graph owner one.leaves.stays made) two.second in
      let kept : Kept u.own.graph v.own.graph = kept_then u.own.graph two.between.own.graph v.own.graph (kept_by q u.own.graph two.between.own.graph one.leaves) rest.kept in
      let before : AgreesWithMap mapped relation all u.own.graph owner =
      agrees_before mapped relation all u.own.graph v.own.graph owner waits.kept.graph made kept (λ single. key_held mapped relation start u.own.graph owner owner_is.made waits.kept (owner_holds single)) agrees in
      by two.between two.first one rest before (q.0 == place.0) refl (λ more later. options_go places two.value two.between v inside.1 more later agrees two.second)
    where
      turned : (q.0 == place.0) ≡ false → (place.0 == q.0) ≡ false
      turned apart = ne_eqb place.0 q.0 (λ same. eqb-false q.0 place.0 apart (sym same))

      by : (x : World) → Goes (load_option mapped class objects q n) u tt x → IsLeft q u x → Tail x v → AgreesWithMap mapped relation all u.own.graph owner → (b : Bool) → (q.0 == place.0) ≡ b
          → (list_any (λ (other : RelNo). other.0 == place.0) places ≡ true → Waits x → Done v) → Done v
      by x first one rest before true same more =
          let here : Goes (load_option mapped class objects place n) u tt x = subst (λ (p : RelNo). Goes (load_option mapped class objects p n) u tt x) (ap (λ (k : ℕ). let p : RelNo = record { 0 = k } in p) (eqb-true q.0 place.0 same)) first in
          rest.done (filled_there n u x waits before here)
      by x first one rest before false apart more =
          more (sym (ap (λ (b : Bool). b || list_any (λ (other : RelNo). other.0 == place.0) places) apart) ∙ there) (waits_step q u x (turned apart) one waits)

  began : Waits w
  began = record { kept = kept_same start stage.graph; store = refl; links = λ object made. refl }

  pub options_filled : (places : List RelNo) (after : World) → AllByRecursion (IsOption mapped class) places → list_any (λ (other : RelNo). other.0 == place.0) places ≡ true → AgreesWithMap mapped relation all after.own.graph owner
      → Goes (load_options mapped class objects places) w tt after → HoldsRelated mapped relation place all w after owner
  unfolding load_options
  options_filled places after inside there agrees g = options_go places tt w after inside there began agrees (record { answer = g.answer; leaves = g.leaves })

place_within : (mapped : Mapped) (class : ClassId) (places : List RelNo) (place : RelNo) → AllByRecursion (IsOption mapped class) places → list_any (λ (other : RelNo). other.0 == place.0) places ≡ true → place.0 < length (relations_of mapped class)
place_within mapped class places place inside there =
    let found = some_of (λ (other : RelNo). other.0 == place.0) places there in
    subst (λ (n : ℕ). n < length (relations_of mapped class)) (eqb-true found.0.0 place.0 found.2) (every_has (IsOption mapped class) places found.0 inside found.1)

pub options_links : (mapped : Mapped) (class : ClassId) (places : List RelNo) (place : RelNo) (objects : List ObjId) (owner : ObjId) (all : List Row) (w after : World) → IsStage mapped w → IsClass mapped class
    → All (IsOption mapped class) places → list_any (λ other. other.0 == place.0) places ≡ true → All (IsAnswered w.own.graph) objects → AreRowsOf mapped (relation_of mapped class place).target (bare w.store.tables) all
    → All (HoldsItsKey mapped (relation_of mapped class place) w.own.graph) (owners_among mapped class w.own.graph objects) → is_among (owners_among mapped class w.own.graph objects) owner ≡ true
    → is_unloaded (link_at w.own.graph owner place) ≡ true → AgreesWithMap mapped (relation_of mapped class place) all after.own.graph owner → Goes (load_options mapped class objects places) w tt after
    → HoldsRelated mapped (relation_of mapped class place) place all w after owner
options_links mapped class places place objects owner all w after stage less inside there answered rows held among unloaded agrees g =
    let options : AllByRecursion (IsOption mapped class) places = recursion_from_All (IsOption mapped class) places inside in
    options_filled mapped class place objects owner all w stage less (place_within mapped class places place options there) (recursion_from_All (IsAnswered w.own.graph) objects answered) rows
    (recursion_from_All (HoldsItsKey mapped (relation_of mapped class place) w.own.graph) (owners_among mapped class w.own.graph objects) held) among unloaded places after options there agrees g
