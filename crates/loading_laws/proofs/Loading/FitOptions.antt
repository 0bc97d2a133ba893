-- Select-in loads leave an arena's objects that fit the mapping, over the same tables.
use Rattle.std.proofs.Common.{◌≡◌, ℕ, ◌<◌, ◌&&◌, Bool, true, false, not, List, [], ◌∷◌, ◌++◌, drop, fold, is_none, length, map, Ok, if◌then◌else◌, refl, sym, subst, ◌∙◌, arith}
use Rattle.std.specs.List.{All, AllByRecursion, flat_map, list_any}
use Rattle.std.specs.declared.alloc.AllocError.{AllocError}
use Rattle.std.proofs.lemmas.List.Elements.{All-drop, All-from_recursion, All-take, recursion_from_All}
use Rattle.base_core.proofs.Lists.{every_append}
use Rattle.base_core.specs.declared.ids.ClassId.{ClassId}
use Rattle.base_core.specs.declared.ids.ObjId.{ObjId}
use Rattle.base_core.specs.declared.ids.RelNo.{RelNo}
use Rattle.base_core.specs.declared.value.Value.{Value}
use Rattle.schema_core.specs.Tables.{has_null, same_values}
use Rattle.expr_types.specs.declared.select.Select.{Select}
use Rattle.sql_semantics.specs.Eval.{Row}
use Rattle.class_types.specs.declared.mapped.Relation.{Relation}
use Rattle.class_mapping.specs.Mapped.{IsClass, Mapped, root_of}
use Rattle.class_mapping.specs.Related.{IsRelated}
use Rattle.mapping_laws.specs.Hierarchies.{HasHierarchies}
use Rattle.keeper_core.specs.Beside.{by_own, on_own}
use Rattle.keeper_core.specs.Programs.{each, give}
use Rattle.object_arena.specs.Fit.{IsFit, is_of_root, relation_of}
use Rattle.object_arena.specs.Graph.{Graph, IsObject, no_object, object_at, place_of}
use Rattle.object_arena.specs.Identity.{IsGraph, find_identity}
use Rattle.collection_selects.specs.Collections.{batch_select}
use Rattle.load_selects.specs.Selects.{targets_select}
use Rattle.load_columns.specs.Conditions.{has_one_of}
use Rattle.load_columns.specs.Placing.{from_root, root_key}
use Rattle.collection_selects.proofs.ClassLemmas.{targets_are_plain}
use Rattle.mapping_laws.proofs.KeyKinds.{keys_alike}
use Rattle.mapping_laws.proofs.Ties.{class_tables}
use Rattle.collection_selects.proofs.Rows.{are_rows}
use Rattle.collection_selects.specs.Pairs.{IsMemberRow}
use Rattle.load_rows.specs.Loading.{Loading}
use Rattle.load_rows.specs.Links.{collection_filled, link_at}
use Rattle.load_calls.specs.Reading.{World, read}
use Rattle.load_calls.specs.Collections.{take_rows}
use Rattle.load_calls.proofs.CollectionLemmas.{related_at}
use Rattle.load_batches.specs.Batches.{IsOwned, IsOwner, batch_at, batch_size, batch_starts, fill_batch, fill_owner, fill_owners, is_unloaded, keys_of, load_batch, load_each, load_from, load_members, member_of, members_under, objects_in, owner_key_in, read_batch, take_members, target_values, unloaded_owner, unloaded_owners, with_key as with_owner_key}
use Rattle.load_batches.specs.declared.members.Member.{Member}
use Rattle.load_batches.specs.declared.owners.Owner.{Owner}
use Rattle.load_batches.proofs.BatchSteps.{batch_plain, batch_rows}
use Rattle.load_batches.proofs.MemberSteps.{under_all}
use Rattle.load_batches.proofs.OwnerSteps.{batch_all, keyed_all, owner_keyed}
use Rattle.load_ends.specs.Ends as ends
use Rattle.load_queries.specs.Selectin.{IsOption, IsOwnerOf, if_owner, is_owner, load_option, load_options, load_together, owners_among}
use Rattle.load_queries.proofs.OwnerLemmas.{owner_tested, owners_of}
use Rattle.loading_laws.specs.Strategies.Filled.{Goes}
use Rattle.loading_laws.proofs.Strategies.Goes.{by_own_goes, change_to, given, on_own_goes, parted}
use Rattle.loading_laws.proofs.Strategies.Standing.{made_later}
use Rattle.loading_laws.specs.Loaders.Options.{IsAnswered, Leaves}
use Rattle.loading_laws.proofs.Loaders.Frames.{collection_leaves, end_leaves}
use Rattle.loading_laws.proofs.Loading.FitLinks.{AreRowsFit, LeavesFit, StandsForOne, all_of_root, child_later, collection_fit, end_fit, known_fits, left_same, left_then, ones_later, rows_fit}
use Rattle.loading_laws.proofs.Loading.FitLoads.{IsFirm, LeavesFirm, firm_later, firm_same, firm_then, sent_rows, taken_fit, target_fits}

-- ---- collections

module _ (place : RelNo) (mapped : Mapped) (relation : Relation) (has : HasHierarchies mapped) (related : IsRelated mapped relation) where
  abbrev class : ClassId
  class = relation.target

  abbrev root : ClassId
  root = root_of mapped class

  abbrev AreChildren : Graph → List ObjId → Type 0
  AreChildren graph owners = AllByRecursion (ends.IsChild mapped graph relation place) owners

  children_later : (old new : Graph) (owners : List ObjId) → Leaves place old new → AreChildren old owners → AreChildren new owners
  children_later old new [] leaves all = tt
  children_later old new (owner ∷ owners) leaves all = (child_later place mapped relation old new owner leaves all.0, children_later old new owners leaves all.1)

  abbrev objects_of : List Owner → List ObjId
  objects_of owners = map (λ (owner : Owner). owner.object) owners

  module _ (many : relation.many ≡ true) (members : List Member) where
    owners_fit : (owners : List Owner) (n : Unit {0}) (own now : Loading) → IsGraph own.graph.objects own.graph.roots → IsFit mapped own.graph → AreChildren own.graph (objects_of owners) → AllByRecursion (StandsForOne root own.graph) (objects_in members)
        → Goes (each (fill_owner place members) n owners) own tt now → LeavesFit place mapped own.graph now.graph
    unfolding each
    owners_fit [] n own now is fit children ones g = subst (λ (u : Loading). LeavesFit place mapped own.graph u.graph) (given n tt own now g).1 (left_same place mapped own.graph is fit)
    owners_fit (owner ∷ owners) n own now is fit children ones g =
        let two = parted (fill_owner place members owner n) (λ (m : Unit {0}). each (fill_owner place members) m owners) own tt now g in
        let read : List ObjId = members_under members owner.key in
        let of : ObjId → Type 0 = λ object. is_of_root own.graph.roots root object ≡ true in
        let held : All of read = under_all of members owner.key (All-from_recursion of (objects_in members) (all_of_root mapped root own.graph (objects_in members) fit ones)) in
        let mid : LeavesFit place mapped own.graph (collection_filled owner.object place read own).graph =
        record { leaves = collection_leaves place owner.object read own is; fit = collection_fit place mapped relation own owner.object fit children.0 read many held } in
        let here : LeavesFit place mapped own.graph two.between.graph = subst (λ (u : Loading). LeavesFit place mapped own.graph u.graph) (change_to (collection_filled owner.object place read) own two.value two.between two.first) mid in
        left_then place mapped own.graph two.between.graph now.graph here
        (owners_fit owners two.value two.between now here.leaves.graph here.fit (children_later own.graph two.between.graph (objects_of owners) here.leaves children.1) (ones_later place root own.graph two.between.graph (objects_in members) here.leaves ones) two.second)

    filled_fit : (owners : List Owner) (own now : Loading) → IsGraph own.graph.objects own.graph.roots → IsFit mapped own.graph → AreChildren own.graph (objects_of owners) → AllByRecursion (StandsForOne root own.graph) (objects_in members)
        → Goes (fill_owners place owners members) own tt now → LeavesFit place mapped own.graph now.graph
    unfolding fill_owners
    filled_fit owners own now is fit children ones g = owners_fit owners tt own now is fit children ones (record { answer = g.answer; leaves = g.leaves })

  ones_in : (graph : Graph) (members : List Member) → AllByRecursion (λ (member : Member). StandsForOne root graph member.object) members → AllByRecursion (StandsForOne root graph) (objects_in members)
  ones_in graph [] all = tt
  ones_in graph (member ∷ members) all = (all.0, ones_in graph members all.1)

  abbrev member_made : Row → ObjId → Member
  member_made row object = member_of (owner_key_in mapped relation row) object

  abbrev AreMembersFit : Loading → List Member → Loading → Type 0
  AreMembersFit = AreRowsFit place mapped class has related.target (target_values mapped relation) member_made (λ member. member.object) (λ row object. refl)

  members_fit : (rows : List Row) (own : Loading) (members : List Member) (now : Loading) → AllByRecursion (IsMemberRow mapped relation) rows → IsGraph own.graph.objects own.graph.roots → IsFit mapped own.graph
      → Goes (take_members mapped relation rows) own members now → AreMembersFit own members now
  unfolding take_members
  members_fit rows own members now of is fit g =
      rows_fit place mapped class has related.target (target_values mapped relation) member_made (λ member. member.object) (λ row object. refl) rows [] own members now of is fit tt (record { answer = g.answer; leaves = g.leaves })

  abbrev AreOwned : World → List Owner → Type 0
  AreOwned u owners = All (IsOwned mapped u.own.graph relation place) owners

  owned_children : (graph : Graph) (owners : List Owner) → AllByRecursion (IsOwned mapped graph relation place) owners → AreChildren graph (objects_of owners)
  owned_children graph [] all = tt
  owned_children graph (owner ∷ owners) all = (record { made = all.0.made; within = all.0.within; is = all.0.is }, owned_children graph owners all.1)

  owned_later : (u v : World) (owners : List Owner) → Leaves place u.own.graph v.own.graph → AreOwned u owners → AreOwned v owners
  owned_later u v owners leaves all = λ i d less.
      let one = all i d less in
      let child = child_later place mapped relation u.own.graph v.own.graph _ leaves (record { made = one.made; within = one.within; is = one.is }) in
      record { made = child.made; within = child.within; is = child.is; keyed = one.keyed }

  batch_firm : (owners : List Owner) (u v : World) → relation.many ≡ true → IsFirm mapped u → AreOwned u owners → Goes (load_batch mapped relation place owners) u tt v → LeavesFirm place mapped u v
  unfolding load_batch read_batch
  batch_firm [] u v many firm owned g = firm_same place mapped u v (given tt tt u v (record { answer = g.answer; leaves = g.leaves })).1 firm
  batch_firm (first ∷ more) u v many firm owned g =
      let owners : List Owner = first ∷ more in
      let select : Select = batch_select mapped relation (keys_of owners) in
      let two = parted (read mapped.schema select) (λ (rows : List Row). on_own (fill_batch mapped relation place owners rows)) u tt v (record { answer = g.answer; leaves = g.leaves }) in
      let plain = batch_plain {E = AllocError} mapped relation owners (Ok select) has related many (omega arith) (keyed_all mapped u.own.graph relation place owners owned has firm.stage.related) refl in
      let sent = sent_rows place mapped select u two.value two.between firm plain two.first in
      let of = batch_rows mapped relation owners select (Ok two.value) has related refl sent.0.kinds sent.0.given in
      let own = on_own_goes (fill_batch mapped relation place owners two.value) two.between tt v two.second in
      let three = parted (take_members mapped relation two.value) (fill_owners place owners) two.between.own tt v.own own.goes in
      let taken = members_fit two.value two.between.own three.value three.between of sent.1.left.leaves.graph sent.1.left.fit three.first in
      let mid : LeavesFit place mapped u.own.graph three.between.graph = left_then place mapped u.own.graph two.between.own.graph three.between.graph sent.1.left taken.left in
      let children = children_later u.own.graph three.between.graph (objects_of owners) mid.leaves (owned_children u.own.graph owners (recursion_from_All (IsOwned mapped u.own.graph relation place) owners owned)) in
      let filled = filled_fit many three.value owners three.between v.own taken.left.leaves.graph taken.left.fit children (ones_in three.between.graph three.value taken.ones) three.second in
      record { left = left_then place mapped u.own.graph three.between.graph v.own.graph mid filled; store = own.store ∙ sent.1.store }

  batches_firm : (waiting : List Owner) (starts : List ℕ) (n : Unit {0}) (u v : World) → relation.many ≡ true → IsFirm mapped u → AreOwned u waiting → Goes (each (load_from mapped relation place waiting) n starts) u tt v → LeavesFirm place mapped u v
  unfolding each
  batches_firm waiting [] n u v many firm owned g = firm_same place mapped u v (given n tt u v g).1 firm
  batches_firm waiting (start ∷ starts) n u v many firm owned g =
      let two = parted (load_from mapped relation place waiting start n) (λ (m : Unit {0}). each (load_from mapped relation place waiting) m starts) u tt v g in
      let x : World = two.between in
      let one = batch_firm (batch_at waiting start) u x many firm (batch_all (IsOwned mapped u.own.graph relation place) waiting start owned) two.first in
      firm_then place mapped u x v one (batches_firm waiting starts two.value x v many (firm_later place mapped u x firm one) (owned_later u x waiting one.left.leaves owned) two.second)

  owned_each : (graph : Graph) (owners : List ObjId) → AllByRecursion (λ owner. IsOwned mapped graph relation place (with_owner_key graph owner)) owners → AllByRecursion (IsOwned mapped graph relation place) (flat_map (unloaded_owner graph place) owners)
  owned_each graph [] all = tt
  owned_each graph (owner ∷ owners) all = by (is_unloaded (link_at graph owner place)) (owned_each graph owners all.1)
    where
      by : (b : Bool) → AllByRecursion (IsOwned mapped graph relation place) (flat_map (unloaded_owner graph place) owners)
          → AllByRecursion (IsOwned mapped graph relation place) ((if b then with_owner_key graph owner ∷ [] else []) ++ flat_map (unloaded_owner graph place) owners)
      by true rest = (all.0, rest)
      by false rest = rest

  all_owned : (u : World) (owners : List ObjId) → IsFirm mapped u → AllByRecursion (IsOwner mapped u.own.graph relation place) owners → AllByRecursion (λ owner. IsOwned mapped u.own.graph relation place (with_owner_key u.own.graph owner)) owners
  all_owned u [] firm all = tt
  all_owned u (owner ∷ owners) firm all =
      let made = all.0.made in
      let less : place_of owner < length u.own.graph.objects = omega (arith, made.0, made.1) in (
        owner_keyed mapped u.own.graph relation place owner (object_at u.own.graph owner) all.0 (firm.stage.fit.objects (place_of owner) no_object less) refl (firm.stage.graph.identified (place_of owner) no_object less),
        all_owned u owners firm all.1,
      )

  members_firm : (owners : List ObjId) (u v : World) → relation.many ≡ true → IsFirm mapped u → All (IsOwner mapped u.own.graph relation place) owners → Goes (load_members mapped relation place owners) u tt v → LeavesFirm place mapped u v
  unfolding load_members load_each by_own unloaded_owners
  members_firm owners u v many firm owned g =
      let waiting : List Owner = flat_map (unloaded_owner u.own.graph place) owners in
      let held : AreOwned u waiting =
      All-from_recursion (IsOwned mapped u.own.graph relation place) waiting (owned_each u.own.graph owners (all_owned u owners firm (recursion_from_All (IsOwner mapped u.own.graph relation place) owners owned))) in
      batches_firm waiting (batch_starts (length waiting)) tt u v many firm held (record { answer = g.answer; leaves = g.leaves })

  -- ---- many-to-one links

  abbrev AreKeys : List (List Value) → Type 0
  AreKeys keys = All (ends.FitsClass mapped class) keys

  keys_firm : (keys : List (List Value)) (u v : World) → IsFirm mapped u → AreKeys keys → Goes (ends.load_keys mapped class keys) u tt v → LeavesFirm place mapped u v
  unfolding ends.load_keys targets_select
  keys_firm [] u v firm fits g = firm_same place mapped u v (given tt tt u v (record { answer = g.answer; leaves = g.leaves })).1 firm
  keys_firm (first ∷ more) u v firm fits g =
      let keys : List (List Value) = first ∷ more in
      let select : Select = targets_select mapped class keys in
      let two = parted (read mapped.schema select) (λ (rows : List Row). on_own (ends.take_targets mapped class rows)) u tt v (record { answer = g.answer; leaves = g.leaves }) in
      let known = class_tables mapped class has related.target in
      let plain = targets_are_plain mapped class keys has related.target (omega arith) (λ i d within. sym (keys_alike mapped class _ has known) ∙ fits i d within) in
      let sent = sent_rows place mapped select u two.value two.between firm plain two.first in
      let of = are_rows mapped class (has_one_of (root_key mapped class (from_root 0)) keys) two.value has related.target sent.0.kinds sent.0.given in
      let own = on_own_goes (ends.take_targets mapped class two.value) two.between tt v two.second in
      let three = parted (take_rows mapped class two.value) (λ (objects : List ObjId). give tt) two.between.own tt v.own own.goes in
      let taken = taken_fit place mapped class has related.target two.value two.between.own three.value three.between of sent.1.left.leaves.graph sent.1.left.fit three.first in
      let last : LeavesFit place mapped two.between.own.graph v.own.graph = subst (λ (l : Loading). LeavesFit place mapped two.between.own.graph l.graph) (given tt tt three.between v.own three.second).1 taken.left in
      firm_then place mapped u two.between v sent.1 (record { left = last; store = own.store })

  some_fit : (keys : List (List Value)) (start : ℕ) → AreKeys keys → AreKeys (batch_at keys start)
  some_fit keys start fits = All-take (ends.FitsClass mapped class) batch_size (drop start keys) (All-drop (ends.FitsClass mapped class) start keys fits)

  each_keys_firm : (keys : List (List Value)) (starts : List ℕ) (n : Unit {0}) (u v : World) → IsFirm mapped u → AreKeys keys → Goes (each (ends.load_from mapped class keys) n starts) u tt v → LeavesFirm place mapped u v
  unfolding each
  each_keys_firm keys [] n u v firm fits g = firm_same place mapped u v (given n tt u v g).1 firm
  each_keys_firm keys (start ∷ starts) n u v firm fits g =
      let two = parted (ends.load_from mapped class keys start n) (λ (m : Unit {0}). each (ends.load_from mapped class keys) m starts) u tt v g in
      let x : World = two.between in
      let one = keys_firm (batch_at keys start) u x firm (some_fit keys start fits) two.first in
      firm_then place mapped u x v one (each_keys_firm keys starts two.value x v (firm_later place mapped u x firm one) fits two.second)

  ends_fit : (owners : List ObjId) (n : Unit {0}) (own now : Loading) → relation.many ≡ false → IsGraph own.graph.objects own.graph.roots → IsFit mapped own.graph → AreChildren own.graph owners
      → Goes (each (ends.fill_owner mapped relation place) n owners) own tt now → LeavesFit place mapped own.graph now.graph
  unfolding each
  ends_fit [] n own now single is fit children g = subst (λ (u : Loading). LeavesFit place mapped own.graph u.graph) (given n tt own now g).1 (left_same place mapped own.graph is fit)
  ends_fit (owner ∷ owners) n own now single is fit children g =
      let two = parted (ends.fill_owner mapped relation place owner n) (λ (m : Unit {0}). each (ends.fill_owner mapped relation place) m owners) own tt now g in
      let key : List Value = ends.key_of mapped relation own.graph owner in
      let end = ends.known_end mapped class own.graph key in
      let mid : LeavesFit place mapped own.graph (ends.end_known mapped relation place owner own).graph =
      record { leaves = end_leaves place owner end own is; fit = end_fit place mapped relation own owner fit children.0 end single (known_fits mapped class own.graph key fit is.rooted) } in
      let here : LeavesFit place mapped own.graph two.between.graph = subst (λ (u : Loading). LeavesFit place mapped own.graph u.graph) (change_to (ends.end_known mapped relation place owner) own two.value two.between two.first) mid in
      left_then place mapped own.graph two.between.graph now.graph here
      (ends_fit owners two.value two.between now single here.leaves.graph here.fit (children_later own.graph two.between.graph owners here.leaves children.1) two.second)

  first_fits : (keys : List (List Value)) (key : List Value) (b : Bool) → AllByRecursion (ends.FitsClass mapped class) keys → ends.FitsClass mapped class key → AllByRecursion (ends.FitsClass mapped class) (if b then keys else (keys ++ key ∷ []))
  first_fits keys key true all one = all
  first_fits keys key false all one = every_append (ends.FitsClass mapped class) keys (key ∷ []) all (one, tt)

  wanted_fits : (graph : Graph) (keys : List (List Value)) (key : List Value) → AllByRecursion (ends.FitsClass mapped class) keys → (has_null key ≡ false → ends.FitsClass mapped class key)
      → AllByRecursion (ends.FitsClass mapped class) (ends.with_wanted mapped class graph keys key)
  wanted_fits graph keys key all one = by (has_null key) refl (is_none (find_identity graph root key))
    where
      by : (null : Bool) → has_null key ≡ null → (b : Bool) → AllByRecursion (ends.FitsClass mapped class) (if not null && b then ends.with_first keys key else keys)
      by true is b = all
      by false is false = all
      by false is true = first_fits keys key (list_any (same_values key) keys) all (one is)

  keys_of_owners : (u : World) (owners : List ObjId) (keys : List (List Value)) → relation.many ≡ false → IsFirm mapped u → AllByRecursion (IsOwner mapped u.own.graph relation place) owners → AllByRecursion (ends.FitsClass mapped class) keys
      → AllByRecursion (ends.FitsClass mapped class) (fold (ends.with_key_of mapped relation u.own.graph) keys owners)
  keys_of_owners u [] keys single firm owned all = all
  keys_of_owners u (owner ∷ owners) keys single firm owned all =
      keys_of_owners u owners (ends.with_key_of mapped relation u.own.graph keys owner) single firm owned.1
      (wanted_fits u.own.graph keys (ends.key_of mapped relation u.own.graph owner) all (target_fits mapped relation place owner u firm owned.0 single))

  some_owners : (P : ObjId → Type 0) (graph : Graph) (owners : List ObjId) → AllByRecursion P owners → AllByRecursion P (flat_map (ends.if_unloaded graph place) owners)
  some_owners P graph [] all = tt
  some_owners P graph (owner ∷ owners) all = by (is_unloaded (link_at graph owner place)) (some_owners P graph owners all.1)
    where
      by : (b : Bool) → AllByRecursion P (flat_map (ends.if_unloaded graph place) owners) → AllByRecursion P ((if b then owner ∷ [] else []) ++ flat_map (ends.if_unloaded graph place) owners)
      by true rest = (all.0, rest)
      by false rest = rest

  owner_children : (graph : Graph) (owners : List ObjId) → AllByRecursion (IsOwner mapped graph relation place) owners → AreChildren graph owners
  owner_children graph [] all = tt
  owner_children graph (owner ∷ owners) all = (record { made = all.0.made; within = all.0.within; is = all.0.is }, owner_children graph owners all.1)

  ends_firm : (owners : List ObjId) (u v : World) → relation.many ≡ false → IsFirm mapped u → All (IsOwner mapped u.own.graph relation place) owners → Goes (ends.load_ends mapped relation place owners) u tt v → LeavesFirm place mapped u v
  unfolding ends.load_ends ends.load_each ends.unloaded ends.wanted_keys ends.fill_owners by_own
  ends_firm owners u v single firm owned g =
      let waiting : List ObjId = flat_map (ends.if_unloaded u.own.graph place) owners in
      let left : AllByRecursion (IsOwner mapped u.own.graph relation place) waiting = some_owners (IsOwner mapped u.own.graph relation place) u.own.graph owners (recursion_from_All (IsOwner mapped u.own.graph relation place) owners owned) in
      let keys : List (List Value) = fold (ends.with_key_of mapped relation u.own.graph) [] waiting in
      let fits : AreKeys keys = All-from_recursion (ends.FitsClass mapped class) keys (keys_of_owners u waiting [] single firm left tt) in
      let fills = λ (own : Loading). each (ends.fill_owner mapped relation place) tt waiting own in
      let two = parted (λ (x : World). each (ends.load_from mapped class keys) tt (batch_starts (length keys)) x) (λ (n : Unit {0}). on_own fills) u tt v (record { answer = g.answer; leaves = g.leaves }) in
      let x : World = two.between in
      let one = each_keys_firm keys (batch_starts (length keys)) tt u x firm fits (record { answer = two.first.answer; leaves = two.first.leaves }) in
      let own = on_own_goes fills x tt v two.second in
      let filled = ends_fit waiting tt x.own v.own single one.left.leaves.graph one.left.fit (children_later u.own.graph x.own.graph waiting one.left.leaves (owner_children u.own.graph waiting left)) (record { answer = own.goes.answer; leaves = own.goes.leaves }) in
      firm_then place mapped u x v one (record { left = filled; store = own.store })

  pub together_firm : (owners : List ObjId) (u v : World) (many : Bool) → relation.many ≡ many → IsFirm mapped u → All (IsOwner mapped u.own.graph relation place) owners
      → Goes (if many then load_members mapped relation place owners else ends.load_ends mapped relation place owners) u tt v → LeavesFirm place mapped u v
  together_firm owners u v true many firm owned g = members_firm owners u v many firm owned g
  together_firm owners u v false single firm owned g = ends_firm owners u v single firm owned g

-- ---- options

module _ (mapped : Mapped) (class : ClassId) (less : IsClass mapped class) (objects : List ObjId) where
  owners_there : (graph : Graph) (some : List ObjId) → AllByRecursion (IsObject graph) some → AllByRecursion (IsOwnerOf mapped graph class) (flat_map (if_owner mapped class graph) some)
  owners_there graph [] made = tt
  owners_there graph (object ∷ some) made = by (is_owner mapped class graph object) refl (owners_there graph some made.1)
    where
      by : (b : Bool) → is_owner mapped class graph object ≡ b → AllByRecursion (IsOwnerOf mapped graph class) (flat_map (if_owner mapped class graph) some)
          → AllByRecursion (IsOwnerOf mapped graph class) ((if b then object ∷ [] else []) ++ flat_map (if_owner mapped class graph) some)
      by true is rest = (owner_tested mapped graph class object true made.0 (sym is) refl, rest)
      by false is rest = rest

  pub all_owners : (graph : Graph) → AllByRecursion (IsObject graph) objects → All (IsOwnerOf mapped graph class) (owners_among mapped class graph objects)
  unfolding owners_among
  all_owners graph made = All-from_recursion (IsOwnerOf mapped graph class) (flat_map (if_owner mapped class graph) objects) (owners_there graph objects made)

  made_all : (old new : Graph) (q : RelNo) (some : List ObjId) → Leaves q old new → AllByRecursion (IsObject old) some → AllByRecursion (IsObject new) some
  made_all old new q [] leaves made = tt
  made_all old new q (object ∷ some) leaves made = (made_later old new object leaves.stays made.0, made_all old new q some leaves made.1)

  option_firm : (q : RelNo) (n : Unit {0}) (u v : World) → IsOption mapped class q → IsFirm mapped u → AllByRecursion (IsObject u.own.graph) objects → Goes (load_option mapped class objects q n) u tt v → LeavesFirm q mapped u v
  option_firm q n u v inside firm made g =
      let relation : Relation = relation_of mapped class q in
      let chosen = by_own_goes (λ (l : Loading). load_together mapped relation q (owners_among mapped class l.graph objects)) u tt v (record { answer = g.answer; leaves = g.leaves }) in
      let owned = owners_of mapped u.own.graph class q (owners_among mapped class u.own.graph objects) firm.stage.has.paired inside (all_owners u.own.graph made) in
      together_firm q mapped relation firm.stage.has (related_at mapped class q firm.stage.related less inside) (owners_among mapped class u.own.graph objects) u v relation.many refl firm owned chosen

  options_go : (places : List RelNo) (n : Unit {0}) (u v : World) → AllByRecursion (IsOption mapped class) places → IsFirm mapped u → AllByRecursion (IsObject u.own.graph) objects → Goes (each (load_option mapped class objects) n places) u tt v → IsFit mapped v.own.graph
  unfolding each
  options_go [] n u v inside firm made g = subst (λ (x : World). IsFit mapped x.own.graph) (given n tt u v g).1 firm.stage.fit
  options_go (q ∷ places) n u v inside firm made g =
      let two = parted (load_option mapped class objects q n) (λ (m : Unit {0}). each (load_option mapped class objects) m places) u tt v g in
      let x : World = two.between in
      let one = option_firm q n u x inside.0 firm made two.first in
      options_go places two.value x v inside.1 (firm_later q mapped u x firm one) (made_all u.own.graph x.own.graph q objects one.left.leaves made) two.second

  made_objects : (graph : Graph) (some : List ObjId) → AllByRecursion (IsAnswered graph) some → AllByRecursion (IsObject graph) some
  made_objects graph [] all = tt
  made_objects graph (object ∷ some) all = (all.0.0, made_objects graph some all.1)

  pub options_fit : (places : List RelNo) (first batch : World) → IsFirm mapped first → All (IsOption mapped class) places → All (IsAnswered first.own.graph) objects → Goes (load_options mapped class objects places) first tt batch → IsFit mapped batch.own.graph
  unfolding load_options
  options_fit places first batch firm inside answered g =
      options_go places tt first batch (recursion_from_All (IsOption mapped class) places inside) firm (made_objects first.own.graph objects (recursion_from_All (IsAnswered first.own.graph) objects answered)) (record { answer = g.answer; leaves = g.leaves })
