-- What the loads of one link of several objects leave.
use Rattle.std.proofs.Common.{◌≡◌, ℕ, Bool, true, false, List, [], ◌∷◌, ◌++◌, length, Option, None, Some, if◌then◌else◌, refl}
use Rattle.std.specs.List.{AllByRecursion, flat_map}
use Rattle.std.specs.Option.{option_and_then}
use Rattle.std.proofs.lemmas.List.Elements.{All-drop, All-from_recursion, All-take, recursion_from_All}
use Rattle.base_core.proofs.Lists.{every_append}
use Rattle.base_core.specs.declared.ids.AttrNo.{AttrNo}
use Rattle.base_core.specs.declared.ids.ClassId.{ClassId}
use Rattle.base_core.specs.declared.ids.ObjId.{ObjId}
use Rattle.base_core.specs.declared.ids.RelNo.{RelNo}
use Rattle.base_core.specs.declared.value.Value.{Value}
use Rattle.schema_core.specs.Tables.{has_null}
use Rattle.class_types.specs.declared.mapped.Relation.{Relation}
use Rattle.class_mapping.specs.Mapped.{Mapped, root_of}
use Rattle.class_mapping.specs.Related.{IsRelated}
use Rattle.keeper_core.specs.Beside.{on_own}
use Rattle.keeper_core.specs.Programs.{each, give}
use Rattle.keeper_core.specs.Store.{Store}
use Rattle.object_arena.specs.Graph.{Graph}
use Rattle.object_arena.specs.Identity.{find_identity}
use Rattle.collection_selects.specs.Collections.{batch_select}
use Rattle.load_selects.specs.Selects.{targets_select}
use Rattle.load_rows.specs.Loading.{Loading, take_row}
use Rattle.load_rows.specs.Links.{collection_filled, link_at}
use Rattle.load_calls.specs.Reading.{read}
use Rattle.load_calls.specs.Collections.{take_rows}
use Rattle.load_targets.specs.Targets.{if_of}
use Rattle.load_batches.specs.Batches.{batch_at, batch_size, batch_starts, fill_batch, fill_owner, fill_owners, is_unloaded, keys_of, load_batch, load_batches, load_each, load_from, load_members, member_of, members_under, objects_in, owner_key_in, read_batch, take_member, take_members, target_values, unloaded_owner, unloaded_owners, with_key}
use Rattle.load_batches.specs.declared.members.Member.{Member}
use Rattle.load_batches.specs.declared.owners.Owner.{Owner}
use Rattle.load_batches.proofs.MemberSteps.{under_all}
use Rattle.load_ends.specs.Ends as ends
use Rattle.relations.specs.Mirror.{is_of}
use Rattle.loading_laws.proofs.Strategies.Standing.{found_stands}
use Rattle.load_steps.specs.Rows.{AnswerRows}
use Rattle.load_steps.specs.Steps.{AreFound, AreLoadSteps, Holds, IsAnything, IsEnd, IsFound, IsOver, Keeps}
use Rattle.load_steps.proofs.Keeping.{keeps_all, keeps_by_own, keeps_change, keeps_each, keeps_from, keeps_give, keeps_given, keeps_less, keeps_own, keeps_tell, keeps_then}
use Rattle.load_steps.proofs.Lasting.{AreOfMapping, Lasts, ended_holds, found_since, members_holds, steps_with}
use Rattle.load_steps.proofs.Lazily.{select_keeps}
use Rattle.load_steps.proofs.Rows.{row_keeps_with, rows_keep}

-- ---- members

-- each is an object of the hierarchy
abbrev MembersFound : ClassId → List Member → Graph → Type 0
MembersFound root members graph = AllByRecursion (λ member. IsFound graph root member.object) members

members_last : (root : ClassId) (members : List Member) → Lasts (MembersFound root members)
members_last root [] = λ old new since found. tt
members_last root (member ∷ members) = λ old new since found. (found_since root member.object old new since found.0, members_last root members old new since found.1)

objects_of : (root : ClassId) (graph : Graph) (members : List Member) → MembersFound root members graph → AreFound graph root (objects_in members)
objects_of root graph [] found = tt
objects_of root graph (member ∷ members) found = (found.0, objects_of root graph members found.1)

-- those of one owner
of_owner : (root : ClassId) (graph : Graph) (members : List Member) (key : List Value) → MembersFound root members graph → AreFound graph root (members_under members key)
of_owner root graph members key found =
    recursion_from_All (IsFound graph root) (members_under members key) (under_all (IsFound graph root) members key (All-from_recursion (IsFound graph root) (objects_in members) (objects_of root graph members found)))

-- owners whose link is unloaded, with their keys
unloaded_all : (IsOwned : ObjId → Type 0) (graph : Graph) (place : RelNo) (owners : List ObjId) → AllByRecursion IsOwned owners → AllByRecursion (λ owner. IsOwned owner.object) (unloaded_owners graph place owners)
unfolding unloaded_owners
unloaded_all IsOwned graph place [] owned = tt
unloaded_all IsOwned graph place (owner ∷ owners) owned = by (is_unloaded (link_at graph owner place)) (unloaded_all IsOwned graph place owners owned.1)
  where
    by : (b : Bool) → AllByRecursion (λ (one : Owner). IsOwned one.object) (flat_map (unloaded_owner graph place) owners)
        → AllByRecursion (λ (one : Owner). IsOwned one.object) ((if b then with_key graph owner ∷ [] else []) ++ flat_map (unloaded_owner graph place) owners)
    by true rest = (owned.0, rest)
    by false rest = rest

waiting_all : (IsOwned : ObjId → Type 0) (graph : Graph) (place : RelNo) (owners : List ObjId) → AllByRecursion IsOwned owners → AllByRecursion IsOwned (ends.unloaded graph place owners)
unfolding ends.unloaded
waiting_all IsOwned graph place [] owned = tt
waiting_all IsOwned graph place (owner ∷ owners) owned = by (is_unloaded (link_at graph owner place)) (waiting_all IsOwned graph place owners owned.1)
  where
    by : (b : Bool) → AllByRecursion IsOwned (flat_map (ends.if_unloaded graph place) owners) → AllByRecursion IsOwned ((if b then owner ∷ [] else []) ++ flat_map (ends.if_unloaded graph place) owners)
    by true rest = (owned.0, rest)
    by false rest = rest

-- nothing is asked of an item
any_item : {A : Type 0} (xs : List A) → AllByRecursion (λ (x : A). Unit {0}) xs
any_item [] = tt
any_item (x ∷ xs) = (tt, any_item xs)

batch_all : {A : Type 0} (IsItem : A → Type 0) (items : List A) (start : ℕ) → AllByRecursion IsItem items → AllByRecursion IsItem (batch_at items start)
batch_all IsItem items start all =
    recursion_from_All IsItem (batch_at items start) (All-take IsItem batch_size _ (All-drop IsItem start items (All-from_recursion IsItem items all)))

module _ {mapped : Mapped} {IsRow : ClassId → List Value → Type 0} {IsCells : ClassId → List AttrNo → List Value → List Value → Type 0} (of : AreOfMapping mapped IsRow IsCells) where
  module _ {P : Loading → Type 0} (steps : AreLoadSteps mapped IsRow IsCells P) (relation : Relation) (related : IsRelated mapped relation) where
    abbrev root : ClassId
    root = root_of mapped relation.target

    member_keeps : (row : List Value) (members : List Member) → IsRow relation.target (target_values mapped relation row)
        → Keeps (λ own. Holds mapped P own × MembersFound (root_of mapped relation.target) members own.graph) (Holds mapped P) (λ found own. MembersFound (root_of mapped relation.target) found own.graph) (take_member mapped relation row members)
    member_keeps row members is =
        let with_one : ObjId → List Member = λ object. members ++ member_of (owner_key_in mapped relation row) object ∷ [] in
        keeps_then (take_row mapped relation.target (target_values mapped relation row)) (λ object. give (with_one object))
        (row_keeps_with of (MembersFound root members) (members_last root members) steps relation.target (target_values mapped relation row) related.target is)
        (λ own h. h.0)
        (λ object. keeps_from (give (with_one object))
        (keeps_give (with_one object))
        (λ own h. (h.0.0, every_append (λ (member : Member). IsFound own.graph root member.object) members (member_of (owner_key_in mapped relation row) object ∷ []) h.0.1 (h.1, tt))))

    members_keep : (rows : List (List Value)) → AllByRecursion (λ row. IsRow relation.target (target_values mapped relation row)) rows
        → Keeps (Holds mapped P) (Holds mapped P) (λ members own. MembersFound (root_of mapped relation.target) members own.graph) (take_members mapped relation rows)
    unfolding take_members
    members_keep rows are =
        keeps_from (each (take_member mapped relation) [] rows) (keeps_each (λ row. IsRow relation.target (target_values mapped relation row)) (take_member mapped relation) [] rows member_keeps are)
        (λ own h. (h, tt))

  -- ---- the links of owners

  module _ {P : Loading → Type 0} (steps : AreLoadSteps mapped IsRow IsCells P) (relation : Relation) (place : RelNo) (related : IsRelated mapped relation) (IsOwned : ObjId → Type 0)
      (sees : (own : Loading) → P own → (object : ObjId) → IsOwned object → ends.IsChild mapped own.graph relation place object) where
    owners_keep : (owners : List Owner) (members : List Member) → relation.many ≡ true → AllByRecursion (λ owner. IsOwned owner.object) owners → ((own : Loading) → P own → MembersFound (root_of mapped relation.target) members own.graph)
        → Keeps (Holds mapped P) (Holds mapped P) IsAnything (fill_owners place owners members)
    unfolding fill_owners
    owners_keep owners members many owned found =
        keeps_all (λ owner. IsOwned owner.object) (fill_owner place members) tt owners
        (λ owner u is. keeps_change (collection_filled owner.object place (members_under members owner.key))
        (λ own h. members_holds of steps relation place owner.object (members_under members owner.key) own related many (sees own h.is owner.object is)
        (of_owner (root_of mapped relation.target) own.graph members owner.key (found own h.is)) h))
        owned

    ends_keep : (owners : List ObjId) → relation.many ≡ false → AllByRecursion IsOwned owners → Keeps (Holds mapped P) (Holds mapped P) IsAnything (ends.fill_owners mapped relation place owners)
    unfolding ends.fill_owners
    ends_keep owners single owned =
        keeps_all IsOwned (ends.fill_owner mapped relation place) tt owners
        (λ owner u is. keeps_change (ends.end_known mapped relation place owner)
        (λ own h. ended_holds of steps relation place owner (ends.known_end mapped relation.target own.graph (ends.key_of mapped relation own.graph owner)) own related single (sees own h.is owner is)
        (known own.graph (ends.key_of mapped relation own.graph owner) h.arena.graph.rooted) h))
        owned
      where
        known : (graph : Graph) (key : List Value) → length graph.roots ≡ length graph.objects → IsEnd graph (root_of mapped relation.target) (ends.known_end mapped relation.target graph key)
        known graph key rooted = by (has_null key) (find_identity graph (root_of mapped relation.target) key) refl
          where
            of_class : (object : ObjId) (b : Bool) → IsFound graph (root_of mapped relation.target) object → IsEnd graph (root_of mapped relation.target) (if b then Some object else None)
            of_class object true is = is
            of_class object false is = tt

            by : (null : Bool) (held : Option ObjId) → find_identity graph (root_of mapped relation.target) key ≡ held → IsEnd graph (root_of mapped relation.target) (if null then None else option_and_then (if_of graph mapped relation.target) held)
            by true held is = tt
            by false None is = tt
            by false (Some object) is = of_class object (is_of graph mapped relation.target object) (record { key = key; stands = found_stands graph (root_of mapped relation.target) key object rooted is })

  -- ---- loads

  module _ {P : Loading → Type 0} (steps : AreLoadSteps mapped IsRow IsCells P) (store : Store) (answers : AnswerRows mapped IsRow IsCells store.tables) (relation : Relation) (place : RelNo) (related : IsRelated mapped relation)
      (IsOwned : ObjId → Type 0) (sees : (own : Loading) → P own → (object : ObjId) → IsOwned object → ends.IsChild mapped own.graph relation place object) where
    batch_filled : (owners : List Owner) (rows : List (List Value)) → relation.many ≡ true → AllByRecursion (λ owner. IsOwned owner.object) owners → AllByRecursion (λ row. IsRow relation.target (target_values mapped relation row)) rows
        → Keeps (Holds mapped P) (Holds mapped P) IsAnything (fill_batch mapped relation place owners rows)
    batch_filled owners rows many owned are =
        let root : ClassId = root_of mapped relation.target in
        keeps_then (take_members mapped relation rows) (fill_owners place owners) (members_keep steps relation related rows are) (λ own h. h)
        (λ members. keeps_less (fill_owners place owners members) (keeps_from (fill_owners place owners members) (owners_keep (steps_with of (MembersFound root members) (members_last root members) steps) relation place related IsOwned (λ own p object is. sees own p.0 object is) owners members many owned (λ own p. p.1))
        (λ own h. record { arena = h.0.arena; is = (h.0.is, h.1) })) (λ own h. record { arena = h.arena; is = h.is.0 })
        (λ u own h q. tt))

    batch_keeps : (owners : List Owner) → relation.many ≡ true → AllByRecursion (λ owner. IsOwned owner.object) owners → Keeps (IsOver mapped P store) (IsOver mapped P store) IsAnything (load_batch mapped relation place owners)
    unfolding load_batch read_batch
    batch_keeps [] many owned = keeps_tell tt
    batch_keeps (first ∷ more) many owned =
        keeps_then (read mapped.schema (batch_select mapped relation (keys_of (first ∷ more)))) (λ rows. on_own (fill_batch mapped relation place (first ∷ more) rows))
        (select_keeps of steps store answers (batch_select mapped relation (keys_of (first ∷ more))) (AllByRecursion (λ row. IsRow relation.target (target_values mapped relation row))) (answers.batches relation (keys_of (first ∷ more)) related many))
        (λ w over. over)
        (λ rows. keeps_given (on_own (fill_batch mapped relation place (first ∷ more) rows)) (λ are. keeps_own mapped (fill_batch mapped relation place (first ∷ more) rows) (batch_filled (first ∷ more) rows many owned are)))

    -- the collections of several owners
    pub members_load : (owners : List ObjId) → relation.many ≡ true → AllByRecursion IsOwned owners → Keeps (IsOver mapped P store) (IsOver mapped P store) IsAnything (load_members mapped relation place owners)
    unfolding load_members load_each
    members_load owners many owned =
        keeps_by_own (λ own. load_batches mapped relation place (unloaded_owners own.graph place owners))
        (λ own.
        let waiting : List Owner = unloaded_owners own.graph place owners in
        keeps_from (load_batches mapped relation place waiting) (keeps_all (λ start. Unit {0}) (load_from mapped relation place waiting) tt (batch_starts (length waiting))
        (λ start u is. batch_keeps (batch_at waiting start) many (batch_all (λ owner. IsOwned owner.object) waiting start (unloaded_all IsOwned own.graph place owners owned)))
        (any_item (batch_starts (length waiting))))
        (λ w is. is.0))

    targets_keep : (rows : List (List Value)) → AllByRecursion (IsRow relation.target) rows → Keeps (Holds mapped P) (Holds mapped P) IsAnything (ends.take_targets mapped relation.target rows)
    targets_keep rows are =
        keeps_then (take_rows mapped relation.target rows) (λ objects. give tt) (rows_keep of steps relation.target related.target rows are) (λ own h. h) (λ objects. keeps_from (give tt) (keeps_tell tt) (λ own h. h.0))

    keys_keep : (keys : List (List Value)) → Keeps (IsOver mapped P store) (IsOver mapped P store) IsAnything (ends.load_keys mapped relation.target keys)
    unfolding ends.load_keys
    keys_keep [] = keeps_tell tt
    keys_keep (key ∷ keys) =
        let class : ClassId = relation.target in
        keeps_then (read mapped.schema (targets_select mapped class (key ∷ keys))) (λ rows. on_own (ends.take_targets mapped class rows))
        (select_keeps of steps store answers (targets_select mapped class (key ∷ keys)) (AllByRecursion (IsRow class)) (answers.targets class (key ∷ keys) related.target)) (λ w over. over)
        (λ rows. keeps_given (on_own (ends.take_targets mapped class rows)) (λ are. keeps_own mapped (ends.take_targets mapped class rows) (targets_keep rows are)))

    -- the many-to-one links of several owners
    pub ends_load : (owners : List ObjId) → relation.many ≡ false → AllByRecursion IsOwned owners → Keeps (IsOver mapped P store) (IsOver mapped P store) IsAnything (ends.load_ends mapped relation place owners)
    unfolding ends.load_ends ends.load_each
    ends_load owners single owned =
        keeps_by_own (λ own. ends.load_unloaded mapped relation place own.graph (ends.unloaded own.graph place owners))
        (λ own.
        let waiting : List ObjId = ends.unloaded own.graph place owners in
        let keys : List (List Value) = ends.wanted_keys mapped relation own.graph waiting in
        keeps_from (ends.load_unloaded mapped relation place own.graph waiting) (keeps_then (each (ends.load_from mapped relation.target keys) tt (batch_starts (length keys))) (λ u. on_own (ends.fill_owners mapped relation place waiting))
        (keeps_all (λ start. Unit {0}) (ends.load_from mapped relation.target keys) tt (batch_starts (length keys)) (λ start u is. keys_keep (batch_at keys start)) (any_item (batch_starts (length keys))))
        (λ w over. over)
        (λ u. keeps_from (on_own (ends.fill_owners mapped relation place waiting)) (keeps_own mapped (ends.fill_owners mapped relation place waiting) (ends_keep steps relation place related IsOwned sees waiting single (waiting_all IsOwned own.graph place owners owned)))
        (λ w is. is.0)))
        (λ w is. is.0))

    -- either
    pub together_load : (owners : List ObjId) (many : Bool) → relation.many ≡ many → AllByRecursion IsOwned owners
        → Keeps (IsOver mapped P store) (IsOver mapped P store) IsAnything (if many then load_members mapped relation place owners else ends.load_ends mapped relation place owners)
    together_load owners true many owned = members_load owners many owned
    together_load owners false single owned = ends_load owners single owned
