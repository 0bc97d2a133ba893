-- A batch of a select-in load fills the collection of each owner with what is related to it.
use Rattle.std.proofs.Common.{◌≡◌, ◌⊎◌, inl, inr, ℕ, zero, suc, ◌+◌, ◌*◌, ◌/◌, ◌%◌, ◌<◌, ◌≤◌, ◌==◌, arith, Bool, true, false, ◌&&◌, ◌||◌, List, [], ◌∷◌, ◌++◌, drop, filter, length, map, take, Option, None, Some, Ok, if◌then◌else◌, refl, sym, ap, subst, ◌∙◌, append_assoc, append-nil}
use Rattle.std.specs.Prelude.{slice_index_or, slice_set}
use Rattle.std.specs.List.{All, AllByRecursion, flat_map, list_any, range_with_len}
use Rattle.std.proofs.lemmas.Bool.{eqb-false, eqb-true}
use Rattle.std.proofs.lemmas.List.{drop-map, drop_all, get_or-set_other, length-map, length-set, take-append-drop, take-map}
use Rattle.std.proofs.lemmas.List.Folds.{list_any-append}
use Rattle.std.proofs.Math.Nat.{mod-add-div, mod-lt}
use Rattle.std.proofs.lemmas.List.Elements.{All-drop, All-take, recursion_from_All}
use Rattle.base_core.proofs.Tests.{or_false}
use Rattle.base_core.specs.declared.ids.ObjId.{ObjId}
use Rattle.base_core.specs.declared.ids.RelNo.{RelNo}
use Rattle.base_core.specs.declared.value.Value.{Value}
use Rattle.schema_core.specs.Tables.{same_values}
use Rattle.sql_semantics.specs.Created.{bare}
use Rattle.sql_semantics.specs.Eval.{Row}
use Rattle.sql_semantics.specs.Rows.{answer}
use Rattle.class_types.specs.declared.mapped.Relation.{Relation}
use Rattle.class_sides.specs.Keys.{TableKey}
use Rattle.class_mapping.specs.Mapped.{Mapped, root_of}
use Rattle.class_mapping.specs.Paired.{HasPairs}
use Rattle.keeper_core.specs.Beside.{on_own}
use Rattle.keeper_core.specs.Store.{Store}
use Rattle.keeper_core.specs.Programs.{each, give}
use Rattle.object_arena.specs.declared.object.Link.{Link}
use Rattle.object_arena.specs.declared.object.Link.TheVariants.{Unset, Unloaded, One, Many}
use Rattle.object_arena.specs.declared.object.Object.{Object}
use Rattle.object_arena.specs.Graph.{Graph, IsLink, IsObject, is_among, no_object, object_at, place_of, with_link}
use Rattle.object_arena.proofs.TurnLemmas.{at_with}
use Rattle.collection_selects.specs.Collections.{batch_by, batch_select, owner_columns}
use Rattle.load_columns.specs.Conditions.{has_one_of}
use Rattle.load_selects.specs.Selects.{class_rows}
use Rattle.load_filling.specs.Rows.{row_key, value_in}
use Rattle.load_rows.specs.Loading.{Loading, take_row}
use Rattle.load_rows.specs.Reading.{identity_key}
use Rattle.load_rows.specs.Links.{collection_filled, collection_of, in_key_order, link_at, linked, with_loaded}
use Rattle.load_calls.specs.Reading.{World, read}
use Rattle.load_calls.specs.Collections.{load_collection}
use Rattle.load_batches.specs.Batches.{batch_at, batch_size, batch_starts, fill_batch, fill_owner, fill_owners, is_unloaded, keys_of, filled_by_batch, load_batch, load_batches, load_each, load_from, load_members, member_of, members_under, objects_in, owner_key_in, owner_places_by, read_batch, take_member, take_members, target_values, unloaded_owner, unloaded_owners, with_key as with_owner_key}
use Rattle.collection_selects.specs.Pairs.{owner_width_by}
use Rattle.load_batches.specs.declared.members.Member.{Member}
use Rattle.load_batches.specs.declared.owners.Owner.{Owner}
use Rattle.loading_laws.specs.Answers.Answers.{IsKeyOf}
use Rattle.loading_laws.proofs.Answers.Filters.{rows_of_keys}
use Rattle.loading_laws.proofs.Answers.Totals.{filter_same, filter_twice}
use Rattle.loading_laws.specs.Strategies.Filled.{AreAlike, Goes, HoldsRelated, IsFilled, IsOneToMany, IsWaiting, Stage, key_of_owner, keys_in_order, related_rows, with_keys}
use Rattle.loading_laws.specs.Strategies.Standing.{Keeps, Stands, Stays}
use Rattle.loading_laws.proofs.Strategies.Goes.{StandFor, by_own_goes, change_to, given, on_own_goes, parted, read_goes, row_taken}
use Rattle.loading_laws.proofs.Strategies.Lazy.{filled_as, filled_link, later_filled, lazy_fills}
use Rattle.loading_laws.proofs.Strategies.Tells.{tells_owners}
use Rattle.loading_laws.proofs.Strategies.Standing.{IsTaken, keeps_same, keeps_then, link_kept, made_later, stays_link, stays_same, stays_then}

-- ---- the members of rows

-- members stand for rows, each with the key of its owner
abbrev StandMembers : Mapped → Relation → Graph → List Row → List Member → Type 0
StandMembers mapped relation graph [] [] = Unit {0}
StandMembers mapped relation graph (row ∷ rows) (member ∷ members) =
    ((member.owner ≡ owner_key_in mapped relation row) × Stands (root_of mapped relation.target) graph (row_key mapped relation.target (target_values mapped relation row)) member.object) × StandMembers mapped relation graph rows members
StandMembers mapped relation graph rows members = ⊥

members_later : (mapped : Mapped) (relation : Relation) (old new : Graph) (rows : List Row) (members : List Member) → Stays old new → StandMembers mapped relation old rows members → StandMembers mapped relation new rows members
members_later mapped relation old new [] [] stays h = tt
members_later mapped relation old new [] (member ∷ members) stays h = absurd h
members_later mapped relation old new (row ∷ rows) [] stays h = absurd h
members_later mapped relation old new (row ∷ rows) (member ∷ members) stays h =
    ((h.0.0, stays.stand (root_of mapped relation.target) (row_key mapped relation.target (target_values mapped relation row)) member.object h.0.1), members_later mapped relation old new rows members stays h.1)

record AreTaken (mapped : Mapped) (relation : Relation) (rows : List Row) (before : List Member) (own : Loading) (members : List Member) (now : Loading) : Type 0 where
  new : List Member
  are : members ≡ before ++ new
  stand : StandMembers mapped relation now.graph rows new
  keeps : Keeps own.graph now.graph
  rooted : length now.graph.roots ≡ length now.graph.objects

members_go : (mapped : Mapped) (relation : Relation) → HasPairs mapped → (rows : List Row) (before : List Member) (own : Loading) (members : List Member) (now : Loading) → length own.graph.roots ≡ length own.graph.objects
    → Goes (each (take_member mapped relation) before rows) own members now → AreTaken mapped relation rows before own members now
unfolding each
members_go mapped relation has [] before own members now rooted g =
    let end = given before members own now g in
    subst (λ (u : Loading). AreTaken mapped relation [] before own members u) end.1 (record { new = []; are = sym end.0 ∙ sym (append-nil before); stand = tt; keeps = keeps_same own.graph; rooted = rooted })
members_go mapped relation has (row ∷ rows) before own members now rooted g =
    let values : Row = target_values mapped relation row in
    let one = parted (take_member mapped relation row before) (λ (t : List Member). each (take_member mapped relation) t rows) own members now g in
    let two = parted (take_row mapped relation.target values) (λ (o : ObjId). give (before ++ member_of (owner_key_in mapped relation row) o ∷ [])) own one.value one.between one.first in
    let member : Member = member_of (owner_key_in mapped relation row) two.value in
    let put = given (before ++ member ∷ []) one.value two.between one.between two.second in
    let here = subst (λ (u : Loading). IsTaken mapped relation.target values own.graph u.graph two.value) put.1 (row_taken mapped relation.target has values own two.between two.value rooted two.first) in
    let rest = members_go mapped relation has rows one.value one.between members now here.rooted one.second in
    record {
      new = member ∷ rest.new;
      are = rest.are ∙ ap (λ (b : List Member). b ++ rest.new) (sym put.0) ∙ append_assoc before (member ∷ []) rest.new;
      stand = ((refl, rest.keeps.all.stand (root_of mapped relation.target) (row_key mapped relation.target values) two.value here.stands), rest.stand);
      keeps = keeps_then own.graph one.between.graph now.graph here.keeps rest.keeps;
      rooted = rest.rooted;
    }

-- the rows of the target in those of one owner's members
abbrev pub member_rows : Mapped → Relation → List Row → List Value → List Row
member_rows mapped relation rows key = map (target_values mapped relation) (filter (λ row. same_values (owner_key_in mapped relation row) key) rows)

-- its members stand for them
under_by : (mapped : Mapped) (relation : Relation) (graph : Graph) (row : Row) (rows : List Row) (member : Member) (members : List Member) (b : Bool)
    → Stands (root_of mapped relation.target) graph (row_key mapped relation.target (target_values mapped relation row)) member.object → StandFor mapped relation.target graph (map (target_values mapped relation) rows) (objects_in members)
    → StandFor mapped relation.target graph (map (target_values mapped relation) (if b then row ∷ rows else rows)) (objects_in (if b then member ∷ members else members))
under_by mapped relation graph row rows member members true one rest = (one, rest)
under_by mapped relation graph row rows member members false one rest = rest

stand_under : (mapped : Mapped) (relation : Relation) (graph : Graph) (key : List Value) (rows : List Row) (members : List Member) → StandMembers mapped relation graph rows members
    → StandFor mapped relation.target graph (member_rows mapped relation rows key) (members_under members key)
stand_under mapped relation graph key [] [] h = tt
stand_under mapped relation graph key [] (member ∷ members) h = absurd h
stand_under mapped relation graph key (row ∷ rows) [] h = absurd h
stand_under mapped relation graph key (row ∷ rows) (member ∷ members) h =
    subst
    (λ (k : List Value). StandFor mapped relation.target graph (member_rows mapped relation (row ∷ rows) key) (objects_in (if same_values k key then member ∷ filter (λ one. same_values one.owner key) members else filter (λ one. same_values one.owner key) members)))
    (sym h.0.0)
    (under_by mapped relation graph row (filter (λ one. same_values (owner_key_in mapped relation one) key) rows) member (filter (λ one. same_values one.owner key) members) (same_values (owner_key_in mapped relation row) key) h.0.1
    (stand_under mapped relation graph key rows members h.1))

-- ---- the filling of owners

pub or_true : (b : Bool) → (b || true) ≡ true
or_true true = refl
or_true false = refl

pub or_assoc : (a b c : Bool) → ((a || b) || c) ≡ (a || (b || c))
or_assoc true b c = refl
or_assoc false b c = refl

pub stays_loaded : (owner : ObjId) (place : RelNo) (link : Option Link) (own : Loading) → Stays own.graph (with_loaded owner place link own).graph
stays_loaded owner place None own = stays_same own.graph
stays_loaded owner place (Some link) own = stays_link own.graph owner place link

rooted_loaded : (owner : ObjId) (place : RelNo) (link : Option Link) (own : Loading) → length own.graph.roots ≡ length own.graph.objects → length (with_loaded owner place link own).graph.roots ≡ length (with_loaded owner place link own).graph.objects
rooted_loaded owner place None own rooted = rooted
rooted_loaded owner place (Some link) own rooted =
    rooted ∙ sym (length-set own.graph.objects (place_of owner) (record (object_at own.graph owner) { links = slice_set (object_at own.graph owner).links place.0 link }))

pub held_loaded : (owner : ObjId) (place : RelNo) (link : Option Link) (own : Loading) → IsObject own.graph owner → IsLink own.graph owner place → IsLink (with_loaded owner place link own).graph owner place
held_loaded owner place None own made held = held
held_loaded owner place (Some link) own made held =
    let record_of : Object = record (object_at own.graph owner) { links = slice_set (object_at own.graph owner).links place.0 link } in
    let same : object_at (with_link own.graph owner place link) owner ≡ record_of = at_with own.graph owner record_of made in
    let long : length (slice_set (object_at own.graph owner).links place.0 link) ≡ length (object_at own.graph owner).links = length-set (object_at own.graph owner).links place.0 link in
    subst (λ (o : Object). place.0 < length o.links) (sym same) (omega (arith, long, held))

-- a filled link is no unloaded one
filled_stays : (read base : List ObjId) (old now : Link) → is_unloaded old ≡ true → Some now ≡ collection_of base old → collection_of read now ≡ None
filled_stays read base Unset now h e = absurd cc
filled_stays read base (One end changed) now h e = absurd cc
filled_stays read base (Many members own) now h e = absurd cc
filled_stays read base (Unloaded added removed) now h e = ap (collection_of read) (same_link now (Many (linked added removed base) base) e)
  where
    same_link : (one other : Link) → Some one ≡ Some other → one ≡ other
    same_link one other e = cc

-- the owner's link waits still, or it is filled; surely where it is known to be
abbrev Waits : Mapped → Relation → RelNo → ObjId → Link → List Row → Bool → Graph → Type 0
Waits mapped relation place owner old wanted true graph = IsFilled mapped relation wanted old graph (link_at graph owner place)
Waits mapped relation place owner old wanted false graph = (link_at graph owner place ≡ old) ⊎ IsFilled mapped relation wanted old graph (link_at graph owner place)

-- a graph in which the owner's link is the same, and who stands stays
carried : (mapped : Mapped) (relation : Relation) (place : RelNo) (owner : ObjId) (old : Link) (wanted : List Row) (sure : Bool) (before after : Graph) → Stays before after → link_at after owner place ≡ link_at before owner place
    → Waits mapped relation place owner old wanted sure before → Waits mapped relation place owner old wanted sure after
carried mapped relation place owner old wanted true before after stays same filled =
    subst (λ (link : Link). IsFilled mapped relation wanted old after link) (sym same) (later_filled mapped relation wanted old (link_at before owner place) before after stays filled)
carried mapped relation place owner old wanted false before after stays same (inl waits) = inl (same ∙ waits)
carried mapped relation place owner old wanted false before after stays same (inr filled) =
    inr (subst (λ (link : Link). IsFilled mapped relation wanted old after link) (sym same) (later_filled mapped relation wanted old (link_at before owner place) before after stays filled))

module _ (mapped : Mapped) (relation : Relation) (place : RelNo) (owner : ObjId) (key : List Value) (old : Link) (unloaded : is_unloaded old ≡ true) (start : Graph) (wanted rows : List Row) (members : List Member)
    (made : IsObject start owner) (there : Bool)
    (under : there ≡ true → keys_in_order (map (row_key mapped relation.target) (member_rows mapped relation rows key)) ≡ keys_in_order (map (row_key mapped relation.target) wanted)) where
  abbrev Stand : Bool → Graph → Type 0
  Stand sure graph = Waits mapped relation place owner old wanted sure graph

  record At (sure : Bool) (graph : Graph) : Type 0 where
    stays : Stays start graph
    rooted : length graph.roots ≡ length graph.objects
    held : IsLink graph owner place
    taken : StandMembers mapped relation graph rows members
    stand : Stand sure graph

  moved : (sure : Bool) (before after : Graph) → length after.roots ≡ length after.objects → Stays before after → (object_at after owner).links ≡ (object_at before owner).links → At sure before → At sure after
  moved sure before after rooted stays same at = record {
    rooted = rooted;
    stays = stays_then start before after at.stays stays;
    held = subst (λ (links : List Link). place.0 < length links) (sym same) at.held;
    taken = members_later mapped relation before after rows members stays at.taken;
    stand = carried mapped relation place owner old wanted sure before after stays (ap (λ (links : List Link). slice_index_or links place.0 Unset) same) at.stand;
  }

  -- another owner's link is filled
  other_filled : (sure : Bool) (other : ObjId) (link : Option Link) (own : Loading) → (other.0 == owner.0) ≡ false → IsObject own.graph other → At sure own.graph → At sure (with_loaded other place link own).graph
  other_filled sure other None own apart there at = at
  other_filled sure other (Some link) own apart there at =
      let new : Object = record (object_at own.graph other) { links = slice_set (object_at own.graph other).links place.0 link } in
      let here : IsObject own.graph owner = made_later start own.graph owner at.stays made in
      let no : other.0 ≡ owner.0 → ⊥ = eqb-false other.0 owner.0 apart in
      moved sure own.graph (with_link own.graph other place link) (rooted_loaded other place (Some link) own at.rooted) (stays_link own.graph other place link)
      (ap (λ (o : Object). o.links) (get_or-set_other own.graph.objects (place_of other) (place_of owner) new no_object (λ same. no (omega (arith, same, here.0, there.0))))) at

  -- its own is
  own_waiting : (own : Loading) → there ≡ true → At false own.graph → link_at own.graph owner place ≡ old → At true (collection_filled owner place (members_under members key) own).graph
  unfolding collection_filled
  own_waiting own in_batch at waits =
      let link : Option Link = collection_of (in_key_order own.graph (members_under members key)) (link_at own.graph owner place) in
      let here : IsObject own.graph owner = made_later start own.graph owner at.stays made in
      let stays : Stays own.graph (with_loaded owner place link own).graph = stays_loaded owner place link own in
      record {
        stays = stays_then start own.graph (with_loaded owner place link own).graph at.stays stays;
        rooted = rooted_loaded owner place link own at.rooted;
        held = held_loaded owner place link own here at.held;
        taken = members_later mapped relation own.graph (with_loaded owner place link own).graph rows members stays at.taken;
        stand =
            filled_as mapped relation (member_rows mapped relation rows key) wanted old (with_loaded owner place link own).graph (link_at (with_loaded owner place link own).graph owner place) (under in_batch)
            (filled_link mapped relation place owner (member_rows mapped relation rows key) (members_under members key) own.graph old (stand_under mapped relation own.graph key rows members at.taken) here at.held unloaded waits own refl);
      }

  own_again : (sure : Bool) (own : Loading) → At sure own.graph → IsFilled mapped relation wanted old own.graph (link_at own.graph owner place) → At true (collection_filled owner place (members_under members key) own).graph
  unfolding collection_filled
  own_again sure own at filled =
      subst (λ (link : Option Link). At true (with_loaded owner place link own).graph)
      (sym (filled_stays (in_key_order own.graph (members_under members key)) filled.base old (link_at own.graph owner place) unloaded filled.link))
      (record { stays = at.stays; rooted = at.rooted; held = at.held; taken = at.taken; stand = filled })

  own_either : (own : Loading) → there ≡ true → At false own.graph → ((link_at own.graph owner place ≡ old) ⊎ IsFilled mapped relation wanted old own.graph (link_at own.graph owner place)) → At true (collection_filled owner place (members_under members key) own).graph
  own_either own in_batch at (inl waits) = own_waiting own in_batch at waits
  own_either own in_batch at (inr filled) = own_again false own at filled

  own_filled : (sure : Bool) (own : Loading) → there ≡ true → At sure own.graph → At true (collection_filled owner place (members_under members key) own).graph
  own_filled true own in_batch at = own_again true own at at.stand
  own_filled false own in_batch at = own_either own in_batch at at.stand

  -- one owner after the other
  module _ (first : Graph) (named : identity_key first owner ≡ key) where
    owner_step : (sure b : Bool) (other : ObjId) (own mid : Loading) → (other.0 == owner.0) ≡ b → (b ≡ true → there ≡ true) → IsObject start other → At sure own.graph → collection_filled other place (members_under members (identity_key first other)) own ≡ mid → At (sure || b) mid.graph
    unfolding collection_filled
    owner_step sure true other own mid same listed found at is =
        let one : owner ≡ other = ap (λ (n : ℕ). let o : ObjId = record { 0 = n } in o) (sym (eqb-true other.0 owner.0 same)) in
        let done : At true (collection_filled owner place (members_under members key) own).graph = own_filled sure own (listed refl) at in
        let shown : At true (collection_filled owner place (members_under members (identity_key first owner)) own).graph = subst (λ (k : List Value). At true (collection_filled owner place (members_under members k) own).graph) (sym named) done in
        let turned : At true (collection_filled other place (members_under members (identity_key first other)) own).graph = subst (λ (o : ObjId). At true (collection_filled o place (members_under members (identity_key first o)) own).graph) one shown in
        subst (λ (c : Bool). At c mid.graph) (sym (or_true sure)) (subst (λ (u : Loading). At true u.graph) is turned)
    owner_step sure false other own mid apart listed found at is =
        subst (λ (c : Bool). At c mid.graph) (sym (or_false sure))
        (subst (λ (u : Loading). At sure u.graph) is
        (other_filled sure other (collection_of (in_key_order own.graph (members_under members (identity_key first other))) (link_at own.graph other place)) own apart (made_later start own.graph other at.stays found) at))

    owners_go : (sure : Bool) (ids : List ObjId) (u : Unit {0}) (own now : Loading) → (is_among ids owner ≡ true → there ≡ true) → AllByRecursion (IsObject start) ids → At sure own.graph → Goes (each (fill_owner place members) u (with_keys first ids)) own tt now → At (sure || is_among ids owner) now.graph
    unfolding each
    owners_go sure [] u own now listed all at g =
        let end = given u tt own now g in subst (λ (c : Bool). At c now.graph) (sym (or_false sure)) (subst (λ (u : Loading). At sure u.graph) end.1 at)
    owners_go sure (other ∷ ids) u own now listed all at g =
        let one = parted (fill_owner place members (with_owner_key first other) u) (λ (v : Unit {0}). each (fill_owner place members) v (with_keys first ids)) own tt now g in
        let step = owner_step sure (other.0 == owner.0) other own one.between refl (λ same. listed (ap (λ (b : Bool). b || is_among ids owner) same)) all.0 at (change_to (collection_filled other place (members_under members (identity_key first other))) own one.value one.between one.first) in
        subst (λ (c : Bool). At c now.graph) (or_assoc sure (other.0 == owner.0) (is_among ids owner)) (owners_go (sure || (other.0 == owner.0)) ids one.value one.between now (λ more. listed (ap (λ (b : Bool). (other.0 == owner.0) || b) more ∙ or_true (other.0 == owner.0))) all.1 step one.second)

-- ---- the keys of a batch

pub some_key : (graph : Graph) (owner : ObjId) (owners : List ObjId) (values : List Value) → is_among owners owner ≡ true → same_values values (identity_key graph owner) ≡ true → list_any (same_values values) (keys_of (with_keys graph owners)) ≡ true
some_key graph owner [] values among same = absurd cc
some_key graph owner (other ∷ owners) values among same = by (other.0 == owner.0) refl (some_key graph owner owners values)
  where
    rest : (is_among owners owner ≡ true → same_values values (identity_key graph owner) ≡ true → list_any (same_values values) (keys_of (with_keys graph owners)) ≡ true) → (other.0 == owner.0) ≡ false → list_any (same_values values) (keys_of (with_keys graph owners)) ≡ true
    rest more apart = more (sym (ap (λ (b : Bool). b || is_among owners owner) apart) ∙ among) same

    by : (b : Bool) → (other.0 == owner.0) ≡ b → (is_among owners owner ≡ true → same_values values (identity_key graph owner) ≡ true → list_any (same_values values) (keys_of (with_keys graph owners)) ≡ true)
        → (same_values values (identity_key graph other) || list_any (same_values values) (keys_of (with_keys graph owners))) ≡ true
    by true is more =
        let one : owner ≡ other = ap (λ (n : ℕ). let o : ObjId = record { 0 = n } in o) (sym (eqb-true other.0 owner.0 is)) in
        ap (λ (b : Bool). b || list_any (same_values values) (keys_of (with_keys graph owners))) (subst (λ (o : ObjId). same_values values (identity_key graph o) ≡ true) one same)
    by false is more = ap (λ (b : Bool). same_values values (identity_key graph other) || b) (rest more is) ∙ or_true (same_values values (identity_key graph other))

pub one_waiting : (P : ObjId → Type 0) (owners : List ObjId) (owner : ObjId) → AllByRecursion P owners → is_among owners owner ≡ true → P owner
one_waiting P [] owner all among = absurd cc
one_waiting P (other ∷ owners) owner all among = by (other.0 == owner.0) refl (one_waiting P owners owner all.1)
  where
    by : (b : Bool) → (other.0 == owner.0) ≡ b → (is_among owners owner ≡ true → P owner) → P owner
    by true is more = subst P (ap (λ (n : ℕ). let o : ObjId = record { 0 = n } in o) (eqb-true other.0 owner.0 is)) all.0
    by false is more = more (sym (ap (λ (b : Bool). b || is_among owners owner) is) ∙ among)

-- ---- each owner is in a batch

any_cut : {A : Type 0} (p : A → Bool) (n : ℕ) (xs : List A) → list_any p xs ≡ (list_any p (take n xs) || list_any p (drop n xs))
any_cut p n xs = ap (list_any p) (sym (take-append-drop n xs)) ∙ list_any-append p (take n xs) (drop n xs)

drop_twice : {A : Type 0} (n m : ℕ) (xs : List A) → drop m (drop n xs) ≡ drop (n + m) xs
drop_twice zero m xs = let same : m ≡ 0 + m = omega arith in ap (λ (k : ℕ). drop k xs) same
drop_twice (suc n) m [] = drop_all m [] (omega arith) ∙ sym (drop_all (suc n + m) [] (omega arith))
drop_twice (suc n) m (x ∷ xs) = let same : suc (n + m) ≡ suc n + m = omega arith in drop_twice n m xs ∙ ap (λ (k : ℕ). drop k (x ∷ xs)) same

covered_by : {A : Type 0} (p : A → Bool) (n first : ℕ) (xs : List A) → length xs ≤ 500 * (first + n) → list_any p (drop (500 * first) xs) ≡ true → list_any (λ start. list_any p (batch_at xs start)) (map (λ number. batch_size * number) (range_with_len first n)) ≡ true
covered_by p zero first xs few any = absurd (let gone = drop_all (500 * first) xs (omega (arith, few)) in let no : list_any p [] ≡ true = ap (list_any p) (sym gone) ∙ any in cc)
covered_by p (suc n) first xs few any =
    ap (λ (b : Bool). b || list_any (λ start. list_any p (batch_at xs start)) (map (λ number. batch_size * number) (range_with_len (first + 1) n))) refl
    ∙ by (list_any p (batch_at xs (500 * first))) refl
    (λ more. covered_by p n (first + 1) xs (omega (arith, few)) (ap (list_any p) (ap (λ (k : ℕ). drop k xs) (next first) ∙ sym (drop_twice (500 * first) 500 xs)) ∙ more))
  where
    next : (k : ℕ) → 500 * (k + 1) ≡ 500 * k + 500
    next k = omega arith

    by : (b : Bool) → list_any p (batch_at xs (500 * first)) ≡ b
        → (list_any p (drop 500 (drop (500 * first) xs)) ≡ true → list_any (λ start. list_any p (batch_at xs start)) (map (λ number. batch_size * number) (range_with_len (first + 1) n)) ≡ true)
        → (list_any p (batch_at xs (500 * first)) || list_any (λ start. list_any p (batch_at xs start)) (map (λ number. batch_size * number) (range_with_len (first + 1) n))) ≡ true
    by true is later = ap (λ (b : Bool). b || list_any (λ start. list_any p (batch_at xs start)) (map (λ number. batch_size * number) (range_with_len (first + 1) n))) is
    by false is later =
        ap (λ (b : Bool). list_any p (batch_at xs (500 * first)) || b)
        (later (sym (ap (λ (b : Bool). b || list_any p (drop 500 (drop (500 * first) xs))) is) ∙ sym (any_cut p 500 (drop (500 * first) xs)) ∙ any)) ∙ or_true (list_any p (batch_at xs (500 * first)))

enough : (n : ℕ) → n ≤ 500 * (0 + (n + 499) / 500)
enough n =
    let rest : (n + 499) % 500 < 500 = mod-lt (n + 499) (omega arith) in
    let whole : (n + 499) % 500 + 500 * ((n + 499) / 500) ≡ n + 499 = mod-add-div (n + 499) 500 in
    omega (arith, rest, whole)

-- what one of so many passes one of some batch passes
pub some_in_a_batch : {A : Type 0} (p : A → Bool) (xs : List A) → list_any p xs ≡ true → list_any (λ start. list_any p (batch_at xs start)) (batch_starts (length xs)) ≡ true
some_in_a_batch p xs some = covered_by p ((length xs + 499) / 500) 0 xs (enough (length xs)) some

in_a_batch : (owner : ObjId) (owners : List ObjId) → is_among owners owner ≡ true → list_any (λ start. is_among (batch_at owners start) owner) (batch_starts (length owners)) ≡ true
in_a_batch owner owners among = some_in_a_batch (λ other. other.0 == owner.0) owners among

-- ---- batches

-- between two batches: who stood stands, and the owner's link waits or is filled
record Between (mapped : Mapped) (relation : Relation) (place : RelNo) (owner : ObjId) (old : Link) (wanted : List Row) (w : World) (sure : Bool) (u : World) : Type 0 where
  stays : Stays w.own.graph u.own.graph
  rooted : length u.own.graph.roots ≡ length u.own.graph.objects
  held : IsLink u.own.graph owner place
  store : u.store ≡ w.store
  stand : Waits mapped relation place owner old wanted sure u.own.graph

-- that are ready, and whose rows, where the owner is in a batch, have the keys of those that are wanted
module _ (mapped : Mapped) (relation : Relation) (place : RelNo) (owner : ObjId) (wanted : List Row) (w : World) (has : HasPairs mapped) (rooted_now : length w.own.graph.roots ≡ length w.own.graph.objects) (Ready : ObjId → Type 0)
    (made_of : (object : ObjId) → Ready object → IsObject w.own.graph object) (unloaded_of : (object : ObjId) → Ready object → is_unloaded (link_at w.own.graph object place) ≡ true) (own : Ready owner) (linked : IsLink w.own.graph owner place)
    (same : (owners : List ObjId) (rows : List Row) → AllByRecursion Ready owners → is_among owners owner ≡ true → answer mapped.schema (bare w.store.tables) (batch_select mapped relation (keys_of (with_keys w.own.graph owners))) ≡ Ok rows
    → keys_in_order (map (row_key mapped relation.target) (member_rows mapped relation rows (identity_key w.own.graph owner))) ≡ keys_in_order (map (row_key mapped relation.target) wanted)) where
  abbrev key : List Value
  key = identity_key w.own.graph owner

  abbrev old : Link
  old = link_at w.own.graph owner place

  abbrev At_ : Bool → World → Type 0
  At_ sure u = Between mapped relation place owner old wanted w sure u

  owners_made : (owners : List ObjId) → AllByRecursion Ready owners → AllByRecursion (IsObject w.own.graph) owners
  owners_made [] all = tt
  owners_made (other ∷ owners) all = (made_of other all.0, owners_made owners all.1)

  some_fills : (sure : Bool) (u v : World) (owners : List ObjId) (batch : List Owner) → batch ≡ with_keys w.own.graph owners → AllByRecursion Ready owners → At_ sure u
      → Goes (filled_by_batch mapped relation place batch) u tt v → At_ (sure || is_among owners owner) v
  unfolding read_batch take_members fill_owners
  some_fills sure u v owners batch is ready at g =
      let one = parted (read mapped.schema (batch_select mapped relation (keys_of batch))) (λ (rows : List Row). on_own (fill_batch mapped relation place batch rows)) u tt v (record { answer = g.answer; leaves = g.leaves }) in
      let sent = read_goes mapped.schema (batch_select mapped relation (keys_of batch)) u one.value one.between one.first in
      let quiet = on_own_goes (fill_batch mapped relation place batch one.value) one.between tt v one.second in
      let two = parted (take_members mapped relation one.value) (fill_owners place batch) one.between.own tt v.own quiet.goes in
      let rooted : length one.between.own.graph.roots ≡ length one.between.own.graph.objects = subst (λ (h : Graph). length h.roots ≡ length h.objects) (sym sent.graph) at.rooted in
      let taken = members_go mapped relation has one.value [] one.between.own two.value two.between rooted (record { answer = two.first.answer; leaves = two.first.leaves }) in
      let graph : Graph = two.between.graph in
      let keeps : Keeps u.own.graph graph = subst (λ (h : Graph). Keeps h graph) sent.graph taken.keeps in
      let answered : answer mapped.schema (bare w.store.tables) (batch_select mapped relation (keys_of (with_keys w.own.graph owners))) ≡ Ok one.value =
      ap (λ (owned : List Owner). answer mapped.schema (bare w.store.tables) (batch_select mapped relation (keys_of owned))) (sym is)
      ∙ ap (λ (store : Store). answer mapped.schema (bare store.tables) (batch_select mapped relation (keys_of batch))) (sym at.store) ∙ sent.answered in
      let here : IsObject u.own.graph owner = made_later w.own.graph u.own.graph owner at.stays (made_of owner own) in
      let links : (object_at graph owner).links ≡ (object_at u.own.graph owner).links = keeps.links owner here in
      let start : At mapped relation place owner key old (unloaded_of owner own) w.own.graph wanted one.value two.value (made_of owner own) (is_among owners owner) (λ among. same owners one.value ready among answered) sure graph = record {
        stays = stays_then w.own.graph u.own.graph graph at.stays keeps.all;
        rooted = taken.rooted;
        held = subst (λ (ls : List Link). place.0 < length ls) (sym links) at.held;
        taken = subst (StandMembers mapped relation graph one.value) (sym taken.are) taken.stand;
        stand = carried mapped relation place owner old wanted sure u.own.graph graph keeps.all (link_kept u.own.graph graph owner place keeps here) at.stand;
      } in
      let filling : Goes (each (fill_owner place two.value) tt (with_keys w.own.graph owners)) two.between tt v.own =
      subst (λ (owned : List Owner). Goes (each (fill_owner place two.value) tt owned) two.between tt v.own) is (record { answer = two.second.answer; leaves = two.second.leaves }) in
      let end = owners_go mapped relation place owner key old (unloaded_of owner own) w.own.graph wanted one.value two.value (made_of owner own) (is_among owners owner) (λ among. same owners one.value ready among answered) w.own.graph refl sure owners tt two.between v.own (λ among. among)
      (owners_made owners ready) start filling in
      record { stays = end.stays; rooted = end.rooted; held = end.held; store = quiet.store ∙ sent.store ∙ at.store; stand = end.stand }

  one_batch : (sure : Bool) (u v : World) (owners : List ObjId) → AllByRecursion Ready owners → At_ sure u → Goes (load_batch mapped relation place (with_keys w.own.graph owners)) u tt v
      → At_ (sure || is_among owners owner) v
  unfolding load_batch
  one_batch sure u v [] ready at g =
      let end = given tt tt u v (record { answer = g.answer; leaves = g.leaves }) in
      subst (λ (b : Bool). At_ b v) (sym (or_false sure)) (subst (λ (x : World). At_ sure x) end.1 at)
  one_batch sure u v (first ∷ more) ready at g = some_fills sure u v (first ∷ more) (with_keys w.own.graph (first ∷ more)) refl ready at (record { answer = g.answer; leaves = g.leaves })

  -- all batches that begin at these places
  each_batch : (owners : List ObjId) (starts : List ℕ) (sure : Bool) (n : Unit {0}) (u v : World) → All Ready owners → At_ sure u
      → Goes (each (load_from mapped relation place (with_keys w.own.graph owners)) n starts) u tt v → At_ (sure || list_any (λ start. is_among (batch_at owners start) owner) starts) v
  unfolding each
  each_batch owners [] sure n u v ready at g =
      let end = given n tt u v g in subst (λ (b : Bool). At_ b v) (sym (or_false sure)) (subst (λ (x : World). At_ sure x) end.1 at)
  each_batch owners (start ∷ starts) sure n u v ready at g =
      let one = parted (load_from mapped relation place (with_keys w.own.graph owners) start n) (λ (m : Unit {0}). each (load_from mapped relation place (with_keys w.own.graph owners)) m starts) u tt v g in
      let mine : List ObjId = batch_at owners start in
      let together : batch_at (with_keys w.own.graph owners) start ≡ with_keys w.own.graph mine =
      ap (take batch_size) (drop-map (with_owner_key w.own.graph) start owners) ∙ take-map (with_owner_key w.own.graph) batch_size (drop start owners) in
      let here : Goes (load_batch mapped relation place (with_keys w.own.graph mine)) u tt one.between =
      subst (λ (owned : List Owner). Goes (load_batch mapped relation place owned) u tt one.between) together (record { answer = one.first.answer; leaves = one.first.leaves }) in
      let waits : All Ready mine = All-take Ready batch_size (drop start owners) (All-drop Ready start owners ready) in
      let step = one_batch sure u one.between mine (recursion_from_All Ready mine waits) at here in
      subst (λ (b : Bool). At_ b v) (or_assoc sure (is_among mine owner) (list_any (λ start. is_among (batch_at owners start) owner) starts))
      (each_batch owners starts (sure || is_among mine owner) one.value one.between v ready step one.second)

  began : At_ false w
  began = record { stays = stays_same w.own.graph; rooted = rooted_now; held = linked; store = refl; stand = inl refl }

  all_unloaded : (owners : List ObjId) → AllByRecursion Ready owners → flat_map (unloaded_owner w.own.graph place) owners ≡ with_keys w.own.graph owners
  all_unloaded [] ready = refl
  all_unloaded (other ∷ owners) ready =
      ap (λ (b : Bool). (if b then with_owner_key w.own.graph other ∷ [] else []) ++ flat_map (unloaded_owner w.own.graph place) owners) (unloaded_of other ready.0)
      ∙ ap (λ (xs : List Owner). with_owner_key w.own.graph other ∷ xs) (all_unloaded owners ready.1)

  pub all_filled : (owners : List ObjId) (after : World) → All Ready owners → is_among owners owner ≡ true → Goes (load_members mapped relation place owners) w tt after
      → IsFilled mapped relation wanted old after.own.graph (link_at after.own.graph owner place)
  unfolding load_members unloaded_owners load_each
  all_filled owners after ready among g =
      let is : flat_map (unloaded_owner w.own.graph place) owners ≡ with_keys w.own.graph owners = all_unloaded owners (recursion_from_All Ready owners ready) in
      let chosen = by_own_goes (λ (start : Loading). load_batches mapped relation place (flat_map (unloaded_owner start.graph place) owners)) w tt after (record { answer = g.answer; leaves = g.leaves }) in
      let shown : Goes (each (load_from mapped relation place (with_keys w.own.graph owners)) tt (batch_starts (length (with_keys w.own.graph owners)))) w tt after =
      subst (λ (owned : List Owner). Goes (each (load_from mapped relation place owned) tt (batch_starts (length owned))) w tt after) is (record { answer = chosen.answer; leaves = chosen.leaves }) in
      let long : length (with_keys w.own.graph owners) ≡ length owners = length-map owners (with_owner_key w.own.graph) in
      let counted : Goes (each (load_from mapped relation place (with_keys w.own.graph owners)) tt (batch_starts (length owners))) w tt after =
      subst (λ (n : ℕ). Goes (each (load_from mapped relation place (with_keys w.own.graph owners)) tt (batch_starts n)) w tt after) long shown in
      let end = each_batch owners (batch_starts (length owners)) false tt w after ready began counted in
      (subst (λ (b : Bool). Between mapped relation place owner old wanted w b after) (in_a_batch owner owners among) end).stand

-- ---- one-to-many

both_is : (b c : Bool) → (b ≡ true → c ≡ true) → (b && c) ≡ b
both_is true c so = so refl
both_is false c so = refl

keys_known : (mapped : Mapped) (relation : Relation) (place : RelNo) (graph : Graph) (owners : List ObjId) → AllByRecursion (IsWaiting mapped relation place graph) owners → AllByRecursion (IsKeyOf (owner_columns mapped relation)) (keys_of (with_keys graph owners))
keys_known mapped relation place graph [] all = tt
keys_known mapped relation place graph (owner ∷ owners) all = (all.0.keyed, keys_known mapped relation place graph owners all.1)

-- without a secondary table a member's row is the target's, and has the owner's key as its foreign key
values_are : (mapped : Mapped) (relation : Relation) (row : Row) → relation.far ≡ None → target_values mapped relation row ≡ row
values_are mapped relation row near = ap (λ (far : Option TableKey). drop (owner_width_by mapped relation far) row) near

key_is : (mapped : Mapped) (relation : Relation) (row : Row) → relation.far ≡ None → owner_key_in mapped relation row ≡ key_of_owner mapped relation row
key_is mapped relation row near = ap (λ (far : Option TableKey). map (value_in row) (owner_places_by mapped relation far)) near

map_itself : (f : Row → Row) (rows : List Row) → ((row : Row) → f row ≡ row) → map f rows ≡ rows
map_itself f [] same = refl
map_itself f (row ∷ rows) same = ap (λ (one : Row). one ∷ map f rows) (same row) ∙ ap (λ (rest : List Row). row ∷ rest) (map_itself f rows same)

rows_near : (mapped : Mapped) (relation : Relation) (rows : List Row) (key : List Value) → relation.far ≡ None → member_rows mapped relation rows key ≡ filter (λ row. same_values (key_of_owner mapped relation row) key) rows
rows_near mapped relation rows key near =
    map_itself (target_values mapped relation) (filter (λ row. same_values (owner_key_in mapped relation row) key) rows) (λ row. values_are mapped relation row near)
    ∙ filter_same (λ row. same_values (owner_key_in mapped relation row) key) (λ row. same_values (key_of_owner mapped relation row) key) rows (λ row. ap (λ (k : List Value). same_values k key) (key_is mapped relation row near))

pub selectin_fills : (mapped : Mapped) (relation : Relation) (place : RelNo) (owners : List ObjId) (owner : ObjId) (all : List Row) (w after : World) → IsOneToMany mapped relation → Stage mapped relation all w
    → All (IsWaiting mapped relation place w.own.graph) owners → is_among owners owner ≡ true → Goes (load_members mapped relation place owners) w tt after → HoldsRelated mapped relation place all w after owner
unfolding batch_select
selectin_fills mapped relation place owners owner all w after many stage waiting among g =
    let graph : Graph = w.own.graph in
    let own = one_waiting (IsWaiting mapped relation place graph) owners owner (recursion_from_All (IsWaiting mapped relation place graph) owners waiting) among in
    let key : List Value = identity_key graph owner in
    all_filled mapped relation place owner (related_rows mapped relation all key) w many.has.paired stage.rooted (IsWaiting mapped relation place graph) (λ object ready. ready.made) (λ object ready. ready.unloaded) own own.has
    (λ batch rows ready inside answered.
    let keys : List (List Value) = keys_of (with_keys graph batch) in
    let near_answered : answer mapped.schema (bare w.store.tables) (class_rows mapped relation.target (has_one_of (owner_columns mapped relation) keys)) ≡ Ok rows =
    ap (λ (far : Option TableKey). answer mapped.schema (bare w.store.tables) (batch_by mapped relation keys far)) (sym many.near) ∙ answered in
    let read_one : Row → Bool = λ row. list_any (same_values (key_of_owner mapped relation row)) keys in
    let rows_are : rows ≡ filter read_one all =
    rows_of_keys mapped relation.target (bare w.store.tables) (owner_columns mapped relation) (key_of_owner mapped relation) keys all rows (tells_owners mapped relation many) (keys_known mapped relation place graph batch ready) stage.rows near_answered in
    ap (λ (rs : List Row). keys_in_order (map (row_key mapped relation.target) rs))
    (rows_near mapped relation rows key many.near
    ∙ ap (filter (λ row. same_values (key_of_owner mapped relation row) key)) rows_are
    ∙ filter_twice (λ row. same_values (key_of_owner mapped relation row) key) read_one all
    ∙ filter_same (λ row. same_values (key_of_owner mapped relation row) key && read_one row) (λ row. same_values (key_of_owner mapped relation row) key) all
    (λ row. both_is (same_values (key_of_owner mapped relation row) key) (read_one row) (some_key graph owner batch (key_of_owner mapped relation row) inside))))
    owners after waiting among g

-- both fill the link with the same objects, by identity
pub agree : (mapped : Mapped) (relation : Relation) (place : RelNo) (owners : List ObjId) (owner : ObjId) (all : List Row) (w lazy together : World) → IsOneToMany mapped relation → Stage mapped relation all w
    → All (IsWaiting mapped relation place w.own.graph) owners → is_among owners owner ≡ true → Goes (load_collection mapped relation owner place) w tt lazy → Goes (load_members mapped relation place owners) w tt together
    → AreAlike lazy.own.graph together.own.graph (link_at w.own.graph owner place) (link_at lazy.own.graph owner place) (link_at together.own.graph owner place)
agree mapped relation place owners owner all w lazy together many stage waiting among g h =
    let own = one_waiting (IsWaiting mapped relation place w.own.graph) owners owner (recursion_from_All (IsWaiting mapped relation place w.own.graph) owners waiting) among in
    let one = lazy_fills mapped relation place owner all w lazy many stage own g in
    let other = selectin_fills mapped relation place owners owner all w together many stage waiting among h in
    record { base = one.base; same = other.base; one_link = one.link; other_link = other.link; alike = one.keys ∙ sym other.keys }
