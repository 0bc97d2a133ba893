-- What is the same in a world that loads of any places have left.
use Rattle.std.proofs.Common.{◌≡◌, ℕ, ◌+◌, ◌==◌, Bool, true, false, not, ◌&&◌, ◌||◌, List, [], ◌∷◌, Option, None, Some, if◌then◌else◌, is_none, refl, sym, ap, subst, ◌∙◌, arith}
use Rattle.std.specs.List.{zip}
use Rattle.std.specs.Prelude.{unwrap_or}
use Rattle.std.specs.Option.{option_map}
use Rattle.std.specs.List.{position}
use Rattle.base_core.specs.declared.ids.AttrNo.{AttrNo}
use Rattle.base_core.specs.declared.ids.ClassId.{ClassId}
use Rattle.base_core.specs.declared.ids.ObjId.{ObjId}
use Rattle.base_core.specs.declared.ids.RelNo.{RelNo}
use Rattle.base_core.specs.declared.value.Value.{Value}
use Rattle.schema_core.specs.Tables.{value_or_null}
use Rattle.schema_core.specs.WellFormed.{is_key}
use Rattle.sql_semantics.specs.Created.{bare}
use Rattle.sql_semantics.specs.Eval.{Row, rows_in}
use Rattle.sql_semantics.specs.Shapes.{AreRows}
use Rattle.class_types.specs.declared.mapped.Relation.{Relation}
use Rattle.class_sides.specs.Keys.{TableKey}
use Rattle.class_mapping.specs.Mapped.{Mapped, root_of, root_spec}
use Rattle.class_mapping.specs.Paired.{IsAt, is_at_or_under}
use Rattle.class_mapping.proofs.Lists.{or_left, or_right}
use Rattle.keeper_core.specs.Store.{Store}
use Rattle.object_arena.specs.declared.object.Link.{Link}
use Rattle.object_arena.specs.declared.object.Link.TheVariants.{Unset, Unloaded, One, Many}
use Rattle.object_arena.specs.declared.object.Object.{Object}
use Rattle.object_arena.specs.Graph.{Graph, IsObject, object_at, place_of}
use Rattle.object_arena.specs.Identity.{IsGraph, find_identity, holds, id_of_place}
use Rattle.object_arena.proofs.GraphLemmas.{held_position}
use Rattle.object_arena.proofs.HolderLemmas.{place_holds}
use Rattle.relations.specs.Mirror.{is_of}
use Rattle.load_rows.specs.Reading.{identity_key}
use Rattle.load_rows.specs.Links.{link_at, linked}
use Rattle.load_calls.specs.Reading.{World}
use Rattle.load_targets.specs.ForeignKeys.{foreign_attrs, is_expired_among, is_key_expired, value_at, value_of, values_at}
use Rattle.load_batches.specs.Batches.{is_unloaded}
use Rattle.load_ends.specs.Ends as ends
use Rattle.loading_laws.specs.Answers.Answers.{AreRowsOf}
use Rattle.loading_laws.specs.Strategies.Ends.{has_row}
use Rattle.loading_laws.specs.Members.{paired_rows}
use Rattle.loading_laws.specs.Strategies.Filled.{related_rows}
use Rattle.loading_laws.specs.Strategies.Standing.{Stands, Stays}
use Rattle.loading_laws.proofs.Strategies.Lazy.{later_filled}
use Rattle.loading_laws.proofs.Strategies.Standing.{found_stands, made_later, stays_then}
use Rattle.loading_laws.specs.Loaders.Linked.{AgreesWithMap, HoldsRows, IsOfItsRow, link_with, referred_rows, related_by, related_to}
use Rattle.loading_laws.specs.Loaders.Options.{HoldsItsKey, Leaves, is_left}
use Rattle.loading_laws.proofs.Loaders.Frames.{leaves_same}
use Rattle.loading_laws.proofs.Loaders.EachKind.{IsOpen, IsSet}

-- ---- what loads of any places keep

pub record Kept (old new : Graph) : Type 0 where
  pub stays : Stays old new
  pub graph : IsGraph new.objects new.roots
  pub classes : (object : ObjId) → IsObject old object → (object_at new object).class ≡ (object_at old object).class
  pub cells : (object : ObjId) → IsObject old object → (attr : AttrNo) → is_none (value_of (object_at old object) attr) ≡ false → value_of (object_at new object) attr ≡ value_of (object_at old object) attr

pub kept_by : (place : RelNo) (old new : Graph) → Leaves place old new → Kept old new
kept_by place old new leaves = record { stays = leaves.stays; graph = leaves.graph; classes = leaves.classes; cells = leaves.cells }

pub kept_same : (graph : Graph) → IsGraph graph.objects graph.roots → Kept graph graph
kept_same graph is = let none : RelNo = record { 0 = 0 } in kept_by none graph graph (leaves_same none graph is)

pub kept_then : (a b c : Graph) → Kept a b → Kept b c → Kept a c
kept_then a b c p q = record {
  stays = stays_then a b c p.stays q.stays;
  graph = q.graph;
  classes = λ object made. q.classes object (made_later a b object p.stays made) ∙ p.classes object made;
  cells = λ object made attr held. let one = p.cells object made attr held in q.cells object (made_later a b object p.stays made) attr (ap is_none one ∙ held) ∙ one;
}

-- a world that loads left: so much of the objects is kept, and the store is the same
pub record IsLater (w v : World) : Type 0 where
  pub kept : Kept w.own.graph v.own.graph
  pub store : v.store ≡ w.store

pub later_same : (w v : World) → w ≡ v → IsGraph w.own.graph.objects w.own.graph.roots → IsLater w v
later_same w v same is = subst (IsLater w) same (record { kept = kept_same w.own.graph is; store = refl })

pub later_then : (a b c : World) → IsLater a b → IsLater b c → IsLater a c
later_then a b c p q = record { kept = kept_then a.own.graph b.own.graph c.own.graph p.kept q.kept; store = q.store ∙ p.store }

-- the cells of a foreign key that are held
values_held : (old new : Object) (attrs : List AttrNo) → is_expired_among attrs old ≡ false → ((attr : AttrNo) → is_none (value_of old attr) ≡ false → value_of new attr ≡ value_of old attr)
    → (is_expired_among attrs new ≡ false) × (values_at attrs new ≡ values_at attrs old)
values_held old new [] held same = (refl, refl)
values_held old new (attr ∷ attrs) held same =
    let here : Bool = is_none (value_of old attr) in
    let first = same attr (or_left here (is_expired_among attrs old) held) in
    let rest = values_held old new attrs (or_right here (is_expired_among attrs old) held) same in (
      ap (λ (b : Bool). b || is_expired_among attrs new) (ap is_none first ∙ or_left here (is_expired_among attrs old) held) ∙ rest.0,
      ap (λ (v : Value). v ∷ values_at attrs new) (ap value_or_null first) ∙ ap (λ (vs : List Value). value_at old attr ∷ vs) rest.1,
    )

module _ (mapped : Mapped) (relation : Relation) (old new : Graph) (object : ObjId) (made : IsObject old object) (kept : Kept old new) (held : is_key_expired mapped relation (object_at old object) ≡ false) where
  abbrev attrs : List AttrNo
  attrs = foreign_attrs mapped (object_at old object).class relation

  both : (is_expired_among attrs (object_at new object) ≡ false) × (values_at attrs (object_at new object) ≡ values_at attrs (object_at old object))
  both = values_held (object_at old object) (object_at new object) attrs held (kept.cells object made)

  pub key_held : is_key_expired mapped relation (object_at new object) ≡ false
  key_held = ap (λ (class : ClassId). is_expired_among (foreign_attrs mapped class relation) (object_at new object)) (kept.classes object made) ∙ both.0

  pub key_same : ends.key_of mapped relation new object ≡ ends.key_of mapped relation old object
  key_same = ap (λ (class : ClassId). values_at (foreign_attrs mapped class relation) (object_at new object)) (kept.classes object made) ∙ both.1

-- who was found is found
pub found_later : (old new : Graph) (root : ClassId) (key : List Value) (object : ObjId) → IsGraph old.objects old.roots → Kept old new → find_identity old root key ≡ Some object → find_identity new root key ≡ Some object
found_later old new root key object is kept found = by (position (holds root key) (zip new.objects new.roots)) refl
  where
    stands : Stands root new key object
    stands = kept.stays.stand root key object (found_stands old root key object is.rooted found)

    by : (at : Option ℕ) → position (holds root key) (zip new.objects new.roots) ≡ at → option_map id_of_place at ≡ Some object
    by None here = absurd (held_position new.objects new.roots root key (place_of object) kept.graph.rooted stands.1 here)
    by (Some place) here =
        let there = place_holds new.objects new.roots root key place kept.graph.rooted here in
        let one : place ≡ place_of object = kept.graph.one root key place (place_of object) there.1 stands.1 in
        let some = stands.0.0 in
        let number : place + 1 ≡ object.0 = omega (arith, one, some) in
        ap (λ (n : ℕ). let o : ObjId = record { 0 = n } in Some o) number

pub agrees_before : (mapped : Mapped) (relation : Relation) (all : List Row) (old new : Graph) (owner : ObjId) → IsGraph old.objects old.roots → IsObject old owner → Kept old new → HoldsItsKey mapped relation old owner → AgreesWithMap mapped relation all new owner → AgreesWithMap mapped relation all old owner
agrees_before mapped relation all old new owner is made kept holds_key agrees = λ single.
    let root : ClassId = root_of mapped relation.target in
    let key : List Value = ends.key_of mapped relation old owner in
    let same = key_same mapped relation old new owner made kept (holds_key single) in
    by (find_identity old root key) refl (subst (λ (k : List Value). IsOfItsRow mapped relation.target all new k (find_identity new root k)) same (agrees single))
  where
    by : (found : Option ObjId) → find_identity old (root_of mapped relation.target) (ends.key_of mapped relation old owner) ≡ found
        → IsOfItsRow mapped relation.target all new (ends.key_of mapped relation old owner) (find_identity new (root_of mapped relation.target) (ends.key_of mapped relation old owner))
        → IsOfItsRow mapped relation.target all old (ends.key_of mapped relation old owner) found
    by None here of = tt
    by (Some object) here of =
        let root : ClassId = root_of mapped relation.target in
        let key : List Value = ends.key_of mapped relation old owner in
        let there : IsObject old object = (found_stands old root key object is.rooted here).0 in
        let shown : is_of new mapped relation.target object ≡ has_row mapped relation.target all key =
        subst (λ (found : Option ObjId). IsOfItsRow mapped relation.target all new key found) (found_later old new root key object is kept here) of in
        ap (λ (class : ClassId). is_at_or_under mapped class relation.target) (sym (kept.classes object there)) ∙ shown

-- ---- links that are filled

loaded_by : (many : Bool) (objects : List ObjId) (old now : Link) → Some now ≡ link_with many objects old → is_unloaded now ≡ false
loaded_by true objects Unset now e = absurd cc
loaded_by true objects (Unloaded added removed) now e = ap (λ (found : Option Link). unloaded_in found) e
  where
    unloaded_in : Option Link → Bool
    unloaded_in None = false
    unloaded_in (Some link) = is_unloaded link
loaded_by true objects (One end changed) now e = absurd cc
loaded_by true objects (Many members base) now e = absurd cc
loaded_by false objects Unset now e = absurd cc
loaded_by false objects (Unloaded added removed) now e = ap (λ (found : Option Link). unloaded_in found) e
  where
    unloaded_in : Option Link → Bool
    unloaded_in None = false
    unloaded_in (Some link) = is_unloaded link
loaded_by false objects (One end changed) now e = absurd cc
loaded_by false objects (Many members base) now e = absurd cc

base_is : (members base others same : List ObjId) → Some (Many members base) ≡ Some (Many others same) → base ≡ same
base_is members base others same e = cc

holds_later : (mapped : Mapped) (relation : Relation) (rows : List Row) (old now : Link) (graph new : Graph) → Stays graph new → HoldsRows mapped relation rows old graph now → HoldsRows mapped relation rows old new now
holds_later mapped relation rows old now graph new stays held =
    let filled = later_filled mapped relation rows (Unloaded [] []) (Many (linked [] [] held.objects) held.objects) graph new stays (record { base = held.objects; keys = held.keys; stand = held.stand; link = refl }) in
    let same : filled.base ≡ held.objects = sym (base_is (linked [] [] held.objects) held.objects (linked [] [] filled.base) filled.base filled.link) in
    record { objects = filled.base; keys = filled.keys; stand = filled.stand; link = held.link ∙ ap (λ (objects : List ObjId). link_with relation.many objects old) (sym same) }

left_by : (here waiting : Bool) → waiting ≡ false → not (here && waiting) ≡ true
left_by true waiting loaded = ap (λ (b : Bool). not b) loaded
left_by false waiting loaded = refl

-- a link that holds what is related does so after further loads
pub holds_left : (mapped : Mapped) (relation : Relation) (place q : RelNo) (owner : ObjId) (rows : List Row) (old : Link) (graph new : Graph) → IsObject graph owner → Leaves q graph new → HoldsRows mapped relation rows old graph (link_at graph owner place)
    → HoldsRows mapped relation rows old new (link_at new owner place)
holds_left mapped relation place q owner rows old graph new made leaves held =
    let now : Link = link_at graph owner place in
    let loaded : is_unloaded now ≡ false = loaded_by relation.many held.objects old now held.link in
    let stays : is_left q graph owner place ≡ true = left_by (place.0 == q.0) (is_unloaded now) loaded in
    subst (λ (link : Link). HoldsRows mapped relation rows old new link) (sym (leaves.links owner made place stays)) (holds_later mapped relation rows old now graph new leaves.stays held)

-- ---- what the laws of each kind ask, later

-- an owner whose link waits still
pub open_later : (mapped : Mapped) (relation : Relation) (place : RelNo) (old new : Graph) (object : ObjId) → IsOpen mapped relation place old object → Kept old new → is_unloaded (link_at new object place) ≡ true → IsOpen mapped relation place new object
open_later mapped relation place old new object first kept unloaded = record {
  made = made_later old new object kept.stays first.made;
  at = subst (λ (own : ClassId). IsAt mapped own place.0 relation) (sym (kept.classes object first.made)) first.at;
  unloaded = unloaded;
  keyed = ap (λ (identity : Option (List Value)). is_key (root_spec mapped relation.class) (unwrap_or identity [])) (kept.stays.identities object first.made) ∙ first.keyed;
  held = λ single. key_held mapped relation old new object first.made kept (first.held single);
}

pub set_later : (mapped : Mapped) (relation : Relation) (all : List Row) (w u : World) → IsSet mapped relation all w → Kept w.own.graph u.own.graph → u.store ≡ w.store → IsSet mapped relation all u
set_later mapped relation all w u set kept same = record {
  has = set.has;
  related = set.related;
  rooted = kept.graph.rooted;
  held = subst (λ (store : Store). AreRows mapped.schema (bare store.tables)) (sym same) set.held;
  rows = subst (λ (store : Store). AreRowsOf mapped relation.target (bare store.tables) all) (sym same) set.rows;
}

-- the rows that are related to an owner are the same
pub related_later : (mapped : Mapped) (relation : Relation) (all : List Row) (w u : World) (owner : ObjId) → IsObject w.own.graph owner → Kept w.own.graph u.own.graph → u.store ≡ w.store → HoldsItsKey mapped relation w.own.graph owner
    → related_to mapped relation (bare u.store.tables) all u.own.graph owner ≡ related_to mapped relation (bare w.store.tables) all w.own.graph owner
related_later mapped relation all w u owner made kept same holds_key =
    ap (λ (store : Store). related_to mapped relation (bare store.tables) all u.own.graph owner) same
    ∙ by relation.far relation.many refl
  where
    start : Graph
    start = w.own.graph

    same_key : identity_key u.own.graph owner ≡ identity_key w.own.graph owner
    same_key = ap (λ (identity : Option (List Value)). unwrap_or identity []) (kept.stays.identities owner made)

    by : (far : Option TableKey) (many : Bool) → relation.many ≡ many → related_by mapped relation (bare w.store.tables) all u.own.graph owner far ≡ related_by mapped relation (bare w.store.tables) all w.own.graph owner far
    by (Some far) many is = ap (paired_rows mapped relation far all (rows_in (bare w.store.tables) relation.foreign.0.0)) same_key
    by None true is =
        ap (λ (b : Bool). if b then related_rows mapped relation all (identity_key u.own.graph owner) else referred_rows mapped relation all (ends.key_of mapped relation u.own.graph owner)) is
        ∙ ap (related_rows mapped relation all) same_key
        ∙ ap (λ (b : Bool). if b then related_rows mapped relation all (identity_key start owner) else referred_rows mapped relation all (ends.key_of mapped relation start owner)) (sym is)
    by None false is =
        ap (λ (b : Bool). if b then related_rows mapped relation all (identity_key u.own.graph owner) else referred_rows mapped relation all (ends.key_of mapped relation u.own.graph owner)) is
        ∙ ap (referred_rows mapped relation all) (key_same mapped relation start u.own.graph owner made kept (holds_key is))
        ∙ ap (λ (b : Bool). if b then related_rows mapped relation all (identity_key start owner) else referred_rows mapped relation all (ends.key_of mapped relation start owner)) (sym is)
