-- Lazy and select-in loads fill collections over a secondary table with the objects of the rows to which the owner's pairs lead.
use Rattle.std.proofs.Common.{◌≡◌, true, List, [], ◌∷◌, map, Option, Some, sym, ap, ◌∙◌}
use Rattle.std.specs.List.{All, AllByRecursion, range_with_len}
use Rattle.std.proofs.lemmas.List.Elements.{All-from_recursion, recursion_from_All}
use Rattle.base_core.specs.declared.ids.ObjId.{ObjId}
use Rattle.base_core.specs.declared.ids.RelNo.{RelNo}
use Rattle.base_core.specs.declared.value.Value.{Value}
use Rattle.schema_core.specs.Tables.{same_values}
use Rattle.schema_core.specs.WellFormed.{is_key}
use Rattle.sql_semantics.specs.Created.{bare}
use Rattle.sql_semantics.specs.Eval.{Row, Tables, rows_in}
use Rattle.class_types.specs.declared.mapped.Relation.{Relation}
use Rattle.class_sides.specs.Keys.{TableKey}
use Rattle.class_mapping.specs.Mapped.{Mapped, root_spec}
use Rattle.object_arena.specs.Graph.{Graph, is_among}
use Rattle.object_arena.proofs.GraphLemmas.{same_equiv}
use Rattle.load_filling.specs.Rows.{row_key, value_in}
use Rattle.load_rows.specs.Reading.{identity_key}
use Rattle.load_rows.specs.Links.{link_at}
use Rattle.load_calls.specs.Reading.{World}
use Rattle.load_calls.specs.Collections.{load_collection}
use Rattle.load_batches.specs.Batches.{keys_of, load_members, owner_key_in, owner_places_by, place_numbered, target_values}
use Rattle.collection_selects.specs.Pairs.{owner_width}
use Rattle.loading_laws.proofs.Answers.Totals.{filter_same, map_twice}
use Rattle.loading_laws.specs.Members.{first_values, paired_rows, rows_under}
use Rattle.loading_laws.proofs.Members.Paired.{batch_paired, members_paired}
use Rattle.loading_laws.specs.Strategies.Filled.{AreAlike, Goes, keys_in_order, with_keys}
use Rattle.loading_laws.specs.Strategies.Paired.{HoldsPaired, IsHolding, PairedStage}
use Rattle.loading_laws.proofs.Strategies.Batch.{all_filled, member_rows, one_waiting, some_key}
use Rattle.loading_laws.proofs.Strategies.Lazy.{lazy_filled}
use Rattle.loading_laws.proofs.Strategies.SameKeys.{same_keys_in_order}

pub lazy_fills_pairs : (mapped : Mapped) (relation : Relation) (far : TableKey) (place : RelNo) (owner : ObjId) (all : List Row) (w after : World) → PairedStage mapped relation far all w → IsHolding mapped relation place w.own.graph owner
    → Goes (load_collection mapped relation owner place) w tt after → HoldsPaired mapped relation far place all w after owner
lazy_fills_pairs mapped relation far place owner all w after stage holding g =
    let tables : Tables = bare w.store.tables in
    let key : List Value = identity_key w.own.graph owner in
    let wanted : List Row = paired_rows mapped relation far all (rows_in tables relation.foreign.0.0) key in
    lazy_filled mapped relation place owner wanted w after stage.paired.has.paired stage.rooted holding.made holding.has holding.unloaded
    (λ rows answered. same_keys_in_order (row_key mapped relation.target) rows wanted (members_paired mapped relation far tables all stage.paired key rows holding.keyed answered))
    g

-- the owner's key in a row of a batch stands first
key_first : (mapped : Mapped) (relation : Relation) (far : TableKey) (row : Row) → relation.far ≡ Some far → owner_key_in mapped relation row ≡ first_values (owner_width mapped relation) row
key_first mapped relation far row is =
    ap (λ (end : Option TableKey). map (value_in row) (owner_places_by mapped relation end)) is ∙ map_twice (value_in row) place_numbered (range_with_len 0 (owner_width mapped relation))

rows_first : (mapped : Mapped) (relation : Relation) (far : TableKey) (rows : List Row) (key : List Value) → relation.far ≡ Some far → member_rows mapped relation rows key ≡ rows_under mapped relation rows key
rows_first mapped relation far rows key is =
    ap (map (target_values mapped relation))
    (filter_same (λ row. same_values (owner_key_in mapped relation row) key) (λ row. same_values (first_values (owner_width mapped relation) row) key) rows
    (λ row. ap (λ (k : List Value). same_values k key) (key_first mapped relation far row is)))

keys_held : (mapped : Mapped) (relation : Relation) (place : RelNo) (graph : Graph) (owners : List ObjId) → AllByRecursion (IsHolding mapped relation place graph) owners
    → AllByRecursion (λ key. is_key (root_spec mapped relation.class) key ≡ true) (keys_of (with_keys graph owners))
keys_held mapped relation place graph [] all = tt
keys_held mapped relation place graph (owner ∷ owners) all = (all.0.keyed, keys_held mapped relation place graph owners all.1)

pub selectin_fills_pairs : (mapped : Mapped) (relation : Relation) (far : TableKey) (place : RelNo) (owners : List ObjId) (owner : ObjId) (all : List Row) (w after : World) → PairedStage mapped relation far all w
    → All (IsHolding mapped relation place w.own.graph) owners → is_among owners owner ≡ true → Goes (load_members mapped relation place owners) w tt after → HoldsPaired mapped relation far place all w after owner
selectin_fills_pairs mapped relation far place owners owner all w after stage holding among g =
    let graph : Graph = w.own.graph in
    let tables : Tables = bare w.store.tables in
    let key : List Value = identity_key graph owner in
    let wanted : List Row = paired_rows mapped relation far all (rows_in tables relation.foreign.0.0) key in
    let own = one_waiting (IsHolding mapped relation place graph) owners owner (recursion_from_All (IsHolding mapped relation place graph) owners holding) among in
    all_filled mapped relation place owner wanted w stage.paired.has.paired stage.rooted (IsHolding mapped relation place graph) (λ object ready. ready.made) (λ object ready. ready.unloaded) own own.has
    (λ batch rows ready inside answered.
    let keys : List (List Value) = keys_of (with_keys graph batch) in
    let keyed : All (λ one. is_key (root_spec mapped relation.class) one ≡ true) keys =
    All-from_recursion (λ (one : List Value). is_key (root_spec mapped relation.class) one ≡ true) keys (keys_held mapped relation place graph batch ready) in
    ap (λ (rs : List Row). keys_in_order (map (row_key mapped relation.target) rs)) (rows_first mapped relation far rows key stage.paired.far_is)
    ∙ same_keys_in_order (row_key mapped relation.target) (rows_under mapped relation rows key) wanted
    (batch_paired mapped relation far tables all stage.paired keys key rows keyed (some_key graph owner batch key inside (same_equiv.refl key)) answered))
    owners after holding among g

-- both fill the link with the same objects, by identity
pub pair_alike : (mapped : Mapped) (relation : Relation) (far : TableKey) (place : RelNo) (owners : List ObjId) (owner : ObjId) (all : List Row) (w lazy together : World) → PairedStage mapped relation far all w
    → All (IsHolding mapped relation place w.own.graph) owners → is_among owners owner ≡ true → Goes (load_collection mapped relation owner place) w tt lazy → Goes (load_members mapped relation place owners) w tt together
    → AreAlike lazy.own.graph together.own.graph (link_at w.own.graph owner place) (link_at lazy.own.graph owner place) (link_at together.own.graph owner place)
pair_alike mapped relation far place owners owner all w lazy together stage holding among g h =
    let own = one_waiting (IsHolding mapped relation place w.own.graph) owners owner (recursion_from_All (IsHolding mapped relation place w.own.graph) owners holding) among in
    let one = lazy_fills_pairs mapped relation far place owner all w lazy stage own g in
    let other = selectin_fills_pairs mapped relation far place owners owner all w together stage holding among h in
    record { base = one.base; same = other.base; one_link = one.link; other_link = other.link; alike = one.keys ∙ sym other.keys }
