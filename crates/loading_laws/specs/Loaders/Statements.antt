-- Which statements a select-in load sends: a select for each 500 keys, and none where there is no key.
use Rattle.std.specs.Prelude.{◌≡◌, ◌<◌, ◌≤◌, List, [], ◌∷◌, length, map, if◌then◌else◌}
use Rattle.std.specs.List.{All, flat_map}
use Rattle.base_core.specs.declared.ids.ObjId.{ObjId}
use Rattle.base_core.specs.declared.ids.RelNo.{RelNo}
use Rattle.base_core.specs.declared.value.Value.{Value}
use Rattle.expr_types.specs.declared.select.Select.{Select}
use Rattle.class_types.specs.declared.mapped.Relation.{Relation}
use Rattle.class_mapping.specs.Mapped.{Mapped}
use Rattle.keeper_core.specs.declared.sent.Sent.TheVariants as sent
use Rattle.keeper_core.specs.Programs.{Event, Sends}
use Rattle.keeper_core.specs.Store.{Store, committed_of}
use Rattle.object_arena.specs.Graph.{Graph}
use Rattle.collection_selects.specs.Collections.{batch_select}
use Rattle.load_selects.specs.Selects.{targets_select}
use Rattle.load_calls.specs.Reading.{World}
use Rattle.load_batches.specs.Batches.{IsOwner, keys_of, unloaded_owners}
use Rattle.load_ends.specs.Ends.{unloaded, wanted_keys}
use Rattle.load_queries.specs.Selectin.{load_selectin}
use Rattle.loading_laws.specs.Strategies.Filled.{Goes}

abbrev pub Keys : Type 0
Keys = List (List Value)

-- each batch has 500 keys; the last may have fewer, and at least one
abbrev pub AreBatches : List Keys → Type 0
AreBatches [] = Unit {0}
AreBatches (batch ∷ []) = (0 < length batch) × (length batch ≤ 500)
AreBatches (batch ∷ next ∷ more) = (length batch ≡ 500) × AreBatches (next ∷ more)

-- a select is sent, which leaves what is committed
abbrev pub asks : Store → Select → Event
asks store select = Sends (sent.Query select) (committed_of store)

-- what is sent are the selects of batches of all these keys, in order
pub record AsksInBatches (keys : Keys) (select : Keys → Select) (store : Store) (events : List Event) : Type 0 where
  pub batches : List Keys
  pub whole : flat_map (λ batch. batch) batches ≡ keys
  pub cut : AreBatches batches
  pub sent : events ≡ map (λ batch. asks store (select batch)) batches

-- the keys of which a select-in load asks: those of the owners whose collections are unloaded, and of the targets of unloaded links those
-- that the identity map lacks, each once
abbrev pub keys_asked : Mapped → Relation → RelNo → Graph → List ObjId → Keys
keys_asked mapped relation place graph owners =
    if relation.many then keys_of (unloaded_owners graph place owners) else wanted_keys mapped relation graph (unloaded graph place owners)

-- the select of some of them
abbrev pub select_of_keys : Mapped → Relation → Keys → Select
select_of_keys mapped relation keys = if relation.many then batch_select mapped relation keys else targets_select mapped relation.target keys

-- A select-in load sends them for the keys of its owners.
abbrev pub SelectinAsksInBatches : Type 0
SelectinAsksInBatches =
    (mapped : Mapped) (relation : Relation) (place : RelNo) (owners : List ObjId) (w after : World) → All (IsOwner mapped w.own.graph relation place) owners → Goes (load_selectin mapped place owners) w tt after
    → AsksInBatches (keys_asked mapped relation place w.own.graph owners) (select_of_keys mapped relation) w.store (load_selectin mapped place owners w).events
