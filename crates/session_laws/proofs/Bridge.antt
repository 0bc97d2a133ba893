-- What is said of the objects behind a load, as sessions say it.
use Rattle.std.proofs.Common.{◌≡◌, ◌⊎◌, inl, inr, ℕ, ◌-◌, ◌<◌, suc, List, [], ◌∷◌, length, Option, None, Some, refl, sym, ◌∙◌, subst, arith}
use Rattle.std.specs.Prelude.{slice_get, unwrap_or}
use Rattle.std.specs.List.{Contains}
use Rattle.std.specs.Option.{option_and_then}
use Rattle.base_core.specs.declared.ids.AttrNo.{AttrNo}
use Rattle.base_core.specs.declared.ids.ObjId.{ObjId}
use Rattle.base_core.specs.declared.value.Value.{Value}
use Rattle.schema_core.specs.Tables.{Tables}
use Rattle.class_types.specs.declared.mapped.Attribute.{Attribute}
use Rattle.class_mapping.specs.Mapped.{Mapped, attribute_of}
use Rattle.object_arena.specs.declared.object.Cell.{Cell}
use Rattle.object_arena.specs.declared.object.Object.{Object}
use Rattle.object_arena.specs.Graph.{Graph, cell_in, expired_cell, place_of}
use Rattle.object_arena.specs.Identity.{id_of_place}
use Rattle.keeper_core.specs.declared.notes.Note.{Note}
use Rattle.keeper_core.specs.declared.notes.Note.TheVariants.{Filled}
use Rattle.load_rows.specs.Loading.{Loading}
use Rattle.load_steps.specs.Based.{held_under}
use Rattle.load_steps.specs.Loaded as read
use Rattle.load_steps.specs.Loaded.{IsReadCell}
use Rattle.load_steps.specs.Noted as noted
use Rattle.preparing_laws.specs.Reread as anew
use Rattle.preparing_laws.specs.Reread.{IsRereadCell}
use Rattle.load_steps.specs.Steps.{IsArena}
use Rattle.session_laws.specs.Scopes.{object_in}
use Rattle.session_laws.specs.Sound.{in_row, row_for}
use Rattle.session_laws.specs.Loads.{IsLoadedBy, IsMadeFrom, IsNotedAt, IsReadBy, IsReadFrom, row_value}

-- ---- what rows have

in_row_is : (attribute : Attribute) (row : Option (List Value)) → option_and_then (λ cells. slice_get cells attribute.column.0) row ≡ in_row attribute row
in_row_is attribute None = refl
in_row_is attribute (Some row) = refl

module _ (mapped : Mapped) (tables : Tables) where
  value_by : (attribute : Attribute) (identity : Option (List Value)) (value : Value) → option_and_then (held_under tables attribute) identity ≡ Some value → in_row attribute (row_for tables attribute (Some (unwrap_or identity []))) ≡ Some value
  value_by attribute None value is = absurd cc
  value_by attribute (Some key) value is = sym (in_row_is attribute (row_for tables attribute (Some key))) ∙ is

  value_bridge : (object : Object) (attr : AttrNo) (value : Value) → read.row_value mapped tables object attr ≡ Some value → row_value mapped tables object attr ≡ Some value
  value_bridge object attr value is = value_by (attribute_of mapped object.class attr) object.identity value is

  -- ---- one object

  cell_bridge : (one other : Option Value) (was now : Cell) → ((value : Value) → one ≡ Some value → other ≡ Some value) → IsReadCell one was now → IsReadCell other was now
  cell_bridge one other was now gives (inl same) = inl same
  cell_bridge one other was now gives (inr filled) = inr (record { held = filled.held; is = gives filled.held filled.is; expired = filled.expired; even = filled.even })

  read_bridge : (was now : Object) → read.IsReadFrom mapped tables was now → IsReadFrom mapped tables was now
  read_bridge was now of = record {
    rest = of.rest;
    long = of.long;
    linked = of.linked;
    cells = λ attr less. cell_bridge (read.row_value mapped tables now attr) (row_value mapped tables now attr) (cell_in was attr) (cell_in now attr) (value_bridge now attr) (of.cells attr less);
  }

  -- and of an object of which all that was not known is read anew
  anew_bridge : (was now : Object) → anew.IsRereadFrom mapped tables was now → IsReadBy IsRereadCell mapped tables was now
  anew_bridge was now of = record {
    rest = of.rest;
    long = of.long;
    linked = of.linked;
    cells = λ attr less. by attr (of.cells attr less);
  }
    where
      gives : (attr : AttrNo) (value : Value) → read.row_value mapped tables now attr ≡ Some value → row_value mapped tables now attr ≡ Some value
      gives attr value is = value_bridge now attr value is

      by : (attr : AttrNo) → IsRereadCell (read.row_value mapped tables now attr) (cell_in was attr) (cell_in now attr) → IsRereadCell (row_value mapped tables now attr) (cell_in was attr) (cell_in now attr)
      by attr (inl cell) = inl (cell_bridge (read.row_value mapped tables now attr) (row_value mapped tables now attr) (cell_in was attr) (cell_in now attr) (gives attr) cell)
      by attr (inr lost) = inr (record { unknown = lost.unknown; left = cell_bridge (read.row_value mapped tables now attr) (row_value mapped tables now attr) expired_cell (cell_in now attr) (gives attr) lost.left })

  made_bridge : (now : Object) → read.IsMadeFrom mapped tables now → IsMadeFrom mapped tables now
  made_bridge now made = (made.key, read_bridge _ now made.read)

  -- ---- notes

  contained : (object : ObjId) (notes : List Note) → noted.IsFilledIn object notes → Contains notes (Filled object)
  contained object [] is = absurd is
  contained object (note ∷ notes) (inl is) = let first : 0 < length (note ∷ notes) = omega arith in (0, first, is)
  contained object (note ∷ notes) (inr more) =
      let later = contained object notes more in
      (suc later.0, let less = later.1 in omega (arith, less), later.2)

  noted_bridge : (old : Graph) (own : Loading) (place : ℕ) → noted.AreNotedSince old own → place < length own.graph.objects → IsNotedAt own.notes place ⊎ ((place < length old.objects) × (object_in own.graph place ≡ object_in old place))
  noted_bridge old own place since less =
      let here : place_of (id_of_place place) ≡ place = omega arith in
      by (since (id_of_place place) (omega arith, omega (arith, less))) here
    where
      by : noted.IsFilledIn (id_of_place place) own.notes ⊎ noted.IsAsBefore old own.graph (id_of_place place) → place_of (id_of_place place) ≡ place
          → IsNotedAt own.notes place ⊎ ((place < length old.objects) × (object_in own.graph place ≡ object_in old place))
      by (inl filled) here = inl (record { object = id_of_place place; noted = contained (id_of_place place) own.notes filled; stands = here })
      by (inr before) here =
          let last = before.made.1 in
          let inside : place < length old.objects = omega (arith, last) in
          inr (inside, subst (λ (p : ℕ). object_in own.graph p ≡ object_in old p) here before.same)

  -- ---- all objects

  pub loaded_bridge : (old : Graph) (own : Loading) → IsArena mapped own.graph → read.AreReadFrom mapped tables old own.graph → noted.AreNotedSince old own → IsLoadedBy IsReadCell mapped tables old own
  loaded_bridge old own arena of since = record {
    fit = arena.fit;
    graph = arena.graph;
    grows = of.grows;
    read = λ place less. read_bridge (object_in old place) (object_in own.graph place) (of.read place less);
    made = λ place least less. made_bridge (object_in own.graph place) (of.made place least less);
    noted = λ place less. noted_bridge old own place since less;
  }

  pub reread_bridge : (old : Graph) (own : Loading) → IsArena mapped own.graph → anew.AreRereadFrom mapped tables old own.graph → noted.AreNotedSince old own → IsLoadedBy IsRereadCell mapped tables old own
  reread_bridge old own arena of since = record {
    fit = arena.fit;
    graph = arena.graph;
    grows = of.grows;
    read = λ place less. anew_bridge (object_in old place) (object_in own.graph place) (of.read place less);
    made = λ place least less. let made = of.made place least less in (made.key, anew_bridge _ (object_in own.graph place) made.read);
    noted = λ place less. noted_bridge old own place since less;
  }
