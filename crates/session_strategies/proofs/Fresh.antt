-- Where nothing is left to flush, what persistent objects hold is what their rows have.
use Rattle.std.proofs.Common.{◌≡◌, ◌<◌, ◌≤◌, true, List, [], length, Option, None, Some, refl, sym, ap, ◌∙◌, ⊎_elim}
use Rattle.std.specs.Prelude.{slice_get, unwrap_or}
use Rattle.std.specs.Option.{option_and_then, option_map}
use Rattle.std.proofs.lemmas.Bool.{cases_lt}
use Rattle.std.proofs.lemmas.List.{get_or_past}
use Rattle.std.proofs.lemmas.Option.{get_or_from_slice_get, slice_get_within}
use Rattle.base_core.specs.declared.ids.AttrNo.{AttrNo}
use Rattle.base_core.specs.declared.value.Value.{Value}
use Rattle.schema_core.specs.Tables.{Tables}
use Rattle.sql_semantics.specs.Eval.{item_or_null}
use Rattle.class_types.specs.declared.mapped.Attribute.{Attribute}
use Rattle.class_mapping.specs.Mapped.{Mapped, attribute_of}
use Rattle.class_mapping.proofs.Having.{has_at}
use Rattle.object_arena.specs.declared.object.Cell.{Cell}
use Rattle.object_arena.specs.declared.object.Object.{Object}
use Rattle.object_arena.specs.declared.object.State.{State}
use Rattle.object_arena.specs.declared.object.State.TheVariants.{Persistent}
use Rattle.object_arena.specs.Graph.{Graph, cell_in, expired_cell, is_persistent, no_object, object_at, place_of}
use Rattle.graph_flushed.specs.Flushed.{held_or}
use Rattle.load_targets.specs.ForeignKeys.{value_of}
use Rattle.loading_laws.specs.Loading.Loadable.{AreFresh, value_under}
use Rattle.loading_laws.proofs.Members.Choices.{every_has}
use Rattle.session_laws.specs.Sound.{EachObject, IsFresh, in_row, row_for}
use Rattle.session_strategies.specs.Unwritten.{IsAsFlushed, NothingIsLeft}
use Rattle.session_strategies.proofs.Kept.{IsKeptCell}

module _ (mapped : Mapped) (tables : Tables) where
  -- what a row has
  in_it : (attribute : Attribute) (row : Option (List Value)) (value : Value) → in_row attribute row ≡ Some value → option_map (λ (cells : List Value). item_or_null (slice_get cells attribute.column.0)) row ≡ Some value
  in_it attribute None value is = absurd cc
  in_it attribute (Some cells) value is = ap (λ (o : Option Value). Some (item_or_null o)) is

  under_key : (attribute : Attribute) (identity : Option (List Value)) (value : Value) → in_row attribute (row_for tables attribute identity) ≡ Some value → value_under tables attribute (unwrap_or identity []) ≡ Some value
  under_key attribute None value is = absurd cc
  under_key attribute (Some key) value is = in_it attribute (row_for tables attribute (Some key)) value is

  -- the base of a cell that a flush keeps
  base_is : (cell : Cell) (value : Value) → IsKeptCell cell → cell.value ≡ Some value → cell.base ≡ Some value
  base_is cell value kept is = sym (ap (λ (c : Cell). c.base) kept) ∙ ap (λ (o : Option Value). (held_or o cell).base) is

  value_there : (it : Object) (attr : AttrNo) (value : Value) → IsFresh mapped tables it → IsAsFlushed it → it.state ≡ Persistent → value_of it attr ≡ Some value
      → value_under tables (attribute_of mapped it.class attr) (unwrap_or it.identity []) ≡ Some value
  value_there it attr value fresh flushed persistent is = by (slice_get it.cells attr.0) refl is
    where
      stands : is_persistent it.state ≡ true
      stands = ap (λ (s : State). is_persistent s) persistent

      by : (found : Option Cell) → slice_get it.cells attr.0 ≡ found → option_and_then (λ (cell : Cell). cell.value) found ≡ Some value → value_under tables (attribute_of mapped it.class attr) (unwrap_or it.identity []) ≡ Some value
      by None at is = absurd cc
      by (Some cell) at is =
          let kept : IsKeptCell cell = every_has IsKeptCell it.cells cell (flushed.cells stands) (has_at it.cells attr.0 cell at) in
          let here : cell_in it attr ≡ cell = get_or_from_slice_get it.cells attr.0 cell expired_cell at in
          under_key (attribute_of mapped it.class attr) it.identity value
          (fresh stands attr (slice_get_within it.cells attr.0 cell at) value (ap (λ (c : Cell). c.base) here ∙ base_is cell value kept is))

  pub fresh_of : (graph : Graph) → EachObject (IsFresh mapped tables) graph → NothingIsLeft graph → AreFresh mapped tables graph
  fresh_of graph fresh nothing = λ object attr value persistent is.
      ⊎_elim (λ (inside : place_of object < length graph.objects). value_there (object_at graph object) attr value (fresh (place_of object) inside) (nothing (place_of object) inside) persistent is)
      (λ (past : length graph.objects ≤ place_of object). absurd (let never = sym (ap (λ (o : Object). o.state) (get_or_past graph.objects (place_of object) no_object past)) ∙ persistent in cc))
      (cases_lt (place_of object) (length graph.objects))
