-- An object of which something is to be read again is noted, unless it stays as it is.
use Rattle.std.proofs.Common.{◌≡◌, ◌⊎◌, inl, inr, Bool, true, false, ◌&&◌, ◌||◌, List, [], ◌∷◌, map, Option, None, Some, if◌then◌else◌, is_none, is_some, refl, sym, ap, ◌∙◌, arith}
use Rattle.std.specs.List.{list_any}
use Rattle.std.proofs.lemmas.List.{length-set}
use Rattle.base_core.specs.declared.ids.ObjId.{ObjId}
use Rattle.base_core.specs.declared.value.Value.{Value}
use Rattle.object_arena.specs.declared.object.Cell.{Cell}
use Rattle.object_arena.specs.declared.object.Object.{Object}
use Rattle.object_arena.specs.Graph.{Graph, IsObject, expired_cell, no_object, object_at, place_of, with_object}
use Rattle.load_rows.specs.Loading.{Loading, noted_if}
use Rattle.load_preparing.specs.Preparing.{is_unwritten, loses_value, reread, reread_cell, reread_object}
use Rattle.loading_laws.proofs.Strategies.Standing.{set_related}
use Rattle.load_steps.specs.Noted.{AreNotedSince, IsAsBefore, IsFilledIn}
use Rattle.load_steps.proofs.Noted.{put_noted}

neither : (a b : Bool) → (a || b) ≡ false → (a ≡ false) × (b ≡ false)
neither true b e = absurd cc
neither false b e = (refl, e)

-- a cell that holds no value is expired already
cell_stays : (cell : Cell) → is_unwritten cell ≡ false → reread_cell cell ≡ cell
cell_stays cell none = by cell.base cell.value refl refl none
  where
    by : (base value : Option Value) → cell.base ≡ base → cell.value ≡ value → (is_none base && is_some value) ≡ false → (if is_none base then expired_cell else cell) ≡ cell
    by (Some known) value b v e = refl
    by None (Some held) b v e = absurd cc
    by None None b v e = λ i. record { value = sym v i; base = sym b i }

cells_stay : (cells : List Cell) → list_any is_unwritten cells ≡ false → map reread_cell cells ≡ cells
cells_stay [] none = refl
cells_stay (cell ∷ cells) none =
    let parts = neither (is_unwritten cell) (list_any is_unwritten cells) none in
    ap (λ (one : Cell). one ∷ map reread_cell cells) (cell_stays cell parts.0) ∙ ap (λ (more : List Cell). cell ∷ more) (cells_stay cells parts.1)

object_stays : (object : Object) → loses_value object ≡ false → reread_object object ≡ object
object_stays object none = ap (λ (cells : List Cell). record object { cells = cells }) (cells_stay object.cells none)

pub reread_noted : (start : Graph) (object : ObjId) (own : Loading) → IsObject own.graph object → AreNotedSince start own → AreNotedSince start (reread object own)
reread_noted start object own made is = by (loses_value (object_at own.graph object)) refl
  where
    new : Object
    new = reread_object (object_at own.graph object)

    after : Graph
    after = with_object own.graph object new

    by : (b : Bool) → loses_value (object_at own.graph object) ≡ b → AreNotedSince start (record { graph = after; notes = noted_if b object own.notes })
    by true lost = put_noted start object new own made (λ other there apart. is other there)
    by false kept = λ other there.
        let long = length-set own.graph.objects (place_of object) new in
        as_it_was other (is other (there.0, omega (arith, long, there.1)))
      where
        same : (other : ObjId) → object_at after other ≡ object_at own.graph other
        same other = set_related (λ (x y : Object). y ≡ x) own.graph.objects (place_of object) (place_of other) new no_object (λ x. refl) (object_stays (object_at own.graph object) kept)

        as_it_was : (other : ObjId) → IsFilledIn other own.notes ⊎ IsAsBefore start own.graph other → IsFilledIn other own.notes ⊎ IsAsBefore start after other
        as_it_was other (inl noted) = inl noted
        as_it_was other (inr before) = inr (record { made = before.made; same = same other ∙ before.same })
