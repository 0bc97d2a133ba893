-- Objects that success leaves as they are.
use Rattle.std.proofs.Common.{◌≡◌, ℕ, Bool, true, false, List, map, get_or, Option, None, sym, ap, ◌∙◌}
use Rattle.std.specs.Prelude.{◌==◌, if◌then◌else◌}
use Rattle.std.specs.List.{enumerate_from, list_any}
use Rattle.base_core.specs.declared.ids.AttrNo.{AttrNo}
use Rattle.base_core.specs.declared.ids.ClassId.{ClassId}
use Rattle.base_core.specs.declared.ids.ObjId.{ObjId}
use Rattle.base_core.specs.declared.value.Value.{Value}
use Rattle.class_types.specs.declared.mapped.Attribute.{Attribute}
use Rattle.class_mapping.specs.Mapped.{attributes_of, key_attributes, no_attribute}
use Rattle.object_arena.specs.declared.object.Cell.{Cell}
use Rattle.object_arena.specs.declared.object.Link.{Link}
use Rattle.object_arena.specs.declared.object.Object.{Object}
use Rattle.object_arena.specs.declared.object.State.{State}
use Rattle.object_arena.specs.declared.object.State.TheVariants.{Persistent}
use Rattle.object_arena.specs.Graph.{is_among}
use Rattle.graph_flushed.specs.Flushed.{Written, deleted_object, held_or, kept_cell, kept_links, object_flushed, object_in, staying_cell, staying_object, state_under, value_come}

-- ---- cells

-- a cell of the key
pub key_cell_stays : (written : Written) (object : ObjId) (class : ClassId) (place : ℕ) (cell : Cell) (keys : List AttrNo) (is_key : Bool) → keys ≡ key_attributes written.mapping class → is_key ≡ list_any (λ (key : AttrNo). key.0 == place) keys → is_key ≡ true
    → kept_cell cell ≡ cell → staying_cell written object class (place, cell) ≡ cell
key_cell_stays written object class place cell keys is_key are key is kept =
    ap (λ (b : Bool). if b then kept_cell cell else held_or (value_come written object (get_or (attributes_of written.mapping class) place no_attribute)) (kept_cell cell))
    (sym (ap (list_any (λ (k : AttrNo). k.0 == place)) are) ∙ sym key ∙ is)
    ∙ kept

-- another cell, for which nothing came
pub cell_stays : (written : Written) (object : ObjId) (class : ClassId) (place : ℕ) (cell : Cell) (keys : List AttrNo) (attribute : Attribute) (come : Option Value) (is_key : Bool) → keys ≡ key_attributes written.mapping class
    → is_key ≡ list_any (λ (key : AttrNo). key.0 == place) keys → is_key ≡ false → attribute ≡ get_or (attributes_of written.mapping class) place no_attribute → come ≡ value_come written object attribute → come ≡ None
    → kept_cell cell ≡ cell → staying_cell written object class (place, cell) ≡ cell
cell_stays written object class place cell keys attribute come is_key are key is same came none kept =
    ap (λ (b : Bool). if b then kept_cell cell else held_or (value_come written object (get_or (attributes_of written.mapping class) place no_attribute)) (kept_cell cell))
    (sym (ap (list_any (λ (k : AttrNo). k.0 == place)) are) ∙ sym key ∙ is)
    ∙ ap (λ (o : Option Value). held_or o (kept_cell cell)) (sym (sym none ∙ came ∙ ap (value_come written object) same))
    ∙ kept

-- ---- an object

pub object_stays : (written : Written) (object : ObjId) (it : Object) → it.state ≡ Persistent → state_under written object it.identity ≡ Persistent → kept_links written.prepared object it.links ≡ it.links
    → map (staying_cell written object it.class) (enumerate_from 0 it.cells) ≡ it.cells → staying_object written object it ≡ it
object_stays written object it persistent under links cells =
    ap (λ (state : State). record it { state = state; cells = map (staying_cell written object it.class) (enumerate_from 0 it.cells); links = kept_links written.prepared object it.links }) (under ∙ sym persistent)
    ∙ ap (λ (cs : List Cell). record it { cells = cs; links = kept_links written.prepared object it.links }) cells
    ∙ ap (λ (ls : List Link). record it { links = ls }) links

pub flushed_stays : (written : Written) (object : ObjId) (it : Object) → it.state ≡ Persistent → is_among written.prepared.deleted object ≡ false → staying_object written object it ≡ it → object_flushed written object it ≡ it
flushed_stays written object it persistent kept same =
    ap (λ (state : State). object_in state written object it) persistent
    ∙ ap (λ (b : Bool). if b then deleted_object written object it else staying_object written object it) kept
    ∙ same

pub ruleset stays = (object_stays, flushed_stays)
