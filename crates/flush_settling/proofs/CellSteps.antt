-- The cells that come of what was written.
use Rattle.std.proofs.Common.{◌≡◌, ℕ, ◌<◌, Bool, false, List, length, get_or, Option, None, Some, Result, Ok, Err, IfOk, sym, ap, ◌∙◌}
use Rattle.std.specs.Prelude.{◌==◌, if◌then◌else◌}
use Rattle.std.specs.List.{list_any, position}
use Rattle.std.proofs.lemmas.List.{get_or_default}
use Rattle.base_core.specs.declared.ids.AttrNo.{AttrNo}
use Rattle.base_core.specs.declared.ids.ClassId.{ClassId}
use Rattle.base_core.specs.declared.ids.ObjId.{ObjId}
use Rattle.std.specs.declared.alloc.AllocError.{AllocError}
use Rattle.base_core.specs.declared.value.Value.{Value}
use Rattle.base_core.specs.declared.value.Value.TheVariants.{Null}
use Rattle.class_types.specs.declared.mapped.Attribute.{Attribute}
use Rattle.class_mapping.specs.Mapped.{attribute_of, attributes_of, key_attributes, no_attribute}
use Rattle.object_arena.specs.declared.object.Cell.{Cell}
use Rattle.graph_flushed.specs.Flushed.{Written, held_cell, held_or, kept_cell, new_value, own_value, part_or, staying_cell, value_come}

same_if_ok : {A : Type 0} (a b : A) (r : Result A AllocError) → a ≡ b → IfOk r (λ it. it ≡ a) → IfOk r (λ it. it ≡ b)
same_if_ok a b (Ok it) same is = is ∙ same
same_if_ok a b (Err e) same is = tt

-- the attribute at a place of a list that is seen
pub attribute_is : (seen all : List Attribute) (place : ℕ) (it : Attribute) → seen ≡ all → it ≡ get_or seen place it → place < length all → it ≡ get_or all place no_attribute
attribute_is seen all place it same at less = at ∙ ap (λ (list : List Attribute). get_or list place it) same ∙ get_or_default all place it no_attribute less

pub new_by_part : (written : Written) (object : ObjId) (class : ClassId) (key : List Value) (place : ℕ) (cell : Cell) (keys : List AttrNo) (part n : ℕ) (r : Result Value AllocError) → keys ≡ key_attributes written.mapping class
    → Some part ≡ position (λ (attr : AttrNo). attr.0 == place) keys → n ≡ part → IfOk r (λ value. value ≡ get_or key n Null) → IfOk r (λ value. value ≡ new_value written object class key (place, cell))
new_by_part written object class key place cell keys part n r are at number is =
    let attr : AttrNo = record { 0 = place } in
    same_if_ok (get_or key n Null) (new_value written object class key (place, cell)) r
    (ap (λ (k : ℕ). get_or key k Null) number
    ∙ ap (λ (found : Option ℕ). part_or key found (own_value written object class (attribute_of written.mapping class attr) cell)) (at ∙ ap (position (λ (a : AttrNo). a.0 == place)) are)) is

pub new_by_own : (written : Written) (object : ObjId) (class : ClassId) (key : List Value) (place : ℕ) (cell : Cell) (keys : List AttrNo) (attribute : Attribute) (r : Result Value AllocError) → keys ≡ key_attributes written.mapping class
    → None ≡ position (λ (attr : AttrNo). attr.0 == place) keys → attribute ≡ get_or (attributes_of written.mapping class) place no_attribute
    → IfOk r (λ value. value ≡ own_value written object class attribute cell) → IfOk r (λ value. value ≡ new_value written object class key (place, cell))
new_by_own written object class key place cell keys attribute r are at same is =
    same_if_ok (own_value written object class attribute cell) (new_value written object class key (place, cell)) r
    (ap (λ (a : Attribute). own_value written object class a cell) same
    ∙ ap (λ (found : Option ℕ). part_or key found (own_value written object class (get_or (attributes_of written.mapping class) place no_attribute) cell)) (at ∙ ap (position (λ (a : AttrNo). a.0 == place)) are)) is

pub staying_by_come : (written : Written) (object : ObjId) (class : ClassId) (place : ℕ) (cell : Cell) (keys : List AttrNo) (attribute : Attribute) (come : Option Value) (value : Value) (is_key : Bool) (r : Result Cell AllocError) → keys ≡ key_attributes written.mapping class
    → is_key ≡ list_any (λ (key : AttrNo). key.0 == place) keys → is_key ≡ false → attribute ≡ get_or (attributes_of written.mapping class) place no_attribute
    → come ≡ value_come written object attribute → come ≡ Some value → IfOk r (λ it. it ≡ held_cell value) → IfOk r (λ it. it ≡ staying_cell written object class (place, cell))
staying_by_come written object class place cell keys attribute come value is_key r are key other same came some is =
    same_if_ok (held_cell value) (staying_cell written object class (place, cell)) r
    (ap (λ (o : Option Value). held_or o (kept_cell cell)) (sym some ∙ came ∙ ap (value_come written object) same)
    ∙ ap (λ (b : Bool). if b then kept_cell cell else held_or (value_come written object (get_or (attributes_of written.mapping class) place no_attribute)) (kept_cell cell))
    (sym other ∙ key ∙ ap (list_any (λ (k : AttrNo). k.0 == place)) are)) is
