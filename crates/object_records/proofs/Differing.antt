-- Where an object gets a value, a link or a mark, its record differs exactly where it did not have it.
use Rattle.std.proofs.Common.{◌≡◌, ◌<◌, Bool, true, false, not, List, length, get_or, Option, Some, refl, sym, ap, ◌∙◌, subst}
use Rattle.std.proofs.lemmas.List.{get_or-set_same, set-get_or}
use Rattle.std.proofs.lemmas.Option.{slice_get-get_or}
use Rattle.std.specs.Prelude.{slice_get, slice_set}
use Rattle.base_core.specs.declared.ids.AttrNo.{AttrNo}
use Rattle.base_core.specs.declared.ids.RelNo.{RelNo}
use Rattle.base_core.specs.declared.value.Value.{Value}
use Rattle.base_core.specs.Order.{same_value}
use Rattle.object_arena.specs.declared.object.Cell.{Cell}
use Rattle.object_arena.specs.declared.object.Link.{Link}
use Rattle.object_arena.specs.declared.object.Link.TheVariants.{Unset}
use Rattle.object_arena.specs.declared.object.Object.{Object}
use Rattle.object_arena.specs.Graph.{cell_in, cell_put, expired_cell}
use Rattle.object_records.specs.Same.{both_alike, same_bool, same_link, same_object}
use Rattle.object_records.proofs.Exact.{bool_is, bool_itself, link_is, link_itself, option_is, records_same, value_is, value_itself}

-- two tests that tell of one thing
tests_alike : (A : Type 0) (a b : Bool) → (a ≡ true → A) → (A → a ≡ true) → (b ≡ true → A) → (A → b ≡ true) → a ≡ b
tests_alike A true true p q r s = refl
tests_alike A true false p q r s = let h : false ≡ true = s (p refl) in absurd cc
tests_alike A false true p q r s = let h : false ≡ true = q (r refl) in absurd cc
tests_alike A false false p q r s = refl

pub differs_as : (a b : Object) (held : Bool) → (held ≡ true → a ≡ b) → (a ≡ b → held ≡ true) → not held ≡ not (same_object a b)
differs_as a b held p q =
    let tells = records_same a b (same_object a b) refl in
    ap not (tests_alike (a ≡ b) held (same_object a b) p q tells.0 tells.1)

-- ---- a value of a cell

held_is : (o : Option Value) (v : Value) → both_alike same_value o (Some v) ≡ true → o ≡ Some v
held_is o v h = option_is same_value value_is o (Some v) h

held_by : (o : Option Value) (v : Value) → o ≡ Some v → both_alike same_value o (Some v) ≡ true
held_by o v is = ap (λ (w : Option Value). both_alike same_value w (Some v)) is ∙ value_itself v

same_put : (o : Object) (attr : AttrNo) (v : Value) → (cell_in o attr).value ≡ Some v → o ≡ cell_put o attr (record (cell_in o attr) { value = Some v })
same_put o attr v is =
    sym (ap (λ (cells : List Cell). record o { cells = cells }) (set-get_or o.cells attr.0 expired_cell))
    ∙ ap (λ (w : Option Value). cell_put o attr (record (cell_in o attr) { value = w })) is

put_same : (o : Object) (attr : AttrNo) (v : Value) → attr.0 < length o.cells → o ≡ cell_put o attr (record (cell_in o attr) { value = Some v }) → (cell_in o attr).value ≡ Some v
put_same o attr v within same =
    ap (λ (x : Object). (cell_in x attr).value) same
    ∙ ap (λ (c : Cell). c.value) (get_or-set_same o.cells attr.0 (record (cell_in o attr) { value = Some v }) expired_cell within)

cell_read : (o : Object) (attr : AttrNo) (cell : Cell) → attr.0 < length o.cells → slice_get o.cells attr.0 ≡ Some cell → cell ≡ cell_in o attr
cell_read o attr cell within read = let there : slice_get o.cells attr.0 ≡ Some (cell_in o attr) = slice_get-get_or o.cells attr.0 expired_cell within in cc

pub value_differs : (o : Object) (attr : AttrNo) (v : Value) (cell : Cell) (held : Bool) → attr.0 < length o.cells → slice_get o.cells attr.0 ≡ Some cell → held ≡ both_alike same_value cell.value (Some v)
    → not held ≡ not (same_object o (cell_put o attr (record (cell_in o attr) { value = Some v })))
value_differs o attr v cell held within read is =
    let here : held ≡ both_alike same_value (cell_in o attr).value (Some v) = is ∙ ap (λ (c : Cell). both_alike same_value c.value (Some v)) (cell_read o attr cell within read) in
    differs_as o (cell_put o attr (record (cell_in o attr) { value = Some v })) held
    (λ h. same_put o attr v (held_is (cell_in o attr).value v (sym here ∙ h)))
    (λ same. here ∙ held_by (cell_in o attr).value v (put_same o attr v within same))

-- ---- a delete mark

pub mark_differs : (o read : Object) → read ≡ o → not read.marked ≡ not (same_object o (record o { marked = true }))
mark_differs o read is =
    ap (λ (x : Object). not x.marked) is
    ∙ differs_as o (record o { marked = true }) o.marked
    (λ h. ap (λ (m : Bool). record o { marked = m }) h)
    (λ same. ap (λ (x : Object). x.marked) same)

-- ---- an orphan mark

pub orphan_differs : (o read : Object) (orphan same : Bool) → read ≡ o → same ≡ same_bool read.orphan orphan → not same ≡ not (same_object o (record o { orphan = orphan }))
orphan_differs o read orphan same at is =
    let here : same ≡ same_bool o.orphan orphan = is ∙ ap (λ (x : Object). same_bool x.orphan orphan) at in
    differs_as o (record o { orphan = orphan }) same
    (λ h. ap (λ (m : Bool). record o { orphan = m }) (bool_is o.orphan orphan (sym here ∙ h)))
    (λ e. here ∙ subst (λ (m : Bool). same_bool o.orphan m ≡ true) (ap (λ (x : Object). x.orphan) e) (bool_itself o.orphan))

-- ---- a link

link_read : (o : Object) (place : RelNo) (link : Link) → place.0 < length o.links → slice_get o.links place.0 ≡ Some link → link ≡ get_or o.links place.0 Unset
link_read o place link within read = let there : slice_get o.links place.0 ≡ Some (get_or o.links place.0 Unset) = slice_get-get_or o.links place.0 Unset within in cc

pub link_differs : (o : Object) (place : RelNo) (new link : Link) (same : Bool) → place.0 < length o.links → slice_get o.links place.0 ≡ Some link → same ≡ same_link link new
    → not same ≡ not (same_object o (record o { links = slice_set o.links place.0 new }))
link_differs o place new link same within read is =
    let here : link ≡ get_or o.links place.0 Unset = link_read o place link within read in
    differs_as o (record o { links = slice_set o.links place.0 new }) same
    (λ h.
    sym (ap (λ (links : List Link). record o { links = links }) (set-get_or o.links place.0 Unset))
    ∙ ap (λ (l : Link). record o { links = slice_set o.links place.0 l }) (sym here ∙ link_is link new (sym is ∙ h)))
    (λ e.
    is ∙ subst (λ (l : Link). same_link link l ≡ true)
    (here ∙ ap (λ (x : Object). get_or x.links place.0 Unset) e ∙ get_or-set_same o.links place.0 new Unset within) (link_itself link))
