-- What success makes of objects that fit a mapping fits it, where what was written does.
use Rattle.std.proofs.Common.{◌≡◌, ℕ, ◌+◌, ◌-◌, ◌<◌, Bool, true, false, ◌&&◌, List, [], ◌∷◌, length, map, get_or, suc, Option, None, Some, Result, Ok, Err, OnOk, refl, sym, ap, ◌∙◌, subst, arith}
use Rattle.std.specs.Prelude.{not, ◌==◌, OnErr, if◌then◌else◌}
use Rattle.std.specs.List.{enumerate_from, list_all, position, range_with_len}
use Rattle.std.specs.Cmp.Lexicographic.{pointwise}
use Rattle.std.specs.Option.{unwrap_or}
use Rattle.std.proofs.lemmas.Bool.{and_from, and_parts, eqb-true}
use Rattle.std.proofs.lemmas.List.{get_or-map, get_or_default}
use Rattle.std.proofs.lemmas.List.FromFn.{get_or-map-range_with_len, length-map-range_with_len}
use Rattle.std.proofs.lemmas.List.Quantifiers.{position-Some}
use Rattle.std.proofs.lemmas.Simd.{map-map}
use Rattle.base_core.specs.declared.ids.AttrNo.{AttrNo}
use Rattle.base_core.specs.declared.ids.ClassId.{ClassId}
use Rattle.base_core.specs.declared.ids.ObjId.{ObjId}
use Rattle.base_core.specs.declared.ids.RelNo.{RelNo}
use Rattle.base_core.specs.declared.refusal.Refusal.{Refusal}
use Rattle.base_core.specs.declared.value.Kind.{Kind}
use Rattle.base_core.specs.declared.value.Value.{Value}
use Rattle.base_core.specs.declared.value.Value.TheVariants.{Null}
use Rattle.schema_core.specs.declared.changes.RowChanges.{RowChanges}
use Rattle.schema_core.specs.Tables.{kind_of_value, value_or_null}
use Rattle.class_types.specs.declared.mapped.Attribute.{Attribute}
use Rattle.class_types.specs.declared.mapped.Relation.{Relation}
use Rattle.class_mapping.specs.Mapped.{Mapped, attribute_of, attributes_of, class_spec, is_key_attribute, key_attributes, no_attribute, relations_of, root_of}
use Rattle.object_arena.specs.declared.object.Cell.{Cell}
use Rattle.object_arena.specs.declared.object.Link.{Link}
use Rattle.object_arena.specs.declared.object.Link.TheVariants.{Unset, Unloaded, One, Many}
use Rattle.object_arena.specs.declared.object.Object.{Object}
use Rattle.object_arena.specs.declared.object.State.{State}
use Rattle.object_arena.specs.declared.object.State.TheVariants.{Transient, Pending, Persistent, Deleted, Detached}
use Rattle.object_arena.specs.Every.{classes_of}
use Rattle.object_arena.specs.Fit.{IsFit, ObjectFits, cell_fits, held_fit, is_just_of_kind, is_of_kind, is_of_root, key_fits, key_value_fits, link_fits, links_fit, no_relation, value_fits}
use Rattle.object_arena.specs.Graph.{Graph, IsObject, expired_cell, is_among, no_object, object_at, place_of}
use Rattle.object_arena.specs.Identity.{id_of_place}
use Rattle.object_arena.proofs.FitLemmas.{fit_at, fit_links}
use Rattle.object_arena.proofs.PartLemmas.{pointwise_at, pointwise_map}
use Rattle.object_rows.specs.declared.prepared.Prepared.{Prepared}
use Rattle.object_rows.specs.Rows.{is_discriminator}
use Rattle.object_rows.specs.Seen.{is_cleared, is_new, object_ids}
use Rattle.graph_flushed.specs.Fitting.{IsFitting}
use Rattle.graph_flushed.specs.Flushed.{Written, deleted_object, graph_flushed, graph_written, held_cell, held_or, key_of, kept_cell, kept_link, kept_links, new_cell, new_object, new_value, object_flushed, object_in, own_value, part_or, prepared_link, prepared_links, staying_cell, staying_object, value_come, written_with}
use Rattle.graph_flushed.specs.Keys.{key_if_fit, key_if_new, new_key, new_keys}
use Rattle.graph_flushed.proofs.FollowSteps.{kept_long, prepared_long}
use Rattle.graph_flushed.proofs.ObjectSteps.{flushed_at, flushed_long}

-- ---- lists of partners of which the second ones change, each as its place says

placed_from : {A B : Type 0} (p : A → B → Bool) (f : ℕ × B → B) (n : ℕ) (xs : List A) (ys : List B) (d : A) (e : B) → pointwise p xs ys ≡ true
    → ((i : ℕ) → i < length xs → p (get_or xs i d) (get_or ys i e) ≡ true → p (get_or xs i d) (f (n + i, get_or ys i e)) ≡ true) → pointwise p xs (map f (enumerate_from n ys)) ≡ true
placed_from p f n [] [] d e all each = refl
placed_from p f n [] (y ∷ ys) d e all each = absurd cc
placed_from p f n (x ∷ xs) [] d e all each = absurd cc
placed_from p f n (x ∷ xs) (y ∷ ys) d e all each =
    let parts = and_parts (p x y) (pointwise p xs ys) all in
    let here : n + 0 ≡ n = omega arith in
    and_from (p x (f (n, y))) (pointwise p xs (map f (enumerate_from (n + 1) ys)))
    (sym (ap (λ (k : ℕ). p x (f (k, y))) here) ∙ each 0 (omega arith) parts.0)
    (placed_from p f (n + 1) xs ys d e parts.1
    (λ i less is.
    let next : n + (i + 1) ≡ n + 1 + i = omega arith in
    sym (ap (λ (k : ℕ). p (get_or xs i d) (f (k, get_or ys i e))) next) ∙ later i less is))
  where
    later : (i : ℕ) → i < length xs → p (get_or xs i d) (get_or ys i e) ≡ true → p (get_or xs i d) (f (n + (i + 1), get_or ys i e)) ≡ true
    later i less is = let next : suc i ≡ i + 1 = omega arith in ap (λ (k : ℕ). p (get_or xs i d) (f (n + k, get_or ys i e))) (sym next) ∙ each (suc i) (omega arith) is

placed_fit : {A B : Type 0} (p : A → B → Bool) (f : ℕ × B → B) (xs : List A) (ys : List B) (d : A) (e : B) → pointwise p xs ys ≡ true
    → ((i : ℕ) (y : B) → i < length xs → p (get_or xs i d) y ≡ true → p (get_or xs i d) (f (i, y)) ≡ true) → pointwise p xs (map f (enumerate_from 0 ys)) ≡ true
placed_fit p f xs ys d e all each =
    placed_from p f 0 xs ys d e all
    (λ i less is.
    let here : i ≡ 0 + i = omega arith in
    ap (λ (k : ℕ). p (get_or xs i d) (f (k, get_or ys i e))) (sym here) ∙ each i (get_or ys i e) less is)

-- ---- what was written fits

record AllFit (written : Written) : Type 0 where
  keys : (object : ObjId) (key : List Value) → IsObject written.graph object → key_of written object ≡ Some key → key_fits written.mapping (object_at written.graph object).class key ≡ true
  rest : IsFitting written

-- ---- cells

held_fits : (attribute : Attribute) (value : Value) → value_fits attribute (Some value) ≡ true → cell_fits attribute (held_cell value) ≡ true
held_fits attribute value h = and_from (is_of_kind attribute.kind (kind_of_value value)) (is_of_kind attribute.kind (kind_of_value value)) h h

held_or_fits : (attribute : Attribute) (value : Option Value) (cell : Cell) → value_fits attribute value ≡ true → cell_fits attribute cell ≡ true → cell_fits attribute (held_or value cell) ≡ true
held_or_fits attribute None cell h own = own
held_or_fits attribute (Some value) cell h own = held_fits attribute value h

kept_fits : (attribute : Attribute) (cell : Cell) → cell_fits attribute cell ≡ true → cell_fits attribute (kept_cell cell) ≡ true
kept_fits attribute cell own = held_or_fits attribute cell.value cell (and_parts (value_fits attribute cell.value) (value_fits attribute cell.base) own).0 own

or_null_fits : (attribute : Attribute) (value : Option Value) → value_fits attribute value ≡ true → value_fits attribute (Some (value_or_null value)) ≡ true
or_null_fits attribute None h = refl
or_null_fits attribute (Some value) h = h

come_or_fits : (attribute : Attribute) (come : Option Value) (own : Value) → value_fits attribute come ≡ true → value_fits attribute (Some own) ≡ true → value_fits attribute (Some (unwrap_or come own)) ≡ true
come_or_fits attribute None own h g = g
come_or_fits attribute (Some value) own h g = h

told_or_fits : (attribute : Attribute) (told : Bool) (one other : Value) → (told ≡ true → value_fits attribute (Some one) ≡ true) → value_fits attribute (Some other) ≡ true → value_fits attribute (Some (if told then one else other)) ≡ true
told_or_fits attribute true one other h g = h refl
told_or_fits attribute false one other h g = g

just_fits : (wanted : Kind) (found : Option Kind) → is_just_of_kind wanted found ≡ true → is_of_kind wanted found ≡ true
just_fits wanted None h = absurd cc
just_fits wanted (Some found) h = h

part_fits : (mapped : Mapped) (class : ClassId) (key : List Value) (i : ℕ) (own : Value) (found : Option ℕ) → key_fits mapped class key ≡ true
    → position (λ (attr : AttrNo). attr.0 == i) (key_attributes mapped class) ≡ found
    → (let attr : AttrNo = record { 0 = i } in value_fits (attribute_of mapped class attr) (Some own) ≡ true → value_fits (attribute_of mapped class attr) (Some (part_or key found own)) ≡ true)
part_fits mapped class key i own None fits at h = h
part_fits mapped class key i own (Some part) fits at h =
    let none : AttrNo = record { 0 = 0 } in
    let there = position-Some (λ (attr : AttrNo). attr.0 == i) (key_attributes mapped class) part none at in
    let number : (get_or (key_attributes mapped class) part none).0 ≡ i = eqb-true (get_or (key_attributes mapped class) part none).0 i there.1 in
    let value : Value = get_or key part Null in
    just_fits (get_or (attributes_of mapped class) i no_attribute).kind (kind_of_value value)
    (subst (λ (n : ℕ). is_just_of_kind (get_or (attributes_of mapped class) n no_attribute).kind (kind_of_value value) ≡ true) number
    (pointwise_at (key_value_fits mapped class) (key_attributes mapped class) key part none Null fits there.0))

-- ---- links

kept_link_fits : (roots : List ClassId) (root : ClassId) (many : Bool) (link : Link) → held_fit roots root many link ≡ true → held_fit roots root many (kept_link link) ≡ true
kept_link_fits roots root many Unset h = refl
kept_link_fits roots root many (Unloaded added removed) h = refl
kept_link_fits roots root many (One None changed) h = h
kept_link_fits roots root many (One (Some end) changed) h = h
kept_link_fits roots root many (Many members base) h =
    let parts = and_parts many (list_all (is_of_root roots root) members && list_all (is_of_root roots root) base) h in
    let held = (and_parts (list_all (is_of_root roots root) members) (list_all (is_of_root roots root) base) parts.1).0 in
    and_from many (list_all (is_of_root roots root) members && list_all (is_of_root roots root) members) parts.0
    (and_from (list_all (is_of_root roots root) members) (list_all (is_of_root roots root) members) held held)

none_fits : (roots : List ClassId) (root : ClassId) (many cleared : Bool) (link : Link) → (cleared ≡ true → many ≡ false) → held_fit roots root many link ≡ true → held_fit roots root many (prepared_link cleared link) ≡ true
none_fits roots root many false link one h = h
none_fits roots root many true link one h = let single : many ≡ false = one refl in ap (λ (b : Bool). not b && true) single

links_prepared : (written : Written) (object : ObjId) → IsFit written.mapping written.graph → AllFit written → IsObject written.graph object
    → pointwise (link_fits written.mapping written.graph.roots) (relations_of written.mapping (object_at written.graph object).class) (prepared_links written.prepared object (object_at written.graph object).links) ≡ true
links_prepared written object fit good made =
    let it : Object = object_at written.graph object in
    let relations : List Relation = relations_of written.mapping it.class in
    placed_fit (link_fits written.mapping written.graph.roots) (λ placed. prepared_link (is_cleared written.prepared object (record { 0 = placed.0 })) placed.1) relations it.links no_relation Unset
    (fit_links written.mapping written.graph object fit made)
    (λ i link less h.
    let number : RelNo = record { 0 = i } in
    let relation : Relation = get_or relations i no_relation in
    none_fits written.graph.roots (root_of written.mapping relation.target) relation.many (is_cleared written.prepared object number) link (good.rest.cleared object number made) h)

links_kept : (written : Written) (object : ObjId) → IsFit written.mapping written.graph → AllFit written → IsObject written.graph object
    → pointwise (link_fits written.mapping written.graph.roots) (relations_of written.mapping (object_at written.graph object).class) (kept_links written.prepared object (object_at written.graph object).links) ≡ true
links_kept written object fit good made =
    pointwise_map (link_fits written.mapping written.graph.roots) kept_link (relations_of written.mapping (object_at written.graph object).class) (prepared_links written.prepared object (object_at written.graph object).links)
    (λ relation link h. kept_link_fits written.graph.roots (root_of written.mapping relation.target) relation.many link h) (links_prepared written object fit good made)

-- ---- an object

staying_fits : (attribute : Attribute) (is_key : Bool) (come : Option Value) (cell : Cell) → value_fits attribute come ≡ true → cell_fits attribute cell ≡ true
    → cell_fits attribute (if is_key then kept_cell cell else held_or come (kept_cell cell)) ≡ true
staying_fits attribute true come cell h own = kept_fits attribute cell own
staying_fits attribute false come cell h own = held_or_fits attribute come (kept_cell cell) h (kept_fits attribute cell own)

cells_staying : (written : Written) (object : ObjId) → IsFit written.mapping written.graph → AllFit written → IsObject written.graph object
    → pointwise cell_fits (attributes_of written.mapping (object_at written.graph object).class) (map (staying_cell written object (object_at written.graph object).class) (enumerate_from 0 (object_at written.graph object).cells)) ≡ true
cells_staying written object fit good made =
    let it : Object = object_at written.graph object in
    placed_fit cell_fits (staying_cell written object it.class) (attributes_of written.mapping it.class) it.cells no_attribute expired_cell (fit_at written.mapping written.graph object fit made).cells
    (λ i cell less own.
    let attr : AttrNo = record { 0 = i } in
    let attribute : Attribute = attribute_of written.mapping it.class attr in
    staying_fits attribute (is_key_attribute written.mapping it.class attr) (value_come written object attribute) cell (good.rest.come object attr (made, less)) own)

cells_new : (written : Written) (object : ObjId) (key : List Value) → IsFit written.mapping written.graph → AllFit written → IsObject written.graph object → key_of written object ≡ Some key
    → pointwise cell_fits (attributes_of written.mapping (object_at written.graph object).class) (map (new_cell written object (object_at written.graph object).class key) (enumerate_from 0 (object_at written.graph object).cells)) ≡ true
cells_new written object key fit good made is =
    let it : Object = object_at written.graph object in
    placed_fit cell_fits (new_cell written object it.class key) (attributes_of written.mapping it.class) it.cells no_attribute expired_cell (fit_at written.mapping written.graph object fit made).cells
    (λ i cell less own.
    let attr : AttrNo = record { 0 = i } in
    let attribute : Attribute = attribute_of written.mapping it.class attr in
    let value = and_parts (value_fits attribute cell.value) (value_fits attribute cell.base) own in
    let mine : value_fits attribute (Some (own_value written object it.class attribute cell)) ≡ true =
    told_or_fits attribute (is_discriminator written.mapping it.class attribute.table attribute.name) (value_or_null (class_spec written.mapping it.class).identity) (unwrap_or (value_come written object attribute) (value_or_null cell.value))
    (good.rest.told object attr (made, less))
    (come_or_fits attribute (value_come written object attribute) (value_or_null cell.value) (good.rest.come object attr (made, less)) (or_null_fits attribute cell.value value.0)) in
    held_fits attribute (new_value written object it.class key (i, cell))
    (part_fits written.mapping it.class key i (own_value written object it.class attribute cell) (position (λ (a : AttrNo). a.0 == i) (key_attributes written.mapping it.class)) (good.keys object key made is) refl mine))

new_fits : (written : Written) (object : ObjId) (key : Option (List Value)) → IsFit written.mapping written.graph → AllFit written → IsObject written.graph object → key_of written object ≡ key
    → ObjectFits written.mapping (new_object written object key (object_at written.graph object))
new_fits written object None fit good made is =
    let old = fit_at written.mapping written.graph object fit made in
    record { class = old.class; cells = old.cells; identity = refl; links = prepared_long written.prepared object (object_at written.graph object).links ∙ old.links }
new_fits written object (Some key) fit good made is =
    let old = fit_at written.mapping written.graph object fit made in
    record {
      class = old.class;
      cells = cells_new written object key fit good made is;
      identity = good.keys object key made is;
      links = kept_long written.prepared object (object_at written.graph object).links ∙ old.links;
    }

old_fits : (written : Written) (object : ObjId) (gone : Bool) → IsFit written.mapping written.graph → AllFit written → IsObject written.graph object
    → ObjectFits written.mapping (if gone then deleted_object written object (object_at written.graph object) else staying_object written object (object_at written.graph object))
old_fits written object true fit good made =
    let it : Object = object_at written.graph object in
    let old = fit_at written.mapping written.graph object fit made in
    record {
      class = old.class;
      cells = pointwise_map cell_fits kept_cell (attributes_of written.mapping it.class) it.cells kept_fits old.cells;
      identity = old.identity;
      links = kept_long written.prepared object it.links ∙ old.links;
    }
old_fits written object false fit good made =
    let old = fit_at written.mapping written.graph object fit made in
    record {
      class = old.class;
      cells = cells_staying written object fit good made;
      identity = old.identity;
      links = kept_long written.prepared object (object_at written.graph object).links ∙ old.links;
    }

other_fits : (written : Written) (object : ObjId) → IsFit written.mapping written.graph → IsObject written.graph object
    → ObjectFits written.mapping (record (object_at written.graph object) { links = prepared_links written.prepared object (object_at written.graph object).links })
other_fits written object fit made =
    let old = fit_at written.mapping written.graph object fit made in
    record { class = old.class; cells = old.cells; identity = old.identity; links = prepared_long written.prepared object (object_at written.graph object).links ∙ old.links }

object_fits : (written : Written) (object : ObjId) (state : State) → IsFit written.mapping written.graph → AllFit written → IsObject written.graph object → ObjectFits written.mapping (object_in state written object (object_at written.graph object))
object_fits written object Transient fit good made = other_fits written object fit made
object_fits written object Pending fit good made = new_fits written object (key_of written object) fit good made refl
object_fits written object Persistent fit good made = old_fits written object (is_among written.prepared.deleted object) fit good made
object_fits written object Deleted fit good made = other_fits written object fit made
object_fits written object Detached fit good made = other_fits written object fit made

new_links_fit : (written : Written) (object : ObjId) (key : Option (List Value)) → IsFit written.mapping written.graph → AllFit written → IsObject written.graph object
    → links_fit written.mapping written.graph.roots (new_object written object key (object_at written.graph object)) ≡ true
new_links_fit written object None fit good made = links_prepared written object fit good made
new_links_fit written object (Some key) fit good made = links_kept written object fit good made

old_links_fit : (written : Written) (object : ObjId) (gone : Bool) → IsFit written.mapping written.graph → AllFit written → IsObject written.graph object
    → links_fit written.mapping written.graph.roots (if gone then deleted_object written object (object_at written.graph object) else staying_object written object (object_at written.graph object)) ≡ true
old_links_fit written object true fit good made = links_kept written object fit good made
old_links_fit written object false fit good made = links_kept written object fit good made

object_links_fit : (written : Written) (object : ObjId) (state : State) → IsFit written.mapping written.graph → AllFit written → IsObject written.graph object
    → links_fit written.mapping written.graph.roots (object_in state written object (object_at written.graph object)) ≡ true
object_links_fit written object Transient fit good made = links_prepared written object fit good made
object_links_fit written object Pending fit good made = new_links_fit written object (key_of written object) fit good made
object_links_fit written object Persistent fit good made = old_links_fit written object (is_among written.prepared.deleted object) fit good made
object_links_fit written object Deleted fit good made = links_prepared written object fit good made
object_links_fit written object Detached fit good made = links_prepared written object fit good made

-- ---- the graph

flushed_here : (written : Written) (place : ℕ) (d : Object) → place < length written.graph.objects
    → get_or (graph_written written).objects place d ≡ object_in (object_at written.graph (id_of_place place)).state written (id_of_place place) (object_at written.graph (id_of_place place))
flushed_here written place d less =
    let same : place ≡ place + 1 - 1 = omega arith in
    get_or_default (graph_written written).objects place d no_object (rw (flushed_long written) less)
    ∙ flushed_at written place less
    ∙ ap (λ (p : ℕ). object_flushed written (id_of_place place) (get_or written.graph.objects p no_object)) same

roots_kept : (mapped : Mapped) (old new : Graph) → classes_of new ≡ classes_of old → old.roots ≡ map (λ (o : Object). root_of mapped o.class) old.objects → new.roots ≡ map (λ (o : Object). root_of mapped o.class) new.objects
unfolding classes_of
roots_kept mapped old new same rooted =
    let classes : map (λ (o : Object). o.class) old.objects ≡ map (λ (o : Object). o.class) new.objects = sym (ap (λ (c : List ClassId × List ClassId). c.0) same) in
    ap (λ (c : List ClassId × List ClassId). c.1) same ∙ rooted
    ∙ sym (map-map (root_of mapped) (λ (o : Object). o.class) old.objects)
    ∙ ap (map (root_of mapped)) classes
    ∙ map-map (root_of mapped) (λ (o : Object). o.class) new.objects

roots_same : (written : Written) → (graph_written written).roots ≡ written.graph.roots
unfolding graph_written
roots_same written = refl

written_fits : (written : Written) → IsFit written.mapping written.graph → AllFit written → classes_of (graph_written written) ≡ classes_of written.graph → IsFit written.mapping (graph_written written)
written_fits written fit good same = record {
  objects = λ place d less.
      let inside : place < length written.graph.objects = omega (arith, flushed_long written, less) in
      subst (ObjectFits written.mapping) (sym (flushed_here written place d inside))
      (object_fits written (id_of_place place) (object_at written.graph (id_of_place place)).state fit good (omega arith, omega (arith, inside)));
  roots = roots_kept written.mapping written.graph (graph_written written) same fit.roots;
  links = λ place d less.
      let inside : place < length written.graph.objects = omega (arith, flushed_long written, less) in
      ap (λ (o : Object). links_fit written.mapping (graph_written written).roots o) (flushed_here written place d inside)
      ∙ ap (λ (roots : List ClassId). links_fit written.mapping roots (object_in (object_at written.graph (id_of_place place)).state written (id_of_place place) (object_at written.graph (id_of_place place)))) (roots_same written)
      ∙ object_links_fit written (id_of_place place) (object_at written.graph (id_of_place place)).state fit good (omega arith, omega (arith, inside));
}

-- after success, and after a want of memory, which changes nothing
fits_after : (written : Written) (new : Graph) (r : Result (Unit {0}) Refusal) → IsFit written.mapping written.graph → OnOk r (new ≡ graph_written written) → OnErr r (new ≡ written.graph) → classes_of new ≡ classes_of written.graph
    → AllFit written → IsFit written.mapping new
fits_after written new (Ok u) fit ok err same good = subst (IsFit written.mapping) (sym ok) (written_fits written fit good (sym (ap classes_of ok) ∙ same))
fits_after written new (Err e) fit ok err same good = subst (IsFit written.mapping) (sym err) fit

-- ---- keys

given_fits : (mapped : Mapped) (class : ClassId) (fit : Bool) (own key : List Value) → key_fits mapped class own ≡ fit → key_if_fit fit own ≡ Some key → key_fits mapped class key ≡ true
given_fits mapped class true own key is given = let same : own ≡ key = cc in ap (key_fits mapped class) (sym same) ∙ is
given_fits mapped class false own key is given = absurd cc

new_key_fits : (mapped : Mapped) (graph : Graph) (prepared : Prepared) (changes : RowChanges) (keys : List (List Value)) (object : ObjId) (key : List Value) (new : Bool)
    → (if new then key_if_fit (key_fits mapped (object_at graph object).class (new_key mapped graph changes keys object)) (new_key mapped graph changes keys object) else None) ≡ Some key → key_fits mapped (object_at graph object).class key ≡ true
new_key_fits mapped graph prepared changes keys object key true given =
    given_fits mapped (object_at graph object).class (key_fits mapped (object_at graph object).class (new_key mapped graph changes keys object)) (new_key mapped graph changes keys object) key refl given
new_key_fits mapped graph prepared changes keys object key false given = absurd cc

keys_fit : (mapped : Mapped) (graph : Graph) (prepared : Prepared) (changes : RowChanges) (keys : List (List Value)) (object : ObjId) (key : List Value) → IsObject graph object
    → get_or (new_keys mapped graph prepared changes keys) (place_of object) None ≡ Some key → key_fits mapped (object_at graph object).class key ≡ true
unfolding new_keys object_ids
keys_fit mapped graph prepared changes keys object key made is =
    let less : place_of object < length graph.objects = omega (arith, made.0, made.1) in
    let within : place_of object < length (map id_of_place (range_with_len 0 (length graph.objects))) = rw (length-map-range_with_len id_of_place 0 (length graph.objects)) less in
    let id : id_of_place (place_of object) ≡ object = ap (λ (n : ℕ). let it : ObjId = record { 0 = n } in it) (omega (arith, made.0)) in
    new_key_fits mapped graph prepared changes keys object key (is_new graph prepared object)
    (ap (key_if_new mapped graph prepared changes keys) (sym id)
    ∙ ap (key_if_new mapped graph prepared changes keys) (sym (get_or-map-range_with_len id_of_place 0 (length graph.objects) (place_of object) (place_of object) object less (omega arith)))
    ∙ sym (get_or-map (key_if_new mapped graph prepared changes keys) (map id_of_place (range_with_len 0 (length graph.objects))) (place_of object) object None within)
    ∙ is)

-- after success, where the rest of what was written fits
pub flushed_fits : (mapped : Mapped) (graph new : Graph) (prepared : Prepared) (changes : RowChanges) (keys : List (List Value)) (r : Result (Unit {0}) Refusal) → IsFit mapped graph
    → OnOk r (new ≡ graph_flushed mapped prepared changes keys graph) → OnErr r (new ≡ graph) → classes_of new ≡ classes_of graph → IsFitting (written_with mapped prepared changes keys graph) → IsFit mapped new
flushed_fits mapped graph new prepared changes keys r fit ok err same good =
    fits_after (written_with mapped prepared changes keys graph) new r fit ok err same
    (record { keys = λ object key made is. keys_fit mapped graph prepared changes keys object key made is; rest = good })

pub ruleset fits = (flushed_fits)
