-- The object of a row, found or made, and filled.
use Rattle.std.proofs.Common.{◌≡◌, ℕ, ◌+◌, ◌≤◌, Bool, true, false, ◌==◌, nat_lt, List, length, get_or, Option, None, Some, Result, Ok, Err, IsErrAnd, refl, sym, ap, subst, ◌∙◌, if◌then◌else◌}
use Rattle.std.specs.Prelude.{slice_get}
use Rattle.std.specs.Option.{option_and_then, option_map}
use Rattle.std.specs.List.{position}
use Rattle.std.proofs.lemmas.Bool.{and_parts, eqb-true}
use Rattle.std.proofs.lemmas.List.{length-map}
use Rattle.std.proofs.lemmas.List.Quantifiers.{position-Some}
use Rattle.std.proofs.lemmas.Option.{get_or_from_slice_get, slice_get-get_or, slice_get-map}
use Rattle.base_core.specs.Answers.{Refuses}
use Rattle.base_core.specs.declared.ids.ClassId.{ClassId}
use Rattle.base_core.specs.declared.ids.ObjId.{ObjId}
use Rattle.base_core.specs.declared.value.Kind.{Kind}
use Rattle.base_core.specs.declared.value.Value.{Value}
use Rattle.base_core.specs.declared.refusal.LimitKind.TheVariants.{Objects}
use Rattle.base_core.specs.declared.refusal.RequestKind.TheVariants.{NoSuchIdentity}
use Rattle.base_core.specs.declared.refusal.Refusal.{Refusal}
use Rattle.base_core.specs.declared.refusal.Refusal.TheVariants.{InvalidRequestError, LimitReached, Memory}
use Rattle.class_types.specs.declared.mapped.Attribute.{Attribute}
use Rattle.class_mapping.specs.Mapped.{Mapped, attribute_of, attributes_of, no_attribute, root_of}
use Rattle.class_mapping.proofs.Having.{has_at}
use Rattle.object_arena.specs.declared.object.Object.{Object}
use Rattle.schema_core.specs.Tables.{kind_of_value}
use Rattle.object_arena.specs.Every.{classes_of}
use Rattle.object_arena.specs.Fit.{is_of_kind, value_fits}
use Rattle.object_arena.specs.Graph.{Graph, IsObject, no_class_id, object_limit, place_of, root_at}
use Rattle.object_arena.specs.Identity.{find_identity}
use Rattle.keeper_core.specs.Alone.{IsOwn, IsQuiet}
use Rattle.keeper_core.specs.Programs.{Run, quiet}
use Rattle.keeper_core.specs.declared.notes.Note.{Note}
use Rattle.mapping_laws.proofs.Attributes.{attribute_kind, one_kind}
use Rattle.load_filling.specs.Filled.{AreFoundFor, value_found, value_or_none}
use Rattle.load_filling.specs.Growing.{Grows}
use Rattle.load_filling.specs.Loaded.{load, with_loaded}
use Rattle.load_filling.specs.Rows.{class_named, found_or_loaded, loaded_as, row_key, row_object}
use Rattle.load_rows.specs.Loading.{Loading, filled_by_row, found_in_row, is_same_column, loading, take_row, taken_as, value_for}
use Rattle.load_rows.specs.Reading.{AreOfKinds}

-- ---- what a row has for cells

one_fits : (one other : Attribute) (found : Option Value) → one.kind ≡ other.kind → value_fits other found ≡ true → value_fits one found ≡ true
one_fits one other None e h = refl
one_fits one other (Some v) e h = ap (λ (kind : Kind). is_of_kind kind (kind_of_value v)) e ∙ h

-- what it has for an attribute of a class of the hierarchy is NULL or of the attribute's kind
for_fits : (mapped : Mapped) (class own : ClassId) (values : List Value) (number : ℕ) (attribute : Attribute) → AreOfKinds mapped class values → slice_get (attributes_of mapped own) number ≡ Some attribute
    → value_fits attribute (value_for mapped class values attribute) ≡ true
for_fits mapped class own values number attribute kinds at = by (position (is_same_column attribute) (attributes_of mapped class)) refl
  where
    by : (found : Option ℕ) → position (is_same_column attribute) (attributes_of mapped class) ≡ found → value_fits attribute (option_and_then (slice_get values) found) ≡ true
    by None e = refl
    by (Some place) e =
        let there = position-Some (is_same_column attribute) (attributes_of mapped class) place no_attribute e in
        let other : Attribute = get_or (attributes_of mapped class) place no_attribute in
        let stands : slice_get (attributes_of mapped class) place ≡ Some other = slice_get-get_or (attributes_of mapped class) place no_attribute there.0 in
        let same = and_parts (other.table.0 == attribute.table.0) (other.column.0 == attribute.column.0) there.1 in
        one_fits attribute other (slice_get values place)
        (sym (one_kind mapped other attribute (attribute_kind mapped class other (has_at (attributes_of mapped class) place other stands)) (attribute_kind mapped own attribute (has_at (attributes_of mapped own) number attribute at))
        (eqb-true other.table.0 attribute.table.0 same.0) (eqb-true other.column.0 attribute.column.0 same.1)))
        (kinds place other stands)

pub row_fits : (mapped : Mapped) (class own : ClassId) (values : List Value) → AreOfKinds mapped class values → AreFoundFor own (found_in_row mapped class values own) mapped
row_fits mapped class own values kinds attr = by (slice_get (attributes_of mapped own) attr.0) refl
  where
    placed : value_found (found_in_row mapped class values own) attr.0 ≡ value_or_none (option_map (value_for mapped class values) (slice_get (attributes_of mapped own) attr.0))
    placed = ap value_or_none (slice_get-map (value_for mapped class values) (attributes_of mapped own) attr.0)

    by : (found : Option Attribute) → slice_get (attributes_of mapped own) attr.0 ≡ found → value_fits (attribute_of mapped own attr) (value_found (found_in_row mapped class values own) attr.0) ≡ true
    by None e = ap (value_fits (attribute_of mapped own attr)) (placed ∙ ap (λ (o : Option Attribute). value_or_none (option_map (value_for mapped class values) o)) e)
    by (Some attribute) e =
        ap (value_fits (attribute_of mapped own attr)) (placed ∙ ap (λ (o : Option Attribute). value_or_none (option_map (value_for mapped class values) o)) e)
        ∙ ap (λ (a : Attribute). value_fits a (value_for mapped class values attribute)) (get_or_from_slice_get (attributes_of mapped own) attr.0 attribute no_attribute e)
        ∙ for_fits mapped class own values attr.0 attribute kinds e

-- ---- what stays

objects_long : (old new : Graph) → classes_of new ≡ classes_of old → length new.objects ≡ length old.objects
unfolding classes_of
objects_long old new same =
    sym (length-map new.objects (λ (o : Object). o.class)) ∙ ap (λ (p : List ClassId × List ClassId). length p.0) same ∙ length-map old.objects (λ (o : Object). o.class)

pub object_stays : (old new : Graph) (object : ObjId) → classes_of new ≡ classes_of old → IsObject old object → IsObject new object
object_stays old new object same made = (made.0, subst (λ (n : ℕ). object.0 ≤ n) (sym (objects_long old new same)) made.1)

pub root_stays : (old new : Graph) (object : ObjId) (root : ClassId) → classes_of new ≡ classes_of old → (root_at old object).0 ≡ root.0 → (root_at new object).0 ≡ root.0
unfolding classes_of
root_stays old new object root same is = ap (λ (p : List ClassId × List ClassId). (get_or p.1 (place_of object) no_class_id).0) same ∙ is

pub grows_filled : (old mid new : Graph) → Grows old mid → classes_of new ≡ classes_of mid → Grows old new
grows_filled old mid new grows same = record {
  classes = grows.classes;
  roots = grows.roots;
  longer = ap (λ (p : List ClassId × List ClassId). p.0) same ∙ grows.longer;
  rooted = ap (λ (p : List ClassId × List ClassId). p.1) same ∙ grows.rooted;
}

-- ---- the answers

-- the object was found or made, and filled
pub take_done : (mapped : Mapped) (class : ClassId) (values : List Value) (old mid new : Graph) (before after : List Note) (object : ObjId) → row_object mapped class values old ≡ Ok (object, mid)
    → loading new after ≡ filled_by_row mapped class values object (loading mid before) → take_row mapped class values (loading old before) ≡ quiet (Ok object) (loading new after)
unfolding take_row
take_done mapped class values old mid new before after object is filled =
    ap (taken_as mapped class values (loading old before)) is ∙ ap (λ (own : Loading). let run : Run Loading ObjId = quiet (Ok object) own in run) (sym filled)

own_of : (d e : Refusal) → IsOwn d → (let one : Result (ObjId × Graph) Refusal = Err d in one ≡ Err e) → IsOwn e
own_of d e own is = let same : d ≡ e = cc in subst IsOwn same own

limit_own : (mapped : Mapped) (class : ClassId) (key : List Value) (graph : Graph) (e : Refusal) → load mapped class key graph ≡ Err e → IsOwn e
unfolding load
limit_own mapped class key graph e is = by (nat_lt (length graph.objects) object_limit) is
  where
    by : (b : Bool) → (let answer : Result (ObjId × Graph) Refusal = if b then Ok (record { 0 = length graph.objects + 1 }, with_loaded mapped class key graph) else Err (LimitReached Objects) in answer ≡ Err e) → IsOwn e
    by true h = absurd cc
    by false h = own_of (LimitReached Objects) e (refl, refl) h

named_own : (mapped : Mapped) (key : List Value) (graph : Graph) (named : Option ClassId) (e : Refusal) → loaded_as mapped key graph named ≡ Err e → IsOwn e
named_own mapped key graph None e is = own_of (InvalidRequestError NoSuchIdentity) e (refl, refl) is
named_own mapped key graph (Some class) e is = limit_own mapped class key graph e is

found_own : (mapped : Mapped) (class : ClassId) (values : List Value) (graph : Graph) (found : Option ObjId) (e : Refusal) → found_or_loaded mapped class values graph found ≡ Err e → IsOwn e
found_own mapped class values graph (Some object) e is = absurd cc
found_own mapped class values graph None e is = named_own mapped (row_key mapped class values) graph (class_named mapped class values) e is

-- a refusal is the row's own
refused_own : (mapped : Mapped) (class : ClassId) (values : List Value) (graph : Graph) (e : Refusal) → row_object mapped class values graph ≡ Err e → IsOwn e
unfolding row_object
refused_own mapped class values graph e is = found_own mapped class values graph (find_identity graph (root_of mapped class) (row_key mapped class values)) e is

refused_by : (mapped : Mapped) (class : ClassId) (values : List Value) (old : Graph) (notes : List Note) (e : Refusal) → row_object mapped class values old ≡ Err e
    → take_row mapped class values (loading old notes) ≡ quiet (Err e) (loading old notes)
unfolding take_row
refused_by mapped class values old notes e is = ap (taken_as mapped class values (loading old notes)) is

take_refused : {X : Type 0} (v : X → ObjId) (mapped : Mapped) (class : ClassId) (values : List Value) (old new : Graph) (notes : List Note) (e : Refusal) → new ≡ old → Refuses e (row_object mapped class values old)
    → IsQuiet v (take_row mapped class values (loading old notes)) (Err e) (loading new notes)
take_refused v mapped class values old new notes Memory same is = tt
take_refused v mapped class values old new notes e same is =
    (refused_by mapped class values old notes e is ∙ ap (λ (graph : Graph). let run : Run Loading ObjId = quiet (Err e) (loading graph notes) in run) (sym same), refused_own mapped class values old e is)

-- no object was found, and none made
pub take_stopped : {X : Type 0} (v : X → ObjId) (mapped : Mapped) (class : ClassId) (values : List Value) (old new : Graph) (notes : List Note) (e : Refusal) (r : Result X Refusal) → IsErrAnd r (λ d. d ≡ e) → new ≡ old
    → Refuses e (row_object mapped class values old) → IsQuiet v (take_row mapped class values (loading old notes)) r (loading new notes)
take_stopped v mapped class values old new notes e (Ok x) passed same is = absurd passed
take_stopped v mapped class values old new notes e (Err d) passed same is =
    subst (λ (f : Refusal). IsQuiet v (take_row mapped class values (loading old notes)) (Err f) (loading new notes)) (sym passed) (take_refused v mapped class values old new notes e same is)

-- memory ran out
pub take_lost : {S A X : Type 0} (v : X → A) (run : Run S A) (now : S) (r : Result X Refusal) → IsErrAnd r (λ d. d ≡ Memory) → IsQuiet v run r now
take_lost v run now (Ok x) passed = absurd passed
take_lost v run now (Err d) passed = subst (λ (f : Refusal). IsQuiet v run (Err f) now) (sym passed) tt
