-- What becomes of an object that comes in, and what it keeps.
use Rattle.std.proofs.Common.{◌≡◌, ℕ, ◌+◌, ◌<◌, ◌≤◌, Bool, true, false, not, List, [], ◌∷◌, ◌++◌, length, get_or, drop, suc, Option, None, Some, refl, sym, ap, ◌∙◌, append_assoc, append-nil, arith}
use Rattle.std.specs.Prelude.{if◌then◌else◌}
use Rattle.std.specs.List.{All}
use Rattle.std.proofs.lemmas.Bool.{and_parts}
use Rattle.std.specs.Cmp.Lexicographic.{as_long, pointwise}
use Rattle.std.proofs.lemmas.List.{drop_all, drop_more}
use Rattle.std.proofs.lemmas.List.Elements.{All-cons, All-nil}
use Rattle.base_core.specs.declared.ids.AttrNo.{AttrNo}
use Rattle.base_core.specs.declared.ids.ClassId.{ClassId}
use Rattle.base_core.specs.declared.ids.ObjId.{ObjId}
use Rattle.base_core.specs.declared.value.Kind.{Kind}
use Rattle.base_core.specs.declared.value.Value.{Value}
use Rattle.base_core.specs.declared.refusal.Refusal.{Refusal}
use Rattle.base_core.specs.declared.refusal.Refusal.TheVariants.{TypeMismatch}
use Rattle.schema_core.specs.Refusals.{kind_fault}
use Rattle.schema_core.specs.Tables.{kind_of_value}
use Rattle.class_types.specs.declared.mapped.Attribute.{Attribute}
use Rattle.class_mapping.specs.Mapped.{IsAttribute, Mapped, attribute_of, attributes_of, no_attribute}
use Rattle.object_arena.specs.declared.object.Cell.{Cell}
use Rattle.object_arena.specs.declared.object.Object.{Object}
use Rattle.object_arena.specs.declared.object.State.{State}
use Rattle.object_arena.specs.declared.object.State.TheVariants.{Transient, Pending, Persistent, Detached}
use Rattle.object_arena.specs.Fit.{ObjectFits, cell_fits, is_of_kind, value_fits}
use Rattle.object_arena.specs.Graph.{Graph, IsObject, cell_put, either_fault, expired_object, object_at, put_back_object, with_marks, with_object, with_state}
use Rattle.object_arena.proofs.TurnLemmas.{with_same, written_twice}
use Rattle.session_parts.specs.Ends.{object_unmarked}
use Rattle.session_scopes.specs.Making.{first_given_fault, object_with, unwritten_cell, with_given}
use Rattle.object_records.specs.Same.{same_object}
use Rattle.object_records.proofs.Differing.{differs_as}
use Rattle.session_objects.specs.Taking.{changed_values, is_value_changed, object_taken, returned_object, taken_under, with_changed}

-- ---- what values leave of an object

pub state_left : (o : Object) (given : List (AttrNo × Value)) → (object_with o given).state ≡ o.state
state_left o [] = refl
state_left o (one ∷ others) = state_left (cell_put o one.0 (unwritten_cell one.1)) others

pub identity_left : (o : Object) (given : List (AttrNo × Value)) → (object_with o given).identity ≡ o.identity
identity_left o [] = refl
identity_left o (one ∷ others) = identity_left (cell_put o one.0 (unwritten_cell one.1)) others

-- ---- whether the object comes to differ

pub twice_not : (b : Bool) → b ≡ not (not b)
twice_not true = refl
twice_not false = refl

without_mark : (o : Object) (is_marked : Bool) → o.marked ≡ is_marked → not is_marked ≡ true → o ≡ object_unmarked o
without_mark o true is h = absurd cc
without_mark o false is h = ap (λ (b : Bool). record o { marked = b }) is

-- of another state
differs_in_state : (o new : Object) (state later : State) → o.state ≡ state → new.state ≡ later → (state ≡ later → ⊥) → true ≡ not (same_object o new)
differs_in_state o new state later old now apart = differs_as o new false (λ h. absurd cc) (λ same. absurd (apart (sym old ∙ ap (λ (x : Object). x.state) same ∙ now)))

-- by its mark
pub marked_differs : (o : Object) → o.marked ≡ not (same_object o (object_unmarked o))
marked_differs o =
    twice_not o.marked
    ∙ differs_as o (object_unmarked o) (not o.marked) (without_mark o o.marked refl) (λ same. ap (λ (x : Object). not x.marked) same)

pub transient_differs : (o : Object) (number : ℕ) → o.state ≡ Transient → true ≡ not (same_object o (taken_under number o))
transient_differs o number is =
    differs_in_state o (taken_under number o) Transient Pending is (ap (λ (s : State). (object_taken s number o).state) is) (λ same. absurd cc)

pub detached_differs : (o : Object) (number : ℕ) → o.state ≡ Detached → true ≡ not (same_object o (taken_under number o))
detached_differs o number is =
    differs_in_state o (taken_under number o) Detached Persistent is
    (ap (λ (s : State). (object_taken s number o).state) is ∙ state_left (expired_object (record o { state = Persistent; marked = false })) (changed_values 0 o.cells)) (λ same. absurd cc)

pub stays_alike : (o : Object) (number : ℕ) (state : State) → o.state ≡ state → object_taken state number o ≡ o → false ≡ not (same_object o (taken_under number o))
stays_alike o number state is stays =
    differs_as o o true (λ h. refl) (λ same. refl)
    ∙ ap (λ (x : Object). not (same_object o x)) (sym (ap (λ (s : State). object_taken s number o) is ∙ stays))

-- ---- an object that was transient

pub pending_is : (graph mid new : Graph) (object : ObjId) (number : ℕ) (is_marked is_orphan : Bool) → IsObject graph object → (object_at graph object).state ≡ Transient → is_marked ≡ (object_at graph object).marked → is_orphan ≡ (object_at graph object).orphan
    → mid ≡ with_marks graph object number is_marked is_orphan → new ≡ with_state mid object Pending → new ≡ with_object graph object (taken_under number (object_at graph object))
pending_is graph mid new object number is_marked is_orphan made is marks same first second =
    let o : Object = object_at graph object in
    written_twice (λ (x : Object). record x { state = Pending; identity = None }) graph mid new object (record o { added = number; marked = is_marked; orphan = is_orphan }) made first second
    ∙ ap (λ (b : Bool). with_object graph object (record o { state = Pending; identity = None; added = number; marked = is_marked; orphan = b })) same
    ∙ ap (λ (b : Bool). with_object graph object (record o { state = Pending; identity = None; added = number; marked = b })) marks
    ∙ sym (ap (λ (s : State). with_object graph object (object_taken s number o)) is)

-- ---- an object that comes back

-- it stands again, is expired, and gets the values that were changed
pub returned_is : (graph mid late new : Graph) (object : ObjId) (values : List (AttrNo × Value)) → IsObject graph object → values ≡ changed_values 0 (object_at graph object).cells
    → mid ≡ with_object graph object (put_back_object (object_at graph object) Persistent (object_at graph object).identity) → late ≡ with_object mid object (expired_object (object_at mid object)) → new ≡ with_given late object values
    → new ≡ with_object graph object (returned_object (object_at graph object))
returned_is graph mid late new object values made is first second third =
    let o : Object = object_at graph object in
    let stood : Object = record o { state = Persistent; marked = false } in
    let two : late ≡ with_object graph object (expired_object stood) = written_twice expired_object graph mid late object stood made first second in
    written_twice (λ (x : Object). object_with x values) graph late new object (expired_object stood) made two third
    ∙ ap (λ (given : List (AttrNo × Value)). with_object graph object (object_with (expired_object stood) given)) is

-- by its state
pub taken_as : (graph new : Graph) (object : ObjId) (number : ℕ) (state : State) (taken : Object) → (object_at graph object).state ≡ state → object_taken state number (object_at graph object) ≡ taken → new ≡ with_object graph object taken
    → new ≡ with_object graph object (taken_under number (object_at graph object))
taken_as graph new object number state taken is same put =
    put ∙ sym (ap (with_object graph object) (ap (λ (s : State). object_taken s number (object_at graph object)) is ∙ same))

-- an object that stays as it is
pub taken_still : (graph : Graph) (object : ObjId) (number : ℕ) (state : State) → (object_at graph object).state ≡ state → object_taken state number (object_at graph object) ≡ object_at graph object
    → graph ≡ with_object graph object (taken_under number (object_at graph object))
taken_still graph object number state is same = taken_as graph graph object number state (object_at graph object) is same (sym (with_same graph object))

-- ---- the values that were changed

abbrev both : ℕ → Cell → List (AttrNo × Value)
both place cell = with_changed place cell.value cell.base []

if_changed : (changes : Bool) (one : AttrNo × Value) (others : List (AttrNo × Value)) → (if changes then one ∷ others else others) ≡ (if changes then one ∷ [] else []) ++ others
if_changed true one others = refl
if_changed false one others = refl

one_first : (place : ℕ) (value base : Option Value) (others : List (AttrNo × Value)) → with_changed place value base others ≡ with_changed place value base [] ++ others
one_first place None base others = refl
one_first place (Some value) base others = if_changed (is_value_changed value base) (record { 0 = place }, value) others

-- one cell more
pub changed_more : (cells : List Cell) (i : ℕ) (cell : Cell) (before now whole : List (AttrNo × Value)) → i < length cells → cell ≡ get_or cells i cell → now ≡ before ++ both i cell → before ++ changed_values i (drop i cells) ≡ whole
    → now ++ changed_values (i + 1) (drop (i + 1) cells) ≡ whole
changed_more cells i cell before now whole less is pushed so_far =
    let rest : List (AttrNo × Value) = changed_values (i + 1) (drop (i + 1) cells) in
    ap (λ (values : List (AttrNo × Value)). values ++ rest) pushed
    ∙ append_assoc before (both i cell) rest
    ∙ ap (λ (values : List (AttrNo × Value)). before ++ values)
    (sym (one_first i cell.value cell.base rest)
    ∙ ap (λ (c : Cell). with_changed i c.value c.base rest) is
    ∙ sym (ap (changed_values i) (drop_more cells i cell less)))
    ∙ so_far

-- all cells
pub changed_all : (cells : List Cell) (i : ℕ) (now whole : List (AttrNo × Value)) → length cells ≤ i → now ++ changed_values i (drop i cells) ≡ whole → now ≡ whole
changed_all cells i now whole ended so_far = sym (append-nil now) ∙ sym (ap (λ (left : List Cell). now ++ changed_values i left) (drop_all i cells ended)) ∙ so_far

pub ruleset changes = (changed_more, changed_all)

-- ---- they are of attributes, and of their kinds

pushed_fits : (mapped : Mapped) (class : ClassId) (place : ℕ) (value base : Option Value) (others : List (AttrNo × Value)) → place < length (attributes_of mapped class)
    → All (λ (one : AttrNo × Value). IsAttribute mapped class one.0) others → All (λ (one : AttrNo × Value). IsAttribute mapped class one.0) (with_changed place value base others)
pushed_fits mapped class place None base others less all = all
pushed_fits mapped class place (Some value) base others less all = by (is_value_changed value base)
  where
    by : (b : Bool) → All (λ (one : AttrNo × Value). IsAttribute mapped class one.0) (if b then (record { 0 = place }, value) ∷ others else others)
    by true = All-cons (λ (one : AttrNo × Value). IsAttribute mapped class one.0) (record { 0 = place }, value) others less all
    by false = all

changed_are_attributes : (mapped : Mapped) (class : ClassId) (place : ℕ) (cells : List Cell) → place + length cells ≤ length (attributes_of mapped class)
    → All (λ (one : AttrNo × Value). IsAttribute mapped class one.0) (changed_values place cells)
changed_are_attributes mapped class place [] within = All-nil (λ (one : AttrNo × Value). IsAttribute mapped class one.0)
changed_are_attributes mapped class place (cell ∷ cells) within =
    pushed_fits mapped class place cell.value cell.base (changed_values (place + 1) cells) (omega (arith, within)) (changed_are_attributes mapped class (place + 1) cells (omega (arith, within)))

kind_none : (wanted : Kind) (found : Option Kind) → is_of_kind wanted found ≡ true → kind_fault wanted found ≡ None
kind_none wanted None h = refl
kind_none wanted (Some found) h = ap (λ (b : Bool). if b then None else Some (TypeMismatch wanted found)) h

pushed_none : (mapped : Mapped) (class : ClassId) (place : ℕ) (value base : Option Value) (others : List (AttrNo × Value)) → value_fits (attribute_of mapped class (record { 0 = place })) value ≡ true
    → first_given_fault mapped class others ≡ None → first_given_fault mapped class (with_changed place value base others) ≡ None
pushed_none mapped class place None base others fits none = none
pushed_none mapped class place (Some value) base others fits none = by (is_value_changed value base)
  where
    by : (b : Bool) → first_given_fault mapped class (if b then (record { 0 = place }, value) ∷ others else others) ≡ None
    by true = ap (λ (f : Option Refusal). either_fault f (first_given_fault mapped class others)) (kind_none (attribute_of mapped class (record { 0 = place })).kind (kind_of_value value) fits) ∙ none
    by false = none

-- the cells from a place on fit
abbrev pub FitFrom : Mapped → ClassId → ℕ → List Cell → Type 0
FitFrom mapped class place [] = Unit {0}
FitFrom mapped class place (cell ∷ cells) = (value_fits (attribute_of mapped class (record { 0 = place })) cell.value ≡ true) × FitFrom mapped class (place + 1) cells

changed_are_taken : (mapped : Mapped) (class : ClassId) (place : ℕ) (cells : List Cell) → FitFrom mapped class place cells → first_given_fault mapped class (changed_values place cells) ≡ None
changed_are_taken mapped class place [] fits = refl
changed_are_taken mapped class place (cell ∷ cells) fits =
    pushed_none mapped class place cell.value cell.base (changed_values (place + 1) cells) fits.0 (changed_are_taken mapped class (place + 1) cells fits.1)

-- cells that fit attributes one by one
fit_from : (mapped : Mapped) (class : ClassId) (place : ℕ) (attributes : List Attribute) (cells : List Cell) → ((i : ℕ) → i < length attributes → attribute_of mapped class (record { 0 = place + i }) ≡ get_or attributes i no_attribute)
    → pointwise cell_fits attributes cells ≡ true → FitFrom mapped class place cells
fit_from mapped class place [] [] at h = tt
fit_from mapped class place [] (cell ∷ cells) at h = absurd cc
fit_from mapped class place (a ∷ attributes) [] at h = tt
fit_from mapped class place (a ∷ attributes) (cell ∷ cells) at h =
    let both = and_parts (cell_fits a cell) (pointwise cell_fits attributes cells) h in (
      ap (λ (it : Attribute). value_fits it cell.value) (ap (λ (n : ℕ). attribute_of mapped class (record { 0 = n })) (let e : place ≡ place + 0 = omega arith in e) ∙ at 0 (omega arith)) ∙ (and_parts (value_fits a cell.value) (value_fits a cell.base) both.0).0,
      fit_from mapped class (place + 1) attributes cells
          (λ i less. ap (λ (n : ℕ). attribute_of mapped class (record { 0 = n })) (let e : place + 1 + i ≡ place + suc i = omega arith in e) ∙ at (suc i) (omega (arith, less))) both.1,
    )

-- the values that were changed are of attributes, and of their kinds
pub changed_fit : (mapped : Mapped) (o : Object) → ObjectFits mapped o → All (λ (one : AttrNo × Value). IsAttribute mapped o.class one.0) (changed_values 0 o.cells) × (first_given_fault mapped o.class (changed_values 0 o.cells) ≡ None)
changed_fit mapped o fits = (
  changed_are_attributes mapped o.class 0 o.cells (omega (arith, as_long cell_fits (attributes_of mapped o.class) o.cells fits.cells)),
  changed_are_taken mapped o.class 0 o.cells
      (fit_from mapped o.class 0 (attributes_of mapped o.class) o.cells (λ i less. ap (λ (n : ℕ). get_or (attributes_of mapped o.class) n no_attribute) (let e : 0 + i ≡ i = omega arith in e)) fits.cells),
)
