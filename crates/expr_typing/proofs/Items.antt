-- Rows that were tested have the shape of their select.
use Rattle.std.proofs.Common.{◌≡◌, ◌<◌, ◌≤◌, ◌+◌, ◌++◌, ℕ, zero, suc, arith, Bool, true, false, not, List, [], ◌∷◌, length, map, take, drop, get_or, Option, Result, Ok, Err, IfOk, refl, sym, ap, ◌∙◌, subst}
use Rattle.std.proofs.lemmas.Bool.{and_parts}
use Rattle.std.proofs.lemmas.List.{take_more, map-append}
use Rattle.std.specs.List.{list_all, AllByRecursion}
use Rattle.std.specs.Cmp.Lexicographic.{pointwise}
use Rattle.base_core.specs.declared.value.Kind.{Kind}
use Rattle.base_core.specs.declared.value.Value.{Value}
use Rattle.base_core.specs.declared.value.Value.TheVariants as value
use Rattle.schema_core.specs.Catalog.{Catalog}
use Rattle.schema_core.specs.Tables.{is_null}
use Rattle.expr_types.specs.declared.expr.Expr.{Expr}
use Rattle.expr_types.specs.declared.expr.Origin.{Origin}
use Rattle.expr_types.specs.declared.select.Joined.{Joined}
use Rattle.expr_types.specs.declared.select.Select.{Select}
use Rattle.sql_semantics.specs.Plain.{is_of_kind}
use Rattle.sql_semantics.specs.Shapes.{AreGiven, AreOfItems, AreWide, EachItem, IsGiven, IsOfItsKind, scope_of}
use Rattle.expr_typing.specs.declared.shapes.ItemShape.{ItemShape}
use Rattle.expr_typing.specs.ItemShapes.{AreAnswers, all_fit, fits, kind_or_integer, shape_of_item, shapes_of}

-- ---- values

of_kind : (w : ItemShape) (v : Value) → fits w v ≡ true → is_of_kind w.kind v ≡ true
of_kind w value.Null e = refl
of_kind w (value.Bool b) e = e
of_kind w (value.Int n) e = e
of_kind w (value.Text t) e = e
of_kind w (value.Bytes b) e = e

not_null : (w : ItemShape) (v : Value) → fits w v ≡ true → w.never_null ≡ true → is_null v ≡ false
not_null w value.Null e g = absurd (no w.never_null g e)
  where
    no : (b : Bool) → b ≡ true → not b ≡ true → ⊥
    no true p q = cc
    no false p q = cc
not_null w (value.Bool b) e g = refl
not_null w (value.Int n) e g = refl
not_null w (value.Text t) e g = refl
not_null w (value.Bytes b) e g = refl

is_its_kind : (schema : Catalog) (s : Select) (e : Expr) (v : Value) → fits (shape_of_item schema s e) v ≡ true → IsOfItsKind schema (scope_of s) e v
is_its_kind schema s e v fit kind is = subst (λ (k : Kind). is_of_kind k v ≡ true) (ap kind_or_integer is) (of_kind (shape_of_item schema s e) v fit)

-- ---- rows

-- an item with its name
abbrev Item : Type 0
Item = Expr × Option (List ℕ)

abbrev each_shape : Catalog → Select → List Item → List ItemShape
each_shape schema s items = map (λ (item : Item). shape_of_item schema s item.0) items

row_wide : (schema : Catalog) (s : Select) (items : List Item) (row : List Value) → pointwise fits (each_shape schema s items) row ≡ true → length row ≡ length items
row_wide schema s [] [] e = refl
row_wide schema s [] (v ∷ row) e = cc
row_wide schema s (item ∷ items) [] e = cc
row_wide schema s (item ∷ items) (v ∷ row) e = ap suc (row_wide schema s items row (and_parts (fits (shape_of_item schema s item.0) v) (pointwise fits (each_shape schema s items) row) e).1)

row_kinds : (schema : Catalog) (s : Select) (items : List Item) (row : List Value) → pointwise fits (each_shape schema s items) row ≡ true → EachItem (IsOfItsKind schema (scope_of s)) items row
row_kinds schema s [] [] e = tt
row_kinds schema s [] (v ∷ row) e = cc
row_kinds schema s (item ∷ items) [] e = cc
row_kinds schema s (item ∷ items) (v ∷ row) e =
    let both = and_parts (fits (shape_of_item schema s item.0) v) (pointwise fits (each_shape schema s items) row) e in
    (is_its_kind schema s item.0 v both.0, row_kinds schema s items row both.1)

row_given : (schema : Catalog) (s : Select) (items : List Item) (row : List Value) → pointwise fits (each_shape schema s items) row ≡ true → EachItem (IsGiven schema s) items row
row_given schema s [] [] e = tt
row_given schema s [] (v ∷ row) e = cc
row_given schema s (item ∷ items) [] e = cc
row_given schema s (item ∷ items) (v ∷ row) e =
    let both = and_parts (fits (shape_of_item schema s item.0) v) (pointwise fits (each_shape schema s items) row) e in
    (not_null (shape_of_item schema s item.0) v both.0, row_given schema s items row both.1)

-- what a test shows of each row
pub each_row : (P : List Value → Type 0) (test : List Value → Bool) → ((row : List Value) → test row ≡ true → P row) → (rows : List (List Value)) → list_all test rows ≡ true → AllByRecursion P rows
each_row P test shows [] e = tt
each_row P test shows (row ∷ rows) e =
    let both = and_parts (test row) (list_all test rows) e in
    (shows row both.0, each_row P test shows rows both.1)

-- rows that fit the shapes of its items are a select's
pub rows_answer : (schema : Catalog) (s : Select) (rows : List (List Value)) → all_fit (shapes_of schema s) rows ≡ true → AreAnswers schema s rows
rows_answer schema s rows fit =
    let test : List Value → Bool = λ row. pointwise fits (each_shape schema s s.items) row in (
      each_row (λ row. length row ≡ length s.items) test (row_wide schema s s.items) rows fit,
      each_row (EachItem (IsOfItsKind schema (scope_of s)) s.items) test (row_kinds schema s s.items) rows fit,
      each_row (EachItem (IsGiven schema s) s.items) test (row_given schema s s.items) rows fit,
    )

-- ---- a list made of another one

pub scope_more : {A B : Type 0} (f : A → B) (xs : List A) (i : ℕ) (d : A) (first : B) → i < length xs → first ∷ (map f (take i xs) ++ f (get_or xs i d) ∷ []) ≡ first ∷ map f (take (i + 1) xs)
scope_more f xs i d first h = ap (λ ys. first ∷ ys) (sym (map-append f (take i xs) (get_or xs i d ∷ [])) ∙ sym (ap (map f) (take_more xs i d h)))

pub map_more : {A B : Type 0} (f : A → B) (xs : List A) (i : ℕ) (d : A) → i < length xs → map f (take i xs) ++ f (get_or xs i d) ∷ [] ≡ map f (take (i + 1) xs)
map_more f xs i d h = ap (drop 1) (scope_more f xs i d (f d) h)

-- all tables of the sources
pub scope_end : (joins : List Joined) (i : ℕ) → length joins ≤ i → map (λ (j : Joined). j.origin.table) (take i joins) ≡ map (λ (source : Origin). source.table) (map (λ (j : Joined). j.origin) joins)
scope_end [] zero h = refl
scope_end [] (suc i) h = refl
scope_end (j ∷ joins) zero h = absurd (omega arith)
scope_end (j ∷ joins) (suc i) h = let less : length joins ≤ i = omega arith in ap (λ ts. j.origin.table ∷ ts) (scope_end joins i less)

-- ---- what the shape of a select's rows says

pub answers_wide : {E : Type 0} (schema : Catalog) (s : Select) (r : Result (List (List Value)) E) → IfOk r (AreAnswers schema s) → IfOk r (AreWide s)
answers_wide schema s (Ok rows) are = are.0
answers_wide schema s (Err e) are = tt

pub answers_of_items : {E : Type 0} (schema : Catalog) (s : Select) (r : Result (List (List Value)) E) → IfOk r (AreAnswers schema s) → IfOk r (AreOfItems schema s)
answers_of_items schema s (Ok rows) are = are.1
answers_of_items schema s (Err e) are = tt

pub answers_given : {E : Type 0} (schema : Catalog) (s : Select) (r : Result (List (List Value)) E) → IfOk r (AreAnswers schema s) → IfOk r (AreGiven schema s)
answers_given schema s (Ok rows) are = are.2
answers_given schema s (Err e) are = tt
