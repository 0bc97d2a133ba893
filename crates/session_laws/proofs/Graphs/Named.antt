-- Cells found by the names of their columns, and items found by their places.
use Rattle.std.proofs.Common.{◌≡◌, ◌⊎◌, inl, inr, ℕ, zero, suc, ◌+◌, Bool, true, false, cond, ◌&&◌, ◌||◌, List, [], ◌∷◌, ◌++◌, length, map, take, get_or, Option, None, Some, refl, sym, ap, ◌∙◌, arith}
use Rattle.std.proofs.lemmas.List.Quantifiers.{position-Some}
use Rattle.std.proofs.lemmas.List.Sums.{sum_by-cons}
use Rattle.std.proofs.lemmas.Option.{get_or_from_slice_get, same_Some, slice_get-get_or, slice_get_within}
use Rattle.std.specs.Prelude.{slice_get}
use Rattle.std.specs.Cmp.Lexicographic.{pointwise}
use Rattle.std.specs.List.{count_by, enumerate_from, filter, flat_map, list_all, list_any, position, range_with_len}
use Rattle.base_core.specs.declared.value.Value.TheVariants.{Null}
use Rattle.schema_core.specs.declared.changes.RowCell.{RowCell}
use Rattle.schema_core.specs.declared.changes.RowCell.TheVariants.{Given, KeyOf}
use Rattle.schema_core.specs.declared.table.ColumnSpec.{ColumnSpec}
use Rattle.schema_core.specs.Catalog.{same_name}
use Rattle.schema_core.specs.Declaration.{has_column, some_two}
use Rattle.schema_core.proofs.Names.{name_itself, same_names}
use Rattle.class_mapping.proofs.Having.{Has, has_at, none_of, true_false}
use Rattle.class_mapping.proofs.Lists.{and_left, and_right, or_left, or_right}
use Rattle.session_laws.specs.Plans.Laws.{cell_named, is_given}
use Rattle.session_laws.proofs.Projects.Passing.{some_found}

-- ---- places

-- two places whose items meet are one
pub two_places : {A : Type 0} (test : A → A → Bool) (xs : List A) (i j : ℕ) (x y : A) → some_two test xs ≡ false → slice_get xs i ≡ Some x → slice_get xs j ≡ Some y → test x y ≡ true → test y x ≡ true → i ≡ j
two_places test [] i j x y once e f a b = absurd (cc)
two_places test (z ∷ xs) zero zero x y once e f a b = refl
two_places test (z ∷ xs) zero (suc j) x y once e f a b =
    absurd (true_false (test y x) b (ap (test y) (sym (same_Some z x e)) ∙ none_of (λ later. test later z) xs y (or_left (list_any (λ later. test later z) xs) (some_two test xs) once) (has_at xs j y f)))
two_places test (z ∷ xs) (suc i) zero x y once e f a b =
    absurd (true_false (test x y) a (ap (test x) (sym (same_Some z y f)) ∙ none_of (λ later. test later z) xs x (or_left (list_any (λ later. test later z) xs) (some_two test xs) once) (has_at xs i x e)))
two_places test (z ∷ xs) (suc i) (suc j) x y once e f a b = ap suc (two_places test xs i j x y (or_right (list_any (λ later. test later z) xs) (some_two test xs) once) e f a b)

-- a name is found at its place
pub place_of_name : (names : List (List ℕ)) (i : ℕ) (name : List ℕ) → some_two same_name names ≡ false → slice_get names i ≡ Some name → position (λ own. same_name own name) names ≡ Some i
place_of_name names i name once at = by (position (λ own. same_name own name) names) refl
  where
    by : (found : Option ℕ) → position (λ own. same_name own name) names ≡ found → found ≡ Some i
    by None e = absurd (some_found (λ own. same_name own name) names i [] (slice_get_within names i name at) (ap (λ own. same_name own name) (get_or_from_slice_get names i name [] at) ∙ name_itself name) e)
    by (Some j) e =
        let f = position-Some (λ own. same_name own name) names j [] e in
        let same : get_or names j [] ≡ name = same_names (get_or names j []) name f.1 in
        ap (λ n. Some n) (two_places same_name names j i (get_or names j []) name once (slice_get-get_or names j [] f.0) at f.1 (ap (same_name name) same ∙ name_itself name))

pub get_left : {A : Type 0} (xs ys : List A) (k : ℕ) (z : A) → slice_get xs k ≡ Some z → slice_get (xs ++ ys) k ≡ Some z
get_left [] ys k z e = absurd (cc)
get_left (x ∷ xs) ys zero z e = e
get_left (x ∷ xs) ys (suc k) z e = get_left xs ys k z e

pub get_right : {A : Type 0} (xs ys : List A) (k : ℕ) (z : A) → slice_get ys k ≡ Some z → slice_get (xs ++ ys) (length xs + k) ≡ Some z
get_right [] ys k z e = let same : 0 + k ≡ k = omega arith in ap (slice_get ys) same ∙ e
get_right (x ∷ xs) ys k z e = let same : suc (length xs) + k ≡ suc (length xs + k) = omega arith in ap (slice_get (x ∷ (xs ++ ys))) same ∙ get_right xs ys k z e

get_either : {A : Type 0} (xs ys : List A) (p : ℕ) (y : A) → slice_get (xs ++ ys) p ≡ Some y → (slice_get xs p ≡ Some y) ⊎ ((k : ℕ) × (p ≡ length xs + k) × (slice_get ys k ≡ Some y))
get_either [] ys p y e = inr (p, omega arith, e)
get_either (x ∷ xs) ys zero y e = inl e
get_either (x ∷ xs) ys (suc p) y e = elim (get_either xs ys p y e) [
  | inl here ↦ inl here
  | inr there ↦ inr (there.0, omega (arith, there.1), there.2)
]

-- where an item of joined lists stands: in the list of one item, whose items stand one behind another
pub record IsInPiece {A B : Type 0} (f : A → List B) (xs : List A) (p : ℕ) (y : B) : Type 0 where
  pub item : A
  pub offset : ℕ
  pub rank : ℕ
  pub here : Has xs item
  pub at : p ≡ offset + rank
  pub is : slice_get (f item) rank ≡ Some y
  pub piece : (k : ℕ) (z : B) → slice_get (f item) k ≡ Some z → slice_get (flat_map f xs) (offset + k) ≡ Some z

piece_by : {A B : Type 0} (f : A → List B) (x : A) (xs : List A) (p : ℕ) (y : B) → ((k : ℕ) → slice_get (flat_map f xs) k ≡ Some y → IsInPiece f xs k y)
    → (slice_get (f x) p ≡ Some y) ⊎ ((k : ℕ) × (p ≡ length (f x) + k) × (slice_get (flat_map f xs) k ≡ Some y)) → IsInPiece f (x ∷ xs) p y
piece_by f x xs p y more (inl here) = record {
  item = x;
  offset = 0;
  rank = p;
  here = inl refl;
  at = omega arith;
  is = here;
  piece = λ k z is. let same : 0 + k ≡ k = omega arith in ap (slice_get (f x ++ flat_map f xs)) same ∙ get_left (f x) (flat_map f xs) k z is;
}
piece_by f x xs p y more (inr there) =
    let rest = more there.0 there.2 in
    record {
      item = rest.item;
      offset = length (f x) + rest.offset;
      rank = rest.rank;
      here = inr rest.here;
      at = omega (arith, there.1, rest.at);
      is = rest.is;
      piece = λ k z is.
          let same : length (f x) + rest.offset + k ≡ length (f x) + (rest.offset + k) = omega arith in
          ap (slice_get (f x ++ flat_map f xs)) same ∙ get_right (f x) (flat_map f xs) (rest.offset + k) z (rest.piece k z is);
    }

pub in_piece : {A B : Type 0} (f : A → List B) (xs : List A) (p : ℕ) (y : B) → slice_get (flat_map f xs) p ≡ Some y → IsInPiece f xs p y
in_piece f [] p y e = absurd (cc)
in_piece f (x ∷ xs) p y e = piece_by f x xs p y (λ k at. in_piece f xs k y at) (get_either (f x) (flat_map f xs) p y e)

-- where an item that passes stands among all, and how many before it pass
abbrev pub Placed : {A : Type 0} → (A → Bool) → List A → ℕ → A → Type 0
Placed test xs i x = (k : ℕ) × (slice_get xs k ≡ Some x) × (test x ≡ true) × (count_by test (take k xs) ≡ i)

counted : {A : Type 0} (test : A → Bool) (y : A) (xs : List A) (b : Bool) (k : ℕ) → test y ≡ b → count_by test (take (suc k) (y ∷ xs)) ≡ cond b (suc (count_by test (take k xs))) (count_by test (take k xs))
counted test y xs true k t =
    let more : 1 + count_by test (take k xs) ≡ suc (count_by test (take k xs)) = omega arith in
    sum_by-cons (λ x. cond (test x) 1 0) y (take k xs) ∙ ap (λ c. cond c 1 0 + count_by test (take k xs)) t ∙ more
counted test y xs false k t =
    let same : 0 + count_by test (take k xs) ≡ count_by test (take k xs) = omega arith in
    sum_by-cons (λ x. cond (test x) 1 0) y (take k xs) ∙ ap (λ c. cond c 1 0 + count_by test (take k xs)) t ∙ same

passed_by : {A : Type 0} (test : A → Bool) (y : A) (xs : List A) (i : ℕ) (x : A) (b : Bool) → test y ≡ b → ((n : ℕ) → slice_get (filter test xs) n ≡ Some x → Placed test xs n x)
    → slice_get (cond b (y ∷ filter test xs) (filter test xs)) i ≡ Some x → Placed test (y ∷ xs) i x
passed_by test y xs zero x true t more e = (0, e, ap test (sym (same_Some y x e)) ∙ t, refl)
passed_by test y xs (suc n) x true t more e = let rest = more n e in (suc rest.0, rest.1, rest.2, counted test y xs true rest.0 t ∙ ap suc rest.3)
passed_by test y xs i x false t more e = let rest = more i e in (suc rest.0, rest.1, rest.2, counted test y xs false rest.0 t ∙ rest.3)

pub filter_place : {A : Type 0} (test : A → Bool) (xs : List A) (i : ℕ) (x : A) → slice_get (filter test xs) i ≡ Some x → Placed test xs i x
filter_place test [] i x e = absurd (cc)
filter_place test (y ∷ xs) i x e = passed_by test y xs i x (test y) refl (λ n at. filter_place test xs n x at) e

-- what stands opposite
pub opposite : {A B : Type 0} (test : A → B → Bool) (xs : List A) (ys : List B) (i : ℕ) (x : A) → pointwise test xs ys ≡ true → slice_get xs i ≡ Some x → (y : B) × (slice_get ys i ≡ Some y) × (test x y ≡ true)
opposite test [] ys i x h e = absurd (cc)
opposite test (z ∷ xs) [] i x h e = absurd (cc)
opposite test (z ∷ xs) (y ∷ ys) zero x h e = (y, refl, ap (λ w. test w y) (sym (same_Some z x e)) ∙ and_left (test z y) (pointwise test xs ys) h)
opposite test (z ∷ xs) (y ∷ ys) (suc i) x h e = opposite test xs ys i x (and_right (test z y) (pointwise test xs ys) h) e

-- ---- cells

-- the cell in the column of a name is that column's
abbrev pub IsNamed : List ColumnSpec → ℕ → (ℕ × ColumnSpec → RowCell) → List ℕ → Type 0
IsNamed columns n f name = (placed : ℕ × ColumnSpec) × Has (enumerate_from n columns) placed × (placed.1.name ≡ name) × (cell_named columns (map f (enumerate_from n columns)) name ≡ f placed)

named_by : (column : ColumnSpec) (columns : List ColumnSpec) (n : ℕ) (f : ℕ × ColumnSpec → RowCell) (name : List ℕ) (b : Bool) → same_name column.name name ≡ b → (has_column columns name ≡ true → IsNamed columns (n + 1) f name)
    → (b || has_column columns name) ≡ true → IsNamed (column ∷ columns) n f name
named_by column columns n f name true e more h = ((n, column), inl refl, same_names column.name name e, ap (λ b. cond b (f (n, column)) (cell_named columns (map f (enumerate_from (n + 1) columns)) name)) e)
named_by column columns n f name false e more h =
    let rest = more h in
    (rest.0, inr rest.1, rest.2, ap (λ b. cond b (f (n, column)) (cell_named columns (map f (enumerate_from (n + 1) columns)) name)) e ∙ rest.3)

pub cell_of_name : (columns : List ColumnSpec) (n : ℕ) (f : ℕ × ColumnSpec → RowCell) (name : List ℕ) → has_column columns name ≡ true → IsNamed columns n f name
cell_of_name [] n f name h = absurd (cc)
cell_of_name (column ∷ columns) n f name h = named_by column columns n f name (same_name column.name name) refl (λ has. cell_of_name columns (n + 1) f name has) h

abbrev pub IsColumnNamed : List ColumnSpec → (ColumnSpec → RowCell) → List ℕ → Type 0
IsColumnNamed columns f name = (column : ColumnSpec) × (column.name ≡ name) × (cell_named columns (map f columns) name ≡ f column)

column_by : (column : ColumnSpec) (columns : List ColumnSpec) (f : ColumnSpec → RowCell) (name : List ℕ) (b : Bool) → same_name column.name name ≡ b → (has_column columns name ≡ true → IsColumnNamed columns f name)
    → (b || has_column columns name) ≡ true → IsColumnNamed (column ∷ columns) f name
column_by column columns f name true e more h = (column, same_names column.name name e, ap (λ b. cond b (f column) (cell_named columns (map f columns) name)) e)
column_by column columns f name false e more h =
    let rest = more h in
    (rest.0, rest.1, ap (λ b. cond b (f column) (cell_named columns (map f columns) name)) e ∙ rest.2)

pub cell_of_column : (columns : List ColumnSpec) (f : ColumnSpec → RowCell) (name : List ℕ) → has_column columns name ≡ true → IsColumnNamed columns f name
cell_of_column [] f name h = absurd (cc)
cell_of_column (column ∷ columns) f name h = column_by column columns f name (same_name column.name name) refl (λ has. cell_of_column columns f name has) h

map_by : (f : RowCell → RowCell) (b : Bool) (cell one other : RowCell) → one ≡ f other → cond b (f cell) one ≡ f (cond b cell other)
map_by f true cell one other e = refl
map_by f false cell one other e = e

-- what a map of cells that keeps NULL gives by name
pub named_of_map : (f : RowCell → RowCell) → f (Given Null) ≡ Given Null → (columns : List ColumnSpec) (cells : List RowCell) (name : List ℕ) → cell_named columns (map f cells) name ≡ f (cell_named columns cells name)
named_of_map f null [] cells name = sym null
named_of_map f null (column ∷ columns) [] name = sym null
named_of_map f null (column ∷ columns) (cell ∷ cells) name =
    map_by f (same_name column.name name) cell (cell_named columns (map f cells) name) (cell_named columns cells name) (named_of_map f null columns cells name)

-- cells that are the parts of a key, in order
pub parts_from : (q : ℕ) (g : List ℕ → RowCell) (names : List (List ℕ)) (n : ℕ) → ((i : ℕ) (name : List ℕ) → slice_get names i ≡ Some name → g name ≡ KeyOf q (n + i)) → map g names ≡ map (KeyOf q) (range_with_len n (length names))
parts_from q g [] n each = refl
parts_from q g (name ∷ names) n each =
    let here : n + 0 ≡ n = omega arith in
    let first : g name ≡ KeyOf q n = each 0 name refl ∙ ap (KeyOf q) here in
    ap (λ cell. cell ∷ map g names) first
    ∙ ap (λ (cells : List RowCell). KeyOf q n ∷ cells) (parts_from q g names (n + 1) (λ i other e. let next : n + suc i ≡ n + 1 + i = omega arith in each (suc i) other e ∙ ap (KeyOf q) next))

pub given_from : (g : List ℕ → RowCell) (names : List (List ℕ)) → ((i : ℕ) (name : List ℕ) → slice_get names i ≡ Some name → is_given (g name) ≡ true) → list_all is_given (map g names) ≡ true
given_from g [] each = refl
given_from g (name ∷ names) each = ap (λ b. b && list_all is_given (map g names)) (each 0 name refl) ∙ given_from g names (λ i other e. each (suc i) other e)
