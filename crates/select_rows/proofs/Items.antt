-- What the value of each item of a plain select has, each row of the select has.
use Rattle.std.proofs.Common.{◌≡◌, ℕ, suc, Bool, true, false, List, [], ◌∷◌, ◌++◌, length, map, Option, Some, None, Result, IfOk, refl, sym, ap, subst, ◌∙◌, append_assoc, append-nil}
use Rattle.std.proofs.lemmas.Bool.{and_parts}
use Rattle.std.specs.List.{list_all, AllByRecursion}
use Rattle.base_core.specs.declared.value.Value.{Value}
use Rattle.base_core.specs.declared.refusal.Refusal.{Refusal}
use Rattle.schema_core.specs.declared.table.ColumnSpec.{ColumnSpec}
use Rattle.schema_core.specs.Catalog.{Catalog}
use Rattle.expr_types.specs.declared.expr.Expr.{Expr}
use Rattle.expr_types.specs.declared.expr.Origin.{Origin}
use Rattle.expr_types.specs.declared.select.Select.{Select}
use Rattle.sql_semantics.specs.Plain.{IsPlainSelect, StandsIn, and_having, is_grouped, outputs, is_well_grouped, sources_of}
use Rattle.base_core.specs.Answers.{Gives}
use Rattle.sql_semantics.specs.Checked.{◌>>=◌}
use Rattle.sql_semantics.specs.Eval.{Row, Tables, Place, meaning_of, all_from}
use Rattle.sql_semantics.specs.declared.basis.Basis.{Basis}
use Rattle.sql_semantics.specs.declared.basis.Basis.TheVariants as basis
use Rattle.sql_semantics.specs.Rows.{Frame, answer, at_basis, require_created, of_rows, rows_where, sources, tables_of, values}
use Rattle.sql_semantics.specs.Shapes.{EachItem, scope_of}
use Rattle.select_sources.proofs.Columns.{AreRead, AreTested, Columns, Fits, Holds, HoldsNulls, Property, passed_sure, sources_sure}
use Rattle.select_sources.proofs.Sure.{Sure, always, bind_sure, sure_all}
use Rattle.select_rows.proofs.Shapes.{OfBasis, of_rows_sure, sure_told}

abbrev Item : Type 0
Item = Expr × Option (List ℕ)

-- what was found so far, and values for the items
record Found (I : Expr → Value → Type 0) (done : Row) (items : List Item) (vs : Row) : Type 0 where
  more : Row
  whole : vs ≡ done ++ more
  each : EachItem I items more

-- an expression that stands for all rows may read no column of its own
abbrev pub Settled : Select → Bool → Expr → Type 0
Settled s blind e = blind ≡ true → is_well_grouped true [] (length (scope_of s)) e ≡ true

abbrev AllSettled : Select → Bool → List Item → Type 0
AllSettled s blind items = AllByRecursion (λ item. Settled s blind item.0) items

-- ---- one group of all rows, which may be none

clear : (s : Select) (items : List Item) → AllSettled s false items
clear s [] = tt
clear s (item ∷ items) = (λ e. absurd (cc), clear s items)

items_settled : (s : Select) (b : Bool) (items : List Item) (more : List Expr) → list_all (is_well_grouped true [] (length (scope_of s))) (map (λ (i : Item). i.0) items ++ more) ≡ true → AllSettled s b items
items_settled s b [] more h = tt
items_settled s b (item ∷ items) more h =
    let own : ℕ = length (scope_of s) in
    let both = and_parts (is_well_grouped true [] own item.0) (list_all (is_well_grouped true [] own) (map (λ (i : Item). i.0) items ++ more)) h in (λ _. both.0, items_settled s b items more both.1)

without_having : (test : Expr → Bool) (o : Option Expr) (es : List Expr) → list_all test (and_having o es) ≡ true → list_all test es ≡ true
without_having test None es h = h
without_having test (Some e) es h = (and_parts (test e) (list_all test es) h).1

same_length : (os : List Origin) → length (map (λ (o : Origin). o.table) os) ≡ length os
same_length [] = refl
same_length (o ∷ os) = ap suc (same_length os)

blind_settled : (schema : Catalog) (s : Select) → IsPlainSelect schema s → is_grouped s ≡ true → s.groups ≡ [] → AllSettled s true s.items
blind_settled schema s plain grouped none =
    let all : list_all (is_well_grouped true [] (length (sources_of s))) (outputs s) ≡ true =
    subst (λ (es : List Expr). list_all (is_well_grouped true es (length (sources_of s))) (outputs s) ≡ true) none
    (subst (λ (b : Bool). list_all (is_well_grouped b s.groups (length (sources_of s))) (outputs s) ≡ true) grouped (without_having (is_well_grouped (is_grouped s) s.groups (length (sources_of s))) s.having (outputs s) plain.grouped_columns)) in
    items_settled s true s.items (map (λ (k : Expr × Bool). k.0) s.order) (subst (λ n. list_all (is_well_grouped true [] n) (outputs s) ≡ true) (sym (same_length (sources_of s))) all)

-- ---- the values of the items

-- What a value of an expression has at a place in which columns read what has the property.
abbrev pub Reads : Property → (Expr → Value → Type 0) → Catalog → Select → Type 0
Reads P I schema s = (e : Expr) (p : Place) (blind : Bool) → Fits P schema (scope_of s) p blind → StandsIn schema (sources_of s) e → Settled s blind e → Sure (I e) (meaning_of e p)

module _ (P : Property) (I : Expr → Value → Type 0) (schema : Catalog) (s : Select) (plain : IsPlainSelect schema s) (reads : Reads P I schema s) where
  items_sure : (p : Place) (blind : Bool) → Fits P schema (scope_of s) p blind → (items : List Item) → AllByRecursion (λ (item : Item). StandsIn schema (sources_of s) item.0) items → AllSettled s blind items → (done : Row)
      → Sure (Found I done items) (all_from p done (map (λ (i : Item). meaning_of i.0) items))
  items_sure p blind h [] a b done = record { more = []; whole = sym (append-nil done); each = tt }
  items_sure p blind h (item ∷ items) a b done =
      bind_sure (I item.0) (Found I done (item ∷ items)) (meaning_of item.0 p) (λ v. all_from p (done ++ v ∷ []) (map (λ (i : Item). meaning_of i.0) items)) (reads item.0 p blind h a.0 b.0)
      (λ v g. sure_all (Found I (done ++ v ∷ []) items) (Found I done (item ∷ items)) (all_from p (done ++ v ∷ []) (map (λ (i : Item). meaning_of i.0) items)) (items_sure p blind h items a.1 b.1 (done ++ v ∷ []))
      (λ vs f. record { more = v ∷ f.more; whole = f.whole ∙ append_assoc done (v ∷ []) f.more; each = (g, f.each) }))

  values_sure : (p : Place) (blind : Bool) → Fits P schema (scope_of s) p blind → AllSettled s blind s.items → Sure (EachItem I s.items) (values p s)
  values_sure p blind h b =
      sure_all (Found I [] s.items) (EachItem I s.items) (values p s) (items_sure p blind h s.items plain.items_stand b []) (λ vs f. subst (EachItem I s.items) (sym f.whole) f.each)

  group_sure : (f : Frame) (rows : List Row) (es : List Expr) → s.groups ≡ es → OfBasis (Columns P schema (scope_of s) f.starts) (is_grouped s) es (basis.Group rows) → Sure (EachItem I s.items) (values (at_basis f (basis.Group rows)) s)
  group_sure f rows [] none h = values_sure (at_basis f (basis.Group rows)) true (record { columns = λ e. absurd (cc); members = h.1 }) (blind_settled schema s plain h.0 none)
  group_sure f rows (e ∷ es) some h = values_sure (at_basis f (basis.Group rows)) false (record { columns = λ _. h.2; members = h.1 }) (clear s s.items)

  basis_sure : (f : Frame) (b : Basis) → OfBasis (Columns P schema (scope_of s) f.starts) (is_grouped s) s.groups b → Sure (EachItem I s.items) (values (at_basis f b) s)
  basis_sure f (basis.Row r) h = values_sure (at_basis f (basis.Row r)) false (record { columns = λ _. h; members = tt }) (clear s s.items)
  basis_sure f (basis.Group rows) h = group_sure f rows s.groups refl h

  -- ---- the whole

  answer_sure : (tables : Tables) → Sure (AreRead P schema (scope_of s)) (sources schema tables s) → Sure (AllByRecursion (EachItem I s.items)) (answer schema tables s)
  unfolding answer
  answer_sure tables h =
      let R : List Row → Type 0 = AllByRecursion (EachItem I s.items) in
      bind_sure (λ _. Unit {0}) R (require_created tables (tables_of s)) (λ _. sources schema tables s >>= λ from. rows_where from.0 s.filter from.1 >>= λ rows. of_rows from.0 s rows) (always (require_created tables (tables_of s)))
      (λ _ _. bind_sure (AreRead P schema (scope_of s)) R (sources schema tables s) (λ from. rows_where from.0 s.filter from.1 >>= λ rows. of_rows from.0 s rows) h
      (λ from g. bind_sure (AllByRecursion (Columns P schema (scope_of s) from.0.starts)) R (rows_where from.0 s.filter from.1) (λ rows. of_rows from.0 s rows) (passed_sure (Columns P schema (scope_of s) from.0.starts) from.0 s.filter from.1 g)
      (λ rows l. of_rows_sure (Columns P schema (scope_of s) from.0.starts) (EachItem I s.items) from.0 s rows l (λ b k. basis_sure from.0 b k))))

  -- the rows of a plain select have what the values of its items have, over tables whose rows pass a test
  pub rows_sure : (test : ColumnSpec → Value → Bool) → Holds P test → HoldsNulls P 1 s.joins → (tables : Tables) → AreTested test schema tables → (r : Result (List Row) Refusal) → Gives (λ (x : List Row). x) r (answer schema tables s)
      → IfOk r (λ rows. AllByRecursion (EachItem I s.items) rows)
  rows_sure test holds nulls tables a r g = sure_told (λ (x : List Row). x) (AllByRecursion (EachItem I s.items)) r (answer schema tables s) g (answer_sure tables (sources_sure P test holds schema tables s nulls a))
