-- The row that an INSERT writes: what is written late is NULL in it, and it lacks nothing.
use Rattle.std.proofs.Common.{◌≡◌, ℕ, ℤ, Bool, true, false, not, cond, ◌&&◌, ◌||◌, List, [], ◌∷◌, map, Option, None, Some, refl, sym, ap, ◌∙◌, subst}
use Rattle.std.specs.List.{AllByRecursion}
use Rattle.base_core.specs.declared.value.Value.{Value}
use Rattle.base_core.specs.declared.value.Value.TheVariants.{Null, Int}
use Rattle.schema_core.specs.declared.changes.RowCell.{RowCell}
use Rattle.schema_core.specs.declared.changes.RowCell.TheVariants.{Given}
use Rattle.schema_core.specs.declared.table.ColumnSpec.{ColumnSpec}
use Rattle.schema_core.specs.declared.table.TableSpec.{TableSpec}
use Rattle.schema_core.specs.Apply.{is_demanded, next_key, wants_key, with_key, with_own_key}
use Rattle.schema_core.specs.Judged.{lacks_value}
use Rattle.session_laws.proofs.Plans.Drawn.{drawn_under}
use Rattle.schema_core.specs.Catalog.{has_generated_key, is_required}
use Rattle.schema_core.specs.Tables.{Rows, has_null, is_legal_row, is_null, key_of}
use Rattle.table_laws.proofs.RowFits.{and_true}
use Rattle.flush_order.specs.Cells.{cells_cleared}
use Rattle.flush_plan.specs.Flushing.{Keys, value_of_cell}
use Rattle.flush_plan.specs.Stating.{blend}
use Rattle.session_laws.proofs.Plans.Blend.{Long, legal_lacks_none, nulls, test}
use Rattle.session_laws.proofs.Plans.Facts.{none_some, or_false, same_some, true_false}

module _ (late : List ℕ → Bool) where
  -- NULL in each column that is written late
  abbrev pub NullLate : List ColumnSpec → List Value → Type 0
  NullLate [] row = Unit {0}
  NullLate (c ∷ cs) [] = Unit {0}
  NullLate (c ∷ cs) (v ∷ row) = (late c.name ≡ true → v ≡ Null) × NullLate cs row

  put_cleared : (keys : Keys) (t : Bool) (cell : RowCell) → t ≡ true → value_of_cell keys (cond t (Given Null) cell) ≡ Null
  put_cleared keys true cell e = refl
  put_cleared keys false cell e = absurd (true_false (sym e))

  pub null_first : (keys : Keys) (cs : List ColumnSpec) (cells : List RowCell) → NullLate cs (map (value_of_cell keys) (cells_cleared (test late) (Given Null) cs cells))
  null_first keys [] cells = tt
  null_first keys (c ∷ cs) [] = tt
  null_first keys (c ∷ cs) (cell ∷ cells) = (put_cleared keys (late c.name) cell, null_first keys cs cells)

  null_step : (k : Bool) (key v : Value) (t : Bool) → (t ≡ true → k ≡ false) → (t ≡ true → v ≡ Null) → t ≡ true → cond k key v ≡ Null
  null_step true key v t free null e = absurd (true_false (free e))
  null_step false key v t free null e = null e

  pub null_keyed : (cs : List ColumnSpec) (key : Value) (row : List Value) → AllByRecursion (λ c. late c.name ≡ true → c.key ≡ false) cs → NullLate cs row → NullLate cs (with_key cs key row)
  null_keyed [] key row free null = tt
  null_keyed (c ∷ cs) key [] free null = tt
  null_keyed (c ∷ cs) key (v ∷ row) free null = (null_step c.key key v (late c.name) free.0 null.0, null_keyed cs key row free.1 null.1)

  blend_step : (t : Bool) (v : Value) → (t ≡ true → v ≡ Null) → v ≡ cond t Null v
  blend_step true v null = null refl
  blend_step false v null = refl

  pub null_blend : (cs : List ColumnSpec) (row : List Value) → Long cs row → NullLate cs row → row ≡ blend (test late) cs row (nulls cs)
  null_blend [] [] long null = refl
  null_blend [] (v ∷ row) long null = absurd long
  null_blend (c ∷ cs) [] long null = refl
  null_blend (c ∷ cs) (v ∷ row) long null = λ i. blend_step (late c.name) v null.0 i ∷ null_blend cs row long null.1 i

  -- ---- a row as it is drawn

  under_null : (spec : TableSpec) (row placed : List Value) (key : Option ℤ) → AllByRecursion (λ c. late c.name ≡ true → c.key ≡ false) spec.columns → NullLate spec.columns row → drawn_under spec row key ≡ Some placed → NullLate spec.columns placed
  under_null spec row placed None free null e = absurd (none_some placed e)
  under_null spec row placed (Some n) free null e = subst (NullLate spec.columns) (same_some (with_key spec.columns (Int n) row) placed e) (null_keyed spec.columns (Int n) row free null)

  drawn_by : (spec : TableSpec) (rows : Rows) (row placed : List Value) (b : Bool) → AllByRecursion (λ c. late c.name ≡ true → c.key ≡ false) spec.columns → NullLate spec.columns row → cond b (drawn_under spec row (next_key rows)) (Some row) ≡ Some placed → NullLate spec.columns placed
  drawn_by spec rows row placed true free null e = under_null spec row placed (next_key rows) free null e
  drawn_by spec rows row placed false free null e = subst (NullLate spec.columns) (same_some row placed e) null

  pub drawn_null : (spec : TableSpec) (rows : Rows) (row placed : List Value) → AllByRecursion (λ c. late c.name ≡ true → c.key ≡ false) spec.columns → NullLate spec.columns row → with_own_key spec rows row ≡ Some placed → NullLate spec.columns placed
  drawn_null spec rows row placed free null e = drawn_by spec rows row placed (wants_key spec row) free null e

-- ---- nothing is lacked

less_step : (r k g n : Bool) → (r && n) ≡ false → ((r && not (k && g)) && n) ≡ false
less_step true true true n e = refl
less_step true true false n e = e
less_step true false g n e = e
less_step false k g n e = refl

fewer_demands : (g : Bool) (cs : List ColumnSpec) (row : List Value) → lacks_value is_required cs row ≡ false → lacks_value (λ c. is_required c && not (c.key && g)) cs row ≡ false
fewer_demands g [] row e = refl
fewer_demands g (c ∷ cs) [] e = refl
fewer_demands g (c ∷ cs) (v ∷ row) e =
    let both = or_false (is_required c && is_null v) (lacks_value is_required cs row) e in
    ap (λ b. b || lacks_value (λ d. is_required d && not (d.key && g)) cs row) (less_step (is_required c) c.key g (is_null v) both.0) ∙ fewer_demands g cs row both.1

keyed_step : (r k : Bool) (key v : Value) → (r && is_null (cond k key v)) ≡ false → ((r && not (k && true)) && is_null v) ≡ false
keyed_step true true key v e = refl
keyed_step true false key v e = e
keyed_step false k key v e = refl

keyed_lacks : (cs : List ColumnSpec) (key : Value) (row : List Value) → lacks_value is_required cs (with_key cs key row) ≡ false → lacks_value (λ c. is_required c && not (c.key && true)) cs row ≡ false
keyed_lacks [] key row e = refl
keyed_lacks (c ∷ cs) key [] e = refl
keyed_lacks (c ∷ cs) key (v ∷ row) e =
    let both = or_false (is_required c && is_null (cond c.key key v)) (lacks_value is_required cs (with_key cs key row)) e in
    ap (λ b. b || lacks_value (λ d. is_required d && not (d.key && true)) cs row) (keyed_step (is_required c) c.key key v both.0) ∙ keyed_lacks cs key row both.1

under_whole : (spec : TableSpec) (row placed : List Value) (key : Option ℤ) → has_generated_key spec ≡ true → is_legal_row spec placed ≡ true → drawn_under spec row key ≡ Some placed → lacks_value (is_demanded spec) spec.columns row ≡ false
under_whole spec row placed None g legal e = absurd (none_some placed e)
under_whole spec row placed (Some n) g legal e =
    ap (λ b. lacks_value (λ c. is_required c && not (c.key && b)) spec.columns row) g
    ∙ keyed_lacks spec.columns (Int n) row (legal_lacks_none spec.columns (with_key spec.columns (Int n) row) (ap (is_legal_row spec) (same_some (with_key spec.columns (Int n) row) placed e) ∙ legal))

whole_by : (spec : TableSpec) (rows : Rows) (row placed : List Value) (b : Bool) → wants_key spec row ≡ b → is_legal_row spec placed ≡ true → cond b (drawn_under spec row (next_key rows)) (Some row) ≡ Some placed → lacks_value (is_demanded spec) spec.columns row ≡ false
whole_by spec rows row placed true wants legal e = under_whole spec row placed (next_key rows) (and_true (has_generated_key spec) (has_null (key_of spec row)) wants).0 legal e
whole_by spec rows row placed false wants legal e = fewer_demands (has_generated_key spec) spec.columns row (legal_lacks_none spec.columns row (ap (is_legal_row spec) (same_some row placed e) ∙ legal))

pub drawn_whole : (spec : TableSpec) (rows : Rows) (row placed : List Value) → is_legal_row spec placed ≡ true → with_own_key spec rows row ≡ Some placed → lacks_value (is_demanded spec) spec.columns row ≡ false
drawn_whole spec rows row placed legal e = whole_by spec rows row placed (wants_key spec row) refl legal e
