-- Lists that are kept or mapped with what may be refused.
use Rattle.std.proofs.Common.{◌≡◌, Bool, true, false, List, [], ◌∷◌, ◌++◌, map, Option, Ok, Err, if◌then◌else◌, cond, refl, sym, ap, ◌∙◌, append_assoc, append-nil}
use Rattle.std.specs.Prelude.{filter}
use Rattle.std.specs.List.{AllByRecursion, flat_map}
use Rattle.base_core.specs.declared.ids.ColumnNo.{ColumnNo}
use Rattle.base_core.specs.declared.refusal.Refusal.{Refusal}
use Rattle.base_core.specs.declared.value.Value.{Value}
use Rattle.schema_core.specs.Tables.{Rows}
use Rattle.expr_types.specs.declared.expr.Expr.{Expr}
use Rattle.sql_semantics.specs.Checked.{Checked, ◌>>=◌}
use Rattle.sql_semantics.specs.Eval.{Row, Tables}
use Rattle.sql_semantics.specs.Rows.{each_from, kept_from, mapped_from}
use Rattle.sql_semantics.specs.Taken.{deleted_from, one_more, rewritten_row, takes, updated_from}
use Rattle.sql_semantics.specs.Truth.{passes}
use Rattle.table_laws.specs.Filters.{AllGive}

-- one more item, where it is kept
one_kept : {A : Type 0} (done : List A) (x : A) (rest : List A) (keep : Bool) → (if keep then done ++ x ∷ [] else done) ++ rest ≡ done ++ cond keep (x ∷ rest) rest
one_kept done x rest true = append_assoc done (x ∷ []) rest
one_kept done x rest false = refl

module _ {A : Type 0} (test : A → Checked Value) (value : A → Value) where
  abbrev Kept : List A → List A
  Kept xs = filter (λ (x : A). passes (value x)) xs

  pub kept_all : (done xs : List A) → AllGive test value xs → kept_from test done xs ≡ Ok (done ++ Kept xs)
  kept_all done [] all = ap (λ (ys : List A). Ok ys) (sym (append-nil done))
  kept_all done (x ∷ xs) all =
      ap (λ (r : Checked Value). r >>= λ v. kept_from test (if passes v then done ++ x ∷ [] else done) xs) all.0
      ∙ kept_all (if passes (value x) then done ++ x ∷ [] else done) xs all.1
      ∙ ap (λ (ys : List A). Ok ys) (one_kept done x (Kept xs) (passes (value x)))

  pub kept_until : (done before after : List A) (x : A) (e : Refusal) → AllGive test value before → test x ≡ Err e → kept_from test done (before ++ x ∷ after) ≡ Err e
  kept_until done [] after x e all is = ap (λ (r : Checked Value). r >>= λ v. kept_from test (if passes v then done ++ x ∷ [] else done) after) is
  kept_until done (y ∷ before) after x e all is =
      ap (λ (r : Checked Value). r >>= λ v. kept_from test (if passes v then done ++ y ∷ [] else done) (before ++ x ∷ after)) all.0
      ∙ kept_until (if passes (value y) then done ++ y ∷ [] else done) before after x e all.1 is

module _ {A B : Type 0} (f : A → Checked (List B)) (value : A → List B) where
  pub joined_all : (done : List B) (xs : List A) → AllGive f value xs → each_from f done xs ≡ Ok (done ++ flat_map value xs)
  joined_all done [] all = ap (λ (ys : List B). Ok ys) (sym (append-nil done))
  joined_all done (x ∷ xs) all =
      ap (λ (r : Checked (List B)). r >>= λ ys. each_from f (done ++ ys) xs) all.0
      ∙ joined_all (done ++ value x) xs all.1
      ∙ ap (λ (ys : List B). Ok ys) (append_assoc done (value x) (flat_map value xs))

module _ {A B : Type 0} (f : A → Checked B) (value : A → B) where
  pub mapped_all : (done : List B) (xs : List A) → AllGive f value xs → mapped_from f done xs ≡ Ok (done ++ map value xs)
  mapped_all done [] all = ap (λ (ys : List B). Ok ys) (sym (append-nil done))
  mapped_all done (x ∷ xs) all =
      ap (λ (r : Checked B). r >>= λ y. mapped_from f (done ++ y ∷ []) xs) all.0
      ∙ mapped_all (done ++ value x ∷ []) xs all.1
      ∙ ap (λ (ys : List B). Ok ys) (append_assoc done (value x ∷ []) (map value xs))

-- ---- bulk statements

module _ (tables : Tables) (condition : Option Expr) (taken : Row → Bool) where
  abbrev Entry : Type 0
  Entry = List Value × Row

  abbrev AllTaken : Rows → Type 0
  AllTaken rows = AllGive (λ (entry : Entry). takes tables condition entry.1) (λ (entry : Entry). taken entry.1) rows

  abbrev Taken : Rows → Rows
  Taken rows = filter (λ (entry : Entry). taken entry.1) rows

  -- the key of a row, where it is taken
  one_deleted : (done : List (List Value)) (entry : Entry) (rows : Rows) (take : Bool) → (if take then done ++ entry.0 ∷ [] else done) ++ map (λ (e : Entry). e.0) rows ≡ done ++ map (λ (e : Entry). e.0) (cond take (entry ∷ rows) rows)
  one_deleted done entry rows true = append_assoc done (entry.0 ∷ []) (map (λ (e : Entry). e.0) rows)
  one_deleted done entry rows false = refl

  pub deleted_all : (done : List (List Value)) (rows : Rows) → AllTaken rows → deleted_from tables condition done rows ≡ Ok (done ++ map (λ (entry : Entry). entry.0) (Taken rows))
  deleted_all done [] all = ap (λ (ys : List (List Value)). Ok ys) (sym (append-nil done))
  deleted_all done (entry ∷ rows) all =
      ap (λ (r : Checked Bool). r >>= λ take. deleted_from tables condition (if take then done ++ entry.0 ∷ [] else done) rows) all.0
      ∙ deleted_all (if taken entry.1 then done ++ entry.0 ∷ [] else done) rows all.1
      ∙ ap (λ (ys : List (List Value)). Ok ys) (one_deleted done entry (Taken rows) (taken entry.1))

  module _ (cells : List (ColumnNo × Option Expr)) (rewritten : Row → Row) where
    abbrev AllRewritten : Rows → Type 0
    AllRewritten rows = AllByRecursion (λ (entry : Entry). taken entry.1 ≡ true → rewritten_row tables cells entry.1 ≡ Ok (rewritten entry.1)) rows

    abbrev new_entry : Entry → Entry
    new_entry entry = (entry.0, rewritten entry.1)

    -- a row is rewritten, where it is taken
    one_updated : (done : Rows) (entry : Entry) (take : Bool) → (take ≡ true → rewritten_row tables cells entry.1 ≡ Ok (rewritten entry.1)) → one_more tables cells done entry take ≡ Ok (if take then done ++ new_entry entry ∷ [] else done)
    one_updated done entry true gives = ap (λ (r : Checked Row). r >>= λ row. Ok (done ++ (entry.0, row) ∷ [])) (gives refl)
    one_updated done entry false gives = refl

    one_put : (done : Rows) (entry : Entry) (rows : Rows) (take : Bool) → (if take then done ++ new_entry entry ∷ [] else done) ++ map new_entry rows ≡ done ++ map new_entry (cond take (entry ∷ rows) rows)
    one_put done entry rows true = append_assoc done (new_entry entry ∷ []) (map new_entry rows)
    one_put done entry rows false = refl

    pub updated_all : (done rows : Rows) → AllTaken rows → AllRewritten rows → updated_from tables cells condition done rows ≡ Ok (done ++ map new_entry (Taken rows))
    updated_all done [] all each = ap (λ (ys : Rows). Ok ys) (sym (append-nil done))
    updated_all done (entry ∷ rows) all each =
        ap (λ (r : Checked Bool). r >>= λ take. one_more tables cells done entry take >>= λ more. updated_from tables cells condition more rows) all.0
        ∙ ap (λ (r : Checked Rows). r >>= λ more. updated_from tables cells condition more rows) (one_updated done entry (taken entry.1) each.0)
        ∙ updated_all (if taken entry.1 then done ++ new_entry entry ∷ [] else done) rows all.1 each.1
        ∙ ap (λ (ys : Rows). Ok ys) (one_put done entry (Taken rows) (taken entry.1))
