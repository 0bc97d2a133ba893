-- What stands under a place once edits of places that differ are done.
use Rattle.std.proofs.Common.{◌≡◌, ◌⊎◌, inl, inr, true, List, [], ◌∷◌, refl, ap, ◌∙◌, subst}
use Rattle.std.specs.List.{AllByRecursion, fold}
use Rattle.base_core.specs.declared.ids.TableId.{TableId}
use Rattle.schema_core.specs.Tables.{Tables, is_created, rows_in}
use Rattle.flush_order.specs.Sorted.{Place}
use Rattle.flush_plan.specs.Stating.{Edit, with_edit, row_at}
use Rattle.session_laws.specs.Plans.Premises.{IsSorted}
use Rattle.session_laws.proofs.Plans.At.{at_edit, at_other, edited_created, edited_sorted, place_cases}
use Rattle.session_laws.proofs.Plans.Items.{Member}
use Rattle.session_laws.proofs.Plans.Facts.{some_of}

-- the place is not edited
abbrev pub NoEdit : Place → List Edit → Type 0
NoEdit q edits = AllByRecursion (λ edit. edit.0 ≡ q → ⊥) edits

-- no place is edited twice
abbrev pub AreApart : List Edit → Type 0
AreApart [] = Unit {0}
AreApart (edit ∷ edits) = NoEdit edit.0 edits × AreApart edits

abbrev pub IsEdit : Edit → List Edit → Type 0
IsEdit edit edits = Member edit edits

pub fold_sorted : (tables : Tables) (edits : List Edit) → IsSorted tables → IsSorted (fold with_edit tables edits)
fold_sorted tables [] sorted = sorted
fold_sorted tables (edit ∷ edits) sorted = fold_sorted (with_edit tables edit) edits (edited_sorted tables edit sorted)

pub fold_created : (tables : Tables) (edits : List Edit) (table : TableId) → is_created (fold with_edit tables edits) table ≡ is_created tables table
fold_created tables [] table = refl
fold_created tables (edit ∷ edits) table = fold_created (with_edit tables edit) edits table ∙ edited_created tables edit table

pub not_edited : (tables : Tables) (edits : List Edit) (q : Place) → IsSorted tables → NoEdit q edits → row_at (fold with_edit tables edits) q ≡ row_at tables q
not_edited tables [] q sorted none = refl
not_edited tables (edit ∷ edits) q sorted none = not_edited (with_edit tables edit) edits q (edited_sorted tables edit sorted) none.1 ∙ at_other tables edit q sorted none.0

pub at_edits : (tables : Tables) (edits : List Edit) (edit : Edit) → IsSorted tables → is_created tables edit.0.0 ≡ true → AreApart edits → IsEdit edit edits → row_at (fold with_edit tables edits) edit.0 ≡ edit.1
at_edits tables [] edit sorted created apart is = absurd is
at_edits tables (first ∷ edits) edit sorted created apart (inl same) =
    let rows = some_of (rows_in tables edit.0.0) created in
    not_edited (with_edit tables first) edits edit.0 (edited_sorted tables first sorted) (subst (λ e. NoEdit e.0 edits) same apart.0)
    ∙ ap (λ e. row_at (with_edit tables e) edit.0) same
    ∙ at_edit tables edit rows.0 sorted rows.1
at_edits tables (first ∷ edits) edit sorted created apart (inr more) = at_edits (with_edit tables first) edits edit (edited_sorted tables first sorted) (edited_created tables first edit.0.0 ∙ created) apart.1 more

-- a place is edited, or it is not
pub edit_cases : (edits : List Edit) (q : Place) → ((edit : Edit) × IsEdit edit edits × (edit.0 ≡ q)) ⊎ NoEdit q edits
edit_cases [] q = inr tt
edit_cases (first ∷ edits) q =
    elim (place_cases first.0 q) [
      | inl here ↦ inl (first, inl refl, here)
      | inr apart ↦ elim (edit_cases edits q) [
        | inl found ↦ inl (found.0, inr found.1, found.2)
        | inr none ↦ inr (apart, none)
      ]
    ]
