-- Where all tables of a main select are created, those of the query's own select are.
use Rattle.std.proofs.Common.{◌≡◌, ℕ, Bool, true, false, if◌then◌else◌, List, [], ◌∷◌, ◌++◌, map, Option, None, Some, Ok, Err, refl, sym, ap, subst, ◌∙◌, append_assoc}
use Rattle.std.specs.Option.{option_map}
use Rattle.std.proofs.lemmas.List.{map-append}
use Rattle.base_core.specs.declared.refusal.Refusal.TheVariants.{OperationalError}
use Rattle.expr_types.specs.declared.expr.Expr.{Expr}
use Rattle.expr_types.specs.declared.select.Joined.{Joined}
use Rattle.expr_types.specs.declared.select.Select.{Select}
use Rattle.sql_semantics.specs.Checked.{Checked}
use Rattle.sql_semantics.specs.Eval.{Tables}
use Rattle.sql_semantics.specs.Rows.{exists_tables, flat, is_created, named_where, require_created, tables_of}
use Rattle.load_columns.specs.declared.placing.SourceColumn.{SourceColumn}
use Rattle.load_selects.specs.Selects.{item_of}
use Rattle.main_selects.specs.Shifted.{shifted}
use Rattle.loading_laws.proofs.Wide.Forms.{under}
use Rattle.loading_laws.proofs.Wide.Levels.{tables_stay}

flat_append : (xs ys : List (List ℕ)) → flat (xs ++ ys) ≡ flat xs ++ flat ys
flat_append [] ys = refl
flat_append (x ∷ xs) ys = ap (λ (l : List ℕ). x ++ l) (flat_append xs ys) ∙ sym (append_assoc x (flat xs) (flat ys))

module _ (tables : Tables) where
  abbrev Created : List ℕ → Type 0
  Created ts = require_created tables ts ≡ Ok tt

  abbrev goes_on : ℕ → List ℕ → Bool → Checked (Unit {0})
  goes_on t ts b = if b then require_created tables ts else Err (OperationalError (record { 0 = t }))

  first_created : (t : ℕ) (ts : List ℕ) → Created (t ∷ ts) → (is_created tables t ≡ true) × Created ts
  first_created t ts h = by (is_created tables t) refl
    where
      by : (b : Bool) → is_created tables t ≡ b → (is_created tables t ≡ true) × Created ts
      by true is = (is, sym (ap (goes_on t ts) is) ∙ h)
      by false is = let refused : goes_on t ts false ≡ Ok tt = sym (ap (goes_on t ts) is) ∙ h in absurd cc

  created_first : (t : ℕ) (ts : List ℕ) → is_created tables t ≡ true → Created ts → Created (t ∷ ts)
  created_first t ts is h = ap (goes_on t ts) is ∙ h

  parts_created : (xs ys : List ℕ) → Created (xs ++ ys) → Created xs × Created ys
  parts_created [] ys h = (refl, h)
  parts_created (t ∷ xs) ys h =
      let one = first_created t (xs ++ ys) h in
      let rest = parts_created xs ys one.1 in
      (created_first t xs one.0 rest.0, rest.1)

  both_created : (xs ys : List ℕ) → Created xs → Created ys → Created (xs ++ ys)
  both_created [] ys h g = g
  both_created (t ∷ xs) ys h g = let one = first_created t xs h in created_first t (xs ++ ys) one.0 (both_created xs ys one.1 g)

  -- of lists that are made of others
  front_created : {A : Type 0} (f : A → List ℕ) (xs ys : List A) → Created (flat (map f (xs ++ ys))) → Created (flat (map f xs))
  front_created f xs ys h =
      (parts_created (flat (map f xs)) (flat (map f ys)) (subst Created (ap flat (map-append f xs ys) ∙ flat_append (map f xs) (map f ys)) h)).0

  abbrev order_tables : List (Expr × Bool) → List ℕ
  order_tables order = flat (map (λ (key : Expr × Bool). exists_tables key.0) order)

  order_stays : (own more : ℕ) (order : List (Expr × Bool)) → order_tables (map (λ (key : Expr × Bool). (shifted own more key.0, key.1)) order) ≡ order_tables order
  order_stays own more [] = refl
  order_stays own more (key ∷ order) =
      ap (λ (l : List ℕ). l ++ order_tables (map (λ (one : Expr × Bool). (shifted own more one.0, one.1)) order)) (tables_stay own more key.0)
      ∙ ap (λ (l : List ℕ). exists_tables key.0 ++ l) (order_stays own more order)

  filter_stays : (own more : ℕ) (filter : Option Expr) → named_where (option_map (shifted own more) filter) ≡ named_where filter
  filter_stays own more None = refl
  filter_stays own more (Some e) = tables_stay own more e

  module _ (s : Select) (joins : List Joined) (columns : List SourceColumn) (own more : ℕ) where
    abbrev item_tables : List (Expr × Option (List ℕ)) → List ℕ
    item_tables items = flat (map (λ (i : Expr × Option (List ℕ)). exists_tables i.0) items)

    abbrev join_tables : List Joined → List ℕ
    join_tables all = flat (map (λ (j : Joined). j.origin.table.0 ∷ exists_tables j.on) all)

    pub own_created : Created (tables_of (under s joins columns own more)) → Created (tables_of s)
    own_created there =
        let w : Select = under s joins columns own more in
        let i : List ℕ = item_tables w.items in
        let j : List ℕ = join_tables w.joins in
        let f : List ℕ = named_where w.filter in
        let g : List ℕ = flat (map exists_tables s.groups) in
        let v : List ℕ = named_where s.having in
        let o : List ℕ = order_tables w.order in
        let one = parts_created ((((i ++ s.first.table.0 ∷ j) ++ f) ++ g) ++ v) o there in
        let two = parts_created (((i ++ s.first.table.0 ∷ j) ++ f) ++ g) v one.0 in
        let three = parts_created ((i ++ s.first.table.0 ∷ j) ++ f) g two.0 in
        let four = parts_created (i ++ s.first.table.0 ∷ j) f three.0 in
        let five = parts_created i (s.first.table.0 ∷ j) four.0 in
        let first = first_created s.first.table.0 j five.1 in
        let items : Created (item_tables s.items) = front_created (λ (i : Expr × Option (List ℕ)). exists_tables i.0) s.items (map item_of columns) five.0 in
        let joined : Created (join_tables s.joins) = front_created (λ (j : Joined). j.origin.table.0 ∷ exists_tables j.on) s.joins joins first.1 in
        let filter : Created (named_where s.filter) = subst Created (filter_stays own more s.filter) four.1 in
        let order : Created (order_tables s.order) = subst Created (order_stays own more s.order) one.1 in
        both_created ((((item_tables s.items ++ s.first.table.0 ∷ join_tables s.joins) ++ named_where s.filter) ++ g) ++ v) (order_tables s.order)
        (both_created (((item_tables s.items ++ s.first.table.0 ∷ join_tables s.joins) ++ named_where s.filter) ++ g) v
        (both_created ((item_tables s.items ++ s.first.table.0 ∷ join_tables s.joins) ++ named_where s.filter) g
        (both_created (item_tables s.items ++ s.first.table.0 ∷ join_tables s.joins) (named_where s.filter)
        (both_created (item_tables s.items) (s.first.table.0 ∷ join_tables s.joins) items (created_first s.first.table.0 (join_tables s.joins) first.0 joined)) filter)
        three.1) two.1) order
