-- Tests of the expressions of a statement, part by part.
use Rattle.std.proofs.Common.{◌≡◌, ℕ, Bool, true, false, ◌&&◌, List, ◌∷◌, ◌++◌, map, Option, Some, None, refl, ap, ◌∙◌}
use Rattle.std.proofs.lemmas.List.Folds.{list_all-append, list_all-map}
use Rattle.std.specs.List.{filter_map, list_all}
use Rattle.std.specs.Option.{option_to_list}
use Rattle.base_core.specs.declared.ids.ColumnNo.{ColumnNo}
use Rattle.expr_types.specs.declared.expr.Expr.{Expr}
use Rattle.expr_types.specs.declared.select.Joined.{Joined}
use Rattle.expr_types.specs.declared.select.Select.{Select}
use Rattle.sql_semantics.specs.Plain.{and_having, lacks_aggregate, outputs}
use Rattle.script_resolve.specs.Judging.{before_groups, under_sources}

pub before_groups_lack : (s : Select) → list_all lacks_aggregate (before_groups s)
    ≡ (list_all (λ join. lacks_aggregate join.on) s.joins && list_all lacks_aggregate (option_to_list s.filter) && list_all lacks_aggregate s.groups)
before_groups_lack s =
    let ons : List Expr = map (λ (join : Joined). join.on) s.joins in
    list_all-append lacks_aggregate (ons ++ option_to_list s.filter) s.groups
    ∙ ap (λ b. b && list_all lacks_aggregate s.groups) (list_all-append lacks_aggregate ons (option_to_list s.filter))
    ∙ ap (λ b. b && list_all lacks_aggregate (option_to_list s.filter) && list_all lacks_aggregate s.groups) (list_all-map lacks_aggregate (λ (join : Joined). join.on) s.joins)

and_alone : (b c : Bool) → (b && c) ≡ ((b && true) && c)
and_alone true c = refl
and_alone false c = refl

having_first : (p : Expr → Bool) (having : Option Expr) (es : List Expr) → list_all p (and_having having es) ≡ (list_all p (option_to_list having) && list_all p es)
having_first p None es = refl
having_first p (Some e) es = and_alone (p e) (list_all p es)

outputs_hold : (p : Expr → Bool) (s : Select) → list_all p (outputs s) ≡ (list_all (λ item. p item.0) s.items && list_all (λ key. p key.0) s.order)
outputs_hold p s =
    let items : List Expr = map (λ (item : Expr × Option (List ℕ)). item.0) s.items in
    let keys : List Expr = map (λ (key : Expr × Bool). key.0) s.order in
    list_all-append p items keys
    ∙ ap (λ b. b && list_all p keys) (list_all-map p (λ (item : Expr × Option (List ℕ)). item.0) s.items)
    ∙ ap (λ b. list_all (λ (item : Expr × Option (List ℕ)). p item.0) s.items && b) (list_all-map p (λ (key : Expr × Bool). key.0) s.order)

and_moved : (a b c d e : Bool) → ((a && b) && (c && (d && e))) ≡ (a && b && c && d && e)
and_moved true true c d e = and_last c d e
  where
    and_last : (c d e : Bool) → (c && (d && e)) ≡ (c && d && e)
    and_last true d e = refl
    and_last false d e = refl
and_moved true false c d e = refl
and_moved false b c d e = refl

pub under_sources_hold : (p : Expr → Bool) (s : Select) → list_all p (under_sources s)
    ≡ (list_all p (option_to_list s.filter) && list_all p s.groups && list_all p (option_to_list s.having) && list_all (λ item. p item.0) s.items && list_all (λ key. p key.0) s.order)
under_sources_hold p s =
    let rows : Bool = list_all p (option_to_list s.filter) && list_all p s.groups in
    list_all-append p (option_to_list s.filter ++ s.groups) (and_having s.having (outputs s))
    ∙ ap (λ b. b && list_all p (and_having s.having (outputs s))) (list_all-append p (option_to_list s.filter) s.groups)
    ∙ ap (λ b. rows && b) (having_first p s.having (outputs s) ∙ ap (λ b. list_all p (option_to_list s.having) && b) (outputs_hold p s))
    ∙ and_moved (list_all p (option_to_list s.filter)) (list_all p s.groups) (list_all p (option_to_list s.having)) (list_all (λ item. p item.0) s.items) (list_all (λ key. p key.0) s.order)

pub cell_first : (p : Expr → Bool) (cell : ColumnNo × Option Expr) (cells : List (ColumnNo × Option Expr))
    → list_all p (filter_map (λ cell. cell.1) (cell ∷ cells)) ≡ (list_all p (option_to_list cell.1) && list_all p (filter_map (λ cell. cell.1) cells))
cell_first p (c, None) cells = refl
cell_first p (c, Some e) cells = and_alone (p e) (list_all p (filter_map (λ (cell : ColumnNo × Option Expr). cell.1) cells))

pub bulk_parts : (p : Expr → Bool) (cells : List (ColumnNo × Option Expr)) (filter : Option Expr)
    → list_all p (filter_map (λ cell. cell.1) cells ++ option_to_list filter) ≡ (list_all p (filter_map (λ cell. cell.1) cells) && list_all p (option_to_list filter))
bulk_parts p cells filter = list_all-append p (filter_map (λ (cell : ColumnNo × Option Expr). cell.1) cells) (option_to_list filter)
