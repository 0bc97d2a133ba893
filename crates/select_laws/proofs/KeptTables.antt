-- The normal form of a select names the same tables, in the same order.
use Rattle.std.proofs.Common.{◌≡◌, ℕ, List, [], ◌∷◌, ◌++◌, map, Option, Some, None, refl, sym, ap, ◌∙◌, append_assoc, append-nil}
use Rattle.select_rows.proofs.Declared.{named_step}
use Rattle.expr_types.specs.declared.expr.Expr.{Expr}
use Rattle.expr_types.specs.declared.select.Joined.{Joined}
use Rattle.expr_types.specs.declared.select.Select.{Select}
use Rattle.expr_types.specs.Normal.{normal}
use Rattle.expr_types.specs.NormalSelect.{normal_join, normal_select, normal_where}
use Rattle.sql_semantics.specs.Rows.{flat, exists_tables, named_where, tables_of}
use Rattle.select_laws.proofs.KeptFolds.{Keeps, kept}

flat_append : (xs ys : List (List ℕ)) → flat (xs ++ ys) ≡ flat xs ++ flat ys
flat_append [] ys = refl
flat_append (x ∷ xs) ys = ap (λ l. x ++ l) (flat_append xs ys) ∙ sym (append_assoc x (flat xs) (flat ys))

flat_flat : (xs ys zs : List (List ℕ)) → flat (xs ++ flat ys ∷ zs) ≡ flat (xs ++ ys ++ zs)
flat_flat [] ys zs = sym (flat_append ys zs)
flat_flat (x ∷ xs) ys zs = ap (λ l. x ++ l) (flat_flat xs ys zs)

pair : (a b : List ℕ) → (a ++ (b ++ [])) ≡ ((a ++ []) ++ ((b ++ []) ++ []))
pair a b = ap (λ l. a ++ l) (sym (append-nil (b ++ []))) ∙ ap (λ l. l ++ ((b ++ []) ++ [])) (sym (append-nil a))

tables_keep : Keeps (List ℕ) named_step
tables_keep = record {
  ands = flat_flat;
  ors = flat_flat;
  nots = λ a. append-nil (a ++ []) ∙ append-nil a;
  compares = λ op a b. sym (append-nil (a ++ (b ++ [])));
  nulls = λ g a. sym (append-nil (a ++ []));
  likes = λ g a b. sym (append-nil (a ++ (b ++ [])));
  ilikes = λ g a b. sym (append-nil (a ++ (b ++ [])));
  lists = λ g a vs. sym (append-nil (a ++ []));
  ranges = λ g a low high. sym (append-nil (a ++ (low ++ (high ++ []))));
  distincts = λ g a b. sym (append-nil (a ++ (b ++ [])));
  exist = λ g o a. sym (append-nil (o.table.0 ∷ (a ++ [])));
  lowers = λ g a b. pair a b;
}

named_kept : (e : Expr) → exists_tables (normal e) ≡ exists_tables e
unfolding exists_tables
named_kept e = kept (List ℕ) named_step tables_keep e

where_kept : (o : Option Expr) → named_where (normal_where o) ≡ named_where o
where_kept None = refl
where_kept (Some e) = named_kept e

each_kept : {A : Type 0} (xs : List (Expr × A)) → flat (map (λ (x : Expr × A). exists_tables x.0) (map (λ (x : Expr × A). (normal x.0, x.1)) xs)) ≡ flat (map (λ (x : Expr × A). exists_tables x.0) xs)
each_kept [] = refl
each_kept {A} (x ∷ xs) =
    ap (λ l. l ++ flat (map (λ (y : Expr × A). exists_tables y.0) (map (λ (y : Expr × A). (normal y.0, y.1)) xs))) (named_kept x.0) ∙ ap (λ l. exists_tables x.0 ++ l) (each_kept xs)

groups_kept : (es : List Expr) → flat (map exists_tables (map normal es)) ≡ flat (map exists_tables es)
groups_kept [] = refl
groups_kept (e ∷ es) = ap (λ l. l ++ flat (map exists_tables (map normal es))) (named_kept e) ∙ ap (λ l. exists_tables e ++ l) (groups_kept es)

joins_kept : (js : List Joined) → flat (map (λ (j : Joined). j.origin.table.0 ∷ exists_tables j.on) (map normal_join js)) ≡ flat (map (λ (j : Joined). j.origin.table.0 ∷ exists_tables j.on) js)
joins_kept [] = refl
joins_kept (j ∷ js) =
    ap (λ l. (j.origin.table.0 ∷ l) ++ flat (map (λ (k : Joined). k.origin.table.0 ∷ exists_tables k.on) (map normal_join js))) (named_kept j.on)
    ∙ ap (λ l. (j.origin.table.0 ∷ exists_tables j.on) ++ l) (joins_kept js)

abbrev listed : ℕ → List ℕ → List ℕ → List ℕ → List ℕ → List ℕ → List ℕ → List ℕ
listed first items joins filter groups having order = items ++ first ∷ joins ++ filter ++ groups ++ having ++ order

listed_same : (t : ℕ) (a b c d e f a' b' c' d' e' f' : List ℕ) → a ≡ a' → b ≡ b' → c ≡ c' → d ≡ d' → e ≡ e' → f ≡ f' → listed t a b c d e f ≡ listed t a' b' c' d' e' f'
listed_same t a b c d e f a' b' c' d' e' f' ha hb hc hd he hf =
    ap (λ l. listed t l b c d e f) ha ∙ ap (λ l. listed t a' l c d e f) hb ∙ ap (λ l. listed t a' b' l d e f) hc ∙ ap (λ l. listed t a' b' c' l e f) hd
    ∙ ap (λ l. listed t a' b' c' d' l f) he ∙ ap (λ l. listed t a' b' c' d' e' l) hf

pub tables_kept : (s : Select) → tables_of (normal_select s) ≡ tables_of s
tables_kept s =
    listed_same s.first.table.0 _ _ _ _ _ _ _ _ _ _ _ _
    (each_kept s.items) (joins_kept s.joins) (where_kept s.filter) (groups_kept s.groups) (where_kept s.having) (each_kept s.order)
