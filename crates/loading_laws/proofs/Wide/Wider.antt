-- An expression under more sources has the value, or the refusal, that it has without them.
use Rattle.std.proofs.Common.{◌≡◌, Bool, true, false, cond, ◌||◌, List, [], ◌∷◌, ◌++◌, length, map, Option, None, Ok, Err, refl, sym, ap, subst, ◌∙◌, append_assoc}
use Rattle.std.proofs.lemmas.Bool.{and_parts}
use Rattle.std.specs.List.{AllByRecursion, list_all}
use Rattle.base_core.specs.declared.ids.TableId.{TableId}
use Rattle.base_core.specs.declared.value.Value.{Value}
use Rattle.schema_core.specs.Catalog.{Catalog}
use Rattle.expr_types.specs.declared.expr.Func.{Func}
use Rattle.expr_types.specs.declared.expr.Expr.{Expr, roll-Expr}
use Rattle.expr_types.specs.declared.expr.Expr.TheOpen.{Expr-F}
use Rattle.expr_types.specs.declared.expr.Expr.TheFolds.{map-Expr}
use Rattle.expr_types.specs.Level.{is_aggregate_function, operands, scope_below}
use Rattle.expr_types.proofs.Folds.{bare, by_levels}
use Rattle.sql_semantics.specs.Kinds.{Scope}
use Rattle.sql_semantics.specs.Checked.{Checked, ◌>>=◌}
use Rattle.sql_semantics.specs.Truth.{passes}
use Rattle.sql_semantics.specs.Eval.{Row, Tables, Place, Meaning, meaning_of, meaning, all_from, call_meaning, group_values, aggregate_value, function_value, some_from, inside, rows_in, two, three}
use Rattle.sql_semantics.proofs.Equations.{enter, rolled}
use Rattle.main_selects.specs.Shifted.{shifted}
use Rattle.known_queries.specs.Known.{finds_column, finds_columns}
use Rattle.known_queries.proofs.Found.{found_rolled}
use Rattle.loading_laws.specs.Wide.Parts.{place_of}
use Rattle.loading_laws.specs.Wide.Answers.{AreWideIn, table_width}
use Rattle.loading_laws.proofs.Wide.Levels.{between, moved, shifted_rolled}
use Rattle.loading_laws.proofs.Wide.Places.{inside_is, same_column, wide_more}

-- each row of each table has its width
abbrev pub HasWideRows : Catalog → Tables → Type 0
HasWideRows schema tables = (table : TableId) → AllByRecursion (λ row. length row ≡ table_width schema table) (rows_in tables table.0)

-- what goes on alike after the same answer
pub alike_then : {A B : Type 0} (told : Checked A) (f g : A → Checked B) → ((x : A) → f x ≡ g x) → (told >>= f) ≡ (told >>= g)
alike_then (Ok x) f g same = same x
alike_then (Err refusal) f g same = refl

pub regrouped : {A B C : Type 0} (told : Checked A) (f : A → Checked B) (g : B → Checked C) → ((told >>= f) >>= g) ≡ (told >>= λ x. f x >>= g)
regrouped (Ok x) f g = refl
regrouped (Err refusal) f g = refl

two_same : (a b c d : Meaning) (f : Value → Value → Checked Value) (q p : Place) → a q ≡ c p → b q ≡ d p → two a b f q ≡ two c d f p
two_same a b c d f q p ha hb = rw (ha, hb) refl

three_same : (a b c d e g : Meaning) (f : Value → Value → Value → Checked Value) (q p : Place) → a q ≡ d p → b q ≡ e p → c q ≡ g p → three a b c f q ≡ three d e g f p
three_same a b c d e g f q p ha hb hc = rw (ha, hb, hc) refl

one_same : {A : Type 0} (r s : Checked A) (f : A → Checked Value) → r ≡ s → (r >>= f) ≡ (s >>= f)
one_same r s f e = ap (λ q. q >>= f) e

group_none : (tables : Tables) (parts : List Row) (ms : List Meaning) → group_values ms (place_of tables parts) ≡ Ok None
group_none tables parts [] = refl
group_none tables parts (m ∷ ms) = refl

by_test : (b : Bool) (x y u v : Checked Value) → x ≡ u → y ≡ v → cond b x y ≡ cond b u v
by_test true x y u v e f = e
by_test false x y u v e f = f

module _ (schema : Catalog) (tables : Tables) (own extra : List Row) (rows : HasWideRows schema tables) where
  abbrev narrow : List Row → Place
  narrow inner = place_of tables (own ++ inner)

  abbrev wide : List Row → Place
  wide inner = place_of tables (own ++ (extra ++ inner))

  abbrev more : Expr → Expr
  more = shifted (length own) (length extra)

  abbrev Claim : Expr → Type 0
  Claim e = (scope : Scope) (inner : List Row) → AreWideIn schema scope (own ++ inner) → finds_columns schema e scope ≡ true → meaning_of (more e) (wide inner) ≡ meaning_of e (narrow inner)

  abbrev Known : Type 0
  Known = (e : Expr) × Claim e

  abbrev plain : List Known → List Expr
  plain = map (λ k. k.0)

  abbrev finding : Expr-F Known → Expr-F (Scope → Bool)
  finding y = map-Expr Expr (Scope → Bool) (finds_columns schema) (bare y)

  abbrev Agrees : List Row → Known → Type 0
  Agrees inner k = meaning_of (more k.0) (wide inner) ≡ meaning_of k.0 (narrow inner)

  each : (scope : Scope) (inner : List Row) → AreWideIn schema scope (own ++ inner) → (ks : List Known) → list_all (λ (holds : Scope → Bool). holds scope) (map (finds_columns schema) (plain ks)) ≡ true → AllByRecursion (Agrees inner) ks
  each scope inner w [] h = tt
  each scope inner w (k ∷ ks) h =
      let both = and_parts (finds_columns schema k.0 scope) (list_all (λ (holds : Scope → Bool). holds scope) (map (finds_columns schema) (plain ks))) h in
      (k.1 scope inner w both.0, each scope inner w ks both.1)

  all_same : (inner : List Row) (ks : List Known) → AllByRecursion (Agrees inner) ks → (done : List Value) → all_from (wide inner) done (map meaning_of (map more (plain ks))) ≡ all_from (narrow inner) done (map meaning_of (plain ks))
  all_same inner [] h done = refl
  all_same inner (k ∷ ks) h done =
      ap (λ (r : Checked Value). r >>= λ v. all_from (wide inner) (done ++ v ∷ []) (map meaning_of (map more (plain ks)))) h.0
      ∙ alike_then (meaning_of k.0 (narrow inner)) _ _ (λ v. all_same inner ks h.1 (done ++ v ∷ []))

  call_same : (inner : List Row) (f : Func) (ks : List Known) → AllByRecursion (Agrees inner) ks → call_meaning f (map meaning_of (map more (plain ks))) (wide inner) ≡ call_meaning f (map meaning_of (plain ks)) (narrow inner)
  call_same inner f ks h =
      by_test (is_aggregate_function f) _ _ _ _
      (ap (λ (r : Checked (Option (List Value))). r >>= aggregate_value f) (group_none tables (own ++ (extra ++ inner)) (map meaning_of (map more (plain ks))) ∙ sym (group_none tables (own ++ inner) (map meaning_of (plain ks)))))
      (ap (λ (r : Checked (List Value)). r >>= λ vs. Ok (function_value f vs)) (all_same inner ks h []))

  wide_inside : (inner : List Row) (r : Row) → inside (wide inner) r ≡ wide (inner ++ r ∷ [])
  wide_inside inner r = inside_is tables (own ++ (extra ++ inner)) r ∙ ap (place_of tables) (between own extra inner r)

  narrow_inside : (inner : List Row) (r : Row) → inside (narrow inner) r ≡ narrow (inner ++ r ∷ [])
  narrow_inside inner r = inside_is tables (own ++ inner) r ∙ ap (place_of tables) (append_assoc own inner (r ∷ []))

  some_same : (scope : Scope) (inner : List Row) → AreWideIn schema scope (own ++ inner) → (t : TableId) (k : Known) → finds_columns schema k.0 (scope ++ t ∷ []) ≡ true → (rs : List Row) → AllByRecursion (λ r. length r ≡ table_width schema t) rs → (found : Bool)
      → some_from (wide inner) (meaning_of (more k.0)) found rs ≡ some_from (narrow inner) (meaning_of k.0) found rs
  some_same scope inner w t k g [] all found = refl
  some_same scope inner w t k g (r ∷ rs) all found =
      let within : AreWideIn schema (scope ++ t ∷ []) (own ++ (inner ++ r ∷ [])) = subst (AreWideIn schema (scope ++ t ∷ [])) (append_assoc own inner (r ∷ [])) (wide_more schema scope (own ++ inner) t r w all.0) in
      ap (λ (a : Checked Value). a >>= λ v. some_from (wide inner) (meaning_of (more k.0)) (found || passes v) rs)
      (ap (meaning_of (more k.0)) (wide_inside inner r) ∙ k.1 (scope ++ t ∷ []) (inner ++ r ∷ []) within g ∙ sym (ap (meaning_of k.0) (narrow_inside inner r)))
      ∙ alike_then (meaning_of k.0 (inside (narrow inner) r)) _ _ (λ v. some_same scope inner w t k g rs all.1 (found || passes v))

  level : (y : Expr-F Known) (scope : Scope) (inner : List Row) → AreWideIn schema scope (own ++ inner) → finds_column schema scope (finding y) ≡ true
      → list_all (λ (holds : Scope → Bool). holds (scope_below enter scope (finding y))) (operands (finding y)) ≡ true
      → meaning (map-Expr Expr Meaning meaning_of (moved (length own) (length extra) (map-Expr Expr Expr more (bare y)))) (wide inner) ≡ meaning (map-Expr Expr Meaning meaning_of (bare y)) (narrow inner)
  level (Expr-F.Column s c) scope inner w f h = ap Ok (same_column schema scope tables own extra inner s c w f)
  level (Expr-F.Lit v) scope inner w f h = refl
  level (Expr-F.Compare op a b) scope inner w f h =
      let s = each scope inner w (a ∷ b ∷ []) h in
      two_same (meaning_of (more a.0)) (meaning_of (more b.0)) (meaning_of a.0) (meaning_of b.0) _ (wide inner) (narrow inner) s.0 s.1.0
  level (Expr-F.IsNull g a) scope inner w f h = one_same (meaning_of (more a.0) (wide inner)) (meaning_of a.0 (narrow inner)) _ (each scope inner w (a ∷ []) h).0
  level (Expr-F.And es) scope inner w f h =
      one_same (all_from (wide inner) [] (map meaning_of (map more (plain es)))) (all_from (narrow inner) [] (map meaning_of (plain es))) _ (all_same inner es (each scope inner w es h) [])
  level (Expr-F.Or es) scope inner w f h =
      one_same (all_from (wide inner) [] (map meaning_of (map more (plain es)))) (all_from (narrow inner) [] (map meaning_of (plain es))) _ (all_same inner es (each scope inner w es h) [])
  level (Expr-F.Not a) scope inner w f h = one_same (meaning_of (more a.0) (wide inner)) (meaning_of a.0 (narrow inner)) _ (each scope inner w (a ∷ []) h).0
  level (Expr-F.Arith op a b) scope inner w f h =
      let s = each scope inner w (a ∷ b ∷ []) h in
      two_same (meaning_of (more a.0)) (meaning_of (more b.0)) (meaning_of a.0) (meaning_of b.0) _ (wide inner) (narrow inner) s.0 s.1.0
  level (Expr-F.Neg a) scope inner w f h = one_same (meaning_of (more a.0) (wide inner)) (meaning_of a.0 (narrow inner)) _ (each scope inner w (a ∷ []) h).0
  level (Expr-F.Concat a b) scope inner w f h =
      let s = each scope inner w (a ∷ b ∷ []) h in
      two_same (meaning_of (more a.0)) (meaning_of (more b.0)) (meaning_of a.0) (meaning_of b.0) _ (wide inner) (narrow inner) s.0 s.1.0
  level (Expr-F.Like g a b) scope inner w f h =
      let s = each scope inner w (a ∷ b ∷ []) h in
      two_same (meaning_of (more a.0)) (meaning_of (more b.0)) (meaning_of a.0) (meaning_of b.0) _ (wide inner) (narrow inner) s.0 s.1.0
  level (Expr-F.Ilike g a b) scope inner w f h =
      let s = each scope inner w (a ∷ b ∷ []) h in
      two_same (meaning_of (more a.0)) (meaning_of (more b.0)) (meaning_of a.0) (meaning_of b.0) _ (wide inner) (narrow inner) s.0 s.1.0
  level (Expr-F.InList g a vs) scope inner w f h = one_same (meaning_of (more a.0) (wide inner)) (meaning_of a.0 (narrow inner)) _ (each scope inner w (a ∷ []) h).0
  level (Expr-F.Between g a b c) scope inner w f h =
      let s = each scope inner w (a ∷ b ∷ c ∷ []) h in
      three_same (meaning_of (more a.0)) (meaning_of (more b.0)) (meaning_of (more c.0)) (meaning_of a.0) (meaning_of b.0) (meaning_of c.0) _ (wide inner) (narrow inner) s.0 s.1.0 s.1.1.0
  level (Expr-F.Distinct g a b) scope inner w f h =
      let s = each scope inner w (a ∷ b ∷ []) h in
      two_same (meaning_of (more a.0)) (meaning_of (more b.0)) (meaning_of a.0) (meaning_of b.0) _ (wide inner) (narrow inner) s.0 s.1.0
  level (Expr-F.Call g es) scope inner w f h = call_same inner g es (each scope inner w es h)
  level Expr-F.CountAll scope inner w f h = refl
  level (Expr-F.Exists g o a) scope inner w f h =
      let k = and_parts (finds_columns schema a.0 (scope ++ o.table ∷ [])) true h in
      one_same (some_from (wide inner) (meaning_of (more a.0)) false (rows_in tables o.table.0)) (some_from (narrow inner) (meaning_of a.0) false (rows_in tables o.table.0)) _
      (some_same scope inner w o.table a k.0 (rows_in tables o.table.0) (rows o.table) false)

  step : (y : Expr-F Known) → Claim (roll-Expr (bare y))
  step y scope inner w h =
      let both = and_parts (finds_column schema scope (finding y)) (list_all (λ (holds : Scope → Bool). holds (scope_below enter scope (finding y))) (operands (finding y))) (sym (found_rolled schema scope (bare y)) ∙ h) in
      ap (λ (e : Expr). meaning_of e (wide inner)) (shifted_rolled (length own) (length extra) (bare y))
      ∙ ap (λ (m : Meaning). m (wide inner)) (rolled (moved (length own) (length extra) (map-Expr Expr Expr more (bare y)))) ∙ level y scope inner w both.0 both.1
      ∙ sym (ap (λ (m : Meaning). m (narrow inner)) (rolled (bare y)))

  -- the value or the refusal stays
  pub wider_same : (e : Expr) → Claim e
  wider_same = by_levels Claim step
