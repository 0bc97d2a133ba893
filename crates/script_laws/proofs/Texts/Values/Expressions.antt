-- The pieces of an expression's text without its literals are the same but for values.
use Rattle.std.proofs.Common.{◌≡◌, ℕ, ◌++◌, Bool, true, false, cond, List, [], ◌∷◌, map, Option, codes, refl, sym, ap, subst, ◌∙◌}
use Rattle.std.specs.Prelude.{nat_lt}
use Rattle.base_core.specs.declared.value.Value.{Value}
use Rattle.base_core.specs.declared.value.Value.TheVariants as cell
use Rattle.base_core.specs.declared.value.ArithOp.{ArithOp}
use Rattle.base_core.specs.declared.value.ArithOp.TheVariants.{Add, Sub, Mul}
use Rattle.schema_core.specs.Catalog.{Catalog}
use Rattle.expr_types.specs.declared.expr.Expr.{Expr, roll-Expr}
use Rattle.expr_types.specs.declared.expr.Expr.TheOpen.{Expr-F}
use Rattle.expr_types.specs.declared.expr.Expr.TheFolds.{map-Expr, fold-roll-Expr}
use Rattle.expr_types.specs.declared.expr.Origin.{Origin}
use Rattle.expr_types.proofs.Folds.{bare as known, by_levels}
use Rattle.sql_semantics.specs.Plain.{name_or}
use Rattle.base_core.specs.declared.dialect.Dialect.{Dialect}
use Rattle.base_core.specs.declared.dialect.Dialect.TheVariants.{Sqlite, Postgresql, Mysql}
use Rattle.sql_text.specs.Words.{null_word, like_word, ilike_word, in_word, between_word, distinct_word, sqlite_distinct_word}
use Rattle.sql_text.specs.Written.{Piece, words, value, with_leading_separators, with_separators}
use Rattle.sql_expressions.specs.Laid as l
use Rattle.sql_expressions.specs.Laid.{Laid, laid, laid_level, under, with_closing_parenthesis, two, part, parts, value_pieces, beside, beside_two, before, source_pieces}
use Rattle.script_laws.specs.Texts.Values.{without, without_level, no_values}
use Rattle.script_laws.proofs.Texts.Values.Pieces.{Alike, both, behind, bare}

-- two layouts that differ only in values
pub record Like (a b : Laid) : Type 0 where
  pub level : a.level ≡ b.level
  pub plain : (scope : List Origin) → a.plain scope ≡ b.plain scope
  pub pieces : (scope : List Origin) (base : List ℕ) → Alike (a.pieces scope base) (b.pieces scope base)

-- an expression and what it is without its literals
abbrev pub Same : Dialect → Catalog → Expr → Type 0
Same q schema e = Like (laid q schema e) (laid q schema (without e))

-- ---- parts of forms

beside_is : {a b : Laid} → Like a b → (scope : List Origin) → beside scope a ≡ beside scope b
beside_is s scope = ap (λ (n : Option (List ℕ)). name_or l.param n) (s.plain scope)

beside_two_is : {a b c d : Laid} → Like a b → Like c d → (scope : List Origin) → beside_two scope a c ≡ beside_two scope b d
beside_two_is {a} {b} {c} {d} s r scope =
    ap (λ (m : Option (List ℕ)). name_or (name_or l.param (c.plain scope)) m) (s.plain scope) ∙ ap (λ (n : Option (List ℕ)). name_or (name_or l.param n) (b.plain scope)) (r.plain scope)

enclosed_alike : (opening : List ℕ) (ps qs : List Piece) → Alike ps qs → Alike (with_closing_parenthesis opening ps) (with_closing_parenthesis opening qs)
enclosed_alike opening ps qs s = both (words opening ∷ ps) (words opening ∷ qs) (words (codes ")") ∷ []) (words (codes ")") ∷ []) (behind (words opening) ps qs s) refl

under_by : (b : Bool) (ps qs : List Piece) → Alike ps qs → Alike (cond b (with_closing_parenthesis (codes "(") ps) ps) (cond b (with_closing_parenthesis (codes "(") qs) qs)
under_by true ps qs s = enclosed_alike (codes "(") ps qs s
under_by false ps qs s = s

pub under_alike : (least : ℕ) {a b : Laid} → Like a b → (scope : List Origin) (base other : List ℕ) → base ≡ other → Alike (under least a scope base) (under least b scope other)
under_alike least {a} {b} s scope base other is =
    under_by (nat_lt a.level least) (a.pieces scope base) (b.pieces scope base) (s.pieces scope base)
    ∙ (ap (λ (n : ℕ). map bare (cond (nat_lt n least) (with_closing_parenthesis (codes "(") (b.pieces scope base)) (b.pieces scope base))) s.level ∙ ap (λ (n : List ℕ). map bare (under least b scope n)) is)

two_alike : (left right : ℕ) (word : List ℕ) {a b c d : Laid} → Like a b → Like c d → (scope : List Origin) → Alike (two left right word a c scope) (two left right word b d scope)
two_alike left right word {a} {b} {c} {d} s r scope =
    both (under left a scope (beside scope c)) (under left b scope (beside scope d)) (words word ∷ under right c scope (beside scope a)) (words word ∷ under right d scope (beside scope b))
    (under_alike left s scope (beside scope c) (beside scope d) (beside_is r scope))
    (behind (words word) (under right c scope (beside scope a)) (under right d scope (beside scope b)) (under_alike right r scope (beside scope a) (beside scope b) (beside_is s scope)))

module _ (q : Dialect) (schema : Catalog) where
  abbrev Known : Type 0
  Known = (e : Expr) × Same q schema e

  abbrev laid_all : List Known → List Laid
  laid_all ks = map (laid q schema) (map (λ k. k.0) ks)

  abbrev without_all : List Known → List Laid
  without_all ks = map (laid q schema) (map without (map (λ k. k.0) ks))

  led_alike : (least : ℕ) (word : List ℕ) (scope : List Origin) (ks : List Known) → Alike (with_leading_separators word (part least scope) (laid_all ks)) (with_leading_separators word (part least scope) (without_all ks))
  unfolding part
  led_alike least word scope [] = refl
  led_alike least word scope (k ∷ ks) =
      both (words word ∷ under least (laid q schema k.0) scope l.param) (words word ∷ under least (laid q schema (without k.0)) scope l.param) (with_leading_separators word (part least scope) (laid_all ks)) (with_leading_separators word (part least scope) (without_all ks))
      (behind (words word) (under least (laid q schema k.0) scope l.param) (under least (laid q schema (without k.0)) scope l.param) (under_alike least k.1 scope l.param l.param refl))
      (led_alike least word scope ks)

  pub parts_alike : (least : ℕ) (word : List ℕ) (scope : List Origin) (ks : List Known) → Alike (parts least word (laid_all ks) scope) (parts least word (without_all ks) scope)
  unfolding part
  parts_alike least word scope [] = refl
  parts_alike least word scope (k ∷ ks) =
      both (under least (laid q schema k.0) scope l.param) (under least (laid q schema (without k.0)) scope l.param) (with_leading_separators word (part least scope) (laid_all ks)) (with_leading_separators word (part least scope) (without_all ks))
      (under_alike least k.1 scope l.param l.param refl) (led_alike least word scope ks)

-- ---- lists of values

led_values : (base : List ℕ) (vs : List Value) → Alike (with_leading_separators (codes ", ") (value_pieces base) vs) (with_leading_separators (codes ", ") (value_pieces base) (no_values vs))
unfolding value_pieces
led_values base [] = refl
led_values base (v ∷ vs) = ap (λ (ps : List Piece). words (codes ", ") ∷ value base cell.Null ∷ ps) (led_values base vs)

list_alike : (base : List ℕ) (vs : List Value) → Alike (with_separators (codes ", ") (value_pieces base) vs) (with_separators (codes ", ") (value_pieces base) (no_values vs))
unfolding value_pieces
list_alike base [] = refl
list_alike base (v ∷ vs) = ap (λ (ps : List Piece). value base cell.Null ∷ ps) (led_values base vs)

in_alike : (n : Bool) {a b : Laid} → Like a b → (vs : List Value) (scope : List Origin) → Alike (l.in_pieces n a vs scope) (l.in_pieces n b (no_values vs) scope)
in_alike n {a} {b} s [] scope =
    behind (words (codes "(")) (under 5 a scope l.param ++ words (l.no_in_word n) ∷ []) (under 5 b scope l.param ++ words (l.no_in_word n) ∷ [])
    (both (under 5 a scope l.param) (under 5 b scope l.param) (words (l.no_in_word n) ∷ []) (words (l.no_in_word n) ∷ []) (under_alike 5 s scope l.param l.param refl) refl)
in_alike n {a} {b} s (v ∷ vs) scope =
    let one = with_separators (codes ", ") (value_pieces (beside scope a)) (v ∷ vs) in
    let other = with_separators (codes ", ") (value_pieces (beside scope b)) (no_values (v ∷ vs)) in
    let same : Alike one other = list_alike (beside scope a) (v ∷ vs) ∙ ap (λ (base : List ℕ). map bare (with_separators (codes ", ") (value_pieces base) (no_values (v ∷ vs)))) (beside_is s scope) in
    both (under 5 a scope l.param ++ words (in_word n) ∷ one) (under 5 b scope l.param ++ words (in_word n) ∷ other) (words (codes ")") ∷ []) (words (codes ")") ∷ [])
    (both (under 5 a scope l.param) (under 5 b scope l.param) (words (in_word n) ∷ one) (words (in_word n) ∷ other) (under_alike 5 s scope l.param l.param refl) (behind (words (in_word n)) one other same))
    refl

in_level_is : (vs : List Value) → l.in_level vs ≡ l.in_level (no_values vs)
in_level_is [] = refl
in_level_is (v ∷ vs) = refl

-- ---- one level

abbrev Pairs : (q : Dialect) → Laid → Laid → Laid → Laid → Type 0
Pairs q a b c d = (scope : List Origin) → Alike (l.concat_pieces q a c scope) (l.concat_pieces q b d scope)

arith_alike : (op : ArithOp) {a b c d : Laid} → Like a b → Like c d → (scope : List Origin) → Alike (l.arith_pieces op a c scope) (l.arith_pieces op b d scope)
arith_alike Add s r scope = two_alike 5 6 (codes " + ") s r scope
arith_alike Sub s r scope = two_alike 5 6 (codes " - ") s r scope
arith_alike Mul s r scope = two_alike 6 7 (codes " * ") s r scope

concat_alike : (q : Dialect) {a b c d : Laid} → Like a b → Like c d → (scope : List Origin) → Alike (l.concat_pieces q a c scope) (l.concat_pieces q b d scope)
concat_alike Sqlite s r scope = two_alike 5 6 (codes " || ") s r scope
concat_alike Postgresql s r scope = two_alike 5 6 (codes " || ") s r scope
concat_alike Mysql {a} {b} {c} {d} s r scope = enclosed_alike (codes "concat(") (two 5 6 (codes ", ") a c scope) (two 5 6 (codes ", ") b d scope) (two_alike 5 6 (codes ", ") s r scope)

ilike_alike : (q : Dialect) (n : Bool) {a b c d : Laid} → Like a b → Like c d → (scope : List Origin) → Alike (l.ilike_pieces q n a c scope) (l.ilike_pieces q n b d scope)
ilike_alike Sqlite n {a} {b} {c} {d} s r scope =
    enclosed_alike (codes "lower(") (two 5 5 (l.lower_like_word n) a c scope) (two 5 5 (l.lower_like_word n) b d scope) (two_alike 5 5 (l.lower_like_word n) s r scope)
ilike_alike Postgresql n s r scope = two_alike 5 5 (ilike_word n) s r scope
ilike_alike Mysql n {a} {b} {c} {d} s r scope =
    enclosed_alike (codes "lower(") (two 5 5 (l.lower_like_word n) a c scope) (two 5 5 (l.lower_like_word n) b d scope) (two_alike 5 5 (l.lower_like_word n) s r scope)

distinct_alike : (q : Dialect) (n : Bool) {a b c d : Laid} → Like a b → Like c d → (scope : List Origin) → Alike (l.distinct_pieces q n a c scope) (l.distinct_pieces q n b d scope)
distinct_alike Sqlite n s r scope = two_alike 5 5 (sqlite_distinct_word n) s r scope
distinct_alike Postgresql n s r scope = two_alike 5 5 (distinct_word n) s r scope
distinct_alike Mysql false {a} {b} {c} {d} s r scope = enclosed_alike (codes "NOT (") (two 5 5 (codes " <=> ") a c scope) (two 5 5 (codes " <=> ") b d scope) (two_alike 5 5 (codes " <=> ") s r scope)
distinct_alike Mysql true s r scope = two_alike 5 5 (codes " <=> ") s r scope

range_alike : (n : Bool) {a b c d e f : Laid} → Like a b → Like c d → Like e f → (scope : List Origin) → Alike (l.between_pieces n a c e scope) (l.between_pieces n b d f scope)
range_alike n {a} {b} {c} {d} {e} {f} s r p scope =
    both (under 5 a scope (beside_two scope c e) ++ words (between_word n) ∷ under 5 c scope (beside scope a)) (under 5 b scope (beside_two scope d f) ++ words (between_word n) ∷ under 5 d scope (beside scope b))
    (words (codes " AND ") ∷ under 5 e scope (beside scope a)) (words (codes " AND ") ∷ under 5 f scope (beside scope b))
    (both (under 5 a scope (beside_two scope c e)) (under 5 b scope (beside_two scope d f)) (words (between_word n) ∷ under 5 c scope (beside scope a)) (words (between_word n) ∷ under 5 d scope (beside scope b))
    (under_alike 5 s scope (beside_two scope c e) (beside_two scope d f) (beside_two_is r p scope))
    (behind (words (between_word n)) (under 5 c scope (beside scope a)) (under 5 d scope (beside scope b)) (under_alike 5 r scope (beside scope a) (beside scope b) (beside_is s scope))))
    (behind (words (codes " AND ")) (under 5 e scope (beside scope a)) (under 5 f scope (beside scope b)) (under_alike 5 p scope (beside scope a) (beside scope b) (beside_is s scope)))

exists_alike : (schema : Catalog) (n : Bool) (o : Origin) {a b : Laid} → Like a b → (scope : List Origin) → Alike (l.exists_pieces schema n o a scope) (l.exists_pieces schema n o b scope)
exists_alike schema n o {a} {b} s scope =
    let inner = λ (c : Laid). c.pieces (scope ++ o ∷ []) l.param in
    both ((words (l.exists_word n) ∷ source_pieces schema o) ++ words (codes " WHERE ") ∷ inner a) ((words (l.exists_word n) ∷ source_pieces schema o) ++ words (codes " WHERE ") ∷ inner b) (words (codes ")") ∷ []) (words (codes ")") ∷ [])
    (both (words (l.exists_word n) ∷ source_pieces schema o) (words (l.exists_word n) ∷ source_pieces schema o) (words (codes " WHERE ") ∷ inner a) (words (codes " WHERE ") ∷ inner b) refl
    (behind (words (codes " WHERE ")) (inner a) (inner b) (s.pieces (scope ++ o ∷ []) l.param)))
    refl

module _ (q : Dialect) (schema : Catalog) where
  abbrev first : Expr-F (Known q schema) → Laid
  first y = laid_level q schema (map-Expr Expr Laid (laid q schema) (known y))

  abbrev unvalued : Expr-F (Known q schema) → Laid
  unvalued y = laid_level q schema (map-Expr Expr Laid (laid q schema) (without_level (map-Expr Expr Expr without (known y))))

  level_alike : (y : Expr-F (Known q schema)) → Like (first y) (unvalued y)
  level_alike (Expr-F.Column s c) = record { level = refl; plain = λ scope. refl; pieces = λ scope base. refl }
  level_alike (Expr-F.Lit v) = record { level = refl; plain = λ scope. refl; pieces = λ scope base. refl }
  level_alike (Expr-F.Compare op a b) = record { level = refl; plain = λ scope. refl; pieces = λ scope base. two_alike 5 5 (l.compare_word op) a.1 b.1 scope }
  level_alike (Expr-F.IsNull n a) = record {
    level = refl;
    plain = λ scope. refl;
    pieces = λ scope base.
        both (under 5 (laid q schema a.0) scope l.param) (under 5 (laid q schema (without a.0)) scope l.param) (words (null_word n) ∷ []) (words (null_word n) ∷ [])
        (under_alike 5 a.1 scope l.param l.param refl) refl;
  }
  level_alike (Expr-F.And ks) = record { level = refl; plain = λ scope. refl; pieces = λ scope base. parts_alike q schema 3 (codes " AND ") scope ks }
  level_alike (Expr-F.Or ks) = record { level = refl; plain = λ scope. refl; pieces = λ scope base. parts_alike q schema 2 (codes " OR ") scope ks }
  level_alike (Expr-F.Not a) = record {
    level = refl;
    plain = λ scope. refl;
    pieces = λ scope base. behind (words (codes "NOT ")) (under 8 (laid q schema a.0) scope l.param) (under 8 (laid q schema (without a.0)) scope l.param) (under_alike 8 a.1 scope l.param l.param refl);
  }
  level_alike (Expr-F.Arith op a b) = record { level = refl; plain = λ scope. refl; pieces = λ scope base. arith_alike op a.1 b.1 scope }
  level_alike (Expr-F.Neg a) = record {
    level = refl;
    plain = λ scope. refl;
    pieces = λ scope base. behind (words (codes "-")) (under 8 (laid q schema a.0) scope l.param) (under 8 (laid q schema (without a.0)) scope l.param) (under_alike 8 a.1 scope l.param l.param refl);
  }
  level_alike (Expr-F.Concat a b) = record { level = refl; plain = λ scope. refl; pieces = λ scope base. concat_alike q a.1 b.1 scope }
  level_alike (Expr-F.Like n a b) = record { level = refl; plain = λ scope. refl; pieces = λ scope base. two_alike 5 5 (like_word n) a.1 b.1 scope }
  level_alike (Expr-F.Ilike n a b) = record { level = refl; plain = λ scope. refl; pieces = λ scope base. ilike_alike q n a.1 b.1 scope }
  level_alike (Expr-F.InList n a vs) = record { level = in_level_is vs; plain = λ scope. refl; pieces = λ scope base. in_alike n a.1 vs scope }
  level_alike (Expr-F.Between n a b c) = record { level = refl; plain = λ scope. refl; pieces = λ scope base. range_alike n a.1 b.1 c.1 scope }
  level_alike (Expr-F.Distinct n a b) = record { level = refl; plain = λ scope. refl; pieces = λ scope base. distinct_alike q n a.1 b.1 scope }
  level_alike (Expr-F.Call f ks) = record {
    level = refl;
    plain = λ scope. refl;
    pieces = λ scope base. enclosed_alike (l.function_word f) (parts 1 (codes ", ") (laid_all q schema ks) scope) (parts 1 (codes ", ") (without_all q schema ks) scope) (parts_alike q schema 1 (codes ", ") scope ks);
  }
  level_alike Expr-F.CountAll = record { level = refl; plain = λ scope. refl; pieces = λ scope base. refl }
  level_alike (Expr-F.Exists n o a) = record { level = refl; plain = λ scope. refl; pieces = λ scope base. exists_alike schema n o a.1 scope }

  laid_rolled : (x : Expr-F Expr) → laid q schema (roll-Expr x) ≡ laid_level q schema (map-Expr Expr Laid (laid q schema) x)
  unfolding laid
  laid_rolled x = fold-roll-Expr Laid (laid_level q schema) x

  without_rolled : (x : Expr-F Expr) → without (roll-Expr x) ≡ roll-Expr (without_level (map-Expr Expr Expr without x))
  unfolding without
  without_rolled x = fold-roll-Expr Expr (λ level. roll-Expr (without_level level)) x

  -- an expression differs from what it is without its literals in values alone
  pub same : (e : Expr) → Same q schema e
  same =
      by_levels (Same q schema)
      (λ y. subst (λ a. Like a (laid q schema (without (roll-Expr (known y))))) (sym (laid_rolled (known y)))
      (subst (λ b. Like (first y) b) (sym (ap (laid q schema) (without_rolled (known y)) ∙ laid_rolled (without_level (map-Expr Expr Expr without (known y))))) (level_alike y)))
