-- Which conditions over columns stand under sources: comparisons of columns, lists of values, and lists of such conditions.
use Rattle.std.proofs.Common.{◌≡◌, ℕ, ◌≤◌, Bool, true, false, not, ◌&&◌, ◌||◌, nat_lt, List, [], ◌∷◌, ◌++◌, map, length, Option, Some, Ok, Err, if◌then◌else◌, refl, ap, arith, ◌∙◌}
use Rattle.std.specs.Prelude.{is_ok, is_some}
use Rattle.std.specs.List.{AllByRecursion, list_all, list_any}
use Rattle.std.proofs.lemmas.Bool.{lt-ltb}
use Rattle.std.proofs.lemmas.List.{length-map}
use Rattle.base_core.specs.declared.ids.ColumnNo.{ColumnNo}
use Rattle.base_core.specs.declared.value.Value.{Value}
use Rattle.base_core.specs.declared.value.Kind.{Kind}
use Rattle.base_core.specs.declared.value.Kind.TheVariants as kinds
use Rattle.base_core.specs.declared.refusal.Refusal.TheVariants.{TypeMismatch}
use Rattle.schema_core.specs.declared.table.ColumnSpec.{ColumnSpec}
use Rattle.schema_core.specs.Catalog.{Catalog, kind_of, same_kind}
use Rattle.expr_types.specs.declared.expr.CompareOp.TheVariants.{Equal}
use Rattle.expr_types.specs.declared.expr.Expr.{Expr, roll-Expr}
use Rattle.expr_types.specs.declared.expr.Expr.TheOpen.{Expr-F}
use Rattle.expr_types.specs.declared.expr.Expr.TheFolds.{fold-Expr}
use Rattle.expr_types.specs.declared.expr.Expr.TheVariants as expr
use Rattle.expr_types.specs.declared.expr.Origin.{Origin}
use Rattle.expr_types.specs.Level.{aggregate_level, has_aggregate, operands, scope_below}
use Rattle.expr_types.specs.Normal.{and_parts, and_parts_at, joined_parts, normal, normal_level, or_parts, or_parts_at}
use Rattle.expr_types.proofs.Folds.{fold-Column, fold-Lit, fold-Compare, fold-And, fold-Or, fold-InList}
use Rattle.sql_semantics.specs.Kinds.{Judged, Scope, all_alike, all_of, column_in, expression_kind, gives, in_scope, kind_or_mismatch, kind_where, then_judge, value_kind}
use Rattle.sql_semantics.specs.Plain.{IsFilter, adds_name, fits, full_level, has_full_lists, is_given, name_of, names_apart}
use Rattle.sql_semantics.proofs.Equations.{fits-Column, fits-Lit, fits-Compare, fits-And, fits-Or, fits-InList, judged-Column, judged-Lit, judged-Compare, judged-And, judged-Or, judged-InList}

abbrev Names : Type 0
Names = List (List ℕ)

-- an expression that stands under sources, is of a kind and has no aggregate
pub record Stands (schema : Catalog) (sources : List Origin) (kind : Kind) (e : Expr) : Type 0 where
  pub fitting : fits schema e (map (λ origin. origin.table) sources) ≡ true
  pub typed : expression_kind schema e (map (λ origin. origin.table) sources) ≡ Ok kind
  pub in_normal_form : normal e ≡ e
  pub full_lists : has_full_lists e ≡ true
  pub apart : names_apart schema e (map (name_of schema) sources) ≡ true
  pub no_aggregate : has_aggregate e ≡ false

pub as_filter : (schema : Catalog) (sources : List Origin) (e : Expr) → Stands schema sources kinds.Boolean e → IsFilter schema sources e
as_filter schema sources e s = record {
  condition = record {
    stands = record { fitting = s.fitting; typed = ap is_ok s.typed; in_normal_form = s.in_normal_form; full_lists = s.full_lists; apart = s.apart };
    boolean = s.typed;
  };
  no_aggregate = ap not s.no_aggregate;
}

-- ---- truth values and kinds

both_true : (a b : Bool) → a ≡ true → b ≡ true → (a && (b && true)) ≡ true
both_true a b p q = ap (λ x. x && (b && true)) p ∙ ap (λ x. x && true) q

one_true : (a : Bool) → a ≡ true → (a && true) ≡ true
one_true a p = ap (λ x. x && true) p

both_false : (a b : Bool) → a ≡ false → b ≡ false → (a || (b || false)) ≡ false
both_false a b p q = ap (λ x. x || (b || false)) p ∙ ap (λ x. x || false) q

abbrev judged_as : Kind → Judged
judged_as kind = Ok kind

two_alike : (k : Kind) → gives kinds.Boolean (all_alike (Ok k ∷ Ok k ∷ [])) ≡ Ok kinds.Boolean
two_alike kinds.Integer = refl
two_alike kinds.Text = refl
two_alike kinds.Boolean = refl
two_alike kinds.Bytes = refl

-- ---- the names of sources, down the levels

abbrev with_source : Catalog → Names → Origin → Names
with_source schema names origin = names ++ name_of schema origin ∷ []

abbrev named_step : Catalog → Expr-F (Names → Bool) → Names → Bool
named_step schema level names = adds_name schema names level && list_all (λ apart. apart (scope_below (with_source schema) names level)) (operands level)

apart-Column : (schema : Catalog) (names : Names) (s : ℕ) (c : ColumnNo) → names_apart schema (expr.Column s c) names ≡ named_step schema (Expr-F.Column s c) names
unfolding names_apart
apart-Column schema names s c = ap (λ (f : Names → Bool). f names) (fold-Column (Names → Bool) (named_step schema) s c)

apart-Lit : (schema : Catalog) (names : Names) (v : Value) → names_apart schema (expr.Lit v) names ≡ named_step schema (Expr-F.Lit v) names
unfolding names_apart
apart-Lit schema names v = ap (λ (f : Names → Bool). f names) (fold-Lit (Names → Bool) (named_step schema) v)

apart-Compare : (schema : Catalog) (names : Names) (a b : Expr) → names_apart schema (expr.Compare Equal a b) names ≡ named_step schema (Expr-F.Compare Equal (names_apart schema a) (names_apart schema b)) names
unfolding names_apart
apart-Compare schema names a b = ap (λ (f : Names → Bool). f names) (fold-Compare (Names → Bool) (named_step schema) Equal a b)

apart-InList : (schema : Catalog) (names : Names) (a : Expr) (vs : List Value) → names_apart schema (expr.InList false a vs) names ≡ named_step schema (Expr-F.InList false (names_apart schema a) vs) names
unfolding names_apart
apart-InList schema names a vs = ap (λ (f : Names → Bool). f names) (fold-InList (Names → Bool) (named_step schema) false a vs)

apart-And : (schema : Catalog) (names : Names) (es : List Expr) → names_apart schema (expr.And es) names ≡ named_step schema (Expr-F.And (map (names_apart schema) es)) names
unfolding names_apart
apart-And schema names es = ap (λ (f : Names → Bool). f names) (fold-And (Names → Bool) (named_step schema) es)

apart-Or : (schema : Catalog) (names : Names) (es : List Expr) → names_apart schema (expr.Or es) names ≡ named_step schema (Expr-F.Or (map (names_apart schema) es)) names
unfolding names_apart
apart-Or schema names es = ap (λ (f : Names → Bool). f names) (fold-Or (Names → Bool) (named_step schema) es)

-- ---- a column, a literal

-- the source has the column
pub record IsThere (schema : Catalog) (sources : List Origin) (source : ℕ) (column : ColumnNo) (kind : Kind) : Type 0 where
  pub spec : ColumnSpec
  pub is : column_in schema (map (λ origin. origin.table) sources) source column ≡ Some spec
  pub alike : kind_of spec.kind ≡ kind

normal_column : (s : ℕ) (c : ColumnNo) → normal (expr.Column s c) ≡ expr.Column s c
unfolding normal
normal_column s c = fold-Column Expr normal_level s c ∙ expr.rolls-Column s c

full_column : (s : ℕ) (c : ColumnNo) → has_full_lists (expr.Column s c) ≡ true
unfolding has_full_lists
full_column s c = fold-Column Bool full_level s c

pub lacks_column : (s : ℕ) (c : ColumnNo) → has_aggregate (expr.Column s c) ≡ false
unfolding has_aggregate
lacks_column s c = fold-Column Bool aggregate_level s c

pub column_stands : (schema : Catalog) (sources : List Origin) (s : ℕ) (c : ColumnNo) (kind : Kind) → IsThere schema sources s c kind → Stands schema sources kind (expr.Column s c)
column_stands schema sources s c kind there =
    let scope : Scope = map (λ origin. origin.table) sources in
    record {
      fitting = fits-Column schema scope s c ∙ one_true (is_some (column_in schema scope s c)) (ap is_some there.is);
      typed = judged-Column schema scope s c ∙ ap (λ (found : Option ColumnSpec). judged_as (kind_where found)) there.is ∙ ap judged_as there.alike;
      in_normal_form = normal_column s c;
      full_lists = full_column s c;
      apart = apart-Column schema (map (name_of schema) sources) s c;
      no_aggregate = lacks_column s c;
    }

normal_lit : (v : Value) → normal (expr.Lit v) ≡ expr.Lit v
unfolding normal
normal_lit v = fold-Lit Expr normal_level v ∙ expr.rolls-Lit v

full_lit : (v : Value) → has_full_lists (expr.Lit v) ≡ true
unfolding has_full_lists
full_lit v = fold-Lit Bool full_level v

lacks_lit : (v : Value) → has_aggregate (expr.Lit v) ≡ false
unfolding has_aggregate
lacks_lit v = fold-Lit Bool aggregate_level v

pub lit_stands : (schema : Catalog) (sources : List Origin) (v : Value) (kind : Kind) → is_given v ≡ true → value_kind v ≡ kind → Stands schema sources kind (expr.Lit v)
lit_stands schema sources v kind given is =
    let scope : Scope = map (λ origin. origin.table) sources in
    record {
      fitting = fits-Lit schema scope v ∙ one_true (is_given v) given;
      typed = judged-Lit schema scope v ∙ ap judged_as is;
      in_normal_form = normal_lit v;
      full_lists = full_lit v;
      apart = apart-Lit schema (map (name_of schema) sources) v;
      no_aggregate = lacks_lit v;
    }

-- ---- an equality

normal_equal : (a b : Expr) → normal a ≡ a → normal b ≡ b → normal (expr.Compare Equal a b) ≡ expr.Compare Equal a b
unfolding normal
normal_equal a b p q =
    fold-Compare Expr normal_level Equal a b
    ∙ ap (λ x. roll-Expr (Expr-F.Compare Equal x (fold-Expr Expr normal_level b))) p
    ∙ ap (λ x. roll-Expr (Expr-F.Compare Equal a x)) q
    ∙ expr.rolls-Compare Equal a b

full_equal : (a b : Expr) → has_full_lists a ≡ true → has_full_lists b ≡ true → has_full_lists (expr.Compare Equal a b) ≡ true
unfolding has_full_lists
full_equal a b p q = fold-Compare Bool full_level Equal a b ∙ both_true (fold-Expr Bool full_level a) (fold-Expr Bool full_level b) p q

lacks_equal : (a b : Expr) → has_aggregate a ≡ false → has_aggregate b ≡ false → has_aggregate (expr.Compare Equal a b) ≡ false
unfolding has_aggregate
lacks_equal a b p q = fold-Compare Bool aggregate_level Equal a b ∙ both_false (fold-Expr Bool aggregate_level a) (fold-Expr Bool aggregate_level b) p q

pub equal_stands : (schema : Catalog) (sources : List Origin) (kind : Kind) (a b : Expr) → Stands schema sources kind a → Stands schema sources kind b → Stands schema sources kinds.Boolean (expr.Compare Equal a b)
equal_stands schema sources kind a b one other =
    let scope : Scope = map (λ origin. origin.table) sources in
    let names : Names = map (name_of schema) sources in
    record {
      fitting = fits-Compare schema scope Equal a b ∙ both_true (fits schema a scope) (fits schema b scope) one.fitting other.fitting;
      typed =
          judged-Compare schema scope Equal a b
          ∙ ap (λ (j : Judged). gives kinds.Boolean (all_alike (j ∷ expression_kind schema b scope ∷ []))) one.typed
          ∙ ap (λ (j : Judged). gives kinds.Boolean (all_alike (judged_as kind ∷ j ∷ []))) other.typed
          ∙ two_alike kind;
      in_normal_form = normal_equal a b one.in_normal_form other.in_normal_form;
      full_lists = full_equal a b one.full_lists other.full_lists;
      apart = apart-Compare schema names a b ∙ both_true (names_apart schema a names) (names_apart schema b names) one.apart other.apart;
      no_aggregate = lacks_equal a b one.no_aggregate other.no_aggregate;
    }

-- ---- a list of values

abbrev pub is_of : Kind → Value → Bool
is_of kind v = is_given v && same_kind (value_kind v) kind

given_all : (kind : Kind) (vs : List Value) → AllByRecursion (λ v. is_of kind v ≡ true) vs → list_all is_given vs ≡ true
given_all kind [] h = refl
given_all kind (v ∷ vs) h = ap (λ b. b && list_all is_given vs) (given_one (is_given v) (same_kind (value_kind v) kind) h.0) ∙ given_all kind vs h.1
  where
    given_one : (a b : Bool) → (a && b) ≡ true → a ≡ true
    given_one true b e = refl
    given_one false b e = absurd cc

kinds_one : (a b : Bool) → (a && b) ≡ true → b ≡ true
kinds_one true b e = e
kinds_one false b e = absurd cc

abbrev judged_if : Bool → Kind → Kind → Judged
judged_if same kind found = if same then Ok kind else Err (TypeMismatch kind found)

alike_by : (kind found : Kind) (rest : Judged) → same_kind found kind ≡ true → then_judge (kind_or_mismatch kind found) (λ k. rest) ≡ rest
alike_by kind found rest e = ap (λ (same : Bool). then_judge (judged_if same kind found) (λ k. rest)) e

values_alike : (kind : Kind) (vs : List Value) → AllByRecursion (λ v. is_of kind v ≡ true) vs → all_of kind (map (λ v. Ok (value_kind v)) vs) ≡ Ok kind
values_alike kind [] h = refl
values_alike kind (v ∷ vs) h =
    alike_by kind (value_kind v) (all_of kind (map (λ (w : Value). Ok (value_kind w)) vs)) (kinds_one (is_given v) (same_kind (value_kind v) kind) h.0) ∙ values_alike kind vs h.1

normal_in : (a : Expr) (vs : List Value) → normal a ≡ a → normal (expr.InList false a vs) ≡ expr.InList false a vs
unfolding normal
normal_in a vs p = fold-InList Expr normal_level false a vs ∙ ap (λ x. roll-Expr (Expr-F.InList false x vs)) p ∙ expr.rolls-InList false a vs

full_in : (a : Expr) (vs : List Value) → has_full_lists a ≡ true → has_full_lists (expr.InList false a vs) ≡ true
unfolding has_full_lists
full_in a vs p = fold-InList Bool full_level false a vs ∙ one_true (fold-Expr Bool full_level a) p

lacks_in : (a : Expr) (vs : List Value) → has_aggregate a ≡ false → has_aggregate (expr.InList false a vs) ≡ false
unfolding has_aggregate
lacks_in a vs p = fold-InList Bool aggregate_level false a vs ∙ ap (λ x. x || false) p

pub in_stands : (schema : Catalog) (sources : List Origin) (kind : Kind) (a : Expr) (vs : List Value) → Stands schema sources kind a → AllByRecursion (λ v. is_of kind v ≡ true) vs
    → Stands schema sources kinds.Boolean (expr.InList false a vs)
in_stands schema sources kind a vs one h =
    let scope : Scope = map (λ origin. origin.table) sources in
    let names : Names = map (name_of schema) sources in
    record {
      fitting =
          fits-InList schema scope false a vs
          ∙ ap (λ b. b && (fits schema a scope && true)) (given_all kind vs h)
          ∙ one_true (fits schema a scope) one.fitting;
      typed =
          judged-InList schema scope false a vs
          ∙ ap (λ (j : Judged). gives kinds.Boolean (all_alike (j ∷ map (λ (v : Value). Ok (value_kind v)) vs))) one.typed
          ∙ ap (gives kinds.Boolean) (values_alike kind vs h);
      in_normal_form = normal_in a vs one.in_normal_form;
      full_lists = full_in a vs one.full_lists;
      apart = apart-InList schema names a vs ∙ one_true (names_apart schema a names) one.apart;
      no_aggregate = lacks_in a vs one.no_aggregate;
    }

-- ---- several conditions

all_fitting : (schema : Catalog) (sources : List Origin) (es : List Expr) → AllByRecursion (Stands schema sources kinds.Boolean) es
    → list_all (λ (holds : Scope → Bool). holds (map (λ origin. origin.table) sources)) (map (fits schema) es) ≡ true
all_fitting schema sources [] h = refl
all_fitting schema sources (e ∷ es) h =
    ap (λ b. b && list_all (λ (holds : Scope → Bool). holds (map (λ origin. origin.table) sources)) (map (fits schema) es)) h.0.fitting ∙ all_fitting schema sources es h.1

all_boolean : (schema : Catalog) (sources : List Origin) (es : List Expr) → AllByRecursion (Stands schema sources kinds.Boolean) es
    → all_of kinds.Boolean (in_scope (map (λ origin. origin.table) sources) (map (expression_kind schema) es)) ≡ Ok kinds.Boolean
all_boolean schema sources [] h = refl
all_boolean schema sources (e ∷ es) h =
    ap (λ (j : Judged). all_of kinds.Boolean (j ∷ in_scope (map (λ origin. origin.table) sources) (map (expression_kind schema) es))) h.0.typed ∙ all_boolean schema sources es h.1

all_apart : (schema : Catalog) (sources : List Origin) (es : List Expr) → AllByRecursion (Stands schema sources kinds.Boolean) es
    → list_all (λ (apart : Names → Bool). apart (map (name_of schema) sources)) (map (names_apart schema) es) ≡ true
all_apart schema sources [] h = refl
all_apart schema sources (e ∷ es) h =
    ap (λ b. b && list_all (λ (apart : Names → Bool). apart (map (name_of schema) sources)) (map (names_apart schema) es)) h.0.apart ∙ all_apart schema sources es h.1

all_full : (schema : Catalog) (sources : List Origin) (es : List Expr) → AllByRecursion (Stands schema sources kinds.Boolean) es → list_all (λ full. full) (map has_full_lists es) ≡ true
all_full schema sources [] h = refl
all_full schema sources (e ∷ es) h = ap (λ b. b && list_all (λ (full : Bool). full) (map has_full_lists es)) h.0.full_lists ∙ all_full schema sources es h.1

all_lack : (schema : Catalog) (sources : List Origin) (es : List Expr) → AllByRecursion (Stands schema sources kinds.Boolean) es → list_any (λ has. has) (map has_aggregate es) ≡ false
all_lack schema sources [] h = refl
all_lack schema sources (e ∷ es) h = ap (λ b. b || list_any (λ (has : Bool). has) (map has_aggregate es)) h.0.no_aggregate ∙ all_lack schema sources es h.1

-- what stands in a list of its own kind is spliced into it, and nothing else
parts_stay : (parts : Expr → List Expr) (schema : Catalog) (sources : List Origin) (es : List Expr) → AllByRecursion (Stands schema sources kinds.Boolean) es → AllByRecursion (λ e. parts e ≡ e ∷ []) es
    → joined_parts parts (map normal es) ≡ es
parts_stay parts schema sources [] h g = refl
parts_stay parts schema sources (e ∷ es) h g =
    ap (λ x. parts x ++ joined_parts parts (map normal es)) h.0.in_normal_form
    ∙ ap (λ xs. xs ++ joined_parts parts (map normal es)) g.0
    ∙ ap (λ xs. e ∷ xs) (parts_stay parts schema sources es h.1 g.1)

normal_and : (es : List Expr) → joined_parts and_parts (map normal es) ≡ es → normal (expr.And es) ≡ expr.And es
unfolding normal
normal_and es p = fold-And Expr normal_level es ∙ ap expr.And p

normal_or : (es : List Expr) → joined_parts or_parts (map normal es) ≡ es → normal (expr.Or es) ≡ expr.Or es
unfolding normal
normal_or es p = fold-Or Expr normal_level es ∙ ap expr.Or p

full_and : (es : List Expr) → nat_lt 1 (length es) ≡ true → list_all (λ full. full) (map has_full_lists es) ≡ true → has_full_lists (expr.And es) ≡ true
unfolding has_full_lists
full_and es p q =
    fold-And Bool full_level es
    ∙ ap (λ (n : ℕ). nat_lt 1 n && list_all (λ (full : Bool). full) (map (fold-Expr Bool full_level) es)) (length-map es (fold-Expr Bool full_level))
    ∙ ap (λ b. b && list_all (λ (full : Bool). full) (map (fold-Expr Bool full_level) es)) p ∙ q

full_or : (es : List Expr) → nat_lt 1 (length es) ≡ true → list_all (λ full. full) (map has_full_lists es) ≡ true → has_full_lists (expr.Or es) ≡ true
unfolding has_full_lists
full_or es p q =
    fold-Or Bool full_level es
    ∙ ap (λ (n : ℕ). nat_lt 1 n && list_all (λ (full : Bool). full) (map (fold-Expr Bool full_level) es)) (length-map es (fold-Expr Bool full_level))
    ∙ ap (λ b. b && list_all (λ (full : Bool). full) (map (fold-Expr Bool full_level) es)) p ∙ q

lacks_and : (es : List Expr) → list_any (λ has. has) (map has_aggregate es) ≡ false → has_aggregate (expr.And es) ≡ false
unfolding has_aggregate
lacks_and es p = fold-And Bool aggregate_level es ∙ p

lacks_or : (es : List Expr) → list_any (λ has. has) (map has_aggregate es) ≡ false → has_aggregate (expr.Or es) ≡ false
unfolding has_aggregate
lacks_or es p = fold-Or Bool aggregate_level es ∙ p

pub and_stands : (schema : Catalog) (sources : List Origin) (es : List Expr) → 2 ≤ length es → AllByRecursion (Stands schema sources kinds.Boolean) es → AllByRecursion (λ e. and_parts e ≡ e ∷ []) es
    → Stands schema sources kinds.Boolean (expr.And es)
and_stands schema sources es two h g =
    let scope : Scope = map (λ origin. origin.table) sources in
    let names : Names = map (name_of schema) sources in
    record {
      fitting = fits-And schema scope es ∙ all_fitting schema sources es h;
      typed = judged-And schema scope es ∙ all_boolean schema sources es h;
      in_normal_form = normal_and es (parts_stay and_parts schema sources es h g);
      full_lists = full_and es (lt-ltb 1 (length es) (omega (arith, two))) (all_full schema sources es h);
      apart = apart-And schema names es ∙ all_apart schema sources es h;
      no_aggregate = lacks_and es (all_lack schema sources es h);
    }

pub or_stands : (schema : Catalog) (sources : List Origin) (es : List Expr) → 2 ≤ length es → AllByRecursion (Stands schema sources kinds.Boolean) es → AllByRecursion (λ e. or_parts e ≡ e ∷ []) es
    → Stands schema sources kinds.Boolean (expr.Or es)
or_stands schema sources es two h g =
    let scope : Scope = map (λ origin. origin.table) sources in
    let names : Names = map (name_of schema) sources in
    record {
      fitting = fits-Or schema scope es ∙ all_fitting schema sources es h;
      typed = judged-Or schema scope es ∙ all_boolean schema sources es h;
      in_normal_form = normal_or es (parts_stay or_parts schema sources es h g);
      full_lists = full_or es (lt-ltb 1 (length es) (omega (arith, two))) (all_full schema sources es h);
      apart = apart-Or schema names es ∙ all_apart schema sources es h;
      no_aggregate = lacks_or es (all_lack schema sources es h);
    }

-- ---- what is no list of conditions

pub equal_whole : (a b : Expr) → and_parts (expr.Compare Equal a b) ≡ expr.Compare Equal a b ∷ []
unfolding and_parts
equal_whole a b = ap (and_parts_at (expr.Compare Equal a b)) (expr.outs-Compare Equal a b)

pub equal_whole_or : (a b : Expr) → or_parts (expr.Compare Equal a b) ≡ expr.Compare Equal a b ∷ []
unfolding or_parts
equal_whole_or a b = ap (or_parts_at (expr.Compare Equal a b)) (expr.outs-Compare Equal a b)

pub in_whole : (a : Expr) (vs : List Value) → and_parts (expr.InList false a vs) ≡ expr.InList false a vs ∷ []
unfolding and_parts
in_whole a vs = ap (and_parts_at (expr.InList false a vs)) (expr.outs-InList false a vs)

pub or_whole : (es : List Expr) → and_parts (expr.Or es) ≡ expr.Or es ∷ []
unfolding and_parts
or_whole es = ap (and_parts_at (expr.Or es)) (expr.outs-Or es)

pub and_whole_or : (es : List Expr) → or_parts (expr.And es) ≡ expr.And es ∷ []
unfolding or_parts
and_whole_or es = ap (or_parts_at (expr.And es)) (expr.outs-And es)
