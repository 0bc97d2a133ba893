-- Which refusals the faults of statements are.
use Rattle.std.proofs.Common.{◌≡◌, ℕ, Bool, true, false, cond, List, [], ◌∷◌, ◌++◌, map, Option, Some, None, Result, Ok, Err, refl, sym, ap, subst, ◌∙◌}
use Rattle.std.specs.Prelude.{IfErr}
use Rattle.std.specs.List.{AllByRecursion, flat_map}
use Rattle.base_core.specs.Answers.{Gives}
use Rattle.base_core.specs.declared.ids.TableId.{TableId}
use Rattle.base_core.specs.declared.refusal.Refusal.{Refusal}
use Rattle.base_core.specs.declared.refusal.Refusal.TheVariants.{InvalidRequestError, Memory, TypeMismatch}
use Rattle.base_core.specs.declared.refusal.RequestKind.{RequestKind}
use Rattle.base_core.specs.declared.refusal.RequestKind.TheVariants.{WrongKind}
use Rattle.base_core.specs.declared.value.Kind.{Kind}
use Rattle.base_core.specs.declared.value.Kind.TheVariants as kinds
use Rattle.base_core.specs.declared.value.Value.{Value}
use Rattle.schema_core.specs.Catalog.{Catalog, find_table, same_kind}
use Rattle.expr_types.specs.declared.expr.Expr.{Expr}
use Rattle.expr_types.specs.declared.expr.Expr.TheOpen.{Expr-F}
use Rattle.expr_types.specs.declared.expr.Expr.TheFolds.{map-Expr}
use Rattle.expr_types.specs.declared.expr.Func.{Func}
use Rattle.expr_types.specs.declared.expr.Func.TheVariants.{Count, Sum, Min, Max, Lower, Upper, Length, Coalesce}
use Rattle.expr_types.proofs.Folds.{bare, by_levels}
use Rattle.sql_semantics.specs.Kinds.{Judged, Scope as Tables, all_alike, all_of, call_kind, expression_kind, gives, in_scope, judged_level, kind_or_mismatch, then_judge, value_kind}
use Rattle.sql_semantics.proofs.Equations.{judged_rolled}
use Rattle.script_types.specs.declared.expression.Syn.{Syn, roll-Syn}
use Rattle.script_types.specs.declared.expression.Syn.TheOpen.{Syn-F}
use Rattle.script_types.specs.declared.expression.Syn.TheFolds.{fold-roll-Syn, map-Syn}
use Rattle.script_names.specs.Faults.{fault_if, faults_if_given, unless}
use Rattle.script_names.specs.Parts.{operands}
use Rattle.script_names.specs.Scopes.{PathMeaning, Scope, path_in, scope_below}
use Rattle.script_names.specs.Naming.{faults_behind, faults_before, faults_in, name_faults, name_faults_level, path_faults, table_faults, unknown_if_none}
use Rattle.script_names.proofs.Folds.{bare as bare_syn, by_levels as by_syn_levels}
use Rattle.script_names.proofs.Operands.{operands_map}
use Rattle.statement_kinds.specs.Mismatches.{fault_of}
use Rattle.script_resolve.specs.Refusals.{CanRefuse}

-- ---- lists

abbrev pub Causes : List Refusal → Type 0
Causes = AllByRecursion CanRefuse

pub causes_both : (xs ys : List Refusal) → Causes xs → Causes ys → Causes (xs ++ ys)
causes_both [] ys h g = g
causes_both (x ∷ xs) ys h g = (h.0, causes_both xs ys h.1 g)

pub causes_each : {A : Type 0} (f : A → List Refusal) (xs : List A) → ((x : A) → Causes (f x)) → Causes (flat_map f xs)
causes_each f [] h = tt
causes_each f (x ∷ xs) h = causes_both (f x) (flat_map f xs) (h x) (causes_each f xs h)

pub causes_if : (b : Bool) (kind : RequestKind) → CanRefuse (InvalidRequestError kind) → Causes (fault_if b kind)
causes_if true kind h = (h, tt)
causes_if false kind h = tt

pub causes_given : {A : Type 0} (f : A → List Refusal) (o : Option A) → ((x : A) → Causes (f x)) → Causes (faults_if_given f o)
causes_given f None h = tt
causes_given f (Some x) h = h x

-- the first fault is one of them
pub first_cause : {A X : Type 0} (view : X → A) (r : Result X Refusal) (xs : List Refusal) (a : A) → Gives view r (unless xs a) → Causes xs → IfErr r CanRefuse
first_cause view (Ok x) xs a g h = tt
first_cause view (Err Memory) xs a g h = tt
first_cause view (Err e) [] a g h = absurd cc
first_cause {A = A} view (Err e) (x ∷ xs) a g h = subst CanRefuse (same (Err x) x e refl g) h.0
  where
    same : (r : Result A Refusal) (f e : Refusal) → r ≡ Err f → r ≡ Err e → f ≡ e
    same r f e i j = cc

-- ---- kinds

abbrev pub Fails : Judged → Type 0
Fails r = IfErr r CanRefuse

then_fails : (r : Judged) (next : Kind → Judged) → Fails r → ((kind : Kind) → Fails (next kind)) → Fails (then_judge r next)
then_fails (Ok kind) next h g = g kind
then_fails (Err e) next h g = h

pub kind_fails : (wanted found : Kind) → Fails (kind_or_mismatch wanted found)
kind_fails wanted found = at (same_kind found wanted)
  where
    at : (b : Bool) → Fails (cond b (Ok wanted) (Err (TypeMismatch wanted found)))
    at true = tt
    at false = tt

pub all_fail : (wanted : Kind) (rs : List Judged) → AllByRecursion Fails rs → Fails (all_of wanted rs)
all_fail wanted [] h = tt
all_fail wanted (r ∷ rs) h =
    then_fails r (λ found. then_judge (kind_or_mismatch wanted found) (λ kind. all_of wanted rs)) h.0
    (λ found. then_fails (kind_or_mismatch wanted found) (λ kind. all_of wanted rs) (kind_fails wanted found) (λ kind. all_fail wanted rs h.1))

alike_fail : (rs : List Judged) → AllByRecursion Fails rs → Fails (all_alike rs)
alike_fail [] h = tt
alike_fail (r ∷ rs) h = then_fails r (λ kind. all_of kind rs) h.0 (λ kind. all_fail kind rs h.1)

gives_fails : (kind : Kind) (r : Judged) → Fails r → Fails (gives kind r)
gives_fails kind r h = then_fails r (λ found. Ok kind) h (λ found. tt)

call_fails : (f : Func) (rs : List Judged) → AllByRecursion Fails rs → Fails (call_kind f rs)
call_fails Count rs h = gives_fails kinds.Integer (all_alike rs) (alike_fail rs h)
call_fails Sum rs h = all_fail kinds.Integer rs h
call_fails Min rs h = alike_fail rs h
call_fails Max rs h = alike_fail rs h
call_fails Lower rs h = all_fail kinds.Text rs h
call_fails Upper rs h = all_fail kinds.Text rs h
call_fails Length rs h = gives_fails kinds.Integer (all_of kinds.Text rs) (all_fail kinds.Text rs h)
call_fails Coalesce rs h = alike_fail rs h

values_fail : (vs : List Value) → AllByRecursion Fails (map (λ v. Ok (value_kind v)) vs)
values_fail [] = tt
values_fail (v ∷ vs) = (tt, values_fail vs)

module _ (schema : Catalog) where
  abbrev Kinded : Expr → Type 0
  Kinded e = (scope : Tables) → Fails (expression_kind schema e scope)

  abbrev Known : Type 0
  Known = (e : Expr) × Kinded e

  list_fails : (scope : Tables) (ks : List Known) → AllByRecursion Fails (in_scope scope (map (expression_kind schema) (map (λ (k : Known). k.0) ks)))
  list_fails scope [] = tt
  list_fails scope (k ∷ ks) = (k.1 scope, list_fails scope ks)

  level_fails : (scope : Tables) (y : Expr-F Known) → Fails (judged_level schema (map-Expr Expr (Tables → Judged) (expression_kind schema) (bare y)) scope)
  level_fails scope (Expr-F.Column s c) = tt
  level_fails scope (Expr-F.Lit v) = tt
  level_fails scope (Expr-F.Compare op a b) = gives_fails kinds.Boolean _ (alike_fail (expression_kind schema a.0 scope ∷ expression_kind schema b.0 scope ∷ []) (a.1 scope, (b.1 scope, tt)))
  level_fails scope (Expr-F.IsNull g a) = gives_fails kinds.Boolean (expression_kind schema a.0 scope) (a.1 scope)
  level_fails scope (Expr-F.And ks) = all_fail kinds.Boolean _ (list_fails scope ks)
  level_fails scope (Expr-F.Or ks) = all_fail kinds.Boolean _ (list_fails scope ks)
  level_fails scope (Expr-F.Not a) = all_fail kinds.Boolean (expression_kind schema a.0 scope ∷ []) (a.1 scope, tt)
  level_fails scope (Expr-F.Arith op a b) = all_fail kinds.Integer (expression_kind schema a.0 scope ∷ expression_kind schema b.0 scope ∷ []) (a.1 scope, (b.1 scope, tt))
  level_fails scope (Expr-F.Neg a) = all_fail kinds.Integer (expression_kind schema a.0 scope ∷ []) (a.1 scope, tt)
  level_fails scope (Expr-F.Concat a b) = all_fail kinds.Text (expression_kind schema a.0 scope ∷ expression_kind schema b.0 scope ∷ []) (a.1 scope, (b.1 scope, tt))
  level_fails scope (Expr-F.Like g a b) = gives_fails kinds.Boolean _ (all_fail kinds.Text (expression_kind schema a.0 scope ∷ expression_kind schema b.0 scope ∷ []) (a.1 scope, (b.1 scope, tt)))
  level_fails scope (Expr-F.Ilike g a b) = gives_fails kinds.Boolean _ (all_fail kinds.Text (expression_kind schema a.0 scope ∷ expression_kind schema b.0 scope ∷ []) (a.1 scope, (b.1 scope, tt)))
  level_fails scope (Expr-F.InList g a vs) = gives_fails kinds.Boolean _ (alike_fail (expression_kind schema a.0 scope ∷ map (λ v. Ok (value_kind v)) vs) (a.1 scope, values_fail vs))
  level_fails scope (Expr-F.Between g a low high) =
      gives_fails kinds.Boolean _ (alike_fail (expression_kind schema a.0 scope ∷ expression_kind schema low.0 scope ∷ expression_kind schema high.0 scope ∷ []) (a.1 scope, (low.1 scope, (high.1 scope, tt))))
  level_fails scope (Expr-F.Distinct g a b) = gives_fails kinds.Boolean _ (alike_fail (expression_kind schema a.0 scope ∷ expression_kind schema b.0 scope ∷ []) (a.1 scope, (b.1 scope, tt)))
  level_fails scope (Expr-F.Call f ks) = call_fails f _ (list_fails scope ks)
  level_fails scope Expr-F.CountAll = tt
  level_fails scope (Expr-F.Exists g o a) = all_fail kinds.Boolean (expression_kind schema a.0 (scope ++ o.table ∷ []) ∷ []) (a.1 (scope ++ o.table ∷ []), tt)

  pub kind_causes : (e : Expr) → Kinded e
  kind_causes = by_levels Kinded (λ y scope. subst Fails (sym (judged_rolled schema scope (bare y))) (level_fails scope y))

  -- ---- names

  pub table_causes : (name : List ℕ) → Causes (table_faults schema name)
  table_causes name = at (find_table schema.tables name)
    where
      at : (t : Option TableId) → Causes (unknown_if_none name t)
      at None = (tt, tt)
      at (Some table) = tt

  path_causes : (p : PathMeaning) → Causes (path_faults p)
  path_causes (Ok place) = tt
  path_causes (Err name) = (tt, tt)

  before_causes : {A : Type 0} (scope : Scope) (x : Syn-F A) → Causes (faults_before schema scope x)
  before_causes scope (Syn-F.Path s c) = path_causes (path_in schema scope s c)
  before_causes scope (Syn-F.Exists s a) = table_causes s.table
  before_causes scope x = tt

  behind_causes : {A : Type 0} (x : Syn-F A) → Causes (faults_behind x)
  behind_causes (Syn-F.Call f es) = causes_if _ WrongKind tt
  behind_causes x = tt

  abbrev NamesCause : Syn → Type 0
  NamesCause e = (scope : Scope) → Causes (name_faults schema e scope)

  abbrev NamesKnown : Type 0
  NamesKnown = (e : Syn) × NamesCause e

  list_causes : (scope : Scope) (ks : List NamesKnown) → Causes (faults_in scope (map (name_faults schema) (map (λ (k : NamesKnown). k.0) ks)))
  list_causes scope [] = tt
  list_causes scope (k ∷ ks) = causes_both (name_faults schema k.0 scope) (faults_in scope (map (name_faults schema) (map (λ (k : NamesKnown). k.0) ks))) (k.1 scope) (list_causes scope ks)

  level_causes : (y : Syn-F NamesKnown) → NamesCause (roll-Syn (bare_syn y))
  unfolding name_faults
  level_causes y scope =
      let level : Syn-F (Scope → List Refusal) = map-Syn Syn (Scope → List Refusal) (name_faults schema) (bare_syn y) in
      let listed : operands level ≡ map (name_faults schema) (map (λ (k : NamesKnown). k.0) (operands y)) =
      operands_map (name_faults schema) (bare_syn y) ∙ ap (map (name_faults schema)) (operands_map (λ (k : NamesKnown). k.0) y) in
      let middle : Causes (faults_in (scope_below scope level) (operands level)) =
      subst (λ (fs : List (Scope → List Refusal)). Causes (faults_in (scope_below scope level) fs)) (sym listed) (list_causes (scope_below scope level) (operands y)) in
      let here : Causes (name_faults_level schema level scope) =
      causes_both (faults_before schema scope level ++ faults_in (scope_below scope level) (operands level)) (faults_behind level)
      (causes_both (faults_before schema scope level) (faults_in (scope_below scope level) (operands level)) (before_causes scope level) middle) (behind_causes level) in
      subst Causes (sym (ap (λ (f : Scope → List Refusal). f scope) (fold-roll-Syn (Scope → List Refusal) (name_faults_level schema) (bare_syn y)))) here

  pub names_cause : (e : Syn) → NamesCause e
  names_cause = by_syn_levels NamesCause level_causes

-- the fault of an answer
pub causes_of : {A : Type 0} (r : Result A Refusal) → IfErr r CanRefuse → Causes (fault_of r)
causes_of (Ok a) h = tt
causes_of (Err e) h = (h, tt)
