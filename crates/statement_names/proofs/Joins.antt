-- Joins in order, each under the sources up to its own; and the parts of a select.
use Rattle.std.proofs.Common.{◌≡◌, ℕ, ◌+◌, ◌<◌, List, [], ◌∷◌, ◌++◌, length, get_or, drop, take, map, Bool, Option, Result, refl, sym, ap, subst, ◌∙◌}
use Rattle.std.proofs.lemmas.List.{append_assoc, drop_more, map-append, take_more}
use Rattle.std.specs.List.{flat_map}
use Rattle.std.specs.Option.{option_map}
use Rattle.base_core.specs.declared.refusal.Refusal.{Refusal}
use Rattle.schema_core.specs.Catalog.{Catalog}
use Rattle.expr_types.specs.declared.expr.Expr.{Expr}
use Rattle.expr_types.specs.declared.expr.Origin.{Origin}
use Rattle.expr_types.specs.declared.select.Joined.{Joined}
use Rattle.expr_types.specs.declared.select.Select.{Select}
use Rattle.script_types.specs.declared.expression.SynSource.{SynSource}
use Rattle.script_types.specs.declared.select.SynJoin.{SynJoin}
use Rattle.script_types.specs.declared.select.SynSelect.{SynSelect}
use Rattle.script_names.specs.Faults.{IsFirst, TellsFirst, faults_if_given, pair_or_refusal}
use Rattle.script_names.specs.Naming.{faults_in, name_faults, named_expression, named_origin, said_in, source_faults}
use Rattle.script_names.specs.Scopes.{Scope, outer_scope}
use Rattle.statement_names.specs.SelectNames.{faults_under, join_faults, joins_faults, named_join, named_joins, named_under}
use Rattle.script_names.proofs.Firsts.{first_left, told_pair}
use Rattle.script_names.proofs.Places.{outer_scope_push}

-- one more source in scope
entered : (scope new : Scope) (source : SynSource) (before : List SynSource) → scope ≡ outer_scope before → new ≡ scope ++ (length scope, source) ∷ [] → new ≡ outer_scope (before ++ source ∷ [])
entered scope new source before at h = h ∙ (ap (λ s. s ++ (length s, source) ∷ []) at ∙ sym (outer_scope_push before source))

pub written_more : (first : SynSource) (joins : List SynJoin) (i : ℕ) (join : SynJoin) (scope new : Scope) → i < length joins → join ≡ get_or joins i join → scope ≡ outer_scope (first ∷ map (λ j. j.source) (take i joins))
    → new ≡ scope ++ (length scope, join.source) ∷ [] → new ≡ outer_scope (first ∷ map (λ j. j.source) (take (i + 1) joins))
written_more first joins i join scope new inside is at h =
    let source = λ (j : SynJoin). j.source in
    let more : take (i + 1) joins ≡ take i joins ++ join ∷ [] = take_more joins i join inside ∙ ap (λ j. take i joins ++ j ∷ []) (sym is) in
    entered scope new join.source (first ∷ map source (take i joins)) at h ∙ ap (λ sources. outer_scope (first ∷ sources)) (sym (ap (map source) more ∙ map-append source (take i joins) (join ∷ [])))

module _ (schema : Catalog) (first : SynSource) (joins : List SynJoin) where
  -- so many joins are named, and have no fault
  abbrev pub Reaches : Scope → List Joined → ℕ → Type 0
  Reaches scope named i =
      (before : List SynSource) × (scope ≡ outer_scope before) × (named ++ named_joins schema before (drop i joins) ≡ named_joins schema (first ∷ []) joins)
      × (joins_faults schema before (drop i joins) ≡ joins_faults schema (first ∷ []) joins)

  here : (i : ℕ) (join : SynJoin) → i < length joins → join ≡ get_or joins i join → drop i joins ≡ join ∷ drop (i + 1) joins
  here i join inside is = drop_more joins i join inside ∙ ap (λ j. j ∷ drop (i + 1) joins) (sym is)

  pub starts : (scope : Scope) (named : List Joined) → scope ≡ outer_scope (first ∷ []) → named ≡ [] → Reaches scope named 0
  starts scope named at none = (first ∷ [], at, ap (λ js. js ++ named_joins schema (first ∷ []) joins) none, refl)

  pub stopped : (scope new : Scope) (named : List Joined) (i : ℕ) (join : SynJoin) (e : Refusal) → i < length joins → join ≡ get_or joins i join → Reaches scope named i
      → new ≡ scope ++ (length scope, join.source) ∷ [] → IsFirst e (join_faults schema new join) → IsFirst e (joins_faults schema (first ∷ []) joins)
  stopped scope new named i join e inside is reach h told =
      let before : List SynSource = reach.0 in
      let more : List SynSource = before ++ join.source ∷ [] in
      let at : new ≡ outer_scope more = entered scope new join.source before reach.1 h in
      let one : IsFirst e (join_faults schema (outer_scope more) join ++ joins_faults schema more (drop (i + 1) joins)) =
      first_left e (join_faults schema (outer_scope more) join) (joins_faults schema more (drop (i + 1) joins)) (subst (λ s. IsFirst e (join_faults schema s join)) at told) in
      let all : joins_faults schema before (join ∷ drop (i + 1) joins) ≡ joins_faults schema (first ∷ []) joins = ap (joins_faults schema before) (sym (here i join inside is)) ∙ reach.3 in
      subst (IsFirst e) all one

  pub goes_on : (scope new : Scope) (named named' : List Joined) (i : ℕ) (join : SynJoin) (n : Joined) → i < length joins → join ≡ get_or joins i join → Reaches scope named i
      → new ≡ scope ++ (length scope, join.source) ∷ [] → n ≡ named_join schema new join → join_faults schema new join ≡ [] → named' ≡ named ++ n ∷ [] → Reaches new named' (i + 1)
  goes_on scope new named named' i join n inside is reach h value none push =
      let before : List SynSource = reach.0 in
      let more : List SynSource = before ++ join.source ∷ [] in
      let rest : List SynJoin = drop (i + 1) joins in
      let at : new ≡ outer_scope more = entered scope new join.source before reach.1 h in
      let one : n ≡ named_join schema (outer_scope more) join = value ∙ ap (λ s. named_join schema s join) at in
      let free : join_faults schema (outer_scope more) join ≡ [] = ap (λ s. join_faults schema s join) (sym at) ∙ none in
      let said : named' ++ named_joins schema more rest ≡ named ++ named_joins schema before (join ∷ rest) =
      ap (λ js. js ++ named_joins schema more rest) push ∙ (append_assoc named (n ∷ []) (named_joins schema more rest) ∙ ap (λ j. named ++ j ∷ named_joins schema more rest) one) in
      let faults : joins_faults schema more rest ≡ joins_faults schema before (join ∷ rest) = ap (λ xs. xs ++ joins_faults schema more rest) (sym free) in
      (more, at, said ∙ (ap (λ js. named ++ named_joins schema before js) (sym (here i join inside is)) ∙ reach.2), faults ∙ (ap (joins_faults schema before) (sym (here i join inside is)) ∙ reach.3))

regroup : (a b c d e f g : List Refusal) → a ++ b ++ c ++ d ++ e ++ f ++ g ≡ a ++ (b ++ (c ++ (d ++ (e ++ (f ++ g)))))
regroup a b c d e f g = simp append_assoc

-- the parts of a select, asked in reading order
pub select_told : (schema : Catalog) (scope : Scope) (s : SynSelect) (items : Result (List (Expr × Option (List ℕ))) Refusal) (first : Result Origin Refusal) (joins : Result (List Joined) Refusal) (filter : Result (Option Expr) Refusal)
    (groups : Result (List Expr) Refusal) (having : Result (Option Expr) Refusal) (order : Result (List (Expr × Bool)) Refusal)
    → TellsFirst (flat_map (λ item. name_faults schema item.0 scope) s.items) items → TellsFirst (source_faults schema s.first) first → TellsFirst (joins_faults schema (s.first ∷ []) s.joins) joins
    → TellsFirst (faults_if_given (λ e. name_faults schema e scope) s.filter) filter → TellsFirst (faults_in scope (map (name_faults schema) s.groups)) groups
    → TellsFirst (faults_if_given (λ e. name_faults schema e scope) s.having) having → TellsFirst (flat_map (λ key. name_faults schema key.0 scope) s.order) order
    → TellsFirst (faults_under schema scope s) (pair_or_refusal items (pair_or_refusal first (pair_or_refusal joins (pair_or_refusal filter (pair_or_refusal groups (pair_or_refusal having order))))))
select_told schema scope s items first joins filter groups having order a b c d e f g =
    subst (λ xs. TellsFirst xs (pair_or_refusal items (pair_or_refusal first (pair_or_refusal joins (pair_or_refusal filter (pair_or_refusal groups (pair_or_refusal having order)))))))
    (sym (regroup (flat_map (λ item. name_faults schema item.0 scope) s.items) (source_faults schema s.first) (joins_faults schema (s.first ∷ []) s.joins) (faults_if_given (λ e. name_faults schema e scope) s.filter)
    (faults_in scope (map (name_faults schema) s.groups)) (faults_if_given (λ e. name_faults schema e scope) s.having) (flat_map (λ key. name_faults schema key.0 scope) s.order)))
    (told_pair items _ _ _ a (told_pair first _ _ _ b (told_pair joins _ _ _ c (told_pair filter _ _ _ d (told_pair groups _ _ _ e (told_pair having order _ _ f g))))))

-- a select of its parts
pub select_is : (schema : Catalog) (scope : Scope) (s : SynSelect) (items : List (Expr × Option (List ℕ))) (first : Origin) (joins : List Joined) (filter : Option Expr) (groups : List Expr) (having : Option Expr) (order : List (Expr × Bool))
    → items ≡ map (λ item. (named_expression schema item.0 scope, item.1)) s.items → first ≡ named_origin schema s.first → joins ≡ named_joins schema (s.first ∷ []) s.joins
    → filter ≡ option_map (λ e. named_expression schema e scope) s.filter → groups ≡ said_in scope (map (named_expression schema) s.groups) → having ≡ option_map (λ e. named_expression schema e scope) s.having
    → order ≡ map (λ key. (named_expression schema key.0 scope, key.1)) s.order
    → ◌≡◌ {A = Select} (record { distinct = s.distinct; items = items; first = first; joins = joins; filter = filter; groups = groups; having = having; order = order; limit = s.limit; offset = s.offset }) (named_under schema scope s)
select_is schema scope s items first joins filter groups having order a b c d e f g =
    λ i. record { distinct = s.distinct; items = a i; first = b i; joins = c i; filter = d i; groups = e i; having = f i; order = g i; limit = s.limit; offset = s.offset }
