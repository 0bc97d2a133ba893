-- What stands in scope, and what options are, stays declared.
use Rattle.std.proofs.Common.{◌≡◌, ◌<◌, ℕ, Bool, true, false, cond, not, List, [], ◌∷◌, length, Option, Some, sym, subst}
use Rattle.std.specs.List.{All, filter, find}
use Rattle.std.proofs.lemmas.List.Elements.{All-cons, All-filter, All-head, All-map, All-nil, All-push, All-tail}
use Rattle.base_core.specs.declared.ids.ClassId.{ClassId}
use Rattle.base_core.specs.declared.ids.RelNo.{RelNo}
use Rattle.base_core.specs.declared.ids.TableId.{TableId}
use Rattle.schema_core.specs.Catalog.{IsTable, same_name}
use Rattle.class_types.specs.declared.mapped.Relation.{Relation}
use Rattle.class_mapping.specs.Mapped.{IsClass, Mapped, relations_of}
use Rattle.load_selects.specs.Sources.{target_placement}
use Rattle.query_names.specs.declared.scope.InnerSource.{InnerSource}
use Rattle.query_names.specs.declared.scope.PlacedClass.{PlacedClass}
use Rattle.query_names.specs.declared.scope.QueryScope.{QueryScope}
use Rattle.query_names.specs.declared.sources.QuerySources.{QuerySources}
use Rattle.query_names.specs.Queries.{AreRelations, joined_among, selectin_among}
use Rattle.query_names.specs.Scopes.{AreDeclared, IsScope, scope_within, source_meant}
use Rattle.query_names.specs.Sources.{scope_of, source_count, with_relation}

same_some : {X : Type 0} (a b : X) → Some a ≡ Some b → a ≡ b
same_some a b is = cc

found_at : {X : Type 0} (P : X → Type 0) (b : Bool) (y x : X) (rest : Option X) → P y → (rest ≡ Some x → P x) → cond b (Some y) rest ≡ Some x → P x
found_at P true y x rest h g is = subst P (same_some y x is) h
found_at P false y x rest h g is = g is

-- what holds of all holds of the one that is found
found_holds : {X : Type 0} (P : X → Type 0) (test : X → Bool) (xs : List X) (x : X) → All P xs → find test xs ≡ Some x → P x
found_holds P test [] x h is = absurd cc
found_holds P test (y ∷ ys) x h is = found_at P (test y) y x (find test ys) (All-head P y ys h) (λ e. found_holds P test ys x (All-tail P y ys h) e) is

-- a source of an `exists` that a name means has a declared table
pub source_stands : (mapped : Mapped) (scope : QueryScope) (name : List ℕ) (source : InnerSource) → IsScope mapped scope → source_meant scope.inner name ≡ Some source → IsTable mapped.schema source.table
source_stands mapped scope name source is found = found_holds (λ (s : InnerSource). IsTable mapped.schema s.table) (λ source. same_name source.name name) scope.inner source is.inner found

-- one source more
pub within_stands : (mapped : Mapped) (scope inner : QueryScope) (name : List ℕ) (table : TableId) → inner ≡ scope_within scope name table → IsScope mapped scope → IsTable mapped.schema table → IsScope mapped inner
within_stands mapped scope inner name table same is there = subst (IsScope mapped) (sym same) (record {
  classes = is.classes;
  inner = All-cons (λ (s : InnerSource). IsTable mapped.schema s.table) (record { name = name; table = table; place = scope.sources }) scope.inner there is.inner;
})

-- the query's own scope
pub query_stands : (mapped : Mapped) (sources : QuerySources) (scope : QueryScope) → scope ≡ scope_of sources → AreDeclared mapped sources.classes → IsScope mapped scope
query_stands mapped sources scope same declared = subst (IsScope mapped) (sym same) (record { classes = declared; inner = All-nil (λ (s : InnerSource). IsTable mapped.schema s.table) })

-- one class more
pub joined_stand : (mapped : Mapped) (owner : PlacedClass) (relation : Relation) (old new : QuerySources) → new ≡ with_relation mapped owner relation old → AreDeclared mapped old.classes → IsClass mapped relation.target → AreDeclared mapped new.classes
joined_stand mapped owner relation old new same declared target =
    subst (λ (s : QuerySources). AreDeclared mapped s.classes) (sym same)
    (All-push (λ (placed : PlacedClass). IsClass mapped placed.class) old.classes (record { class = relation.target; placement = target_placement mapped relation (source_count old) }) declared target)

abbrev pub AreOptions : Mapped → ClassId → List (Bool × RelNo) → Type 0
AreOptions mapped class options = All (λ (it : Bool × RelNo). it.1.0 < length (relations_of mapped class)) options

-- the options of both kinds are relationships of the class
pub joined_exist : (mapped : Mapped) (class : ClassId) (options : List (Bool × RelNo)) → AreOptions mapped class options → AreRelations mapped class (joined_among options)
joined_exist mapped class options h =
    All-map (λ (place : RelNo). place.0 < length (relations_of mapped class)) (λ (it : Bool × RelNo). it.1) (filter (λ (it : Bool × RelNo). it.0) options)
    (All-filter (λ (it : Bool × RelNo). it.0) (λ (it : Bool × RelNo). it.1.0 < length (relations_of mapped class)) options h)

pub selectin_exist : (mapped : Mapped) (class : ClassId) (options : List (Bool × RelNo)) → AreOptions mapped class options → AreRelations mapped class (selectin_among options)
selectin_exist mapped class options h =
    All-map (λ (place : RelNo). place.0 < length (relations_of mapped class)) (λ (it : Bool × RelNo). it.1) (filter (λ (it : Bool × RelNo). not it.0) options)
    (All-filter (λ (it : Bool × RelNo). not it.0) (λ (it : Bool × RelNo). it.1.0 < length (relations_of mapped class)) options h)

pub ruleset standing = (source_stands, within_stands, query_stands, joined_stand)
