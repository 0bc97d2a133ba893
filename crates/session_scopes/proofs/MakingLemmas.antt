-- Values that are given for attributes, and the cells that get them.
use Rattle.std.proofs.Common.{◌≡◌, ℕ, ◌+◌, ◌<◌, ◌≤◌, Bool, true, false, List, [], ◌∷◌, length, get_or, drop, Option, None, Some, Ok, refl, sym, ap, ◌∙◌, subst}
use Rattle.std.specs.Prelude.{if◌then◌else◌}
use Rattle.std.proofs.lemmas.Bool.{and_from}
use Rattle.std.proofs.lemmas.List.{drop_all, drop_more}
use Rattle.base_core.specs.declared.ids.AttrNo.{AttrNo}
use Rattle.base_core.specs.declared.ids.ClassId.{ClassId}
use Rattle.base_core.specs.declared.ids.ObjId.{ObjId}
use Rattle.base_core.specs.declared.value.Kind.{Kind}
use Rattle.base_core.specs.declared.value.Value.{Value}
use Rattle.base_core.specs.declared.refusal.Refusal.{Refusal}
use Rattle.base_core.specs.declared.refusal.Refusal.TheVariants.{TypeMismatch}
use Rattle.schema_core.specs.Catalog.{same_kind}
use Rattle.schema_core.specs.Refusals.{kind_fault}
use Rattle.schema_core.specs.Tables.{kind_of_value}
use Rattle.class_mapping.specs.Mapped.{Mapped, attribute_of}
use Rattle.object_arena.specs.Fit.{cell_fits, is_of_kind, value_fits}
use Rattle.object_arena.specs.declared.object.Object.{Object}
use Rattle.object_arena.specs.Graph.{Graph, IsObject, cell_put, either_fault, make, object_at, with_cell}
use Rattle.object_arena.proofs.TurnLemmas.{with_same, written_twice}
use Rattle.keeper_core.specs.Programs.{quiet}
use Rattle.session_scopes.specs.Making.{first_given_fault, given_fault, made_unless, made_with, object_made, object_with, unwritten_cell, with_given}
use Rattle.session_scopes.specs.SessionState.{SessionState}

-- ---- the first that is of another kind

faults_from : (mapped : Mapped) (class : ClassId) (given : List (AttrNo × Value)) (i : ℕ) (one : AttrNo × Value) (whole : Option Refusal) → i < length given → one ≡ get_or given i one → first_given_fault mapped class (drop i given) ≡ whole
    → either_fault (given_fault mapped class one) (first_given_fault mapped class (drop (i + 1) given)) ≡ whole
faults_from mapped class given i one whole less is so_far =
    ap (λ (g : AttrNo × Value). either_fault (given_fault mapped class g) (first_given_fault mapped class (drop (i + 1) given))) is
    ∙ sym (ap (first_given_fault mapped class) (drop_more given i one less)) ∙ so_far

-- a value that is taken, and then the others
pub fault_passed : (mapped : Mapped) (class : ClassId) (given : List (AttrNo × Value)) (i : ℕ) (one : AttrNo × Value) (whole : Option Refusal) → i < length given → one ≡ get_or given i one → None ≡ given_fault mapped class one
    → first_given_fault mapped class (drop i given) ≡ whole → first_given_fault mapped class (drop (i + 1) given) ≡ whole
fault_passed mapped class given i one whole less is taken so_far =
    ap (λ (f : Option Refusal). either_fault f (first_given_fault mapped class (drop (i + 1) given))) taken ∙ faults_from mapped class given i one whole less is so_far

-- a value that is not taken is the first
pub fault_found : (mapped : Mapped) (class : ClassId) (given : List (AttrNo × Value)) (i : ℕ) (one : AttrNo × Value) (whole : Option Refusal) (fault : Refusal) → i < length given → one ≡ get_or given i one → Some fault ≡ given_fault mapped class one
    → first_given_fault mapped class (drop i given) ≡ whole → Some fault ≡ whole
fault_found mapped class given i one whole fault less is refused so_far =
    ap (λ (f : Option Refusal). either_fault f (first_given_fault mapped class (drop (i + 1) given))) refused ∙ faults_from mapped class given i one whole less is so_far

-- all are taken
pub fault_none : (mapped : Mapped) (class : ClassId) (given : List (AttrNo × Value)) (i : ℕ) (whole : Option Refusal) → length given ≤ i → first_given_fault mapped class (drop i given) ≡ whole → None ≡ whole
fault_none mapped class given i whole ended so_far = sym (ap (first_given_fault mapped class) (drop_all i given ended)) ∙ so_far

pub ruleset faults = (fault_passed, fault_found, fault_none)

none_of_two : (first second : Option Refusal) → either_fault first second ≡ None → (first ≡ None) × (second ≡ None)
none_of_two None second h = (refl, h)
none_of_two (Some fault) second h = absurd cc

-- where all are taken, the first is and the others are
pub taken_both : (mapped : Mapped) (class : ClassId) (all : List (AttrNo × Value)) (one : AttrNo × Value) (others : List (AttrNo × Value)) → all ≡ one ∷ others → first_given_fault mapped class all ≡ None
    → (given_fault mapped class one ≡ None) × (first_given_fault mapped class others ≡ None)
taken_both mapped class all one others is none = none_of_two (given_fault mapped class one) (first_given_fault mapped class others) (sym (ap (first_given_fault mapped class) is) ∙ none)

-- ---- a value in a cell

kind_taken : (wanted : Kind) (found : Option Kind) → kind_fault wanted found ≡ None → is_of_kind wanted found ≡ true
kind_taken wanted None h = refl
kind_taken wanted (Some found) h = by (same_kind wanted found) h
  where
    by : (same : Bool) → (if same then None else Some (TypeMismatch wanted found)) ≡ None → same ≡ true
    by true none = refl
    by false none = absurd cc

-- a value that is taken fits its cell
pub taken_fits : (mapped : Mapped) (class : ClassId) (attr : AttrNo) (value : Value) → given_fault mapped class (attr, value) ≡ None → cell_fits (attribute_of mapped class attr) (unwritten_cell value) ≡ true
taken_fits mapped class attr value taken = and_from (value_fits (attribute_of mapped class attr) (Some value)) true (kind_taken (attribute_of mapped class attr).kind (kind_of_value value) taken) refl

-- ---- one value after another

-- a value that was put in, and then the others
pub given_more : (graph now : Graph) (object : ObjId) (all others : List (AttrNo × Value)) (one : AttrNo × Value) → IsObject graph object → all ≡ one ∷ others → now ≡ with_cell graph object one.0 (unwritten_cell one.1)
    → with_given now object others ≡ with_given graph object all
given_more graph now object all others one made is put =
    written_twice (λ (o : Object). object_with o others) graph now (with_given now object others) object (cell_put (object_at graph object) one.0 (unwritten_cell one.1)) made put refl
    ∙ sym (ap (λ (given : List (AttrNo × Value)). with_given graph object given) is)

-- none is left
pub given_all : (graph : Graph) (object : ObjId) (left : List (AttrNo × Value)) → left ≡ [] → graph ≡ with_given graph object left
given_all graph object left is = sym (ap (with_given graph object) is ∙ with_same graph object)

-- ---- an object is made

pub made_is : (class : ClassId) (given copy : List (AttrNo × Value)) (old now : SessionState) (object : ObjId) (mid last : Graph) → old ≡ now → first_given_fault old.mapping class given ≡ None → make old.graph old.mapping class ≡ Ok (object, mid)
    → copy ≡ given → last ≡ with_given mid object copy → object_made class given now ≡ quiet (Ok object) (record old { graph = last })
unfolding object_made
made_is class given copy old now object mid last seen none made copied put =
    subst (λ (s : SessionState). object_made class given s ≡ quiet (Ok object) (record old { graph = last })) seen
    (ap (λ (f : Option Refusal). made_unless f given old (make old.graph old.mapping class)) none
    ∙ ap (made_with given old) made
    ∙ sym (ap (λ (g : Graph). quiet (Ok object) (record old { graph = g })) (put ∙ ap (with_given mid object) copied)))
