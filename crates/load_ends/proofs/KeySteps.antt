-- The keys of targets that are to be read, each where it comes first.
use Rattle.std.proofs.Common.{◌≡◌, Bool, true, false, not, ◌||◌, List, [], ◌∷◌, ◌++◌, Result, Ok, Err, OnOk, is_none, if◌then◌else◌, refl, sym, ap, subst, ◌∙◌}
use Rattle.std.proofs.Math.Bool.{or-false, or_comm}
use Rattle.std.specs.BTreeSet.{BTreeSet, contains}
use Rattle.std.specs.List.{All, list_any}
use Rattle.std.proofs.lemmas.Bool.{and_parts}
use Rattle.std.proofs.lemmas.List.Folds.{list_any-append}
use Rattle.base_core.specs.Order.{values_cmp}
use Rattle.base_core.specs.declared.ids.ClassId.{ClassId}
use Rattle.base_core.specs.declared.ids.ObjId.{ObjId}
use Rattle.base_core.specs.declared.value.Value.{Value}
use Rattle.base_core.specs.declared.refusal.Refusal.{Refusal}
use Rattle.schema_core.specs.Tables.{has_null, same_values}
use Rattle.class_types.specs.declared.mapped.Relation.{Relation}
use Rattle.class_mapping.specs.Mapped.{Mapped, root_of}
use Rattle.object_arena.specs.Graph.{Graph}
use Rattle.object_arena.specs.Identity.{find_identity}
use Rattle.join_keys.proofs.KeyedRows.{same_row_equiv}
use Rattle.load_batches.proofs.OwnerSteps.{owned_more}
use Rattle.load_ends.specs.Ends.{HasSeen, is_wanted, key_of, with_first, with_key_of, with_wanted}

abbrev Keys : Type 0
Keys = List (List Value)

-- ---- a set beside the keys

-- a key that was seen goes nowhere
pub seen_first : (seen : BTreeSet (List Value)) (keys : Keys) (key : List Value) (b : Bool) → HasSeen seen keys → b ≡ contains values_cmp seen key → b ≡ true → keys ≡ with_first keys key
seen_first seen keys key b has asked so = sym (ap (λ (c : Bool). if c then keys else (keys ++ key ∷ [])) (sym (has.same key) ∙ sym asked ∙ so))

-- one that was not goes behind the others
pub new_first : {E : Type 0} (seen : BTreeSet (List Value)) (keys new : Keys) (key : List Value) (b : Bool) (r : Result (Unit {0}) E) → HasSeen seen keys → b ≡ contains values_cmp seen key → b ≡ false → OnOk r (new ≡ keys ++ key ∷ [])
    → OnOk r (new ≡ with_first keys key)
new_first seen keys new key b (Ok u) has asked so pushed =
    pushed ∙ sym (ap (λ (c : Bool). if c then keys else (keys ++ key ∷ [])) (sym (has.same key) ∙ sym asked ∙ so))
new_first seen keys new key b (Err e) has asked so pushed = tt

-- the set has one more then
pub seen_more : {E : Type 0} (seen more : BTreeSet (List Value)) (keys new : Keys) (key : List Value) (r : Result (Unit {0}) E) → HasSeen seen keys
    → ((other : List Value) → contains values_cmp more other ≡ (same_values key other || contains values_cmp seen other)) → OnOk r (new ≡ keys ++ key ∷ []) → OnOk r (HasSeen more new)
seen_more seen more keys new key (Ok u) has entered pushed = record {
  same = λ other.
      entered other ∙ ap (λ (b : Bool). same_values key other || b) (has.same other)
      ∙ or_comm (same_values key other) (list_any (same_values other) keys)
      ∙ ap (λ (b : Bool). list_any (same_values other) keys || b) (same_row_equiv.symm key other ∙ sym (or-false (same_values other key)))
      ∙ sym (list_any-append (same_values other) keys (key ∷ [])) ∙ ap (λ (xs : Keys). list_any (same_values other) xs) (sym pushed);
}
seen_more seen more keys new key (Err e) has entered pushed = tt

-- ---- one owner more

-- its key is not to be read
pub not_wanted : (mapped : Mapped) (relation : Relation) (graph : Graph) (keys : Keys) (owner : ObjId) (key : List Value) (b : Bool) → key ≡ key_of mapped relation graph owner → b ≡ is_wanted mapped relation.target graph key → b ≡ false
    → keys ≡ with_key_of mapped relation graph keys owner
not_wanted mapped relation graph keys owner key b named asked so =
    sym (ap (λ (k : List Value). with_wanted mapped relation.target graph keys k) (sym named)
    ∙ ap (λ (c : Bool). if c then with_first keys key else keys) (sym asked ∙ so))

-- it is
pub is_put : {E : Type 0} (mapped : Mapped) (relation : Relation) (graph : Graph) (keys new : Keys) (owner : ObjId) (key : List Value) (b : Bool) (r : Result (Unit {0}) E) → key ≡ key_of mapped relation graph owner
    → b ≡ is_wanted mapped relation.target graph key → b ≡ true → OnOk r (new ≡ with_first keys key) → OnOk r (new ≡ with_key_of mapped relation graph keys owner)
is_put mapped relation graph keys new owner key b (Ok u) named asked so put =
    put
    ∙ sym (ap (λ (k : List Value). with_wanted mapped relation.target graph keys k) (sym named)
    ∙ ap (λ (c : Bool). if c then with_first keys key else keys) (sym asked ∙ so))
is_put mapped relation graph keys new owner key b (Err e) named asked so put = tt

true_not : (b : Bool) → not b ≡ true → b ≡ false
true_not true h = sym h
true_not false h = refl

-- a key that is to be read has no NULL
pub wanted_given : (mapped : Mapped) (class : ClassId) (graph : Graph) (key : List Value) (b : Bool) → b ≡ is_wanted mapped class graph key → b ≡ true → has_null key ≡ false
wanted_given mapped class graph key b asked so =
    true_not (has_null key) (and_parts (not (has_null key)) (is_none (find_identity graph (root_of mapped class) key)) (sym asked ∙ so)).0

first_by : (P : List Value → Type 0) (keys : Keys) (key : List Value) (b : Bool) → P key → All P keys → All P (if b then keys else (keys ++ key ∷ []))
first_by P keys key true one all = all
first_by P keys key false one all = owned_more P key keys (keys ++ key ∷ []) (let r : Result (Unit {0}) Refusal = Ok tt in r) one refl all

-- what is said of all keys is said of them with one more
pub first_all : {E : Type 0} (P : List Value → Type 0) (keys new : Keys) (key : List Value) (r : Result (Unit {0}) E) → P key → OnOk r (new ≡ with_first keys key) → All P keys → OnOk r (All P new)
first_all P keys new key (Ok u) one put all = subst (All P) (sym put) (first_by P keys key (list_any (same_values key) keys) one all)
first_all P keys new key (Err e) one put all = tt
