-- What holds of answers of several steps.
use Rattle.std.proofs.Common.{◌≡◌, ◌<◌, ℕ, Bool, true, false, cond, List, [], ◌∷◌, Option, None, Some, Ok, Err, IfOk, refl, subst}
use Rattle.std.specs.Prelude.{length}
use Rattle.std.specs.List.{AllByRecursion, find}
use Rattle.base_core.specs.declared.ids.ClassId.{ClassId}
use Rattle.base_core.specs.declared.ids.RelNo.{RelNo}
use Rattle.base_core.specs.declared.refusal.Refusal.{Refusal}
use Rattle.sql_semantics.specs.Checked.{Checked, ◌>>=◌}
use Rattle.class_mapping.specs.Mapped.{Mapped, relations_of}
use Rattle.script_names.specs.Faults.{pair_or_refusal, unless}
use Rattle.command_names.specs.declared.members.Member.{Member}
use Rattle.command_names.specs.declared.members.Member.TheVariants.{Attribute, One, Many}
use Rattle.command_names.specs.Attributes.{IsMember, member_named}
use Rattle.command_names.specs.Terms.{found_or_unknown}
use Rattle.query_names.proofs.Meant.{member_is}
use Rattle.query_names.specs.Expressions.{in_order}
use Rattle.query_names.specs.Sources.{as_relation, relation_named}

-- what holds of every answer that is given
pub ok_each : {A : Type 0} (P : A → Type 0) (told : Checked A) → ((a : A) → told ≡ Ok a → P a) → IfOk told P
ok_each P (Ok a) h = h a refl
ok_each P (Err e) h = tt

pub ok_then : {A B : Type 0} (P : B → Type 0) (told : Checked A) (next : A → Checked B) → ((a : A) → IfOk (next a) P) → IfOk (told >>= next) P
ok_then P (Ok a) next h = h a
ok_then P (Err e) next h = tt

pub ok_after : {A B : Type 0} (P : A → Type 0) (Q : B → Type 0) (told : Checked A) (next : A → Checked B) → IfOk told P → ((a : A) → P a → IfOk (next a) Q) → IfOk (told >>= next) Q
ok_after P Q (Ok a) next first h = h a first
ok_after P Q (Err e) next first h = tt

pub ok_unless : {A : Type 0} (P : A → Type 0) (faults : List Refusal) (a : A) → (faults ≡ [] → P a) → IfOk (unless faults a) P
ok_unless P [] a h = h refl
ok_unless P (fault ∷ faults) a h = tt

pub ok_pair : {A B : Type 0} (P : A → Type 0) (Q : B → Type 0) (one : Checked A) (other : Checked B) → IfOk one P → IfOk other Q → IfOk (pair_or_refusal one other) (λ (both : A × B). P both.0 × Q both.1)
ok_pair P Q (Ok a) (Ok b) h g = (h, g)
ok_pair P Q (Ok a) (Err e) h g = tt
ok_pair P Q (Err e) other h g = tt

pub ok_found : {A : Type 0} (P : A → Type 0) (name : List ℕ) (o : Option A) → ((a : A) → o ≡ Some a → P a) → IfOk (found_or_unknown name o) P
ok_found P name (Some a) h = h a refl
ok_found P name None h = tt

-- of all answers in order
pub ok_list : {A : Type 0} (P : A → Type 0) (answers : List (Checked A)) → AllByRecursion (λ (answer : Checked A). IfOk answer P) answers → IfOk (in_order answers) (AllByRecursion P)
ok_list P [] h = tt
ok_list {A = A} P (answer ∷ answers) h =
    ok_after P (AllByRecursion P) answer (λ (a : A). (in_order answers >>= λ (more : List A). Ok (a ∷ more))) h.0
    (λ a one. ok_after (AllByRecursion P) (AllByRecursion P) (in_order answers) (λ (more : List A). Ok (a ∷ more)) (ok_list P answers h.1) (λ more rest. (one, rest)))

-- of the first that passes a test
pub found_among : {A : Type 0} (P : A → Type 0) (test : A → Bool) (xs : List A) (x : A) → AllByRecursion P xs → find test xs ≡ Some x → P x
found_among P test [] x all is = absurd cc
found_among {A} P test (y ∷ ys) x all is = by (test y) is (λ g. found_among P test ys x all.1 g)
  where
    some_same : (a b : A) → Some a ≡ Some b → a ≡ b
    some_same a b g = cc

    by : (b : Bool) → cond b (Some y) (find test ys) ≡ Some x → (find test ys ≡ Some x → P x) → P x
    by true g rest = subst P (some_same y x g) all.0
    by false g rest = rest g

-- ---- relationships

-- the relationship of a name is there
pub relation_there : (mapped : Mapped) (class : ClassId) (name : List ℕ) → IfOk (relation_named mapped class name) (λ (place : RelNo). place.0 < length (relations_of mapped class))
relation_there mapped class name =
    ok_after (IsMember mapped class) There (member_named mapped class name) as_relation (ok_each (IsMember mapped class) (member_named mapped class name) (member_is mapped class name)) of
  where
    There : RelNo → Type 0
    There place = place.0 < length (relations_of mapped class)

    of : (member : Member) → IsMember mapped class member → IfOk (as_relation member) There
    of (Attribute attr) is = tt
    of (One relation) is = is.0
    of (Many relation) is = is.0
