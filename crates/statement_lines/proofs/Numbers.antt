-- The numbers of foreign keys, one after another.
use Rattle.std.proofs.Common.{◌≡◌, ℕ, ◌+◌, ◌<◌, ◌≤◌, Bool, true, false, List, [], ◌∷◌, ◌++◌, length, drop, get_or, refl, sym, ap, ◌∙◌, subst, add-one, drop-cons, append_assoc, append-nil}
use Rattle.std.proofs.lemmas.List.{drop_all}
use Rattle.std.proofs.lemmas.List.Elements.{All-append, All-cons, All-nil}
use Rattle.std.specs.List.{All}
use Rattle.base_core.specs.declared.ids.TableId.{TableId}
use Rattle.schema_core.specs.Catalog.{Catalog, target_of}
use Rattle.schema_core.specs.declared.table.ForeignSpec.{ForeignSpec}
use Rattle.statement_lines.specs.Later.{is_behind, number_if, numbers_from}

next_of : {A : Type 0} (xs : List A) (i : ℕ) (d : A) → i < length xs → drop i xs ≡ get_or xs i d ∷ drop (i + 1) xs
next_of xs i d inside = rw (add-one, drop-cons xs i d) refl

-- one more foreign key
pub one_more : (schema : Catalog) (order : List TableId) (table : TableId) (foreigns : List ForeignSpec) (i : ℕ) (foreign : ForeignSpec) (behind : Bool) (number next : ℕ) (before after all : List ℕ)
    → i < length foreigns → behind ≡ is_behind order table (target_of schema (get_or foreigns i foreign)) → after ≡ before ++ number_if behind number → next ≡ number + 1
    → before ++ numbers_from schema order table number (drop i foreigns) ≡ all → after ++ numbers_from schema order table next (drop (i + 1) foreigns) ≡ all
one_more schema order table foreigns i foreign behind number next before after all inside behind-is after-is next-is so-far =
    let rest = numbers_from schema order table (number + 1) (drop (i + 1) foreigns) in
    let here : numbers_from schema order table number (drop i foreigns) ≡ number_if behind number ++ rest =
    ap (numbers_from schema order table number) (next_of foreigns i foreign inside) ∙ ap (λ (b : Bool). number_if b number ++ rest) (sym behind-is) in
    ap (λ (n : ℕ). after ++ numbers_from schema order table n (drop (i + 1) foreigns)) next-is
    ∙ ap (λ (numbers : List ℕ). numbers ++ rest) after-is
    ∙ append_assoc before (number_if behind number) rest
    ∙ ap (λ (numbers : List ℕ). before ++ numbers) (sym here)
    ∙ so-far

-- no foreign key is left
pub all_taken : (schema : Catalog) (order : List TableId) (table : TableId) (foreigns : List ForeignSpec) (i number : ℕ) (before all : List ℕ)
    → length foreigns ≤ i → before ++ numbers_from schema order table number (drop i foreigns) ≡ all → before ≡ all
all_taken schema order table foreigns i number before all none-left so-far =
    sym (append-nil before) ∙ ap (λ (rest : List ForeignSpec). before ++ numbers_from schema order table number rest) (sym (drop_all i foreigns none-left)) ∙ so-far

with_one : (P : ℕ → Type 0) (numbers : List ℕ) (behind : Bool) (number : ℕ) → All P numbers → P number → All P (numbers ++ number_if behind number)
with_one P numbers false number all holds = All-append P numbers [] all (All-nil P)
with_one P numbers true number all holds = All-append P numbers (number ∷ []) all (All-cons P number [] holds (All-nil P))

-- one more number of a property
pub all_with : (P : ℕ → Type 0) (numbers more : List ℕ) (behind : Bool) (number : ℕ) → All P numbers → P number → more ≡ numbers ++ number_if behind number → All P more
all_with P numbers more behind number all holds more-is = subst (All P) (sym more-is) (with_one P numbers behind number all holds)
