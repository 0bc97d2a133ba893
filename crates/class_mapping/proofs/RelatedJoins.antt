-- Two declared partners without a secondary table have one foreign key.
use Rattle.std.proofs.Common.{◌≡◌, ℕ, ◌+◌, Bool, true, false, cond, not, ◌&&◌, List, [], ◌∷◌, ◌++◌, ◌∙◌, map, filter, ap, sym, refl, Option, None, Some, if◌then◌else◌, zero-add}
use Rattle.std.specs.Prelude.{find, slice_get}
use Rattle.std.specs.List.{AllByRecursion, enumerate_from, flat_map, list_all}
use Rattle.base_core.specs.declared.ids.TableId.{TableId}
use Rattle.schema_core.specs.declared.table.ForeignSpec.{ForeignSpec}
use Rattle.schema_core.specs.declared.table.TableSpec.{TableSpec}
use Rattle.class_layouts.specs.declared.layout.Layout.{Layout}
use Rattle.class_layouts.specs.Faults.{foreigns_in}
use Rattle.class_sides.specs.Keys.{allows, columns_at, is_inherited, names_of, refers_into}
use Rattle.class_sides.specs.Sides.{candidates, has_attribute, key_at, serves, table_candidates}
use Rattle.class_sides.specs.Pairs.{differ}
use Rattle.class_mapping.proofs.Having.{all_from, from_numbered}

-- ---- lists that are kept in two steps

append_kept : {A : Type 0} (q : A → Bool) (xs ys : List A) → filter q (xs ++ ys) ≡ filter q xs ++ filter q ys
append_kept q [] ys = refl
append_kept q (x ∷ xs) ys = by (q x) (append_kept q xs ys)
  where
    by : (b : Bool) → filter q (xs ++ ys) ≡ filter q xs ++ filter q ys → cond b (x ∷ filter q (xs ++ ys)) (filter q (xs ++ ys)) ≡ cond b (x ∷ filter q xs) (filter q xs) ++ filter q ys
    by true h = ap (λ zs. x ∷ zs) h
    by false h = h

flat_kept : {A B : Type 0} (q : B → Bool) (f g : A → List B) → ((x : A) → f x ≡ filter q (g x)) → (xs : List A) → flat_map f xs ≡ filter q (flat_map g xs)
flat_kept q f g h [] = refl
flat_kept q f g h (x ∷ xs) =
    ap (λ zs. zs ++ flat_map f xs) (h x) ∙ ap (λ zs. filter q (g x) ++ zs) (flat_kept q f g h xs) ∙ sym (append_kept q (g x) (flat_map g xs))

kept_step : {A B : Type 0} (k : A → B) (q : B → Bool) (a u : Bool) (x : A) (both first : List A) → q (k x) ≡ u → map k both ≡ filter q (map k first)
    → map k (cond (a && u) (x ∷ both) both) ≡ filter q (map k (cond a (x ∷ first) first))
kept_step k q true true x both first e h = ap (λ zs. k x ∷ zs) h ∙ ap (λ (b : Bool). cond b (k x ∷ filter q (map k first)) (filter q (map k first))) (sym e)
kept_step k q true false x both first e h = h ∙ ap (λ (b : Bool). cond b (k x ∷ filter q (map k first)) (filter q (map k first))) (sym e)
kept_step k q false u x both first e h = h

kept_twice : {A B : Type 0} (k : A → B) (q : B → Bool) (a u both : A → Bool) → ((x : A) → both x ≡ (a x && u x)) → (xs : List A) → AllByRecursion (λ x. q (k x) ≡ u x) xs
    → map k (filter both xs) ≡ filter q (map k (filter a xs))
kept_twice k q a u both same [] h = refl
kept_twice k q a u both same (x ∷ xs) h =
    ap (λ (b : Bool). map k (cond b (x ∷ filter both xs) (filter both xs))) (same x)
    ∙ kept_step k q (a x) (u x) x (filter both xs) (filter a xs) h.0 (kept_twice k q a u both same xs h.1)

find_step : {A : Type 0} (p : A → Bool) (b : Bool) (x : A) (more : Option A) (rest : List A) → find p rest ≡ more → find p (cond b (x ∷ rest) rest) ≡ cond (b && p x) (Some x) more
find_step p true x more rest h = ap (λ o. cond (p x) (Some x) o) h
find_step p false x more rest h = h

pub find_kept : {A : Type 0} (p q : A → Bool) (xs : List A) → find p (filter q xs) ≡ find (λ x. q x && p x) xs
find_kept p q [] = refl
find_kept p q (x ∷ xs) = find_step p (q x) x (find (λ x. q x && p x) xs) (filter q xs) (find_kept p q xs)

find_like : {A : Type 0} (p q : A → Bool) → ((x : A) → p x ≡ q x) → (xs : List A) → find p xs ≡ find q xs
find_like p q same [] = refl
find_like p q same (x ∷ xs) =
    ap (λ b. cond b (Some x) (find p xs)) (same x) ∙ ap (λ o. cond (q x) (Some x) o) (find_like p q same xs)

and_turned : (a b : Bool) → (a && b) ≡ (b && a)
and_turned true true = refl
and_turned true false = refl
and_turned false true = refl
and_turned false false = refl

-- ---- the keys that can serve, and those of them that a side names

four_are : (a b c u : Bool) → (a && b && c && u) ≡ ((a && b && c && true) && u)
four_are true true true u = refl
four_are true true false u = refl
four_are true false c u = refl
four_are false b c u = refl

named_at : (tables : List TableSpec) (named : List (List ℕ)) (table : TableId) (placed : ℕ × ForeignSpec) → (i : ℕ) × (placed.0 ≡ 0 + i) × (slice_get (foreigns_in tables table) i ≡ Some placed.1)
    → allows named (names_of tables (key_at table placed)) ≡ allows named placed.1.columns
named_at tables named table placed at =
    let same : placed.0 ≡ at.0 = at.1 ∙ zero-add at.0 in
    ap (λ (n : ℕ). allows named (columns_at (slice_get (foreigns_in tables table) n))) same
    ∙ ap (λ (o : Option ForeignSpec). allows named (columns_at o)) at.2

table_named : (tables : List TableSpec) (child : Layout) (owners : List TableId) (named : List (List ℕ)) (ranked : ℕ × TableId)
    → table_candidates tables child owners named ranked ≡ filter (λ key. allows named (names_of tables key)) (table_candidates tables child owners [] ranked)
table_named tables child owners named ranked =
    let foreigns : List ForeignSpec = foreigns_in tables ranked.1 in
    kept_twice (key_at ranked.1) (λ key. allows named (names_of tables key))
    (λ placed. serves tables child owners [] ranked.0 ranked.1 placed.1) (λ placed. allows named placed.1.columns) (λ placed. serves tables child owners named ranked.0 ranked.1 placed.1)
    (λ placed. four_are (refers_into tables placed.1 owners) (not (is_inherited tables child.tables ranked.0 ranked.1 placed.1)) (list_all (has_attribute child.attributes ranked.1) placed.1.columns) (allows named placed.1.columns))
    (enumerate_from 0 foreigns)
    (all_from (λ placed. allows named (names_of tables (key_at ranked.1 placed)) ≡ allows named placed.1.columns) (enumerate_from 0 foreigns)
    (λ placed has. named_at tables named ranked.1 placed (from_numbered 0 foreigns placed has)))

pub candidates_named : (tables : List TableSpec) (named : List (List ℕ)) (many one : Option Layout) → candidates tables named many one ≡ filter (λ key. allows named (names_of tables key)) (candidates tables [] many one)
candidates_named tables named None one = refl
candidates_named tables named (Some child) None = refl
candidates_named tables named (Some child) (Some owner) =
    flat_kept (λ key. allows named (names_of tables key)) (table_candidates tables child owner.tables named) (table_candidates tables child owner.tables [])
    (λ ranked. table_named tables child owner.tables named ranked) (enumerate_from 0 child.tables)

-- the key that both sides allow, whichever side looks for it
pub one_join : (tables : List TableSpec) (named other : List (List ℕ)) (many one : Option Layout)
    → find (λ key. allows other (names_of tables key)) (candidates tables named many one) ≡ find (λ key. allows named (names_of tables key)) (candidates tables other many one)
one_join tables named other many one =
    ap (find (λ key. allows other (names_of tables key))) (candidates_named tables named many one)
    ∙ find_kept (λ key. allows other (names_of tables key)) (λ key. allows named (names_of tables key)) (candidates tables [] many one)
    ∙ find_like (λ key. allows named (names_of tables key) && allows other (names_of tables key)) (λ key. allows other (names_of tables key) && allows named (names_of tables key))
    (λ key. and_turned (allows named (names_of tables key)) (allows other (names_of tables key))) (candidates tables [] many one)
    ∙ sym (find_kept (λ key. allows named (names_of tables key)) (λ key. allows other (names_of tables key)) (candidates tables [] many one))
    ∙ sym (ap (find (λ key. allows named (names_of tables key))) (candidates_named tables other many one))

-- the same of two relationships of opposite form, each of which leads to the other's class
pub join_turned : (tables : List TableSpec) (named other : List (List ℕ)) (many turned : Bool) (own target back there : Option Layout) → target ≡ back → own ≡ there → differ many turned ≡ true
    → find (λ key. allows other (names_of tables key)) (if many then candidates tables named target own else candidates tables named own target)
    ≡ find (λ key. allows named (names_of tables key)) (if turned then candidates tables other there back else candidates tables other back there)
join_turned tables named other true true own target back there p q h = absurd cc
join_turned tables named other true false own target back there p q h =
    one_join tables named other target own
    ∙ ap (λ (o : Option Layout). find (λ key. allows named (names_of tables key)) (candidates tables other o own)) p
    ∙ ap (λ (o : Option Layout). find (λ key. allows named (names_of tables key)) (candidates tables other back o)) q
join_turned tables named other false true own target back there p q h =
    one_join tables named other own target
    ∙ ap (λ (o : Option Layout). find (λ key. allows named (names_of tables key)) (candidates tables other o target)) q
    ∙ ap (λ (o : Option Layout). find (λ key. allows named (names_of tables key)) (candidates tables other there o)) p
join_turned tables named other false false own target back there p q h = absurd cc
