-- A settled expression has aggregates apart from each `exists`, and where no group expression stands, columns too.
use Rattle.std.proofs.Common.{◌≡◌, ◌≤◌, ℕ, Bool, true, false, not, cond, ◌&&◌, ◌||◌, nat_lt, List, [], ◌∷◌, map, refl, sym, ap, ◌∙◌, arith}
use Rattle.std.proofs.lemmas.Bool.{not-true, ltb-false, le-ltb, and_parts, not_from_false}
use Rattle.std.specs.List.{list_all, list_any, AllByRecursion}
use Rattle.expr_types.specs.declared.expr.Expr.{Expr, roll-Expr}
use Rattle.expr_types.specs.declared.expr.Expr.TheOpen.{Expr-F}
use Rattle.expr_types.specs.declared.expr.Expr.TheFolds.{map-Expr, para-roll-Expr}
use Rattle.expr_types.specs.Level.{aggregate_level, has_aggregate, is_aggregate_function}
use Rattle.expr_types.specs.Same.{same}
use Rattle.expr_types.proofs.Folds.{bare, by_levels}
use Rattle.sql_semantics.specs.Plain.{Found, lacks_aggregate, is_well_grouped, is_well_grouped_level, whole}
use Rattle.select_laws.proofs.Several.{first_false, first_true, one_true, rest_false, rest_true, three_true, two_true}
use Rattle.select_laws.proofs.LacksApart.{apart_rolled, lacks_apart}
use Rattle.select_laws.proofs.SameTrees.{aggregate_rolled, same_aggregates}
use Rattle.select_laws.specs.Apart.{aggregates_apart, apart_level, group_apart, stands_apart}

-- ---- truth values

call_free : (b lack all here : Bool) → cond b lack all ≡ true → (all ≡ true → here ≡ true) → (b || here) ≡ true
call_free true lack all here h f = refl
call_free false lack all here h f = f h

call_bound : (b lack all here : Bool) → cond b lack all ≡ true → b ≡ false → (all ≡ true → here ≡ true) → (not (b || false) && (b || here)) ≡ true
call_bound true lack all here h off f = absurd (cc)
call_bound false lack all here h off f = f h

-- ---- the claim

-- the expression is apart outside an `exists`, and inside one where it has no aggregate
pub record AreApart (outer : ℕ) (e : Expr) : Type 0 where
  pub free : stands_apart outer e true ≡ true
  pub bound : has_aggregate e ≡ false → stands_apart outer e false ≡ true

by_either : {A : Type 0} (a b : Bool) → (a || b) ≡ true → (a ≡ true → A) → (b ≡ true → A) → A
by_either true b h f g = f refl
by_either false b h f g = g h

-- the whole of a group expression
abbrev pub occurs_in : List Expr → Expr → Bool
occurs_in groups e = list_any (λ g. same g e) groups

module _ (groups : List Expr) (outer : ℕ) (occurs : (e : Expr) → occurs_in groups e ≡ true → AreApart outer e) where
  abbrev found_at : ℕ → Expr → Found
  found_at own e = (e, is_well_grouped true groups own e)

  -- ---- one level

  unfound_list : (own : ℕ) (es : List Expr) → map (λ (f : Found). f.0) (map (found_at own) es) ≡ es
  unfound_list own [] = refl
  unfound_list own (e ∷ es) = ap (λ l. e ∷ l) (unfound_list own es)

  unfound : (own : ℕ) (x : Expr-F Expr) → map-Expr Found Expr (λ f. f.0) (map-Expr Expr Found (found_at own) x) ≡ x
  unfound own (Expr-F.And es) = ap Expr-F.And (unfound_list own es)
  unfound own (Expr-F.Or es) = ap Expr-F.Or (unfound_list own es)
  unfound own (Expr-F.Call f es) = ap (Expr-F.Call f) (unfound_list own es)
  unfound own x = refl

  settled_by : (own : ℕ) (x : Expr-F Expr) → is_well_grouped true groups own (roll-Expr x) ≡ (occurs_in groups (roll-Expr x) || is_well_grouped_level true own (map-Expr Expr Found (found_at own) x))
  unfolding is_well_grouped
  settled_by own x =
      para-roll-Expr Bool (λ level. (true && occurs_in groups (whole level)) || is_well_grouped_level true own level) x
      ∙ ap (λ z. occurs_in groups (roll-Expr z) || is_well_grouped_level true own (map-Expr Expr Found (found_at own) x)) (unfound own x)

  -- ---- all levels

  abbrev SettlesApart : Expr → Type 0
  SettlesApart e = (own : ℕ) → outer ≤ own → is_well_grouped true groups own e ≡ true → AreApart outer e

  abbrev Known : Type 0
  Known = (e : Expr) × SettlesApart e

  abbrev plain : List Known → List Expr
  plain = map (λ k. k.0)

  abbrev Settled : ℕ → Expr → Type 0
  Settled own e = is_well_grouped true groups own e ≡ true

  all_settled : (own : ℕ) (es : List Expr) → list_all (λ (found : Found). found.1) (map (found_at own) es) ≡ true → AllByRecursion (Settled own) es
  all_settled own [] h = tt
  all_settled own (e ∷ es) h = let both = and_parts (is_well_grouped true groups own e) (list_all (λ (found : Found). found.1) (map (found_at own) es)) h in (both.0, all_settled own es both.1)

  free_list : (own : ℕ) → outer ≤ own → (ks : List Known) → AllByRecursion (Settled own) (plain ks) → list_all (λ (holds : Bool → Bool). holds true) (map (stands_apart outer) (plain ks)) ≡ true
  free_list own le [] h = refl
  free_list own le (k ∷ ks) h =
      ap (λ b. b && list_all (λ (holds : Bool → Bool). holds true) (map (stands_apart outer) (plain ks))) (k.1 own le h.0).free ∙ free_list own le ks h.1

  bound_list : (own : ℕ) → outer ≤ own → (ks : List Known) → AllByRecursion (Settled own) (plain ks) → list_any (λ has. has) (map has_aggregate (plain ks)) ≡ false
      → list_all (λ (holds : Bool → Bool). holds false) (map (stands_apart outer) (plain ks)) ≡ true
  bound_list own le [] h lack = refl
  bound_list own le (k ∷ ks) h lack =
      let any : Bool = list_any (λ has. has) (map has_aggregate (plain ks)) in
      ap (λ b. b && list_all (λ (holds : Bool → Bool). holds false) (map (stands_apart outer) (plain ks))) ((k.1 own le h.0).bound (first_false (has_aggregate k.0) any lack))
      ∙ bound_list own le ks h.1 (rest_false (has_aggregate k.0) any lack)

  -- what is said of one level, of its operands
  record Levels (y : Expr-F Known) : Type 0 where
    free : apart_level outer (map-Expr Expr (Bool → Bool) (stands_apart outer) (bare y)) true ≡ true
    bound : aggregate_level (map-Expr Expr Bool has_aggregate (bare y)) ≡ false → apart_level outer (map-Expr Expr (Bool → Bool) (stands_apart outer) (bare y)) false ≡ true

  level : (y : Expr-F Known) (own : ℕ) → outer ≤ own → is_well_grouped_level true own (map-Expr Expr Found (found_at own) (bare y)) ≡ true → Levels y
  level (Expr-F.Column s c) own le h =
      let below : own ≤ s = ltb-false s own (not-true (nat_lt s own) (first_true (not (nat_lt s own)) true (first_true (not (nat_lt s own) && true) true h))) in
      record { free = refl; bound = λ lack. one_true (not (nat_lt s outer)) (not_from_false (nat_lt s outer) (le-ltb s outer (omega (arith, le, below)))) }
  level (Expr-F.Lit v) own le h = record { free = refl; bound = λ lack. refl }
  level Expr-F.CountAll own le h = record { free = refl; bound = λ lack. absurd (cc) }
  level (Expr-F.Compare op a b) own le h =
      let of_a = a.1 own le (first_true (is_well_grouped true groups own a.0) (is_well_grouped true groups own b.0 && true) h) in let of_b = b.1 own le (first_true (is_well_grouped true groups own b.0) true (rest_true (is_well_grouped true groups own a.0) (is_well_grouped true groups own b.0 && true) h)) in
      record { free = two_true (stands_apart outer a.0 true) (stands_apart outer b.0 true) of_a.free of_b.free; bound = λ lack. two_true (stands_apart outer a.0 false) (stands_apart outer b.0 false) (of_a.bound (first_false (has_aggregate a.0) (has_aggregate b.0 || false) lack)) (of_b.bound (first_false (has_aggregate b.0) false (rest_false (has_aggregate a.0) (has_aggregate b.0 || false) lack))) }
  level (Expr-F.IsNull g a) own le h =
      let of_a = a.1 own le (first_true (is_well_grouped true groups own a.0) true h) in
      record { free = one_true (stands_apart outer a.0 true) of_a.free; bound = λ lack. one_true (stands_apart outer a.0 false) (of_a.bound (first_false (has_aggregate a.0) false lack)) }
  level (Expr-F.Not a) own le h =
      let of_a = a.1 own le (first_true (is_well_grouped true groups own a.0) true h) in
      record { free = one_true (stands_apart outer a.0 true) of_a.free; bound = λ lack. one_true (stands_apart outer a.0 false) (of_a.bound (first_false (has_aggregate a.0) false lack)) }
  level (Expr-F.Arith op a b) own le h =
      let of_a = a.1 own le (first_true (is_well_grouped true groups own a.0) (is_well_grouped true groups own b.0 && true) h) in let of_b = b.1 own le (first_true (is_well_grouped true groups own b.0) true (rest_true (is_well_grouped true groups own a.0) (is_well_grouped true groups own b.0 && true) h)) in
      record { free = two_true (stands_apart outer a.0 true) (stands_apart outer b.0 true) of_a.free of_b.free; bound = λ lack. two_true (stands_apart outer a.0 false) (stands_apart outer b.0 false) (of_a.bound (first_false (has_aggregate a.0) (has_aggregate b.0 || false) lack)) (of_b.bound (first_false (has_aggregate b.0) false (rest_false (has_aggregate a.0) (has_aggregate b.0 || false) lack))) }
  level (Expr-F.Neg a) own le h =
      let of_a = a.1 own le (first_true (is_well_grouped true groups own a.0) true h) in
      record { free = one_true (stands_apart outer a.0 true) of_a.free; bound = λ lack. one_true (stands_apart outer a.0 false) (of_a.bound (first_false (has_aggregate a.0) false lack)) }
  level (Expr-F.Concat a b) own le h =
      let of_a = a.1 own le (first_true (is_well_grouped true groups own a.0) (is_well_grouped true groups own b.0 && true) h) in let of_b = b.1 own le (first_true (is_well_grouped true groups own b.0) true (rest_true (is_well_grouped true groups own a.0) (is_well_grouped true groups own b.0 && true) h)) in
      record { free = two_true (stands_apart outer a.0 true) (stands_apart outer b.0 true) of_a.free of_b.free; bound = λ lack. two_true (stands_apart outer a.0 false) (stands_apart outer b.0 false) (of_a.bound (first_false (has_aggregate a.0) (has_aggregate b.0 || false) lack)) (of_b.bound (first_false (has_aggregate b.0) false (rest_false (has_aggregate a.0) (has_aggregate b.0 || false) lack))) }
  level (Expr-F.Like g a b) own le h =
      let of_a = a.1 own le (first_true (is_well_grouped true groups own a.0) (is_well_grouped true groups own b.0 && true) h) in let of_b = b.1 own le (first_true (is_well_grouped true groups own b.0) true (rest_true (is_well_grouped true groups own a.0) (is_well_grouped true groups own b.0 && true) h)) in
      record { free = two_true (stands_apart outer a.0 true) (stands_apart outer b.0 true) of_a.free of_b.free; bound = λ lack. two_true (stands_apart outer a.0 false) (stands_apart outer b.0 false) (of_a.bound (first_false (has_aggregate a.0) (has_aggregate b.0 || false) lack)) (of_b.bound (first_false (has_aggregate b.0) false (rest_false (has_aggregate a.0) (has_aggregate b.0 || false) lack))) }
  level (Expr-F.Ilike g a b) own le h =
      let of_a = a.1 own le (first_true (is_well_grouped true groups own a.0) (is_well_grouped true groups own b.0 && true) h) in let of_b = b.1 own le (first_true (is_well_grouped true groups own b.0) true (rest_true (is_well_grouped true groups own a.0) (is_well_grouped true groups own b.0 && true) h)) in
      record { free = two_true (stands_apart outer a.0 true) (stands_apart outer b.0 true) of_a.free of_b.free; bound = λ lack. two_true (stands_apart outer a.0 false) (stands_apart outer b.0 false) (of_a.bound (first_false (has_aggregate a.0) (has_aggregate b.0 || false) lack)) (of_b.bound (first_false (has_aggregate b.0) false (rest_false (has_aggregate a.0) (has_aggregate b.0 || false) lack))) }
  level (Expr-F.InList g a vs) own le h =
      let of_a = a.1 own le (first_true (is_well_grouped true groups own a.0) true h) in
      record { free = one_true (stands_apart outer a.0 true) of_a.free; bound = λ lack. one_true (stands_apart outer a.0 false) (of_a.bound (first_false (has_aggregate a.0) false lack)) }
  level (Expr-F.Between g a low high) own le h =
      let of_a = a.1 own le (first_true (is_well_grouped true groups own a.0) (is_well_grouped true groups own low.0 && (is_well_grouped true groups own high.0 && true)) h) in let of_low = low.1 own le (first_true (is_well_grouped true groups own low.0) (is_well_grouped true groups own high.0 && true) (rest_true (is_well_grouped true groups own a.0) (is_well_grouped true groups own low.0 && (is_well_grouped true groups own high.0 && true)) h)) in let of_high = high.1 own le (first_true (is_well_grouped true groups own high.0) true (rest_true (is_well_grouped true groups own low.0) (is_well_grouped true groups own high.0 && true) (rest_true (is_well_grouped true groups own a.0) (is_well_grouped true groups own low.0 && (is_well_grouped true groups own high.0 && true)) h))) in
      record { free = three_true (stands_apart outer a.0 true) (stands_apart outer low.0 true) (stands_apart outer high.0 true) of_a.free of_low.free of_high.free; bound = λ lack. three_true (stands_apart outer a.0 false) (stands_apart outer low.0 false) (stands_apart outer high.0 false) (of_a.bound (first_false (has_aggregate a.0) (has_aggregate low.0 || (has_aggregate high.0 || false)) lack)) (of_low.bound (first_false (has_aggregate low.0) (has_aggregate high.0 || false) (rest_false (has_aggregate a.0) (has_aggregate low.0 || (has_aggregate high.0 || false)) lack))) (of_high.bound (first_false (has_aggregate high.0) false (rest_false (has_aggregate low.0) (has_aggregate high.0 || false) (rest_false (has_aggregate a.0) (has_aggregate low.0 || (has_aggregate high.0 || false)) lack)))) }
  level (Expr-F.Distinct g a b) own le h =
      let of_a = a.1 own le (first_true (is_well_grouped true groups own a.0) (is_well_grouped true groups own b.0 && true) h) in let of_b = b.1 own le (first_true (is_well_grouped true groups own b.0) true (rest_true (is_well_grouped true groups own a.0) (is_well_grouped true groups own b.0 && true) h)) in
      record { free = two_true (stands_apart outer a.0 true) (stands_apart outer b.0 true) of_a.free of_b.free; bound = λ lack. two_true (stands_apart outer a.0 false) (stands_apart outer b.0 false) (of_a.bound (first_false (has_aggregate a.0) (has_aggregate b.0 || false) lack)) (of_b.bound (first_false (has_aggregate b.0) false (rest_false (has_aggregate a.0) (has_aggregate b.0 || false) lack))) }
  level (Expr-F.And es) own le h =
      let each = all_settled own (plain es) h in
      record { free = free_list own le es each; bound = λ lack. bound_list own le es each lack }
  level (Expr-F.Or es) own le h =
      let each = all_settled own (plain es) h in
      record { free = free_list own le es each; bound = λ lack. bound_list own le es each lack }
  level (Expr-F.Call f es) own le h =
      let lack_all : Bool = list_all (λ (found : Found). lacks_aggregate found.0) (map (found_at own) (plain es)) in
      let all : Bool = list_all (λ (found : Found). found.1) (map (found_at own) (plain es)) in
      let free_all : Bool = list_all (λ (holds : Bool → Bool). holds true) (map (stands_apart outer) (plain es)) in
      let bound_all : Bool = list_all (λ (holds : Bool → Bool). holds false) (map (stands_apart outer) (plain es)) in
      let any : Bool = list_any (λ has. has) (map has_aggregate (plain es)) in
      record {
        free = call_free (is_aggregate_function f) lack_all all free_all h (λ settles. free_list own le es (all_settled own (plain es) settles));
        bound = λ lack. call_bound (is_aggregate_function f) lack_all all bound_all h (first_false (is_aggregate_function f) any lack)
            (λ settles. bound_list own le es (all_settled own (plain es) settles) (rest_false (is_aggregate_function f) any lack));
      }
  level (Expr-F.Exists g o a) own le h =
      let lack = not-true (has_aggregate a.0) (first_true (not (has_aggregate a.0)) true (first_true (not (has_aggregate a.0) && true) (is_well_grouped true groups own a.0 && true) h)) in
      let apart = a.1 own le (first_true (is_well_grouped true groups own a.0) true (rest_true (not (has_aggregate a.0) && true) (is_well_grouped true groups own a.0 && true) h)) in
      record { free = one_true (stands_apart outer a.0 false) (apart.bound lack); bound = λ _. one_true (stands_apart outer a.0 false) (apart.bound lack) }

  step : (y : Expr-F Known) → SettlesApart (roll-Expr (bare y))
  step y own le h =
      by_either (occurs_in groups (roll-Expr (bare y))) (is_well_grouped_level true own (map-Expr Expr Found (found_at own) (bare y))) (sym (settled_by own (bare y)) ∙ h)
      (λ is. occurs (roll-Expr (bare y)) is)
      (λ is. let one = level y own le is in
      record { free = apart_rolled outer true (bare y) ∙ one.free; bound = λ lack. apart_rolled outer false (bare y) ∙ one.bound (sym (aggregate_rolled (bare y)) ∙ lack) })

  pub settles : (e : Expr) → SettlesApart e
  settles = by_levels SettlesApart step

-- where no group expression stands
pub settled_apart : (e : Expr) (own outer : ℕ) → outer ≤ own → is_well_grouped true [] own e ≡ true → group_apart outer e ≡ true
settled_apart e own outer le h = (settles [] outer (λ x is. absurd (cc)) e own le h).free

-- where the group expressions have no aggregates, an expression that is one of them has none
some_lacks : (groups : List Expr) (e : Expr) → list_all lacks_aggregate groups ≡ true → occurs_in groups e ≡ true → has_aggregate e ≡ false
some_lacks [] e all is = absurd (cc)
some_lacks (g ∷ groups) e all is =
    let both = and_parts (lacks_aggregate g) (list_all lacks_aggregate groups) all in
    by_either (same g e) (occurs_in groups e) is (λ one. sym (same_aggregates g e one) ∙ not-true (has_aggregate g) both.0) (λ rest. some_lacks groups e both.1 rest)

pub settled_in_groups : (groups : List Expr) (own : ℕ) (e : Expr) → list_all lacks_aggregate groups ≡ true → is_well_grouped true groups own e ≡ true → aggregates_apart e ≡ true
settled_in_groups groups own e all h =
    (settles groups 0 (λ x is. let lack = some_lacks groups x all is in record { free = lacks_apart x lack true; bound = λ _. lacks_apart x lack false }) e own (omega arith) h).free
