-- A rollback by copies makes of the objects what one of a session does.
use Rattle.std.proofs.Common.{◌≡◌, ℕ, zero, suc, ◌+◌, ◌-◌, ◌<◌, ◌≤◌, Bool, true, false, ◌&&◌, ◌||◌, List, [], ◌∷◌, length, map, get_or, Option, None, Some, is_some, refl, sym, ap, ◌∙◌, ⊎_elim, arith}
use Rattle.std.specs.Prelude.{nat_le, nat_lt, not, ◌==◌, if◌then◌else◌}
use Rattle.std.specs.List.{enumerate_from}
use Rattle.std.proofs.lemmas.Bool.{and_from, and_parts, cases_lt}
use Rattle.std.proofs.lemmas.Bool.Decides.{nat_tests}
use Rattle.object_arena.specs.declared.object.Object.{Object}
use Rattle.object_arena.specs.Graph.{Graph, no_class_id, no_object}
use Rattle.object_arena.specs.Identity.{holds_at}
use Rattle.object_arena.specs.Every.{each_placed}
use Rattle.savepoints.specs.declared.scope.Scope.{Scope}
use Rattle.savepoints.specs.declared.scope.Standing.{Standing}
use Rattle.savepoints.specs.declared.traces.Trace.{Trace}
use Rattle.savepoints.specs.Scopes as scope
use Rattle.savepoints.specs.Scopes.{any_below, back_to, expired_where, loaded_standing, made_since, no_scope, put_back_all, put_back_to, read_again, scope_at, since, stood_again, trace_in, wanted_standing}
use Rattle.savepoints.proofs.BackLemmas.{below_from, below_some}
use Rattle.frame_laws.specs.Copies.{Copy, Identity, Places, all_wanted, either, expired, goes_before, is_lost, put_back, restored, stood_since, wanted}
use Rattle.frame_laws.specs.Laws.{AreAlike, AreNamedStill, IsAlike, RestoresTheSame}

-- ---- tests of places

same_test : (a b : Bool) → (a ≡ true → b ≡ true) → (b ≡ true → a ≡ true) → a ≡ b
same_test true b to from = sym (to refl)
same_test false true to from = from refl
same_test false false to from = refl

-- what goes before has the lesser number
before_less : (copy : Copy) (other place : ℕ) → goes_before copy other place ≡ true → other < place
before_less copy other place before =
    ⊎_elim (λ (less : other < place). less)
    (λ (past : place ≤ other). absurd (never (nat_lt other (length copy.stood)) (nat_lt place (length copy.stood)) refl refl past (grind (arith, nat_tests))))
    (cases_lt other place)
  where
    turned : (was is : Bool) → nat_lt other (length copy.stood) ≡ was → nat_lt place (length copy.stood) ≡ is → nat_lt other place ≡ false → goes_before copy other place ≡ ((was && not is) || ((was || not is) && false))
    turned was is one two later = λ i. (one i && not (two i)) || ((one i || not (two i)) && later i)

    never : (was is : Bool) → nat_lt other (length copy.stood) ≡ was → nat_lt place (length copy.stood) ≡ is → place ≤ other → nat_lt other place ≡ false → ⊥
    never true true one two past later = let e : false ≡ true = sym (turned true true one two later) ∙ before in cc
    never true false one two past later =
        let inside : other < length copy.stood = grind (arith, nat_tests) in
        let here : nat_lt place (length copy.stood) ≡ true = grind (arith, nat_tests) in
        let e : false ≡ true = sym two ∙ here in
        cc
    never false true one two past later = let e : false ≡ true = sym (turned false true one two later) ∙ before in cc
    never false false one two past later = let e : false ≡ true = sym (turned false false one two later) ∙ before in cc

less_before : (copy : Copy) (other place : ℕ) → other < place → goes_before copy other place ≡ true
less_before copy other place less = by (nat_lt other (length copy.stood)) (nat_lt place (length copy.stood)) refl refl
  where
    yes : nat_lt other place ≡ true
    yes = grind (arith, nat_tests)

    by : (was is : Bool) → nat_lt other (length copy.stood) ≡ was → nat_lt place (length copy.stood) ≡ is → goes_before copy other place ≡ true
    by true true one two = λ i. (one i && not (two i)) || ((one i || not (two i)) && yes i)
    by true false one two = λ i. (one i && not (two i)) || ((one i || not (two i)) && yes i)
    by false true one two =
        let inside : place < length copy.stood = grind (arith, nat_tests) in
        let here : nat_lt other (length copy.stood) ≡ true = grind (arith, nat_tests) in
        absurd (let never : false ≡ true = sym one ∙ here in cc)
    by false false one two = λ i. (one i && not (two i)) || ((one i || not (two i)) && yes i)

lost_same : (copy : Copy) (holds : ℕ → Bool) (place size : ℕ) → place < size → any_below (λ other. goes_before copy other place && holds other) size ≡ any_below holds place
lost_same copy holds place size within =
    same_test (any_below (λ other. goes_before copy other place && holds other) size) (any_below holds place)
    (λ lost.
    let found = below_some (λ other. goes_before copy other place && holds other) size lost in
    let both = and_parts (goes_before copy found.0 place) (holds found.0) found.2 in
    below_from holds place found.0 (before_less copy found.0 place both.0) both.1)
    (λ lost.
    let found = below_some holds place lost in
    below_from (λ other. goes_before copy other place && holds other) size found.0 (omega (arith, within, found.1)) (and_from (goes_before copy found.0 place) (holds found.0) (less_before copy found.0 place found.1) found.2))

-- ---- objects changed by place

each_from : (one two : ℕ → Object → Object) (n : ℕ) (objects : List Object) → ((k : ℕ) → k < length objects → one (n + k) (get_or objects k no_object) ≡ two (n + k) (get_or objects k no_object))
    → map (λ placed. one placed.0 placed.1) (enumerate_from n objects) ≡ map (λ placed. two placed.0 placed.1) (enumerate_from n objects)
each_from one two n [] same = refl
each_from one two n (object ∷ objects) same =
    let here : n + 0 ≡ n = omega arith in
    (λ i. head i ∷ each_from one two (n + 1) objects rest i)
  where
    head : one n object ≡ two n object
    head = let here : n + 0 ≡ n = omega arith in ap (λ (p : ℕ). one p object) (sym here) ∙ same 0 (omega arith) ∙ ap (λ (p : ℕ). two p object) here

    rest : (k : ℕ) → k < length objects → one (n + 1 + k) (get_or objects k no_object) ≡ two (n + 1 + k) (get_or objects k no_object)
    rest k less =
        let at : n + 1 + k ≡ n + suc k = omega arith in
        ap (λ (p : ℕ). one p (get_or objects k no_object)) at ∙ same (suc k) (omega (arith, less)) ∙ sym (ap (λ (p : ℕ). two p (get_or objects k no_object)) at)

each_same : (one two : ℕ → Object → Object) (graph : Graph) → ((place : ℕ) → place < length graph.objects → one place (get_or graph.objects place no_object) ≡ two place (get_or graph.objects place no_object)) → each_placed one graph ≡ each_placed two graph
each_same one two graph same =
    ap (λ (objects : List Object). let changed : Graph = record { objects = objects; roots = graph.roots } in changed)
    (each_from one two 0 graph.objects (λ k less.
    let at : 0 + k ≡ k = omega arith in
    ap (λ (p : ℕ). one p (get_or graph.objects k no_object)) at ∙ same k less ∙ sym (ap (λ (p : ℕ). two p (get_or graph.objects k no_object)) at)))

-- ---- the way back

module _ (traces : List Trace) (graph : Graph) (inside : Places) (copy : Copy) (only : Scope) (scopes : List Scope) (alike : IsAlike traces (length graph.objects) inside copy only scopes)
    (named : (place : ℕ) (identity : Identity) → copy.loaded place ≡ Some identity → (get_or graph.objects place no_object).identity ≡ identity) where
  stands_since : (place : ℕ) (loaded : Option Identity) → copy.loaded place ≡ loaded → length only.standings ≤ place → stood_since (copy.loaded place) ≡ since (trace_in traces place).loaded (get_or graph.objects place no_object).identity
  stands_since place None is past =
      ap stood_since is ∙ sym (ap (λ (b : Bool). since b (get_or graph.objects place no_object).identity) (sym (alike.loaded place past) ∙ ap (λ (l : Option Identity). is_some l) is))
  stands_since place (Some identity) is past =
      ap stood_since is
      ∙ ap loaded_standing (sym (named place identity is))
      ∙ sym (ap (λ (b : Bool). since b (get_or graph.objects place no_object).identity) (sym (alike.loaded place past) ∙ ap (λ (l : Option Identity). is_some l) is))

  wanted_same : (place : ℕ) → wanted copy place ≡ wanted_standing only traces place (get_or graph.objects place no_object)
  wanted_same place =
      ap (λ (stood : List Standing). if nat_lt place (length stood) then get_or stood place made_since else stood_since (copy.loaded place)) alike.stood
      ∙ by (nat_lt place (length only.standings)) refl
    where
      by : (b : Bool) → nat_lt place (length only.standings) ≡ b
          → (if nat_lt place (length only.standings) then get_or only.standings place made_since else stood_since (copy.loaded place)) ≡ wanted_standing only traces place (get_or graph.objects place no_object)
      by true is =
          ap (λ (b : Bool). if b then get_or only.standings place made_since else stood_since (copy.loaded place)) is
          ∙ sym (ap (λ (b : Bool). if b then get_or only.standings place made_since else since (trace_in traces place).loaded (get_or graph.objects place no_object).identity) is)
      by false is =
          let past : length only.standings ≤ place = grind (arith, nat_tests) in
          ap (λ (b : Bool). if b then get_or only.standings place made_since else stood_since (copy.loaded place)) is
          ∙ stands_since place (copy.loaded place) refl past
          ∙ sym (ap (λ (b : Bool). if b then get_or only.standings place made_since else since (trace_in traces place).loaded (get_or graph.objects place no_object).identity) is)

  all_same : all_wanted copy graph ≡ scope.all_wanted only traces graph
  all_same =
      each_same (λ place object. put_back_to (wanted copy place) object) (λ place object. put_back_to (wanted_standing only traces place object) object) graph
      (λ place less. ap (λ (s : Standing). put_back_to s (get_or graph.objects place no_object)) (wanted_same place))

  is_lost_same : (place : ℕ) (identity : Identity) → place < length graph.objects → is_lost copy graph place identity ≡ scope.is_lost (scope.all_wanted only traces graph) place identity
  is_lost_same place None less = refl
  is_lost_same place (Some key) less =
      lost_same copy (holds_at (all_wanted copy graph).objects (all_wanted copy graph).roots (get_or graph.roots place no_class_id) key) place (length graph.objects) less
      ∙ ap (λ (g : Graph). any_below (holds_at g.objects g.roots (get_or graph.roots place no_class_id) key) place) all_same

  back_same : put_back copy graph ≡ put_back_all only traces graph
  unfolding put_back_all
  back_same =
      each_same (λ place object. back_to (wanted copy place) (is_lost copy graph place (wanted copy place).identity) object) (stood_again only traces graph) graph
      (λ place less.
      let own : Object = get_or graph.objects place no_object in
      ap (λ (s : Standing). back_to s (is_lost copy graph place s.identity) own) (wanted_same place)
      ∙ ap (λ (b : Bool). back_to (wanted_standing only traces place own) b own) (is_lost_same place (wanted_standing only traces place own).identity less))

  read_same : (outermost : Bool) (depth : ℕ) → (depth == 1) ≡ outermost → length (only ∷ scopes) ≡ depth → expired outermost (either inside copy.touched) (put_back copy graph) ≡ each_placed (read_again depth traces) (put_back_all only traces graph)
  read_same outermost depth first long =
      ap (λ (g : Graph). expired outermost (either inside copy.touched) g) back_same
      ∙ (λ i. each_placed (λ place object. expired_where (flag place i) object) (put_back_all only traces graph))
    where
      flag : (place : ℕ) → (outermost || either inside copy.touched place) ≡ ((depth == 1) || nat_le depth (trace_in traces place).depth)
      flag place = ap (λ (b : Bool). b || either inside copy.touched place) (sym first) ∙ ap (λ (b : Bool). (depth == 1) || b) (alike.touched place ∙ ap (λ (n : ℕ). nat_le n (trace_in traces place).depth) long)

-- the scope at a depth is that behind so many inside it
walk : (traces : List Trace) (graph : Graph) (count : ℕ) (inside : Places) (copies : List Copy) (scopes : List Scope) (depth : ℕ) → AreAlike traces (length graph.objects) inside copies scopes → AreNamedStill graph copies → 1 ≤ depth → length scopes ≡ depth + count
    → restored count inside copies graph ≡ each_placed (read_again depth traces) (put_back_all (scope_at depth scopes) traces graph)
walk traces graph count inside [] [] depth alike named some long = absurd (omega (arith, some, long))
walk traces graph count inside [] (only ∷ scopes) depth alike named some long = absurd alike
walk traces graph count inside (copy ∷ copies) [] depth alike named some long = absurd alike
walk traces graph zero inside (copy ∷ []) (only ∷ []) depth alike named some long =
    let first : (depth == 1) ≡ true = grind (arith, nat_tests) in
    let at : length (only ∷ []) - depth ≡ 0 = omega (arith, long) in
    read_same traces graph inside copy only [] alike.0 named.0 true depth first (omega (arith, long))
    ∙ sym (ap (λ (k : ℕ). each_placed (read_again depth traces) (put_back_all (get_or (only ∷ []) k no_scope) traces graph)) at)
walk traces graph zero inside (copy ∷ []) (only ∷ next ∷ scopes) depth alike named some long = absurd alike.1
walk traces graph zero inside (copy ∷ second ∷ copies) (only ∷ []) depth alike named some long = absurd alike.1
walk traces graph zero inside (copy ∷ second ∷ copies) (only ∷ next ∷ scopes) depth alike named some long =
    let first : (depth == 1) ≡ false = grind (arith, nat_tests) in
    let at : length (only ∷ next ∷ scopes) - depth ≡ 0 = omega (arith, long) in
    read_same traces graph inside copy only (next ∷ scopes) alike.0 named.0 false depth first (omega (arith, long))
    ∙ sym (ap (λ (k : ℕ). each_placed (read_again depth traces) (put_back_all (get_or (only ∷ next ∷ scopes) k no_scope) traces graph)) at)
walk traces graph (suc count) inside (copy ∷ copies) (only ∷ scopes) depth alike named some long =
    let at : length (only ∷ scopes) - depth ≡ suc (length scopes - depth) = omega (arith, some, long) in
    walk traces graph count (either inside copy.touched) copies scopes depth alike.1 named.1 some (omega (arith, long))
    ∙ sym (ap (λ (k : ℕ). each_placed (read_again depth traces) (put_back_all (get_or (only ∷ scopes) k no_scope) traces graph)) at)

pub restores_same : RestoresTheSame
unfolding scope.restored_graph
restores_same copies frames graph depth some within same named =
    walk frames.traces graph (length frames.scopes - depth) _ copies frames.scopes depth same.alike named some (omega (arith, within))
