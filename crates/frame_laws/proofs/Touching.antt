-- A touch keeps scopes by copies those of a session.
use Rattle.std.proofs.Common.{◌≡◌, ◌⊎◌, inl, inr, ℕ, suc, ◌+◌, ◌-◌, ◌≤◌, Bool, true, false, ◌&&◌, ◌||◌, List, [], ◌∷◌, length, get_or, Option, Some, is_some, refl, sym, ap, ◌∙◌, subst, arith}
use Rattle.std.specs.Prelude.{nat_le, not, ◌==◌, if◌then◌else◌}
use Rattle.std.proofs.Math.Bool.{or_comm}
use Rattle.std.proofs.lemmas.Bool.{eqb-true}
use Rattle.std.proofs.lemmas.Bool.Decides.{nat_tests}
use Rattle.base_core.specs.declared.ids.ObjId.{ObjId}
use Rattle.object_arena.specs.declared.object.Object.{Object}
use Rattle.object_arena.specs.Graph.{Graph, IsObject, is_persistent, object_at, place_of}
use Rattle.savepoints.specs.declared.scope.Scope.{Scope}
use Rattle.savepoints.specs.declared.scope.Standing.{Standing}
use Rattle.savepoints.specs.declared.traces.Trace.{Trace}
use Rattle.savepoints.specs.Scopes as scope
use Rattle.savepoints.specs.Scopes.{Framed, no_scope, no_trace, scope_at, touch_in, touched_trace, trace_in, with_trace}
use Rattle.frame_laws.specs.Copies.{Copy, Identity, Places, either, is_load, loaded_too, no_place, noted, touch}
use Rattle.frame_laws.specs.Laws.{AreAlike, AreSame, IsAlike, TouchKeepsSame, outer_count}
use Rattle.savepoints.proofs.PutLemmas.{put_at}

-- ---- facts of tests

or_assoc : (a b c : Bool) → (a || (b || c)) ≡ ((a || b) || c)
or_assoc true b c = refl
or_assoc false b c = refl

or_none : (a b : Bool) → (a || b) ≡ ((a || false) || b)
or_none true b = refl
or_none false b = refl

and_none : (a : Bool) → (a && false) ≡ false
and_none true = refl
and_none false = refl

-- ---- what is loaded

loaded_there : (load : Bool) (place : ℕ) (identity : Identity) (loaded : ℕ → Option Identity) (other : ℕ) → (other == place) ≡ false → loaded_too load place identity loaded other ≡ loaded other
loaded_there true place identity loaded other apart = ap (λ (b : Bool). if b then Some identity else loaded other) apart
loaded_there false place identity loaded other apart = refl

loaded_here : (load : Bool) (place : ℕ) (identity : Identity) (loaded : ℕ → Option Identity) (other : ℕ) → (other == place) ≡ true → is_some (loaded_too load place identity loaded other) ≡ (load || is_some (loaded other))
loaded_here true place identity loaded other here = ap (λ (b : Bool). let found : Option Identity = (if b then Some identity else loaded other) in is_some found) here
loaded_here false place identity loaded other here = refl

-- how many objects had been made at the start of the outermost scope
outer_is : (only : Scope) (scopes : List Scope) → outer_count (only ∷ scopes) ≡ length (scope_at 1 (only ∷ scopes)).standings
outer_is only [] = refl
outer_is only (next ∷ scopes) =
    let at : length (only ∷ next ∷ scopes) - 1 ≡ length (next ∷ scopes) - 1 + 1 = omega arith in
    outer_is next scopes ∙ sym (ap (λ (k : ℕ). length (get_or (only ∷ next ∷ scopes) k no_scope).standings) at ∙ ap (λ (s : Scope). length s.standings) (further (length (next ∷ scopes) - 1)))
  where
    further : (k : ℕ) → get_or (only ∷ next ∷ scopes) (k + 1) no_scope ≡ get_or (next ∷ scopes) k no_scope
    further k = let at : k + 1 ≡ suc k = omega arith in ap (λ (n : ℕ). get_or (only ∷ next ∷ scopes) n no_scope) at

module _ (frames : Framed) (size place : ℕ) (object : Object) where
  abbrev traces : List Trace
  traces = frames.traces

  abbrev trace : Trace
  trace = touched_trace frames place object

  abbrev after : List Trace
  after = with_trace frames.traces place trace

  at : (other : ℕ) (here : Bool) → (other == place) ≡ here → trace_in after other ≡ (if here then trace else trace_in frames.traces other)
  at other here is = put_at frames.traces place other trace here is

  -- the outermost of these scopes is that of the session
  abbrev IsOuter : List Scope → Type 0
  IsOuter [] = Unit {0}
  IsOuter (only ∷ scopes) = outer_count (only ∷ scopes) ≡ length (scope_at 1 frames.scopes).standings

  outer_next : (only : Scope) (scopes : List Scope) → IsOuter (only ∷ scopes) → IsOuter scopes
  outer_next only [] outer = tt
  outer_next only (next ∷ scopes) outer = outer

  -- a load as the scope sees it is one as the trace does
  same_load : (long stood first : ℕ) (persistent : Bool) (depth : ℕ) → 1 ≤ long → stood ≤ place → first ≤ place → (depth ≡ 0) ⊎ (long ≤ depth)
      → (not (nat_le long depth) && (persistent && nat_le stood place)) ≡ (persistent && ((depth == 0) && nat_le first place))
  same_load long stood first persistent depth some late later (inl none) =
      let own : nat_le stood place ≡ true = grind (arith, nat_tests) in
      let outermost : nat_le first place ≡ true = grind (arith, nat_tests) in
      let untouched : nat_le long depth ≡ false = grind (arith, nat_tests) in
      let zeroth : (depth == 0) ≡ true = grind (arith, nat_tests) in
      (λ i. not (untouched i) && (persistent && own i)) ∙ sym (λ i. persistent && (zeroth i && outermost i))
  same_load long stood first persistent depth some late later (inr deep) =
      let before : nat_le long depth ≡ true = grind (arith, nat_tests) in
      let more : (depth == 0) ≡ false = grind (arith, nat_tests) in
      (λ i. not (before i) && (persistent && nat_le stood place)) ∙ sym ((λ i. persistent && (more i && nat_le first place)) ∙ and_none persistent)

  module _ (inside : Places) (copy : Copy) (only : Scope) (scopes : List Scope) (alike : IsAlike frames.traces size inside copy only scopes) (outer : IsOuter (only ∷ scopes)) (within : length (only ∷ scopes) ≤ length frames.scopes) where
    abbrev long : ℕ
    long = length (only ∷ scopes)

    abbrev load : Bool
    load = is_load (either inside copy.touched place) place object copy

    touched_then : (other : ℕ) (here : Bool) → (other == place) ≡ here → ((here || inside other) || copy.touched other) ≡ nat_le (length (only ∷ scopes)) (trace_in after other).depth
    touched_then other true is =
        let deep : nat_le (length (only ∷ scopes)) (length frames.scopes) ≡ true = grind (arith, nat_tests) in
        sym (ap (λ (t : Trace). nat_le (length (only ∷ scopes)) t.depth) (at other true is) ∙ deep)
    touched_then other false is = alike.touched other ∙ sym (ap (λ (t : Trace). nat_le (length (only ∷ scopes)) t.depth) (at other false is))

    loaded_then : (other : ℕ) (here : Bool) → (other == place) ≡ here → length only.standings ≤ other → is_some (loaded_too load place object.identity copy.loaded other) ≡ (trace_in after other).loaded
    loaded_then other true is past =
        let same : other ≡ place = eqb-true other place is in
        let before : Trace = trace_in frames.traces place in
        let late : length only.standings ≤ place = omega (arith, past, same) in
        let stood : length copy.stood ≤ place = omega (arith, late, ap (λ (s : List Standing). length s) alike.stood) in
        let first : length (scope_at 1 frames.scopes).standings ≤ place = omega (arith, late, alike.first, outer) in
        let load_is : load ≡ (is_persistent object.state && ((before.depth == 0) && nat_le (length (scope_at 1 frames.scopes).standings) place)) =
        ap (λ (b : Bool). not b && (is_persistent object.state && nat_le (length copy.stood) place)) (alike.touched place)
        ∙ same_load (length (only ∷ scopes)) (length copy.stood) (length (scope_at 1 frames.scopes).standings) (is_persistent object.state) before.depth (omega arith) stood first (alike.since place late) in
        loaded_here load place object.identity copy.loaded other is
        ∙ ap (λ (p : ℕ). load || is_some (copy.loaded p)) same
        ∙ ap (λ (b : Bool). load || b) (alike.loaded place late)
        ∙ ap (λ (b : Bool). b || before.loaded) load_is
        ∙ or_comm (is_persistent object.state && ((before.depth == 0) && nat_le (length (scope_at 1 frames.scopes).standings) place)) before.loaded
        ∙ sym (ap (λ (t : Trace). t.loaded) (at other true is))
    loaded_then other false is past =
        ap (λ (found : Option Identity). is_some found) (loaded_there load place object.identity copy.loaded other is)
        ∙ alike.loaded other past
        ∙ sym (ap (λ (t : Trace). t.loaded) (at other false is))

    since_then : (other : ℕ) (here : Bool) → (other == place) ≡ here → length only.standings ≤ other → ((trace_in after other).depth ≡ 0) ⊎ (length (only ∷ scopes) ≤ (trace_in after other).depth)
    since_then other true is past =
        let deep : (trace_in after other).depth ≡ length frames.scopes = ap (λ (t : Trace). t.depth) (at other true is) in
        inr (omega (arith, deep, within))
    since_then other false is past = subst (λ (t : Trace). (t.depth ≡ 0) ⊎ (length (only ∷ scopes) ≤ t.depth)) (sym (at other false is)) (alike.since other past)

    noted_one : IsAlike after size (either (λ other. other == place) inside) (record copy { loaded = loaded_too load place object.identity copy.loaded }) only scopes
    noted_one = record {
      stood = alike.stood;
      touched = λ other. touched_then other (other == place) refl;
      loaded = λ other past. loaded_then other (other == place) refl past;
      since = λ other past. since_then other (other == place) refl past;
      few = alike.few;
      first = alike.first;
    }

  noted_all : (inside : Places) (copies : List Copy) (scopes : List Scope) → length scopes ≤ length frames.scopes → IsOuter scopes → AreAlike frames.traces size inside copies scopes
      → AreAlike after size (either (λ other. other == place) inside) (noted inside place object copies) scopes
  noted_all inside [] [] within outer alike = tt
  noted_all inside [] (only ∷ scopes) within outer alike = absurd alike
  noted_all inside (copy ∷ copies) [] within outer alike = absurd alike
  noted_all inside (copy ∷ copies) (only ∷ scopes) within outer alike = (
    noted_one inside copy only scopes alike.0 outer within,
    subst (λ (places : Places). AreAlike after size places (noted (either inside copy.touched) place object copies) scopes) (λ i other. or_assoc (other == place) (inside other) (copy.touched other) i)
        (noted_all (either inside copy.touched) copies scopes (omega (arith, within)) (outer_next only scopes outer) alike.1),
  )

  -- the innermost scope has the object among those touched inside
  first_touched : (copy : Copy) (copies : List Copy) (only : Scope) (scopes : List Scope) → AreAlike after size (either (λ other. other == place) no_place) (copy ∷ copies) (only ∷ scopes)
      → AreAlike after size no_place (record copy { touched = λ other. (other == place) || copy.touched other } ∷ copies) (only ∷ scopes)
  first_touched copy copies only scopes alike = (
    record {
      stood = alike.0.stood;
      touched = λ other. or_none (other == place) (copy.touched other) ∙ alike.0.touched other;
      loaded = alike.0.loaded;
      since = alike.0.since;
      few = alike.0.few;
      first = alike.0.first;
    },
    subst (λ (places : Places). AreAlike after size places copies scopes) (λ i other. sym (or_none (other == place) (copy.touched other)) i) alike.1,
  )

touch_alike : (copies : List Copy) (scopes : List Scope) (frames : Framed) (graph : Graph) (object : ObjId) → frames.scopes ≡ scopes → IsObject graph object → AreSame copies frames graph
    → AreAlike frames.traces (length graph.objects) no_place copies scopes → AreSame (touch graph object copies) (touch_in scopes graph object frames) graph
touch_alike [] [] frames graph object is made same alike = same
touch_alike [] (only ∷ scopes) frames graph object is made same alike = absurd alike
touch_alike (copy ∷ copies) [] frames graph object is made same alike = absurd alike
touch_alike (copy ∷ copies) (only ∷ scopes) frames graph object is made same alike =
    let place : ℕ = place_of object in
    let size : ℕ = length graph.objects in
    let own : Object = object_at graph object in
    let long : length (only ∷ scopes) ≡ length frames.scopes = ap (λ (s : List Scope). length s) (sym is) in
    let outer : outer_count (only ∷ scopes) ≡ length (scope_at 1 frames.scopes).standings = outer_is only scopes ∙ ap (λ (s : List Scope). length (scope_at 1 s).standings) (sym is) in
    let noted_alike = noted_all frames size place own no_place (copy ∷ copies) (only ∷ scopes) (omega (arith, long)) outer alike in
    let whole = first_touched frames size place own _ _ only scopes noted_alike in
    record {
      alike = subst (λ (s : List Scope). AreAlike (with_trace frames.traces place (touched_trace frames place own)) size no_place (touch graph object (copy ∷ copies)) s) (sym is) whole;
      deep = λ other. deep_then other (other == place) refl;
      made = λ other past. made_then other (other == place) refl past;
    }
  where
    deep_then : (other : ℕ) (here : Bool) → (other == place_of object) ≡ here
        → (trace_in (with_trace frames.traces (place_of object) (touched_trace frames (place_of object) (object_at graph object))) other).depth ≤ length frames.scopes
    deep_then other true at =
        let deep = ap (λ (t : Trace). t.depth) (put_at frames.traces (place_of object) other (touched_trace frames (place_of object) (object_at graph object)) true at) in
        omega (arith, deep)
    deep_then other false at =
        let deep = ap (λ (t : Trace). t.depth) (put_at frames.traces (place_of object) other (touched_trace frames (place_of object) (object_at graph object)) false at) in
        omega (arith, deep, same.deep other)

    made_then : (other : ℕ) (here : Bool) → (other == place_of object) ≡ here → length graph.objects ≤ other
        → trace_in (with_trace frames.traces (place_of object) (touched_trace frames (place_of object) (object_at graph object))) other ≡ no_trace
    made_then other true at past = let here : other ≡ place_of object = eqb-true other (place_of object) at in absurd (omega (arith, here, past, made.0, made.1))
    made_then other false at past = put_at frames.traces (place_of object) other (touched_trace frames (place_of object) (object_at graph object)) false at ∙ same.made other past

pub touch_same : TouchKeepsSame
unfolding scope.touch
touch_same copies frames graph object made same = touch_alike copies frames.scopes frames graph object refl made same same.alike
