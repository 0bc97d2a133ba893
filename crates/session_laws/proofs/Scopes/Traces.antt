-- What was touched and what was loaded, after one act.
use Rattle.std.proofs.Common.{◌≡◌, ◌≢◌, ℕ, ◌-◌, ◌<◌, ◌≤◌, Bool, true, false, ◌||◌, List, [], ◌∷◌, length, Ok, Err, refl, sym, ap, ◌∙◌, subst, ⊎_elim, arith}
use Rattle.std.specs.Prelude.{nat_le, nat_lt, if◌then◌else◌}
use Rattle.std.proofs.lemmas.Bool.{cases_eq, cases_lt}
use Rattle.std.proofs.lemmas.Bool.Decides.{nat_tests}
use Rattle.std.proofs.lemmas.List.{length-drop}
use Rattle.base_core.specs.declared.ids.ObjId.{ObjId}
use Rattle.base_core.specs.declared.refusal.LimitKind.TheVariants.{Savepoints}
use Rattle.base_core.specs.declared.refusal.Refusal.TheVariants.{LimitReached}
use Rattle.object_arena.specs.Graph.{Graph, object_at, place_of}
use Rattle.savepoints.specs.declared.scope.Scope.{Scope}
use Rattle.savepoints.specs.declared.traces.Trace.{Trace}
use Rattle.savepoints.specs.Scopes.{Framed, around, begun_at, is_touched, left_at, outward, push, scope_released, scope_limit, touch, touch_in, touched_trace, trace_in, with_trace}
use Rattle.savepoints.proofs.PutLemmas.{capped, outward_some, passed_out, put_here, put_there}
use Rattle.session_laws.specs.Scopes.{Change, LoadsGrow, Objects, OnlyTouchesTouch, Push, Release, Restore, Touch, TouchTouches, TouchesGrow, after_act, after_push}

-- ---- what is left of scopes

-- as many scopes are left as are to be, or fewer
left_few : (left : ℕ) (frames : Framed) → length (left_at left frames).scopes ≤ left
left_few left frames = omega (arith, length-drop (length frames.scopes - left) frames.scopes)

left_touched : (left : ℕ) (frames : Framed) (depth place : ℕ) → 1 ≤ depth → depth ≤ length (left_at left frames).scopes → is_touched (left_at left frames) depth place ≡ is_touched frames depth place
left_touched left frames depth place first last =
    let within : depth ≤ left = omega (arith, last, left_few left frames) in
    let trace : Trace = trace_in frames.traces place in
    ap (λ (t : Trace). nat_le depth t.depth) (passed_out left frames.traces place ∙ outward_some left trace (omega (arith, first, within)))
    ∙ capped depth left trace.depth within

left_loaded : (left : ℕ) (frames : Framed) (place : ℕ) → 1 ≤ left → (trace_in (left_at left frames).traces place).loaded ≡ (trace_in frames.traces place).loaded
left_loaded left frames place some = ap (λ (t : Trace). t.loaded) (passed_out left frames.traces place ∙ outward_some left (trace_in frames.traces place) some)

left_was_loaded : (left : ℕ) (frames : Framed) (place : ℕ) → (trace_in (left_at left frames).traces place).loaded ≡ true → (trace_in frames.traces place).loaded ≡ true
left_was_loaded left frames place loaded =
    ⊎_elim
    (λ (none : left < 1).
    let nothing : left ≡ 0 = omega (arith, none) in
    let e : false ≡ true = sym (ap (λ (k : ℕ). (outward k (trace_in frames.traces place)).loaded) nothing) ∙ sym (ap (λ (t : Trace). t.loaded) (passed_out left frames.traces place)) ∙ loaded in
    absurd cc)
    (λ (some : 1 ≤ left). sym (left_loaded left frames place some) ∙ loaded)
    (cases_lt left 1)

-- ---- one act

push_traces : (room : Bool) (graph : Graph) (frames : Framed) → (after_push (if room then Ok (tt, record frames { scopes = begun_at graph ∷ frames.scopes }) else Err (LimitReached Savepoints)) frames).traces ≡ frames.traces
push_traces true graph frames = refl
push_traces false graph frames = refl

pushed_traces : (s : Objects) → (after_act Push s).frames.traces ≡ s.frames.traces
unfolding push
pushed_traces s = push_traces (nat_lt (length s.frames.scopes) scope_limit) s.graph s.frames

-- a touch of another object
touched_there : (scopes : List Scope) (graph : Graph) (object : ObjId) (frames : Framed) (place : ℕ) → place ≢ place_of object → trace_in (touch_in scopes graph object frames).traces place ≡ trace_in frames.traces place
touched_there [] graph object frames place apart = refl
touched_there (first ∷ scopes) graph object frames place apart = put_there frames.traces (place_of object) place (touched_trace frames (place_of object) (object_at graph object)) apart

either_so : (one two : Bool) → one ≡ true → (one || two) ≡ true
either_so true two is = refl
either_so false two is = absurd cc

-- a touch takes no touch away
touch_grows : (scopes : List Scope) (graph : Graph) (object : ObjId) (frames : Framed) (depth place : ℕ) → depth ≤ length frames.scopes → nat_le depth (trace_in frames.traces place).depth ≡ true → nat_le depth (trace_in (touch_in scopes graph object frames).traces place).depth ≡ true
touch_grows [] graph object frames depth place within is = is
touch_grows (first ∷ scopes) graph object frames depth place within is =
    let trace : Trace = touched_trace frames (place_of object) (object_at graph object) in
    ⊎_elim
    (λ (here : place ≡ place_of object).
    let innermost : nat_le depth (length frames.scopes) ≡ true = grind (arith, nat_tests) in
    ap (λ (p : ℕ). nat_le depth (trace_in (with_trace frames.traces (place_of object) trace) p).depth) here
    ∙ ap (λ (t : Trace). nat_le depth t.depth) (put_here frames.traces (place_of object) trace)
    ∙ innermost)
    (λ (apart : place ≢ place_of object). ap (λ (t : Trace). nat_le depth t.depth) (put_there frames.traces (place_of object) place trace apart) ∙ is)
    (cases_eq place (place_of object))

touch_here : (scopes : List Scope) (graph : Graph) (object : ObjId) (frames : Framed) (depth : ℕ) → 1 ≤ length scopes → depth ≤ length frames.scopes → nat_le depth (trace_in (touch_in scopes graph object frames).traces (place_of object)).depth ≡ true
touch_here [] graph object frames depth some within = absurd (omega (arith, some))
touch_here (first ∷ scopes) graph object frames depth some within =
    let innermost : nat_le depth (length frames.scopes) ≡ true = grind (arith, nat_tests) in
    ap (λ (t : Trace). nat_le depth t.depth) (put_here frames.traces (place_of object) (touched_trace frames (place_of object) (object_at graph object))) ∙ innermost

touch_loads : (scopes : List Scope) (graph : Graph) (object : ObjId) (frames : Framed) (place : ℕ) → (trace_in frames.traces place).loaded ≡ true → (trace_in (touch_in scopes graph object frames).traces place).loaded ≡ true
touch_loads [] graph object frames place is = is
touch_loads (first ∷ scopes) graph object frames place is =
    let trace : Trace = touched_trace frames (place_of object) (object_at graph object) in
    ⊎_elim
    (λ (here : place ≡ place_of object).
    ap (λ (p : ℕ). (trace_in (with_trace frames.traces (place_of object) trace) p).loaded) here
    ∙ ap (λ (t : Trace). t.loaded) (put_here frames.traces (place_of object) trace)
    ∙ either_so (trace_in frames.traces (place_of object)).loaded _ (subst (λ (p : ℕ). (trace_in frames.traces p).loaded ≡ true) here is))
    (λ (apart : place ≢ place_of object). ap (λ (t : Trace). t.loaded) (put_there frames.traces (place_of object) place trace apart) ∙ is)
    (cases_eq place (place_of object))

pub touch_long : (scopes : List Scope) (graph : Graph) (object : ObjId) (frames : Framed) → (touch_in scopes graph object frames).scopes ≡ frames.scopes
touch_long [] graph object frames = refl
touch_long (first ∷ scopes) graph object frames = refl

pub touch_touches : TouchTouches
unfolding touch
touch_touches s object depth during = touch_here s.frames.scopes s.graph object s.frames depth (omega (arith, during.0, during.1)) during.1

pub touches_grow : TouchesGrow
unfolding touch scope_released around
touches_grow s (Change graph) depth place during is = is
touches_grow s (Touch object) depth place during is =
    touch_grows s.frames.scopes s.graph object s.frames depth place (subst (λ (scopes : List Scope). depth ≤ length scopes) (touch_long s.frames.scopes s.graph object s.frames) during.1) is
touches_grow s Push depth place during is = ap (λ (traces : List Trace). nat_le depth (trace_in traces place).depth) (pushed_traces s) ∙ is
touches_grow s Release depth place during is = left_touched (length s.frames.scopes - 1) s.frames depth place during.0 during.1 ∙ is
touches_grow s (Restore inner) depth place during is = left_touched (inner - 1) s.frames depth place during.0 during.1 ∙ is

pub loads_grow : LoadsGrow
unfolding touch scope_released around
loads_grow s (Change graph) place during is = is
loads_grow s (Touch object) place during is = touch_loads s.frames.scopes s.graph object s.frames place is
loads_grow s Push place during is = ap (λ (traces : List Trace). (trace_in traces place).loaded) (pushed_traces s) ∙ is
loads_grow s Release place during is = left_loaded (length s.frames.scopes - 1) s.frames place (omega (arith, during.1, left_few (length s.frames.scopes - 1) s.frames)) ∙ is
loads_grow s (Restore inner) place during is = left_loaded (inner - 1) s.frames place (omega (arith, during.1, left_few (inner - 1) s.frames)) ∙ is

pub only_touches : OnlyTouchesTouch
unfolding touch scope_released around
only_touches s (Change graph) place none = (λ depth during is. is, λ is. is)
only_touches s (Touch object) place apart =
    let same = touched_there s.frames.scopes s.graph object s.frames place apart in
    (λ depth during is. sym (ap (λ (t : Trace). nat_le depth t.depth) same) ∙ is, λ is. sym (ap (λ (t : Trace). t.loaded) same) ∙ is)
only_touches s Push place none = (
  λ depth during is. sym (ap (λ (traces : List Trace). nat_le depth (trace_in traces place).depth) (pushed_traces s)) ∙ is,
  λ is. sym (ap (λ (traces : List Trace). (trace_in traces place).loaded) (pushed_traces s)) ∙ is,
)
only_touches s Release place none = (
  λ depth during is. sym (left_touched (length s.frames.scopes - 1) s.frames depth place during.0 during.1) ∙ is,
  λ is. left_was_loaded (length s.frames.scopes - 1) s.frames place is,
)
only_touches s (Restore inner) place none = (
  λ depth during is. sym (left_touched (inner - 1) s.frames depth place during.0 during.1) ∙ is,
  λ is. left_was_loaded (inner - 1) s.frames place is,
)
