-- One trace that is put in, and all that pass outwards.
use Rattle.std.proofs.Common.{◌≡◌, ◌≢◌, ℕ, zero, suc, ◌+◌, ◌-◌, ◌<◌, ◌≤◌, Bool, true, false, List, [], ◌∷◌, ◌++◌, length, map, get_or, refl, sym, ap, ◌∙◌, ⊎_elim, arith}
use Rattle.std.specs.Prelude.{min, nat_le, replicate, ◌==◌, if◌then◌else◌}
use Rattle.std.proofs.Math.ListN.{get_or-map}
use Rattle.std.proofs.lemmas.Bool.{cases_Bool, cases_lt, eq-eqb, eqb-true}
use Rattle.std.proofs.lemmas.Bool.Decides.{nat_tests}
use Rattle.std.proofs.lemmas.List.{get_or-replicate, get_or-set_other, get_or-set_same, get_or_past, length-append, length-replicate}
use Rattle.savepoints.specs.declared.traces.Trace.{Trace}
use Rattle.savepoints.specs.Scopes.{no_trace, outward, padded_traces, trace_in, with_trace}

-- ---- one trace is put in

padding : (n j : ℕ) → get_or (replicate n no_trace) j no_trace ≡ no_trace
padding n j =
    ⊎_elim
    (λ (less : j < n). get_or-replicate n j no_trace no_trace less)
    (λ (past : n ≤ j). get_or_past (replicate n no_trace) j no_trace (omega (arith, past, length-replicate n no_trace)))
    (cases_lt j n)

padded_same : (traces : List Trace) (n j : ℕ) → get_or (traces ++ replicate n no_trace) j no_trace ≡ get_or traces j no_trace
padded_same [] n j = padding n j
padded_same (trace ∷ traces) n zero = refl
padded_same (trace ∷ traces) n (suc j) = padded_same traces n j

pub put_here : (traces : List Trace) (place : ℕ) (trace : Trace) → trace_in (with_trace traces place trace) place ≡ trace
put_here traces place trace =
    get_or-set_same (padded_traces traces place) place trace no_trace
    (omega (arith, length-append traces (replicate (place + 1 - length traces) no_trace), length-replicate (place + 1 - length traces) no_trace))

pub put_there : (traces : List Trace) (place other : ℕ) (trace : Trace) → other ≢ place → trace_in (with_trace traces place trace) other ≡ trace_in traces other
put_there traces place other trace apart = get_or-set_other (padded_traces traces place) place other trace no_trace apart ∙ padded_same traces (place + 1 - length traces) other

-- the trace is at its place, and every other one stays
pub put_at : (traces : List Trace) (place other : ℕ) (trace : Trace) (here : Bool) → (other == place) ≡ here → trace_in (with_trace traces place trace) other ≡ (if here then trace else trace_in traces other)
put_at traces place other trace true is = ap (λ (p : ℕ). trace_in (with_trace traces place trace) p) (eqb-true other place is) ∙ put_here traces place trace
put_at traces place other trace false is = put_there traces place other trace (λ same. let never : false ≡ true = sym is ∙ eq-eqb other place same in cc)

-- ---- all pass outwards

pub outward_none : (depth : ℕ) → outward depth no_trace ≡ no_trace
outward_none depth =
    ⊎_elim
    (λ (none : depth == 0 ≡ true). ap (λ (b : Bool). if b then no_trace else record no_trace { depth = min 0 depth }) none)
    (λ (some : depth == 0 ≡ false).
    let least : min 0 depth ≡ 0 = omega arith in
    ap (λ (b : Bool). if b then no_trace else record no_trace { depth = min 0 depth }) some ∙ ap (λ (n : ℕ). record no_trace { depth = n }) least)
    (cases_Bool (depth == 0))

pub passed_out : (depth : ℕ) (traces : List Trace) (place : ℕ) → trace_in (map (outward depth) traces) place ≡ outward depth (trace_in traces place)
passed_out depth traces place = ap (λ (t : Trace). get_or (map (outward depth) traces) place t) (sym (outward_none depth)) ∙ get_or-map (outward depth) traces place no_trace

pub outward_some : (depth : ℕ) (trace : Trace) → 1 ≤ depth → outward depth trace ≡ record trace { depth = min trace.depth depth }
outward_some depth trace some =
    let more : depth == 0 ≡ false = grind (arith, nat_tests) in
    ap (λ (b : Bool). if b then no_trace else record trace { depth = min trace.depth depth }) more

-- none is deeper then than is left
pub outward_deep : (depth : ℕ) (trace : Trace) → (outward depth trace).depth ≤ depth
outward_deep depth trace = by (depth == 0)
  where
    by : (b : Bool) → (if b then no_trace else record trace { depth = min trace.depth depth }).depth ≤ depth
    by true = omega arith
    by false = omega arith

pub capped : (depth left own : ℕ) → depth ≤ left → nat_le depth (min own left) ≡ nat_le depth own
capped depth left own within =
    ⊎_elim
    (λ (less : own < depth).
    let no : nat_le depth own ≡ false = grind (arith, nat_tests) in
    let lesser : min own left < depth = omega (arith, less) in
    let neither : nat_le depth (min own left) ≡ false = grind (arith, nat_tests) in
    neither ∙ sym no)
    (λ (past : depth ≤ own).
    let yes : nat_le depth own ≡ true = grind (arith, nat_tests) in
    let both : depth ≤ min own left = omega (arith, past, within) in
    let both_hold : nat_le depth (min own left) ≡ true = grind (arith, nat_tests) in
    both_hold ∙ sym yes)
    (cases_lt own depth)
