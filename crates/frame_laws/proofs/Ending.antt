-- Scopes that end keep those by copies those of a session.
use Rattle.std.proofs.Common.{◌≡◌, ◌⊎◌, inl, inr, ℕ, zero, suc, ◌+◌, ◌-◌, ◌≤◌, List, [], ◌∷◌, length, map, drop, sym, ap, ◌∙◌, subst, arith}
use Rattle.std.specs.Prelude.{min, nat_le}
use Rattle.std.proofs.lemmas.List.{length-drop}
use Rattle.savepoints.specs.declared.scope.Scope.{Scope}
use Rattle.savepoints.specs.declared.traces.Trace.{Trace}
use Rattle.savepoints.specs.Scopes.{outward, trace_in}
use Rattle.frame_laws.specs.Copies.{Copy, Places, either, ended, no_place, passed}
use Rattle.frame_laws.specs.Laws.{AreAlike, EndsKeepSame, IsAlike}
use Rattle.savepoints.proofs.PutLemmas.{capped, outward_deep, outward_none, outward_some, passed_out}

module _ (traces : List Trace) (size left : ℕ) where
  abbrev after : List Trace
  after = map (outward left) traces

  trace_left : (place : ℕ) → 1 ≤ left → trace_in after place ≡ record (trace_in traces place) { depth = min (trace_in traces place).depth left }
  trace_left place some = passed_out left traces place ∙ outward_some left (trace_in traces place) some

  since_left : (long depth : ℕ) → long ≤ left → (depth ≡ 0) ⊎ (long ≤ depth) → (min depth left ≡ 0) ⊎ (long ≤ min depth left)
  since_left long depth within (inl none) = inl (omega (arith, none))
  since_left long depth within (inr deep) = inr (omega (arith, within, deep))

  one_left : (inside : Places) (copy : Copy) (only : Scope) (scopes : List Scope) → length (only ∷ scopes) ≤ left → IsAlike traces size inside copy only scopes → IsAlike after size inside copy only scopes
  one_left inside copy only scopes within alike =
      let some : 1 ≤ left = omega (arith, within) in
      record {
        stood = alike.stood;
        touched = λ place.
            alike.touched place
            ∙ sym (ap (λ (t : Trace). nat_le (length (only ∷ scopes)) t.depth) (trace_left place some) ∙ capped (length (only ∷ scopes)) left (trace_in traces place).depth within);
        loaded = λ place past. alike.loaded place past ∙ sym (ap (λ (t : Trace). t.loaded) (trace_left place some));
        since = λ place past.
            subst (λ (t : Trace). (t.depth ≡ 0) ⊎ (length (only ∷ scopes) ≤ t.depth)) (sym (trace_left place some))
            (since_left (length (only ∷ scopes)) (trace_in traces place).depth within (alike.since place past));
        few = alike.few;
        first = alike.first;
      }

  all_left : (inside : Places) (copies : List Copy) (scopes : List Scope) → length scopes ≤ left → AreAlike traces size inside copies scopes → AreAlike after size inside copies scopes
  all_left inside [] [] within alike = tt
  all_left inside [] (only ∷ scopes) within alike = absurd alike
  all_left inside (copy ∷ copies) [] within alike = absurd alike
  all_left inside (copy ∷ copies) (only ∷ scopes) within alike = (one_left inside copy only scopes within alike.0, all_left (either inside copy.touched) copies scopes (omega (arith, within)) alike.1)

  -- what was touched inside is of the innermost scope that is left
  pass_left : (inside : Places) (copies : List Copy) (scopes : List Scope) → AreAlike after size inside copies scopes → AreAlike after size no_place (passed inside copies) scopes
  pass_left inside [] [] alike = tt
  pass_left inside [] (only ∷ scopes) alike = absurd alike
  pass_left inside (copy ∷ copies) [] alike = absurd alike
  pass_left inside (copy ∷ copies) (only ∷ scopes) alike = (
    record {
      stood = alike.0.stood;
      touched = alike.0.touched;
      loaded = alike.0.loaded;
      since = alike.0.since;
      few = alike.0.few;
      first = alike.0.first;
    },
    alike.1,
  )

  pub many_left : (count : ℕ) (inside : Places) (copies : List Copy) (scopes : List Scope) → length scopes ≡ left + count → AreAlike traces size inside copies scopes → AreAlike after size no_place (ended count inside copies) (drop count scopes)
  many_left zero inside copies scopes long alike = pass_left inside copies scopes (all_left inside copies scopes (omega (arith, long)) alike)
  many_left (suc count) inside [] [] long alike = tt
  many_left (suc count) inside [] (only ∷ scopes) long alike = absurd alike
  many_left (suc count) inside (copy ∷ copies) [] long alike = absurd alike
  many_left (suc count) inside (copy ∷ copies) (only ∷ scopes) long alike = many_left count (either inside copy.touched) copies scopes (omega (arith, long)) alike.1

pub ends_same : EndsKeepSame
ends_same copies frames graph count left long same =
    let gone : length frames.scopes - left ≡ count = omega (arith, long) in
    record {
      alike = subst (λ (k : ℕ). AreAlike (map (outward left) frames.traces) (length graph.objects) no_place (ended count no_place copies) (drop k frames.scopes)) (sym gone)
          (many_left frames.traces (length graph.objects) left count no_place copies frames.scopes long same.alike);
      deep = λ place.
          let deep : (trace_in (map (outward left) frames.traces) place).depth ≤ left =
          subst (λ (t : Trace). t.depth ≤ left) (sym (passed_out left frames.traces place)) (outward_deep left (trace_in frames.traces place)) in
          omega (arith, deep, long, length-drop (length frames.scopes - left) frames.scopes);
      made = λ place past. passed_out left frames.traces place ∙ ap (outward left) (same.made place past) ∙ outward_none left;
    }
