-- Scopes by copies are those of a session where none is in progress, when objects change, and when one begins.
use Rattle.std.proofs.Common.{◌≡◌, ℕ, ◌≤◌, false, List, [], ◌∷◌, length, inl, refl, sym, ap, arith}
use Rattle.std.specs.Prelude.{nat_le}
use Rattle.std.proofs.lemmas.Bool.Decides.{nat_tests}
use Rattle.std.proofs.lemmas.List.{length-map}
use Rattle.object_arena.specs.declared.object.Object.{Object}
use Rattle.savepoints.specs.declared.scope.Scope.{Scope}
use Rattle.savepoints.specs.declared.traces.Trace.{Trace}
use Rattle.savepoints.specs.Scopes.{begun_at, standing_of, trace_in}
use Rattle.frame_laws.specs.Copies.{Copy, Places, either}
use Rattle.frame_laws.specs.Laws.{AreAlike, BeginKeepsSame, ChangesKeepSame, StartsTheSame, outer_count}

pub starts_same : StartsTheSame
starts_same graph = record { alike = tt; deep = λ place. omega arith; made = λ place past. refl }

-- ---- more objects

more_alike : (traces : List Trace) (old new : ℕ) (inside : Places) (copies : List Copy) (scopes : List Scope) → old ≤ new → AreAlike traces old inside copies scopes → AreAlike traces new inside copies scopes
more_alike traces old new inside [] [] more alike = tt
more_alike traces old new inside [] (only ∷ scopes) more alike = absurd alike
more_alike traces old new inside (copy ∷ copies) [] more alike = absurd alike
more_alike traces old new inside (copy ∷ copies) (only ∷ scopes) more alike = (
  record {
    stood = alike.0.stood;
    touched = alike.0.touched;
    loaded = alike.0.loaded;
    since = alike.0.since;
    few = omega (arith, more, alike.0.few);
    first = alike.0.first;
  },
  more_alike traces old new (either inside copy.touched) copies scopes more alike.1,
)

pub changes_same : ChangesKeepSame
changes_same copies frames old new more same = record {
  alike = more_alike frames.traces (length old.objects) (length new.objects) _ copies frames.scopes more same.alike;
  deep = same.deep;
  made = λ place past. same.made place (omega (arith, more, past));
}

-- ---- a scope begins

outer_few : (traces : List Trace) (size : ℕ) (inside : Places) (copies : List Copy) (scopes : List Scope) → AreAlike traces size inside copies scopes → outer_count scopes ≤ size
outer_few traces size inside [] [] alike = omega arith
outer_few traces size inside [] (only ∷ scopes) alike = absurd alike
outer_few traces size inside (copy ∷ copies) [] alike = absurd alike
outer_few traces size inside (copy ∷ copies) (only ∷ scopes) alike = omega (arith, alike.0.first, alike.0.few)

outer_begun : (begun : Scope) (scopes : List Scope) (size : ℕ) → length begun.standings ≡ size → outer_count scopes ≤ size → outer_count (begun ∷ scopes) ≤ length begun.standings
outer_begun begun [] size is few = omega arith
outer_begun begun (next ∷ scopes) size is few = omega (arith, is, few)

pub begin_same : BeginKeepsSame
begin_same copies frames graph same = record {
  alike = (
    record {
      stood = refl;
      touched = λ place. none_touched (trace_in frames.traces place).depth (same.deep place);
      loaded = λ place past. sym (ap (λ (t : Trace). t.loaded) (same.made place (omega (arith, past, as_many))));
      since = λ place past. inl (ap (λ (t : Trace). t.depth) (same.made place (omega (arith, past, as_many))));
      few = omega (arith, as_many);
      first = outer_begun (begun_at graph) frames.scopes (length graph.objects) as_many (outer_few frames.traces (length graph.objects) _ copies frames.scopes same.alike);
    },
    same.alike,
  );
  deep = λ place. omega (arith, same.deep place);
  made = same.made;
}
  where
    as_many : length (begun_at graph).standings ≡ length graph.objects
    as_many = length-map graph.objects (λ (o : Object). standing_of o)

    none_touched : (depth : ℕ) → depth ≤ length frames.scopes → false ≡ nat_le (length (begun_at graph ∷ frames.scopes)) depth
    none_touched depth deep = let no : nat_le (length (begun_at graph ∷ frames.scopes)) depth ≡ false = grind (arith, nat_tests) in sym no
