-- Programs that answer, put together and taken apart: what their parts answer, leave and send.
use Rattle.std.proofs.Common.{◌≡◌, List, [], ◌∷◌, ◌++◌, refl, sym, ap, subst, ◌∙◌, append_assoc, append-nil}
use Rattle.keeper_core.specs.Programs.{Event, Run, ◌>>=◌, continue_from, each, give}
use Rattle.loading_laws.specs.Strategies.Filled.{Goes}
use Rattle.loading_laws.proofs.Strategies.Goes.{given, parted}

module _ {W A B : Type 0} (m : W → Run W A) (next : A → W → Run W B) (w v : W) (a : A) (g : Goes m w a v) where
  pub events_then : ((m >>= next) w).events ≡ (m w).events ++ (next a v).events
  unfolding ◌>>=◌
  events_then = λ i. (continue_from (m w).events (g.leaves i) (g.answer i) next).events

  pub goes_then : (b : B) (u : W) → Goes (next a) v b u → Goes (m >>= next) w b u
  unfolding ◌>>=◌
  goes_then b u h = record {
    answer = (λ i. (continue_from (m w).events (g.leaves i) (g.answer i) next).answer) ∙ h.answer;
    leaves = (λ i. (continue_from (m w).events (g.leaves i) (g.answer i) next).after) ∙ h.leaves;
  }

-- a program that does the same
pub goes_same : {W A : Type 0} (m n : W → Run W A) (w v : W) (a : A) → m w ≡ n w → Goes m w a v → Goes n w a v
goes_same {W = W} {A = A} m n w v a same g = record { answer = sym (ap (λ (run : Run W A). run.answer) same) ∙ g.answer; leaves = sym (ap (λ (run : Run W A). run.after) same) ∙ g.leaves }

-- steps for items, the last of which is made behind the others
pub record IsLast {W A S : Type 0} (step : A → S → W → Run W S) (items : List A) (item : A) (s : S) (w : W) (t : S) (v : W) : Type 0 where
  pub value : S
  pub between : W
  pub first : Goes (each step s items) w value between
  pub last : Goes (step item value) between t v
  pub events : (each step s (items ++ item ∷ []) w).events ≡ (each step s items w).events ++ (step item value between).events

pub each_last : {W A S : Type 0} (step : A → S → W → Run W S) (items : List A) (item : A) (s : S) (w : W) (t : S) (v : W) → Goes (each step s (items ++ item ∷ [])) w t v → IsLast step items item s w t v
unfolding each give
each_last {S = S} step [] item s w t v g =
    let two = parted (step item s) (λ (x : S). each step x []) w t v g in
    let end = given two.value t two.between v two.second in
    record {
      value = s;
      between = w;
      first = record { answer = refl; leaves = refl };
      last = subst (λ u. Goes (step item s) w t u) end.1 (subst (λ (x : S). Goes (step item s) w x two.between) end.0 two.first);
      events = events_then (step item s) (λ (x : S). each step x []) w two.between two.value two.first ∙ append-nil (step item s w).events;
    }
each_last {S = S} step (one ∷ items) item s w t v g =
    let two = parted (step one s) (λ (x : S). each step x (items ++ item ∷ [])) w t v g in
    let rest = each_last step items item two.value two.between t v two.second in
    record {
      value = rest.value;
      between = rest.between;
      first = goes_then (step one s) (λ (x : S). each step x items) w two.between two.value two.first rest.value rest.between rest.first;
      last = rest.last;
      events =
          events_then (step one s) (λ (x : S). each step x (items ++ item ∷ [])) w two.between two.value two.first
          ∙ ap (λ (es : List Event). (step one s w).events ++ es) rest.events
          ∙ sym (append_assoc (step one s w).events (each step two.value items two.between).events (step item rest.value rest.between).events)
          ∙ ap (λ (es : List Event). es ++ (step item rest.value rest.between).events) (sym (events_then (step one s) (λ (x : S). each step x items) w two.between two.value two.first));
    }
