-- Runs are the one list of runs that are as long as they can be.
use Rattle.std.proofs.Common.{◌≡◌, ℕ, Bool, true, false, cond, List, [], ◌∷◌, ◌++◌, refl, sym, ap, ◌∙◌, subst, append_assoc}
use Rattle.schema_core.specs.declared.changes.RowChanges.{RowChanges}
use Rattle.schema_core.specs.Catalog.{Catalog}
use Rattle.flush_writes.specs.Runs.{runs_from, nonempty_run, joins, runs}
use Rattle.session_laws.specs.Plans.AsSets.{AreRuns}
use Rattle.session_laws.proofs.Plans.Items.{append_none}
use Rattle.session_laws.proofs.Plans.RunsWhole.{all_rows, runs_whole}

module _ (schema : Catalog) (changes : RowChanges) where
  abbrev join : List ℕ → ℕ → Bool
  join run place = joins schema changes run place

  abbrev cuts : List ℕ → List ℕ → List (List ℕ)
  cuts run places = runs_from schema changes run places

  -- each row keeps the rules behind those before it
  abbrev Joins : List ℕ → List ℕ → Type 0
  Joins ahead [] = Unit {0}
  Joins ahead (place ∷ rest) = (join ahead place ≡ true) × Joins (ahead ++ place ∷ []) rest

  abbrev Begun : List ℕ → Type 0
  Begun [] = Unit {0}
  Begun (first ∷ rest) = Joins (first ∷ []) rest

  abbrev Grown : List ℕ → Type 0
  Grown [] = ⊥
  Grown (first ∷ rest) = Joins (first ∷ []) rest

  -- the next row behind the run breaks a rule
  abbrev Ends : List ℕ → List (List ℕ) → Type 0
  Ends run [] = Unit {0}
  Ends run ([] ∷ parts) = Unit {0}
  Ends run ((place ∷ places) ∷ parts) = join run place ≡ false

  abbrev IsCut : List (List ℕ) → Type 0
  IsCut [] = Unit {0}
  IsCut (run ∷ parts) = Grown run × Ends run parts × IsCut parts

  -- ---- runs are cut so

  joins_on : (ahead rest : List ℕ) (place : ℕ) → Joins ahead rest → join (ahead ++ rest) place ≡ true → Joins ahead (rest ++ place ∷ [])
  joins_on ahead [] place j e = (ap (λ run. join run place) (sym (append_none ahead)) ∙ e, tt)
  joins_on ahead (p ∷ rest) place j e = (j.0, joins_on (ahead ++ p ∷ []) rest place j.1 (ap (λ run. join run place) (append_assoc ahead (p ∷ []) rest) ∙ e))

  begun_on : (run : List ℕ) (place : ℕ) → Begun run → join run place ≡ true → Begun (run ++ place ∷ [])
  begun_on [] place b e = tt
  begun_on (first ∷ rest) place b e = joins_on (first ∷ []) rest place b e

  record Heads (first : ℕ) (parts : List (List ℕ)) : Type 0 where
    more : List ℕ
    others : List (List ℕ)
    is : parts ≡ (first ∷ more) ∷ others

  head_by : (first : ℕ) (rest : List ℕ) (place : ℕ) (places : List ℕ) (b : Bool) → Heads first (cuts ((first ∷ rest) ++ place ∷ []) places) → Heads first (cond b (cuts ((first ∷ rest) ++ place ∷ []) places) (nonempty_run (first ∷ rest) ++ cuts (place ∷ []) places))
  head_by first rest place places true more = more
  head_by first rest place places false more = record { more = rest; others = cuts (place ∷ []) places; is = refl }

  cut_head : (places : List ℕ) (first : ℕ) (rest : List ℕ) → Heads first (cuts (first ∷ rest) places)
  cut_head [] first rest = record { more = rest; others = []; is = refl }
  cut_head (place ∷ places) first rest = head_by first rest place places (join (first ∷ rest) place) (cut_head places first (rest ++ place ∷ []))

  ended_is : (run : List ℕ) (place : ℕ) (places : List ℕ) → Begun run → join run place ≡ false → IsCut (cuts (place ∷ []) places) → IsCut (nonempty_run run ++ cuts (place ∷ []) places)
  ended_is [] place places b e more = more
  ended_is (first ∷ rest) place places b e more = let head = cut_head places place [] in (b, subst (Ends (first ∷ rest)) (sym head.is) e, more)

  cut_by : (run : List ℕ) (place : ℕ) (places : List ℕ) (b : Bool) → join run place ≡ b → Begun run → (Begun (run ++ place ∷ []) → IsCut (cuts (run ++ place ∷ []) places)) → IsCut (cuts (place ∷ []) places) → IsCut (cond b (cuts (run ++ place ∷ []) places) (nonempty_run run ++ cuts (place ∷ []) places))
  cut_by run place places true e b joined apart = joined (begun_on run place b e)
  cut_by run place places false e b joined apart = ended_is run place places b e apart

  cut_is : (places run : List ℕ) → Begun run → IsCut (cuts run places)
  cut_is [] [] b = tt
  cut_is [] (first ∷ rest) b = (b, tt, tt)
  cut_is (place ∷ places) run b = cut_by run place places (join run place) refl b (cut_is places (run ++ place ∷ [])) (cut_is places (place ∷ []) tt)

  -- ---- what that says of each run

  at_run : (before : List (List ℕ)) (run : List ℕ) (after : List (List ℕ)) → IsCut (before ++ run ∷ after) → Grown run × Ends run after
  at_run [] run after is = (is.0, is.1)
  at_run (part ∷ before) run after is = at_run before run after is.2

  joins_at : (start ahead rest : List ℕ) (place : ℕ) → Joins start (ahead ++ place ∷ rest) → join (start ++ ahead) place ≡ true
  joins_at start [] rest place j = ap (λ run. join run place) (append_none start) ∙ j.0
  joins_at start (p ∷ ahead) rest place j = ap (λ run. join run place) (sym (append_assoc start (p ∷ []) ahead)) ∙ joins_at (start ++ p ∷ []) ahead rest place j.1

  are_runs : (order : List ℕ) → AreRuns schema changes order (runs schema changes order)
  are_runs order =
      let is : IsCut (runs schema changes order) = cut_is order [] tt in
      record {
        whole = runs_whole schema changes order;
        some = λ before after e. (at_run before [] after (subst IsCut e is)).0;
        joined = λ before after first ahead rest place e. joins_at (first ∷ []) ahead rest place (at_run before ((first ∷ ahead) ++ place ∷ rest) after (subst IsCut e is)).0;
        longest = λ before after run places place e. (at_run before run ((place ∷ places) ∷ after) (subst IsCut e is)).1;
      }

  -- ---- no other list is so

  take_all : (ahead rest tail : List ℕ) → Joins ahead rest → cuts ahead (rest ++ tail) ≡ cuts (ahead ++ rest) tail
  take_all ahead [] tail j = ap (λ run. cuts run tail) (sym (append_none ahead))
  take_all ahead (place ∷ rest) tail j =
      ap (λ b. cond b (cuts (ahead ++ place ∷ []) (rest ++ tail)) (nonempty_run ahead ++ cuts (place ∷ []) (rest ++ tail))) j.0
      ∙ take_all (ahead ++ place ∷ []) rest tail j.1
      ∙ ap (λ run. cuts run tail) (append_assoc ahead (place ∷ []) rest)

  cut_end : (first : ℕ) (rest : List ℕ) (parts : List (List ℕ)) → Ends (first ∷ rest) parts → IsCut parts → cuts (first ∷ rest) (all_rows parts) ≡ (first ∷ rest) ∷ parts
  cut_end first rest [] e is = refl
  cut_end first rest ([] ∷ parts) e is = absurd is.0
  cut_end first rest ((place ∷ places) ∷ parts) e is =
      ap (λ b. cond b (cuts ((first ∷ rest) ++ place ∷ []) (places ++ all_rows parts)) ((first ∷ rest) ∷ cuts (place ∷ []) (places ++ all_rows parts))) e
      ∙ ap (λ others. (first ∷ rest) ∷ others) (take_all (place ∷ []) places (all_rows parts) is.0 ∙ cut_end place places parts is.1 is.2)

  begin_step : (b : Bool) (first : ℕ) (places : List ℕ) → cond b (cuts (first ∷ []) places) (cuts (first ∷ []) places) ≡ cuts (first ∷ []) places
  begin_step true first places = refl
  begin_step false first places = refl

  cut_again : (parts : List (List ℕ)) → IsCut parts → runs schema changes (all_rows parts) ≡ parts
  cut_again [] is = refl
  cut_again ([] ∷ parts) is = absurd is.0
  cut_again ((first ∷ rest) ∷ parts) is =
      begin_step (join [] first) first (rest ++ all_rows parts)
      ∙ take_all (first ∷ []) rest (all_rows parts) is.0
      ∙ cut_end first rest parts is.1 is.2

  module _ (order : List ℕ) (parts : List (List ℕ)) (are : AreRuns schema changes order parts) where
    grown_of : (before after : List (List ℕ)) (first : ℕ) (ahead rest : List ℕ) → parts ≡ before ++ ((first ∷ ahead) ++ rest) ∷ after → Joins (first ∷ ahead) rest
    grown_of before after first ahead [] e = tt
    grown_of before after first ahead (place ∷ rest) e = (
      are.joined before after first ahead rest place e,
      grown_of before after first (ahead ++ place ∷ []) rest (e ∙ ap (λ run. before ++ run ∷ after) (sym (append_assoc (first ∷ ahead) (place ∷ []) rest))),
    )

    ends_of : (before : List (List ℕ)) (run : List ℕ) (after : List (List ℕ)) → parts ≡ before ++ run ∷ after → Ends run after
    ends_of before run [] e = tt
    ends_of before run ([] ∷ after) e = tt
    ends_of before run ((place ∷ places) ∷ after) e = are.longest before after run places place e

    cut_of : (before after : List (List ℕ)) → parts ≡ before ++ after → IsCut after
    cut_of before [] e = tt
    cut_of before ([] ∷ after) e = absurd (are.some before after e)
    cut_of before ((first ∷ rest) ∷ after) e = (
      grown_of before after first [] rest e,
      ends_of before (first ∷ rest) after e,
      cut_of (before ++ (first ∷ rest) ∷ []) after (e ∙ sym (append_assoc before ((first ∷ rest) ∷ []) after)),
    )

    only_runs : parts ≡ runs schema changes order
    only_runs = sym (cut_again parts (cut_of [] parts refl)) ∙ ap (runs schema changes) are.whole

pub runs_are : (schema : Catalog) (changes : RowChanges) (order : List ℕ) → AreRuns schema changes order (runs schema changes order)
runs_are = are_runs

pub only_these : (schema : Catalog) (changes : RowChanges) (order : List ℕ) (parts : List (List ℕ)) → AreRuns schema changes order parts → parts ≡ runs schema changes order
only_these = only_runs
