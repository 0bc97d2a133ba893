-- What programs leave, part by part.
use Rattle.std.proofs.Common.{◌≡◌, List, [], ◌∷◌, Result, Ok, Err, IfOk, refl, subst}
use Rattle.std.specs.List.{AllByRecursion}
use Rattle.base_core.specs.declared.refusal.Refusal.{Refusal}
use Rattle.base_core.specs.declared.value.Value.{Value}
use Rattle.schema_core.specs.Catalog.{Catalog}
use Rattle.expr_types.specs.declared.select.Select.{Select}
use Rattle.sql_semantics.specs.Created.{bare}
use Rattle.sql_semantics.specs.Rows.{answer}
use Rattle.class_mapping.specs.Mapped.{Mapped}
use Rattle.keeper_core.specs.Beside.{by_own, changes, on_own, on_store}
use Rattle.keeper_core.specs.Calls.{query}
use Rattle.keeper_core.specs.Programs.{Event, Run, ◌>>=◌, change, continue_from, each, give, refuse}
use Rattle.keeper_core.specs.Store.{Store}
use Rattle.keeper_core.specs.declared.sent.Sent.{Sent}
use Rattle.keeper_core.specs.declared.sent.Sent.TheVariants as sent
use Rattle.load_rows.specs.Loading.{Loading}
use Rattle.load_calls.specs.Reading.{World, read, with_statement}
use Rattle.load_steps.specs.Steps.{Holds, IsAnything, IsOver, Keeps, Left}

left_by : {W A B : Type 0} (I J : W → Type 0) (Q : A → W → Type 0) (R : B → W → Type 0) (events : List Event) (w : W) (r : Result A Refusal) (next : A → W → Run W B)
    → I w → IfOk r (λ a. Q a w) → ((u : W) → I u → J u) → ((a : A) → Keeps (λ u. I u × Q a u) J R (next a)) → Left J R (continue_from events w r next)
left_by I J Q R events w (Ok a) next is of more rest = let l = (rest a).left w (is, of) in record { after = l.after; answer = l.answer }
left_by I J Q R events w (Err e) next is of more rest = record { after = more w is; answer = tt }

-- a program, and what goes on from its answer
pub keeps_then : {W A B : Type 0} {Before I J : W → Type 0} {Q : A → W → Type 0} {R : B → W → Type 0} (m : W → Run W A) (next : A → W → Run W B)
    → Keeps Before I Q m → ((w : W) → I w → J w) → ((a : A) → Keeps (λ w. I w × Q a w) J R (next a)) → Keeps Before J R (m >>= next)
unfolding ◌>>=◌
keeps_then {I = I} {J = J} {Q = Q} {R = R} m next first more rest = record {
  left = λ w is. left_by I J Q R (m w).events (m w).after (m w).answer next (first.left w is).after (first.left w is).answer more rest;
}

-- less is wanted than is there
pub keeps_from : {W A : Type 0} {Before Less I : W → Type 0} {Q : A → W → Type 0} (m : W → Run W A) → Keeps Less I Q m → ((w : W) → Before w → Less w) → Keeps Before I Q m
keeps_from m kept less = record { left = λ w is. kept.left w (less w is) }

-- and less is said then
pub keeps_less : {W A : Type 0} {Before I Less : W → Type 0} {Q R : A → W → Type 0} (m : W → Run W A) → Keeps Before I Q m → ((w : W) → I w → Less w) → ((a : A) (w : W) → I w → Q a w → R a w) → Keeps Before Less R m
keeps_less {W = W} {A = A} {I = I} {Q = Q} {R = R} m kept less says = record { left = λ w is. let l = kept.left w is in record { after = less (m w).after l.after; answer = by (m w).answer (m w).after l.after l.answer } }
  where
    by : (r : Result A Refusal) (w : W) → I w → IfOk r (λ a. Q a w) → IfOk r (λ a. R a w)
    by (Ok a) w is of = says a w is of
    by (Err e) w is of = tt

-- a fact that does not speak of the world is had before
pub keeps_given : {W A : Type 0} {Before I : W → Type 0} {Q : A → W → Type 0} {F : Type 0} (m : W → Run W A) → (F → Keeps Before I Q m) → Keeps (λ w. Before w × F) I Q m
keeps_given m kept = record { left = λ w is. (kept is.1).left w is.0 }

-- what is known of the world where the program begins
pub keeps_at : {W A : Type 0} {Before I : W → Type 0} {Q : A → W → Type 0} (m : W → Run W A) → ((w : W) → Before w → Left I Q (m w)) → Keeps Before I Q m
keeps_at m left = record { left = left }

pub keeps_give : {W A : Type 0} {I : W → Type 0} {Q : A → W → Type 0} (a : A) → Keeps (λ w. I w × Q a w) I Q (give a)
unfolding give
keeps_give a = record { left = λ w is. record { after = is.0; answer = is.1 } }

-- nothing is said of the answer that is given
pub keeps_tell : {W A : Type 0} {I : W → Type 0} (a : A) → Keeps I I IsAnything (give a)
unfolding give
keeps_tell a = record { left = λ w is. record { after = is; answer = tt } }

pub keeps_refuse : {W A : Type 0} {I : W → Type 0} {Q : A → W → Type 0} (e : Refusal) → Keeps I I Q (refuse e)
unfolding refuse
keeps_refuse e = record { left = λ w is. record { after = is; answer = tt } }

-- a change of the world
pub keeps_change : {W : Type 0} {Before I : W → Type 0} (f : W → W) → ((w : W) → Before w → I (f w)) → Keeps Before I IsAnything (change f)
unfolding change
keeps_change f kept = record { left = λ w is. record { after = kept w is; answer = tt } }

-- a loop: each step keeps I, and of what it answers what the next one wants
pub keeps_each : {W A S : Type 0} {I : W → Type 0} {Q : S → W → Type 0} (IsItem : A → Type 0) (step : A → S → W → Run W S) (s : S) (xs : List A)
    → ((x : A) (t : S) → IsItem x → Keeps (λ w. I w × Q t w) I Q (step x t)) → AllByRecursion IsItem xs → Keeps (λ w. I w × Q s w) I Q (each step s xs)
unfolding each
keeps_each IsItem step s [] one all = keeps_give s
keeps_each IsItem step s (x ∷ xs) one all = keeps_then (step x s) (λ t. each step t xs) (one x s all.0) (λ w is. is) (λ t. keeps_each IsItem step t xs one all.1)

-- a loop whose steps answer nothing
pub keeps_all : {W A S : Type 0} {I : W → Type 0} (IsItem : A → Type 0) (step : A → S → W → Run W S) (s : S) (xs : List A)
    → ((x : A) (t : S) → IsItem x → Keeps I I IsAnything (step x t)) → AllByRecursion IsItem xs → Keeps I I IsAnything (each step s xs)
unfolding each
keeps_all IsItem step s [] one all = keeps_tell s
keeps_all IsItem step s (x ∷ xs) one all = keeps_then (step x s) (λ t. each step t xs) (one x s all.0) (λ w is. is) (λ t. keeps_from (each step t xs) (keeps_all IsItem step t xs one all.1) (λ w is. is.0))

-- ---- beside a store

module _ (mapped : Mapped) where
  pub keeps_own : {A : Type 0} {P R : Loading → Type 0} {Q : A → Loading → Type 0} {store : Store} (m : Loading → Run Loading A)
      → Keeps (Holds mapped P) (Holds mapped R) Q m → Keeps (IsOver mapped P store) (IsOver mapped R store) (λ a w. Q a w.own) (on_own m)
  unfolding on_own
  keeps_own m kept = record { left = λ w is. let l = kept.left w.own is.holds in record { after = record { holds = l.after; store = is.store }; answer = l.answer } }

  pub keeps_changes : {P R : Loading → Type 0} {store : Store} (f : Loading → Loading) → ((own : Loading) → Holds mapped P own → Holds mapped R (f own)) → Keeps (IsOver mapped P store) (IsOver mapped R store) IsAnything (changes f)
  unfolding changes
  keeps_changes f kept = record { left = λ w is. record { after = record { holds = kept w.own is.holds; store = is.store }; answer = tt } }

-- a program chosen by the objects
pub keeps_by_own : {A : Type 0} {Before I : World → Type 0} {Q : A → World → Type 0} (choose : Loading → World → Run World A) → ((own : Loading) → Keeps (λ w. Before w × (w.own ≡ own)) I Q (choose own)) → Keeps Before I Q (by_own choose)
unfolding by_own
keeps_by_own choose kept = record { left = λ w is. (kept w.own).left w (is, refl) }

-- the rows of a select, which is noted
pub keeps_read : {Before I : World → Type 0} {store : Store} (Are : List (List Value) → World → Type 0) (schema : Catalog) (select : Select) → ((w : World) → Before w → w.store ≡ store)
    → ((w : World) (statement : Sent) → Before w → I (record { own = with_statement statement w.own; store = w.store }))
    → ((w : World) (statement : Sent) (rows : List (List Value)) → Before w → answer schema (bare store.tables) select ≡ Ok rows → Are rows (record { own = with_statement statement w.own; store = w.store }))
    → Keeps Before I Are (read schema select)
unfolding read on_store query
keeps_read {Before = Before} {store = store} Are schema select over noted rows_are = record {
  left = λ w is. record {
    after = noted w (sent.Query select) is;
    answer = by w (sent.Query select) (answer schema (bare w.store.tables) select) refl is;
  };
}
  where
    by : (w : World) (statement : Sent) (r : Result (List (List Value)) Refusal) → answer schema (bare w.store.tables) select ≡ r → Before w → IfOk r (λ rows. Are rows (record { own = with_statement statement w.own; store = w.store }))
    by w statement (Ok rows) e is = rows_are w statement rows is (subst (λ (s : Store). answer schema (bare s.tables) select ≡ Ok rows) (over w is) e)
    by w statement (Err f) e is = tt
