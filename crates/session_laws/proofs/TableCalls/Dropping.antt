-- Tables are dropped outside transactions, until none is left: that leaves a session sound.
use Rattle.std.proofs.Common.{◌≡◌, Bool, true, false, List, [], ◌∷◌, Ok, refl, sym, ap, ◌∙◌, subst}
use Rattle.std.specs.Prelude.{reverse}
use Rattle.std.specs.List.{AllByRecursion}
use Rattle.base_core.specs.declared.ids.TableId.{TableId}
use Rattle.schema_core.specs.DependencyOrder.{dependency_order}
use Rattle.schema_core.specs.Tables.{is_created}
use Rattle.keeper_core.specs.Beside.{by_own, on_store}
use Rattle.keeper_core.specs.Programs.{Run, ◌>>=◌, each, give}
use Rattle.keeper_core.specs.Store.{Store}
use Rattle.keeper_core.specs.Calls as call
use Rattle.table_laws.specs.Legality.{IsAscendingStore, IsLegalStore, Keeps, drop_each, drop_one}
use Rattle.table_laws.proofs.Dropped.{keeps_dropping}
use Rattle.table_laws.proofs.EachJoin.{keeps_each, keeps_give, keeps_then}
use Rattle.session_scopes.specs.SessionState.{AreAlikeButNotes, with_notes}
use Rattle.session_calls.specs.Parts.{World}
use Rattle.session_laws.specs.Sound.{IsSound, KeepsSoundWhere}
use Rattle.session_laws.proofs.Sound.Programs.{checked_then}
use Rattle.session_tables.specs.declared.tables.TableChange.TheVariants.{Drop}
use Rattle.session_tables.specs.Steps.{change_all, change_one, order_for, transaction_fault}
use Rattle.session_laws.proofs.TableCalls.Making.{IsClosedAs, closed_itself, no_scopes, noted_alike, sound_after}
use Rattle.session_laws.proofs.TableCalls.Placed.{turned_whole}

-- ---- what the store has then

answers : (table : TableId) (w : Store) → (b : Bool) × ((call.drop_table table w).answer ≡ Ok b)
unfolding call.drop_table
answers table w = by (is_created w.tables table) refl
  where
    by : (b : Bool) → is_created w.tables table ≡ b → (d : Bool) × ((call.drop_table table w).answer ≡ Ok d)
    by true is = (true, rw is refl)
    by false is = (false, rw is refl)

-- a program goes on behind a step whose answer is not asked for
turn_after : {W A B : Type 0} (m : W → Run W A) (next : Unit {0} → W → Run W B) (w : W) (a : A) → (m w).answer ≡ Ok a → (((m >>= λ x. give tt) >>= next) w).after ≡ (next tt (m w).after).after
unfolding ◌>>=◌ give
turn_after m next w a is = rw is refl

-- beside a session tables are dropped as in a store alone
pub dropped_store : (order : List TableId) (w : World) → (each (change_one Drop) tt order w).after.store ≡ (each drop_one tt order w.store).after
unfolding each change_one drop_one on_store give
dropped_store [] w = refl
dropped_store (table ∷ order) w =
    let answer = answers table w.store in
    ap (λ (v : World). v.store) (turn_after (on_store with_notes (call.drop_table table)) (λ u. each (change_one Drop) u order) w answer.0 answer.1)
    ∙ dropped_store order (on_store with_notes (call.drop_table table) w).after ∙ sym (turn_after (call.drop_table table) (λ u. each drop_one u order) w.store answer.0 answer.1)

-- ---- what the session is then

record IsAside (start w : World) : Type 0 where
  own : AreAlikeButNotes start.own w.own
  scopes : w.store.scopes ≡ []

dropped_scopes : (table : TableId) (w : Store) → (call.drop_table table w).after.scopes ≡ w.scopes
unfolding call.drop_table
dropped_scopes table w = by (is_created w.tables table) refl
  where
    by : (b : Bool) → is_created w.tables table ≡ b → (call.drop_table table w).after.scopes ≡ w.scopes
    by true is = rw is refl
    by false is = rw is refl

kept_call : (start : World) (table : TableId) → Keeps (IsAside start) (on_store with_notes (call.drop_table table))
unfolding on_store
kept_call start table = record {
  kept = λ w aside. record {
    own = noted_alike start.own w.own (call.drop_table table w.store).events aside.own;
    scopes = dropped_scopes table w.store ∙ aside.scopes;
  };
}

kept_one : (start : World) (table : TableId) (u : Unit {0}) → Keeps (IsAside start) (change_one Drop table u)
unfolding change_one
kept_one start table u = keeps_then (IsAside start) (on_store with_notes (call.drop_table table)) (λ dropped. give tt) (kept_call start table) (λ w dropped aside is. keeps_give (IsAside start) tt)

each_kept : (start : World) (order : List TableId) → AllByRecursion (λ table. (u : Unit {0}) → Keeps (IsAside start) (change_one Drop table u)) order
each_kept start [] = tt
each_kept start (table ∷ order) = (kept_one start table, each_kept start order)

-- ---- all tables

all_dropped : (w : World) → IsAscendingStore w.store → IsSound w → w.own.frames.scopes ≡ [] → IsClosedAs w (each (change_one Drop) tt (reverse (dependency_order w.own.mapping.schema)) w).after
unfolding drop_each
all_dropped w up sound none =
    let order : List TableId = reverse (dependency_order w.own.mapping.schema) in
    let start : IsClosedAs w w = closed_itself w up sound none in
    let aside : IsAside w (each (change_one Drop) tt order w).after = (keeps_each (IsAside w) (change_one Drop) tt order (each_kept w order)).kept w (record { own = start.own; scopes = start.scopes }) in
    record {
      own = aside.own;
      scopes = aside.scopes;
      store = subst (IsLegalStore w.own.mapping.schema) (sym (dropped_store order w)) ((keeps_dropping w.own.mapping.schema order (turned_whole w.own.mapping.schema)).kept w.store start.store);
    }

dropped_sound : (w : World) → IsAscendingStore w.store → IsSound w → w.own.frames.scopes ≡ [] → IsSound (by_own (λ session. each (change_one Drop) tt (order_for Drop session.mapping.schema)) w).after
unfolding by_own
dropped_sound w up sound none = sound_after w (each (change_one Drop) tt (order_for Drop w.own.mapping.schema) w).after sound none (all_dropped w up sound none)

pub drop_sound : KeepsSoundWhere (λ world. IsAscendingStore world.store) (change_all Drop)
unfolding change_all
drop_sound w up sound =
    checked_then transaction_fault (λ u. by_own (λ session. each (change_one Drop) tt (order_for Drop session.mapping.schema))) w sound (λ u fault. dropped_sound w up sound (no_scopes w.own fault))
