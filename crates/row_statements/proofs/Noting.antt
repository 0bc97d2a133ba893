-- What the steps of a statement note.
use Rattle.std.proofs.Common.{◌≡◌, ℕ, ◌+◌, ◌<◌, List, ◌∷◌, ◌++◌, length, None, Result, Ok, Err, refl, sym, ap, subst, ◌∙◌, append_assoc, arith}
use Rattle.std.proofs.lemmas.List.{length-append}
use Rattle.base_core.specs.declared.value.Value.{Value}
use Rattle.schema_core.specs.Tables.{Rows, row_under}
use Rattle.keeper_core.specs.Store.{Store}
use Rattle.table_log.specs.Marks.{HasMore, IsNoted, Marked, Notes, NotesSome, last_cut, place_added, place_dropped, rows_there}
use Rattle.table_log.specs.Scopes.{scope_started}
use Rattle.table_log.proofs.Marking.{cut_back, kept_more, none_more}

-- ---- one step after another

pub some_noted : (count : ℕ) (old new : Marked) → IsNoted count old new → NotesSome old new
some_noted count old new noted = record { some = count; noted = noted }

pub nothing_noted : (old : Marked) → NotesSome old old
nothing_noted old = some_noted 0 old old (none_more old)

-- no change is noted by no entry
pub none_counted : (count : ℕ) (old : Marked) → count ≡ 0 → IsNoted count old old
none_counted count old none = subst (λ n. IsNoted n old old) (sym none) (none_more old)

pub counted : (count other : ℕ) (old new : Marked) → IsNoted other old new → count ≡ other → IsNoted count old new
counted count other old new noted same = subst (λ n. IsNoted n old new) (sym same) noted

pub noted_more : (first second count : ℕ) (old mid new : Marked) → mid.seen.scopes ≡ old.seen.scopes → count ≡ first + second → IsNoted first old mid → IsNoted second mid new → IsNoted count old new
noted_more first second count old mid new same sum one two = record { noted = both }
  where
    both : 0 < length old.seen.scopes → HasMore count old.marks new.marks
    both inside =
        let a : HasMore first old.marks mid.marks = one.noted inside in
        let b : HasMore second mid.marks new.marks = two.noted (subst (λ scopes. 0 < length scopes) (sym same) inside) in
        record {
          places = b.places ∙ a.places;
          entries = a.entries ++ b.entries;
          many = length-append a.entries b.entries ∙ ap (λ n. n + length b.entries) a.many ∙ ap (λ n. first + n) b.many ∙ sym sum;
          log = b.log ∙ ap (λ log. log ++ b.entries) a.log ∙ append_assoc old.marks.log a.entries b.entries;
        }

pub some_more : (first : ℕ) (old mid new : Marked) → mid.seen.scopes ≡ old.seen.scopes → IsNoted first old mid → NotesSome mid new → NotesSome old new
some_more first old mid new same one two = record { some = first + two.some; noted = noted_more first two.some (first + two.some) old mid new same refl one two.noted }

-- whatever is answered after it
pub notes_either : {A E : Type 0} (count : ℕ) (answer : Result A E) (old new : Marked) → IsNoted count old new → Notes (λ _. count) answer old new
notes_either count (Ok a) old new noted = noted
notes_either count (Err e) old new noted = some_noted count old new noted

-- there was no row to be noted
pub absent_counted : (rows : Rows) (key : List Value) (old : Marked) → row_under rows key ≡ None → IsNoted (rows_there (row_under rows key)) old old
absent_counted rows key old none = none_counted (rows_there (row_under rows key)) old (ap rows_there none)

-- the rest is noted behind the first
pub notes_behind : {A E X : Type 0} (old mid new : Marked) (whole more : List X) (x : X) (answer : Result A E) → whole ≡ x ∷ more → mid.seen.scopes ≡ old.seen.scopes → IsNoted 1 old mid → Notes (λ _. length more) answer mid new → Notes (λ _. length whole) answer old new
notes_behind old mid new whole more x (Ok a) is same one rest = noted_more 1 (length more) (length whole) old mid new same (let long : length whole ≡ length (x ∷ more) = ap length is in omega (arith, long)) one rest
notes_behind old mid new whole more x (Err e) is same one rest = some_more 1 old mid new same one rest

-- ---- the scope of a statement

pub scope_of : (old inner mid : Store) → inner ≡ scope_started old → mid.scopes ≡ inner.scopes → mid.scopes ≡ old.tables ∷ old.scopes
scope_of old inner mid started same = same ∙ ap (λ (store : Store). store.scopes) started

-- the changes were noted behind the place of the statement's scope
inside_more : (count : ℕ) (old inner mid : Marked) → inner.seen ≡ scope_started old.seen → inner.marks ≡ place_added old.marks → IsNoted count inner mid → HasMore count (place_added old.marks) mid.marks
inside_more count old inner mid started added noted =
    subst (λ marks. HasMore count marks mid.marks) added (noted.noted (let one : length inner.seen.scopes ≡ length (old.seen.tables ∷ old.seen.scopes) = ap (λ (store : Store). length store.scopes) started in omega (arith, one)))

pub kept_notes : (count : ℕ) (old inner mid new : Marked) → inner.seen ≡ scope_started old.seen → inner.marks ≡ place_added old.marks → mid.seen.scopes ≡ inner.seen.scopes → IsNoted count inner mid
    → (1 < length mid.seen.scopes → new.marks ≡ place_dropped mid.marks) → IsNoted count old new
kept_notes count old inner mid new started added same noted dropped = record {
  noted = λ inside.
      let many : length mid.seen.scopes ≡ length (old.seen.tables ∷ old.seen.scopes) = ap length (scope_of old.seen inner.seen mid.seen started same) in
      subst (HasMore count old.marks) (sym (dropped (omega (arith, many, inside)))) (kept_more count old.marks mid.marks (inside_more count old inner mid started added noted));
}

pub left_marks : (old inner mid new : Marked) → inner.seen ≡ scope_started old.seen → inner.marks ≡ place_added old.marks → NotesSome inner mid → new.marks ≡ last_cut mid.marks → new.marks ≡ old.marks
left_marks old inner mid new started added some cut = cut ∙ cut_back some.some old.marks mid.marks (inside_more some.some old inner mid started added some.noted)

pub same_marked : (old new : Marked) → new.seen ≡ old.seen → new.marks ≡ old.marks → new ≡ old
same_marked old new seen marks = λ i. record { seen = seen i; marks = marks i }
