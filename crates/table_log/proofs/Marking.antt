-- What changes and scopes make of the marks.
use Rattle.std.proofs.Common.{◌≡◌, ℕ, zero, suc, ◌+◌, ◌-◌, ◌<◌, List, [], ◌∷◌, ◌++◌, length, take, reverse, slice_index_or, Option, None, Some, refl, sym, ap, subst, ◌∙◌, arith, append-nil}
use Rattle.std.proofs.lemmas.List.{length-append, reverse-append}
use Rattle.base_core.specs.declared.ids.TableId.{TableId}
use Rattle.base_core.specs.declared.value.Value.{Value}
use Rattle.schema_core.specs.Tables.{Tables, row_under}
use Rattle.table_rows.specs.Rows.{rows_at}
use Rattle.table_log.specs.declared.undoing.LogEntry.{LogEntry}
use Rattle.table_log.specs.Marks.{HasMore, IsNoted, Marked, Marks, NotesSome, last_cut, log_cut, no_marks, place_added, place_dropped, rows_there}
use Rattle.table_log.specs.Undone.{AreAround, AreWithin, Follows, marked_at, scopes_at}
use Rattle.table_log.proofs.WayBack as way
use Rattle.table_log.proofs.WayBack.{depth_is}

-- ---- changes

-- nothing was noted
pub none_more : (old : Marked) → IsNoted 0 old old
none_more old = record { noted = λ inside. record { places = refl; entries = []; many = refl; log = sym (append-nil old.marks.log) } }

pub same_noted : (old new : Marked) → new ≡ old → NotesSome old new
same_noted old new same = subst (NotesSome old) (sym same) (record { some = 0; noted = none_more old })

-- outside all scopes there is nothing to note
pub outside_noted : (count : ℕ) (tables new : Tables) (log new_log : List LogEntry) (places new_places : List ℕ) → length places ≡ 0 → IsNoted count (marked_at tables log places) (marked_at new new_log new_places)
outside_noted count tables new log new_log places new_places none = record { noted = λ inside. absurd (omega (arith, inside, none, depth_is places tables log)) }

-- one change was noted
pub one_noted : (tables new : Tables) (log new_log : List LogEntry) (places : List ℕ) (entry : LogEntry) → new_log ≡ log ++ entry ∷ [] → IsNoted 1 (marked_at tables log places) (marked_at new new_log places)
one_noted tables new log new_log places entry is = record { noted = λ inside. record { places = refl; entries = entry ∷ []; many = refl; log = is } }

-- a row that was there was taken out
pub row_noted : (tables new : Tables) (log new_log : List LogEntry) (places : List ℕ) (entry : LogEntry) (table : TableId) (key row : List Value) → Some row ≡ row_under (rows_at tables table) key → new_log ≡ log ++ entry ∷ []
    → IsNoted (rows_there (row_under (rows_at tables table) key)) (marked_at tables log places) (marked_at new new_log places)
row_noted tables new log new_log places entry table key row found is =
    subst (λ (o : Option (List Value)). IsNoted (rows_there o) (marked_at tables log places) (marked_at new new_log places)) found (one_noted tables new log new_log places entry is)

-- none was there
pub none_noted : (tables new : Tables) (log : List LogEntry) (places : List ℕ) (table : TableId) (key : List Value) → None ≡ row_under (rows_at tables table) key
    → IsNoted (rows_there (row_under (rows_at tables table) key)) (marked_at tables log places) (marked_at new log places)
none_noted tables new log places table key none =
    subst (λ (o : Option (List Value)). IsNoted (rows_there o) (marked_at tables log places) (marked_at new log places)) none
    (record { noted = λ inside. record { places = refl; entries = []; many = refl; log = sym (append-nil log) } })

-- ---- scopes

pub added : (log : List LogEntry) (places new : List ℕ) (count : ℕ) → count ≡ length log → new ≡ places ++ count ∷ [] → record { log = log; places = new } ≡ place_added (record { log = log; places = places })
added log places new count all is = ap (λ (ps : List ℕ). record { log = log; places = ps }) (is ∙ ap (λ n. places ++ n ∷ []) all)

-- the entries before these
first_of : (log entries : List LogEntry) → take (length log) (log ++ entries) ≡ log
first_of [] entries = refl
first_of (e ∷ es) entries = ap (λ rest. e ∷ rest) (first_of es entries)

-- the places before the last
before_last : (places : List ℕ) (place : ℕ) → take (length (places ++ place ∷ []) - 1) (places ++ place ∷ []) ≡ places
before_last places place = ap (λ n. take n (places ++ place ∷ [])) long ∙ by places
  where
    long : length (places ++ place ∷ []) - 1 ≡ length places
    long = omega (arith, length-append places (place ∷ []))

    by : (ps : List ℕ) → take (length ps) (ps ++ place ∷ []) ≡ ps
    by [] = refl
    by (p ∷ ps) = ap (λ rest. p ∷ rest) (by ps)

pub dropped : (log : List LogEntry) (places new : List ℕ) (place : ℕ) → places ≡ new ++ place ∷ [] → record { log = log; places = new } ≡ place_dropped (record { log = log; places = places })
dropped log places new place is = ap (λ (ps : List ℕ). record { log = log; places = ps }) (sym (ap (λ ps. take (length ps - 1) ps) is ∙ before_last new place))

-- a scope that is not the only one was not ended as such
pub not_only : (one more : ℕ) {A : Type 0} → one ≡ 1 → 1 < one → A
not_only one more is inside = absurd (omega (arith, is, inside))

-- ---- the way back

-- the log starts with these entries
starts : (left log : List LogEntry) (back tables : Tables) (place : ℕ) → Follows back left tables log → length left ≡ place → take place log ≡ left
starts left log back tables place f long = ap (take place) f.noted ∙ ap (λ n. take n (left ++ f.entries)) (sym long) ∙ first_of left f.entries

other_default : (places : List ℕ) (number a b : ℕ) → number < length places → slice_index_or places number a ≡ slice_index_or places number b
other_default [] number a b inside = absurd (omega (arith, inside))
other_default (p ∷ places) zero a b inside = refl
other_default (p ∷ places) (suc number) a b inside = other_default places number a b (omega (arith, inside))

-- a scope and those inside it were undone
pub cut : (back tables : Tables) (left log : List LogEntry) (places new : List ℕ) (number place : ℕ) → number < length (scopes_at tables log places) → place ≡ slice_index_or places number place → new ≡ take number places
    → Follows back left tables log → length left ≡ place → record { log = left; places = new } ≡ log_cut number (record { log = log; places = places })
cut back tables left log places new number place inside is rest f long =
    let there : slice_index_or places number 0 ≡ place = other_default places number 0 place (omega (arith, inside, depth_is places tables log)) ∙ sym is in
    let start : left ≡ take (slice_index_or places number 0) log = sym (ap (λ n. take n log) there ∙ starts left log back tables place f long) in
    λ i. record { log = start i; places = rest i }

-- the outermost scope starts where the log does
pub first_place : (places : List ℕ) (count : ℕ) → AreWithin count places → slice_index_or places 0 0 ≡ 0
first_place [] count within = refl
first_place (p ∷ places) count within = by (reverse places) count (subst (AreAround count) (reverse-append (p ∷ []) places) within)
  where
    by : (around : List ℕ) (count : ℕ) → AreAround count (around ++ p ∷ []) → p ≡ 0
    by [] count within = within.1
    by (q ∷ around) count within = by around q within.1

-- all scopes were undone
pub all_cut : (old new : Marks) (number : ℕ) → number ≡ 0 → slice_index_or old.places 0 0 ≡ 0 → new ≡ no_marks → new ≡ log_cut number old
all_cut old new number first start none = none ∙ ap (λ n. record { log = take n old.log; places = [] }) (sym start) ∙ ap (λ n. log_cut n old) (sym first)

-- the innermost scope's number is one below how many there are
pub last_number : (old new : Marks) (count number : ℕ) → count ≡ length old.places → number ≡ count - 1 → new ≡ log_cut number old → new ≡ last_cut old
last_number old new count number all last is = is ∙ ap (λ n. log_cut n old) (last ∙ ap (λ n. n - 1) all)

-- ---- a scope that started and ended

-- what was noted inside is noted when the scope has ended
pub kept_more : (count : ℕ) (marks later : Marks) → HasMore count (place_added marks) later → HasMore count marks (place_dropped later)
kept_more count marks later more = record {
  places = ap (λ ps. take (length ps - 1) ps) more.places ∙ before_last marks.places (length marks.log);
  entries = more.entries;
  many = more.many;
  log = more.log;
}

-- when the scope is undone, nothing is
pub cut_back : (count : ℕ) (marks later : Marks) → HasMore count (place_added marks) later → last_cut later ≡ marks
cut_back count marks later more =
    let places : List ℕ = marks.places ++ length marks.log ∷ [] in
    let place : slice_index_or places (length places - 1) 0 ≡ length marks.log = ap (λ n. slice_index_or places n 0) (long marks.places) ∙ last_of marks.places in
    let log : take (slice_index_or places (length places - 1) 0) (marks.log ++ more.entries) ≡ marks.log = ap (λ n. take n (marks.log ++ more.entries)) place ∙ first_of marks.log more.entries in
    (λ i. record { log = take (slice_index_or (more.places i) (length (more.places i) - 1) 0) (more.log i); places = take (length (more.places i) - 1) (more.places i) })
    ∙ (λ i. record { log = log i; places = before_last marks.places (length marks.log) i })
  where
    long : (ps : List ℕ) → length (ps ++ length marks.log ∷ []) - 1 ≡ length ps
    long ps = omega (arith, length-append ps (length marks.log ∷ []))

    last_of : (ps : List ℕ) → slice_index_or (ps ++ length marks.log ∷ []) (length ps) 0 ≡ length marks.log
    last_of [] = refl
    last_of (p ∷ ps) = last_of ps

pub undone_started : (marks : Marks) → last_cut (place_added marks) ≡ marks
undone_started marks = cut_back 0 marks (place_added marks) (record { places = refl; entries = []; many = refl; log = sym (append-nil marks.log) })

pub ruleset writing = (same_noted, outside_noted, one_noted, row_noted, none_noted, way.writing)

pub ruleset starting = (added, way.starting)

pub ruleset ending = (dropped, not_only, way.ending)

pub ruleset undoing_all = (first_place, way.undoing_all)

pub ruleset undoing_some = (cut, all_cut, way.undoing_some)

pub ruleset undoing_one = (last_number, way.undoing_one)
