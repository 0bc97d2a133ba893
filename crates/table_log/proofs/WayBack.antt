-- Changes of tables, and the way back through their log.
use Rattle.std.proofs.Common.{◌≡◌, ℕ, zero, suc, ◌+◌, ◌-◌, ◌<◌, ◌≤◌, true, List, [], ◌∷◌, ◌++◌, map, length, drop, take, reverse, slice_index_or, Option, None, Some, is_some, refl, sym, ap, subst, ◌∙◌, arith, append-nil, append_assoc}
use Rattle.std.proofs.lemmas.List.{drop-append-le, drop-drop, drop-map, drop_all, drop_at, length-append, length-drop, length-map, length-reverse, reverse-append, take-append-drop}
use Rattle.std.proofs.Math.Seq.{take-suc}
use Rattle.base_core.proofs.Lists.{every_append}
use Rattle.base_core.specs.declared.ids.TableId.{TableId}
use Rattle.base_core.specs.declared.value.Value.{Value}
use Rattle.keeper_core.specs.Store.{Store, outermost}
use Rattle.schema_core.specs.Tables.{Tables, row_under, rows_in, with_row, with_rows, without_row}
use Rattle.table_rows.specs.Rows.{AreSorted, Held, IsPlaced, KeepsAllPlaces, with_former_row, rows_at}
use Rattle.table_rows.proofs.Laws.{none_taken, put_undone, taking_undone}
use Rattle.table_log.specs.declared.undoing.LogEntry.{LogEntry}
use Rattle.table_log.specs.Scopes.{scope_ended, scope_undone}
use Rattle.table_log.specs.Undone.{AreAround, ArePlaced, AreWithin, Follows, scopes_at, before_change, before_changes, tables_at}

-- what was noted last is undone first
undone_more : (tables : Tables) (first later : List LogEntry) → before_changes tables (first ++ later) ≡ before_changes (before_changes tables later) first
undone_more tables [] later = refl
undone_more tables (entry ∷ first) later = ap (λ ts. before_change ts entry) (undone_more tables first later)

pub follows_none : (tables : Tables) (log : List LogEntry) → Follows tables log tables log
follows_none tables log = record { entries = []; noted = sym (append-nil log); back = refl }

pub follows_back : (mid back new : Tables) (mid_log left new_log : List LogEntry) (entry : LogEntry) → Follows mid mid_log new new_log → mid_log ≡ left ++ entry ∷ [] → back ≡ before_change mid entry → Follows back left new new_log
follows_back mid back new mid_log left new_log entry f is undid = record {
  entries = entry ∷ f.entries;
  noted = f.noted ∙ ap (λ log. log ++ f.entries) is ∙ append_assoc left (entry ∷ []) f.entries;
  back = ap (λ ts. before_change ts entry) f.back ∙ sym undid;
}

-- ---- scopes

pub depth_is : (places : List ℕ) (tables : Tables) (log : List LogEntry) → length (scopes_at tables log places) ≡ length places
depth_is places tables log = length-map (reverse places) (tables_at tables log) ∙ length-reverse places

-- the last place is the innermost scope's
inside_first : (places : List ℕ) (place : ℕ) → reverse (places ++ place ∷ []) ≡ place ∷ reverse places
inside_first places place = reverse-append places (place ∷ [])

scopes_same : (old new : Tables) (old_log new_log : List LogEntry) (around : List ℕ) (count : ℕ) → Follows old old_log new new_log → AreAround count around → count ≤ length old_log → map (tables_at new new_log) around ≡ map (tables_at old old_log) around
scopes_same old new old_log new_log [] count f within fits = refl
scopes_same old new old_log new_log (place ∷ around) count f within fits =
    let inside : place ≤ length old_log = omega (arith, within.0, fits) in
    let here : tables_at new new_log place ≡ tables_at old old_log place =
    ap (λ log. before_changes new (drop place log)) f.noted ∙ ap (before_changes new) (drop-append-le place old_log f.entries inside) ∙ undone_more new (drop place old_log) f.entries ∙ ap (λ ts. before_changes ts (drop place old_log)) f.back in
    ap (λ t. t ∷ map (tables_at new new_log) around) here ∙ ap (λ ts. tables_at old old_log place ∷ ts) (scopes_same old new old_log new_log around place f within.1 inside)

-- the tables are others, and the scopes are the same
changed_store : (old new wanted : Tables) (old_log new_log : List LogEntry) (places : List ℕ) → new ≡ wanted → Follows old old_log new new_log → AreWithin (length old_log) places
    → ◌≡◌ {A = Store} (record { tables = new; scopes = scopes_at new new_log places }) (record { tables = wanted; scopes = scopes_at old old_log places })
changed_store old new wanted old_log new_log places is f within = λ i. record { tables = is i; scopes = scopes_same old new old_log new_log (reverse places) (length old_log) f within (omega arith) i }

-- a longer log has places in it too, where there is one
pub noted_within : (places : List ℕ) (log new_log : List LogEntry) (entry : LogEntry) → 0 < length places → new_log ≡ log ++ entry ∷ [] → AreWithin (length log) places → AreWithin (length new_log) places
noted_within places log new_log entry some is within = by (reverse places) (omega (arith, some, length-reverse places)) within
  where
    by : (around : List ℕ) → 0 < length around → AreAround (length log) around → AreAround (length new_log) around
    by [] some within = absurd (omega (arith, some))
    by (place ∷ around) some within = (omega (arith, within.0, ap length is, length-append log (entry ∷ [])), within.1)

-- ---- outside all scopes

-- where there is no scope, the log tells nothing
pub bare_store : (old new wanted : Tables) (log : List LogEntry) (places : List ℕ) → length places ≡ 0 → new ≡ wanted
    → ◌≡◌ {A = Store} (record { tables = new; scopes = scopes_at new log places }) (record { tables = wanted; scopes = scopes_at old log places })
bare_store old new wanted log [] none is = ap (λ (ts : Tables). record { tables = ts; scopes = [] }) is
bare_store old new wanted log (p ∷ places) none is = absurd (omega (arith, none))

-- and it is empty
pub bare_placed : (tables : Held) (log : List LogEntry) (places : List ℕ) → length places ≡ 0 → AreWithin (length log) places → ArePlaced tables log
bare_placed tables [] places none within = tt
bare_placed tables (entry ∷ log) [] none within = absurd (omega (arith, within))
bare_placed tables (entry ∷ log) (p ∷ places) none within = absurd (omega (arith, none))

-- the place of a row that was taken out is given up
pub bare_swept : (old mid new wanted : Tables) (log : List LogEntry) (places : List ℕ) → length places ≡ 0 → new ≡ mid → mid ≡ wanted
    → ◌≡◌ {A = Store} (record { tables = new; scopes = scopes_at new log places }) (record { tables = wanted; scopes = scopes_at old log places })
bare_swept old mid new wanted log places none same is = bare_store old new wanted log places none (same ∙ is)

pub outside_store : (old new wanted : Tables) (log : List LogEntry) (places : List ℕ) → length (scopes_at old log places) ≡ 0 → new ≡ wanted
    → ◌≡◌ {A = Store} (record { tables = new; scopes = scopes_at new log places }) (record { tables = wanted; scopes = scopes_at old log places })
outside_store old new wanted log places none is = bare_store old new wanted log places (sym (depth_is places old log) ∙ none) is

pub outside_placed : (tables : Held) (old : Tables) (log : List LogEntry) (places : List ℕ) → length (scopes_at old log places) ≡ 0 → AreWithin (length log) places → ArePlaced tables log
outside_placed tables old log places none within = bare_placed tables log places (sym (depth_is places old log) ∙ none) within

-- ---- writes

-- what an entry of the log notes
abbrev entry_of : TableId → List Value → Option (List Value) → LogEntry
entry_of table key before = record { table = table; key = key; before = before }

-- a row was put in, and what stood there is noted
pub put_store : (tables new : Tables) (log new_log : List LogEntry) (places : List ℕ) (table : TableId) (key noted row : List Value) (before : Option (List Value)) → AreSorted tables table → is_some (rows_in tables table) ≡ true
    → before ≡ row_under (rows_at tables table) key → noted ≡ key → new ≡ with_rows tables table (with_row (rows_at tables table) key row) → new_log ≡ log ++ entry_of table noted before ∷ [] → AreWithin (length log) places
    → ◌≡◌ {A = Store} (record { tables = new; scopes = scopes_at new new_log places }) (record { tables = with_rows tables table (with_row (rows_at tables table) key row); scopes = scopes_at tables log places })
put_store tables new log new_log places table key noted row before sorted created was same is noted_is within =
    changed_store tables new (with_rows tables table (with_row (rows_at tables table) key row)) log new_log places is (record {
      entries = entry_of table noted before ∷ [];
      noted = noted_is;
      back = ap (λ ts. with_rows ts table (with_former_row (rows_at ts table) noted before)) is
          ∙ ap (λ b. with_rows (with_rows tables table (with_row (rows_at tables table) key row)) table (with_former_row (rows_at (with_rows tables table (with_row (rows_at tables table) key row)) table) noted b)) was
          ∙ ap (λ k. with_rows (with_rows tables table (with_row (rows_at tables table) key row)) table (with_former_row (rows_at (with_rows tables table (with_row (rows_at tables table) key row)) table) k (row_under (rows_at tables table) key))) same
          ∙ put_undone tables table key row sorted created;
    }) within

-- a row was taken out, and noted
pub take_store : (tables new : Tables) (log new_log : List LogEntry) (places : List ℕ) (table : TableId) (key noted row : List Value) → AreSorted tables table → is_some (rows_in tables table) ≡ true
    → Some row ≡ row_under (rows_at tables table) key → noted ≡ key → new ≡ with_rows tables table (without_row (rows_at tables table) key) → new_log ≡ log ++ entry_of table noted (Some row) ∷ [] → AreWithin (length log) places
    → ◌≡◌ {A = Store} (record { tables = new; scopes = scopes_at new new_log places }) (record { tables = with_rows tables table (without_row (rows_at tables table) key); scopes = scopes_at tables log places })
take_store tables new log new_log places table key noted row sorted created found same is noted_is within =
    changed_store tables new (with_rows tables table (without_row (rows_at tables table) key)) log new_log places is (record {
      entries = entry_of table noted (Some row) ∷ [];
      noted = noted_is;
      back = ap (λ ts. with_rows ts table (with_row (rows_at ts table) noted row)) is
          ∙ ap (λ k. with_rows (with_rows tables table (without_row (rows_at tables table) key)) table (with_row (rows_at (with_rows tables table (without_row (rows_at tables table) key)) table) k row)) same
          ∙ taking_undone tables table key row sorted created (sym found);
    }) within

-- no row was there to be taken out
pub none_store : (tables new : Tables) (log : List LogEntry) (places : List ℕ) (table : TableId) (key : List Value) → AreSorted tables table → is_some (rows_in tables table) ≡ true
    → None ≡ row_under (rows_at tables table) key → new ≡ with_rows tables table (without_row (rows_at tables table) key) → AreWithin (length log) places
    → ◌≡◌ {A = Store} (record { tables = new; scopes = scopes_at new log places }) (record { tables = with_rows tables table (without_row (rows_at tables table) key); scopes = scopes_at tables log places })
none_store tables new log places table key sorted created none is within =
    changed_store tables new (with_rows tables table (without_row (rows_at tables table) key)) log log places is (record {
      entries = [];
      noted = sym (append-nil log);
      back = is ∙ none_taken tables table key sorted created (sym none);
    }) within

pub kept_placed : (old new : Held) (log : List LogEntry) → ArePlaced old log → KeepsAllPlaces old new → ArePlaced new log
kept_placed old new [] placed keeps = tt
kept_placed old new (entry ∷ log) placed keeps = (keeps entry.table entry.key placed.0, kept_placed old new log placed.1 keeps)

pub noted_placed : (old new : Held) (log new_log : List LogEntry) (table : TableId) (key noted : List Value) (before : Option (List Value)) → ArePlaced old log → KeepsAllPlaces old new → IsPlaced new table key → noted ≡ key
    → new_log ≡ log ++ entry_of table noted before ∷ [] → ArePlaced new new_log
noted_placed old new log new_log table key noted before placed keeps here same is =
    subst (λ (es : List LogEntry). ArePlaced new es) (sym is)
    (every_append (λ (e : LogEntry). IsPlaced new e.table e.key) log (entry_of table noted before ∷ []) (kept_placed old new log placed keeps) (subst (λ (k : List Value). IsPlaced new table k) (sym same) here, tt))

-- ---- the way back

pub first_placed : (tables : Held) (log left : List LogEntry) (entry : LogEntry) → log ≡ left ++ entry ∷ [] → ArePlaced tables log → ArePlaced tables left
first_placed tables log left entry is placed = by left (subst (λ (es : List LogEntry). ArePlaced tables es) is placed)
  where
    by : (es : List LogEntry) → ArePlaced tables (es ++ entry ∷ []) → ArePlaced tables es
    by [] all = tt
    by (e ∷ es) all = (all.0, by es all.1)

pub last_placed : (tables : Held) (log left : List LogEntry) (entry : LogEntry) → log ≡ left ++ entry ∷ [] → ArePlaced tables log → IsPlaced tables entry.table entry.key
last_placed tables log left entry is placed = by left (subst (λ (es : List LogEntry). ArePlaced tables es) is placed)
  where
    by : (es : List LogEntry) → ArePlaced tables (es ++ entry ∷ []) → IsPlaced tables entry.table entry.key
    by [] all = all.0
    by (e ∷ es) all = by es all.1

pub shorter : (log left : List LogEntry) (entry : LogEntry) → log ≡ left ++ entry ∷ [] → length log ≡ length left + 1
shorter log left entry is = ap length is ∙ length-append left (entry ∷ [])

-- the tables that were gone back to are those of the place
went_to : (back tables : Tables) (left log : List LogEntry) (place : ℕ) → Follows back left tables log → length left ≡ place → back ≡ tables_at tables log place
went_to back tables left log place f is = sym f.back ∙ ap (before_changes tables) (sym (ap (drop place) f.noted ∙ drop_at left f.entries place is))

-- ---- the whole way back

-- the tables at the start of the outermost scope are those at the start of the log
outermost_is : (tables : Tables) (log : List LogEntry) (places : List ℕ) → AreWithin (length log) places → outermost tables (scopes_at tables log places) ≡ tables_at tables log 0
outermost_is tables log places within = by (reverse places) (length log) tables within (sym (ap (before_changes tables) (drop_all (length log) log (omega arith))))
  where
    by : (around : List ℕ) (count : ℕ) (first : Tables) → AreAround count around → first ≡ tables_at tables log count → outermost first (map (tables_at tables log) around) ≡ tables_at tables log 0
    by [] count first none is = is ∙ ap (tables_at tables log) none
    by (place ∷ around) count first within is = by around place (tables_at tables log place) within.1 refl

-- all scopes were undone
pub all_undone : (after back tables : Tables) (left log : List LogEntry) (places : List ℕ) → AreWithin (length log) places → Follows back left tables log → length left ≡ 0 → after ≡ back
    → ◌≡◌ {A = Store} (record { tables = after; scopes = [] }) (record { tables = outermost tables (scopes_at tables log places); scopes = [] })
all_undone after back tables left log places within f long same = ap (λ (ts : Tables). record { tables = ts; scopes = [] }) (same ∙ went_to back tables left log 0 f long ∙ sym (outermost_is tables log places within))

-- ---- the way back to a scope

-- the scopes around one, and its own place
around_is : (places : List ℕ) (number place : ℕ) → number < length places → place ≡ slice_index_or places number place → drop (length places - number - 1) (reverse places) ≡ place ∷ reverse (take number places)
around_is places number place inside is =
    ap (drop (length places - number - 1)) whole ∙ drop_at (reverse (drop (suc number) places)) (place ∷ reverse (take number places)) (length places - number - 1) gone
  where
    whole : reverse places ≡ reverse (drop (suc number) places) ++ place ∷ reverse (take number places)
    whole =
        ap reverse (sym (take-append-drop (suc number) places) ∙ ap (λ first. first ++ drop (suc number) places) (take-suc places number place inside ∙ ap (λ p. take number places ++ p ∷ []) (sym is)))
        ∙ reverse-append (take number places ++ place ∷ []) (drop (suc number) places) ∙ ap (λ first. reverse (drop (suc number) places) ++ first) (inside_first (take number places) place)

    gone : length (reverse (drop (suc number) places)) ≡ length places - number - 1
    gone = let more : length places - suc number ≡ length places - number - 1 = omega arith in length-reverse (drop (suc number) places) ∙ length-drop (suc number) places ∙ more

within_at : (around : List ℕ) (gone count place : ℕ) (left : List ℕ) → drop gone around ≡ place ∷ left → AreAround count around → (place ≤ count) × AreAround place left
within_at around zero count place left is within = subst (AreAround count) is within
within_at [] (suc gone) count place left is within = absurd (cc)
within_at (p ∷ around) (suc gone) count place left is within = let more = within_at around gone p place left is within.1 in (omega (arith, more.0, within.0), more.1)

-- the place of a scope is in the log, and those around it are before it
scope_within : (places : List ℕ) (log : List LogEntry) (number place : ℕ) → number < length places → place ≡ slice_index_or places number place → AreWithin (length log) places → (place ≤ length log) × AreWithin place (take number places)
scope_within places log number place inside is within = within_at (reverse places) (length places - number - 1) (length log) place (reverse (take number places)) (around_is places number place inside is) within

pub place_within : (places : List ℕ) (log : List LogEntry) (tables : Tables) (number place : ℕ) → number < length (scopes_at tables log places) → place ≡ slice_index_or places number place → AreWithin (length log) places → place ≤ length log
place_within places log tables number place inside is within = (scope_within places log number place (omega (arith, inside, depth_is places tables log)) is within).0

pub left_within : (places new : List ℕ) (log left : List LogEntry) (tables : Tables) (number place : ℕ) → number < length (scopes_at tables log places) → place ≡ slice_index_or places number place → AreWithin (length log) places → length left ≡ place → new ≡ take number places
    → AreWithin (length left) new
left_within places new log left tables number place inside is within long rest =
    let around = (scope_within places log number place (omega (arith, inside, depth_is places tables log)) is within).1 in
    subst (λ (ps : List ℕ). AreWithin (length left) ps) (sym rest) (subst (λ (n : ℕ). AreWithin n (take number places)) (sym long) around)

first_left : (scopes : List Tables) (n : ℕ) (d : Tables) → slice_index_or (drop n scopes) 0 d ≡ slice_index_or scopes n d
first_left scopes zero d = refl
first_left [] (suc n) d = refl
first_left (s ∷ scopes) (suc n) d = first_left scopes n d

-- a scope and those inside it were undone
pub scope_left : (tables back : Tables) (log left : List LogEntry) (places new : List ℕ) (number place : ℕ) → number < length (scopes_at tables log places) → place ≡ slice_index_or places number place → AreWithin (length log) places → new ≡ take number places
    → Follows back left tables log → length left ≡ place
    → ◌≡◌ {A = Store} (record { tables = back; scopes = scopes_at back left new })
    (record { tables = slice_index_or (scopes_at tables log places) (length (scopes_at tables log places) - number - 1) tables; scopes = drop (length (scopes_at tables log places) - number) (scopes_at tables log places) })
scope_left tables back log left places new number place inside is within rest f long =
    let scopes : List Tables = scopes_at tables log places in
    let gone : ℕ = length places - number - 1 in
    let below : number < length places = omega (arith, inside, depth_is places tables log) in
    let cut : drop gone scopes ≡ tables_at tables log place ∷ map (tables_at tables log) (reverse (take number places)) =
    drop-map (tables_at tables log) gone (reverse places) ∙ ap (map (tables_at tables log)) (around_is places number place below is) in
    let there : back ≡ slice_index_or scopes (length scopes - number - 1) tables =
    went_to back tables left log place f long ∙ sym (ap (λ ss. slice_index_or ss 0 tables) cut) ∙ first_left scopes gone tables
    ∙ ap (λ n. slice_index_or scopes (n - number - 1) tables) (sym (depth_is places tables log)) in
    let same : scopes_at back left new ≡ map (tables_at tables log) (reverse (take number places)) =
    ap (scopes_at back left) rest ∙ sym (scopes_same back tables left log (reverse (take number places)) place f (scope_within places log number place below is within).1 (omega (arith, long))) in
    let next : gone + 1 ≡ length scopes - number = omega (arith, below, depth_is places tables log) in
    let around : scopes_at back left new ≡ drop (length scopes - number) scopes = same ∙ sym (ap (drop 1) cut) ∙ drop-drop 1 gone scopes ∙ ap (λ n. drop n scopes) next in
    λ i. record { tables = there i; scopes = around i }

-- the outermost scope is the last of them
outermost_at : (tables scope : Tables) (scopes : List Tables) (d : Tables) → outermost tables (scope ∷ scopes) ≡ slice_index_or (scope ∷ scopes) (length scopes) d
outermost_at tables scope [] d = refl
outermost_at tables scope (s ∷ scopes) d = outermost_at scope s scopes d

pub to_outermost : (old new : Store) (number : ℕ) → 0 < length old.scopes → number ≡ 0 → new ≡ record { tables = outermost old.tables old.scopes; scopes = [] }
    → new ≡ record { tables = slice_index_or old.scopes (length old.scopes - number - 1) old.tables; scopes = drop (length old.scopes - number) old.scopes }
to_outermost old new number some first is =
    let there : ◌≡◌ {A = Store} (record { tables = outermost old.tables old.scopes; scopes = [] })
    (record { tables = slice_index_or old.scopes (length old.scopes - number - 1) old.tables; scopes = drop (length old.scopes - number) old.scopes }) = λ i. record { tables = last old.scopes some i; scopes = none i } in
    is ∙ there
  where
    last : (scopes : List Tables) → 0 < length scopes → outermost old.tables scopes ≡ slice_index_or scopes (length scopes - number - 1) old.tables
    last [] some = absurd (omega (arith, some))
    last (s ∷ scopes) some = outermost_at old.tables s scopes old.tables ∙ ap (λ n. slice_index_or (s ∷ scopes) n old.tables) (let same : length scopes ≡ length (s ∷ scopes) - number - 1 = omega (arith, first) in same)

    none : [] ≡ drop (length old.scopes - number) old.scopes
    none = sym (drop_all (length old.scopes - number) old.scopes (omega (arith, first)))

-- ---- the innermost scope

-- one scope is undone
pub one_undone : (old new : Store) (number : ℕ) → 0 < length old.scopes → number ≡ length old.scopes - 1
    → new ≡ record { tables = slice_index_or old.scopes (length old.scopes - number - 1) old.tables; scopes = drop (length old.scopes - number) old.scopes } → new ≡ scope_undone old
one_undone old new number some last is =
    let one : length old.scopes - number ≡ 1 = omega (arith, some, last) in
    let back : ℕ → Store = λ n. record { tables = slice_index_or old.scopes (n - 1) old.tables; scopes = drop n old.scopes } in
    is ∙ ap back one

-- the only scope was ended
pub only_ended : (old new : Store) → length old.scopes ≡ 1 → new ≡ record { tables = old.tables; scopes = [] } → new ≡ scope_ended old
only_ended old new one is = is ∙ ap (λ (scopes : List Tables). record { tables = old.tables; scopes = scopes }) (sym (drop_all 1 old.scopes (omega (arith, one))))

-- the innermost scope was ended
pub one_ended : (tables : Tables) (log : List LogEntry) (places new : List ℕ) (place : ℕ) → places ≡ new ++ place ∷ []
    → ◌≡◌ {A = Store} (record { tables = tables; scopes = scopes_at tables log new }) (record { tables = tables; scopes = drop 1 (scopes_at tables log places) })
one_ended tables log places new place is =
    ap (λ (scopes : List Tables). record { tables = tables; scopes = drop 1 scopes }) (sym (ap (map (tables_at tables log)) (ap reverse is ∙ inside_first new place)))

pub ended_within : (places new : List ℕ) (place : ℕ) (tables : Tables) (log : List LogEntry) (store : Store) → places ≡ new ++ place ∷ [] → ◌≡◌ {A = Store} (record { tables = tables; scopes = scopes_at tables log places }) store → 1 < length store.scopes
    → AreWithin (length log) places → AreWithin (length log) new
ended_within places new place tables log store is view more within =
    let depth : length (scopes_at tables log places) ≡ length store.scopes = ap (λ (s : Store). length s.scopes) view in
    by (reverse new) (omega (arith, more, depth, depth_is places tables log, ap length is, length-append new (place ∷ []), length-reverse new)) (subst (AreAround (length log)) (ap reverse is ∙ inside_first new place) within)
  where
    by : (around : List ℕ) → 0 < length around → AreAround (length log) (place ∷ around) → AreAround (length log) around
    by [] some within = absurd (omega (arith, some))
    by (p ∷ around) some within = (omega (arith, within.0, within.1.0), within.1.1)

-- a scope starts at the end of the log
pub started_store : (tables : Tables) (log : List LogEntry) (places new : List ℕ) (count : ℕ) → count ≡ length log → new ≡ places ++ count ∷ []
    → ◌≡◌ {A = Store} (record { tables = tables; scopes = scopes_at tables log new }) (record { tables = tables; scopes = tables ∷ scopes_at tables log places })
started_store tables log places new count all is =
    ap (λ (around : List ℕ). record { tables = tables; scopes = map (tables_at tables log) around }) (ap reverse is ∙ inside_first places count)
    ∙ ap (λ (t : Tables). record { tables = tables; scopes = t ∷ scopes_at tables log places }) (ap (before_changes tables) (drop_all count log (omega (arith, all))))

pub started_within : (log : List LogEntry) (places new : List ℕ) (count : ℕ) → count ≡ length log → new ≡ places ++ count ∷ [] → AreWithin (length log) places → AreWithin (length log) new
started_within log places new count all is within = subst (AreAround (length log)) (sym (ap reverse is ∙ inside_first places count)) (omega (arith, all), subst (λ (n : ℕ). AreWithin n places) (sym all) within)

-- ---- nothing is noted

pub empty_placed : (tables : Held) (log : List LogEntry) → log ≡ [] → ArePlaced tables log
empty_placed tables log bare = subst (λ (es : List LogEntry). ArePlaced tables es) (sym bare) tt

pub empty_within : (places : List ℕ) (log : List LogEntry) → places ≡ [] → log ≡ [] → AreWithin (length log) places
empty_within places log none bare = subst (λ (ps : List ℕ). AreWithin (length log) ps) (sym none) (ap length bare)

pub ruleset undoing = (follows_none, follows_back, first_placed, last_placed, kept_placed, shorter)

pub ruleset counting = (depth_is)

pub ruleset outside = (outside_store, outside_placed)

pub ruleset writing = (bare_store, bare_swept, bare_placed, put_store, take_store, none_store, noted_placed, kept_placed, noted_within)

pub ruleset starting = (started_store, started_within)

pub ruleset ending = (only_ended, one_ended, ended_within, depth_is)

pub ruleset emptying = (empty_placed, empty_within)

pub ruleset undoing_all = (all_undone, emptying)

pub ruleset undoing_one = (one_undone, depth_is)

pub ruleset undoing_some = (to_outermost, scope_left, place_within, left_within, depth_is)
