-- The marks by which tables go back, and what changes and scopes make of them.
use Rattle.std.specs.Prelude.{◌≡◌, ℕ, ◌-◌, ◌<◌, List, [], ◌∷◌, ◌++◌, length, take, slice_index_or, Option, None, Some, Result, Ok, Err}
use Rattle.base_core.specs.declared.value.Value.{Value}
use Rattle.schema_core.specs.Tables.{Tables}
use Rattle.keeper_core.specs.Store.{Store}
use Rattle.table_log.specs.declared.undoing.LogEntry.{LogEntry}

-- what was replaced since the outermost scope started, the oldest first, and each scope's first place in it, the outermost scope's first
pub record Marks : Type 0 where
  pub log : List LogEntry
  pub places : List ℕ

-- tables with their scopes, and the marks by which they go back
pub record Marked : Type 0 where
  pub seen : Store
  pub marks : Marks

abbrev pub no_marks : Marks
no_marks = record { log = []; places = [] }

-- tables outside all scopes
abbrev pub unscoped : Tables → Marked
unscoped tables = record { seen = record { tables = tables; scopes = [] }; marks = no_marks }

-- ---- scopes

-- a scope starts at the end of the log
abbrev pub place_added : Marks → Marks
place_added marks = record { log = marks.log; places = marks.places ++ length marks.log ∷ [] }

-- the innermost scope ends, and the log stays
abbrev pub place_dropped : Marks → Marks
place_dropped marks = record { log = marks.log; places = take (length marks.places - 1) marks.places }

-- the log is cut at the place of a scope of this number, and that place and those behind it are dropped
abbrev pub log_cut : ℕ → Marks → Marks
log_cut number marks = record { log = take (slice_index_or marks.places number 0) marks.log; places = take number marks.places }

-- the same of the innermost scope
abbrev pub last_cut : Marks → Marks
last_cut marks = log_cut (length marks.places - 1) marks

-- ---- changes

-- the log has so many entries more, and the scopes have their places
pub record HasMore (count : ℕ) (old new : Marks) : Type 0 where
  pub places : new.places ≡ old.places
  pub entries : List LogEntry
  pub many : length entries ≡ count
  pub log : new.log ≡ old.log ++ entries

-- inside a scope so many changes were noted
pub record IsNoted (count : ℕ) (old new : Marked) : Type 0 where
  pub noted : 0 < length old.seen.scopes → HasMore count old.marks new.marks

-- inside a scope some changes were noted, or none
pub record NotesSome (old new : Marked) : Type 0 where
  pub some : ℕ
  pub noted : IsNoted some old new

-- what was done was noted by as many entries as this tells of the answer; where it was not done, some may have been
abbrev pub Notes : {A E : Type 0} → (A → ℕ) → Result A E → Marked → Marked → Type 0
Notes count (Ok answer) old new = IsNoted (count answer) old new
Notes count (Err e) old new = NotesSome old new

-- how many rows stand under a key
abbrev pub rows_there : Option (List Value) → ℕ
rows_there None = 0
rows_there (Some row) = 1
