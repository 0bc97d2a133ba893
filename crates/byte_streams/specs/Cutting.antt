-- How a script's bytes are cut into lines.
use Rattle.std.specs.Prelude.{◌≡◌, ℕ, ◌+◌, Bool, true, false, ◌||◌, ◌<◌, ◌≤◌, nat_lt, nat_eq, List, [], ◌++◌, length, take, drop, Option, None, Some, if◌then◌else◌}
use Rattle.std.specs.List.{position_or_len}
use Rattle.std.specs.Io.BufRead.{strip_last}
use Rattle.std.specs.Io.KnownBytes.{prepend_known, Keeps, IsAtEnd}
use Rattle.byte_streams.specs.declared.lines.NextLine.{NextLine}
use Rattle.byte_streams.specs.declared.lines.NextLine.TheVariants as next
use Rattle.byte_streams.specs.declared.cutting.Piece.{Piece}
use Rattle.byte_streams.specs.declared.cutting.Piece.TheVariants as piece

abbrev pub carriage_return : ℕ
carriage_return = 13

abbrev pub is_newline : ℕ → Bool
is_newline byte = nat_eq byte 10

-- how many bytes a script may have, and a line without its newline
abbrev pub most_bytes : ℕ
most_bytes = 16777216

abbrev pub most_in_line : ℕ
most_in_line = 65536

-- how many bytes stand before the first newline, or all where there is none
abbrev pub line_width : List ℕ → ℕ
line_width bytes = position_or_len is_newline bytes

abbrev pub has_newline : List ℕ → Bool
has_newline bytes = nat_lt (line_width bytes) (length bytes)

-- What comes next of a script: nothing, a line or a script that is too long, or a line, with how many bytes were taken by then and what is left.
pub data Cut : Type 0 where
  Ended : Cut
  TooLong : Cut
  Line : List ℕ → ℕ → List ℕ → Cut

-- a line of this width, which ends with the given byte of the script, passes a limit
abbrev pub passes_limit : ℕ → ℕ → Bool
passes_limit width bytes = nat_lt most_in_line width || nat_lt most_bytes bytes

-- the line before the first newline, without a carriage return at its end
abbrev pub whole_line : ℕ → List ℕ → Cut
whole_line taken bytes =
    if passes_limit (line_width bytes) (taken + (line_width bytes + 1)) then TooLong
    else Line (strip_last carriage_return (take (line_width bytes) bytes)) (taken + (line_width bytes + 1)) (drop (line_width bytes + 1) bytes)

-- the line that the script ends
abbrev pub last_line : ℕ → List ℕ → Cut
last_line taken bytes =
    if passes_limit (length bytes) (taken + length bytes) then TooLong
    else Line bytes (taken + length bytes) []

-- what comes next of a script of which so many bytes were taken and these are left
unfoldable pub next_cut : ℕ → List ℕ → Cut
next_cut taken bytes =
    if has_newline bytes then whole_line taken bytes
    else (if nat_eq (length bytes) 0 then Ended else last_line taken bytes)

-- the bytes that were read and not taken yet, how many were taken, and whether the source has ended
pub record Pending : Type 0 where
  pub bytes : List ℕ
  pub taken : ℕ
  pub ended : Bool

-- the bytes to come: those that are pending and, where it tells them, those left with the source
abbrev pub to_come : Pending → Option (List ℕ) → Option (List ℕ)
to_come pending left = prepend_known pending.bytes left

-- once the source has ended, it has nothing left
abbrev pub FitsSource : Pending → Option (List ℕ) → Type 0
FitsSource pending left = pending.ended ≡ true → IsAtEnd left

-- the answer is the cut of what was to come; what it leaves is to come. Nothing is taken at the end, and of what is too long.
abbrev pub IsNext : Cut → NextLine → ℕ → List ℕ → ℕ → List ℕ → Type 0
IsNext Ended next.End taken bytes now rest = (now ≡ taken) × (rest ≡ bytes)
IsNext TooLong next.TooLong taken bytes now rest = (now ≡ taken) × (rest ≡ bytes)
IsNext (Line line by_then behind) (next.Line bytes_of_line) taken bytes now rest = (bytes_of_line ≡ line) × (now ≡ by_then) × (rest ≡ behind)
IsNext cut answer taken bytes now rest = ⊥

-- who tells goes on telling
abbrev pub IsNextOf : ℕ → Option (List ℕ) → NextLine → ℕ → Option (List ℕ) → Type 0
IsNextOf taken None answer now rest = Unit {0}
IsNextOf taken (Some bytes) answer now None = ⊥
IsNextOf taken (Some bytes) answer now (Some rest) = IsNext (next_cut taken bytes) answer taken bytes now rest

-- the answer is what comes next of the script, where the source tells its bytes
abbrev pub IsNextTold : Pending → Option (List ℕ) → NextLine → Pending → Option (List ℕ) → Type 0
IsNextTold old before answer now left = IsNextOf old.taken (to_come old before) answer now.taken (to_come now left)

-- a line takes a byte or more and keeps the limits; nothing is taken at the end, and of what is too long
abbrev pub KeepsLimits : NextLine → ℕ → ℕ → Type 0
KeepsLimits (next.Line bytes) taken now = (length bytes ≤ most_in_line) × (taken < now) × (now ≤ most_bytes)
KeepsLimits answer taken now = now ≡ taken

-- a line that no newline ends comes only once the source has ended
abbrev pub IsWhole : NextLine → Bool → Option (List ℕ) → Type 0
IsWhole (next.Line line) false (Some bytes) = has_newline bytes ≡ true
IsWhole answer ended bytes = Unit {0}

-- nothing was taken and nothing is lost: the bytes to come are the same
abbrev pub IsKept : Pending → Option (List ℕ) → Pending → Option (List ℕ) → Type 0
IsKept old before now left = (now.taken ≡ old.taken) × Keeps (to_come old before) (to_come now left)

-- what can be told of pending bytes, whatever bytes are still to come; none come once the source has ended
abbrev pub IsPiece : List ℕ → ℕ → Bool → Piece → Type 0
IsPiece bytes taken ended piece.Open = (has_newline bytes ≡ false) × (length bytes ≤ most_in_line) × (ended ≡ false)
IsPiece bytes taken ended piece.End = (more : List ℕ) → (ended ≡ true → more ≡ []) → next_cut taken (bytes ++ more) ≡ Ended
IsPiece bytes taken ended piece.TooLong = (more : List ℕ) → (ended ≡ true → more ≡ []) → next_cut taken (bytes ++ more) ≡ TooLong
IsPiece bytes taken ended (piece.Line size width) = (size ≤ most_in_line) × (size ≤ width) × (0 < width) × (width ≤ length bytes) × (taken + width ≤ most_bytes)
    × ((more : List ℕ) → (ended ≡ true → more ≡ []) → (next_cut taken (bytes ++ more) ≡ Line (take size bytes) (taken + width) (drop width bytes ++ more)) × (ended ≡ false → has_newline (bytes ++ more) ≡ true))

-- what stands pending after a call that told nothing, or took a line
abbrev pub IsTaken : Pending → Option NextLine → Pending → Type 0
IsTaken old None now = (now ≡ old) × (has_newline old.bytes ≡ false) × (length old.bytes ≤ most_in_line) × (old.ended ≡ false)
IsTaken old (Some answer) now = (now.ended ≡ old.ended) × KeepsLimits answer old.taken now.taken
    × ((left : List ℕ) → (old.ended ≡ true → left ≡ []) → IsNext (next_cut old.taken (old.bytes ++ left)) answer old.taken (old.bytes ++ left) now.taken (now.bytes ++ left)
    × IsWhole answer old.ended (Some (old.bytes ++ left)))

-- bytes of the source came behind the pending ones, at least one, or it has ended
abbrev pub IsFilled : Pending → Option (List ℕ) → Pending → Option (List ℕ) → Type 0
IsFilled old before now left = IsKept old before now left × FitsSource now left × (length old.bytes + (if now.ended then 0 else 1) ≤ length now.bytes)
