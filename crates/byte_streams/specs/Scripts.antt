-- The lines of a script.
use Rattle.std.specs.Prelude.{◌≡◌, ℕ, zero, suc, ◌+◌, Bool, true, false, List, [], ◌∷◌, ◌++◌}
use Rattle.byte_streams.specs.Cutting.{Cut, Ended, TooLong, Line, next_cut, has_newline, most_bytes}

-- the lines of a script, and whether it or the line behind them is too long
pub record Lines : Type 0 where
  pub lines : List (List ℕ)
  pub too_long : Bool

-- a line before other lines
abbrev pub led_by : List ℕ → Lines → Lines
led_by line behind = record { lines = line ∷ behind.lines; too_long = behind.too_long }

-- the lines from the next cut on, where those behind it are known
abbrev pub lines_by : Cut → (ℕ → List ℕ → Lines) → Lines
lines_by Ended behind = record { lines = []; too_long = false }
lines_by TooLong behind = record { lines = []; too_long = true }
lines_by (Line line taken rest) behind = led_by line (behind taken rest)

-- the lines of the bytes that are left, at most so many, where so many bytes were taken
unfoldable pub lines_from : ℕ → ℕ → List ℕ → Lines
lines_from zero taken bytes = record { lines = []; too_long = false }
lines_from (suc most) taken bytes = lines_by (next_cut taken bytes) (lines_from most)

-- the lines of a script: each takes a byte at least, so that a script within the limits has no more of them than bytes
abbrev pub lines_of : List ℕ → Lines
lines_of bytes = lines_from (most_bytes + 1) 0 bytes

-- what ends a line: a newline, a carriage return and a newline, or the script
pub data LineEnd : Type 0 where
  Newline : LineEnd
  ReturnAndNewline : LineEnd
  ScriptEnd : LineEnd

abbrev pub end_bytes : LineEnd → List ℕ
end_bytes Newline = 10 ∷ []
end_bytes ReturnAndNewline = 13 ∷ 10 ∷ []
end_bytes ScriptEnd = []

-- the bytes are a line without a newline, its end, and what stands behind it: nothing, where the script ends the line
pub record BeginsWithLine (bytes line behind : List ℕ) : Type 0 where
  pub end : LineEnd
  pub bare : has_newline line ≡ false
  pub joined : bytes ≡ line ++ (end_bytes end ++ behind)
  pub last : end ≡ ScriptEnd → behind ≡ []

-- the bytes are these lines, each with its end behind it, and then the rest
abbrev pub AreLines : List (List ℕ) → List ℕ → List ℕ → Type 0
AreLines [] rest bytes = bytes ≡ rest
AreLines (line ∷ lines) rest bytes = (behind : List ℕ) × BeginsWithLine bytes line behind × AreLines lines rest behind

-- the lines of a script with their ends are all its bytes, or the first ones where it or a line of it is too long
pub record IsOfItsLines (bytes : List ℕ) : Type 0 where
  pub rest : List ℕ
  pub joined : AreLines (lines_of bytes).lines rest bytes
  pub whole : (lines_of bytes).too_long ≡ false → rest ≡ []
