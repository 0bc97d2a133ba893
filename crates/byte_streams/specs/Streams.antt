-- What is seen of the sources and sinks in memory, and what those over a reader or a writer make of an answer.
use Rattle.std.specs.Prelude.{ℕ, zero, suc, Bool, true, false, List, Result, Ok, Err}
use Rattle.base_core.specs.Counts.{one_more}
use Rattle.byte_streams.specs.declared.streams.SinkStop.{SinkStop}
use Rattle.byte_streams.specs.declared.streams.SinkStop.TheVariants as stop

-- the bytes that are left, how often it was read, the numbers of the reads that fail, and how many failed
pub record Reading : Type 0 where
  pub left : List ℕ
  pub calls : ℕ
  pub failing : List ℕ
  pub faults : ℕ

-- the bytes written, how often it was written to, the numbers of the writes that fail, and how many failed
pub record Writing : Type 0 where
  pub written : List ℕ
  pub calls : ℕ
  pub failing : List ℕ
  pub faults : ℕ

-- the count of faults after a call that went well or not
abbrev pub count_after : Bool → ℕ → ℕ
count_after true faults = faults
count_after false faults = one_more faults

-- what a writer's count tells of a piece that is empty or not: it is a fault to take no byte of some
abbrev pub written_of : Bool → ℕ → Result ℕ SinkStop
written_of true count = Ok count
written_of false zero = Err stop.Fault
written_of false (suc n) = Ok (suc n)
