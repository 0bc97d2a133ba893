use Rattle.std.proofs.Common.{◌≡◌, ℕ, ◌<◌, false, length, take}
use Rattle.std.specs.Prelude.{slice_index_or}
use Rattle.std.specs.List.{list_any}
use Rattle.row_switches.specs.Switch.{is_number}
use Rattle.row_switches.proofs.staying.marks_of.Given as goal

abbrev pub invariant-loop-number : goal.invariant-loop-number
invariant-loop-number l = record {
  long : length l.marks.items ≡ l._number;
  none : (number : ℕ) → slice_index_or l.marks.items number false ≡ false;
}

abbrev pub invariant-loop-partner : goal.invariant-loop-partner
invariant-loop-partner l = record {
  long : length l.marks.items ≡ l.count;
  marks : (number : ℕ) → number < l.count → slice_index_or l.marks.items number false ≡ list_any (is_number number) (take l.partner-index l.partners);
}
