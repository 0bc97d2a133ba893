use Rattle.std.proofs.Common.{◌≡◌, map}
use Rattle.std.specs.List.{range_with_len}
use Rattle.sqlite_pool.specs.Header.{first_page_byte}
use Rattle.sqlite_database.proofs.new_files.new_page.Given as goal

abbrev pub invariant-loop-place : goal.invariant-loop-place
invariant-loop-place l = l.page.items ≡ map (first_page_byte 4096) (range_with_len 0 l.place)
