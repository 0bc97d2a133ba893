-- The bytes of the first page.
use Rattle.std.proofs.Common.{◌≡◌, ℕ, ◌+◌, ◌<◌, ◌≤◌, [], ◌∷◌, List, ◌++◌, map, slice_index, refl, ap, ◌∙◌, subst, arith, ne_eqb, le-ltb}
use Rattle.std.specs.List.{range_with_len}
use Rattle.std.proofs.lemmas.List.FromFn.{get_or-map-range_with_len, map-range_with_len_more}
use Rattle.sqlite_pool.specs.Header.{first_page, first_page_byte}
use Rattle.sqlite_database.specs.declared.new_files.TheConstants.{HEADERS}

all_headers : HEADERS ≡ map (first_page_byte 4096) (range_with_len 0 108)
all_headers = refl

-- a byte of the headers
pub byte_of_headers : (k : ℕ) → k < 108 → slice_index HEADERS k ≡ first_page_byte 4096 k
byte_of_headers k low = ap (λ (bytes : List ℕ). slice_index bytes k) all_headers ∙ get_or-map-range_with_len (first_page_byte 4096) 0 108 k k 0 low (omega arith)

-- a byte behind them
pub byte_of_rest : (k : ℕ) → 108 ≤ k → 0 ≡ first_page_byte 4096 k
byte_of_rest k high = rw (ne_eqb k 16 (omega arith), ne_eqb k 17 (omega arith), ne_eqb k 20 (omega arith), le-ltb k 16 (omega arith), le-ltb k 100 (omega arith), ne_eqb k 100 (omega arith), ne_eqb k 105 (omega arith), ne_eqb k 106 (omega arith)) refl

pub ruleset bytes = (byte_of_headers, byte_of_rest)

-- one more byte
pub byte_more : (n : ℕ) → map (first_page_byte 4096) (range_with_len 0 (n + 1)) ≡ map (first_page_byte 4096) (range_with_len 0 n) ++ first_page_byte 4096 n ∷ []
byte_more n = map-range_with_len_more (first_page_byte 4096) 0 n n (omega arith)

-- all bytes are the page
pub whole_page : (page : List ℕ) (n : ℕ) → n ≡ 4096 → page ≡ map (first_page_byte 4096) (range_with_len 0 n) → page ≡ first_page 4096
unfolding first_page
whole_page page n ends is = subst (λ (k : ℕ). page ≡ map (first_page_byte 4096) (range_with_len 0 k)) ends is
