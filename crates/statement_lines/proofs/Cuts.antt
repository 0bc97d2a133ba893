-- Numbers of rows that have texts.
use Rattle.std.proofs.Common.{◌≡◌, ℕ, ◌^◌, true, Option, None, Some, ltb-true}
use Rattle.sql_semantics.specs.Plain.{is_limit}
use Rattle.sql_rows.specs.Cuts.{IsCut}

pub cut_fits : (n : Option ℕ) → is_limit n ≡ true → IsCut n
cut_fits None h = tt
cut_fits (Some n) h = ltb-true n (2 ^ 63) h

pub ruleset cuts = (cut_fits)
