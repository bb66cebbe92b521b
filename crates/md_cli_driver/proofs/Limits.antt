-- A file that is read up to one byte past its limit tells whether it is too long.
use Rattle.std.proofs.Common.{true, false, ◌≡◌, ℕ, ◌+◌, ◌<◌, ◌≤◌, List, length, take, Ok, Err, arith, min, ◌∙◌, ap, refl}
use Rattle.std.proofs.lemmas.Bool.Decides.{nat_tests}
use Rattle.std.proofs.lemmas.List.{length-take, take_all}
use Rattle.std.specs.Prelude.{nat_lt}
use Rattle.md_cli_driver.specs.declared.refusal.Refusal.{Refusal}
use Rattle.md_cli_driver.specs.Reading.{file_of}

long_test : (limit n : ℕ) → limit < n → nat_lt limit n ≡ true
long_test limit n longer = grind (arith, nat_tests)

short_test : (limit n : ℕ) → n ≤ limit → nat_lt limit n ≡ false
short_test limit n short = grind (arith, nat_tests)

-- more bytes came than the limit
pub file_of-long : (limit : ℕ) (too_long : Refusal) (bytes all : List ℕ)
    → bytes ≡ take (limit + 1) all → limit < length bytes → file_of limit too_long all ≡ Err too_long
file_of-long limit too_long bytes all is longer =
    let size : length bytes ≡ min (limit + 1) (length all) = ap length is ∙ length-take (limit + 1) all in
    rw (long_test limit (length all) (omega arith)) refl

-- no more bytes came than the limit, so these are all
pub file_of-whole : (limit : ℕ) (too_long : Refusal) (bytes all : List ℕ)
    → bytes ≡ take (limit + 1) all → length bytes ≤ limit → file_of limit too_long all ≡ Ok bytes
file_of-whole limit too_long bytes all is short =
    let size : length bytes ≡ min (limit + 1) (length all) = ap length is ∙ length-take (limit + 1) all in
    let fits : length all ≤ limit + 1 = omega arith in
    let same : bytes ≡ all = is ∙ take_all (limit + 1) all fits in
    rw (short_test limit (length all) (omega arith), same) refl
