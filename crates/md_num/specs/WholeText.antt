-- The texts of whole numbers: `0`, and an optional minus before a digit 1 to 9 and further digits.
use Rattle.std.specs.Prelude.{ℕ, Bool, ◌&&◌, ◌||◌, not, ◌==◌, nat_lt, if◌then◌else◌, ℤ, pos, neg_ℤ, List, length, drop, slice_index, Option, Some, None, Result, Ok, Err}
use Rattle.std.specs.List.{list_all}
use Rattle.std.specs.Char.{is_ascii_digit}
use Rattle.std.specs.Str.Parse.{digits_value}
use Rattle.std.specs.Fmt.{signed_decimal}
use Rattle.md_num.specs.declared.whole.NumRefusal.{NumRefusal}
use Rattle.md_num.specs.declared.whole.NumRefusal.TheVariants.{Empty, Digit, Sign, LeadingZero, TooLong}
use Rattle.md_num.specs.Limits.{limit_of}

-- the one text of a number: its decimal digits, after a minus where it is negative
abbrev pub text_of : ℤ → List ℕ
text_of z = signed_decimal z

-- a text begins with a minus
abbrev pub has_minus : List ℕ → Bool
has_minus text = slice_index text 0 == 45

-- what follows a leading minus
abbrev pub unsigned_text : List ℕ → List ℕ
unsigned_text text = if has_minus text then drop 1 text else text

-- a text begins with the digit 0
abbrev pub has_zero : List ℕ → Bool
has_zero text = slice_index text 0 == 48

-- the size of the number that a text stands for
abbrev pub size_of : List ℕ → ℕ
size_of text = digits_value 10 (unsigned_text text)

-- the number that a text stands for
abbrev pub number_of : List ℕ → ℤ
number_of text = if has_minus text then neg_ℤ (pos (size_of text)) else pos (size_of text)

-- the first fault in the form of a text: it has no byte; it has a byte that is neither a digit nor a leading minus; it is a minus alone or a minus before a 0; it has more than one digit and the first is 0
abbrev pub form_fault : List ℕ → Option NumRefusal
form_fault text =
    if length text == 0 then Some Empty
    else (if not (list_all is_ascii_digit (unsigned_text text)) then Some Digit
    else (if has_minus text && (length (unsigned_text text) == 0 || has_zero (unsigned_text text)) then Some Sign
    else (if nat_lt 1 (length text) && has_zero text then Some LeadingZero
    else None)))

-- a text of good form as a number of at most so many bits
abbrev pub sized : ℕ → List ℕ → Result ℤ NumRefusal
sized bits text = if nat_lt (limit_of bits) (size_of text) then Err TooLong else Ok (number_of text)

-- what reading a text as a number of at most so many bits gives
abbrev pub whole_of : ℕ → List ℕ → Result ℤ NumRefusal
whole_of bits text = answer (form_fault text)
  where
    answer : Option NumRefusal → Result ℤ NumRefusal
    answer None = sized bits text
    answer (Some refusal) = Err refusal
