-- What records of conditions are about.
use Rattle.std.specs.Prelude.{ℕ, ◌==◌, ℤ, pos, unsigned_abs, List, [], ◌∷◌, codes, length, Option, None, Some, if◌then◌else◌}
use Rattle.std.specs.Str.{bytes_eq}
use Rattle.md_math.specs.Lists.{number_at}
use Rattle.md_require.specs.declared.condition.Measured.{Measured}
use Rattle.md_require.specs.declared.condition.Measured.TheVariants as measured
use Rattle.md_conditions_text.specs.declared.kind.Kind.{Kind}
use Rattle.md_conditions_text.specs.declared.kind.Kind.TheVariants.{Revenue, Welfare, Utility, Chance, ChanceAt, Payment, PaymentAs}

-- the word that a record begins with
abbrev pub word_of : Kind → List ℕ
word_of Revenue = codes "revenue"
word_of Welfare = codes "welfare"
word_of Utility = codes "utility"
word_of Chance = codes "chance"
word_of ChanceAt = codes "at"
word_of Payment = codes "pay"
word_of PaymentAs = codes "pay"

-- how many of its fields behind the word say what is measured
abbrev pub measure_count : Kind → ℕ
measure_count Revenue = 0
measure_count Welfare = 0
measure_count Utility = 1
measure_count Chance = 1
measure_count ChanceAt = 2
measure_count Payment = 1
measure_count PaymentAs = 2

-- a payment is that of one type where there are five fields behind the word
abbrev pub payment_by : ℕ → Kind
payment_by count = if count == 5 then PaymentAs else Payment

-- the kind of a record that begins with a word and has so many fields behind it
abbrev pub kind_by : List ℕ → ℕ → Option Kind
kind_by word count =
    if bytes_eq word (codes "revenue") then Some Revenue
    else (if bytes_eq word (codes "welfare") then Some Welfare
    else (if bytes_eq word (codes "utility") then Some Utility
    else (if bytes_eq word (codes "chance") then Some Chance
    else (if bytes_eq word (codes "at") then Some ChanceAt
    else (if bytes_eq word (codes "pay") then Some (payment_by count) else None)))))

-- the kind of a record, if it is one of a condition
abbrev pub kind_of : List (List ℕ) → Option Kind
kind_of [] = None
kind_of (word ∷ fields) = kind_by word (length fields)

-- the kind of the first of some records
abbrev pub kind_ahead : List (List (List ℕ)) → Option Kind
kind_ahead [] = None
kind_ahead (next ∷ others) = kind_of next

-- ---- what is measured

-- the kind of the records of a measure
abbrev pub kind_in : Measured → Kind
kind_in measured.Revenue = Revenue
kind_in measured.Welfare = Welfare
kind_in (measured.Utility agent) = Utility
kind_in (measured.Chance outcome) = Chance
kind_in (measured.ChanceAt rank outcome) = ChanceAt
kind_in (measured.Payment agent) = Payment
kind_in (measured.PaymentAs agent type) = PaymentAs

-- the places that stand for its fields
abbrev pub places_of : Measured → List ℤ
places_of measured.Revenue = []
places_of measured.Welfare = []
places_of (measured.Utility agent) = pos agent ∷ []
places_of (measured.Chance outcome) = pos outcome ∷ []
places_of (measured.ChanceAt rank outcome) = pos rank ∷ pos outcome ∷ []
places_of (measured.Payment agent) = pos agent ∷ []
places_of (measured.PaymentAs agent type) = pos agent ∷ pos type ∷ []

abbrev pub place_in : List ℤ → ℕ → ℕ
place_in numbers k = unsigned_abs (number_at numbers k)

-- the measure of a kind by the places that stand for its fields
abbrev pub measured_by : Kind → List ℤ → Measured
measured_by Revenue numbers = measured.Revenue
measured_by Welfare numbers = measured.Welfare
measured_by Utility numbers = measured.Utility (place_in numbers 0)
measured_by Chance numbers = measured.Chance (place_in numbers 0)
measured_by ChanceAt numbers = measured.ChanceAt (place_in numbers 0) (place_in numbers 1)
measured_by Payment numbers = measured.Payment (place_in numbers 0)
measured_by PaymentAs numbers = measured.PaymentAs (place_in numbers 0) (place_in numbers 1)
