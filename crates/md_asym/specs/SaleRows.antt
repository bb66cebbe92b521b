-- The records that an answer about a sale is written as.
use Rattle.std.specs.Prelude.{ℕ, ℤ, List, [], ◌∷◌, ◌++◌, codes, slice_index}
use Rattle.md_math.specs.Lists.{list_to, number_at}
use Rattle.md_num.specs.WholeText.{text_of}
use Rattle.md_setting.specs.Setting.{GeneralSetting}
use Rattle.md_setting.specs.Meaning.{agent_count, sizes_of}
use Rattle.md_mech.specs.RowName.{agent_name}
use Rattle.md_border.specs.declared.interim.Interim.{Interim}
use Rattle.md_records.specs.Written.{text_of_records}
use Rattle.md_parts.specs.declared.version.Version.TheVariants.{One}
use Rattle.md_parts.specs.Rows.{again_row, bound_rows, cut_rows, end_row, first_row, number_row, profile_rows, value_row, wide_rows}
use Rattle.md_asym_sale.specs.Pairs.{pair_number}
use Rattle.md_asym.specs.AnswerTo.{sale_rows}
use Rattle.md_asym.specs.declared.asym_answer.AsymAnswer.{AsymAnswer}
use Rattle.md_asym.specs.declared.sale_answer.SaleAnswer.{SaleAnswer}
use Rattle.md_asym.specs.declared.sale_answer.SaleAnswer.TheVariants.{Optimal, TooWide}

-- the texts of the numbers of a bidder's types, in their order
abbrev pub type_texts : GeneralSetting → List ℤ → ℕ → List (List ℕ)
type_texts s numbers i = list_to (slice_index (sizes_of s) i) (λ a. text_of (number_at numbers (pair_number (sizes_of s) i a)))

-- the record of a bidder: its name, and these numbers
abbrev pub agent_row : List ℕ → GeneralSetting → List ℤ → ℕ → List (List ℕ)
agent_row word s numbers i = word ∷ agent_name s i ∷ type_texts s numbers i

abbrev pub agent_rows : List ℕ → GeneralSetting → List ℤ → List (List (List ℕ))
agent_rows word s numbers = list_to (agent_count s) (agent_row word s numbers)

-- the denominator, the odds and the payments
abbrev pub interim_rows : GeneralSetting → Interim → List (List (List ℕ))
interim_rows s interim =
    number_row (codes "interim") (interim.den ∷ []) ∷ (agent_rows (codes "odds") s interim.odds ++ agent_rows (codes "pays") s interim.pays)

-- the records of the best mechanism: multipliers are by the number of a row of the program with the cuts
abbrev pub best_rows : GeneralSetting → AsymAnswer → List (List (List ℕ))
best_rows s answer =
    value_row answer.value
    ∷ (interim_rows s answer.interim
    ++ (profile_rows (codes "mass") s answer.masses (agent_count s) ++ (cut_rows answer.cuts ++ bound_rows (sale_rows s answer.cuts) answer.bound)))

-- the word of each kind of answer
abbrev pub word_of : SaleAnswer → List ℕ
word_of (Optimal answer) = codes "optimal"
word_of (TooWide cuts first second) = codes "toowide"

-- what stands between the first record and the last
abbrev pub inner_rows : GeneralSetting → SaleAnswer → List (List (List ℕ))
inner_rows s (Optimal answer) = best_rows s answer
inner_rows s (TooWide cuts first second) = cut_rows cuts ++ (wide_rows first ++ again_row ∷ wide_rows second)

abbrev pub answer_rows : GeneralSetting → SaleAnswer → List (List (List ℕ))
answer_rows s answer = first_row One (codes "asym") (word_of answer) ∷ (inner_rows s answer ++ end_row ∷ [])

-- the one text of an answer
abbrev pub text_of_sale : GeneralSetting → SaleAnswer → List ℕ
text_of_sale s answer = text_of_records (answer_rows s answer)
