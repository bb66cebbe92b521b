-- The records that list a linear program whose rows have names, and that of a setting.
use Rattle.std.specs.Prelude.{◌≡◌, ℕ, ◌+◌, ◌==◌, ℤ, pos, List, [], ◌∷◌, ◌++◌, map, unsigned_abs, codes, if◌then◌else◌, Vec}
use Rattle.std.specs.declared.alloc.Global.{Global}
use Rattle.md_math.specs.Lists.{up_to}
use Rattle.md_num.specs.WholeText.{text_of}
use Rattle.md_records.specs.Written.{text_of_records}
use Rattle.md_setting.specs.Setting.{GeneralSetting}
use Rattle.md_mech.specs.Rows.{conditions_of}
use Rattle.md_mech.specs.RowName.{name_of}
use Rattle.md_lp.specs.Program.{Program, row_count, kind_at, right_at, coefficient_at, cost_at}
use Rattle.md_lp.specs.declared.row_kind.RowKind.{RowKind}
use Rattle.md_lp.specs.declared.row_kind.RowKind.TheVariants.{AtMost, Exact}
use Rattle.md_rows.specs.ProgramOf.{IsProgramOf}

-- a column and its number, where that is not 0
abbrev pub pair_of : ℕ → ℤ → List (List ℕ)
pair_of j z = if unsigned_abs z == 0 then [] else text_of (pos j) ∷ text_of z ∷ []

abbrev pub pair_at : (ℕ → ℤ) → ℕ → List (List ℕ)
pair_at f j = pair_of j (f j)

-- the columns below n whose numbers are not 0, ascending, each with its number
abbrev pub pairs_of : ℕ → (ℕ → ℤ) → List (List ℕ)
pairs_of n f = up_to n (pair_at f)

-- the word for what the left side of a row is to be of its right side
abbrev pub word_of : RowKind → List ℕ
word_of AtMost = codes "atmost"
word_of Exact = codes "exact"

-- how many columns and rows there are
abbrev pub program_record : Program → List (List ℕ)
program_record p = codes "program" ∷ text_of (pos p.columns) ∷ text_of (pos (row_count p)) ∷ []

abbrev pub cost_record : Program → List (List ℕ)
cost_record p = codes "cost" ∷ pairs_of p.columns (cost_at p)

-- what stands before the pairs of a row: its number, name, kind and right side
abbrev pub row_head : Program → ℕ → List ℕ → List (List ℕ)
row_head p r name =
    codes "row" ∷ text_of (pos r) ∷ name ∷ word_of (kind_at p r) ∷ text_of (right_at p r) ∷ []

abbrev pub row_record : Program → ℕ → List ℕ → List (List ℕ)
row_record p r name = row_head p r name ++ pairs_of p.columns (coefficient_at p r)

-- the records of rows with these names, the first of which has the number r
abbrev pub row_records : Program → ℕ → List (List ℕ) → List (List (List ℕ))
row_records p r [] = []
row_records p r (name ∷ others) = row_record p r name ∷ row_records p (r + 1) others

abbrev pub end_record : List (List ℕ)
end_record = codes "end" ∷ []

abbrev pub program_records : Program → List (List ℕ) → List (List (List ℕ))
program_records p names = program_record p ∷ cost_record p ∷ row_records p 0 names ++ end_record ∷ []

abbrev pub program_text : Program → List (List ℕ) → List ℕ
program_text p names = text_of_records (program_records p names)

-- some texts as bytes
abbrev pub texts_of : List (Vec ℕ Global) → List (List ℕ)
texts_of texts = map (λ text. text.items) texts

-- the names of a setting's conditions, in their order
abbrev pub names_of : GeneralSetting → List (List ℕ)
names_of s = map (name_of s) (conditions_of s)

-- the text lists the program of the setting
pub record IsListing (s : GeneralSetting) (text : List ℕ) : Type 0 where
  pub program : Program
  pub is_program : IsProgramOf s program
  pub text_is : text ≡ program_text program (names_of s)
