-- The records that an answer is written as.
use Rattle.std.specs.Prelude.{ℕ, List, [], ◌∷◌, ◌++◌, codes, None, Some}
use Rattle.md_setting.specs.Setting.{GeneralSetting}
use Rattle.md_setting.specs.Rows.{row_count}
use Rattle.md_records.specs.Written.{text_of_records}
use Rattle.md_answer.specs.declared.answer.Answer.{Answer}
use Rattle.md_answer.specs.declared.answer.Answer.TheVariants.{Table, Optimal, Infeasible, Unbounded, AuctionOptimal, TooWide}
use Rattle.md_parts.specs.declared.version.Version.{Version}
use Rattle.md_parts.specs.declared.version.Version.TheVariants.{One, Two}
use Rattle.md_answer.specs.declared.kind.Kind.{Kind}
use Rattle.md_answer.specs.declared.kind.Kind.TheVariants as kind
use Rattle.md_answer.specs.Kinds.{word_of}
use Rattle.md_parts.specs.Rows.{first_row, value_row, mechanism_rows, ray_rows, face_rows, bound_rows, wide_rows, second_rows, end_row}

-- what stands between the first record and the last
abbrev pub inner_rows : GeneralSetting → Answer → List (List (List ℕ))
inner_rows s (Table mechanism) = mechanism_rows s mechanism
inner_rows s (Optimal value mechanism bound) = value_row value ∷ (mechanism_rows s mechanism ++ bound_rows (row_count s) bound)
inner_rows s (Infeasible face) = face_rows (row_count s) face
inner_rows s (Unbounded mechanism ray) = mechanism_rows s mechanism ++ ray_rows s ray
inner_rows s (AuctionOptimal value interim masses cuts bound) = []
inner_rows s (TooWide cuts first second) = wide_rows first ++ second_rows second

-- an answer of two parts stands in the second version
abbrev pub version_in : Answer → Version
version_in (Table mechanism) = One
version_in (Optimal value mechanism bound) = One
version_in (Infeasible face) = One
version_in (Unbounded mechanism ray) = One
version_in (AuctionOptimal value interim masses cuts bound) = One
version_in (TooWide cuts first None) = One
version_in (TooWide cuts first (Some second)) = Two

abbrev pub kind_in : Answer → Kind
kind_in (Table mechanism) = kind.Table
kind_in (Optimal value mechanism bound) = kind.Optimal
kind_in (Infeasible face) = kind.Infeasible
kind_in (Unbounded mechanism ray) = kind.Unbounded
kind_in (AuctionOptimal value interim masses cuts bound) = kind.Optimal
kind_in (TooWide cuts first second) = kind.TooWide

abbrev pub answer_rows : GeneralSetting → Answer → List (List (List ℕ))
answer_rows s answer = first_row (version_in answer) (codes "general") (word_of (kind_in answer)) ∷ (inner_rows s answer ++ end_row ∷ [])

-- the one text of an answer
abbrev pub text_of_answer : GeneralSetting → Answer → List ℕ
text_of_answer s answer = text_of_records (answer_rows s answer)
