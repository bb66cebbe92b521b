-- The texts of refusals. Each is one line that begins with the program's name.
use Rattle.std.specs.Prelude.{ℕ, List, [], ◌∷◌, ◌++◌, codes}
use Rattle.std.specs.Fmt.{decimal}
use Rattle.md_setting.specs.declared.refusal.BuildRefusal.{BuildRefusal}
use Rattle.md_setting.specs.declared.refusal.BuildRefusal.TheVariants as build
use Rattle.md_toml.specs.Keys.{text_of}
use Rattle.md_toml.specs.declared.refusal.SettingRefusal.{SettingRefusal}
use Rattle.md_toml.specs.declared.refusal.SettingRefusal.TheVariants as setting
use Rattle.md_parts.specs.declared.refusal.AnswerRefusal.{AnswerRefusal}
use Rattle.md_parts.specs.declared.refusal.AnswerRefusal.TheVariants as answer

-- a line of the program: its name, the text, and a newline
abbrev pub line : List ℕ → List ℕ
line text = codes "mechdes: " ++ text ++ 10 ∷ []

abbrev pub want_of_memory : List ℕ
want_of_memory = line (codes "want of memory")

abbrev pub build_text : BuildRefusal → List ℕ
build_text build.BadName = codes "bad name"
build_text build.DoubleName = codes "double name"
build_text build.Sizes = codes "sizes"
build_text build.Shape = codes "shape"
build_text build.OutOfRange = codes "out of range"
build_text build.ZeroWeight = codes "zero weight"
build_text build.WeightTotal = codes "weight total"
build_text build.ValuesOrder = codes "values order"
build_text build.SlotsOrder = codes "slots order"
build_text build.TooManyRows = codes "too many rows"
build_text build.TooManyCounts = codes "too many counts"
build_text build.Memory = codes "memory"

-- what is said of a setting file that is refused
abbrev pub setting_text : SettingRefusal → List ℕ
setting_text setting.NotToml = line (codes "setting refused: not toml")
setting_text (setting.Missing key) = line (codes "setting refused: missing " ++ text_of key)
setting_text (setting.WrongKind key) = line (codes "setting refused: wrong kind " ++ text_of key)
setting_text (setting.UnknownWord key) = line (codes "setting refused: unknown word " ++ text_of key)
setting_text setting.UnknownKey = line (codes "setting refused: unknown key")
setting_text (setting.Build refusal) = line (codes "setting refused: " ++ build_text refusal)
setting_text setting.Memory = want_of_memory

-- a line on the record of this number
abbrev pub line_on : ℕ → List ℕ → List ℕ
line_on n rest = codes "mechdes: answer refused: line " ++ (decimal n ++ rest)

-- what is said of an answer file that is refused
abbrev pub answer_text : AnswerRefusal → List ℕ
answer_text (answer.Line n) = line_on n (codes ": record" ++ 10 ∷ [])
answer_text (answer.Cell n k) = line_on n (codes ": field " ++ (decimal k ++ 10 ∷ []))
answer_text (answer.Sum n) = line_on n (codes ": sum" ++ 10 ∷ [])
answer_text (answer.End n) = line_on n (codes ": ended" ++ 10 ∷ [])
answer_text answer.Memory = want_of_memory

-- what is said of the listed pivot of this number, which cannot be carried out
abbrev pub pivot_text : ℕ → List ℕ
pivot_text number = codes "mechdes: pivot " ++ (decimal number ++ (codes " refused" ++ 10 ∷ []))
