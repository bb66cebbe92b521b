-- Which answer a second file says. The third field of its first record tells it, so that no more than that is looked at.
use Rattle.std.specs.Prelude.{ℕ, ◌+◌, ◌==◌, List, [], Option, None, Some, codes, drop, take, if◌then◌else◌}
use Rattle.std.specs.List.{position}
use Rattle.std.specs.Str.{bytes_eq}
use Rattle.md_setting.specs.declared.file.SettingFile.{SettingFile}
use Rattle.md_setting.specs.declared.file.SettingFile.TheVariants.{General, Auction, Bidders}
use Rattle.md_cli_judge.specs.declared.answer_form.AnswerForm.{AnswerForm}
use Rattle.md_cli_judge.specs.declared.answer_form.AnswerForm.TheVariants.{Best, Fair, Required, Asym, Determ}

-- the bytes before a place, or all where there is none
abbrev pub before_place : List ℕ → Option ℕ → List ℕ
before_place bytes (Some place) = take place bytes
before_place bytes None = bytes

-- those behind it, or none
abbrev pub behind_place : List ℕ → Option ℕ → List ℕ
behind_place bytes (Some place) = drop (place + 1) bytes
behind_place bytes None = []

-- the same of the first place with this byte
abbrev pub before : ℕ → List ℕ → List ℕ
before byte bytes = before_place bytes (position (λ b. b == byte) bytes)

abbrev pub behind : ℕ → List ℕ → List ℕ
behind byte bytes = behind_place bytes (position (λ b. b == byte) bytes)

-- the third field of the first line: what stands between its second comma and the next one
abbrev pub third_field : List ℕ → List ℕ
third_field bytes = before 44 (behind 44 (behind 44 (before 10 bytes)))

-- the answer that a word names; every other text is read as an answer about the best mechanism
abbrev pub form_named : List ℕ → AnswerForm
form_named word =
    if bytes_eq word (codes "fair") then Fair
    else (if bytes_eq word (codes "required") then Required
    else (if bytes_eq word (codes "asym") then Asym
    else (if bytes_eq word (codes "determ") then Determ
    else Best)))

-- which answer a text says of a setting: of an auction there is one kind of answers alone
abbrev pub form_of : SettingFile → List ℕ → AnswerForm
form_of (General s) bytes = form_named (third_field bytes)
form_of (Auction a) bytes = Best
form_of (Bidders a) bytes = Best
