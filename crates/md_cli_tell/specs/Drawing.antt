-- What `run` says of a setting and an answer with one lottery, or with masses, for each profile, at a profile of reports and by two draws.
use Rattle.std.specs.Prelude.{◌≡◌, ◌≢◌, ◌⊎◌, ◌==◌, ◌<◌, ◌∷◌, [], ℕ, ℤ, zero, suc, pos, Bool, true, false, List, Result, Ok, Err, codes, length, replicate, slice_index, slice_index_or, if◌then◌else◌}
use Rattle.std.specs.List.{slice_split}
use Rattle.md_math.specs.Lists.{number_at}
use Rattle.md_num.specs.WholeText.{text_of}
use Rattle.md_space.specs.Profiles.{IsProfile}
use Rattle.md_setting.specs.Auction.{value_count}
use Rattle.md_setting.specs.Meaning.{outcome_count, sizes_of}
use Rattle.md_setting.specs.Names.{type_names}
use Rattle.md_setting.specs.declared.file.SettingFile.{SettingFile}
use Rattle.md_setting.specs.declared.file.SettingFile.TheVariants.{General, Auction, Bidders}
use Rattle.md_records.specs.Written.{text_of_records}
use Rattle.md_parts.specs.Rows.{number_row}
use Rattle.md_answer.specs.declared.answer.Answer.{Answer}
use Rattle.md_answer.specs.declared.answer.Answer.TheVariants.{Table, Optimal, Infeasible, Unbounded, AuctionOptimal, TooWide}
use Rattle.md_run.specs.Drawn.{AreLotteries, IsDrawn}
use Rattle.md_run.specs.Refusals.{IsRefused}
use Rattle.md_run.specs.declared.drawn.Drawn.{Drawn}
use Rattle.md_run.specs.declared.refusal.DrawRefusal.{DrawRefusal}
use Rattle.md_run.specs.declared.refusal.DrawRefusal.TheVariants as draws
use Rattle.md_cli_driver.specs.declared.refusal.Refusal.{Refusal}
use Rattle.md_cli_driver.specs.declared.refusal.Refusal.TheVariants as refusal
use Rattle.md_cli_driver.specs.Refused.{refused}
use Rattle.md_cli_driver.specs.Saying.{Saying}

-- ---- the answer

-- an answer has lotteries or masses, of which something can be drawn
abbrev pub has_table : Answer → Bool
has_table (Table mechanism) = true
has_table (Optimal value mechanism bound) = true
has_table (Infeasible face) = false
has_table (Unbounded mechanism ray) = true
has_table (AuctionOptimal value interim masses cuts bound) = true
has_table (TooWide cuts first second) = false

abbrev pub drawable : Answer → Result Answer Refusal
drawable answer = if has_table answer then Ok answer else Err refusal.NoTable

-- ---- the profile

-- the parts of a text between its commas
abbrev pub parts_of : List ℕ → List (List ℕ)
parts_of text = slice_split (λ b. b == 44) text

-- how many reports each agent may make: one for each of its types; of an auction each bidder reports a value
abbrev pub sizes_in : SettingFile → List ℕ
sizes_in (General s) = sizes_of s
sizes_in (Auction a) = replicate a.bidders (value_count a)
sizes_in (Bidders a) = []

-- the name of report k of agent i: that of its type; of an auction, the text of the value
abbrev pub name_in : SettingFile → ℕ → ℕ → List ℕ
name_in (General s) i k = slice_index_or (type_names s i) k []
name_in (Auction a) i k = text_of (number_at a.values k)
name_in (Bidders a) i k = []

-- a text names report k of agent i; and it names none
abbrev pub IsNameOf : SettingFile → ℕ → List ℕ → ℕ → Type 0
IsNameOf file i name k = (k < slice_index (sizes_in file) i) × (name ≡ name_in file i k)

abbrev pub IsNoName : SettingFile → ℕ → List ℕ → Type 0
IsNoName file i name = (k : ℕ) → k < slice_index (sizes_in file) i → name ≢ name_in file i k

-- some texts are the names of the reports of a profile, in the order of the agents
pub record AreNamesOf (file : SettingFile) (names : List (List ℕ)) (t : List ℕ) : Type 0 where
  pub profile : IsProfile (sizes_in file) t
  pub one_each : length names ≡ length (sizes_in file)
  pub name : (i : ℕ) → i < length (sizes_in file) → slice_index_or names i [] ≡ name_in file i (slice_index t i)

-- ---- the records

-- the outcome is one of the setting's
abbrev pub IsOutcomeIn : SettingFile → ℕ → Type 0
IsOutcomeIn (General s) outcome = outcome < outcome_count s
IsOutcomeIn (Auction a) outcome = Unit {0}
IsOutcomeIn (Bidders a) outcome = ⊥

-- that the item is kept, or the number of the bidder who gets it, counted from 1
abbrev pub winner_name : ℕ → List ℕ
winner_name zero = codes "keep"
winner_name (suc bidder) = text_of (pos (suc bidder))

abbrev pub outcome_name : SettingFile → ℕ → List ℕ
outcome_name (General s) outcome = slice_index_or s.outcomes outcome []
outcome_name (Auction a) outcome = winner_name outcome
outcome_name (Bidders a) outcome = []

-- agents pay in a setting with payments, and bidders in every auction
abbrev pub has_pays : SettingFile → Bool
has_pays (General s) = s.payments
has_pays (Auction a) = true
has_pays (Bidders a) = true

abbrev pub outcome_row : SettingFile → ℕ → List (List ℕ)
outcome_row file outcome = codes "outcome" ∷ outcome_name file outcome ∷ []

-- the denominator of the payments, and what each agent pays
abbrev pub pays_rows : SettingFile → Drawn → List (List (List ℕ))
pays_rows file drawn = if has_pays file then number_row (codes "pays") (drawn.den ∷ drawn.pays) ∷ [] else []

abbrev pub drawn_rows : SettingFile → Drawn → List (List (List ℕ))
drawn_rows file drawn = outcome_row file drawn.outcome ∷ pays_rows file drawn

-- ---- refusals

-- a refusal to draw
abbrev pub draw_refused : DrawRefusal → Refusal
draw_refused draws.NoTable = refusal.NoTable
draw_refused draws.Profile = refusal.Profile
draw_refused draws.Draw = refusal.Draw
draw_refused draws.Memory = refusal.Memory

-- ---- what is said

-- What two draws give of the answer at the profile that the text names. Over all first draws that may be, each outcome comes
-- as often as its chance says; of an auction each value does by the first draw, and each bidder with it by the second, so that
-- it is the mechanism of the masses that is drawn.
pub record IsDrawnSaying (file : SettingFile) (answer : Answer) (profile : List ℕ) (first second : ℤ) (saying : Saying) : Type 0 where
  pub reports : List ℕ
  pub named : AreNamesOf file (parts_of profile) reports
  pub drawn : Drawn
  pub is_drawn : IsDrawn file answer reports first second drawn
  pub lotteries : AreLotteries file answer
  pub status : saying.status ≡ 0
  pub text : saying.text ≡ text_of_records (drawn_rows file drawn)

-- the text names no profile
pub record IsNoProfile (file : SettingFile) (profile : List ℕ) (saying : Saying) : Type 0 where
  pub none : (t : List ℕ) → ¬ AreNamesOf file (parts_of profile) t
  pub said : saying ≡ refused refusal.Profile

-- it names one, and a draw is out of its range there
pub record IsNoDraw (file : SettingFile) (answer : Answer) (profile : List ℕ) (first second : ℤ) (saying : Saying) : Type 0 where
  pub reports : List ℕ
  pub named : AreNamesOf file (parts_of profile) reports
  pub out : IsRefused file answer reports first second draws.Draw
  pub said : saying ≡ refused refusal.Draw

abbrev pub IsDrawing : SettingFile → Answer → List ℕ → ℤ → ℤ → Saying → Type 0
IsDrawing file answer profile first second saying =
    IsDrawnSaying file answer profile first second saying ⊎ (IsNoProfile file profile saying ⊎ IsNoDraw file answer profile first second saying)
