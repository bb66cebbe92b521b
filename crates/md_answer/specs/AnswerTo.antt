-- What is known of an answer that was read for a setting, and what an answer must be to be written.
use Rattle.std.specs.Prelude.{◌≡◌, [], IfSome}
use Rattle.md_setting.specs.Setting.{GeneralSetting}
use Rattle.md_setting.specs.Rows.{row_count}
use Rattle.md_mech.specs.Accepted.{IsAccepted}
use Rattle.md_cert.specs.declared.bound.Bound.{Bound}
use Rattle.md_parts.specs.Fitting.{IsFraction, AreMultipliers, IsBoundOver, IsRayFor, HasFraction, HasWidePlaces}
use Rattle.md_answer.specs.declared.answer.Answer.{Answer}
use Rattle.md_answer.specs.declared.answer.Answer.TheVariants.{Table, Optimal, Infeasible, Unbounded, AuctionOptimal, TooWide}

-- multipliers of the rows of the setting's program
abbrev pub IsBoundFor : GeneralSetting → Bound → Type 0
IsBoundFor s bound = IsBoundOver (row_count s) bound

-- the answer has the setting's sizes, and its numbers are in their ranges
abbrev pub IsAnswerTo : GeneralSetting → Answer → Type 0
IsAnswerTo s (Table mechanism) = IsAccepted s mechanism
IsAnswerTo s (Optimal value mechanism bound) = IsFraction value.num value.den × IsAccepted s mechanism × IsBoundFor s bound
IsAnswerTo s (Infeasible face) = AreMultipliers (row_count s) face
IsAnswerTo s (Unbounded mechanism ray) = IsAccepted s mechanism × IsRayFor s ray
IsAnswerTo s (AuctionOptimal value interim masses cuts bound) = ⊥
IsAnswerTo s (TooWide cuts first second) = (cuts ≡ []) × HasFraction first × IfSome second HasFraction

-- the places that an answer names are as its types hold them
abbrev pub HasPlaces : Answer → Type 0
HasPlaces (TooWide cuts first second) = HasWidePlaces first × IfSome second HasWidePlaces
HasPlaces _ = Unit {0}
