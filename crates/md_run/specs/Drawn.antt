-- What is drawn of an answer: of its mechanism where it is about a general setting, of its masses where it is about an auction.
use Rattle.std.specs.Prelude.{ℕ, ℤ, List}
use Rattle.md_space.specs.Profiles.{IsProfile}
use Rattle.md_setting.specs.Meaning.{sizes_of}
use Rattle.md_setting.specs.declared.file.SettingFile.{SettingFile}
use Rattle.md_setting.specs.declared.file.SettingFile.TheVariants.{General, Auction, Bidders}
use Rattle.md_mech.specs.declared.mechanism.Mechanism.{Mechanism}
use Rattle.md_border.specs.declared.interim.Interim.{Interim}
use Rattle.md_expost.specs.declared.masses.Masses.{Masses}
use Rattle.md_answer.specs.declared.answer.Answer.{Answer}
use Rattle.md_answer.specs.declared.answer.Answer.TheVariants.{Table, Optimal, Infeasible, Unbounded, AuctionOptimal, TooWide}
use Rattle.md_run.specs.OfMechanism.{IsDrawnOf, IsLottery}
use Rattle.md_run.specs.OfMasses.{AreReports, IsAuctionDrawn, IsAuctionLottery}
use Rattle.md_run.specs.declared.drawn.Drawn.{Drawn}

-- a fact of an answer's mechanism; another fact where it has none
abbrev pub ByMechanism : Type 0 → (Mechanism → Type 0) → Answer → Type 0
ByMechanism none some (Table mechanism) = some mechanism
ByMechanism none some (Optimal value mechanism bound) = some mechanism
ByMechanism none some (Infeasible face) = none
ByMechanism none some (Unbounded mechanism ray) = some mechanism
ByMechanism none some (AuctionOptimal value interim masses cuts bound) = none
ByMechanism none some (TooWide cuts first second) = none

-- a fact of an answer's interim odds and masses; another fact where it has none
abbrev pub ByMasses : Type 0 → (Interim → Masses → Type 0) → Answer → Type 0
ByMasses none some (Table mechanism) = none
ByMasses none some (Optimal value mechanism bound) = none
ByMasses none some (Infeasible face) = none
ByMasses none some (Unbounded mechanism ray) = none
ByMasses none some (AuctionOptimal value interim masses cuts bound) = some interim masses
ByMasses none some (TooWide cuts first second) = none

-- what is drawn of an answer at a profile, by two draws
abbrev pub IsDrawn : SettingFile → Answer → List ℕ → ℤ → ℤ → Drawn → Type 0
IsDrawn (General s) answer t d1 d2 drawn = ByMechanism ⊥ (λ m. IsDrawnOf s m t d1 d2 drawn) answer
IsDrawn (Auction a) answer t d1 d2 drawn = ByMasses ⊥ (λ interim y. IsAuctionDrawn a interim y t d1 d2 drawn) answer
IsDrawn (Bidders a) answer t d1 d2 drawn = ⊥

-- at each profile the draws make the lotteries that the answer says
abbrev pub AreLotteries : SettingFile → Answer → Type 0
AreLotteries (General s) answer = ByMechanism (Unit {0}) (λ m. (t : List ℕ) → IsProfile (sizes_of s) t → IsLottery s m t) answer
AreLotteries (Auction a) answer = ByMasses (Unit {0}) (λ interim y. (t : List ℕ) → AreReports a t → IsAuctionLottery a y t) answer
AreLotteries (Bidders a) answer = Unit {0}
