-- Why nothing is drawn: the first reason that holds.
use Rattle.std.specs.Prelude.{◌≡◌, ℕ, ℤ, List}
use Rattle.md_space.specs.Profiles.{IsProfile}
use Rattle.md_setting.specs.Meaning.{sizes_of}
use Rattle.md_setting.specs.declared.file.SettingFile.{SettingFile}
use Rattle.md_setting.specs.declared.file.SettingFile.TheVariants.{General, Auction, Bidders}
use Rattle.md_answer.specs.declared.answer.Answer.{Answer}
use Rattle.md_run.specs.OfMechanism.{IsDraw}
use Rattle.md_run.specs.OfMasses.{AreReports, IsAuctionDraw}
use Rattle.md_run.specs.Drawn.{ByMechanism, ByMasses}
use Rattle.md_run.specs.declared.refusal.DrawRefusal.{DrawRefusal}
use Rattle.md_run.specs.declared.refusal.DrawRefusal.TheVariants.{NoTable, Profile, Draw, Memory}

-- a refusal of a profile and two draws, where there is something to draw of; memory runs out only at a profile
abbrev pub IsRefusedBy : Type 0 → Type 0 → DrawRefusal → Type 0
IsRefusedBy profile draw NoTable = ⊥
IsRefusedBy profile draw Profile = ¬ profile
IsRefusedBy profile draw Draw = profile × (¬ draw)
IsRefusedBy profile draw Memory = profile

-- the first reason for which nothing is drawn
abbrev pub IsRefused : SettingFile → Answer → List ℕ → ℤ → ℤ → DrawRefusal → Type 0
IsRefused (General s) answer t d1 d2 e = ByMechanism (e ≡ NoTable) (λ m. IsRefusedBy (IsProfile (sizes_of s) t) (IsDraw m.den d1 d2) e) answer
IsRefused (Auction a) answer t d1 d2 e = ByMasses (e ≡ NoTable) (λ interim y. IsRefusedBy (AreReports a t) (IsAuctionDraw a y t d1 d2) e) answer
IsRefused (Bidders a) answer t d1 d2 e = ⊥
