-- What `iron` says of an auction, and what it and `ironunits` say where nothing is answered.
use Rattle.std.specs.Prelude.{◌≡◌, ◌⊎◌, ℕ, pos, ◌≤ℤ◌, List}
use Rattle.md_math.specs.Sums.{sum_to}
use Rattle.md_space.specs.Profiles.{IsProfile}
use Rattle.md_setting.specs.Auction.{SymmetricAuction}
use Rattle.md_setting.specs.General.{general_of}
use Rattle.md_setting.specs.Meaning.{agent_count, sizes_of}
use Rattle.md_setting.specs.declared.file.SettingFile.{SettingFile}
use Rattle.md_setting.specs.declared.file.SettingFile.TheVariants.{General, Auction, Bidders}
use Rattle.md_mech.specs.declared.mechanism.Mechanism.{Mechanism}
use Rattle.md_mech.specs.Mechanism.{pay_of}
use Rattle.md_mech.specs.Optimal.{IsOptimal}
use Rattle.md_mech.specs.Value.{IsValueOf}
use Rattle.md_claims.specs.AuctionClaims.{mechanism_in}
use Rattle.md_iron.specs.ClosedForms.{HasLongMultipliers, IsClosedItem, IsOneItem, PaysWithinValue}
use Rattle.md_check.specs.AuctionOptima.{PrintsAuctionOptimal}
use Rattle.md_cli_driver.specs.Saying.{Saying, undecided_text}

-- an answer whose mechanism is optimal and which the checker finds valid; it is that of the pools that the rule names, with one unit,
-- and no other value, odds, payments, cuts and multipliers are. The value is that of every optimal mechanism of the auction. Each
-- value pays from nothing to what the item is worth to it, as often as it has it; so payments add to at least 0 at each profile.
pub record PrintsClosedForm (a : SymmetricAuction) (text : List ℕ) : Type 0 where
  pub prints : PrintsAuctionOptimal a text
  pub closed : IsClosedItem a prints.value prints.interim prints.masses prints.cuts prints.bound
  pub one : IsOneItem a prints.value prints.interim prints.cuts prints.bound
  pub same_value : (m : Mechanism) → IsOptimal (general_of a) m → IsValueOf (general_of a) m prints.value
  pub pays : PaysWithinValue a prints.interim
  pub no_deficit : (t : List ℕ) → IsProfile (sizes_of (general_of a)) t
      → pos 0 ≤ℤ sum_to (agent_count (general_of a)) (λ i. pay_of (general_of a) (mechanism_in a prints.interim prints.masses) i t)

-- An answer with 0; or that nothing is answered with 22, and then the multipliers that certify the pools that the rule names are too
-- long.
pub record IsClosed (a : SymmetricAuction) (saying : Saying) : Type 0 where
  pub status : saying.status ≡ 0
  pub shows : PrintsClosedForm a saying.text

pub record IsUndecided (a : SymmetricAuction) (units : ℕ) (saying : Saying) : Type 0 where
  pub status : saying.status ≡ 22
  pub text : saying.text ≡ undecided_text
  pub long : HasLongMultipliers a units

abbrev pub IsIroning : SymmetricAuction → Saying → Type 0
IsIroning a saying = IsClosed a saying ⊎ IsUndecided a 1 saying

abbrev pub IsIron : SettingFile → Saying → Type 0
IsIron (General s) saying = ⊥
IsIron (Auction a) saying = IsIroning a saying
IsIron (Bidders a) saying = ⊥

-- the statuses of what is answered
abbrev pub IsIronStatus : ℕ → Type 0
IsIronStatus status = (status ≡ 0) ⊎ (status ≡ 22)
