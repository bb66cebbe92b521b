-- Numbers that stand for settings, and what is said of those that do not.
use Rattle.std.specs.Prelude.{◌≡◌, ◌⊎◌, ◌≤◌, ℕ, ℤ, pos}
use Rattle.md_cli_driver.specs.declared.refusal.Refusal.TheVariants as refusal
use Rattle.md_cli_driver.specs.Refused.{refused}
use Rattle.md_cli_driver.specs.Saying.{Saying}

-- the number z is n, which stands for a setting
pub record IsInRange (z : ℤ) (n : ℕ) : Type 0 where
  pub is : z ≡ pos n
  pub most : n ≤ 999999

-- it stands for none
pub record IsNumberRefused (z : ℤ) (saying : Saying) : Type 0 where
  pub none : (n : ℕ) → ¬ IsInRange z n
  pub said : saying ≡ refused refusal.Number

-- what is said of a number: P of one that stands for a setting, or that it stands for none
pub record IsSaidOfSome (P : ℕ → Saying → Type 0) (z : ℤ) (saying : Saying) : Type 0 where
  pub number : ℕ
  pub in_range : IsInRange z number
  pub says : P number saying

abbrev pub IsSaidOfNumber : (ℕ → Saying → Type 0) → ℤ → Saying → Type 0
IsSaidOfNumber P z saying = IsSaidOfSome P z saying ⊎ IsNumberRefused z saying
