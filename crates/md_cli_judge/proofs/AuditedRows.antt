-- What is said of the first broken row of a setting.
use Rattle.std.proofs.Common.{◌≡◌, ℕ, List, [], ◌∷◌, ◌++◌, length, Some, refl, ap, ◌∙◌, arith}
use Rattle.std.specs.Prelude.{slice_get}
use Rattle.std.specs.Option.{ForSome}
use Rattle.md_setting.specs.Setting.{GeneralSetting}
use Rattle.md_mech.specs.declared.broken.Broken.{Broken}
use Rattle.md_mech.specs.Rows.{IsFirstBroken, conditions_of}
use Rattle.md_mech.specs.RowName.{name_of}
use Rattle.md_mechanism_text.specs.Proposals.{Proposed}
use Rattle.md_cli_judge.specs.Auditing.{IsBrokenSaying, broken_text}
use Rattle.md_cli_driver.specs.Saying.{Saying}

-- the element behind some others
pub slice_get-behind : {X : Type 0} (before : List X) (x : X) (after : List X) → slice_get (before ++ x ∷ after) (length before) ≡ Some x
slice_get-behind [] x after = refl
slice_get-behind (y ∷ before) x after = slice_get-behind before x after

-- the record of the row that was found broken
pub broken-said : (s : GeneralSetting) (proposed : Proposed) (broken : Broken) (text : List ℕ)
    → IsFirstBroken s proposed.mechanism (conditions_of s) 0 broken
    → ForSome (slice_get (conditions_of s) broken.row) (λ r. text ≡ broken_text (name_of s r) broken.left broken.right)
    → (saying : Saying) → saying.status ≡ 20 → saying.text ≡ text → IsBrokenSaying s proposed saying
broken-said s proposed broken text first written saying status is =
    let place : broken.row ≡ length first.before = omega (arith, first.number) in
    let there : slice_get (conditions_of s) broken.row ≡ Some first.row =
    ap (λ k. slice_get (conditions_of s) k) place ∙ ap (λ rows. slice_get rows (length first.before)) first.parts ∙ slice_get-behind first.before first.row first.after in
    record {
      broken = broken;
      first = first;
      status = status;
      text = is ∙ written first.row there;
    }
