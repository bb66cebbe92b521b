-- How a test passes: of two whole numbers, and of each entry of a list.
use Rattle.std.proofs.Common.{◌≡◌, ℕ, ◌<◌, ◌≤◌, Bool, true, ◌∙◌, arith, nat_le}
use Rattle.std.specs.List.{list_all}
use Rattle.std.proofs.lemmas.Bool.Decides.{nat_tests}
use Rattle.md_math.specs.Lists.{list_to}
use Rattle.md_setting.proofs.TestLaws.{all_below-all, list_all-list_to}

pub le-passes : (m n : ℕ) → m ≤ n → nat_le m n ≡ true
le-passes m n h = grind (arith, nat_tests)

pub list-passes : {X : Type 0} → (p : X → Bool) (n : ℕ) (f : ℕ → X) → ((k : ℕ) → k < n → p (f k) ≡ true) → list_all p (list_to n f) ≡ true
list-passes p n f h = list_all-list_to p n f ∙ all_below-all n (λ k. p (f k)) h
