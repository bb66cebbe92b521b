-- The denominator of the interim odds of an auction, and the payments that make odds truthful.
use Rattle.std.specs.Prelude.{ℕ, zero, suc, ◌*◌, ◌-◌, ◌^◌, ℤ, pos, ◌-ℤ◌, ◌*ℤ◌}
use Rattle.md_math.specs.Sums.{sum_to}
use Rattle.md_setting.specs.Auction.{SymmetricAuction, total_weight}

-- what a function of values grows by from the value before to this one; it is 0 before the first value
abbrev pub step_of : (ℕ → ℤ) → ℕ → ℤ
step_of q zero = q 0
step_of q (suc j) = q (suc j) -ℤ q j

-- what a bidder pays: each value up to its own, as often as the odds grow there
abbrev pub pay_by : (ℕ → ℤ) → (ℕ → ℤ) → ℕ → ℤ
pay_by value q j = sum_to (suc j) (λ i. value i *ℤ step_of q i)

-- the denominator of the odds and payments of an auction: in so many cases a bidder with a value meets others
abbrev pub share_den : SymmetricAuction → ℤ
share_den a = pos (a.bidders * total_weight a.weights ^ (a.bidders - 1))
