-- An answer about one item: that no set of values asks for more than there is, and all that it must be to be written.
use Rattle.std.proofs.Common.{ℕ, ◌-◌, ◌^◌, ℤ, pos, ◌-ℤ◌, ◌*ℤ◌, ◌≤ℤ◌, ◌<ℤ◌, ◌≡◌, List, sym, subst, arith}
use Rattle.std.proofs.lemmas.Int.{ints}
use Rattle.md_math.specs.Sizes.{IsWithin}
use Rattle.md_math.proofs.SizeLaws.{IsWithin-wider}
use Rattle.md_num.specs.declared.frac.Frac.{Frac}
use Rattle.md_setting.specs.Auction.{SymmetricAuction}
use Rattle.md_setting.specs.AuctionShaped.{IsAuction}
use Rattle.md_border.specs.declared.interim.Interim.{Interim}
use Rattle.md_border.specs.Odds.{demands_in}
use Rattle.md_border.proofs.SideLaws.{right_of-counts}
use Rattle.md_expost.specs.declared.masses.Masses.{Masses}
use Rattle.md_expost.specs.Masses.{AreMasses}
use Rattle.md_expost.specs.WorstSets.{MeetsBorder}
use Rattle.md_cert.specs.declared.bound.Bound.{Bound}
use Rattle.md_parts.specs.Fitting.{IsFraction}
use Rattle.md_answer.specs.AuctionAnswerTo.{IsAuctionAnswer}
use Rattle.md_answer.specs.declared.answer.Answer.TheVariants.{AuctionOptimal}
use Rattle.md_iron.specs.ClosedForms.{IsClosedForm}
use Rattle.md_iron.proofs.FormLaws.{form-border, form-bound, form-cuts, form-fits}

pub item-border : (a : SymmetricAuction) (interim : Interim) (cuts : List ℕ) (bound : Bound) → IsAuction a → IsClosedForm a 1 interim cuts bound → MeetsBorder a interim
item-border a interim cuts bound shaped h = record {
  none_over = λ set b. subst (λ z. (demands_in a interim set -ℤ interim.den *ℤ z) ≤ℤ pos 0) (sym (right_of-counts a set)) ((form-border a 1 interim cuts bound shaped h).none_over set b);
}

-- a value of at most 126 bits is a fraction
pub fraction : (value : Frac) → pos 0 <ℤ value.den → IsWithin (2 ^ 126 - 1) value.num → IsWithin (2 ^ 126 - 1) value.den → IsFraction value.num value.den
fraction value above num den = record { positive = one_from_positive value.den above; num_size = num; den_size = den }
  where
    one_from_positive : (z : ℤ) → pos 0 <ℤ z → pos 1 ≤ℤ z
    one_from_positive z h = omega (arith, ints, h)

pub item-writable : (a : SymmetricAuction) (value : Frac) (interim : Interim) (masses : Masses) (cuts : List ℕ) (bound : Bound) → IsAuction a → IsClosedForm a 1 interim cuts bound → pos 0 <ℤ value.den → IsWithin (2 ^ 114) value.num
    → IsWithin (2 ^ 82) value.den → AreMasses a masses → masses.den ≡ interim.den → IsAuctionAnswer a (AuctionOptimal value interim masses cuts bound)
item-writable a value interim masses cuts bound shaped h above num den are one_den = (
  fraction value above (IsWithin-wider (2 ^ 114) (2 ^ 126 - 1) value.num (omega arith) num) (IsWithin-wider (2 ^ 82) (2 ^ 126 - 1) value.den (omega arith) den),
  form-fits a 1 interim cuts bound shaped h,
  are,
  one_den,
  form-cuts a 1 interim cuts bound shaped h,
  form-bound a 1 interim cuts bound shaped h,
)
