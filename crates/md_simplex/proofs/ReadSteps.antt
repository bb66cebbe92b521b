-- Steps of the code that reads a dictionary.
use Rattle.std.proofs.Common.{◌≡◌, ◌≢◌, ℕ, ◌+◌, ◌^◌, ◌<◌, ℤ, pos, List, length, sym, ap, ◌∙◌, subst, inl, inr, arith}
use Rattle.std.proofs.Common.{to_z, of_z, lit<}
use Rattle.std.proofs.lemmas.Bool.{cases_lt, cases_eq}
use Rattle.std.proofs.lemmas.Int.{to_z-of_z}
use mir.Syntax.{w128}
use Rattle.md_num.specs.Limits.{limit_of}
use Rattle.md_math.specs.Lists.{number_at}
use Rattle.md_math.specs.Sizes.{IsWithin, AllWithin}
use Rattle.md_math.proofs.SizeLaws.{IsWithin-wider, fits_from_IsWithin}
use Rattle.md_dict.specs.Condensed.{Condensed, basic_at, IsShapedDictionary}
use Rattle.md_dict.proofs.Exchange.{limit_le}
use Rattle.md_simplex.specs.Reading.{IsAtBasis}
use Rattle.md_simplex.specs.ReadingSteps.{IsPut}

-- a number of 62 bits
pub read_small : (z : ℤ) → IsWithin (2 ^ 62) z → to_z w128 (of_z w128 z) ≡ z
read_small z small = to_z-of_z w128 z (fits_from_IsWithin w128 (2 ^ 62) z small (lit< tt))

-- an entry has 62 bits
pub entry_small : (d : Condensed) (x : ℤ) → IsShapedDictionary d → IsWithin (limit_of d.bits) x → IsWithin (2 ^ 62) x
entry_small d x h w = IsWithin-wider (limit_of d.bits) (2 ^ 62) x (limit_le d.bits h.most_bits) w

pub entry_back : (d : Condensed) (x : ℤ) → IsShapedDictionary d → IsWithin (limit_of d.bits) x → to_z w128 (of_z w128 x) ≡ x
entry_back d x h w = read_small x (entry_small d x h w)

-- two rows have different basic columns
pub basic_at-apart : (d : Condensed) (i k : ℕ) → IsShapedDictionary d → i < d.rows → k < d.rows → i ≢ k → basic_at d i ≢ basic_at d k
basic_at-apart d i k h a b o e =
    let first = h.places.seat_of_order (d.columns + i) (omega arith) in
    let second = h.places.seat_of_order (d.columns + k) (omega arith) in
    o (grind arith)

-- ---- numbers at the basis

pub IsAtBasis-none : (columns : ℕ) (basis : ℕ → ℕ) (v x : ℕ → ℤ) → ((j : ℕ) → j < columns → x j ≡ pos 0) → IsAtBasis columns 0 basis v x
IsAtBasis-none columns basis v x h = record {
  basic = λ r a. absurd (omega arith);
  other = λ j b none. h j b;
}

-- one more row
pub IsAtBasis-more : (columns rows : ℕ) (basis : ℕ → ℕ) (v : ℕ → ℤ) (old new : List ℤ) → length old ≡ columns → ((r : ℕ) → r < rows → basis r ≢ basis rows) → IsAtBasis columns rows basis v (number_at old) → IsPut (basis rows) (v rows) old new → IsAtBasis columns (rows + 1) basis v (number_at new)
IsAtBasis-more columns rows basis v old new long apart h p = record {
  basic = λ r a b.
      elim (cases_lt r rows) [
        | inl l ↦ p.others (basis r) (apart r l) ∙ h.basic r l b
        | inr l ↦
            let same : rows ≡ r = omega arith in
            subst (λ i. number_at new (basis i) ≡ v i) same (p.there (subst (λ i. basis i < length old) (sym same) (omega arith)))
      ];
  other = λ j b none. p.others j (λ e. none rows (omega arith) (sym e)) ∙ h.other j b (λ r a. none r (omega arith));
}

pub AllWithin-put : (limit place : ℕ) (x : ℤ) (old new : List ℤ) → AllWithin limit old → IsWithin limit x → IsPut place x old new → AllWithin limit new
AllWithin-put limit place x old new h w p = record {
  at = λ k b.
      let same : length new ≡ length old = p.same_length in
      elim (cases_eq k place) [
        | inl e ↦ subst (IsWithin limit) (sym (ap (number_at new) e ∙ p.there (omega arith))) w
        | inr o ↦ subst (IsWithin limit) (sym (p.others k o)) (h.at k (omega arith))
      ];
}
