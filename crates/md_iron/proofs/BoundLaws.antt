-- Multipliers over one denominator, from fractions for each row, and back.
use Rattle.std.proofs.Common.{◌≡◌, ℕ, ◌-◌, ◌^◌, ◌<◌, ℤ, pos, ◌*ℤ◌, ◌<ℤ◌, List, length, map, Option, Some, None, Result, Ok, Err, IfOk, MatchOption, sym, ap, subst, ◌∙◌, arith}
use Rattle.std.specs.Prelude.{slice_get}
use Rattle.std.proofs.lemmas.Option.{slice_get-get_or}
use Rattle.std.proofs.lemmas.List.{length-map}
use Rattle.md_math.specs.Divisors.{Divides}
use Rattle.md_math.specs.Lists.{number_at, list_to}
use Rattle.md_math.specs.Sizes.{IsWithin}
use Rattle.md_math.proofs.Order.{*ℤ_cancel}
use Rattle.md_math.proofs.Ring.{ring}
use Rattle.md_num.specs.declared.frac.Frac.{Frac}
use Rattle.md_num.specs.declared.no_memory.NoMemory.{NoMemory}
use Rattle.md_setting.specs.Auction.{SymmetricAuction, value_count}
use Rattle.md_setting.specs.AuctionShaped.{IsAuction}
use Rattle.md_lp.specs.Program.{Program, row_count}
use Rattle.md_lp.proofs.Dividing.{IsDivisorFor-same}
use Rattle.md_forms.specs.Forms.{unit}
use Rattle.md_forms.proofs.BuiltLaws as forms
use Rattle.md_forms.proofs.OneProgram.{same_program}
use Rattle.md_cert.specs.declared.bound.Bound.{Bound}
use Rattle.md_reduced.specs.ProgramOf.{column_count, IsReducedProgram}
use Rattle.md_reduced.specs.Sides.{cost_of}
use Rattle.md_iron_values.specs.Pools.{Pools}
use Rattle.md_iron_values.specs.Cuts.{cuts_of}
use Rattle.md_iron_values.specs.VirtualValues.{IsPooledAuction}
use Rattle.md_iron_laws.specs.Rows.{rows_of, row_form}
use Rattle.md_iron_laws.specs.Multipliers.{AreMultipliers, multiplier_num, multiplier_den}
use Rattle.md_iron_laws.proofs.Certificates.{row_in, row-inside, factor-positive}
use Rattle.md_iron_laws.proofs.Divisors.{row-below, divisor_of, divisor_of-divides}
use Rattle.md_iron_laws.proofs.Fractions.{den-positive}
use Rattle.md_iron_laws.proofs.ProgramForms.{is-program}
use Rattle.md_iron.specs.RowMultipliers.{IsDividedBy, AreRowMultipliers}
use Rattle.md_iron.specs.Shares.{fraction_in, AreLeastFractions, AreOver, IsLeastDenominatorOf}
use Rattle.md_iron.specs.ShortBounds.{AreShortMultipliers, IsClosedBound, HasNoShortBound}
use Rattle.md_iron.proofs.RevenueLaws.{over-short}
use Rattle.md_iron.proofs.ShareLaws.{den-divides}

-- ---- one row

-- a number over a denominator is a fraction, and so it is another fraction of the same value
forward : (num den big_num big_den over main : ℤ) → pos 0 <ℤ den → main *ℤ den ≡ over *ℤ num → num *ℤ big_den ≡ big_num *ℤ den → main *ℤ big_den ≡ over *ℤ big_num
forward num den big_num big_den over main above e f =
    let left : den *ℤ (main *ℤ big_den) ≡ (main *ℤ den) *ℤ big_den = simp ring in
    let middle : (over *ℤ num) *ℤ big_den ≡ over *ℤ (num *ℤ big_den) = simp ring in
    let right : over *ℤ (big_num *ℤ den) ≡ den *ℤ (over *ℤ big_num) = simp ring in
    *ℤ_cancel den (main *ℤ big_den) (over *ℤ big_num) above (left ∙ ap (λ z. z *ℤ big_den) e ∙ middle ∙ ap (λ z. over *ℤ z) f ∙ right)

backward : (num den big_num big_den over main : ℤ) → pos 0 <ℤ big_den → main *ℤ big_den ≡ over *ℤ big_num → num *ℤ big_den ≡ big_num *ℤ den → main *ℤ den ≡ over *ℤ num
backward num den big_num big_den over main above e f = forward big_num big_den num den over main above e (sym f)

-- ---- all rows

-- how many rows there are
pub rows-count : (a : SymmetricAuction) (units : ℕ) (pools : Pools) (p : Program) → IsReducedProgram a units (cuts_of (value_count a) pools) p → row_count p ≡ length (rows_of (value_count a) pools)
rows-count a units pools p is =
    forms.rows-count (column_count a) (map (row_form a units) (rows_of (value_count a) pools)) (cost_of a) p (is-program a units pools p is) ∙ length-map (rows_of (value_count a) pools) (row_form a units)

module _ (a : SymmetricAuction) (units : ℕ) (pools : Pools) (p : Program) (fractions : List Frac) (is : IsReducedProgram a units (cuts_of (value_count a) pools) p)
    (long : length fractions ≡ row_count p) (rows : AreRowMultipliers a units pools p (row_count p) fractions) where
  -- the fractions over a denominator are multipliers
  pub are-multipliers : (divisor : ℕ → ℤ) (over : ℤ) (main : ℕ → ℤ) → AreLeastFractions fractions → IsDividedBy a units pools p divisor → AreOver fractions over main → AreShortMultipliers a units pools p divisor over main
  are-multipliers divisor over main least divided h = record {
    multipliers = record {
      positive = h.positive;
      divided = divided.at;
      at = λ number row stands.
          let inside : number < row_count p = omega (arith, row-below (rows_of (value_count a) pools) number row stands, rows-count a units pools p is) in
          let f = fraction_in fractions number in
          let share = h.shares.at number (omega (arith, inside, long)) in
          forward f.num f.den (multiplier_num a pools divisor row) (multiplier_den a pools p.factor row) over (main number) (least.at number (omega (arith, inside, long))).least.positive share.ratio
          ((rows.at number inside).is divisor row divided stands).ratio;
    };
    short = λ r b. (h.shares.at r (omega (arith, b, long))).short;
  }

  module _ (shaped : IsAuction a) (pooled : IsPooledAuction a pools) (divisor : ℕ → ℤ) (over : ℤ) (main : ℕ → ℤ) (h : AreMultipliers a units pools p divisor over main) where
    -- and the other way round
    ratio-at : (k : ℕ) → k < length fractions → main k *ℤ (fraction_in fractions k).den ≡ over *ℤ (fraction_in fractions k).num
    ratio-at k b =
        let inside : k < row_count p = omega (arith, b, long) in
        let row = row_in a pools k in
        let stands : slice_get (rows_of (value_count a) pools) k ≡ Some (row_in a pools k) = slice_get-get_or (rows_of (value_count a) pools) k _ (omega (arith, inside, rows-count a units pools p is)) in
        let f = fraction_in fractions k in
        backward f.num f.den (multiplier_num a pools divisor row) (multiplier_den a pools p.factor row) over (main k)
        (den-positive a pools p.factor shaped pooled (factor-positive a units pools p is) row (row-inside a units pools p is k inside)) (h.at k row stands)
        ((rows.at k inside).is divisor row (record { at = h.divided }) stands).ratio

    -- each denominator of a fraction divides the one that they are over
    pub each-divides : AreLeastFractions fractions → (k : ℕ) → k < length fractions → Divides (fraction_in fractions k).den over
    each-divides least k b = den-divides (fraction_in fractions k).num (fraction_in fractions k).den over (main k) (least.at k b).least (ratio-at k b)

    pub are-over : IsWithin (2 ^ 62 - 1) over → ((r : ℕ) → r < row_count p → IsWithin (2 ^ 62 - 1) (main r)) → AreOver fractions over main
    are-over short small = record {
      positive = h.positive;
      short = short;
      shares = record { at = λ k b. record { ratio = ratio-at k b; short = small k (omega (arith, b, long)) } };
    }

-- ---- any program of the same meaning

same-multipliers : (a : SymmetricAuction) (units : ℕ) (pools : Pools) (p q : Program) (divisor : ℕ → ℤ) (over : ℤ) (main : ℕ → ℤ) → IsReducedProgram a units (cuts_of (value_count a) pools) p
    → IsReducedProgram a units (cuts_of (value_count a) pools) q → AreMultipliers a units pools p divisor over main → AreMultipliers a units pools q divisor over main
same-multipliers a units pools p q divisor over main is its h =
    let same = same_program (column_count a) (map (row_form a units) (rows_of (value_count a) pools)) (cost_of a) p q (is-program a units pools p is) (is-program a units pools q its) in
    let factor : p.factor ≡ q.factor = IsDivisorFor-same (column_count a) (λ j. cost_of a (unit j)) p.factor q.factor is.has_cost.factor its.has_cost.factor in
    record {
      positive = h.positive;
      divided = λ number s e. h.divided number s e ∙ ap (λ z. divisor s *ℤ z) (same.rights number);
      at = λ number row e. subst (λ f. main number *ℤ multiplier_den a pools f row ≡ over *ℤ multiplier_num a pools divisor row) factor (h.at number row e);
    }

-- both have as many rows
same-rows : (a : SymmetricAuction) (units : ℕ) (pools : Pools) (p q : Program) → IsReducedProgram a units (cuts_of (value_count a) pools) p → IsReducedProgram a units (cuts_of (value_count a) pools) q → row_count p ≡ row_count q
same-rows a units pools p q is its = rows-count a units pools p is ∙ sym (rows-count a units pools q its)

-- ---- a bound, or none

pub closed-bound : (a : SymmetricAuction) (units : ℕ) (pools : Pools) (p : Program) (fractions : List Frac) (bound : Bound) → IsAuction a → 0 < units → IsPooledAuction a pools → IsReducedProgram a units (cuts_of (value_count a) pools) p
    → AreLeastFractions fractions → length fractions ≡ row_count p → AreRowMultipliers a units pools p (row_count p) fractions → AreOver fractions bound.den (number_at bound.main)
    → IsLeastDenominatorOf (length fractions) fractions bound.den → length bound.main ≡ length fractions → bound.face ≡ list_to (length fractions) (λ _. pos 0) → IsClosedBound a units pools bound
closed-bound a units pools p fractions bound shaped some pooled is least long rows over den one_each face = record {
  program = p;
  is_program = is;
  holds = λ q its.
      let same : length fractions ≡ row_count q = long ∙ same-rows a units pools p q is its in
      let short = are-multipliers a units pools p fractions is long rows (divisor_of a units) bound.den (number_at bound.main) least (record { at = divisor_of-divides a units pools p shaped some is }) over in
      record {
        divisor = divisor_of a units;
        short = record {
          multipliers = same-multipliers a units pools p q (divisor_of a units) bound.den (number_at bound.main) is its short.multipliers;
          short = λ r b. short.short r (omega (arith, b, same-rows a units pools p q is its));
        };
        den_short = over.short;
        least = λ by else_over other h.
            den.least else_over
            (each-divides a units pools p fractions is long rows shaped pooled by else_over other (same-multipliers a units pools q p by else_over other its is h) least);
        one_each = one_each ∙ same;
        face_is = face ∙ ap (λ n. list_to n (λ _. pos 0)) same;
      };
}

pub no-short-bound : (a : SymmetricAuction) (units : ℕ) (pools : Pools) (p : Program) (fractions : List Frac) → IsAuction a → IsPooledAuction a pools → IsReducedProgram a units (cuts_of (value_count a) pools) p → length fractions ≡ row_count p
    → AreRowMultipliers a units pools p (row_count p) fractions → ((over : ℤ) (numbers : ℕ → ℤ) → ¬ AreOver fractions over numbers) → HasNoShortBound a units pools
no-short-bound a units pools p fractions shaped pooled is long rows none = record {
  program = p;
  is_program = is;
  holds = λ q its.
      let without : (divisor : ℕ → ℤ) (over : ℤ) (main : ℕ → ℤ) → IsWithin (2 ^ 62 - 1) over → ¬ AreShortMultipliers a units pools q divisor over main =
      λ divisor over main short h.
      none over main
      (are-over a units pools p fractions is long rows shaped pooled divisor over main (same-multipliers a units pools q p divisor over main its is h.multipliers) short
      (λ r b. h.short r (omega (arith, b, same-rows a units pools p q is its)))) in
      record {
        short_over = without;
        any_over = λ above divisor over main h. without divisor over main (over-short a units pools q divisor over main shaped above its (rows-count a units pools q its) h) h;
      };
}

-- what is made of the fractions is such a bound, or says that there is none
pub bound-end : (a : SymmetricAuction) (units : ℕ) (pools : Pools) (p : Program) (fractions : List Frac) → IsAuction a → 0 < units → IsPooledAuction a pools → IsReducedProgram a units (cuts_of (value_count a) pools) p → AreLeastFractions fractions
    → length fractions ≡ row_count p → AreRowMultipliers a units pools p (row_count p) fractions → (r : Result (Option Bound) NoMemory)
    → IfOk r (λ bound. MatchOption bound ((over : ℤ) (numbers : ℕ → ℤ) → ¬ AreOver fractions over numbers) (λ b. AreOver fractions b.den (number_at b.main)))
    → IfOk r (λ bound. MatchOption bound (Unit {0}) (λ b. IsLeastDenominatorOf (length fractions) fractions b.den))
    → IfOk r (λ bound. MatchOption bound (Unit {0}) (λ b. length b.main ≡ length fractions)) → IfOk r (λ bound. MatchOption bound (Unit {0}) (λ b. b.face ≡ list_to (length fractions) (λ _. pos 0)))
    → IfOk r (λ bound. MatchOption bound (HasNoShortBound a units pools) (IsClosedBound a units pools))
bound-end a units pools p fractions shaped some pooled is least long rows (Ok None) over den main face = no-short-bound a units pools p fractions shaped pooled is long rows over
bound-end a units pools p fractions shaped some pooled is least long rows (Ok (Some b)) over den main face = closed-bound a units pools p fractions b shaped some pooled is least long rows over den main face
bound-end a units pools p fractions shaped some pooled is least long rows (Err e) over den main face = tt
