-- Numbers that pass the tests make an accepted mechanism.
use Rattle.std.proofs.Common.{◌≡◌, ℕ, ◌+◌, ◌*◌, ◌/◌, ◌%◌, ◌<◌, ℤ, pos, ◌≤ℤ◌, List, length, subst, arith}
use Rattle.std.proofs.lemmas.Int.{ints}
use Rattle.std.proofs.lemmas.Nat.{mul-add-lt, div_below, mod_below, div-add-mod'}
use Rattle.md_math.specs.FirstFailure.{HoldsBelow}
use Rattle.md_math.specs.Lists.{number_at}
use Rattle.md_math.specs.Sums.{sum_to}
use Rattle.md_math.specs.Sizes.{IsWithin}
use Rattle.md_math.proofs.SumLaws.{sum_to-at_least}
use Rattle.md_math.proofs.SizeLaws.{IsWithin-from_bounds}
use Rattle.md_space.specs.Profiles.{profile_count, rank_of}
use Rattle.md_space.proofs.Ranks.{rank_of-below, pos-factor}
use Rattle.md_setting.specs.Setting.{GeneralSetting}
use Rattle.md_setting.specs.Meaning.{agent_count, outcome_count, sizes_of}
use Rattle.md_mech.specs.declared.mechanism.Mechanism.{Mechanism}
use Rattle.md_mech.specs.Accepted.{IsAccepted, number_limit}
use Rattle.md_mech.specs.Refusals.{HasWholes, IsChanceAt, IsWholeAt, IsPaymentAt}

place-below : (r n w k : ℕ) → r < n → k < w → r * w + k < n * w
place-below r n w k h l = omega (arith, mul-add-lt r w k n h l)

nonneg-within : (limit : ℕ) (z d : ℤ) → pos 0 ≤ℤ z → z ≤ℤ d → d ≤ℤ pos limit → IsWithin limit z
nonneg-within limit z d p l h = IsWithin-from_bounds limit z (omega (arith, ints)) (omega (arith, ints, l, h))

-- a chance is at most the whole
chance-le : (den : ℤ) (chances : List ℤ) (profiles outcomes k : ℕ) → length chances ≡ profiles * outcomes → HoldsBelow (length chances) (IsChanceAt chances) →
    HoldsBelow profiles (IsWholeAt den chances outcomes) → k < length chances → number_at chances k ≤ℤ den
chance-le den chances profiles outcomes k e p w h =
    let below : k < profiles * outcomes = omega (arith, e) in
    let some : 0 < outcomes = pos-factor k profiles outcomes below in
    let row : k / outcomes < profiles = div_below k outcomes profiles some below in
    let column : k % outcomes < outcomes = mod_below k outcomes some in
    let f = λ (o : ℕ). number_at chances (k / outcomes * outcomes + o) in
    let part : f (k % outcomes) ≤ℤ sum_to outcomes f =
    sum_to-at_least outcomes (k % outcomes) f column (λ j l. p.holds (k / outcomes * outcomes + j) (rw e (place-below (k / outcomes) profiles outcomes j row l))) in
    subst (λ q. number_at chances q ≤ℤ den) (div-add-mod' k outcomes) (subst (λ z. f (k % outcomes) ≤ℤ z) (w.holds (k / outcomes) row) part)

pub made : (s : GeneralSetting) (m : Mechanism) → HasWholes s m → HoldsBelow (length m.pays) (IsPaymentAt s m.pays) → IsAccepted s m
made s m h pays =
    let frame = h.chances.frame in
    record {
      mechanism = record {
        den = frame.den.positive;
        chance_count = frame.shape.chances;
        pay_count = frame.shape.pays;
        not_negative = λ t o p l. h.chances.chances.holds (rank_of (sizes_of s) t * outcome_count s + o)
            (rw frame.shape.chances (place-below (rank_of (sizes_of s) t) (profile_count (sizes_of s)) (outcome_count s) o (rank_of-below (sizes_of s) t p) l));
        whole = λ t p. h.wholes.holds (rank_of (sizes_of s) t) (rank_of-below (sizes_of s) t p);
        no_payment = λ off t i p l. (pays.holds (rank_of (sizes_of s) t * agent_count s + i)
            (rw frame.shape.pays (place-below (rank_of (sizes_of s) t) (profile_count (sizes_of s)) (agent_count s) i (rank_of-below (sizes_of s) t p) l))).off off;
      };
      den_size = IsWithin-from_bounds number_limit m.den (omega (arith, ints, frame.den.positive)) frame.den.size;
      chance_size = record {
        at = λ k l. nonneg-within number_limit (number_at m.chances k) m.den (h.chances.chances.holds k l)
            (chance-le m.den m.chances (profile_count (sizes_of s)) (outcome_count s) k frame.shape.chances h.chances.chances h.wholes l) frame.den.size;
      };
      pay_size = record { at = λ k l. (pays.holds k l).size };
    }
