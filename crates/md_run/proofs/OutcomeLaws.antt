-- What is drawn at the counts of a profile, and by the second draw.
use Rattle.std.proofs.Common.{◌≡◌, ℕ, ◌+◌, ◌*◌, ◌<◌, ◌≤◌, ℤ, pos, ◌≤ℤ◌, ◌<ℤ◌, List, sym, ap, subst, ◌∙◌, arith, add-one, below_more, to_z, of_z, lit<, ◌^◌}
use Rattle.std.proofs.lemmas.Int.{ints}
use mir.Syntax.{w128}
use Rattle.md_math.specs.Sizes.{IsWithin}
use Rattle.md_math.proofs.Bits.{read_within}
use Rattle.md_math.proofs.SizeLaws.{IsWithin-from_bounds}
use Rattle.md_space.specs.Profiles.{IsProfile, rank_of}
use Rattle.md_setting.specs.Setting.{GeneralSetting}
use Rattle.md_setting.specs.Meaning.{outcome_count, sizes_of}
use Rattle.md_mech.specs.Accepted.{number_limit}
use Rattle.md_mech.specs.declared.mechanism.Mechanism.{Mechanism}
use Rattle.md_mech.specs.Mechanism.{IsMechanism, chance_of}
use Rattle.md_expost.proofs.MassLaws.{cap-within}
use Rattle.std.proofs.lemmas.Bool.{cases_eq, cases_lt}
use Rattle.std.proofs.Common.{inl, inr, eq-eqb, ne_eqb, ◌==◌, if◌then◌else◌}
use Rattle.md_math.specs.Sums.{sum_to}
use Rattle.md_setting.specs.Auction.{SymmetricAuction, value_count}
use Rattle.md_setting.specs.AuctionShaped.{IsAuction}
use Rattle.md_counts.specs.Weights.{count_in, counts_of}
use Rattle.md_expost.specs.declared.masses.Masses.{Masses}
use Rattle.md_expost.specs.Masses.{rank_count, counts_in, cap_at}
use Rattle.md_run.specs.Lottery.{IsDrawnPlace, IsNoPlace, chances_from}
use Rattle.md_run.specs.OfMasses.{AreReports, IsNumbered, IsOutcome, IsSecondDraw, mass_for, cap_for}
use Rattle.md_run.proofs.LotteryLaws.{none-from, drawn-by_same, none-by_same, drawn-same_place, drawn-not_none}
use Rattle.md_run.proofs.MassLaws.{mass-at_rank, cap-at_rank}

-- ---- one more place

pub none-more : (n : ℕ) (f : ℕ → ℤ) (d : ℤ) → IsNoPlace n f d → sum_to (n + 1) f ≤ℤ d → IsNoPlace (n + 1) f d
none-more n f d h l = record { at = below_more (λ j. sum_to (j + 1) f ≤ℤ d) n h.at l }

-- ---- the masses at a rank, as the code reads them

-- what stands at the rank are the masses at the counts of the profile
record StandsAt (a : SymmetricAuction) (y : Masses) (t : List ℕ) (rank kinds : ℕ) : Type 0 where
  chance : (v : ℕ) → chances_from y.rows (rank * kinds) v ≡ mass_for a y t v

stands_at : (a : SymmetricAuction) (y : Masses) (t : List ℕ) (rank kinds : ℕ) → AreReports a t → rank < rank_count a → counts_in a rank ≡ counts_of (value_count a) t → kinds ≡ value_count a → StandsAt a y t rank kinds
stands_at a y t rank kinds p b e k = record {
  chance = λ v. ap (λ n. chances_from y.rows (rank * n) v) k ∙ sym (mass-at_rank a y t rank v p b e);
}

pub drawn-at : (a : SymmetricAuction) (y : Masses) (t : List ℕ) (rank kinds k : ℕ) (d : ℤ) → AreReports a t → rank < rank_count a → counts_in a rank ≡ counts_of (value_count a) t → kinds ≡ value_count a → IsDrawnPlace kinds (chances_from y.rows (rank * kinds)) d k → IsDrawnPlace (value_count a) (mass_for a y t) d k
drawn-at a y t rank kinds k d p b e f h =
    let s : StandsAt a y t rank kinds = stands_at a y t rank kinds p b e f in
    subst (λ n. IsDrawnPlace n (mass_for a y t) d k) f (drawn-by_same kinds k (chances_from y.rows (rank * kinds)) (mass_for a y t) d (λ v l. s.chance v) h)

pub none-at : (a : SymmetricAuction) (y : Masses) (t : List ℕ) (rank kinds : ℕ) (d : ℤ) → AreReports a t → rank < rank_count a → counts_in a rank ≡ counts_of (value_count a) t → kinds ≡ value_count a → IsNoPlace kinds (chances_from y.rows (rank * kinds)) d → IsNoPlace (value_count a) (mass_for a y t) d
none-at a y t rank kinds d p b e f h =
    let s : StandsAt a y t rank kinds = stands_at a y t rank kinds p b e f in
    subst (λ n. IsNoPlace n (mass_for a y t) d) f (none-by_same kinds (chances_from y.rows (rank * kinds)) (mass_for a y t) d (λ v l. s.chance v) h)

-- ---- the second draw

pub outcome-given : (a : SymmetricAuction) (y : Masses) (t : List ℕ) (d1 d2 : ℤ) (v i : ℕ) → IsDrawnPlace (value_count a) (mass_for a y t) d1 v → IsNumbered t v d2 i → IsOutcome a y t d1 d2 (i + 1)
outcome-given a y t d1 d2 v i h n =
    subst (IsOutcome a y t d1 d2) (sym (add-one i)) (
      subst (IsDrawnPlace (value_count a) (mass_for a y t) d1) (sym n.reports) h,
      subst (λ w. IsNumbered t w d2 i) (sym n.reports) n,
    )

pub second-given : (a : SymmetricAuction) (y : Masses) (t : List ℕ) (d1 d2 : ℤ) (v : ℕ) → IsDrawnPlace (value_count a) (mass_for a y t) d1 v → (pos 0 ≤ℤ d2) × (d2 <ℤ pos (count_in v t)) → IsSecondDraw a y t d1 d2
second-given a y t d1 d2 v h r = record {
  given = λ w g. subst (λ u. (pos 0 ≤ℤ d2) × (d2 <ℤ pos (count_in u t))) (drawn-same_place (value_count a) v w (mass_for a y t) d1 h g) r;
  kept = λ g. absurd (drawn-not_none (value_count a) v (mass_for a y t) d1 h g);
}

pub second-kept : (a : SymmetricAuction) (y : Masses) (t : List ℕ) (d1 d2 : ℤ) → IsNoPlace (value_count a) (mass_for a y t) d1 → d2 ≡ pos 0 → IsSecondDraw a y t d1 d2
second-kept a y t d1 d2 h e = record {
  given = λ w g. absurd (drawn-not_none (value_count a) w (mass_for a y t) d1 g h);
  kept = λ g. e;
}

-- ---- the bidder with a number

pub others-more : (report kind others number one : ℕ) → one ≡ (if report == kind then 1 else 0) → ¬ ((report ≡ kind) × (others ≡ number)) → others ≤ number → others + one ≤ number
others-more report kind others number one e n l =
    elim (cases_eq report kind) [
      | inl q ↦
          elim (cases_lt others number) [
            | inl b ↦ (let f : one ≡ 1 = e ∙ ap (λ c. if c then 1 else 0) (eq-eqb report kind q) in omega arith)
            | inr b ↦ absurd (n (q, omega arith))
          ]
      | inr d ↦ let f : one ≡ 0 = e ∙ ap (λ c. if c then 1 else 0) (ne_eqb report kind d) in omega arith
    ]

-- ---- the lottery of a general setting

pub lottery-row : (s : GeneralSetting) (m : Mechanism) (t : List ℕ) (rank outcomes k : ℕ) (d : ℤ) → rank ≡ rank_of (sizes_of s) t → outcomes ≡ outcome_count s → IsDrawnPlace outcomes (chances_from m.chances (rank * outcomes)) d k → IsDrawnPlace (outcome_count s) (chance_of s m t) d k
lottery-row s m t rank outcomes k d e f h =
    subst (λ n. IsDrawnPlace n (chances_from m.chances (rank_of (sizes_of s) t * n)) d k) f
    (subst (λ r. IsDrawnPlace outcomes (chances_from m.chances (r * outcomes)) d k) e h)

pub lottery-whole : (s : GeneralSetting) (m : Mechanism) (t : List ℕ) (rank outcomes : ℕ) (d : ℤ) → IsMechanism s m → IsProfile (sizes_of s) t → pos 0 ≤ℤ d → d <ℤ m.den → rank ≡ rank_of (sizes_of s) t → outcomes ≡ outcome_count s → IsNoPlace outcomes (chances_from m.chances (rank * outcomes)) d → ⊥
lottery-whole s m t rank outcomes d h p z b e f n =
    let none : IsNoPlace (outcome_count s) (chance_of s m t) d =
    subst (λ k. IsNoPlace k (chances_from m.chances (rank_of (sizes_of s) t * k)) d) f
    (subst (λ r. IsNoPlace outcomes (chances_from m.chances (r * outcomes)) d) e n) in
    omega (arith, ints, none-from (outcome_count s) (chance_of s m t) d z none, h.whole t p, b)

-- ---- denominators

pub den-read : (den : ℤ) → pos 1 ≤ℤ den → den ≤ℤ pos number_limit → to_z w128 (of_z w128 den) ≡ den
den-read den low high = read_within number_limit den (IsWithin-from_bounds number_limit den (omega (arith, ints, low)) high) (lit< tt)

pub cap-read : (a : SymmetricAuction) (den cap : ℤ) (t : List ℕ) (rank : ℕ) → IsAuction a → pos 1 ≤ℤ den → den ≤ℤ pos number_limit → rank < rank_count a → counts_in a rank ≡ counts_of (value_count a) t → cap ≡ cap_for a den t → to_z w128 (of_z w128 cap) ≡ cap_for a den t
cap-read a den cap t rank h low high b e c =
    let at : cap ≡ cap_at a den rank = c ∙ sym (cap-at_rank a den t rank e) in
    read_within (number_limit * 10 ^ 12) cap (subst (IsWithin (number_limit * 10 ^ 12)) (sym at) (cap-within a den rank h low high b)) (lit< tt) ∙ c
