-- Values of no record, and what those from one of them on bring.
use Rattle.std.proofs.Common.{◌≡◌, ℕ, zero, suc, ◌+◌, ◌<◌, ◌≤◌, ℤ, neg_ℤ, List, [], ◌∷◌, ◌++◌, take, length, inl, inr, refl, sym, ap, ◌∙◌, subst, arith}
use Rattle.std.proofs.lemmas.Bool.{cases_eq}
use Rattle.md_math.specs.FirstFailure.{HoldsBelow, IsFirstFailure}
use Rattle.md_math.specs.LexOrder.{IsPairNonNegative, IsPairPositive}
use Rattle.md_math.proofs.FirstFailures.{HoldsBelow-more}
use Rattle.md_math.proofs.Ring.{linear}
use Rattle.md_setting.specs.Grouped.{GroupedAuction, group_at}
use Rattle.md_list.specs.ByRule.{growth, sums_of}
use Rattle.md_list.specs.Gains.{gain_of, benefit_of}
use Rattle.md_list.specs.Ranks.{Rank, left_after, GoDown, IsList}
use Rattle.md_list.specs.Valid.{rank_at, left_behind, unlisted, BringsNothing}
use Rattle.md_list.proofs.PlaceLaws.{left-same, left-other}
use Rattle.md_list_gains.specs.declared.sums.Sums.{Sums}
use Rattle.md_list_gains.specs.GroupSums.{AreSumsOf}
use Rattle.md_list_check.specs.LeftOut.{BringsNothingTo}
use Rattle.md_list_gains.specs.Places.{gain_to, benefit_to}
use Rattle.md_list_check.proofs.LevelLaws.{gain-growth, benefit-growth}

-- what brings something does not bring nothing
pub some-not_none : (x y : ℤ) → IsPairPositive x y → ¬ IsPairNonNegative (neg_ℤ x) (neg_ℤ y)
some-not_none x y (inl h) (inl k) = omega (arith, linear, h, k)
some-not_none x y (inl h) (inr k) = omega (arith, linear, h, k.0)
some-not_none x y (inr h) (inl k) = omega (arith, linear, h.0, k)
some-not_none x y (inr h) (inr k) = omega (arith, linear, h.1, k.1)

pub gain-first : (gain benefit : ℕ → ℤ) (stop value : ℕ) (x y : ℤ) → value < stop → x ≡ growth gain value stop → y ≡ growth benefit value stop → IsPairPositive x y
    → HoldsBelow value (BringsNothingTo gain benefit stop) → IsFirstFailure stop (BringsNothingTo gain benefit stop) value
gain-first gain benefit stop value x y b e f some before = record {
  below = b;
  fails = λ nothing.
      some-not_none x y some
      (subst (λ z. IsPairNonNegative (neg_ℤ z) (neg_ℤ y)) (sym e) (subst (λ z. IsPairNonNegative (neg_ℤ (growth gain value stop)) (neg_ℤ z)) (sym f) nothing));
  before = before;
}

pub nothing-more : (gain benefit : ℕ → ℤ) (stop value : ℕ) (x y : ℤ) → x ≡ growth gain value stop → y ≡ growth benefit value stop → IsPairNonNegative (neg_ℤ x) (neg_ℤ y)
    → HoldsBelow value (BringsNothingTo gain benefit stop) → HoldsBelow (value + 1) (BringsNothingTo gain benefit stop)
nothing-more gain benefit stop value x y e f none before =
    HoldsBelow-more (BringsNothingTo gain benefit stop) value before
    (subst (λ z. IsPairNonNegative (neg_ℤ z) (neg_ℤ (growth benefit value stop))) e (subst (λ z. IsPairNonNegative (neg_ℤ x) (neg_ℤ z)) f none))

-- ---- how many values stand in no record

behind-more : (left : ℕ → ℕ) (ranks : List Rank) (rank : Rank) (k : ℕ) → left_behind left (ranks ++ rank ∷ []) k ≡ left_after (left_behind left ranks) rank k
behind-more left [] rank k = refl
behind-more left (first ∷ others) rank k = behind-more (left_after left first) others rank k

take-next : (ranks : List Rank) (n : ℕ) → n < length ranks → take (suc n) ranks ≡ take n ranks ++ rank_at ranks n ∷ []
take-next [] n b = absurd (omega (arith, b))
take-next (rank ∷ others) zero b = refl
take-next (rank ∷ others) (suc n) b = ap (λ ranks. rank ∷ ranks) (take-next others n (omega (arith, b)))

pub behind-next : (left : ℕ → ℕ) (ranks : List Rank) (n k : ℕ) → n < length ranks → left_behind left (take (n + 1) ranks) k ≡ left_after (left_behind left (take n ranks)) (rank_at ranks n) k
behind-next left ranks n k b =
    let next : n + 1 ≡ suc n = omega arith in
    ap (λ m. left_behind left (take m ranks) k) next ∙ ap (λ others. left_behind left others k) (take-next ranks n b) ∙ behind-more left (take n ranks) (rank_at ranks n) k

behind-below : (groups : ℕ) (left : ℕ → ℕ) (ranks : List Rank) → GoDown groups left ranks → (k : ℕ) → left_behind left ranks k ≤ left k
behind-below groups left [] down k = omega arith
behind-below groups left (rank ∷ others) down k =
    let rest : left_behind (left_after left rank) others k ≤ left_after left rank k = behind-below groups (left_after left rank) others down.3 k in
    elim (cases_eq rank.group k) [
      | inl e ↦
          (let here : left_after left rank k ≡ rank.first = left-same left rank k e in
          let some : rank.first < rank.stop = down.1 in
          let stop : rank.stop ≡ left k = subst (λ j. rank.stop ≡ left j) e down.2 in
          omega (arith, rest, here, some, stop))
      | inr d ↦ (let here : left_after left rank k ≡ left k = left-other left rank k d in omega (arith, rest, here))
    ]

pub unlisted-below : (a : GroupedAuction) (ranks : List Rank) → IsList a ranks → (k : ℕ) → unlisted a ranks k ≤ length (group_at a k).values
unlisted-below a ranks is k = behind-below (length a.groups) (λ j. length (group_at a j).values) ranks is k

-- ---- by sums by place

module _ (a : GroupedAuction) (ranks : List Rank) (is : IsList a ranks) (k : ℕ) (places : List Sums) (sums : AreSumsOf a k places) where
  same-nothing : (v : ℕ) → v < unlisted a ranks k
      → (growth (gain_to places) v (unlisted a ranks k) ≡ growth (sums_of (gain_of a (group_at a k))) v (unlisted a ranks k))
      × (growth (benefit_to places) v (unlisted a ranks k) ≡ growth (sums_of (benefit_of (group_at a k))) v (unlisted a ranks k))
  same-nothing v b =
      let to : unlisted a ranks k ≤ length (group_at a k).values = unlisted-below a ranks is k in
      let from : v ≤ length (group_at a k).values = omega (arith, b, to) in (
        gain-growth a k places sums v (unlisted a ranks k) from to,
        benefit-growth a k places sums v (unlisted a ranks k) from to,
      )

  nothing-here : (v : ℕ) → v < unlisted a ranks k → BringsNothingTo (gain_to places) (benefit_to places) (unlisted a ranks k) v → BringsNothing a ranks k v
  nothing-here v b h = (let e = same-nothing v b in subst (λ z. IsPairNonNegative (neg_ℤ z) (neg_ℤ (growth (sums_of (benefit_of (group_at a k))) v (unlisted a ranks k)))) e.0 (subst (λ z. IsPairNonNegative (neg_ℤ (growth (gain_to places) v (unlisted a ranks k))) (neg_ℤ z)) e.1 h))

  nothing-there : (v : ℕ) → v < unlisted a ranks k → BringsNothing a ranks k v → BringsNothingTo (gain_to places) (benefit_to places) (unlisted a ranks k) v
  nothing-there v b h = (let e = same-nothing v b in subst (λ z. IsPairNonNegative (neg_ℤ z) (neg_ℤ (growth (benefit_to places) v (unlisted a ranks k)))) (sym e.0) (subst (λ z. IsPairNonNegative (neg_ℤ (growth (sums_of (gain_of a (group_at a k))) v (unlisted a ranks k))) (neg_ℤ z)) (sym e.1) h))

  pub all-nothing : (stop : ℕ) → stop ≡ unlisted a ranks k → HoldsBelow stop (BringsNothingTo (gain_to places) (benefit_to places) stop) → HoldsBelow (unlisted a ranks k) (BringsNothing a ranks k)
  all-nothing stop e h =
      let all = subst (λ n. HoldsBelow n (BringsNothingTo (gain_to places) (benefit_to places) n)) e h in
      record { holds = λ v b. nothing-here v b (all.holds v b) }

  pub first-something : (stop value : ℕ) → stop ≡ unlisted a ranks k → IsFirstFailure stop (BringsNothingTo (gain_to places) (benefit_to places) stop) value
      → IsFirstFailure (unlisted a ranks k) (BringsNothing a ranks k) value
  first-something stop value e h =
      let first = subst (λ n. IsFirstFailure n (BringsNothingTo (gain_to places) (benefit_to places) n) value) e h in
      record {
        below = first.below;
        fails = λ nothing. first.fails (nothing-there value first.below nothing);
        before = record { holds = λ v b. nothing-here v (omega (arith, b, first.below)) (first.before.holds v b) };
      }
