-- How the table of the numbers of lists is filled.
use Rattle.std.proofs.Common.{◌≡◌, ◌≢◌, ◌⊎◌, ℕ, zero, suc, ◌+◌, ◌-◌, ◌*◌, ◌/◌, ◌%◌, ◌^◌, ◌<◌, ◌≤◌, List, length, slice_index, slice_set, get_or-set_same, get_or-set_other, length-set, sym, ap, ◌∙◌, subst, inl, inr, arith}
use Rattle.std.proofs.lemmas.Bool.{cases_eq}
use Rattle.std.proofs.Math.Pow.{pow_mono}
use Rattle.md_setting.specs.CountLists.{count_lists}
use Rattle.md_setting.proofs.CountLaws.{none, one_more, few}
use Rattle.md_counts.specs.Ways.{HasWays}

-- each number that stands is small
pub entry-small : (table : List ℕ) (place i : ℕ) → HasWays table place → place ≤ 169 → i < place → slice_index table i ≤ 2 ^ 24
entry-small table place i h l b =
    let kinds = i / 13 in
    let bidders = i % 13 in
    let split : kinds * 13 + bidders ≡ i = omega arith in
    let here : slice_index table i ≡ length (count_lists bidders kinds) =
    ap (slice_index table) (sym split) ∙ h.at bidders kinds (omega arith) (omega arith) (omega arith) in
    let small : length (count_lists bidders kinds) ≤ 2 ^ (bidders + kinds) = few bidders kinds in
    let most : 2 ^ (bidders + kinds) ≤ 2 ^ 24 = pow_mono {i = bidders + kinds} {j = 24} (omega arith) in
    omega (arith, here, small, most)

pub sum-small : (table : List ℕ) (place : ℕ) → HasWays table place → 13 ≤ place → place ≤ 169 → slice_index table (place - 1) + slice_index table (place - 13) < 2 ^ 32
sum-small table place h p l =
    omega (arith, entry-small table place (place - 1) h l (omega arith), entry-small table place (place - 13) h l (omega arith))

-- the number that comes next
abbrev pub IsNext : List ℕ → ℕ → ℕ → Type 0
IsNext table place x = ((place % 13 ≡ 0) × (x ≡ 1)) ⊎ ((place % 13 ≢ 0) × (x ≡ slice_index table (place - 1) + slice_index table (place - 13)))

pub HasWays-more : (table : List ℕ) (place x : ℕ) → 13 ≤ place → place < 169 → HasWays table place → IsNext table place x → HasWays (slice_set table place x) (place + 1)
HasWays-more table place x p l h next = record {
  size = length-set table place x ∙ h.size;
  at = λ bidders kinds a b c.
      elim (cases_eq (kinds * 13 + bidders) place) [
        | inl same ↦
            subst (λ i. slice_index (slice_set table place x) i ≡ length (count_lists bidders kinds)) (sym same)
            (get_or-set_same table place x 0 (omega (arith, h.size)) ∙ value bidders kinds a b same next)
        | inr apart ↦ get_or-set_other table place (kinds * 13 + bidders) x 0 apart ∙ h.at bidders kinds a b (omega arith)
      ];
}
  where
    value : (bidders kinds : ℕ) → bidders < 13 → kinds < 13 → kinds * 13 + bidders ≡ place
        → ((place % 13 ≡ 0) × (x ≡ 1)) ⊎ ((place % 13 ≢ 0) × (x ≡ slice_index table (place - 1) + slice_index table (place - 13))) → x ≡ length (count_lists bidders kinds)
    value zero kinds a b e (inl n) = n.1 ∙ sym (none kinds)
    value zero kinds a b e (inr n) = absurd (n.0 (omega arith))
    value (suc m) kinds a b e (inl n) = let z : place % 13 ≡ 0 = n.0 in absurd (omega arith)
    value (suc m) zero a b e (inr n) = absurd (omega arith)
    value (suc m) (suc k) a b e (inr n) =
        let left : slice_index table (place - 1) ≡ length (count_lists m (k + 1)) = at (place - 1) m (k + 1) (omega arith) (omega arith) (omega arith, omega arith) in
        let above : slice_index table (place - 13) ≡ length (count_lists (m + 1) k) = at (place - 13) (m + 1) k (omega arith) (omega arith) (omega arith, omega arith) in
        let law : length (count_lists (suc m) (suc k)) ≡ length (count_lists m (k + 1)) + length (count_lists (m + 1) k) =
        subst (λ i. length (count_lists i (suc k)) ≡ length (count_lists m (k + 1)) + length (count_lists (m + 1) k)) (one m)
        (subst (λ j. length (count_lists (m + 1) j) ≡ length (count_lists m (k + 1)) + length (count_lists (m + 1) k)) (one k) (one_more m k)) in
        n.1 ∙ omega (arith, left, above, law)
      where
        one : (n : ℕ) → n + 1 ≡ suc n
        one n = omega arith

        at : (i bidders kinds : ℕ) → bidders < 13 → kinds < 13 → (kinds * 13 + bidders ≡ i) × (i < place) → slice_index table i ≡ length (count_lists bidders kinds)
        at i bidders kinds a b c = ap (slice_index table) (sym c.0) ∙ h.at bidders kinds a b (let d : kinds * 13 + bidders ≡ i = c.0 in let f : i < place = c.1 in omega arith)
