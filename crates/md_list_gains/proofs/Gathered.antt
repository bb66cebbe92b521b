-- The sums by place of a group's values, as they are gathered value by value.
use Rattle.std.proofs.Common.{◌≡◌, ℕ, suc, ◌+◌, ◌*◌, ◌^◌, ◌<◌, ◌≤◌, pos, ◌-ℤ◌, ◌<ℤ◌, List, [], ◌∷◌, ◌++◌, length, inl, inr, refl, sym, ap, ap₂, ◌∙◌, subst, arith, lit≤}
use Rattle.std.proofs.lemmas.Bool.{cases_lt}
use Rattle.std.proofs.lemmas.List.{get_or_push, get_or_append_left, length_push}
use Rattle.md_math.specs.Sizes.{IsWithin}
use Rattle.md_math.proofs.SizeLaws.{IsWithin-wider}
use Rattle.md_setting.specs.Grouped.{GroupedAuction, group_at}
use Rattle.md_setting.specs.GroupedShaped.{IsGroupedAuction}
use Rattle.md_list.specs.Gains.{weight_in, gain_of, benefit_of}
use Rattle.md_list.specs.ByRule.{sums_of, growth}
use Rattle.md_list_laws.proofs.Pools.{weight-between}
use Rattle.md_list_gains.specs.declared.sums.Sums.{Sums}
use Rattle.md_list_gains.specs.Places.{IsCurve, no_sums, sums_at, weight_to}
use Rattle.md_list_gains.specs.GroupSums.{AreSumsTo, AreSumsOf}
use Rattle.md_list_gains.proofs.GroupSizes.{weights-within, gains-within, benefits-within}

module _ (a : GroupedAuction) (k : ℕ) where
  -- those of the places up to one, and its own
  pub record AreGathered (v : ℕ) (places : List Sums) (sums : Sums) : Type 0 where
    pub long : length places ≡ suc v
    pub last : AreSumsTo a k v sums
    pub each : (x : ℕ) → x ≤ v → AreSumsTo a k x (sums_at places x)

  pub gathered-start : (places none : List Sums) → none ≡ [] → places ≡ none ++ no_sums ∷ [] → AreGathered 0 places no_sums
  gathered-start places none e f = subst (λ ps. AreGathered 0 ps no_sums) (sym (f ∙ ap (λ ps. ps ++ no_sums ∷ []) e)) start
    where
      nothing : AreSumsTo a k 0 no_sums
      nothing = record { weight = refl; gain = refl; benefit = refl }

      start : AreGathered 0 (no_sums ∷ []) no_sums
      start = record {
        long = refl;
        last = nothing;
        each = λ x b. (let here : 0 ≡ x = omega (arith, b) in subst (λ y. AreSumsTo a k y (sums_at (no_sums ∷ []) y)) here nothing);
      }

  pub gathered-more : (v : ℕ) (places new : List Sums) (sums next : Sums) → AreGathered v places sums → AreSumsTo a k (suc v) next → new ≡ places ++ next ∷ []
      → AreGathered (v + 1) new next
  gathered-more v places new sums next h more e =
      let after : suc v ≡ v + 1 = omega arith in
      record {
        long = ap length e ∙ length_push places next ∙ ap (λ n. n + 1) h.long ∙ sum v;
        last = subst (λ y. AreSumsTo a k y next) after more;
        each = λ x b. elim (cases_lt x (suc v)) [
          | inl l ↦ subst (AreSumsTo a k x) (sym (ap (λ ps. sums_at ps x) e ∙ get_or_append_left places (next ∷ []) no_sums x (omega (arith, l, h.long)))) (h.each x (omega (arith, l)))
          | inr l ↦
              (let here : suc v ≡ x = omega (arith, l, b) in
              subst (AreSumsTo a k x) (sym (ap (λ ps. sums_at ps x) e ∙ get_or_push places next no_sums x (h.long ∙ here))) (subst (λ y. AreSumsTo a k y next) here more))
        ];
      }
    where
      sum : (n : ℕ) → suc n + 1 ≡ suc (n + 1)
      sum n = omega arith

  -- ---- all of them

  module _ (v : ℕ) (places : List Sums) (sums : Sums) (h : AreGathered v places sums) (end : v ≡ length (group_at a k).values) where
    pub gathered-sums : AreSumsOf a k places
    gathered-sums = record {
      long = h.long ∙ ap suc end;
      weight = λ x b. (h.each x (omega (arith, b, end))).weight;
      gain = λ x b. (h.each x (omega (arith, b, end))).gain;
      benefit = λ x b. (h.each x (omega (arith, b, end))).benefit;
    }

    pub gathered-curve : IsGroupedAuction a → k < length a.groups → IsCurve places
    gathered-curve shaped inside = record {
      some = omega (arith, h.long);
      small = λ x b. (let l : x ≤ length (group_at a k).values = omega (arith, b, h.long, end) in
          let here : AreSumsTo a k x (sums_at places x) = h.each x (omega (arith, b, h.long)) in
          record {
            weight = subst (IsWithin (2 ^ 58)) (sym here.weight) (IsWithin-wider (64 * 1000000) (2 ^ 58) (sums_of (weight_in (group_at a k)) x) (lit≤ tt) (weights-within a k shaped inside x l));
            gain = subst (IsWithin (2 ^ 58)) (sym here.gain) (IsWithin-wider (2 ^ 57) (2 ^ 58) (sums_of (gain_of a (group_at a k)) x) (lit≤ tt) (gains-within a k shaped inside x l));
            benefit = subst (IsWithin (2 ^ 58)) (sym here.benefit) (IsWithin-wider (64 * (1000000 * 1000000)) (2 ^ 58) (sums_of (benefit_of (group_at a k)) x) (lit≤ tt) (benefits-within a k shaped inside x l));
          });
      rising = λ x y l b.
          (let same : growth (weight_to places) x y ≡ growth (sums_of (weight_in (group_at a k))) x y =
          ap₂ (λ u w. u -ℤ w) (h.each y (omega (arith, b, h.long))).weight (h.each x (omega (arith, l, b, h.long))).weight in
          subst (λ z. pos 0 <ℤ z) (sym same) (weight-between (group_at a k) (shaped.ordered.group k inside) x y l (omega (arith, b, h.long, end))));
    }
