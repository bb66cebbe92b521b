-- What is tested of a setting by ranks says that it is a sale; and what the item of a sale is worth.
use Rattle.std.proofs.Common.{◌≡◌, ◌≢◌, ◌==◌, ℕ, zero, suc, ◌+◌, ◌*◌, ◌<◌, ◌≤◌, ℤ, pos, ◌+ℤ◌, ◌*ℤ◌, ◌-ℤ◌, ◌≤ℤ◌, true, false, List, length, get_or, slice_index, slice_set, refl, sym, ap, ap₂, subst, ◌∙◌, arith, eq-eqb, ne_eqb, get_or-set_same, Bool, inl, inr}
use Rattle.std.specs.Prelude.{IsTrue, ◌↔◌}
use Rattle.std.proofs.lemmas.Bool.{cases_eq}
use Rattle.md_math.specs.Lists.{number_at}
use Rattle.md_math.specs.Sizes.{IsWithin}
use Rattle.md_math.specs.Sums.{sum_to}
use Rattle.md_math.proofs.Ring.{linear, *ℤ-zero}
use Rattle.md_math.proofs.SizeLaws.{IsWithin-sub}
use Rattle.md_math.proofs.SumLaws.{sum_to-single, sum_to-zero}
use Rattle.md_space.specs.Profiles.{IsProfile, profile_count, profile_at, rank_of, replaced}
use Rattle.md_space.proofs.Ranks.{rank_of-below, profile_at-rank_of, profile_at-IsProfile, length-IsProfile, report-below, replaced-IsProfile}
use Rattle.md_space.proofs.Walks.{profile_count-pos}
use Rattle.md_setting.specs.Setting.{GeneralSetting}
use Rattle.md_setting.specs.Meaning.{agent_count, outcome_count, sizes_of, utility_of, welfare_of, value_of, outside_of}
use Rattle.md_setting.specs.Shaped.{IsShaped}
use Rattle.md_mech.proofs.CountLaws.{agents-length}
use Rattle.md_asym_sale.specs.Sale.{IsSale, IsInterim, IsPaid, GoesTo, IsIndependentAt}
use Rattle.md_asym_sale.specs.Tested.{HasOwnValue, IsUtilityWhere, IsUtilityAt, AreUtilities, HaveNothing, AreIndependent}
use Rattle.md_asym_sale.specs.Values.{own_value, surplus_of, pairs_of}

-- ---- profiles

pub first-profile : (s : GeneralSetting) → IsShaped s → IsProfile (sizes_of s) (profile_at (sizes_of s) 0)
first-profile s shaped = profile_at-IsProfile (sizes_of s) 0 (profile_count-pos (sizes_of s) shaped.listed.space.some_type)

pub in-sizes : (s : GeneralSetting) (i : ℕ) → i < agent_count s → i < length (sizes_of s)
in-sizes s i h = omega (arith, h, agents-length s)

pub told-profile : (s : GeneralSetting) (i a : ℕ) → IsShaped s → i < agent_count s → a < slice_index (sizes_of s) i → IsProfile (sizes_of s) (replaced (profile_at (sizes_of s) 0) i a)
told-profile s i a shaped h l = replaced-IsProfile (sizes_of s) (profile_at (sizes_of s) 0) i a (first-profile s shaped) l

told-type : (s : GeneralSetting) (i a : ℕ) → IsShaped s → i < agent_count s → slice_index (replaced (profile_at (sizes_of s) 0) i a) i ≡ a
told-type s i a shaped h =
    get_or-set_same (profile_at (sizes_of s) 0) i a 0 (omega (arith, in-sizes s i h, length-IsProfile (sizes_of s) (profile_at (sizes_of s) 0) (first-profile s shaped)))

by-rank : (sizes : List ℕ) (P : List ℕ → Type 0) → ((r : ℕ) → r < profile_count sizes → P (profile_at sizes r)) → (t : List ℕ) → IsProfile sizes t → P t
by-rank sizes P h t p = subst P (profile_at-rank_of sizes t p) (h (rank_of sizes t) (rank_of-below sizes t p))

-- ---- what the item is worth

-- at each profile it is worth to an agent what it is worth to its type
pub value-own : (s : GeneralSetting) (i : ℕ) (t : List ℕ) → IsSale s → IsShaped s → i < agent_count s → IsProfile (sizes_of s) t → utility_of s i t (i + 1) ≡ own_value s i (slice_index t i)
value-own s i t sale shaped h p =
    let a = slice_index t i in
    let below : a < slice_index (sizes_of s) i = report-below (sizes_of s) t i p (in-sizes s i h) in
    (sale.sold i h).own t (replaced (profile_at (sizes_of s) 0) i a) p (told-profile s i a shaped h below) (sym (told-type s i a shaped h))

-- where an agent does not have it, it has nothing
pub utility-elsewhere : (s : GeneralSetting) (i o : ℕ) (t : List ℕ) → IsSale s → i < agent_count s → o < outcome_count s → o ≢ i + 1 → IsProfile (sizes_of s) t → utility_of s i t o ≡ pos 0
utility-elsewhere s i zero t sale h l d p = sale.kept i t h p
utility-elsewhere s i (suc k) t sale h l d p =
    let next : suc k ≡ k + 1 = omega arith in
    subst (λ o. utility_of s i t o ≡ pos 0) (sym next)
    ((sale.sold k (omega (arith, l, sale.one_more))).others i t h (λ e. d (let same : suc k ≡ i + 1 = omega (arith, e) in same)) p)

pub welfare-sold : (s : GeneralSetting) (i : ℕ) (t : List ℕ) → IsSale s → i < agent_count s → IsProfile (sizes_of s) t → welfare_of s t (i + 1) ≡ utility_of s i t (i + 1)
welfare-sold s i t sale h p =
    sum_to-single (agent_count s) i (λ j. utility_of s j t (i + 1)) h (λ j b d. (sale.sold i h).others j t b d p)

pub welfare-kept : (s : GeneralSetting) (t : List ℕ) → IsSale s → IsProfile (sizes_of s) t → welfare_of s t 0 ≡ pos 0
welfare-kept s t sale p = sum_to-zero (agent_count s) (λ j. utility_of s j t 0) (λ j b. sale.kept j t b p)

-- what an outcome is worth to the designer
pub value-sold : (s : GeneralSetting) (i : ℕ) (t : List ℕ) → IsSale s → i < agent_count s → IsProfile (sizes_of s) t → value_of s t (i + 1) ≡ number_at s.values (i + 1) +ℤ s.welfare *ℤ utility_of s i t (i + 1)
value-sold s i t sale h p = ap (λ z. number_at s.values (i + 1) +ℤ s.welfare *ℤ z) (welfare-sold s i t sale h p)

pub value-kept : (s : GeneralSetting) (t : List ℕ) → IsSale s → IsProfile (sizes_of s) t → value_of s t 0 ≡ number_at s.values 0
value-kept s t sale p =
    ap (λ z. number_at s.values 0 +ℤ s.welfare *ℤ z) (welfare-kept s t sale p)
    ∙ (let none : s.welfare *ℤ pos 0 ≡ pos 0 = *ℤ-zero s.welfare in omega (arith, linear, none))

pub surplus-is : (s : GeneralSetting) (i a : ℕ) → IsSale s → IsShaped s → i < agent_count s → a < slice_index (sizes_of s) i
    → value_of s (replaced (profile_at (sizes_of s) 0) i a) (i + 1) -ℤ value_of s (replaced (profile_at (sizes_of s) 0) i a) 0 ≡ surplus_of s i a
surplus-is s i a sale shaped h l =
    let t = replaced (profile_at (sizes_of s) 0) i a in
    let p = told-profile s i a shaped h l in
    ap₂ (λ y z. y -ℤ z) (value-sold s i t sale h p) (value-kept s t sale p)

pub surplus-within : (s : GeneralSetting) (i a : ℕ) → IsSale s → IsShaped s → i < agent_count s → a < slice_index (sizes_of s) i → IsWithin 11000000 (surplus_of s i a)
surplus-within s i a sale shaped h l =
    let t = replaced (profile_at (sizes_of s) 0) i a in
    let p = told-profile s i a shaped h l in
    subst (IsWithin 11000000) (surplus-is s i a sale shaped h l)
    (IsWithin-sub 10000000 1000000 (value_of s t (i + 1)) (value_of s t 0)
    (shaped.value t (i + 1) p (omega (arith, sale.one_more, h)))
    (subst (IsWithin 1000000) (sym (value-kept s t sale p)) (shaped.small.value 0)))

-- ---- the tests

-- what holds of all before a number and of the number holds of all up to it
pub one-more : (P : ℕ → Type 0) (n : ℕ) → ((k : ℕ) → k < n → P k) → P n → (k : ℕ) → k < n + 1 → P k
one-more P n h here k b = elim (cases_eq k n) [ inl e ↦ subst P (sym e) here | inr d ↦ h k (let below : k < n = omega (arith, b, d) in below) ]

utility-at : (s : GeneralSetting) (i o : ℕ) (t : List ℕ) → AreUtilities s → i < agent_count s → o < outcome_count s → IsProfile (sizes_of s) t → IsUtilityWhere (o == i + 1) s i t o
utility-at s i o t all h l p = by-rank (sizes_of s) (λ u. IsUtilityWhere (o == i + 1) s i u o) (λ r b. ((all.each r b).each o l).each i h) t p

own-at : (s : GeneralSetting) (i : ℕ) (t : List ℕ) → AreUtilities s → outcome_count s ≡ agent_count s + 1 → i < agent_count s → IsProfile (sizes_of s) t → HasOwnValue s i t
own-at s i t all more h p =
    subst (λ b. IsUtilityWhere b s i t (i + 1)) (eq-eqb (i + 1) (i + 1) refl) (utility-at s i (i + 1) t all h (omega (arith, more, h)) p)

none-at : (s : GeneralSetting) (i o : ℕ) (t : List ℕ) → AreUtilities s → i < agent_count s → o < outcome_count s → o ≢ i + 1 → IsProfile (sizes_of s) t → utility_of s i t o ≡ pos 0
none-at s i o t all h l away p = subst (λ b. IsUtilityWhere b s i t o) (ne_eqb o (i + 1) away) (utility-at s i o t all h l p)

pub kept-tested : (s : GeneralSetting) → AreUtilities s → outcome_count s ≡ agent_count s + 1 → (i : ℕ) (t : List ℕ) → i < agent_count s → IsProfile (sizes_of s) t → utility_of s i t 0 ≡ pos 0
kept-tested s all more i t h p = none-at s i 0 t all h (omega (arith, more)) (λ e. absurd (omega (arith, e))) p

pub sold-tested : (s : GeneralSetting) → AreUtilities s → outcome_count s ≡ agent_count s + 1 → (i : ℕ) → i < agent_count s → GoesTo s i
sold-tested s all more i h = record {
  nonneg = λ t p. (own-at s i t all more h p).0;
  own = λ t u p q e. (own-at s i t all more h p).1 ∙ ap (own_value s i) e ∙ sym ((own-at s i u all more h q).1);
  others = λ j t l d p. none-at s j (i + 1) t all l (omega (arith, more, h)) (λ e. d (let same : j ≡ i = omega (arith, e) in same)) p;
}

pub utilities-of_sale : (s : GeneralSetting) → IsSale s → IsShaped s → AreUtilities s
utilities-of_sale s sale shaped = record { each = λ r b. record { each = λ o l. record { each = λ i h. at r o i b l h } } }
  where
    at : (r o i : ℕ) → r < profile_count (sizes_of s) → o < outcome_count s → i < agent_count s → IsUtilityAt s r o i
    at r o i b l h = elim (cases_eq o (i + 1)) [
      | inl e ↦
          let p = profile_at-IsProfile (sizes_of s) r b in
          subst (λ v. IsUtilityWhere v s i (profile_at (sizes_of s) r) o) (sym (eq-eqb o (i + 1) e))
          ((sale.sold i h).nonneg (profile_at (sizes_of s) r) p, value-own s i (profile_at (sizes_of s) r) sale shaped h p)
      | inr d ↦ subst (λ v. IsUtilityWhere v s i (profile_at (sizes_of s) r) o) (sym (ne_eqb o (i + 1) d)) (utility-elsewhere s i o (profile_at (sizes_of s) r) sale h l d (profile_at-IsProfile (sizes_of s) r b))
    ]

pub outside-of_sale : (s : GeneralSetting) → IsSale s → HaveNothing s
outside-of_sale s sale = record { each = λ i h. record { each = λ a l. sale.outside i a h l } }

pub independent-of_sale : (s : GeneralSetting) → IsSale s → AreIndependent s
independent-of_sale s sale = record { each = λ r b. sale.independent (profile_at (sizes_of s) r) (profile_at-IsProfile (sizes_of s) r b) }

pub independent-tested : (s : GeneralSetting) → AreIndependent s → (t : List ℕ) → IsProfile (sizes_of s) t → IsIndependentAt s t
independent-tested s h = by-rank (sizes_of s) (IsIndependentAt s) h.each

-- ---- where an agent has the item, and where it has not

pub own-where : (s : GeneralSetting) (i : ℕ) (t : List ℕ) (o : ℕ) (r : Bool) → (o == i + 1) ≡ true → IsTrue r ↔ HasOwnValue s i t → IsTrue r ↔ IsUtilityWhere (o == i + 1) s i t o
own-where s i t o r e h = subst (λ b. IsTrue r ↔ IsUtilityWhere b s i t o) (sym e) h

pub none-where : (s : GeneralSetting) (i : ℕ) (t : List ℕ) (o : ℕ) (r : Bool) → (o == i + 1) ≡ false → IsTrue r ↔ (utility_of s i t o ≡ pos 0) → IsTrue r ↔ IsUtilityWhere (o == i + 1) s i t o
none-where s i t o r e h = subst (λ b. IsTrue r ↔ IsUtilityWhere b s i t o) (sym e) h

-- ---- all conditions

pub sale-tested : (s : GeneralSetting) → outcome_count s ≡ agent_count s + 1 → pairs_of s ≤ 12 → IsInterim s → IsPaid s → pos 0 ≤ℤ s.revenue → HaveNothing s → AreUtilities s → AreIndependent s → IsSale s
sale-tested s more few interim paid revenue outside utilities independent = record {
  one_more = more;
  kept = kept-tested s utilities more;
  sold = sold-tested s utilities more;
  interim = interim;
  outside = λ i a h l. (outside.each i h).each a l;
  paid = paid;
  revenue = revenue;
  few_types = few;
  independent = independent-tested s independent;
}
