-- The steps by which gains and their parts are reckoned, at 64 bits.
use Rattle.std.proofs.Common.{◌≡◌, ℕ, suc, ◌+◌, ◌*◌, ◌^◌, ◌<◌, ◌≤◌, ℤ, pos, ◌+ℤ◌, ◌-ℤ◌, ◌*ℤ◌, List, length, map, to_z, of_z, sym, ap, ap₂, ◌∙◌, arith, lit<}
use Rattle.std.proofs.lemmas.List.{length-map, get_or-map, get_or_past}
use lib.Signed.{mag}
use mir.Syntax.{w64}
use Rattle.md_math.specs.Lists.{number_at}
use Rattle.md_math.specs.Sizes.{IsWithin}
use Rattle.md_math.proofs.Ring.{linear, zero-*ℤ}
use Rattle.md_math.proofs.SizeLaws.{IsWithin-sub}
use Rattle.md_setting.specs.Grouped.{GroupedAuction, group_at}
use Rattle.md_setting.specs.GroupedShaped.{IsGroupedAuction}
use Rattle.md_list.specs.Gains.{weight_in, weight_from, gain_of, benefit_of}
use Rattle.md_list.specs.ByRule.{sums_of}
use Rattle.md_list_gains.specs.Surplus.{surplus_of, paid_from}
use Rattle.md_list_gains.proofs.Shorts.{IsShort, read-short, short-of, short-within, short-both}
use Rattle.md_list_gains.proofs.GroupSizes.{value-within, weight-within, worth-within, surplus-within, own-within, benefit-within, weights-within, benefits-within, gain-within, gains-within, paid-within, step-within, revenues-within, total-is}

abbrev pub back : ℤ → ℤ
back x = to_z w64 (of_z w64 x)

module _ (a : GroupedAuction) (k : ℕ) (shaped : IsGroupedAuction a) (inside : k < length a.groups) where
  value-short : (v : ℕ) (xs : List ℤ) → xs ≡ (group_at a k).values → IsShort (number_at xs v) (number_at (group_at a k).values v)
  value-short v xs e = short-within 1000000 _ _ (ap (λ ys. number_at ys v) e) (value-within a k shaped inside v) (lit< tt)

  -- ---- products with a value

  pub benefit-short : (v : ℕ) (w : ℤ) (xs : List ℤ) → mag w < 2 ^ 63 → w ≡ weight_in (group_at a k) v → xs ≡ (group_at a k).values
      → IsShort (back w *ℤ back (number_at xs v)) (benefit_of (group_at a k) v)
  benefit-short v w xs fits is e =
      short-both (λ x y. x *ℤ y) (1000000 * 1000000) w (number_at xs v) (weight_in (group_at a k) v) (number_at (group_at a k).values v)
      (short-of w (weight_in (group_at a k) v) fits is) (value-short v xs e) (benefit-within a k shaped inside v) (lit< tt)

  pub paid-short : (v : ℕ) (w : ℤ) (xs : List ℤ) → v ≤ length (group_at a k).values → mag w < 2 ^ 63 → w ≡ weight_from (group_at a k) v → xs ≡ (group_at a k).values
      → IsShort (back (number_at xs v) *ℤ back w) (paid_from (group_at a k) v)
  paid-short v w xs b fits is e =
      short-both (λ x y. x *ℤ y) (1000000 * (64 * 1000000)) (number_at xs v) w (number_at (group_at a k).values v) (weight_from (group_at a k) v)
      (value-short v xs e) (short-of w (weight_from (group_at a k) v) fits is) (paid-within a k shaped inside v b) (lit< tt)

  -- behind the last value there is none
  pub paid-none : (v : ℕ) → length (group_at a k).values ≤ v → pos 0 ≡ paid_from (group_at a k) v
  paid-none v b = sym (ap (λ z. z *ℤ weight_from (group_at a k) v) (get_or_past (group_at a k).values v (pos 0) b) ∙ zero-*ℤ (weight_from (group_at a k) v))

  -- ---- surpluses

  pub welfare-short : (v : ℕ) (f : ℤ) (xs : List ℤ) → mag f < 2 ^ 63 → f ≡ a.welfare → xs ≡ (group_at a k).values
      → IsShort (back f *ℤ back (number_at xs v)) (a.welfare *ℤ number_at (group_at a k).values v)
  welfare-short v f xs fits is e =
      short-both (λ x y. x *ℤ y) 10000000 f (number_at xs v) a.welfare (number_at (group_at a k).values v) (short-of f a.welfare fits is) (value-short v xs e) ((shaped.small k inside).gain v) (lit< tt)

  pub worth-short : (v : ℕ) (f : ℤ) (xs : List ℤ) (w : ℤ) → mag f < 2 ^ 63 → f ≡ a.welfare → xs ≡ (group_at a k).values → mag w < 2 ^ 63 → w ≡ (group_at a k).worth
      → IsShort (back (back f *ℤ back (number_at xs v)) +ℤ back w) (a.welfare *ℤ number_at (group_at a k).values v +ℤ (group_at a k).worth)
  worth-short v f xs w fits is e short same =
      short-both (λ x y. x +ℤ y) 11000000 (back f *ℤ back (number_at xs v)) w (a.welfare *ℤ number_at (group_at a k).values v) (group_at a k).worth
      (welfare-short v f xs fits is e) (short-of w (group_at a k).worth short same) (worth-within a k shaped inside v) (lit< tt)

  pub surplus-short : (v : ℕ) (f : ℤ) (xs : List ℤ) (w h : ℤ) → mag f < 2 ^ 63 → f ≡ a.welfare → xs ≡ (group_at a k).values → mag w < 2 ^ 63 → w ≡ (group_at a k).worth
      → mag h < 2 ^ 63 → h ≡ a.keep → IsShort (back (back (back f *ℤ back (number_at xs v)) +ℤ back w) -ℤ back h) (surplus_of a (group_at a k) v)
  surplus-short v f xs w h fits is e short same brief kept =
      short-both (λ x y. x -ℤ y) 12000000 (back (back f *ℤ back (number_at xs v)) +ℤ back w) h (a.welfare *ℤ number_at (group_at a k).values v +ℤ (group_at a k).worth) a.keep
      (worth-short v f xs w fits is e short same) (short-of h a.keep brief kept) (surplus-within a k shaped inside v) (lit< tt)

  pub own-short : (v : ℕ) (w s : ℤ) → mag w < 2 ^ 63 → w ≡ weight_in (group_at a k) v → mag s < 2 ^ 63 → s ≡ surplus_of a (group_at a k) v
      → IsShort (back w *ℤ back s) (weight_in (group_at a k) v *ℤ surplus_of a (group_at a k) v)
  own-short v w s fits is short same =
      short-both (λ x y. x *ℤ y) (1000000 * 12000000) w s (weight_in (group_at a k) v) (surplus_of a (group_at a k) v) (short-of w _ fits is) (short-of s _ short same) (own-within a k shaped inside v) (lit< tt)

  -- ---- gains

  module _ (v : ℕ) (b : v < length (group_at a k).values) (r p q : ℤ) (long : mag r < 2 ^ 63) (is : r ≡ a.revenue) (fits : mag p < 2 ^ 63) (here : p ≡ paid_from (group_at a k) v) (short : mag q < 2 ^ 63) (next : q ≡ paid_from (group_at a k) (v + 1)) where
    above : q ≡ paid_from (group_at a k) (suc v)
    above = next ∙ ap (λ n. paid_from (group_at a k) n) (more v)
      where
        more : (n : ℕ) → n + 1 ≡ suc n
        more n = omega arith

    pub step-short : IsShort (back p -ℤ back q) (paid_from (group_at a k) v -ℤ paid_from (group_at a k) (suc v))
    step-short =
        short-both (λ x y. x -ℤ y) (128 * 1000000000000) p q (paid_from (group_at a k) v) (paid_from (group_at a k) (suc v)) (short-of p _ fits here) (short-of q _ short above)
        (step-within a k shaped inside v (suc v) (omega (arith, b)) (omega (arith, b))) (lit< tt)

    pub revenue-short : IsShort (back r *ℤ back (back p -ℤ back q)) (a.revenue *ℤ (paid_from (group_at a k) v -ℤ paid_from (group_at a k) (suc v)))
    revenue-short =
        short-both (λ x y. x *ℤ y) (1000 * (128 * 1000000000000)) r (back p -ℤ back q) a.revenue (paid_from (group_at a k) v -ℤ paid_from (group_at a k) (suc v)) (short-of r _ long is) step-short
        (revenues-within a k shaped inside v (suc v) (omega (arith, b)) (omega (arith, b))) (lit< tt)

    pub gain-short : (o : ℤ) → mag o < 2 ^ 63 → o ≡ weight_in (group_at a k) v *ℤ surplus_of a (group_at a k) v
        → IsShort (back o +ℤ back (back r *ℤ back (back p -ℤ back q))) (gain_of a (group_at a k) v)
    gain-short o brief own =
        short-both (λ x y. x +ℤ y) (2 ^ 57) o (back r *ℤ back (back p -ℤ back q)) (weight_in (group_at a k) v *ℤ surplus_of a (group_at a k) v) (a.revenue *ℤ (paid_from (group_at a k) v -ℤ paid_from (group_at a k) (suc v)))
        (short-of o _ brief own) revenue-short (gain-within a k shaped inside v b) (lit< tt)

  -- ---- one value more

  module _ (v : ℕ) (b : v < length (group_at a k).values) (s x : ℤ) (short : mag x < 2 ^ 63) where
    pub weights-short : s ≡ sums_of (weight_in (group_at a k)) v → x ≡ weight_in (group_at a k) v → IsShort (back s +ℤ back x) (sums_of (weight_in (group_at a k)) (suc v))
    weights-short is same =
        short-both (λ y z. y +ℤ z) (64 * 1000000) s x (sums_of (weight_in (group_at a k)) v) (weight_in (group_at a k) v)
        (short-within (64 * 1000000) s _ is (weights-within a k shaped inside v (omega (arith, b))) (lit< tt)) (short-of x _ short same) (weights-within a k shaped inside (suc v) (omega (arith, b))) (lit< tt)

    pub gains-short : s ≡ sums_of (gain_of a (group_at a k)) v → x ≡ gain_of a (group_at a k) v → IsShort (back s +ℤ back x) (sums_of (gain_of a (group_at a k)) (suc v))
    gains-short is same =
        short-both (λ y z. y +ℤ z) (2 ^ 57) s x (sums_of (gain_of a (group_at a k)) v) (gain_of a (group_at a k) v)
        (short-within (2 ^ 57) s _ is (gains-within a k shaped inside v (omega (arith, b))) (lit< tt)) (short-of x _ short same) (gains-within a k shaped inside (suc v) (omega (arith, b))) (lit< tt)

    pub benefits-short : s ≡ sums_of (benefit_of (group_at a k)) v → x ≡ benefit_of (group_at a k) v → IsShort (back s +ℤ back x) (sums_of (benefit_of (group_at a k)) (suc v))
    benefits-short is same =
        short-both (λ y z. y +ℤ z) (64 * (1000000 * 1000000)) s x (sums_of (benefit_of (group_at a k)) v) (benefit_of (group_at a k) v)
        (short-within (64 * (1000000 * 1000000)) s _ is (benefits-within a k shaped inside v (omega (arith, b))) (lit< tt)) (short-of x _ short same) (benefits-within a k shaped inside (suc v) (omega (arith, b))) (lit< tt)

  -- ---- the weights from a value on

  pub weights-is : (ws : List ℤ) → ws ≡ map pos (group_at a k).weights → length ws ≡ length (group_at a k).values
  weights-is ws e = ap length e ∙ length-map (group_at a k).weights pos ∙ (shaped.ordered.group k inside).one_each

  weight-is : (ws : List ℤ) (v : ℕ) → ws ≡ map pos (group_at a k).weights → v < length ws → number_at ws v ≡ weight_in (group_at a k) v
  weight-is ws v e b =
      ap (λ xs. number_at xs v) e ∙ get_or-map pos (group_at a k).weights v 0 (pos 0) (omega (arith, b, weights-is ws e, (shaped.ordered.group k inside).one_each))

  abbrev pub weights_between : ℕ → ℕ → ℤ
  weights_between v x = sums_of (weight_in (group_at a k)) x -ℤ sums_of (weight_in (group_at a k)) v

  pub from-start : (v : ℕ) → pos 0 ≡ weights_between v v
  from-start v = omega (arith, linear)

  pub between-within : (v x : ℕ) → v ≤ length (group_at a k).values → x ≤ length (group_at a k).values → IsWithin (64 * 1000000 + 64 * 1000000) (weights_between v x)
  between-within v x b c = IsWithin-sub (64 * 1000000) (64 * 1000000) (sums_of (weight_in (group_at a k)) x) (sums_of (weight_in (group_at a k)) v) (weights-within a k shaped inside x c) (weights-within a k shaped inside v b)

  pub from-more : (ws : List ℤ) (v x : ℕ) (s : ℤ) → ws ≡ map pos (group_at a k).weights → v ≤ length (group_at a k).values → x < length ws → s ≡ weights_between v x
      → IsShort (s +ℤ back (number_at ws x)) (weights_between v (x + 1))
  from-more ws v x s e b c is =
      let inner : x < length (group_at a k).values = omega (arith, c, weights-is ws e) in
      let after : suc x ≡ x + 1 = omega arith in
      let same : weights_between v x +ℤ weight_in (group_at a k) x ≡ weights_between v (suc x) = omega (arith, linear) in
      short-within (64 * 1000000 + 64 * 1000000) (s +ℤ back (number_at ws x)) (weights_between v (x + 1))
      (ap₂ (λ y z. y +ℤ z) is (read-short _ _ (short-within 1000000 (number_at ws x) _ (weight-is ws x e c) (weight-within a k shaped inside x) (lit< tt))) ∙ same ∙ ap (λ n. weights_between v n) after)
      (between-within v (x + 1) b (omega (arith, inner))) (lit< tt)

  pub from-end : (ws : List ℤ) (v x : ℕ) (s : ℤ) → ws ≡ map pos (group_at a k).weights → x ≡ length ws → s ≡ weights_between v x → s ≡ weight_from (group_at a k) v
  from-end ws v x s e end is =
      is ∙ ap (λ n. weights_between v n) (end ∙ weights-is ws e) ∙ ap (λ z. z -ℤ sums_of (weight_in (group_at a k)) v) (sym (total-is a k shaped inside))
