-- A part of a list that is read, and one that is written anew: in a table, a part of a row.
use Rattle.std.proofs.Common.{◌≡◌, ℕ, ◌+◌, ◌-◌, ◌*◌, ◌^◌, ◌<◌, ◌≤◌, List, ◌++◌, length, take, drop, ℤ, pos, sym, ap, ◌∙◌, subst, inl, inr, arith, mul-le-mul_right}
use Rattle.std.proofs.lemmas.Bool.{cases_lt}
use Rattle.std.proofs.lemmas.List.{get_or-take, get_or-drop, get_or_append_left, get_or-append_right, length-take-le, length-append, length-drop}
use borrow.Rule.Slice.PartMut.{put_mid}
use Rattle.md_math.specs.Lists.{number_at}
use Rattle.md_math.specs.Sizes.{AllWithin, IsWithin}
use Rattle.md_math.proofs.SizeLaws.{AllWithin-number_at, AllWithin-wider}
use Rattle.md_dict.specs.declared.step.Step.{Step}
use Rattle.md_dict.specs.Step.{IsTable}
use Rattle.md_dict.specs.Fill.{Leaves}
use Rattle.md_dict.proofs.Writing.{row_before}

-- ---- a part of a list

-- the number at a place of a part
pub in_part : (xs : List ℤ) (from to k : ℕ) → k < to - from → number_at (take (to - from) (drop from xs)) k ≡ number_at xs (from + k)
in_part xs from to k b = get_or-take (to - from) (drop from xs) k (pos 0) b ∙ get_or-drop from xs k (pos 0)

pub length_part : (xs : List ℤ) (from to : ℕ) → from ≤ to → to ≤ length xs → length (take (to - from) (drop from xs)) ≡ to - from
length_part xs from to a b = length-take-le (to - from) (drop from xs) (omega (arith, length-drop from xs))

-- the part is written anew: places before it, in it and behind it
pub before_part : (a k i : ℕ) (xs ys : List ℤ) → a ≤ length xs → i < a → number_at (put_mid a k xs ys) i ≡ number_at xs i
before_part a k i xs ys l b = get_or_append_left (take a xs) _ (pos 0) i (omega (arith, length-take-le a xs l)) ∙ get_or-take a xs i (pos 0) b

pub within_part : (a k i : ℕ) (xs ys : List ℤ) → a ≤ length xs → i < length ys → number_at (put_mid a k xs ys) (a + i) ≡ number_at ys i
within_part a k i xs ys l b =
    get_or-append_right (take a xs) _ a (a + i) (pos 0) (length-take-le a xs l) (omega arith)
    ∙ ap (λ j. number_at (ys ++ drop k (drop a xs)) j) (let e : a + i - a ≡ i = omega arith in e)
    ∙ get_or_append_left ys (drop k (drop a xs)) (pos 0) i b

pub behind_part : (a k i : ℕ) (xs ys : List ℤ) → a ≤ length xs → length ys ≡ k → a + k ≤ i → number_at (put_mid a k xs ys) i ≡ number_at xs i
behind_part a k i xs ys l e b =
    get_or-append_right (take a xs) _ a i (pos 0) (length-take-le a xs l) (omega arith)
    ∙ get_or-append_right ys (drop k (drop a xs)) k (i - a) (pos 0) e (omega arith)
    ∙ get_or-drop k (drop a xs) (i - a - k) (pos 0)
    ∙ get_or-drop a xs (k + (i - a - k)) (pos 0)
    ∙ ap (number_at xs) (let same : a + (k + (i - a - k)) ≡ i = omega arith in same)

pub length_put : (a k : ℕ) (xs ys : List ℤ) → a + k ≤ length xs → length ys ≡ k → length (put_mid a k xs ys) ≡ length xs
length_put a k xs ys l e =
    let front : length (take a xs) ≡ a = length-take-le a xs (omega arith) in
    let whole : length (put_mid a k xs ys) ≡ length (take a xs) + length (ys ++ drop k (drop a xs)) = length-append (take a xs) (ys ++ drop k (drop a xs)) in
    let rest : length (ys ++ drop k (drop a xs)) ≡ length ys + length (drop k (drop a xs)) = length-append ys (drop k (drop a xs)) in
    let behind : length (drop k (drop a xs)) ≡ length (drop a xs) - k = length-drop k (drop a xs) in
    let from : length (drop a xs) ≡ length xs - a = length-drop a xs in
    omega (arith, front, whole, rest, behind, from)

pub AllWithin-put : (limit a k : ℕ) (xs ys : List ℤ) → a + k ≤ length xs → length ys ≡ k → AllWithin limit xs → AllWithin limit ys → AllWithin limit (put_mid a k xs ys)
AllWithin-put limit a k xs ys l e h w = record {
  at = λ i _.
      elim (cases_lt i a) [
        | inl b ↦ subst (IsWithin limit) (sym (before_part a k i xs ys (omega arith) b)) (AllWithin-number_at limit xs i h)
        | inr b ↦
            elim (cases_lt i (a + k)) [
              | inl c ↦
                  let same : a + (i - a) ≡ i = omega arith in
                  subst (λ j. IsWithin limit (number_at (put_mid a k xs ys) j)) same (subst (IsWithin limit) (sym (within_part a k (i - a) xs ys (omega arith) (omega arith))) (AllWithin-number_at limit ys (i - a) w))
              | inr c ↦ subst (IsWithin limit) (sym (behind_part a k i xs ys (omega arith) e c)) (AllWithin-number_at limit xs i h)
            ]
      ];
}

pub AllWithin-part : (limit : ℕ) (xs : List ℤ) (from to : ℕ) → from ≤ to → to ≤ length xs → ((k : ℕ) → k < to - from → IsWithin limit (number_at xs (from + k))) → AllWithin limit (take (to - from) (drop from xs))
AllWithin-part limit xs from to a b h = record {
  at = λ k l. let inside : k < to - from = omega (arith, length_part xs from to a b) in subst (IsWithin limit) (sym (in_part xs from to k inside)) (h k inside);
}

-- ---- a part of a row

-- the end of a part of a row is within the table
pub end_inside : (w i to rows : ℕ) → i < rows → to ≤ w → i * w + to ≤ rows * w
end_inside w i to rows a b = let le : (i + 1) * w ≤ rows * w = mul-le-mul_right w (omega arith) in omega (arith, le)

-- what is written for a part of a row is as long as the part, which is within the table
pub record IsPart (w i from to rows : ℕ) (fresh new : List ℤ) : Type 0 where
  pub inside : i * w + to ≤ length fresh
  pub long : length new ≡ i * w + to - (i * w + from)

pub is_part : (w i from to rows : ℕ) (fresh new : List ℤ) → i < rows → from ≤ to → to ≤ w → length fresh ≡ rows * w → length new ≡ length (take (i * w + to - (i * w + from)) (drop (i * w + from) fresh)) → IsPart w i from to rows fresh new
is_part w i from to rows fresh new a b l e same =
    let inside : i * w + to ≤ length fresh = omega (arith, end_inside w i to rows a l, e) in
    record { inside = inside; long = same ∙ length_part fresh (i * w + from) (i * w + to) (omega arith) inside }

-- the other rows stay
pub Leaves-part : (step : Step) (i a k : ℕ) (fresh ys : List ℤ) → i * (step.columns + 1) ≤ a → a + k ≤ i * (step.columns + 1) + (step.columns + 1) → a + k ≤ length fresh → length ys ≡ k → Leaves step i fresh (put_mid a k fresh ys)
Leaves-part step i a k fresh ys first last inside e = record {
  others = λ j s o l.
      elim (cases_lt j i) [
        | inl less ↦ before_part a k (j * (step.columns + 1) + s) fresh ys (omega arith) (let before : j * (step.columns + 1) + s < i * (step.columns + 1) + 0 = row_before (step.columns + 1) j s i 0 l less in omega (arith, first, before))
        | inr le ↦
            let next : (i + 1) * (step.columns + 1) ≤ j * (step.columns + 1) = mul-le-mul_right (step.columns + 1) (omega arith) in
            behind_part a k (j * (step.columns + 1) + s) fresh ys (omega arith) e (omega (arith, last, next))
      ];
}

pub IsTable-part : (step : Step) (fresh ys : List ℤ) (a k : ℕ) → a + k ≤ length fresh → length ys ≡ k → AllWithin step.limit ys → IsTable step fresh → IsTable step (put_mid a k fresh ys)
IsTable-part step fresh ys a k l e w h = record {
  row_limit = h.row_limit;
  column_limit = h.column_limit;
  row_in = h.row_in;
  place_in = h.place_in;
  limit_size = h.limit_size;
  kept_length = length_put a k fresh ys l e ∙ h.kept_length;
  kept_size = AllWithin-wider step.limit (2 ^ 62) _ h.limit_size within;
  kept_limit = within;
  den_size = h.den_size;
  pivot_size = h.pivot_size;
  den_positive = h.den_positive;
  pivot_positive = h.pivot_positive;
}
  where
    within : AllWithin step.limit (put_mid a k fresh ys)
    within = AllWithin-put step.limit a k fresh ys l e h.kept_limit w
