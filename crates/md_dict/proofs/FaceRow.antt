-- The face row of the first dictionary, summed up row by row.
use Rattle.std.proofs.Common.{◌≡◌, ℕ, ◌+◌, ◌*◌, ◌^◌, ◌<◌, ◌≤◌, List, [], ◌++◌, length, set, take, drop, sym, ap, ◌∙◌, inl, inr, arith, ℤ, pos, neg_ℤ, ◌+ℤ◌, ◌-ℤ◌, subst, FitsSigned, length-set, get_or-set_same, get_or-set_other}
use Rattle.std.proofs.lemmas.Bool.{cases_eq}
use Rattle.std.proofs.lemmas.Int.{fits_signed_from_abs}
use Rattle.std.proofs.lemmas.List.{append-nil, drop_all, take_all}
use mir.Syntax.{w64}
use Rattle.md_math.specs.Lists.{number_at}
use Rattle.md_math.specs.Sizes.{IsWithin}
use Rattle.md_math.specs.Sums.{sum_to}
use Rattle.md_math.proofs.Ring.{linear}
use Rattle.md_math.proofs.SizeLaws.{IsWithin-sub, IsWithin-wider}
use Rattle.md_math.proofs.SumLaws.{sum_to-more}
use Rattle.md_lp.specs.Program.{Program, row_count}
use Rattle.md_dict.specs.FirstTable.{column_count, first_number}
use Rattle.md_dict.specs.Start.{IsBuilt}
use Rattle.md_dict.proofs.Building.{face_is}
use Rattle.md_dict.proofs.FirstRows.{IsBuilt-append}
use Rattle.md_dict.proofs.Writing.{place_inside}

-- ---- one row

-- a sum less a number of a program row
pub difference_small : (x y : ℤ) → IsWithin (2 ^ 60) x → IsWithin (2 ^ 44) y → IsWithin (2 ^ 62) (x -ℤ y)
difference_small x y h k = IsWithin-wider (2 ^ 60 + 2 ^ 44) (2 ^ 62) (x -ℤ y) (omega arith) (IsWithin-sub (2 ^ 60) (2 ^ 44) x y h k)

pub difference_fits : (x y : ℤ) → IsWithin (2 ^ 60) x → IsWithin (2 ^ 44) y → FitsSigned w64 (x -ℤ y)
difference_fits x y h k = let small : IsWithin (2 ^ 62) (x -ℤ y) = difference_small x y h k in fits_signed_from_abs w64 (x -ℤ y) (omega (arith, small.within))

-- the first n sums are less by the numbers that begin at a place of the table
pub record AreLess (kept : List ℤ) (start n : ℕ) (old new : List ℤ) : Type 0 where
  pub same : length new ≡ length old
  pub less : (s : ℕ) → s < n → s < length old → number_at new s ≡ number_at old s -ℤ number_at kept (start + s)
  pub rest : (s : ℕ) → n ≤ s → number_at new s ≡ number_at old s

pub AreLess-more : (kept : List ℤ) (start n : ℕ) (old new : List ℤ) (x : ℤ) → AreLess kept start n old new → n < length old → x ≡ number_at new n -ℤ number_at kept (start + n) → AreLess kept start (n + 1) old (set new n x)
AreLess-more kept start n old new x h b e = record {
  same = length-set new n x ∙ h.same;
  less = λ s a c.
      elim (cases_eq s n) [
        | inl f ↦
            let here : number_at (set new n x) n ≡ x = get_or-set_same new n x (pos 0) (omega (arith, h.same)) in
            let before : number_at new n ≡ number_at old n = h.rest n (omega arith) in
            ap (number_at (set new n x)) f ∙ here ∙ e ∙ ap (λ y. y -ℤ number_at kept (start + n)) before ∙ ap (λ m. number_at old m -ℤ number_at kept (start + m)) (sym f)
        | inr f ↦ get_or-set_other new n s x (pos 0) f ∙ h.less s (omega arith) c
      ];
  rest = λ s a. get_or-set_other new n s x (pos 0) (λ f. omega arith) ∙ h.rest s (omega arith);
}

-- ---- all rows

-- the list is minus the sum of the first n rows of the table
pub record IsMinusSum (kept : List ℤ) (stride n : ℕ) (face : List ℤ) : Type 0 where
  pub long : length face ≡ stride
  pub sums : (s : ℕ) → s < stride → number_at face s ≡ neg_ℤ (sum_to n (λ r. number_at kept (r * stride + s)))
  pub sizes : (s : ℕ) → s < stride → IsWithin (n * 2 ^ 44) (number_at face s)

pub IsMinusSum-more : (kept : List ℤ) (stride n : ℕ) (old new : List ℤ) → IsMinusSum kept stride n old → length new ≡ length old → ((s : ℕ) → s < length old → number_at new s ≡ number_at old s -ℤ number_at kept (n * stride + s)) → ((s : ℕ) → s < stride → IsWithin (2 ^ 44) (number_at kept (n * stride + s))) → IsMinusSum kept stride (n + 1) new
IsMinusSum-more kept stride n old new h e v w = record {
  long = e ∙ h.long;
  sums = λ s b.
      let less : number_at new s ≡ number_at old s -ℤ number_at kept (n * stride + s) = v s (omega (arith, h.long)) in
      let before : number_at old s ≡ neg_ℤ (sum_to n (λ r. number_at kept (r * stride + s))) = h.sums s b in
      let more : sum_to (n + 1) (λ r. number_at kept (r * stride + s)) ≡ sum_to n (λ r. number_at kept (r * stride + s)) +ℤ number_at kept (n * stride + s) = sum_to-more n (λ r. number_at kept (r * stride + s)) in
      omega (arith, linear);
  sizes = λ s b.
      let less : number_at new s ≡ number_at old s -ℤ number_at kept (n * stride + s) = v s (omega (arith, h.long)) in
      let size : IsWithin (n * 2 ^ 44 + 2 ^ 44) (number_at old s -ℤ number_at kept (n * stride + s)) = IsWithin-sub (n * 2 ^ 44) (2 ^ 44) _ _ (h.sizes s b) (w s b) in
      IsWithin-wider (n * 2 ^ 44 + 2 ^ 44) ((n + 1) * 2 ^ 44) (number_at new s) (omega arith) (subst (IsWithin (n * 2 ^ 44 + 2 ^ 44)) (sym less) size);
}

-- the numbers of a row that is built
pub row_small : (kept : List ℤ) (stride rows n : ℕ) → n < rows → ((k : ℕ) → k < rows * stride → IsWithin (2 ^ 44) (number_at kept k)) → (s : ℕ) → s < stride → IsWithin (2 ^ 44) (number_at kept (n * stride + s))
row_small kept stride rows n b h s c = h (n * stride + s) (place_inside stride n s rows c b)

-- a list that was lent whole, and is written back
pub written_back : (n : ℕ) (new old : List ℤ) → length new ≡ n → length old ≡ n → take n (new ++ drop (length new) old) ≡ new
written_back n new old e f =
    let none : drop (length new) old ≡ [] = drop_all (length new) old (omega arith) in
    ap (λ ys. take n (new ++ ys)) none ∙ ap (take n) (append-nil new) ∙ take_all n new (omega arith)

-- ---- the table

-- the face row stands after the program rows
pub with_face : (p : Program) (kept face : List ℤ) → IsBuilt p kept → length kept ≡ row_count p * (column_count p + 1) → length face ≡ column_count p + 1 → ((s : ℕ) → s < column_count p + 1 → number_at face s ≡ neg_ℤ (sum_to (row_count p) (λ r. number_at kept (r * (column_count p + 1) + s)))) → IsBuilt p (kept ++ face)
with_face p kept face h e l v =
    IsBuilt-append p kept face (row_count p) 0 h (omega arith) (omega arith)
    (λ s b. v s (omega arith) ∙ face_is p kept s h (omega arith) (omega arith) ∙ ap (λ t. first_number p (row_count p) t) {x = s} (omega arith))
    (λ b. absurd (omega arith))
