-- Rows over denominators of their own: the numbers that they have over the denominator of all rows, and their sizes.
use Rattle.std.proofs.Common.{◌≡◌, ℕ, zero, suc, ◌+◌, ◌*◌, ◌^◌, ◌<◌, ◌≤◌, List, [], ◌∷◌, ◌++◌, length, replicate, All, ℤ, pos, ◌*ℤ◌, ◌<ℤ◌, unsigned_abs, inl, inr, sym, ap, ◌∙◌, subst, arith, mul-le-mul, mul-le-mul_right, append_assoc, append-nil}
use Rattle.std.proofs.lemmas.Bool.{cases_lt}
use Rattle.std.proofs.lemmas.Int.{ints, unsigned_abs-mul}
use Rattle.std.proofs.lemmas.List.{get_or_append_left, get_or_push, get_or-replicate, length-replicate}
use Rattle.std.proofs.Math.Nat as NatL
use lib.IntN.{*ℤ_comm}
use Rattle.md_math.specs.Lists.{list_to, number_at, up_to}
use Rattle.md_math.specs.Sizes.{IsWithin, AllWithin}
use Rattle.md_math.proofs.Builders.{length-list_to, length-up_to, list_to-more, list_to-same, list_to-get_or, up_to-same, get_or-list_to, get_or-up_to, All-list_to, All-up_to}
use Rattle.md_math.proofs.Order.{positive_from_*ℤ}
use Rattle.md_math.proofs.Ring.{zero-*ℤ, one-*ℤ}
use Rattle.md_math.proofs.SizeLaws.{AllWithin-number_at, IsWithin-zero}
use Rattle.md_dict.specs.declared.rows.Rows.{Rows}
use Rattle.md_dict.specs.Rows.{own_den, own_number, share_of, size_of, kept_of, AreRows}
use Rattle.md_dict_rows.specs.LeastRows.{IsRowSize, IsLeastRow}

-- ---- the numbers over the denominator of all rows

-- a row's numbers over the denominator of all rows
abbrev row_of : Rows → ℕ → List ℤ
row_of rows i = list_to rows.width (λ s. share_of rows i *ℤ own_number rows i s)

-- the number at a row and a place
pub kept_at : (n i s : ℕ) (rows : Rows) → i < n → s < rows.width → number_at (kept_of n rows) (i * rows.width + s) ≡ share_of rows i *ℤ own_number rows i s
kept_at n i s rows a b =
    get_or-up_to n rows.width i s (row_of rows) (pos 0) (λ k _. length-list_to rows.width (λ t. share_of rows k *ℤ own_number rows k t)) a b
    ∙ get_or-list_to rows.width (λ t. share_of rows i *ℤ own_number rows i t) s (pos 0) b

pub length-kept_of : (n : ℕ) (rows : Rows) → length (kept_of n rows) ≡ n * rows.width
length-kept_of n rows = length-up_to n rows.width (row_of rows) (λ k _. length-list_to rows.width (λ t. share_of rows k *ℤ own_number rows k t))

-- all of them are within a limit where each is
pub AllWithin-kept_of : (limit n : ℕ) (rows : Rows) → ((i s : ℕ) → i < n → s < rows.width → IsWithin limit (share_of rows i *ℤ own_number rows i s)) → AllWithin limit (kept_of n rows)
AllWithin-kept_of limit n rows h = record { at = λ k b. all k (pos 0) b }
  where
    all : All (IsWithin limit) (kept_of n rows)
    all = All-up_to (IsWithin limit) n (row_of rows) (λ i a. All-list_to (IsWithin limit) rows.width (λ s. share_of rows i *ℤ own_number rows i s) (λ s b. h i s a b))

-- and each is where all are
pub kept_within : (limit n : ℕ) (rows : Rows) → AllWithin limit (kept_of n rows) → (i s : ℕ) → i < n → s < rows.width → IsWithin limit (share_of rows i *ℤ own_number rows i s)
kept_within limit n rows h i s a b = subst (IsWithin limit) (kept_at n i s rows a b) (AllWithin-number_at limit (kept_of n rows) (i * rows.width + s) h)

-- ---- shares

-- a share is positive, since both denominators are
pub positive_share : (share own den : ℤ) → share *ℤ own ≡ den → pos 0 <ℤ den → pos 0 <ℤ own → pos 0 <ℤ share
positive_share share own den e p q = positive_from_*ℤ own share q (subst (λ z. pos 0 <ℤ z) (sym e ∙ *ℤ_comm share own) p)

-- a number is no larger than its product with a share
pub size_by_share : (share x : ℤ) → pos 0 <ℤ share → unsigned_abs x ≤ unsigned_abs (share *ℤ x)
size_by_share share x p =
    let more : 1 * unsigned_abs x ≤ unsigned_abs share * unsigned_abs x = mul-le-mul_right (unsigned_abs x) (omega (arith, ints)) in
    omega (arith, unsigned_abs-mul share x, more)

-- so that it is within each limit that the product is within
pub within_by_share : (limit : ℕ) (share x : ℤ) → IsWithin limit (share *ℤ x) → pos 0 <ℤ share → IsWithin limit x
within_by_share limit share x h p = record { within = omega (arith, size_by_share share x p, h.within) }

-- a product is within a limit where the greatest of the row's sizes times the share is
pub within_by_size : (limit : ℕ) (width : ℕ) (f : ℕ → ℤ) (size share : ℤ) → IsRowSize width f size → IsWithin limit (share *ℤ size) → (s : ℕ) → s < width → IsWithin limit (share *ℤ f s)
within_by_size limit width f size share r h s b =
    let less : unsigned_abs (f s) ≤ unsigned_abs size = (r.bound s b).within in
    let more : unsigned_abs share * unsigned_abs (f s) ≤ unsigned_abs share * unsigned_abs size = mul-le-mul (let same : unsigned_abs share ≤ unsigned_abs share = omega arith in same) less in
    record { within = omega (arith, more, unsigned_abs-mul share size, unsigned_abs-mul share (f s), h.within) }

-- and the other way round: the greatest size is 0, or one of the row's numbers has it
pub size_reached : (limit : ℕ) (width : ℕ) (f : ℕ → ℤ) (size share : ℤ) → IsRowSize width f size → ((s : ℕ) → s < width → IsWithin limit (share *ℤ f s)) → IsWithin limit (share *ℤ size)
size_reached limit width f size share r h =
    elim r.reached [
      | inl e ↦ subst (IsWithin limit) (sym (ap (λ z. share *ℤ z) e ∙ *ℤ_comm share (pos 0) ∙ zero-*ℤ share)) (IsWithin-zero limit)
      | inr (s, b, e) ↦
          let same : unsigned_abs share * unsigned_abs (f s) ≡ unsigned_abs share * unsigned_abs size = ap (λ n. unsigned_abs share * n) e in
          record { within = omega (arith, same, unsigned_abs-mul share size, unsigned_abs-mul share (f s), (h s b).within) }
    ]

-- ---- rows that are read from a list of numbers

-- a list of places in two parts
pub list_to-join : {X : Type 0} → (a b : ℕ) (f : ℕ → X) → list_to (a + b) f ≡ list_to a f ++ list_to b (λ s. f (a + s))
list_to-join a zero f = (let e : a + 0 ≡ a = omega arith in ap (λ n. list_to n f) e) ∙ sym (append-nil (list_to a f))
list_to-join a (suc b) f =
    (let e : a + suc b ≡ a + b + 1 = omega arith in ap (λ n. list_to n f) e)
    ∙ list_to-more (a + b) f
    ∙ ap (λ xs. xs ++ f (a + b) ∷ []) (list_to-join a b f)
    ∙ append_assoc (list_to a f) (list_to b (λ s. f (a + s))) (f (a + b) ∷ [])

-- rows of one width, one after another, are one list
pub up_to_rows : {X : Type 0} → (n w : ℕ) (f : ℕ → X) → up_to n (λ i. list_to w (λ s. f (i * w + s))) ≡ list_to (n * w) f
up_to_rows zero w f = let e : 0 ≡ 0 * w = omega arith in ap (λ k. list_to k f) e
up_to_rows (suc n) w f =
    ap (λ xs. xs ++ list_to w (λ s. f (n * w + s))) (up_to_rows n w f)
    ∙ sym (list_to-join (n * w) w f)
    ∙ (let e : n * w + w ≡ suc n * w = omega arith in ap (λ k. list_to k f) e)

-- where all shares are 1, the numbers over the denominator of all rows are the rows' own
pub kept_of_whole : (n : ℕ) (rows : Rows) → length rows.numbers.items ≡ n * rows.width → ((i : ℕ) → i < n → share_of rows i ≡ pos 1) → kept_of n rows ≡ rows.numbers.items
kept_of_whole n rows e h =
    up_to-same n (row_of rows) (λ i. list_to rows.width (own_number rows i))
    (λ i a. list_to-same rows.width (λ s. share_of rows i *ℤ own_number rows i s) (own_number rows i) (λ s b. ap (λ z. z *ℤ own_number rows i s) (h i a) ∙ one-*ℤ (own_number rows i s)))
    ∙ up_to_rows n rows.width (number_at rows.numbers.items)
    ∙ ap (λ k. list_to k (number_at rows.numbers.items)) (sym e)
    ∙ list_to-get_or rows.numbers.items (pos 0)

-- a list of one number is within each limit that the number is within
pub AllWithin-replicate : (limit n : ℕ) (x : ℤ) → IsWithin limit x → AllWithin limit (replicate n x)
AllWithin-replicate limit n x h = record {
  at = λ k b. subst (IsWithin limit) (sym (get_or-replicate n k x (pos 0) (omega (arith, length-replicate n x, b)))) h;
}

-- a row of whole numbers is in least terms, since only 1 and -1 divide 1
pub IsLeastRow-one : (width : ℕ) (f : ℕ → ℤ) → IsLeastRow width (pos 1) f
IsLeastRow-one width f = record {
  positive = omega (arith, ints);
  only_one = λ x d _. NatL.eq-one_of_dvd-one d.divides;
}

-- rows of whole numbers: all denominators and shares are 1
pub AreRows-whole : (n : ℕ) (rows : Rows) → length rows.numbers.items ≡ n * rows.width → AllWithin (2 ^ 62) rows.numbers.items → rows.dens.items ≡ replicate n (pos 1) → rows.shares.items ≡ replicate n (pos 1) → length rows.sizes.items ≡ n → ((i : ℕ) → i < n → IsRowSize rows.width (own_number rows i) (size_of rows i)) → AreRows n (pos 1) rows
AreRows-whole n rows long small dens shares count sizes = record {
  numbers_length = long;
  dens_length = ap length dens ∙ length-replicate n (pos 1);
  shares_length = ap length shares ∙ length-replicate n (pos 1);
  sizes_length = count;
  numbers_size = small;
  dens_size = subst (AllWithin (2 ^ 62)) (sym dens) (AllWithin-replicate (2 ^ 62) n (pos 1) one);
  shares_size = subst (AllWithin (2 ^ 62)) (sym shares) (AllWithin-replicate (2 ^ 62) n (pos 1) one);
  sizes = sizes;
  least = λ i a. subst (λ d. IsLeastRow rows.width d (own_number rows i)) (sym (den i a)) (IsLeastRow-one rows.width (own_number rows i));
  shared = λ i a. ap (λ z. z *ℤ own_den rows i) (share i a) ∙ one-*ℤ (own_den rows i) ∙ den i a;
}
  where
    one : IsWithin (2 ^ 62) (pos 1)
    one = record { within = omega arith }

    den : (i : ℕ) → i < n → own_den rows i ≡ pos 1
    den i a = ap (λ xs. number_at xs i) dens ∙ get_or-replicate n i (pos 1) (pos 0) a

    share : (i : ℕ) → i < n → share_of rows i ≡ pos 1
    share i a = ap (λ xs. number_at xs i) shares ∙ get_or-replicate n i (pos 1) (pos 0) a

-- one more size
pub sizes_pushed : (n width : ℕ) (f : ℕ → ℕ → ℤ) (sizes : List ℤ) (size : ℤ) → length sizes ≡ n → ((i : ℕ) → i < n → IsRowSize width (f i) (number_at sizes i)) → IsRowSize width (f n) size → (i : ℕ) → i < n + 1 → IsRowSize width (f i) (number_at (sizes ++ size ∷ []) i)
sizes_pushed n width f sizes size e h k i b =
    elim (cases_lt i n) [
      | inl l ↦ subst (IsRowSize width (f i)) (sym (get_or_append_left sizes (size ∷ []) (pos 0) i (omega arith))) (h i l)
      | inr l ↦
          let here : n ≡ i = omega arith in
          subst (IsRowSize width (f i)) (sym (get_or_push sizes size (pos 0) i (e ∙ here))) (subst (λ j. IsRowSize width (f j) size) here k)
    ]
