-- A text that is read is the text of its number, and the text of each number is read.
use Rattle.std.proofs.Common.{◌≡◌, ◌≢◌, ℕ, zero, suc, ◌^◌, ◌<◌, ◌≤◌, Bool, true, false, not, ◌&&◌, ◌||◌, ◌==◌, nat_lt, if◌then◌else◌, List, [], ◌∷◌, length, drop, get_or, decimal, ℤ, pos, negsuc, neg_ℤ, unsigned_abs, Option, Some, None, Result, Ok, Err, IfOk, refl, sym, ap, ◌∙◌, subst, arith, eqb-true, eq-eqb, ne_eqb, le-ltb, ltb-false, pow_mono}
use Rattle.std.specs.List.{list_all}
use Rattle.std.specs.Char.{is_ascii_digit}
use Rattle.std.specs.Str.Parse.{digits_value}
use Rattle.std.proofs.lemmas.Fmt.{decimal_is_IsNumeral_wide, decimal_digit}
use Rattle.std.proofs.lemmas.Bool.{eqb-false}
use Rattle.md_num.specs.declared.whole.NumRefusal.{NumRefusal}
use Rattle.md_num.specs.declared.whole.NumRefusal.TheVariants.{Empty, Digit, Sign, LeadingZero, TooLong}
use Rattle.md_num.specs.Limits.{limit_of}
use Rattle.md_num.specs.WholeText.{text_of, has_minus, unsigned_text, has_zero, size_of, number_of, form_fault, sized, whole_of}
use Rattle.md_num.proofs.Decimals.{digit_in, digits_from_test, test_from_digits, first_decimal_wide, decimal_of_value, first_of_zero}

-- what a text of good form is
pub record IsFormed (text : List ℕ) : Type 0 where
  pub nonempty : 0 < length text
  pub digits : list_all is_ascii_digit (unsigned_text text) ≡ true
  pub negative : has_minus text ≡ true → (0 < length (unsigned_text text)) × (get_or (unsigned_text text) 0 0 ≢ 48)
  pub leading : get_or text 0 0 ≡ 48 → length text ≡ 1

-- the seven tests of a form without a fault
tests_passed : (empty digits minus alone zero long lead : Bool) → (if empty then Some Empty else (if not digits then Some Digit else (if minus && (alone || zero) then Some Sign else (if long && lead then Some LeadingZero else None)))) ≡ None → (empty ≡ false) × (digits ≡ true) × (minus ≡ true → (alone ≡ false) × (zero ≡ false)) × (lead ≡ true → long ≡ false)
tests_passed true d m a z l t h = cc
tests_passed false false m a z l t h = cc
tests_passed false true true true z l t h = cc
tests_passed false true true false true l t h = cc
tests_passed false true true false false true true h = cc
tests_passed false true true false false true false h = (refl, refl, λ _. (refl, refl), λ e. cc)
tests_passed false true true false false false t h = (refl, refl, λ _. (refl, refl), λ _. refl)
tests_passed false true false a z true true h = cc
tests_passed false true false a z true false h = (refl, refl, λ e. cc, λ e. cc)
tests_passed false true false a z false t h = (refl, refl, λ e. cc, λ _. refl)

formed : (text : List ℕ) → form_fault text ≡ None → IsFormed text
formed text h =
    let p = tests_passed (length text == 0) (list_all is_ascii_digit (unsigned_text text)) (has_minus text) (length (unsigned_text text) == 0) (has_zero (unsigned_text text)) (nat_lt 1 (length text)) (has_zero text) h in
    let some : length text ≢ 0 = eqb-false (length text) 0 p.0 in
    record {
      nonempty = omega arith;
      digits = p.1;
      negative = λ m.
          let alone : length (unsigned_text text) ≢ 0 = eqb-false (length (unsigned_text text)) 0 ((p.2 m).0) in
          let zero_first : get_or (unsigned_text text) 0 0 ≢ 48 = eqb-false (get_or (unsigned_text text) 0 0) 48 ((p.2 m).1) in
          (omega arith, zero_first);
      leading = λ z.
          let short : length text ≤ 1 = ltb-false 1 (length text) (p.3 (eq-eqb (get_or text 0 0) 48 z)) in
          omega arith;
    }

-- a limit of at most 126 bits
pub limit_small : (bits : ℕ) → bits ≤ 126 → limit_of bits < 2 ^ 126
limit_small bits h = let p : 2 ^ bits ≤ 2 ^ 126 = pow_mono h in omega arith

-- ---- a text of good form is the text of its number

of_negative : (v : ℕ) (ds : List ℕ) → 0 < v → decimal v ≡ ds → text_of (neg_ℤ (pos v)) ≡ 45 ∷ ds
of_negative zero ds some h = absurd (omega arith)
of_negative (suc v) ds some h = ap (λ xs. 45 ∷ xs) h

negative_is : (text : List ℕ) → 0 < length text → get_or text 0 0 ≡ 45 → list_all is_ascii_digit (drop 1 text) ≡ true → 0 < length (drop 1 text) → get_or (drop 1 text) 0 0 ≢ 48 → digits_value 10 (drop 1 text) < 10 ^ 64 → text_of (neg_ℤ (pos (digits_value 10 (drop 1 text)))) ≡ text
negative_is [] some m d n z small = absurd (omega arith)
negative_is (c ∷ cs) some m d n z small =
    let above : 0 < digits_value 10 cs = positive (digits_value 10 cs) (λ e. z (first_of_zero cs (digits_from_test cs d) n e)) in
    let same : decimal (digits_value 10 cs) ≡ cs = decimal_of_value cs (digits_from_test cs d) n (λ e. absurd (z e)) small in
    of_negative (digits_value 10 cs) cs above same ∙ ap (λ x. x ∷ cs) (sym m)
  where
    positive : (n : ℕ) → n ≢ 0 → 0 < n
    positive n h = omega arith

-- by the sign
text_by_sign : (text : List ℕ) (minus : Bool) → has_minus text ≡ minus → IsFormed text → size_of text < 10 ^ 64 → text_of (number_of text) ≡ text
text_by_sign text true m h small =
    let n = h.negative m in
    let whole : unsigned_text text ≡ drop 1 text = rw m refl in
    let digits : list_all is_ascii_digit (drop 1 text) ≡ true = rw m at h.digits in
    let below : digits_value 10 (drop 1 text) < 10 ^ 64 = rw m at small in
    let number : number_of text ≡ neg_ℤ (pos (digits_value 10 (drop 1 text))) = rw m refl in
    rw number (negative_is text h.nonempty (eqb-true (get_or text 0 0) 45 m) digits (subst (λ xs. 0 < length xs) whole n.0) (subst (λ xs. get_or xs 0 0 ≢ 48) whole n.1) below)
text_by_sign text false m h small =
    let digits : list_all is_ascii_digit text ≡ true = rw m at h.digits in
    let below : digits_value 10 text < 10 ^ 64 = rw m at small in
    let number : number_of text ≡ pos (digits_value 10 text) = rw m refl in
    rw number (decimal_of_value text (digits_from_test text digits) h.nonempty h.leading below)

-- a number that is within the limit
sized_ok : (bits : ℕ) (text : List ℕ) (above : Bool) → nat_lt (limit_of bits) (size_of text) ≡ above → (z : ℤ) → sized bits text ≡ Ok z → (number_of text ≡ z) × (size_of text ≤ limit_of bits)
sized_ok bits text true a z h = let k : Err TooLong ≡ Ok z = rw a at h in cc
sized_ok bits text false a z h = let k : Ok (number_of text) ≡ Ok z = rw a at h in (cc, ltb-false (limit_of bits) (size_of text) a)

read_form : (bits : ℕ) (text : List ℕ) → bits ≤ 126 → (fault : Option NumRefusal) → form_fault text ≡ fault → (z : ℤ) → whole_of bits text ≡ Ok z → (text ≡ text_of z) × (number_of text ≡ z) × (size_of text ≤ limit_of bits)
read_form bits text small (Some refusal) f z h = let k : Err refusal ≡ Ok z = rw f at h in cc
read_form bits text small None f z h =
    let k : sized bits text ≡ Ok z = rw f at h in
    let (number, size) = sized_ok bits text (nat_lt (limit_of bits) (size_of text)) refl z k in
    let limit : limit_of bits < 2 ^ 126 = limit_small bits small in
    (sym (text_by_sign text (has_minus text) refl (formed text f) (omega arith)) ∙ ap text_of number, number, size)

-- a text that is read is the text of its number
pub text_from_whole_of : (bits : ℕ) (text : List ℕ) → bits ≤ 126 → (z : ℤ) → whole_of bits text ≡ Ok z → text ≡ text_of z
text_from_whole_of bits text small z h = (read_form bits text small (form_fault text) refl z h).0

-- and is within the limit
pub size_from_whole_of : (bits : ℕ) (text : List ℕ) → bits ≤ 126 → (z : ℤ) → whole_of bits text ≡ Ok z → unsigned_abs z ≤ limit_of bits
size_from_whole_of bits text small z h =
    let (_, number, size) = read_form bits text small (form_fault text) refl z h in
    subst (λ y. unsigned_abs y ≤ limit_of bits) number (rw (abs_number (has_minus text) (size_of text)) size)
  where
    abs_number : (minus : Bool) (n : ℕ) → unsigned_abs (if minus then neg_ℤ (pos n) else pos n) ≡ n
    abs_number true zero = refl
    abs_number true (suc n) = refl
    abs_number false n = refl

-- ---- the text of a number is read

no_fault : (empty digits alone long : Bool) → empty ≡ false → digits ≡ true → alone ≡ false → long ≡ false → (if empty then Some Empty else (if not digits then Some Digit else (if alone then Some Sign else (if long then Some LeadingZero else None)))) ≡ None
no_fault empty digits alone long p q r s = rw (p, q, r, s) refl

reads : (bits : ℕ) (text : List ℕ) (z : ℤ) → form_fault text ≡ None → size_of text ≤ limit_of bits → number_of text ≡ z → whole_of bits text ≡ Ok z
reads bits text z f l e = rw (f, le-ltb (limit_of bits) (size_of text) l, e) refl

reads_positive : (bits n : ℕ) → n < 10 ^ 64 → n ≤ limit_of bits → whole_of bits (decimal n) ≡ Ok (pos n)
reads_positive bits n small l =
    let k = decimal_is_IsNumeral_wide n small in
    let digits : list_all is_ascii_digit (decimal n) ≡ true = test_from_digits (decimal n) k.0.1 in
    let first = digit_in (decimal n) 0 digits k.0.0 in
    let minus : has_minus (decimal n) ≡ false = ne_eqb (get_or (decimal n) 0 0) 45 (λ e. omega (arith, first)) in
    let form : form_fault (decimal n) ≡ None =
    no_fault (length (decimal n) == 0) (list_all is_ascii_digit (unsigned_text (decimal n))) (has_minus (decimal n) && (length (unsigned_text (decimal n)) == 0 || has_zero (unsigned_text (decimal n)))) (nat_lt 1 (length (decimal n)) && has_zero (decimal n))
    (ne_eqb (length (decimal n)) 0 (λ e. omega (arith, k.0.0))) (rw minus digits) (rw minus refl) (no_zero n small) in
    reads bits (decimal n) (pos n) form (rw (minus, k.1) l) (rw (minus, k.1) refl)
  where
    no_zero : (n : ℕ) → n < 10 ^ 64 → (nat_lt 1 (length (decimal n)) && has_zero (decimal n)) ≡ false
    no_zero zero s = rw (decimal_digit 0 (omega arith)) refl
    no_zero (suc m) s = rw (ne_eqb (get_or (decimal (suc m)) 0 0) 48 (λ e. omega (arith, first_decimal_wide (suc m) (omega arith) s))) (and_false (nat_lt 1 (length (decimal (suc m)))))
      where
        and_false : (t : Bool) → (t && false) ≡ false
        and_false true = refl
        and_false false = refl

reads_negative : (bits n : ℕ) → 0 < n → n < 10 ^ 64 → n ≤ limit_of bits → (z : ℤ) → neg_ℤ (pos n) ≡ z → whole_of bits (45 ∷ decimal n) ≡ Ok z
reads_negative bits n some small l z e =
    let k = decimal_is_IsNumeral_wide n small in
    let digits : list_all is_ascii_digit (decimal n) ≡ true = test_from_digits (decimal n) k.0.1 in
    let alone : (length (decimal n) == 0) ≡ false = ne_eqb (length (decimal n)) 0 (λ e. omega (arith, k.0.0)) in
    let zero_first : has_zero (decimal n) ≡ false = ne_eqb (get_or (decimal n) 0 0) 48 (λ e. omega (arith, first_decimal_wide n some small)) in
    let form : form_fault (45 ∷ decimal n) ≡ None =
    no_fault (length (45 ∷ decimal n) == 0) (list_all is_ascii_digit (decimal n)) (length (decimal n) == 0 || has_zero (decimal n)) (nat_lt 1 (length (45 ∷ decimal n)) && false)
    (ne_eqb (length (45 ∷ decimal n)) 0 (λ e. omega arith)) digits (rw (alone, zero_first) refl) (and_false (nat_lt 1 (length (45 ∷ decimal n)))) in
    reads bits (45 ∷ decimal n) z form (rw k.1 l) (rw k.1 e)
  where
    and_false : (t : Bool) → (t && false) ≡ false
    and_false true = refl
    and_false false = refl

-- the text of a number within the limit is read
pub whole_of-text_of : (bits : ℕ) (z : ℤ) → bits ≤ 126 → unsigned_abs z ≤ limit_of bits → whole_of bits (text_of z) ≡ Ok z
whole_of-text_of bits (pos n) small h = let limit : limit_of bits < 2 ^ 126 = limit_small bits small in reads_positive bits n (omega arith) h
whole_of-text_of bits (negsuc n) small h = let limit : limit_of bits < 2 ^ 126 = limit_small bits small in reads_negative bits (suc n) (omega arith) (omega arith) h (negsuc n) refl

-- ---- what is said of a result

pub text_of_result : (bits : ℕ) (text : List ℕ) (r : Result ℤ NumRefusal) → bits ≤ 126 → r ≡ whole_of bits text → IfOk r (λ z. text ≡ text_of z)
text_of_result bits text (Ok z) small e = text_from_whole_of bits text small z (sym e)
text_of_result bits text (Err refusal) small e = tt

pub size_of_result : (bits : ℕ) (text : List ℕ) (r : Result ℤ NumRefusal) → bits ≤ 126 → r ≡ whole_of bits text → IfOk r (λ z. unsigned_abs z ≤ limit_of bits)
size_of_result bits text (Ok z) small e = size_from_whole_of bits text small z (sym e)
size_of_result bits text (Err refusal) small e = tt
