-- Where a row stands among lists of rows that follow one another.
use Rattle.std.proofs.Common.{◌≡◌, ◌≢◌, ℕ, zero, suc, ◌+◌, ◌-◌, ◌*◌, ◌/◌, ◌%◌, ◌<◌, ◌≤◌, inl, inr, false, List, [], ◌∷◌, ◌++◌, length, Some, refl, sym, ap, subst, ◌∙◌, arith, add-zero, zero-add, mul-zero, length-append}
use Rattle.std.specs.Prelude.{slice_get, ◌==◌, if◌then◌else◌}
use Rattle.std.proofs.lemmas.Bool.Decides.{nat_tests}
use Rattle.std.proofs.lemmas.Nat.{div_below, div-add-mod'}
use Rattle.std.proofs.lemmas.Option.{slice_get-get_or}
use Rattle.std.proofs.Math.Nat.{suc-add}
use Rattle.md_math.specs.Lists.{up_to, list_to}
use Rattle.md_math.proofs.Builders.{up_to-more, up_to-split, up_to-single, length-list_to, length-up_to, get_or-list_to}
use Rattle.md_setting.specs.Setting.{GeneralSetting}
use Rattle.md_mech.specs.declared.condition.Condition.{Condition as Code}
use Rattle.md_mech.specs.Rows.{Condition, by_report}
use Rattle.md_mech.specs.Conditions.{named, IsInside, IsAt, IsFalseReport}
use Rattle.md_mech.proofs.CountLaws.{before-true, length-by_report, singles}

-- a row among the first or among the last of two lists
get-left : {X : Type 0} (xs ys : List X) (k : ℕ) (x : X) → slice_get xs k ≡ Some x → slice_get (xs ++ ys) k ≡ Some x
get-left [] ys k x h = cc
get-left (a ∷ xs) ys zero x h = h
get-left (a ∷ xs) ys (suc k) x h = get-left xs ys k x h

get-right : {X : Type 0} (xs ys : List X) (k : ℕ) (x : X) → slice_get ys k ≡ Some x → slice_get (xs ++ ys) (length xs + k) ≡ Some x
get-right [] ys k x h = subst (λ j. slice_get ys j ≡ Some x) (sym (zero-add k)) h
get-right (a ∷ xs) ys k x h = subst (λ j. slice_get (a ∷ (xs ++ ys)) j ≡ Some x) (sym (suc-add (length xs) k)) (get-right xs ys k x h)

get-up_to : {X : Type 0} (n k j : ℕ) (f : ℕ → List X) (x : X) → k < n → slice_get (f k) j ≡ Some x → slice_get (up_to n f) (length (up_to k f) + j) ≡ Some x
get-up_to n k j f x h e =
    let split = up_to-split n k f h in
    subst (λ xs. slice_get xs (length (up_to k f) + j) ≡ Some x) (sym split.1)
    (get-left (up_to k f ++ f k) split.0 (length (up_to k f) + j) x (get-right (up_to k f) (f k) j x e))

-- a row of one of several blocks
pub at_block : (s : GeneralSetting) (n k row rest : ℕ) (f : ℕ → List Condition) (p : Code) → k < n → row ≡ length (up_to k f) + rest →
    IsAt s (f k) rest p → IsAt s (up_to n f) row p
at_block s n k row rest f p h e at = record {
  row = rw e (get-up_to n k rest f (named s p) h at.row);
  inside = at.inside;
}

-- a row behind one more block
pub past_block : (k row rest left : ℕ) (f : ℕ → List Condition) → row ≡ length (up_to k f) + rest → rest ≡ length (f k) + left →
    row ≡ length (up_to (k + 1) f) + left
past_block k row rest left f e g = rw (up_to-more k f) (omega (arith, e, g, length-append (up_to k f) (f k)))

-- a row behind all blocks
pub past_blocks : (n k row rest : ℕ) (f : ℕ → List Condition) → k ≡ n → row ≡ length (up_to k f) + rest → row ≡ length (up_to n f) + rest
past_blocks n k row rest f e g = subst (λ m. row ≡ length (up_to m f) + rest) e g

-- one row for each place
pub at_single : (s : GeneralSetting) (n k : ℕ) (f : ℕ → Condition) (p : Code) → k < n → f k ≡ named s p → IsInside s p → IsAt s (up_to n (λ j. f j ∷ [])) k p
at_single s n k f p h e inside = record {
  row = subst (λ xs. slice_get xs k ≡ Some (named s p)) (sym (up_to-single n f))
      (slice_get-get_or (list_to n f) k (f k) (rw (length-list_to n f) h) ∙ ap Some (get_or-list_to n f k (f k) h ∙ e));
  inside = inside;
}

pub apart : (a b : ℕ) → (a ≡ b → ⊥) → (a == b) ≡ false
apart a b h = grind (arith, nat_tests)

-- the row of a report, where the reports before it are passed
pub at_report : (s : GeneralSetting) (n a b row : ℕ) (f : ℕ → Condition) (p : Code) → b < n → (b == a) ≡ false → f b ≡ named s p → IsInside s p →
    row ≡ length (by_report b a f) → IsAt s (by_report n a f) row p
at_report s n a b row f p h other e inside l =
    at_block s n b row 0 (λ c. if c == a then [] else f c ∷ []) p h (l ∙ sym (add-zero (length (by_report b a f))))
    (record { row = rw (other, e) refl; inside = inside })

-- a false report by its number
false-before : (a number b : ℕ) (f : ℕ → Condition) → IsFalseReport a number b → number ≡ length (by_report b a f)
false-before a number b f (inl e) = sym (before-true b a f (omega (arith, e.0, e.1)) ∙ e.1)
false-before a number b f (inr e) = sym (length-by_report b a f (omega (arith, e.0, e.1)) ∙ omega (arith, e.1))

pub false-apart : (a number b : ℕ) → IsFalseReport a number b → b ≢ a
false-apart a number b (inl e) same = absurd (omega (arith, e.0, e.1, same))
false-apart a number b (inr e) same = absurd (omega (arith, e.0, e.1, same))

pub false-below : (n a number b : ℕ) → a < n → number < n - 1 → IsFalseReport a number b → b < n
false-below n a number b h l (inl e) = omega (arith, e.1, l)
false-below n a number b h l (inr e) = omega (arith, e.1, l)

pub at_false : (s : GeneralSetting) (n a number b : ℕ) (f : ℕ → Condition) (p : Code) → a < n → number < n - 1 → IsFalseReport a number b → f b ≡ named s p → IsInside s p → IsAt s (by_report n a f) number p
at_false s n a number b f p h l report e inside =
    at_report s n a b number f p (false-below n a number b h l report) (apart b a (false-apart a number b report)) e inside (false-before a number b f report)

-- a number below a product has positive factors
pub some-factor : (a b n : ℕ) → n < a * b → 0 < b
some-factor a zero n h = (let none : a * 0 ≡ 0 = mul-zero a in absurd (omega (arith, h, none)))
some-factor a (suc b) n h = omega arith

-- a row in one of several blocks of one length
pub at_equal_block : (s : GeneralSetting) (n w row : ℕ) (f : ℕ → List Condition) (p : Code) → 0 < w → row < n * w → ((j : ℕ) → j < n → length (f j) ≡ w)
    → IsAt s (f (row / w)) (row % w) p → IsAt s (up_to n f) row p
at_equal_block s n w row f p some below each at =
    let block : row / w < n = div_below row w n some below in
    let before : length (up_to (row / w) f) ≡ (row / w) * w = length-up_to (row / w) w f (λ j l. each j (omega (arith, l, block))) in
    at_block s n (row / w) row (row % w) f p block (omega (arith, before, div-add-mod' row w)) at

-- a row of the first or of the second of two lists
pub at_left : (s : GeneralSetting) (xs ys : List Condition) (row : ℕ) (p : Code) → IsAt s xs row p → IsAt s (xs ++ ys) row p
at_left s xs ys row p at = record { row = get-left xs ys row (named s p) at.row; inside = at.inside }

pub at_right : (s : GeneralSetting) (xs ys : List Condition) (row rest : ℕ) (p : Code) → row ≡ length xs + rest → IsAt s ys rest p → IsAt s (xs ++ ys) row p
at_right s xs ys row rest p e at = record { row = rw e (get-right xs ys rest (named s p) at.row); inside = at.inside }

pub ruleset places = (at_block, past_block, past_blocks)

-- the rows of some profiles or types, one each, pass one more agent
pub past_singles : (n row rest : ℕ) (k : ℕ) (f : ℕ → ℕ → Condition) (size : ℕ → ℕ) → row ≡ length (up_to k (λ i. up_to (size i) (λ j. f i j ∷ []))) + rest → n ≡ size k → n ≤ rest →
    row ≡ length (up_to (k + 1) (λ i. up_to (size i) (λ j. f i j ∷ []))) + (rest - n)
past_singles n row rest k f size e g h =
    past_block k row rest (rest - n) (λ i. up_to (size i) (λ j. f i j ∷ [])) e
    (rw (singles (size k) (f k)) (omega (arith, g)))
