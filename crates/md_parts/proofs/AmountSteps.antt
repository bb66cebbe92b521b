-- Steps over amounts, and what they add to.
use Rattle.std.proofs.Common.{◌≡◌, ℕ, ◌+◌, ◌<◌, ◌≤◌, ℤ, pos, ◌≤ℤ◌, ◌+ℤ◌, min, Bool, true, false, ◌&&◌, nat_le, List, [], ◌∷◌, ◌++◌, map, drop, take, get_or, length, refl, sym, ap, subst, ◌∙◌, arith, append_assoc, take-append-drop}
use Rattle.std.specs.Prelude.{unsigned_abs, int_le}
use Rattle.std.proofs.lemmas.Int.{ints}
use Rattle.std.proofs.lemmas.List.{take_more, map-append}
use Rattle.md_math.specs.Sums.{total}
use Rattle.md_math.proofs.TotalLaws.{total_by-push}
use Rattle.md_parts.specs.declared.refusal.AnswerRefusal.{AnswerRefusal}
use Rattle.md_parts.specs.Fields.{Field, is_amount, amount_field}
use Rattle.md_parts.specs.Left.{Left}
use Rattle.md_parts.specs.FieldsRead.{Reads, FailsIn}
use Rattle.md_parts.proofs.FieldSteps.{reads-none, reads-then, fails-then, fails-before}

-- amounts that were read: those of the first fields, what they add to with a limit, and that this is not negative
pub record AreAmounts (mosts : List ℕ) (limit : ℕ) (start now : Left) (old new : List ℤ) (sum : ℕ) : Type 0 where
  pub numbers : List ℤ
  pub reads : Reads (map amount_field mosts) start now numbers
  pub items : new ≡ old ++ numbers
  pub adds : sum ≡ min (unsigned_abs (total numbers)) (limit + 1)
  pub not_negative : pos 0 ≤ℤ total numbers

pub amounts-none : (limit : ℕ) (start : Left) (old : List ℤ) → old ≡ old ++ [] → AreAmounts [] limit start start old old 0
amounts-none limit start old e = record { numbers = []; reads = reads-none start; items = e; adds = omega arith; not_negative = omega arith }

both : (a b : Bool) → (a && b) ≡ true → a ≡ true
both true b h = refl
both false b h = h

amount-from : (most : ℕ) (z : ℤ) → is_amount most z ≡ true → pos 0 ≤ℤ z
amount-from most z h = from_zero (both (int_le (pos 0) z) (nat_le (unsigned_abs z) most) h)
  where
    from_zero : int_le (pos 0) z ≡ true → pos 0 ≤ℤ z
    from_zero e = grind (arith, ints)

sizes-add : (a b : ℤ) → pos 0 ≤ℤ a → pos 0 ≤ℤ b → unsigned_abs (a +ℤ b) ≡ unsigned_abs a + unsigned_abs b
sizes-add a b l m = omega (arith, ints)

not-negative : (a b : ℤ) → pos 0 ≤ℤ a → pos 0 ≤ℤ b → pos 0 ≤ℤ (a +ℤ b)
not-negative a b l m = omega (arith, ints)

cap-more : (sum more limit : ℕ) → min (min sum (limit + 1) + more) (limit + 1) ≡ min (sum + more) (limit + 1)
cap-more sum more limit = omega arith

one-more : (mosts : List ℕ) (i : ℕ) (d : ℕ) → i < length mosts → map amount_field (take (i + 1) mosts) ≡ map amount_field (take i mosts) ++ amount_field (get_or mosts i d) ∷ []
one-more mosts i d l = ap (map amount_field) (take_more mosts i d l) ∙ map-append amount_field (take i mosts) (get_or mosts i d ∷ [])

pub amounts-more : (mosts : List ℕ) (i d limit : ℕ) (start now next : Left) (old new later : List ℤ) (sum sum_later : ℕ) (number : ℤ) → i < length mosts → AreAmounts (take i mosts) limit start now old new sum
    → Reads (amount_field (get_or mosts i d) ∷ []) now next (number ∷ []) → is_amount (get_or mosts i d) number ≡ true → later ≡ new ++ number ∷ [] → sum_later ≡ min (sum + unsigned_abs number) (limit + 1)
    → AreAmounts (take (i + 1) mosts) limit start next old later sum_later
amounts-more mosts i d limit start now next old new later sum sum_later number l h one amount pushed adds =
    let from_zero = amount-from (get_or mosts i d) number amount in
    let whole : total (h.numbers ++ number ∷ []) ≡ total h.numbers +ℤ number = total_by-push (λ x. x) h.numbers number in
    let size : unsigned_abs (total (h.numbers ++ number ∷ [])) ≡ unsigned_abs (total h.numbers) + unsigned_abs number = ap unsigned_abs whole ∙ sizes-add (total h.numbers) number h.not_negative from_zero in
    record {
      numbers = h.numbers ++ number ∷ [];
      reads = rw (one-more mosts i d l) (reads-then (map amount_field (take i mosts)) (amount_field (get_or mosts i d) ∷ []) start now next h.numbers (number ∷ []) h.reads one);
      items = pushed ∙ ap (λ (xs : List ℤ). xs ++ number ∷ []) h.items ∙ append_assoc old h.numbers (number ∷ []);
      adds = adds ∙ ap (λ (k : ℕ). min (k + unsigned_abs number) (limit + 1)) h.adds ∙ cap-more (unsigned_abs (total h.numbers)) (unsigned_abs number) limit ∙ ap (λ (k : ℕ). min k (limit + 1)) (sym size);
      not_negative = rw whole (not-negative (total h.numbers) number h.not_negative from_zero);
    }

pub amounts-fail : (mosts : List ℕ) (i d limit : ℕ) (start now : Left) (old new : List ℤ) (sum : ℕ) (refusal : AnswerRefusal) → i < length mosts → AreAmounts (take i mosts) limit start now old new sum
    → FailsIn (amount_field (get_or mosts i d) ∷ []) now refusal → FailsIn (map amount_field mosts) start refusal
amounts-fail mosts i d limit start now old new sum refusal l h fails =
    let front : FailsIn (map amount_field (take (i + 1) mosts)) start refusal = rw (one-more mosts i d l) (fails-then (map amount_field (take i mosts)) (amount_field (get_or mosts i d) ∷ []) start now h.numbers refusal h.reads fails) in
    let whole : map amount_field (take (i + 1) mosts) ++ map amount_field (drop (i + 1) mosts) ≡ map amount_field mosts = sym (map-append amount_field (take (i + 1) mosts) (drop (i + 1) mosts)) ∙ ap (map amount_field) (take-append-drop (i + 1) mosts) in
    subst (λ (fs : List Field). FailsIn fs start refusal) whole (fails-before (map amount_field (take (i + 1) mosts)) (map amount_field (drop (i + 1) mosts)) start refusal front)

pub amounts-cap : (mosts : List ℕ) (limit : ℕ) (start now : Left) (old new : List ℤ) (sum : ℕ) → AreAmounts mosts limit start now old new sum → sum ≤ limit + 1
amounts-cap mosts limit start now old new sum h = let e = h.adds in omega (arith, e)
