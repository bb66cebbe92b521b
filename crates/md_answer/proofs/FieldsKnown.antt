-- What is known of the numbers of fields of several kinds, read and written.
use Rattle.std.proofs.Common.{◌≡◌, ℕ, zero, suc, ◌+◌, ◌-◌, ◌<◌, ◌≤◌, ℤ, pos, List, [], ◌∷◌, ◌++◌, map, length, get_or, Some, Ok, refl, sym, ap, subst, ◌∙◌, arith, append-nil, append_assoc, length-append, inl, inr}
use Rattle.std.proofs.lemmas.Bool.{cases_lt}
use Rattle.std.proofs.Math.Seq.{get_or-append_right}
use Rattle.md_math.specs.Lists.{number_at, list_to}
use Rattle.md_math.proofs.Builders.{length-list_to, get_or-list_to}
use Rattle.md_num.specs.WholeText.{text_of}
use Rattle.md_parts.specs.declared.refusal.AnswerRefusal.{AnswerRefusal}
use Rattle.md_parts.specs.Fields.{Field, numbers_of}
use Rattle.md_parts.specs.Left.{Left}
use Rattle.md_parts.specs.FieldsRead.{Reads, FailsIn}
use Rattle.md_parts.specs.Written.{Holds}
use Rattle.md_parts.proofs.FieldSteps.{fails-before}
use Rattle.md_parts.proofs.NumbersRead.{numbers-first}
use Rattle.md_parts.proofs.WrittenRecords.{holds-cons}

-- a number was read of a field
pub record IsOfField (field : Field) (number : ℤ) : Type 0 where
  pub text : List ℕ
  pub holds : field text ≡ Some number

-- each number was read of the field at its place
pub record AreOfFields (fields : List Field) (numbers : List ℤ) : Type 0 where
  pub long : length numbers ≡ length fields
  pub at : (i : ℕ) (d : Field) → i < length fields → IsOfField (get_or fields i d) (number_at numbers i)

pub fields-known : (place : ℕ) (fields : List Field) (texts : List (List ℕ)) (numbers : List ℤ) → length fields ≤ length texts → numbers_of place fields texts ≡ Ok numbers → AreOfFields fields numbers
fields-known place [] texts numbers room h =
    let e : [] ≡ numbers = cc in rw (← e) (record { long = refl; at = λ i d l. absurd (omega arith) })
fields-known place (field ∷ fields) [] numbers room h = absurd (omega arith)
fields-known place (field ∷ fields) (text ∷ texts) numbers room h =
    let f = numbers-first place field fields text texts numbers h in
    let more = fields-known (place + 1) fields texts f.others (omega arith) f.rest in
    subst (AreOfFields (field ∷ fields)) (sym f.all) (record { long = let l = more.long in omega (arith, l); at = λ i d l. at_place f.number f.others text f.holds more i d l })
  where
    at_place : (number : ℤ) (others : List ℤ) (text : List ℕ) → field text ≡ Some number → AreOfFields fields others → (i : ℕ) (d : Field) → i < length (field ∷ fields) → IsOfField (get_or (field ∷ fields) i d) (number_at (number ∷ others) i)
    at_place number others text holds more zero d l = record { text = text; holds = holds }
    at_place number others text holds more (suc i) d l = more.at i d (omega arith)

-- numbers that were read in a step
pub reads-known : (fields : List Field) (old new : Left) (numbers : List ℤ) → Reads fields old new numbers → AreOfFields fields numbers
reads-known fields old new numbers h =
    let left = h.left in
    fields-known old.place fields old.texts numbers (omega (arith, left)) (ap (λ (fs : List Field). numbers_of old.place fs old.texts) (sym (append-nil fields)) ∙ h.step [] ∙ ap (λ (ns : List ℤ). Ok ns) (append-nil numbers))

-- fields that are built place by place
pub built-known : (n : ℕ) (f : ℕ → Field) (numbers : List ℤ) (i : ℕ) → AreOfFields (list_to n f) numbers → i < n → IsOfField (f i) (number_at numbers i)
built-known n f numbers i h l =
    subst (λ (field : Field). IsOfField field (number_at numbers i)) (get_or-list_to n f i (f i) l) (h.at i (f i) (let m = length-list_to n f in omega (arith, m, l)))

-- the same of fields that stand behind others
pub built-behind-known : (n m : ℕ) (f g : ℕ → Field) (numbers : List ℤ) (i : ℕ) → AreOfFields (list_to n f ++ list_to m g) numbers → i < m → IsOfField (g i) (number_at numbers (n + i))
built-behind-known n m f g numbers i h l =
    let first = length-list_to n f in
    let back : n + i - length (list_to n f) ≡ i = omega (arith, first) in
    let place : get_or (list_to n f ++ list_to m g) (n + i) (g i) ≡ g i =
    get_or-append_right (list_to n f) (list_to m g) (n + i) (g i) (omega (arith, first)) ∙ ap (λ (k : ℕ). get_or (list_to m g) k (g i)) back ∙ get_or-list_to m g i (g i) l in
    subst (λ (field : Field). IsOfField field (number_at numbers (n + i))) place (h.at (n + i) (g i) (built-long n m f g i l))
  where
    built-long : (n m : ℕ) (f g : ℕ → Field) (i : ℕ) → i < m → n + i < length (list_to n f ++ list_to m g)
    built-long n m f g i l = omega (arith, length-append (list_to n f) (list_to m g), length-list_to n f, length-list_to m g, l)

-- where the first of them fail, all of them do
pub built-fail : (n m : ℕ) (f : ℕ → Field) (start : Left) (refusal : AnswerRefusal) → m ≤ n → FailsIn (list_to m f) start refusal → FailsIn (list_to n f) start refusal
built-fail zero m f start refusal l h = let e : m ≡ zero = omega arith in subst (λ (k : ℕ). FailsIn (list_to k f) start refusal) e h
built-fail (suc n) m f start refusal l h = elim (cases_lt n m) [
  | inl past ↦ (let e : m ≡ suc n = omega arith in subst (λ (k : ℕ). FailsIn (list_to k f) start refusal) e h)
  | inr below ↦ fails-before (list_to n f) (f n ∷ []) start refusal (built-fail n m f start refusal below h)
]

-- ---- written

-- numbers that stand in fields which are built place by place, before others
pub built-hold : (n : ℕ) (f : ℕ → Field) (g : ℕ → ℤ) (fields : List Field) (numbers : List ℤ) → ((k : ℕ) → k < n → f k (text_of (g k)) ≡ Some (g k)) → Holds fields (map text_of numbers) numbers
    → Holds (list_to n f ++ fields) (map text_of (list_to n g ++ numbers)) (list_to n g ++ numbers)
built-hold zero f g fields numbers each h = h
built-hold (suc n) f g fields numbers each h =
    let more = built-hold n f g (f n ∷ fields) (g n ∷ numbers) (λ k l. each k (omega arith)) (holds-cons (f n) fields (text_of (g n)) (map text_of numbers) (g n) numbers (each n (omega arith)) h) in
    let fs : list_to n f ++ (f n ∷ fields) ≡ list_to (suc n) f ++ fields = sym (append_assoc (list_to n f) (f n ∷ []) fields) in
    let ns : list_to n g ++ (g n ∷ numbers) ≡ list_to (suc n) g ++ numbers = sym (append_assoc (list_to n g) (g n ∷ []) numbers) in
    subst (λ (fields : List Field). Holds fields (map text_of (list_to (suc n) g ++ numbers)) (list_to (suc n) g ++ numbers)) fs
    (subst (λ (xs : List ℤ). Holds (list_to n f ++ (f n ∷ fields)) (map text_of xs) xs) ns more)
