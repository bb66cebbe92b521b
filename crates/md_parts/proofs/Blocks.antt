-- Lists of numbers that are read block by block, one block for each profile.
use Rattle.std.proofs.Common.{◌≡◌, ℕ, zero, suc, ◌+◌, ◌*◌, ◌<◌, ℤ, pos, List, [], ◌∷◌, ◌++◌, length, Result, Ok, Err, refl, ap, subst, ◌∙◌, arith, All, length-append}
use Rattle.std.proofs.lemmas.List.{get_or_append_left}
use Rattle.std.proofs.lemmas.List.Elements.{All-nil, All-append, All-head, All-tail}
use Rattle.md_math.specs.Lists.{number_at}
use Rattle.md_math.proofs.Builders.{number_at-behind}
use Rattle.md_parts.specs.declared.refusal.AnswerRefusal.{AnswerRefusal}
use Rattle.md_parts.specs.Reading.{Rest, Reading, then_read}
use Rattle.md_parts.specs.Table.{each_profile}

-- the block of a place
pub record IsBlockAt (numbers : List ℤ) (width place : ℕ) (Q : List ℤ → Type 0) : Type 0 where
  pub block : List ℤ
  pub long : length block ≡ width
  pub has : Q block
  pub at : (o : ℕ) → o < width → number_at numbers (place * width + o) ≡ number_at block o

-- so many blocks of one width, each with a property, of numbers with a property
pub record AreBlocks (numbers : List ℤ) (count width : ℕ) (Q : List ℤ → Type 0) (R : ℤ → Type 0) : Type 0 where
  pub long : length numbers ≡ count * width
  pub each : All R numbers
  pub block : (place : ℕ) → place < count → IsBlockAt numbers width place Q

next-place : (r width o : ℕ) → (suc r * width + o) ≡ width + (r * width + o)
next-place r width o = grind arith

zero-place : (width o : ℕ) → (zero * width + o) ≡ o
zero-place width o = grind arith

block-cons : (first rest : List ℤ) (count width place : ℕ) (Q : List ℤ → Type 0) (R : ℤ → Type 0) → length first ≡ width → Q first → AreBlocks rest count width Q R → place < suc count → IsBlockAt (first ++ rest) width place Q
block-cons first rest count width zero Q R long has h l =
    record { block = first; long = long; has = has; at = λ o m. ap (λ k. number_at (first ++ rest) k) (zero-place width o) ∙ get_or_append_left first rest (pos 0) o (omega arith) }
block-cons first rest count width (suc place) Q R long has h l =
    let b = h.block place (omega arith) in
    record { block = b.block; long = b.long; has = b.has; at = λ o m. ap (λ k. number_at (first ++ rest) k) (next-place place width o) ∙ number_at-behind first rest width (place * width + o) long ∙ b.at o m }

blocks-cons : (first rest : List ℤ) (count width : ℕ) (Q : List ℤ → Type 0) (R : ℤ → Type 0) → length first ≡ width → Q first → All R first → AreBlocks rest count width Q R → AreBlocks (first ++ rest) (suc count) width Q R
blocks-cons first rest count width Q R long has each h = record {
  long = let l = h.long in length-append first rest ∙ grind arith;
  each = All-append R first rest each h.each;
  block = λ place l. block-cons first rest count width place Q R long has h l;
}

-- what comes of a reading in two steps
pub record InTwo {A B : Type 0} (first : Result (A × Rest) AnswerRefusal) (next : A → Reading B) (value : B) (after : Rest) : Type 0 where
  pub one : A
  pub mid : Rest
  pub first_is : first ≡ Ok (one, mid)
  pub next_is : next one mid ≡ Ok (value, after)

pub in_two : {A B : Type 0} (first : Result (A × Rest) AnswerRefusal) (next : A → Reading B) (value : B) (after : Rest) → then_read first next ≡ Ok (value, after) → InTwo first next value after
in_two (Ok read) next value after h = record { one = read.0; mid = read.1; first_is = refl; next_is = h }
in_two (Err refusal) next value after h = absurd (let e : Err refusal ≡ Ok (value, after) = h in cc)

zero-long : (width : ℕ) → 0 ≡ 0 * width
zero-long width = grind arith

pub each-blocks : (width : ℕ) (Q : List ℤ → Type 0) (R : ℤ → Type 0) (IsOne : List ℕ → Type 0) (read : List ℕ → Reading (List ℤ))
    → ((t : List ℕ) (rest after : Rest) (ns : List ℤ) → IsOne t → read t rest ≡ Ok (ns, after) → (length ns ≡ width) × Q ns × All R ns)
    → (ts : List (List ℕ)) (rest after : Rest) (ns : List ℤ) → All IsOne ts → each_profile read ts rest ≡ Ok (ns, after) → AreBlocks ns (length ts) width Q R
each-blocks width Q R IsOne read known [] rest after ns all h =
    let same : ([], rest) ≡ (ns, after) = cc in
    subst (λ (xs : List ℤ). AreBlocks xs 0 width Q R) (ap (λ (p : List ℤ × Rest). p.0) same) (record { long = zero-long width; each = All-nil R; block = λ place l. absurd (omega arith) })
each-blocks width Q R IsOne read known (t ∷ others) rest after ns all h =
    let first = in_two (read t rest) _ ns after h in
    let second = in_two (each_profile read others first.mid) _ ns after first.next_is in
    let same : (first.one ++ second.one, second.mid) ≡ (ns, after) = cc in
    let one = known t rest first.mid first.one (All-head IsOne t others all) first.first_is in
    let more = each-blocks width Q R IsOne read known others first.mid second.mid second.one (All-tail IsOne t others all) second.first_is in
    subst (λ (xs : List ℤ). AreBlocks xs (suc (length others)) width Q R) (ap (λ (p : List ℤ × Rest). p.0) same) (blocks-cons first.one second.one (length others) width Q R one.0 one.1 one.2 more)
