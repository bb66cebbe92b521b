-- Steps over the fields of a record.
use Rattle.std.proofs.Common.{◌≡◌, ℕ, zero, suc, ◌+◌, ◌<◌, ◌≤◌, ◌-◌, ℤ, List, [], ◌∷◌, ◌++◌, drop, length, Some, None, Result, Ok, Err, add-one, zero-add, replicate, refl, sym, ap, ◌∙◌, arith, append_assoc, length-append, get_or, take, subst, take-append-drop}
use Rattle.std.proofs.lemmas.List.{take_more}
use Rattle.std.specs.List.{slice_get}
use Rattle.md_parts.specs.declared.refusal.AnswerRefusal.{AnswerRefusal}
use Rattle.md_parts.specs.declared.refusal.AnswerRefusal.TheVariants.{Cell}
use Rattle.md_parts.specs.Fields.{Field, numbers_of}
use Rattle.md_parts.specs.Left.{Left}
use Rattle.md_parts.specs.FieldsRead.{after_numbers, Reads, FailsIn}

-- what stands from a place on
pub drop-at : (xs : List (List ℕ)) (i : ℕ) (x : List ℕ) → slice_get xs i ≡ Some x → drop i xs ≡ x ∷ drop 1 (drop i xs)
drop-at [] i x h = absurd (let e : None ≡ Some x = h in cc)
drop-at (y ∷ ys) zero x h = let e : y ≡ x = cc in rw e refl
drop-at (y ∷ ys) (suc i) x h = drop-at ys i x h

pub drop-past : (xs : List (List ℕ)) (i : ℕ) → slice_get xs i ≡ None → 0 < length (drop i xs) → ⊥
drop-past [] zero h l = omega arith
drop-past [] (suc i) h l = omega arith
drop-past (y ∷ ys) zero h l = absurd (let e : Some y ≡ None = h in cc)
drop-past (y ∷ ys) (suc i) h l = drop-past ys i h l

pub drop-next : (xs : List (List ℕ)) (i : ℕ) → drop (i + 1) xs ≡ drop 1 (drop i xs)
drop-next xs i = rw add-one (drop-suc xs i)
  where
    drop-suc : (xs : List (List ℕ)) (i : ℕ) → drop (suc i) xs ≡ drop 1 (drop i xs)
    drop-suc [] zero = refl
    drop-suc [] (suc i) = refl
    drop-suc (x ∷ xs) zero = refl
    drop-suc (x ∷ xs) (suc i) = drop-suc xs i

-- the left side of one field more
numbers_of-holds : (place : ℕ) (field : Field) (more : List Field) (text : List ℕ) (texts : List (List ℕ)) (number : ℤ) → field text ≡ Some number
    → numbers_of place (field ∷ more) (text ∷ texts) ≡ after_numbers (number ∷ []) (numbers_of (place + 1) more texts)
numbers_of-holds place field more text texts number e = rw e (later (numbers_of (place + 1) more texts))
  where
    later : (r : Result (List ℤ) ℕ) → elim r [ Err wrong ↦ Err wrong | Ok numbers ↦ Ok (number ∷ numbers) ] ≡ after_numbers (number ∷ []) r
    later (Ok numbers) = refl
    later (Err wrong) = refl

pub reads-one : (field : Field) (old new : Left) (text : List ℕ) (number : ℤ) → old.texts ≡ text ∷ drop 1 old.texts → field text ≡ Some number
    → new ≡ record { number = old.number; place = old.place + 1; texts = drop 1 old.texts } → Reads (field ∷ []) old new (number ∷ [])
reads-one field old new text number at holds next = record {
  step = λ more. rw (at, next) (numbers_of-holds old.place field more text (drop 1 old.texts) number holds);
  number = ap (λ (l : Left). l.number) next;
  left = ap length at ∙ rw next (omega arith);
}

pub fails-one : (field : Field) (old : Left) (text : List ℕ) → old.texts ≡ text ∷ drop 1 old.texts → field text ≡ None → FailsIn (field ∷ []) old (Cell old.number old.place)
fails-one field old text at holds = record {
  place = old.place;
  wrong = λ more. rw (at, holds) refl;
  refusal_is = refl;
}

pub ruleset field_steps = (reads-one, fails-one)

-- steps one after another
after_numbers-after : (ns ms : List ℤ) (r : Result (List ℤ) ℕ) → after_numbers ns (after_numbers ms r) ≡ after_numbers (ns ++ ms) r
after_numbers-after ns ms (Ok more) = ap Ok (sym (append_assoc ns ms more))
after_numbers-after ns ms (Err place) = refl

pub reads-none : (old : Left) → Reads [] old old []
reads-none old = record {
  step = λ more. nothing_before (numbers_of old.place more old.texts);
  number = refl;
  left = omega arith;
}
  where
    nothing_before : (r : Result (List ℤ) ℕ) → r ≡ after_numbers [] r
    nothing_before (Ok more) = refl
    nothing_before (Err place) = refl

pub reads-then : (fs gs : List Field) (a b c : Left) (ns ms : List ℤ) → Reads fs a b ns → Reads gs b c ms → Reads (fs ++ gs) a c (ns ++ ms)
reads-then fs gs a b c ns ms first next = record {
  step = λ more.
      let whole = rw (next.step more, after_numbers-after ns ms (numbers_of c.place more c.texts)) at (first.step (gs ++ more)) in
      rw (append_assoc fs gs more) whole;
  number = next.number ∙ first.number;
  left = let l = first.left in let m = next.left in rw length-append (omega arith);
}

pub fails-then : (fs gs : List Field) (a b : Left) (ns : List ℤ) (refusal : AnswerRefusal) → Reads fs a b ns → FailsIn gs b refusal → FailsIn (fs ++ gs) a refusal
fails-then fs gs a b ns refusal first next = record {
  place = next.place;
  wrong = λ more.
      let whole = rw (next.wrong more) at (first.step (gs ++ more)) in
      rw (append_assoc fs gs more) whole;
  refusal_is = next.refusal_is ∙ ap (λ n. Cell n next.place) first.number;
}

-- what follows does not matter
pub fails-before : (fs gs : List Field) (a : Left) (refusal : AnswerRefusal) → FailsIn fs a refusal → FailsIn (fs ++ gs) a refusal
fails-before fs gs a refusal first = record {
  place = first.place;
  wrong = λ more. rw (append_assoc fs gs more) (first.wrong (gs ++ more));
  refusal_is = first.refusal_is;
}

-- a list of fields of one kind, and one more
replicate-more : (n : ℕ) (field : Field) → replicate (n + 1) field ≡ replicate n field ++ field ∷ []
replicate-more n field = rw add-one (replicate-suc n)
  where
    replicate-suc : (n : ℕ) → replicate (suc n) field ≡ replicate n field ++ field ∷ []
    replicate-suc zero = refl
    replicate-suc (suc n) = ap (λ (fs : List Field). field ∷ fs) (replicate-suc n)

pub reads-more : (n : ℕ) (field : Field) (a b c : Left) (ns : List ℤ) (number : ℤ) → Reads (replicate n field) a b ns → Reads (field ∷ []) b c (number ∷ []) → Reads (replicate (n + 1) field) a c (ns ++ number ∷ [])
reads-more n field a b c ns number first next = rw (replicate-more n field) (reads-then (replicate n field) (field ∷ []) a b c ns (number ∷ []) first next)

-- where one of them fails, all of them do
pub fails-more : (n m : ℕ) (field : Field) (a b : Left) (ns : List ℤ) (refusal : AnswerRefusal) → n < m → Reads (replicate n field) a b ns → FailsIn (field ∷ []) b refusal → FailsIn (replicate m field) a refusal
fails-more n m field a b ns refusal l first next =
    let h : FailsIn (replicate (n + 1) field) a refusal = rw (replicate-more n field) (fails-then (replicate n field) (field ∷ []) a b ns refusal first next) in
    let whole : replicate m field ≡ replicate (n + 1) field ++ replicate (m - (n + 1)) field = replicate-split (n + 1) m (omega arith) in
    rw whole (fails-before (replicate (n + 1) field) (replicate (m - (n + 1)) field) a refusal h)
  where
    replicate-add : (k m : ℕ) → replicate (k + m) field ≡ replicate k field ++ replicate m field
    replicate-add zero m = rw zero-add refl
    replicate-add (suc k) m = let e : suc k + m ≡ suc (k + m) = omega arith in rw e (ap (λ (fs : List Field). field ∷ fs) (replicate-add k m))

    replicate-split : (k m : ℕ) → k ≤ m → replicate m field ≡ replicate k field ++ replicate (m - k) field
    replicate-split k m l = let e : m ≡ k + (m - k) = omega arith in ap (λ n. replicate n field) e ∙ replicate-add k (m - k)

-- one field more of a list of fields
pub reads-taken : (fs : List Field) (i : ℕ) (field d : Field) (a b c : Left) (ns : List ℤ) (number : ℤ) → i < length fs → get_or fs i d ≡ field
    → Reads (take i fs) a b ns → Reads (field ∷ []) b c (number ∷ []) → Reads (take (i + 1) fs) a c (ns ++ number ∷ [])
reads-taken fs i field d a b c ns number l at first next =
    rw (take_more fs i d l, at) (reads-then (take i fs) (field ∷ []) a b c ns (number ∷ []) first next)

-- where one of them fails, the list does
pub fails-taken : (fs : List Field) (i : ℕ) (field d : Field) (a b : Left) (ns : List ℤ) (refusal : AnswerRefusal) → i < length fs → get_or fs i d ≡ field
    → Reads (take i fs) a b ns → FailsIn (field ∷ []) b refusal → FailsIn fs a refusal
fails-taken fs i field d a b ns refusal l at first next =
    let h : FailsIn (take (i + 1) fs) a refusal = rw (take_more fs i d l, at) (fails-then (take i fs) (field ∷ []) a b ns refusal first next) in
    subst (λ (gs : List Field). FailsIn gs a refusal) (take-append-drop (i + 1) fs) (fails-before (take (i + 1) fs) (drop (i + 1) fs) a refusal h)
