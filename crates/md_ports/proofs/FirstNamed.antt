-- Lists of files, read and changed at the first file of a name.
use Rattle.std.proofs.Common.{ℕ, zero, suc, ◌+◌, ◌<◌, ◌≤◌, ◌⊎◌, inl, inr, ◌≡◌, ◌≢◌, List, [], ◌∷◌, ◌++◌, Option, Some, None, Bool, true, false, cond, MatchOption, length, get_or, set, not, nat_lt, refl, sym, ap, ◌∙◌, subst, arith, string_bytes, length-set, get_or-set_same, get_or-set_other}
use Rattle.std.proofs.lemmas.Bool.Decides.{nat_tests}
use Rattle.std.specs.List.{position, position_or_len}
use Rattle.std.specs.Str.{bytes_eq}
use Rattle.std.proofs.lemmas.Slice.Eq.{bytes_eq-Decides}
use Rattle.std.proofs.lemmas.List.Quantifiers.{position-Some}
use Rattle.md_ports.specs.Files.{content_in, count_in, is_named, IsFirstNamed, IsAbsent, Replaces, CountsFault}
use Rattle.md_ports.specs.Faults.{next_count}
use Rattle.md_ports.specs.declared.file.File.{File}

pub first-from_position : (fs : List File) (n : List ℕ) (i : ℕ) → position (is_named n) fs ≡ Some i → (d : File) → IsFirstNamed fs n i d
first-from_position fs n i h d =
    let p = position-Some (is_named n) fs i d h in record { within = p.0; named = p.1; before = p.2 }

first-rest : (f : File) (fs : List File) (n : List ℕ) (i : ℕ) (d : File) → IsFirstNamed (f ∷ fs) n (suc i) d → IsFirstNamed fs n i d
first-rest f fs n i d h =
    record {
      within = let w : suc i < length (f ∷ fs) = h.within in omega arith;
      named = h.named;
      before = λ k l. h.before (suc k) (omega arith);
    }

-- a file has one name
not_named : (f : File) (n m : List ℕ) → is_named n f ≡ true → m ≢ n → is_named m f ≡ false
not_named f n m h ne =
    elim (is_named m f) as (λ b. is_named m f ≡ b → b ≡ false) [
      | true ↦ λ e. absurd (ne (sym ((bytes_eq-Decides (string_bytes f.name) m).0 e) ∙ (bytes_eq-Decides (string_bytes f.name) n).0 h))
      | false ↦ λ _. refl
    ] refl

-- a file put in its place gives its content and its count
pub content_in-first : (fs : List File) (n : List ℕ) (i : ℕ) (d : File) → IsFirstNamed fs n i d → content_in fs n ≡ Some (get_or fs i d).bytes.items
content_in-first [] n i d h = absurd (let w : i < 0 = h.within in omega arith)
content_in-first (f ∷ fs) n zero d h = rw h.named refl
content_in-first (f ∷ fs) n (suc i) d h =
    let e : is_named n f ≡ false = h.before 0 (omega arith) in
    rw e (content_in-first fs n i d (first-rest f fs n i d h))

pub count_in-first : (a : ℕ) (fs : List File) (n : List ℕ) (i : ℕ) (d : File) → IsFirstNamed fs n i d → count_in a fs n ≡ (get_or fs i d).faults
count_in-first a [] n i d h = absurd (let w : i < 0 = h.within in omega arith)
count_in-first a (f ∷ fs) n zero d h = rw h.named refl
count_in-first a (f ∷ fs) n (suc i) d h =
    let e : is_named n f ≡ false = h.before 0 (omega arith) in
    rw e (count_in-first a fs n i d (first-rest f fs n i d h))

-- a name that no file has
none_positive : (l : ℕ) → cond {A = Option ℕ} (nat_lt 0 (suc l)) (Some 0) None ≡ None → ⊥
none_positive l h = grind (arith, nat_tests)

none-rest : (b : Bool) (p l : ℕ) → cond (nat_lt (cond (not b) (1 + p) 0) (suc l)) (Some (cond (not b) (1 + p) 0)) None ≡ None → (b ≡ false) × (cond (nat_lt p l) (Some p) None ≡ None)
none-rest true p l h = absurd (none_positive l h)
none-rest false p l h = (refl, grind (arith, nat_tests))

pub absent-from_position : (fs : List File) (n : List ℕ) → position (is_named n) fs ≡ None → IsAbsent fs n
absent-from_position fs n h = record { no_content = content_in-absent fs n h; count = λ a. count_in-absent a fs n h }
  where
    content_in-absent : (fs : List File) (n : List ℕ) → position (is_named n) fs ≡ None → content_in fs n ≡ None
    content_in-absent [] n h = refl
    content_in-absent (f ∷ fs) n h =
        let r = none-rest (is_named n f) (position_or_len (is_named n) fs) (length fs) h in
        rw r.0 (content_in-absent fs n r.1)

    count_in-absent : (a : ℕ) (fs : List File) (n : List ℕ) → position (is_named n) fs ≡ None → count_in a fs n ≡ a
    count_in-absent a [] n h = refl
    count_in-absent a (f ∷ fs) n h =
        let r = none-rest (is_named n f) (position_or_len (is_named n) fs) (length fs) h in
        rw r.0 (count_in-absent a fs n r.1)

-- a file at the end counts where no other has its name
pub content_in-push : (fs : List File) (f : File) (m : List ℕ) → content_in fs m ≡ None → content_in (fs ++ f ∷ []) m ≡ cond (is_named m f) (Some f.bytes.items) None
content_in-push [] f m h = refl
content_in-push (g ∷ fs) f m h = elim (is_named m g) as (λ b. cond b (Some g.bytes.items) (content_in fs m) ≡ None → cond b (Some g.bytes.items) (content_in (fs ++ f ∷ []) m) ≡ cond (is_named m f) (Some f.bytes.items) None) [ true ↦ λ e. absurd (cc) | false ↦ λ e. content_in-push fs f m e ] h

-- a file at the end changes no content but that of its own name
pub content_in-push_other : (fs : List File) (f : File) (m : List ℕ) → is_named m f ≡ false → content_in (fs ++ f ∷ []) m ≡ content_in fs m
content_in-push_other [] f m h = rw h refl
content_in-push_other (g ∷ fs) f m h = ap (λ r. cond (is_named m g) (Some g.bytes.items) r) (content_in-push_other fs f m h)

-- a file at the end that begins with the count of those that are not there changes no count
pub count_in-push : (a : ℕ) (fs : List File) (f : File) (m : List ℕ) → f.faults ≡ a → count_in a (fs ++ f ∷ []) m ≡ count_in a fs m
count_in-push a [] f m h = elim (is_named m f) as (λ b. cond b f.faults a ≡ a) [ true ↦ h | false ↦ refl ]
count_in-push a (g ∷ fs) f m h = ap (λ r. cond (is_named m g) g.faults r) (count_in-push a fs f m h)

-- a file put in the place of the first of its name
pub first-set : (fs : List File) (n : List ℕ) (i : ℕ) (d g : File) → IsFirstNamed fs n i d → is_named n g ≡ true → IsFirstNamed (set fs i g) n i d
first-set fs n i d g h e =
    record {
      within = let w : i < length fs = h.within in omega (arith, length-set {A = File});
      named = let w : i < length fs = h.within in rw get_or-set_same e;
      before = λ k l. let ne : k ≢ i = omega arith in rw get_or-set_other (h.before k l);
    }

-- it changes no content but that of its name
pub content_in-set_other : (fs : List File) (n m : List ℕ) (i : ℕ) (d g : File) → IsFirstNamed fs n i d → is_named n g ≡ true → m ≢ n → content_in (set fs i g) m ≡ content_in fs m
content_in-set_other [] n m i d g h e ne = refl
content_in-set_other (f ∷ fs) n m zero d g h e ne =
    rw (not_named g n m e ne, not_named f n m h.named ne) refl
content_in-set_other (f ∷ fs) n m (suc i) d g h e ne =
    ap (λ r. cond (is_named m f) (Some f.bytes.items) r) (content_in-set_other fs n m i d g (first-rest f fs n i d h) e ne)

-- the file at its place shows its own content
pub content_in-set : (fs : List File) (n : List ℕ) (i : ℕ) (d g : File) → IsFirstNamed fs n i d → is_named n g ≡ true → content_in (set fs i g) n ≡ Some g.bytes.items
content_in-set fs n i d g h e =
    let w : i < length fs = h.within in
    content_in-first (set fs i g) n i d (first-set fs n i d g h e) ∙ ap (λ f. Some f.bytes.items) (get_or-set_same fs i g d w)

-- with the same count in its place no count changes
pub count_in-set_kept : (a : ℕ) (fs : List File) (n m : List ℕ) (i : ℕ) (d g : File) → IsFirstNamed fs n i d → string_bytes g.name ≡ string_bytes (get_or fs i d).name → g.faults ≡ (get_or fs i d).faults → count_in a (set fs i g) m ≡ count_in a fs m
count_in-set_kept a [] n m i d g h e k = refl
count_in-set_kept a (f ∷ fs) n m zero d g h e k = rw (e, k) refl
count_in-set_kept a (f ∷ fs) n m (suc i) d g h e k =
    ap (λ r. cond (is_named m f) f.faults r) (count_in-set_kept a fs n m i d g (first-rest f fs n i d h) e k)

-- with the same content in its place no content changes
pub content_in-set_kept : (fs : List File) (n m : List ℕ) (i : ℕ) (d g : File) → IsFirstNamed fs n i d → string_bytes g.name ≡ string_bytes (get_or fs i d).name → g.bytes.items ≡ (get_or fs i d).bytes.items → content_in (set fs i g) m ≡ content_in fs m
content_in-set_kept [] n m i d g h e k = refl
content_in-set_kept (f ∷ fs) n m zero d g h e k = rw (e, k) refl
content_in-set_kept (f ∷ fs) n m (suc i) d g h e k =
    ap (λ r. cond (is_named m f) (Some f.bytes.items) r) (content_in-set_kept fs n m i d g (first-rest f fs n i d h) e k)

-- the file at its place shows its own count, and no other count changes
pub count_in-set : (a : ℕ) (fs : List File) (n : List ℕ) (i : ℕ) (d g : File) → IsFirstNamed fs n i d → is_named n g ≡ true → count_in a (set fs i g) n ≡ g.faults
count_in-set a fs n i d g h e =
    let w : i < length fs = h.within in
    count_in-first a (set fs i g) n i d (first-set fs n i d g h e) ∙ ap (λ f. f.faults) (get_or-set_same fs i g d w)

pub count_in-set_other : (a : ℕ) (fs : List File) (n m : List ℕ) (i : ℕ) (d g : File) → IsFirstNamed fs n i d → is_named n g ≡ true → m ≢ n → count_in a (set fs i g) m ≡ count_in a fs m
count_in-set_other a [] n m i d g h e ne = refl
count_in-set_other a (f ∷ fs) n m zero d g h e ne = rw (not_named g n m e ne, not_named f n m h.named ne) refl
count_in-set_other a (f ∷ fs) n m (suc i) d g h e ne =
    ap (λ r. cond (is_named m f) f.faults r) (count_in-set_other a fs n m i d g (first-rest f fs n i d h) e ne)

-- with a greater count in its place no count falls
pub count_in-set_rises : (a : ℕ) (fs : List File) (n m : List ℕ) (i : ℕ) (d g : File) → IsFirstNamed fs n i d → string_bytes g.name ≡ string_bytes (get_or fs i d).name → (get_or fs i d).faults ≤ g.faults → count_in a fs m ≤ count_in a (set fs i g) m
count_in-set_rises a [] n m i d g h e k = omega arith
count_in-set_rises a (f ∷ fs) n m zero d g h e k =
    rw e (elim (is_named m f) as (λ b. cond b f.faults (count_in a fs m) ≤ cond b g.faults (count_in a fs m)) [ true ↦ k | false ↦ omega arith ])
count_in-set_rises a (f ∷ fs) n m (suc i) d g h e k =
    let r = count_in-set_rises a fs n m i d g (first-rest f fs n i d h) e k in
    elim (is_named m f) as (λ b. cond b f.faults (count_in a fs m) ≤ cond b f.faults (count_in a (set fs i g) m)) [ true ↦ omega arith | false ↦ r ]

-- a name with a content has a file, and one with none has none
pub count_in-no_content : (a : ℕ) (fs : List File) (m : List ℕ) → content_in fs m ≡ None → count_in a fs m ≡ a
count_in-no_content a [] m h = refl
count_in-no_content a (f ∷ fs) m h =
    elim (is_named m f) as (λ b. cond b (Some f.bytes.items) (content_in fs m) ≡ None → cond b f.faults (count_in a fs m) ≡ a) [
      | true ↦ λ e. cc
      | false ↦ λ e. count_in-no_content a fs m e
    ] h

-- the count of those that are not there is no other's
pub count_in-absent_changed : (a b : ℕ) (fs : List File) (m : List ℕ) → content_in fs m ≢ None → count_in a fs m ≡ count_in b fs m
count_in-absent_changed a b [] m h = absurd (h refl)
count_in-absent_changed a b (f ∷ fs) m h =
    elim (is_named m f) as (λ t. cond t (Some f.bytes.items) (content_in fs m) ≢ None → cond t f.faults (count_in a fs m) ≡ cond t f.faults (count_in b fs m)) [
      | true ↦ λ e. refl
      | false ↦ λ e. count_in-absent_changed a b fs m e
    ] h

-- what `Replaces` and `CountsFault` say of a file in its place
pub replaces-set : (fs : List File) (n : List ℕ) (i : ℕ) (f g : File) → IsFirstNamed fs n i f → f ≡ get_or fs i f → string_bytes g.name ≡ string_bytes f.name → g.faults ≡ f.faults → Replaces fs (set fs i g) n g.bytes.items
replaces-set fs n i f g h at name faults =
    let e : is_named n g ≡ true = ap (λ x. bytes_eq x n) (name ∙ ap (λ x. string_bytes x.name) at) ∙ h.named in
    record {
      content = content_in-set fs n i f g h e;
      others = λ m ne. content_in-set_other fs n m i f g h e ne;
      counts = λ a m. count_in-set_kept a fs n m i f g h (name ∙ ap (λ x. string_bytes x.name) at) (faults ∙ ap (λ x. x.faults) at);
    }

pub counts_fault-set : (fs : List File) (n : List ℕ) (i : ℕ) (f g : File) → IsFirstNamed fs n i f → f ≡ get_or fs i f → string_bytes g.name ≡ string_bytes f.name → g.bytes.items ≡ f.bytes.items → g.faults ≡ next_count f.faults → f.faults ≤ g.faults → CountsFault fs (set fs i g) n
counts_fault-set fs n i f g h at name bytes faults more =
    let e : is_named n g ≡ true = ap (λ x. bytes_eq x n) (name ∙ ap (λ x. string_bytes x.name) at) ∙ h.named in
    record {
      there = λ none. let e : Some (get_or fs i f).bytes.items ≡ None = sym (content_in-first fs n i f h) ∙ none in cc;
      counted = λ a. count_in-set a fs n i f g h e ∙ faults ∙ ap (λ x. next_count x.faults) at ∙ sym (ap next_count (count_in-first a fs n i f h));
      others = λ a m ne. count_in-set_other a fs n m i f g h e ne;
      rises = λ a m. count_in-set_rises a fs n m i f g h (name ∙ ap (λ x. string_bytes x.name) at) (subst (λ (x : File). x.faults ≤ g.faults) at more);
      contents = λ m. content_in-set_kept fs n m i f g h (name ∙ ap (λ x. string_bytes x.name) at) (bytes ∙ ap (λ x. x.bytes.items) at);
    }

-- a place that is found is one of the list, which has an element then
place-within : (fs : List File) (n : List ℕ) (i : ℕ) → position (is_named n) fs ≡ Some i → i < length fs
place-within [] n i h = absurd (cc)
place-within (f ∷ fs) n i h = (first-from_position (f ∷ fs) n i h f).within

pub found-from_position : (fs : List File) (n : List ℕ) (r : Option ℕ) → r ≡ position (is_named n) fs → MatchOption r (IsAbsent fs n) (λ i. (i < length fs) × ((d : File) → IsFirstNamed fs n i d))
found-from_position fs n None e = absent-from_position fs n (sym e)
found-from_position fs n (Some i) e = (place-within fs n i (sym e), first-from_position fs n i (sym e))

-- in a list of files where no one has the name, one of that name at the end gives its content
pub content_in-push_new : (fs : List File) (n : List ℕ) (f : File) → IsAbsent fs n → string_bytes f.name ≡ n → content_in (fs ++ f ∷ []) n ≡ Some f.bytes.items
content_in-push_new fs n f h e =
    content_in-push fs f n h.no_content ∙ ap (λ b. cond b (Some f.bytes.items) None) ((bytes_eq-Decides (string_bytes f.name) n).1 e)

-- and the content of no other name changes
pub content_in-push_others : (fs : List File) (n : List ℕ) (f : File) → string_bytes f.name ≡ n → (m : List ℕ) → m ≢ n → content_in (fs ++ f ∷ []) m ≡ content_in fs m
content_in-push_others fs n f e m ne = content_in-push_other fs f m (not_named f n m ((bytes_eq-Decides (string_bytes f.name) n).1 e) ne)

-- one fault more of all the names that no file has
pub absent_counted : (a : ℕ) (fs : List File) (name n : List ℕ) → IsAbsent fs name → (n ≡ name) ⊎ ((content_in fs n ≡ None) × (content_in fs name ≡ None)) → count_in (next_count a) fs n ≡ next_count (count_in a fs n)
absent_counted a fs name n h (inl e) = rw e (h.count (next_count a) ∙ sym (ap next_count (h.count a)))
absent_counted a fs name n h (inr w) =
    count_in-no_content (next_count a) fs n w.0 ∙ sym (ap next_count (count_in-no_content a fs n w.0))

pub absent_others : (a : ℕ) (fs : List File) (name n : List ℕ) → IsAbsent fs name → ¬ ((n ≡ name) ⊎ ((content_in fs n ≡ None) × (content_in fs name ≡ None))) → count_in (next_count a) fs n ≡ count_in a fs n
absent_others a fs name n h other =
    count_in-absent_changed (next_count a) a fs n (λ none. other (inr (none, h.no_content)))

pub absent_rises : (a b : ℕ) (fs : List File) (n : List ℕ) → a ≤ b → count_in a fs n ≤ count_in b fs n
absent_rises a b [] n h = h
absent_rises a b (f ∷ fs) n h =
    let r = absent_rises a b fs n h in
    elim (is_named n f) as (λ t. cond t f.faults (count_in a fs n) ≤ cond t f.faults (count_in b fs n)) [ true ↦ omega arith | false ↦ r ]
