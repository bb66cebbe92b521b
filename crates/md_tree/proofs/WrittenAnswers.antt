-- An answer that is written is read as the same answer.
use Rattle.std.proofs.Common.{◌≡◌, ℕ, ◌+◌, ◌<◌, ◌≤◌, ◌^◌, ℤ, pos, false, List, [], ◌∷◌, ◌++◌, map, codes, Some, Ok, refl, sym, ap, subst, ◌∙◌, arith, All, add-one, unsigned_abs, append-nil, append_assoc, lit≤}
use Rattle.std.proofs.lemmas.List.{length-map}
use Rattle.std.proofs.lemmas.List.Elements.{All-nil, All-cons, All-append}
use Rattle.md_math.specs.Lists.{number_at}
use Rattle.md_num.specs.WholeText.{text_of}
use Rattle.md_space.specs.Profiles.{profile_count}
use Rattle.md_setting.specs.Setting.{GeneralSetting}
use Rattle.md_setting.specs.Meaning.{outcome_count, sizes_of}
use Rattle.md_setting.specs.Shaped.{IsShaped}
use Rattle.md_lp.specs.declared.pivot.Pivot.{Pivot}
use Rattle.md_records.specs.Written.{IsReadBack}
use Rattle.md_records.proofs.RecordTexts.{records_of-text}
use Rattle.md_parts.specs.declared.version.Version.TheVariants.{One}
use Rattle.md_parts.specs.Fields.{Field, is_place, place_field, word_field}
use Rattle.md_parts.specs.FirstRecord.{word_among}
use Rattle.md_parts.specs.LastRecord.{read_end}
use Rattle.md_parts.specs.Path.{pivot_of, wide_of}
use Rattle.md_parts.specs.Reading.{◌>>=◌, nothing_more, answered, read_record}
use Rattle.md_parts.specs.Repeated.{comes_next, repeated}
use Rattle.md_parts.specs.Rows.{number_row, entry_row, first_row, end_row, mechanism_rows, pivot_row, ray_rows, value_row, wide_rows, again_row}
use Rattle.md_parts.specs.Table.{mechanism_of, ray_of, value_of}
use Rattle.md_parts.specs.Written.{Holds, IsWrittenBefore}
use Rattle.md_parts.proofs.WrittenRecords.{holds-none, holds-cons, number_field-holds}
use Rattle.md_parts.proofs.WrittenRows.{HoldFrom, place-holds, repeated-written}
use Rattle.md_parts.proofs.WrittenTables.{written-then, written-as, written-record}
use Rattle.md_parts.proofs.WrittenParts.{end-written, mechanism-written, ray-written, value-written, wide-written, IsSome, mechanism-some, payments-some, wide-some}
use Rattle.md_tree.specs.AnswerTo.{AreFixedFrom, IsDetAnswerTo, HasPlaces}
use Rattle.md_tree.specs.declared.answer.DetAnswer.{DetAnswer}
use Rattle.md_tree.specs.declared.answer.DetAnswer.TheVariants.{Optimal, Infeasible, Unbounded, TooWide}
use Rattle.md_tree.specs.declared.kind.Kind.{Kind}
use Rattle.md_tree.specs.declared.kind.Kind.TheVariants as kind
use Rattle.md_tree.specs.AnswerText.{kind_read, fixed_fields, after_fixed, fixed_of, answer_by, whole_answer, determ_answer_of}
use Rattle.md_tree.specs.Kinds.{answer_words, kind_of, word_of}
use Rattle.md_tree.specs.Rows.{tree_rows, fixed_row, inner_rows, kind_in, answer_rows, text_of_determ}
use Rattle.md_tree.specs.TreeText.{tree_of}
use Rattle.md_tree.proofs.TreesWritten.{tree-written, tree-some}

abbrev Rows : Type 0
Rows = List (List (List ℕ))

-- ---- what is fixed

abbrev pair_numbers : Pivot → List ℤ
pair_numbers p = pos p.row ∷ pos p.column ∷ []

pair_rows-as : (pairs : List Pivot) → map (number_row (codes "fix")) (map pair_numbers pairs) ≡ map fixed_row pairs
pair_rows-as [] = refl
pair_rows-as (p ∷ pairs) = ap (λ (l : Rows). fixed_row p ∷ l) (pair_rows-as pairs)

pairs-of : (pairs : List Pivot) → map pivot_of (map pair_numbers pairs) ≡ pairs
pairs-of [] = refl
pairs-of (p ∷ pairs) = ap (λ (l : List Pivot). p ∷ l) (pairs-of pairs)

pair-holds : (from profiles outcomes row column : ℕ) → from ≤ row → row < profiles → column < outcomes → profiles ≤ 2 ^ 32 → outcomes ≤ 2 ^ 32
    → Holds (place_field from profiles ∷ place_field 0 outcomes ∷ []) (text_of (pos row) ∷ text_of (pos column) ∷ []) (pos row ∷ pos column ∷ [])
pair-holds from profiles outcomes row column l m o few few_outcomes =
    holds-cons (place_field from profiles) (place_field 0 outcomes ∷ []) (text_of (pos row)) (text_of (pos column) ∷ []) (pos row) (pos column ∷ [])
    (number_field-holds 62 (is_place from profiles) (pos row) (lit≤ tt) (place-holds from profiles row l m few))
    (holds-cons (place_field 0 outcomes) [] (text_of (pos column)) [] (pos column) [] (number_field-holds 62 (is_place 0 outcomes) (pos column) (lit≤ tt) (place-holds 0 outcomes column (omega arith) o few_outcomes)) holds-none)

pairs-hold : (s : GeneralSetting) (least : ℕ) (pairs : List Pivot) → IsShaped s → AreFixedFrom s least pairs → HoldFrom (fixed_fields s) after_fixed least (map pair_numbers pairs)
pairs-hold s least [] shaped h = tt
pairs-hold s least (p ∷ pairs) shaped h =
    let few : profile_count (sizes_of s) ≤ 2 ^ 32 = let l = shaped.listed.space.few_profiles in omega (arith, l) in
    let few_outcomes : outcome_count s ≤ 2 ^ 32 = let l = shaped.listed.few_outcomes in omega (arith, l) in (
      pair-holds least (profile_count (sizes_of s)) (outcome_count s) p.row p.column h.0 h.1 h.2 few few_outcomes,
      pairs-hold s (p.row + 1) pairs shaped (subst (λ (n : ℕ). AreFixedFrom s n pairs) (sym (add-one p.row)) h.3),
    )

fixed-written : (s : GeneralSetting) (pairs : List Pivot) (others : Rows) → IsShaped s → AreFixedFrom s 0 pairs → comes_next (codes "fix") others ≡ false → IsWrittenBefore others (fixed_of s) (map fixed_row pairs) pairs
fixed-written s pairs others shaped h ends =
    let records = map pair_numbers pairs in
    subst (λ (found : List Pivot). IsWrittenBefore others (fixed_of s) (map fixed_row pairs) found) (pairs-of pairs)
    (written-as others (repeated (codes "fix") (fixed_fields s) after_fixed 0) (λ rs. map pivot_of rs) (map fixed_row pairs) records
    (subst (λ (l : Rows). IsWrittenBefore others (repeated (codes "fix") (fixed_fields s) after_fixed 0) l records) (pair_rows-as pairs) (record {
      read = λ n.
          repeated-written (codes "fix") (fixed_fields s) after_fixed 0 records n others (pairs-hold s 0 pairs shaped h) ends
          ∙ ap (λ (k : ℕ). Ok (records, record { read = n + k; left = others })) (sym (length-map records (number_row (codes "fix"))));
    })))

-- no fixed pair stands after a path
no-pair : (path : List Pivot) (row : List (List ℕ)) (others : Rows) → comes_next (codes "fix") (row ∷ []) ≡ false → comes_next (codes "fix") (map pivot_row path ++ row ∷ others) ≡ false
no-pair [] row others h = h
no-pair (p ∷ path) row others h = refl

-- ---- the answers

abbrev the_end : Rows
the_end = end_row ∷ []

inner-written : (s : GeneralSetting) (a : DetAnswer) → IsShaped s → IsDetAnswerTo s a → HasPlaces a → IsWrittenBefore the_end (answer_by s (kind_in a)) (inner_rows s a) a
inner-written s (Optimal value m tree) shaped h p =
    let rest = mechanism_rows s m ++ tree_rows s tree in
    written-then the_end value_of (λ v. mechanism_of s >>= (λ found. tree_of s >>= (λ t. nothing_more (Optimal v found t)))) (value_row value ∷ []) rest value (Optimal value m tree)
    (value-written value (rest ++ the_end) h.0)
    (written-then the_end (mechanism_of s) (λ found. tree_of s >>= (λ t. nothing_more (Optimal value found t))) (mechanism_rows s m) (tree_rows s tree) m (Optimal value m tree)
    (mechanism-written s m (tree_rows s tree ++ the_end) h.1)
    (written-as the_end (tree_of s) (λ t. Optimal value m t) (tree_rows s tree) tree (tree-written s tree the_end shaped h.2 refl)))
inner-written s (Infeasible tree) shaped h p = written-as the_end (tree_of s) (λ t. Infeasible t) (tree_rows s tree) tree (tree-written s tree the_end shaped h refl)
inner-written s (Unbounded m ray) shaped h p =
    written-then the_end (mechanism_of s) (λ found. ray_of s >>= (λ r. nothing_more (Unbounded found r))) (mechanism_rows s m) (ray_rows s ray) m (Unbounded m ray)
    (mechanism-written s m (ray_rows s ray ++ the_end) h.0)
    (written-as the_end (ray_of s) (λ r. Unbounded m r) (ray_rows s ray) ray (ray-written s ray the_end h.1))
inner-written s (TooWide fixed first second) shaped h p =
    let last = again_row ∷ wide_rows second in
    let rest = wide_rows first ++ last in
    let ends : comes_next (codes "fix") (rest ++ the_end) ≡ false =
    ap (λ (l : Rows). comes_next (codes "fix") l) (append_assoc (wide_rows first) last the_end ∙ append_assoc (map pivot_row first.path) (entry_row first.entry ∷ []) (last ++ the_end)) ∙ no-pair first.path (entry_row first.entry) (last ++ the_end) refl in
    written-then the_end (fixed_of s) (λ f. wide_of >>= (λ one. read_record (codes "again") [] >>= (λ _. wide_of >>= (λ two. nothing_more (TooWide f one two))))) (map fixed_row fixed) rest fixed (TooWide fixed first second)
    (fixed-written s fixed (rest ++ the_end) shaped h.0 ends)
    (written-then the_end wide_of (λ one. read_record (codes "again") [] >>= (λ _. wide_of >>= (λ two. nothing_more (TooWide fixed one two)))) (wide_rows first) last first (TooWide fixed first second)
    (wide-written first (last ++ the_end) h.1 p.0)
    (written-then the_end (read_record (codes "again") []) (λ _. wide_of >>= (λ two. nothing_more (TooWide fixed first two))) (again_row ∷ []) (wide_rows second) [] (TooWide fixed first second)
    (written-record (wide_rows second ++ the_end) (codes "again") [] [] [] holds-none)
    (written-as the_end wide_of (λ two. TooWide fixed first two) (wide_rows second) second (wide-written second the_end h.2 p.1))))

-- the place of a kind's word
abbrev place_of : Kind → ℕ
place_of kind.Optimal = 0
place_of kind.Infeasible = 1
place_of kind.Unbounded = 2
place_of kind.TooWide = 3

word-among : (k : Kind) → word_among answer_words (word_of k) ≡ Some (pos (place_of k))
word-among kind.Optimal = refl
word-among kind.Infeasible = refl
word-among kind.Unbounded = refl
word-among kind.TooWide = refl

kind-placed : (k : Kind) → kind_of (place_of k) ≡ k
kind-placed kind.Optimal = refl
kind-placed kind.Infeasible = refl
kind-placed kind.Unbounded = refl
kind-placed kind.TooWide = refl

kind-written : (k : Kind) (others : Rows) → IsWrittenBefore others kind_read (first_row One (codes "determ") (word_of k) ∷ []) k
kind-written k others =
    let fields : List Field = word_field (codes "1") ∷ word_field (codes "determ") ∷ word_among answer_words ∷ [] in
    let numbers : List ℤ = pos 0 ∷ pos 0 ∷ pos (place_of k) ∷ [] in
    let last : Holds (word_among answer_words ∷ []) (word_of k ∷ []) (pos (place_of k) ∷ []) = holds-cons (word_among answer_words) [] (word_of k) [] (pos (place_of k)) [] (word-among k) holds-none in
    let holds : Holds fields (codes "1" ∷ codes "determ" ∷ word_of k ∷ []) numbers =
    holds-cons (word_field (codes "1")) (word_field (codes "determ") ∷ word_among answer_words ∷ []) (codes "1") (codes "determ" ∷ word_of k ∷ []) (pos 0) (pos 0 ∷ pos (place_of k) ∷ []) refl
    (holds-cons (word_field (codes "determ")) (word_among answer_words ∷ []) (codes "determ") (word_of k ∷ []) (pos 0) (pos (place_of k) ∷ []) refl last) in
    subst (λ (found : Kind). IsWrittenBefore others kind_read (first_row One (codes "determ") (word_of k) ∷ []) found) (kind-placed k)
    (written-as others (read_record (codes "answer") fields) (λ found. kind_of (unsigned_abs (number_at found 2))) (first_row One (codes "determ") (word_of k) ∷ []) numbers
    (written-record others (codes "answer") fields (codes "1" ∷ codes "determ" ∷ word_of k ∷ []) numbers holds))

whole-written : (s : GeneralSetting) (a : DetAnswer) → IsShaped s → IsDetAnswerTo s a → HasPlaces a → IsWrittenBefore [] (whole_answer s) (answer_rows s a) a
whole-written s a shaped h p =
    written-then [] kind_read (λ k. answer_by s k >>= (λ answer. read_end >>= (λ _. nothing_more answer))) (first_row One (codes "determ") (word_of (kind_in a)) ∷ []) (inner_rows s a ++ the_end) (kind_in a) a
    (kind-written (kind_in a) ((inner_rows s a ++ the_end) ++ []))
    (written-then [] (answer_by s (kind_in a)) (λ answer. read_end >>= (λ _. nothing_more answer)) (inner_rows s a) the_end a a
    (inner-written s a shaped h p) (written-as [] read_end (λ _. a) the_end tt end-written))

-- ---- the text

pairs-some : (pairs : List Pivot) → All IsSome (map fixed_row pairs)
pairs-some [] = All-nil IsSome
pairs-some (p ∷ pairs) = All-cons IsSome (fixed_row p) (map fixed_row pairs) (omega arith) (pairs-some pairs)

inner-some : (s : GeneralSetting) (a : DetAnswer) → All IsSome (inner_rows s a)
inner-some s (Optimal value m tree) = All-cons IsSome (value_row value) (mechanism_rows s m ++ tree_rows s tree) (omega arith) (All-append IsSome (mechanism_rows s m) (tree_rows s tree) (mechanism-some s m) (tree-some s tree))
inner-some s (Infeasible tree) = tree-some s tree
inner-some s (Unbounded m ray) = All-append IsSome (mechanism_rows s m) (ray_rows s ray) (mechanism-some s m) (payments-some (codes "ray") s ray s.payments)
inner-some s (TooWide fixed first second) =
    All-append IsSome (map fixed_row fixed) (wide_rows first ++ again_row ∷ wide_rows second) (pairs-some fixed)
    (All-append IsSome (wide_rows first) (again_row ∷ wide_rows second) (wide-some first) (All-cons IsSome again_row (wide_rows second) (omega arith) (wide-some second)))

answer-read_back : (s : GeneralSetting) (a : DetAnswer) → IsReadBack (answer_rows s a)
answer-read_back s a = record {
  fields = All-cons IsSome (first_row One (codes "determ") (word_of (kind_in a))) (inner_rows s a ++ the_end) (omega arith)
      (All-append IsSome (inner_rows s a) the_end (inner-some s a) (All-cons IsSome end_row [] (omega arith) (All-nil IsSome)));
  no_mark = λ e. first_byte e;
}
  where
    first_byte : ◌≡◌ {A = ℕ} 97 239 → ⊥
    first_byte e = omega arith

pub determ-reads_back : (s : GeneralSetting) (a : DetAnswer) → IsShaped s → IsDetAnswerTo s a → HasPlaces a → determ_answer_of s (text_of_determ s a) ≡ Ok a
determ-reads_back s a shaped h p =
    ap (λ (l : Rows). answered (whole_answer s record { read = 0; left = l })) (records_of-text (answer_rows s a) (answer-read_back s a) ∙ sym (append-nil (answer_rows s a)))
    ∙ ap answered ((whole-written s a shaped h p).read 0)
