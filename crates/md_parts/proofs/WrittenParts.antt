-- Parts that are written are read as the same parts.
use Rattle.std.proofs.Common.{◌≡◌, ℕ, zero, suc, ◌+◌, ◌*◌, ◌/◌, ◌%◌, ◌<◌, ◌≤◌, ◌-◌, ◌^◌, ℤ, pos, ◌≤ℤ◌, ◌<ℤ◌, int_le, unsigned_abs, Bool, true, false, List, [], ◌∷◌, ◌++◌, map, length, codes, Option, None, Some, IfSome, Ok, if◌then◌else◌, refl, sym, ap, ap₂, subst, ◌∙◌, arith, All, add-zero, lit≤}
use Rattle.std.proofs.Math.Nat.{div-mul-le_self}
use Rattle.std.proofs.lemmas.Int.{ints}
use Rattle.std.proofs.lemmas.List.{length-map}
use Rattle.std.proofs.lemmas.List.Elements.{All-nil, All-cons, All-append, All-head, All-tail}
use Rattle.std.specs.List.{list_all}
use Rattle.std.specs.Str.{bytes_eq}
use Rattle.std.proofs.lemmas.Slice.Eq.{bytes_eq-Decides}
use Rattle.std.specs.Ordering.{int_eq}
use Rattle.md_math.specs.Lists.{number_at, up_to}
use Rattle.md_math.specs.Sizes.{IsWithin, AllWithin}
use Rattle.md_math.proofs.SizeLaws.{AllWithin-number_at}
use Rattle.md_math.proofs.Builders.{same_list_to, All-up_to}
use Rattle.md_num.specs.WholeText.{text_of}
use Rattle.md_num.specs.declared.frac.Frac.{Frac}
use Rattle.md_space.specs.Profiles.{profile_count, profile_at, rank_of}
use Rattle.md_space.specs.AllProfiles.{profiles_of}
use Rattle.md_space.proofs.Ranks.{rank_of-profile_at, profile_at-IsProfile}
use Rattle.md_setting.specs.Setting.{GeneralSetting}
use Rattle.md_setting.specs.Meaning.{agent_count, outcome_count, sizes_of}
use Rattle.md_mech.specs.declared.mechanism.Mechanism.{Mechanism}
use Rattle.md_mech.specs.Accepted.{IsAccepted}
use Rattle.md_lp.specs.declared.pivot.Pivot.{Pivot}
use Rattle.md_lp.specs.declared.entry.Entry.{Entry}
use Rattle.md_lp.specs.declared.wide.Wide.{Wide}
use Rattle.md_cert.specs.declared.bound.Bound.{Bound}
use Rattle.md_parts.specs.declared.version.Version.{Version}
use Rattle.md_parts.specs.declared.version.Version.TheVariants.{One, Two}
use Rattle.md_parts.specs.Versions.{version_text, version_number, version_of, version_field}
use Rattle.md_parts.specs.FirstRecord.{word_among_from, word_among, word_at, stands_in, in_version, first_of}
use Rattle.md_parts.specs.LastRecord.{read_end}
use Rattle.md_parts.specs.Written.{Holds, IsWrittenBefore}
use Rattle.md_parts.specs.Fields.{Field, word_field, denominator_field, wide_number, wide_denominator, table_place}
use Rattle.md_parts.specs.Reading.{◌>>=◌, nothing_more, read_record}
use Rattle.md_parts.specs.Repeated.{comes_next, repeated}
use Rattle.md_parts.specs.Table.{denominator_of, lottery_of, each_profile, all_payments_of, mechanism_of, ray_of, value_of}
use Rattle.md_parts.specs.Multipliers.{row_fields, after_row, number_for, numbers_for, row_records, bound_denominator, bound_of, face_of}
use Rattle.md_parts.specs.Path.{pivot_fields, no_change, pivot_of, path_of, entry_of, wide_of, second_of, version_with}
use Rattle.md_parts.specs.Fitting.{IsFraction, AreMultipliers, IsBoundOver, IsRayFor, HasFraction, IsTablePlace, HasWidePlaces}
use Rattle.md_parts.specs.Rows.{number_row, first_row, end_row, profile_row, profile_rows, payment_rows, mechanism_rows, ray_rows, value_row, row_unless_zero, face_rows, bound_rows, pivot_row, entry_row, wide_rows, again_row, second_rows}
use Rattle.md_parts.proofs.NumbersRead.{IsInField}
use Rattle.md_parts.proofs.WrittenRecords.{holds-none, holds-cons, holds-names, number_field-holds}
use Rattle.md_parts.proofs.WrittenRows.{HoldFrom, repeated-written, records_from, rows-written, place-holds, hold-from, number-from}
use Rattle.md_parts.proofs.WrittenTables.{written-then, written-as, written-record, lotteries-written, payments-written}

abbrev Rows : Type 0
Rows = List (List (List ℕ))

-- ---- numbers in their fields

true-int_le : (a z : ℤ) → a ≤ℤ z → int_le a z ≡ true
true-int_le a z h = grind (arith, ints)

one-up : (z : ℤ) → pos 0 <ℤ z → int_le (pos 1) z ≡ true
one-up z h = grind (arith, ints)

wide-holds : (z : ℤ) → IsWithin (2 ^ 126 - 1) z → wide_number (text_of z) ≡ Some z
wide-holds z h = number_field-holds 126 (λ _. true) z (lit≤ tt) (record { passes = refl; small = h })

wide_denominator-holds : (z : ℤ) → pos 1 ≤ℤ z → IsWithin (2 ^ 126 - 1) z → wide_denominator (text_of z) ≡ Some z
wide_denominator-holds z l h = number_field-holds 126 (int_le (pos 1)) z (lit≤ tt) (record { passes = true-int_le (pos 1) z l; small = h })

denominator-holds : (z : ℤ) → int_le (pos 1) z ≡ true → IsWithin (2 ^ 62 - 1) z → Holds (denominator_field ∷ []) (text_of z ∷ []) (z ∷ [])
denominator-holds z l h = holds-cons denominator_field [] (text_of z) [] z [] (number_field-holds 62 (int_le (pos 1)) z (lit≤ tt) (record { passes = l; small = h })) holds-none

fraction-holds : (num den : ℤ) → IsFraction num den → Holds (wide_number ∷ wide_denominator ∷ []) (text_of num ∷ text_of den ∷ []) (num ∷ den ∷ [])
fraction-holds num den h =
    holds-cons wide_number (wide_denominator ∷ []) (text_of num) (text_of den ∷ []) num (den ∷ []) (wide-holds num h.num_size)
    (holds-cons wide_denominator [] (text_of den) [] den [] (wide_denominator-holds den h.positive h.den_size) holds-none)

table_place-holds : (place : ℕ) → place < 2 ^ 32 → table_place (text_of (pos place)) ≡ Some (pos place)
table_place-holds place l = number_field-holds 62 _ (pos place) (lit≤ tt) (place-holds 0 (2 ^ 32) place (omega arith) l (omega arith))

places-hold : (row column : ℕ) (fields : List Field) (texts : List (List ℕ)) (numbers : List ℤ) → IsTablePlace row column → Holds fields texts numbers
    → Holds (table_place ∷ table_place ∷ fields) (text_of (pos row) ∷ text_of (pos column) ∷ texts) (pos row ∷ pos column ∷ numbers)
places-hold row column fields texts numbers p h =
    holds-cons table_place (table_place ∷ fields) (text_of (pos row)) (text_of (pos column) ∷ texts) (pos row) (pos column ∷ numbers) (table_place-holds row p.row_in)
    (holds-cons table_place fields (text_of (pos column)) texts (pos column) numbers (table_place-holds column p.column_in) h)

-- ---- the first record and the last

version-text : (v : Version) → version_field (version_text v) ≡ Some (version_number v)
version-text One = refl
version-text Two = refl

version-number : (v : Version) → version_of (version_number v) ≡ v
version-number One = refl
version-number Two = refl

first-holds : (v : Version) (kind word : List ℕ) (words : List (List ℕ)) (place : ℕ) → word_among words word ≡ Some (pos place)
    → Holds (version_field ∷ word_field kind ∷ word_among words ∷ []) (version_text v ∷ kind ∷ word ∷ []) (version_number v ∷ pos 0 ∷ pos place ∷ [])
first-holds v kind word words place is =
    holds-cons version_field (word_field kind ∷ word_among words ∷ []) (version_text v) (kind ∷ word ∷ []) (version_number v) (pos 0 ∷ pos place ∷ []) (version-text v)
    (holds-names (kind ∷ []) (word_among words ∷ []) (word ∷ []) (pos place ∷ []) (holds-cons (word_among words) [] word [] (pos place) [] is holds-none))

-- the place of a word is one where it stands
among-from : (words : List (List ℕ)) (word : List ℕ) (from place : ℕ) → word_among_from from words word ≡ Some (pos place) → (from ≤ place) × (word_at words (place - from) ≡ word)
among-from [] word from place h = absurd (let e : None ≡ Some (pos place) = h in cc)
among-from (first ∷ words) word from place h = by_test (bytes_eq word first) refl h (λ more. among-from words word (from + 1) place more)
  where
    by_test : (b : Bool) → bytes_eq word first ≡ b → (if b then Some (pos from) else word_among_from (from + 1) words word) ≡ Some (pos place)
        → (word_among_from (from + 1) words word ≡ Some (pos place) → (from + 1 ≤ place) × (word_at words (place - (from + 1)) ≡ word)) → (from ≤ place) × (word_at (first ∷ words) (place - from) ≡ word)
    by_test true e h more =
        let same : pos from ≡ pos place = cc in
        let places : from ≡ place = cc in
        let none : place - from ≡ 0 = omega arith in
        (omega arith, ap (λ (k : ℕ). word_at (first ∷ words) k) none ∙ sym ((bytes_eq-Decides word first).0 e))
    by_test false e h more =
        let (l, at) = more h in
        let next : place - from ≡ suc (place - (from + 1)) = omega arith in
        (omega arith, ap (λ (k : ℕ). word_at (first ∷ words) k) next ∙ at)

-- a word that stands in the version is read as it is
stands-written : (others : Rows) (words : List (List ℕ)) (v : Version) (place : ℕ) → stands_in v (word_at words place) ≡ true → IsWrittenBefore others (in_version words v place) [] (record { version = v; word = place })
stands-written others words v place stands = record { read = λ n. rw (stands, add-zero n) refl }

pub first-written : (v : Version) (kind word : List ℕ) (words : List (List ℕ)) (place : ℕ) (others : Rows) → word_among words word ≡ Some (pos place) → stands_in v word ≡ true
    → IsWrittenBefore others (first_of kind words) (first_row v kind word ∷ []) (record { version = v; word = place })
first-written v kind word words place others is stands =
    let fields : List Field = version_field ∷ word_field kind ∷ word_among words ∷ [] in
    let numbers : List ℤ = version_number v ∷ pos 0 ∷ pos place ∷ [] in
    let none : place - 0 ≡ place = omega arith in
    let at : word_at words place ≡ word = ap (λ (k : ℕ). word_at words k) (sym none) ∙ (among-from words word 0 place is).1 in
    written-then others (read_record (codes "answer") fields) (λ found. in_version words (version_of (number_at found 0)) (unsigned_abs (number_at found 2))) (first_row v kind word ∷ []) [] numbers (record { version = v; word = place })
    (written-record others (codes "answer") fields (version_text v ∷ kind ∷ word ∷ []) numbers (first-holds v kind word words place is))
    (rw (version-number v) (stands-written others words v place (ap (λ (w : List ℕ). stands_in v w) at ∙ stands)))

pub end-written : IsWrittenBefore [] read_end (end_row ∷ []) tt
end-written = record { read = λ n. refl }

-- ---- mechanisms

-- where payments are off, each payment is 0
row-below : (k w n : ℕ) → k < n * w → k / w < n
row-below k w n l = below_if (k / w) n w k (div-mul-le_self k w) l
  where
    below_if : (q n w k : ℕ) → q * w ≤ k → k < n * w → q < n
    below_if q n w k h l = grind arith

block-place : (k w : ℕ) → 0 < w → (k / w * w + k % w ≡ k) × (k % w < w)
block-place k w l = (grind arith, omega arith)

width-some : (k n w : ℕ) → k < n * w → 0 < w
width-some k n zero l = absurd (grind arith)
width-some k n (suc w) l = omega arith

unpaid : (s : GeneralSetting) (m : Mechanism) → IsAccepted s m → s.payments ≡ false → (k : ℕ) → k < length m.pays → number_at m.pays k ≡ pos 0
unpaid s m accepted off k l =
    let w = agent_count s in
    let long : length m.pays ≡ profile_count (sizes_of s) * w = accepted.mechanism.pay_count in
    let inside : k < profile_count (sizes_of s) * w = omega (arith, l, long) in
    let some = width-some k (profile_count (sizes_of s)) w inside in
    let below = row-below k w (profile_count (sizes_of s)) inside in
    let (whole, part) = block-place k w some in
    let t = profile_at (sizes_of s) (k / w) in
    let zero_there = accepted.mechanism.no_payment off t (k % w) (profile_at-IsProfile (sizes_of s) (k / w) below) part in
    let place : rank_of (sizes_of s) t * w + k % w ≡ k = ap (λ (r : ℕ). r * w + k % w) (rank_of-profile_at (sizes_of s) (k / w) below) ∙ whole in
    ap (λ (i : ℕ). number_at m.pays i) (sym place) ∙ zero_there

pub mechanism-written : (s : GeneralSetting) (m : Mechanism) (others : Rows) → IsAccepted s m → IsWrittenBefore others (mechanism_of s) (mechanism_rows s m) m
mechanism-written s m others accepted =
    let lots = profile_rows (codes "lottery") s m.chances (outcome_count s) in
    let pays = payment_rows (codes "pay") s m.pays s.payments in
    let table : Rows = number_row (codes "table") (m.den ∷ []) ∷ [] in
    written-then others denominator_of (λ den. each_profile (lottery_of s den) (profiles_of (sizes_of s)) >>= (λ chances. all_payments_of (codes "pay") s s.payments >>= (λ paid. nothing_more (record { den = den; chances = chances; pays = paid })))) table (lots ++ pays) m.den m
    (written-as ((lots ++ pays) ++ others) (read_record (codes "table") (denominator_field ∷ [])) (λ numbers. number_at numbers 0) table (m.den ∷ [])
    (written-record ((lots ++ pays) ++ others) (codes "table") (denominator_field ∷ []) (text_of m.den ∷ []) (m.den ∷ []) (denominator-holds m.den (true-int_le (pos 1) m.den accepted.mechanism.den) accepted.den_size)))
    (written-then others (each_profile (lottery_of s m.den) (profiles_of (sizes_of s))) (λ chances. all_payments_of (codes "pay") s s.payments >>= (λ paid. nothing_more (record { den = m.den; chances = chances; pays = paid }))) lots pays m.chances m
    (lotteries-written s m (pays ++ others) accepted)
    (written-as others (all_payments_of (codes "pay") s s.payments) (λ paid. record { den = m.den; chances = m.chances; pays = paid }) pays m.pays
    (payments-written (codes "pay") s m.pays s.payments others refl accepted.mechanism.pay_count accepted.pay_size (unpaid s m accepted))))

pub ray-written : (s : GeneralSetting) (ray : List ℤ) (others : Rows) → IsRayFor s ray → IsWrittenBefore others (ray_of s) (ray_rows s ray) ray
ray-written s ray others h = payments-written (codes "ray") s ray s.payments others refl h.one_each h.sizes (λ off k l. h.off off k)

pub value-written : (value : Frac) (others : Rows) → IsFraction value.num value.den → IsWrittenBefore others value_of (value_row value ∷ []) value
value-written value others h =
    written-as others (read_record (codes "value") (wide_number ∷ wide_denominator ∷ [])) (λ numbers. record { num = number_at numbers 0; den = number_at numbers 1 }) (value_row value ∷ []) (value.num ∷ value.den ∷ [])
    (written-record others (codes "value") (wide_number ∷ wide_denominator ∷ []) (text_of value.num ∷ text_of value.den ∷ []) (value.num ∷ value.den ∷ []) (fraction-holds value.num value.den h))

-- ---- multipliers

-- so many multipliers for each row, all small
pub record AreRowsOf (rows count : ℕ) (f : ℕ → List ℤ) : Type 0 where
  pub each : (k : ℕ) → k < rows → (length (f k) ≡ count) × All (IsInField 62 (λ _. true)) (f k)

rows-read : (rows count : ℕ) (f : ℕ → List ℤ) (others : Rows) → AreRowsOf rows count f → rows ≤ 2 ^ 32 → comes_next (codes "row") others ≡ false
    → IsWrittenBefore others (row_records rows count) (up_to rows (λ r. row_unless_zero r (f r))) (records_from 0 rows f)
rows-read rows count f others h few ends =
    subst (λ (l : Rows). IsWrittenBefore others (row_records rows count) l (records_from 0 rows f)) (sym (rows-written rows f)) (record {
      read = λ n.
          repeated-written (codes "row") (row_fields rows count) after_row 0 (records_from 0 rows f) n others (hold-from rows count 0 rows 0 f h.each (omega arith) (omega arith) few) ends
          ∙ ap (λ (k : ℕ). Ok (records_from 0 rows f, record { read = n + k; left = others })) (sym (length-map (records_from 0 rows f) (number_row (codes "row"))));
    })

-- the multipliers at one place of each row
column-read : (rows place : ℕ) (f : ℕ → List ℤ) (numbers : List ℤ) → length numbers ≡ rows → ((k : ℕ) → number_at (f k) place ≡ number_at numbers k) → numbers_for (suc place) rows (records_from 0 rows f) ≡ numbers
column-read rows place f numbers long same =
    sym (same_list_to numbers rows (number_for (suc place) (records_from 0 rows f)) (pos 0) long (λ k l. sym (number-from rows k place f l ∙ same k)))

small-multiplier : (numbers : List ℤ) (k : ℕ) → AllWithin (2 ^ 62 - 1) numbers → IsInField 62 (λ _. true) (number_at numbers k)
small-multiplier numbers k all = record { passes = refl; small = AllWithin-number_at (2 ^ 62 - 1) numbers k all }

abbrev Small : ℤ → Type 0
Small z = IsInField 62 (λ _. true) z

abbrev pub face_row : List ℤ → ℕ → List ℤ
face_row face r = number_at face r ∷ []

pub face-written : (rows : ℕ) (face : List ℤ) (others : Rows) → AreMultipliers rows face → rows ≤ 2 ^ 32 → comes_next (codes "row") others ≡ false → IsWrittenBefore others (face_of rows) (face_rows rows face) face
face-written rows face others h few ends =
    let are : AreRowsOf rows 1 (face_row face) = record { each = λ k l. (refl, All-cons Small (number_at face k) [] (small-multiplier face k h.sizes) (All-nil Small)) } in
    subst (λ (found : List ℤ). IsWrittenBefore others (face_of rows) (face_rows rows face) found) (column-read rows 0 (face_row face) face h.one_each (λ k. refl))
    (written-as others (row_records rows 1) (λ records. numbers_for 1 rows records) (face_rows rows face) (records_from 0 rows (face_row face))
    (rows-read rows 1 (face_row face) others are few ends))

abbrev pub both_row : Bound → ℕ → List ℤ
both_row bound r = number_at bound.face r ∷ number_at bound.main r ∷ []

pub bound-written : (rows : ℕ) (bound : Bound) (others : Rows) → IsBoundOver rows bound → rows ≤ 2 ^ 32 → comes_next (codes "row") others ≡ false → IsWrittenBefore others (bound_of rows) (bound_rows rows bound) bound
bound-written rows bound others h few ends =
    let f = both_row bound in
    let records = records_from 0 rows f in
    let are : AreRowsOf rows 2 f = record {
      each = λ k l. (refl, All-cons Small (number_at bound.face k) (number_at bound.main k ∷ []) (small-multiplier bound.face k h.face.sizes) (All-cons Small (number_at bound.main k) [] (small-multiplier bound.main k h.main.sizes) (All-nil Small)));
    } in
    let texts = up_to rows (λ r. row_unless_zero r (f r)) in
    let first : Rows = number_row (codes "bound") (bound.den ∷ []) ∷ [] in
    let face = column-read rows 0 f bound.face h.face.one_each (λ k. refl) in
    let main = column-read rows 1 f bound.main h.main.one_each (λ k. refl) in
    written-then others bound_denominator (λ den. row_records rows 2 >>= (λ found. nothing_more (record { den = den; main = numbers_for 2 rows found; face = numbers_for 1 rows found }))) first texts bound.den bound
    (written-as (texts ++ others) (read_record (codes "bound") (denominator_field ∷ [])) (λ numbers. number_at numbers 0) first (bound.den ∷ [])
    (written-record (texts ++ others) (codes "bound") (denominator_field ∷ []) (text_of bound.den ∷ []) (bound.den ∷ []) (denominator-holds bound.den (one-up bound.den h.den.positive) h.den.size)))
    (subst (λ (found : Bound). IsWrittenBefore others (row_records rows 2 >>= (λ rs. nothing_more (record { den = bound.den; main = numbers_for 2 rows rs; face = numbers_for 1 rows rs }))) texts found)
    (ap₂ (λ (m f : List ℤ). record { den = bound.den; main = m; face = f }) main face)
    (written-as others (row_records rows 2) (λ rs. record { den = bound.den; main = numbers_for 2 rows rs; face = numbers_for 1 rows rs }) texts records
    (rows-read rows 2 f others are few ends)))

-- ---- paths

abbrev IsPlaced : Pivot → Type 0
IsPlaced p = IsTablePlace p.row p.column

abbrev pivot_numbers : Pivot → List ℤ
pivot_numbers p = pos p.row ∷ pos p.column ∷ []

pivot_rows-as : (path : List Pivot) → map (number_row (codes "pivot")) (map pivot_numbers path) ≡ map pivot_row path
pivot_rows-as [] = refl
pivot_rows-as (p ∷ path) = ap (λ (l : Rows). pivot_row p ∷ l) (pivot_rows-as path)

pivots-of : (path : List Pivot) → map pivot_of (map pivot_numbers path) ≡ path
pivots-of [] = refl
pivots-of (p ∷ path) = ap (λ (l : List Pivot). p ∷ l) (pivots-of path)

pivots-hold : (path : List Pivot) → All IsPlaced path → HoldFrom pivot_fields no_change tt (map pivot_numbers path)
pivots-hold [] all = tt
pivots-hold (p ∷ path) all = (places-hold p.row p.column [] [] [] (All-head IsPlaced p path all) holds-none, pivots-hold path (All-tail IsPlaced p path all))

pub path-written : (path : List Pivot) (others : Rows) → All IsPlaced path → comes_next (codes "pivot") others ≡ false → IsWrittenBefore others path_of (map pivot_row path) path
path-written path others all ends =
    let records = map pivot_numbers path in
    subst (λ (found : List Pivot). IsWrittenBefore others path_of (map pivot_row path) found) (pivots-of path)
    (written-as others (repeated (codes "pivot") pivot_fields no_change tt) (λ rs. map pivot_of rs) (map pivot_row path) records
    (subst (λ (l : Rows). IsWrittenBefore others (repeated (codes "pivot") pivot_fields no_change tt) l records) (pivot_rows-as path) (record {
      read = λ n.
          repeated-written (codes "pivot") pivot_fields no_change tt records n others (pivots-hold path all) ends
          ∙ ap (λ (k : ℕ). Ok (records, record { read = n + k; left = others })) (sym (length-map records (number_row (codes "pivot"))));
    })))

pub entry-written : (entry : Entry) (others : Rows) → IsFraction entry.num entry.den → IsTablePlace entry.row entry.column → IsWrittenBefore others entry_of (entry_row entry ∷ []) entry
entry-written entry others h p =
    let fields : List Field = table_place ∷ table_place ∷ wide_number ∷ wide_denominator ∷ [] in
    let numbers : List ℤ = pos entry.row ∷ pos entry.column ∷ entry.num ∷ entry.den ∷ [] in
    written-as others (read_record (codes "wide") fields) (λ found. record { row = unsigned_abs (number_at found 0); column = unsigned_abs (number_at found 1); num = number_at found 2; den = number_at found 3 }) (entry_row entry ∷ []) numbers
    (written-record others (codes "wide") fields (map text_of numbers) numbers
    (places-hold entry.row entry.column (wide_number ∷ wide_denominator ∷ []) (text_of entry.num ∷ text_of entry.den ∷ []) (entry.num ∷ entry.den ∷ []) p (fraction-holds entry.num entry.den h)))

pub wide-written : (wide : Wide) (others : Rows) → HasFraction wide → HasWidePlaces wide → IsWrittenBefore others wide_of (wide_rows wide) wide
wide-written wide others h p =
    let last = entry_row wide.entry ∷ [] in
    written-then others path_of (λ ps. entry_of >>= (λ e. nothing_more (record { path = ps; entry = e }))) (map pivot_row wide.path) last wide.path wide
    (path-written wide.path (last ++ others) p.0 refl)
    (written-as others entry_of (λ e. record { path = wide.path; entry = e }) last wide.entry (entry-written wide.entry others h p.1))

-- a second part, where there is one
pub second-written : (second : Option Wide) (others : Rows) → IfSome second HasFraction → IfSome second HasWidePlaces → IsWrittenBefore others (second_of (version_with second)) (second_rows second) second
second-written None others h p = record { read = λ n. rw (add-zero n) refl }
second-written (Some second) others h p =
    written-then others (read_record (codes "again") []) (λ _. wide_of >>= (λ w. nothing_more (Some w))) (again_row ∷ []) (wide_rows second) [] (Some second)
    (written-record (wide_rows second ++ others) (codes "again") [] [] [] holds-none)
    (written-as others wide_of (λ w. Some w) (wide_rows second) second (wide-written second others h p))

-- ---- no record is empty

abbrev pub IsSome : List (List ℕ) → Type 0
IsSome row = 0 < length row

some-if : (b : Bool) (word : List ℕ) (numbers : List ℤ) → All IsSome (if b then [] else number_row word numbers ∷ [])
some-if true word numbers = All-nil IsSome
some-if false word numbers = All-cons IsSome (number_row word numbers) [] (omega arith) (All-nil IsSome)

pub rows-some : (rows : ℕ) (f : ℕ → List ℤ) → All IsSome (up_to rows (λ r. row_unless_zero r (f r)))
rows-some rows f = All-up_to IsSome rows (λ r. row_unless_zero r (f r)) (λ k l. some-if (list_all (int_eq (pos 0)) (f k)) (codes "row") (pos k ∷ f k))

profiles-some : (word : List ℕ) (s : GeneralSetting) (numbers : List ℤ) (count : ℕ) → All IsSome (profile_rows word s numbers count)
profiles-some word s numbers count = each (profiles_of (sizes_of s))
  where
    each : (ts : List (List ℕ)) → All IsSome (map (profile_row word s numbers count) ts)
    each [] = All-nil IsSome
    each (t ∷ ts) = All-cons IsSome (profile_row word s numbers count t) (map (profile_row word s numbers count) ts) (omega arith) (each ts)

pub payments-some : (word : List ℕ) (s : GeneralSetting) (numbers : List ℤ) (b : Bool) → All IsSome (payment_rows word s numbers b)
payments-some word s numbers true = profiles-some word s numbers (agent_count s)
payments-some word s numbers false = All-nil IsSome

pub mechanism-some : (s : GeneralSetting) (m : Mechanism) → All IsSome (mechanism_rows s m)
mechanism-some s m =
    let lots = profile_rows (codes "lottery") s m.chances (outcome_count s) in
    let pays = payment_rows (codes "pay") s m.pays s.payments in
    All-cons IsSome (number_row (codes "table") (m.den ∷ [])) (lots ++ pays) (omega arith)
    (All-append IsSome lots pays (profiles-some (codes "lottery") s m.chances (outcome_count s)) (payments-some (codes "pay") s m.pays s.payments))

pivots-some : (path : List Pivot) → All IsSome (map pivot_row path)
pivots-some [] = All-nil IsSome
pivots-some (p ∷ path) = All-cons IsSome (pivot_row p) (map pivot_row path) (omega arith) (pivots-some path)

pub wide-some : (wide : Wide) → All IsSome (wide_rows wide)
wide-some wide = All-append IsSome (map pivot_row wide.path) (entry_row wide.entry ∷ []) (pivots-some wide.path) (All-cons IsSome (entry_row wide.entry) [] (omega arith) (All-nil IsSome))

pub second-some : (second : Option Wide) → All IsSome (second_rows second)
second-some None = All-nil IsSome
second-some (Some second) = All-cons IsSome again_row (wide_rows second) (omega arith) (wide-some second)

-- ---- what the calls that write promise

pub numbers-written : (word : List ℕ) (numbers : List ℤ) (fields : List Field) (others : Rows) → Holds fields (map text_of numbers) numbers → IsWrittenBefore others (read_record word fields) (number_row word numbers ∷ []) numbers
numbers-written word numbers fields others h = written-record others word fields (map text_of numbers) numbers h

pub face-law : (rows : ℕ) (face : List ℤ) → AreMultipliers rows face → rows < 2 ^ 32 → (others : Rows) → comes_next (codes "row") others ≡ false → IsWrittenBefore others (face_of rows) (face_rows rows face) face
face-law rows face h few others ends = face-written rows face others h (omega arith) ends

pub bound-law : (rows : ℕ) (bound : Bound) → IsBoundOver rows bound → rows < 2 ^ 32 → (others : Rows) → comes_next (codes "row") others ≡ false → IsWrittenBefore others (bound_of rows) (bound_rows rows bound) bound
bound-law rows bound h few others ends = bound-written rows bound others h (omega arith) ends

pub path-law : (path : List Pivot) (others : Rows) → All (λ (p : Pivot). IsTablePlace p.row p.column) path → comes_next (codes "pivot") others ≡ false → IsWrittenBefore others path_of (map pivot_row path) path
path-law path others all ends = path-written path others all ends

pub pays-law : (word : List ℕ) (s : GeneralSetting) (pays : List ℤ) (others : Rows) → IsRayFor s pays → IsWrittenBefore others (all_payments_of word s s.payments) (payment_rows word s pays s.payments) pays
pays-law word s pays others h = payments-written word s pays s.payments others refl h.one_each h.sizes (λ off k l. h.off off k)

pub mechanism-law : (s : GeneralSetting) (m : Mechanism) → IsAccepted s m → (others : Rows) → IsWrittenBefore others (mechanism_of s) (mechanism_rows s m) m
mechanism-law s m h others = mechanism-written s m others h

pub ruleset laws = (numbers-written, first-written, end-written, face-law, bound-law, path-law, entry-written, wide-written, second-written, value-written, pays-law, mechanism-law)
