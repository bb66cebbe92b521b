-- What records are written as, and what that text reads as.
use Rattle.std.proofs.Common.{ℕ, suc, ◌+◌, ◌<◌, ◌≤◌, ◌≡◌, ◌≢◌, ◌==◌, List, [], ◌∷◌, ◌++◌, Some, true, false, if◌then◌else◌, length, take, get_or, refl, sym, ap, ◌∙◌, arith, append-nil, append_assoc, take_all}
use Rattle.std.specs.List.{All}
use Rattle.std.proofs.lemmas.List.{take_more}
use Rattle.std.proofs.lemmas.Bool.Decides.{nat_tests}
use Rattle.csv.specs.Reading.{strip_bom}
use Rattle.csv.specs.Writing.{default_writer, with_flexible, row_text, row_body, fields_text, field_text, escaped, is_blank, read_back}
use Rattle.csv.specs.declared.writer.WriterBuilder.{WriterBuilder}
use Rattle.csv.specs.declared.parser.State.TheVariants as st
use Rattle.csv.proofs.RoundTrip.{read-write}
use Rattle.md_records.specs.Text.{records_of, records_left}
use Rattle.md_records.specs.Written.{record_text, text_of_records, IsReadBack}
use Rattle.md_records.proofs.NextRecord.{records_from-step, records_from-none, next_record-end}

-- a writer that takes records of any length
abbrev pub any_length : WriterBuilder
any_length = with_flexible default_writer true

-- writes each record as the default writer does
escaped-same : (field : List ℕ) → escaped any_length field ≡ escaped default_writer field
unfolding escaped
escaped-same [] = refl
escaped-same (b ∷ rest) = ap (λ (t : List ℕ). if b == 34 then 34 ∷ b ∷ t else b ∷ t) (escaped-same rest)

field_text-same : (field : List ℕ) → field_text any_length field ≡ field_text default_writer field
field_text-same field = rw (escaped-same field) refl

fields_text-same : (fields : List (List ℕ)) → fields_text any_length fields ≡ fields_text default_writer fields
unfolding fields_text
fields_text-same [] = refl
fields_text-same (field ∷ rest) = rw (field_text-same field, fields_text-same rest) refl

is_blank-same : (fields : List (List ℕ)) → is_blank any_length fields ≡ is_blank default_writer fields
unfolding is_blank
is_blank-same [] = refl
is_blank-same (field ∷ []) = rw (field_text-same field) refl
is_blank-same (field ∷ next ∷ rest) = refl

row_body-same : (fields : List (List ℕ)) → row_body any_length fields ≡ row_body default_writer fields
row_body-same [] = refl
row_body-same (field ∷ rest) = rw (field_text-same field, fields_text-same rest) refl

pub row_text-same : (fields : List (List ℕ)) → row_text any_length fields ≡ row_text default_writer fields
row_text-same fields = rw (row_body-same fields, is_blank-same fields) refl

-- one record more at the end
pub text_of_records-more : (rows : List (List (List ℕ))) (row : List (List ℕ)) → text_of_records (rows ++ row ∷ []) ≡ text_of_records rows ++ record_text row
text_of_records-more [] row = append-nil (record_text row)
text_of_records-more (r ∷ rows) row =
    ap (λ (t : List ℕ). record_text r ++ t) (text_of_records-more rows row) ∙ sym (append_assoc (record_text r) (text_of_records rows) (record_text row))

-- a record more of those that are to be written
pub written-more : (before after : List ℕ) (rows : List (List (List ℕ))) (i : ℕ) (row fields : List (List ℕ)) (setup : WriterBuilder) → i < length rows → row ≡ get_or rows i row → fields ≡ row → setup ≡ any_length
    → Some before ≡ Some (text_of_records (take i rows)) → after ≡ before ++ row_text setup fields → Some after ≡ Some (text_of_records (take (i + 1) rows))
written-more before after rows i row fields setup l at same any e g =
    let so_far : before ≡ text_of_records (take i rows) = cc in
    let next : row_text setup fields ≡ record_text (get_or rows i row) = rw (any, same) (row_text-same row ∙ ap (λ r. record_text r) at) in
    let more : take (i + 1) rows ≡ take i rows ++ get_or rows i row ∷ [] = take_more rows i row l in
    ap Some (g ∙ rw (so_far, next, more) (sym (text_of_records-more (take i rows) (get_or rows i row))))

pub written-all : (text held : List ℕ) (rows : List (List (List ℕ))) (i : ℕ) → length rows ≤ i → text ≡ held → Some held ≡ Some (text_of_records (take i rows)) → text ≡ text_of_records rows
written-all text held rows i l e h =
    let so_far : held ≡ text_of_records (take i rows) = cc in
    e ∙ so_far ∙ ap text_of_records (take_all i rows l)

-- what was written reads as the same records
read_back-some : (row : List (List ℕ)) → 0 < length row → read_back row ≡ row
read_back-some [] h = absurd (omega arith)
read_back-some (x ∷ rest) h = refl

records_left-text : (rows : List (List (List ℕ))) → All (λ row. 0 < length row) rows → records_left st.StartRecord (text_of_records rows) ≡ rows
records_left-text [] h = records_from-none 1 st.StartRecord [] (next_record-end st.StartRecord refl)
records_left-text (row ∷ rows) h =
    let first = read-write row (text_of_records rows) in
    records_from-step _ st.StartRecord (text_of_records (row ∷ rows)) _ (omega arith) refl first
    ∙ rw (read_back-some row (h 0 row (omega arith)), records_left-text rows (λ k d l. h (suc k) d (omega arith))) refl

strip_bom-none : (text : List ℕ) → get_or text 0 0 ≢ 239 → strip_bom text ≡ text
unfolding strip_bom
strip_bom-none [] h = refl
strip_bom-none (a ∷ []) h = refl
strip_bom-none (a ∷ b ∷ []) h = refl
strip_bom-none (a ∷ b ∷ c ∷ rest) h = let e : (a == 239) ≡ false = grind (arith, nat_tests) in rw e refl

pub records_of-text : (rows : List (List (List ℕ))) → IsReadBack rows → records_of (text_of_records rows) ≡ rows
records_of-text rows h = rw (strip_bom-none (text_of_records rows) h.no_mark) (records_left-text rows h.fields)
