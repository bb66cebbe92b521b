-- No more records are left than a text has bytes.
use Rattle.std.proofs.Common.{◌≡◌, ℕ, ◌<◌, ℤ, List, [], ◌∷◌, length, codes, Ok, ap, arith, unsigned_abs}
use Rattle.md_math.specs.Lists.{number_at}
use Rattle.md_num.specs.declared.frac.Frac.{Frac}
use Rattle.md_records.specs.Text.{records_of}
use Rattle.md_records.proofs.NextRecord.{length-records_of}
use Rattle.md_setting.specs.Setting.{GeneralSetting}
use Rattle.md_mech.specs.declared.mechanism.Mechanism.{Mechanism}
use Rattle.md_parts.specs.Fields.{wide_denominator, wide_number, word_field}
use Rattle.md_parts.specs.FirstRecord.{word_among}
use Rattle.md_parts.specs.Reading.{Rest, read_record, nothing_more}
use Rattle.md_parts.specs.Table.{mechanism_of, value_of}
use Rattle.md_tree.specs.declared.kind.Kind.{Kind}
use Rattle.md_tree.specs.AnswerText.{kind_read}
use Rattle.md_tree.specs.Kinds.{answer_words, kind_of}
use Rattle.md_tree.proofs.Shorter.{Keeps, keeps-mechanism, keeps-nothing, keeps-then, takes-keeps, takes-record}

keeps-kind : Keeps kind_read
keeps-kind =
    keeps-then (read_record (codes "answer") (word_field (codes "1") ∷ word_field (codes "determ") ∷ word_among answer_words ∷ [])) (λ numbers. nothing_more (kind_of (unsigned_abs (number_at numbers 2))))
    (takes-keeps _ (takes-record (codes "answer") (word_field (codes "1") ∷ word_field (codes "determ") ∷ word_among answer_words ∷ []))) (λ numbers. keeps-nothing (kind_of (unsigned_abs (number_at numbers 2))))

keeps-value : Keeps value_of
keeps-value =
    keeps-then (read_record (codes "value") (wide_number ∷ wide_denominator ∷ [])) (λ numbers. nothing_more (value numbers)) (takes-keeps _ (takes-record (codes "value") (wide_number ∷ wide_denominator ∷ []))) (λ numbers. keeps-nothing (value numbers))
  where
    value : List ℤ → Frac
    value numbers = record { num = number_at numbers 0; den = number_at numbers 1 }

-- behind the first record of a text
pub few-left : (bytes : List ℕ) (start now : Rest) (kind : Kind) (most : ℕ) → start ≡ record { read = 0; left = records_of bytes } → kind_read start ≡ Ok (kind, now) → length bytes < most → length now.left < most
few-left bytes start now kind most is reads below =
    let all : length start.left ≡ length (records_of bytes) = ap (λ (r : Rest). length r.left) is in
    let fewer = keeps-kind.fewer start now kind reads in
    omega (arith, all, fewer, below, length-records_of bytes)

-- behind a value and a mechanism
pub fewer-left : (s : GeneralSetting) (start mid now : Rest) (value : Frac) (m : Mechanism) (most : ℕ) → value_of start ≡ Ok (value, mid) → mechanism_of s mid ≡ Ok (m, now) → length start.left < most → length now.left < most
fewer-left s start mid now value m most first next below =
    let one = keeps-value.fewer start mid value first in
    let two = (keeps-mechanism s).fewer mid now m next in
    omega (arith, one, two, below)
