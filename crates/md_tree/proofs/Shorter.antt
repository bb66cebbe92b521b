-- Readings take records from those that are left, and a node of a tree takes one at least.
use Rattle.std.proofs.Common.{◌≡◌, ℕ, ◌+◌, ◌<◌, ◌≤◌, ℤ, Bool, true, false, List, [], ◌∷◌, ◌++◌, ◌*◌, drop, replicate, pos, length, codes, Option, None, Some, Result, Ok, Err, if◌then◌else◌, unsigned_abs, ap, arith}
use Rattle.std.specs.Prelude.{◌==◌}
use Rattle.std.specs.Ordering.{int_eq}
use Rattle.md_math.specs.Sums.{total}
use Rattle.md_math.specs.Lists.{number_at}
use Rattle.md_space.specs.Profiles.{profile_count}
use Rattle.md_space.specs.AllProfiles.{profiles_of}
use Rattle.md_setting.specs.Setting.{GeneralSetting}
use Rattle.md_setting.specs.Meaning.{agent_count, outcome_count, sizes_of}
use Rattle.md_mech.specs.declared.mechanism.Mechanism.{Mechanism}
use Rattle.md_cert.specs.declared.bound.Bound.{Bound}
use Rattle.md_parts.specs.declared.refusal.AnswerRefusal.{AnswerRefusal}
use Rattle.md_parts.specs.declared.refusal.AnswerRefusal.TheVariants.{Cell, Sum}
use Rattle.md_parts.specs.Fields.{Field, place_field, chance_field, denominator_field, any_number}
use Rattle.md_parts.specs.FirstRecord.{word_among}
use Rattle.md_parts.specs.Reading.{Rest, Reading, then_read, ◌>>=◌, nothing_more, read_record, adding_to}
use Rattle.md_parts.specs.Repeated.{has_word, comes_next, repeated_in, repeated}
use Rattle.md_parts.specs.Table.{profile_fields, denominator_of, lottery_of, payments_of, each_profile, all_payments_of, mechanism_of}
use Rattle.md_parts.specs.Multipliers.{row_fields, after_row, row_records, numbers_for, face_of, bound_denominator, bound_of}
use Rattle.md_parts.proofs.Blocks.{in_two}
use Rattle.md_parts.proofs.Repeats.{fewer_left}
use Rattle.md_determ_node.specs.NodeProgram.{row_count_of}
use Rattle.md_determ_branching.specs.Fixed.{fixed_at}
use Rattle.md_tree.specs.declared.node.Node.{Node}
use Rattle.md_tree.specs.declared.node.Node.TheVariants.{Branch, Infeasible, Optimal}
use Rattle.md_tree.specs.TreeText.{free_branch, branch_of, leaf_words, infeasible_leaf, optimal_leaf, leaf_of, node_of}

-- no more records are left than before
pub record Keeps {A : Type 0} (reading : Reading A) : Type 0 where
  pub fewer : (rest after : Rest) (value : A) → reading rest ≡ Ok (value, after) → length after.left ≤ length rest.left

-- fewer records are left than before
pub record Takes {A : Type 0} (reading : Reading A) : Type 0 where
  pub fewer : (rest after : Rest) (value : A) → reading rest ≡ Ok (value, after) → length after.left < length rest.left

not_both : {A : Type 0} (refusal : AnswerRefusal) (value : A) → Err refusal ≡ Ok value → ⊥
not_both {A} refusal value e = cc

pub takes-keeps : {A : Type 0} (reading : Reading A) → Takes reading → Keeps reading
takes-keeps {A} reading h = record { fewer = λ rest after value e. let l = h.fewer rest after value e in omega (arith, l) }

pub keeps-nothing : {A : Type 0} (value : A) → Keeps (nothing_more value)
keeps-nothing {A} value = record {
  fewer = λ rest after told e.
      let pair : (value, rest) ≡ (told, after) = cc in
      let same : length rest.left ≡ length after.left = ap (λ (p : A × Rest). length p.1.left) pair in
      omega (arith, same);
}

pub keeps-then : {A B : Type 0} (first : Reading A) (next : A → Reading B) → Keeps first → ((a : A) → Keeps (next a)) → Keeps (first >>= next)
keeps-then {A} {B} first next h more = record {
  fewer = λ rest after value e.
      let two = in_two (first rest) next value after e in
      let l = h.fewer rest two.mid two.one two.first_is in
      let m = (more two.one).fewer two.mid after value two.next_is in
      omega (arith, l, m);
}

takes-then : {A B : Type 0} (first : Reading A) (next : A → Reading B) → Takes first → ((a : A) → Keeps (next a)) → Takes (first >>= next)
takes-then {A} {B} first next h more = record {
  fewer = λ rest after value e.
      let two = in_two (first rest) next value after e in
      let l = h.fewer rest two.mid two.one two.first_is in
      let m = (more two.one).fewer two.mid after value two.next_is in
      omega (arith, l, m);
}

pub takes-record : (word : List ℕ) (fields : List Field) → Takes (read_record word fields)
takes-record word fields = record { fewer = λ rest after numbers e. fewer_left word fields rest after numbers e }

-- ---- parts

keeps-sum : (wanted : ℤ) (numbers : List ℤ) → Keeps (adding_to wanted numbers)
keeps-sum wanted numbers = record { fewer = λ rest after value e. by_test (int_eq (total numbers) wanted) rest after value e }
  where
    by_test : (b : Bool) (rest after : Rest) (value : List ℤ) → if◌then◌else◌ {A = Result (List ℤ × Rest) AnswerRefusal} b (Ok (numbers, rest)) (Err (Sum rest.read)) ≡ Ok (value, after) → length after.left ≤ length rest.left
    by_test true rest after value e = (keeps-nothing numbers).fewer rest after value e
    by_test false rest after value e = absurd (not_both (Sum rest.read) (value, after) e)

keeps-repeated_in : {S : Type 0} (word : List ℕ) (fields : S → List Field) (later : S → List ℤ → S) (state : S) (read : ℕ) (left : List (List (List ℕ))) (after : Rest) (records : List (List ℤ))
    → repeated_in word fields later state read left ≡ Ok (records, after) → length after.left ≤ length left
keeps-repeated_in {S} word fields later state read [] after records e = (keeps-nothing []).fewer record { read = read; left = [] } after records e
keeps-repeated_in {S} word fields later state read (next ∷ others) after records e =
    by_test (has_word word next) (λ s more rest h. keeps-repeated_in word fields later s (read + 1) others rest more h) e
  where
    by_test : (b : Bool) → ((s : S) (more : List (List ℤ)) (rest : Rest) → repeated_in word fields later s (read + 1) others ≡ Ok (more, rest) → length rest.left ≤ length others) → if◌then◌else◌ {A = Result (List (List ℤ) × Rest) AnswerRefusal} b
        (then_read (read_record word (fields state) record { read = read; left = next ∷ others }) (λ numbers _. then_read (repeated_in word fields later (later state numbers) (read + 1) others) (λ more rest. Ok (numbers ∷ more, rest))))
        (Ok ([], record { read = read; left = next ∷ others })) ≡ Ok (records, after) → length after.left ≤ length (next ∷ others)
    by_test true keeps h =
        let first = in_two (read_record word (fields state) record { read = read; left = next ∷ others }) _ records after h in
        let second = in_two (repeated_in word fields later (later state first.one) (read + 1) others) (λ more rest. Ok (first.one ∷ more, rest)) records after first.next_is in
        let l = keeps (later state first.one) second.one second.mid second.first_is in
        let m = (keeps-nothing (first.one ∷ second.one)).fewer second.mid after records second.next_is in
        omega (arith, l, m)
    by_test false keeps h = (keeps-nothing []).fewer record { read = read; left = next ∷ others } after records h

keeps-repeated : {S : Type 0} (word : List ℕ) (fields : S → List Field) (later : S → List ℤ → S) (state : S) → Keeps (repeated word fields later state)
keeps-repeated {S} word fields later state = record { fewer = λ rest after records e. keeps-repeated_in word fields later state rest.read rest.left after records e }

keeps-each_profile : (read : List ℕ → Reading (List ℤ)) (ts : List (List ℕ)) → ((t : List ℕ) → Keeps (read t)) → Keeps (each_profile read ts)
keeps-each_profile read [] h = keeps-nothing []
keeps-each_profile read (t ∷ ts) h =
    keeps-then (read t) (λ first. each_profile read ts >>= (λ rest. nothing_more (first ++ rest))) (h t)
    (λ first. keeps-then (each_profile read ts) (λ rest. nothing_more (first ++ rest)) (keeps-each_profile read ts h) (λ rest. keeps-nothing (first ++ rest)))

keeps-payments : (word : List ℕ) (s : GeneralSetting) (b : Bool) → Keeps (all_payments_of word s b)
keeps-payments word s true =
    keeps-each_profile (payments_of word s) (profiles_of (sizes_of s))
    (λ t. keeps-then (read_record word (profile_fields s t ++ replicate (agent_count s) any_number)) (λ numbers. nothing_more (drop (agent_count s) numbers)) (takes-keeps (read_record word (profile_fields s t ++ replicate (agent_count s) any_number)) (takes-record word (profile_fields s t ++ replicate (agent_count s) any_number))) (λ numbers. keeps-nothing (drop (agent_count s) numbers)))
keeps-payments word s false = keeps-nothing (replicate (profile_count (sizes_of s) * agent_count s) (pos 0))

pub keeps-mechanism : (s : GeneralSetting) → Keeps (mechanism_of s)
keeps-mechanism s =
    keeps-then denominator_of (λ den. each_profile (lottery_of s den) (profiles_of (sizes_of s)) >>= (λ chances. all_payments_of (codes "pay") s s.payments >>= (λ pays. nothing_more (mechanism den chances pays)))) keeps-denominator
    (λ den. keeps-then (each_profile (lottery_of s den) (profiles_of (sizes_of s))) (λ chances. all_payments_of (codes "pay") s s.payments >>= (λ pays. nothing_more (mechanism den chances pays))) (keeps-chances den)
    (λ chances. keeps-then (all_payments_of (codes "pay") s s.payments) (λ pays. nothing_more (mechanism den chances pays)) (keeps-payments (codes "pay") s s.payments) (λ pays. keeps-nothing (mechanism den chances pays))))
  where
    mechanism : ℤ → List ℤ → List ℤ → Mechanism
    mechanism den chances pays = record { den = den; chances = chances; pays = pays }

    keeps-denominator : Keeps denominator_of
    keeps-denominator = keeps-then (read_record (codes "table") (denominator_field ∷ [])) (λ numbers. nothing_more (number_at numbers 0)) (takes-keeps (read_record (codes "table") (denominator_field ∷ [])) (takes-record (codes "table") (denominator_field ∷ []))) (λ numbers. keeps-nothing (number_at numbers 0))

    keeps-chances : (den : ℤ) → Keeps (each_profile (lottery_of s den) (profiles_of (sizes_of s)))
    keeps-chances den =
        keeps-each_profile (lottery_of s den) (profiles_of (sizes_of s))
        (λ t. keeps-then (read_record (codes "lottery") (profile_fields s t ++ replicate (outcome_count s) chance_field)) (λ numbers. adding_to den (drop (agent_count s) numbers)) (takes-keeps (read_record (codes "lottery") (profile_fields s t ++ replicate (outcome_count s) chance_field)) (takes-record (codes "lottery") (profile_fields s t ++ replicate (outcome_count s) chance_field))) (λ numbers. keeps-sum den (drop (agent_count s) numbers)))

keeps-rows : (rows count : ℕ) → Keeps (row_records rows count)
keeps-rows rows count = keeps-repeated (codes "row") (row_fields rows count) after_row 0

keeps-face : (rows : ℕ) → Keeps (face_of rows)
keeps-face rows = keeps-then (row_records rows 1) (λ records. nothing_more (numbers_for 1 rows records)) (keeps-rows rows 1) (λ records. keeps-nothing (numbers_for 1 rows records))

keeps-bound : (rows : ℕ) → Keeps (bound_of rows)
keeps-bound rows =
    keeps-then bound_denominator (λ den. row_records rows 2 >>= (λ records. nothing_more (bound den records)))
    (keeps-then (read_record (codes "bound") (denominator_field ∷ [])) (λ numbers. nothing_more (number_at numbers 0)) (takes-keeps (read_record (codes "bound") (denominator_field ∷ [])) (takes-record (codes "bound") (denominator_field ∷ []))) (λ numbers. keeps-nothing (number_at numbers 0)))
    (λ den. keeps-then (row_records rows 2) (λ records. nothing_more (bound den records)) (keeps-rows rows 2) (λ records. keeps-nothing (bound den records)))
  where
    bound : ℤ → List (List ℤ) → Bound
    bound den records = record { den = den; main = numbers_for 2 rows records; face = numbers_for 1 rows records }

-- ---- nodes

keeps-infeasible : (s : GeneralSetting) (fixed : List (Option ℕ)) → Keeps (infeasible_leaf s fixed)
keeps-infeasible s fixed = keeps-then (face_of (row_count_of s fixed)) (λ face. nothing_more (Infeasible face)) (keeps-face (row_count_of s fixed)) (λ face. keeps-nothing (Infeasible face))

keeps-optimal : (s : GeneralSetting) (fixed : List (Option ℕ)) → Keeps (optimal_leaf s fixed)
keeps-optimal s fixed =
    keeps-then (mechanism_of s) (λ m. bound_of (row_count_of s fixed) >>= (λ bound. nothing_more (Optimal m bound))) (keeps-mechanism s)
    (λ m. keeps-then (bound_of (row_count_of s fixed)) (λ bound. nothing_more (Optimal m bound)) (keeps-bound (row_count_of s fixed)) (λ bound. keeps-nothing (Optimal m bound)))

keeps-free : (entry : Option ℕ) (rank : ℕ) → Keeps (free_branch entry rank)
keeps-free None rank = record { fewer = λ rest after node e. (keeps-nothing (Branch rank)).fewer rest after node e }
keeps-free (Some outcome) rank = record { fewer = λ rest after node e. absurd (not_both (Cell rest.read 2) (node, after) e) }

takes-branch : (s : GeneralSetting) (fixed : List (Option ℕ)) → Takes (branch_of s fixed)
takes-branch s fixed =
    takes-then (read_record (codes "branch") (place_field 0 (profile_count (sizes_of s)) ∷ [])) (λ numbers. free_branch (fixed_at fixed (unsigned_abs (number_at numbers 0))) (unsigned_abs (number_at numbers 0)))
    (takes-record (codes "branch") (place_field 0 (profile_count (sizes_of s)) ∷ [])) (λ numbers. keeps-free (fixed_at fixed (unsigned_abs (number_at numbers 0))) (unsigned_abs (number_at numbers 0)))

keeps-leaf_by : (s : GeneralSetting) (fixed : List (Option ℕ)) (b : Bool) → Keeps (if◌then◌else◌ {A = Reading Node} b (infeasible_leaf s fixed) (optimal_leaf s fixed))
keeps-leaf_by s fixed true = keeps-infeasible s fixed
keeps-leaf_by s fixed false = keeps-optimal s fixed

takes-leaf : (s : GeneralSetting) (fixed : List (Option ℕ)) → Takes (leaf_of s fixed)
takes-leaf s fixed =
    takes-then (read_record (codes "leaf") (word_among leaf_words ∷ [])) (λ numbers. if unsigned_abs (number_at numbers 0) == 0 then infeasible_leaf s fixed else optimal_leaf s fixed)
    (takes-record (codes "leaf") (word_among leaf_words ∷ [])) (λ numbers. keeps-leaf_by s fixed (unsigned_abs (number_at numbers 0) == 0))

takes-if : {A : Type 0} (b : Bool) (one other : Reading A) (rest after : Rest) (value : A) → Takes one → Takes other → if◌then◌else◌ {A = Result (A × Rest) AnswerRefusal} b (one rest) (other rest) ≡ Ok (value, after) → length after.left < length rest.left
takes-if {A} true one other rest after value h k e = h.fewer rest after value e
takes-if {A} false one other rest after value h k e = k.fewer rest after value e

-- a node takes one record at least
pub node-fewer : (s : GeneralSetting) (fixed : List (Option ℕ)) (rest after : Rest) (node : Node) → node_of s fixed rest ≡ Ok (node, after) → length after.left < length rest.left
node-fewer s fixed rest after node e = takes-if (comes_next (codes "branch") rest.left) (branch_of s fixed) (leaf_of s fixed) rest after node (takes-branch s fixed) (takes-leaf s fixed) e
