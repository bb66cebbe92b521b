-- How many rows the program of a node has.
use Rattle.std.proofs.Common.{◌≡◌, ℕ, zero, suc, ◌+◌, ◌<◌, List, [], ◌∷◌, length, Option, None, Some, refl, ◌∙◌, arith, length-append}
use Rattle.std.specs.Prelude.{cond, is_some}
use Rattle.std.proofs.lemmas.List.{length-map}
use Rattle.std.proofs.lemmas.List.Sums.{sum_by-cons, count_by-le-length}
use Rattle.md_math.specs.Lists.{up_to}
use Rattle.md_setting.specs.Setting.{GeneralSetting}
use Rattle.md_setting.specs.Rows.{column_count}
use Rattle.md_setting.specs.Shaped.{IsShaped}
use Rattle.md_mech.specs.Rows.{conditions_of}
use Rattle.md_mech.proofs.CountLaws.{conditions-length}
use Rattle.md_lp.specs.Program.{Program, row_count}
use Rattle.md_forms.specs.Built.{HasRoom}
use Rattle.md_forms.proofs.BuiltLaws.{rows-count}
use Rattle.md_rows.specs.ProgramOf.{form_of, forms_of}
use Rattle.md_rows.specs.Sides.{cost_in}
use Rattle.md_determ_branching.specs.Fixed.{fixed_at}
use Rattle.md_determ_node.specs.NodeProgram.{IsNode, IsNodeProgram, fixed_forms, forms_by, forms_at, node_forms, fixed_count, row_count_of}

-- ---- one form for each outcome that is fixed

front : {X : Type 0} → (n : ℕ) (f : ℕ → List X) → length (up_to (suc n) f) ≡ length (f 0) + length (up_to n (λ k. f (suc k)))
front zero f = omega arith
front (suc n) f = length-append (up_to (suc n) f) (f (suc n)) ∙ omega (arith, front n f, length-append (up_to n (λ k. f (suc k))) (f (suc n)))

abbrev one_if : Option ℕ → ℕ
one_if entry = cond (is_some entry) 1 0

counted : {X : Type 0} → (node : List (Option ℕ)) (f : ℕ → List X) → ((r : ℕ) → r < length node → length (f r) ≡ one_if (fixed_at node r)) → length (up_to (length node) f) ≡ fixed_count node
counted [] f each = refl
counted (entry ∷ node) f each =
    front (length node) f
    ∙ omega (arith, sum_by-cons one_if entry node, each 0 (omega arith), counted node (λ r. f (suc r)) (λ r l. each (suc r) (omega (arith, l))))

one-form : (s : GeneralSetting) (r : ℕ) (entry : Option ℕ) → length (forms_by s r entry) ≡ one_if entry
one-form s r None = refl
one-form s r (Some o) = refl

pub fixed-length : (s : GeneralSetting) (node : List (Option ℕ)) → length (fixed_forms s node) ≡ fixed_count node
fixed-length s node = counted node (forms_at s node) (λ r l. one-form s r (fixed_at node r))

-- ---- the program

pub node-count : (s : GeneralSetting) (node : List (Option ℕ)) (p : Program) → IsNodeProgram s node p → row_count p ≡ row_count_of s node
node-count s node p is =
    rows-count (column_count s) (node_forms s node) (cost_in s) p is
    ∙ omega (arith, length-append (forms_of s (conditions_of s)) (fixed_forms s node), length-map (conditions_of s) (form_of s), fixed-length s node)

-- the setting's program has room for what is fixed
pub fixed-room : (s : GeneralSetting) (node : List (Option ℕ)) (p : Program) → IsShaped s → IsNode s node → row_count p ≡ length (conditions_of s) → HasRoom (fixed_forms s node) p
fixed-room s node p shaped is count = record {
  room = omega (arith, count, conditions-length s, shaped.few_rows, fixed-length s node, count_by-le-length is_some node, is.one_each, shaped.listed.space.few_profiles);
}
