-- How large the sums of a program are, with numbers of up to 62 bits.
use Rattle.std.proofs.Common.{ℕ, ◌+◌, ◌-◌, ◌*◌, ◌^◌, ◌<◌, ◌≤◌, ℤ, ◌+ℤ◌, ◌*ℤ◌, unsigned_abs, List, [], ◌∷◌, length, get_or, take, All, arith, mul-le-mul}
use Rattle.std.proofs.lemmas.List.Elements.{All-head, All-tail, All-take}
use Rattle.std.proofs.lemmas.List.{length-take}
use Rattle.std.proofs.lemmas.Int.{unsigned_abs-mul}
use Rattle.md_math.specs.Lists.{number_at}
use Rattle.md_math.specs.Sizes.{IsWithin, AllWithin}
use Rattle.md_math.specs.Sums.{total_by, dot}
use Rattle.md_math.proofs.SizeLaws.{IsWithin-zero, IsWithin-wider, IsWithin-+ℤ, IsWithin-*ℤ, AllWithin-number_at, dot-within}
use Rattle.md_lp.specs.declared.term.Term.{Term}
use Rattle.md_lp.specs.Shape.{HasPlaces}
use Rattle.md_lp.proofs.SparseRows.{no_term, length-HasPlaces}

-- a coefficient times a number
abbrev pub step_size : ℕ
step_size = 2 ^ 44 * (2 ^ 62 - 1)

-- a sum of i such products leaves room for one more
pub room : (i : ℕ) (sum a b : ℤ) → IsWithin (i * step_size) sum → IsWithin (2 ^ 44) a → IsWithin (2 ^ 62 - 1) b → i < 65536 → unsigned_abs sum + unsigned_abs a * unsigned_abs b < 2 ^ 126
room i sum a b h p q l =
    let product : unsigned_abs a * unsigned_abs b ≤ step_size = mul-le-mul p.within q.within in
    omega (arith, h.within)

-- the sum over some terms
pub total_by-within : (limit size : ℕ) (terms : List Term) (x : ℕ → ℤ) → All (λ t. IsWithin limit t.value) terms → ((j : ℕ) → IsWithin size (x j)) → IsWithin (length terms * (limit * size)) (total_by (λ t. t.value *ℤ x t.column) terms)
total_by-within limit size [] x h k = IsWithin-zero (0 * (limit * size))
total_by-within limit size (t ∷ terms) x h k =
    let first : IsWithin (limit * size) (t.value *ℤ x t.column) = IsWithin-*ℤ limit size t.value (x t.column) (All-head (λ t. IsWithin limit t.value) t terms h) (k t.column) in
    let rest : IsWithin (length terms * (limit * size)) (total_by (λ t. t.value *ℤ x t.column) terms) = total_by-within limit size terms x (All-tail (λ t. IsWithin limit t.value) t terms h) k in
    let both = IsWithin-+ℤ (limit * size) (length terms * (limit * size)) (t.value *ℤ x t.column) (total_by (λ t. t.value *ℤ x t.column) terms) first rest in
    IsWithin-wider (limit * size + length terms * (limit * size)) (length (t ∷ terms) * (limit * size)) _ (omega arith) both

-- the next term of a row
pub term_room : (n : ℕ) (terms : List Term) (numbers : List ℤ) (i : ℕ) → n ≤ 65536 → HasPlaces n terms → All (λ t. IsWithin (2 ^ 44) t.value) terms → AllWithin (2 ^ 62 - 1) numbers → i < length terms → unsigned_abs (total_by (λ t. t.value *ℤ number_at numbers t.column) (take i terms)) + unsigned_abs (get_or terms i no_term).value * unsigned_abs (number_at numbers (get_or terms i no_term).column) < 2 ^ 126
term_room n terms numbers i few places values sizes b =
    let long : length terms ≤ n = length-HasPlaces n terms places in
    let part : IsWithin (length (take i terms) * step_size) (total_by (λ t. t.value *ℤ number_at numbers t.column) (take i terms)) =
    total_by-within (2 ^ 44) (2 ^ 62 - 1) (take i terms) (number_at numbers) (All-take (λ t. IsWithin (2 ^ 44) t.value) i terms values) (λ j. AllWithin-number_at (2 ^ 62 - 1) numbers j sizes) in
    let short : length (take i terms) < 65536 = simp length-take (omega arith) in
    room (length (take i terms)) _ (get_or terms i no_term).value (number_at numbers (get_or terms i no_term).column) part (values i no_term b) (AllWithin-number_at (2 ^ 62 - 1) numbers _ sizes) short

-- the next place of two lists
pub product_room : (n k : ℕ) (left right : List ℤ) → n ≤ 65536 → k < n → AllWithin (2 ^ 44) left → AllWithin (2 ^ 62 - 1) right → unsigned_abs (dot k (number_at left) (number_at right)) + unsigned_abs (number_at left k) * unsigned_abs (number_at right k) < 2 ^ 126
product_room n k left right few b p q =
    let part : IsWithin (k * step_size) (dot k (number_at left) (number_at right)) =
    dot-within k (2 ^ 44) (2 ^ 62 - 1) (number_at left) (number_at right) (λ j _. AllWithin-number_at (2 ^ 44) left j p) (λ j _. AllWithin-number_at (2 ^ 62 - 1) right j q) in
    room k _ (number_at left k) (number_at right k) part (AllWithin-number_at (2 ^ 44) left k p) (AllWithin-number_at (2 ^ 62 - 1) right k q) (omega arith)

-- a sum with room for a product has room for the total
pub total_size : (sum a b : ℤ) → unsigned_abs sum + unsigned_abs a * unsigned_abs b < 2 ^ 126 → IsWithin (2 ^ 126) (sum +ℤ a *ℤ b)
total_size sum a b room =
    let whole : IsWithin (unsigned_abs sum + unsigned_abs (a *ℤ b)) (sum +ℤ a *ℤ b) =
    IsWithin-+ℤ (unsigned_abs sum) (unsigned_abs (a *ℤ b)) sum (a *ℤ b) (record { within = omega arith }) (record { within = omega arith }) in
    record { within = omega (arith, whole.within, unsigned_abs-mul a b) }
