-- Search trees that are written are read as the same trees.
use Rattle.std.proofs.Common.{◌≡◌, ℕ, zero, suc, ◌<◌, ◌≤◌, ◌^◌, ℤ, pos, false, List, [], ◌∷◌, ◌++◌, length, codes, Option, None, Some, Ok, refl, sym, ap, ◌∙◌, arith, All, add-zero, lit≤, length-append, append_assoc, unsigned_abs, if◌then◌else◌}
use Rattle.std.specs.Prelude.{◌==◌, is_some}
use Rattle.std.proofs.lemmas.List.Elements.{All-nil, All-cons, All-append, All-head, All-tail}
use Rattle.std.proofs.lemmas.List.{length-replicate}
use Rattle.std.proofs.lemmas.List.Sums.{count_by-le-length}
use Rattle.md_math.specs.Lists.{number_at, up_to}
use Rattle.md_math.proofs.Builders.{All-list_to}
use Rattle.md_num.specs.WholeText.{text_of}
use Rattle.md_space.specs.Profiles.{profile_count}
use Rattle.md_setting.specs.Setting.{GeneralSetting}
use Rattle.md_setting.specs.Meaning.{outcome_count, sizes_of}
use Rattle.md_setting.specs.Shaped.{IsShaped}
use Rattle.md_mech.proofs.CountLaws.{conditions-length}
use Rattle.md_mech.specs.declared.mechanism.Mechanism.{Mechanism}
use Rattle.md_cert.specs.declared.bound.Bound.{Bound}
use Rattle.md_parts.specs.Fields.{is_place, place_field}
use Rattle.md_parts.specs.FirstRecord.{word_among}
use Rattle.md_parts.specs.Multipliers.{bound_of, face_of}
use Rattle.md_parts.specs.Reading.{Reading, ◌>>=◌, nothing_more, read_record}
use Rattle.md_parts.specs.Repeated.{comes_next}
use Rattle.md_parts.specs.Rows.{number_row, row_unless_zero, face_rows, bound_rows, mechanism_rows}
use Rattle.md_parts.specs.Table.{mechanism_of}
use Rattle.md_parts.specs.Written.{IsWrittenBefore}
use Rattle.md_parts.proofs.WrittenRecords.{holds-none, holds-cons, number_field-holds}
use Rattle.md_parts.proofs.WrittenRows.{place-holds}
use Rattle.md_parts.proofs.WrittenTables.{written-then, written-as, written-record}
use Rattle.md_parts.proofs.WrittenParts.{mechanism-written, face-written, bound-written, face_row, both_row, IsSome, rows-some, mechanism-some}
use Rattle.md_determ_branching.specs.Fixed.{fixed_at, with_fixed, children_of, IsFree}
use Rattle.md_determ_branching.proofs.Laws.{length-with_fixed}
use Rattle.md_determ_node.specs.NodeProgram.{row_count_of}
use Rattle.md_tree.specs.AnswerTo.{IsLeafFor}
use Rattle.md_tree.specs.Trees.{AreTrees, IsTree, root_of}
use Rattle.md_tree.specs.declared.node.Node.{Node}
use Rattle.md_tree.specs.declared.node.Node.TheVariants.{Branch, Infeasible, Optimal}
use Rattle.md_tree.specs.Visits.{IsNodeFor, opens_after}
use Rattle.md_tree.specs.Rows.{rows_at, rows_from, tree_rows}
use Rattle.md_tree.specs.TreeText.{free_branch, branch_of, leaf_words, infeasible_leaf, optimal_leaf, leaf_of, node_of, nodes_of, tree_of}
use Rattle.md_tree.proofs.TreesRead.{nodes-none}

abbrev Rows : Type 0
Rows = List (List (List ℕ))

abbrev Fixed : Type 0
Fixed = List (Option ℕ)

-- ---- what is open

-- an entry for each profile
abbrev pub HasEach : GeneralSetting → Fixed → Type 0
HasEach s fixed = length fixed ≡ profile_count (sizes_of s)

-- what stands first, and what stands behind it
pub trees-first : (s : GeneralSetting) (outcomes : ℕ) (fixed : Fixed) (opens : List Fixed) (node : Node) (nodes : List Node) → AreTrees outcomes (IsLeafFor s) (fixed ∷ opens) (node ∷ nodes)
    → IsNodeFor s fixed node × AreTrees outcomes (IsLeafFor s) (opens_after outcomes fixed node opens) nodes
trees-first s outcomes fixed opens (Branch rank) nodes h = h
trees-first s outcomes fixed opens (Infeasible face) nodes h = h
trees-first s outcomes fixed opens (Optimal m bound) nodes h = h

pub each-after : (s : GeneralSetting) (outcomes : ℕ) (fixed : Fixed) (opens : List Fixed) (node : Node) → HasEach s fixed → All (HasEach s) opens → All (HasEach s) (opens_after outcomes fixed node opens)
each-after s outcomes fixed opens (Branch rank) one all =
    All-append (HasEach s) (children_of outcomes fixed rank) opens (All-list_to (HasEach s) outcomes (with_fixed fixed rank) (λ o l. length-with_fixed fixed rank o ∙ one)) all
each-after s outcomes fixed opens (Infeasible face) one all = all
each-after s outcomes fixed opens (Optimal m bound) one all = all

few-rows : (s : GeneralSetting) (fixed : Fixed) → IsShaped s → HasEach s fixed → row_count_of s fixed ≤ 2 ^ 32
few-rows s fixed shaped one =
    let rows = shaped.few_rows in
    let profiles = shaped.listed.space.few_profiles in
    omega (arith, rows, profiles, one, conditions-length s, count_by-le-length is_some fixed)

-- ---- a node

free-written : (fixed : Fixed) (rank : ℕ) (others : Rows) → IsFree fixed rank → IsWrittenBefore others (free_branch (fixed_at fixed rank) rank) [] (Branch rank)
free-written fixed rank others h = record { read = λ n. rw (h.free, add-zero n) refl }

branch-written : (s : GeneralSetting) (fixed : Fixed) (rank : ℕ) (others : Rows) → IsShaped s → HasEach s fixed → IsFree fixed rank → IsWrittenBefore others (branch_of s fixed) (rows_at s fixed (Branch rank)) (Branch rank)
branch-written s fixed rank others shaped one free =
    let profiles = profile_count (sizes_of s) in
    let few : profiles ≤ 2 ^ 32 = let l = shaped.listed.space.few_profiles in omega (arith, l) in
    let below : rank < profiles = let l = free.below in omega (arith, l, one) in
    let rows : Rows = number_row (codes "branch") (pos rank ∷ []) ∷ [] in
    written-then others (read_record (codes "branch") (place_field 0 profiles ∷ [])) (λ numbers. free_branch (fixed_at fixed (unsigned_abs (number_at numbers 0))) (unsigned_abs (number_at numbers 0))) rows [] (pos rank ∷ []) (Branch rank)
    (written-record others (codes "branch") (place_field 0 profiles ∷ []) (text_of (pos rank) ∷ []) (pos rank ∷ [])
    (holds-cons (place_field 0 profiles) [] (text_of (pos rank)) [] (pos rank) [] (number_field-holds 62 (is_place 0 profiles) (pos rank) (lit≤ tt) (place-holds 0 profiles rank (omega arith) below few)) holds-none))
    (free-written fixed rank others free)

leaf-written : (s : GeneralSetting) (fixed : Fixed) (word : List ℕ) (place : ℕ) (rows : Rows) (leaf : Node) (others : Rows) → word_among leaf_words word ≡ Some (pos place)
    → IsWrittenBefore others (if◌then◌else◌ {A = Reading Node} (place == 0) (infeasible_leaf s fixed) (optimal_leaf s fixed)) rows leaf → IsWrittenBefore others (leaf_of s fixed) ((codes "leaf" ∷ word ∷ []) ∷ rows) leaf
leaf-written s fixed word place rows leaf others is h =
    written-then others (read_record (codes "leaf") (word_among leaf_words ∷ [])) (λ numbers. if unsigned_abs (number_at numbers 0) == 0 then infeasible_leaf s fixed else optimal_leaf s fixed) ((codes "leaf" ∷ word ∷ []) ∷ []) rows (pos place ∷ []) leaf
    (written-record (rows ++ others) (codes "leaf") (word_among leaf_words ∷ []) (word ∷ []) (pos place ∷ []) (holds-cons (word_among leaf_words) [] word [] (pos place) [] is holds-none)) h

infeasible-written : (s : GeneralSetting) (fixed : Fixed) (face : List ℤ) (others : Rows) → IsShaped s → HasEach s fixed → IsLeafFor s fixed (Infeasible face) → comes_next (codes "row") others ≡ false
    → IsWrittenBefore others (infeasible_leaf s fixed) (face_rows (row_count_of s fixed) face) (Infeasible face)
infeasible-written s fixed face others shaped one h ends =
    written-as others (face_of (row_count_of s fixed)) (λ f. Infeasible f) (face_rows (row_count_of s fixed) face) face (face-written (row_count_of s fixed) face others h (few-rows s fixed shaped one) ends)

optimal-written : (s : GeneralSetting) (fixed : Fixed) (m : Mechanism) (bound : Bound) (others : Rows) → IsShaped s → HasEach s fixed → IsLeafFor s fixed (Optimal m bound) → comes_next (codes "row") others ≡ false
    → IsWrittenBefore others (optimal_leaf s fixed) (mechanism_rows s m ++ bound_rows (row_count_of s fixed) bound) (Optimal m bound)
optimal-written s fixed m bound others shaped one h ends =
    let rows = row_count_of s fixed in
    written-then others (mechanism_of s) (λ found. bound_of rows >>= (λ b. nothing_more (Optimal found b))) (mechanism_rows s m) (bound_rows rows bound) m (Optimal m bound)
    (mechanism-written s m (bound_rows rows bound ++ others) h.0)
    (written-as others (bound_of rows) (λ b. Optimal m b) (bound_rows rows bound) bound (bound-written rows bound others h.1 (few-rows s fixed shaped one) ends))

pub node-written : (s : GeneralSetting) (fixed : Fixed) (node : Node) (others : Rows) → IsShaped s → HasEach s fixed → IsNodeFor s fixed node → comes_next (codes "row") others ≡ false
    → IsWrittenBefore others (node_of s fixed) (rows_at s fixed node) node
node-written s fixed (Branch rank) others shaped one h ends = record { read = λ n. (branch-written s fixed rank others shaped one h).read n }
node-written s fixed (Infeasible face) others shaped one h ends = record {
  read = λ n. (leaf-written s fixed (codes "infeasible") 0 (face_rows (row_count_of s fixed) face) (Infeasible face) others refl (infeasible-written s fixed face others shaped one h ends)).read n;
}
node-written s fixed (Optimal m bound) others shaped one h ends = record {
  read = λ n. (leaf-written s fixed (codes "optimal") 1 (mechanism_rows s m ++ bound_rows (row_count_of s fixed) bound) (Optimal m bound) others refl (optimal-written s fixed m bound others shaped one h ends)).read n;
}

-- ---- trees one after another

-- no row of multipliers comes next
node-row : (s : GeneralSetting) (fixed : Fixed) (node : Node) (others : Rows) → comes_next (codes "row") (rows_at s fixed node ++ others) ≡ false
node-row s fixed (Branch rank) others = refl
node-row s fixed (Infeasible face) others = refl
node-row s fixed (Optimal m bound) others = refl

node-some-row : (s : GeneralSetting) (fixed : Fixed) (node : Node) → 1 ≤ length (rows_at s fixed node)
node-some-row s fixed (Branch rank) = omega arith
node-some-row s fixed (Infeasible face) = omega arith
node-some-row s fixed (Optimal m bound) = omega arith

no-row : (s : GeneralSetting) (opens : List Fixed) (nodes : List Node) (others : Rows) → comes_next (codes "row") others ≡ false → comes_next (codes "row") (rows_from s opens nodes ++ others) ≡ false
no-row s [] [] others h = h
no-row s [] (node ∷ nodes) others h = h
no-row s (fixed ∷ opens) [] others h = h
no-row s (fixed ∷ opens) (node ∷ nodes) others h =
    let behind = rows_from s (opens_after (outcome_count s) fixed node opens) nodes in
    ap (λ (l : Rows). comes_next (codes "row") l) (append_assoc (rows_at s fixed node) behind others) ∙ node-row s fixed node (behind ++ others)

-- each node takes one record at least
nodes-count : (s : GeneralSetting) (opens : List Fixed) (nodes : List Node) → AreTrees (outcome_count s) (IsLeafFor s) opens nodes → length nodes ≤ length (rows_from s opens nodes)
nodes-count s [] [] h = omega arith
nodes-count s [] (node ∷ nodes) h = absurd h
nodes-count s (fixed ∷ opens) [] h = absurd h
nodes-count s (fixed ∷ opens) (node ∷ nodes) h =
    let behind = opens_after (outcome_count s) fixed node opens in
    let more = nodes-count s behind nodes (trees-first s (outcome_count s) fixed opens node nodes h).1 in
    omega (arith, more, node-some-row s fixed node, length-append (rows_at s fixed node) (rows_from s behind nodes))

nodes-written : (s : GeneralSetting) (records : ℕ) (opens : List Fixed) (nodes : List Node) (others : Rows) → IsShaped s → All (HasEach s) opens → AreTrees (outcome_count s) (IsLeafFor s) opens nodes → length nodes ≤ records
    → comes_next (codes "row") others ≡ false → IsWrittenBefore others (nodes_of s records opens) (rows_from s opens nodes) nodes
nodes-written s records [] [] others shaped all h enough ends = record { read = λ n. nodes-none s records record { read = n; left = others } ∙ ap (λ (k : ℕ). Ok ([], record { read = k; left = others })) (sym (add-zero n)) }
nodes-written s records [] (node ∷ nodes) others shaped all h enough ends = absurd h
nodes-written s records (fixed ∷ opens) [] others shaped all h enough ends = absurd h
nodes-written s zero (fixed ∷ opens) (node ∷ nodes) others shaped all h enough ends = absurd (omega (arith, enough))
nodes-written s (suc records) (fixed ∷ opens) (node ∷ nodes) others shaped all h enough ends =
    let outcomes = outcome_count s in
    let behind = opens_after outcomes fixed node opens in
    let (one, more) = trees-first s outcomes fixed opens node nodes h in
    let each = All-head (HasEach s) fixed opens all in
    written-then others (node_of s fixed) (λ found. nodes_of s records (opens_after outcomes fixed found opens) >>= (λ found_behind. nothing_more (found ∷ found_behind))) (rows_at s fixed node) (rows_from s behind nodes) node (node ∷ nodes)
    (node-written s fixed node (rows_from s behind nodes ++ others) shaped each one (no-row s behind nodes others ends))
    (written-as others (nodes_of s records behind) (λ found_behind. node ∷ found_behind) (rows_from s behind nodes) nodes
    (nodes-written s records behind nodes others shaped (each-after s outcomes fixed opens node each (All-tail (HasEach s) fixed opens all)) more (omega (arith, enough)) ends))

-- ---- a tree

pub root-each : (s : GeneralSetting) → HasEach s (root_of s)
root-each s = length-replicate (profile_count (sizes_of s)) None

pub tree-written : (s : GeneralSetting) (tree : List Node) (others : Rows) → IsShaped s → IsTree s (IsLeafFor s) tree → comes_next (codes "row") others ≡ false → IsWrittenBefore others (tree_of s) (tree_rows s tree) tree
tree-written s tree others shaped h ends =
    let opens = root_of s ∷ [] in
    let all = All-cons (HasEach s) (root_of s) [] (root-each s) (All-nil (HasEach s)) in
    let enough : length tree ≤ length (tree_rows s tree ++ others) = omega (arith, nodes-count s opens tree h, length-append (tree_rows s tree) others) in
    record { read = λ n. (nodes-written s (length (tree_rows s tree ++ others)) opens tree others shaped all h enough ends).read n }

-- ---- no record is empty

node-some : (s : GeneralSetting) (fixed : Fixed) (node : Node) → All IsSome (rows_at s fixed node)
node-some s fixed (Branch rank) = All-cons IsSome (number_row (codes "branch") (pos rank ∷ [])) [] (omega arith) (All-nil IsSome)
node-some s fixed (Infeasible face) = All-cons IsSome (codes "leaf" ∷ codes "infeasible" ∷ []) (face_rows (row_count_of s fixed) face) (omega arith) (rows-some (row_count_of s fixed) (face_row face))
node-some s fixed (Optimal m bound) =
    let rows = row_count_of s fixed in
    let rest = up_to rows (λ r. row_unless_zero r (both_row bound r)) in
    All-cons IsSome (codes "leaf" ∷ codes "optimal" ∷ []) (mechanism_rows s m ++ bound_rows rows bound) (omega arith)
    (All-append IsSome (mechanism_rows s m) (bound_rows rows bound) (mechanism-some s m) (All-cons IsSome (number_row (codes "bound") (bound.den ∷ [])) rest (omega arith) (rows-some rows (both_row bound))))

nodes-some : (s : GeneralSetting) (opens : List Fixed) (nodes : List Node) → All IsSome (rows_from s opens nodes)
nodes-some s [] [] = All-nil IsSome
nodes-some s [] (node ∷ nodes) = All-nil IsSome
nodes-some s (fixed ∷ opens) [] = All-nil IsSome
nodes-some s (fixed ∷ opens) (node ∷ nodes) =
    let behind = opens_after (outcome_count s) fixed node opens in
    All-append IsSome (rows_at s fixed node) (rows_from s behind nodes) (node-some s fixed node) (nodes-some s behind nodes)

pub tree-some : (s : GeneralSetting) (tree : List Node) → All IsSome (tree_rows s tree)
tree-some s tree = nodes-some s (root_of s ∷ []) tree
