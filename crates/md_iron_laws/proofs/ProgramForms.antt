-- The reduced program with the cuts of pools has these rows.
use Rattle.std.proofs.Common.{◌≡◌, ℕ, ◌<◌, ◌==◌, Bool, true, false, if◌then◌else◌, List, [], ◌∷◌, ◌++◌, map, All, inl, inr, refl, sym, ap, ap₂, subst, ◌∙◌}
use Rattle.std.proofs.lemmas.Bool.{cases_Bool, cases_eq, eq-eqb}
use Rattle.std.proofs.lemmas.List.{map-append}
use Rattle.std.proofs.lemmas.List.Elements.{All-append, All-nil}
use Rattle.md_math.specs.Lists.{list_to, up_to}
use Rattle.md_math.proofs.Builders.{map-up_to, map-list_to, up_to-same, All-up_to, All-list_to}
use Rattle.md_setting.specs.Auction.{SymmetricAuction, value_count}
use Rattle.md_mech.specs.Rows.{unless_true, by_report}
use Rattle.md_lp.specs.declared.row_kind.RowKind.TheVariants.{AtMost}
use Rattle.md_lp.specs.Program.{Program}
use Rattle.md_forms.specs.Forms.{Form}
use Rattle.md_forms.specs.ProgramOf.{IsProgramOf}
use Rattle.md_forms.proofs.PointLaws.{all-one}
use Rattle.md_border.specs.Sides.{right_by_counts}
use Rattle.md_reduced.specs.Conditions.{conditions_of}
use Rattle.md_reduced.specs.ProgramOf.{column_count, form_of, forms_of, IsReducedProgram}
use Rattle.md_reduced.specs.Sides.{demands_of, cost_of}
use Rattle.md_iron_values.specs.Pools.{Pools}
use Rattle.md_iron_values.specs.Cuts.{begins, set_from, cuts_of}
use Rattle.md_iron_laws.specs.Rows.{ProgramRow, truth_row, rational_row, cut_row, cut_rows, rows_of, row_form}
use Rattle.md_iron_laws.specs.RowsIn.{IsRowIn}

-- ---- rows of any kind, in the order of the reduced program

map-unless : {X Y : Type 0} → (g : X → Y) (v : ℕ) (f : ℕ → X) (w : ℕ) → map g (unless_true v f w) ≡ unless_true v (λ i. g (f i)) w
map-unless g v f w = elim (cases_Bool (w == v)) [
  | inl t ↦ rw t refl
  | inr n ↦ rw n refl
]

map-by_report : {X Y : Type 0} → (g : X → Y) (n v : ℕ) (f : ℕ → X) → map g (by_report n v f) ≡ by_report n v (λ i. g (f i))
map-by_report g n v f = map-up_to g n (unless_true v f) ∙ up_to-same n (λ w. map g (unless_true v f w)) (unless_true v (λ i. g (f i))) (λ w b. map-unless g v f w)

map-pairs : {X Y : Type 0} → (g : X → Y) (n : ℕ) (t : ℕ → ℕ → X) → map g (up_to n (λ v. by_report n v (t v))) ≡ up_to n (λ v. by_report n v (λ w. g (t v w)))
map-pairs g n t = map-up_to g n (λ v. by_report n v (t v)) ∙ up_to-same n (λ v. map g (by_report n v (t v))) (λ v. by_report n v (λ w. g (t v w))) (λ v b. map-by_report g n v (t v))

pub map-parts : {X Y : Type 0} → (g : X → Y) (n : ℕ) (t : ℕ → ℕ → X) (r : ℕ → X) (zs : List X)
    → map g (up_to n (λ v. by_report n v (t v)) ++ (list_to n r ++ zs)) ≡ up_to n (λ v. by_report n v (λ w. g (t v w))) ++ (list_to n (λ v. g (r v)) ++ map g zs)
map-parts g n t r zs =
    map-append g (up_to n (λ v. by_report n v (t v))) (list_to n r ++ zs)
    ∙ ap₂ (λ xs ys. xs ++ ys) (map-pairs g n t) (map-append g (list_to n r) zs ∙ ap (λ xs. xs ++ map g zs) (map-list_to g n r))

map-twice : {X Y Z : Type 0} → (g : Y → Z) (f : X → Y) (xs : List X) → map g (map f xs) ≡ map (λ x. g (f x)) xs
map-twice g f [] = refl
map-twice g f (x ∷ xs) = ap (λ ys. g (f x) ∷ ys) (map-twice g f xs)

map-all : {X Y : Type 0} → (g : X → Y) (n : ℕ) (t : ℕ → ℕ → X) (r : ℕ → X) (c : ℕ → X) (cuts : List ℕ)
    → map g (up_to n (λ v. by_report n v (t v)) ++ (list_to n r ++ map c cuts)) ≡ up_to n (λ v. by_report n v (λ w. g (t v w))) ++ (list_to n (λ v. g (r v)) ++ map (λ s. g (c s)) cuts)
map-all g n t r c cuts =
    map-parts g n t r (map c cuts)
    ∙ ap (λ zs. up_to n (λ v. by_report n v (λ w. g (t v w))) ++ (list_to n (λ v. g (r v)) ++ zs)) (map-twice g c cuts)

-- ---- the forms of the reduced program

cut_form : SymmetricAuction → ℕ → ℕ → Form
cut_form a units set = record { kind = AtMost; left = λ x. demands_of a x set; right = right_by_counts a units set }

conditions-forms : (a : SymmetricAuction) (units n : ℕ) (cuts : List ℕ)
    → forms_of a units (conditions_of n cuts) ≡ up_to n (λ v. by_report n v (λ w. row_form a units (truth_row v w))) ++ (list_to n (λ v. row_form a units (rational_row v)) ++ map (cut_form a units) cuts)
unfolding cut_form
conditions-forms a units n cuts = map-all (form_of a units) n _ _ _ cuts

one-cut : (a : SymmetricAuction) (units : ℕ) (pools : Pools) (t : Bool) (s : ℕ) → map (cut_form a units) (if t then set_from (value_count a) s ∷ [] else []) ≡ map (row_form a units) (if t then cut_row s ∷ [] else [])
unfolding cut_form
one-cut a units pools true s = refl
one-cut a units pools false s = refl

cut-forms : (a : SymmetricAuction) (units : ℕ) (pools : Pools) → map (cut_form a units) (cuts_of (value_count a) pools) ≡ map (row_form a units) (cut_rows (value_count a) pools)
cut-forms a units pools =
    let k = value_count a in
    map-up_to (cut_form a units) k (λ s. if begins pools s then set_from k s ∷ [] else [])
    ∙ up_to-same k (λ s. map (cut_form a units) (if begins pools s then set_from k s ∷ [] else [])) (λ s. map (row_form a units) (if begins pools s then cut_row s ∷ [] else [])) (λ s b. one-cut a units pools (begins pools s) s)
    ∙ sym (map-up_to (row_form a units) k (λ s. if begins pools s then cut_row s ∷ [] else []))

pub same-forms : (a : SymmetricAuction) (units : ℕ) (pools : Pools) → forms_of a units (conditions_of (value_count a) (cuts_of (value_count a) pools)) ≡ map (row_form a units) (rows_of (value_count a) pools)
same-forms a units pools =
    let k = value_count a in
    conditions-forms a units k (cuts_of k pools)
    ∙ ap (λ zs. up_to k (λ v. by_report k v (λ w. row_form a units (truth_row v w))) ++ (list_to k (λ v. row_form a units (rational_row v)) ++ zs)) (cut-forms a units pools)
    ∙ sym (map-parts (row_form a units) k truth_row rational_row (cut_rows k pools))

pub is-program : (a : SymmetricAuction) (units : ℕ) (pools : Pools) (p : Program) → IsReducedProgram a units (cuts_of (value_count a) pools) p → IsProgramOf (column_count a) (map (row_form a units) (rows_of (value_count a) pools)) (cost_of a) p
is-program a units pools p is = subst (λ forms. IsProgramOf (column_count a) forms (cost_of a) p) (same-forms a units pools) is

-- ---- the values of each row are there

pub rows-in : (kinds : ℕ) (pools : Pools) → All (IsRowIn kinds pools) (rows_of kinds pools)
rows-in kinds pools =
    let P : ProgramRow → Type 0 = IsRowIn kinds pools in
    All-append P (up_to kinds (λ v. by_report kinds v (truth_row v))) (list_to kinds rational_row ++ cut_rows kinds pools)
    (All-up_to P kinds (λ v. by_report kinds v (truth_row v)) (λ v b. All-up_to P kinds (unless_true v (truth_row v)) (λ w l. truth v w b l)))
    (All-append P (list_to kinds rational_row) (cut_rows kinds pools)
    (All-list_to P kinds rational_row (λ v b. b))
    (All-up_to P kinds (λ s. if begins pools s then cut_row s ∷ [] else []) cut))
  where
    truth : (v w : ℕ) → v < kinds → w < kinds → All (IsRowIn kinds pools) (unless_true v (truth_row v) w)
    truth v w b l = elim (cases_eq w v) [
      | inl e ↦ rw (eq-eqb w v e) (All-nil (IsRowIn kinds pools))
      | inr d ↦ elim (cases_Bool (w == v)) [
        | inl t ↦ rw t (All-nil (IsRowIn kinds pools))
        | inr n ↦ rw n (all-one (IsRowIn kinds pools) (truth_row v w) (b, l, d))
      ]
    ]

    cut : (s : ℕ) → s < kinds → All (IsRowIn kinds pools) (if begins pools s then cut_row s ∷ [] else [])
    cut s b = elim (cases_Bool (begins pools s)) [
      | inl t ↦ rw t (all-one (IsRowIn kinds pools) (cut_row s) (b, t))
      | inr n ↦ rw n (All-nil (IsRowIn kinds pools))
    ]
