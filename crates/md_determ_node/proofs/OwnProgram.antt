-- The setting's own program, whose rows are the first ones of a node's program.
use Rattle.std.proofs.Common.{◌≡◌, ℕ, ◌<◌, ℤ, pos, List, [], ◌∷◌, ◌++◌, length, Option, get_or, refl, ap, ◌∙◌, subst, arith, length-append}
use Rattle.std.proofs.lemmas.List.{get_or_append_left}
use Rattle.md_setting.specs.Setting.{GeneralSetting}
use Rattle.md_setting.specs.Rows.{column_count}
use Rattle.md_mech.specs.Rows.{conditions_of}
use Rattle.md_lp.specs.declared.row_kind.RowKind.TheVariants.{AtMost}
use Rattle.md_lp.specs.Program.{Program, Row, row_at, left_of, HoldsAtPoint}
use Rattle.md_lp.specs.Point.{Meets}
use Rattle.md_cert.specs.Certified.{IsUnboundedCertified}
use Rattle.md_cert.specs.Pairs.{RayKeeps}
use Rattle.md_forms.specs.Forms.{Form}
use Rattle.md_forms.specs.ProgramOf.{AreRowsOf}
use Rattle.md_rows.specs.ProgramOf.{forms_of, IsProgramOf}
use Rattle.md_determ_node.specs.NodeProgram.{fixed_forms, IsNodeProgram}

-- the rows of the first forms come first
record IsSplit (n : ℕ) (forms : List Form) (rows : List Row) : Type 0 where
  first : List Row
  rest : List Row
  are : AreRowsOf n forms first
  parts : rows ≡ first ++ rest

split : (n : ℕ) (forms more : List Form) (rows : List Row) → AreRowsOf n (forms ++ more) rows → IsSplit n forms rows
split n [] more rows are = record { first = []; rest = rows; are = tt; parts = refl }
split n (form ∷ forms) more [] are = absurd are
split n (form ∷ forms) more (row ∷ rows) are =
    let behind = split n forms more rows are.1 in
    record { first = row ∷ behind.first; rest = behind.rest; are = (are.0, behind.are); parts = ap (λ rs. row ∷ rs) behind.parts }

-- the setting's own program, and what it has in common with the node's
pub record HasOwn (s : GeneralSetting) (p : Program) : Type 0 where
  pub first : List Row
  pub rest : List Row
  pub parts : p.rows ≡ first ++ rest
  pub is : IsProgramOf s (record p { rows = first })

pub own : (s : GeneralSetting) (node : List (Option ℕ)) (p : Program) → IsNodeProgram s node p → HasOwn s p
own s node p is =
    let rows = split (column_count s) (forms_of s (conditions_of s)) (fixed_forms s node) p.rows is.rows in
    record {
      first = rows.first;
      rest = rows.rest;
      parts = rows.parts;
      is = record {
        columns = is.columns;
        has_cost = record { factor = is.has_cost.factor; cost_is = is.has_cost.cost_is };
        rows = rows.are;
      };
    }

module _ (s : GeneralSetting) (p : Program) (has : HasOwn s p) where
  same-row : (r : ℕ) → r < length has.first → row_at p r ≡ row_at (record p { rows = has.first }) r
  same-row r l =
      let past : Row = record { kind = AtMost; terms = []; right = pos 0 } in
      ap (λ rows. get_or rows r past) has.parts ∙ get_or_append_left has.first has.rest past r l

  inside : (r : ℕ) → r < length has.first → r < length p.rows
  inside r l = omega (arith, l, ap length has.parts, length-append has.first has.rest)

  -- what meets the node's program meets the setting's
  pub own-meets : (den : ℤ) (x : ℕ → ℤ) → Meets p den x → Meets (record p { rows = has.first }) den x
  own-meets den x meets = record {
    point = record { positive = meets.point.positive; nonneg = meets.point.nonneg };
    rows = record { holds = λ r l. subst (λ row. HoldsAtPoint p.columns row den x) (same-row r l) (meets.rows.holds r (inside r l)) };
  }

  -- a ray that is certified for the node's program is certified for the setting's
  pub own-unbounded : (den : ℤ) (x ray : ℕ → ℤ) → IsUnboundedCertified p den x ray → IsUnboundedCertified (record p { rows = has.first }) den x ray
  own-unbounded den x ray certified = record {
    meets = own-meets den x certified.meets;
    nonneg = certified.nonneg;
    rows = record { holds = λ r l. subst (λ row. RayKeeps row.kind (left_of p.columns row ray)) (same-row r l) (certified.rows.holds r (inside r l)) };
    gain = certified.gain;
  }
