-- The setting's own program, whose rows are the first ones of the program with conditions.
use Rattle.std.proofs.Common.{◌≡◌, ℕ, ◌+◌, ◌<◌, ℤ, pos, ◌*ℤ◌, List, [], ◌∷◌, ◌++◌, length, get_or, refl, ap, ◌∙◌, subst, arith, length-append}
use Rattle.std.specs.Prelude.{flat_map}
use Rattle.std.proofs.lemmas.List.{get_or_append_left}
use Rattle.md_setting.specs.Setting.{GeneralSetting}
use Rattle.md_setting.specs.Rows.{column_count}
use Rattle.md_mech.specs.Rows.{conditions_of}
use Rattle.md_lp.specs.declared.row_kind.RowKind.TheVariants.{AtMost}
use Rattle.md_lp.specs.Program.{Keeps, Program, Row, left_of, row_at, row_count}
use Rattle.md_lp.specs.Point.{Meets}
use Rattle.md_cert.specs.Certified.{IsUnboundedCertified}
use Rattle.md_cert.specs.Pairs.{RayKeeps}
use Rattle.md_forms.specs.Forms.{Form}
use Rattle.md_forms.specs.ProgramOf.{AreRowsOf}
use Rattle.md_rows.specs.Points.{MeetsProgramOf}
use Rattle.md_rows.specs.ProgramOf.{forms_of, IsProgramOf}
use Rattle.md_require.specs.declared.condition.Condition.{Condition}
use Rattle.md_require.specs.RequireProgram.{condition_forms, IsRequireProgram}

-- the rows of the first forms, and what stands behind them
pub record Parted (n : ℕ) (forms : List Form) (rows : List Row) : Type 0 where
  pub own : List Row
  pub are : AreRowsOf n forms own
  pub behind : List Row
  pub parts : rows ≡ own ++ behind

parted : (n : ℕ) (forms others : List Form) (rows : List Row) → AreRowsOf n (forms ++ others) rows → Parted n forms rows
parted n [] others rows are = record { own = []; are = tt; behind = rows; parts = refl }
parted n (form ∷ forms) others [] are = absurd are
parted n (form ∷ forms) others (row ∷ rows) are =
    let rest = parted n forms others rows are.1 in
    record { own = row ∷ rest.own; are = (are.0, rest.are); behind = rest.behind; parts = ap (λ ps. row ∷ ps) rest.parts }

module _ (s : GeneralSetting) (conditions : List Condition) (p : Program) (is : IsRequireProgram s conditions p) where
  pub own-rows : Parted (column_count s) (forms_of s (conditions_of s)) p.rows
  own-rows = parted (column_count s) (forms_of s (conditions_of s)) (flat_map (condition_forms s) conditions) p.rows is.rows

  -- the program with its first rows alone
  abbrev pub own_program : Program
  own_program = record p { rows = own-rows.own }

  pub is-own : IsProgramOf s own_program
  is-own = record { columns = is.columns; has_cost = record { factor = is.has_cost.factor; cost_is = is.has_cost.cost_is }; rows = own-rows.are }

  inside : (r : ℕ) → r < length own-rows.own → r < row_count p
  inside r b = (let whole : length p.rows ≡ length own-rows.own + length own-rows.behind = ap length own-rows.parts ∙ length-append own-rows.own own-rows.behind in omega (arith, b, whole))

  own-row : (r : ℕ) → r < length own-rows.own → row_at p r ≡ row_at own_program r
  own-row r b =
      let always : Row = record { kind = AtMost; terms = []; right = pos 0 } in
      ap (λ rows. get_or rows r always) own-rows.parts ∙ get_or_append_left own-rows.own own-rows.behind always r b

  -- what meets the program with conditions meets the setting's own
  meets-first : (den : ℤ) (x : ℕ → ℤ) → Meets p den x → Meets own_program den x
  meets-first den x meets = record {
    point = record { positive = meets.point.positive; nonneg = meets.point.nonneg };
    rows = record { holds = λ r b. subst (λ row. Keeps row.kind (left_of p.columns row x) (den *ℤ row.right)) (own-row r b) (meets.rows.holds r (inside r b)) };
  }

  pub meets-own : (den : ℤ) (x : ℕ → ℤ) → Meets p den x → MeetsProgramOf s den x
  meets-own den x meets = record { program = own_program; is_program = is-own; meets = meets-first den x meets }

  -- and so it is with rays
  pub ray-own : (den : ℤ) (x ray : ℕ → ℤ) → IsUnboundedCertified p den x ray → IsUnboundedCertified own_program den x ray
  ray-own den x ray c = record {
    meets = meets-first den x c.meets;
    nonneg = c.nonneg;
    rows = record { holds = λ r b. subst (λ row. RayKeeps row.kind (left_of p.columns row ray)) (own-row r b) (c.rows.holds r (inside r b)) };
    gain = c.gain;
  }
