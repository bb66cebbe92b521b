use Rattle.std.proofs.Common.{◌≡◌, ◌+◌, ◌-◌, ◌*◌, length, ap, ◌∙◌, sym, subst, arith}
use Rattle.md_math.specs.Sizes.{AllWithin}
use Rattle.md_dict.proofs.Parts.{end_inside, Leaves-part, IsTable-part}
use Rattle.md_dict.proofs.copies.put_row.Goals as goal

pub returns-clause-leaves : goal.returns-clause-leaves
returns-clause-leaves c =
    let w = c.args.step.now.columns + 1 in
    let start = c.args.row * w in
    let end = start + c.args.step.now.columns + 1 in
    let inside = end_inside w c.args.row w (c.args.step.now.rows + 2) c.requires.row (omega arith) in
    let long : length c.copy_from_slice.new.self ≡ end - start = ap length c.copy_from_slice.ensures.after ∙ c.requires.length ∙ (let same : w ≡ end - start = omega arith in same) in
    Leaves-part c.args.step.now c.args.row start (end - start) c.args.numbers.now c.copy_from_slice.new.self (omega arith) (omega arith) (omega (arith, inside, c.requires.table.kept_length)) long

pub returns-clause-table : goal.returns-clause-table
returns-clause-table c =
    let w = c.args.step.now.columns + 1 in
    let start = c.args.row * w in
    let end = start + c.args.step.now.columns + 1 in
    let inside = end_inside w c.args.row w (c.args.step.now.rows + 2) c.requires.row (omega arith) in
    let long : length c.copy_from_slice.new.self ≡ end - start = ap length c.copy_from_slice.ensures.after ∙ c.requires.length ∙ (let same : w ≡ end - start = omega arith in same) in
    IsTable-part c.args.step.now c.args.numbers.now c.copy_from_slice.new.self start (end - start) (omega (arith, inside, c.requires.table.kept_length)) long (subst (AllWithin c.args.step.now.limit) (sym c.copy_from_slice.ensures.after) c.requires.size) c.requires.table
