use Rattle.std.proofs.Common.{◌≡◌, ◌+◌, ◌*◌, ◌*ℤ◌, ◌^◌, ◌<◌, pos, unsigned_abs, to_z, of_z, sym, ap, ap₂, ◌∙◌, subst}
use Rattle.std.proofs.lemmas.List.{get_or_default}
use mir.Syntax.{w64, w128}
use Rattle.md_math.specs.Sizes.{IsWithin}
use Rattle.md_math.proofs.SizeLaws.{AllWithin-number_at}
use Rattle.md_dict.specs.Rows.{own_number, share_of}
use Rattle.md_dict_division.proofs.Reading.{read_short, read_product, product_small}
use Rattle.md_dict.proofs.rows.Rows.number.Goals as goal

pub returns-clause-size : goal.returns-clause-size
returns-clause-size c =
    let rows = c.args.self.now in
    let share : IsWithin (2 ^ 62) (share_of rows c.args.row) = AllWithin-number_at (2 ^ 62) rows.shares.items c.args.row c.requires.shares in
    let own : IsWithin (2 ^ 62) (own_number rows c.args.row c.args.place) = AllWithin-number_at (2 ^ 62) rows.numbers.items (c.args.row * rows.width + c.args.place) c.requires.numbers in
    let read : c.index.result.now ≡ share_of rows c.args.row = c.index.ensures ∙ get_or_default rows.shares.items c.args.row c.index.result.now (pos 0) c.requires.row in
    let a : c.from.result ≡ share_of rows c.args.row = c.from.ensures ∙ ap (λ z. to_z w64 (of_z w64 z)) read ∙ read_short (share_of rows c.args.row) share in
    let b : c.from-2.result ≡ own_number rows c.args.row c.args.place = c.from-2.ensures ∙ ap (λ z. to_z w64 (of_z w64 z)) c.own.ensures ∙ read_short (own_number rows c.args.row c.args.place) own in
    let product = ap₂ (λ x y. to_z w128 (of_z w128 (to_z w128 (of_z w128 x) *ℤ to_z w128 (of_z w128 y)))) a b ∙ read_product (share_of rows c.args.row) (own_number rows c.args.row c.args.place) share own in
    subst (λ z. unsigned_abs z < 2 ^ 126) (sym product) (product_small (share_of rows c.args.row) (own_number rows c.args.row c.args.place) share own)
