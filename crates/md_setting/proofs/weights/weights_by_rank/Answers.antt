use Rattle.std.proofs.Common.{◌≡◌, ◌<◌, ◌∷◌, [], ◌++◌, to_z, of_z, ap, sym, ◌∙◌, arith, lit<}
use mir.Syntax.{w64, w128}
use Rattle.md_math.specs.Lists.{list_to}
use Rattle.md_math.specs.Sizes.{IsWithin}
use Rattle.md_math.proofs.Builders.{list_to-more}
use Rattle.md_math.proofs.SizeLaws.{fits_from_IsWithin}
use Rattle.md_math.proofs.Bits.{read_result, read_short_within}
use Rattle.md_space.specs.Profiles.{profile_count, profile_at}
use Rattle.md_setting.specs.Setting.{written}
use Rattle.md_setting.specs.Meaning.{sizes_of, weight_of}
use Rattle.md_setting.proofs.WeightLaws.{weight_of-within}
use Rattle.md_setting.proofs.weights.weights_by_rank.Goals as goal

pub overflow_cast-weight_in : goal.overflow_cast-weight_in
overflow_cast-weight_in c =
    let s = written c.args.raw.now in
    let below : c.loop-rank.rank < profile_count (sizes_of s) =
    omega (arith, c.loop-rank-test.true, c.profiles-rank-end.ensures.count, ap profile_count c.requires.sizes) in
    let small : IsWithin 1000000 (weight_of s (profile_at (sizes_of s) c.loop-rank.rank)) = weight_of-within s c.loop-rank.rank c.requires.small c.requires.total below in
    rw (read_result c.weight_in.result c.weight_in.type_inv, c.weight_in.ensures.value) (fits_from_IsWithin w64 1000000 _ small (lit< tt))

pub loop-rank-preserved : goal.loop-rank-preserved
loop-rank-preserved c =
    let s = written c.args.raw.now in
    let below : c.loop-rank.rank < profile_count (sizes_of s) =
    omega (arith, c.loop-rank-test.true, c.profiles-rank-end.ensures.count, ap profile_count c.requires.sizes) in
    let small : IsWithin 1000000 (weight_of s (profile_at (sizes_of s) c.loop-rank.rank)) = weight_of-within s c.loop-rank.rank c.requires.small c.requires.total below in
    let pushed : to_z w64 (of_z w64 (to_z w128 (of_z w128 c.weight_in.result))) ≡ weight_of s (profile_at (sizes_of s) c.loop-rank.rank) =
    ap (λ z. to_z w64 (of_z w64 z)) (read_result c.weight_in.result c.weight_in.type_inv ∙ c.weight_in.ensures.value)
    ∙ read_short_within 1000000 _ small (lit< tt) in
    c.in_ok-push.ensures.items
    ∙ ap (λ xs. xs ++ to_z w64 (of_z w64 (to_z w128 (of_z w128 c.weight_in.result))) ∷ []) c.loop-rank.invariant
    ∙ ap (λ z. list_to c.loop-rank.rank (λ r. weight_of s (profile_at (sizes_of s) r)) ++ z ∷ []) pushed
    ∙ sym (list_to-more c.loop-rank.rank (λ r. weight_of s (profile_at (sizes_of s) r)))
