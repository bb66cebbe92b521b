use Rattle.std.proofs.Common.{◌≡◌, ◌<◌, ◌+◌, ◌/◌, drop, get_or, length, ◌∙◌, sym, arith}
use Rattle.std.proofs.lemmas.List.{take_more, take_all}
use Rattle.md_space.specs.Profiles.{profile_count}
use Rattle.md_space.specs.Strides.{strides_of}
use Rattle.md_space.proofs.Ranks.{length-strides_of}
use Rattle.md_space.proofs.Walks.{count-drop, stride-drop, divided}
use Rattle.md_space.proofs.space.strides.Goals as goal

pub loop-n-preserved : goal.loop-n-preserved
loop-n-preserved c =
    let n = c.loop-n.n-index in
    let sizes = c.args.types.now in
    let here : 0 < get_or sizes n 0 = c.requires.some_type n 0 c.loop-n-test.true in
    let next : c.loop-n.rest / c.from-rest.result ≡ profile_count (drop (n + 1) sizes) =
    rw c.from-rest.ensures
    (divided (get_or sizes n 0) _ _ (c.loop-n.invariant.0 ∙ count-drop sizes n c.loop-n-test.true) here) in
    let in_strides : n < length (strides_of sizes) = omega (arith, length-strides_of sizes) in
    let stride : c.loop-n.rest / c.from-rest.result ≡ get_or (strides_of sizes) n 0 =
    next ∙ sym (stride-drop sizes n c.loop-n-test.true) in
    (next, rw (c.in_ok-push.ensures.items, c.loop-n.invariant.1, stride) (sym (take_more (strides_of sizes) n 0 in_strides)))

pub returns : goal.returns
returns c =
    c.loop-n.invariant.1 ∙ take_all c.loop-n.n-index (strides_of c.args.types.now) (omega (arith, length-strides_of c.args.types.now))
