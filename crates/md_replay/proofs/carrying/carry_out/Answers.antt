use Rattle.std.proofs.Common.{◌≡◌, ◌+◌, ◌++◌, ◌∷◌, [], length, take, length-take-le, IsTrue, Bool, false, subst, arith}
use Rattle.std.proofs.lemmas.List.{take_all}
use Rattle.md_dict.specs.Condensed.{IsShapedDictionary}
use Rattle.md_replay.specs.Replay.{AreFollowed}
use Rattle.md_replay.specs.Standing.{CanPivot, IsToldTo}
use Rattle.md_replay.proofs.Carried.{at_on, refused_here, replayed_wide, replayed_whole, told_on}
use Rattle.md_replay.proofs.StandingLaws.{IsAt-first}
use Rattle.md_replay.proofs.ToldLaws.{told_first, told_here}
use Rattle.md_replay.proofs.carrying.carry_out.Goals as goal

pub loop-place-init : goal.loop-place-init
loop-place-init c = record {
  at = IsAt-first c.args.lp.now c.args.width c.in-Ok.dict c.in-Ok.ensures.ok;
  told = told_first c.args.lp.now c.untold-told.result c.untold-told.ensures;
}

-- a test that came out false
cannot : {P : Type 0} → (b : Bool) → b ≡ false → (P → IsTrue b) → P → ⊥
cannot b e h p = (let k : IsTrue b = h p in cc)

pub returns-then-not-can_pivot-clause-lawless : goal.returns-then-not-can_pivot-clause-lawless
returns-then-not-can_pivot-clause-lawless c =
    let size : length (take c.loop-place.place c.args.pivots.now) ≡ c.loop-place.place = length-take-le c.loop-place.place c.args.pivots.now (omega arith) in
    refused_here c.args.lp.now c.args.width c.args.pivots.now c.loop-place.place c.loop-place.dict c.loop-place.invariant.at (subst IsShapedDictionary c.dict.view_is c.dict.invariant.0)
    c.get-pivot.result c.get-pivot.ensures (c.loop-place.place + 1) (omega arith)
    (cannot c.can_pivot.result c.if-not-can_pivot.true c.can_pivot.ensures.1)

pub returns-in-Err-pivot-clause-replayed : goal.returns-in-Err-pivot-clause-replayed
returns-in-Err-pivot-clause-replayed c =
    let carried = take c.loop-place.place c.args.pivots.now in
    let size : length carried ≡ c.loop-place.place = length-take-le c.loop-place.place c.args.pivots.now (omega arith) in
    let told : IsToldTo c.args.lp.now carried (length carried + 1) c.tell.new.told =
    told_here c.args.lp.now c.args.width carried c.loop-place.dict c.loop-place.told c.tell.new.told c.loop-place.invariant.at c.loop-place.invariant.told c.in_ok-tell.ensures in
    let followed : AreFollowed c.args.lp.now (carried ++ c.get-pivot.result ∷ []) c.followed_with-told.result =
    c.followed_with-told.ensures c.args.lp.now c.args.width carried c.loop-place.invariant.at (omega arith) told.followed in
    let can : CanPivot c.loop-place.dict c.get-pivot.result = c.can_pivot.ensures.0 c.if-not-can_pivot.false in
    replayed_wide c.args.lp.now c.args.width c.args.pivots.now c.loop-place.place c.loop-place.dict c.loop-place.invariant.at (subst IsShapedDictionary c.dict.view_is c.dict.invariant.0)
    c.get-pivot.result c.get-pivot.ensures c.tell.new.told.dens c.tell.new.told.greatest c.followed_with-told.result c.in-Err-pivot.refusal.entry
    told.bases told.count_is followed can (c.in-Err-pivot.ensures.too_wide c.args.lp.now c.loop-place.invariant.at.holds)

pub loop-place-preserved : goal.loop-place-preserved
loop-place-preserved c =
    let carried = take c.loop-place.place c.args.pivots.now in
    let size : length carried ≡ c.loop-place.place = length-take-le c.loop-place.place c.args.pivots.now (omega arith) in
    let told : IsToldTo c.args.lp.now carried (length carried + 1) c.tell.new.told =
    told_here c.args.lp.now c.args.width carried c.loop-place.dict c.loop-place.told c.tell.new.told c.loop-place.invariant.at c.loop-place.invariant.told c.in_ok-tell.ensures in
    let followed : AreFollowed c.args.lp.now (carried ++ c.get-pivot.result ∷ []) c.followed_with-told.result =
    c.followed_with-told.ensures c.args.lp.now c.args.width carried c.loop-place.invariant.at (omega arith) told.followed in
    let can : CanPivot c.loop-place.dict c.get-pivot.result = c.can_pivot.ensures.0 c.if-not-can_pivot.false in
    record {
      at =
          at_on c.args.lp.now c.args.width c.args.pivots.now c.loop-place.place c.loop-place.dict c.loop-place.invariant.at (subst IsShapedDictionary c.dict.view_is c.dict.invariant.0)
          c.get-pivot.result c.get-pivot.ensures c.pivot.new.self can (c.in_default.ensures.dictionary c.args.lp.now c.loop-place.invariant.at.holds) c.in_default.ensures.basis;
      told =
          told_on c.args.lp.now c.args.width c.args.pivots.now c.loop-place.place c.loop-place.dict c.loop-place.invariant.at (subst IsShapedDictionary c.dict.view_is c.dict.invariant.0)
          c.get-pivot.result c.get-pivot.ensures c.tell.new.told.dens c.tell.new.told.greatest c.tell.new.told.wide c.followed_with-told.result
          told.bases told.count_is told.wide followed;
    }

pub returns-clause-replayed : goal.returns-clause-replayed
returns-clause-replayed c =
    let whole : take c.loop-place.place c.args.pivots.now ≡ c.args.pivots.now = take_all c.loop-place.place c.args.pivots.now (omega arith) in
    replayed_whole c.args.lp.now c.args.width c.args.pivots.now c.loop-place.place c.loop-place.dict c.loop-place.invariant.at (subst IsShapedDictionary c.dict-2.view_is c.dict-2.invariant.0) c.tell-2.new.told whole
    (told_here c.args.lp.now c.args.width (take c.loop-place.place c.args.pivots.now) c.loop-place.dict c.loop-place.told c.tell-2.new.told c.loop-place.invariant.at c.loop-place.invariant.told c.in_ok-tell-2.ensures)
