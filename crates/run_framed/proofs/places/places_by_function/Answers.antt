use Rattle.std.proofs.Common.{◌-◌, ◌∙◌, Some, ap, arith, sym}
use Rattle.std.specs.Prelude.{slice_set}
use Rattle.frame_layout.specs.declared.layout.Layout.{Layout}
use Rattle.run_framed.proofs.LayoutPlaces.{places-first, places-step}
use Rattle.run_framed.proofs.places.places_by_function.Goals as goal

pub loop-at-init : goal.loop-at-init
loop-at-init c = record { within = omega arith; places = places-first c.args.layouts.now c.args.count c.in_ok-table.table c.in_ok-table.ensures }

pub loop-at-preserved : goal.loop-at-preserved
loop-at-preserved c =
    record {
      within = omega arith;
      places = places-step c.args.layouts.now c.loop-at.at c.loop-at.table c.set.new.self c.index-layouts-at.result c.loop-at-test.true c.loop-at.invariant.within c.index-layouts-at.is (c.set.ensures ∙ ap (λ (y : Layout). slice_set c.loop-at.table y.coroutine (Some (c.loop-at.at - 1))) (sym c.index-layouts-at.is)) c.loop-at.invariant.places;
    }
