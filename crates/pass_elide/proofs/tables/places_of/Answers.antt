use Rattle.std.proofs.Common.{get_or}
use Rattle.ir_base.specs.declared.outcome.Item.{Item}
use Rattle.ir_base.specs.declared.outcome.Place.{Place}
use Rattle.std.specs.Prelude.{None}
use Rattle.pass_elide.proofs.Found.{read-again, site-next}
use Rattle.pass_elide.proofs.tables.places_of.Goals as goal

-- what is read past the last site
abbrev no_place : Place
no_place = record { item = Item.Type 0; block = None; instr = None }

pub loop-site-preserved : goal.loop-site-preserved
loop-site-preserved c = λ s.
    site-next s c.args.sites.now c.loop-site.site-index (get_or c.args.sites.now c.loop-site.site-index no_place) c.loop-site-test.true
    (read-again c.args.sites.now c.loop-site.site-index no_place c.loop-site-test.true) _ _ (c.loop-site.invariant s) (c.in_ok-add_place.ensures s)
