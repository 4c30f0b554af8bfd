use Rattle.std.proofs.Common.{ap, subst, List, ◌∙◌}
use Rattle.ir_paths.specs.declared.point.Window.{Window}
use Rattle.pass_exits.specs.Regions.{AreRegionsOf}
use Rattle.pass_exits.specs.Rows.{rows_of}
use Rattle.pass_exits.proofs.LeftWindows.{regions-and-rows}
use Rattle.pass_exits.proofs.leaving.leaving_of.Goals as goal

pub returns : goal.returns
returns c =
    record {
      graph = c.in_ok-windows.ensures.kept;
      marks =
          regions-and-rows c.args.function.now c.in_ok-windows.windows c.in_ok-regions_by.field-0 c.in_ok-rows_of.field-0.items c.in_ok-windows.ensures.saves c.in_ok-windows.ensures.windows
          (subst (λ (ws : List Window). AreRegionsOf c.args.function.now ws c.in_ok-regions_by.field-0) c.as_slice.ensures c.in_ok-regions_by.ensures)
          (c.in_ok-rows_of.ensures ∙ ap (rows_of c.args.function.now) c.as_slice-2.ensures);
    }
