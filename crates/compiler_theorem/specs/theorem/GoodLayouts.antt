-- The layouts of a module's coroutines are good.
use Rattle.std.specs.Prelude.{List}
use Rattle.compiler.specs.frame_good.Frames.{AreGood}
use Rattle.compiler.specs.frame_layout.declared.layout.Layout.{Layout}
use Rattle.compiler.specs.ir_model.declared.module.Module.{Module}

abbrev pub AreGoodLayouts : Module → List Layout → Type 0
AreGoodLayouts m layouts = AreGood m 0 m.functions layouts
