-- What both runs are given: frames are built in a module, and names stay.
use Rattle.std.specs.Prelude.{◌≡◌, length}
use Rattle.pass_proofs.specs.ir_base.declared.name.Name.{Name}
use Rattle.pass_proofs.specs.ir_model.Names.{function_named}
use Rattle.pass_frames_code.specs.Related.{Building}

-- A function keeps its name and its place where its frame is built, and nothing else of the module changes.
pub record KeepsNames (b : Building) : Type 0 where
  pub functions : (n : Name) → function_named b.framed_code n ≡ function_named b.code n
  pub declarations : b.framed_code.declarations ≡ b.code.declarations
  pub globals : b.framed_code.globals ≡ b.code.globals
  pub count : length b.framed_code.functions ≡ length b.code.functions
