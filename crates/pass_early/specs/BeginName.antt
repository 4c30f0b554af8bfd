-- A name for the value of coro.begin, by which later passes speak of the frame's address.
use Rattle.std.specs.Prelude.{ℕ, [], length, map, codes, Some, None, Option, ◌∷◌, ◌++◌}
use Rattle.ir_base.specs.declared.name.Name.{Name}
use Rattle.ir_model.specs.Calls.{first_result}
use Rattle.ir_model.specs.declared.instr.Instr.{Instr}
use Rattle.ir_model.specs.declared.module.Block.{Block}
use Rattle.ir_model.specs.declared.module.Function.{Function}
use Rattle.ir_model.specs.declared.operand.Callee.{Callee}
use Rattle.ir_model.specs.declared.operand.Intrinsic.{Intrinsic}

-- a begin takes the name
abbrev pub named_instr : ℕ → Instr → Instr
named_instr n (Instr.Call result must_tail ty (Callee.Intrinsic Intrinsic.CoroBegin) args) =
    Instr.Call (Some n) must_tail ty (Callee.Intrinsic Intrinsic.CoroBegin) args
named_instr n i = i

abbrev pub named_block : ℕ → Block → Block
named_block n b = record { label = b.label; phis = b.phis; instrs = map (named_instr n) b.instrs; term = b.term }

unfoldable pub begin_name : Name
begin_name = Name.Text (codes "$c.begin")

abbrev pub begin_named : Function → Function
begin_named f =
    record {
      name = f.name;
      result = f.result;
      params = f.params;
      coroutine = f.coroutine;
      blocks = map (named_block (length f.names)) f.blocks;
      names = f.names ++ begin_name ∷ [];
    }

abbrev pub if_unnamed : Option ℕ → Function → Function
if_unnamed None f = begin_named f
if_unnamed (Some n) f = f

-- a function whose begin has no name gets one for it
abbrev pub with_begin_name : Function → Function
with_begin_name f = if_unnamed (first_result Intrinsic.CoroBegin f) f
