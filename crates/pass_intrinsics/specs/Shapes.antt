-- What the parts of a coroutine are made by.
use Rattle.std.specs.Prelude.{ℕ, suc, Bool, true, false, List, [], length, replicate, slice_get, slice_set, codes, ℤ, pos, negsuc, Some, None, Option, unwrap_or, nat_le, ◌+◌, ◌*◌, ◌∷◌, ◌++◌, if◌then◌else◌, ◌==◌}
pub use Rattle.ir_calls.specs.Calls.{is_true}
use Rattle.ir_base.specs.declared.name.Name.{Name}
use Rattle.frame_layout.specs.declared.layout.Layout.{Layout}
use Rattle.ir_model.specs.Calls.{first_result}
use Rattle.ir_model.specs.Names.{spelling}
use Rattle.ir_model.specs.declared.instr.Case.{Case}
use Rattle.ir_model.specs.declared.instr.Instr.{Instr}
use Rattle.ir_model.specs.declared.instr.Terminator.{Terminator}
use Rattle.ir_model.specs.declared.ir_type.IntWidth.{IntWidth}
use Rattle.ir_model.specs.declared.module.Block.{Block}
use Rattle.ir_model.specs.declared.module.Function.{Function}
use Rattle.ir_model.specs.declared.operand.Arg.{Arg}
use Rattle.ir_model.specs.declared.operand.Callee.{Callee}
use Rattle.ir_model.specs.declared.operand.Intrinsic.{Intrinsic}
use Rattle.ir_model.specs.declared.operand.Operand.{Operand}
use Rattle.ir_paths.specs.Windows.{label_of_term}
use Rattle.pass_intrinsics.specs.declared.shape.Shape.{Shape}
use Rattle.pass_intrinsics.specs.declared.shape.SuspendPoint.{SuspendPoint}

-- ---- suspends

abbrev pub token_of : Operand → Option ℕ
token_of (Operand.Local n) = Some n
token_of _ = None

-- the save of a suspend, which is its first operand
abbrev pub save_of : List Arg → Option ℕ
save_of [] = None
save_of (a ∷ args) = token_of a.value

abbrev pub first_is_true : List Arg → Bool
first_is_true [] = false
first_is_true (a ∷ args) = is_true a.value

-- whether a suspend is final, which is its second operand
abbrev pub is_final : List Arg → Bool
is_final [] = false
is_final (a ∷ args) = first_is_true args

-- the suspends, with that of an instruction of a block behind them
abbrev pub with_suspend : List SuspendPoint → Block → Instr → List SuspendPoint
with_suspend all b (Instr.Call result must_tail ty (Callee.Intrinsic Intrinsic.CoroSuspend) args) =
    all ++ record { save = save_of args; is_final = is_final args; block = b.label; resume = label_of_term 0 b.term; destroy = label_of_term 1 b.term } ∷ []
with_suspend all b _ = all

abbrev pub with_suspends_in : List SuspendPoint → Block → List Instr → List SuspendPoint
with_suspends_in all b [] = all
with_suspends_in all b (i ∷ is) = with_suspends_in (with_suspend all b i) b is

abbrev pub with_suspends_by : List SuspendPoint → List Block → List SuspendPoint
with_suspends_by all [] = all
with_suspends_by all (b ∷ bs) = with_suspends_by (with_suspends_in all b b.instrs) bs

-- the suspends in order of the text
abbrev pub suspends_of : Function → List SuspendPoint
suspends_of f = with_suspends_by [] f.blocks

-- ---- saves

abbrev pub with_save : List (Option ℕ) → ℕ → Option ℕ → List (Option ℕ)
with_save table j None = table
with_save table j (Some save) = slice_set table save (Some j)

-- the table with the saves of the suspends from the j-th on
abbrev pub with_saves : List (Option ℕ) → ℕ → List SuspendPoint → List (Option ℕ)
with_saves table j [] = table
with_saves table j (s ∷ ss) = with_saves (with_save table j s.save) (j + 1) ss

-- for each name the suspend whose save it is
abbrev pub saves_of : Function → List SuspendPoint → List (Option ℕ)
saves_of f suspends = with_saves (replicate (length f.names) None) 0 suspends

-- ---- the end block

abbrev pub is_end : Instr → Bool
is_end (Instr.Call result must_tail ty (Callee.Intrinsic Intrinsic.CoroEnd) args) = true
is_end _ = false

abbrev pub has_end : List Instr → Bool
has_end [] = false
has_end (i ∷ is) = if is_end i then true else has_end is

-- the label of the first block with coro.end
abbrev pub end_label : List Block → Option ℕ
end_label [] = None
end_label (b ∷ bs) = if has_end b.instrs then Some b.label else end_label bs

-- ---- the index

abbrev pub index_width : ℕ → IntWidth
index_width suspends = if nat_le suspends 256 then IntWidth.I8 else IntWidth.I16

abbrev pub index_bytes : IntWidth → ℕ
index_bytes IntWidth.I16 = 2
index_bytes _ = 1

-- ---- the shape

-- the name of a part of a coroutine
abbrev pub part_name : Name → List ℕ → Name
part_name n suffix = Name.Text (spelling n ++ suffix)

abbrev pub shape_of : Function → Layout → Shape
shape_of f l =
    let suspends = suspends_of f in
    record {
      begin = unwrap_or (first_result Intrinsic.CoroBegin f) 0;
      end = unwrap_or (end_label f.blocks) 0;
      size = l.size;
      align = l.align;
      index = l.index;
      width = index_width (length suspends);
      suspends = suspends;
      saves = saves_of f suspends;
      base = length f.names;
      resume_name = part_name f.name (codes ".resume");
      destroy_name = part_name f.name (codes ".destroy");
      cleanup_name = part_name f.name (codes ".cleanup");
    }

-- ---- new names: seven of the coroutine, three of each suspend, and then those of the instructions

abbrev pub begun_label : Shape → ℕ
begun_label s = s.base

abbrev pub done_label : Shape → ℕ
done_label s = s.base + 1

abbrev pub entry_label : Shape → ℕ
entry_label s = s.base + 2

abbrev pub none_label : Shape → ℕ
none_label s = s.base + 3

abbrev pub slot_name : Shape → ℕ
slot_name s = s.base + 4

abbrev pub index_name : Shape → ℕ
index_name s = s.base + 5

-- the last parameter of the ramp that is given its frame
abbrev pub given_name : Shape → ℕ
given_name s = s.base + 6

abbrev pub saved_label : Shape → ℕ → ℕ
saved_label s j = s.base + 7 + 3 * j

abbrev pub back_label : Shape → ℕ → ℕ
back_label s j = s.base + 8 + 3 * j

abbrev pub pass_label : Shape → ℕ → ℕ
pass_label s j = s.base + 9 + 3 * j

-- the first name of the instructions
abbrev pub first_name : Shape → ℕ
first_name s = s.base + 7 + 3 * length s.suspends
