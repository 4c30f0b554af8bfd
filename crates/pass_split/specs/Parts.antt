-- A coroutine split into its parts.
use Rattle.std.specs.Prelude.{ℕ, zero, suc, Bool, true, false, List, [], map, length, replicate, slice_get, slice_set, codes, ℤ, pos, Some, None, Option, ◌+◌, ◌-◌, ◌/◌, ◌∷◌, ◌++◌, if◌then◌else◌}
use Rattle.ir_base.specs.declared.name.Name.{Name}
use Rattle.pass_front.specs.Front.{allocas_of}
use Rattle.frame_layout.specs.Frames.{index_alone}
use Rattle.frame_layout.specs.declared.layout.Layout.{Layout}
use Rattle.frame_layout.specs.declared.layout.Layouts.{Layouts}
use Rattle.ir_model.specs.Names.{noalloc_of, numbered}
use Rattle.ir_model.specs.Ty.{int, ptr}
use Rattle.ir_model.specs.declared.instr.Case.{Case}
use Rattle.ir_model.specs.declared.instr.Instr.{Instr}
use Rattle.ir_model.specs.declared.instr.Terminator.{Terminator}
use Rattle.ir_model.specs.declared.module.Block.{Block}
use Rattle.ir_model.specs.declared.module.Function.{Function}
use Rattle.ir_model.specs.declared.module.Module.{Module}
use Rattle.ir_model.specs.declared.module.Param.{Param}
use Rattle.ir_model.specs.declared.operand.Arg.{Arg}
use Rattle.ir_model.specs.declared.operand.Operand.{Operand}
use Rattle.ir_model.specs.TypeView.{bits_of}
use Rattle.ir_model.specs.declared.ir_type.IntWidth.{IntWidth}
use Rattle.pass_intrinsics.specs.Lowered.{address, number_arg}
use Rattle.pass_intrinsics.specs.Cuts.{goes_on}
use Rattle.pass_split.specs.Given.{has_given_call}
use Rattle.pass_split.specs.Pieces.{going_on, next_after, origins_of, pieces_of, redirected}
use Rattle.pass_split.specs.Reached.{is_flagged, pruned, reached}
use Rattle.pass_intrinsics.specs.Shapes.{back_label, done_label, entry_label, first_name, given_name, index_bytes, index_name, none_label, shape_of, slot_name}
use Rattle.pass_split.specs.declared.origin.Origin.{Origin}
use Rattle.pass_intrinsics.specs.declared.shape.Part.{Part}
use Rattle.pass_intrinsics.specs.declared.shape.Shape.{Shape}
use Rattle.pass_intrinsics.specs.declared.shape.SuspendPoint.{SuspendPoint}
use Rattle.pass_exits.specs.ExitBlocks.{with_exit_blocks}

-- ---- the entry of the parts that go on behind a suspend

-- the final suspend is no place to resume at
abbrev pub goes_on_at : Part → SuspendPoint → Bool
goes_on_at Part.Resume p = if p.is_final then false else true
goes_on_at _ p = true

-- nor is a suspend in a block that the entry of the coroutine doesn't reach
abbrev pub is_entered : List Bool → Part → SuspendPoint → Bool
is_entered flags part p = if is_flagged flags p.block then goes_on_at part p else false

abbrev pub case_of : Shape → ℕ → Case
case_of s j = record { arg = number_arg (bits_of s.width) (pos j); target = back_label s j }

-- the suspends from the j-th on at which a part may go on
abbrev pub cases_from : Shape → List Bool → Part → ℕ → List SuspendPoint → List Case
cases_from s flags part j [] = []
cases_from s flags part j (p ∷ ps) = (if is_entered flags part p then case_of s j ∷ [] else []) ++ cases_from s flags part (j + 1) ps

-- the allocas again, and the index
abbrev pub entry_instrs : Shape → List Block → List Instr
entry_instrs s blocks =
    allocas_of blocks
    ++ address (slot_name s) (Operand.Local s.begin) (pos s.index)
    ∷ Instr.Load (index_name s) (int (bits_of s.width)) (Operand.Local (slot_name s)) (index_bytes s.width)
    ∷ []

-- the index leads to where the part goes on
abbrev pub entry_term : Shape → List Bool → Part → Terminator
entry_term s flags part =
    Terminator.Switch (record { ty = int (bits_of s.width); value = Operand.Local (index_name s) }) (none_label s) (cases_from s flags part 0 s.suspends)

abbrev pub entry_block : Shape → List Bool → Part → List Block → Block
entry_block s flags part blocks = record { label = entry_label s; phis = []; instrs = entry_instrs s blocks; term = entry_term s flags part }

abbrev pub none_block : Shape → Block
none_block s = record { label = none_label s; phis = []; instrs = []; term = Terminator.Unreachable }

abbrev pub or_zero : Option ℕ → ℕ
or_zero None = 0
or_zero (Some n) = n

abbrev pub back_block : Shape → Part → ℕ → SuspendPoint → Block
back_block s part j p =
    record { label = back_label s j; phis = []; instrs = []; term = Terminator.Jump (redirected s (or_zero (going_on part (Some p)))) }

abbrev pub back_blocks : Shape → Part → ℕ → List SuspendPoint → List Block
back_blocks s part j [] = []
back_blocks s part j (p ∷ ps) = back_block s part j p ∷ back_blocks s part (j + 1) ps

abbrev pub done_block : Shape → Block
done_block s = record { label = done_label s; phis = []; instrs = []; term = Terminator.Jump s.end }

abbrev pub later_head : Shape → List Bool → Part → List Block → List Block
later_head s flags part blocks = entry_block s flags part blocks ∷ none_block s ∷ back_blocks s part 0 s.suspends

abbrev pub head_blocks : Shape → Part → Function → List Block
head_blocks s part f = if goes_on part then later_head s (reached f) part f.blocks else []

-- ---- names

unfoldable pub saved_name : ℕ → Name
saved_name j = numbered (codes "$c.saved.") j

unfoldable pub back_name : ℕ → Name
back_name j = numbered (codes "$c.back.") j

unfoldable pub pass_name : ℕ → Name
pass_name j = numbered (codes "$c.pass.") j

abbrev pub names_of_suspend : ℕ → List Name
names_of_suspend j = saved_name j ∷ back_name j ∷ pass_name j ∷ []

abbrev pub suspend_names : ℕ → List Name
suspend_names zero = []
suspend_names (suc j) = suspend_names j ++ names_of_suspend j

abbrev pub instr_names : ℕ → List Name
instr_names zero = []
instr_names (suc k) = instr_names k ++ numbered (codes "$c.") k ∷ []

unfoldable pub begun_mark : Name
begun_mark = Name.Text (codes "$c.begun")

unfoldable pub done_mark : Name
done_mark = Name.Text (codes "$c.done")

unfoldable pub entry_mark : Name
entry_mark = Name.Text (codes "$c.entry")

unfoldable pub none_mark : Name
none_mark = Name.Text (codes "$c.none")

unfoldable pub slot_mark : Name
slot_mark = Name.Text (codes "$c.slot")

unfoldable pub index_mark : Name
index_mark = Name.Text (codes "$c.index")

unfoldable pub given_mark : Name
given_mark = Name.Text (codes "$c.given")

unfoldable pub frame_mark : Name
frame_mark = Name.Text (codes "$c.frame")

abbrev pub label_names : List Name
label_names = begun_mark ∷ done_mark ∷ entry_mark ∷ none_mark ∷ []

abbrev pub mark_names : List Name
mark_names = label_names ++ slot_mark ∷ index_mark ∷ given_mark ∷ []

-- the names of a coroutine's parts, with so many of instructions; begin's value is called `$c.frame`
abbrev pub names_of : Shape → List Name → ℕ → List Name
names_of s names count =
    slice_set names s.begin frame_mark ++ mark_names ++ suspend_names (length s.suspends) ++ instr_names count

-- ---- the parts

abbrev pub origins_for : Shape → Part → Function → List Origin
origins_for s part f = origins_of s part (replicate (length f.names) Origin.Nowhere) f.blocks

-- the pieces of blocks, and the next new name behind them
abbrev pub part_blocks : Shape → Part → Function → List Origin → List Block
part_blocks s part f origins = head_blocks s part f ++ pieces_of s part origins (first_name s) f.blocks ++ done_block s ∷ []

abbrev pub part_names : Shape → Part → Function → List Origin → List Name
part_names s part f origins = names_of s f.names (next_after s part origins (first_name s) f.blocks - first_name s)

-- a part that gives what the coroutine gives
abbrev pub ramp_part : Shape → Part → Name → List Param → Function → Function
ramp_part s part name params f =
    let origins = origins_for s part f in
    record {
      name = name;
      result = f.result;
      params = params;
      coroutine = false;
      blocks = part_blocks s part f origins;
      names = part_names s part f origins;
    }

abbrev pub ramp_of : Shape → Function → Function
ramp_of s f = ramp_part s Part.Ramp f.name f.params f

-- the address of the frame is the last parameter of the ramp that is given it
abbrev pub given_params : Shape → Function → List Param
given_params s f = f.params ++ record { ty = ptr; name = given_name s } ∷ []

-- the ramp that is given its frame
abbrev pub given_ramp_of : Shape → Function → Function
given_ramp_of s f = ramp_part s Part.GivenRamp (noalloc_of f.name) (given_params s f) f

-- a part that goes on behind a suspend: its parameter is the frame address
abbrev pub later_part : Shape → Part → Name → Function → Function
later_part s part name f =
    let origins = origins_for s part f in
    record {
      name = name;
      result = None;
      params = record { ty = ptr; name = s.begin } ∷ [];
      coroutine = false;
      blocks = part_blocks s part f origins;
      names = part_names s part f origins;
    }

-- the parts of instances whose frames are given
abbrev pub given_parts : Shape → Function → List Function
given_parts s f = pruned (later_part s Part.Cleanup s.cleanup_name f) ∷ pruned (given_ramp_of s f) ∷ []

-- those last two stand there where some call gives a frame
abbrev pub parts_of : Shape → Bool → Function → List Function
parts_of s given f =
    pruned (ramp_of s f)
    ∷ pruned (later_part s Part.Resume s.resume_name f)
    ∷ pruned (later_part s Part.Destroy s.destroy_name f)
    ∷ (if given then given_parts s f else [])

-- ---- functions that aren't coroutines

abbrev pub plain_shape : Function → Shape
plain_shape f =
    let base = length f.names in
    record {
      begin = base;
      end = base;
      size = 0;
      align = 0;
      index = 0;
      width = IntWidth.I8;
      suspends = [];
      saves = [];
      base = base;
      resume_name = Name.Text [];
      destroy_name = Name.Text [];
      cleanup_name = Name.Text [];
    }

-- the resumes, destroys, tests and promises alone are turned
abbrev pub plain_of : Shape → Function → Function
plain_of s f =
    record {
      name = f.name;
      result = f.result;
      params = f.params;
      coroutine = false;
      blocks = pieces_of s Part.Ramp [] s.base f.blocks;
      names = f.names ++ instr_names (next_after s Part.Ramp [] s.base f.blocks - s.base);
    }

-- ---- the module

-- the parts of a coroutine whose edges that leave a window have blocks with marks
abbrev pub marked_parts : Layout → Bool → Function → List Function
marked_parts l given f = parts_of (shape_of f l) given f

abbrev pub split_function : Layout → Bool → Function → List Function
split_function l given f = if f.coroutine then marked_parts l given (with_exit_blocks f) else plain_of (plain_shape f) f ∷ []

-- the first of the layouts, that of a frame of an index alone where there is none
abbrev pub first_layout : List Layout → Layout
first_layout [] = index_alone 0 0
first_layout (l ∷ ls) = l

abbrev pub other_layouts : List Layout → List Layout
other_layouts [] = []
other_layouts (l ∷ ls) = ls

-- the layouts that are left for the functions behind one
abbrev pub layouts_after : Function → List Layout → List Layout
layouts_after f ls = if f.coroutine then other_layouts ls else ls

-- the layouts are those of the coroutines in order
abbrev pub split_functions : List Layout → Module → List Function → List Function
split_functions ls m [] = []
split_functions ls m (f ∷ fs) = split_function (first_layout ls) (has_given_call m f) f ++ split_functions (layouts_after f ls) m fs

abbrev pub split_module : Layouts → Module → Module
split_module ls m =
    record { types = m.types; globals = m.globals; declarations = m.declarations; functions = split_functions ls.coroutines m m.functions }
