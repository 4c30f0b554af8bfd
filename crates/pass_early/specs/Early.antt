-- The pass that writes the saves of suspends out and turns the uses of `coro.frame` into uses of begin's value, which has a name then.
use Rattle.std.specs.Prelude.{ℕ, zero, suc, Bool, true, false, List, [], length, map, replicate, slice_set, codes, Some, None, Option, ◌+◌, ◌-◌, ◌∷◌, ◌++◌, if◌then◌else◌}
use Rattle.ir_base.specs.declared.name.Name.{Name}
use Rattle.ir_model.specs.Ty.{token, ptr}
use Rattle.ir_model.specs.Names.{numbered}
use Rattle.ir_model.specs.Calls.{first_result}
use Rattle.ir_model.specs.declared.instr.Instr.{Instr}
use Rattle.ir_model.specs.declared.module.Block.{Block}
use Rattle.ir_model.specs.declared.module.Function.{Function}
use Rattle.ir_model.specs.declared.module.Module.{Module}
use Rattle.ir_model.specs.declared.operand.Arg.{Arg}
use Rattle.ir_model.specs.declared.operand.Callee.{Callee}
use Rattle.ir_model.specs.declared.operand.Intrinsic.{Intrinsic}
use Rattle.ir_model.specs.declared.operand.Operand.{Operand}
use Rattle.pass_early.specs.BeginName.{with_begin_name}
use Rattle.pass_early.specs.Renaming.{renamed_instr, renamed_phi, renamed_term}
use Rattle.pass_early.specs.declared.renaming.Renaming.{Renaming}

-- ---- the values of coro.frame

-- the flags of the names, with that of a call of coro.frame set
abbrev pub flagged : List Bool → Instr → List Bool
flagged flags (Instr.Call (Some n) must_tail ty (Callee.Intrinsic Intrinsic.CoroFrame) args) = slice_set flags n true
flagged flags _ = flags

abbrev pub flagged_in : List Bool → List Instr → List Bool
flagged_in flags [] = flags
flagged_in flags (i ∷ is) = flagged_in (flagged flags i) is

abbrev pub flagged_by : List Bool → List Block → List Bool
flagged_by flags [] = flags
flagged_by flags (b ∷ bs) = flagged_by (flagged_in flags b.instrs) bs

-- for each name whether it is a value of coro.frame
abbrev pub frame_flags : Function → List Bool
frame_flags f = flagged_by (replicate (length f.names) false) f.blocks

abbrev pub renaming_to : Function → Option ℕ → Renaming
renaming_to f None = record { from = []; to = 0 }
renaming_to f (Some begin) = record { from = frame_flags f; to = begin }

-- the values of coro.frame become begin's
abbrev pub renaming_of : Function → Renaming
renaming_of f = renaming_to f (first_result Intrinsic.CoroBegin f)

-- ---- saves

abbrev pub is_none : Operand → Bool
is_none Operand.None = true
is_none _ = false

abbrev pub first_is_none : List Arg → Bool
first_is_none [] = false
first_is_none (a ∷ args) = is_none a.value

-- a suspend whose save isn't written
abbrev pub is_unsaved : Instr → Bool
is_unsaved (Instr.Call result must_tail ty (Callee.Intrinsic Intrinsic.CoroSuspend) args) = first_is_none args
is_unsaved _ = false

-- a save with a result
abbrev pub save_call : ℕ → Instr
save_call n = Instr.Call (Some n) false (Some token) (Callee.Intrinsic Intrinsic.CoroSave) (record { ty = ptr; value = Operand.Null } ∷ [])

abbrev pub with_first : ℕ → List Arg → List Arg
with_first n [] = []
with_first n (a ∷ args) = record { ty = a.ty; value = Operand.Local n } ∷ args

-- the suspend of a save
abbrev pub saved : ℕ → Instr → Instr
saved n (Instr.Call result must_tail ty callee args) = Instr.Call result must_tail ty callee (with_first n args)
saved n i = i

-- n is the name of the next save that is written
abbrev pub early_one : ℕ → Instr → List Instr
early_one n i = if is_unsaved i then save_call n ∷ saved n i ∷ [] else i ∷ []

abbrev pub after_one : ℕ → Instr → ℕ
after_one n i = if is_unsaved i then n + 1 else n

abbrev pub early_instrs : Renaming → ℕ → List Instr → List Instr
early_instrs r n [] = []
early_instrs r n (i ∷ is) = early_one n (renamed_instr r i) ++ early_instrs r (after_one n (renamed_instr r i)) is

abbrev pub after_instrs : Renaming → ℕ → List Instr → ℕ
after_instrs r n [] = n
after_instrs r n (i ∷ is) = after_instrs r (after_one n (renamed_instr r i)) is

abbrev pub early_block : Renaming → ℕ → Block → Block
early_block r n b =
    record { label = b.label; phis = map (renamed_phi r) b.phis; instrs = early_instrs r n b.instrs; term = renamed_term r b.term }

abbrev pub early_blocks : Renaming → ℕ → List Block → List Block
early_blocks r n [] = []
early_blocks r n (b ∷ bs) = early_block r n b ∷ early_blocks r (after_instrs r n b.instrs) bs

abbrev pub after_blocks : Renaming → ℕ → List Block → ℕ
after_blocks r n [] = n
after_blocks r n (b ∷ bs) = after_blocks r (after_instrs r n b.instrs) bs

-- ---- names

-- the name of the k-th save that is written
abbrev pub save_name : ℕ → Name
save_name k = numbered (codes "$c.save.") k

-- the names of so many saves
abbrev pub save_names : ℕ → List Name
save_names zero = []
save_names (suc n) = save_names n ++ save_name n ∷ []

-- ---- the pass

abbrev pub early_coroutine : Function → Renaming → Function
early_coroutine f r =
    let n = length f.names in
    record {
      name = f.name;
      result = f.result;
      params = f.params;
      coroutine = f.coroutine;
      blocks = early_blocks r n f.blocks;
      names = f.names ++ save_names (after_blocks r n f.blocks - n);
    }

-- begin's value has a name
abbrev pub early_named : Function → Function
early_named f = early_coroutine f (renaming_of f)

abbrev pub early_function : Function → Function
early_function f = if f.coroutine then early_named (with_begin_name f) else f

abbrev pub early_module : Module → Module
early_module m = record { types = m.types; globals = m.globals; declarations = m.declarations; functions = map early_function m.functions }
