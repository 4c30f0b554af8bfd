-- Slots that are used before begin have a temporary, which is copied at begin.
use Rattle.std.specs.Prelude.{ℕ, Bool, false, List, [], length, map, pos, codes, None, ◌+◌, ◌-◌, ◌*◌, ◌&&◌, ◌∷◌, ◌++◌, if◌then◌else◌}
use Rattle.pass_intrinsics.specs.Lowered.{number_arg, pointer_arg, store_pointer}
use Rattle.ir_model.specs.Ty.{int, ptr}
use Rattle.ir_model.specs.declared.instr.Instr.{Instr}
use Rattle.ir_model.specs.declared.module.Block.{Block}
use Rattle.ir_model.specs.declared.module.Function.{Function}
use Rattle.ir_model.specs.declared.operand.Arg.{Arg}
use Rattle.ir_model.specs.declared.operand.Callee.{Callee}
use Rattle.ir_model.specs.declared.operand.Intrinsic.{Intrinsic}
use Rattle.ir_model.specs.declared.operand.Operand.{Operand}
use Rattle.pass_fetch.specs.Blocks.{numbered_names}
use Rattle.pass_fetch.specs.Instrs.{fetched_instr, next_after_instr}
use Rattle.pass_copies.specs.Slots.{early_slots, fetches_of, resumed_at, slot_names}
use Rattle.pass_copies.specs.Uses.{flag_at, is_access, is_begin, still_before, used_before}
use Rattle.pass_copies.specs.declared.copying.Copying.{Copying}
use Rattle.pass_copies.specs.declared.slot.EarlySlot.{EarlySlot}

-- ---- what is written

-- an address is put into a cell
abbrev pub put : ℕ → ℕ → Instr
put address cell = store_pointer (Operand.Local address) (Operand.Local cell)

abbrev pub slot_allocas : List EarlySlot → List Instr
slot_allocas [] = []
slot_allocas (s ∷ ss) = Instr.Alloca s.temporary s.ty s.align ∷ Instr.Alloca s.cell ptr 8 ∷ slot_allocas ss

-- what stands at the front of the entry block: the cells have the temporaries' addresses
abbrev pub entry_front : List EarlySlot → List Instr
entry_front ss = slot_allocas ss ++ map (λ s. put s.temporary s.cell) ss

-- the cells have the slots' addresses
abbrev pub puts : List EarlySlot → List Instr
puts ss = map (λ s. put s.slot s.cell) ss

abbrev pub copy_args : EarlySlot → List Arg
copy_args s =
    pointer_arg (Operand.Local s.slot)
    ∷ pointer_arg (Operand.Local s.temporary)
    ∷ number_arg 64 (pos s.size)
    ∷ record { ty = int 1; value = Operand.False }
    ∷ []

-- the bytes of a slot's temporary are copied into it
abbrev pub copy : EarlySlot → Instr
copy s = Instr.Call None false None (Callee.Intrinsic Intrinsic.MemcpyI64) (copy_args s)

-- what stands behind begin
abbrev pub begin_copies : List EarlySlot → List Instr
begin_copies [] = []
begin_copies (s ∷ ss) = copy s ∷ put s.slot s.cell ∷ begin_copies ss

-- ---- instructions; n is the next new name

abbrev pub is_fetched : Bool → Instr → Bool
is_fetched is_before i = is_before && is_access i

abbrev pub behind : Copying → Instr → List Instr
behind c i = if is_begin i then begin_copies c.slots else []

abbrev pub copied_instr : Copying → Bool → ℕ → Instr → List Instr
copied_instr c is_before n i = (if is_fetched is_before i then fetched_instr c.fetches n i else i ∷ []) ++ behind c i

abbrev pub after_instr : Copying → Bool → ℕ → Instr → ℕ
after_instr c is_before n i = if is_fetched is_before i then next_after_instr c.fetches n i else n

abbrev pub copied_instrs : Copying → Bool → ℕ → List Instr → List Instr
copied_instrs c is_before n [] = []
copied_instrs c is_before n (i ∷ is) =
    copied_instr c is_before n i ++ copied_instrs c (still_before is_before i) (after_instr c is_before n i) is

abbrev pub after_instrs : Copying → Bool → ℕ → List Instr → ℕ
after_instrs c is_before n [] = n
after_instrs c is_before n (i ∷ is) = after_instrs c (still_before is_before i) (after_instr c is_before n i) is

-- ---- blocks; before says of each label whether the front of its block is before begin

abbrev pub block_front : Copying → ℕ → List Instr
block_front c label = if flag_at c.resumed label then puts c.slots else []

abbrev pub copied_block : Copying → List Bool → List Instr → ℕ → Block → Block
copied_block c before front n b =
    record {
      label = b.label;
      phis = b.phis;
      instrs = front ++ block_front c b.label ++ copied_instrs c (flag_at before b.label) n b.instrs;
      term = b.term;
    }

abbrev pub after_block : Copying → List Bool → ℕ → Block → ℕ
after_block c before n b = after_instrs c (flag_at before b.label) n b.instrs

-- the front is that of the first block
abbrev pub copied_blocks : Copying → List Bool → List Instr → ℕ → List Block → List Block
copied_blocks c before front n [] = []
copied_blocks c before front n (b ∷ bs) = copied_block c before front n b ∷ copied_blocks c before [] (after_block c before n b) bs

abbrev pub after_blocks : Copying → List Bool → ℕ → List Block → ℕ
after_blocks c before n [] = n
after_blocks c before n (b ∷ bs) = after_blocks c before (after_block c before n b) bs

-- ---- the pass

abbrev pub copying_of : Function → List EarlySlot → Copying
copying_of f slots = record { slots = slots; fetches = fetches_of f slots; resumed = resumed_at f }

-- the first name behind those of temporaries and cells
abbrev pub first_fetched : Function → Copying → ℕ
first_fetched f c = length f.names + 2 * length c.slots

abbrev pub copied_function : Function → List Bool → Copying → Function
copied_function f before c =
    let first = first_fetched f c in
    record {
      name = f.name;
      result = f.result;
      params = f.params;
      coroutine = f.coroutine;
      blocks = copied_blocks c before (entry_front c.slots) first f.blocks;
      names = f.names ++ slot_names (length c.slots) ++ numbered_names (codes "$c.there.") (after_blocks c before first f.blocks - first);
    }

-- slots says of each name whether it is a frame slot, before of each label whether the front of its block is reached from the
-- entry without passing begin, and sizes how many bytes a slot has
abbrev pub with_begin_copies : Function → List Bool → List Bool → List ℕ → Function
with_begin_copies f slots before sizes = copied_function f before (copying_of f (early_slots f (used_before f slots before) sizes))
