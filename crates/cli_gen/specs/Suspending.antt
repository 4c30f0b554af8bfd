-- A generated coroutine.
use Rattle.std.specs.Prelude.{ℕ, Bool, true, false, List, [], codes, pos, Some, None, Option, ◌+◌, ◌-◌, ◌∷◌, ◌++◌, if◌then◌else◌, ◌==◌}
use Rattle.ir_base.specs.declared.name.Name.{Name}
use Rattle.ir_base.specs.declared.ops.BinOp.{BinOp}
use Rattle.ir_base.specs.declared.ops.Flags.{Flags}
use Rattle.ir_model.specs.Names.{numbered}
use Rattle.ir_model.specs.Ty.{array, int, ptr, token}
use Rattle.ir_model.specs.declared.instr.Case.{Case}
use Rattle.ir_model.specs.declared.instr.Incoming.{Incoming}
use Rattle.ir_model.specs.declared.instr.Instr.{Instr}
use Rattle.ir_model.specs.declared.instr.Phi.{Phi}
use Rattle.ir_model.specs.declared.instr.Terminator.{Terminator}
use Rattle.ir_model.specs.declared.module.Block.{Block}
use Rattle.ir_model.specs.declared.module.Function.{Function}
use Rattle.ir_model.specs.declared.module.Param.{Param}
use Rattle.ir_model.specs.declared.operand.Allocator.{Allocator}
use Rattle.ir_model.specs.declared.operand.Arg.{Arg}
use Rattle.ir_model.specs.declared.operand.Callee.{Callee}
use Rattle.ir_model.specs.declared.operand.Intrinsic.{Intrinsic}
use Rattle.ir_model.specs.declared.operand.Operand.{Operand}
use Rattle.cli_gen.specs.Pieces.{block_of, call, each, flag_arg, intrinsic_call, number_arg, pointer_arg, token_arg}
use Rattle.cli_gen.specs.Places.{begin_value, block_value, clean_label, destroy_label, dyn_label, end_label, end_value, entry_label, first_label, freed_value, id_value, is_even, loaded_value, memory_value, need_value, never_label, parameter, resume_label, size_value, slot, start_label, summed_value, suspend_label, suspend_value}
use Rattle.cli_gen.specs.declared.coroutine.Coroutine.{Coroutine}

-- ---- the entry

-- %sj = alloca [3 x i64], align 8
abbrev pub slot_alloca : ℕ → Instr
slot_alloca j = Instr.Alloca (slot j) (array 3 (int 64)) 8

abbrev pub slot_allocas : Coroutine → List Instr
slot_allocas c = each (λ j. slot_alloca j ∷ []) c.suspends

-- %id = call token @llvm.coro.id(i32 0, ptr null, ptr null, ptr null)
abbrev pub id_call : Coroutine → Instr
id_call c =
    intrinsic_call (Some (id_value c)) (Some token) Intrinsic.CoroId
    (number_arg 32 0 ∷ pointer_arg Operand.Null ∷ pointer_arg Operand.Null ∷ pointer_arg Operand.Null ∷ [])

-- %need = call i1 @llvm.coro.alloc(token %id)
abbrev pub need_call : Coroutine → Instr
need_call c = intrinsic_call (Some (need_value c)) (Some (int 1)) Intrinsic.CoroAlloc (token_arg (Operand.Local (id_value c)) ∷ [])

-- %size = call i64 @llvm.coro.size.i64()
abbrev pub size_call : Coroutine → Instr
size_call c = intrinsic_call (Some (size_value c)) (Some (int 64)) Intrinsic.CoroSizeI64 []

-- %m = call ptr @malloc(i64 %size)
abbrev pub malloc_call : Coroutine → Instr
malloc_call c =
    call (Some (block_value c)) (Some ptr) (Callee.Allocator Allocator.Malloc)
    (record { ty = int 64; value = Operand.Local (size_value c) } ∷ [])

-- %h = call ptr @llvm.coro.begin(token %id, ptr MEMORY)
abbrev pub begin_call : Coroutine → ℕ → Instr
begin_call c memory =
    intrinsic_call (Some (begin_value c)) (Some ptr) Intrinsic.CoroBegin
    (token_arg (Operand.Local (id_value c)) ∷ pointer_arg (Operand.Local memory) ∷ [])

-- %mem = phi ptr [ null, %entry ], [ %m, %dyn ]
abbrev pub memory_phi : Coroutine → Phi
memory_phi c =
    record {
      result = memory_value c;
      ty = ptr;
      incoming =
          record { value = Operand.Null; from = entry_label }
          ∷ record { value = Operand.Local (block_value c); from = dyn_label c }
          ∷ [];
    }

-- the entry of an even one, which asks whether memory is needed
abbrev pub asking_entry : Coroutine → Block
asking_entry c =
    block_of entry_label (slot_allocas c ++ id_call c ∷ need_call c ∷ [])
    (Terminator.Branch (Operand.Local (need_value c)) (dyn_label c) (start_label c))

abbrev pub dyn_block : Coroutine → Block
dyn_block c = block_of (dyn_label c) (size_call c ∷ malloc_call c ∷ []) (Terminator.Jump (start_label c))

abbrev pub start_block : Coroutine → Block
start_block c =
    record {
      label = start_label c;
      phis = memory_phi c ∷ [];
      instrs = begin_call c (memory_value c) ∷ [];
      term = Terminator.Jump (first_label c);
    }

-- the entry of an odd one
abbrev pub plain_entry : Coroutine → Block
plain_entry c =
    block_of entry_label (slot_allocas c ++ id_call c ∷ size_call c ∷ malloc_call c ∷ begin_call c (block_value c) ∷ [])
    (Terminator.Jump (first_label c))

abbrev pub entry_blocks : Coroutine → List Block
entry_blocks c = if is_even c then asking_entry c ∷ dyn_block c ∷ start_block c ∷ [] else plain_entry c ∷ []

-- ---- the blocks bj and dj

abbrev pub no_flags : Flags
no_flags = record { nuw = false; nsw = false; exact = false; disjoint = false }

-- call void @llvm.lifetime.start.p0(i64 24, ptr %sj), or end
abbrev pub marker : Intrinsic → ℕ → Instr
marker i j = intrinsic_call None None i (number_arg 64 24 ∷ pointer_arg (Operand.Local (slot j)) ∷ [])

-- the number that is shown: %n at first, then %xj
abbrev pub shown : Coroutine → ℕ → Arg
shown c j = record { ty = int 32; value = Operand.Local (if j == 0 then parameter else summed_value c j) }

-- %xj = add i32 %yj, k+1
abbrev pub sum : Coroutine → ℕ → Instr
sum c j = Instr.Binary (summed_value c j) BinOp.Add no_flags (int 32) (Operand.Local (loaded_value c j)) (Operand.Number (pos (c.number + 1)))

-- what a block but the first begins with: the number is loaded from the slot before, whose life ends, and k + 1 is added
abbrev pub going_on : Coroutine → ℕ → List Instr
going_on c j =
    Instr.Load (loaded_value c j) (int 32) (Operand.Local (slot (j - 1))) 8
    ∷ marker Intrinsic.LifetimeEnd (j - 1)
    ∷ sum c j
    ∷ []

-- call void @print(i32 X)
abbrev pub print_call : Arg → Instr
print_call x = call None None (Callee.Named (Name.Text (codes "print"))) (x ∷ [])

-- the last suspend is final
abbrev pub is_final : Coroutine → ℕ → Operand
is_final c j = if j + 1 == c.suspends then Operand.True else Operand.False

-- %qj = call i8 @llvm.coro.suspend(token none, i1 F)
abbrev pub suspend_call : Coroutine → ℕ → Instr
suspend_call c j =
    intrinsic_call (Some (suspend_value c j)) (Some (int 8)) Intrinsic.CoroSuspend
    (token_arg Operand.None ∷ flag_arg (is_final c j) ∷ [])

-- what every block with a suspend ends with: the number is shown and kept in the slot
abbrev pub keeping : Coroutine → ℕ → List Instr
keeping c j =
    print_call (shown c j)
    ∷ marker Intrinsic.LifetimeStart j
    ∷ Instr.Store (shown c j) (Operand.Local (slot j)) 8
    ∷ suspend_call c j
    ∷ []

-- switch i8 %qj, label %end [ i8 0, label %b{j+1} i8 1, label %dj ]
abbrev pub suspend_switch : Coroutine → ℕ → Terminator
suspend_switch c j =
    Terminator.Switch (record { ty = int 8; value = Operand.Local (suspend_value c j) }) (end_label c)
    (record { arg = number_arg 8 0; target = resume_label c j } ∷ record { arg = number_arg 8 1; target = destroy_label c j } ∷ [])

abbrev pub beginning : Coroutine → ℕ → List Instr
beginning c j = if j == 0 then [] else going_on c j

-- bj
abbrev pub suspend_block : Coroutine → ℕ → Block
suspend_block c j = block_of (suspend_label c j) (beginning c j ++ keeping c j) (suspend_switch c j)

-- dj, where the slot ends, and then clean
abbrev pub destroy_block : Coroutine → ℕ → Block
destroy_block c j = block_of (destroy_label c j) (marker Intrinsic.LifetimeEnd j ∷ []) (Terminator.Jump (clean_label c))

-- ---- the last blocks

abbrev pub never_block : Coroutine → Block
never_block c = block_of (never_label c) [] Terminator.Unreachable

-- %fm = call ptr @llvm.coro.free(token %id, ptr %h)
abbrev pub freed_call : Coroutine → Instr
freed_call c =
    intrinsic_call (Some (freed_value c)) (Some ptr) Intrinsic.CoroFree
    (token_arg (Operand.Local (id_value c)) ∷ pointer_arg (Operand.Local (begin_value c)) ∷ [])

-- call void @free(ptr %fm)
abbrev pub free_call : Coroutine → Instr
free_call c = call None None (Callee.Allocator Allocator.Free) (pointer_arg (Operand.Local (freed_value c)) ∷ [])

abbrev pub clean_block : Coroutine → Block
clean_block c = block_of (clean_label c) (freed_call c ∷ free_call c ∷ []) (Terminator.Jump (end_label c))

-- %e = call i1 @llvm.coro.end(ptr %h, i1 false, token none)
abbrev pub end_call : Coroutine → Instr
end_call c =
    intrinsic_call (Some (end_value c)) (Some (int 1)) Intrinsic.CoroEnd
    (pointer_arg (Operand.Local (begin_value c)) ∷ flag_arg Operand.False ∷ token_arg Operand.None ∷ [])

abbrev pub end_block : Coroutine → Block
end_block c = block_of (end_label c) (end_call c ∷ []) (Terminator.Ret (Some (pointer_arg (Operand.Local (begin_value c)))))

-- ---- the names

abbrev pub word : List ℕ → Name
word text = Name.Text text

abbrev pub asking_names : List Name
asking_names =
    word (codes "need")
    ∷ word (codes "dyn")
    ∷ word (codes "start")
    ∷ word (codes "size")
    ∷ word (codes "m")
    ∷ word (codes "mem")
    ∷ word (codes "h")
    ∷ []

abbrev pub plain_names : List Name
plain_names = word (codes "size") ∷ word (codes "m") ∷ word (codes "h") ∷ []

abbrev pub memory_names : Coroutine → List Name
memory_names c = if is_even c then asking_names else plain_names

abbrev pub slot_names : Coroutine → List Name
slot_names c = each (λ j. numbered (codes "s") j ∷ []) c.suspends

-- the name of b{j+1}, or never behind the last j
abbrev pub resume_name : Coroutine → ℕ → Name
resume_name c j = if j + 1 == c.suspends then word (codes "never") else numbered (codes "b") (j + 1)

abbrev pub first_suspend_names : Coroutine → List Name
first_suspend_names c =
    numbered (codes "q") 0
    ∷ word (codes "end")
    ∷ resume_name c 0
    ∷ numbered (codes "d") 0
    ∷ word (codes "clean")
    ∷ []

abbrev pub later_suspend_names : Coroutine → ℕ → List Name
later_suspend_names c j =
    numbered (codes "y") j
    ∷ numbered (codes "x") j
    ∷ numbered (codes "q") j
    ∷ resume_name c j
    ∷ numbered (codes "d") j
    ∷ []

abbrev pub suspend_names : Coroutine → ℕ → List Name
suspend_names c j = if j == 0 then first_suspend_names c else later_suspend_names c j

abbrev pub coroutine_names : Coroutine → List Name
coroutine_names c =
    word (codes "n")
    ∷ word (codes "entry")
    ∷ slot_names c
    ++ word (codes "id")
    ∷ memory_names c
    ++ numbered (codes "b") 0
    ∷ each (suspend_names c) c.suspends
    ++ word (codes "fm")
    ∷ word (codes "e")
    ∷ []

-- ---- the function

abbrev pub blocks_of_suspend : Coroutine → ℕ → List Block
blocks_of_suspend c j = suspend_block c j ∷ destroy_block c j ∷ []

abbrev pub suspend_blocks : Coroutine → List Block
suspend_blocks c = each (blocks_of_suspend c) c.suspends

abbrev pub coroutine_blocks : Coroutine → List Block
coroutine_blocks c = entry_blocks c ++ suspend_blocks c ++ never_block c ∷ clean_block c ∷ end_block c ∷ []

abbrev pub coroutine_name : ℕ → Name
coroutine_name k = numbered (codes "c") k

abbrev pub coroutine_function : Coroutine → Function
coroutine_function c =
    record {
      name = coroutine_name c.number;
      result = Some ptr;
      params = record { ty = int 32; name = parameter } ∷ [];
      coroutine = true;
      blocks = coroutine_blocks c;
      names = coroutine_names c;
    }
