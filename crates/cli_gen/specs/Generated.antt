-- The generated module: so many coroutines, and a main that calls, resumes and destroys them.
use Rattle.std.specs.Prelude.{ℕ, zero, false, List, [], codes, Some, None, Option, ◌+◌, ◌-◌, ◌*◌, ◌%◌, ◌∷◌, ◌++◌}
use Rattle.ir_base.specs.declared.name.Name.{Name}
use Rattle.ir_model.specs.Names.{numbered}
use Rattle.ir_model.specs.Ty.{Ty, int, ptr}
use Rattle.ir_model.specs.declared.instr.Instr.{Instr}
use Rattle.ir_model.specs.declared.instr.Terminator.{Terminator}
use Rattle.ir_model.specs.declared.module.Block.{Block}
use Rattle.ir_model.specs.declared.module.Declaration.{Declaration}
use Rattle.ir_model.specs.declared.module.Function.{Function}
use Rattle.ir_model.specs.declared.module.Module.{Module}
use Rattle.ir_model.specs.declared.operand.Callee.{Callee}
use Rattle.ir_model.specs.declared.operand.Intrinsic.{Intrinsic}
use Rattle.ir_model.specs.declared.operand.Operand.{Operand}
use Rattle.cli_gen.specs.Pieces.{block_of, call, each, intrinsic_call, number_arg, pointer_arg}
use Rattle.cli_gen.specs.Suspending.{coroutine_function, coroutine_name}

-- ---- main

-- %hk
abbrev pub handle : ℕ → ℕ
handle k = k + 1

-- %hk = call ptr @ck(i32 Z+k)
abbrev pub start_call : ℕ → ℕ → Instr
start_call seed k = call (Some (handle k)) (Some ptr) (Callee.Named (coroutine_name k)) (number_arg 32 (seed + k) ∷ [])

-- call void @llvm.coro.resume(ptr %hk), or destroy
abbrev pub handle_call : Intrinsic → ℕ → Instr
handle_call i k = intrinsic_call None None i (pointer_arg (Operand.Local (handle k)) ∷ [])

-- the resumes of one round, where each handle has its turn
abbrev pub round : ℕ → ℕ → ℕ → List Instr
round seed coroutines j = each (λ i. handle_call Intrinsic.CoroResume ((seed + j + i) % coroutines) ∷ []) coroutines

abbrev pub starts : ℕ → ℕ → List Instr
starts seed coroutines = each (λ k. start_call seed k ∷ []) coroutines

-- the rounds from 1 to S - 1
abbrev pub resumes : ℕ → ℕ → ℕ → List Instr
resumes seed coroutines suspends = each (λ j. round seed coroutines (j + 1)) (suspends - 1)

abbrev pub destroys : ℕ → List Instr
destroys coroutines = each (λ k. handle_call Intrinsic.CoroDestroy k ∷ []) coroutines

abbrev pub main_instrs : ℕ → ℕ → ℕ → List Instr
main_instrs seed coroutines suspends = starts seed coroutines ++ resumes seed coroutines suspends ++ destroys coroutines

abbrev pub handle_names : ℕ → List Name
handle_names coroutines = each (λ k. numbered (codes "h") k ∷ []) coroutines

abbrev pub main_names : ℕ → List Name
main_names coroutines = Name.Text (codes "entry") ∷ handle_names coroutines

abbrev pub main_function : ℕ → ℕ → ℕ → Function
main_function seed coroutines suspends =
    record {
      name = Name.Text (codes "main");
      result = Some (int 32);
      params = [];
      coroutine = false;
      blocks = block_of 0 (main_instrs seed coroutines suspends) (Terminator.Ret (Some (number_arg 32 (coroutines * suspends)))) ∷ [];
      names = main_names coroutines;
    }

-- ---- the module

abbrev pub declaration : List ℕ → Option Ty → Ty → Declaration
declaration name given param = record { name = Name.Text name; result = given; params = param ∷ [] }

-- declare void @print(i32), declare ptr @malloc(i64), declare void @free(ptr)
abbrev pub declarations : List Declaration
declarations =
    declaration (codes "print") None (int 32)
    ∷ declaration (codes "malloc") (Some ptr) (int 64)
    ∷ declaration (codes "free") None ptr
    ∷ []

abbrev pub coroutine_functions : ℕ → ℕ → List Function
coroutine_functions coroutines suspends = each (λ k. coroutine_function (record { number = k; suspends = suspends }) ∷ []) coroutines

abbrev pub generated_functions : ℕ → ℕ → ℕ → List Function
generated_functions seed coroutines suspends = coroutine_functions coroutines suspends ++ main_function seed coroutines suspends ∷ []

abbrev pub generated_module : ℕ → ℕ → ℕ → Module
generated_module seed coroutines suspends =
    record { types = []; globals = []; declarations = declarations; functions = generated_functions seed coroutines suspends }
