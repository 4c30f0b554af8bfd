-- How a step touches the memory that makes, marks and allocates no block, so that two instructions can be compared.
use Rattle.std.specs.Prelude.{ℕ, List, [], ◌≡◌}
use Rattle.run_memory.specs.Memory.{access_bytes}
use Rattle.run_memory.specs.declared.pointer.Value.{Value}
use Rattle.ir_model.specs.Ty.{ptr}
use Rattle.ir_model.specs.declared.instr.Instr.{Instr}
use Rattle.ir_model.specs.declared.operand.Allocator.{Allocator}
use Rattle.ir_model.specs.declared.operand.Callee.{Callee}
use Rattle.ir_model.specs.declared.operand.Intrinsic.{Intrinsic}
use Rattle.run_laws.specs.memory.Pointers.{Home, IsValue}
use Rattle.run_step.specs.Step.{AtInstr, Context, Fetched, Work, value_at}
use Rattle.run_step.specs.Values.{access_of, address, arg_values, nth}
use Rattle.run_laws.specs.access.Accessed.{Span, by_copy, copy_span, led_into, of_length, span_at}

-- bytes that are read or written from where a pointer leads to, a copy, and a block that is killed
pub data Touch : Type 0 where
  NoTouch : Touch
  ReadsAt : Value → (len : ℕ) → Touch
  WritesAt : Value → (len : ℕ) → Touch
  CopiesTo : (to from len : Value) → Touch
  KillsAt : Value → Touch

abbrev pub allocator_touches : Allocator → List Value → Touch
allocator_touches Allocator.Malloc vs = NoTouch
allocator_touches Allocator.Znwm vs = NoTouch
allocator_touches Allocator.Free vs = KillsAt (address (nth vs 0))
allocator_touches Allocator.ZdlPv vs = KillsAt (address (nth vs 0))
allocator_touches Allocator.ZdlPvm vs = KillsAt (address (nth vs 0))

abbrev pub intrinsic_touches : Intrinsic → List Value → Touch
intrinsic_touches Intrinsic.MemcpyI64 vs = CopiesTo (address (nth vs 0)) (address (nth vs 1)) (nth vs 2)
intrinsic_touches Intrinsic.MemcpyI32 vs = CopiesTo (address (nth vs 0)) (address (nth vs 1)) (nth vs 2)
intrinsic_touches _ vs = NoTouch

abbrev pub call_touches : Callee → List Value → Touch
call_touches (Callee.Named n) vs = NoTouch
call_touches (Callee.Allocator a) vs = allocator_touches a vs
call_touches (Callee.Intrinsic i) vs = intrinsic_touches i vs
call_touches (Callee.Local name) vs = NoTouch

abbrev pub touch_of : Context → Work → Fetched → Touch
touch_of c w (AtInstr (Instr.Load name ty p align)) = ReadsAt (address (value_at c w ptr p)) (access_bytes (access_of ty))
touch_of c w (AtInstr (Instr.Store arg p align)) = WritesAt (address (value_at c w ptr p)) (access_bytes (access_of arg.ty))
touch_of c w (AtInstr (Instr.Call result must_tail ty callee args)) = call_touches callee (arg_values c.code w.values args)
touch_of c w _ = NoTouch

abbrev pub touched_blocks : Touch → List ℕ
touched_blocks NoTouch = []
touched_blocks (ReadsAt v len) = led_into v
touched_blocks (WritesAt v len) = led_into v
touched_blocks (CopiesTo to from len) = of_length len (by_copy to from)
touched_blocks (KillsAt v) = led_into v

abbrev pub touched_bytes : Touch → List Span
touched_bytes NoTouch = []
touched_bytes (ReadsAt v len) = []
touched_bytes (WritesAt v len) = span_at v len
touched_bytes (CopiesTo to from len) = of_length len (copy_span to)
touched_bytes (KillsAt v) = []

-- the target touches in the same way what stands for it in the source
abbrev pub AreTouches : List Home → Touch → Touch → Type 0
AreTouches homes NoTouch t = t ≡ NoTouch
AreTouches homes (ReadsAt v len) t = (u : Value) × ((t ≡ ReadsAt u len) × IsValue homes v u)
AreTouches homes (WritesAt v len) t = (u : Value) × ((t ≡ WritesAt u len) × IsValue homes v u)
AreTouches homes (CopiesTo to from len) t = (us : Value × Value × Value) × ((t ≡ CopiesTo us.0 us.1 us.2) × (IsValue homes to us.0 × (IsValue homes from us.1 × IsValue homes len us.2)))
AreTouches homes (KillsAt v) t = (u : Value) × ((t ≡ KillsAt u) × IsValue homes v u)
