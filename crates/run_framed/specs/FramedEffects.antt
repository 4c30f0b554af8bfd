-- What the code of a framed step does.
use Rattle.std.specs.Prelude.{ℕ, not, Bool, List, [], None, Option, Result, ◌-◌, ◌&&◌}
use Rattle.std.specs.List.{list_any}
use Rattle.run_memory.specs.Memory.{Rights}
use Rattle.ir_base.specs.declared.cause.Cause.{Cause}
use Rattle.run_source.specs.SourceEffects.{given_of, source_effect}
use Rattle.run_source.specs.State.{began_at, function_of, is_finished, work_of}
use Rattle.run_source.specs.declared.state.Instance.{Instance}
use Rattle.run_source.specs.declared.state.State.{State}
use Rattle.run_framed.specs.Framed.{FramedGiven, covers, field_opens, framed_coro, given_ramp, is_promise_at, is_room_at, layout_of}
use Rattle.run_framed.specs.declared.judging.Wanted.{Wanted}
use Rattle.run_framed.specs.declared.program.FramedProgram.{FramedProgram}
use Rattle.ir_model.specs.declared.instr.Instr.{Instr}
use Rattle.ir_model.specs.declared.ir_type.IrType.{IrType}
use Rattle.ir_model.specs.declared.module.Module.{Module}
use Rattle.ir_model.specs.declared.operand.Arg.{Arg}
use Rattle.ir_model.specs.declared.operand.Callee.{Callee}
use Rattle.run_step.specs.Effects.{context}
use Rattle.run_step.specs.Step.{Action, instr_action}
use Rattle.run_step.specs.Values.{arg_values}
use Rattle.run_step.specs.declared.effect.Effect.{Effect}
use Rattle.run_source.specs.run_source_tables.Given.{Given}

-- what a program gives to the meaning
abbrev pub framed_of : FramedProgram → FramedGiven
framed_of p = record { given = given_of p.given; layouts = p.layouts }

-- what goes on behind a suspend asks for no layouts
abbrev pub bare : Given → FramedGiven
bare g = record { given = g; layouts = [] }

-- an instance is what is wanted in a block
abbrev pub fits : FramedGiven → ℕ → Wanted → Instance → Bool
fits g b (Wanted.Byte k) x = covers g b k x
fits g b (Wanted.Promise o) x = is_promise_at g b o x
fits g b (Wanted.Unfinished o) x = began_at b o x && not (is_finished x.status)
fits g b (Wanted.Around o) x = covers g b o x && not (began_at b o x)

-- a byte of a block is in an open field of the frame of an instance
abbrev pub opens : FramedGiven → ℕ → Instance → Bool
opens g k x = list_any (field_opens (k - x.start)) (layout_of g.layouts x.coroutine).fields

-- the layout of an instance has a field for a callee's frame of just a size at an offset of its block
abbrev pub gives_room : FramedGiven → ℕ → ℕ → Instance → Bool
gives_room g offset size x = list_any (is_room_at x.start offset size) (layout_of g.layouts x.coroutine).fields

-- what an alloca of the topmost activation does, by rights of access
abbrev pub alloca_at : FramedGiven → Rights → State → ℕ → IrType → ℕ → Action
alloca_at g rights s name ty align = instr_action (context g.given.code g.given.answers rights (function_of g.given s)) (work_of s) (Instr.Alloca name ty align)

-- the coroutine whose ramp an instruction calls and gives the address of its frame
abbrev pub ramp_of : Module → Instr → Option ℕ
ramp_of m (Instr.Call result must_tail ty (Callee.Named n) args) = given_ramp m n
ramp_of m _ = None

-- what a state becomes by an effect of a call's arguments and result, the work being that which the instruction left
abbrev pub framed_effect : FramedGiven → State → List Arg → Option ℕ → Effect → Result State Cause
framed_effect g s args result (Effect.Coro i) = framed_coro g s i args (arg_values g.given.code s.top.values args) result
framed_effect g s args result effect = source_effect g.given s args result effect
