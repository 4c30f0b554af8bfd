-- A meaning in which a resumed activation makes some of its function's slots anew: the source meaning, except for what stands here.
--
-- It lies between the source meaning and the framed one, and serves two modules. Of the module without cells the flagged allocas are the
-- local slots, and the table says which names are addresses in them, since a resume hands on those addresses. Of the module with cells the
-- flagged allocas are the local slots, the cells and the cells of distances, and the table is empty, since that module makes the addresses itself
-- from the distances that it keeps; fields and frame slots aren't flagged, so they stay the instance's. No marker of a coroutine slot
-- is left in the end, so a flagged slot lives from its alloca on and its markers do nothing: a slot that is started before a suspend and used
-- behind it alone is made anew in between.
use Rattle.std.specs.Prelude.{ℕ, suc, Bool, false, List, [], ℤ, drop, slice_get, Some, None, Ok, Option, Result, filter, option_map, ◌+◌, ◌&&◌, ◌∷◌, ◌++◌, if◌then◌else◌}
use Rattle.pass_kept_proof.specs.run_memory.Memory.{start}
use Rattle.pass_kept_proof.specs.run_memory.declared.pointer.Pointer.{Pointer}
use Rattle.pass_kept_proof.specs.run_memory.declared.pointer.Value.{Value}
use Rattle.pass_kept_proof.specs.ir_base.declared.cause.Cause.{Cause}
use Rattle.pass_kept_proof.specs.ir_base.declared.outcome.Outcome.{Outcome}
use Rattle.pass_kept_proof.specs.ir_base.declared.outcome.Word.{Word}
use Rattle.pass_kept_proof.specs.run_source.Source.{Continues, act, context_of, first_state, new_slot, push, resumed}
use Rattle.pass_kept_proof.specs.run_source.State.{function_of, next, or_undefined, settled, with_memory, with_slots, with_status, work_of}
use Rattle.pass_kept_proof.specs.run_source.declared.state.Mode.{Mode}
use Rattle.pass_kept_proof.specs.run_source.declared.state.State.{State}
use Rattle.pass_kept_proof.specs.run_source.declared.state.Status.{Status}
use Rattle.run_framed.specs.Framed.{FramedGiven, enter_after}
use Rattle.pass_kept_proof.specs.ir_model.Names.{first_where, function_at}
use Rattle.pass_kept_proof.specs.ir_model.declared.instr.Instr.{Instr}
use Rattle.pass_kept_proof.specs.ir_model.declared.module.Block.{Block}
use Rattle.pass_kept_proof.specs.ir_model.declared.module.Frame.{Frame}
use Rattle.pass_kept_proof.specs.ir_model.declared.module.Function.{Function}
use Rattle.pass_kept_proof.specs.ir_model.declared.module.Module.{Module}
use Rattle.pass_kept_proof.specs.ir_model.declared.operand.Operand.{Operand}
use Rattle.pass_kept_proof.specs.ir_paths.Facts.{facts_of}
use Rattle.pass_kept_proof.specs.ir_paths.Slots.{allocas_of}
use Rattle.pass_kept_proof.specs.ir_paths.Windows.{operand_at}
use Rattle.pass_kept_proof.specs.ir_paths.declared.point.Facts.{Facts}
use Rattle.pass_kept_proof.specs.ir_paths.declared.point.Point.{Point}
use Rattle.pass_kept_proof.specs.Kept.{Keep, kept}
use Rattle.pass_kept_proof.specs.run_step.Runs.{Seen, iterate, seen_of}
use Rattle.pass_kept_proof.specs.run_step.Step.{Action, AtInstr, Fetched, NewSlot, action_of, fetch, is_lifetime}
use Rattle.pass_kept_proof.specs.run_step.Values.{Env, value_in}
use Rattle.pass_kept_proof.specs.run_step.declared.world.Slot.{Slot}
use Rattle.pass_kept_proof.specs.run_source_tables.Given.{Given}

-- which allocas of the function at a position are made anew, by the names that they give
abbrev pub Flags : Type 0
Flags = ℕ → ℕ → Bool

-- the alloca in whose slot a name of the function at a position is an address that a resume hands on
abbrev pub Roots : Type 0
Roots = ℕ → ℕ → Option ℕ

-- what a run is given, which values a resume hands on, and what it makes anew
pub record RenewedGiven : Type 0 where
  pub given : Given
  pub keep : Keep
  pub flags : Flags
  pub roots : Roots

-- the framed meaning's way to enter allocas and labels asks for no layouts
abbrev pub framed_of : RenewedGiven → FramedGiven
framed_of g = record { given = g.given; layouts = [] }

-- ---- addresses in slots that were made anew

-- an address that was handed on, in the block of an alloca's new address
abbrev pub in_new_slot : Value → Value → Value
in_new_slot (Value.Ptr (Pointer.At b o)) (Value.Ptr (Pointer.At c p)) = Value.Ptr (Pointer.At b p)
in_new_slot _ v = v

abbrev pub renewed_value : Env → Option ℕ → Option Value → Option Value
renewed_value env (Some alloca) (Some v) = Some (in_new_slot (value_in env alloca) v)
renewed_value env _ v = v

abbrev pub renewed_values : (ℕ → Option ℕ) → Env → Env → Env
renewed_values roots env [] = []
renewed_values roots env (v ∷ vs) = renewed_value env (roots 0) v ∷ renewed_values (λ i. roots (suc i)) env vs

abbrev pub with_renewed : (ℕ → Option ℕ) → State → State
with_renewed roots s = record s { top = record s.top { values = renewed_values roots s.top.values s.top.values } }

-- ---- entry of a resumed activation

-- an alloca of a flagged name
abbrev pub is_renewed : (ℕ → Bool) → Instr → Bool
is_renewed flags (Instr.Alloca name ty align) = flags name
is_renewed flags _ = false

abbrev pub renewed_in : (ℕ → Bool) → Option Block → ℕ → Option ℕ
renewed_in flags None at = None
renewed_in flags (Some b) at = option_map (λ k. at + k) (first_where (is_renewed flags) (drop at b.instrs))

-- the first flagged alloca of the entry block from a position on
abbrev pub renewed_from : (ℕ → Bool) → Function → ℕ → Option Point
renewed_from flags f at = option_map (λ k. record { block = 0; at = k }) (renewed_in flags (slice_get f.blocks 0) at)

-- goes on to the next flagged alloca, or moves the addresses that were handed on and enters the label
abbrev pub renew_after : RenewedGiven → State → ℕ → ℕ → Option Point → State
renew_after g s from label (Some p) = enter_after (framed_of g) s from label (Some p)
renew_after g s from label None = enter_after (framed_of g) (with_renewed (g.roots s.top.func) s) from label None

-- a resumed activation has the values that are handed on, and first executes the flagged allocas, each a step
abbrev pub continue_renewed : RenewedGiven → Continues
continue_renewed g s i x suspend values label =
    let s' = push (with_status s i x Status.Running) (resumed i x suspend (kept (g.keep x.coroutine suspend) values)) in
    renew_after g s' suspend.block label (renewed_from (g.flags x.coroutine) (function_at g.given.code x.coroutine) 0)

-- ---- slots

-- a flagged slot lives from its alloca on
abbrev pub with_life : RenewedGiven → State → Slot → State
with_life g s slot = if g.flags s.top.func slot.alloca then with_memory s (start s.world.memory slot.block) else s

-- what a resumed activation makes anew is its own, and dies when it returns
abbrev pub renewed_slot : RenewedGiven → State → Slot → Mode → State
renewed_slot g s slot (Mode.Entering from label) =
    renew_after g (with_slots s (slot ∷ s.top.slots)) from label (renewed_from (g.flags s.top.func) (function_of g.given s) s.top.at)
renewed_slot g s slot mode = new_slot g.given s slot

abbrev pub is_flagged : (ℕ → Bool) → Operand → Bool
is_flagged flags (Operand.Local v) = flags v
is_flagged flags _ = false

-- a marker of a flagged slot
abbrev pub is_idle : (ℕ → Bool) → Fetched → Bool
is_idle flags (AtInstr (Instr.Call result must_tail ty callee args)) = is_lifetime callee && is_flagged flags (operand_at args 1)
is_idle flags _ = false

-- ---- a step

abbrev pub renewed_act : RenewedGiven → State → Action → Result State Cause
renewed_act g s (NewSlot w slot) = Ok (renewed_slot g (with_life g (settled s w) slot) slot s.top.mode)
renewed_act g s action = act g.given (continue_renewed g) s action

abbrev pub renewed_next : RenewedGiven → State → Fetched → Result State Cause
renewed_next g s fetched =
    if is_idle (g.flags s.top.func) fetched then Ok (next s)
    else renewed_act g s (action_of (context_of g.given s) (work_of s) fetched)

abbrev pub renewed_advance : RenewedGiven → State → Outcome → State
renewed_advance g s Outcome.Running = or_undefined g.given s (renewed_next g s (fetch (function_of g.given s) s.top.block s.top.at))
renewed_advance g s (Outcome.Returned v) = s
renewed_advance g s (Outcome.Undefined cause place) = s

-- one step; a run that is over stays as it is
abbrev pub renewed_step : RenewedGiven → State → State
renewed_step g s = renewed_advance g s s.outcome

-- ---- runs

-- no flagged slot belongs to an instance
abbrev pub renewed_facts : (ℕ → Bool) → Function → Facts → Facts
renewed_facts flags f facts = record facts { ramp_slots = filter flags (allocas_of f) ++ facts.ramp_slots }

abbrev pub facts_from : Flags → List Function → List Facts
facts_from flags [] = []
facts_from flags (f ∷ fs) = renewed_facts (flags 0) f (facts_of f) ∷ facts_from (λ func. flags (suc func)) fs

abbrev pub renewed_given : Module → Keep → Flags → Roots → List Frame → List ℤ → RenewedGiven
renewed_given m keep flags roots sizes answers =
    record {
      given = record { code = m; sizes = sizes; answers = answers; facts = facts_from flags m.functions };
      keep = keep;
      flags = flags;
      roots = roots;
    }

-- what is seen after n steps of the source meaning in which a resume hands on some values and makes some slots anew
abbrev pub RenewedAt : Module → Keep → Flags → Roots → List Frame → ℕ → List Word → List ℤ → ℕ → Seen
RenewedAt m keep flags roots sizes entry args answers n =
    let g = renewed_given m keep flags roots sizes answers in
    let s = iterate (renewed_step g) n (first_state m entry args) in
    seen_of m s.world s.outcome
