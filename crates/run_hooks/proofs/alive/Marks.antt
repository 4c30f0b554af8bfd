-- Points behind instructions, and blocks that markers start and end.
use Rattle.std.proofs.Common.{◌≡◌, ◌⊎◌, inl, inr, ℕ, zero, suc, Bool, true, false, List, [], ◌∷◌, length, Option, Some}
use Rattle.std.proofs.Common.{None, refl, ap, ◌∙◌, arith}
use Rattle.std.specs.Prelude.{if◌then◌else◌, slice_get, ◌==◌, ◌&&◌, replicate}
use Rattle.pass_renewed_proof.specs.frame_slots.Uses.{ends_of, is_marker_of}
use Rattle.pass_renewed_proof.specs.ir_model.Names.{is_local}
use Rattle.pass_renewed_proof.specs.ir_model.declared.module.Block.{Block}
use Rattle.pass_renewed_proof.specs.ir_model.declared.instr.Instr.{Instr}
use Rattle.pass_renewed_proof.specs.ir_model.declared.module.Function.{Function}
use Rattle.pass_renewed_proof.specs.ir_model.declared.module.Module.{Module}
use Rattle.pass_renewed_proof.specs.ir_model.declared.operand.Arg.{Arg}
use Rattle.pass_renewed_proof.specs.ir_model.declared.operand.Callee.{Callee}
use Rattle.pass_renewed_proof.specs.ir_model.declared.operand.Intrinsic.{Intrinsic}
use Rattle.pass_renewed_proof.specs.ir_model.declared.operand.Operand.{Operand}
use Rattle.pass_renewed_proof.specs.ir_paths.Paths.{has_point, nexts}
use Rattle.pass_renewed_proof.specs.ir_paths.Windows.{call_operand, instr_at, instr_in, is_call_of, operand_at}
use Rattle.pass_renewed_proof.specs.ir_paths.declared.point.Point.{Point}
use Rattle.pass_renewed_proof.specs.pass_kept_proof.SuspendRules.{IsCallAt}
use Rattle.pass_renewed_proof.proofs.Ahead.{leads_more}
use Rattle.pass_renewed_proof.proofs.History.{no_marker}
use Rattle.pass_renewed_proof.proofs.Left.{after_edge}
use Rattle.pass_renewed_proof.specs.SlotRules.{IsMarkerAt}
use Rattle.pass_renewed_proof.specs.rule_windows.Points.{ends}
use Rattle.pass_renewed_proof.specs.rule_windows.Sets.{RunsOut}
use Rattle.run_hooks.proofs.alive.Open.{not_listed}
use Rattle.run_hooks.specs.Away.{spot_by}
use Rattle.run_hooks.specs.alive.Alive.{IsEnded}
use Rattle.run_hooks.specs.alive.Slots.{IsHeld, Ramp, is_gone, lives}
use Rattle.pass_renewed_proof.specs.run_memory.Memory.{end, ended, is_killed, is_live, start, started, with_block}
use Rattle.pass_renewed_proof.specs.run_memory.declared.block.Byte.{Byte}
use Rattle.pass_renewed_proof.specs.run_memory.declared.block.Life.{Life}
use Rattle.pass_renewed_proof.specs.run_memory.declared.block.MemoryBlock.{MemoryBlock}
use Rattle.pass_renewed_proof.specs.run_memory.declared.pointer.Value.{Value}
use Rattle.pass_renewed_proof.specs.run_source.declared.state.Mode.{Mode}
use Rattle.pass_renewed_proof.specs.run_step.Step.{AtInstr, Context, Done, Work, block_of, fetch, fetch_in, fetch_or, instr_action}
use Rattle.pass_renewed_proof.specs.run_step.Step.{on_block, set_memory}
use Rattle.pass_renewed_proof.specs.run_step.Values.{Env, arg_values, nth, operand_value, value_in}
use Rattle.pass_renewed_proof.specs.run_step.declared.world.Slot.{Slot}

-- ---- points

-- one that isn't entering a label stands at its point
pub spot_is : (f : Function) (mode : Mode) (p : Point) → ((from label : ℕ) → mode ≡ Mode.Entering from label → ⊥)
    → spot_by f mode p ≡ p
spot_is f Mode.Plain p never = refl
spot_is f Mode.Ramp p never = refl
spot_is f Mode.Resumed p never = refl
spot_is f (Mode.GivenRamp frame) p never = refl
spot_is f (Mode.Entering from label) p never = absurd (never from label refl)

pub held_on : (f : Function) (values other : Env) (p q : Point) (slot : Slot) → has_point (nexts f p) q ≡ true
    → (IsMarkerAt f Intrinsic.LifetimeEnd slot.alloca p → ⊥)
    → value_in other slot.alloca ≡ value_in values slot.alloca → IsHeld f values p slot → IsHeld f other q slot
held_on f values other p q slot edge never same h = record {
  start = h.start;
  is_start = h.is_start;
  path = leads_more f (ends_of f slot.alloca) h.start p q h.path
      (no_marker f Intrinsic.LifetimeEnd slot.alloca p never) edge;
  known = ap block_of same ∙ h.known;
}

pub runs_on : (f : Function) (p q : Point) → has_point (nexts f p) q ≡ true → (IsCallAt Intrinsic.CoroEnd f p → ⊥)
    → RunsOut f p → RunsOut f q
runs_on f p q edge never r = record {
  start = r.start;
  is_start = r.is_start;
  path = leads_more f (ends f) r.start p q r.path (not_listed f Intrinsic.CoroEnd p never) edge;
}

pub ended_on : (f : Function) (p q : Point) → has_point (nexts f p) q ≡ true → (IsCallAt Intrinsic.CoroEnd f p → ⊥)
    → IsEnded f p → IsEnded f q
ended_on f p q edge never (inl c) = absurd (never c)
ended_on f p q edge never (inr w) = inr (after_edge f p q w edge)

-- ---- markers

pub second : (m : Module) (env : Env) (args : List Arg) (v : ℕ) → operand_at args 1 ≡ Operand.Local v
    → nth (arg_values m env args) 1 ≡ value_in env v
second m env [] v t = absurd (cc)
second m env (a ∷ []) v t = absurd (cc)
second m env (a ∷ b ∷ args) v t = ap (operand_value m env b.ty) t

pub start_does : (c : Context) (w : Work) (i : Instr) → is_call_of Intrinsic.LifetimeStart i ≡ true → (v : ℕ)
    → call_operand i 1 ≡ Operand.Local v
    → instr_action c w i ≡ Done (set_memory w (on_block start w.world.memory (block_of (value_in w.values v))))
start_does c w (Instr.Call result must_tail ty (Callee.Intrinsic Intrinsic.LifetimeStart) args) e v t =
    ap (λ (z : Value). Done (set_memory w (on_block start w.world.memory (block_of z))))
    (second c.code w.values args v t)
start_does c w _ e v t = absurd (cc)

pub end_does : (c : Context) (w : Work) (i : Instr) → is_call_of Intrinsic.LifetimeEnd i ≡ true → (v : ℕ)
    → call_operand i 1 ≡ Operand.Local v
    → instr_action c w i ≡ Done (set_memory w (on_block end w.world.memory (block_of (value_in w.values v))))
end_does c w (Instr.Call result must_tail ty (Callee.Intrinsic Intrinsic.LifetimeEnd) args) e v t =
    ap (λ (z : Value). Done (set_memory w (on_block end w.world.memory (block_of z)))) (second c.code w.values args v t)
end_does c w _ e v t = absurd (cc)

pub coro_end_does : (c : Context) (w : Work) (i : Instr) → is_call_of Intrinsic.CoroEnd i ≡ true → (v : Work)
    → instr_action c w i ≡ Done v → ⊥
coro_end_does c w (Instr.Call result must_tail ty (Callee.Intrinsic Intrinsic.CoroEnd) args) e v d = absurd (cc)
coro_end_does c w _ e v d = absurd (cc)

pub start_no_end : (i : Instr) → is_call_of Intrinsic.LifetimeStart i ≡ true → is_call_of Intrinsic.LifetimeEnd i ≡ true
    → ⊥
start_no_end (Instr.Call result must_tail ty (Callee.Intrinsic Intrinsic.LifetimeStart) args) e h = absurd (cc)
start_no_end _ e h = absurd (cc)

pub start_no_coro_end : (i : Instr) → is_call_of Intrinsic.LifetimeStart i ≡ true → is_call_of Intrinsic.CoroEnd i
    ≡ true
    → ⊥
start_no_coro_end (Instr.Call result must_tail ty (Callee.Intrinsic Intrinsic.LifetimeStart) args) e h = absurd (cc)
start_no_coro_end _ e h = absurd (cc)

is_itself : (v : ℕ) → (v == v) ≡ true
is_itself v = grind arith

-- a call that takes the alloca is a marker of it
pub both_are : (i : Instr) (v : ℕ) → is_call_of Intrinsic.LifetimeStart i ≡ true → call_operand i 1 ≡ Operand.Local v
    → is_marker_of Intrinsic.LifetimeStart v i ≡ true
both_are i v is takes = (λ j. is j && is_local v (takes j)) ∙ is_itself v

pub done_is : (a b : Work) → Done a ≡ Done b → a ≡ b
done_is a b e = cc

-- what stands at a point is the instruction there
pub instr_there : (f : Function) (p : Point) (i : Instr) → fetch f p.block p.at ≡ AtInstr i → instr_at f p ≡ Some i
instr_there f p i e = on (slice_get f.blocks p.block) e
  where
    at_block : (b : Block) (o : Option Instr) (t : Bool) → fetch_or o t b.term ≡ AtInstr i → o ≡ Some i
    at_block b (Some j) t h = let same : j ≡ i = cc in ap Some same
    at_block b None true h = absurd (cc)
    at_block b None false h = absurd (cc)

    on : (o : Option Block) → fetch_in o p.at ≡ AtInstr i → instr_in o p.at ≡ Some i
    on None h = absurd (cc)
    on (Some b) h = at_block b (slice_get b.instrs p.at) (p.at == length b.instrs) h

-- ---- a block that is started, or ended

pub started_live : (m : List MemoryBlock) (b c : ℕ) → lives (with_block m b started) c ≡ true → (lives m c ≡ true)
    ⊎ (c ≡ b)
started_live [] b c e = inl e
started_live (x ∷ m) zero zero e = inr refl
started_live (x ∷ m) zero (suc c) e = inl e
started_live (x ∷ m) (suc b) zero e = inl e
started_live (x ∷ m) (suc b) (suc c) e = on (started_live m b c e)
  where
    on : (lives m c ≡ true) ⊎ (c ≡ b) → (lives (x ∷ m) (suc c) ≡ true) ⊎ (suc c ≡ suc b)
    on (inl h) = inl h
    on (inr h) = inr (ap suc h)

pub started_gone : (m : List MemoryBlock) (b c : ℕ) → is_gone m c ≡ true → is_gone (with_block m b started) c ≡ true
started_gone [] b c e = e
started_gone (x ∷ m) zero zero e = on (is_killed x.life) e refl
  where
    on : (t : Bool) → t ≡ true → is_killed x.life ≡ t → is_killed (started x).life ≡ true
    on true h et = ap (λ (u : Bool). is_killed (if u then x else record x {
      life = Life.Live;
      bytes = replicate x.size Byte.Undefined;
    }).life) et ∙ et
    on false h et = absurd (cc)
started_gone (x ∷ m) zero (suc c) e = e
started_gone (x ∷ m) (suc b) zero e = e
started_gone (x ∷ m) (suc b) (suc c) e = started_gone m b c e

pub same_length : (m : List MemoryBlock) (b : ℕ) (f : MemoryBlock → MemoryBlock) → length (with_block m b f) ≡ length m
same_length [] b f = refl
same_length (x ∷ m) zero f = refl
same_length (x ∷ m) (suc b) f = ap suc (same_length m b f)

pub ended_dead : (m : List MemoryBlock) (b : ℕ) → lives (with_block m b ended) b ≡ true → ⊥
ended_dead [] b e = absurd (cc)
ended_dead (x ∷ m) zero e = on (is_killed x.life) refl e
  where
    on : (t : Bool) → is_killed x.life ≡ t
        → is_live (if t then x else record x { life = Life.Ended }).life ≡ true → ⊥
    on true et h = by x.life et h
      where
        by : (l : Life) → is_killed l ≡ true → is_live l ≡ true → ⊥
        by Life.Live k z = absurd (cc)
        by Life.Ended k z = absurd (cc)
        by Life.Killed k z = absurd (cc)
    on false et h = absurd (cc)
ended_dead (x ∷ m) (suc b) e = ended_dead m b e
