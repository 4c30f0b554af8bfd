-- At a suspend the framed run takes a step, and the part none: it is at the jump of the suspend's switch.
use Rattle.std.proofs.Common.{◌≡◌, ℕ, ◌+◌, ◌<◌, ◌≤◌, ⊎_elim, Bool, true, false, length, Some, refl, sym, ap, ◌∙◌, subst, arith}
use Rattle.std.proofs.lemmas.Bool.{cases_eq, false≢true}
use Rattle.std.specs.Prelude.{negsuc}
use Rattle.pass_proofs.specs.ir_base.declared.outcome.Outcome.{Outcome}
use Rattle.pass_proofs.proofs.ir_laws.facts.Truth.{equal_numbers}
use Rattle.pass_proofs.specs.ir_model.Names.{function_at, is_local}
use Rattle.pass_proofs.specs.ir_model.declared.instr.Instr.{Instr}
use Rattle.pass_proofs.specs.ir_model.declared.instr.Terminator.{Terminator}
use Rattle.pass_proofs.specs.ir_model.declared.module.Function.{Function}
use Rattle.pass_proofs.specs.ir_model.declared.operand.Callee.{Callee}
use Rattle.pass_proofs.specs.ir_model.declared.operand.Intrinsic.{Intrinsic}
use Rattle.pass_proofs.specs.ir_model.declared.operand.Operand.{Operand}
use Rattle.pass_proofs.specs.pass_intrinsics.declared.shape.Part.{Part}
use Rattle.pass_proofs.specs.pass_intrinsics.declared.shape.Shape.{Shape}
use Rattle.pass_split_proof.proofs.places.Laws.{stop_of}
use Rattle.pass_split_proof.proofs.places.Stops.{stop_there}
use Rattle.pass_split_proof.proofs.silent.Measure.{next_lower}
use Rattle.pass_split_proof.proofs.states.Advanced.{advanced, same_frames}
use Rattle.pass_split_proof.proofs.steps.Followed.{framed_does, none_followed}
use Rattle.pass_split_proof.proofs.steps.Saves.{set_there}
use Rattle.pass_split_proof.specs.places.Places.{Enters, IsCodeOf, IsPlace, IsStop, OfCoroutine, OfPlain}
use Rattle.pass_split_proof.specs.silent.Suspending.{IsAtSuspend, IsAtSuspendInPart}
use Rattle.pass_split_proof.specs.simulation.Followed.{IsFollowed}
use Rattle.pass_split_proof.specs.states.Activations.{IsBehind, IsPlaced, Stopping, is_entering}
use Rattle.pass_split_proof.specs.states.Going.{moved_to, placed_at}
use Rattle.pass_split_proof.specs.states.Memories.{homes_of}
use Rattle.pass_split_proof.specs.states.Related.{AreRelated, credit_of}
use Rattle.pass_split_proof.specs.states.Values.{AreValuesOf, IsStopResult}
use Rattle.pass_proofs.specs.rule_shape.Suspends.{is_suspend}
use Rattle.pass_proofs.specs.run_framed.Framed.{FramedGiven, framed_step}
use Rattle.pass_proofs.proofs.run_laws.transfer.Sets.{set_elsewhere, set_length}
use Rattle.pass_proofs.specs.run_laws.memory.Pointers.{IsValue}
use Rattle.pass_proofs.specs.run_memory.declared.pointer.Value.{Value}
use Rattle.run_access_worked.specs.run_plain.Plain.{PlainGiven, plain_work}
use Rattle.run_access_worked.specs.run_plain.declared.state.PlainState.{PlainState}
use Rattle.pass_proofs.specs.run_source.Source.{suspend}
use Rattle.pass_proofs.specs.run_source.State.{function_of, gives, or_undefined, work_of}
use Rattle.pass_proofs.specs.run_source.declared.state.State.{State}
use Rattle.pass_proofs.specs.run_step.Step.{AtInstr, AtTerm, Coro, fetch, set_value}
use Rattle.pass_proofs.specs.run_step.Values.{Env, arg_value, integer, operand_value, value_in, with_value}

local_is : (v : ℕ) (x : Operand) → is_local v x ≡ true → x ≡ Operand.Local v
local_is v (Operand.Local n) e = ap Operand.Local (sym (equal_numbers v n e))
local_is v _ e = absurd (cc)

-- what stands in a part at a suspend of its coroutine, and behind the suspend there
pub stopping : (f q : Function) (s : Shape) (part : Part) (block at piece offset : ℕ) (i : Instr)
    → IsCodeOf f q s part → f.coroutine ≡ true → IsPlace s part f q block at piece offset
    → fetch f block at ≡ AtInstr i → is_suspend i ≡ true
    → IsStop f block at i s.end × ((fetch q piece offset ≡ AtTerm (Terminator.Jump s.end))
    × Enters s part f q block piece s.end)
stopping f q _ _ block at piece offset i (OfCoroutine m k layout begin part x is) c p here e = (
  stop_there m k f begin x layout block at i here e,
  stop_of m k f q begin block at piece offset i layout part x is p here e,
)
stopping f q _ _ block at piece offset i (OfPlain m k plain rules same) c p here e
    = absurd (false≢true (sym plain ∙ c))

abbrev pub stopped : Value
stopped = integer 8 (negsuc 0)

-- ---- the framed run

module _ (g : FramedGiven) (s : State) (k : IsAtSuspend g s) where
  abbrev pub suspend_here : Instr
  suspend_here = Instr.Call (Some k.result) k.must_tail k.ty (Callee.Intrinsic Intrinsic.CoroSuspend) k.args

  abbrev pub behind_suspend : State
  behind_suspend = gives s (Some k.result) stopped

  pub suspend_is : s.outcome ≡ Outcome.Running → framed_step g s ≡ behind_suspend
  suspend_is runs = framed_does g s (AtInstr suspend_here) (Coro Intrinsic.CoroSuspend k.args (Some k.result)) runs
      k.there refl refl
      ∙ ap (λ (x : Operand). or_undefined g.given s (suspend s (Some k.result) x)) k.saved

  pub suspend_behind : (left : Bool) → IsBehind (function_of g.given s) true
      (moved_to s.top s.top.block (s.top.at + 1) (with_value s.top.values k.result stopped) left)
  suspend_behind left = record { before = s.top.at; at = refl; instr = suspend_here; there = k.there; is = refl }

  -- the switch is on -1
  pub switch_stops : (end : ℕ) (stop : IsStop (function_of g.given s) s.top.block s.top.at suspend_here end)
      → length s.top.values ≡ length (function_of g.given s).names
      → arg_value g.given.code (with_value s.top.values k.result stopped) stop.arg ≡ stopped
  switch_stops end stop whole =
      ap (λ (x : Operand). operand_value g.given.code (with_value s.top.values k.result stopped) stop.arg.ty x)
      (local_is stop.result stop.arg.value stop.on ∙ ap Operand.Local (sym (same stop.named)))
      ∙ set_there s.top.values k.result stopped (subst (λ (n : ℕ). k.result < n) (sym whole) k.known)
    where
      same : Some k.result ≡ Some stop.result → k.result ≡ stop.result
      same e = cc

-- ---- both runs

module _ (g : FramedGiven) (h : PlainGiven) (s : State) (t : PlainState) (r : AreRelated g h s t)
    (k : IsAtSuspend g s) where
  abbrev f : Function
  f = function_of g.given s

  abbrev q : Function
  q = function_at h.code t.top.func

  abbrev values : Env
  values = with_value s.top.values k.result stopped

  -- the part has no such value
  stand : AreValuesOf f (homes_of s.world.memory) values t.top.values
  stand = record {
    each = λ v no_stop. ⊎_elim (λ is. absurd (no_stop (subst (IsStopResult f) is own)))
        (λ ne. subst (λ (u : Value). IsValue (homes_of s.world.memory) u (value_in t.top.values v))
        (sym (set_elsewhere s.top.values k.result v stopped ne)) (r.top.values.each v no_stop)) (cases_eq k.result v);
    room = let a = set_length s.top.values k.result stopped in let b = r.top.values.room in omega arith;
  }
    where
      own : IsStopResult f k.result
      own = record {
        block = s.top.block;
        at = s.top.at;
        must_tail = k.must_tail;
        ty = k.ty;
        args = k.args;
        there = k.there;
      }

  pub suspended_related : is_entering s.top.mode ≡ false
      → IsPlaced r.top.shape r.top.part f q (moved_to s.top s.top.block (s.top.at + 1) values s.top.has_left)
      (placed_at t.top t.top.block t.top.at t.top.values) s.top.mode
      → AreRelated g h (behind_suspend g s k) t
  suspended_related mode place = advanced g h s t r (set_value (work_of s) k.result stopped) (plain_work t) s.instances
      s.top.block (s.top.at + 1) t.top.block t.top.at s.top.has_left mode r.world r.frames (same_frames s.instances)
      (reach (length s.world.memory)) (record { each = λ b e. refl }) stand (set_length s.top.values k.result stopped)
      refl refl place
    where
      reach : (n : ℕ) → n ≤ n
      reach n = omega arith

  pub no_step : s.outcome ≡ Outcome.Running → AreRelated g h (behind_suspend g s k) t → IsFollowed g h s t
  no_step runs related = none_followed g h s t r runs (behind_suspend g s k) (suspend_is g s k runs)
      (reach (credit_of s)) (next_lower f s.top.block s.top.at (suspend_here g s k) k.there) related (λ know. know)
    where
      reach : (n : ℕ) → n ≤ n
      reach n = omega arith

module _ (g : FramedGiven) (h : PlainGiven) (s : State) (t : PlainState) (r : AreRelated g h s t)
    (runs : s.outcome ≡ Outcome.Running) (k : IsAtSuspendInPart g h s t r) where
  facts : IsStop (function_of g.given s) s.top.block s.top.at (suspend_here g s k.at) r.top.shape.end
      × ((fetch (function_at h.code t.top.func) t.top.block t.top.at ≡ AtTerm (Terminator.Jump r.top.shape.end))
      × Enters r.top.shape r.top.part (function_of g.given s) (function_at h.code t.top.func) s.top.block t.top.block
      r.top.shape.end)
  facts = stopping (function_of g.given s) (function_at h.code t.top.func) r.top.shape r.top.part s.top.block s.top.at
      t.top.block t.top.at (suspend_here g s k.at) r.top.coded k.at.coroutine k.place k.at.there refl

  pub suspend_followed : IsFollowed g h s t
  suspend_followed = no_step g h s t r k.at runs (suspended_related g h s t r k.at k.settled
      (Stopping s.top.mode g.given.code facts.0.arg facts.0.cases k.settled (suspend_behind g s k.at s.top.has_left)
      facts.0.switch facts.0.both (switch_stops g s k.at r.top.shape.end facts.0 r.top.whole) facts.1.0 facts.1.1))
