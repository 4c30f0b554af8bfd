-- A save is followed in its part, in four steps.
use Rattle.std.proofs.Common.{◌≡◌, ℕ, ◌+◌, ◌<◌, ◌≤◌, ◌^◌, Bool, true, false, List, length, Option, Some, None, Ok, Err, Result, refl, sym, ap, ◌∙◌, subst, arith}
use Rattle.std.proofs.lemmas.Bool.{and_parts, false≢true}
use Rattle.std.specs.Prelude.{not, option_and_then, option_map, pos, slice_get, slice_set, ◌&&◌}
use Rattle.pass_proofs.specs.ir_base.declared.cause.Cause.{Cause}
use Rattle.pass_proofs.specs.ir_base.declared.outcome.Outcome.{Outcome}
use Rattle.pass_proofs.specs.ir_model.Names.{function_at}
use Rattle.pass_proofs.specs.ir_model.declared.instr.Instr.{Instr}
use Rattle.pass_proofs.specs.ir_model.declared.operand.Callee.{Callee}
use Rattle.pass_proofs.specs.ir_model.declared.operand.Intrinsic.{Intrinsic}
use Rattle.pass_proofs.specs.ir_paths.Windows.{suspend_of}
use Rattle.pass_proofs.specs.ir_paths.declared.point.Point.{Point}
use Rattle.pass_proofs.specs.ir_model.declared.operand.Operand.{Operand}
use Rattle.pass_proofs.specs.pass_intrinsics.Lowered.{address, number_of_save, save_stores}
use Rattle.pass_proofs.specs.pass_intrinsics.declared.shape.Shape.{Shape}
use Rattle.pass_split_proof.proofs.begins.Calm.{IsQuiet, line_quiet}
use Rattle.pass_split_proof.proofs.begins.SaveCode.{save_code, save_number}
use Rattle.pass_split_proof.proofs.simulation.Knowing.{goes_knows, new_kept, set_places}
use Rattle.pass_split_proof.proofs.states.Judged.{numbering}
use Rattle.pass_split_proof.proofs.states.Twins.{twin_at}
use Rattle.pass_split_proof.proofs.steps.Followed.{framed_does, many_followed}
use Rattle.pass_split_proof.proofs.steps.SavedStates.{runs_here, runs_through, save_related, save_steps}
use Rattle.pass_split_proof.specs.begins.Saving.{IsAtSave}
use Rattle.pass_proofs.specs.split.rules.Reached.{IsLedTo}
use Rattle.pass_split_proof.specs.code.Numbers.{IsNumbered}
use Rattle.pass_split_proof.specs.simulation.Followed.{IsFollowed}
use Rattle.pass_split_proof.specs.simulation.Knowing.{KnowsGiven}
use Rattle.pass_split_proof.specs.states.Instances.{IsLaidOut, in_state, is_given_in, is_held, is_held_in, lives_in, resumer_of, shape_at}
use Rattle.pass_split_proof.specs.states.Related.{AreHeadersKept, AreRelated, IsOn, credit_of, fetched_at, is_save_there, weight}
use Rattle.pass_split_proof.specs.steps.Saves.{HasSaveCode, saved_work}
use Rattle.pass_proofs.specs.run_agreement.Machines.{IsFine, iterate}
use Rattle.pass_proofs.specs.run_framed.Framed.{FramedGiven, framed_step, layout_of}
use Rattle.pass_proofs.proofs.run_laws.memory.Written.{same_some}
use Rattle.pass_proofs.specs.run_laws.access.Lines.{Runs, pointer_at}
use Rattle.pass_proofs.specs.run_memory.declared.block.MemoryBlock.{MemoryBlock}
use Rattle.run_access_worked.specs.run_plain.Plain.{PlainGiven, plain_context, plain_step, plain_work}
use Rattle.run_access_worked.specs.run_plain.declared.state.PlainState.{PlainState}
use Rattle.pass_proofs.specs.run_source.Source.{save}
use Rattle.pass_proofs.specs.run_source.State.{frame_address_of, function_of, is_finished, next, numbered as instance_numbered, or_undefined, point_of, with_instance, with_left}
use Rattle.pass_proofs.specs.run_source.declared.state.Instance.{Instance}
use Rattle.pass_proofs.specs.run_source.declared.state.Saved.{Saved}
use Rattle.pass_proofs.specs.run_source.declared.state.State.{State}
use Rattle.pass_proofs.specs.run_source.declared.state.Status.{Status}
use Rattle.pass_proofs.specs.run_step.Results.{and_then, found, ok_if}
use Rattle.pass_proofs.specs.run_step.Step.{AtInstr, Coro, Fetched, Work}
use Rattle.pass_proofs.specs.run_memory.declared.pointer.Value.{Value}
use Rattle.pass_proofs.specs.run_step.Values.{value_in, with_value}
use Rattle.pass_split_proof.proofs.steps.Through.{RunsThrough, line_through}
use Rattle.pass_split_proof.proofs.states.Headers.{headers_all, headers_saving}
use Rattle.pass_split_proof.proofs.states.Saved.{indexed_destroyed, others_headed, others_indexed, saved_destroyed}
use Rattle.pass_split_proof.specs.states.Saved.{with_index, with_save}

-- ---- the framed run

-- the instance is Suspended, with a save of the topmost activation
abbrev saved_at : State → Point → ℕ → Instance → State
saved_at s p i x
    = with_left (with_instance s i (record x {
      status = Status.Suspended p s.top.values;
      last_save = Some (record { depth = length s.below; save = point_of s });
    })) true

-- what a save does with an instance
abbrev saving : State → Point → Option (ℕ × Instance) → Result State Cause
saving s p o = and_then (and_then (found Cause.State o) (λ (w : ℕ × Instance).
    ok_if (not w.1.freed) Cause.State (saved_at s p w.0 w.1))) (λ (u : State). Ok (next u))

-- a save that isn't undefined has a suspend, and an instance that isn't freed
pub record HasSaved (g : FramedGiven) (s : State) : Type 0 where
  pub suspend : Point
  pub found_it : suspend_of (function_of g.given s) (point_of s) ≡ Some suspend
  pub number : ℕ
  pub instance : Instance
  pub own : s.top.instance ≡ Some number
  pub there : slice_get s.instances number ≡ Some instance
  pub unfreed : instance.freed ≡ false
  pub is : framed_step g s ≡ next (saved_at s suspend number instance)

module _ (g : FramedGiven) (s : State) (fine : IsFine (framed_step g s).outcome)
    (does : framed_step g s ≡ or_undefined g.given s (save g.given s)) where
  not_fine : (c : Cause) → framed_step g s ≡ or_undefined g.given s (Err c) → ⊥
  not_fine c e = subst (λ (x : State). IsFine x.outcome) e fine

  by_freed : (p : Point) → suspend_of (function_of g.given s) (point_of s) ≡ Some p → (i : ℕ)
      → s.top.instance ≡ Some i → (x : Instance) → slice_get s.instances i ≡ Some x
      → framed_step g s ≡ or_undefined g.given s (saving s p (Some (numbering i x)))
      → (b : Bool) → x.freed ≡ b → HasSaved g s
  by_freed p a i own x there d true e = absurd (not_fine Cause.State (d
      ∙ ap (λ (b : Bool). or_undefined g.given s (and_then (ok_if (not b) Cause.State (saved_at s p i x))
      (λ (u : State). Ok (next u)))) e))
  by_freed p a i own x there d false e = record {
    suspend = p;
    found_it = a;
    number = i;
    instance = x;
    own = own;
    there = there;
    unfreed = e;
    is = d ∙ ap (λ (b : Bool). or_undefined g.given s (and_then (ok_if (not b) Cause.State (saved_at s p i x))
        (λ (u : State). Ok (next u)))) e;
  }

  by_there : (p : Point) → suspend_of (function_of g.given s) (point_of s) ≡ Some p → (i : ℕ)
      → s.top.instance ≡ Some i
      → framed_step g s ≡ or_undefined g.given s (saving s p (option_map (numbering i) (slice_get s.instances i)))
      → (o : Option Instance) → slice_get s.instances i ≡ o → HasSaved g s
  by_there p a i own d None e = absurd (not_fine Cause.State (d
      ∙ ap (λ (o : Option Instance). or_undefined g.given s (saving s p (option_map (numbering i) o))) e))
  by_there p a i own d (Some x) e = by_freed p a i own x e (d
      ∙ ap (λ (o : Option Instance). or_undefined g.given s (saving s p (option_map (numbering i) o))) e) x.freed refl

  by_own : (p : Point) → suspend_of (function_of g.given s) (point_of s) ≡ Some p
      → framed_step g s ≡ or_undefined g.given s (saving s p (option_and_then (instance_numbered s.instances)
      s.top.instance))
      → (o : Option ℕ) → s.top.instance ≡ o → HasSaved g s
  by_own p a d None e = absurd (not_fine Cause.State (d ∙ ap (λ (o : Option ℕ). or_undefined g.given s
      (saving s p (option_and_then (instance_numbered s.instances) o))) e))
  by_own p a d (Some i) e = by_there p a i e (d ∙ ap (λ (o : Option ℕ). or_undefined g.given s
      (saving s p (option_and_then (instance_numbered s.instances) o))) e) (slice_get s.instances i) refl

  by_suspend : (o : Option Point) → suspend_of (function_of g.given s) (point_of s) ≡ o → HasSaved g s
  by_suspend None e = absurd (not_fine Cause.State (does ∙ ap (λ (o : Option Point). or_undefined g.given s
      (and_then (found Cause.State o) (λ (p : Point). saving s p
      (option_and_then (instance_numbered s.instances) s.top.instance)))) e))
  by_suspend (Some p) e = by_own p e (does ∙ ap (λ (o : Option Point). or_undefined g.given s
      (and_then (found Cause.State o) (λ (p : Point). saving s p
      (option_and_then (instance_numbered s.instances) s.top.instance)))) e) s.top.instance refl

  pub has_saved : HasSaved g s
  has_saved = by_suspend (suspend_of (function_of g.given s) (point_of s)) refl

-- ---- where a frame lies

-- the block of a frame that is there
pub held_block : (m : List MemoryBlock) (x : Instance) → is_held m x ≡ true
    → (y : MemoryBlock) × (slice_get m x.block ≡ Some y)
held_block m x = on (slice_get m x.block) refl
  where
    on : (o : Option MemoryBlock) → slice_get m x.block ≡ o → is_held_in o x ≡ true
        → (y : MemoryBlock) × (slice_get m x.block ≡ Some y)
    on None e held = absurd (false≢true (and_parts (not (is_given_in None x && is_finished x.status)) (lives_in None)
        (and_parts (not x.freed) (not (is_given_in None x && is_finished x.status) && lives_in None) held).1).1)
    on (Some y) e held = (y, e)

-- the index lies at a small offset
pub index_low : (g : FramedGiven) (h : PlainGiven) (s : State) (t : PlainState) (r : AreRelated g h s t) (i : ℕ)
    (x : Instance) → slice_get s.instances i ≡ Some x → is_held s.world.memory x ≡ true → IsLaidOut g x.coroutine
    → x.start + (layout_of g.layouts x.coroutine).index < 2 ^ 64
index_low g h s t r i x there held laid =
    let y = held_block s.world.memory x held in
    below x.start (layout_of g.layouts x.coroutine).index _ (layout_of g.layouts x.coroutine).size y.0.size laid.index
    (r.frames.laid.lies i x y.0 there y.1).inside
    (twin_at s.world.memory t.world.memory r.world.memory.twins x.block y.0 y.1).is.small
  where
    below : (a b l c z : ℕ) → b + l ≤ c → a + c ≤ z → z < 2 ^ 64 → a + b < 2 ^ 64
    below a b l c z le inside small = omega arith

-- ---- both runs

module _ (g : FramedGiven) (h : PlainGiven) (s : State) (t : PlainState) (r : AreRelated g h s t)
    (runs : s.outcome ≡ Outcome.Running) (fine : IsFine (framed_step g s).outcome) (k : IsAtSave g h s t r) where
  saved : HasSaved g s
  saved = has_saved g s fine (framed_does g s
      (AtInstr (Instr.Call (Some k.result) k.must_tail k.ty (Callee.Intrinsic Intrinsic.CoroSave) k.args))
      (Coro Intrinsic.CoroSave k.args (Some k.result)) runs k.there refl refl)

  abbrev x : Instance
  x = saved.instance

  number : (j : ℕ) × ((number_of_save r.top.shape (Some k.result) ≡ Some j)
      × IsNumbered (function_of g.given s) saved.suspend j)
  number = save_number (function_of g.given s) (function_at h.code t.top.func) r.top.shape r.top.part k.result
      s.top.block s.top.at
      (Instr.Call (Some k.result) k.must_tail k.ty (Callee.Intrinsic Intrinsic.CoroSave) k.args) saved.suspend
      r.top.coded k.coroutine k.there refl saved.found_it

  code : HasSaveCode g h s t r number.0
  code = save_code g h s t r k number.0 number.1.0 saved.suspend number.1.1

  -- the instance is the activation's own
  same : (r.top.frame saved.number saved.own).instance ≡ x
  same = let w = r.top.frame saved.number saved.own in same_some w.instance x (sym w.there ∙ saved.there)

  mine : x.coroutine ≡ s.top.func
  mine = let w = r.top.frame saved.number saved.own in ap (λ (z : Instance). z.coroutine) (sym same) ∙ w.coroutine

  at_begin : value_in t.top.values (shape_at g s.top.func).begin ≡ pointer_at x.block x.start
  at_begin = let w = r.top.frame saved.number saved.own in
      ap (λ (z : Shape). value_in t.top.values z.begin) (sym code.same) ∙ w.is ∙ ap frame_address_of same

  held : is_held s.world.memory x ≡ true
  held = k.held saved.number x saved.own saved.there saved.unfreed

  laid : IsLaidOut g x.coroutine
  laid = subst (IsLaidOut g) (sym mine) k.laid

  -- the suspend with its number, to which a path leads
  counted : (z : IsNumbered (function_at g.given.code x.coroutine) saved.suspend number.0)
      × IsLedTo (function_at g.given.code x.coroutine) z.suspend.block
  counted = subst (λ (n : ℕ). (z : IsNumbered (function_at g.given.code n) saved.suspend number.0)
      × IsLedTo (function_at g.given.code n) z.suspend.block) (sym mine)
      (number.1.1, k.led saved.suspend number.0 saved.found_it number.1.1)

  small : x.start + (layout_of g.layouts x.coroutine).index < 2 ^ 64
  small = index_low g h s t r saved.number x saved.there held laid

  abbrev kept : Option Saved
  kept = Some (record { depth = length s.below; save = point_of s })

  abbrev u : State
  u = next (saved_at s saved.suspend saved.number x)

  related : AreRelated g h u (iterate (plain_step h) 4 t)
  related = subst (AreRelated g h u)
      (sym (save_steps g h s t r saved.number x number.0 code saved.there mine at_begin held laid small saved.suspend
      counted.0 counted.1 kept (r.outcome ∙ runs)))
      (save_related g h s t r saved.number x number.0 code saved.there mine at_begin held laid small saved.suspend
      counted.0 counted.1 kept k.settled)

  abbrev w : Work
  w = saved_work g (plain_work t) code.name x number.0 (resumer_of g x.coroutine counted.0.suspend)

  -- what is known of frames that callers give
  abbrev at_index : Value
  at_index = pointer_at x.block (x.start + (layout_of g.layouts x.coroutine).index)

  knows : KnowsGiven g s t → KnowsGiven g u (iterate (plain_step h) 4 t)
  knows know = subst (KnowsGiven g u)
      (sym (save_steps g h s t r saved.number x number.0 code saved.there mine at_begin held laid small saved.suspend
      counted.0 counted.1 kept (r.outcome ∙ runs)))
      (goes_knows g s t
      (slice_set s.instances saved.number (in_state x (Status.Suspended saved.suspend s.top.values) kept x.released))
      s.world.memory (with_value t.top.values code.name at_index) (record { each = λ b e. refl })
      (set_places s.instances s.world.memory saved.number x
      (in_state x (Status.Suspended saved.suspend s.top.values) kept x.released) saved.there refl refl) know
      (new_kept g h s t r t.top.values at_index t.top.block t.top.at
      (address code.name (Operand.Local (shape_at g s.top.func).begin) (pos (shape_at g s.top.func).index))
      code.stands.stand.0 code.name refl))

  quiet : (n : ℕ) → n ≤ 3 → IsQuiet t (iterate (plain_step h) n t)
  quiet n le = line_quiet h (save_stores (shape_at g s.top.func) code.name number.0) t w (r.outcome ∙ runs)
      code.stands.stand
      (subst (λ (f : ℕ). Runs (plain_context h t) (save_stores (shape_at g f) code.name number.0) (plain_work t) w) mine
      (runs_here g h s t r saved.number x number.0 code saved.there mine at_begin held laid small saved.suspend
      counted.0 counted.1 kept)) (refl, (refl, (refl, tt))) n le

  -- headers stand, but what is being written
  abbrev Kept : List MemoryBlock → Type 0
  Kept n = AreHeadersKept g s n

  at_save : is_save_there (fetched_at g s) ≡ true
  at_save = ap is_save_there k.there

  with_index_kept : AreHeadersKept g s (with_index g t.world.memory x number.0)
  with_index_kept = headers_saving g s (with_index g t.world.memory x number.0) saved.number x saved.there
      saved.own at_save
      (indexed_destroyed g s.instances saved.number x s.world.memory t.world.memory saved.there held r.frames
      r.world.memory laid saved.suspend s.top.values kept x.released number.0 counted.0 counted.1)
      (others_indexed g s.instances saved.number x s.world.memory t.world.memory saved.there held r.frames
      r.world.memory laid saved.suspend s.top.values kept x.released number.0 counted.0 counted.1)

  with_save_kept : AreHeadersKept g s (with_save g t.world.memory x number.0 (resumer_of g x.coroutine
      counted.0.suspend))
  with_save_kept = headers_saving g s (with_save g t.world.memory x number.0 (resumer_of g x.coroutine
      counted.0.suspend)) saved.number x saved.there saved.own at_save
      (saved_destroyed g s.instances saved.number x s.world.memory t.world.memory saved.there held r.frames
      r.world.memory laid saved.suspend s.top.values kept x.released number.0 counted.0 counted.1)
      (others_headed g s.instances saved.number x s.world.memory t.world.memory saved.there held r.frames
      r.world.memory laid saved.suspend s.top.values kept x.released number.0 counted.0 counted.1)

  headers : (n : ℕ) → n ≤ 3 → AreHeadersKept g s (iterate (plain_step h) n t).world.memory
  headers n le = line_through Kept h (save_stores (shape_at g s.top.func) code.name number.0) t w (r.outcome ∙ runs)
      code.stands.stand
      (subst (λ (f : ℕ). RunsThrough Kept (plain_context h t) (save_stores (shape_at g f) code.name number.0)
      (plain_work t) w) mine
      (runs_through g h s t r saved.number x number.0 code saved.there mine at_begin held laid small saved.suspend
      counted.0 counted.1 kept Kept (headers_all g s t.world.memory r.frames.headed) with_index_kept with_save_kept))
      (headers_all g s t.world.memory r.frames.headed) n le

  on_way : (n : ℕ) → n < 4 → IsOn g s (iterate (plain_step h) n t)
  on_way n lt = let z = quiet n (less n lt) in record {
    goes = runs;
    running = z.0;
    events = z.1.0 ∙ r.world.events;
    allocs = z.1.1 ∙ r.world.allocs;
    headers = headers n (less n lt);
  }
    where
      less : (n : ℕ) → n < 4 → n ≤ 3
      less n lt = omega arith

  pub save_followed : IsFollowed g h s t
  save_followed = many_followed g h s t r runs 4 u (omega arith) (omega arith) saved.is
      (subst (λ (y : Fetched). 4 + credit_of u ≤ weight y + credit_of s) (sym k.there) (reach (credit_of s))) on_way
      related knows
    where
      reach : (n : ℕ) → 4 + n ≤ 4 + n
      reach n = omega arith
