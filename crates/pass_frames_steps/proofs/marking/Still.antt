-- An instruction of which nothing stands in the framed form: the framed run takes no step, and stands where it stood.
use Rattle.std.proofs.Common.{◌≡◌, ◌+◌, ◌-◌, ◌<◌, ◌≤◌, ◌∙◌, Option, Some, ap, arith, false, inr, length, refl, subst, sym, true, ℕ}
use Rattle.std.specs.Prelude.{slice_get}
use Rattle.pass_frames_code.proofs.ir_laws.facts.Lists.{get_within}
use Rattle.pass_frames_code.specs.ir_model.Ty.{Ty}
use Rattle.pass_frames_code.specs.ir_model.declared.instr.Instr.{Instr}
use Rattle.pass_frames_code.specs.ir_model.declared.module.Function.{Function}
use Rattle.pass_frames_code.proofs.stepping.After.{right_there, wheres_there}
use Rattle.pass_frames_code.proofs.stepping.Codes.{block_there}
use Rattle.pass_frames_code.proofs.stepping.May.{coroutine_values, not_returned}
use Rattle.pass_frames_code.proofs.stepping.Operands.{asked}
use Rattle.pass_frames_code.proofs.stepping.Rest.{LeavesRest, own_slots, rest_related}
use Rattle.pass_frames_code.proofs.stepping.Stands.{made_of, top_is, values_of}
use Rattle.pass_frames_code.specs.Followed.{IsFollowed, instr_count, measure}
use Rattle.pass_frames_code.specs.Framings.{IsFraming}
use Rattle.pass_frames_code.specs.Meaning.{step_cost}
use Rattle.pass_frames_code.specs.Places.{Framing, edged, instrs_at, is_return, place}
use Rattle.pass_frames_code.specs.Related.{AreActivations, AreAhead, AreBuiltOf, AreCellsRight, AreCoroutines, AreMates, AreWheresRight, Building, HasCells, IsAhead, IsFreeOf, instance_in, is_coroutine, is_first, point_of, top_place}
use Rattle.pass_frames_code.specs.Stepping.{AreGiven, IsNotEntering}
use Rattle.pass_frames_code.specs.pass_renewed_proof.Renewed.{RenewedGiven, renewed_step}
use Rattle.pass_frames_code.specs.run_framed.Framed.{frame_rights}
use Rattle.pass_frames_code.specs.run_laws.transfer.Transfer.{AreOver}
use Rattle.pass_frames_code.specs.run_memory.Memory.{Rights, owner_rights}
use Rattle.pass_frames_code.specs.run_source.State.{function_of}
use Rattle.pass_frames_code.specs.run_source.declared.state.Activation.{Activation}
use Rattle.pass_frames_code.specs.run_source.declared.state.State.{State}
use Rattle.pass_frames_code.specs.run_step.declared.world.World.{World}

-- ---- the source's memory changes where the target's stays

module _ (b : Building) (s t : State) (r : AreBuiltOf b s t) (w : World)
    (framings : (func : ℕ) → is_coroutine b func ≡ true → IsFraming (b.framing func))
    (mates : AreMates r.homes w.memory t.world.memory)
    (free : (block : ℕ) → IsFreeOf r.homes r.hides s.world.memory block → IsFreeOf r.homes r.hides w.memory block)
    (known : length w.memory ≡ length s.world.memory) where
  pub ahead_still : (x : Framing) (c : Activation) (name align : ℕ) (ty : Ty)
      → IsAhead x r.homes r.hides s.world.memory t.world.memory c name ty align
      → IsAhead x r.homes r.hides w.memory t.world.memory c name ty align
  ahead_still x c name align ty k = record {
    block = k.block;
    address = k.address;
    own = k.own;
    free = free k.block k.free;
    bytes = k.bytes;
    sized = k.sized;
    there = k.there;
  }

  pub left_still : LeavesRest b s t r w t.world
  left_still = record {
    framings = framings;
    cells = λ c l is slot e name o most bytes h. h;
    fields = λ i x y e h p env is j number live f. f;
    returned = λ a c y j l is own from h. h;
    mates = mates;
    free = free;
    ahead = λ x c name align ty l. ahead_still x c name align ty;
    known = known;
  }

-- ---- the states

module _ (b : Building) (g : RenewedGiven) (given : AreGiven b g) (s t : State) (r : AreBuiltOf b s t)
    (coroutine : is_coroutine b s.top.func ≡ true) (mode : IsNotEntering s.top.mode)
    (unreturned : is_return (b.framing s.top.func) s.top.block ≡ false)
    (stays : (place (b.framing s.top.func) (record { block = s.top.block; at = s.top.at + 1 })).at
    ≡ (place (b.framing s.top.func) (record { block = s.top.block; at = s.top.at })).at) where
  abbrev pub x : Framing
  x = b.framing s.top.func

  abbrev pub R : Rights
  R = frame_rights b.given t.instances

  pub is : IsFraming x
  is = given.framings s.top.func coroutine

  pub values : AreCoroutines x r.homes R t s.top t.top
  values = coroutine_values b r.homes R t s.top t.top (is_coroutine b s.top.func) coroutine r.top.values

  pub cells : AreCellsRight x r.homes R t.world.memory s.top.values t.top
      × AreWheresRight x R t.world.memory (instance_in t.instances t.top.instance) t.top
  cells =
      subst (λ (o : Option ℕ). HasCells x r.homes R t.world.memory
      (instance_in t.instances t.top.instance) s.top t.top o)
      (not_returned x s.top s.top.mode mode unreturned) values.cells

  abbrev pub a' : Activation
  a' = record s.top { at = s.top.at + 1 }

  pub place_still : point_of t.top ≡ top_place b a'
  place_still =
      r.top.place
      ∙ top_is b s.top coroutine mode
      ∙ ap (λ (k : ℕ). record { block = s.top.block; at = k }) (sym stays)
      ∙ sym (top_is b a' coroutine mode)

  pub after : AreCoroutines x r.homes R t a' t.top
  after = record {
    names = record {
      each = λ v asks. values.names.each v (asked x s.top s.top.mode v mode);
      room = values.names.room;
    };
    cells = subst
        (λ (o : Option ℕ). HasCells x r.homes R t.world.memory (instance_in t.instances t.top.instance) a' t.top o)
        (sym (not_returned x a' s.top.mode mode unreturned)) cells;
    made = made_of x R t.world.memory t.top s.top.mode mode (
      right_there x is r.homes R t.world.memory s.top.values t.top cells.0,
      wheres_there x R t.world.memory t.top (instance_in t.instances t.top.instance) cells.1,
    );
  }

  module _ (w : World) (left : LeavesRest b s t r w t.world)
      (ahead : (name align : ℕ) (ty : Ty)
      → IsAhead x r.homes r.hides s.world.memory t.world.memory t.top name ty align
      → IsAhead x r.homes r.hides w.memory t.world.memory t.top name ty align)
      (over : AreOver owner_rights R r.homes r.hides (λ d. d) w t.world) where
    top_still : AreActivations b r.homes r.hides t (top_place b) a' t.top
    top_still = record {
      func = r.top.func;
      place = place_still;
      result = r.top.result;
      mode = r.top.mode;
      instance = r.top.instance;
      has_left = r.top.has_left;
      values = values_of b r.homes R t a' t.top (is_coroutine b s.top.func) coroutine after;
      slots = own_slots b s t r w t.world left s.top.block (s.top.at + 1) t.top.block t.top.at s.top.values
          t.top.values;
    }

    ahead_here : is_coroutine b s.top.func ≡ true → is_first s.top.mode ≡ true → s.top.block ≡ 0
        → AreAhead x r.homes r.hides w.memory t.world.memory a' t.top
    ahead_here is first block = record {
      slots = λ at u align ty e le outside.
          ahead u align ty ((r.ahead.0 is first block).slots at u align ty e (omega (arith, le)) outside);
      temporaries = λ e at align ty listed there le.
          ahead e.temporary e.align e.ty
          ((r.ahead.0 is first block).temporaries e at align ty listed there (omega (arith, le)));
    }

    pub still_related : AreBuiltOf b (record s { world = w; top = record s.top { at = s.top.at + 1 } }) t
    still_related =
        rest_related b s t r w t.world left s.top.block (s.top.at + 1) t.top.block t.top.at s.top.values t.top.values
        over ahead_here top_still

-- ---- no step is taken, and fewer instructions are ahead

less : (n at : ℕ) → at < n → n - (at + 1) < n - at
less n at lt = omega arith

pub falls : (b : Building) (g : RenewedGiven) → AreGiven b g → (s : State) → is_coroutine b s.top.func ≡ true
    → (i : Instr) → slice_get (instrs_at (b.framing s.top.func) s.top.block) s.top.at ≡ Some i → (z : State)
    → z.top.func ≡ s.top.func → z.top.block ≡ s.top.block → z.top.at ≡ s.top.at + 1 → measure g z < measure g s
falls b g given s coroutine i there z func block at =
    subst (λ (p : ℕ × ℕ). p.0 < p.1) (λ j. (sym after j, sym before j))
    (less (length (instrs_at (b.framing s.top.func) s.top.block)) s.top.at
    (get_within (instrs_at (b.framing s.top.func) s.top.block) s.top.at i there))
  where
    counted : (f : ℕ) (k : ℕ) → f ≡ s.top.func → k ≡ s.top.block
        → instr_count (slice_get (function_of g.given (record s { top = record s.top { func = f } })).blocks k)
        ≡ length (instrs_at (b.framing s.top.func) s.top.block)
    counted f k e d =
        (λ j. instr_count (slice_get (function_of g.given (record s { top = record s.top { func = e j } })).blocks
        (d j)))
        ∙ ap (λ (h : Function). instr_count (slice_get h.blocks s.top.block)) (given.coroutines s.top.func coroutine)
        ∙ ap instr_count (block_there (edged (b.framing s.top.func)) s.top.block s.top.at i there)

    before : measure g s ≡ length (instrs_at (b.framing s.top.func) s.top.block) - s.top.at
    before = ap (λ (n : ℕ). n - s.top.at) (counted s.top.func s.top.block refl refl)

    after : measure g z ≡ length (instrs_at (b.framing s.top.func) s.top.block) - (s.top.at + 1)
    after = λ j. counted z.top.func z.top.block func block j - at j

pub none_followed : (b : Building) (g : RenewedGiven) → AreGiven b g → (s t : State)
    → is_coroutine b s.top.func ≡ true → (i : Instr)
    → slice_get (instrs_at (b.framing s.top.func) s.top.block) s.top.at ≡ Some i → (z : State)
    → renewed_step g s ≡ z → z.top.func ≡ s.top.func → z.top.block ≡ s.top.block → z.top.at ≡ s.top.at + 1
    → AreBuiltOf b z t → IsFollowed b g s t
none_followed b g given s t coroutine i there z step func block at related = record {
  steps = 0;
  few = none (step_cost b g s s.top.mode);
  goes_on = inr (subst (λ (u : State). measure g u < measure g s) (sym step)
      (falls b g given s coroutine i there z func block at));
  passes = λ k pos lt. absurd (no k lt);
  related = subst (λ (u : State). AreBuiltOf b u t) (sym step) related;
}
  where
    none : (n : ℕ) → 0 ≤ n
    none n = omega arith

    no : (k : ℕ) → k < 0 → ⊥
    no k lt = omega arith
