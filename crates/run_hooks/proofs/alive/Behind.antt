-- What holds behind an instruction, where live slots may be alive before it.
use Rattle.std.proofs.Common.{◌≡◌, ◌<◌, ◌⊎◌, inl, ℕ, ◌+◌, Bool, true, false, List, length, Some, sym, ap, ◌∙◌, subst}
use Rattle.std.proofs.Common.{arith}
use Rattle.std.specs.List.{AllByRecursion}
use Rattle.std.specs.Prelude.{slice_get}
use Rattle.pass_renewed_proof.specs.ir_model.Names.{function_at}
use Rattle.pass_renewed_proof.specs.ir_model.declared.instr.Instr.{Instr}
use Rattle.pass_renewed_proof.specs.ir_model.declared.module.Function.{Function}
use Rattle.pass_renewed_proof.specs.ir_model.declared.module.Module.{Module}
use Rattle.pass_renewed_proof.specs.ir_model.declared.operand.Intrinsic.{Intrinsic}
use Rattle.pass_renewed_proof.specs.ir_paths.Paths.{has_point, nexts}
use Rattle.pass_renewed_proof.specs.ir_paths.declared.point.Point.{Point}
use Rattle.pass_renewed_proof.specs.pass_kept_proof.SuspendRules.{IsCallAt}
use Rattle.pass_renewed_proof.proofs.Ahead.{next_edge}
use Rattle.pass_renewed_proof.proofs.Left.{after_edge}
use Rattle.pass_renewed_proof.specs.SlotRules.{IsMadeOnce, IsMarkerAt}
use Rattle.pass_renewed_proof.specs.Steps.{given_at}
use Rattle.pass_renewed_proof.specs.rule_slots.Closed.{IsClosed}
use Rattle.run_hooks.proofs.alive.Lives.{AreFewer}
use Rattle.run_hooks.proofs.alive.Moves.{IsOfOwn, fewer_for, fewer_instance, moves_on, owned_of}
use Rattle.run_hooks.proofs.alive.Open.{after}
use Rattle.run_hooks.proofs.alive.Parts.{AllIn, IsMoved, IsNew, in_any, met_by}
use Rattle.run_hooks.specs.Away.{point_in, spot_by, spot_of}
use Rattle.run_hooks.specs.alive.Alive.{Account, IsAliveState, IsMarker, KeepsAliveRules, account_of}
use Rattle.run_hooks.specs.alive.Slots.{AreAliveSlots, AreMet, Home, IsHeld, IsSlotOf, home_of, lives}
use Rattle.pass_renewed_proof.specs.run_memory.Memory.{end}
use Rattle.pass_renewed_proof.specs.run_memory.declared.block.MemoryBlock.{MemoryBlock}
use Rattle.pass_renewed_proof.specs.run_source.State.{is_suspended, settled}
use Rattle.pass_renewed_proof.specs.run_source.declared.state.Activation.{Activation}
use Rattle.pass_renewed_proof.specs.run_source.declared.state.Instance.{Instance}
use Rattle.pass_renewed_proof.specs.run_source.declared.state.Mode.{Mode}
use Rattle.pass_renewed_proof.specs.run_source.declared.state.State.{State}
use Rattle.pass_renewed_proof.specs.run_step.Effects.{is_alloca}
use Rattle.pass_renewed_proof.specs.run_step.Step.{AtInstr, Work, fetch}
use Rattle.pass_renewed_proof.specs.run_step.Values.{Env, value_in}
use Rattle.pass_renewed_proof.specs.run_step.declared.world.Slot.{Slot}
use Rattle.run_hooks.proofs.alive.Marks.{spot_is, held_on, runs_on, ended_on}

-- ---- a state

-- what is known of one below the topmost activation
pub record IsLower (s : State) (d : ℕ) (a : Activation) : Type 0 where
  pub less : d < length s.below
  pub left : (i : ℕ) → s.top.instance ≡ Some i → a.instance ≡ Some i → a.has_left ≡ true
  pub own : (i : ℕ) (x : Instance) → a.instance ≡ Some i → slice_get s.instances i ≡ Some x → x.coroutine ≡ a.func

-- what is known of the activations and instances of a state, by what holds of each state
pub record IsInOrder (s : State) : Type 0 where
  pub own : IsOfOwn s
  pub lower : AllIn (IsLower s) s.below
  pub awake : (i : ℕ) (x : Instance) → s.top.instance ≡ Some i → slice_get s.instances i ≡ Some x
      → s.top.has_left ≡ false → is_suspended x.status ≡ false

module _ (m : Module) (counts : ℕ → ℕ → Bool) (s : State) (h : IsAliveState m counts s) (order : IsInOrder s)
    (ramp_slots : List ℕ) (rules : KeepsAliveRules (function_at m s.top.func) ramp_slots)
    (entering : (from label : ℕ) → s.top.mode ≡ Mode.Entering from label → ⊥)
    (i : Instr) (stands : fetch (function_at m s.top.func) s.top.block s.top.at ≡ AtInstr i) where
  abbrev f : Function
  f = function_at m s.top.func

  abbrev p : Point
  p = point_in s.top

  abbrev k : Account
  k = account_of h.tags s

  pub edge : has_point (nexts (function_at m s.top.func) (point_in s.top)) (after (point_in s.top)) ≡ true
  edge = next_edge (function_at m s.top.func) s.top.block s.top.at i stands

  -- what stands there names no alloca, unless it is one
  pub not_made : is_alloca i ≡ false → (v : ℕ) → IsMadeOnce (function_at m s.top.func) v
      → given_at (fetch (function_at m s.top.func) s.top.block s.top.at) ≡ Some v → ⊥
  not_made never v made e =
      let a = made.alone s.top.block s.top.at e in
      let there : fetch f s.top.block s.top.at ≡ fetch f 0 made.at = λ j. fetch f (a.0 j) (a.1 j) in
      let both : AtInstr i ≡ AtInstr (Instr.Alloca v made.ty made.align) = sym stands ∙ there ∙ made.stands in
      let same : i ≡ Instr.Alloca v made.ty made.align = cc in
      let no : false ≡ true = sym never ∙ ap is_alloca same in
      absurd (cc)

  -- to the place behind the instruction
  pub core : (memory : List MemoryBlock) (values : Env) → (IsCallAt Intrinsic.CoroEnd f p → ⊥)
      → ((v : ℕ) (made : IsMadeOnce f v) → (value_in values v ≡ value_in s.top.values v)
      ⊎ IsNew m counts (account_of h.tags s) (home_of s.top.instance (length s.below)) f (length memory) values
      (after p) v made)
      → ((home : Home) (slot : Slot) → IsSlotOf h.tags (length s.world.memory) home f slot
      → lives memory slot.block ≡ true → counts s.top.func slot.alloca ≡ true
      → (lives s.world.memory slot.block ≡ true → IsHeld f s.top.values p slot) → IsHeld f values (after p) slot)
      → ((home : Home) (slots : List Slot)
      → AllByRecursion (IsSlotOf h.tags (length s.world.memory) home f) slots
      → AreAliveSlots (counts s.top.func) memory f values (after p) slots
      → AreMet (counts s.top.func) s.world.memory f slots → AreMet (counts s.top.func) memory f slots)
      → IsMoved m counts (account_of h.tags s) (length s.below) s.top memory values (spot_of f s.top)
      (spot_by f s.top.mode (after p)) (after p)
  core memory values no_end names held met =
      subst (λ (z : Point). IsMoved m counts (account_of h.tags s) (length s.below) s.top memory values z
      (spot_by f s.top.mode (after p)) (after p)) (sym (spot_is f s.top.mode p entering))
      (subst (λ (z : Point). IsMoved m counts (account_of h.tags s) (length s.below) s.top memory values p z (after p))
      (sym (spot_is f s.top.mode (after p) entering)) (record {
        names = names;
        past = λ n was e. let w = was e in omega (arith, w);
        held = held;
        met = met;
        runs = runs_on f p (after p) edge no_end;
        after = λ w. ended_on f p (after p) edge no_end w;
        behind = λ w. after_edge f p (after p) w edge;
      }))

  -- an instruction behind which no more lives than before it
  pub goes_fewer : (w : Work) → AreFewer s.world.memory w.world.memory → (IsCallAt Intrinsic.CoroEnd f p → ⊥)
      → ((v : ℕ) → IsMadeOnce f v → value_in w.values v ≡ value_in s.top.values v)
      → ((slot : Slot) → lives w.world.memory slot.block ≡ true → counts s.top.func slot.alloca ≡ true
      → IsHeld f s.top.values p slot
      → IsMarkerAt f Intrinsic.LifetimeEnd slot.alloca p → ⊥)
      → IsAliveState m counts (settled s w)
  goes_fewer w fewer no_end names never =
      moves_on m counts s h w.world s.top.block (s.top.at + 1) w.values s.top.mode (record {
        longer = fewer.longer;
        own = order.own;
        top = core w.world.memory w.values no_end (λ v made. inl (names v made)) (λ home slot own now counted lived.
            let held = lived (fewer.live slot.block own.tagged.there now) in
            held_on f s.top.values w.values p (after p) slot edge (never slot now counted held)
            (names slot.alloca own.made) held) (λ home slots own alive old. met_by (counts s.top.func) s.world.memory
            w.world.memory f (IsSlotOf h.tags (length s.world.memory) home f) slots
            (λ slot own now. fewer.live slot.block own.tagged.there now) own old);
        below = in_any _ s.below (fewer_for m counts k w.world.memory fewer (owned_of m counts s h));
        instances = fewer_instance m counts k w.world.memory fewer (owned_of m counts s h);
      })

  -- ---- an instruction that is done

  pub same_instr : (j : Instr) → fetch f p.block p.at ≡ AtInstr j → j ≡ i
  same_instr j e = let both : AtInstr j ≡ AtInstr i = sym e ∙ stands in cc

  -- where an activation that has left is at a marker, that is in a window or after the end
  abbrev pub IsShut : Type 0
  IsShut = (marker : Intrinsic) → IsMarker marker → (v : ℕ) → IsMarkerAt (function_at m s.top.func) marker v
      (point_in s.top)
      → s.top.has_left ≡ true → IsClosed (function_at m s.top.func) (point_in s.top)
