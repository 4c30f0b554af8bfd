-- Where a marker stands in a function that is no coroutine, the name of its alloca has its slot's address.
use Rattle.std.proofs.Common.{◌≡◌, inl, ℕ, zero, suc, ◌<◌, Bool, true, false, List, [], ◌∷◌, ◌||◌, length, Option}
use Rattle.std.proofs.Common.{Some, None}
use Rattle.std.proofs.Common.{refl, sym, ap, ◌∙◌, subst, arith}
use Rattle.std.specs.Prelude.{is_none, option_map, slice_get}
use Rattle.std.specs.List.{Contains}
use Rattle.pass_frames_proof.specs.ir_base.declared.outcome.Outcome.{Outcome}
use Rattle.pass_frames_proof.proofs.ir_laws.facts.Lists.{get_within}
use Rattle.pass_frames_proof.specs.ir_model.Names.{function_at}
use Rattle.pass_frames_proof.specs.ir_model.Ty.{Ty}
use Rattle.pass_frames_proof.specs.ir_model.declared.operand.Arg.{Arg}
use Rattle.pass_frames_meaning.proofs.slotted.Facts.{own_slots, slots_apart}
use Rattle.pass_frames_meaning.specs.Called.{FitsMode, IsCalledState}
use Rattle.pass_frames_meaning.specs.Executed.{HasExecuted, HasSlotOf, IsExecutedState, IsFirstMode, KeepAllOwn}
use Rattle.pass_frames_meaning.specs.Known.{KeepsMarks}
use Rattle.pass_frames_meaning.specs.Setting.{Setting}
use Rattle.pass_frames_proof.proofs.allocating.Grown.{listed_in}
use Rattle.pass_frames_proof.specs.Marking.{IsWholeMarked, marking}
use Rattle.pass_frames_proof.specs.Related.{AreBuiltOf, is_coroutine}
use Rattle.pass_frames_proof.specs.Returning.{is_own_kind}
use Rattle.pass_frames_proof.specs.pass_renewed_proof.SlotRules.{IsMadeOnce}
use Rattle.pass_frames_proof.specs.run_memory.Memory.{same_kind}
use Rattle.pass_frames_proof.specs.run_memory.declared.block.Kind.{Kind}
use Rattle.pass_frames_proof.specs.run_memory.declared.block.MemoryBlock.{MemoryBlock}
use Rattle.run_slots.specs.Slots.{IsSlottedState}
use Rattle.pass_frames_proof.specs.run_source.State.{function_of}
use Rattle.pass_frames_proof.specs.run_source.declared.state.Instance.{Instance}
use Rattle.pass_frames_proof.specs.run_source.declared.state.Mode.{Mode}
use Rattle.pass_frames_proof.specs.run_source.declared.state.State.{State}
use Rattle.pass_frames_proof.specs.run_states.sound_states.Sound.{IsInstanceOf, IsModeOf, IsSound}
use Rattle.pass_frames_proof.specs.run_step.Step.{AtInstr, fetch}
use Rattle.pass_frames_proof.specs.run_step.Values.{value_in}
use Rattle.pass_frames_proof.specs.run_step.declared.world.Slot.{Slot}

there_at : {A : Type 0} (xs : List A) (i : ℕ) → i < length xs → (x : A) × (slice_get xs i ≡ Some x)
there_at [] i lt = absurd (omega (arith, lt))
there_at (x ∷ xs) zero lt = (x, refl)
there_at (x ∷ xs) (suc i) lt = there_at xs i (omega (arith, lt))

-- no block of a slot is constant
not_constant : (x : MemoryBlock) → is_own_kind x ≡ true → same_kind x.kind Kind.Constant ≡ false
not_constant x e = on x.kind e
  where
    on : (k : Kind) → (same_kind k Kind.Slot || same_kind k Kind.Stack) ≡ true → same_kind k Kind.Constant ≡ false
    on Kind.Global e = absurd (cc)
    on Kind.Constant e = absurd (cc)
    on Kind.Slot e = refl
    on Kind.Stack e = refl
    on Kind.Allocator e = absurd (cc)

-- where its alloca is behind, the name has the slot's address
pub whole_there : (c : Setting) (own : ℕ → ℕ → Bool) (s : State) → IsSlottedState s
    → HasExecuted c.g.given.code own s.top → (name : ℕ) → own s.top.func name ≡ true
    → (made : IsMadeOnce (function_at c.g.given.code s.top.func) name) → (s.top.block ≡ 0 → made.at < s.top.at)
    → (slot : Slot) × IsWholeMarked c.b s name slot
whole_there c own s slotted has name counts made before =
    let x : HasSlotOf s.top.slots name (value_in s.top.values name) = has.allocas name counts made before in
    let listed : Contains s.top.slots x.0 = listed_in s.top.slots x.0 x.1 in
    let block = (own_slots s slotted).each x.0 listed in (
      x.0,
      record {
        own = listed;
        alloca = x.2;
        address = x.3;
        frames = λ i y e same. (slots_apart s slotted).each s.top (inl refl) x.0 listed i y e same;
        writable = λ y e.
            let both : Some block.0 ≡ Some y = sym block.1 ∙ e in
            let is : block.0 ≡ y = cc in
            subst (λ (z : MemoryBlock). same_kind z.kind Kind.Constant ≡ false) is (not_constant block.0 block.2);
      },
    )

module _ (c : Setting) (own : ℕ → ℕ → Bool) (rules : KeepAllOwn c.g.given own) (marks : KeepsMarks c own) (s t : State)
    (r : AreBuiltOf c.b s t) (sound : IsSound c.g.given.code s) (called : IsCalledState c.g.given.code s)
    (slotted : IsSlottedState s) (executed : IsExecutedState c.g.given.code own s) (runs : s.outcome ≡ Outcome.Running)
    (plain : is_coroutine c.b s.top.func ≡ false) where
  -- what has an instance is a coroutine
  begun : (i : ℕ) → IsInstanceOf s.instances s.top.func (Some i) → is_coroutine c.b s.top.func ≡ true
  begun i h = on (slice_get s.instances i) refl h
    where
      on : (o : Option Instance) → slice_get s.instances i ≡ o → option_map (λ (x : Instance). x.coroutine) o
          ≡ Some s.top.func → is_coroutine c.b s.top.func ≡ true
      on None e h = absurd (cc)
      on (Some x) e h =
          let func : x.coroutine ≡ s.top.func = cc in
          let low : i < length s.instances = get_within s.instances i x e in
          let count : length t.instances ≡ length s.instances = r.count in
          let there = there_at t.instances i (omega (arith, low, count)) in
          subst (λ (n : ℕ). is_coroutine c.b n ≡ true) func (r.instances i x there.0 e there.1).is_coroutine

  no_instance : s.top.instance ≡ None
  no_instance = on s.top.instance refl
    where
      on : (o : Option ℕ) → s.top.instance ≡ o → s.top.instance ≡ None
      on None e = e
      on (Some i) e =
          let is : is_coroutine c.b s.top.func ≡ true =
          begun i (subst (IsInstanceOf s.instances s.top.func) e sound.top.instance) in
          absurd (cc)

  first : IsFirstMode s.top.mode
  first = on s.top.mode (subst (λ (o : Option ℕ). IsModeOf s.top.mode o s.top.result) no_instance sound.top.mode)
      (subst (λ (o : Option ℕ). FitsMode o s.top.mode) no_instance called.mode)
    where
      on : (mode : Mode) → IsModeOf mode None s.top.result → FitsMode None mode → IsFirstMode mode
      on Mode.Plain m f = tt
      on Mode.Ramp m f = tt
      on Mode.Resumed m f = let no : true ≡ false = m.0 in absurd (cc)
      on (Mode.Entering from label) m f = let no : true ≡ false = f in absurd (cc)
      on (Mode.GivenRamp frame) m f = absurd f

  pub plain_marked : (starts must_tail : Bool) (ty : Option Ty) (size : Arg) (u : Ty) (name : ℕ)
      → fetch (function_of c.g.given s) s.top.block s.top.at ≡ AtInstr (marking starts must_tail ty size u name)
      → (slot : Slot) × IsWholeMarked c.b s name slot
  plain_marked starts must_tail ty size u name there =
      let f = s.top.func in
      let counts : own f name ≡ true =
      marks.counted f s.top.block s.top.at starts must_tail ty size u name plain there in
      let made = (rules f).made name counts in
      whole_there c own s slotted ((executed runs).0 first) name counts made
      (marks.behind f s.top.block s.top.at starts must_tail ty size u name plain there made)
