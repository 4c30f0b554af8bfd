-- Of a coroutine's activation: it stands on another one, and what its block's end uses in the frame is there.
use Rattle.std.proofs.Common.{◌≡◌, ◌⊎◌, inl, inr, ℕ, ◌<◌, ◌^◌, Bool, true, List, [], ◌∷◌, length, Option, Some, None, refl, sym, ap, ◌∙◌, subst, arith}
use Rattle.std.proofs.lemmas.Bool.{false≢true}
use Rattle.std.specs.Prelude.{option_map, slice_get}
use Rattle.pass_frames_proof.specs.ir_base.declared.outcome.Outcome.{Outcome}
use Rattle.pass_frames_proof.proofs.ir_laws.facts.Members.{at_each, each_both, each_turns}
use Rattle.pass_frames_proof.specs.ir_laws.facts.expanded.Tokens.{IsNamed}
use Rattle.pass_frames_proof.specs.ir_laws.facts.sound_states.Named.{HasNamedUses}
use Rattle.pass_frames_proof.specs.ir_model.Names.{function_at}
use Rattle.pass_frames_proof.specs.ir_model.Ty.{Ty}
use Rattle.pass_frames_proof.specs.ir_model.declared.instr.Instr.{Instr}
use Rattle.pass_frames_proof.specs.ir_model.declared.instr.Terminator.{Terminator}
use Rattle.pass_frames_proof.specs.ir_model.declared.module.Function.{Function}
use Rattle.pass_frames_proof.specs.ir_model.declared.operand.Arg.{Arg}
use Rattle.pass_frames_proof.specs.ir_model.declared.operand.Callee.{Callee}
use Rattle.pass_frames_proof.specs.ir_model.declared.operand.Intrinsic.{Intrinsic}
use Rattle.pass_frames_proof.specs.ir_model.declared.operand.Operand.{Operand}
use Rattle.pass_frames_proof.specs.pass_cells.Kept.{entry, joined}
use Rattle.pass_frames_proof.specs.pass_fetch.Instrs.{term_operands}
use Rattle.pass_frames_proof.specs.pass_frames.Framed.{begin_of}
use Rattle.pass_frames_meaning.proofs.ends.Incoming.{incoming_both, incoming_turns}
use Rattle.pass_frames_meaning.proofs.ends.Line.{ends_named}
use Rattle.pass_frames_meaning.proofs.ends.Targets.{IsTermAt, term_at}
use Rattle.pass_frames_meaning.proofs.led.Values.{led_to}
use Rattle.pass_frames_meaning.specs.Based.{IsOwnMode, StandsOnPlain}
use Rattle.pass_frames_meaning.specs.Coroutines.{MayEnd}
use Rattle.pass_frames_meaning.specs.Ends.{AreComing, IsOutside, KeepsEnds, MayGoOn}
use Rattle.pass_frames_meaning.specs.Led.{AreLed, AreLedWith}
use Rattle.pass_frames_meaning.specs.Setting.{KeepsAll, Setting}
use Rattle.pass_frames_proof.specs.Framings.{IsFraming}
use Rattle.pass_frames_proof.specs.Jumps.{label_at}
use Rattle.pass_frames_proof.specs.Passes.{block_at}
use Rattle.pass_frames_proof.specs.Places.{Framing, edged, offsets}
use Rattle.pass_frames_proof.specs.Related.{is_coroutine, is_first}
use Rattle.pass_frames_proof.specs.Stepping.{IsNotEntering, IsPlacedOperand, IsSlotOf}
use Rattle.pass_frames_proof.specs.pass_kept_proof.SuspendRules.{IsCallAt}
use Rattle.pass_frames_proof.proofs.pass_proofs.frames.begin_order.Framed.{celled_behind}
use Rattle.pass_frames_proof.specs.Places.{with_copies}
use Rattle.pass_renewed_meaning.specs.run_hooks.Away.{point_in}
use Rattle.pass_frames_proof.specs.run_laws.changed.Changed.{Each}
use Rattle.run_slots.specs.Slots.{IsFrameBlock, IsSlottedState}
use Rattle.pass_frames_proof.specs.run_source.State.{frame_address_of, function_of}
use Rattle.pass_frames_proof.specs.run_source.declared.state.Activation.{Activation}
use Rattle.pass_frames_proof.specs.run_source.declared.state.Instance.{Instance}
use Rattle.pass_frames_proof.specs.run_source.declared.state.Mode.{Mode}
use Rattle.pass_frames_proof.specs.run_source.declared.state.State.{State}
use Rattle.pass_frames_proof.specs.run_states.sound_states.Sound.{IsInstanceOf, IsSound}
use Rattle.pass_frames_proof.specs.run_step.Step.{AtInstr, AtTerm, fetch}
use Rattle.pass_frames_proof.specs.run_step.Values.{value_in}

told : (t : List (Option ℕ)) (v d : ℕ) → entry t v ≡ Some d → slice_get t v ≡ Some (Some d)
told t v d e = on (slice_get t v) e
  where
    on : (o : Option (Option ℕ)) → joined o ≡ Some d → o ≡ Some (Some d)
    on None h = absurd (cc)
    on (Some o) h = ap Some h

-- the instance that an activation has
own_there : (xs : List Instance) (func i : ℕ) → IsInstanceOf xs func (Some i)
    → (x : Instance) × (slice_get xs i ≡ Some x) × (x.coroutine ≡ func)
own_there xs func i e = on (slice_get xs i) refl e
  where
    on : (o : Option Instance) → slice_get xs i ≡ o → option_map (λ (x : Instance). x.coroutine) o ≡ Some func
        → (x : Instance) × (slice_get xs i ≡ Some x) × (x.coroutine ≡ func)
    on None d h = absurd (cc)
    on (Some x) d h = let same : x.coroutine ≡ func = cc in (x, d, same)

module _ (c : Setting) (all : KeepsAll c) (keeps : KeepsEnds c) (s : State)
    (coroutine : is_coroutine c.b s.top.func ≡ true) (m : MayGoOn c s) where
  abbrev x : Framing
  x = c.b.framing s.top.func

  abbrev f : Function
  f = function_at c.g.given.code s.top.func

  is : IsFraming x
  is = all.given.framings s.top.func coroutine

  marked : f.coroutine ≡ true
  marked = ap (λ (h : Function). h.coroutine) (all.given.coroutines s.top.func coroutine) ∙ is.frameable.coroutine

  pub below_there : (a : Activation) × (more : List Activation) × (s.below ≡ a ∷ more)
  below_there = on s.below m.based.last
    where
      on : (below : List Activation) → StandsOnPlain c.g.given.code s.top.func below
          → (a : Activation) × (more : List Activation) × (below ≡ a ∷ more)
      on [] plain = absurd (false≢true (sym plain ∙ marked))
      on (a ∷ more) rest = (a, more, refl)

  -- ---- slots in the frame

  module _ (sound : IsSound c.g.given.code s) (slotted : IsSlottedState s) (runs : s.outcome ≡ Outcome.Running) where
    -- the instance's slots and its frame are where names lead
    pub own_led : (number : ℕ) (y : Instance) → s.top.instance ≡ Some number → slice_get s.instances number ≡ Some y
        → AreLed (m.counts s.top.func) (function_at c.g.given.code s.top.func) y.slots (frame_address_of y) s.top.values
    own_led number y e at =
        let z = subst (λ (o : Option ℕ). AreLedWith (m.counts s.top.func) f s.instances o s.top.slots s.top.values) e
        (m.led runs).stack.0 in
        let both : Some z.0 ≡ Some y = sym z.1 ∙ at in
        let same : z.0 ≡ y = cc in
        subst (λ (y : Instance). AreLed (m.counts s.top.func) f y.slots (frame_address_of y) s.top.values) same z.2

    slot_there : (number : ℕ) → s.top.instance ≡ Some number → (v d : ℕ) → v < length (edged x).names
        → entry (offsets x) v ≡ Some d → IsSlotOf x s v d
    slot_there number e v d low offset =
        let at = own_there s.instances s.top.func number
        (subst (IsInstanceOf s.instances s.top.func) e sound.top.instance) in
        let l = own_led number at.0 e at.1 in
        let frame : IsFrameBlock s.world.memory at.0 = slotted.slotted.frames number at.0 at.1 in
        let first = frame.start in
        let near : d < 2 ^ 64 =
        (celled_behind x.code is.position x.layout x.function x.contents is.begin (length (with_copies x).names)
        is.frameable).near v d (told (offsets x) v d offset) in
        record {
          number = number;
          instance = at.0;
          own = e;
          there = at.1;
          coroutine = at.2;
          begun = l.begun (begin_of x.function) (keeps.begins s.top.func coroutine);
          near = omega (arith, first, near);
          leads = led_to at.0.slots v (value_in s.top.values v) (l.counted v
              (m.counted s.top.func v d coroutine low offset));
        }

    one_placed : (o : Operand) → IsNamed (length (edged x).names) o → (s.top.instance ≡ None → IsOutside x o)
        → IsPlacedOperand x s o
    one_placed (Operand.Local v) low out = λ d offset. on d offset s.top.instance refl
      where
        on : (d : ℕ) → entry (offsets x) v ≡ Some d → (o : Option ℕ) → s.top.instance ≡ o → IsSlotOf x s v d
        on d offset None none = absurd (out none low d offset)
        on d offset (Some number) e = slot_there number e v d low offset
    one_placed (Operand.Global n) low out = tt
    one_placed (Operand.Number z) low out = tt
    one_placed Operand.True low out = tt
    one_placed Operand.False low out = tt
    one_placed Operand.Null low out = tt
    one_placed Operand.None low out = tt
    one_placed Operand.Poison low out = tt

    module _ (e : Terminator) (there : fetch (function_of c.g.given s) s.top.block s.top.at ≡ AtTerm e) where
      at_term : IsTermAt (edged x) s.top.block s.top.at e
      at_term = term_at (edged x) s.top.block s.top.at e
          (ap (λ (g : Function). fetch g s.top.block s.top.at) (sym (all.given.coroutines s.top.func coroutine))
          ∙ there)

      uses : HasNamedUses (edged x)
      uses = subst HasNamedUses (all.given.coroutines s.top.func coroutine) (all.uses s.top.func)

      abbrev own : Terminator
      own = (block_at (edged x) s.top.block).term

      named_ends : Each (IsNamed (length (edged x).names)) (term_operands own)
      named_ends = ends_named (IsNamed (length (edged x).names)) own
          (at_each _ (edged x).blocks s.top.block (block_at (edged x) s.top.block) uses.ends at_term.here)

      -- by whether it has an instance
      pub coming_there : AreComing c.b s
      coming_there = on s.top.instance refl
        where
          on : (o : Option ℕ) → s.top.instance ≡ o → AreComing c.b s
          on None none =
              let y = keeps.terms s.top.func s.top.block s.top.at e coroutine there (m.based.top.ahead none) in
              record {
                ends =
                    each_turns (λ o. IsNamed (length (edged x).names) o × IsOutside x o) (IsPlacedOperand x s)
                    (λ o h. one_placed o h.0 (λ z. h.1)) (term_operands own)
                    (each_both (IsNamed (length (edged x).names)) (IsOutside x) (term_operands own) named_ends
                    (subst (λ (q : Terminator). Each (IsOutside x) (term_operands q)) (sym at_term.term) y.0));
                phis =
                    incoming_turns
                    (λ i. IsNamed (length (edged x).names) i.value
                    × (i.from ≡ label_at x s.top.block → IsOutside x i.value))
                    (λ i. i.from ≡ label_at x s.top.block → IsPlacedOperand x s i.value)
                    (λ i h from. one_placed i.value h.0 (λ z. h.1 from)) (edged x).blocks
                    (incoming_both (λ i. IsNamed (length (edged x).names) i.value)
                    (λ i. i.from ≡ label_at x s.top.block → IsOutside x i.value) (edged x).blocks uses.incoming y.1);
              }
          on (Some number) some = record {
            ends = each_turns (IsNamed (length (edged x).names)) (IsPlacedOperand x s)
                (λ o h. one_placed o h (λ none. absurd (no_none number (sym some ∙ none)))) (term_operands own)
                named_ends;
            phis = incoming_turns (λ i. IsNamed (length (edged x).names) i.value)
                (λ i. i.from ≡ label_at x s.top.block → IsPlacedOperand x s i.value)
                (λ i h from. one_placed i.value h (λ none. absurd (no_none number (sym some ∙ none)))) (edged x).blocks
                uses.incoming;
          }
            where
              no_none : (n : ℕ) → Some n ≡ None → ⊥
              no_none n e = cc

  -- ---- the end

  module _ (mode : IsNotEntering s.top.mode) (result : Option ℕ)
      (must_tail : Bool) (ty : Option Ty) (args : List Arg)
      (there : fetch (function_of c.g.given s) s.top.block s.top.at
      ≡ AtInstr (Instr.Call result must_tail ty (Callee.Intrinsic Intrinsic.CoroEnd) args)) where
    call : IsCallAt Intrinsic.CoroEnd f (point_in s.top)
    call = record {
      instr = Instr.Call result must_tail ty (Callee.Intrinsic Intrinsic.CoroEnd) args;
      stands = there;
      is = refl;
    }

    has_own : (number : ℕ) × (s.top.instance ≡ Some number)
    has_own = on s.top.instance refl
      where
        on : (o : Option ℕ) → s.top.instance ≡ o → (number : ℕ) × (o ≡ Some number)
        on None none = absurd (keeps.ends s.top.func (point_in s.top) coroutine call (m.based.top.ahead none))
        on (Some number) e = (number, refl)

    comes_from : (is_first s.top.mode ≡ true)
        ⊎ ((s.top.mode ≡ Mode.Resumed) × (a : Activation) × (more : List Activation) × (s.below ≡ a ∷ more))
    comes_from = on s.top.mode refl (m.based.top.mode marked) mode
      where
        on : (q : Mode) → s.top.mode ≡ q → IsOwnMode q → IsNotEntering q
            → (is_first q ≡ true)
            ⊎ ((q ≡ Mode.Resumed) × (a : Activation) × (more : List Activation) × (s.below ≡ a ∷ more))
        on Mode.Plain e is_own stays = absurd is_own
        on Mode.Ramp e is_own stays = inl refl
        on (Mode.GivenRamp frame) e is_own stays = inl refl
        on Mode.Resumed e is_own stays = inr (refl, below_there.0, below_there.1, below_there.2)
        on (Mode.Entering from label) e is_own stays = absurd stays

    pub end_known : MayEnd s
    end_known = record { number = has_own.0; own = has_own.1; from = comes_from }
