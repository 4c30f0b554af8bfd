-- Operands of a coroutine's instruction that name slots in a frame are placed.
use Rattle.std.proofs.Common.{◌≡◌, ◌<◌, ◌^◌, inl, inr, ℕ, Bool, true, List, [], ◌∷◌, length, Option, Some, None}
use Rattle.std.proofs.Common.{refl, sym, ap, ◌∙◌, subst, arith}
use Rattle.std.specs.Prelude.{slice_get, option_map}
use Rattle.pass_frames_proof.specs.flow_solver.Paths.{IsListed}
use Rattle.pass_frames_proof.specs.ir_base.declared.outcome.Outcome.{Outcome}
use Rattle.pass_frames_proof.proofs.ir_laws.facts.Members.{at_each}
use Rattle.pass_frames_proof.proofs.ir_laws.paths.renamed.Uses.{stands_in}
use Rattle.pass_frames_proof.specs.ir_laws.facts.expanded.Tokens.{IsNamed}
use Rattle.pass_frames_proof.specs.ir_model.Names.{function_at}
use Rattle.pass_frames_proof.specs.ir_model.declared.module.Function.{Function}
use Rattle.pass_frames_proof.specs.ir_model.declared.instr.Instr.{Instr}
use Rattle.pass_frames_proof.specs.ir_model.declared.operand.Operand.{Operand}
use Rattle.pass_frames_proof.specs.ir_parts.Contents.{instr_operands}
use Rattle.pass_frames_proof.specs.pass_cells.Kept.{entry, joined}
use Rattle.pass_frames_proof.specs.pass_frames.Framed.{begin_of}
use Rattle.pass_frames_meaning.proofs.led.Values.{led_to}
use Rattle.pass_frames_meaning.specs.Coroutines.{HasStorables, IsUnlocatedHere, MayFollow}
use Rattle.pass_frames_meaning.specs.Known.{IsKnown, KeepsKnown}
use Rattle.pass_frames_meaning.specs.Led.{AreLed, AreLedWith, IsLed}
use Rattle.pass_frames_meaning.specs.Setting.{KeepsAll, Setting}
use Rattle.pass_frames_meaning.specs.Standing.{IsStaying}
use Rattle.pass_frames_proof.specs.Framings.{IsFraming}
use Rattle.pass_frames_proof.specs.Places.{Framing, edged, offsets, with_copies}
use Rattle.pass_frames_proof.specs.Related.{is_coroutine}
use Rattle.pass_frames_proof.specs.Stepping.{IsPlacedOperand, IsSlotOf}
use Rattle.pass_frames_proof.proofs.pass_proofs.frames.begin_order.Framed.{celled_behind}
use Rattle.pass_frames_proof.specs.pass_renewed_proof.Renewed.{renewed_step}
use Rattle.pass_frames_proof.proofs.rule_laws.rules.renamed.Uses.{operands_spelt}
use Rattle.pass_frames_proof.proofs.rule_laws.rules.sources.Places.{instr_there, point}
use Rattle.pass_frames_proof.specs.run_laws.changed.Changed.{Each, operands_of}
use Rattle.run_slots.specs.Slots.{IsFrameBlock}
use Rattle.pass_frames_proof.specs.run_source.State.{frame_address_of, function_of}
use Rattle.pass_frames_proof.specs.run_source.declared.state.Instance.{Instance}
use Rattle.pass_frames_proof.specs.run_source.declared.state.State.{State}
use Rattle.pass_frames_proof.specs.run_states.sound_states.Sound.{IsInstanceOf, coroutine_at}
use Rattle.pass_frames_proof.specs.run_step.Step.{AtInstr, fetch}
use Rattle.pass_frames_proof.specs.run_step.Values.{value_in}

pub told : (t : List (Option ℕ)) (v d : ℕ) → entry t v ≡ Some d → slice_get t v ≡ Some (Some d)
told t v d e = on (slice_get t v) refl e
  where
    on : (o : Option (Option ℕ)) → slice_get t v ≡ o → joined o ≡ Some d → slice_get t v ≡ Some (Some d)
    on None q h = absurd (cc)
    on (Some o) q h = q ∙ ap (λ (z : Option ℕ). Some z) h

-- offsets are numbers of 64 bits
pub offset_near : (x : Framing) → IsFraming x → (v d : ℕ) → entry (offsets x) v ≡ Some d → d < 2 ^ 64
offset_near x is v d e =
    (celled_behind x.code is.position x.layout x.function x.contents is.begin (length (with_copies x).names)
    is.frameable).near v d (told (offsets x) v d e)

-- the instance that an activation has
pub own_there : (xs : List Instance) (func i : ℕ) → coroutine_at xs i ≡ Some func
    → (x : Instance) × (slice_get xs i ≡ Some x) × (x.coroutine ≡ func)
own_there xs func i e = on (slice_get xs i) refl e
  where
    on : (o : Option Instance) → slice_get xs i ≡ o → option_map (λ (x : Instance). x.coroutine) o ≡ Some func
        → (x : Instance) × (slice_get xs i ≡ Some x) × (x.coroutine ≡ func)
    on None d h = absurd (cc)
    on (Some x) d h = let same : x.coroutine ≡ func = cc in (x, d, same)

pub each_of : (P : Operand → Type 0) (xs : List Operand) → ((o : Operand) → IsListed o xs → P o) → Each P xs
each_of P [] h = tt
each_of P (x ∷ xs) h = (h x (inl refl), each_of P xs (λ o l. h o (inr l)))

pub of_each : (P : Operand → Type 0) (xs : List Operand) → Each P xs → (o : Operand) → IsListed o xs → P o
of_each P [] h o l = absurd l
of_each P (x ∷ xs) h o (inl e) = subst P (sym e) h.0
of_each P (x ∷ xs) h o (inr l) = of_each P xs h.1 o l

module _ (c : Setting) (counts own : ℕ → ℕ → Bool) (all : KeepsAll c) (k : KeepsKnown c counts) (s : State)
    (known : IsKnown c counts own s) (runs : s.outcome ≡ Outcome.Running)
    (coroutine : is_coroutine c.b s.top.func ≡ true) where
  abbrev x : Framing
  x = c.b.framing s.top.func

  is : IsFraming x
  is = all.given.framings s.top.func coroutine

  led : IsLed c.g.given.code counts s
  led = known.led runs

  -- behind begin
  pub behind : (number : ℕ) → s.top.instance ≡ Some number → (v d : ℕ) → v < length (edged x).names
      → entry (offsets x) v ≡ Some d → IsSlotOf x s v d
  behind number e v d low_name offset =
      let at = own_there s.instances s.top.func number
      (subst (IsInstanceOf s.instances s.top.func) e known.sound.top.instance) in
      let z = subst (λ (o : Option ℕ). AreLedWith (counts s.top.func)
      (function_at c.g.given.code s.top.func) s.instances
      o s.top.slots s.top.values) e led.stack.0 in
      let both : Some z.0 ≡ Some at.0 = sym z.1 ∙ at.1 in
      let same : z.0 ≡ at.0 = cc in
      let l : AreLed (counts s.top.func) (function_at c.g.given.code s.top.func) at.0.slots (frame_address_of at.0)
      s.top.values =
      subst (λ (y : Instance). AreLed (counts s.top.func) (function_at c.g.given.code s.top.func) y.slots
      (frame_address_of y) s.top.values) same z.2 in
      let frame : IsFrameBlock s.world.memory at.0 = known.slots.slotted.frames number at.0 at.1 in
      let first = frame.start in
      let low : d < 2 ^ 64 = offset_near x is v d offset in
      record {
        number = number;
        instance = at.0;
        own = e;
        there = at.1;
        coroutine = at.2;
        begun = l.begun (begin_of x.function) (k.begins s.top.func coroutine);
        near = omega (arith, first, low);
        leads = led_to at.0.slots v (value_in s.top.values v) (l.counted v
            (k.counted s.top.func v d coroutine low_name offset));
      }

  module _ (i : Instr) (there : fetch (function_of c.g.given s) s.top.block s.top.at ≡ AtInstr i)
      (staying : IsStaying i) (unlocated : IsUnlocatedHere c s i) where
    -- the function has the name
    named : (v : ℕ) → IsListed (Operand.Local v) (instr_operands i) → v < length (edged x).names
    named v listed =
        let z = stands_in (function_of c.g.given s) (point s.top.block s.top.at) i
        (instr_there (function_of c.g.given s) s.top.block s.top.at i there) in
        let each = at_each _ z.block.instrs s.top.at i
        (at_each _ (function_of c.g.given s).blocks s.top.block z.block
        (all.uses s.top.func).operands z.got) z.stands in
        subst (λ (f : Function). v < length f.names) (all.given.coroutines s.top.func coroutine)
        (of_each (IsNamed (length (function_of c.g.given s).names)) (operands_of i) each (Operand.Local v)
        (subst (IsListed (Operand.Local v)) (operands_spelt i) listed))

    placed : (o : Operand) → IsListed o (instr_operands i) → IsPlacedOperand x s o
    placed (Operand.Local v) listed = λ d offset. on d offset s.top.instance refl
      where
        on : (d : ℕ) → entry (offsets x) v ≡ Some d → (o : Option ℕ) → s.top.instance ≡ o → IsSlotOf x s v d
        on d offset None e = absurd (k.behind s.top.func s.top.block s.top.at i coroutine there staying unlocated v d
            listed (named v listed) offset (known.unbegun.stack.0 e))
        on d offset (Some number) e = behind number e v d (named v listed) offset
    placed (Operand.Global n) listed = tt
    placed (Operand.Number z) listed = tt
    placed Operand.True listed = tt
    placed Operand.False listed = tt
    placed Operand.Null listed = tt
    placed Operand.None listed = tt
    placed Operand.Poison listed = tt

    all_placed : Each (IsPlacedOperand x s) (instr_operands i)
    all_placed = each_of (IsPlacedOperand x s) (instr_operands i) placed

  pub may_follow : HasStorables c (renewed_step c.g s) → MayFollow c s
  may_follow storables = record {
    position = k.position s.top.func;
    rules = k.rules s.top.func coroutine;
    operands = λ i there staying unlocated. all_placed i there staying unlocated;
    storables = storables;
  }
