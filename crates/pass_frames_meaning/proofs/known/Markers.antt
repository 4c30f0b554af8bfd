-- Where a marker of a coroutine stands, its slot is known.
use Rattle.std.proofs.Common.{◌≡◌, ◌≢◌, ◌⊎◌, inl, inr, ⊎_elim, ℕ, ◌<◌, ◌≤◌, Bool, true, false, List, [], ◌∷◌, length}
use Rattle.std.proofs.Common.{Option}
use Rattle.std.proofs.Common.{Some, None, refl, sym, ap, ◌∙◌, subst, arith}
use Rattle.std.proofs.lemmas.Bool.{eqb-true, false≢true}
use Rattle.std.specs.List.{Contains}
use Rattle.std.specs.Prelude.{slice_get, unwrap_or, ◌==◌}
use Rattle.pass_frames_proof.specs.flow_solver.Paths.{IsListed}
use Rattle.pass_frames_proof.specs.ir_base.declared.outcome.Outcome.{Outcome}
use Rattle.pass_frames_proof.proofs.ir_laws.facts.Lists.{get_within}
use Rattle.pass_frames_proof.proofs.ir_laws.facts.Truth.{itself}
use Rattle.pass_frames_proof.specs.ir_model.Names.{function_at}
use Rattle.pass_frames_proof.specs.ir_model.Ty.{Ty}
use Rattle.pass_frames_proof.specs.ir_model.declared.instr.Instr.{Instr}
use Rattle.pass_frames_proof.specs.ir_model.declared.module.Block.{Block}
use Rattle.pass_frames_proof.specs.ir_model.declared.module.Function.{Function}
use Rattle.pass_frames_proof.specs.ir_model.declared.operand.Arg.{Arg}
use Rattle.pass_frames_proof.specs.pass_copies.declared.slot.EarlySlot.{EarlySlot}
use Rattle.pass_frames_meaning.proofs.known.Marked.{whole_there}
use Rattle.pass_frames_meaning.proofs.known.Operands.{own_there}
use Rattle.pass_frames_meaning.proofs.led.Values.{led_to}
use Rattle.pass_frames_meaning.proofs.slotted.Facts.{own_slots}
use Rattle.pass_frames_meaning.specs.Coroutines.{Anew, Before, Behind, Early, IsMarkedHere, MayMark, Unmade, Whole}
use Rattle.pass_frames_meaning.specs.Known.{IsKnown}
use Rattle.pass_frames_meaning.specs.Led.{AreLed, AreLedWith}
use Rattle.pass_frames_meaning.specs.Marks.{AreMarkedSlotsThere, IsMarkedClass, IsMarkerRight, KeepsMarkers, OfFrame}
use Rattle.pass_frames_meaning.specs.Marks.{OfLocal}
use Rattle.pass_frames_meaning.specs.Marks.{OfRamp}
use Rattle.pass_frames_meaning.specs.Setting.{KeepsAll, Setting}
use Rattle.pass_frames_proof.proofs.allocating.Grown.{listed_in}
use Rattle.pass_frames_proof.proofs.lines.Cells.{contained}
use Rattle.pass_frames_proof.specs.Marking.{IsUnmarked, marking}
use Rattle.pass_frames_proof.specs.Passes.{no_block}
use Rattle.pass_frames_proof.specs.Places.{Framing, copies, edged, instrs_at, offsets}
use Rattle.pass_frames_proof.specs.Related.{AreBuiltOf, is_coroutine}
use Rattle.pass_frames_proof.specs.pass_proofs.addresses.rules.Addresses.{lies_in_frame}
use Rattle.pass_frames_proof.specs.pass_renewed_proof.SlotRules.{IsMadeOnce}
use Rattle.pass_frames_proof.specs.pass_renewed_proof.Steps.{given_at}
use Rattle.pass_frames_proof.specs.run_memory.declared.pointer.Value.{Value}
use Rattle.pass_frames_proof.specs.run_source.State.{frame_address_of, function_of}
use Rattle.pass_frames_proof.specs.run_source.declared.state.Instance.{Instance}
use Rattle.pass_frames_proof.specs.run_source.declared.state.State.{State}
use Rattle.pass_frames_proof.specs.run_states.sound_states.Sound.{IsInstanceOf}
use Rattle.pass_frames_proof.specs.run_step.Step.{AtInstr, fetch, fetch_in, fetch_or}
use Rattle.pass_frames_proof.specs.run_step.Values.{pointer_to, value_in}
use Rattle.pass_frames_proof.specs.run_step.declared.world.Slot.{Slot}

-- whether the slot of a name is used before begin
early_or : (name : ℕ) (es : List EarlySlot)
    → ((e : EarlySlot) × IsListed e es × (e.slot ≡ name)) ⊎ ((e : EarlySlot) → IsListed e es → e.slot ≢ name)
early_or name [] = inr (λ e l same. l)
early_or name (f ∷ es) = on (f.slot == name) refl (early_or name es)
  where
    on : (b : Bool) → (f.slot == name) ≡ b
        → ((e : EarlySlot) × IsListed e es × (e.slot ≡ name)) ⊎ ((e : EarlySlot) → IsListed e es → e.slot ≢ name)
        → ((e : EarlySlot) × IsListed e (f ∷ es) × (e.slot ≡ name))
        ⊎ ((e : EarlySlot) → IsListed e (f ∷ es) → e.slot ≢ name)
    on true d rest = inl (f, inl refl, eqb-true f.slot name d)
    on false d (inl x) = inl (x.0, inr x.1, x.2)
    on false d (inr none) = inr other
      where
        other : (e : EarlySlot) → IsListed e (f ∷ es) → e.slot ≢ name
        other e (inl is) same =
            let one : f.slot ≡ name = ap (λ (g : EarlySlot). g.slot) (sym is) ∙ same in
            false≢true (sym d ∙ ap (λ (n : ℕ). f.slot == n) (sym one) ∙ itself f.slot)
        other e (inr l) same = none e l same

module _ (c : Setting) (counts own : ℕ → ℕ → Bool) (all : KeepsAll c) (marks : KeepsMarkers c counts own) (s t : State)
    (r : AreBuiltOf c.b s t) (known : IsKnown c counts own s) (runs : s.outcome ≡ Outcome.Running)
    (coroutine : is_coroutine c.b s.top.func ≡ true) where
  abbrev x : Framing
  x = c.b.framing s.top.func

  abbrev f : Function
  f = function_at c.g.given.code s.top.func

  entry_fetched : (at : ℕ) (i : Instr) → slice_get (instrs_at (c.b.framing s.top.func) 0) at ≡ Some i
      → fetch (function_at c.g.given.code s.top.func) 0 at ≡ AtInstr i
  entry_fetched at i e =
      ap (λ (g : Function). fetch g 0 at) (all.given.coroutines s.top.func coroutine)
      ∙ on (slice_get (edged x).blocks 0) e
    where
      on : (o : Option Block) → slice_get (unwrap_or o no_block).instrs at ≡ Some i → fetch_in o at ≡ AtInstr i
      on None h = absurd (cc)
      on (Some b) h = ap (λ (o : Option Instr). fetch_or o (at == length b.instrs) b.term) h

  module _ (name : ℕ) (starts : Bool) (i : Instr)
      (right : IsMarkerRight c counts own s.top.func s.top.block s.top.at name i)
      (left : AreMarkedSlotsThere c own s t r name starts) where
    -- its alloca is behind
    made_behind : (at u align : ℕ) (ty : Ty)
        → slice_get (instrs_at (c.b.framing s.top.func) 0) at ≡ Some (Instr.Alloca u ty align) → s.top.block ≡ 0
        → s.top.at ≤ at → u ≢ name
    made_behind at u align ty e entry le same =
        let here : fetch f 0 at ≡ AtInstr (Instr.Alloca u ty align) = entry_fetched at (Instr.Alloca u ty align) e in
        let is : at ≡ right.made.at = (right.made.alone 0 at (ap given_at here ∙ ap Some same)).1 in
        let lt : right.made.at < s.top.at = right.behind entry in
        omega (arith, is, lt, le)

    -- a slot in the frame before begin
    before : s.top.instance ≡ None → counts s.top.func name ≡ true
        → lies_in_frame (offsets (c.b.framing s.top.func)) name ≡ true → IsUnmarked c.b s i
        → c.g.flags s.top.func name ≡ false → IsMarkedHere c s t r starts i name
    before none counted lies goes off =
        ⊎_elim (λ e. Unmade goes off e)
        (λ z. ⊎_elim (λ e. early z e) (λ late. Before goes off (record {
          slot = z.0;
          own = z.1;
          alloca = z.2;
          address = z.3;
          frame = lies;
          late = λ e l. late e (contained (copies x).slots e l);
        })) (early_or name (copies x).slots))
        (led_to s.top.slots name (value_in s.top.values name) (led.counted name counted))
      where
        led : AreLed (counts s.top.func) (function_at c.g.given.code s.top.func) s.top.slots Value.Poison s.top.values
        led = subst (λ (o : Option ℕ). AreLedWith (counts s.top.func)
            (function_at c.g.given.code s.top.func) s.instances o
            s.top.slots s.top.values) none (known.led runs).stack.0

        early : (z : (slot : Slot) × Contains s.top.slots slot × (slot.alloca ≡ name)
            × (value_in s.top.values name ≡ pointer_to slot.block))
            → (e : EarlySlot) × IsListed e (copies (c.b.framing s.top.func)).slots × (e.slot ≡ name)
            → IsMarkedHere c s t r starts i name
        early z e =
            let block = (own_slots s known.slots).each z.0 z.1 in
            Early goes off (record {
              slot = z.0;
              own = z.1;
              alloca = z.2;
              address = z.3;
              low = get_within s.world.memory z.0.block block.0 block.1;
              frame = lies;
              early = e.0;
              listed = listed_in (copies x).slots e.0 e.1;
              slot_is = e.2;
              alone = λ g h l m q. marks.alone s.top.func coroutine g h l m q;
              names = λ at u align ty d. marks.names s.top.func at u align ty coroutine d;
              made = λ at u align ty d entry le. made_behind at u align ty d entry le;
              there = λ q g l d m. left.temporaries z.0 none z.1 z.2 q g l d m;
            })

    -- behind begin
    behind : (number : ℕ) → s.top.instance ≡ Some number → counts s.top.func name ≡ true → IsUnmarked c.b s i
        → c.g.flags s.top.func name ≡ false → IsMarkedHere c s t r starts i name
    behind number e counted goes off =
        let at = own_there s.instances s.top.func number
        (subst (IsInstanceOf s.instances s.top.func) e known.sound.top.instance) in
        let z = subst (λ (o : Option ℕ). AreLedWith (counts s.top.func) f s.instances o s.top.slots s.top.values) e
        (known.led runs).stack.0 in
        let both : Some z.0 ≡ Some at.0 = sym z.1 ∙ at.1 in
        let same : z.0 ≡ at.0 = cc in
        let l : AreLed (counts s.top.func) f at.0.slots (frame_address_of at.0) s.top.values =
        subst (λ (y : Instance). AreLed (counts s.top.func) f y.slots (frame_address_of y) s.top.values) same z.2 in
        ⊎_elim (λ d. Unmade goes off d)
        (λ w. Behind goes off (record {
          slot = w.0;
          number = number;
          instance = at.0;
          address = w.3;
          placed = left.frames number at.0 w.0 e at.1 w.1 w.2;
        })) (led_to at.0.slots name (value_in s.top.values name) (l.counted name counted))

    marked_here : IsMarkedHere c s t r starts i name
    marked_here = by right.kind
      where
        on : (o : Option ℕ) → s.top.instance ≡ o → counts s.top.func name ≡ true
            → lies_in_frame (offsets (c.b.framing s.top.func)) name ≡ true → IsUnmarked c.b s i
            → c.g.flags s.top.func name ≡ false → IsMarkedHere c s t r starts i name
        on None e counted lies goes off = before e counted lies goes off
        on (Some number) e counted lies goes off = behind number e counted goes off

        by : IsMarkedClass c counts own s.top.func name i → IsMarkedHere c s t r starts i name
        by (OfLocal flag goes) = Anew goes flag
        by (OfFrame off goes counted lies) = on s.top.instance refl counted lies goes off
        by (OfRamp off kept is_own lies) =
            let first = (known.executed runs).0 (left.first off is_own) in
            let z = whole_there c own s known.slots first name is_own right.made
            right.behind in
            Whole (record {
              kept = kept;
              outside = lies;
              low = right.low;
              made = λ at u align ty d entry le. made_behind at u align ty d entry le;
            }) off z.0 z.1

  pub may_mark : (starts : Bool) → ((must_tail : Bool) (ty : Option Ty) (size : Arg) (u : Ty) (name : ℕ)
      → fetch (function_of c.g.given s) s.top.block s.top.at ≡ AtInstr (marking starts must_tail ty size u name)
      → AreMarkedSlotsThere c own s t r name starts) → MayMark c s t r starts
  may_mark starts left = record {
    each = λ must_tail ty size u name there.
        marked_here name starts (marking starts must_tail ty size u name)
        (marks.markers s.top.func s.top.block s.top.at starts must_tail ty size u name coroutine there)
        (left must_tail ty size u name there);
    unkept = λ must_tail ty size u name there.
        (marks.markers s.top.func s.top.block s.top.at starts must_tail ty size u name coroutine there).unkept;
  }
