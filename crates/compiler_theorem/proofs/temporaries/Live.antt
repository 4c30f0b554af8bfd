-- In each state of the framed run of an accepted source blocks of temporaries are live slots.
use Rattle.std.proofs.Common.{◌≡◌, inl, inr, ℕ, ◌+◌, ◌^◌, ◌<◌, ◌≤◌, Bool, true, false, List, [], ◌∷◌, ◌++◌, length}
use Rattle.std.proofs.Common.{Option, Some, None}
use Rattle.std.proofs.Common.{refl, sym, ap, ◌∙◌, subst, if◌then◌else◌, ◌==◌, arith}
use Rattle.std.specs.List.{Contains}
use Rattle.std.specs.Prelude.{slice_get, unwrap_or}
use Rattle.compiler_theorem.proofs.apart.Whole.{of_slot}
use Rattle.compiler_theorem.proofs.kinds.Early.{early_alloca}
use Rattle.compiler_theorem.proofs.kinds.Whole.{kinds_kept}
use Rattle.compiler_theorem.proofs.temporaries.Framings.{plain_has_none}
use Rattle.compiler_theorem.proofs.temporaries.Rules.{framed_own}
use Rattle.compiler_theorem.proofs.temporaries.States.{framed_uses}
use Rattle.compiler_theorem.proofs.theorem.Built.{framings, sources_built}
use Rattle.compiler_theorem.proofs.theorem.Framing.{sources_given}
use Rattle.compiler_theorem.proofs.theorem.Renewing.{all_kept}
use Rattle.compiler_theorem.proofs.theorem.Stepping.{other_slots}
use Rattle.compiler_theorem.proofs.woken.Forms.{entry_plain, form_allocas}
use Rattle.compiler_theorem.specs.known.Temporaries.{AreLiveTemporaries, IsLiveTemporary}
use Rattle.compiler_theorem.specs.temporaries.Uses.{HasItsBytes, HasUses, HoldsUse, IsTagged, IsUnmarkedSlot}
use Rattle.compiler_theorem.specs.temporaries.Uses.{IsUsedSlot, Tag, Unmarked, Use}
use Rattle.compiler_theorem.specs.theorem.Anew.{Anew, IsAnewOf}
use Rattle.compiler_theorem.specs.theorem.Asked.{asking}
use Rattle.compiler_theorem.specs.theorem.Built.{building}
use Rattle.compiler_theorem.specs.theorem.Entries.{IsEntryCall, Run}
use Rattle.compiler_theorem.specs.theorem.Lowered.{HasFewBytes, IsLowered, Lowered, early, edged as edged_module}
use Rattle.compiler.specs.flow_solver.Paths.{IsListed}
use Rattle.compiler.specs.ir_model.Layout.{extent_of, extent_or, size_of}
use Rattle.compiler.specs.ir_model.Names.{function_at}
use Rattle.compiler.specs.ir_model.Ty.{Ty}
use Rattle.compiler.specs.ir_model.declared.instr.Instr.{Instr}
use Rattle.compiler.specs.ir_model.declared.module.Function.{Function}
use Rattle.compiler.specs.ir_model.declared.module.Block.{Block}
use Rattle.compiler.specs.ir_model.declared.module.TypeItem.{TypeItem}
use Rattle.compiler.specs.pass_copies.declared.slot.EarlySlot.{EarlySlot}
use Rattle.pass_frames_meaning.proofs.pass_frames_proof.code.Left.{Far, far_written}
use Rattle.pass_frames_meaning.proofs.pass_frames_proof.lines.Cells.{contained}
use Rattle.pass_frames_meaning.proofs.pass_frames_proof.ramps.Allocas.{allocas_in_front}
use Rattle.pass_frames_meaning.proofs.pass_frames_proof.ramps.Behind.{framed_coroutine}
use Rattle.pass_frames_meaning.proofs.pass_frames_proof.ramps.Front.{entry_front}
use Rattle.pass_frames_meaning.proofs.pass_frames_proof.ramps.Rules.{entry_allocas}
use Rattle.pass_frames_meaning.proofs.pass_frames_proof.stepping.Names.{slots_new}
use Rattle.pass_frames_meaning.proofs.slotted.Facts.{one_of}
use Rattle.pass_frames_meaning.specs.pass_frames_proof.Beginning.{HasLiveTemporaries}
use Rattle.pass_frames_meaning.specs.pass_frames_proof.Entering.{front_allocas}
use Rattle.pass_frames_meaning.specs.pass_frames_proof.Passes.{no_block}
use Rattle.pass_frames_meaning.specs.pass_frames_proof.Ramps.{entry_stores}
use Rattle.pass_frames_meaning.specs.pass_frames_proof.Framings.{IsFraming}
use Rattle.pass_frames_meaning.specs.pass_frames_proof.Places.{Framing, copies, edged, framed, instrs_at, written}
use Rattle.pass_frames_meaning.specs.pass_renewed_proof.SlotRules.{IsMadeOnce}
use Rattle.pass_frames_meaning.specs.pass_renewed_proof.Steps.{given_at}
use Rattle.pass_frames_meaning.specs.run_slots.Slots.{IsSlottedState, is_killed_in}
use Rattle.compiler.specs.run_framed.Framed.{framed_state_at}
use Rattle.compiler.specs.run_laws.access.Lines.{StandAt}
use Rattle.compiler.specs.run_memory.Memory.{is_killed, is_live, same_kind}
use Rattle.compiler.specs.run_memory.declared.block.Kind.{Kind}
use Rattle.compiler.specs.run_memory.declared.block.Life.{Life}
use Rattle.compiler.specs.run_memory.declared.block.MemoryBlock.{MemoryBlock}
use Rattle.compiler.specs.run_source.declared.state.State.{State}
use Rattle.compiler.specs.run_step.Step.{AtInstr, alloca_kind, fetch, fetch_in, fetch_or, has_markers}
use Rattle.compiler.specs.run_step.declared.world.Slot.{Slot}

-- what stands in a line stands in the function
in_line : (f : Function) (block at : ℕ) (js : List Instr) (j : Instr) → StandAt f block at js → IsListed j js
    → (k : ℕ) × (fetch f block k ≡ AtInstr j)
in_line f block at [] j h l = absurd l
in_line f block at (i ∷ js) j h (inl e) = (at, h.0 ∙ ap AtInstr (sym e))
in_line f block at (i ∷ js) j h (inr l) = in_line f block (at + 1) js j h.1 l

in_first : (is js : List Instr) (j : Instr) → IsListed j is → IsListed j (is ++ js)
in_first [] js j l = absurd l
in_first (i ∷ is) js j (inl e) = inl e
in_first (i ∷ is) js j (inr l) = inr (in_first is js j l)

entry_fetched : (x : Framing) (at : ℕ) (i : Instr) → slice_get (instrs_at x 0) at ≡ Some i
    → fetch (edged x) 0 at ≡ AtInstr i
entry_fetched x at i e = on (slice_get (edged x).blocks 0) e
  where
    on : (o : Option Block) → slice_get (unwrap_or o no_block).instrs at ≡ Some i → fetch_in o at ≡ AtInstr i
    on None h = absurd (cc)
    on (Some b) h = ap (λ (o : Option Instr). fetch_or o (at == length b.instrs) b.term) h

-- an alloca of a name is one
same_alloca : (f : Function) (v : ℕ) → IsMadeOnce f v → (b k : ℕ) (t : Ty) (n : ℕ)
    → fetch f b k ≡ AtInstr (Instr.Alloca v t n) → (c i : ℕ) (u : Ty) (o : ℕ)
    → fetch f c i ≡ AtInstr (Instr.Alloca v u o) → (t ≡ u) × (n ≡ o)
same_alloca f v made b k t n one c i u o other =
    let p = made.alone b k (ap given_at one) in
    let q = made.alone c i (ap given_at other) in
    let there : fetch f b k ≡ fetch f c i = λ j. fetch f ((p.0 ∙ sym q.0) j) ((p.1 ∙ sym q.1) j) in
    let both : AtInstr (Instr.Alloca v t n) ≡ AtInstr (Instr.Alloca v u o) = sym one ∙ there ∙ other in
    (cc, cc)

lives : (l : Life) → (l ≡ Life.Ended → ⊥) → is_killed l ≡ false → is_live l ≡ true
lives Life.Live never alive = refl
lives Life.Ended never alive = absurd (never refl)
lives Life.Killed never alive = absurd (cc)

-- a block that is there
held_there : (t : Tag) (o : Option MemoryBlock) → HoldsUse (Unmarked t) o
    → (x : MemoryBlock) × (o ≡ Some x) × HasItsBytes x × IsTagged t x
held_there t None h = absurd h
held_there t (Some x) h = (x, refl, h.0, h.1)

module _ (l : Lowered) (low : IsLowered l) (few : HasFewBytes l) (a : Anew) (anew : IsAnewOf (early l) a) (r : Run)
    (entered : IsEntryCall l.source r) (n : ℕ) where
  abbrev t : State
  t = framed_state_at (building l low.is_framed r.answers).given r.entry r.args n

  module _ (coroutine : (function_at (early l) t.top.func).coroutine ≡ true) (e : EarlySlot)
      (listed : Contains (copies ((building l low.is_framed r.answers).framing t.top.func)).slots e) where
    abbrev func : ℕ
    func = t.top.func

    abbrev x : Framing
    x = (building l low.is_framed r.answers).framing func

    is : IsFraming ((building l low.is_framed r.answers).framing t.top.func)
    is = framings l low r.answers func coroutine

    function : function_at l.framed t.top.func ≡ framed ((building l low.is_framed r.answers).framing t.top.func)
    function = ((sources_built l low r.answers).coroutines func coroutine).is

    -- ---- its alloca

    in_entry : (k : ℕ) × (fetch (framed ((building l low.is_framed r.answers).framing t.top.func)) 0 k
        ≡ AtInstr (Instr.Alloca e.temporary e.ty e.align))
    in_entry =
        let plain = entry_plain l low r.answers func coroutine in
        in_line (framed x) 0 0 (front_allocas x ++ entry_stores x) (Instr.Alloca e.temporary e.ty e.align)
        (entry_front x is plain).stand
        (in_first (front_allocas x) (entry_stores x) (Instr.Alloca e.temporary e.ty e.align)
        ((allocas_in_front x is plain).temporaries e listed))

    now : fetch (function_at l.framed t.top.func) 0 in_entry.0 ≡ AtInstr (Instr.Alloca e.temporary e.ty e.align)
    now = ap (λ (f : Function). fetch f 0 in_entry.0) function ∙ in_entry.1

    made : IsMadeOnce (function_at l.framed t.top.func) e.temporary
    made = (framed_own l low func refl).made 0 in_entry.0 e.temporary e.ty e.align now

    high : length (edged ((building l low.is_framed r.answers).framing t.top.func)).names ≤ e.temporary
    high =
        let new : length (written x).names ≤ e.temporary = (slots_new x e listed).0 in
        let more : Far x is ≤ length (written x).names = far_written x is in
        omega (arith, new, more)

    unmarked : has_markers (function_at l.framed t.top.func) e.temporary ≡ false
    unmarked = ap (λ (f : Function). has_markers f e.temporary) function
        ∙ (kinds_kept l low a anew r).new_marks func e.temporary coroutine high

    kind : alloca_kind (function_at l.framed t.top.func) ≡ Kind.Slot
    kind = ap (λ (b : Bool). if b then Kind.Slot else Kind.Stack)
        (ap (λ (f : Function). f.coroutine) function ∙ framed_coroutine x
        ∙ ap (λ (f : Function). f.coroutine) ((sources_built l low r.answers).coroutines func coroutine).function
        ∙ coroutine)

    -- ---- its size

    size_framed : size_of l.framed e.ty ≡ size_of x.code e.ty
    size_framed =
        (entry_allocas l.framed func x is (entry_plain l low r.answers func coroutine)
        (form_allocas l low r.answers func coroutine)).same e.ty

    size_edged : size_of x.code e.ty ≡ size_of (edged_module l) e.ty
    size_edged = ap (λ (ts : List TypeItem). (extent_or (extent_of ts e.ty)).size)
        ((kinds_kept l low a anew r).types func coroutine)

    own : (k : ℕ) × (slice_get (instrs_at ((building l low.is_framed r.answers).framing t.top.func) 0) k
        ≡ Some (Instr.Alloca e.slot e.ty e.align))
    own = early_alloca x is e listed

    size_is : size_of (edged_module l) e.ty ≡ e.size
    size_is = (((kinds_kept l low a anew r).early_fields func coroutine).sized e listed own.0 e.slot e.align e.ty own.1
        refl).0

    small : size_of (edged_module l) e.ty < 2 ^ 64
    small = ((all_kept l low a anew r entered few).steps func).sizes 0 own.0 e.slot e.ty e.align
        (ap (λ (f : Function). fetch f 0 own.0) ((sources_given l low a r).coroutines func coroutine)
        ∙ entry_fetched x own.0 _ own.1)

    -- ---- its block

    module _ (q : ℕ) (slot_there : Contains t.top.slots (record { alloca = e.temporary; block = q })) where
      abbrev slot : Slot
      slot = record { alloca = e.temporary; block = q }

      k : HasUses l.framed (framed_state_at (building l low.is_framed r.answers).given r.entry r.args n)
      k = framed_uses l low a anew r entered n

      u : IsUnmarkedSlot l.framed k.uses (function_at l.framed t.top.func)
          (record { alloca = e.temporary; block = q })
      u = of_slot (IsUsedSlot l.framed k.uses) (function_at l.framed func) t.top.slots slot k.are.slots.stack.0
          (contained t.top.slots slot slot_there) unmarked

      same : (u.ty ≡ e.ty) × (u.align ≡ e.align)
      same = same_alloca (function_at l.framed func) e.temporary made u.block u.at u.ty u.align u.stands 0 in_entry.0
          e.ty e.align now

      held : (y : MemoryBlock) × (slice_get t.world.memory q ≡ Some y) × HasItsBytes y
          × IsTagged (record {
            kind = alloca_kind (function_at l.framed t.top.func);
            size = size_of l.framed u.ty;
            align = u.align;
          }) y
      held = held_there (record {
        kind = alloca_kind (function_at l.framed func);
        size = size_of l.framed u.ty;
        align = u.align;
      }) (slice_get t.world.memory q)
          (subst (λ (z : Use). HoldsUse z (slice_get t.world.memory q)) u.used (k.are.memory q))

      slotted : IsSlottedState (framed_state_at (building l low.is_framed r.answers).given r.entry r.args n)
      slotted = other_slots l low few a anew r entered n

      unkilled : is_killed held.0.life ≡ false
      unkilled = sym (ap is_killed_in held.1)
          ∙ slotted.slotted.fresh q (one_of t slotted t.top (inl refl) slot slot_there)

      live : is_live held.0.life ≡ true
      live = lives held.0.life held.3.unended unkilled

      sized : held.0.size ≡ e.size
      sized = held.3.size ∙ ap (size_of l.framed) same.0 ∙ size_framed ∙ size_edged ∙ size_is

      live_temporary : IsLiveTemporary e t.world.memory q
      live_temporary = record {
        block = held.0;
        there = held.1;
        live = live;
        slot = held.3.kind ∙ kind;
        whole = held.2.full live;
        sized = sized;
        aligned = held.3.align ∙ same.1;
        small = subst (λ (s : ℕ). s < 2 ^ 64) (size_is ∙ sym sized) small;
      }

  pub temporaries_live : AreLiveTemporaries (asking l low a r).b
      (framed_state_at (building l low.is_framed r.answers).given r.entry r.args n)
  temporaries_live = record {
    each = λ e listed q there. on (function_at (early l) t.top.func).coroutine refl e listed q there;
  }
    where
      on : (b : Bool) → (function_at (early l) t.top.func).coroutine ≡ b → (e : EarlySlot)
          → Contains (copies ((asking l low a r).b.framing t.top.func)).slots e → (q : ℕ)
          → Contains t.top.slots (record { alloca = e.temporary; block = q }) → IsLiveTemporary e t.world.memory q
      on true c e listed q there = live_temporary c e listed q there
      on false c e listed q there = absurd (plain_has_none l low r t.top.func c e listed)

  -- what the law on begin asks
  pub has_live : HasLiveTemporaries (asking l low a r).b
      (framed_state_at (building l low.is_framed r.answers).given r.entry r.args n)
  has_live = record {
    each = λ e listed q there.
        let z = temporaries_live.each e listed q there in
        record {
          block = z.block;
          there = z.there;
          live = z.live;
          writable = ap (λ (k : Kind). same_kind k Kind.Constant) z.slot;
          whole = z.whole;
          sized = z.sized;
          even = subst (λ (o : ℕ). 1 ≤ o) (sym z.aligned) (fits e listed);
        };
  }
    where
      fits : (e : EarlySlot) → Contains (copies ((asking l low a r).b.framing t.top.func)).slots e → 1 ≤ e.align
      fits e listed = on (function_at (early l) t.top.func).coroutine refl
        where
          on : (b : Bool) → (function_at (early l) t.top.func).coroutine ≡ b → 1 ≤ e.align
          on true c =
              let o = early_alloca ((asking l low a r).b.framing t.top.func) (framings l low r.answers t.top.func c) e
              listed in
              (((kinds_kept l low a anew r).early_fields t.top.func c).sized e listed o.0 e.slot e.align e.ty o.1
              refl).1
          on false c = absurd (plain_has_none l low r t.top.func c e listed)
