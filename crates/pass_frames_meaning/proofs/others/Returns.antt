-- Blocks on resume and destroy edges have no instructions, so no activation below stands in one.
use Rattle.std.proofs.Common.{◌≡◌, ◌⊎◌, inl, inr, ⊎_elim, ℕ, Bool, true, false, List, [], ◌∷◌, length, Option, Some, None, refl, sym, ap, ◌∙◌, subst, if◌then◌else◌, ◌==◌}
use Rattle.std.specs.Prelude.{replicate, slice_get, slice_set, unwrap_or}
use Rattle.std.proofs.lemmas.Bool.{false≢true}
use Rattle.pass_frames_proof.specs.flow_solver.Paths.{IsListed}
use Rattle.pass_frames_proof.specs.ir_model.Names.{function_at, position_of}
use Rattle.pass_frames_proof.specs.ir_model.declared.instr.Instr.{Instr}
use Rattle.pass_frames_proof.specs.ir_model.declared.instr.Terminator.{Terminator}
use Rattle.pass_frames_proof.specs.ir_model.declared.module.Block.{Block}
use Rattle.pass_frames_proof.specs.ir_model.declared.module.Function.{Function}
use Rattle.pass_frames_proof.specs.ir_laws.paths.rows.Returns.{IsOwnBlock}
use Rattle.pass_frames_proof.specs.pass_copies.Slots.{resumed_at, set_resumed}
use Rattle.pass_frames_proof.specs.pass_copies.Uses.{flag_at}
use Rattle.pass_frames_meaning.specs.Called.{AreBehindCalls, IsBehindCall, IsCalm}
use Rattle.pass_frames_meaning.specs.Spared.{HasNoReturnsBelow}
use Rattle.pass_frames_proof.specs.Framings.{IsFraming}
use Rattle.pass_frames_proof.specs.Passes.{block_at, no_block}
use Rattle.pass_frames_proof.specs.Places.{Framing, edged, instrs_at, is_return, plan}
use Rattle.pass_frames_proof.specs.Related.{is_coroutine, returned_from}
use Rattle.pass_frames_proof.specs.pass_intrinsics.Shapes.{suspends_of}
use Rattle.pass_frames_proof.specs.pass_intrinsics.declared.shape.SuspendPoint.{SuspendPoint}
use Rattle.pass_frames_proof.proofs.pass_proofs.copies.begin_order.Marks.{flag_back, none_flagged}
use Rattle.pass_frames_proof.proofs.rule_laws.rules.source_rules.Locals.{own_label}
use Rattle.pass_frames_proof.specs.rule_laws.frames.rows.Returns.{HaveOwnReturns, return_labels}
use Rattle.pass_frames_proof.specs.rule_laws.rules.function_rules.Kept.{KeepsFunctionRules}
use Rattle.pass_frames_proof.specs.run_source.declared.state.Activation.{Activation}
use Rattle.pass_frames_proof.specs.run_source.declared.state.Mode.{Mode}
use Rattle.pass_frames_proof.specs.run_source.declared.state.State.{State}
use Rattle.pass_frames_proof.specs.run_step.Step.{AtInstr, Nowhere, fetch, fetch_or}
use Rattle.pass_frames_meaning.specs.Setting.{KeepsAll, Setting}
use Rattle.pass_frames_proof.specs.pass_cells.Kept.{entry}

-- ---- labels that are flagged

flagged_listed : (ps : List SuspendPoint) (flags : List Bool) (n : ℕ) → flag_at (set_resumed flags ps) n ≡ true
    → (flag_at flags n ≡ true) ⊎ IsListed n (return_labels ps)
flagged_listed [] flags n e = inl e
flagged_listed (p ∷ ps) flags n e = ⊎_elim
    (λ h. ⊎_elim
    (λ k. ⊎_elim (λ old. inl old) (λ same. inr (inl (sym same))) (flag_back flags p.resume n k))
    (λ same. inr (inr (inl (sym same))))
    (flag_back (slice_set flags p.resume true) p.destroy n h))
    (λ l. inr (inr (inr l)))
    (flagged_listed ps (slice_set (slice_set flags p.resume true) p.destroy true) n e)

returned_listed : (f : Function) (n : ℕ) → flag_at (resumed_at f) n ≡ true → IsListed n (return_labels (suspends_of f))
returned_listed f n e = ⊎_elim
    (λ h. absurd (false≢true (sym (none_flagged (length f.names) n) ∙ h)))
    (λ l. l)
    (flagged_listed (suspends_of f) (replicate (length f.names) false) n e)

-- ---- blocks

same_block : (a b : Block) → Some a ≡ Some b → a ≡ b
same_block a b e = cc

module _ (x : Framing) (position : ℕ) (rules : KeepsFunctionRules x.code position (edged x))
    (own : HaveOwnReturns (edged x)) where
  pub returns_empty : (k : ℕ) → is_return x k ≡ true → instrs_at x k ≡ []
  returns_empty k e = on (slice_get (edged x).blocks k) refl e
    where
      on : (o : Option Block) → slice_get (edged x).blocks k ≡ o
          → flag_at (resumed_at (edged x)) (unwrap_or o no_block).label ≡ true → (unwrap_or o no_block).instrs ≡ []
      on None d h = refl
      on (Some b) d h =
          let block : IsOwnBlock (edged x) b.label = own.own b.label (returned_listed (edged x) b.label h) in
          let at : position_of (edged x) b.label ≡ k = own_label position (edged x) rules.definitions k b d in
          let same : block.block ≡ b =
          same_block block.block b (sym block.got ∙ ap (slice_get (edged x).blocks) at ∙ d) in
          ap (λ (c : Block). c.instrs) (sym same) ∙ block.no_instrs

  -- where an instruction stands
  pub unreturned : (k at : ℕ) (i : Instr) → slice_get (instrs_at x k) at ≡ Some i → is_return x k ≡ false
  unreturned k at i e = on (is_return x k) refl
    where
      on : (b : Bool) → is_return x k ≡ b → b ≡ false
      on false d = refl
      on true d = absurd (none at i (ap (λ (is : List Instr). slice_get is at) (sym (returns_empty k d)) ∙ e))
        where
          none : (at : ℕ) (i : Instr) → slice_get {X = Instr} [] at ≡ Some i → ⊥
          none at i h = cc

-- what stands at a place of a function is an instruction of its block
pub instr_in : (x : Framing) (f : Function) → f ≡ edged x → (k at : ℕ) (i : Instr) → fetch f k at ≡ AtInstr i
    → slice_get (instrs_at x k) at ≡ Some i
instr_in x f same k at i e =
    on (slice_get (edged x).blocks k) refl (ap (λ (g : Function). fetch g k at) (sym same) ∙ e)
  where
    by : (o : Option Instr) (last : Bool) (t : Terminator) → fetch_or o last t ≡ AtInstr i → o ≡ Some i
    by None true t h = absurd (cc)
    by None false t h = absurd (cc)
    by (Some j) last t h = cc

    on : (o : Option Block) → slice_get (edged x).blocks k ≡ o → fetch (edged x) k at ≡ AtInstr i
        → slice_get (unwrap_or o no_block).instrs at ≡ Some i
    on None d h =
        let z : Nowhere ≡ AtInstr i = sym (ap (λ (o : Option Block). Rattle.pass_frames_proof.specs.run_step.Step.fetch_in o at) d) ∙ h in
        absurd (cc)
    on (Some b) d h = by (slice_get b.instrs at) (at == length b.instrs) b.term
        (sym (ap (λ (o : Option Block). Rattle.pass_frames_proof.specs.run_step.Step.fetch_in o at) d) ∙ h)

-- ---- activations below

module _ (c : Setting) (all : KeepsAll c) where
  pub none_by : (x : Framing) (a : Activation) (mode : Mode) → IsCalm mode → is_return x a.block ≡ false
      → returned_from x a mode ≡ None
  none_by x a Mode.Plain h e = ap (λ (b : Bool). if b then entry (plan x).returns (block_at (edged x) a.block).label
      else None) e
  none_by x a Mode.Ramp h e = ap (λ (b : Bool). if b then entry (plan x).returns (block_at (edged x) a.block).label
      else None) e
  none_by x a Mode.Resumed h e = ap (λ (b : Bool). if b then entry (plan x).returns (block_at (edged x) a.block).label
      else None) e
  none_by x a (Mode.GivenRamp frame) h e = absurd h
  none_by x a (Mode.Entering from label) h e = absurd h

  -- of a coroutine's block with an instruction
  pub no_return : (func k at : ℕ) (i : Instr) → is_coroutine c.b func ≡ true
      → fetch (function_at c.g.given.code func) k at ≡ AtInstr i → is_return (c.b.framing func) k ≡ false
  no_return func k at i coroutine there =
      let is : IsFraming (c.b.framing func) = all.given.framings func coroutine in
      unreturned (c.b.framing func) is.position is.frameable.rules (all.returns func coroutine) k at i
      (instr_in (c.b.framing func) (function_at c.g.given.code func) (all.given.coroutines func coroutine) k at i there)

  below_by : (result : Option ℕ) (below : List Activation) → AreBehindCalls c.g.given.code result below
      → (a : Activation) → IsListed a below → is_coroutine c.b a.func ≡ true
      → returned_from (c.b.framing a.func) a a.mode ≡ None
  below_by result [] h a l coroutine = absurd l
  below_by result (x ∷ below) h a (inl e) coroutine =
      let z : IsBehindCall (function_at c.g.given.code a.func) a result =
      subst (λ (y : Activation). IsBehindCall (function_at c.g.given.code y.func) y result) (sym e) h.0 in
      none_by (c.b.framing a.func) a a.mode z.calm (no_return a.func a.block z.at z.call coroutine z.there)
  below_by result (x ∷ below) h a (inr l) coroutine = below_by x.result below h.1 a l coroutine

  pub no_returns_below : (s : State) → AreBehindCalls c.g.given.code s.top.result s.below → HasNoReturnsBelow c.b s
  no_returns_below s h = below_by s.top.result s.below h
