-- An address in a slot that is made anew and is kept in no cell: it is the alloca's own name, or isn't handed on.
use Rattle.std.proofs.Common.{◌≡◌, ◌⊎◌, inl, inr, ℕ, Bool, true, false, Some, None, refl, sym, ap, ◌∙◌, subst}
use Rattle.pass_frames_proof.specs.flow_solver.Paths.{IsListed}
use Rattle.pass_frames_proof.specs.ir_model.Names.{function_at}
use Rattle.pass_frames_proof.specs.ir_model.Ty.{Ty}
use Rattle.pass_frames_proof.specs.ir_model.declared.instr.Instr.{Instr}
use Rattle.pass_frames_proof.specs.ir_model.declared.module.Function.{Function}
use Rattle.pass_frames_proof.specs.ir_model.declared.operand.Operand.{Operand}
use Rattle.pass_frames_proof.specs.ir_paths.Slots.{allocas_of}
use Rattle.pass_frames_proof.specs.ir_paths.declared.point.Point.{Point}
use Rattle.pass_frames_proof.specs.pass_cells.Kept.{entry}
use Rattle.pass_frames_proof.specs.pass_cells.declared.plan.KeptValue.{KeptValue}
use Rattle.pass_frames_proof.specs.pass_frames.Framed.{begin_of}
use Rattle.pass_frames_meaning.proofs.led.Begins.{HasBegin, has_begin}
use Rattle.pass_frames_meaning.proofs.woken.Sleeping.{entry_alloca, is, made_there, same, w}
use Rattle.pass_frames_meaning.proofs.woken.Unkept.{begin_no_alloca}
use Rattle.pass_frames_meaning.specs.Led.{IsBegin}
use Rattle.pass_frames_meaning.specs.Setting.{KeepsAll, Setting}
use Rattle.pass_frames_meaning.specs.Woken.{IsHandedOn, IsWakeable, KeepsWaking}
use Rattle.pass_frames_proof.specs.Framings.{IsFraming}
use Rattle.pass_frames_proof.specs.Places.{Framing, edged, plan}
use Rattle.pass_frames_proof.specs.Related.{IsKeptValue, IsSuspendNumber, is_coroutine}
use Rattle.pass_frames_proof.proofs.pass_renewed_proof.History.{fetch_is as fetched_there}
use Rattle.pass_frames_proof.specs.pass_renewed_proof.SlotRules.{IsAddressOf, IsMadeOnce, Itself, Part}
use Rattle.pass_frames_proof.specs.pass_renewed_proof.Steps.{given_at}
use Rattle.pass_frames_proof.proofs.rule_laws.rules.source_rules.Slots.{HasAlloca, alloca_of}
use Rattle.pass_frames_proof.specs.run_step.Step.{AtInstr, fetch}
use Rattle.pass_frames_meaning.proofs.others.Returns.{instr_in}

module _ (c : Setting) (all : KeepsAll c) (waking : KeepsWaking c) (func : ℕ)
    (coroutine : is_coroutine c.b func ≡ true) where
  abbrev x : Framing
  x = c.b.framing func

  abbrev framing : IsFraming x
  framing = is c all waking func coroutine

  abbrev wakeable : IsWakeable c func x
  wakeable = w c all waking func coroutine

  code : function_at c.g.given.code func ≡ edged x
  code = same c all waking func coroutine

  -- what an instruction gives that is such an address
  address : (v root block at : ℕ) (i : Instr) → c.g.roots func v ≡ Some root → fetch (edged x) block at ≡ AtInstr i
      → given_at (AtInstr i) ≡ Some v → IsAddressOf (edged x) (c.g.roots func) root v block at
  address v root block at i told stands gives =
      subst (λ (f : Function). IsAddressOf f (c.g.roots func) root v block at) code
      ((waking.slots.each func).given v root block at told
      (ap (λ (f : Function). given_at (fetch f block at)) code ∙ ap given_at stands ∙ gives))

  -- an alloca gives no address but its own
  by_alloca : (v root block at align : ℕ) (ty : Ty) → c.g.roots func v ≡ Some root
      → fetch (edged x) block at ≡ AtInstr (Instr.Alloca v ty align) → root ≡ v
  by_alloca v root block at align ty told stands =
      on (address v root block at (Instr.Alloca v ty align) told stands refl)
    where
      on : IsAddressOf (edged x) (c.g.roots func) root v block at → root ≡ v
      on (Itself e) = sym e
      on (Part inbounds ty' u indices e told') =
          let both : AtInstr (Instr.Alloca v ty align) ≡ AtInstr (Instr.Gep v inbounds ty' (Operand.Local u) indices) =
          sym stands ∙ e in
          absurd (cc)

  flagged_root : (v root : ℕ) → c.g.roots func v ≡ Some root → c.g.flags func root ≡ true
  flagged_root v root told = ((waking.slots.each func).rooted v root told).0

  -- nor does begin
  no_begin : (root : ℕ) → c.g.roots func (begin_of x.function) ≡ Some root → ⊥
  no_begin root told =
      on (address (begin_of x.function) root b.point.block b.point.at b.instr told b.stands b.given)
    where
      b : HasBegin (edged x) (begin_of x.function)
      b = has_begin (edged x) (begin_of x.function) wakeable.begins

      on : IsAddressOf (edged x) (c.g.roots func) root (begin_of x.function) b.point.block b.point.at → ⊥
      on (Itself e) =
          let m : IsMadeOnce (edged x) root = made_there c all waking func coroutine root (flagged_root _ root told) in
          begin_no_alloca x framing wakeable.begins
          (subst (λ (n : ℕ). IsListed n (allocas_of (edged x))) (sym e)
          (entry_alloca c all waking func coroutine m.at root m.align m.ty
          (instr_in x (edged x) refl 0 m.at (Instr.Alloca root m.ty m.align) m.stands)))
      on (Part inbounds ty u indices e told') =
          let both : AtInstr b.instr
          ≡ AtInstr (Instr.Gep (begin_of x.function) inbounds ty (Operand.Local u) indices) = sym b.stands ∙ e in
          let same : b.instr ≡ Instr.Gep (begin_of x.function) inbounds ty (Operand.Local u) indices = cc in
          subst IsBegin same b.begins

  module _ (j : ℕ) (p : Point) (number : IsSuspendNumber x j p) where
    pub own_root : (v root : ℕ) → entry (plan x).places v ≡ None → c.g.roots func v ≡ Some root
        → (root ≡ v) ⊎ ((c.g.flags func v ≡ false) × (c.g.keep func p v ≡ false))
    own_root v root unkept told = by (c.g.flags func v) refl (c.g.keep func p v) refl
      where
        kept_no : (k : KeptValue) → IsKeptValue x v k → ⊥
        kept_no k kept = let both : Some kept.number ≡ None = sym kept.told ∙ unkept in cc

        handed : IsHandedOn c func x j v → root ≡ v
        handed (inl crosses) = absurd (kept_no crosses.1 crosses.2)
        handed (inr (inl begin)) =
            absurd (no_begin root (subst (λ (n : ℕ). c.g.roots func n ≡ Some root) begin told))
        handed (inr (inr memory)) =
            let a : HasAlloca (edged x) v = alloca_of (edged x) v memory.0 in
            by_alloca v root a.point.block a.point.at a.align a.ty told
            (fetched_there (edged x) a.point (Instr.Alloca v a.ty a.align) a.stands)

        by : (flag : Bool) → c.g.flags func v ≡ flag → (keep : Bool) → c.g.keep func p v ≡ keep
            → (root ≡ v) ⊎ ((c.g.flags func v ≡ false) × (c.g.keep func p v ≡ false))
        by true f keep h =
            let m : IsMadeOnce (edged x) v = made_there c all waking func coroutine v f in
            inl (by_alloca v root 0 m.at m.align m.ty told m.stands)
        by false f false h = inr (f, h)
        by false f true h = inl (handed (wakeable.alone j p v number h))
