-- No name of an alloca that counts, and no value of begin, is an address in a slot that is made anew.
use Rattle.std.proofs.Common.{◌≡◌, ℕ, Bool, true, false, List, Option, Some, None, refl, sym, ap, ◌∙◌}
use Rattle.std.proofs.lemmas.Bool.{false≢true}
use Rattle.pass_frames_proof.specs.ir_model.Names.{function_at}
use Rattle.pass_frames_proof.specs.ir_model.Ty.{Ty}
use Rattle.pass_frames_proof.specs.ir_model.declared.instr.Instr.{Instr}
use Rattle.pass_frames_proof.specs.ir_model.declared.operand.Arg.{Arg}
use Rattle.pass_frames_proof.specs.ir_model.declared.operand.Intrinsic.{Intrinsic}
use Rattle.pass_frames_proof.specs.ir_model.declared.operand.Operand.{Operand}
use Rattle.pass_frames_proof.specs.ir_paths.declared.point.Point.{Point}
use Rattle.pass_frames_meaning.proofs.led.Begins.{HasBegin, has_begin}
use Rattle.pass_frames_meaning.specs.Led.{KeepAllNames, KeepsLedTables}
use Rattle.pass_frames_proof.specs.pass_kept_proof.SuspendRules.{IsCallAt}
use Rattle.pass_frames_proof.specs.pass_renewed_proof.Renewed.{RenewedGiven}
use Rattle.pass_frames_proof.specs.pass_renewed_proof.SlotRules.{IsAddressOf, IsMadeOnce, Itself, KeepsAllSlots, Part}
use Rattle.pass_frames_proof.specs.pass_renewed_proof.Steps.{given_at}
use Rattle.pass_frames_proof.specs.run_framed.Framed.{begin_name}
use Rattle.pass_frames_proof.specs.run_step.Step.{AtInstr}

no_gep : (v align : ℕ) (t : Ty) (w : ℕ) (inbounds : Bool) (ty : Ty) (u : ℕ) (indices : List Arg)
    → AtInstr (Instr.Alloca v t align) ≡ AtInstr (Instr.Gep w inbounds ty (Operand.Local u) indices) → ⊥
no_gep v align t w inbounds ty u indices e = absurd (cc)

module _ (g : RenewedGiven) (counts : ℕ → ℕ → Bool) (slots : KeepsAllSlots g.given.code g.keep g.flags g.roots)
    (rules : KeepAllNames g.given counts)
    (unflagged : (func v : ℕ) → counts func v ≡ true → g.flags func v ≡ false) where
  unrooted : (func v : ℕ) → counts func v ≡ true → g.roots func v ≡ None
  unrooted func v c = on (g.roots func v) refl
    where
      on : (o : Option ℕ) → g.roots func v ≡ o → o ≡ None
      on None e = refl
      on (Some a) e = absurd (by ((slots.each func).given v a 0 made.at e (ap given_at made.stands)))
        where
          made : IsMadeOnce (function_at g.given.code func) v
          made = (rules func).made v c

          by : IsAddressOf (function_at g.given.code func) (g.roots func) a v 0 made.at → ⊥
          by (Itself same) =
              let flagged = ((slots.each func).rooted v a e).0 in
              false≢true (sym (unflagged func v c) ∙ ap (g.flags func) same ∙ flagged)
          by (Part inbounds ty u indices stands root) =
              no_gep v made.align made.ty v inbounds ty u indices (sym made.stands ∙ stands)

  unmoved : (func v : ℕ) → begin_name (function_at g.given.code func) ≡ Some v → g.roots func v ≡ None
  unmoved func v b = on (g.roots func v) refl
    where
      on : (o : Option ℕ) → g.roots func v ≡ o → o ≡ None
      on None e = refl
      on (Some a) e =
          absurd (by ((slots.each func).given v a begin.point.block begin.point.at e
          (ap given_at begin.stands ∙ begin.given)))
        where
          begin : HasBegin (function_at g.given.code func) v
          begin = has_begin (function_at g.given.code func) v b

          by : IsAddressOf (function_at g.given.code func) (g.roots func) a v begin.point.block begin.point.at → ⊥
          by (Itself same) =
              let made = (slots.each func).made a ((slots.each func).rooted v a e).0 in
              ((rules func).begins v b).alone 0 made.at (Instr.Alloca a made.ty made.align) made.stands
              (ap Some (sym same))
          by (Part inbounds ty u indices stands root) =
              ((rules func).begins v b).alone begin.point.block begin.point.at
              (Instr.Gep v inbounds ty (Operand.Local u) indices) stands refl

  pub tables_led : ((func : ℕ) (u : Point) (v : ℕ) → IsCallAt Intrinsic.CoroSuspend (function_at g.given.code func) u
      → begin_name (function_at g.given.code func) ≡ Some v → g.keep func u v ≡ true) → KeepsLedTables g counts
  tables_led handed = record {
    unflagged = unflagged;
    unrooted = unrooted;
    unmoved = unmoved;
    handed = handed;
  }
