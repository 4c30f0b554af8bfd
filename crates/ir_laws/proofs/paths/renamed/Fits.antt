-- Lemmas on fits, that speak of no pass.
use Rattle.std.proofs.Common.{◌≡◌, Bool, true, false, length, refl, ap, ◌∙◌}
use Rattle.std.specs.Prelude.{Some, None, Option, slice_get, ◌==◌}
use Rattle.std.proofs.lemmas.Bool.{eqb-true}
use Rattle.run_laws.specs.ir_model.declared.instr.Instr.{Instr}
use Rattle.run_laws.specs.ir_model.declared.module.Block.{Block}
use Rattle.run_laws.specs.ir_model.declared.module.Function.{Function}
use Rattle.run_laws.specs.ir_paths.Windows.{instr_at, instr_in}
use Rattle.run_laws.specs.ir_paths.declared.point.Point.{Point}
use Rattle.run_laws.specs.run_step.Step.{AtInstr, AtTerm, Fetched, Nowhere, fetch, fetch_in, fetch_or}

-- ---- what stands at a point

pub data Stands (f : Function) (p : Point) : Fetched → Type 0 where
  Nothing : Stands f p Nowhere
  AnInstr : (i : Instr) → instr_at f p ≡ Some i → Stands f p (AtInstr i)
  ATerm : (b : Block) → slice_get f.blocks p.block ≡ Some b → p.at ≡ length b.instrs → instr_at f p ≡ None → Stands f p (AtTerm b.term)

pub stands : (f : Function) (p : Point) → Stands f p (fetch f p.block p.at)
stands f p = on (slice_get f.blocks p.block) refl
  where
    term : (b : Block) → slice_get f.blocks p.block ≡ Some b → slice_get b.instrs p.at ≡ None → (last : Bool) → (p.at == length b.instrs) ≡ last → Stands f p (fetch_or None last b.term)
    term b e none true l = ATerm b e (eqb-true p.at (length b.instrs) l) (ap (λ (o : Option Block). instr_in o p.at) e ∙ none)
    term b e none false l = Nothing

    instr : (b : Block) → slice_get f.blocks p.block ≡ Some b → (o : Option Instr) → slice_get b.instrs p.at ≡ o → Stands f p (fetch_or o (p.at == length b.instrs) b.term)
    instr b e None d = term b e d (p.at == length b.instrs) refl
    instr b e (Some i) d = AnInstr i (ap (λ (o : Option Block). instr_in o p.at) e ∙ d)

    on : (o : Option Block) → slice_get f.blocks p.block ≡ o → Stands f p (fetch_in o p.at)
    on None e = Nothing
    on (Some b) e = instr b e (slice_get b.instrs p.at) refl
