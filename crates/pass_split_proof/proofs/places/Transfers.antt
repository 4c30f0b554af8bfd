-- What stands behind a resume right before its suspend, and at the end.
use Rattle.std.proofs.Common.{◌≡◌, ℕ, ◌+◌, List, [], ◌∷◌, ap, ◌∙◌}
use Rattle.std.specs.Prelude.{Some, slice_get}
use Rattle.pass_proofs.specs.frame_layout.declared.layout.Layout.{Layout}
use Rattle.pass_proofs.specs.ir_model.Names.{position_of}
use Rattle.pass_proofs.specs.ir_model.declared.instr.Instr.{Instr}
use Rattle.pass_proofs.specs.ir_model.declared.module.Function.{Function}
use Rattle.pass_proofs.specs.ir_model.declared.module.Module.{Module}
use Rattle.pass_proofs.specs.ir_model.declared.operand.Callee.{Callee}
use Rattle.pass_proofs.proofs.ir_laws.paths.uses.Paths.{place_of}
use Rattle.pass_proofs.proofs.rule_laws.rules.source_rules.Locals.{own_label}
use Rattle.pass_proofs.specs.pass_intrinsics.Cuts.{cut_at, next_suspend}
use Rattle.pass_proofs.specs.pass_intrinsics.Shapes.{shape_of}
use Rattle.pass_proofs.specs.pass_intrinsics.declared.cuts.Cut.{Cut}
use Rattle.pass_proofs.specs.pass_intrinsics.declared.shape.Part.{Part}
use Rattle.pass_proofs.specs.pass_intrinsics.declared.shape.Shape.{Shape}
use Rattle.pass_split_proof.proofs.code.Allocas.{by_instrs}
use Rattle.pass_proofs.proofs.split.edges.Pieces.{call_transfers, numbered_suspend}
use Rattle.pass_proofs.proofs.split.edges.Rules.{begins_with_end, end_is, the_end}
use Rattle.pass_split_proof.specs.places.Places.{IsSuspendOf, StartsWithEnd}
use Rattle.pass_proofs.specs.split.rules.Splittable.{IsSplittable}
use Rattle.pass_proofs.specs.run_laws.access.Lines.{StandAt}
use Rattle.pass_proofs.specs.run_step.Step.{phis_of}

-- a resume transfers right before a suspend
next_there : (s : Shape) (part : Part) (i : Instr) (after : List Instr) (j : ℕ)
    → cut_at s part i after ≡ Cut.Transfers j → next_suspend s after ≡ Some j
next_there s part (Instr.Call r must_tail ty (Callee.Intrinsic x) args) after j e = call_transfers s part j r after x e
next_there s part _ after j e = absurd (cc)

pub suspend_behind : (s : Shape) (part : Part) (f : Function) (block at j : ℕ) (i : Instr) (after : List Instr)
    → StandAt f block at (i ∷ after) → cut_at s part i after ≡ Cut.Transfers j → IsSuspendOf s f block (at + 1) j
suspend_behind s part f block at j i after stand e = on after stand (next_there s part i after j e)
  where
    on : (is : List Instr) → StandAt f block at (i ∷ is) → next_suspend s is ≡ Some j → IsSuspendOf s f block (at + 1) j
    on [] h d = absurd (cc)
    on (k ∷ is) h d = record { suspend = k; here = h.1.0; suspends = numbered_suspend s part j k d; number = d }

pub end_first : (m : Module) (k : ℕ) (f : Function) (begin : ℕ) (layout : Layout) → IsSplittable m k f begin
    → StartsWithEnd f (shape_of f layout).end
end_first m k f begin layout x =
    let end = the_end m k f begin x in
    let first = begins_with_end m k f begin x end.block end.listed end.has in
    let p = place_of f.blocks end.block end.listed in
    let at : position_of f (shape_of f layout).end ≡ p.0 = ap (position_of f) (end_is m k f begin x layout)
    ∙ own_label k f x.rules.definitions p.0 end.block p.1 in
    let there : slice_get f.blocks (position_of f (shape_of f layout).end) ≡ Some end.block = ap
    (slice_get f.blocks) at ∙ p.1 in
    record {
      first = first.first;
      here = by_instrs f (position_of f (shape_of f layout).end) 0 end.block first.first there
          (ap (λ (is : List Instr). slice_get is 0) first.is);
      ends = first.is_end;
      bare = ap phis_of there ∙ first.no_phis;
    }
