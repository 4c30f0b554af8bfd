-- No resume or destroy edge leads to the entry.
use Rattle.std.proofs.Common.{◌≡◌, inl, inr, ℕ, suc, Bool, true, false, List, [], ◌∷◌, length, refl, sym, ap, ◌∙◌}
use Rattle.std.specs.Prelude.{Some, if◌then◌else◌, option_map, slice_get, unwrap_or, ◌==◌}
use Rattle.pass_frames_proof.specs.flow_solver.Paths.{IsListed}
use Rattle.pass_frames_proof.proofs.ir_laws.facts.Truth.{itself}
use Rattle.pass_frames_proof.specs.ir_model.Names.{first_where, position_of}
use Rattle.pass_frames_proof.specs.ir_model.declared.module.Block.{Block}
use Rattle.pass_frames_proof.specs.ir_model.declared.module.Function.{Function}
use Rattle.pass_frames_proof.specs.Framings.{IsFraming}
use Rattle.pass_frames_proof.specs.Passes.{block_at}
use Rattle.pass_frames_proof.specs.Places.{Framing, edged, is_return}
use Rattle.pass_frames_proof.specs.pass_intrinsics.Shapes.{suspends_of}
use Rattle.pass_frames_proof.specs.pass_intrinsics.declared.shape.SuspendPoint.{SuspendPoint}
use Rattle.pass_frames_proof.proofs.pass_proofs.copies.shape.Returned.{resumed_listed}
use Rattle.pass_frames_proof.specs.rule_laws.frames.counted.Asked.{IsAwayFromEntry}
use Rattle.pass_frames_proof.specs.rule_laws.frames.rows.Returns.{return_labels}

entry_position : (f : Function) (b : Block) → slice_get f.blocks 0 ≡ Some b → position_of f b.label ≡ 0
entry_position f b e = on f.blocks e
  where
    on : (bs : List Block) → slice_get bs 0 ≡ Some b
        → unwrap_or (first_where (λ (c : Block). c.label == b.label) bs) (length f.blocks) ≡ 0
    on [] d = absurd (cc)
    on (c ∷ bs) d =
        let same : c ≡ b = cc in
        let hit : (c.label == b.label) ≡ true = ap (λ (k : Block). k.label == b.label) same ∙ itself b.label in
        ap (λ (t : Bool). unwrap_or (if t then Some 0 else option_map suc (first_where
        (λ (k : Block). k.label == b.label) bs)) (length f.blocks)) hit

none_leads : (f : Function) (ss : List SuspendPoint) (l : ℕ)
    → ((s : SuspendPoint) → IsListed s ss → IsAwayFromEntry f s) → position_of f l ≡ 0
    → IsListed l (return_labels ss) → ⊥
none_leads f [] l h at m = m
none_leads f (s ∷ ss) l h at (inl e) = (h s (inl refl)).resume (ap (position_of f) (sym e) ∙ at)
none_leads f (s ∷ ss) l h at (inr (inl e)) = (h s (inl refl)).destroy (ap (position_of f) (sym e) ∙ at)
none_leads f (s ∷ ss) l h at (inr (inr m)) = none_leads f ss l (λ z n. h z (inr n)) at m

pub entry_unreturned : (x : Framing) → IsFraming x → slice_get (edged x).blocks 0 ≡ Some (block_at (edged x) 0)
    → is_return x 0 ≡ false
entry_unreturned x is there = on (is_return x 0) refl
  where
    on : (b : Bool) → is_return x 0 ≡ b → b ≡ false
    on false e = refl
    on true e =
        absurd (none_leads (edged x) (suspends_of (edged x)) (block_at (edged x) 0).label is.frameable.cells.returns
        (entry_position (edged x) (block_at (edged x) 0) there)
        (resumed_listed (edged x) (block_at (edged x) 0).label e))
