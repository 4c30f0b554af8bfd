-- No resume or destroy edge leads to the entry of a coroutine whose frame may be built, and no pass gives it phis.
use Rattle.std.proofs.Common.{◌≡◌, ◌∙◌, [], Bool, None, Some, ap, false, refl, subst, true, ℕ, ⊎_elim, length}
use Rattle.std.specs.Prelude.{Option, slice_get, unwrap_or}
use Rattle.pass_frames_steps.specs.flow_solver.Paths.{IsListed}
use Rattle.pass_frames_steps.specs.ir_model.Names.{position_of}
use Rattle.pass_frames_steps.specs.ir_model.declared.module.Block.{Block}
use Rattle.pass_frames_steps.specs.ir_model.declared.module.Function.{Function}
use Rattle.pass_frames_steps.specs.ir_model.declared.module.Module.{Module}
use Rattle.pass_frames_steps.specs.pass_cells.Cells.{fetched_function, fetches_of}
use Rattle.pass_frames_steps.specs.pass_cells.Kept.{entry}
use Rattle.pass_frames_steps.specs.pass_copies.Slots.{resumed_at}
use Rattle.pass_frames_steps.specs.pass_copies.Uses.{flag_at}
use Rattle.pass_frames_steps.specs.pass_fetch.Blocks.{fetched_block, fetched_phis, next_after_phis_by}
use Rattle.pass_frames_steps.specs.pass_frames.Framed.{celled}
use Rattle.pass_frames_steps.proofs.code.Names.{local}
use Rattle.pass_frames_steps.proofs.code.Passes.{cells_made, fetched_there}
use Rattle.pass_frames_proof.proofs.ramps.Plain.{entry_phis, entry_there}
use Rattle.pass_frames_steps.specs.Framings.{IsFraming}
use Rattle.pass_frames_steps.specs.Passes.{block_at, no_block, phi_ends}
use Rattle.pass_frames_steps.specs.Places.{Framing, copies, edged, fetched, is_return, named, plan, with_copies, written}
use Rattle.pass_frames_steps.specs.Ramps.{IsPlainEntry}
use Rattle.pass_frames_steps.specs.pass_intrinsics.Shapes.{suspends_of}
use Rattle.pass_frames_steps.specs.pass_intrinsics.declared.shape.SuspendPoint.{SuspendPoint}
use Rattle.pass_frames_steps.proofs.pass_proofs.cells.rules.Labels.{entry_unreturned}
use Rattle.pass_frames_steps.proofs.pass_proofs.copies.begin_order.Early.{leads_again}
use Rattle.pass_frames_steps.proofs.pass_proofs.frames.begin_order.Framed.{celled_away, celled_keeps}
use Rattle.pass_frames_steps.proofs.rule_laws.rules.source_rules.Locals.{own_label}
use Rattle.pass_frames_steps.specs.rule_laws.frames.counted.Asked.{IsAwayFromEntry}
use Rattle.pass_frames_steps.specs.rule_laws.rules.function_rules.Kept.{KeepsFunctionRules}

-- what is told of an entry by the passes
pub record IsBareEntry (x : Framing) : Type 0 where
  pub there : slice_get (edged x).blocks 0 ≡ Some (block_at (edged x) 0)
  pub unreturned : is_return x 0 ≡ false
  pub unresumed : flag_at (copies x).resumed (block_at (written x) 0).label ≡ false
  pub unread : entry (plan x).returns (block_at (fetched x) 0).label ≡ None
  pub no_phis : (block_at (fetched x) 0).phis ≡ []

-- no suspend resumes there
away_unflagged : (m : Module) (k : ℕ) (g : Function) → KeepsFunctionRules m k g
    → ((s : SuspendPoint) → IsListed s (suspends_of g) → IsAwayFromEntry g s) → (b : Block)
    → slice_get g.blocks 0 ≡ Some b → flag_at (resumed_at g) b.label ≡ false
away_unflagged m k g rules away b e = on (flag_at (resumed_at g) b.label) refl
  where
    at : position_of g b.label ≡ 0
    at = own_label k g rules.definitions 0 b e

    on : (q : Bool) → flag_at (resumed_at g) b.label ≡ q → flag_at (resumed_at g) b.label ≡ false
    on false d = d
    on true d =
        let l = leads_again g b.label d in
        absurd (⊎_elim (λ r. (away l.suspend l.listed).resume (ap (position_of g) r ∙ at))
        (λ r. (away l.suspend l.listed).destroy (ap (position_of g) r ∙ at)) l.leads)

module _ (x : Framing) (is : IsFraming x) (e : IsPlainEntry x) where
  abbrev F : Function
  F = edged x

  abbrev b : Block
  b = block_at F 0

  -- the entry with its operands fetched, and with cells
  record IsEntryOf (g : Function) : Type 0 where
    block : Block
    there : slice_get g.blocks 0 ≡ Some block
    label : block.label ≡ b.label

  block_is : (g : Function) (c : Block) → slice_get g.blocks 0 ≡ Some c → block_at g 0 ≡ c
  block_is g c d = ap (λ (o : Option Block). unwrap_or o no_block) d

  record IsFetchedEntry : Type 0 where
    of : IsEntryOf (fetched x)
    no_phis : of.block.phis ≡ []

  fetched_entry : IsFetchedEntry
  unfolding fetched_function
  fetched_entry =
      let q = fetched_there (fetches_of (plan x)) (phi_ends (named x) (fetches_of (plan x))) (length (named x).names)
      (next_after_phis_by (fetches_of (plan x)) (length (named x).names) (named x).blocks) (named x).blocks 0 b
      (entry_there x is) in
      record {
        of = record {
          block = fetched_block (fetches_of (plan x)) (phi_ends (named x) (fetches_of (plan x))) q.0
              (next_after_phis_by (fetches_of (plan x)) (length (named x).names) (named x).blocks) b;
          there = q.1;
          label = refl;
        };
        no_phis = ap (fetched_phis (fetches_of (plan x)) q.0) (entry_phis x is e);
      }

  written_entry : IsEntryOf (written x)
  written_entry =
      let q = cells_made x.code (plan x) (fetched x) 0 fetched_entry.of.block fetched_entry.of.there in
      record { block = q.0; there = q.1; label = q.2.label ∙ fetched_entry.of.label }

  celled_is : celled x.code x.function x.contents ≡ written x
  unfolding celled
  celled_is = refl

  written_unresumed : flag_at (resumed_at (written x)) written_entry.block.label ≡ false
  written_unresumed =
      subst (λ (g : Function). (z : Block) → slice_get g.blocks 0 ≡ Some z → flag_at (resumed_at g) z.label ≡ false)
      celled_is
      (away_unflagged x.code is.position (celled x.code x.function x.contents)
      (celled_keeps x.code is.position x.layout x.function x.contents is.begin (length (with_copies x).names)
      is.frameable)
      (celled_away x.code is.position x.layout x.function x.contents is.begin (length (with_copies x).names)
      is.frameable))
      written_entry.block written_entry.there

  pub bare_entry : IsBareEntry x
  bare_entry = record {
    there = entry_there x is;
    unreturned =
        away_unflagged x.code is.position F is.frameable.rules is.frameable.cells.returns b
        (entry_there x is);
    unresumed =
        ap (λ (z : Block). flag_at (copies x).resumed z.label)
        (block_is (written x) written_entry.block written_entry.there)
        ∙ written_unresumed;
    unread =
        ap (λ (z : Block). entry (plan x).returns z.label)
        (block_is (fetched x) fetched_entry.of.block fetched_entry.of.there)
        ∙ ap (entry (plan x).returns) fetched_entry.of.label
        ∙ entry_unreturned x.code is.position F is.frameable.rules x.contents.crossing (local x is) is.frameable.cells b
        (entry_there x is);
    no_phis =
        ap (λ (z : Block). z.phis) (block_is (fetched x) fetched_entry.of.block fetched_entry.of.there)
        ∙ fetched_entry.no_phis;
  }
