-- The block on a resume or destroy edge has its label in the framed form, too, and no phis there.
use Rattle.std.proofs.Common.{◌≡◌, ◌∷◌, ◌∙◌, [], List, Option, Some, ap, length, suc, sym, zero, ℕ}
use Rattle.std.specs.Prelude.{slice_get, unwrap_or}
use Rattle.pass_frames_steps.specs.ir_model.Names.{position_of}
use Rattle.pass_frames_steps.specs.ir_model.declared.instr.Instr.{Instr}
use Rattle.pass_frames_steps.specs.ir_model.declared.module.Block.{Block}
use Rattle.pass_frames_steps.specs.pass_cells.Cells.{fetches_of}
use Rattle.pass_frames_steps.specs.pass_fetch.Blocks.{fetched_block, fetched_blocks, fetched_phis, next_after_block, next_after_phis}
use Rattle.pass_frames_steps.specs.pass_fetch.declared.fetch.Fetch.{Fetch}
use Rattle.pass_frames_proof.proofs.jumping.Labels.{position_same}
use Rattle.pass_frames_proof.proofs.jumping.Placed.{phis_placed}
use Rattle.pass_frames_steps.specs.Code.{slot_table}
use Rattle.pass_frames_steps.specs.Jumps.{PhisInPlace}
use Rattle.pass_frames_steps.specs.Passes.{block_at}
use Rattle.pass_frames_steps.specs.Places.{Framing, edged, framed, named, plan, unmarked}
use Rattle.pass_frames_steps.specs.Related.{Building}
use Rattle.pass_frames_steps.specs.Waking.{HasEdgeBlock}
use Rattle.pass_frames_steps.proofs.run_laws.memory.Written.{same_some}
use Rattle.pass_frames_steps.specs.run_step.Step.{phis_of}

-- no phi comes by fetches
none_fetched : (t : List (Option Fetch)) (ends : List (List Instr)) (m n : ℕ) (bs : List Block) (k : ℕ) (b d : Block)
    → slice_get bs k ≡ Some b → slice_get (fetched_blocks t ends m n bs) k ≡ Some d → b.phis ≡ [] → d.phis ≡ []
none_fetched t ends m n [] k b d e h none = absurd (cc)
none_fetched t ends m n (c ∷ bs) zero b d e h none =
    ap (λ (z : Block). z.phis) (sym (same_some (fetched_block t ends m n c) d h))
    ∙ ap (fetched_phis t m) (ap (λ (z : Block). z.phis) (same_some c b e) ∙ none)
none_fetched t ends m n (c ∷ bs) (suc k) b d e h none =
    none_fetched t ends (next_after_phis t m c.phis) (next_after_block t n c) bs k b d e h none

module _ (b : Building) (func label order : ℕ) (edge : HasEdgeBlock b func label order) where
  abbrev x : Framing
  x = b.framing func

  pub edge_is : position_of (edged x) label ≡ edge.block
  edge_is = ap (λ (o : Option ℕ). unwrap_or o (length (edged x).blocks)) edge.labelled

  pub edge_too : position_of (framed x) label ≡ edge.block
  edge_too = position_same x label edge.block edge.labelled ∙ edge_is

  places : PhisInPlace x edge.block
  places = phis_placed x edge.block edge.later (block_at (edged x) edge.block) edge.there

  pub no_phis : phis_of (slice_get (edged x).blocks edge.block) ≡ []
  no_phis = ap phis_of edge.there ∙ edge.no_phis

  pub no_phis_too : phis_of (slice_get (framed x).blocks edge.block) ≡ []
  no_phis_too =
      places.target
      ∙ none_fetched (slot_table x)
      _ _ _ (unmarked x).blocks edge.block places.between places.behind places.between_there places.behind_there
      (places.same
      ∙ none_fetched (fetches_of (plan x)) _ _ _ (named x).blocks edge.block places.before places.loaded places.here
      places.loaded_there (sym places.source ∙ no_phis))
