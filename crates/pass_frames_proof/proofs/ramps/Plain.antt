-- There is an entry, since there is a begin, and it has no phis, as it had none before blocks were put on edges.
use Rattle.std.proofs.Common.{◌≡◌, ◌∙◌, ◌∷◌, [], Bool, List, Option, Some, ap, length, refl, subst, sym, ℕ}
use Rattle.std.specs.Prelude.{slice_get, unwrap_or}
use Rattle.pass_frames_steps.specs.ir_laws.facts.spelled.Filled.{HasNoEntryPhis}
use Rattle.pass_frames_steps.specs.ir_model.Calls.{first_result_by}
use Rattle.pass_frames_steps.specs.ir_model.declared.module.Block.{Block}
use Rattle.pass_frames_steps.specs.ir_model.declared.operand.Intrinsic.{Intrinsic}
use Rattle.pass_frames_steps.specs.pass_edges.EdgeBlocks.{split_block, split_blocks}
use Rattle.pass_frames_steps.specs.pass_edges.Edges.{edge_table, edges_of, phi_flags}
use Rattle.pass_frames_steps.specs.pass_edges.declared.edge.Edge.{Edge}
use Rattle.pass_frames_steps.specs.Framings.{IsFraming}
use Rattle.pass_frames_steps.specs.Passes.{block_at, no_block}
use Rattle.pass_frames_steps.specs.Places.{Framing, edged}
use Rattle.pass_frames_steps.specs.Ramps.{IsPlainEntry}
use Rattle.pass_frames_steps.proofs.pass_proofs.edges.spelled.Entry.{edges_entry}

abbrev IsFirst : List Block → Type 0
IsFirst bs = (c : Block) × (slice_get bs 0 ≡ Some c)

first_there : (flags : List Bool) (table : List (List Edge)) (n begin : ℕ) (bs : List Block)
    → first_result_by Intrinsic.CoroBegin bs ≡ Some begin → IsFirst (split_blocks flags table n bs)
first_there flags table n begin [] e = absurd (cc)
first_there flags table n begin (b ∷ bs) e = (split_block flags table n b, refl)

first_bare : (bs : List Block) → HasNoEntryPhis bs → (c : Block) → slice_get bs 0 ≡ Some c → c.phis ≡ []
first_bare [] h c e = absurd (cc)
first_bare (b ∷ bs) h c e =
    let same : b ≡ c = cc in
    subst (λ (z : Block). z.phis ≡ []) same h

module _ (x : Framing) (is : IsFraming x) where
  pub entry_there : slice_get (edged x).blocks 0 ≡ Some (block_at (edged x) 0)
  entry_there =
      let q = first_there (phi_flags x.function)
      (edge_table x.function (edges_of (phi_flags x.function) x.function)) (length x.function.names) is.begin
      x.function.blocks is.frameable.begins in
      q.1 ∙ ap Some (sym (ap (λ (o : Option Block). unwrap_or o no_block) q.1))

  pub entry_phis : IsPlainEntry x → (block_at (edged x) 0).phis ≡ []
  entry_phis plain = first_bare (edged x).blocks (edges_entry x.function plain) (block_at (edged x) 0) entry_there
