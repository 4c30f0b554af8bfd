-- What phis get where their operands are fetched.
use Rattle.std.proofs.Common.{◌≡◌, ℕ, zero, suc, Bool, true, false, List, [], ◌∷◌, length, refl, sym, ap, ◌∙◌}
use Rattle.std.specs.Prelude.{Option, Some, slice_get, if◌then◌else◌, ◌==◌}
use Rattle.pass_proofs.proofs.ir_laws.facts.Truth.{equal_numbers}
use Rattle.pass_proofs.specs.ir_model.Ty.{Ty}
use Rattle.pass_proofs.specs.ir_model.declared.instr.Incoming.{Incoming}
use Rattle.pass_proofs.specs.ir_model.declared.instr.Instr.{Instr}
use Rattle.pass_proofs.specs.ir_model.declared.instr.Phi.{Phi}
use Rattle.pass_proofs.specs.ir_model.declared.module.Block.{Block}
use Rattle.pass_proofs.specs.ir_model.declared.module.Function.{Function}
use Rattle.pass_proofs.specs.pass_fetch.Blocks.{fetched_blocks, fetched_incoming, fetched_phis, next_after_block, next_after_phi, next_after_phis, next_after_phis_by, with_fetches}
use Rattle.pass_proofs.specs.pass_fetch.Fetching.{fetched_operand, next_after}
use Rattle.pass_proofs.specs.pass_fetch.declared.fetch.Fetch.{Fetch}
use Rattle.pass_frames_code.specs.Fetched.{seen_of}
use Rattle.pass_frames_code.specs.Passes.{phi_ends}
use Rattle.pass_frames_code.specs.Phis.{AreBlocksSeen, AreIncomingSeen, ArePhisSeen, seen_phis}
use Rattle.pass_proofs.specs.run_memory.declared.pointer.Value.{Value}
use Rattle.pass_proofs.specs.run_step.Step.{Context, Work, incoming_from, phi_values, phis_of, value_at}

module _ (t : List (Option Fetch)) (given : ℕ → Value) (c : Context) (w x : Work) (label : ℕ) where
  incoming_value : (is : List Incoming) (n : ℕ) (ty : Ty) → AreIncomingSeen t given c w x label n is
      → value_at c x ty (incoming_from (fetched_incoming t n is) label)
      ≡ seen_of t given c w ty (incoming_from is label)
  incoming_value [] n ty h = refl
  incoming_value (i ∷ is) n ty h =
      on (i.from == label) refl (incoming_value is (next_after t n i.value) ty h.1)
    where
      on : (b : Bool) → (i.from == label) ≡ b
          → value_at c x ty (incoming_from (fetched_incoming t (next_after t n i.value) is) label)
          ≡ seen_of t given c w ty (incoming_from is label)
          → value_at c x ty
          (if b then fetched_operand t n i.value
          else incoming_from (fetched_incoming t (next_after t n i.value) is) label)
          ≡ seen_of t given c w ty (if b then i.value else incoming_from is label)
      on true e later = h.0 (equal_numbers i.from label e) ty
      on false e later = later

  phis_get : (ps : List Phi) (n : ℕ) → ArePhisSeen t given c w x label n ps
      → phi_values c.code x.values label (fetched_phis t n ps) ≡ seen_phis t given c w label ps
  phis_get [] n h = refl
  phis_get (p ∷ ps) n h =
      λ i. (p.result, incoming_value p.incoming n p.ty h.0 i) ∷ phis_get ps (next_after_phi t n p) h.1 i

  -- the phis of a block, among all of them
  blocks_get : (ends : List (List Instr)) (bs : List Block) (m n k : ℕ) (b d : Block)
      → AreBlocksSeen t given c w x label m bs → slice_get bs k ≡ Some b
      → slice_get (fetched_blocks t ends m n bs) k ≡ Some d
      → phi_values c.code x.values label d.phis ≡ seen_phis t given c w label b.phis
  blocks_get ends [] m n k b d h e f = absurd (cc)
  blocks_get ends (y ∷ bs) m n zero b d h e f =
      let one : y.phis ≡ b.phis = ap phis_of e in
      let other : fetched_phis t m y.phis ≡ d.phis = ap phis_of f in
      ap (phi_values c.code x.values label) (sym other) ∙ phis_get y.phis m h.0
      ∙ ap (seen_phis t given c w label) one
  blocks_get ends (y ∷ bs) m n (suc k) b d h e f =
      blocks_get ends bs (next_after_phis t m y.phis) (next_after_block t n y) k b d h.1 e f

pub phis_seen : (t : List (Option Fetch)) (given : ℕ → Value) (c : Context) (f : Function) (word : List ℕ)
    (label k : ℕ) (w x : Work) (b d : Block) → AreBlocksSeen t given c w x label (length f.names) f.blocks
    → slice_get f.blocks k ≡ Some b → slice_get (with_fetches f t word).blocks k ≡ Some d
    → phi_values c.code x.values label d.phis ≡ seen_phis t given c w label b.phis
phis_seen t given c f word label k w x b d h e there =
    blocks_get t given c w x label (phi_ends f t) f.blocks (length f.names)
    (next_after_phis_by t (length f.names) f.blocks) k b d h e there
