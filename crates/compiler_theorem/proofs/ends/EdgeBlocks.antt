-- What is asked of blocks on resume and destroy edges holds of an accepted source.
use Rattle.std.proofs.Common.{◌≡◌, inl, inr, ℕ, ◌+◌, ◌<◌, true, false, List, [], ◌∷◌, length, Some, sym, ap, ◌∙◌, arith}
use Rattle.std.specs.Prelude.{slice_get}
use Rattle.compiler_theorem.proofs.ends.Begins.{entry_off}
use Rattle.compiler_theorem.proofs.ends.EdgeLocals.{local_slot}
use Rattle.compiler_theorem.proofs.ends.EdgeNames.{agains_in_order}
use Rattle.compiler_theorem.proofs.ends.EdgeOrders.{behind_suspend}
use Rattle.compiler_theorem.proofs.ends.EdgeRows.{in_row}
use Rattle.compiler.specs.flow_solver.Paths.{IsListed}
use Rattle.compiler.specs.frame_classes.declared.class.SlotClass.{SlotClass}
use Rattle.compiler.specs.ir_laws.paths.woven_rules.Pairs.{AreDifferent}
use Rattle.compiler.specs.pass_copies.Slots.{entry_instrs}
use Rattle.compiler.specs.pass_copies.Uses.{used_before}
use Rattle.compiler.specs.pass_copies.declared.slot.EarlySlot.{EarlySlot}
use Rattle.compiler.specs.pass_frames.Tables.{class_flags, sizes_by_name}
use Rattle.pass_frames_meaning.specs.pass_frames_proof.Entry.{cells_of}
use Rattle.compiler.proofs.pass_proofs.copies.rules.Slots.{AreNumbered, numbered}
use Rattle.pass_frames_meaning.proofs.placed.Placed.{held_once}
use Rattle.pass_frames_meaning.specs.Ends.{AreEdgeSlots, IsEdgeBlock}
use Rattle.pass_frames_meaning.proofs.pass_frames_proof.early.Placed.{all_early}
use Rattle.pass_frames_meaning.specs.pass_frames_proof.Framings.{IsFraming}
use Rattle.pass_frames_meaning.specs.pass_frames_proof.FromEdges.{IsEarlyInFrame}
use Rattle.pass_frames_meaning.specs.pass_frames_proof.Passes.{block_at}
use Rattle.pass_frames_meaning.specs.pass_frames_proof.Places.{Framing, before_labels, copies, edged, is_return, written}
use Rattle.compiler.specs.rule_laws.frames.rows.Returns.{HaveOwnReturns}
use Rattle.compiler.specs.rule_laws.rules.function_rules.Kept.{KeepsFunctionRules}
use Rattle.compiler.specs.run_laws.changed.Changed.{Each}

-- cells of addresses have numbers in order
cells_high : (n : ℕ) (zs : List EarlySlot) → AreNumbered n zs → (v : ℕ) → IsListed v (cells_of zs) → n < v
cells_high n [] h v l = absurd l
cells_high n (s ∷ zs) h v (inl same) =
    let a : s.cell ≡ n + 1 = h.1.0 in let c : v ≡ s.cell = same in omega (arith, a, c)
cells_high n (s ∷ zs) h v (inr l) = let more = cells_high (n + 2) zs h.1.1 v l in omega (arith, more)

cells_once : (n : ℕ) (zs : List EarlySlot) → AreNumbered n zs → AreDifferent (cells_of zs)
cells_once n [] h = tt
cells_once n (s ∷ zs) h = (
  λ l. let a : s.cell ≡ n + 1 = h.1.0 in
      let high : n + 2 < s.cell = cells_high (n + 2) zs h.1.1 s.cell l in
      omega (arith, a, high),
  cells_once (n + 2) zs h.1.1,
)

module _ (x : Framing) (is : IsFraming x) where
  module _ (position : ℕ) (rules : KeepsFunctionRules x.code position x.function) where
    pub edge_slots : AreEdgeSlots x
    edge_slots = record {
      early = all_early x is (held_once x is position rules) 0
          (λ n. let low = is.frameable.near n in omega (arith, low));
      once = cells_once (length (written x).names) (copies x).slots
          (numbered (used_before (written x) (class_flags x.function x.contents.classes SlotClass.Frame)
          (before_labels x)) (sizes_by_name x.function x.contents.held) (length (written x).names)
          (entry_instrs (written x).blocks));
      local = local_slot x is;
    }

  pub edge_block : Each (IsEarlyInFrame x 0) (copies x).slots → HaveOwnReturns (edged x) → (k : ℕ)
      → slice_get (edged x).blocks k ≡ Some (block_at (edged x) k)
      → is_return x k ≡ true → IsEdgeBlock x k
  edge_block early own k there returned =
      let b = behind_suspend x is k there returned in
      record {
        order = b.order;
        later = λ e.
            let no : false ≡ true = sym (entry_off x is) ∙ ap (is_return x) (sym e) ∙ returned in
            absurd (cc);
        behind = b.behind;
        again = b.again;
        resumed = b.resumed;
        low = b.low;
        names = agains_in_order x is own k there returned b early;
        row = λ v z kept l. in_row x is b.order v z kept l;
      }
