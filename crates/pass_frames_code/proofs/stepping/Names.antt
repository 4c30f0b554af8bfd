-- Names of cells are none of temporaries.
use Rattle.std.proofs.Common.{◌≡◌, inl, inr, ℕ, ◌+◌, ◌<◌, ◌≤◌, List, [], ◌∷◌, ◌++◌, length, sym, subst, arith}
use Rattle.std.specs.List.{Contains}
use Rattle.std.specs.Prelude.{codes, ◌≢◌}
use Rattle.pass_proofs.specs.flow_solver.Paths.{IsListed}
use Rattle.pass_proofs.specs.ir_base.declared.name.Name.{Name}
use Rattle.pass_proofs.specs.pass_cells.Cells.{fetched_function}
use Rattle.pass_proofs.specs.pass_fetch.Blocks.{numbered_names}
use Rattle.pass_proofs.specs.pass_copies.Slots.{entry_instrs}
use Rattle.pass_proofs.specs.pass_copies.Uses.{used_before}
use Rattle.pass_proofs.specs.pass_copies.declared.slot.EarlySlot.{EarlySlot}
use Rattle.pass_proofs.specs.frame_classes.declared.class.SlotClass.{SlotClass}
use Rattle.pass_proofs.specs.pass_frames.Tables.{class_flags, sizes_by_name}
use Rattle.pass_frames_code.proofs.code.Left.{longer}
use Rattle.pass_frames_code.proofs.lines.Cells.{contained}
use Rattle.pass_frames_code.specs.Lines.{IsCellOf}
use Rattle.pass_frames_code.specs.Places.{Framing, before_labels, copies, edged, fetched, named, plan, written}
use Rattle.pass_frames_code.specs.Related.{IsCellName}
use Rattle.pass_proofs.proofs.copies.rules.Slots.{AreNumbered, numbered}

module _ (n : ℕ) where
  -- those of temporaries and cells come from a name on
  temporary_high : (k : ℕ) (ss : List EarlySlot) (s : EarlySlot) → n ≤ k → AreNumbered k ss → IsListed s ss
      → (n ≤ s.temporary) × (n ≤ s.cell)
  temporary_high k [] s le h l = absurd l
  temporary_high k (x ∷ ss) s le h (inl e) =
      subst (λ (y : EarlySlot). (n ≤ y.temporary) × (n ≤ y.cell)) (sym e)
      (let a : x.temporary ≡ k = h.0 in let b : x.cell ≡ k + 1 = h.1.0 in (omega (arith, le, a), omega (arith, le, b)))
  temporary_high k (x ∷ ss) s le h (inr l) = temporary_high (k + 2) ss s (omega (arith, le)) h.1.1 l

-- no cell of an address has the name of a temporary
cell_apart : (k : ℕ) (ss : List EarlySlot) (s z : EarlySlot) → AreNumbered k ss → IsListed s ss → IsListed z ss
    → z.temporary ≢ s.cell
cell_apart k [] s z h l m = absurd l
cell_apart k (x ∷ ss) s z h (inl e) (inl d) =
    subst (λ (p : EarlySlot × EarlySlot). p.1.temporary ≢ p.0.cell) (λ i. (sym e i, sym d i))
    (let a : x.temporary ≡ k = h.0 in let b : x.cell ≡ k + 1 = h.1.0 in λ same. omega (arith, a, b, same))
cell_apart k (x ∷ ss) s z h (inl e) (inr m) =
    subst (λ (y : EarlySlot). z.temporary ≢ y.cell) (sym e)
    (let b : x.cell ≡ k + 1 = h.1.0 in
    let high : k + 2 ≤ z.temporary = (temporary_high (k + 2) (k + 2) ss z (omega arith) h.1.1 m).0 in
    λ same. omega (arith, b, high, same))
cell_apart k (x ∷ ss) s z h (inr l) (inl d) =
    subst (λ (y : EarlySlot). y.temporary ≢ s.cell) (sym d)
    (let a : x.temporary ≡ k = h.0 in
    let high : k + 2 ≤ s.cell = (temporary_high (k + 2) (k + 2) ss s (omega arith) h.1.1 l).1 in
    λ same. omega (arith, a, high, same))
cell_apart k (x ∷ ss) s z h (inr l) (inr m) = cell_apart (k + 2) ss s z h.1.1 l m

module _ (x : Framing) where
  rows : AreNumbered (length (written x).names) (copies x).slots
  rows =
      numbered
      (used_before (written x) (class_flags x.function x.contents.classes SlotClass.Frame) (before_labels x))
      (sizes_by_name x.function x.contents.held) (length (written x).names) (entry_instrs (written x).blocks)

  pub slots_new : (s : EarlySlot) → Contains (copies x).slots s
      → (length (written x).names ≤ s.temporary) × (length (written x).names ≤ s.cell)
  slots_new s e =
      temporary_high (length (written x).names) (length (written x).names) (copies x).slots s (omega arith) rows
      (contained (copies x).slots s e)

  fetched_longer : length (named x).names ≤ length (fetched x).names
  unfolding fetched_function
  fetched_longer = longer (named x).names _

  pub named_written : length (named x).names ≤ length (written x).names
  named_written =
      let one = fetched_longer in
      let two : length (fetched x).names ≤ length (written x).names = longer (fetched x).names _ in
      omega (arith, one, two)

  pub edged_named : length (edged x).names ≤ length (named x).names
  edged_named =
      let k : ℕ = length (plan x).kept in
      let one : List Name = (edged x).names ++ numbered_names (codes "$c.cell.") k in
      let two : List Name = one ++ numbered_names (codes "$c.field.") k in
      let three : List Name = two ++ numbered_names (codes "$c.distance.") k in
      let a : length (edged x).names ≤ length one = longer (edged x).names (numbered_names (codes "$c.cell.") k) in
      let b : length one ≤ length two = longer one (numbered_names (codes "$c.field.") k) in
      let c : length two ≤ length three = longer two (numbered_names (codes "$c.distance.") k) in
      let d : length three ≤ length (named x).names = longer three (numbered_names (codes "$c.link.")
      (plan x).links) in
      omega (arith, a, b, c, d)

  pub cell_is_name : (u : ℕ) → IsCellOf x u → IsCellName x u
  cell_is_name u of = record {
    new = of.0;
    no_temporary = λ s e same.
        let lt : u < length (named x).names = of.1 in
        let high : length (written x).names ≤ s.temporary = (slots_new s e).0 in
        let long = named_written in
        omega (arith, lt, high, long, same);
  }

  pub where_is_name : (s : EarlySlot) → Contains (copies x).slots s → IsCellName x s.cell
  where_is_name s e = record {
    new = let high : length (written x).names ≤ s.cell = (slots_new s e).1 in
        let long = named_written in
        let low = edged_named in
        omega (arith, high, long, low);
    no_temporary = λ z d.
        cell_apart (length (written x).names) (copies x).slots s z rows (contained (copies x).slots s e)
        (contained (copies x).slots z d);
  }
