-- A name that no marker takes has no markers at any point.
use Rattle.std.proofs.Common.{◌≡◌, ℕ, zero, suc, Bool, true, false, List, [], ◌∷◌, ◌++◌, refl, sym, ap, ◌∙◌}
use Rattle.std.proofs.Common.{if◌then◌else◌, ◌&&◌}
use Rattle.std.proofs.lemmas.Bool.{false≢true}
use Rattle.std.specs.List.{list_any}
use Rattle.pass_kept_proof.specs.ir_model.Names.{is_local, same_intrinsic}
use Rattle.pass_kept_proof.specs.ir_model.declared.instr.Instr.{Instr}
use Rattle.pass_kept_proof.specs.ir_model.declared.module.Block.{Block}
use Rattle.pass_kept_proof.specs.ir_model.declared.module.Function.{Function}
use Rattle.pass_kept_proof.specs.ir_model.declared.operand.Arg.{Arg}
use Rattle.pass_kept_proof.specs.ir_model.declared.operand.Callee.{Callee}
use Rattle.pass_kept_proof.specs.ir_model.declared.operand.Intrinsic.{Intrinsic}
use Rattle.pass_kept_proof.specs.ir_paths.Windows.{operand_at, points_from, points_in}
use Rattle.frame_classes.specs.Alive.{markers_of}
use Rattle.frame_classes.specs.frame_slots.Uses as uses
use Rattle.pass_kept_proof.proofs.Same.{neither, or_left, or_right}
use Rattle.pass_kept_proof.specs.run_step.Step.{has_markers, is_lifetime, is_marker_of}

-- ---- no instruction passes a test

module _ (test other : Instr → Bool) (implies : (i : Instr) → test i ≡ true → other i ≡ true) where
  fails : (i : Instr) → other i ≡ false → test i ≡ false
  fails i e = on (test i) refl
    where
      on : (t : Bool) → test i ≡ t → test i ≡ false
      on true h = absurd (false≢true (sym e ∙ implies i h))
      on false h = h

  none_from : (block at : ℕ) (is : List Instr) → list_any other is ≡ false → points_from test block at is ≡ []
  none_from block at [] e = refl
  none_from block at (i ∷ is) e =
      let n = neither (other i) (list_any other is) e in
      ap (λ t. if t then record { block = block; at = at } ∷ points_from test block (suc at) is else points_from test
      block (suc at) is) (fails i n.0) ∙ none_from block (suc at) is n.1

  none_in : (block : ℕ) (bs : List Block) → list_any (λ (b : Block). list_any other b.instrs) bs ≡ false
      → points_in test block bs ≡ []
  none_in block [] e = refl
  none_in block (b ∷ bs) e =
      let n = neither (list_any other b.instrs) (list_any (λ (b : Block). list_any other b.instrs) bs) e in
      ap (λ ps. ps ++ points_in test (suc block) bs) (none_from block 0 b.instrs n.0) ∙ none_in (suc block) bs n.1

-- ---- markers

started_lifetime : (j : Intrinsic) → same_intrinsic Intrinsic.LifetimeStart j ≡ true
    → is_lifetime (Callee.Intrinsic j) ≡ true
started_lifetime Intrinsic.LifetimeStart e = refl
started_lifetime _ e = absurd (cc)

ended_lifetime : (j : Intrinsic) → same_intrinsic Intrinsic.LifetimeEnd j ≡ true
    → is_lifetime (Callee.Intrinsic j) ≡ true
ended_lifetime Intrinsic.LifetimeEnd e = refl
ended_lifetime _ e = absurd (cc)

among : (slot k : ℕ) (args : List Arg) → is_local slot (operand_at args k) ≡ true
    → list_any (λ (a : Arg). is_local slot a.value) args ≡ true
among slot k [] e = absurd (false≢true e)
among slot zero (a ∷ args) e = or_left (is_local slot a.value) _ e
among slot (suc k) (a ∷ args) e = or_right (is_local slot a.value) _ (among slot k args e)

both_true : (a b : Bool) → (a && b) ≡ true → (a ≡ true) × (b ≡ true)
both_true true true e = (refl, refl)
both_true true false e = absurd (false≢true e)
both_true false b e = absurd (false≢true e)

both_hold : (a b : Bool) → a ≡ true → b ≡ true → (a && b) ≡ true
both_hold true b e h = h
both_hold false b e h = absurd (false≢true e)

module _ (slot : ℕ) where
  start_marks : (i : Instr) → uses.is_marker_of Intrinsic.LifetimeStart slot i ≡ true → is_marker_of slot i ≡ true
  start_marks (Instr.Call result must_tail ty (Callee.Intrinsic j) args) e =
      let h = both_true (same_intrinsic Intrinsic.LifetimeStart j) (is_local slot (operand_at args 1)) e in
      both_hold (is_lifetime (Callee.Intrinsic j)) _ (started_lifetime j h.0) (among slot 1 args h.1)
  start_marks _ e = absurd (cc)

  end_marks : (i : Instr) → uses.is_marker_of Intrinsic.LifetimeEnd slot i ≡ true → is_marker_of slot i ≡ true
  end_marks (Instr.Call result must_tail ty (Callee.Intrinsic j) args) e =
      let h = both_true (same_intrinsic Intrinsic.LifetimeEnd j) (is_local slot (operand_at args 1)) e in
      both_hold (is_lifetime (Callee.Intrinsic j)) _ (ended_lifetime j h.0) (among slot 1 args h.1)
  end_marks _ e = absurd (cc)

pub unmarked : (f : Function) (slot : ℕ) → has_markers f slot ≡ false → markers_of f slot ≡ []
unmarked f slot e =
    ap (λ ps. ps ++ uses.ends_of f slot) (none_in (uses.is_marker_of Intrinsic.LifetimeStart slot) (is_marker_of slot)
    (start_marks slot) 0 f.blocks e)
    ∙ none_in (uses.is_marker_of Intrinsic.LifetimeEnd slot) (is_marker_of slot) (end_marks slot) 0 f.blocks e
