-- Tokens are kept in no cell, and lie in no frame.
use Rattle.std.proofs.Common.{◌≡◌, ⊎_elim, ℕ, ◌+◌, ◌<◌, ◌≤◌, Bool, true, false, List, [], ◌∷◌, length, Option, Some, None, refl, sym, ap, ◌∙◌, arith}
use Rattle.std.specs.Prelude.{is_some, slice_get}
use Rattle.pass_frames_proof.specs.flow_solver.Paths.{IsListed}
use Rattle.pass_frames_proof.specs.frame_classes.declared.class.SlotClass.{SlotClass}
use Rattle.pass_frames_proof.specs.ir_model.Ty.{Ty, int, ptr, token}
use Rattle.pass_frames_proof.specs.ir_model.declared.module.Block.{Block}
use Rattle.pass_frames_proof.specs.ir_model.declared.module.Function.{Function}
use Rattle.pass_frames_proof.specs.ir_paths.Slots.{allocas_of}
use Rattle.pass_frames_proof.specs.pass_cells.Cells.{with_cells}
use Rattle.pass_frames_proof.specs.pass_cells.Kept.{entry}
use Rattle.pass_frames_proof.specs.pass_frames.Framed.{begin_of}
use Rattle.pass_frames_proof.specs.pass_frames.Tables.{class_flags}
use Rattle.pass_frames_meaning.proofs.begun.Begun.{first}
use Rattle.pass_frames_meaning.specs.Coroutines.{IsNowhere}
use Rattle.pass_frames_proof.specs.Framings.{IsFraming}
use Rattle.pass_frames_proof.specs.Places.{Framing, edged, offsets, plan, with_copies}
use Rattle.pass_frames_proof.proofs.pass_proofs.addresses.rules.Placed.{outside_unfetched}
use Rattle.pass_frames_proof.proofs.pass_proofs.cells.rules.Planned.{unplaced_fetch}
use Rattle.pass_frames_proof.proofs.pass_proofs.cells.rules.Whole.{planned}
use Rattle.pass_frames_proof.proofs.pass_proofs.frames.begin_order.Framed.{alloca_pointer, in_either, old_slot, slot_alloca, woven}
use Rattle.pass_frames_proof.specs.pass_proofs.cells.rules.Weaving.{cells_weaving}
use Rattle.pass_frames_proof.specs.pass_proofs.addresses.rules.Addresses.{lies_in_frame}
use Rattle.pass_frames_proof.specs.pass_proofs.frames.begin_order.Fields.{IsField, values_kept}
use Rattle.pass_frames_proof.proofs.rule_laws.rules.counted.Types.{is_cell_type}
use Rattle.pass_frames_proof.proofs.rule_laws.rules.shape.Stands.{begin_stands}
use Rattle.pass_frames_proof.proofs.rule_laws.rules.woven_rules.Laid.{valued_old}
use Rattle.pass_frames_proof.proofs.rule_laws.rules.woven_rules.Once.{names_below}
use Rattle.pass_frames_proof.specs.rule_values.Fits.{fits_kind}
use Rattle.pass_frames_proof.specs.rule_values.Kinds.{kind_of, value_kind}
use Rattle.pass_frames_proof.specs.rule_values.declared.kinds.Kind.{Kind}

cell_no_token : (ty : Ty) → is_cell_type ty ≡ true → fits_kind (Some (kind_of ty)) token ≡ true → ⊥
cell_no_token (int n) e h = absurd (cc)
cell_no_token ptr e h = absurd (cc)
cell_no_token _ e h = absurd (cc)

has_kind : (o : Option Kind) → fits_kind o token ≡ true → is_some o ≡ true
has_kind None h = absurd (cc)
has_kind (Some kind) h = refl

module _ (x : Framing) (is : IsFraming x) (v : ℕ) (h : fits_kind (value_kind (edged x) v) token ≡ true) where
  abbrev names : ℕ
  names = length (with_copies x).names

  abbrev F : Function
  F = edged x

  abbrev local : List Bool
  local = class_flags x.function x.contents.classes SlotClass.Local

  abbrev First : ℕ
  First = length (edged x).names

  abbrev Count : ℕ
  Count = length (values_kept (edged x) x.contents.crossing).values

  no_pointer : value_kind F v ≡ Some Kind.Ptr → ⊥
  no_pointer e = let t : false ≡ true = sym (ap (λ (o : Option Kind). fits_kind o token) e) ∙ h in absurd (cc)

  low : v < First
  low =
      valued_old (cells_weaving x.code F x.contents.crossing local) x.code F
      (with_cells x.code F x.contents.crossing local)
      (woven x.code is.position x.layout x.function x.contents is.begin names is.frameable)
      (names_below is.position F is.frameable.rules.tabled) v (has_kind (value_kind F v) h)

  no_alloca : IsListed v (allocas_of F) → ⊥
  no_alloca l = no_pointer
      (alloca_pointer x.code is.position x.layout x.function x.contents is.begin names is.frameable v l)

  no_field : IsField First Count v → ⊥
  no_field y =
      let up : First + Count ≤ v = y.low in
      let lt : v < First = low in
      omega (arith, up, lt)

  outside : lies_in_frame (offsets x) v ≡ false
  outside = on (lies_in_frame (offsets x) v) refl
    where
      on : (b : Bool) → lies_in_frame (offsets x) v ≡ b → b ≡ false
      on false e = refl
      on true e = absurd (⊎_elim
          (λ o. no_alloca (slot_alloca x.code is.position x.layout x.function x.contents is.begin names is.frameable v
          SlotClass.Frame
          (old_slot x.code is.position x.layout x.function x.contents is.begin names is.frameable v o)))
          (λ y. no_field y)
          (in_either x.code is.position x.layout x.function x.contents is.begin names is.frameable v e))

  unkept : entry (plan x).places v ≡ None
  unkept = by F.blocks refl
    where
      by : (bs : List Block) → F.blocks ≡ bs → entry (plan x).places v ≡ None
      by [] e =
          let s = begin_stands F is.begin (first x is) in
          absurd (none s.block s.position (ap (λ (bs : List Block). slice_get bs s.position) (sym e) ∙ s.got))
        where
          none : (b : Block) (n : ℕ) → slice_get {X = Block} [] n ≡ Some b → ⊥
          none b n e = cc
      by (b ∷ bs) e = on (entry (plan x).places v) refl
        where
          on : (o : Option ℕ) → entry (plan x).places v ≡ o → o ≡ None
          on None d = refl
          on (Some at) d =
              let plans = planned x.code is.position F is.frameable.rules x.contents.crossing
              local is.frameable.cells b bs e in
              let z = plans.places v at d in
              absurd (cell_no_token z.value.ty (plans.kept at z.value z.there).ty
              (ap (λ (kind : Option Kind). fits_kind kind token) (sym z.kind) ∙ h))

  pub token_nowhere : IsNowhere x v
  token_nowhere = record {
    unkept = unkept;
    outside = outside;
    loaded = unplaced_fetch (plan x) v unkept;
    placed = outside_unfetched (begin_of x.function) (offsets x) v outside;
  }
