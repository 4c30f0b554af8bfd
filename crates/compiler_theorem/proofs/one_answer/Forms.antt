-- A module has one framed form by its layouts.
use Rattle.std.proofs.Common.{◌≡◌, ℕ, ◌+◌, List, [], ◌∷◌, ◌++◌, Option, None, get_or, length, replicate, refl, sym, ap, ◌∙◌, subst}
use Rattle.std.proofs.lemmas.Bool.{false≢true}
use Rattle.std.proofs.lemmas.List.{same_from_push}
use Rattle.compiler_theorem.proofs.one_answer.Ordered.{numbers_one}
use Rattle.compiler_theorem.proofs.theorem.shown.Contents.{same_classes, same_crossing, same_held}
use Rattle.compiler.specs.frame_classes.declared.class.SlotClass.{SlotClass}
use Rattle.compiler.specs.frame_contents.Frames.{AreContents}
use Rattle.compiler.specs.frame_contents.Held.{position_of}
use Rattle.compiler.specs.frame_contents.declared.contents.Contents.{Contents}
use Rattle.compiler.specs.frame_layout.declared.layout.Layout.{Layout}
use Rattle.compiler.specs.frame_layout.declared.layout.Layouts.{Layouts}
use Rattle.compiler.specs.ir_model.declared.module.Function.{Function}
use Rattle.compiler.specs.ir_model.declared.module.Module.{Module}
use Rattle.compiler.specs.pass_addresses.Placing.{with_frame_addresses}
use Rattle.compiler.specs.pass_cells.Cells.{with_cells}
use Rattle.compiler.specs.pass_cells.Kept.{keeping_of}
use Rattle.compiler.specs.pass_cells.Links.{field_name}
use Rattle.compiler.specs.pass_copies.BeginCopies.{with_begin_copies}
use Rattle.compiler.specs.pass_edges.EdgeBlocks.{with_edge_blocks}
use Rattle.compiler.specs.pass_frames.Framed.{AreBefore, AreFramed, IsFramedCoroutine, IsFramedForm, begin_block, begin_of, celled, copied, kept_of, layout_at, offsets_of, offsets_with, placed, starts_before}
use Rattle.compiler.specs.pass_frames.Tables.{class_flags, label_flags, sizes_by_name, with_field_offset, with_field_offsets, with_slot_offsets}
use Rattle.compiler.specs.pass_front.Front.{with_front_allocas}
use Rattle.compiler.specs.pass_proofs.flow_blocks.Reach.{AreReached}

reached_one : (f : Function) (starts avoided a b : List ℕ) → AreReached f starts avoided a
    → AreReached f starts avoided b → a ≡ b
reached_one f starts avoided a b p q =
    numbers_one a b p.in_order q.in_order
    (λ n h. q.is_told n (p.is_block n h) (p.is_reached n h))
    (λ n h. p.is_told n (q.is_block n h) (q.is_reached n h))

-- tables that tell the same of each value give the same offsets
fields_one : (l : Layout) (positions others : List (Option ℕ))
    → ((v : ℕ) → get_or positions v None ≡ get_or others v None) → (first count k : ℕ) (vs : List ℕ)
    (table : List (Option ℕ))
    → with_field_offsets l positions first count k vs table ≡ with_field_offsets l others first count k vs table
fields_one l positions others same first count k [] table = refl
fields_one l positions others same first count k (v ∷ vs) table =
    ap (λ (o : Option ℕ). with_field_offsets l positions first count (k + 1) vs
    (with_field_offset l (field_name first count k) o table)) (same v)
    ∙ fields_one l positions others same first count (k + 1) vs
    (with_field_offset l (field_name first count k) (get_or others v None) table)

-- ---- one coroutine

module _ (m : Module) (f : Function) (c d : Contents) (these : AreContents m f c) (those : AreContents m f d) where
  crossing : c.crossing ≡ d.crossing
  crossing = same_crossing m f c d these those

  classes : c.classes ≡ d.classes
  classes = same_classes m f c d these those

  held : c.held ≡ d.held
  held = same_held m f c d these those

  positions : (v : ℕ) → get_or c.positions v None ≡ get_or d.positions v None
  positions v =
      let same : position_of c.held v ≡ position_of d.held v = ap (λ h. position_of h v) held in
      these.positions_are v ∙ same ∙ sym (those.positions_are v)

  celled_one : celled m f c ≡ celled m f d
  unfolding celled
  celled_one =
      λ i. with_cells m (with_edge_blocks f) (crossing i) (class_flags f (classes i) SlotClass.Local)

  copied_one : (g h : Function) (before other : List ℕ) → g ≡ h → before ≡ other
      → copied f c g before ≡ copied f d h other
  unfolding copied
  copied_one g h before other same paths =
      λ i. with_begin_copies (same i) (class_flags f (classes i) SlotClass.Frame)
      (label_flags (same i) (begin_block (same i) ∷ paths i)) (sizes_by_name f (held i))

  offsets_one : (l : Layout) (first names : ℕ)
      → offsets_with l c first (kept_of first c) names ≡ offsets_with l d first (kept_of first d) names
  offsets_one l first names =
      let rest : with_field_offsets l d.positions first (length (kept_of first c)) 0 (kept_of first c)
      (with_slot_offsets l 0 c.held (replicate names None))
      ≡ with_field_offsets l d.positions first (length (kept_of first d)) 0 (kept_of first d)
      (with_slot_offsets l 0 d.held (replicate names None)) =
      λ i. with_field_offsets l d.positions first (length (keeping_of first (crossing i)).values) 0
      (keeping_of first (crossing i)).values (with_slot_offsets l 0 (held i) (replicate names None)) in
      fields_one l c.positions d.positions positions first (length (kept_of first c)) 0 (kept_of first c)
      (with_slot_offsets l 0 c.held (replicate names None))
      ∙ rest

  placed_here : (l : Layout) (g : Function) → placed l f c g ≡ placed l f d g
  unfolding placed
  placed_here l g =
      let offsets : offsets_of l f c (length g.names) ≡ offsets_of l f d (length g.names) =
      offsets_one l (length (with_edge_blocks f).names) (length g.names) in
      λ i. with_frame_addresses g (begin_of f) (offsets i) (class_flags f (classes i) SlotClass.Ramp)

  framed_by_one : (l : Layout) (before other : List ℕ) → AreBefore (celled m f c) before
      → AreBefore (celled m f d) other
      → placed l f c (copied f c (celled m f c) before) ≡ placed l f d (copied f d (celled m f d) other)
  framed_by_one l before other p q =
      let paths : before ≡ other = reached_one (celled m f c) (starts_before (begin_block (celled m f c)))
      (begin_block (celled m f c) ∷ []) before other p
      (subst (λ (g : Function). AreBefore g other) (sym celled_one) q) in
      ap (placed l f c) (copied_one (celled m f c) (celled m f d) before other celled_one paths)
      ∙ placed_here l (copied f d (celled m f d) other)

framed_one : (m : Module) (l : Layout) (f g h : Function) → IsFramedCoroutine m l f g → IsFramedCoroutine m l f h
    → g ≡ h
framed_one m l f g h p q =
    p.is
    ∙ ap with_front_allocas (framed_by_one m f p.contents q.contents p.contents_are q.contents_are l p.before q.before
    p.before_are q.before_are)
    ∙ sym q.is

-- ---- all functions

never_empty : (fs : List Function) (f : Function) → [] ≡ fs ++ f ∷ [] → ⊥
never_empty [] f e = cc
never_empty (g ∷ fs) f e = cc

module _ (m : Module) (layouts : List Layout) where
  all_one : (k j : ℕ) (fs hs gs xs : List Function) → AreFramed m layouts k fs gs → AreFramed m layouts j hs xs
      → fs ≡ hs → (k ≡ j) × (gs ≡ xs)
  all_one _ _ _ _ _ _ AreFramed.NoneYet AreFramed.NoneYet e = (refl, refl)
  all_one _ _ _ _ _ _ AreFramed.NoneYet (AreFramed.Other j h hs xs rest plain) e = absurd (never_empty hs h e)
  all_one _ _ _ _ _ _ AreFramed.NoneYet (AreFramed.Coroutine j h x hs xs rest is form) e =
      absurd (never_empty hs h e)
  all_one _ _ _ _ _ _ (AreFramed.Other k f fs gs rest plain) AreFramed.NoneYet e = absurd (never_empty fs f (sym e))
  all_one _ _ _ _ _ _ (AreFramed.Other k f fs gs rest plain) (AreFramed.Other j h hs xs rest2 plain2) e =
      let ends : (fs ≡ hs) × (f ≡ h) = same_from_push fs hs f h e in
      let again : (k ≡ j) × (gs ≡ xs) = all_one k j fs hs gs xs rest rest2 ends.0 in
      (again.0, λ i. again.1 i ++ ends.1 i ∷ [])
  all_one _ _ _ _ _ _ (AreFramed.Other k f fs gs rest plain) (AreFramed.Coroutine j h x hs xs rest2 is form) e =
      let ends : (fs ≡ hs) × (f ≡ h) = same_from_push fs hs f h e in
      absurd (false≢true (sym plain ∙ ap (λ (z : Function). z.coroutine) ends.1 ∙ is))
  all_one _ _ _ _ _ _ (AreFramed.Coroutine k f g fs gs rest is form) AreFramed.NoneYet e =
      absurd (never_empty fs f (sym e))
  all_one _ _ _ _ _ _ (AreFramed.Coroutine k f g fs gs rest is form) (AreFramed.Other j h hs xs rest2 plain) e =
      let ends : (fs ≡ hs) × (f ≡ h) = same_from_push fs hs f h e in
      absurd (false≢true (sym plain ∙ ap (λ (z : Function). z.coroutine) (sym ends.1) ∙ is))
  all_one _ _ _ _ _ _ (AreFramed.Coroutine k f g fs gs rest is form)
      (AreFramed.Coroutine j h x hs xs rest2 is2 form2) e =
      let ends : (fs ≡ hs) × (f ≡ h) = same_from_push fs hs f h e in
      let again : (k ≡ j) × (gs ≡ xs) = all_one k j fs hs gs xs rest rest2 ends.0 in
      let same : g ≡ x = framed_one m (layout_at layouts k) f g x form
      (subst (λ (z : Function). IsFramedCoroutine m (layout_at layouts k) z x) (sym ends.1)
      (subst (λ (n : ℕ). IsFramedCoroutine m (layout_at layouts n) h x) (sym again.0) form2)) in
      (ap (λ (n : ℕ). n + 1) again.0, λ i. again.1 i ++ same i ∷ [])

pub forms_one : (layouts : Layouts) (m n o : Module) → IsFramedForm layouts m n → IsFramedForm layouts m o → n ≡ o
forms_one layouts m n o p q =
    let one = p.functions in
    let two = q.functions in
    let types_are : n.types ≡ o.types = p.types ∙ sym q.types in
    let globals_are : n.globals ≡ o.globals = p.globals ∙ sym q.globals in
    let declarations_are : n.declarations ≡ o.declarations = p.declarations ∙ sym q.declarations in
    let functions_are : n.functions ≡ o.functions =
    (all_one m layouts.coroutines one.count two.count m.functions m.functions n.functions o.functions one.framed
    two.framed refl).1 in
    λ i. record {
      types = types_are i;
      globals = globals_are i;
      declarations = declarations_are i;
      functions = functions_are i;
    }
