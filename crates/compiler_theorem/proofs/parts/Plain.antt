-- Functions of framed forms that are no coroutines are those of the source.
use Rattle.std.proofs.Common.{◌≡◌, ℕ, Bool, true, false, List, [], ◌∷◌, refl, sym, ap, ◌∙◌, subst}
use Rattle.std.proofs.lemmas.Bool.{false≢true}
use Rattle.std.specs.Prelude.{None, Some, slice_get, if◌then◌else◌}
use Rattle.compiler_theorem.proofs.parts.Followable.{comes, same_kind}
use Rattle.compiler_theorem.specs.theorem.Lowered.{IsLowered, Lowered, early}
use Rattle.compiler.specs.ir_base.declared.name.Name.{Name}
use Rattle.compiler.specs.ir_model.declared.module.Block.{Block}
use Rattle.compiler.specs.ir_model.declared.module.Function.{Function}
use Rattle.compiler.specs.pass_early.Early.{early_function, early_named}
use Rattle.compiler.specs.pass_early.BeginName.{with_begin_name}
use Rattle.compiler.specs.pass_exits.ExitBlocks.{with_exit_blocks}
use Rattle.compiler.specs.pass_frames.Framed.{layout_at}
use Rattle.compiler.proofs.pass_proofs.early.local_rules.Turned.{turned_function}
use Rattle.compiler.proofs.pass_proofs.early.path_rules.RenamedOperands.{map_was}
use Rattle.compiler.proofs.pass_proofs.frames.headings.Headings.{framed_headed}
use Rattle.compiler.proofs.pass_proofs.frames.unnamed.Positions.{Becomes, FramedBy, Unchanged, stands_as}
use Rattle.compiler.specs.pass_proofs.exits.states.Exits.{exit_function, exits_split}
use Rattle.compiler.proofs.rule_laws.texts.named_texts.Placed.{part_at}
use Rattle.compiler.proofs.rule_laws.rules.widths.Written.{text_wide}
use Rattle.compiler.specs.rule_laws.rules.counted.Widths.{first_other_width}
use Rattle.compiler.proofs.text_canonical.order.Shaped.{text_is_shaped}
use Rattle.compiler.specs.text_canonical.order.Shape.{IsBlock, IsFunction, Some_of}

-- ---- passes leave them as they are

exits_same : (f : Function) → f.coroutine ≡ false → exit_function f ≡ f
exits_same f e = ap (λ (b : Bool). if b then with_exit_blocks f else f) e

early_same : (f : Function) → f.coroutine ≡ false → early_function f ≡ f
early_same f e = ap (λ (b : Bool). if b then early_named (with_begin_name f) else f) e

pub early_kind : (f : Function) → (early_function f).coroutine ≡ f.coroutine
early_kind f = (turned_function f).coroutine

-- a plain function that the first pass made is one of the source
source_plain : (f : Function) (b : Bool) → f.coroutine ≡ b → (early_function f).coroutine ≡ false → early_function f ≡ f
source_plain f false e plain = early_same f e
source_plain f true e plain = absurd (false≢true (sym plain ∙ early_kind f ∙ e))

module _ (l : Lowered) (low : IsLowered l) where
  in_source : (k : ℕ) (f : Function) → slice_get (early l).functions k ≡ Some f → f.coroutine ≡ false
      → slice_get l.source.functions k ≡ Some f
  in_source k f there plain =
      let x = map_was early_function l.source.functions k f there in
      let same : f ≡ x.0 = x.1.1 ∙ source_plain x.0 x.0.coroutine refl (ap (λ (g : Function). g.coroutine) (sym x.1.1)
      ∙ plain) in
      x.1.0 ∙ ap Some (sym same)

  in_early : (k : ℕ) (f g : Function) → slice_get (early l).functions k ≡ Some f
      → Becomes (early l) l.layouts.coroutines f g → g.coroutine ≡ false → slice_get l.source.functions k ≡ Some g
  in_early k f _ there (Unchanged is) plain = in_source k f there plain
  in_early k f g there (FramedBy taken _ marked framed) plain =
      absurd (false≢true (sym plain ∙ (framed_headed (early l) (layout_at l.layouts.coroutines taken) f g framed).coroutine
      ∙ marked))

  pub plain_source : (k : ℕ) (h : Function) → slice_get (exits_split l.framed).functions k ≡ Some h
      → h.coroutine ≡ false → slice_get l.source.functions k ≡ Some h
  plain_source k h there plain =
      let y = comes l.framed k h there in
      let own : y.source.coroutine ≡ false = sym (same_kind y.source) ∙ ap (λ (g : Function). g.coroutine) y.is ∙ plain in
      let same : y.source ≡ h = sym (exits_same y.source own) ∙ y.is in
      let x = stands_as (early l) l.layouts.coroutines low.is_framed.functions.count (early l).functions
      l.framed.functions low.is_framed.functions.framed k y.source y.stands in
      subst (λ (g : Function). slice_get l.source.functions k ≡ Some g) same
      (in_early k x.source y.source x.stands x.becomes own)

  -- ---- a function of a text has a block, and integers of known widths

  first_of : (names : List Name) (bs : List Block) → Some_of (IsBlock names) bs
      → (b : Block) × (slice_get bs 0 ≡ Some b)
  first_of names [] h = absurd h
  first_of names (b ∷ bs) h = (b, refl)

  pub plain_blocks : (k : ℕ) (h : Function) → slice_get (exits_split l.framed).functions k ≡ Some h
      → h.coroutine ≡ false → (b : Block) × (slice_get h.blocks 0 ≡ Some b)
  plain_blocks k h there plain =
      first_of h.names h.blocks (part_at IsFunction l.source.functions k h
      (text_is_shaped l.text l.source low.source.stands).functions (plain_source k h there plain)).2

  pub plain_wide : (k : ℕ) (h : Function) → slice_get (exits_split l.framed).functions k ≡ Some h
      → h.coroutine ≡ false → first_other_width k h ≡ None
  plain_wide k h there plain = text_wide l.text l.source low.source.stands k h (plain_source k h there plain)
