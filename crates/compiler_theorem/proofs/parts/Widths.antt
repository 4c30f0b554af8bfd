-- Framed forms can be written, so their integers have the widths of the grammar.
use Rattle.std.proofs.Common.{◌≡◌, ℕ, ◌+◌, Bool, true, false, List, [], ◌∷◌, ◌++◌, length, refl, sym, ap, ◌∙◌, subst}
use Rattle.std.specs.List.{list_all}
use Rattle.std.specs.Prelude.{None, Some, map, not, option_to_list, slice_get, if◌then◌else◌}
use Rattle.compiler.proofs.whole.lowered_sources.Sources.{comes_from}
use Rattle.compiler.proofs.whole.printed_forms.Lowered.{framed_spelled}
use Rattle.compiler_theorem.proofs.parts.Followable.{comes}
use Rattle.compiler_theorem.specs.theorem.Lowered.{IsLowered, Lowered, early}
use Rattle.compiler.specs.ir_base.declared.outcome.Place.{Place}
use Rattle.compiler.proofs.ir_laws.facts.Members.{each_joined}
use Rattle.compiler.proofs.ir_laws.facts.Truth.{and_both, and_first, and_second}
use Rattle.compiler.specs.ir_laws.facts.counted.Widths.{has_width, is_width}
use Rattle.compiler.specs.ir_model.Ty.{Ty, array, int, named, ptr, structure, token}
use Rattle.compiler.specs.ir_model.TypeView.{bits_of}
use Rattle.compiler.specs.ir_model.declared.instr.Instr.{Instr}
use Rattle.compiler.specs.ir_model.declared.instr.Phi.{Phi}
use Rattle.compiler.specs.ir_model.declared.ir_type.IntWidth.{IntWidth}
use Rattle.compiler.specs.ir_model.declared.ir_type.IntWidth.TheVariants.{I1, I16, I32, I64, I8}
use Rattle.compiler.specs.ir_model.declared.module.Block.{Block}
use Rattle.compiler.specs.ir_model.declared.module.Function.{Function}
use Rattle.compiler.specs.ir_model.declared.module.Param.{Param}
use Rattle.compiler.specs.ir_parts.Contents.{ending_types, instr_types, part_types}
use Rattle.compiler.specs.ir_parts.Parts.{Ending, Part, Signature, block_parts, blocks_parts, instr_parts, instr_place, parts_of, phi_parts}
use Rattle.compiler.specs.pass_exits.ExitBlocks.{with_exit_blocks}
use Rattle.compiler.specs.pass_frames.Framed.{layout_at}
use Rattle.compiler.proofs.pass_proofs.early.spelled.Early.{early_spelled}
use Rattle.compiler.proofs.pass_proofs.exits.spelled.Edges.{exits_spelled}
use Rattle.compiler.proofs.pass_proofs.frames.unnamed.Positions.{Becomes, FramedBy, Unchanged, stands_as}
use Rattle.compiler.specs.pass_proofs.exits.states.Exits.{exits_split}
use Rattle.compiler.proofs.rule_laws.rules.local_rules.Carried.{Passing, none_of}
use Rattle.compiler.proofs.rule_laws.rules.spelled.Text.{source_spelled}
use Rattle.compiler.specs.rule_laws.rules.counted.Widths.{first_other_width, is_of_other_width}
use Rattle.compiler.specs.rule_laws.rules.spelled.Spelled.{IsSpelledBlock, IsSpelledFunction, IsSpelledInstr}
use Rattle.compiler.specs.rule_laws.texts.spelled.Spelled.{IsSpelled}
use Rattle.compiler.specs.run_laws.changed.Changed.{Each}

-- ---- what can be written

width_known : (w : IntWidth) → is_width (bits_of w) ≡ true
width_known I1 = refl
width_known I8 = refl
width_known I16 = refl
width_known I32 = refl
width_known I64 = refl

type_wide : (t : Ty) → IsSpelled t → has_width t ≡ true
type_wide (int w) h = ap is_width h.0.1 ∙ width_known h.0.0
type_wide ptr h = refl
type_wide token h = refl
type_wide (array n t) h = refl
type_wide (structure fs) h = refl
type_wide (named n) h = refl

types_wide : (ts : List Ty) → Each IsSpelled ts → list_all has_width ts ≡ true
types_wide [] h = refl
types_wide (t ∷ ts) h = and_both (has_width t) (list_all has_width ts) (type_wide t h.0) (types_wide ts h.1)

joined_wide : (ts us : List Ty) → list_all has_width ts ≡ true → list_all has_width us ≡ true
    → list_all has_width (ts ++ us) ≡ true
joined_wide [] us h k = k
joined_wide (t ∷ ts) us h k =
    and_both (has_width t) (list_all has_width (ts ++ us)) (and_first (has_width t) (list_all has_width ts) h)
    (joined_wide ts us (and_second (has_width t) (list_all has_width ts) h) k)

params_wide : (ps : List Param) → Each (λ (p : Param). IsSpelled p.ty) ps
    → list_all has_width (map (λ (p : Param). p.ty) ps) ≡ true
params_wide [] h = refl
params_wide (p ∷ ps) h =
    and_both (has_width p.ty) (list_all has_width (map (λ (q : Param). q.ty) ps)) (type_wide p.ty h.0) (params_wide ps h.1)

wide : (ts : List Ty) → list_all has_width ts ≡ true → not (list_all has_width ts) ≡ false
wide ts h = ap not h

phis_pass : (func block at : ℕ) (ps : List Phi) → Each (λ (p : Phi). IsSpelled p.ty) ps
    → Passing is_of_other_width (phi_parts func block at ps)
phis_pass func block at [] h = tt
phis_pass func block at (p ∷ ps) h =
    (wide (p.ty ∷ []) (types_wide (p.ty ∷ []) (h.0, tt)), phis_pass func block (at + 1) ps h.1)

instrs_pass : (func block at : ℕ) (is : List Instr) → Each IsSpelledInstr is
    → Passing is_of_other_width (instr_parts func block at is)
instrs_pass func block at [] h = tt
instrs_pass func block at (i ∷ is) h =
    (wide (instr_types i) (types_wide (instr_types i) h.0.types), instrs_pass func block (at + 1) is h.1)

block_passes : (func block : ℕ) (b : Block) → IsSpelledBlock b → Passing is_of_other_width (block_parts func block b)
unfolding block_parts
block_passes func block b h =
    let P : Place × Part → Type 0 = λ x. is_of_other_width x.0 x.1 ≡ false in
    let last : List (Place × Part) = (instr_place func block (length b.phis + length b.instrs), Ending b.term) ∷ [] in (
      refl,
      each_joined P (phi_parts func block 0 b.phis) (instr_parts func block (length b.phis) b.instrs ++ last)
          (phis_pass func block 0 b.phis h.phis)
          (each_joined P (instr_parts func block (length b.phis) b.instrs) last
          (instrs_pass func block (length b.phis) b.instrs h.instrs)
          (wide (ending_types b.term) (types_wide (ending_types b.term) h.term), tt)),
    )

blocks_pass : (func block : ℕ) (bs : List Block) → Each IsSpelledBlock bs
    → Passing is_of_other_width (blocks_parts func block bs)
blocks_pass func block [] h = tt
blocks_pass func block (b ∷ bs) h =
    each_joined (λ x. is_of_other_width x.0 x.1 ≡ false) (block_parts func block b) (blocks_parts func (block + 1) bs)
    (block_passes func block b h.0) (blocks_pass func (block + 1) bs h.1)

spelled_wide : (k : ℕ) (f : Function) → IsSpelledFunction f → first_other_width k f ≡ None
spelled_wide k f h =
    none_of is_of_other_width (parts_of k f) (
      wide (part_types (Signature f))
          (joined_wide (option_to_list f.result) (map (λ p. p.ty) f.params) (types_wide (option_to_list f.result) h.result)
          (params_wide f.params h.params)),
      blocks_pass k 0 f.blocks h.blocks,
    )

-- ---- framed forms

module _ (l : Lowered) (low : IsLowered l) where
  early_one : (k : ℕ) (f : Function) → slice_get (early l).functions k ≡ Some f → IsSpelledFunction f
  early_one k f there =
      let x = comes_from l.source k f there in
      subst IsSpelledFunction (sym x.is)
      (early_spelled x.source (source_spelled l.text l.source low.source.bytes low.source.stands k x.source x.stands))

  spelled_by : (k : ℕ) (f g : Function) → slice_get (early l).functions k ≡ Some f
      → Becomes (early l) l.layouts.coroutines f g → IsSpelledFunction g
  spelled_by k f _ there (Unchanged plain) = early_one k f there
  spelled_by k f g there (FramedBy taken _ marked framed) =
      framed_spelled (early l) (layout_at l.layouts.coroutines taken) f g framed (early_one k f there)

  framed_one : (k : ℕ) (g : Function) → slice_get l.framed.functions k ≡ Some g → IsSpelledFunction g
  framed_one k g there =
      let x = stands_as (early l) l.layouts.coroutines low.is_framed.functions.count (early l).functions
      l.framed.functions low.is_framed.functions.framed k g there in
      spelled_by k x.source g x.stands x.becomes

  pub own_wide : (k : ℕ) (g : Function) → slice_get l.framed.functions k ≡ Some g → first_other_width k g ≡ None
  own_wide k g there = spelled_wide k g (framed_one k g there)

  exited_one : (f : Function) (b : Bool) → IsSpelledFunction f
      → IsSpelledFunction (if b then with_exit_blocks f else f)
  exited_one f true h = exits_spelled f h
  exited_one f false h = h

  pub framed_wide : (k : ℕ) (h : Function) → slice_get (exits_split l.framed).functions k ≡ Some h
      → first_other_width k h ≡ None
  framed_wide k h there =
      let y = comes l.framed k h there in
      spelled_wide k h
      (subst IsSpelledFunction y.is (exited_one y.source y.source.coroutine (framed_one k y.source y.stands)))
