-- The parts that go on behind a suspend make what they use.
use Rattle.std.proofs.Common.{◌≡◌, inl, inr, ⊎_elim, ℕ, zero, suc, ◌+◌, Bool, true, false, List, [], ◌∷◌, ◌++◌, refl, sym, ap, ◌∙◌, subst, arith}
use Rattle.std.specs.Prelude.{Some, filter, if◌then◌else◌, map, pos, slice_get}
use Rattle.pass_fetch_proof.specs.ir_base.declared.name.Name.{Name}
use Rattle.pass_split.specs.Parts.{back_block, back_blocks, case_of, cases_from, done_block, entry_block, entry_instrs, is_entered, later_head, later_part, none_block, or_zero, origins_for}
use Rattle.pass_fetch_proof.specs.pass_front.Front.{allocas_of, is_alloca}
use Rattle.pass_split.specs.Pieces.{going_on}
use Rattle.pass_split.specs.Reached.{is_flagged, kept_block, kept_blocks, pruned, reached}
use Rattle.pass_split.specs.declared.origin.Origin.{Origin}
use Rattle.pass_fetch_proof.specs.rule_uses.Undefined.{params_of}
use Rattle.pass_fetch_proof.specs.rule_uses.Uses.{locals_in, made_by_instrs}
use Rattle.pass_fetch_proof.proofs.rule_laws.rules.source_rules.Locals.{made_by}
use Rattle.pass_fetch_proof.proofs.ir_laws.facts.Lists.{row_of, label_found}
use Rattle.pass_fetch_proof.specs.flow_solver.Paths.{IsListed}
use Rattle.pass_fetch_proof.specs.frame_layout.declared.layout.Layout.{Layout}
use Rattle.pass_fetch_proof.specs.pass_intrinsics.Cuts.{goes_on}
use Rattle.pass_fetch_proof.specs.pass_intrinsics.Lowered.{address}
use Rattle.pass_fetch_proof.specs.pass_intrinsics.Shapes.{back_label, first_name, index_bytes, index_name, none_label, shape_of, slot_name}
use Rattle.pass_fetch_proof.specs.pass_intrinsics.declared.shape.Part.{Part}
use Rattle.pass_fetch_proof.specs.pass_intrinsics.declared.shape.Shape.{Shape}
use Rattle.pass_fetch_proof.specs.pass_intrinsics.declared.shape.SuspendPoint.{SuspendPoint}
use Rattle.ir_model.specs.Names.{position_of}
use Rattle.ir_model.specs.Ty.{int}
use Rattle.ir_model.specs.TypeView.{bits_of}
use Rattle.ir_model.specs.declared.instr.Case.{Case}
use Rattle.ir_model.specs.declared.instr.Instr.{Instr}
use Rattle.ir_model.specs.declared.module.Block.{Block}
use Rattle.ir_model.specs.declared.module.Function.{Function}
use Rattle.ir_model.specs.declared.module.Module.{Module}
use Rattle.ir_model.specs.declared.operand.Operand.{Operand}
use Rattle.pass_exits_proof.proofs.split.edges.Cuttable.{HasBlock, IsCuttable}
use Rattle.pass_exits_proof.proofs.split.edges.Targets.{goes_on_label, index_target}
use Rattle.pass_exits_proof.proofs.split.uses.Assembled.{first_kept}
use Rattle.pass_fetch_proof.proofs.rule_laws.rules.uses.Fine.{IsUnusedIn}
use Rattle.pass_exits_proof.proofs.split.uses.Groups.{groups}
use Rattle.pass_fetch_proof.proofs.rule_laws.frames.uses.LaterQuiet.{IsQuietAt, IsQuietFrom, later_quiet}
use Rattle.pass_fetch_proof.proofs.rule_laws.rules.uses.RampMade.{no_operands}
use Rattle.pass_exits_proof.proofs.split.uses.Paths.{Comes, IsPieced, end_unused, listed_found, phi_unused, unused}
use Rattle.pass_fetch_proof.proofs.ir_laws.paths.uses.Paths.{there_listed}
use Rattle.pass_fetch_proof.proofs.rule_laws.rules.uses.Plain.{IsPlain}
use Rattle.pass_fetch_proof.proofs.rule_laws.frames.uses.Lowering.{ComesBy, OfBegin, OfGiven, OfOperand}
use Rattle.pass_fetch_proof.proofs.rule_laws.frames.uses.Quiet.{IsQuiet}
use Rattle.pass_exits_proof.proofs.split.uses.Rules.{begin_named}
use Rattle.pass_fetch_proof.proofs.ir_laws.paths.uses.Sources.{IsIn}
use Rattle.pass_fetch_proof.proofs.ir_laws.facts.Numbers.{Source}
use Rattle.pass_exits_proof.proofs.split.uses.Started.{none_needed}
use Rattle.pass_fetch_proof.proofs.rule_laws.rules.uses.Unused.{IsUnused}
use Rattle.pass_fetch_proof.proofs.rule_laws.frames.uses.Unused.{joined_made, row_made, still_made, unused_joined}
use Rattle.pass_exits_proof.proofs.split.uses.Walk.{Arrives, AtBack, AtStop, IsLeft, IsWalked, no_piece}
use Rattle.pass_exits_proof.proofs.split.rules.Reached.{flagged_is_led}
use Rattle.pass_exits_proof.specs.split.rules.Reached.{IsLedTo}
use Rattle.pass_exits_proof.specs.split.rules.Splittable.{IsSplittable}
use Rattle.pass_exits_proof.proofs.split.edges.Returns.{is_reached as entered_flag}

-- ---- what the entry block has

allocas_unused : (v : ℕ) (before : List ℕ) (is : List Instr) → IsUnused v before (filter is_alloca is)
allocas_unused v before [] = tt
allocas_unused v before (i ∷ is) = on (is_alloca i) refl (λ next. allocas_unused v next is)
  where
    on : (b : Bool) → is_alloca i ≡ b → ((next : List ℕ) → IsUnused v next (filter is_alloca is)) → IsUnused v before (if b then i ∷ filter is_alloca is else filter is_alloca is)
    on true e more = ((λ none l. subst (IsListed v) (no_operands i e) l), more (made_by i ++ before))
    on false e more = more before

entry_unused : (v : ℕ) (before : List ℕ) (bs : List Block) → IsUnused v before (allocas_of bs)
entry_unused v before [] = tt
entry_unused v before (b ∷ bs) = allocas_unused v before b.instrs

no_case_value : (s : Shape) (flags : List Bool) (part : Part) (v j : ℕ) (ps : List SuspendPoint) → IsListed v (locals_in (map (λ (k : Case). k.arg.value) (cases_from s flags part j ps))) → ⊥
no_case_value s flags part v j [] l = l
no_case_value s flags part v j (p ∷ ps) l = on (is_entered flags part p) l (no_case_value s flags part v (j + 1) ps)
  where
    on : (b : Bool) → IsListed v (locals_in (map (λ (k : Case). k.arg.value) ((if b then case_of s j ∷ [] else []) ++ cases_from s flags part (j + 1) ps))) → (IsListed v (locals_in (map (λ (k : Case). k.arg.value) (cases_from s flags part (j + 1) ps))) → ⊥) → ⊥
    on true l more = more l
    on false l more = more l

back_there : (s : Shape) (part : Part) (j : ℕ) (ps : List SuspendPoint) (at : ℕ) (p : SuspendPoint) → slice_get ps at ≡ Some p → IsListed (back_block s part (j + at) p) (back_blocks s part j ps)
back_there s part j [] at p e = absurd (cc)
back_there s part j (q ∷ ps) zero p e =
    let one : p ≡ q = cc in
    let same : j + 0 ≡ j = omega arith in
    inl (λ i. back_block s part (same i) (one i))
back_there s part j (q ∷ ps) (suc at) p e =
    let same : j + 1 + at ≡ j + suc at = omega arith in
    inr (subst (λ (n : ℕ). IsListed (back_block s part n p) (back_blocks s part (j + 1) ps)) same (back_there s part (j + 1) ps at p e))

module _ (m : Module) (k : ℕ) (f : Function) (begin : ℕ) (split : IsSplittable m k f begin) (layout : Layout) (part : Part) (later : goes_on part ≡ true) (name : Name) where
  abbrev s : Shape
  s = shape_of f layout

  abbrev origins : List Origin
  origins = origins_for (shape_of f layout) part f

  abbrev head : List Block
  head = later_head (shape_of f layout) (reached f) part f.blocks

  abbrev css : List (List Block)
  css = groups (shape_of f layout) part (origins_for (shape_of f layout) part f) (first_name (shape_of f layout)) f.blocks

  abbrev whole : Function
  whole = later_part (shape_of f layout) part name f

  abbrev first : Block
  first = entry_block (shape_of f layout) (reached f) part f.blocks

  module _ (cuts : IsCuttable (shape_of f layout) part f) (all : IsPieced f f (shape_of f layout) part (origins_for (shape_of f layout) part f) (later_head (shape_of f layout) (reached f) part f.blocks) (groups (shape_of f layout) part (origins_for (shape_of f layout) part f) (first_name (shape_of f layout)) f.blocks) (later_part (shape_of f layout) part name f)) (flagged : is_flagged (reached (later_part (shape_of f layout) part name f)) (entry_block (shape_of f layout) (reached f) part f.blocks).label ≡ true) (starts : (rest : List Block) × ((later_part (shape_of f layout) part name f).blocks ≡ entry_block (shape_of f layout) (reached f) part f.blocks ∷ rest)) where
    module _ (v : ℕ) (no_param : IsListed v (params_of (pruned (later_part (shape_of f layout) part name f))) → ⊥) where
      not_begin : v ≡ s.begin → ⊥
      not_begin e = no_param (inl e)

      comes : (i : Instr) → ComesBy f s part i v → IsPlain f v
      comes i (OfOperand p l) = p
      comes i (OfBegin e a) = absurd (not_begin e)
      comes i (OfGiven d e) = let t : true ≡ false = sym later ∙ ap goes_on d in absurd (cc)

      abbrev A : ℕ → Type 0
      A = IsQuietAt k f split.coroutine split.calls split.rules.edges split.rules.definitions s part later v not_begin

      abbrev N : ℕ → ℕ → Block → List Instr → Type 0
      N = IsQuietFrom k f split.coroutine split.calls split.rules.edges split.rules.definitions s part later v not_begin

      quiet : IsQuiet f f (shape_of f layout) part v A N
      quiet = later_quiet k f split.coroutine split.calls split.rules.edges split.rules.definitions s part later v not_begin

      -- ---- from the entry block to where the part goes on

      label_there : (p : SuspendPoint) → IsListed p s.suspends → (c : Block) × ((slice_get f.blocks (position_of f (or_zero (going_on part (Some p)))) ≡ Some c) × (c.label ≡ or_zero (going_on part (Some p))))
      label_there p l = ⊎_elim (λ e. at p.resume e (cuts.resumes p l)) (λ e. at p.destroy e (cuts.destroys p l)) (goes_on_label part p later)
        where
          at : (label : ℕ) → or_zero (going_on part (Some p)) ≡ label → HasBlock f label → (c : Block) × ((slice_get f.blocks (position_of f (or_zero (going_on part (Some p)))) ≡ Some c) × (c.label ≡ or_zero (going_on part (Some p))))
          at label e x =
              let y = listed_found f x.block x.listed in
              let same : x.block.label ≡ or_zero (going_on part (Some p)) = x.has_label ∙ sym e in
              let got : slice_get f.blocks (position_of f (or_zero (going_on part (Some p)))) ≡ Some y.0 = ap (λ (n : ℕ). slice_get f.blocks (position_of f n)) (sym same) ∙ y.1 in
              (y.0, (got, label_found f (or_zero (going_on part (Some p))) y.0 got))

      back_arrives : (IsListed v (row_of made_by (allocas_of f.blocks)) → ⊥) → (j : ℕ) (p : SuspendPoint) → slice_get s.suspends j ≡ Some p → is_entered (reached f) part p ≡ true → Arrives f f s part origins head css all.cut v comes A N quiet Source.Head (back_block s part j p)
      back_arrives not_slot j p stands entered =
          let listed = there_listed s.suspends j p stands in
          let there = label_there p listed in
          let led : IsLedTo f p.block = flagged_is_led f p.block (entered_flag (reached f) part p entered) in
          let same : 0 + j ≡ j = omega arith in
          AtBack j p there.0 there.1.0 there.1.1 (inr (inr (subst (λ (n : ℕ). IsListed (back_block s part n p) (back_blocks s part 0 s.suspends)) same (back_there s part 0 s.suspends j p stands))))
          (λ plain. none_needed m k f begin split v plain (λ e. not_begin (e ∙ sym (begin_named m k f begin split layout))) not_slot p listed led (or_zero (going_on part (Some p))) (goes_on_label part p later))

      abbrev tail : List Instr
      tail = address (slot_name s) (Operand.Local s.begin) (pos s.index) ∷ Instr.Load (index_name s) (int (bits_of s.width)) (Operand.Local (slot_name s)) (index_bytes s.width) ∷ []

      entry_left : (IsListed v (made_by_instrs [] (entry_instrs s f.blocks)) → ⊥) → IsLeft f f s part origins head css all.cut v comes A N quiet Source.Head first.label first.term
      entry_left none =
          record {
            operands = operands;
            next = λ l t y d in_part e. ⊎_elim (to_none y d in_part e) (to_back l y d in_part e) (index_target s (reached f) part l t);
            ends = no_piece f f s part origins head css all.cut v comes A N quiet Source.Head first (inl refl) (λ q e. absurd (cc));
          }
        where
          not_slot : IsListed v (row_of made_by (allocas_of f.blocks)) → ⊥
          not_slot l = none (joined_made v [] (allocas_of f.blocks) tail (still_made v (made_by_instrs [] (allocas_of f.blocks)) tail (row_made v [] (allocas_of f.blocks) l)))

          operands : IsListed v (index_name s ∷ locals_in (map (λ (c : Case). c.arg.value) (cases_from s (reached f) part 0 s.suspends))) → ⊥
          operands (inl e) = none (joined_made v [] (allocas_of f.blocks) tail (inl e))
          operands (inr l) = no_case_value s (reached f) part v 0 s.suspends l

          to_none : {l : ℕ} (y : Source) (d : Block) → IsIn head css (done_block s) y d → d.label ≡ l → l ≡ none_label s → Arrives f f s part origins head css all.cut v comes A N quiet y d
          to_none y d in_part e is =
              let same = all.cut.one Source.Head y (none_block s) d (inr (inl refl)) in_part (sym (e ∙ is)) in
              subst (λ (z : Source). Arrives f f s part origins head css all.cut v comes A N quiet z d) same.0
              (subst (λ (z : Block). Arrives f f s part origins head css all.cut v comes A N quiet Source.Head z) same.1 (AtStop (none_block s) (inr (inl refl)) refl refl))

          to_back : (l : ℕ) (y : Source) (d : Block) → IsIn head css (done_block s) y d → d.label ≡ l → ((j : ℕ) × ((p : SuspendPoint) × ((slice_get s.suspends j ≡ Some p) × ((is_entered (reached f) part p ≡ true) × (l ≡ back_label s j))))) → Arrives f f s part origins head css all.cut v comes A N quiet y d
          to_back l y d in_part e x =
              let j : ℕ = x.0 in
              let p : SuspendPoint = x.1.0 in
              let zero_more : 0 + j ≡ j = omega arith in
              let listed : IsListed (back_block s part j p) head = inr (inr (subst (λ (n : ℕ). IsListed (back_block s part n p) (back_blocks s part 0 s.suspends)) zero_more (back_there s part 0 s.suspends j p x.1.1.0))) in
              let same = all.cut.one Source.Head y (back_block s part j p) d listed in_part (sym (e ∙ x.1.1.1.1)) in
              subst (λ (z : Source). Arrives f f s part origins head css all.cut v comes A N quiet z d) same.0
              (subst (λ (z : Block). Arrives f f s part origins head css all.cut v comes A N quiet Source.Head z) same.1 (back_arrives not_slot j p x.1.1.0 x.1.1.1.0))

      entry_walked : IsWalked f f s part origins head css all.cut v comes A N quiet Source.Head [] first
      entry_walked =
          record {
            uses = unused_joined v [] (allocas_of f.blocks) tail (entry_unused v [] f.blocks) (of_begin, (of_slot, tt));
            last = entry_left;
          }
        where
          of_begin : (IsListed v (made_by_instrs [] (allocas_of f.blocks)) → ⊥) → IsListed v (s.begin ∷ []) → ⊥
          of_begin none (inl e) = not_begin e
          of_begin none (inr l) = l

          of_slot : (IsListed v (slot_name s ∷ made_by_instrs [] (allocas_of f.blocks)) → ⊥) → IsListed v (slot_name s ∷ []) → ⊥
          of_slot none (inl e) = none (inl e)
          of_slot none (inr l) = l

      entry : (d : Block) → slice_get (pruned (later_part (shape_of f layout) part name f)).blocks 0 ≡ Some d → Comes f f s part origins head css whole all v comes A N quiet d
      entry d there =
          let kept : Some (kept_block (reached whole) first) ≡ Some d =
          sym (ap (λ (bs : List Block). slice_get (kept_blocks (reached whole) bs) 0) starts.1 ∙ first_kept (reached whole) first starts.0 flagged) ∙ there in
          let same : kept_block (reached whole) first ≡ d = cc in
          record { source = Source.Head; block = first; in_part = inl refl; is = sym same; walked = entry_walked }

    pub later_unused : IsUnusedIn (pruned (later_part (shape_of f layout) part name f))
    later_unused =
        record {
          instrs = λ v no_param. unused f f s part origins head css whole all v (comes v no_param) (A v no_param) (N v no_param) (quiet v no_param) (entry v no_param);
          term = λ v no_param. end_unused f f s part origins head css whole all v (comes v no_param) (A v no_param) (N v no_param) (quiet v no_param) (entry v no_param);
          phis = λ v no_param. phi_unused f f s part origins head css whole all v (comes v no_param) (A v no_param) (N v no_param) (quiet v no_param) (entry v no_param);
        }
