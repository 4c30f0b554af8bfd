-- What a resume leaves for the jump behind it, and that a jump from a block on a resume or destroy edge leads to none.
use Rattle.std.proofs.Common.{◌≡◌, ⊎_elim, ℕ, ◌+◌, ◌-◌, ◌*◌, ◌≤◌, Bool, true, false, List, [], Option, Some, None}
use Rattle.std.proofs.Common.{refl}
use Rattle.std.proofs.Common.{sym, ap, ◌∙◌, subst, arith}
use Rattle.std.specs.Prelude.{option_map, slice_get, ◌∷◌}
use Rattle.pass_frames_proof.specs.flow_solver.Paths.{IsListed}
use Rattle.pass_frames_proof.proofs.ir_laws.paths.edges.Lists.{listed_at}
use Rattle.pass_frames_proof.proofs.ir_laws.paths.woven_rules.Unbroken.{of_listed}
use Rattle.pass_frames_proof.specs.ir_model.Names.{function_at, position_of}
use Rattle.pass_frames_proof.specs.ir_model.declared.instr.Instr.{Instr}
use Rattle.pass_frames_proof.specs.ir_model.declared.module.Block.{Block}
use Rattle.pass_frames_proof.specs.ir_model.declared.module.Function.{Function}
use Rattle.pass_frames_proof.specs.ir_model.declared.module.Module.{Module}
use Rattle.pass_frames_proof.specs.ir_paths.Paths.{targets}
use Rattle.pass_frames_proof.specs.ir_paths.declared.point.Point.{Point}
use Rattle.pass_frames_prices.proofs.bounds.Slots.{slots_paid}
use Rattle.pass_frames_prices.proofs.bounds.Totals.{allocas_total}
use Rattle.pass_frames_proof.proofs.code.Passes.{block_is}
use Rattle.pass_frames_prices.proofs.priced.Jumps.{IsBare, bare}
use Rattle.pass_frames_proof.proofs.ramps.Plain.{entry_there}
use Rattle.pass_frames_proof.specs.Costs.{allocas_before, slot_cost}
use Rattle.pass_frames_prices.specs.FramePrices.{IsWithin, credit, first_flagged, full_price}
use Rattle.pass_frames_proof.specs.Framings.{IsFraming}
use Rattle.pass_frames_proof.specs.Passes.{block_at}
use Rattle.pass_frames_proof.specs.Places.{Framing, edged, instrs_at, is_return}
use Rattle.pass_frames_proof.specs.pass_intrinsics.Shapes.{suspends_of}
use Rattle.pass_frames_proof.proofs.pass_proofs.copies.begin_order.Early.{leads_again}
use Rattle.pass_frames_proof.proofs.pass_proofs.split.edges.Entered.{to_predecessors}
use Rattle.pass_frames_proof.specs.pass_renewed_proof.Prices.{slots_in}
use Rattle.pass_frames_proof.specs.pass_renewed_proof.Renewed.{Flags, renewed_in}
use Rattle.pass_frames_proof.proofs.rule_laws.frames.shape.Points.{point_from}
use Rattle.pass_frames_proof.proofs.rule_laws.rules.source_rules.Locals.{own_label}
use Rattle.pass_frames_proof.proofs.rule_laws.rules.threaded.Labels.{HasBlock, target_there}
use Rattle.pass_frames_proof.specs.rule_laws.frames.replaced.Splittable.{HasOwnEdges, IsLedToBy}
use Rattle.pass_frames_proof.specs.rule_laws.frames.rows.Returns.{HaveOwnReturns}

-- ---- jumps

same_block : (a b : Block) → Some a ≡ Some b → a ≡ b
same_block a b e = cc

none_there : (at : ℕ) (is : List Instr) (i : Instr) → is ≡ [] → slice_get is at ≡ Some i → ⊥
none_there at is i e d = let no : None ≡ Some i = sym (ap (λ (js : List Instr). slice_get js at) e) ∙ d in absurd (cc)

module _ (x : Framing) (is : IsFraming x) (own : HaveOwnReturns (edged x)) (k label : ℕ)
    (there : slice_get (edged x).blocks k ≡ Some (block_at (edged x) k))
    (leads : IsListed label (targets (block_at (edged x) k).term)) (returned : is_return x k ≡ true) where
  abbrev f : Function
  f = edged x

  abbrev b : Block
  b = block_at f k

  abbrev target : ℕ
  target = position_of f label

  block : HasBlock f label
  block =
      target_there x.code is.position f is.frameable.rules.definitions is.frameable.rules.known k b label there leads

  label_is : (block_at f target).label ≡ label
  label_is = ap (λ (c : Block). c.label) (block_is f target block.block block.there) ∙ block.is_label

  -- a block of a suspend alone leads to a block on a resume or destroy edge, and has an instruction
  none_by : (t : Bool) → is_return x target ≡ t → t ≡ false
  none_by false d = refl
  none_by true d =
      let q = leads_again f (block_at f target).label d in
      let edges : HasOwnEdges f q.suspend =
      of_listed (HasOwnEdges f) (suspends_of f) is.frameable.edges q.suspend q.listed in
      let led : IsLedToBy f (block_at f target).label q.suspend.block =
      ⊎_elim (λ e. subst (λ (n : ℕ). IsLedToBy f n q.suspend.block) e edges.resume)
      (λ e. subst (λ (n : ℕ). IsLedToBy f n q.suspend.block) e edges.destroy) q.leads in
      let from : IsListed b.label (q.suspend.block ∷ []) =
      subst (IsListed b.label) (led.sources)
      (to_predecessors f (block_at f target).label b (listed_at f.blocks k b there)
      (subst (λ (n : ℕ). IsListed n (targets b.term)) (sym label_is) leads)) in
      let same : b.label ≡ q.suspend.block = ⊎_elim (λ e. e) (λ n. absurd n) from in
      let p = point_from f q.suspend q.listed in
      let one : position_of f b.label ≡ k = own_label is.position f is.frameable.rules.definitions k b there in
      let two : position_of f p.block.label ≡ p.position =
      own_label is.position f is.frameable.rules.definitions p.position p.block p.got in
      let at : p.position ≡ k = sym two ∙ ap (position_of f) (sym p.is_of.block ∙ sym same) ∙ one in
      let both : p.block ≡ b =
      same_block p.block b (sym p.got ∙ ap (slice_get f.blocks) at ∙ there) in
      let z : IsBare x k = bare x is own k there returned in
      absurd (none_there p.at p.block.instrs p.instr (ap (λ (c : Block). c.instrs) both ∙ z.no_instrs) p.there)

  pub leads_away : is_return x target ≡ false
  leads_away = none_by (is_return x target) refl

-- ---- resumes

first_is : (o : Option ℕ)
    → option_map (λ (p : Point). p.at) (option_map (λ (k : ℕ). record { block = 0; at = k }) o) ≡ o
first_is None = refl
first_is (Some k) = refl

sums : (operands names first slots all : ℕ) → first + slots ≤ all → all ≤ 3 * names
    → 3 + operands + first + slots ≤ full_price names operands - credit names
sums operands names first slots all a c = omega (arith, a, c)

module _ (x : Framing) (is : IsFraming x) (names operands : ℕ) (within : IsWithin names operands x) (code : Module)
    (func : ℕ) (same : function_at code func ≡ edged x) (flags : Flags) where
  abbrev entry : Block
  entry = block_at (edged x) 0

  entry_is : slice_get (function_at code func).blocks 0 ≡ Some entry
  entry_is = ap (λ (f : Function). slice_get f.blocks 0) same ∙ entry_there x is

  first_at : (k : ℕ) → first_flagged flags code func k ≡ renewed_in (flags func) (Some entry) k
  first_at k =
      first_is (renewed_in (flags func) (slice_get (function_at code func).blocks 0) k)
      ∙ ap (λ (o : Option Block). renewed_in (flags func) o k) entry_is

  abbrev slot : ℕ → ℕ
  slot k = slot_cost x k (first_flagged flags code func (k + 1))

  abbrev slot_by : ℕ → ℕ
  slot_by k = slot_cost x k (renewed_in (flags func) (Some entry) (k + 1))

  slot_is : slot ≡ slot_by
  slot_is = λ j k. slot_cost x k (first_at (k + 1) j)

  slots_are : slots_in slot (flags func) (slice_get (function_at code func).blocks 0)
      ≡ slots_in slot_by (flags func) (Some entry)
  slots_are =
      ap (λ (o : Option Block). slots_in slot (flags func) o) entry_is
      ∙ ap (λ (p : ℕ → ℕ). slots_in p (flags func) (Some entry)) slot_is

  all_few : allocas_before x None ≤ 3 * names
  all_few =
      let a = allocas_total x is (entry_there x is) in
      let c = within.few in
      omega (arith, a, c)

  both_few : allocas_before x (first_flagged flags code func 0)
      + slots_in slot (flags func) (slice_get (function_at code func).blocks 0) ≤ allocas_before x None
  both_few =
      subst (λ (n : ℕ). allocas_before x (first_flagged flags code func 0) + n ≤ allocas_before x None) (sym slots_are)
      (subst (λ (o : Option ℕ). allocas_before x o + slots_in slot_by (flags func) (Some entry)
      ≤ allocas_before x None) (sym (first_at 0)) (slots_paid x (entry_there x is) (flags func) entry))

  pub resume_leaves : 3 + operands + allocas_before x (first_flagged flags code func 0)
      + slots_in slot (flags func) (slice_get (function_at code func).blocks 0)
      ≤ full_price names operands - credit names
  resume_leaves =
      sums operands names (allocas_before x (first_flagged flags code func 0))
      (slots_in slot (flags func) (slice_get (function_at code func).blocks 0)) (allocas_before x None)
      both_few all_few
