-- Rules that look at one part, or at types and allocas: a renumbered part keeps them where the part does (rules L1, Y3, Y4, Y5, F3, K1 and K13).
use Rattle.std.proofs.Common.{◌≡◌, ℕ, ◌+◌, Bool, List, [], ◌∷◌, refl, ap, ◌∙◌, Option, Some, None}
use Rattle.std.proofs.lemmas.List.{length-map}
use Rattle.std.proofs.lemmas.Option.{slice_get-map}
use Rattle.std.specs.List.{list_all}
use Rattle.std.specs.Prelude.{if◌then◌else◌, map, not, option_map, ◌&&◌, ◌==◌, ◌||◌}
use Rattle.ir_laws.specs.ir_base.declared.name.Name.{Name}
use Rattle.ir_laws.specs.ir_base.declared.outcome.Place.{Place}
use Rattle.ir_laws.proofs.facts.Lists.{all_changed}
use Rattle.ir_parts.specs.Contents.{part_operands}
use Rattle.ir_parts.specs.Parts.{Ending, Head, OfInstr, OfPhi, Part, Signature, first_part, parts_of}
use Rattle.ir_laws.specs.ir_model.Layout.{size_of}
use Rattle.ir_laws.specs.ir_model.Ty.{Ty}
use Rattle.ir_laws.specs.ir_model.declared.instr.Instr.{Instr}
use Rattle.ir_laws.specs.ir_model.declared.instr.Terminator.{Terminator}
use Rattle.ir_laws.specs.ir_model.declared.module.Block.{Block}
use Rattle.ir_laws.specs.ir_model.declared.module.Function.{Function}
use Rattle.ir_laws.specs.ir_model.declared.module.Module.{Module}
use Rattle.ir_laws.specs.ir_model.declared.operand.Arg.{Arg}
use Rattle.ir_laws.specs.ir_model.declared.operand.Callee.{Callee}
use Rattle.ir_laws.specs.ir_model.declared.operand.Operand.{Operand}
use Rattle.rule_locals.specs.Calls.{calls_closed, first_closed_call}
use Rattle.rule_locals.specs.Entries.{allocates_late, first_late_alloca}
use Rattle.rule_locals.specs.Extents.{breaks_extents, first_past_extent}
use Rattle.rule_locals.specs.Instrs.{on_instr}
use Rattle.rule_locals.specs.Intrinsics.{first_misplaced, has_coro, is_coro_part, is_no_coro}
use Rattle.rule_locals.specs.Markers.{block_size, first_other_mark, is_marker, is_size_or_all, made_size, marks, marks_otherwise, marks_size, marks_slot, slot_size}
use Rattle.rule_locals.specs.Transfers.{block_at, breaks_transfers, first_wrong_transfer, is_void_of_pointer, is_void_return, may_transfer, returns_behind}
use Rattle.ir_laws.specs.ir_locals.Tables.{first_in, or_first}
use Rattle.rule_names.specs.declared.stage.Stage.{Stage}
use Rattle.rule_laws.proofs.rules.order_rules.Contents.{arg_types_same, operands_over, param_types_same, types_same}
use Rattle.rule_laws.proofs.rules.order_rules.Parts.{first_of_parts, renumbered_part}
use Rattle.ir_laws.proofs.facts.Renumbering.{equal_same}
use Rattle.ir_laws.specs.facts.order_rules.Renumbered.{StaysApart, renumbered_arg, renumbered_block, renumbered_callee, renumbered_function, renumbered_instr, renumbered_operand, renumbered_phi, renumbered_term}
use Rattle.rule_types.specs.Limits.{all_fit, breaks_limits, first_past, is_block_past, is_spot}

-- what is noted first beside a number, where each element is changed and notes the same beside another number
pub noted_over : {A B T : Type 0} (h : A → B) (one : A → ℕ → Option T) (now : B → ℕ → Option T) (n m : ℕ) → ((x : A) → now (h x) m ≡ one x n) → (xs : List A) → first_in now (map h xs) m ≡ first_in one xs n
noted_over h one now n m e [] = refl
noted_over h one now n m e (x ∷ xs) = λ i. or_first (e x i) (noted_over h one now n m e xs i)

module _ (to : ℕ → ℕ) (names : List Name) (m : Module) (k : ℕ) (f : Function) where
  abbrev g : Function
  g = renumbered_function to names f

  -- ---- L1

  limits_over : (p : Place) (x : Part) → breaks_limits Stage.Plain m None p (renumbered_part to names x) ≡ breaks_limits Stage.Plain m None p x
  limits_over p x = λ i. is_spot None p || (is_block_past Stage.Plain p.block || not (all_fit m (types_same to names x i)))

  pub depths_same : first_past Stage.Plain m k g ≡ first_past Stage.Plain m k f
  depths_same = first_of_parts to names k f (breaks_limits Stage.Plain m None) (breaks_limits Stage.Plain m None) limits_over

  -- ---- instructions alone

  on_over : (breaks now : Place → Instr → Bool) → ((p : Place) (x : Instr) → now p (renumbered_instr to x) ≡ breaks p x) → (p : Place) (x : Part) → on_instr now p (renumbered_part to names x) ≡ on_instr breaks p x
  on_over breaks now h p (Signature y) = refl
  on_over breaks now h p (Head b) = refl
  on_over breaks now h p (OfPhi y) = refl
  on_over breaks now h p (OfInstr i) = h p i
  on_over breaks now h p (Ending t) = refl

  first_instr : (breaks now : Place → Instr → Bool) → ((p : Place) (x : Instr) → now p (renumbered_instr to x) ≡ breaks p x) → first_part (on_instr now) (parts_of k g) ≡ first_part (on_instr breaks) (parts_of k f)
  first_instr breaks now h = first_of_parts to names k f (on_instr breaks) (on_instr now) (on_over breaks now h)

  closed_over : (p : Place) (x : Instr) → calls_closed m p (renumbered_instr to x) ≡ calls_closed m p x
  closed_over p (Instr.Call r must_tail ty (Callee.Named n) args) = refl
  closed_over p (Instr.Call r must_tail ty (Callee.Allocator a) args) = refl
  closed_over p (Instr.Call r must_tail ty (Callee.Intrinsic i) args) = refl
  closed_over p (Instr.Call r must_tail ty (Callee.Local n) args) = refl
  closed_over p _ = refl

  pub closed_same : first_closed_call m k g ≡ first_closed_call m k f
  closed_same = first_instr (calls_closed m) (calls_closed m) closed_over

  extents_over : (p : Place) (x : Instr) → breaks_extents Stage.Plain m p (renumbered_instr to x) ≡ breaks_extents Stage.Plain m p x
  extents_over p (Instr.Call r must_tail ty callee args) = refl
  extents_over p _ = refl

  pub extents_same : first_past_extent Stage.Plain m k g ≡ first_past_extent Stage.Plain m k f
  extents_same = first_instr (breaks_extents Stage.Plain m) (breaks_extents Stage.Plain m) extents_over

  late_over : (p : Place) (x : Instr) → allocates_late p (renumbered_instr to x) ≡ allocates_late p x
  late_over p (Instr.Call r must_tail ty callee args) = refl
  late_over p _ = refl

  pub allocas_same : first_late_alloca k g ≡ first_late_alloca k f
  allocas_same = first_instr allocates_late allocates_late late_over

  -- ---- Y5

  void_same : (t : Terminator) → is_void_return (renumbered_term to t) ≡ is_void_return t
  void_same (Terminator.Ret None) = refl
  void_same (Terminator.Ret (Some a)) = refl
  void_same _ = refl

  behind_same : (o : Option Block) (at : Option ℕ) → returns_behind (option_map (renumbered_block to) o) at ≡ returns_behind o at
  behind_same None at = refl
  behind_same (Some b) None = refl
  behind_same (Some b) (Some at) = λ i. (at + 1 == length-map b.phis (renumbered_phi to) i + length-map b.instrs (renumbered_instr to) i) && void_same b.term i

  there_same : (o : Option ℕ) → block_at g o ≡ option_map (renumbered_block to) (block_at f o)
  there_same None = refl
  there_same (Some block) = slice_get-map (renumbered_block to) f.blocks block

  may_same : (p : Place) (ty : Option Ty) (args : List Arg) → may_transfer g p ty (map (λ a. a.ty) (map (renumbered_arg to) args)) ≡ may_transfer f p ty (map (λ a. a.ty) args)
  may_same p ty args =
      ap (λ (o : Option Block). returns_behind o p.instr && (is_void_of_pointer g.result (map (λ q. q.ty) g.params) && is_void_of_pointer ty (map (λ a. a.ty) (map (renumbered_arg to) args)))) (there_same p.block)
      ∙ (λ i. behind_same (block_at f p.block) p.instr i && (is_void_of_pointer f.result (param_types_same to f.params i) && is_void_of_pointer ty (arg_types_same to args i)))

  transfers_over : (p : Place) (x : Instr) → breaks_transfers Stage.Plain g p (renumbered_instr to x) ≡ breaks_transfers Stage.Plain f p x
  transfers_over p (Instr.Call r must_tail ty callee args) = ap (λ (b : Bool). must_tail && not b) (may_same p ty args)
  transfers_over p _ = refl

  pub transfers_same : first_wrong_transfer Stage.Plain k g ≡ first_wrong_transfer Stage.Plain k f
  transfers_same = first_instr (breaks_transfers Stage.Plain f) (breaks_transfers Stage.Plain g) transfers_over

  -- ---- K1

  coro_same : (x : Part) → is_coro_part (renumbered_part to names x) ≡ is_coro_part x
  coro_same (OfInstr (Instr.Call r must_tail ty (Callee.Named n) args)) = refl
  coro_same (OfInstr (Instr.Call r must_tail ty (Callee.Allocator a) args)) = refl
  coro_same (OfInstr (Instr.Call r must_tail ty (Callee.Intrinsic i) args)) = refl
  coro_same (OfInstr (Instr.Call r must_tail ty (Callee.Local n) args)) = refl
  coro_same _ = refl

  no_coro_same : (x : Operand) → is_no_coro (renumbered_operand to x) ≡ is_no_coro x
  no_coro_same (Operand.Local n) = refl
  no_coro_same _ = refl

  coro_over : (p : Place) (x : Part) → has_coro p (renumbered_part to names x) ≡ has_coro p x
  coro_over p x =
      let operands = ap (list_all is_no_coro) (operands_over to names x) ∙ all_changed is_no_coro is_no_coro (renumbered_operand to) no_coro_same (part_operands x) in
      λ i. coro_same x i || not (operands i)

  pub placed_same : first_misplaced Stage.Plain k g ≡ first_misplaced Stage.Plain k f
  placed_same = first_of_parts to names k f has_coro has_coro coro_over

  -- ---- K13

  module _ (apart : StaysApart to) where
    made_over : (n : ℕ) (x : Instr) → made_size m (renumbered_instr to x) (to n) ≡ made_size m x n
    made_over n (Instr.Alloca r ty align) = λ i. if equal_same to apart r n i then Some (size_of m ty) else None
    made_over n _ = refl

    size_over : (n : ℕ) → slot_size m g (to n) ≡ slot_size m f n
    size_over n =
        noted_over (renumbered_block to) (block_size m) (block_size m) n (to n)
        (λ b. noted_over (renumbered_instr to) (made_size m) (made_size m) n (to n) (made_over n) b.instrs) f.blocks

    all_same : (x : Operand) (s : ℕ) → is_size_or_all (renumbered_operand to x) s ≡ is_size_or_all x s
    all_same (Operand.Local n) s = refl
    all_same _ s = refl

    sized_same : (x : Operand) (o : Option ℕ) → marks_size (renumbered_operand to x) o ≡ marks_size x o
    sized_same x None = refl
    sized_same x (Some s) = all_same x s

    slot_same : (x y : Operand) → marks_slot (slot_size m g) (renumbered_operand to x) (renumbered_operand to y) ≡ marks_slot (slot_size m f) x y
    slot_same x (Operand.Local n) = ap (marks_size (renumbered_operand to x)) (size_over n) ∙ sized_same x (slot_size m f n)
    slot_same x _ = refl

    marks_same : (args : List Arg) → marks (slot_size m g) (map (renumbered_arg to) args) ≡ marks (slot_size m f) args
    marks_same [] = refl
    marks_same (a ∷ []) = refl
    marks_same (a ∷ b ∷ []) = slot_same a.value b.value
    marks_same (a ∷ b ∷ c ∷ args) = refl

    marker_same : (c : Callee) → is_marker (renumbered_callee to c) ≡ is_marker c
    marker_same (Callee.Named n) = refl
    marker_same (Callee.Allocator a) = refl
    marker_same (Callee.Intrinsic i) = refl
    marker_same (Callee.Local n) = refl

    mark_over : (p : Place) (x : Instr) → marks_otherwise (slot_size m g) p (renumbered_instr to x) ≡ marks_otherwise (slot_size m f) p x
    mark_over p (Instr.Call r must_tail ty callee args) = λ i. marker_same callee i && not (marks_same args i)
    mark_over p _ = refl

    pub marked_same : first_other_mark m k g ≡ first_other_mark m k f
    marked_same = first_instr (marks_otherwise (slot_size m f)) (marks_otherwise (slot_size m g)) mark_over
