-- Rules of instructions alone, of names and types, and of calls.
use Rattle.std.proofs.Common.{◌≡◌, ℕ, Bool, true, false, List, [], ◌∷◌, refl, sym, ap, ◌∙◌, Option, None}
use Rattle.std.proofs.lemmas.Bool.{and_parts, or_parts}
use Rattle.std.specs.List.{list_all, list_any}
use Rattle.std.specs.Prelude.{filter, map, not, cond, ◌&&◌}
use Rattle.ir_base.specs.declared.outcome.Place.{Place}
use Rattle.pass_cleanup.specs.Cleanup.{clean_block, clean_function, clean_module, is_kept_callee, is_kept_instr}
use Rattle.compiler.proofs.cleanup.rules.Carried.{AreLeft, Carries, carried}
use Rattle.compiler.proofs.cleanup.rules.Definitions.{label_same, value_same}
use Rattle.compiler.proofs.cleanup.rules.Names.{address_same, closed_same, fits_named_same, name_same}
use Rattle.compiler.specs.cleanup.rules.Clean.{NamesNothingGone, calls_left, goes, is_left, is_left_callee}
use Rattle.pass_proofs.specs.ir_parts.Contents.{part_labels, part_operands, part_types}
use Rattle.pass_proofs.specs.ir_parts.Parts.{Ending, OfInstr, OfPhi, Part, Signature, function_place, instr_place}
use Rattle.ir_model.specs.Table.{callee_named}
use Rattle.ir_model.specs.Ty.{Ty}
use Rattle.ir_model.specs.declared.instr.Instr.{Instr}
use Rattle.ir_model.specs.declared.module.Block.{Block}
use Rattle.ir_model.specs.declared.module.Function.{Function}
use Rattle.ir_model.specs.declared.module.Module.{Module}
use Rattle.ir_model.specs.declared.operand.Allocator.{Allocator}
use Rattle.ir_model.specs.declared.operand.Arg.{Arg}
use Rattle.ir_model.specs.declared.operand.Callee.{Callee}
use Rattle.ir_model.specs.declared.operand.Operand.{Operand}
use Rattle.pass_proofs.specs.rule_locals.Calls.{calls_closed, first_closed_call}
use Rattle.pass_proofs.specs.rule_locals.Entries.{allocates_late, first_late_alloca}
use Rattle.pass_proofs.specs.rule_locals.Extents.{breaks_extents, first_past_extent}
use Rattle.pass_proofs.specs.rule_locals.Instrs.{on_instr}
use Rattle.pass_proofs.specs.rule_locals.Markers.{block_size, first_other_mark, made_size, marks_otherwise, slot_size}
use Rattle.pass_proofs.specs.ir_locals.Tables.{first_in, or_first}
use Rattle.pass_proofs.specs.rule_names.Known.{allocator_name, first_unknown, is_label, is_value, knows_called, knows_operand, names_unknown}
use Rattle.pass_proofs.specs.rule_names.declared.stage.Stage.{Stage}
use Rattle.pass_proofs.proofs.rule_laws.rules.same_names.Kept.{all_types_same}
use Rattle.pass_proofs.specs.rule_types.Limits.{breaks_limits, first_past}
use Rattle.pass_proofs.specs.rule_types.Signatures.{are_wanted, calls_otherwise, first_otherwise, fits_callee, is_result}
use Rattle.pass_proofs.specs.rule_types.Wants.{allocator_params, allocator_result}

-- the allocators stay
allocator_left : (a : Allocator) → is_kept_callee (callee_named (allocator_name a)) ≡ true
allocator_left Allocator.Malloc = refl
allocator_left Allocator.Znwm = refl
allocator_left Allocator.Free = refl
allocator_left Allocator.ZdlPv = refl
allocator_left Allocator.ZdlPvm = refl

-- ---- what instructions note beside a local

none_any : {A : Type 0} (xs : List A) → list_any (λ x. false) xs ≡ false
none_any [] = refl
none_any (x ∷ xs) = none_any xs

module _ {T : Type 0} (one now : Instr → ℕ → Option T) (gone : Instr → Bool) (v : ℕ) (same : (i : Instr) → now i v ≡ one i v) (none : (i : Instr) → is_kept_instr i ≡ false → gone i ≡ false → one i v ≡ None) where
  pub first_left : (is : List Instr) → list_any gone is ≡ false → first_in now (filter is_kept_instr is) v ≡ first_in one is v
  first_left [] e = refl
  first_left (i ∷ is) e = on (is_kept_instr i) refl (first_left is (or_parts (gone i) (list_any gone is) e).1)
    where
      on : (b : Bool) → is_kept_instr i ≡ b → first_in now (filter is_kept_instr is) v ≡ first_in one is v → first_in now (cond b (i ∷ filter is_kept_instr is) (filter is_kept_instr is)) v ≡ or_first (one i v) (first_in one is v)
      on true stays more = λ k. or_first (same i k) (more k)
      on false goes more = more ∙ sym (ap (λ (o : Option T). or_first o (first_in one is v)) (none i goes (or_parts (gone i) (list_any gone is) e).0))

module _ (m : Module) (k : ℕ) (f : Function) where
  abbrev n : Module
  n = clean_module m

  abbrev g : Function
  g = clean_function f

  -- ---- instructions alone

  pub on_instrs : (breaks now : Place → Instr → Bool) → ((block at to : ℕ) (i : Instr) → is_kept_instr i ≡ true → AreLeft f (OfInstr i) → breaks (instr_place k block at) i ≡ false → now (instr_place k block to) i ≡ false) → Carries k f (on_instr breaks) (on_instr now)
  on_instrs breaks now h =
      record { signature = λ e. refl; head = λ block b e. refl; phi = λ p x u e. refl; instr = h; ending = λ block at to t u e. refl }

  closed_over : (p q : Place) (i : Instr) → AreLeft f (OfInstr i) → calls_closed m p i ≡ false → calls_closed n q i ≡ false
  closed_over p q (Instr.Call r must_tail ty (Callee.Named x) args) u e = closed_same m x u.1 ∙ e
  closed_over p q _ u e = refl

  pub closed_clean : NamesNothingGone k f → first_closed_call m k f ≡ None → first_closed_call n k g ≡ None
  closed_clean = carried k f (on_instr (calls_closed m)) (on_instr (calls_closed n)) (on_instrs (calls_closed m) (calls_closed n) (λ block at to i stays u e. closed_over (instr_place k block at) (instr_place k block to) i u e))

  extents_over : (p q : Place) (i : Instr) → breaks_extents Stage.Plain m p i ≡ false → breaks_extents Stage.Plain n q i ≡ false
  extents_over p q (Instr.Alloca r ty align) e = e
  extents_over p q (Instr.Load r ty address align) e = e
  extents_over p q (Instr.Store arg address align) e = e
  extents_over p q (Instr.Gep r inbounds ty base indices) e = e
  extents_over p q _ e = refl

  pub extents_clean : NamesNothingGone k f → first_past_extent Stage.Plain m k f ≡ None → first_past_extent Stage.Plain n k g ≡ None
  extents_clean =
      carried k f (on_instr (breaks_extents Stage.Plain m)) (on_instr (breaks_extents Stage.Plain n))
      (on_instrs (breaks_extents Stage.Plain m) (breaks_extents Stage.Plain n) (λ block at to i stays u e. extents_over (instr_place k block at) (instr_place k block to) i e))

  late_over : (block at to : ℕ) (i : Instr) → allocates_late (instr_place k block at) i ≡ false → allocates_late (instr_place k block to) i ≡ false
  late_over block at to (Instr.Alloca r ty align) e = e
  late_over block at to _ e = refl

  pub allocas_clean : NamesNothingGone k f → first_late_alloca k f ≡ None → first_late_alloca k g ≡ None
  allocas_clean = carried k f (on_instr allocates_late) (on_instr allocates_late) (on_instrs allocates_late allocates_late (λ block at to i stays u e. late_over block at to i e))

  -- ---- markers

  same_size : (i : Instr) (v : ℕ) → made_size n i v ≡ made_size m i v
  same_size (Instr.Alloca r ty align) v = refl
  same_size _ v = refl

  no_size : (i : Instr) (v : ℕ) → is_kept_instr i ≡ false → made_size m i v ≡ None
  no_size (Instr.Alloca r ty align) v e = absurd (cc)
  no_size _ v e = refl

  same_slot : (v : ℕ) → slot_size n g v ≡ slot_size m f v
  same_slot v = each f.blocks
    where
      each : (bs : List Block) → first_in (block_size n) (map clean_block bs) v ≡ first_in (block_size m) bs v
      each [] = refl
      each (b ∷ bs) = λ i. or_first (first_left (made_size m) (made_size n) (λ x. false) v (λ x. same_size x v) (λ x e d. no_size x v e) b.instrs (none_any b.instrs) i) (each bs i)

  marks_over : (p q : Place) (i : Instr) → marks_otherwise (slot_size m f) p i ≡ false → marks_otherwise (slot_size n g) q i ≡ false
  marks_over p q (Instr.Call r must_tail ty callee args) e = ap (λ (sizes : ℕ → Option ℕ). marks_otherwise sizes q (Instr.Call r must_tail ty callee args)) (λ i v. same_slot v i) ∙ e
  marks_over p q _ e = refl

  pub marks_clean : NamesNothingGone k f → first_other_mark m k f ≡ None → first_other_mark n k g ≡ None
  marks_clean =
      carried k f (on_instr (marks_otherwise (slot_size m f))) (on_instr (marks_otherwise (slot_size n g)))
      (on_instrs (marks_otherwise (slot_size m f)) (marks_otherwise (slot_size n g)) (λ block at to i stays u e. marks_over (instr_place k block at) (instr_place k block to) i e))

  -- ---- N2

  pub stays_there : (v : ℕ) → not (goes f v) ≡ true → goes f v ≡ false
  stays_there v e = on (goes f v) e
    where
      on : (b : Bool) → not b ≡ true → b ≡ false
      on true h = absurd (cc)
      on false h = refl

  operand_known : (x : Operand) → is_left f x ≡ true → knows_operand n (is_value k g) x ≡ knows_operand m (is_value k f) x
  operand_known (Operand.Local v) e = value_same k f v (stays_there v e)
  operand_known (Operand.Global x) e = address_same m x e
  operand_known (Operand.Number z) e = refl
  operand_known Operand.True e = refl
  operand_known Operand.False e = refl
  operand_known Operand.Null e = refl
  operand_known Operand.None e = refl
  operand_known Operand.Poison e = refl

  operands_known : (xs : List Operand) → list_all (is_left f) xs ≡ true → list_all (knows_operand n (is_value k g)) xs ≡ list_all (knows_operand m (is_value k f)) xs
  operands_known [] e = refl
  operands_known (x ∷ xs) e =
      let both = and_parts (is_left f x) (list_all (is_left f) xs) e in
      λ i. operand_known x both.0 i && operands_known xs both.1 i

  called_known : (x : Part) → calls_left x ≡ true → knows_called n x ≡ knows_called m x
  called_known (OfInstr (Instr.Call r must_tail ty (Callee.Named x) args)) e = name_same m x e
  called_known (OfInstr (Instr.Call r must_tail ty (Callee.Allocator a) args)) e = name_same m (allocator_name a) (allocator_left a)
  called_known _ e = refl

  part_known : (p q : Place) (x : Part) → AreLeft f x → names_unknown n (is_value k g) (is_label k g) q x ≡ names_unknown m (is_value k f) (is_label k f) p x
  part_known p q x u =
      λ i. not (all_types_same m n refl (part_types x) i
      && (operands_known (part_operands x) u.0 i
      && (list_all (λ v. label_same k f v i) (part_labels x) && called_known x u.1 i)))

  pub known_clean : NamesNothingGone k f → first_unknown m k f ≡ None → first_unknown n k g ≡ None
  known_clean =
      carried k f (names_unknown m (is_value k f) (is_label k f)) (names_unknown n (is_value k g) (is_label k g))
      (record {
        signature = λ e. part_known (function_place k) (function_place k) (Signature f) (refl, refl) ∙ e;
        head = λ block b e. refl;
        phi = λ p x u e. part_known p p (OfPhi x) u ∙ e;
        instr = λ block at to i stays u e. part_known (instr_place k block at) (instr_place k block to) (OfInstr i) u ∙ e;
        ending = λ block at to t u e. part_known (instr_place k block at) (instr_place k block to) (Ending t) u ∙ e;
      })

  -- ---- L1

  pub depths_clean : NamesNothingGone k f → first_past Stage.Plain m k f ≡ None → first_past Stage.Plain n k g ≡ None
  depths_clean =
      carried k f (breaks_limits Stage.Plain m None) (breaks_limits Stage.Plain n None)
      (record { signature = λ e. e; head = λ block b e. e; phi = λ p x u e. e; instr = λ block at to i stays u e. e; ending = λ block at to t u e. e })

  -- ---- Y2

  callee_fits : (ty : Option Ty) (args : List Arg) (c : Callee) → is_left_callee c ≡ true → fits_callee n ty args c ≡ fits_callee m ty args c
  callee_fits ty args (Callee.Named x) e = fits_named_same m x e ty (map (λ a. a.ty) args)
  callee_fits ty args (Callee.Allocator a) e =
      ap (λ (b : Bool). (is_result (allocator_result a) ty && are_wanted (allocator_params a) args) && b) (fits_named_same m (allocator_name a) (allocator_left a) ty (map (λ y. y.ty) args))
  callee_fits ty args (Callee.Intrinsic i) e = refl
  callee_fits ty args (Callee.Local v) e = refl

  otherwise_over : (p q : Place) (x : Part) → calls_left x ≡ true → calls_otherwise n q x ≡ calls_otherwise m p x
  otherwise_over p q (OfInstr (Instr.Call r must_tail ty callee args)) e = ap not (callee_fits ty args callee e)
  otherwise_over p q _ e = refl

  pub calls_clean : NamesNothingGone k f → first_otherwise m k f ≡ None → first_otherwise n k g ≡ None
  calls_clean =
      carried k f (calls_otherwise m) (calls_otherwise n)
      (record {
        signature = λ e. refl;
        head = λ block b e. refl;
        phi = λ p x u e. refl;
        instr = λ block at to i stays u e. otherwise_over (instr_place k block at) (instr_place k block to) (OfInstr i) u.1 ∙ e;
        ending = λ block at to t u e. refl;
      })
