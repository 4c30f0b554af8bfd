-- Where no address of a coroutine slot is used before begin (K9), what lies in the frame is used behind it.
use Rattle.std.proofs.Common.{◌≡◌, inl, ℕ, suc, ◌+◌, Bool, true, List, [], ◌∷◌, ◌++◌, length, refl, sym, ap, ◌∙◌, subst, arith}
use Rattle.std.specs.List.{Any}
use Rattle.std.specs.Prelude.{None, Option, Some, option_to_list, slice_get}
use Rattle.pass_proofs.proofs.frames.begin_order.Alone.{begins_named}
use Rattle.pass_exits_proof.proofs.ir_laws.paths.begin_order.Framed.{get_listed}
use Rattle.pass_proofs.specs.frames.begin_order.Behind.{AreBehind, AreBlocksBehind, MayBeAccessed}
use Rattle.pass_exits_proof.specs.addresses.begin_order.Behind.{IsBehind, IsIncomingBehind}
use Rattle.pass_exits_proof.specs.rule_laws.rules.begin_order.Behind.{access_operands}
use Rattle.pass_proofs.specs.frames.begin_order.Frames.{slot_offsets}
use Rattle.pass_exits_proof.specs.rule_shape.OneOfEach.{wrong_call}
use Rattle.pass_exits_proof.specs.frame_contents.Frames.{AreContents}
use Rattle.pass_exits_proof.specs.frame_contents.declared.contents.Contents.{Contents}
use Rattle.pass_exits_proof.specs.rule_uses.Undefined.{ReachesWithout}
use Rattle.pass_exits_proof.specs.rule_uses.Uses.{block_values, phi_values, values_in}
use Rattle.pass_exits_proof.proofs.ir_laws.facts.Members.{at_each, each_there, each_all, each_turns}
use Rattle.pass_exits_proof.proofs.early.path_rules.SavedEarly.{NothingEarly, of_early}
use Rattle.pass_exits_proof.specs.flow_solver.Paths.{IsListed}
use Rattle.pass_exits_proof.specs.frame_layout.declared.layout.Layout.{Layout}
use Rattle.pass_exits_proof.specs.ir_parts.Contents.{ending_operands, result_of}
use Rattle.pass_exits_proof.specs.ir_parts.Parts.{OfInstr}
use Rattle.pass_exits_proof.specs.rule_laws.rules.function_rules.Kept.{KeepsFunctionRules}
use Rattle.ir_model.specs.Calls.{first_result}
use Rattle.ir_model.specs.Names.{position_of}
use Rattle.ir_model.specs.declared.instr.Incoming.{Incoming}
use Rattle.ir_model.specs.declared.instr.Instr.{Instr}
use Rattle.ir_model.specs.declared.instr.Phi.{Phi}
use Rattle.ir_model.specs.declared.module.Block.{Block}
use Rattle.ir_model.specs.declared.module.Function.{Function}
use Rattle.ir_model.specs.declared.module.Module.{Module}
use Rattle.ir_model.specs.declared.operand.Callee.{Callee}
use Rattle.ir_model.specs.declared.operand.Intrinsic.{Intrinsic}
use Rattle.ir_model.specs.declared.operand.Operand.{Operand}
use Rattle.pass_exits_proof.specs.ir_paths.Windows.{instr_in, is_call_of}
use Rattle.pass_exits_proof.specs.ir_paths.declared.point.Point.{Point}
use Rattle.pass_exits_proof.specs.frame_classes.declared.class.SlotClass.{SlotClass}
use Rattle.pass_exits_proof.specs.rule_slots.Early.{IsBeforeBegin, IsFirstEarly, IsTakenEarly, end_of, instr_count, other_uses}
use Rattle.pass_exits_proof.specs.rule_slots.Slots.{NamesAddress}
use Rattle.pass_exits_proof.proofs.rule_laws.rules.slots_behind.Operands.{each_unless, others_used}
use Rattle.pass_proofs.proofs.frames.slots_behind.Slots.{entry_slot, slot_address}
use Rattle.pass_exits_proof.proofs.rule_laws.rules.slots_behind.Walks.{AreNamed, IsSound, end_before, front_before, sound_on}
use Rattle.pass_frames.specs.Framed.{is_begin}
use Rattle.pass_frames.specs.Tables.{class_flags}
use Rattle.pass_exits_proof.specs.run_laws.changed.Changed.{Each}
use Rattle.pass_exits_proof.specs.rule_types.Signatures.{calls_otherwise}
use Rattle.pass_exits_proof.proofs.rule_laws.rules.woven_rules.Unbroken.{Passes, PassesIn, all_pass}

begin_called : (i : Instr) → is_call_of Intrinsic.CoroBegin i ≡ true → is_begin i ≡ true
begin_called (Instr.Call r must_tail ty (Callee.Intrinsic Intrinsic.CoroBegin) args) e = refl
begin_called _ e = absurd (cc)

module _ (m : Module) (k : ℕ) (l : Layout) (f : Function) (c : Contents) (begin names : ℕ) (rules : KeepsFunctionRules m k f) (coroutine : f.coroutine ≡ true) (calls : wrong_call k f ≡ None) (early : IsFirstEarly k f None) (first : first_result Intrinsic.CoroBegin f ≡ Some begin) (contents : AreContents m f c) where
  abbrev offsets : List (Option ℕ)
  offsets = slot_offsets l c names

  abbrev slots : List Bool
  slots = class_flags f c.classes SlotClass.Frame

  named : AreNamed f begin
  named at j b i got stands is = begins_named m k f begin rules coroutine calls first at b i got (get_listed b.instrs j i stands) (begin_called i is)

  none_early : NothingEarly f
  none_early = of_early k f coroutine early

  -- an operand that names no address of a slot where it stands before begin
  abbrev IsClear : Point → Operand → Type 0
  IsClear p x = IsBeforeBegin f p × NamesAddress f x → ⊥

  -- a place at which begin's value isn't made stands before begin
  abbrev Stands : ℕ → List ℕ → Point → Type 0
  Stands block before p = ReachesWithout f begin block → (IsListed begin before → ⊥) → IsBeforeBegin f p

  behind : (block : ℕ) (before : List ℕ) (p : Point) → Stands block before p → (x : Operand) → IsClear p x → IsBehind f begin offsets block before x
  behind block before p stands (Operand.Local v) clear = λ lies path unmade other. clear (stands path unmade, slot_address m k l f c names rules contents v lies)
  behind block before p stands _ clear = tt

  accessed : (block : ℕ) (before : List ℕ) (x : Operand) → MayBeAccessed f begin slots offsets block before x
  accessed block before (Operand.Local v) = λ lies. inl (entry_slot m k l f c names rules contents v lies)
  accessed block before _ = tt

  -- ---- instructions

  uses_clear : (p : Point) (xs : List Operand) → (IsBeforeBegin f p → Any (NamesAddress f) xs → ⊥) → Each (IsClear p) xs
  uses_clear p xs h = each_unless (λ (x : Operand). IsBeforeBegin f p × NamesAddress f x) xs (λ a. h a.4.0 (a.0, a.1, a.2, a.3, a.4.1))

  instrs_behind : (at j : ℕ) (b : Block) (is : List Instr) (before : List ℕ) → slice_get f.blocks at ≡ Some b → ((n : ℕ) → slice_get is n ≡ slice_get b.instrs (j + n)) → (ReachesWithout f begin at → IsSound f begin named at j before) → Each (λ (i : Instr). Passes (calls_otherwise m) (OfInstr i)) is
      → AreBehind f begin slots offsets at before is
  instrs_behind at j b [] before got same sound fit = tt
  instrs_behind at j b (i ∷ is) before got same sound fit =
      let p : Point = record { block = at; at = j } in
      let here : j + 0 ≡ j = omega arith in
      let there : slice_get b.instrs j ≡ Some i = sym (same 0 ∙ ap (slice_get b.instrs) here) in
      let clear : Each (IsClear p) (other_uses i) = uses_clear p (other_uses i) (λ before_begin a. none_early.instrs p i (ap (λ (o : Option Block). instr_in o j) got ∙ there) before_begin (inl a)) in (
        others_used (IsBehind f begin offsets at before) (λ z. tt) tt m i fit.0
            (each_turns (IsClear p) (IsBehind f begin offsets at before) (behind at before p sound) (other_uses i) clear),
        (
          each_all (MayBeAccessed f begin slots offsets at before) (accessed at before) (access_operands i),
          instrs_behind at (suc j) b is (option_to_list (result_of i) ++ before) got
              (λ n. same (suc n) ∙ (let next : j + suc n ≡ suc j + n = omega arith in ap (slice_get b.instrs) next))
              (λ path. sound_on f begin named at j b i before got there (sound path)) fit.1,
        ),
      )

  -- ---- phis

  incoming_behind : (i : Incoming) → (IsTakenEarly f i → ⊥) → IsIncomingBehind f begin offsets i
  incoming_behind i none = behind (position_of f i.from) _ (end_of f i.from) (end_before f begin named (position_of f i.from)) i.value (λ x. none (x.1, x.0))

  phi_behind : (at j : ℕ) (b : Block) (x : Phi) → slice_get f.blocks at ≡ Some b → slice_get b.phis j ≡ Some x → Each (IsIncomingBehind f begin offsets) x.incoming
  phi_behind at j b x got stands = each_turns (λ (i : Incoming). IsTakenEarly f i → ⊥) (IsIncomingBehind f begin offsets) incoming_behind x.incoming (each_unless (IsTakenEarly f) x.incoming (none_early.phis at j b x got stands))

  -- ---- blocks

  ending_behind : (at : ℕ) (b : Block) → slice_get f.blocks at ≡ Some b → Each (IsBehind f begin offsets at (block_values b)) (ending_operands b.term)
  ending_behind at b got =
      each_turns (IsClear end) (IsBehind f begin offsets at (block_values b)) (behind at (block_values b) end stands) (ending_operands b.term)
      (uses_clear end (ending_operands b.term) (none_early.endings at b got))
    where
      end : Point
      end = record { block = at; at = length b.instrs }

      stands : Stands at (block_values b) (record { block = at; at = length b.instrs })
      stands path unmade =
          subst (λ (o : Option Block). IsBeforeBegin f (record { block = at; at = instr_count o })) got
          (end_before f begin named at path (λ h. unmade (subst (λ (o : Option Block). IsListed begin (values_in o)) got h)))

  pub blocks_behind : AreBlocksBehind f begin slots offsets
  blocks_behind at b got =
      record {
        phis = each_there (λ (p : Phi). Each (IsIncomingBehind f begin offsets) p.incoming) b.phis (λ j x e. phi_behind at j b x got e);
        instrs =
            instrs_behind at 0 b b.instrs (phi_values b) got (λ n. let same : n ≡ 0 + n = omega arith in ap (slice_get b.instrs) same) (λ path unmade. front_before f begin named at path)
            (at_each (PassesIn (calls_otherwise m)) f.blocks at b (all_pass (calls_otherwise m) k f rules.calls) got).of_instrs;
        term = ending_behind at b got;
      }
