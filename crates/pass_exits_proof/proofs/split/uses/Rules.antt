-- What the rules say of a coroutine that is split: of what stands in the place of its instructions, and of begin's value.
use Rattle.std.proofs.Common.{◌≡◌, ◌⊎◌, inl, inr, ℕ, suc, ◌+◌, Bool, true, false, List, [], ◌∷◌, ◌++◌, length, refl, sym, ap, ◌∙◌, subst, arith, append_assoc, length-append}
use Rattle.std.specs.List.{list_all}
use Rattle.std.specs.Prelude.{None, Option, Some, map, option_to_list, slice_get, unwrap_or, if◌then◌else◌}
use Rattle.pass_fetch_proof.proofs.rule_laws.rules.counted.PartFacts.{InstrPasses, PhiPasses, block_passes}
use Rattle.pass_fetch_proof.proofs.ir_laws.paths.counted.PartFacts.{all_listed}
use Rattle.pass_fetch_proof.specs.rule_shape.Switches.{end_label}
use Rattle.pass_fetch_proof.specs.rule_shape.Uses.{phi_operands}
use Rattle.pass_fetch_proof.specs.rule_uses.Uses.{local_of, locals_in}
use Rattle.pass_fetch_proof.proofs.rule_laws.rules.renamed.Uses.{result_spelt}
use Rattle.pass_fetch_proof.proofs.rule_laws.rules.local_rules.Names.{numbers}
use Rattle.pass_fetch_proof.proofs.ir_laws.facts.Truth.{and_first, and_second, holds, is_number}
use Rattle.pass_fetch_proof.proofs.rule_laws.rules.local_rules.Woven.{apart_names}
use Rattle.pass_fetch_proof.proofs.ir_laws.paths.source_rules.Locals.{Apart, listed_right}
use Rattle.pass_fetch_proof.proofs.rule_laws.rules.source_rules.Locals.{names_are, same_instr}
use Rattle.pass_fetch_proof.proofs.rule_laws.rules.source_rules.Once.{one_begin}
use Rattle.pass_fetch_proof.specs.flow_solver.Paths.{IsListed}
use Rattle.pass_fetch_proof.specs.frame_layout.declared.layout.Layout.{Layout}
use Rattle.pass_fetch_proof.specs.ir_parts.Contents.{ending_operands, instr_operands, result_of}
use Rattle.pass_fetch_proof.specs.ir_parts.Locals.{locals_of}
use Rattle.pass_fetch_proof.specs.ir_parts.Parts.{OfInstr}
use Rattle.pass_fetch_proof.specs.pass_intrinsics.Shapes.{shape_of}
use Rattle.pass_fetch_proof.specs.pass_intrinsics.declared.shape.Part.{Part}
use Rattle.pass_fetch_proof.specs.pass_intrinsics.declared.shape.Shape.{Shape}
use Rattle.ir_model.specs.Calls.{first_result_by, first_result_in, or_else, result_of_call}
use Rattle.ir_model.specs.Names.{same_intrinsic}
use Rattle.ir_model.specs.Ty.{Ty}
use Rattle.ir_model.specs.declared.instr.Incoming.{Incoming}
use Rattle.ir_model.specs.declared.instr.Instr.{Instr}
use Rattle.ir_model.specs.declared.instr.Phi.{Phi}
use Rattle.ir_model.specs.declared.instr.Terminator.{Terminator}
use Rattle.ir_model.specs.declared.module.Block.{Block}
use Rattle.ir_model.specs.declared.module.Function.{Function}
use Rattle.ir_model.specs.declared.module.Module.{Module}
use Rattle.ir_model.specs.declared.operand.Callee.{Callee}
use Rattle.ir_model.specs.declared.operand.Intrinsic.{Intrinsic}
use Rattle.ir_model.specs.declared.operand.Operand.{Operand}
use Rattle.pass_fetch_proof.specs.ir_paths.Windows.{instr_at, instr_in, is_call_of}
use Rattle.pass_fetch_proof.specs.ir_paths.declared.point.Point.{Point}
use Rattle.pass_fetch_proof.proofs.rule_laws.frames.uses.Lowering.{IsRuled, ruled_lowered}
use Rattle.pass_fetch_proof.proofs.ir_laws.paths.uses.Paths.{place_of, there_listed}
use Rattle.pass_fetch_proof.proofs.rule_laws.rules.uses.Plain.{FitsScalar, IsPlain, ending_scalar, is_plain_kind, scalar_local}
use Rattle.pass_fetch_proof.proofs.rule_laws.frames.uses.Quiet.{AreTold, suspends}
use Rattle.pass_exits_proof.proofs.split.uses.Sources.{NoSuspends}
use Rattle.pass_fetch_proof.proofs.rule_laws.rules.uses.Switched.{IsSwitched, is_switch_then, not_in_instr, not_in_phi, not_switched_on, suspend_result, switched}
use Rattle.pass_fetch_proof.proofs.ir_laws.paths.replaced.Known.{of_listed}
use Rattle.pass_fetch_proof.proofs.rule_laws.rules.replaced.OwnKinds.{MakesIn, PhiMakesIn, kind_made_by, own_kinds}
use Rattle.pass_fetch_proof.proofs.rule_laws.rules.replaced.Passed.{IsAll}
use Rattle.pass_fetch_proof.proofs.rule_laws.rules.replaced.Replaced.{is_the_ptr}
use Rattle.pass_exits_proof.specs.split.rules.Splittable.{IsSplittable}
use Rattle.pass_fetch_proof.specs.rule_types.Signatures.{are_wanted, calls_otherwise, is_result}
use Rattle.pass_fetch_proof.specs.rule_types.Wants.{intrinsic_params}
use Rattle.pass_fetch_proof.specs.rule_types.declared.wants.Basic.{Basic}
use Rattle.pass_fetch_proof.specs.rule_values.Fits.{fits, is_scalar}
use Rattle.pass_fetch_proof.specs.rule_values.Instrs.{fits_instr}
use Rattle.pass_fetch_proof.specs.rule_values.Kinds.{result_kind, value_kind}
use Rattle.pass_fetch_proof.specs.rule_values.Values.{breaks_values, fits_ending, fits_phi, takes}

-- ---- a call of an intrinsic with a result

pub record IsCallThere (x : Intrinsic) (bs : List Block) (r : ℕ) : Type 0 where
  pub position : ℕ
  pub block : Block
  pub got : slice_get bs position ≡ Some block
  pub at : ℕ
  pub instr : Instr
  pub there : slice_get block.instrs at ≡ Some instr
  pub calls : is_call_of x instr ≡ true
  pub result : result_of instr ≡ Some r

in_call : (x : Intrinsic) (i : Instr) (r : ℕ) → result_of_call x i ≡ Some r → (is_call_of x i ≡ true) × (result_of i ≡ Some r)
in_call x (Instr.Call q must_tail ty (Callee.Intrinsic y) args) r e = on (same_intrinsic x y) refl e
  where
    on : (b : Bool) → same_intrinsic x y ≡ b → (if b then q else None) ≡ Some r → (same_intrinsic x y ≡ true) × (q ≡ Some r)
    on true d h = (d, h)
    on false d h = absurd (cc)
in_call x _ r e = absurd (cc)

in_calls : (x : Intrinsic) (is : List Instr) (r : ℕ) → first_result_in x is ≡ Some r → (at : ℕ) × ((i : Instr) × ((slice_get is at ≡ Some i) × ((is_call_of x i ≡ true) × (result_of i ≡ Some r))))
in_calls x [] r e = absurd (cc)
in_calls x (i ∷ is) r e = on (result_of_call x i) refl e (in_calls x is r)
  where
    on : (o : Option ℕ) → result_of_call x i ≡ o → or_else o (first_result_in x is) ≡ Some r → (first_result_in x is ≡ Some r → (at : ℕ) × ((j : Instr) × ((slice_get is at ≡ Some j) × ((is_call_of x j ≡ true) × (result_of j ≡ Some r))))) → (at : ℕ) × ((j : Instr) × ((slice_get (i ∷ is) at ≡ Some j) × ((is_call_of x j ≡ true) × (result_of j ≡ Some r))))
    on (Some q) d h more = (0, (i, (refl, in_call x i r (d ∙ h))))
    on None d h more = let y = more h in (suc y.0, (y.1.0, (y.1.1.0, y.1.1.1)))

call_there : (x : Intrinsic) (bs : List Block) (r : ℕ) → first_result_by x bs ≡ Some r → IsCallThere x bs r
call_there x [] r e = absurd (cc)
call_there x (b ∷ bs) r e = on (first_result_in x b.instrs) refl e (call_there x bs r)
  where
    on : (o : Option ℕ) → first_result_in x b.instrs ≡ o → or_else o (first_result_by x bs) ≡ Some r → (first_result_by x bs ≡ Some r → IsCallThere x bs r) → IsCallThere x (b ∷ bs) r
    on (Some q) d h more = let y = in_calls x b.instrs r (d ∙ h) in record { position = 0; block = b; got = refl; at = y.0; instr = y.1.0; there = y.1.1.0; calls = y.1.1.1.0; result = y.1.1.1.1 }
    on None d h more = let y = more h in record { position = suc y.position; block = y.block; got = y.got; at = y.at; instr = y.instr; there = y.there; calls = y.calls; result = y.result }

suspend_no_begin : (i : Instr) → is_call_of Intrinsic.CoroSuspend i ≡ true → is_call_of Intrinsic.CoroBegin i ≡ true → ⊥
suspend_no_begin (Instr.Call r must_tail ty (Callee.Intrinsic Intrinsic.CoroSuspend) args) a b = absurd (cc)
suspend_no_begin _ a b = absurd (cc)

begin_kind : (m : Module) (i : Instr) (p : _) → is_call_of Intrinsic.CoroBegin i ≡ true → calls_otherwise m p (OfInstr i) ≡ false → is_plain_kind (Some (kind_made_by i)) ≡ true
begin_kind m (Instr.Call r must_tail ty (Callee.Intrinsic Intrinsic.CoroBegin) args) p a e = on ty (and_first (is_result (Some Basic.Ptr) ty) (are_wanted (intrinsic_params Intrinsic.CoroBegin) args) (holds _ e))
  where
    on : (t : Option Ty) → is_result (Some Basic.Ptr) t ≡ true → is_plain_kind (Some (result_kind (Callee.Intrinsic Intrinsic.CoroBegin) t)) ≡ true
    on None h = absurd (cc)
    on (Some u) h = subst (λ (z : Ty). is_plain_kind (Some (result_kind (Callee.Intrinsic Intrinsic.CoroBegin) (Some z))) ≡ true) (sym (is_the_ptr u h)) refl
begin_kind m _ p a e = absurd (cc)

module _ (m : Module) (k : ℕ) (f : Function) (begin : ℕ) (split : IsSplittable m k f begin) (layout : Layout) where
  abbrev pub s : Shape
  s = shape_of f layout

  pub begin_named : s.begin ≡ begin
  begin_named = ap (λ (o : Option ℕ). unwrap_or o 0) split.named

  apart : Apart (numbers f)
  apart = subst Apart (names_are k f) (apart_names [] (locals_of k f) split.rules.definitions)

  kinds_at : (q at : ℕ) (b : Block) (i : Instr) → slice_get f.blocks q ≡ Some b → slice_get b.instrs at ≡ Some i → MakesIn (value_kind f) i
  kinds_at q at b i got there =
      let all = of_listed (IsAll (PhiMakesIn (value_kind f)) (MakesIn (value_kind f)) (λ (t : Terminator). Unit {0})) f.blocks b (own_kinds f apart) (there_listed f.blocks q b got) in
      of_listed (MakesIn (value_kind f)) b.instrs i all.instrs (there_listed b.instrs at i there)

  -- ---- what a suspend makes

  -- a value that no suspend makes but one of its own block is made by none
  unsuspended : (v : ℕ) (used : (q0 at0 : ℕ) (b0 : Block) (i0 : Instr) → slice_get f.blocks q0 ≡ Some b0 → slice_get b0.instrs at0 ≡ Some i0 → suspends i0 ≡ true → (w : IsSwitched f b0 at0 i0) → w.value ≡ v → ⊥) (b : Block) (i : Instr) → IsListed b f.blocks → IsListed i b.instrs → is_call_of Intrinsic.CoroSuspend i ≡ true → result_of i ≡ Some v → ⊥
  unsuspended v used b i in_blocks in_block is made =
      let q = place_of f.blocks b in_blocks in
      let at = place_of b.instrs i in_block in
      let w = switched k f split.coroutine split.switches q.0 at.0 b i q.1 at.1 is in
      let both : Some w.value ≡ Some v = sym w.result ∙ suspend_result i is ∙ made in
      used q.0 at.0 b i q.1 at.1 is w (cc)

  instr_unsuspended : (q at : ℕ) (b : Block) (i : Instr) → slice_get f.blocks q ≡ Some b → slice_get b.instrs at ≡ Some i → (v : ℕ) → IsListed v (locals_in (instr_operands i)) → is_plain_kind (value_kind f v) ≡ true → IsPlain f v
  instr_unsuspended q at b i got there v l scalar =
      record {
        scalar = scalar;
        unsuspended = unsuspended v
            (λ q0 at0 b0 i0 got0 there0 is w e. not_in_instr k f split.coroutine split.switches q0 at0 b0 i0 got0 w q b i got (there_listed b.instrs at i there) (is_number q q0) (subst (λ (u : ℕ). IsListed u (locals_in (instr_operands i))) (sym e) l));
      }

  ruled : (q at : ℕ) (b : Block) (i : Instr) → slice_get f.blocks q ≡ Some b → slice_get b.instrs at ≡ Some i → IsRuled m f s i
  ruled q at b i got there =
      let fit = of_listed (InstrPasses (breaks_values m (value_kind f) f.result) q) b.instrs i (block_passes (breaks_values m (value_kind f) f.result) k f split.rules.local.values q b got).instrs (there_listed b.instrs at i there) in
      let call = of_listed (InstrPasses (calls_otherwise m) q) b.instrs i (block_passes (calls_otherwise m) k f split.rules.calls q b got).instrs (there_listed b.instrs at i there) in
      record {
        place = call.0;
        fits = holds (fits_instr m (value_kind f) i) fit.2;
        calls = call.2;
        kinds = kinds_at q at b i got there;
        suspend = λ v is made plain. plain.unsuspended b i (there_listed f.blocks q b got) (there_listed b.instrs at i there) is made;
        begin = λ v is made.
            let x = call_there Intrinsic.CoroBegin f.blocks begin split.named in
            let p : Point = record { block = q; at = at } in
            let r : Point = record { block = x.position; at = x.at } in
            let here : instr_at f p ≡ Some i = ap (λ (o : Option Block). instr_in o at) got ∙ there in
            let stands : instr_at f r ≡ Some x.instr = ap (λ (o : Option Block). instr_in o x.at) x.got ∙ x.there in
            let same : p ≡ r = one_begin k f split.coroutine split.calls p r i x.instr here stands is x.calls in
            let both : Some i ≡ Some x.instr = sym here ∙ ap (instr_at f) same ∙ stands in
            let one : i ≡ x.instr = cc in
            let values : Some v ≡ Some begin = sym made ∙ ap result_of one ∙ x.result in
            let value : v ≡ begin = cc in
            value ∙ sym begin_named;
        operands = instr_unsuspended q at b i got there;
      }

  -- what begin makes is begin's value
  pub begin_result : (q at : ℕ) (b : Block) (i : Instr) → slice_get f.blocks q ≡ Some b → slice_get b.instrs at ≡ Some i → is_call_of Intrinsic.CoroBegin i ≡ true → result_of i ≡ Some s.begin
  begin_result q at b i got there is =
      let x = call_there Intrinsic.CoroBegin f.blocks begin split.named in
      let p : Point = record { block = q; at = at } in
      let r : Point = record { block = x.position; at = x.at } in
      let here : instr_at f p ≡ Some i = ap (λ (o : Option Block). instr_in o at) got ∙ there in
      let stands : instr_at f r ≡ Some x.instr = ap (λ (o : Option Block). instr_in o x.at) x.got ∙ x.there in
      let same : p ≡ r = one_begin k f split.coroutine split.calls p r i x.instr here stands is x.calls in
      let both : Some i ≡ Some x.instr = sym here ∙ ap (instr_at f) same ∙ stands in
      let one : i ≡ x.instr = cc in
      ap result_of one ∙ x.result ∙ ap (λ (n : ℕ). Some n) (sym begin_named)

  -- begin stands in a block
  pub begin_there : (q : ℕ) × ((b : Block) × ((slice_get f.blocks q ≡ Some b) × ((i : Instr) × (IsListed i b.instrs × ((is_call_of Intrinsic.CoroBegin i ≡ true) × (result_of i ≡ Some begin))))))
  begin_there =
      let x = call_there Intrinsic.CoroBegin f.blocks begin split.named in
      (x.position, (x.block, (x.got, (x.instr, (there_listed x.block.instrs x.at x.instr x.there, (x.calls, x.result))))))

  -- begin's value is a pointer
  pub begin_plain : IsPlain f begin
  begin_plain =
      let x = call_there Intrinsic.CoroBegin f.blocks begin split.named in
      let h = ruled x.position x.at x.block x.instr x.got x.there in
      record {
        scalar = sym (ap is_plain_kind (h.kinds begin x.result)) ∙ begin_kind m x.instr h.place x.calls h.calls;
        unsuspended = λ b i in_blocks in_block is made.
            let q = place_of f.blocks b in_blocks in
            let at = place_of b.instrs i in_block in
            let same : i ≡ x.instr =
            same_instr k f split.rules.definitions (record { block = q.0; at = at.0 }) (record { block = x.position; at = x.at }) i x.instr begin
            (ap (λ (o : Option Block). instr_in o at.0) q.1 ∙ at.1) (ap (λ (o : Option Block). instr_in o x.at) x.got ∙ x.there) (sym (result_spelt i) ∙ made) (sym (result_spelt x.instr) ∙ x.result) in
            suspend_no_begin x.instr (ap (is_call_of Intrinsic.CoroSuspend) (sym same) ∙ is) x.calls;
      }

  -- ---- blocks

  end_plain : (q : ℕ) (b : Block) → slice_get f.blocks q ≡ Some b → NoSuspends b.instrs → (v : ℕ) → IsListed v (locals_in (ending_operands b.term)) → IsPlain f v
  end_plain q b got none v l =
      let fit = (block_passes (breaks_values m (value_kind f) f.result) k f split.rules.local.values q b got).ending in
      record {
        scalar = ending_scalar (value_kind f) f.result b.term (holds (fits_ending (value_kind f) f.result b.term) fit.1) v l;
        unsuspended = unsuspended v (λ q0 at0 b0 i0 got0 there0 is w e. on q0 at0 b0 i0 got0 there0 is w e (is_number q q0));
      }
    where
      on : (q0 at0 : ℕ) (b0 : Block) (i0 : Instr) → slice_get f.blocks q0 ≡ Some b0 → slice_get b0.instrs at0 ≡ Some i0 → suspends i0 ≡ true → (w : IsSwitched f b0 at0 i0) → w.value ≡ v → (q ≡ q0) ⊎ (q ≡ q0 → ⊥) → ⊥
      on q0 at0 b0 i0 got0 there0 is w e (inl same) =
          let both : Some b ≡ Some b0 = sym got ∙ ap (slice_get f.blocks) same ∙ got0 in
          let one : b ≡ b0 = cc in
          let quiet : suspends i0 ≡ false = of_listed (λ (i : Instr). suspends i ≡ false) b0.instrs i0 (subst (λ (x : Block). NoSuspends x.instrs) one none) (there_listed b0.instrs at0 i0 there0) in
          let t : true ≡ false = sym is ∙ quiet in
          absurd (cc)
      on q0 at0 b0 i0 got0 there0 is w e (inr other) = not_switched_on k f split.coroutine split.switches q0 at0 b0 i0 got0 w q b got other (subst (λ (u : ℕ). IsListed u (locals_in (ending_operands b.term))) (sym e) l)

  get_behind : (xs ys : List Instr) (y : Instr) → slice_get (xs ++ y ∷ ys) (length xs) ≡ Some y
  get_behind [] ys y = refl
  get_behind (x ∷ xs) ys y = get_behind xs ys y

  none_joined : (xs : List Instr) (i : Instr) → NoSuspends xs → suspends i ≡ false → NoSuspends (xs ++ i ∷ [])
  none_joined [] i h e = (e, tt)
  none_joined (x ∷ xs) i h e = (h.0, none_joined xs i h.1 e)

  nothing_behind : (xs is : List Instr) (i : Instr) → length xs + 1 ≡ length (xs ++ i ∷ is) → is ≡ []
  nothing_behind xs [] i e = refl
  nothing_behind xs (j ∷ is) i e = let all : length (xs ++ i ∷ j ∷ is) ≡ length xs + length (i ∷ j ∷ is) = length-append xs (i ∷ j ∷ is) in absurd (omega (arith, e, all))

  all_behind : (xs : List Instr) → xs ++ [] ≡ xs
  all_behind [] = refl
  all_behind (x ∷ xs) = ap (λ (l : List Instr). x ∷ l) (all_behind xs)

  told_from : (part : Part) (q : ℕ) (b : Block) → slice_get f.blocks q ≡ Some b → (ahead is : List Instr) → b.instrs ≡ ahead ++ is → NoSuspends ahead → AreTold f s part is b.term
  told_from part q b got ahead [] e none = end_plain q b got (subst NoSuspends (sym (e ∙ all_behind ahead)) none)
  told_from part q b got ahead (i ∷ is) e none =
      let there : slice_get b.instrs (length ahead) ≡ Some i = ap (λ (js : List Instr). slice_get js (length ahead)) e ∙ get_behind ahead is i in (
        ruled_lowered m f s part i (ruled q (length ahead) b i got there),
        (
          (λ is_suspend.
              let w = switched k f split.coroutine split.switches q (length ahead) b i got there is_suspend in
              (nothing_behind ahead is i (w.last ∙ ap length e), is_switch_then w.value (end_label f) b.term w.switch)),
          (λ quiet. told_from part q b got (ahead ++ i ∷ []) is (e ∙ sym (append_assoc ahead (i ∷ []) is)) (none_joined ahead i none quiet)),
        ),
      )

  pub told : (part : Part) (q : ℕ) (b : Block) → slice_get f.blocks q ≡ Some b → AreTold f s part b.instrs b.term
  told part q b got = told_from part q b got [] b.instrs refl tt

  -- ---- phis

  incoming_locals : (is : List Incoming) (i : Incoming) (v : ℕ) → IsListed i is → i.value ≡ Operand.Local v → IsListed v (locals_in (map (λ (j : Incoming). j.value) is))
  incoming_locals [] i v l e = absurd l
  incoming_locals (j ∷ is) i v (inl same) e = subst (λ (x : Operand). IsListed v (option_to_list (local_of x) ++ locals_in (map (λ (h : Incoming). h.value) is))) (sym (ap (λ (x : Incoming). x.value) (sym same) ∙ e)) (inl refl)
  incoming_locals (j ∷ is) i v (inr l) e = listed_right v (option_to_list (local_of j.value)) (locals_in (map (λ (h : Incoming). h.value) is)) (incoming_locals is i v l e)

  pub phi_plain : (q : ℕ) (b : Block) (x : Phi) (i : Incoming) (v : ℕ) → slice_get f.blocks q ≡ Some b → IsListed x b.phis → IsListed i x.incoming → i.value ≡ Operand.Local v → IsPlain f v
  phi_plain q b x i v got phi incoming local =
      let fit = of_listed (PhiPasses (breaks_values m (value_kind f) f.result) q) b.phis x (block_passes (breaks_values m (value_kind f) f.result) k f split.rules.local.values q b got).phis phi in
      let fits_it : fits_phi (value_kind f) x.ty x.incoming ≡ true = holds (fits_phi (value_kind f) x.ty x.incoming) fit.2 in
      let one : takes (value_kind f) x.ty i ≡ true = all_listed (takes (value_kind f) x.ty) x.incoming (and_second (is_scalar x.ty) (list_all (takes (value_kind f) x.ty) x.incoming) fits_it) i incoming in
      let scalar_one : FitsScalar (value_kind f) (Operand.Local v) = (x.ty, (and_first (is_scalar x.ty) (list_all (takes (value_kind f) x.ty) x.incoming) fits_it, ap (fits (value_kind f) x.ty) (sym local) ∙ one)) in
      record {
        scalar = scalar_local (value_kind f) (Operand.Local v ∷ []) (scalar_one, tt) v (inl refl);
        unsuspended = unsuspended v
            (λ q0 at0 b0 i0 got0 there0 is w e. not_in_phi k f split.coroutine split.switches q0 at0 b0 i0 got0 w q b x got phi (is_number q q0) (subst (λ (u : ℕ). IsListed u (locals_in (phi_operands x))) (sym e) (incoming_locals x.incoming i v incoming local)));
      }
