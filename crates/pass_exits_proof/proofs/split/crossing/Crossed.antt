-- Where nothing is needed behind suspends, only begin's value, addresses of allocas and tokens cross them.
use Rattle.std.proofs.Common.{length, ◌≡◌, inl, inr, ⊎_elim, ℕ, Bool, true, false, [], ◌∷◌, ◌≤◌, refl, sym, ap, ◌∙◌, subst}
use Rattle.std.specs.Prelude.{None, Option, Some, is_some, slice_get, ◌||◌, ◌==◌}
use Rattle.pass_fetch_proof.specs.flow_blocks.Reach.{IsReached}
use Rattle.pass_fetch_proof.proofs.rule_laws.frames.crossing.Values.{distinct_has}
use Rattle.pass_fetch_proof.specs.rule_laws.frames.crossing.Crossed.{IsNothingNeeded}
use Rattle.pass_fetch_proof.proofs.rule_laws.rules.counted.DefinedKinds.{kind_of_instr, kind_of_param, kind_of_phi, made_in}
use Rattle.pass_fetch_proof.proofs.rule_laws.rules.counted.Slots.{instr_size}
use Rattle.pass_fetch_proof.proofs.rule_laws.rules.counted.Times.{apart_times}
use Rattle.pass_fetch_proof.specs.rule_shape.OneOfEach.{wrong_call}
use Rattle.pass_fetch_proof.specs.rule_shape.Places.{is_the}
use Rattle.pass_fetch_proof.proofs.ir_laws.facts.Truth.{itself}
use Rattle.pass_fetch_proof.proofs.rule_laws.rules.local_rules.Names.{numbers}
use Rattle.pass_fetch_proof.proofs.rule_laws.rules.local_rules.Woven.{apart_names}
use Rattle.pass_fetch_proof.specs.ir_parts.Locals.{locals_of}
use Rattle.pass_fetch_proof.proofs.ir_laws.paths.source_rules.Locals.{Apart, listed_left, listed_right}
use Rattle.pass_fetch_proof.proofs.rule_laws.rules.source_rules.Locals.{names_are, own_label}
use Rattle.pass_fetch_proof.specs.flow_solver.Paths.{IsListed}
use Rattle.pass_fetch_proof.proofs.rule_laws.frames.needed.Made.{ABegin, AFrame, AToken, AnAlloca, IsApartFor, apart_for, block_defined, instr_defined, param_defined, param_found, phi_defined, phi_found, token_fits}
use Rattle.pass_fetch_proof.specs.rule_laws.frames.needed.Crossed.{AreFramesUnneeded}
use Rattle.pass_fetch_proof.proofs.rule_laws.rules.shape.Begin.{begin_result}
use Rattle.pass_fetch_proof.proofs.rule_laws.rules.shape.Beginning.{begins_made}
use Rattle.pass_fetch_proof.proofs.rule_laws.rules.shape.Stands.{begin_stands}
use Rattle.pass_fetch_proof.specs.ir_parts.Contents.{result_of}
use Rattle.pass_fetch_proof.specs.rule_laws.rules.function_rules.Kept.{KeepsFunctionRules}
use Rattle.ir_model.specs.Calls.{first_result}
use Rattle.ir_model.specs.Names.{position_of}
use Rattle.ir_model.specs.Ty.{token}
use Rattle.ir_model.specs.declared.instr.Instr.{Instr}
use Rattle.ir_model.specs.declared.instr.Phi.{Phi}
use Rattle.ir_model.specs.declared.module.Block.{Block}
use Rattle.ir_model.specs.declared.module.Function.{Function}
use Rattle.ir_model.specs.declared.module.Module.{Module}
use Rattle.ir_model.specs.declared.module.Param.{Param}
use Rattle.ir_model.specs.declared.operand.Intrinsic.{Intrinsic}
use Rattle.pass_fetch_proof.specs.ir_paths.Windows.{instr_at, instr_in, is_call_of}
use Rattle.pass_fetch_proof.specs.ir_paths.declared.point.Point.{Point}
use Rattle.pass_fetch_proof.specs.rule_locals.Markers.{slot_size}
use Rattle.pass_fetch_proof.specs.run_step.Step.{AtInstr, fetch_in, fetch_or}
use Rattle.pass_exits_proof.proofs.split.uses.Started.{led_reached}
use Rattle.pass_exits_proof.specs.split.rules.Reached.{IsLedTo}
use Rattle.pass_fetch_proof.specs.rule_laws.frames.replaced.Splittable.{may_cross}
use Rattle.pass_fetch_proof.specs.frame_crossing.Crossing.{suspends_of}
use Rattle.pass_fetch_proof.specs.frame_crossing.Paths.{ByInstr, ByParam, ByPhi, IsDefinedBefore, IsNeededBehind, phis_in}
use Rattle.pass_fetch_proof.specs.frame_crossing.Values.{all_defined, blocks_defined, is_apart, is_token, params_defined}
use Rattle.pass_fetch_proof.specs.rule_values.Fits.{fits_kind}
use Rattle.pass_fetch_proof.specs.rule_values.declared.kinds.Kind.{Kind}
use Rattle.pass_fetch_proof.specs.rule_values.Kinds.{value_kind}
use Rattle.pass_fetch_proof.proofs.rule_laws.rules.woven_rules.ValueKinds.{phis_listed}
use Rattle.pass_fetch_proof.specs.ir_laws.facts.woven_rules.Pairs.{times}

module _ (m : Module) (k : ℕ) (g : Function) (rules : KeepsFunctionRules m k g) where
  once : (n : ℕ) → times n (numbers g) ≤ 1
  once n = apart_times n (numbers g) (subst Apart (names_are k g) (apart_names [] (locals_of k g) rules.definitions))

  -- ---- what may cross

  by_begin : (v : ℕ) → is_the (first_result Intrinsic.CoroBegin g) v ≡ true → may_cross m g v ≡ true
  by_begin v e = ap (λ (b : Bool). b || (is_some (slot_size m g v) || fits_kind (value_kind g v) token)) e

  second : (a b : Bool) → b ≡ true → (a || b) ≡ true
  second true b e = refl
  second false b e = e

  by_slot : (v : ℕ) → is_some (slot_size m g v) ≡ true → may_cross m g v ≡ true
  by_slot v e = second (is_the (first_result Intrinsic.CoroBegin g) v) (is_some (slot_size m g v) || fits_kind (value_kind g v) token) (ap (λ (b : Bool). b || fits_kind (value_kind g v) token) e)

  by_token : (v : ℕ) → fits_kind (value_kind g v) token ≡ true → may_cross m g v ≡ true
  by_token v e = second (is_the (first_result Intrinsic.CoroBegin g) v) (is_some (slot_size m g v) || fits_kind (value_kind g v) token) (second (is_some (slot_size m g v)) (fits_kind (value_kind g v) token) e)

  module _ (coroutine : g.coroutine ≡ true) (calls : wrong_call k g ≡ None) (begin : ℕ) (named : first_result Intrinsic.CoroBegin g ≡ Some begin) (nothing : IsNothingNeeded g) (frames : AreFramesUnneeded g) where
    begin_is : (p : Point) (i : Instr) (v : ℕ) → instr_at g p ≡ Some i → is_call_of Intrinsic.CoroBegin i ≡ true → result_of i ≡ Some v → is_the (first_result Intrinsic.CoroBegin g) v ≡ true
    begin_is p i v there c makes =
        let s = begin_stands g begin named in
        let q : Point = record { block = s.position; at = s.at } in
        let stands : instr_at g q ≡ Some s.instr = ap (λ (o : Option Block). instr_in o s.at) s.got ∙ s.there in
        let own : result_of i ≡ Some begin = begins_made k g begin coroutine calls q s.instr stands s.calls (begin_result s.instr s.calls ∙ s.makes) p i there c in
        let both : Some begin ≡ Some v = sym own ∙ makes in
        let same : begin ≡ v = cc in
        ap (λ (o : Option ℕ). is_the o v) named ∙ ap (λ (n : ℕ). n == v) same ∙ itself v

    module _ (v : ℕ) (s : Point) (l : IsListed s (suspends_of g)) (reached : IsReached g (0 ∷ []) [] s.block) (needed : IsNeededBehind g v s) where
      no_value : IsListed v (all_defined g) → {A : Type 0} → A
      no_value h = absurd (nothing v s l reached (distinct_has [] (all_defined g) v h) needed)

      of_instr : (q at : ℕ) (b : Block) (i : Instr) → slice_get g.blocks q ≡ Some b → slice_get b.instrs at ≡ Some i → result_of i ≡ Some v → may_cross m g v ≡ true
      of_instr q at b i got there makes = on (is_apart i) refl
        where
          by : IsApartFor v i → may_cross m g v ≡ true
          by (AToken e) = by_token v (ap (λ (o : Option Kind). fits_kind o token) (kind_of_instr g v (once v) q b at i got there makes) ∙ e)
          by (AnAlloca e) = by_slot v (ap is_some (instr_size m v g (once v) q b at i got there (made_in i v makes)) ∙ e m)
          by (ABegin e) = by_begin v (begin_is (record { block = q; at = at }) i v (ap (λ (o : Option Block). instr_in o at) got ∙ there) e makes)
          by (AFrame e) = absurd (frames (record { block = q; at = at }) i v (ap (λ (o : Option Block). instr_in o at) got ∙ there) e makes s l needed)

          on : (t : Bool) → is_apart i ≡ t → may_cross m g v ≡ true
          on true e = by (apart_for v i makes e)
          on false e = no_value (listed_right v (params_defined g.params) (blocks_defined g.blocks) (block_defined v g.blocks q b got (inr (instr_defined v b.instrs at i there makes e))))

      of_phi : (q at : ℕ) (b : Block) (p : Phi) → slice_get g.blocks q ≡ Some b → slice_get b.phis at ≡ Some p → p.result ≡ v → (t : Bool) → is_token p.ty ≡ t → may_cross m g v ≡ true
      of_phi q at b p got there same true e = by_token v (token_fits p.ty (value_kind g v) e (kind_of_phi g v (once v) q b at p got there same))
      of_phi q at b p got there same false e = no_value (listed_right v (params_defined g.params) (blocks_defined g.blocks) (block_defined v g.blocks q b got (inl (phi_defined v b.phis at p there same e))))

      of_param : (at : ℕ) (p : Param) → slice_get g.params at ≡ Some p → p.name ≡ v → (t : Bool) → is_token p.ty ≡ t → may_cross m g v ≡ true
      of_param at p there same true e = by_token v (token_fits p.ty (value_kind g v) e (kind_of_param g v (once v) at p there same))
      of_param at p there same false e = no_value (listed_left v (params_defined g.params) (blocks_defined g.blocks) (param_defined v g.params at p there same e))

      crosses : IsDefinedBefore g v s.block s.at → may_cross m g v ≡ true
      crosses (ByParam h path) = let x = param_found v g.params h in of_param x.at x.param x.there x.same (is_token x.param.ty) refl
      crosses (ByPhi q h path) = on (slice_get g.blocks q) refl h
        where
          on : (o : Option Block) → slice_get g.blocks q ≡ o → IsListed v (phis_in o) → may_cross m g v ≡ true
          on None e r = absurd r
          on (Some b) e r =
              ⊎_elim (λ (no : IsListed v []). absurd no)
              (λ n. let x = phi_found v b.phis n in of_phi q x.at b x.phi e x.there x.same (is_token x.phi.ty) refl)
              (phis_listed b.phis [] v r)
      crosses (ByInstr q at i e makes path) = on (slice_get g.blocks q) refl e
        where
          on : (o : Option Block) → slice_get g.blocks q ≡ o → fetch_in o at ≡ AtInstr i → may_cross m g v ≡ true
          on None d h = absurd (cc)
          on (Some b) d h = inside (slice_get b.instrs at) refl (at == length b.instrs) h
            where
              inside : (o : Option Instr) → slice_get b.instrs at ≡ o → (t : Bool) → fetch_or o t b.term ≡ AtInstr i → may_cross m g v ≡ true
              inside None x true y = absurd (cc)
              inside None x false y = absurd (cc)
              inside (Some j) x t y = let same : j ≡ i = cc in of_instr q at b i d (x ∙ ap (λ (z : Instr). Some z) same) makes

    pub only_these : (v : ℕ) (s : Point) (b : Block) → IsListed s (suspends_of g) → slice_get g.blocks s.block ≡ Some b → IsLedTo g b.label → IsDefinedBefore g v s.block s.at → IsNeededBehind g v s → may_cross m g v ≡ true
    only_these v s b l got led defined needed =
        let place : position_of g b.label ≡ s.block = own_label k g rules.definitions s.block b got in
        crosses v s l (subst (IsReached g (0 ∷ []) []) place (led_reached m k g rules b.label led)) needed defined
