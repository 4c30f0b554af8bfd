-- Functions without fault of N1, K1, K2, Y1 and Y2 keep what is asked of names and of the end's block.
use Rattle.std.proofs.Common.{◌≡◌, ⊎_elim, ℕ, suc, ◌+◌, Bool, true, false, List, [], ◌∷◌, length, Option, Some, None, refl, sym, ap, ◌∙◌, subst, arith}
use Rattle.std.specs.List.{list_all, list_any}
use Rattle.std.specs.Prelude.{option_map, slice_get, unwrap_or, ◌==◌, ◌&&◌, ◌||◌, if◌then◌else◌}
use Rattle.pass_early_proof.specs.ir_base.declared.outcome.Place.{Place}
use Rattle.pass_early_proof.specs.rule_shape.OneOfEach.{calls_of, is_right_instr, wrong_call}
use Rattle.pass_early_proof.specs.rule_shape.declared.one_of_each.Calls.{Calls}
use Rattle.pass_early_proof.proofs.ir_laws.facts.Members.{at_each}
use Rattle.pass_early_proof.proofs.ir_laws.facts.Truth.{equal_numbers, and_first}
use Rattle.pass_early_proof.proofs.rule_laws.rules.renamed.Uses.{result_spelt}
use Rattle.pass_early_proof.proofs.ir_laws.paths.renamed.Uses.{stands_in}
use Rattle.pass_early_proof.proofs.early.save_simulation.Suspending.{fetch_at}
use Rattle.pass_early_proof.specs.ir_laws.facts.renamed.Regular.{passes}
use Rattle.pass_early_proof.proofs.rule_laws.rules.source_rules.Ends.{end_first}
use Rattle.pass_early_proof.proofs.ir_laws.paths.source_rules.Locals.{listed_either}
use Rattle.pass_early_proof.proofs.rule_laws.rules.source_rules.Locals.{no_param, no_phi, own_label, same_instr}
use Rattle.pass_early_proof.proofs.rule_laws.rules.source_rules.Once.{right_call}
use Rattle.pass_early_proof.specs.flow_solver.Paths.{IsListed}
use Rattle.pass_early_proof.proofs.rule_laws.frames.counted.Keepable.{FoundBlock, FoundInstr, blocks_found, distinct_listed, params_found}
use Rattle.pass_early_proof.proofs.ir_laws.facts.Lists.{FoundParam, FoundPhi}
use Rattle.pass_early_proof.proofs.ir_laws.paths.counted.Keepable.{param_listed, phi_listed}
use Rattle.pass_early_proof.proofs.rule_laws.rules.counted.PartFacts.{block_passes}
use Rattle.pass_early_proof.specs.rule_laws.rules.function_rules.Kept.{KeepsFunctionRules}
use Rattle.pass_early_proof.specs.ir_parts.Contents.{result_of}
use Rattle.pass_early_proof.specs.ir_parts.Parts.{instr_place}
use Rattle.ir_model.specs.Names.{first_where, same_intrinsic}
use Rattle.ir_model.specs.Ty.{Ty, token}
use Rattle.ir_model.specs.declared.instr.Instr.{Instr}
use Rattle.ir_model.specs.declared.instr.Phi.{Phi}
use Rattle.ir_model.specs.declared.module.Block.{Block}
use Rattle.ir_model.specs.declared.module.Function.{Function}
use Rattle.ir_model.specs.declared.module.Module.{Module}
use Rattle.ir_model.specs.declared.operand.Allocator.{Allocator}
use Rattle.ir_model.specs.declared.operand.Callee.{Callee}
use Rattle.ir_model.specs.declared.operand.Intrinsic.{Intrinsic}
use Rattle.pass_early_proof.specs.ir_paths.Windows.{end_block, instr_at, instr_in, is_call_of}
use Rattle.pass_edges_proof.proofs.kept.sources.Definite.{call_fits, instr_fits}
use Rattle.pass_early_proof.proofs.rule_laws.rules.sources.Places.{instr_there, point}
use Rattle.pass_edges_proof.proofs.kept.sources.Tokens.{FitsCallee, token_typed}
use Rattle.pass_kept_proof.specs.Handed.{HasPlainNames}
use Rattle.pass_kept_proof.specs.Needed.{given_by, given_by_allocator, given_by_intrinsic}
use Rattle.pass_early_proof.specs.rule_locals.Intrinsics.{calls_inner, is_inner, misplaces}
use Rattle.pass_early_proof.specs.rule_names.declared.stage.Stage.{Stage}
use Rattle.pass_early_proof.specs.run_step.Step.{AtInstr, AtTerm, Nowhere, fetch, fetch_in, phis_of}
use Rattle.pass_early_proof.specs.run_laws.changed.Changed.{result_of as changed_result}
use Rattle.pass_early_proof.specs.frame_crossing.Values.{all_defined, blocks_defined, is_apart, is_token_result, params_defined, values_of}
use Rattle.pass_early_proof.specs.rule_types.Signatures.{are_wanted, is_result}
use Rattle.pass_early_proof.specs.rule_types.Wants.{allocator_params, allocator_result, intrinsic_params, intrinsic_result}
use Rattle.pass_early_proof.specs.rule_types.declared.wants.Basic.{Basic}
use Rattle.pass_early_proof.specs.rule_values.Instrs.{fits_called, fits_instr, fits_result, passes as passes_arg}
use Rattle.pass_early_proof.specs.rule_values.Kinds.{value_kind}
use Rattle.pass_early_proof.specs.rule_values.declared.kinds.Kind.{Kind}
use Rattle.pass_early_proof.specs.rule_windows.Points.{phi_count, phis_in}

-- ---- what isn't set apart is given

-- a call without a type has no result
untyped : (callee : Callee) (ty : Option Ty) (r : Option ℕ) (v : ℕ) → is_result None ty ≡ true → fits_result callee ty r ≡ true → r ≡ Some v → ⊥
untyped callee (Some t) r v h e same = absurd (cc)
untyped callee None None v h e same = absurd (cc)
untyped callee None (Some u) v h e same = absurd (cc)

-- a token is set apart
set_apart : (ty : Option Ty) (rest : Bool) (i : Intrinsic) → intrinsic_result i ≡ Some Basic.Token → is_result (intrinsic_result i) ty ≡ true → (is_token_result ty || rest) ≡ false → ⊥
set_apart None rest i e h apart = let k : is_result (Some Basic.Token) None ≡ true = ap (λ (o : Option Basic). is_result o None) (sym e) ∙ h in absurd (cc)
set_apart (Some t) rest i e h apart =
    let k : is_result (Some Basic.Token) (Some t) ≡ true = ap (λ (o : Option Basic). is_result o (Some t)) (sym e) ∙ h in
    let one : t ≡ token = token_typed t k in
    let no : (is_token_result (Some token) || rest) ≡ false = subst (λ (u : Ty). (is_token_result (Some u) || rest) ≡ false) one apart in
    absurd (cc)

given_intrinsic : (i : Intrinsic) (ty : Option Ty) (r : Option ℕ) (v : ℕ) (rest : Bool) → is_result (intrinsic_result i) ty ≡ true → fits_result (Callee.Intrinsic i) ty r ≡ true → (is_token_result ty || rest) ≡ false → r ≡ Some v → given_by_intrinsic i r ≡ Some v
given_intrinsic Intrinsic.CoroId ty r v rest h e apart same = absurd (set_apart ty rest Intrinsic.CoroId refl h apart)
given_intrinsic Intrinsic.CoroSave ty r v rest h e apart same = absurd (set_apart ty rest Intrinsic.CoroSave refl h apart)
given_intrinsic Intrinsic.CoroResume ty r v rest h e apart same = absurd (untyped (Callee.Intrinsic Intrinsic.CoroResume) ty r v h e same)
given_intrinsic Intrinsic.CoroDestroy ty r v rest h e apart same = absurd (untyped (Callee.Intrinsic Intrinsic.CoroDestroy) ty r v h e same)
given_intrinsic Intrinsic.LifetimeStart ty r v rest h e apart same = absurd (untyped (Callee.Intrinsic Intrinsic.LifetimeStart) ty r v h e same)
given_intrinsic Intrinsic.LifetimeEnd ty r v rest h e apart same = absurd (untyped (Callee.Intrinsic Intrinsic.LifetimeEnd) ty r v h e same)
given_intrinsic Intrinsic.MemcpyI64 ty r v rest h e apart same = absurd (untyped (Callee.Intrinsic Intrinsic.MemcpyI64) ty r v h e same)
given_intrinsic Intrinsic.MemcpyI32 ty r v rest h e apart same = absurd (untyped (Callee.Intrinsic Intrinsic.MemcpyI32) ty r v h e same)
given_intrinsic _ ty r v rest h e apart same = same

given_allocator : (a : Allocator) (ty : Option Ty) (r : Option ℕ) (v : ℕ) → is_result (allocator_result a) ty ≡ true → fits_result (Callee.Allocator a) ty r ≡ true → r ≡ Some v → given_by_allocator a r ≡ Some v
given_allocator Allocator.Malloc ty r v h e same = same
given_allocator Allocator.Znwm ty r v h e same = same
given_allocator Allocator.Free ty r v h e same = absurd (untyped (Callee.Allocator Allocator.Free) ty r v h e same)
given_allocator Allocator.ZdlPv ty r v h e same = absurd (untyped (Callee.Allocator Allocator.ZdlPv) ty r v h e same)
given_allocator Allocator.ZdlPvm ty r v h e same = absurd (untyped (Callee.Allocator Allocator.ZdlPvm) ty r v h e same)

given_here : (m : Module) (kinds : ℕ → Option Kind) (i : Instr) (v : ℕ) → FitsCallee m i → fits_instr m kinds i ≡ true → is_apart i ≡ false → result_of i ≡ Some v → given_by i ≡ Some v
given_here m kinds (Instr.Call r must_tail ty (Callee.Intrinsic i) args) v c h apart e =
    given_intrinsic i ty r v _ (and_first (is_result (intrinsic_result i) ty) (are_wanted (intrinsic_params i) args) c)
    (and_first (fits_result (Callee.Intrinsic i) ty r) (fits_called kinds (Callee.Intrinsic i) args && list_all (passes_arg kinds (Callee.Intrinsic i)) args) h) apart e
given_here m kinds (Instr.Call r must_tail ty (Callee.Allocator a) args) v c h apart e =
    given_allocator a ty r v (and_first (is_result (allocator_result a) ty) (are_wanted (allocator_params a) args) (and_first (is_result (allocator_result a) ty && are_wanted (allocator_params a) args) _ c))
    (and_first (fits_result (Callee.Allocator a) ty r) (fits_called kinds (Callee.Allocator a) args && list_all (passes_arg kinds (Callee.Allocator a)) args) h) e
given_here m kinds (Instr.Call r must_tail ty (Callee.Named n) args) v c h apart e = e
given_here m kinds (Instr.Call r must_tail ty (Callee.Local n) args) v c h apart e = e
given_here m kinds (Instr.Store arg p align) v c h apart e = absurd (cc)
given_here m kinds (Instr.Binary name op flags ty a b) v c h apart e = e
given_here m kinds (Instr.Icmp name pred ty a b) v c h apart e = e
given_here m kinds (Instr.Select name x a b) v c h apart e = e
given_here m kinds (Instr.Cast name op nneg arg to) v c h apart e = e
given_here m kinds (Instr.Alloca name ty align) v c h apart e = e
given_here m kinds (Instr.Load name ty p align) v c h apart e = e
given_here m kinds (Instr.Gep name inbounds ty base indices) v c h apart e = e

-- ---- where the end stands

where_passes : (test : Block → Bool) (bs : List Block) (b : Block) → slice_get bs (unwrap_or (first_where test bs) (length bs)) ≡ Some b → test b ≡ true
where_passes test [] b e = absurd (cc)
where_passes test (c ∷ bs) b e = on (test c) refl e (where_passes test bs b)
  where
    later : (o : Option ℕ) → slice_get (c ∷ bs) (unwrap_or (option_map suc o) (suc (length bs))) ≡ Some b → slice_get bs (unwrap_or o (length bs)) ≡ Some b
    later None k = k
    later (Some n) k = k

    on : (t : Bool) → test c ≡ t → slice_get (c ∷ bs) (unwrap_or (if t then Some 0 else option_map suc (first_where test bs)) (suc (length bs))) ≡ Some b → (slice_get bs (unwrap_or (first_where test bs) (length bs)) ≡ Some b → test b ≡ true) → test b ≡ true
    on true d k again = let same : c ≡ b = cc in ap test (sym same) ∙ d
    on false d k again = again (later (first_where test bs) k)

record IsThere (test : Instr → Bool) (is : List Instr) : Type 0 where
  at : ℕ
  instr : Instr
  stands : slice_get is at ≡ Some instr
  passed : test instr ≡ true

there_any : (test : Instr → Bool) (is : List Instr) → list_any test is ≡ true → IsThere test is
there_any test [] h = absurd (cc)
there_any test (x ∷ is) h = on (test x) refl h (there_any test is)
  where
    on : (b : Bool) → test x ≡ b → (b || list_any test is) ≡ true → (list_any test is ≡ true → IsThere test is) → IsThere test (x ∷ is)
    on true e k rest = record { at = 0; instr = x; stands = refl; passed = e }
    on false e k rest = let y = rest k in record { at = suc y.at; instr = y.instr; stands = y.stands; passed = y.passed }

-- the end is right where it is the first of its block, phis counted
right_first : (c : Calls) (k block n : ℕ) (i : Instr) → is_call_of Intrinsic.CoroEnd i ≡ true → is_right_instr c (instr_place k block n) i ≡ true → n ≡ 0
right_first c k block n (Instr.Call result must_tail ty (Callee.Intrinsic Intrinsic.CoroEnd) args) e h = equal_numbers n 0 (and_first (n == 0) _ h)
right_first c k block n _ e h = absurd (cc)

no_phis : (ps : List Phi) → length ps + 0 ≡ 0 → ps ≡ []
no_phis [] e = refl
no_phis (p ∷ ps) e = absurd (omega (arith, e))

-- ---- calls outside coroutines (K1)

-- the calls of an intrinsic stand in coroutines alone
abbrev pub StaysInside : Intrinsic → Type 0
StaysInside j = (x : Intrinsic) → same_intrinsic j x ≡ true → is_inner x ≡ true

pub end_inside : StaysInside Intrinsic.CoroEnd
end_inside Intrinsic.CoroEnd e = refl
end_inside _ e = absurd (cc)

pub save_inside : StaysInside Intrinsic.CoroSave
save_inside Intrinsic.CoroSave e = refl
save_inside _ e = absurd (cc)

pub suspend_inside : StaysInside Intrinsic.CoroSuspend
suspend_inside Intrinsic.CoroSuspend e = refl
suspend_inside _ e = absurd (cc)

no_inner : (place : Place) (i : Instr) (j : Intrinsic) → StaysInside j → calls_inner false place i ≡ false → is_call_of j i ≡ true → ⊥
no_inner place (Instr.Call r must_tail ty (Callee.Intrinsic x) args) j inside h e = let yes : is_inner x ≡ true = inside x e in absurd (cc)
no_inner place _ j inside h e = absurd (cc)

module _ (m : Module) (k : ℕ) (f : Function) (rules : KeepsFunctionRules m k f) where
  pub none_outside : f.coroutine ≡ false → (block at : ℕ) (i : Instr) (j : Intrinsic) → StaysInside j → fetch f block at ≡ AtInstr i → is_call_of j i ≡ true → ⊥
  none_outside outside block at i j inside e is =
      let x = stands_in f (point block at) i (instr_there f block at i e) in
      let y = at_each _ x.block.instrs at i (block_passes (misplaces Stage.Source f.coroutine) k f rules.local.misplaced block x.block x.got).instrs x.stands in
      no_inner y.0 i j inside (subst (λ (b : Bool). calls_inner b y.0 i ≡ false) outside y.2) is

  -- ---- the end's block

  end_in : (b : Block) → slice_get f.blocks (end_block f) ≡ Some b → IsThere (is_call_of Intrinsic.CoroEnd) b.instrs
  end_in b e = there_any (is_call_of Intrinsic.CoroEnd) b.instrs (where_passes (λ c. list_any (is_call_of Intrinsic.CoroEnd) c.instrs) f.blocks b e)

  no_end_block : f.coroutine ≡ false → (o : Option Block) → slice_get f.blocks (end_block f) ≡ o → o ≡ None
  no_end_block outside None e = refl
  no_end_block outside (Some b) e =
      let x = end_in b e in
      absurd (none_outside outside (end_block f) x.at x.instr Intrinsic.CoroEnd end_inside (fetch_at f (point (end_block f) x.at) x.instr (ap (λ (o : Option Block). instr_in o x.at) e ∙ x.stands)) x.passed)

  -- ---- what is given

  same_there : (v block at : ℕ) (i : Instr) → fetch f block at ≡ AtInstr i → result_of i ≡ Some v → IsListed v (values_of f) → is_apart i ≡ false
  same_there v block at i e made listed = ⊎_elim (λ l. absurd l) all (distinct_listed [] (all_defined f) v listed)
    where
      there : instr_at f (point block at) ≡ Some i
      there = instr_there f block at i e

      here : changed_result i ≡ Some v
      here = sym (result_spelt i) ∙ made

      by_param : FoundParam f.params v → is_apart i ≡ false
      by_param x = absurd (no_param k f rules.definitions (point block at) i v there here (param_listed f.params x.at x.param v x.there x.same))

      by_phi : (j : ℕ) (b : Block) → slice_get f.blocks j ≡ Some b → FoundPhi b.phis v → is_apart i ≡ false
      by_phi j b got x = absurd (no_phi k f rules.definitions j b (point block at) i v got (phi_listed b.phis x.at x.phi v x.there x.same) there here)

      by_instr : (j : ℕ) (b : Block) → slice_get f.blocks j ≡ Some b → FoundInstr b.instrs v → is_apart i ≡ false
      by_instr j b got x =
          let other : instr_at f (point j x.at) ≡ Some x.instr = ap (λ (o : Option Block). instr_in o x.at) got ∙ x.there in
          let same : i ≡ x.instr = same_instr k f rules.definitions (point block at) (point j x.at) i x.instr v there other here (sym (result_spelt x.instr) ∙ x.makes) in
          ap is_apart same ∙ x.stays

      in_block : FoundBlock f.blocks v → is_apart i ≡ false
      in_block x = ⊎_elim (by_phi x.at x.block x.there) (by_instr x.at x.block x.there) x.part

      all : IsListed v (all_defined f) → is_apart i ≡ false
      all l = ⊎_elim (λ a. by_param (params_found f.params v a)) (λ r. in_block (blocks_found f.blocks v r)) (listed_either v (params_defined f.params) (blocks_defined f.blocks) l)

  given : (v block at : ℕ) (i : Instr) → IsListed v (values_of f) → fetch f block at ≡ AtInstr i → result_of i ≡ Some v → given_by i ≡ Some v
  given v block at i listed e made =
      let x = stands_in f (point block at) i (instr_there f block at i e) in
      given_here m (value_kind f) i v (call_fits m k f rules block x.block x.got at i x.stands) (instr_fits m k f rules block x.block x.got at i x.stands) (same_there v block at i e made listed) made

  -- ---- functions that are no coroutines

  pub plain_outside : f.coroutine ≡ false → HasPlainNames f
  plain_outside outside =
      let none : slice_get f.blocks (end_block f) ≡ None = no_end_block outside (slice_get f.blocks (end_block f)) refl in
      let nowhere : fetch f (end_block f) 0 ≡ Nowhere = ap (λ (o : Option Block). fetch_in o 0) none in
      record {
        end_is_first = λ i e. let t : Nowhere ≡ AtInstr i = sym nowhere ∙ e in absurd (cc);
        end_is_there = λ u e. let t : Nowhere ≡ AtTerm u = sym nowhere ∙ e in absurd (cc);
        end_has_no_phis = ap phis_of none;
        labels = own_label k f rules.definitions;
        given = given;
      }

  -- ---- coroutines

  module _ (coroutine : f.coroutine ≡ true) (calls : wrong_call k f ≡ None) where
    first_is : (o : Option Instr) → instr_at f (point (end_block f) 0) ≡ o → passes (is_call_of Intrinsic.CoroEnd) o ≡ true → (i : Instr) × ((instr_at f (point (end_block f) 0) ≡ Some i) × (is_call_of Intrinsic.CoroEnd i ≡ true))
    first_is None e h = absurd (cc)
    first_is (Some i) e h = (i, (e, h))

    the_end : (i : Instr) × ((instr_at f (point (end_block f) 0) ≡ Some i) × (is_call_of Intrinsic.CoroEnd i ≡ true))
    the_end = first_is (instr_at f (point (end_block f) 0)) refl (end_first k f coroutine calls)

    end_fetched : fetch f (end_block f) 0 ≡ AtInstr the_end.0
    end_fetched = fetch_at f (point (end_block f) 0) the_end.0 the_end.1.0

    end_phis : phis_of (slice_get f.blocks (end_block f)) ≡ []
    end_phis =
        let zero_place : phi_count f (end_block f) + 0 ≡ 0 = right_first (calls_of k f) k (end_block f) (phi_count f (end_block f) + 0) the_end.0 the_end.1.1 (right_call k f coroutine calls (point (end_block f) 0) the_end.0 the_end.1.0) in
        on (slice_get f.blocks (end_block f)) refl zero_place
      where
        on : (o : Option Block) → slice_get f.blocks (end_block f) ≡ o → phis_in o + 0 ≡ 0 → phis_of o ≡ []
        on None e z = refl
        on (Some b) e z = no_phis b.phis z

    pub plain_coroutine : HasPlainNames f
    plain_coroutine = record {
      end_is_first = λ i e. let t : AtInstr i ≡ AtInstr the_end.0 = sym e ∙ end_fetched in let same : i ≡ the_end.0 = cc in ap (is_call_of Intrinsic.CoroEnd) same ∙ the_end.1.1;
      end_is_there = λ u e. let t : AtTerm u ≡ AtInstr the_end.0 = sym e ∙ end_fetched in absurd (cc);
      end_has_no_phis = end_phis;
      labels = own_label k f rules.definitions;
      given = given;
    }

  pub plain_names : (f.coroutine ≡ true → wrong_call k f ≡ None) → HasPlainNames f
  plain_names calls = on f.coroutine refl
    where
      on : (b : Bool) → f.coroutine ≡ b → HasPlainNames f
      on true e = plain_coroutine e (calls e)
      on false e = plain_outside e
