-- Names of ramps that are given their frames: no call of a framed form has one, and a coroutine is found by its own
-- (N1, N2, N3).
use Rattle.std.proofs.Common.{◌≡◌, ℕ, zero, suc, Bool, true, false, List, [], ◌∷◌, refl, sym, ap, ◌∙◌}
use Rattle.std.proofs.lemmas.Bool.{false≢true}
use Rattle.std.specs.Prelude.{None, Option, Some, codes, option_map, slice_get, if◌then◌else◌, ◌&&◌, ◌||◌}
use Rattle.pass_elide_edges.proofs.pass_elide_proof.pass_proofs.rule_laws.rules.function_rules.Stages.{rules_larger}
use Rattle.pass_elide_edges.proofs.pass_elide_proof.pass_proofs.ir_laws.facts.Truth.{and_first, and_second, same_name-itself}
use Rattle.pass_elide_edges.proofs.pass_elide_proof.pass_proofs.ir_laws.facts.same_names.Lists.{IsFound, what_is_found}
use Rattle.pass_elide_edges.proofs.pass_elide_proof.pass_proofs.ir_tables.Tables.{same_name-same}
use Rattle.pass_elide_edges.proofs.pass_elide_proof.pass_proofs.rule_laws.rules.plain_rules.Once.{once_at}
use Rattle.pass_elide_edges.proofs.pass_elide_proof.pass_proofs.rule_laws.rules.same_names.Spellings.{OfNoalloc, parts_alike}
use Rattle.pass_elide_edges.specs.pass_elide_proof.pass_proofs.ir_base.declared.name.Name.{Name}
use Rattle.pass_elide_edges.specs.pass_elide_proof.pass_proofs.ir_laws.facts.same_names.Short.{HaveShortNames}
use Rattle.pass_elide_edges.specs.pass_elide_proof.pass_proofs.ir_model.Names.{first_where, function_at, function_named, noalloc_of, same_name}
use Rattle.pass_elide_edges.specs.pass_elide_proof.pass_proofs.ir_model.Ty.{Ty}
use Rattle.pass_elide_edges.specs.pass_elide_proof.pass_proofs.ir_model.declared.instr.Instr.{Instr}
use Rattle.pass_elide_edges.specs.pass_elide_proof.pass_proofs.ir_model.declared.module.Function.{Function}
use Rattle.pass_elide_edges.specs.pass_elide_proof.pass_proofs.ir_model.declared.module.Module.{Module}
use Rattle.pass_elide_edges.specs.pass_elide_proof.pass_proofs.ir_model.declared.operand.Arg.{Arg}
use Rattle.pass_elide_edges.specs.pass_elide_proof.pass_proofs.ir_model.declared.operand.Callee.{Callee}
use Rattle.pass_elide_edges.specs.pass_elide_proof.pass_proofs.rule_laws.rules.function_rules.Kept.{AllKeepFunctionRules}
use Rattle.pass_elide_edges.specs.pass_elide_proof.pass_proofs.rule_laws.rules.plain_rules.Items.{KeepsItemRules}
use Rattle.pass_elide_edges.specs.pass_elide_proof.pass_proofs.rule_names.Known.{knows_name}
use Rattle.pass_elide_edges.specs.pass_elide_proof.pass_proofs.rule_names.Reserved.{is_odd, is_part, is_reserved}
use Rattle.pass_elide_edges.specs.pass_elide_proof.pass_proofs.rule_names.declared.stage.Stage.{Stage}
use Rattle.pass_elide_edges.specs.pass_elide_proof.pass_proofs.run_framed.Framed.{given_ramp}
use Rattle.pass_elide_edges.specs.pass_elide_proof.pass_proofs.run_step.Step.{AtInstr, fetch}
use Rattle.pass_split_proof.proofs.ready.Callees.{callee_known}
use Rattle.pass_split_proof.proofs.ready.Gives.{unknown_ramp}
use Rattle.pass_split_proof.proofs.ready.Rules.{function_of_instr}
use Rattle.run_slots.specs.Slots.{GivesNoFrames}

abbrev is_ramp : Name → Function → Bool
is_ramp n f = f.coroutine && same_name (noalloc_of f.name) n

-- ---- no call names one

module _ (m : Module) (items : KeepsItemRules Stage.Source m) (rules : AllKeepFunctionRules m) where
  none_given : (func block at : ℕ) (result : Option ℕ) (must_tail : Bool) (ty : Option Ty) (n : Name) (args : List Arg)
      → fetch (function_at m func) block at ≡ AtInstr (Instr.Call result must_tail ty (Callee.Named n) args)
      → (o : Option ℕ) → given_ramp m n ≡ o → o ≡ None
  none_given func block at result must_tail ty n args here None e = refl
  none_given func block at result must_tail ty n args here (Some k) e =
      let i : Instr = Instr.Call result must_tail ty (Callee.Named n) args in
      let x : IsFound (is_ramp n) m.functions k = what_is_found (is_ramp n) m.functions k e in
      let same : noalloc_of x.element.name ≡ n =
      same_name-same (noalloc_of x.element.name) n (and_second x.element.coroutine _ x.passes) in
      let unknown = unknown_ramp m items k x.element x.stands
      (and_first x.element.coroutine (same_name (noalloc_of x.element.name) n) x.passes) in
      let known = callee_known m func (function_at m func)
      (rules_larger Stage.Source m func (function_at m func)
      (rules func (function_at m func) (function_of_instr m func block at i here))) block at result must_tail ty args n
      here in
      absurd (false≢true (sym unknown ∙ ap (knows_name m) same ∙ known))

  pub gives_no_frames : GivesNoFrames m
  gives_no_frames func block at result must_tail ty n args here =
      none_given func block at result must_tail ty n args here (given_ramp m n) refl

-- ---- a coroutine is found by its own

first_some : {A : Type 0} (test : A → Bool) (xs : List A) (k : ℕ) (x : A) → slice_get xs k ≡ Some x → test x ≡ true
    → (j : ℕ) × (first_where test xs ≡ Some j)
first_some test [] k x e h = absurd (cc)
first_some test (y ∷ xs) zero x e h =
    let same : y ≡ x = cc in
    (0, ap (λ (b : Bool). if b then Some 0 else option_map suc (first_where test xs)) (ap test same ∙ h))
first_some test (y ∷ xs) (suc k) x e h = on (test y) refl (first_some test xs k x e h)
  where
    on : (b : Bool) → test y ≡ b → (j : ℕ) × (first_where test xs ≡ Some j)
        → (j : ℕ) × (first_where test (y ∷ xs) ≡ Some j)
    on true d again =
        (0, ap (λ (c : Bool). if c then Some 0 else option_map suc (first_where test xs)) d)
    on false d again = (
      suc again.0,
      ap (λ (c : Bool). if c then Some 0 else option_map suc (first_where test xs)) d
          ∙ ap (option_map suc) again.1,
    )

free_of_odd : (a b c : Bool) → (a || (true && (b || (true && c)))) ≡ false → c ≡ false
free_of_odd true b c e = absurd (false≢true (sym e))
free_of_odd false true c e = absurd (false≢true (sym e))
free_of_odd false false c e = e

module _ (m : Module) (items : KeepsItemRules Stage.Source m) (short : HaveShortNames m) where
  not_odd : (k : ℕ) (f : Function) → slice_get m.functions k ≡ Some f → f.coroutine ≡ true → is_odd f.name ≡ false
  not_odd k f there coroutine = free_of_odd (is_reserved f.name) (is_part m f.name) (is_odd f.name)
      (sym (ap (λ (c : Bool). is_reserved f.name || (true && (is_part m f.name || (c && is_odd f.name)))) coroutine)
      ∙ items.names.free k f there)

  found_by_name : (k : ℕ) (f : Function) → slice_get m.functions k ≡ Some f → function_named m f.name ≡ Some k
  found_by_name k f there = (once_at m k f.name (items.names.once k f there)).function

  module _ (k : ℕ) (f : Function) (there : slice_get m.functions k ≡ Some f) (coroutine : f.coroutine ≡ true) where
    own_ramp : is_ramp (noalloc_of f.name) f ≡ true
    own_ramp = ap (λ (c : Bool). c && same_name (noalloc_of f.name) (noalloc_of f.name)) coroutine
        ∙ same_name-itself (noalloc_of f.name)

    pub ramp_found : given_ramp m (noalloc_of f.name) ≡ Some k
    ramp_found =
        let x = first_some (is_ramp (noalloc_of f.name)) m.functions k f there own_ramp in
        let y : IsFound (is_ramp (noalloc_of f.name)) m.functions x.0 =
        what_is_found (is_ramp (noalloc_of f.name)) m.functions x.0 x.1 in
        let kind = and_first y.element.coroutine (same_name (noalloc_of y.element.name)
        (noalloc_of f.name)) y.passes in
        let parts : noalloc_of y.element.name ≡ noalloc_of f.name =
        same_name-same (noalloc_of y.element.name) (noalloc_of f.name) (and_second y.element.coroutine _ y.passes) in
        let same : y.element.name ≡ f.name =
        parts_alike y.element.name f.name (codes ".noalloc") (codes ".noalloc") OfNoalloc OfNoalloc
        (short x.0 y.element y.stands) (short k f there) (not_odd x.0 y.element y.stands kind)
        (not_odd k f there coroutine) parts in
        let both : Some x.0 ≡ Some k =
        sym (found_by_name x.0 y.element y.stands) ∙ ap (function_named m) same ∙ found_by_name k f there in
        x.1 ∙ both
