-- Values, names and operands where a pointer's type has a pointer.
use Rattle.std.proofs.Common.{◌≡◌, ℕ, zero, suc, Bool, true, false, List, [], ◌∷◌, length, ◌&&◌, ◌==◌}
use Rattle.std.proofs.Common.{Option, Some, None, refl, sym, ap, ◌∙◌, subst, replicate, ℤ}
use Rattle.std.proofs.lemmas.Bool.{eq-eqb, eqb-true}
use Rattle.std.specs.List.{AllByRecursion, list_all}
use Rattle.std.specs.Prelude.{if◌then◌else◌, slice_get}
use Rattle.pass_frames_proof.specs.ir_model.Layout.{same_type}
use Rattle.pass_frames_proof.specs.ir_model.Names.{declaration_named, function_at, function_named, global_named}
use Rattle.pass_frames_proof.specs.ir_model.Ty.{Ty, array, int, named, ptr, structure, token}
use Rattle.pass_frames_proof.specs.ir_model.declared.instr.Incoming.{Incoming}
use Rattle.pass_frames_proof.specs.ir_model.declared.instr.Instr.{Instr}
use Rattle.pass_frames_proof.specs.ir_model.declared.instr.Phi.{Phi}
use Rattle.pass_frames_proof.specs.ir_model.declared.module.Function.{Function}
use Rattle.pass_frames_proof.specs.ir_model.declared.module.Module.{Module}
use Rattle.pass_frames_proof.specs.ir_model.declared.module.Param.{Param}
use Rattle.pass_frames_proof.specs.ir_model.declared.operand.Arg.{Arg}
use Rattle.pass_frames_proof.specs.ir_model.declared.operand.Callee.{Callee}
use Rattle.pass_frames_proof.specs.ir_model.declared.operand.Operand.{Operand}
use Rattle.pass_frames_meaning.specs.Pointers.{ArePointing, IsAddress, PointParams, PointsAs, PointsBack, PointsBy}
use Rattle.pass_frames_meaning.specs.Pointers.{PointsOn}
use Rattle.pass_frames_proof.specs.pass_kept_proof.Kept.{kept}
use Rattle.pass_frames_proof.proofs.pass_renewed_proof.Sets.{set_elsewhere}
use Rattle.pass_frames_proof.specs.pass_renewed_proof.Renewed.{in_new_slot, renewed_value, renewed_values}
use Rattle.pass_frames_proof.specs.rule_types.Signatures.{same_result as same_types_of}
use Rattle.pass_frames_proof.specs.rule_types.Wants.{is_int, is_ptr, is_token}
use Rattle.pass_frames_proof.specs.rule_values.Fits.{fits, fits_arg, fits_kind, is_scalar}
use Rattle.pass_frames_proof.specs.rule_values.Kinds.{kind_of, result_kind, value_kind}
use Rattle.pass_frames_proof.specs.rule_values.Values.{takes}
use Rattle.pass_frames_proof.specs.rule_values.declared.kinds.Kind.{Kind}
use Rattle.pass_frames_proof.specs.run_memory.declared.pointer.Pointer.{Pointer}
use Rattle.pass_frames_proof.specs.run_memory.declared.pointer.Value.{Value}
use Rattle.pass_frames_proof.specs.run_step.Step.{AtInstr, entry_values, fetch, incoming_from, phi_values, phis_of, values_in, with_all}
use Rattle.pass_frames_proof.specs.run_step.Step.{with_params}
use Rattle.pass_frames_proof.specs.run_step.Values.{Env, address_from, address_of, arg_value, literal, operand_value, value_in}
use Rattle.pass_frames_proof.specs.run_step.Values.{with_result, with_value}
use Rattle.pass_renewed_meaning.proofs.run_types.Fit.{both_true}
use Rattle.pass_renewed_meaning.proofs.run_types.Rules.{call_kind_is}
use Rattle.pass_renewed_meaning.specs.run_types.Rules.{FitsPhi, KeepsTypes}

-- ---- kinds

pub poison_points : (k : Option Kind) → PointsAs k Value.Poison
poison_points None = tt
poison_points (Some (Kind.Int w)) = tt
poison_points (Some Kind.Ptr) = tt
poison_points (Some Kind.Token) = tt
poison_points (Some Kind.Saved) = tt
poison_points (Some Kind.Other) = tt

-- an address is right for any kind
pub address_points : (k : Option Kind) (v : Value) → IsAddress v → PointsAs k v
address_points None v h = tt
address_points (Some (Kind.Int w)) v h = tt
address_points (Some Kind.Ptr) v h = h
address_points (Some Kind.Token) v h = tt
address_points (Some Kind.Saved) v h = tt
address_points (Some Kind.Other) v h = tt

-- it is asked of the one type alone
pub type_points : (ty : Ty) (v : Value) → (ty ≡ ptr → IsAddress v) → PointsBy ty v
type_points (int w) v h = tt
type_points ptr v h = h refl
type_points token v h = tt
type_points (array n t) v h = tt
type_points (structure ts) v h = tt
type_points (named n) v h = tt

pub of_pointer : (ty : Ty) (v : Value) → ty ≡ ptr → PointsBy ty v → IsAddress v
of_pointer ty v e h = subst (λ (t : Ty). PointsBy t v) e h

pub points_as : (k l : Option Kind) (v : Value) → l ≡ k → PointsAs k v → PointsAs l v
points_as k l v e h = subst (λ (j : Option Kind). PointsAs j v) (sym e) h

-- a value of a type is one of the same type
pub same_points : (t u : Ty) (v : Value) → same_type t u ≡ true → PointsBy t v → PointsBy u v
same_points t u v e h = type_points u v (λ eu. on t (ap (same_type t) (sym eu) ∙ e) h)
  where
    on : (t : Ty) → same_type t ptr ≡ true → PointsBy t v → IsAddress v
    on (int u) k j = absurd (cc)
    on ptr k j = j
    on token k j = absurd (cc)
    on (array n t) k j = absurd (cc)
    on (structure ts) k j = absurd (cc)
    on (named n) k j = absurd (cc)

pub points_back : (t u : Ty) (v : Value) → same_type t u ≡ true → PointsBy u v → PointsBy t v
points_back t u v e h = type_points t v (λ et. on u (ap (λ (s : Ty). same_type s u) (sym et) ∙ e) h)
  where
    on : (u : Ty) → same_type ptr u ≡ true → PointsBy u v → IsAddress v
    on (int u) k j = absurd (cc)
    on ptr k j = j
    on token k j = absurd (cc)
    on (array n t) k j = absurd (cc)
    on (structure ts) k j = absurd (cc)
    on (named n) k j = absurd (cc)

-- a type of a test that no pointer passes
pub no_pointer : (test : Ty → Bool) → test ptr ≡ false → (ty : Ty) → test ty ≡ true → (v : Value) → PointsBy ty v
no_pointer test never ty e v = type_points ty v (λ et.
    let no : true ≡ false = sym e ∙ ap test et ∙ never in absurd (cc))

-- ---- names

set_at : (P : Value → Type 0) (env : Env) (n : ℕ) (x : Value) → P Value.Poison → P x
    → P (value_in (with_value env n x) n)
set_at P [] n x p q = p
set_at P (y ∷ env) zero x p q = q
set_at P (y ∷ env) (suc n) x p q = set_at P env n x p q

pub set_points : (f : Function) (env : Env) (n : ℕ) (x : Value) → ArePointing f env → PointsAs (value_kind f n) x
    → ArePointing f (with_value env n x)
set_points f env n x h k v = on (n == v) refl
  where
    on : (t : Bool) → (n == v) ≡ t → PointsAs (value_kind f v) (value_in (with_value env n x) v)
    on true e =
        let same : n ≡ v = eqb-true n v e in
        subst (λ (u : ℕ). PointsAs (value_kind f u) (value_in (with_value env n x) u)) same
        (set_at (PointsAs (value_kind f n)) env n x (poison_points (value_kind f n)) k)
    on false e = subst (PointsAs (value_kind f v))
        (sym (set_elsewhere env n v x (λ same. let no : (n == v) ≡ true = eq-eqb n v same in
        let wrong : true ≡ false = sym no ∙ e in absurd (cc)))) (h v)

pub result_points : (f : Function) (env : Env) (result : Option ℕ) (x : Value) → ArePointing f env
    → ((n : ℕ) → result ≡ Some n → PointsAs (value_kind f n) x) → ArePointing f (with_result env result x)
result_points f env None x h k = h
result_points f env (Some n) x h k = set_points f env n x h (k n refl)

params_point : (f : Function) (env : Env) (params : List Param) (vs : List Value) → ArePointing f env
    → AllByRecursion (λ (p : Param). value_kind f p.name ≡ Some (kind_of p.ty)) params → PointParams params vs
    → ArePointing f (with_params env params vs)
params_point f env [] vs h k l = h
params_point f env (p ∷ params) [] h k l = h
params_point f env (p ∷ params) (v ∷ vs) h k l =
    params_point f (with_value env p.name v) params vs
    (set_points f env p.name v h (points_as (Some (kind_of p.ty)) (value_kind f p.name) v k.0 l.0)) k.1 l.1

unset : (n v : ℕ) → value_in (replicate n None) v ≡ Value.Poison
unset zero v = refl
unset (suc n) zero = refl
unset (suc n) (suc v) = unset n v

unset_points : (f : Function) (n : ℕ) → ArePointing f (replicate n None)
unset_points f n v = subst (PointsAs (value_kind f v)) (sym (unset n v)) (poison_points (value_kind f v))

pub entry_points : (m : Module) (f : Function) → KeepsTypes m f → (args : List Value) → PointParams f.params args
    → ArePointing f (entry_values f args)
entry_points m f rules args h =
    params_point f (replicate (length f.names) None) f.params args (unset_points f (length f.names)) rules.params h

-- ---- operands

local_points : (k : Option Kind) (ty : Ty) (v : Value) → fits_kind k ty ≡ true → PointsAs k v → PointsBy ty v
local_points k ty v e h = type_points ty v (λ et. on k (ap (fits_kind k) (sym et) ∙ e) h)
  where
    on : (k : Option Kind) → fits_kind k ptr ≡ true → PointsAs k v → IsAddress v
    on None e h = absurd (cc)
    on (Some (Kind.Int u)) e h = absurd (cc)
    on (Some Kind.Ptr) e h = h
    on (Some Kind.Token) e h = absurd (cc)
    on (Some Kind.Saved) e h = absurd (cc)
    on (Some Kind.Other) e h = absurd (cc)

global_address : (m : Module) (f g d : Option ℕ) → IsAddress (address_from m f g d)
global_address m (Some f) g d = tt
global_address m None (Some g) d = tt
global_address m None None (Some d) = tt
global_address m None None None = tt

-- a literal of any other type than an integer's is poison
pub literal_points : (ty : Ty) (z : ℤ) → PointsBy ty (literal ty z)
literal_points (int w) z = tt
literal_points ptr z = tt
literal_points token z = tt
literal_points (array n t) z = tt
literal_points (structure ts) z = tt
literal_points (named n) z = tt

pub operand_points : (m : Module) (f : Function) (env : Env) (ty : Ty) (x : Operand) → ArePointing f env
    → fits (value_kind f) ty x ≡ true → PointsBy ty (operand_value m env ty x)
operand_points m f env ty (Operand.Local v) h e = local_points (value_kind f v) ty (value_in env v) e (h v)
operand_points m f env ty (Operand.Global n) h e = type_points ty (address_of m n)
    (λ et. global_address m (function_named m n) (global_named m n) (declaration_named m n))
operand_points m f env ty (Operand.Number z) h e = literal_points ty z
operand_points m f env ty Operand.True h e = no_pointer (is_int 1) refl ty e _
operand_points m f env ty Operand.False h e = no_pointer (is_int 1) refl ty e _
operand_points m f env ty Operand.Null h e = type_points ty _ (λ et. tt)
operand_points m f env ty Operand.None h e = no_pointer is_token refl ty e _
operand_points m f env ty Operand.Poison h e = poison_points (Some (kind_of ty))

pub arg_points : (m : Module) (f : Function) (env : Env) (a : Arg) → ArePointing f env
    → fits_arg (value_kind f) a ≡ true → PointsBy a.ty (arg_value m env a)
arg_points m f env a h e = operand_points m f env a.ty a.value h e

-- ---- phis

incoming_points : (m : Module) (f : Function) (env : Env) (ty : Ty) (label : ℕ) (is : List Incoming)
    → ArePointing f env → list_all (takes (value_kind f) ty) is ≡ true
    → PointsBy ty (operand_value m env ty (incoming_from is label))
incoming_points m f env ty label [] h e = poison_points (Some (kind_of ty))
incoming_points m f env ty label (i ∷ is) h e =
    let r = both_true (fits (value_kind f) ty i.value) (list_all (takes (value_kind f) ty) is) e in
    on (i.from == label) r.0 (incoming_points m f env ty label is h r.1)
  where
    on : (t : Bool) → fits (value_kind f) ty i.value ≡ true
        → PointsBy ty (operand_value m env ty (incoming_from is label))
        → PointsBy ty (operand_value m env ty (if t then i.value else incoming_from is label))
    on true e rest = operand_points m f env ty i.value h e
    on false e rest = rest

all_phis : (m : Module) (f : Function) (env now : Env) (label : ℕ) (phis : List Phi) → ArePointing f env
    → ArePointing f now → AllByRecursion (FitsPhi f) phis → ArePointing f (with_all now (phi_values m env label phis))
all_phis m f env now label [] h k rules = k
all_phis m f env now label (p ∷ phis) h k rules =
    let e = both_true (is_scalar p.ty) (list_all (takes (value_kind f) p.ty) p.incoming) rules.0.fits in
    all_phis m f env (with_value now p.result (operand_value m env p.ty (incoming_from p.incoming label))) label phis h
    (set_points f now p.result (operand_value m env p.ty (incoming_from p.incoming label)) k
    (points_as (Some (kind_of p.ty)) (value_kind f p.result) _ rules.0.own
    (incoming_points m f env p.ty label p.incoming h e.1))) rules.1

-- a block is entered
pub block_points : (m : Module) (f : Function) (block label : ℕ) (env : Env) → KeepsTypes m f → ArePointing f env
    → ArePointing f (values_in m (slice_get f.blocks block) label env)
block_points m f block label env rules h = all_phis m f env env label (phis_of (slice_get f.blocks block)) h h
    (rules.phis block)

-- ---- values that are handed on

pub kept_points : (f : Function) (keep : ℕ → Bool) (env : Env) → ArePointing f env → ArePointing f (kept keep env)
kept_points f keep env h v = on keep env v (h v)
  where
    one : (k : Option Kind) (t : Bool) (o : Option Value) (rest more : Env)
        → PointsAs k (value_in (o ∷ rest) 0) → PointsAs k (value_in ((if t then o else None) ∷ more) 0)
    one k true o rest more j = j
    one k false o rest more j = poison_points k

    on : (keep : ℕ → Bool) (env : Env) (n : ℕ) → PointsAs (value_kind f v) (value_in env n)
        → PointsAs (value_kind f v) (value_in (kept keep env) n)
    on keep [] n j = j
    on keep (o ∷ env) zero j = one (value_kind f v) (keep 0) o env (kept (λ i. keep (suc i)) env) j
    on keep (o ∷ env) (suc n) j = on (λ i. keep (suc i)) env n j

-- an address may go to another block
moved_points : (k : Option Kind) (a v : Value) → PointsAs k v → PointsAs k (in_new_slot a v)
moved_points None a v h = tt
moved_points (Some (Kind.Int w)) a v h = tt
moved_points (Some Kind.Token) a v h = tt
moved_points (Some Kind.Saved) a v h = tt
moved_points (Some Kind.Other) a v h = tt
moved_points (Some Kind.Ptr) a (Value.Int x) h = absurd h
moved_points (Some Kind.Ptr) (Value.Ptr (Pointer.At b o)) (Value.Ptr (Pointer.At c p)) h = tt
moved_points (Some Kind.Ptr) (Value.Ptr (Pointer.At b o)) (Value.Ptr Pointer.Null) h = tt
moved_points (Some Kind.Ptr) (Value.Ptr (Pointer.At b o)) (Value.Ptr (Pointer.Func g)) h = tt
moved_points (Some Kind.Ptr) (Value.Ptr (Pointer.At b o)) Value.Poison h = tt
moved_points (Some Kind.Ptr) (Value.Ptr Pointer.Null) (Value.Ptr p) h = tt
moved_points (Some Kind.Ptr) (Value.Ptr Pointer.Null) Value.Poison h = tt
moved_points (Some Kind.Ptr) (Value.Ptr (Pointer.Func g)) (Value.Ptr p) h = tt
moved_points (Some Kind.Ptr) (Value.Ptr (Pointer.Func g)) Value.Poison h = tt
moved_points (Some Kind.Ptr) (Value.Int y) (Value.Ptr p) h = tt
moved_points (Some Kind.Ptr) (Value.Int y) Value.Poison h = tt
moved_points (Some Kind.Ptr) Value.Poison (Value.Ptr p) h = tt
moved_points (Some Kind.Ptr) Value.Poison Value.Poison h = tt

pub renewed_points : (f : Function) (roots : ℕ → Option ℕ) (now env : Env) → ArePointing f env
    → ArePointing f (renewed_values roots now env)
renewed_points f roots now env h v = on roots env v (h v)
  where
    one : (root : Option ℕ) (o : Option Value) (rest more : Env) → PointsAs (value_kind f v) (value_in (o ∷ rest) 0)
        → PointsAs (value_kind f v) (value_in (renewed_value now root o ∷ more) 0)
    one None None rest more j = j
    one None (Some x) rest more j = j
    one (Some a) None rest more j = j
    one (Some a) (Some x) rest more j = moved_points (value_kind f v) (value_in now a) x j

    on : (roots : ℕ → Option ℕ) (env : Env) (n : ℕ) → PointsAs (value_kind f v) (value_in env n)
        → PointsAs (value_kind f v) (value_in (renewed_values roots now env) n)
    on roots [] n j = j
    on roots (o ∷ env) zero j = one (roots 0) o env (renewed_values (λ i. roots (suc i)) now env) j
    on roots (o ∷ env) (suc n) j = on (λ i. roots (suc i)) env n j

-- ---- what a callee gives back

-- a result of one type is right for a name of the other
goes : (k : Option Kind) (ty given : Option Ty) (v : Value) → same_types_of ty given ≡ true
    → ((t : Ty) → ty ≡ Some t → k ≡ Some (kind_of t)) → (ty ≡ None → ⊥) → PointsBack given v → PointsAs k v
goes k None given v e own some h = absurd (some refl)
goes k (Some t) None v e own some h = absurd (cc)
goes k (Some t) (Some u) v e own some h =
    points_as (Some (kind_of t)) k v (own t refl) (points_back t u v e h)

module _ (m : Module) (f : Function) (rules : KeepsTypes m f) (block at : ℕ) (result : Option ℕ) (must_tail : Bool)
    (ty : Option Ty) (callee : Callee) (args : List Arg)
    (stands : fetch f block at ≡ AtInstr (Instr.Call result must_tail ty callee args)) where
  -- a call without a type has no name of a pointer's kind
  untyped : ty ≡ None → (r : ℕ) → result ≡ Some r → (v : Value) → PointsAs (value_kind f r) v
  untyped none r er v = points_as (Some Kind.Other) (value_kind f r) v
      (call_kind_is m f rules block at result must_tail ty callee args stands r er
      ∙ ap (λ (o : Option Ty). Some (result_kind callee o)) none) tt

  pub points_on : ((t : Ty) → result_kind callee (Some t) ≡ kind_of t) → (func : ℕ)
      → same_types_of ty (function_at m func).result ≡ true → PointsOn m func result f
  points_on plain func same r er v back = on ty refl
    where
      on : (o : Option Ty) → ty ≡ o → PointsAs (value_kind f r) v
      on None e = untyped e r er v
      on (Some t) e = goes (value_kind f r) ty (function_at m func).result v same
          (λ u eu. call_kind_is m f rules block at result must_tail ty callee args stands r er
          ∙ ap (λ (o : Option Ty). Some (result_kind callee o)) eu ∙ ap Some (plain u))
          (λ none. let both : Some t ≡ None = sym e ∙ none in absurd (cc)) back
