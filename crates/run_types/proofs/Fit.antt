-- Values, names and operands that fit.
use Rattle.std.proofs.Common.{◌≡◌, ℕ, zero, suc, ◌^◌, Bool, true, false, List, [], ◌∷◌, length, ℤ, ◌&&◌, ◌==◌}
use Rattle.std.proofs.Common.{Option, Some, None, refl, sym, ap, ◌∙◌, subst, arith, replicate}
use Rattle.std.proofs.lemmas.Bool.{eq-eqb, eqb-true, ltb-true}
use Rattle.std.specs.List.{AllByRecursion, list_all}
use Rattle.std.specs.Prelude.{if◌then◌else◌, nat_lt, slice_get}
use Rattle.run_hooks.specs.ir_model.Layout.{same_type}
use Rattle.run_hooks.specs.ir_model.Ty.{Ty, array, int, named, ptr, structure, token}
use Rattle.run_hooks.specs.ir_model.declared.instr.Incoming.{Incoming}
use Rattle.run_hooks.specs.ir_model.declared.instr.Phi.{Phi}
use Rattle.run_hooks.specs.ir_model.declared.module.Function.{Function}
use Rattle.run_hooks.specs.ir_model.declared.module.Module.{Module}
use Rattle.run_hooks.specs.ir_model.declared.module.Param.{Param}
use Rattle.run_hooks.specs.ir_model.declared.operand.Arg.{Arg}
use Rattle.run_hooks.specs.ir_model.declared.operand.Operand.{Operand}
use Rattle.run_hooks.proofs.pass_renewed_proof.Sets.{set_elsewhere}
use Rattle.rule_types.specs.Wants.{is_int, is_ptr, is_token}
use Rattle.rule_values.specs.Fits.{fits, fits_arg, fits_kind, is_scalar}
use Rattle.rule_values.specs.Kinds.{kind_if, kind_of, value_kind}
use Rattle.rule_values.specs.Values.{takes}
use Rattle.rule_values.specs.declared.kinds.Kind.{Kind}
use Rattle.run_hooks.proofs.run_ints.Widths.{IsWordOf-word_of}
use Rattle.run_hooks.specs.run_ints.Numbers.{truth}
use Rattle.run_hooks.specs.run_ints.Words.{IsNumOf, IsWordOf}
use Rattle.run_hooks.specs.run_ints.declared.num.Num.{Num}
use Rattle.run_hooks.specs.run_memory.declared.pointer.Value.{Value}
use Rattle.run_hooks.specs.run_step.Step.{entry_values, incoming_from, phi_values, phis_of, values_in, with_all, with_params}
use Rattle.run_hooks.specs.run_step.Values.{Env, arg_value, is_word_of, literal, number_of_width, operand_value, truth_value}
use Rattle.run_hooks.specs.run_step.Values.{value_in, value_of, with_result, with_value}
use Rattle.run_types.specs.Fitting.{AreFitting, FitParams, FitsKind, FitsType, IsInteger}
use Rattle.run_types.specs.Rules.{FitsPhi, KeepsTypes}

-- ---- booleans

pub both_true : (a b : Bool) → (a && b) ≡ true → (a ≡ true) × (b ≡ true)
both_true true b e = (refl, e)
both_true false b e = absurd (cc)

-- ---- kinds

pub poison_fits : (k : Option Kind) → FitsKind k Value.Poison
poison_fits None = tt
poison_fits (Some (Kind.Int w)) = tt
poison_fits (Some Kind.Ptr) = tt
poison_fits (Some Kind.Token) = tt
poison_fits (Some Kind.Saved) = tt
poison_fits (Some Kind.Other) = tt

pub type_fits : (ty : Ty) (v : Value) → ((w : ℕ) → ty ≡ int w → IsInteger w v) → FitsType ty v
type_fits (int w) v h = h w refl
type_fits ptr v h = tt
type_fits token v h = tt
type_fits (array n t) v h = tt
type_fits (structure ts) v h = tt
type_fits (named n) v h = tt

pub of_int : (w : ℕ) (ty : Ty) (v : Value) → ty ≡ int w → FitsType ty v → IsInteger w v
of_int w ty v e h = subst (λ (t : Ty). FitsType t v) e h

pub fits_as : (k l : Option Kind) (v : Value) → l ≡ k → FitsKind k v → FitsKind l v
fits_as k l v e h = subst (λ (j : Option Kind). FitsKind j v) (sym e) h

-- a value of a type is one of the same type
pub same_fits : (t u : Ty) (v : Value) → same_type t u ≡ true → FitsType t v → FitsType u v
same_fits t u v e h = type_fits u v (λ w eu. on t w (ap (same_type t) (sym eu) ∙ e) h)
  where
    on : (t : Ty) (w : ℕ) → same_type t (int w) ≡ true → FitsType t v → IsInteger w v
    on (int u) w k j = let is : u ≡ w = eqb-true u w k in subst (λ (n : ℕ). IsInteger n v) is j
    on ptr w k j = absurd (cc)
    on token w k j = absurd (cc)
    on (array n t) w k j = absurd (cc)
    on (structure ts) w k j = absurd (cc)
    on (named n) w k j = absurd (cc)

pub same_back : (t u : Ty) (v : Value) → same_type t u ≡ true → FitsType u v → FitsType t v
same_back t u v e h = type_fits t v (λ w et. on u w (ap (λ (s : Ty). same_type s u) (sym et) ∙ e) h)
  where
    on : (u : Ty) (w : ℕ) → same_type (int w) u ≡ true → FitsType u v → IsInteger w v
    on (int u) w k j = let is : w ≡ u = eqb-true w u k in subst (λ (n : ℕ). IsInteger n v) (sym is) j
    on ptr w k j = absurd (cc)
    on token w k j = absurd (cc)
    on (array n t) w k j = absurd (cc)
    on (structure ts) w k j = absurd (cc)
    on (named n) w k j = absurd (cc)

itself : (n : ℕ) → (n == n) ≡ true
itself n = eq-eqb n n refl

pub kind_self : (n : ℕ) (k : Kind) → kind_if n k n ≡ Some k
kind_self n k = ap (λ (t : Bool). if t then Some k else None) (itself n)

-- ---- numbers

pub number_fits : (w : ℕ) (n : Num) → IsNumOf w n → IsInteger w (value_of n)
number_fits w Num.Poison h = tt
number_fits w (Num.Is x) h = h

pub number_of : (w : ℕ) (v : Value) → IsNumOf w (number_of_width w v)
number_of w Value.Poison = tt
number_of w (Value.Ptr p) = tt
number_of w (Value.Int x) = on (is_word_of w x) refl
  where
    on : (t : Bool) → is_word_of w x ≡ t → IsNumOf w (if t then Num.Is x else Num.Poison)
    on true e =
        let r = both_true (x.width == w) (nat_lt x.bits (2 ^ w)) e in
        record { width = eqb-true x.width w r.0; below = ltb-true x.bits (2 ^ w) r.1 }
    on false e = tt

pub truth_word : (b : Bool) → IsWordOf 1 (truth b)
truth_word true = record { width = refl; below = omega arith }
truth_word false = record { width = refl; below = omega arith }

-- ---- names

set_at : (P : Value → Type 0) (env : Env) (n : ℕ) (x : Value) → P Value.Poison → P x
    → P (value_in (with_value env n x) n)
set_at P [] n x p q = p
set_at P (y ∷ env) zero x p q = q
set_at P (y ∷ env) (suc n) x p q = set_at P env n x p q

pub set_fits : (f : Function) (env : Env) (n : ℕ) (x : Value) → AreFitting f env → FitsKind (value_kind f n) x
    → AreFitting f (with_value env n x)
set_fits f env n x h k v = on (n == v) refl
  where
    on : (t : Bool) → (n == v) ≡ t → FitsKind (value_kind f v) (value_in (with_value env n x) v)
    on true e =
        let same : n ≡ v = eqb-true n v e in
        subst (λ (u : ℕ). FitsKind (value_kind f u) (value_in (with_value env n x) u)) same
        (set_at (FitsKind (value_kind f n)) env n x (poison_fits (value_kind f n)) k)
    on false e = subst (FitsKind (value_kind f v))
        (sym (set_elsewhere env n v x (λ same. let no : (n == v) ≡ true = eq-eqb n v same in
        let wrong : true ≡ false = sym no ∙ e in absurd (cc)))) (h v)

pub result_fits : (f : Function) (env : Env) (result : Option ℕ) (x : Value) → AreFitting f env
    → ((n : ℕ) → result ≡ Some n → FitsKind (value_kind f n) x) → AreFitting f (with_result env result x)
result_fits f env None x h k = h
result_fits f env (Some n) x h k = set_fits f env n x h (k n refl)

params_fit : (f : Function) (env : Env) (params : List Param) (vs : List Value) → AreFitting f env
    → AllByRecursion (λ (p : Param). value_kind f p.name ≡ Some (kind_of p.ty)) params → FitParams params vs
    → AreFitting f (with_params env params vs)
params_fit f env [] vs h k l = h
params_fit f env (p ∷ params) [] h k l = h
params_fit f env (p ∷ params) (v ∷ vs) h k l =
    params_fit f (with_value env p.name v) params vs
    (set_fits f env p.name v h (fits_as (Some (kind_of p.ty)) (value_kind f p.name) v k.0 l.0)) k.1 l.1

unset : (n v : ℕ) → value_in (replicate n None) v ≡ Value.Poison
unset zero v = refl
unset (suc n) zero = refl
unset (suc n) (suc v) = unset n v

pub unset_fits : (f : Function) (n : ℕ) → AreFitting f (replicate n None)
unset_fits f n v = subst (FitsKind (value_kind f v)) (sym (unset n v)) (poison_fits (value_kind f v))

pub entry_fits : (m : Module) (f : Function) → KeepsTypes m f → (args : List Value) → FitParams f.params args
    → AreFitting f (entry_values f args)
entry_fits m f rules args h =
    params_fit f (replicate (length f.names) None) f.params args (unset_fits f (length f.names)) rules.params h

-- ---- operands

pub local_fits : (k : Option Kind) (ty : Ty) (v : Value) → fits_kind k ty ≡ true → FitsKind k v → FitsType ty v
local_fits k ty v e h = type_fits ty v (λ w et. on k w (ap (fits_kind k) (sym et) ∙ e) h)
  where
    on : (k : Option Kind) (w : ℕ) → fits_kind k (int w) ≡ true → FitsKind k v → IsInteger w v
    on None w e h = absurd (cc)
    on (Some (Kind.Int u)) w e h = let is : u ≡ w = eqb-true u w e in subst (λ (n : ℕ). IsInteger n v) is h
    on (Some Kind.Ptr) w e h = absurd (cc)
    on (Some Kind.Token) w e h = absurd (cc)
    on (Some Kind.Saved) w e h = absurd (cc)
    on (Some Kind.Other) w e h = absurd (cc)

pub no_integer : (test : Ty → Bool) → ((w : ℕ) → test (int w) ≡ false) → (ty : Ty) → test ty ≡ true → (v : Value)
    → FitsType ty v
no_integer test never ty e v = type_fits ty v (λ w et.
    let no : true ≡ false = sym e ∙ ap test et ∙ never w in absurd (cc))

pub truth_fits : (ty : Ty) → is_int 1 ty ≡ true → (b : Bool) → FitsType ty (truth_value b)
truth_fits ty e b = type_fits ty (truth_value b) (λ w et.
    let at : (w == 1) ≡ true = ap (is_int 1) (sym et) ∙ e in
    let is : w ≡ 1 = eqb-true w 1 at in
    subst (λ (n : ℕ). IsInteger n (truth_value b)) (sym is) (truth_word b))

pub literal_fits : (ty : Ty) (z : ℤ) → FitsType ty (literal ty z)
literal_fits ty z = type_fits ty (literal ty z) (λ w et.
    subst (λ (t : Ty). IsInteger w (literal t z)) (sym et) (IsWordOf-word_of w z))

pub operand_fits : (m : Module) (f : Function) (env : Env) (ty : Ty) (x : Operand) → AreFitting f env
    → fits (value_kind f) ty x ≡ true → FitsType ty (operand_value m env ty x)
operand_fits m f env ty (Operand.Local v) h e = local_fits (value_kind f v) ty (value_in env v) e (h v)
operand_fits m f env ty (Operand.Global n) h e = no_integer is_ptr (λ w. refl) ty e _
operand_fits m f env ty (Operand.Number z) h e = literal_fits ty z
operand_fits m f env ty Operand.True h e = truth_fits ty e true
operand_fits m f env ty Operand.False h e = truth_fits ty e false
operand_fits m f env ty Operand.Null h e = no_integer is_ptr (λ w. refl) ty e _
operand_fits m f env ty Operand.None h e = no_integer is_token (λ w. refl) ty e _
operand_fits m f env ty Operand.Poison h e = poison_fits (Some (kind_of ty))

pub arg_fits : (m : Module) (f : Function) (env : Env) (a : Arg) → AreFitting f env
    → fits_arg (value_kind f) a ≡ true → FitsType a.ty (arg_value m env a)
arg_fits m f env a h e = operand_fits m f env a.ty a.value h e

-- ---- phis

incoming_fits : (m : Module) (f : Function) (env : Env) (ty : Ty) (label : ℕ) (is : List Incoming) → AreFitting f env
    → list_all (takes (value_kind f) ty) is ≡ true → FitsType ty (operand_value m env ty (incoming_from is label))
incoming_fits m f env ty label [] h e = poison_fits (Some (kind_of ty))
incoming_fits m f env ty label (i ∷ is) h e =
    let r = both_true (fits (value_kind f) ty i.value) (list_all (takes (value_kind f) ty) is) e in
    on (i.from == label) r.0 (incoming_fits m f env ty label is h r.1)
  where
    on : (t : Bool) → fits (value_kind f) ty i.value ≡ true
        → FitsType ty (operand_value m env ty (incoming_from is label))
        → FitsType ty (operand_value m env ty (if t then i.value else incoming_from is label))
    on true e rest = operand_fits m f env ty i.value h e
    on false e rest = rest

all_phis : (m : Module) (f : Function) (env now : Env) (label : ℕ) (phis : List Phi) → AreFitting f env
    → AreFitting f now → AllByRecursion (FitsPhi f) phis → AreFitting f (with_all now (phi_values m env label phis))
all_phis m f env now label [] h k rules = k
all_phis m f env now label (p ∷ phis) h k rules =
    let e = both_true (is_scalar p.ty) (list_all (takes (value_kind f) p.ty) p.incoming) rules.0.fits in
    all_phis m f env (with_value now p.result (operand_value m env p.ty (incoming_from p.incoming label))) label phis h
    (set_fits f now p.result (operand_value m env p.ty (incoming_from p.incoming label)) k
    (fits_as (Some (kind_of p.ty)) (value_kind f p.result) _ rules.0.own
    (incoming_fits m f env p.ty label p.incoming h e.1))) rules.1

-- a block is entered
pub block_fits : (m : Module) (f : Function) (block label : ℕ) (env : Env) → KeepsTypes m f → AreFitting f env
    → AreFitting f (values_in m (slice_get f.blocks block) label env)
block_fits m f block label env rules h = all_phis m f env env label (phis_of (slice_get f.blocks block)) h h
    (rules.phis block)
