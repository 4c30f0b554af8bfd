-- A value that is made is one that may cross, a token, an alloca's, begin's or coro.frame's.
use Rattle.std.proofs.Common.{◌≡◌, ◌⊎◌, inl, inr, ℕ, zero, suc, Bool, true, false, List, [], ◌∷◌, ◌++◌, refl, sym, ap, ◌∙◌, subst}
use Rattle.std.specs.Prelude.{None, Option, Some, if◌then◌else◌, is_some, map, slice_get, ◌||◌, ◌==◌}
use Rattle.ir_laws.proofs.facts.Lists.{FoundParam, FoundPhi, phi_names}
use Rattle.ir_laws.proofs.facts.Truth.{itself}
use Rattle.ir_laws.proofs.paths.source_rules.Locals.{listed_left, listed_right}
use Rattle.ir_laws.specs.flow_solver.Paths.{IsListed}
use Rattle.ir_parts.specs.Contents.{result_of}
use Rattle.ir_laws.specs.ir_model.Layout.{size_of}
use Rattle.ir_laws.specs.ir_model.Ty.{Ty, token}
use Rattle.ir_laws.specs.ir_model.declared.instr.Instr.{Instr}
use Rattle.ir_laws.specs.ir_model.declared.instr.Phi.{Phi}
use Rattle.ir_laws.specs.ir_model.declared.module.Block.{Block}
use Rattle.ir_laws.specs.ir_model.declared.module.Module.{Module}
use Rattle.ir_laws.specs.ir_model.declared.module.Param.{Param}
use Rattle.ir_laws.specs.ir_model.declared.operand.Arg.{Arg}
use Rattle.ir_laws.specs.ir_model.declared.operand.Callee.{Callee}
use Rattle.ir_laws.specs.ir_model.declared.operand.Intrinsic.{Intrinsic}
use Rattle.ir_laws.specs.ir_paths.Windows.{is_call_of}
use Rattle.rule_locals.specs.Markers.{made_size}
use Rattle.frame_contents.specs.frame_crossing.Values.{blocks_defined, instrs_defined, is_apart, is_token, is_token_result, params_defined, phis_defined, result_unless, unless}
use Rattle.rule_values.specs.Fits.{fits_kind}
use Rattle.rule_values.specs.Kinds.{call_kind, instr_kind, kind_if, kind_of, result_kind}
use Rattle.rule_values.specs.declared.kinds.Kind.{Kind}

-- ---- where a value stands among those that are defined

unless_listed : (b : Bool) (v : ℕ) → b ≡ false → IsListed v (unless b v)
unless_listed false v e = inl refl
unless_listed true v e = absurd (cc)

module _ (v : ℕ) where
  pub param_defined : (ps : List Param) (at : ℕ) (p : Param) → slice_get ps at ≡ Some p → p.name ≡ v → is_token p.ty ≡ false → IsListed v (params_defined ps)
  param_defined [] at p e same t = absurd (cc)
  param_defined (q ∷ ps) zero p e same t =
      let one : q ≡ p = cc in
      listed_left v (unless (is_token q.ty) q.name) (params_defined ps)
      (subst (λ (n : ℕ). IsListed v (unless (is_token q.ty) n)) (sym (ap (λ (x : Param). x.name) one ∙ same)) (unless_listed (is_token q.ty) v (ap (λ (x : Param). is_token x.ty) one ∙ t)))
  param_defined (q ∷ ps) (suc at) p e same t = listed_right v (unless (is_token q.ty) q.name) (params_defined ps) (param_defined ps at p e same t)

  pub phi_defined : (ps : List Phi) (at : ℕ) (p : Phi) → slice_get ps at ≡ Some p → p.result ≡ v → is_token p.ty ≡ false → IsListed v (phis_defined ps)
  phi_defined [] at p e same t = absurd (cc)
  phi_defined (q ∷ ps) zero p e same t =
      let one : q ≡ p = cc in
      listed_left v (unless (is_token q.ty) q.result) (phis_defined ps)
      (subst (λ (n : ℕ). IsListed v (unless (is_token q.ty) n)) (sym (ap (λ (x : Phi). x.result) one ∙ same)) (unless_listed (is_token q.ty) v (ap (λ (x : Phi). is_token x.ty) one ∙ t)))
  phi_defined (q ∷ ps) (suc at) p e same t = listed_right v (unless (is_token q.ty) q.result) (phis_defined ps) (phi_defined ps at p e same t)

  pub instr_defined : (is : List Instr) (at : ℕ) (i : Instr) → slice_get is at ≡ Some i → result_of i ≡ Some v → is_apart i ≡ false → IsListed v (instrs_defined is)
  instr_defined [] at i e makes t = absurd (cc)
  instr_defined (j ∷ is) zero i e makes t =
      let one : j ≡ i = cc in
      listed_left v (result_unless (is_apart j) (result_of j)) (instrs_defined is)
      (subst (λ (o : Option ℕ). IsListed v (result_unless (is_apart j) o)) (sym (ap result_of one ∙ makes)) (unless_listed (is_apart j) v (ap is_apart one ∙ t)))
  instr_defined (j ∷ is) (suc at) i e makes t = listed_right v (result_unless (is_apart j) (result_of j)) (instrs_defined is) (instr_defined is at i e makes t)

  pub block_defined : (bs : List Block) (q : ℕ) (b : Block) → slice_get bs q ≡ Some b → IsListed v (phis_defined b.phis) ⊎ IsListed v (instrs_defined b.instrs) → IsListed v (blocks_defined bs)
  block_defined [] q b e h = absurd (cc)
  block_defined (c ∷ bs) zero b e h =
      let one : c ≡ b = cc in
      on (subst (λ (x : Block). IsListed v (phis_defined x.phis) ⊎ IsListed v (instrs_defined x.instrs)) (sym one) h)
    where
      on : IsListed v (phis_defined c.phis) ⊎ IsListed v (instrs_defined c.instrs) → IsListed v (blocks_defined (c ∷ bs))
      on (inl l) = listed_left v (phis_defined c.phis) (instrs_defined c.instrs ++ blocks_defined bs) l
      on (inr l) = listed_right v (phis_defined c.phis) (instrs_defined c.instrs ++ blocks_defined bs) (listed_left v (instrs_defined c.instrs) (blocks_defined bs) l)
  block_defined (c ∷ bs) (suc q) b e h = listed_right v (phis_defined c.phis) (instrs_defined c.instrs ++ blocks_defined bs) (listed_right v (instrs_defined c.instrs) (blocks_defined bs) (block_defined bs q b e h))

  pub phi_found : (ps : List Phi) → IsListed v (phi_names ps) → FoundPhi ps v
  phi_found [] l = absurd l
  phi_found (p ∷ ps) (inl e) = record { at = 0; phi = p; there = refl; same = sym e }
  phi_found (p ∷ ps) (inr l) = let x = phi_found ps l in record { at = suc x.at; phi = x.phi; there = x.there; same = x.same }

  pub param_found : (ps : List Param) → IsListed v (map (λ p. p.name) ps) → FoundParam ps v
  param_found [] l = absurd l
  param_found (p ∷ ps) (inl e) = record { at = 0; param = p; there = refl; same = sym e }
  param_found (p ∷ ps) (inr l) = let x = param_found ps l in record { at = suc x.at; param = x.param; there = x.there; same = x.same }

-- ---- what is apart

is_the_token : (ty : Ty) → is_token ty ≡ true → ty ≡ token
is_the_token token e = refl
is_the_token _ e = absurd (cc)

pub token_fits : (ty : Ty) (o : Option Kind) → is_token ty ≡ true → o ≡ Some (kind_of ty) → fits_kind o token ≡ true
token_fits ty o t e = ap (λ (p : Option Kind). fits_kind p token) (e ∙ ap (λ (x : Ty). Some (kind_of x)) (is_the_token ty t))

kind_same : (r v : ℕ) (kind : Kind) → Some r ≡ Some v → kind_if r kind v ≡ Some kind
kind_same r v kind e = let same : r ≡ v = cc in ap (λ (b : Bool). if b then Some kind else None) (ap (λ (n : ℕ). n == v) same ∙ itself v)

called_token : (c : Callee) → fits_kind (Some (result_kind c (Some token))) token ≡ true
called_token (Callee.Named n) = refl
called_token (Callee.Allocator n) = refl
called_token (Callee.Local n) = refl
called_token (Callee.Intrinsic Intrinsic.CoroSave) = refl
called_token (Callee.Intrinsic _) = refl

alloca_made : (m : Module) (r v : ℕ) (ty : Ty) (align : ℕ) → Some r ≡ Some v → is_some (made_size m (Instr.Alloca r ty align) v) ≡ true
alloca_made m r v ty align e = let same : r ≡ v = cc in on (r == v) (ap (λ (n : ℕ). n == v) same ∙ itself v)
  where
    on : (b : Bool) → b ≡ true → is_some (if b then Some (size_of m ty) else None) ≡ true
    on true d = refl
    on false d = absurd (cc)

-- a token's, an alloca's, begin's or coro.frame's
pub data IsApartFor (v : ℕ) (i : Instr) : Type 0 where
  AToken : fits_kind (instr_kind i v) token ≡ true → IsApartFor v i
  AnAlloca : ((m : Module) → is_some (made_size m i v) ≡ true) → IsApartFor v i
  ABegin : is_call_of Intrinsic.CoroBegin i ≡ true → IsApartFor v i
  AFrame : is_call_of Intrinsic.CoroFrame i ≡ true → IsApartFor v i

token_called : (r v : ℕ) (ty : Option Ty) (c : Callee) → Some r ≡ Some v → is_token_result ty ≡ true → fits_kind (call_kind (Some r) (result_kind c ty) v) token ≡ true
token_called r v None c e t = absurd (cc)
token_called r v (Some ty) c e t =
    ap (λ (o : Option Kind). fits_kind o token) (kind_same r v (result_kind c (Some ty)) e)
    ∙ ap (λ (x : Ty). fits_kind (Some (result_kind c (Some x))) token) (is_the_token ty t) ∙ called_token c

of_call : (v r : ℕ) (must_tail : Bool) (ty : Option Ty) (c : Callee) (args : List Arg) → Some r ≡ Some v → (a : Bool) → is_token_result ty ≡ a → (b : Bool) → is_call_of Intrinsic.CoroBegin (Instr.Call (Some r) must_tail ty c args) ≡ b → (d : Bool) → is_call_of Intrinsic.CoroFrame (Instr.Call (Some r) must_tail ty c args) ≡ d → (a || (b || d)) ≡ true → IsApartFor v (Instr.Call (Some r) must_tail ty c args)
of_call v r must_tail ty c args e true p b q d s h = AToken (token_called r v ty c e p)
of_call v r must_tail ty c args e false p true q d s h = ABegin q
of_call v r must_tail ty c args e false p false q true s h = AFrame s
of_call v r must_tail ty c args e false p false q false s h = absurd (cc)

pub apart_for : (v : ℕ) (i : Instr) → result_of i ≡ Some v → is_apart i ≡ true → IsApartFor v i
apart_for v (Instr.Binary r op flags ty a b) e t = AToken (token_fits ty (kind_if r (kind_of ty) v) t (kind_same r v (kind_of ty) e))
apart_for v (Instr.Icmp r pred ty a b) e t = absurd (cc)
apart_for v (Instr.Select r c a b) e t = AToken (token_fits a.ty (kind_if r (kind_of a.ty) v) t (kind_same r v (kind_of a.ty) e))
apart_for v (Instr.Cast r op nneg a to) e t = AToken (token_fits to (kind_if r (kind_of to) v) t (kind_same r v (kind_of to) e))
apart_for v (Instr.Alloca r ty align) e t = AnAlloca (λ m. alloca_made m r v ty align e)
apart_for v (Instr.Load r ty x align) e t = AToken (token_fits ty (kind_if r (kind_of ty) v) t (kind_same r v (kind_of ty) e))
apart_for v (Instr.Store a x align) e t = absurd (cc)
apart_for v (Instr.Gep r inbounds ty x args) e t = absurd (cc)
apart_for v (Instr.Call None must_tail ty c args) e t = absurd (cc)
apart_for v (Instr.Call (Some r) must_tail ty c args) e t = of_call v r must_tail ty c args e (is_token_result ty) refl (is_call_of Intrinsic.CoroBegin (Instr.Call (Some r) must_tail ty c args)) refl (is_call_of Intrinsic.CoroFrame (Instr.Call (Some r) must_tail ty c args)) refl t
