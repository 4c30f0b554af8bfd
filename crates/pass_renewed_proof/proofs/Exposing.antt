-- What an instruction may spread of a slot's addresses is one of an escaped slot, but for the base of a getelementptr.
use Rattle.std.proofs.Common.{◌≡◌, ℕ, zero, suc, Bool, true, false, List, [], ◌∷◌, length, Option, Some, None}
use Rattle.std.proofs.Common.{refl, ap, ◌∙◌, ⊎_elim, arith, ◌==◌, ◌||◌}
use Rattle.std.proofs.lemmas.Bool.{false≢true}
use Rattle.std.specs.Prelude.{slice_get}
use Rattle.std.specs.List.{list_any}
use Rattle.pass_kept_proof.specs.ir_model.Names.{is_local}
use Rattle.pass_kept_proof.specs.ir_model.Ty.{Ty}
use Rattle.pass_kept_proof.specs.ir_model.declared.instr.Instr.{Instr}
use Rattle.pass_kept_proof.specs.ir_model.declared.module.Block.{Block}
use Rattle.pass_kept_proof.specs.ir_model.declared.module.Function.{Function}
use Rattle.pass_kept_proof.specs.ir_model.declared.operand.Arg.{Arg}
use Rattle.pass_kept_proof.specs.ir_model.declared.operand.Callee.{Callee}
use Rattle.pass_kept_proof.specs.ir_model.declared.operand.Intrinsic.{Intrinsic}
use Rattle.pass_kept_proof.specs.ir_model.declared.operand.Operand.{Operand}
use Rattle.pass_kept_proof.specs.ir_paths.Slots.{addresses_of, exposed_in_block, exposes, has_name, is_escaped, is_in_args}
use Rattle.pass_kept_proof.specs.ir_paths.Slots.{occurs_in_phi, occurs_in_term}
use Rattle.pass_kept_proof.proofs.Same.{either, or_left, or_right}
use Rattle.run_laws.specs.changed.Changed.{Each, values_of}
use Rattle.pass_kept_proof.specs.run_step.Step.{AtInstr, fetch, fetch_in, fetch_or}
use Rattle.pass_renewed_proof.specs.Ordinary.{IsBase}
use Rattle.pass_renewed_proof.specs.Shown.{spread_by}

-- ---- tests of lists

any_at : {A : Type 0} (t : A → Bool) (xs : List A) (k : ℕ) (x : A) → slice_get xs k ≡ Some x → t x ≡ true
    → list_any t xs ≡ true
any_at t [] k x e h = absurd (cc)
any_at t (y ∷ xs) zero x e h = let is : y ≡ x = cc in or_left (t y) _ (ap t is ∙ h)
any_at t (y ∷ xs) (suc k) x e h = or_right (t y) _ (any_at t xs k x e h)

any_named : (t : ℕ → Bool) (vs : List ℕ) (v : ℕ) → has_name vs v ≡ true → t v ≡ true → list_any t vs ≡ true
any_named t [] v h e = absurd (false≢true h)
any_named t (u ∷ vs) v h e = ⊎_elim (λ is. or_left (t u) _ (ap t (same u v is)
    ∙ e)) (λ k. or_right (t u) _ (any_named t vs v k e)) (either (u == v) (has_name vs v) h)
  where
    same : (a b : ℕ) → (a == b) ≡ true → a ≡ b
    same a b e = grind arith

-- ---- what is exposed escapes

-- an exposing instruction or terminator of a block
module _ (f : Function) (slot v : ℕ) (address : has_name (addresses_of f slot) v ≡ true) (block : ℕ) (b : Block)
    (there : slice_get f.blocks block ≡ Some b) where
  escapes : exposed_in_block v b ≡ true → is_escaped f slot ≡ true
  escapes h = any_named (λ u. list_any (exposed_in_block u) f.blocks) (addresses_of f slot) v address (any_at
      (exposed_in_block v) f.blocks block b there h)

  pub instr_escapes : (at : ℕ) (i : Instr) → slice_get b.instrs at ≡ Some i → exposes v i ≡ true
      → is_escaped f slot ≡ true
  instr_escapes at i e h = escapes (or_left (list_any (occurs_in_phi v) b.phis || list_any (exposes v) b.instrs) _
      (or_right (list_any (occurs_in_phi v) b.phis) _ (any_at (exposes v) b.instrs at i e h)))

  pub phi_escapes : list_any (occurs_in_phi v) b.phis ≡ true → is_escaped f slot ≡ true
  phi_escapes h = escapes (or_left (list_any (occurs_in_phi v) b.phis || list_any (exposes v) b.instrs) _ (or_left
      (list_any (occurs_in_phi v) b.phis) _ h))

  pub term_escapes : occurs_in_term v b.term ≡ true → is_escaped f slot ≡ true
  term_escapes h = escapes (or_right (list_any (occurs_in_phi v) b.phis || list_any (exposes v) b.instrs) _ h)

-- ---- operands

abbrev pub is_among : ℕ → List Operand → Bool
is_among v xs = list_any (is_local v) xs

last_false : (a : Bool) → (a || false) ≡ true → a ≡ true
last_false true h = refl
last_false false h = h

two : (a b : Bool) → (a || (b || false)) ≡ true → (a || b) ≡ true
two true b h = refl
two false b h = last_false b h

three : (a b c : Bool) → (a || (b || (c || false))) ≡ true → ((a || b) || c) ≡ true
three true b c h = refl
three false true c h = refl
three false false c h = last_false c h

among_args : (v : ℕ) (args : List Arg) → list_any (is_local v) (values_of args) ≡ true → is_in_args v args ≡ true
among_args v [] h = absurd (false≢true h)
among_args v (a ∷ args) h = ⊎_elim (λ e. or_left (is_local v a.value) _ e) (λ e. or_right (is_local v a.value) _
    (among_args v args e)) (either (is_local v a.value) _ h)

-- neither a marker nor coro.id nor a copy
exposed_by_intrinsic : (v : ℕ) (r : Option ℕ) (must_tail : Bool) (ty : Option Ty) (i : Intrinsic) (args : List Arg)
    → list_any (is_local v) (spread_by (Instr.Call r must_tail ty (Callee.Intrinsic i) args)) ≡ true
    → exposes v (Instr.Call r must_tail ty (Callee.Intrinsic i) args) ≡ true
exposed_by_intrinsic v r must_tail ty Intrinsic.LifetimeStart args h = absurd (false≢true h)
exposed_by_intrinsic v r must_tail ty Intrinsic.LifetimeEnd args h = absurd (false≢true h)
exposed_by_intrinsic v r must_tail ty Intrinsic.CoroId args h = absurd (false≢true h)
exposed_by_intrinsic v r must_tail ty Intrinsic.MemcpyI64 args h = absurd (false≢true h)
exposed_by_intrinsic v r must_tail ty Intrinsic.MemcpyI32 args h = absurd (false≢true h)
exposed_by_intrinsic v r must_tail ty _ args h = among_args v args h

local_called : (v f : ℕ) (args : List Arg) → list_any (is_local v) (Operand.Local f ∷ values_of args) ≡ true
    → ((v == f) || is_in_args v args) ≡ true
local_called v f args h = ⊎_elim (λ e. or_left (v == f) _ e) (λ e. or_right (v == f) _ (among_args v args e)) (either
    (v == f) _ h)

pub spread_exposes : (v : ℕ) (i : Instr) → list_any (is_local v) (spread_by i) ≡ true → (IsBase v i → ⊥)
    → exposes v i ≡ true
spread_exposes v (Instr.Binary name op flags ty a b) h base = two (is_local v a) (is_local v b) h
spread_exposes v (Instr.Icmp name pred ty a b) h base = two (is_local v a) (is_local v b) h
spread_exposes v (Instr.Select name x a b) h base = three (is_local v x) (is_local v a.value) (is_local v b.value) h
spread_exposes v (Instr.Cast name op nneg arg to) h base = last_false (is_local v arg.value) h
spread_exposes v (Instr.Alloca name ty align) h base = h
spread_exposes v (Instr.Load name ty p align) h base = h
spread_exposes v (Instr.Store arg p align) h base = last_false (is_local v arg.value) h
spread_exposes v (Instr.Gep name inbounds ty x indices) h base = ⊎_elim (λ e. absurd (base e)) (λ e. among_args v
    indices e) (either (is_local v x) _ h)
spread_exposes v (Instr.Call result must_tail ty (Callee.Named n) args) h base = among_args v args h
spread_exposes v (Instr.Call result must_tail ty (Callee.Allocator a) args) h base = among_args v args h
spread_exposes v (Instr.Call result must_tail ty (Callee.Intrinsic i) args) h base = exposed_by_intrinsic v result
    must_tail ty i args h
spread_exposes v (Instr.Call result must_tail ty (Callee.Local f) args) h base = local_called v f args h

-- ---- what stands at a place

pub spread_escapes : (f : Function) (slot v block at : ℕ) → has_name (addresses_of f slot) v ≡ true → ((i : Instr)
    → fetch f block at ≡ AtInstr i → IsBase v i → ⊥) → (i : Instr) → fetch f block at ≡ AtInstr i
    → list_any (is_local v) (spread_by i) ≡ true → is_escaped f slot ≡ true
spread_escapes f slot v block at address base i e h = on (slice_get f.blocks block) refl e
  where
    on : (o : Option Block) → slice_get f.blocks block ≡ o → fetch_in o at ≡ AtInstr i → is_escaped f slot ≡ true
    on None eo k = absurd (cc)
    on (Some b) eo k = by (slice_get b.instrs at) refl (at == length b.instrs) k
      where
        by : (z : Option Instr) → slice_get b.instrs at ≡ z → (t : Bool) → fetch_or z t b.term ≡ AtInstr i
            → is_escaped f slot ≡ true
        by (Some j) ej t k =
            let is : j ≡ i = cc in
            instr_escapes f slot v address block b eo at i (ej ∙ ap Some is) (spread_exposes v i h (base i e))
        by None ej true k = absurd (cc)
        by None ej false k = absurd (cc)

-- ---- from names to operands

pub each_operand : (P : Operand → Type 0) → (xs : List Operand) → ((v : ℕ) → list_any (is_local v) xs ≡ true
    → P (Operand.Local v)) → ((x : Operand) → ((v : ℕ) → x ≡ Operand.Local v → ⊥) → P x) → Each P xs
each_operand P [] locals others = tt
each_operand P (x ∷ xs) locals others = (
  here x refl,
  each_operand P xs (λ v h. locals v (or_right (is_local v x) _ h)) others,
)
  where
    itself : (v : ℕ) → (v == v) ≡ true
    itself v = grind arith

    here : (y : Operand) → x ≡ y → P y
    here (Operand.Local v) e = locals v (or_left (is_local v x) _ (ap (is_local v) e ∙ itself v))
    here (Operand.Global n) e = others (Operand.Global n) (λ v k. absurd (cc))
    here (Operand.Number z) e = others (Operand.Number z) (λ v k. absurd (cc))
    here Operand.True e = others Operand.True (λ v k. absurd (cc))
    here Operand.False e = others Operand.False (λ v k. absurd (cc))
    here Operand.Null e = others Operand.Null (λ v k. absurd (cc))
    here Operand.None e = others Operand.None (λ v k. absurd (cc))
    here Operand.Poison e = others Operand.Poison (λ v k. absurd (cc))
