-- Values of names that tell, where names are set, functions and blocks are entered, and values are handed on.
use Rattle.std.proofs.Common.{◌≡◌, ◌≢◌, ◌⊎◌, inl, inr, ℕ, zero, suc, Bool, true, false, List, [], ◌∷◌, length, ℤ}
use Rattle.std.proofs.Common.{Option, Some, None, refl, sym, ◌∙◌, subst, replicate}
use Rattle.std.proofs.lemmas.Bool.{cases_eq}
use Rattle.std.specs.Prelude.{if◌then◌else◌, slice_get}
use Rattle.pass_frames_meaning.proofs.pass_renewed_proof.Sets.{set_elsewhere}
use Rattle.pass_frames_meaning.specs.Sized.{IsLonger}
use Rattle.pass_frames_meaning.specs.pass_frames_proof.ir_model.Ty.{Ty, array, int, named, ptr, structure, token}
use Rattle.pass_frames_meaning.specs.pass_frames_proof.ir_model.declared.instr.Phi.{Phi}
use Rattle.pass_frames_meaning.specs.pass_frames_proof.ir_model.declared.module.Function.{Function}
use Rattle.pass_frames_meaning.specs.pass_frames_proof.ir_model.declared.module.Module.{Module}
use Rattle.pass_frames_meaning.specs.pass_frames_proof.ir_model.declared.module.Param.{Param}
use Rattle.pass_frames_meaning.specs.pass_frames_proof.ir_model.declared.operand.Operand.{Operand}
use Rattle.pass_frames_meaning.specs.pass_frames_proof.pass_kept_proof.Kept.{kept}
use Rattle.pass_frames_meaning.specs.pass_frames_proof.run_laws.changed.Changed.{Each}
use Rattle.pass_frames_meaning.specs.pass_frames_proof.run_memory.declared.pointer.Offset.{Offset}
use Rattle.pass_frames_meaning.specs.pass_frames_proof.run_memory.declared.pointer.Pointer.{Pointer}
use Rattle.pass_frames_meaning.specs.pass_frames_proof.run_memory.declared.pointer.Value.{Value}
use Rattle.pass_frames_meaning.specs.pass_frames_proof.run_step.Step.{entry_values, incoming_from, phi_values, phis_of, values_in, with_all, with_params}
use Rattle.pass_frames_meaning.specs.pass_frames_proof.run_step.Values.{Env, literal, operand_value, value_in, with_result, with_value}
use Rattle.run_exact.specs.Names.{TakesBlockName}
use Rattle.run_exact.specs.States.{AreAsTold, GoesToNone, IsAsTold, IsSize, LeadsToSized}

-- ---- names

set_at : (P : Value → Type 0) (env : Env) (n : ℕ) (x : Value) → P Value.Poison → P x
    → P (value_in (with_value env n x) n)
set_at P [] n x p q = p
set_at P (y ∷ env) zero x p q = q
set_at P (y ∷ env) (suc n) x p q = set_at P env n x p q

unset : (n v : ℕ) → value_in (replicate n None) v ≡ Value.Poison
unset zero v = refl
unset (suc n) zero = refl
unset (suc n) (suc v) = unset n v

params_other : (env : Env) (params : List Param) (vs : List Value) (v : ℕ) → Each (λ (p : Param). p.name ≢ v) params
    → value_in (with_params env params vs) v ≡ value_in env v
params_other env [] vs v h = refl
params_other env (p ∷ params) [] v h = refl
params_other env (p ∷ params) (w ∷ vs) v h =
    params_other (with_value env p.name w) params vs v h.1 ∙ set_elsewhere env p.name v w h.0

entry_poison : (f : Function) (args : List Value) (v : ℕ) → Each (λ (p : Param). p.name ≢ v) f.params
    → value_in (entry_values f args) v ≡ Value.Poison
entry_poison f args v h =
    params_other (replicate (length f.names) None) f.params args v h ∙ unset (length f.names) v

phis_other : (m : Module) (env : Env) (label : ℕ) (phis : List Phi) (now : Env) (v : ℕ)
    → Each (λ (p : Phi). p.result ≢ v) phis → value_in (with_all now (phi_values m env label phis)) v ≡ value_in now v
phis_other m env label [] now v h = refl
phis_other m env label (p ∷ phis) now v h =
    let x = operand_value m env p.ty (incoming_from p.incoming label) in
    phis_other m env label phis (with_value now p.result x) v h.1 ∙ set_elsewhere now p.result v x h.0

-- what is handed on, or nothing
kept_value : (keep : ℕ → Bool) (env : Env) (v : ℕ)
    → (value_in (kept keep env) v ≡ value_in env v) ⊎ (value_in (kept keep env) v ≡ Value.Poison)
kept_value keep [] v = inl refl
kept_value keep (x ∷ env) zero = on (keep 0)
  where
    on : (t : Bool)
        → (value_in ((if t then x else None) ∷ kept (λ i. keep (suc i)) env) 0 ≡ value_in (x ∷ env) 0)
        ⊎ (value_in ((if t then x else None) ∷ kept (λ i. keep (suc i)) env) 0 ≡ Value.Poison)
    on true = inl refl
    on false = inr refl
kept_value keep (x ∷ env) (suc v) = kept_value (λ i. keep (suc i)) env v

literal_leads : (ty : Ty) (z : ℤ) (block : ℕ) (offset : Offset)
    → literal ty z ≡ Value.Ptr (Pointer.At block offset) → ⊥
literal_leads (int w) z block offset e = absurd (cc)
literal_leads ptr z block offset e = absurd (cc)
literal_leads token z block offset e = absurd (cc)
literal_leads (array n t) z block offset e = absurd (cc)
literal_leads (structure ts) z block offset e = absurd (cc)
literal_leads (named n) z block offset e = absurd (cc)

module _ (f : Function) (size : ℕ) (rows : List (ℕ × ℕ)) where
  abbrev Told : ℕ → Value → Type 0
  Told v x = IsAsTold f size rows v x

  abbrev AreTold : Env → Type 0
  AreTold env = (v : ℕ) → IsAsTold f size rows v (value_in env v)

  -- ---- values that tell nothing

  poison_size : IsSize size Value.Poison
  poison_size word e = absurd (cc)

  poison_leads : LeadsToSized rows size Value.Poison
  poison_leads block offset e = absurd (cc)

  pub poison_told : (v : ℕ) → Told v Value.Poison
  poison_told v = record { sizes = λ k. poison_size; blocks = λ k. poison_leads; memory = λ k. poison_leads }

  pub none_told : (result : Option ℕ) → GoesToNone f result → (v : ℕ) → result ≡ Some v → (x : Value) → Told v x
  none_told result none v e x = record {
    sizes = λ k. absurd (none v e (inl k));
    blocks = λ k. absurd (none v e (inr (inl k)));
    memory = λ k. absurd (none v e (inr (inr k)));
  }

  pub no_name : GoesToNone f None
  no_name v e k = absurd (cc)

  same_told : (v : ℕ) (x y : Value) → y ≡ x → Told v x → Told v y
  same_told v x y e h = subst (Told v) (sym e) h

  -- ---- names that are set

  pub set_told : (env : Env) (name : ℕ) (x : Value) → AreTold env → Told name x → AreTold (with_value env name x)
  set_told env name x h k v = on (cases_eq name v)
    where
      on : (name ≡ v) ⊎ (name ≡ v → ⊥) → Told v (value_in (with_value env name x) v)
      on (inl e) =
          subst (λ (u : ℕ). Told u (value_in (with_value env name x) u)) e
          (set_at (Told name) env name x (poison_told name) k)
      on (inr ne) = same_told v (value_in env v) (value_in (with_value env name x) v) (set_elsewhere env name v x ne) (h v)

  pub result_told : (env : Env) (result : Option ℕ) (x : Value) → AreTold env
      → ((v : ℕ) → result ≡ Some v → Told v x) → AreTold (with_result env result x)
  result_told env None x h k = h
  result_told env (Some name) x h k = set_told env name x h (k name refl)

  pub entry_told : (args : List Value) → AreTold (entry_values f args)
  entry_told args v = record {
    sizes = λ k. subst (IsSize size) (sym (entry_poison f args v k.params)) poison_size;
    blocks = λ k. subst (LeadsToSized rows size) (sym (entry_poison f args v k.params)) poison_leads;
    memory = λ k. subst (LeadsToSized rows size) (sym (entry_poison f args v k.params)) poison_leads;
  }

  -- ---- blocks that are entered

  module _ (m : Module) (env : Env) (told : AreTold env) (label : ℕ) where
    operand_leads : (ty : Ty) (x : Operand) → TakesBlockName f x → LeadsToSized rows size (operand_value m env ty x)
    operand_leads ty (Operand.Local v) k = (told v).blocks k
    operand_leads ty (Operand.Global n) k = absurd k
    operand_leads ty (Operand.Number z) k = λ block offset e. absurd (literal_leads ty z block offset e)
    operand_leads ty Operand.True k = λ block offset e. absurd (cc)
    operand_leads ty Operand.False k = λ block offset e. absurd (cc)
    operand_leads ty Operand.Null k = λ block offset e. absurd (cc)
    operand_leads ty Operand.None k = poison_leads
    operand_leads ty Operand.Poison k = poison_leads

    memory_phis : (phis : List Phi) (now : Env) (v : ℕ)
        → Each (λ (p : Phi). p.result ≡ v → (label : ℕ) → TakesBlockName f (incoming_from p.incoming label)) phis
        → LeadsToSized rows size (value_in now v)
        → LeadsToSized rows size (value_in (with_all now (phi_values m env label phis)) v)
    memory_phis [] now v h k = k
    memory_phis (p ∷ phis) now v h k =
        memory_phis phis (with_value now p.result (operand_value m env p.ty (incoming_from p.incoming label))) v h.1
        (on (cases_eq p.result v))
      where
        on : (p.result ≡ v) ⊎ (p.result ≡ v → ⊥)
            → LeadsToSized rows size (value_in (with_value now p.result (operand_value m env p.ty
            (incoming_from p.incoming label))) v)
        on (inl e) =
            subst (λ (u : ℕ). LeadsToSized rows size (value_in (with_value now p.result (operand_value m env p.ty
            (incoming_from p.incoming label))) u)) e
            (set_at (LeadsToSized rows size) now p.result (operand_value m env p.ty (incoming_from p.incoming label))
            poison_leads (operand_leads p.ty (incoming_from p.incoming label) (h.0 e label)))
        on (inr ne) =
            subst (LeadsToSized rows size)
            (sym (set_elsewhere now p.result v (operand_value m env p.ty (incoming_from p.incoming label)) ne)) k

    pub block_told : (block : ℕ) → AreTold (values_in m (slice_get f.blocks block) label env)
    block_told block v = record {
      sizes = λ k. subst (IsSize size) (sym (others v (k.phis block))) ((told v).sizes k);
      blocks = λ k. subst (LeadsToSized rows size) (sym (others v (k.phis block))) ((told v).blocks k);
      memory = λ k. memory_phis (phis_of (slice_get f.blocks block)) env v (k.phis block) ((told v).memory k);
    }
      where
        others : (v : ℕ) → Each (λ (p : Phi). p.result ≢ v) (phis_of (slice_get f.blocks block))
            → value_in (values_in m (slice_get f.blocks block) label env) v ≡ value_in env v
        others v h = phis_other m env label (phis_of (slice_get f.blocks block)) env v h

  -- ---- values that are handed on

  pub kept_told : (keep : ℕ → Bool) (env : Env) → AreTold env → AreTold (kept keep env)
  kept_told keep env h v = on (kept_value keep env v)
    where
      on : (value_in (kept keep env) v ≡ value_in env v) ⊎ (value_in (kept keep env) v ≡ Value.Poison)
          → Told v (value_in (kept keep env) v)
      on (inl e) = same_told v (value_in env v) (value_in (kept keep env) v) e (h v)
      on (inr e) = same_told v Value.Poison (value_in (kept keep env) v) e (poison_told v)

-- ---- more blocks

leads_longer : (rows more : List (ℕ × ℕ)) → IsLonger rows more → (size : ℕ) (x : Value) → LeadsToSized rows size x
    → LeadsToSized more size x
leads_longer rows more longer size x h block offset e =
    let k = h block offset e in record { align = k.align; there = longer.each block (size, k.align) k.there }

pub told_longer : (f : Function) (size : ℕ) (rows more : List (ℕ × ℕ)) (env : Env) → IsLonger rows more
    → AreAsTold f size rows env → AreAsTold f size more env
told_longer f size rows more env longer h v = record {
  sizes = (h v).sizes;
  blocks = λ k. leads_longer rows more longer size (value_in env v) ((h v).blocks k);
  memory = λ k. leads_longer rows more longer size (value_in env v) ((h v).memory k);
}
