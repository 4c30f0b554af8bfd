-- An activation that was called stands beside one, with arguments that stand for one another.
use Rattle.std.proofs.Common.{◌≡◌, ℕ, ◌⊎◌, inl, inr, false, List, [], ◌∷◌, length, replicate, Option}
use Rattle.std.proofs.Common.{Some}
use Rattle.std.proofs.Common.{None, refl, sym, ap, ◌∙◌, subst, ⊎_elim, arith, ◌==◌}
use Rattle.std.proofs.lemmas.Bool.{false≢true}
use Rattle.std.specs.List.{Contains, list_any}
use Rattle.std.specs.Prelude.{IsFalse}
use Rattle.pass_kept_proof.specs.ir_model.Names.{function_at}
use Rattle.pass_kept_proof.specs.ir_model.declared.module.Module.{Module}
use Rattle.pass_kept_proof.specs.ir_model.declared.module.Param.{Param}
use Rattle.pass_kept_proof.proofs.Same.{neither}
use Rattle.pass_kept_proof.specs.Crossing.{is_param}
use Rattle.run_laws.specs.embedded.Related.{AreValues}
use Rattle.run_laws.specs.memory.Pointers.{IsValue}
use Rattle.pass_kept_proof.specs.run_memory.declared.block.MemoryBlock.{MemoryBlock}
use Rattle.pass_kept_proof.specs.run_memory.declared.pointer.Value.{Value}
use Rattle.pass_kept_proof.specs.run_source.Source.{called}
use Rattle.pass_kept_proof.specs.run_source.declared.state.Instance.{Instance}
use Rattle.pass_kept_proof.specs.run_source.declared.state.Mode.{Mode}
use Rattle.pass_kept_proof.specs.run_source.declared.state.State.{State}
use Rattle.pass_kept_proof.specs.run_step.Step.{block_of, entry_values}
use Rattle.pass_kept_proof.specs.run_step.Step.{with_params}
use Rattle.pass_kept_proof.specs.run_step.Values.{Env, pointer_to, value_in}
use Rattle.pass_kept_proof.specs.run_step.declared.world.Slot.{Slot}
use Rattle.pass_kept_proof.specs.run_step.declared.world.World.{World}
use Rattle.pass_renewed_proof.proofs.Phis.{set_one}
use Rattle.pass_renewed_proof.proofs.Ordinary.{own_address, roots_of}
use Rattle.pass_renewed_proof.proofs.Start.{blank_poison, params_others}
use Rattle.pass_renewed_proof.specs.Beside.{IsActivationBeside, IsBeside, IsFree}
use Rattle.pass_renewed_proof.specs.Beside.{IsOtherValue}
use Rattle.pass_renewed_proof.specs.Beside.{NoSlots}
use Rattle.pass_renewed_proof.specs.Ledger.{Ledger}
use Rattle.pass_renewed_proof.specs.Renewed.{Flags, Roots}
use Rattle.pass_renewed_proof.specs.SlotEnvs.{AreSlotEnvs}
use Rattle.pass_renewed_proof.specs.SlotRules.{IsMadeOnce, KeepsSlots}

-- ---- the values of a function at its entry

module _ (m : Module) (flags : Flags) (roots : Roots) (keeps : (func : ℕ)
    → KeepsSlots m (function_at m func) (flags func) (roots func)) (l : Ledger) (world : World) (func : ℕ) where
  params_stand : (params : List Param) (env other : Env) (vs ws : List Value) → ((v a : ℕ) → roots func v ≡ Some a
      → list_any (λ (p : Param). p.name == v) params ≡ false) → AreValues l.homes vs ws
      → AreSlotEnvs l.homes (roots func) env other
      → AreSlotEnvs l.homes (roots func) (with_params env params vs) (with_params other params ws)
  params_stand [] env other vs ws free stand envs = envs
  params_stand (p ∷ params) env other [] [] free stand envs = envs
  params_stand (p ∷ params) env other [] (w ∷ ws) free stand envs = absurd stand
  params_stand (p ∷ params) env other (v ∷ vs) [] free stand envs = absurd stand
  params_stand (p ∷ params) env other (v ∷ vs) (w ∷ ws) free stand envs = params_stand params _ _ vs ws
      (λ u a root. (neither (p.name == u) _ (free u a root)).1)
      stand.1
      (set_one m l.homes (roots func) (roots_of m (function_at m func) (flags func) (roots func) (keeps func)) world 0
      env other env other p.name v w (λ u a root is. differs p.name u (neither (p.name == u) _ (free u a root)).0
      (same_number p.name u is)) stand.0 envs)
    where
      same_number : (a b : ℕ) → Some a ≡ Some b → a ≡ b
      same_number a b e = cc

      differs : (a b : ℕ) → (a == b) ≡ false → a ≡ b → ⊥
      differs a b e is = absurd (grind arith)

  blank_stands : (n : ℕ) → AreSlotEnvs l.homes (roots func) (replicate n None) (replicate n None)
  blank_stands n = record {
    plain = λ v root. subst (λ z. IsValue l.homes z (value_in (replicate n None) v)) (sym (blank_poison n v)) tt;
    rooted = λ v a root. inl (blank_poison n v);
    room = omega arith;
  }

  -- a name that is no parameter's has no value
  not_param : (vs : List Value) (v : ℕ) → IsFalse (is_param (function_at m func) v)
      → value_in (entry_values (function_at m func) vs) v ≡ Value.Poison
  not_param vs v none = params_others (replicate (length (function_at m func).names) None) (function_at m func).params
      vs v none ∙ blank_poison (length (function_at m func).names) v

  other_called : (vs ws : List Value) (v : ℕ) → IsMadeOnce (function_at m func) v
      → IsOtherValue l (value_in (entry_values (function_at m func) vs) v) (value_in (entry_values (function_at m func)
      ws) v)
  other_called vs ws v made = record {
    unseated = λ b at. let q : None ≡ Some b = sym (ap block_of (not_param vs v made.no_param)) ∙ at in absurd (cc);
    nowhere = λ none. ap block_of (not_param ws v made.no_param);
  }

  none_in : (slot : Slot) → Contains [] slot → ⊥
  none_in slot (k, lt, e) = absurd (omega arith)

  -- an activation that was called stands beside one
  pub called_beside : (xs : List Instance) (memory target : List MemoryBlock) (depth : ℕ) (vs ws : List Value)
      (result : Option ℕ) (mode : Mode) → (mode ≡ Mode.Plain) ⊎ (mode ≡ Mode.Ramp) → AreValues l.homes vs ws
      → IsActivationBeside m flags roots l xs memory target depth (called m func vs result mode) (called m func ws
      result mode)
  called_beside xs memory target depth vs ws result mode is stand = record {
    values = entry_values (function_at m func) ws;
    slots = [];
    is = refl;
    envs = params_stand (function_at m func).params _ _ vs ws (keeps func).no_param stand (blank_stands (length
        (function_at m func).names));
    listed = NoSlots;
    others = λ v other. other_called vs ws v other.made;
    each = λ al b c flagged at. let p : Value.Poison ≡ pointer_to b = sym (not_param vs al ((keeps func).no_param al al
        ((keeps func).addresses al al flagged (own_address (function_at m func) al)))) ∙ at in absurd (cc);
    made = λ slot is. absurd (none_in slot is);
    modes = ⊎_elim (λ e. inl e) (λ e. inr (inl e)) is;
    came = λ e. absurd (not_resumed is e);
    begun = λ some. absurd (some refl);
    begins = λ e. absurd (not_resumed is e);
    departs = λ e. absurd (false≢true e);
    left = λ e. absurd (false≢true e);
  }
    where
      not_resumed : (mode ≡ Mode.Plain) ⊎ (mode ≡ Mode.Ramp) → mode ≡ Mode.Resumed → ⊥
      not_resumed (inl e) k = let z : Mode.Plain ≡ Mode.Resumed = sym e ∙ k in absurd (cc)
      not_resumed (inr e) k = let z : Mode.Ramp ≡ Mode.Resumed = sym e ∙ k in absurd (cc)

-- ---- an activation on top of those that there are

abbrev pub pushed_beside : (m : Module) (flags : Flags) (roots : Roots) → ((func : ℕ)
    → KeepsSlots m (function_at m func) (flags func) (roots func)) → (s t : State)
    → (beside : IsBeside m flags roots s t) → (func : ℕ) (vs ws : List Value) (result : Option ℕ) (mode : Mode)
    → (mode ≡ Mode.Plain) ⊎ (mode ≡ Mode.Ramp) → AreValues beside.ledger.homes vs ws
    → IsFree (function_at m s.top.func) (roots s.top.func) result
    → IsBeside m flags roots (record s { top = called m func vs result mode; below = s.top ∷ s.below }) (record t {
      top = called m func ws result mode;
      below = t.top ∷ t.below;
    })
pushed_beside m flags roots keeps s t beside func vs ws result mode is stand free = record {
  ledger = beside.ledger;
  outcome = beside.outcome;
  world = beside.world;
  entered = beside.entered;
  instances = beside.instances;
  top = called_beside m flags roots keeps beside.ledger s.world func s.instances s.world.memory t.world.memory (length
      (s.top ∷ s.below)) vs ws result mode is stand;
  below = (beside.top, free, beside.below);
}
