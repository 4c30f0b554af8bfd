-- An instruction that gives a value leads to states beside each other where the values stand for one another.
use Rattle.std.proofs.Common.{◌≡◌, ℕ, zero, suc, ◌≤◌, ◌<◌, false, List, [], ◌∷◌, length, Option, Some, None}
use Rattle.std.proofs.Common.{refl, sym, ap, ◌∙◌, subst, ⊎_elim, arith}
use Rattle.std.proofs.lemmas.Bool.{cases_eq, cases_lt}
use Rattle.std.specs.Prelude.{IsTrue}
use Rattle.pass_kept_proof.specs.ir_base.declared.outcome.Word.{Word}
use Rattle.pass_kept_proof.specs.ir_model.Names.{function_at}
use Rattle.pass_kept_proof.specs.ir_model.Ty.{Ty}
use Rattle.pass_kept_proof.specs.ir_model.declared.instr.Instr.{Instr}
use Rattle.pass_kept_proof.specs.ir_model.declared.module.Module.{Module}
use Rattle.pass_kept_proof.specs.ir_model.declared.operand.Arg.{Arg}
use Rattle.pass_kept_proof.specs.ir_model.declared.operand.Intrinsic.{Intrinsic}
use Rattle.pass_kept_proof.specs.ir_model.declared.operand.Operand.{Operand}
use Rattle.pass_kept_proof.specs.ir_paths.Windows.{is_call_of}
use Rattle.run_laws.specs.memory.Pointers.{Home, IsValue}
use Rattle.pass_kept_proof.specs.run_memory.declared.pointer.Value.{Value}
use Rattle.pass_kept_proof.specs.run_source.State.{gives, settled}
use Rattle.pass_kept_proof.specs.run_source.declared.state.Activation.{Activation}
use Rattle.pass_kept_proof.specs.run_source.declared.state.State.{State}
use Rattle.pass_kept_proof.specs.run_step.Step.{AtInstr, fetch}
use Rattle.pass_kept_proof.specs.run_step.Values.{Env, arg_values, nth, operand_value, value_in, with_result, with_value}
use Rattle.pass_kept_proof.specs.run_step.declared.world.World.{World}
use Rattle.pass_renewed_proof.proofs.Carried.{IsCarried, IsSlotKept, same_carried, same_kept, seen_block}
use Rattle.pass_renewed_proof.proofs.Chosen.{beyond}
use Rattle.pass_renewed_proof.proofs.EnteredValues.{set_here, set_length}
use Rattle.pass_renewed_proof.proofs.Ordinary.{own_address, roots_of}
use Rattle.pass_renewed_proof.proofs.Passing.{edge_on, passed_beside, unended, unstarted}
use Rattle.pass_renewed_proof.proofs.Sets.{result_elsewhere, set_elsewhere}
use Rattle.pass_renewed_proof.proofs.SlotEnvs.{set_stand}
use Rattle.pass_renewed_proof.specs.Beside.{AreOthers, IsBeside, IsOther, IsOtherValue, place_in}
use Rattle.pass_renewed_proof.specs.Ledger.{AreEntered, Ledger, Seat}
use Rattle.pass_renewed_proof.specs.Making.{IsGiving}
use Rattle.pass_renewed_proof.specs.Ordinary.{IsCalm}
use Rattle.pass_renewed_proof.specs.Renewed.{Flags, Roots}
use Rattle.pass_renewed_proof.specs.SlotEnvs.{AreSlotEnvs}
use Rattle.pass_renewed_proof.specs.SlotRules.{KeepsSlots}
use Rattle.pass_renewed_proof.specs.Steps.{AreOver, AreSet}

-- ---- words are the same in both

module _ (homes : List Home) (roots : ℕ → Option ℕ) (m : Module) (env other : Env) (envs : AreSlotEnvs homes roots env
    other) where
  same_local : (v : ℕ) (n : Word) (o : Option ℕ) → roots v ≡ o → value_in env v ≡ Value.Int n
      → value_in other v ≡ Value.Int n
  same_local v n None e is = subst (λ z. IsValue homes z (value_in other v)) is (envs.plain v e)
  same_local v n (Some a) e is = ⊎_elim
      (λ poison. let c : Value.Poison ≡ Value.Int n = sym poison ∙ is in absurd (cc))
      (λ ad. let c = sym ad.source ∙ is in absurd (cc))
      (envs.rooted v a e)

  same_word : (ty : Ty) (x : Operand) (n : Word) → operand_value m env ty x ≡ Value.Int n
      → operand_value m other ty x ≡ Value.Int n
  same_word ty (Operand.Local v) n e = same_local v n (roots v) refl e
  same_word ty (Operand.Global name) n e = e
  same_word ty (Operand.Number z) n e = e
  same_word ty Operand.True n e = e
  same_word ty Operand.False n e = e
  same_word ty Operand.Null n e = e
  same_word ty Operand.None n e = e
  same_word ty Operand.Poison n e = e

  -- an argument that is a word is that word in both
  pub same_nth : (args : List Arg) (k : ℕ) (n : Word) → nth (arg_values m env args) k ≡ Value.Int n
      → nth (arg_values m other args) k ≡ Value.Int n
  same_nth [] k n e = e
  same_nth (a ∷ args) zero n e = same_word a.ty a.value n e
  same_nth (a ∷ args) (suc k) n e = same_nth args k n e

-- ---- a value that is given

module _ (homes : List Home) (env other : Env) (p q : Value) (room : length env ≤ length other) (stands : IsValue homes
    p q) where
  named_stands : (name : ℕ) → IsValue homes (value_in (with_value env name p) name) (value_in (with_value other name
      q) name)
  named_stands name = ⊎_elim
      (λ lt. subst (λ z. IsValue homes z (value_in (with_value other name q) name)) (sym (set_here env name p lt))
      (subst (IsValue homes p) (sym (set_here other name q (omega arith))) stands))
      (λ le. let k = set_length env name p in subst (λ z. IsValue homes z (value_in (with_value other name q) name))
      (sym (beyond (with_value env name p) name (omega arith))) tt)
      (cases_lt name (length env))

  given_stands : (result : Option ℕ) (name : ℕ) → result ≡ Some name
      → IsValue homes (value_in (with_result env result p) name) (value_in (with_result other result q) name)
  given_stands result name e = subst (λ r. IsValue homes (value_in (with_result env r p) name) (value_in (with_result
      other r q) name)) (sym e) (named_stands name)

  given_room : (result : Option ℕ) → length (with_result env result p) ≤ length (with_result other result q)
  given_room None = room
  given_room (Some name) = let k = set_length env name p in let j = set_length other name q in omega arith

  pub given_set : (s t v u : World) (result : Option ℕ)
      → AreSet homes result (record { world = s; values = env }) (record { world = t; values = other }) (record {
        world = v;
        values = with_result env result p;
      }) (record { world = u; values = with_result other result q })
  given_set s t v u result = record {
    stands = given_stands result;
    source = λ name ne. result_elsewhere env result name p ne;
    target = λ name ne. result_elsewhere other result name q ne;
    room = given_room result;
  }

-- ---- names of other allocas

-- two values are given to a name: it is no address in a slot; if it is that of an alloca, the activation has a value of
-- it, and they are such as its name may have
pub record IsGivenName (m : Module) (flags : Flags) (roots : Roots) (k : Ledger) (a : Activation) (result : Option ℕ)
    (p q : Value) : Type 0 where
  pub no_part : (v slot : ℕ) → roots a.func v ≡ Some slot → result ≡ Some v → ⊥
  pub others : (v : ℕ) → IsOther (function_at m a.func) (flags a.func) (roots a.func) v → result ≡ Some v
      → (v < length a.values) × IsOtherValue k p q

-- by an instruction that is no marker
pub record IsGivenAt (m : Module) (flags : Flags) (roots : Roots) (k : Ledger) (a : Activation) (i : Instr) (result :
    Option ℕ) (p q : Value) : Type 0 where
  pub place : IsCalm (function_at m a.func) (place_in a)
  pub here : fetch (function_at m a.func) a.block a.at ≡ AtInstr i
  pub no_start : is_call_of Intrinsic.LifetimeStart i ≡ false
  pub no_end : is_call_of Intrinsic.LifetimeEnd i ≡ false
  pub name : IsGivenName m flags roots k a result p q

pub of_giving : (m : Module) (flags : Flags) (roots : Roots) (k : Ledger) (a : Activation) (i : Instr) (result : Option
    ℕ) (p q : Value) → IsGiving m roots a i result → IsGivenAt m flags roots k a i result p q
of_giving m flags roots k a i result p q g = record {
  place = g.place;
  here = g.here;
  no_start = g.no_start;
  no_end = g.no_end;
  name = record { no_part = g.no_part; others = λ v other is. absurd (g.no_alloca v other.made is) };
}

pub other_like : (k : Ledger) (a b p q : Value) → p ≡ a → q ≡ b → IsOtherValue k a b → IsOtherValue k p q
other_like k a b p q e d h = subst (λ (z : Value × Value). IsOtherValue k z.0 z.1) (λ j. (sym e j, sym d j)) h

-- ---- the values

module _ (m : Module) (flags : Flags) (roots : Roots) (keeps : (func : ℕ)
    → KeepsSlots m (function_at m func) (flags func) (roots func)) (s t : State) (beside : IsBeside m flags roots s t)
    (k : Ledger) (w v : World) (carried : IsCarried beside.ledger k s.world.memory w.memory t.world.memory v.memory)
    (result : Option ℕ) (p q : Value) (giving : IsGivenName m flags roots k s.top result p q) (stands : IsValue k.homes
    p q) where
  pub envs : AreSlotEnvs k.homes (roots s.top.func) (with_result s.top.values result p) (with_result beside.top.values
      result q)
  envs = set_stand beside.ledger.homes k.homes (roots s.top.func) result (record {
    world = s.world;
    values = s.top.values;
  }) (record { world = t.world; values = beside.top.values }) (record {
    world = w;
    values = with_result s.top.values result p;
  }) (record { world = v; values = with_result beside.top.values result q }) carried.extends giving.no_part (roots_of
      m (function_at m s.top.func) (flags s.top.func) (roots s.top.func) (keeps s.top.func)) beside.top.envs
      (given_set k.homes s.top.values beside.top.values p q beside.top.envs.room stands s.world t.world w v result)

  pub unset : (slot : ℕ) → IsTrue (flags s.top.func slot) → result ≡ Some slot → ⊥
  unset slot flagged given = giving.no_part slot slot ((keeps s.top.func).addresses slot slot flagged (own_address
      (function_at m s.top.func) slot)) given

  pub others : AreOthers k (function_at m s.top.func) (flags s.top.func) (roots s.top.func) (with_result s.top.values
      result p) (with_result beside.top.values result q)
  others v other = on result refl
    where
      carried_other : IsOtherValue k (value_in s.top.values v) (value_in beside.top.values v)
      carried_other =
          let old = beside.top.others v other in
          record {
            unseated = λ b at. carried.unseated b (seen_block beside.ledger.homes (value_in s.top.values v) (value_in
                beside.top.values v) b (beside.top.envs.plain v other.no_part) at) (old.unseated b at);
            nowhere = old.nowhere;
          }

      here : v < length s.top.values → IsOtherValue k p q
          → IsOtherValue k (value_in (with_value s.top.values v p) v) (value_in (with_value beside.top.values v q) v)
      here lt h = other_like k p q _ _ (set_here s.top.values v p lt) (set_here beside.top.values v q (let room =
          beside.top.envs.room in omega arith)) h

      on : (r : Option ℕ) → result ≡ r → IsOtherValue k (value_in (with_result s.top.values r p) v) (value_in
          (with_result beside.top.values r q) v)
      on None e = carried_other
      on (Some n) e = ⊎_elim
          (λ same.
          let g = giving.others v other (e ∙ ap Some same) in
          subst (λ z. IsOtherValue k (value_in (with_value s.top.values z p) v) (value_in (with_value beside.top.values
          z q) v)) (sym same) (here g.0 g.1))
          (λ ne. other_like k (value_in s.top.values v) (value_in beside.top.values v) _ _ (set_elsewhere s.top.values n
          v p ne) (set_elsewhere beside.top.values n v q ne) carried_other)
          (cases_eq n v)

-- ---- the states

module _ (m : Module) (flags : Flags) (roots : Roots) (keeps : (func : ℕ)
    → KeepsSlots m (function_at m func) (flags func) (roots func)) (s t : State) (beside : IsBeside m flags roots s t)
    (k : Ledger) (w v : World) (carried : IsCarried beside.ledger k s.world.memory w.memory t.world.memory v.memory)
    (kept : (b : ℕ) (seat : Seat) → beside.ledger.seats b ≡ Some seat → IsSlotKept beside.ledger k s.world.memory
    w.memory b) (i : Instr) (result : Option ℕ) (p q : Value) (giving : IsGivenAt m flags roots k s.top i result p q)
    (stands : IsValue k.homes p q) where
  given_passed : AreOver k.homes k.hides w v → AreEntered m k w.memory v.memory
      → IsBeside m flags roots (settled s (record { world = w; values = with_result s.top.values result p })) (settled
      t (record { world = v; values = with_result beside.top.values result q }))
  given_passed = passed_beside m flags roots s t beside k w v carried kept (with_result s.top.values result p)
      (with_result beside.top.values result q)
      (edge_on m flags roots beside.ledger s.instances s.world.memory t.world.memory (length s.below) s.top t.top
      beside.top giving.place i giving.here)
      (λ slot b flagged at. unstarted (function_at m s.top.func) (place_in s.top) i giving.here giving.no_start slot)
      (λ slot b flagged at live. unended (function_at m s.top.func) (place_in s.top) i giving.here giving.no_end slot)
      giving.place (envs m flags roots keeps s t beside k w v carried result p q giving.name stands)
      (others m flags roots keeps s t beside k w v carried result p q giving.name stands)
      (λ slot flagged. (
        result_elsewhere s.top.values result slot p (unset m flags roots keeps s t beside k w v carried result p q
            giving.name stands slot flagged),
        result_elsewhere beside.top.values result slot q (unset m flags roots keeps s t beside k w v carried result p q
            giving.name stands slot flagged),
      ))

  -- with the values that the second run's activation has
  pub given_beside : AreOver k.homes k.hides w v → AreEntered m k w.memory v.memory
      → IsBeside m flags roots (settled s (record { world = w; values = with_result s.top.values result p })) (settled
      t (record { world = v; values = with_result t.top.values result q }))
  given_beside over entered = subst (λ (vs : Env). IsBeside m flags roots (settled s (record {
    world = w;
    values = with_result s.top.values result p;
  })) (settled t (record { world = v; values = with_result vs result q }))) (ap (λ (z : Activation). z.values) (sym
      beside.top.is)) (given_passed over entered)

-- where the memories stay as they are
pub gives_at : (m : Module) (flags : Flags) (roots : Roots) → ((func : ℕ)
    → KeepsSlots m (function_at m func) (flags func) (roots func)) → (s t : State) → (beside : IsBeside m flags roots s
    t) → (i : Instr) (result : Option ℕ) (p q : Value) → IsGivenAt m flags roots beside.ledger s.top i result p q
    → IsValue beside.ledger.homes p q → IsBeside m flags roots (gives s result p) (gives t result q)
gives_at m flags roots keeps s t beside i result p q giving stands = given_beside m flags roots keeps s t beside
    beside.ledger s.world t.world (same_carried beside.ledger s.world.memory t.world.memory) (λ b seat seated.
    same_kept beside.ledger s.world.memory b) i result p q giving stands beside.world beside.entered

pub gives_beside : (m : Module) (flags : Flags) (roots : Roots) → ((func : ℕ)
    → KeepsSlots m (function_at m func) (flags func) (roots func)) → (s t : State) → (beside : IsBeside m flags roots s
    t) → (i : Instr) (result : Option ℕ) → IsGiving m roots s.top i result → (p q : Value)
    → IsValue beside.ledger.homes p q → IsBeside m flags roots (gives s result p) (gives t result q)
gives_beside m flags roots keeps s t beside i result giving p q stands = gives_at m flags roots keeps s t beside i
    result p q (of_giving m flags roots beside.ledger s.top i result p q giving) stands
