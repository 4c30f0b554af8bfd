-- What the phis of a block are given on an edge to it.
use Rattle.std.proofs.Common.{◌≡◌, ℕ, inl, inr, Bool, true, false, List, [], ◌∷◌, map, Option}
use Rattle.std.proofs.Common.{Some, None, refl, sym, ap, ◌∙◌, ⊎_elim, arith, if◌then◌else◌, ◌==◌}
use Rattle.std.proofs.lemmas.Bool.{false≢true}
use Rattle.std.specs.List.{list_any}
use Rattle.std.specs.Prelude.{IsFalse, slice_get}
use Rattle.pass_kept_proof.specs.flow_solver.Paths.{IsListed}
use Rattle.pass_kept_proof.specs.ir_model.Names.{is_local}
use Rattle.pass_kept_proof.specs.ir_model.declared.instr.Incoming.{Incoming}
use Rattle.pass_kept_proof.specs.ir_model.declared.instr.Phi.{Phi}
use Rattle.pass_kept_proof.specs.ir_model.declared.instr.Terminator.{Terminator}
use Rattle.pass_kept_proof.specs.ir_model.declared.module.Block.{Block}
use Rattle.pass_kept_proof.specs.ir_model.declared.module.Function.{Function}
use Rattle.pass_kept_proof.specs.ir_model.declared.module.Module.{Module}
use Rattle.pass_kept_proof.specs.ir_model.declared.operand.Arg.{Arg}
use Rattle.pass_kept_proof.specs.ir_model.declared.operand.Intrinsic.{Intrinsic}
use Rattle.pass_kept_proof.specs.ir_paths.Paths.{has_point}
use Rattle.pass_kept_proof.specs.ir_paths.Slots.{is_in_args}
use Rattle.pass_kept_proof.specs.ir_paths.declared.point.Point.{Point}
use Rattle.frame_classes.specs.frame_slots.Uses.{ends_of}
use Rattle.pass_kept_proof.proofs.Same.{either, neither, or_left, or_right}
use Rattle.pass_kept_proof.specs.Needed.{BranchesTo, phis_give}
use Rattle.pass_kept_proof.specs.SuspendRules.{IsCallAt}
use Rattle.frame_classes.specs.rule_window_values.Kept.{phis_in}
use Rattle.run_laws.specs.embedded.Related.{AreValues}
use Rattle.run_laws.specs.memory.Pointers.{Home, IsValue}
use Rattle.pass_kept_proof.specs.run_memory.declared.pointer.Value.{Value}
use Rattle.pass_kept_proof.specs.run_step.Step.{AtInstr, AtTerm, Fetched, Nowhere, fetch, fetch_in, incoming_from, phi_values}
use Rattle.pass_kept_proof.specs.run_step.Step.{phis_of, with_all}
use Rattle.pass_kept_proof.specs.run_step.Values.{Env, arg_values, operand_value, value_in, with_value}
use Rattle.pass_kept_proof.specs.run_step.declared.world.World.{World}
use Rattle.pass_renewed_proof.proofs.Giving.{given_set}
use Rattle.pass_renewed_proof.proofs.History.{no_marker}
use Rattle.pass_renewed_proof.proofs.Sets.{set_elsewhere}
use Rattle.pass_renewed_proof.proofs.SlotEnvs.{set_stand}
use Rattle.pass_renewed_proof.specs.SlotEnvs.{AreRoots, AreSlotEnvs}

-- ---- where a branch stands

-- a terminator stands there
pub term_there : (label : ℕ) (x : Fetched) → BranchesTo label x → (t : Terminator) × (x ≡ AtTerm t)
term_there label Nowhere h = absurd h
term_there label (AtInstr i) h = absurd h
term_there label (AtTerm t) h = (t, refl)

pub block_there : (f : Function) (block at : ℕ) (t : Terminator) → fetch f block at ≡ AtTerm t
    → (b : Block) × (slice_get f.blocks block ≡ Some b)
block_there f block at t e = on (slice_get f.blocks block) refl e
  where
    on : (o : Option Block) → slice_get f.blocks block ≡ o → fetch_in o at ≡ AtTerm t
        → (b : Block) × (slice_get f.blocks block ≡ Some b)
    on None is h = absurd (cc)
    on (Some b) is h = (b, is)

pub no_call_term : (f : Function) (p : Point) (t : Terminator) (intrinsic : Intrinsic)
    → fetch f p.block p.at ≡ AtTerm t → IsCallAt intrinsic f p → ⊥
no_call_term f p t intrinsic e c = let k : AtInstr c.instr ≡ AtTerm t = sym c.stands ∙ e in absurd (cc)

pub no_end_term : (f : Function) (slot : ℕ) (p : Point) (t : Terminator) → fetch f p.block p.at ≡ AtTerm t
    → has_point (ends_of f slot) p ≡ false
no_end_term f slot p t e = no_marker f Intrinsic.LifetimeEnd slot p (λ x. let k : AtInstr x.instr ≡ AtTerm t = sym
    x.stands ∙ e in absurd (cc))

-- ---- what phis take

abbrev pub args_of : ℕ → List Phi → List Arg
args_of from phis = map (λ (p : Phi). record { ty = p.ty; value = incoming_from p.incoming from }) phis

pub phi_taking : (v from : ℕ) (phis : List Phi) → is_in_args v (args_of from phis) ≡ true
    → (p : Phi) × (IsListed p phis × (is_local v (incoming_from p.incoming from) ≡ true))
phi_taking v from [] h = absurd (false≢true h)
phi_taking v from (p ∷ phis) h = ⊎_elim
    (λ e. (p, (inl refl, e)))
    (λ k. let r = phi_taking v from phis k in (r.0, (inr r.1.0, r.1.1)))
    (either (is_local v (incoming_from p.incoming from)) _ h)

-- it is what comes from the block
pub record IsTaken (v from : ℕ) (all : List Incoming) : Type 0 where
  pub incoming : Incoming
  pub listed : IsListed incoming all
  pub is_from : incoming.from ≡ from
  pub names : is_local v incoming.value ≡ true

pub taken : (v from : ℕ) (all : List Incoming) → is_local v (incoming_from all from) ≡ true → IsTaken v from all
taken v from [] h = absurd (false≢true h)
taken v from (i ∷ all) h = on (i.from == from) refl h (λ k. taken v from all k)
  where
    same : (a b : ℕ) → (a == b) ≡ true → a ≡ b
    same a b e = grind arith

    on : (t : Bool) → (i.from == from) ≡ t
        → is_local v (if t then i.value else incoming_from all from) ≡ true
        → (is_local v (incoming_from all from) ≡ true → IsTaken v from all) → IsTaken v from (i ∷ all)
    on true e k later = record { incoming = i; listed = inl refl; is_from = same i.from from e; names = k }
    on false e k later =
        let r = later k in
        record { incoming = r.incoming; listed = inr r.listed; is_from = r.is_from; names = r.names }

pub any_listed : {A : Type 0} (t : A → Bool) (xs : List A) (x : A) → IsListed x xs → t x ≡ true → list_any t xs ≡ true
any_listed t [] x h e = absurd h
any_listed t (y ∷ xs) x (inl is) e = or_left (t y) _ (ap t (sym is) ∙ e)
any_listed t (y ∷ xs) x (inr h) e = or_right (t y) _ (any_listed t xs x h e)

pub same_phis : (o : Option Block) → phis_in o ≡ phis_of o
same_phis None = refl
same_phis (Some b) = refl

-- ---- the values behind phis

module _ (m : Module) (homes : List Home) (roots : ℕ → Option ℕ) (idem : AreRoots roots) (world : World) (from : ℕ)
    (old older : Env) where
  pub set_one : (env other : Env) (name : ℕ) (p q : Value) → ((v a : ℕ) → roots v ≡ Some a → Some name ≡ Some v → ⊥)
      → IsValue homes p q → AreSlotEnvs homes roots env other
      → AreSlotEnvs homes roots (with_value env name p) (with_value other name q)
  set_one env other name p q free stands envs = set_stand homes homes roots (Some name) (record {
    world = world;
    values = env;
  }) (record { world = world; values = other }) (record { world = world; values = with_value env name p }) (record {
    world = world;
    values = with_value other name q;
  }) (record { each = λ b seen. refl }) free idem envs (given_set homes env other p q envs.room stands world world world
      world (Some name))

  pub all_set : (phis : List Phi) (env other : Env) → ((v a : ℕ) → roots v ≡ Some a → IsFalse (phis_give v phis))
      → AreValues homes (arg_values m old (args_of from phis)) (arg_values m older (args_of from phis))
      → AreSlotEnvs homes roots env other
      → AreSlotEnvs homes roots (with_all env (phi_values m old from phis)) (with_all other (phi_values m older from
      phis))
  all_set [] env other free stand envs = envs
  all_set (p ∷ phis) env other free stand envs = all_set phis _ _
      (λ v a root. (neither (p.result == v) _ (free v a root)).1)
      stand.1
      (set_one env other p.result _ _ (λ v a root is. differs p.result v (neither (p.result == v) _ (free v a
      root)).0 (same_number p.result v is)) stand.0 envs)
    where
      same_number : (a b : ℕ) → Some a ≡ Some b → a ≡ b
      same_number a b e = cc

      differs : (a b : ℕ) → (a == b) ≡ false → a ≡ b → ⊥
      differs a b e is = absurd (grind arith)

-- a name that no phi gives keeps what it had
pub not_given : (m : Module) (from v : ℕ) (old : Env) (phis : List Phi) (env : Env) → phis_give v phis ≡ false
    → value_in (with_all env (phi_values m old from phis)) v ≡ value_in env v
not_given m from v old [] env e = refl
not_given m from v old (p ∷ phis) env e =
    let n = neither (p.result == v) (phis_give v phis) e in
    not_given m from v old phis _ n.1 ∙ set_elsewhere env p.result v (operand_value m old p.ty (incoming_from
    p.incoming from)) (λ is. differs p.result v n.0 is)
  where
    differs : (a b : ℕ) → (a == b) ≡ false → a ≡ b → ⊥
    differs a b e is = absurd (grind arith)
