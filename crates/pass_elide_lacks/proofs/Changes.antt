-- What a step of a framed run leaves of instances: their blocks and slots.
use Rattle.std.proofs.Common.{◌≡◌, ◌≢◌, ◌⊎◌, inl, inr, ◌∙◌, ℕ, Bool, true, false, List, None, Option, Some, ap, if◌then◌else◌, refl, sym, subst, ◌&&◌, ◌==◌}
use Rattle.std.specs.Prelude.{slice_get, slice_set}
use Rattle.pass_elide_meaning.proofs.pass_elide_edges.pass_elide_proof.Changing.{WasSet, was_set}
use Rattle.pass_elide_meaning.proofs.pass_elide_edges.pass_elide_proof.Saves.{own_number}
use Rattle.pass_elide_meaning.specs.pass_elide_edges.pass_elide_proof.StepCases.{ended}
use Rattle.pass_elide_meaning.specs.pass_elide_edges.pass_elide_proof.pass_proofs.run_framed.Framed.{disown_given, framed_finish, is_stack_block}
use Rattle.pass_elide_meaning.specs.pass_elide_edges.pass_elide_proof.pass_proofs.run_memory.Memory.{disown}
use Rattle.pass_elide_meaning.specs.pass_elide_edges.pass_elide_proof.pass_proofs.run_memory.declared.pointer.Value.{Value}
use Rattle.pass_elide_meaning.specs.pass_elide_edges.pass_elide_proof.pass_proofs.run_source.Source.{change_own, finish, if_let_go, let_go, may_be_freed}
use Rattle.pass_elide_meaning.specs.pass_elide_edges.pass_elide_proof.pass_proofs.run_source.State.{instance_at, own_instance, with_memory}
use Rattle.pass_elide_meaning.specs.pass_elide_edges.pass_elide_proof.pass_proofs.run_source.declared.state.Instance.{Instance}
use Rattle.pass_elide_meaning.specs.pass_elide_edges.pass_elide_proof.pass_proofs.run_source.declared.state.State.{State}
use Rattle.pass_elide_meaning.specs.pass_elide_edges.pass_elide_proof.pass_proofs.run_source.declared.state.Status.{Status}
use Rattle.run_slots.proofs.run_hooks.Reached.{at_is}

-- an instance is as one of the same number, but for its status and what it was released to
pub record IsAs (xs : List Instance) (i : ℕ) (y : Instance) : Type 0 where
  pub was : Instance
  pub there : slice_get xs i ≡ Some was
  pub block : y.block ≡ was.block
  pub slots : y.slots ≡ was.slots

-- so each instance is
abbrev pub AreAs : List Instance → List Instance → Type 0
AreAs xs ys = (i : ℕ) (y : Instance) → slice_get ys i ≡ Some y → IsAs xs i y

pub same_as : (xs : List Instance) → AreAs xs xs
same_as xs i y at = record { was = y; there = at; block = refl; slots = refl }

pub set_as : (xs : List Instance) (n : ℕ) (x new : Instance) → slice_get xs n ≡ Some x → new.block ≡ x.block
    → new.slots ≡ x.slots → AreAs xs (slice_set xs n new)
set_as xs n x new there block slots i y at = on w.is
  where
    w : WasSet xs n new i y
    w = was_set xs n x new there i y at

    one : (a b : Instance) → Some a ≡ Some b → a ≡ b
    one a b h = cc

    on : ((i ≡ n) × (y ≡ new)) ⊎ ((i ≢ n) × (y ≡ w.was)) → IsAs xs i y
    on (inl k) = record {
      was = x;
      there = ap (slice_get xs) k.0 ∙ there;
      block = ap (λ (z : Instance). z.block) k.1 ∙ block;
      slots = ap (λ (z : Instance). z.slots) k.1 ∙ slots;
    }
    on (inr k) = record {
      was = w.was;
      there = w.at;
      block = ap (λ (z : Instance). z.block) k.1;
      slots = ap (λ (z : Instance). z.slots) k.1;
    }

-- ---- parts of a step

pub changed_as : (s : State) (f : Instance → Instance) → ((x : Instance) → (f x).block ≡ x.block)
    → ((x : Instance) → (f x).slots ≡ x.slots)
    → AreAs s.instances (change_own s f (own_instance s)).instances
changed_as s f block slots = by (own_instance s) refl
  where
    by : (o : Option (ℕ × Instance)) → own_instance s ≡ o → AreAs s.instances (change_own s f o).instances
    by None eo = same_as s.instances
    by (Some (i, x)) eo =
        set_as s.instances i x (f x) (own_number s i x eo).1 (block x) (slots x)

disowned_same : (s : State) (o : Option (ℕ × Instance)) → (disown_given s o).instances ≡ s.instances
disowned_same s None = refl
disowned_same s (Some (i, x)) = on (is_stack_block s.world.memory x.block && (x.start == 0))
  where
    on : (t : Bool)
        → (if t then with_memory s (disown s.world.memory x.block) else s).instances ≡ s.instances
    on true = refl
    on false = refl

pub ended_as : (s : State) → AreAs s.instances (ended s).instances
ended_as s = on s.top.has_left
  where
    on : (t : Bool) → AreAs s.instances (if t then s else framed_finish s).instances
    on true = same_as s.instances
    on false =
        subst (λ (ys : List Instance). AreAs s.instances ys) (sym (disowned_same (finish s) (own_instance s)))
        (changed_as s (λ x. record x { status = Status.Finished }) (λ x. refl) (λ x. refl))

pub gone_as : (s : State) (p : Value) → AreAs s.instances (if_let_go s (instance_at s.instances p)).instances
gone_as s p = by (instance_at s.instances p) refl
  where
    by : (o : Option (ℕ × Instance)) → instance_at s.instances p ≡ o → AreAs s.instances (if_let_go s o).instances
    by None eo = same_as s.instances
    by (Some (i, x)) eo = on (may_be_freed x)
      where
        on : (t : Bool) → AreAs s.instances (if t then let_go s i x else s).instances
        on true = set_as s.instances i x (record x { freed = true }) (at_is s.instances p i x eo) refl refl
        on false = same_as s.instances
