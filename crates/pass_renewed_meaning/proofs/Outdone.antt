-- What the topmost activation knows of the others, by the invariants of runs.
use Rattle.std.proofs.Common.{◌≡◌, ℕ, zero, suc, Bool, true, false, List, [], ◌∷◌, length, Option, Some, None, refl, sym}
use Rattle.std.proofs.Common.{ap, ◌∙◌, subst}
use Rattle.std.proofs.lemmas.Bool.{false≢true}
use Rattle.std.specs.Prelude.{slice_get}
use Rattle.run_types.specs.ir_model.declared.module.Module.{Module}
use Rattle.run_types.specs.pass_kept_proof.Related.{coroutines}
use Rattle.run_types.proofs.run_hooks.Left.{sleeps_at}
use Rattle.run_types.specs.run_hooks.Left.{HaveLeft, IsAwake, sleeps}
use Rattle.run_types.specs.run_memory.declared.block.MemoryBlock.{MemoryBlock}
use Rattle.run_types.specs.run_source.declared.state.Activation.{Activation}
use Rattle.run_types.specs.run_source.declared.state.Instance.{Instance}
use Rattle.run_types.specs.run_source.declared.state.Mode.{Mode}
use Rattle.run_types.proofs.pass_renewed_proof.Made.{get_there}
use Rattle.run_types.specs.pass_renewed_proof.Beside.{AreBelow, AreOutdone, AreUnbegun, GoesOn, HasLeftSuspended, Leaves, NotLeft}
use Rattle.run_types.specs.pass_renewed_proof.Ledger.{Ledger}
use Rattle.run_types.specs.pass_renewed_proof.Making.{HasInstance}
use Rattle.run_types.specs.pass_renewed_proof.Renewed.{Flags, Roots}

same_number : {i j : ℕ} → Some i ≡ Some j → i ≡ j
same_number e = cc

-- resumed activations have an instance
abbrev pub HaveBegun : List Activation → Type 0
HaveBegun [] = Unit {0}
HaveBegun (z ∷ below) = (z.mode ≡ Mode.Resumed → z.instance ≡ None → ⊥) × HaveBegun below

pub have_begun : (m : Module) (flags : Flags) (roots : Roots) (l : Ledger) (xs : List Instance) (memory target : List
    MemoryBlock) (name : Option ℕ) (below bs : List Activation)
    → AreBelow m flags roots l xs memory target name below bs → HaveBegun below
have_begun m flags roots l xs memory target name [] bs h = tt
have_begun m flags roots l xs memory target name (z ∷ below) [] h = absurd h
have_begun m flags roots l xs memory target name (z ∷ below) (b ∷ bs) h = (
  h.0.begins,
  have_begun m flags roots l xs memory target z.result below bs h.2,
)

module _ (xs : List Instance) (a : Activation) (begins : a.mode ≡ Mode.Resumed → a.instance ≡ None → ⊥) (awake : IsAwake
    xs a) where
  pub outdone : (below : List Activation) → ((i : ℕ) → a.instance ≡ Some i → HaveLeft i below) → HaveBegun below
      → AreOutdone xs a below
  outdone [] left h = tt
  outdone (z ∷ below) left h = (
    λ same goes stays. on same goes stays a.instance refl,
    outdone below (λ i e. (left i e).1) h.1,
  )
    where
      gone : (i : ℕ) → a.instance ≡ Some i → z.instance ≡ Some i → a.has_left ≡ false → GoesOn xs (length below) z → ⊥
      gone i e own stays (NotLeft not) = false≢true (sym not ∙ (left i e).0 own)
      gone i e own stays (Leaves g) =
          let same : g.number ≡ i = same_number (sym g.own ∙ own) in
          let sleeping : sleeps xs i ≡ true = subst (λ k. sleeps xs k ≡ true) same (sleeps_at xs g.number g.instance
          g.there ∙ g.suspended) in
          false≢true (sym (awake.awake i e stays) ∙ sleeping)

      on : z.instance ≡ a.instance → GoesOn xs (length below) z → a.has_left ≡ false → (o : Option ℕ) → a.instance ≡ o
          → AreUnbegun a.instance a.mode z.mode
      on same goes stays (Some i) e = absurd (gone i e (same ∙ e) stays goes)
      on same goes stays None e = record {
        none = e;
        first = λ resumed. begins resumed e;
        second = λ resumed. h.0 resumed (same ∙ e);
      }

-- where its instance is Suspended it has left
pub asleep : (xs : List Instance) (a : Activation) → IsAwake xs a → HasLeftSuspended xs a
asleep xs a awake i x own there suspended = on a.has_left refl
  where
    on : (t : Bool) → a.has_left ≡ t → a.has_left ≡ true
    on true e = e
    on false e = absurd (false≢true (sym (awake.awake i own e) ∙ sleeps_at xs i x there ∙ suspended))

pub has_instance : (xs : List Instance) (a : Activation) → IsAwake xs a → HasInstance xs a
has_instance xs a awake n own = get_there xs n (awake.own n own)

-- an instance that an activation has is one of its function
pub same_coroutine : (xs : List Instance) (i func : ℕ) (x : Instance) → slice_get (coroutines xs) i ≡ Some func
    → slice_get xs i ≡ Some x → x.coroutine ≡ func
same_coroutine [] i func x e there = absurd (cc)
same_coroutine (y ∷ xs) zero func x e there =
    let is : y ≡ x = cc in
    let f : y.coroutine ≡ func = cc in
    ap (λ (z : Instance). z.coroutine) (sym is) ∙ f
same_coroutine (y ∷ xs) (suc i) func x e there = same_coroutine xs i func x e there
