-- States that are the same but for values that are not needed, and what holds of each state of a source run.
use Rattle.std.specs.Prelude.{◌≡◌, ℕ, List, [], ◌∷◌, length, map, slice_get, Option, Some}
use Rattle.run_source.specs.declared.state.Activation.{Activation}
use Rattle.run_source.specs.declared.state.Instance.{Instance}
use Rattle.run_source.specs.declared.state.Mode.{Mode}
use Rattle.run_source.specs.declared.state.State.{State}
use Rattle.run_source.specs.declared.state.Status.{Status}
use Rattle.ir_model.specs.Names.{function_at}
use Rattle.ir_model.specs.declared.module.Function.{Function}
use Rattle.ir_model.specs.declared.operand.Intrinsic.{Intrinsic}
use Rattle.ir_paths.specs.declared.point.Point.{Point}
use Rattle.pass_kept_proof.specs.Needed.{IsNeeded, IsNeededBehind, IsReached}
use Rattle.pass_kept_proof.specs.SuspendRules.{IsCallAt}
use Rattle.run_step.specs.Values.{Env, value_in}
use Rattle.run_source.specs.run_source_tables.Given.{Given}

-- ---- the same values

-- the names of a set have the same values, and both have as many names
pub record SameOn (Q : ℕ → Type 0) (vs ws : Env) : Type 0 where
  pub each : (v : ℕ) → Q v → value_in ws v ≡ value_in vs v
  pub wide : length ws ≡ length vs

-- which values an activation needs: all, but where it was resumed those that a path leads to
abbrev pub Needs : Mode → Function → ℕ → ℕ → ℕ → Type 0
Needs Mode.Resumed f block at v = IsNeeded f v block at
Needs _ f block at v = Unit {0}

abbrev pub Wants : Given → Activation → ℕ → Type 0
Wants g a = Needs a.mode (function_at g.code a.func) a.block a.at

-- ---- the same states

-- the activations below, of which the topmost waits for a value to be given to a name
abbrev pub AreBelow : Given → Option ℕ → List Activation → List Activation → Type 0
AreBelow g r [] [] = Unit {0}
AreBelow g r [] (b ∷ bs) = ⊥
AreBelow g r (a ∷ as') [] = ⊥
AreBelow g r (a ∷ as') (b ∷ bs) =
    ((ws : Env) × (b ≡ record a { values = ws }) × SameOn (λ v. Wants g a v × (r ≡ Some v → ⊥)) a.values ws)
    × AreBelow g a.result as' bs

abbrev pub IsStatus : Function → Status → Status → Type 0
IsStatus f Status.Running t = t ≡ Status.Running
IsStatus f (Status.Suspended suspend vs) t =
    (ws : Env) × (t ≡ Status.Suspended suspend ws) × SameOn (λ v. IsNeededBehind f suspend v) vs ws
IsStatus f Status.Finished t = t ≡ Status.Finished

abbrev pub IsInstance : Given → Instance → Instance → Type 0
IsInstance g x y = (t : Status) × (y ≡ record x { status = t }) × IsStatus (function_at g.code x.coroutine) x.status t

abbrev pub AreInstances : Given → List Instance → List Instance → Type 0
AreInstances g [] [] = Unit {0}
AreInstances g [] (y ∷ ys) = ⊥
AreInstances g (x ∷ xs) [] = ⊥
AreInstances g (x ∷ xs) (y ∷ ys) = IsInstance g x y × AreInstances g xs ys

abbrev pub like : State → Env → List Activation → List Instance → State
like s ws bs ys = record s { instances = ys; top = record s.top { values = ws }; below = bs }

-- the second is the first but for values that are not needed
pub record Related (g : Given) (s t : State) : Type 0 where
  pub values : Env
  pub below : List Activation
  pub instances : List Instance
  pub is : t ≡ like s values below instances
  pub same : SameOn (Wants g s.top) s.top.values values
  pub acts : AreBelow g s.top.result s.below below
  pub insts : AreInstances g s.instances instances

-- ---- each state of a source run

abbrev pub coroutines : List Instance → List ℕ
coroutines xs = map (λ x. x.coroutine) xs

-- an activation is in the function of its instance, at a place that a path leads to
pub record IsSoundActivation (g : Given) (cs : List ℕ) (a : Activation) : Type 0 where
  pub own : (i : ℕ) → a.instance ≡ Some i → slice_get cs i ≡ Some a.func
  pub reached : IsReached (function_at g.code a.func) a.block a.at

abbrev pub AreSound : Given → List ℕ → List Activation → Type 0
AreSound g cs [] = Unit {0}
AreSound g cs (a ∷ as') = IsSoundActivation g cs a × AreSound g cs as'

abbrev pub IsSuspendedAt : Given → ℕ → Point → Type 0
IsSuspendedAt g func at =
    IsReached (function_at g.code func) at.block at.at × IsCallAt Intrinsic.CoroSuspend (function_at g.code func) at

-- an instance is suspended at a suspend that a path leads to
abbrev pub IsSoundStatus : Given → ℕ → Status → Type 0
IsSoundStatus g func Status.Running = Unit {0}
IsSoundStatus g func (Status.Suspended at vs) = IsSuspendedAt g func at
IsSoundStatus g func Status.Finished = Unit {0}

abbrev pub AreSoundInstances : Given → List Instance → Type 0
AreSoundInstances g [] = Unit {0}
AreSoundInstances g (x ∷ xs) = IsSoundStatus g x.coroutine x.status × AreSoundInstances g xs

pub record IsSound (g : Given) (s : State) : Type 0 where
  pub top : IsSoundActivation g (coroutines s.instances) s.top
  pub below : AreSound g (coroutines s.instances) s.below
  pub instances : AreSoundInstances g s.instances

-- a state of the source, and the one beside it of the meaning in which a resume hands on only some values
abbrev pub HandsOver : Given → State → State → Type 0
HandsOver g s t = Related g s t × IsSound g s
