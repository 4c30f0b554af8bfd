-- The states that stand beside each other where names are in the order of their first occurrence: values, slots and
-- results at other names.
use Rattle.std.specs.Prelude.{◌≡◌, ℕ, List, [], ◌∷◌, length, Option, map, option_map}
use Rattle.ir_model.specs.Names.{function_at}
use Rattle.ir_model.specs.declared.instr.Instr.{Instr}
use Rattle.ir_model.specs.declared.instr.Phi.{Phi}
use Rattle.ir_model.specs.declared.module.Block.{Block}
use Rattle.ir_model.specs.declared.module.Function.{Function}
use Rattle.ir_model.specs.declared.module.Module.{Module}
use Rattle.ir_model.specs.declared.module.Param.{Param}
use Rattle.text_canonical.specs.order.Order.{function_order}
use Rattle.text_canonical.specs.order.Shape.{Each}
use Rattle.pass_proofs.specs.run_step.Values.{Env}
use Rattle.run_plain.specs.declared.state.PlainActivation.{PlainActivation}
use Rattle.run_plain.specs.declared.state.PlainState.{PlainState}
use Rattle.pass_proofs.specs.ir_laws.facts.order_rules.Renumbered.{IsRenumbered}
use Rattle.pass_proofs.specs.run_laws.changed.Changed.{result_of}
use Rattle.pass_proofs.specs.ir_laws.facts.order_meaning.Beside.{IsHeld, IsHeldResult}
use Rattle.pass_proofs.specs.ir_laws.paths.order_meaning.Beside.{AreMoved, moved_slot}

-- ---- a function that moves its names, and holds what it sets

abbrev pub HeldIn : (ℕ → ℕ) → Function → ℕ → Type 0
HeldIn to f r = IsHeld to (length f.names) (length (function_order f).names) r

abbrev pub HeldResultIn : (ℕ → ℕ) → Function → Option ℕ → Type 0
HeldResultIn to f r = IsHeldResult to (length f.names) (length (function_order f).names) r

abbrev pub MovedIn : (ℕ → ℕ) → Function → Env → Env → Type 0
MovedIn to f vs ws = AreMoved to (length f.names) (length (function_order f).names) vs ws

abbrev pub IsBlockHeld : (ℕ → ℕ) → Function → Block → Type 0
IsBlockHeld to f b =
    Each (λ (p : Phi). HeldIn to f p.result) b.phis × Each (λ (i : Instr). HeldResultIn to f (result_of i)) b.instrs

pub record IsOrdered (f : Function) : Type 0 where
  pub renumbered : IsRenumbered f (function_order f)
  pub params : Each (λ (p : Param). HeldIn renumbered.to f p.name) f.params
  pub blocks : Each (IsBlockHeld renumbered.to f) f.blocks

abbrev pub AreOrdered : Module → Type 0
AreOrdered m = (func : ℕ) → IsOrdered (function_at m func)

-- ---- states

module _ (m : Module) (ordered : AreOrdered m) where
  abbrev pub name_in : ℕ → ℕ → ℕ
  name_in func = (ordered func).renumbered.to

  -- the activation with other values and another name for what it returns
  abbrev pub ordered_like : PlainActivation → Env → Option ℕ → PlainActivation
  ordered_like a ws res = record a { values = ws; slots = map (moved_slot (name_in a.func)) a.slots; result = res }

  -- the activations below, of which the nearest waits for a value
  abbrev pub AreOrderedBelow : Option ℕ → Option ℕ → List PlainActivation → List PlainActivation → Type 0
  AreOrderedBelow r q [] [] = Unit {0}
  AreOrderedBelow r q [] (b ∷ bs) = ⊥
  AreOrderedBelow r q (a ∷ as') [] = ⊥
  AreOrderedBelow r q (a ∷ as') (b ∷ bs) =
      (q ≡ option_map (name_in a.func) r)
      × HeldResultIn (name_in a.func) (function_at m a.func) r
      × ((ws : Env)
      × (res : Option ℕ)
      × (b ≡ ordered_like a ws res)
      × MovedIn (name_in a.func) (function_at m a.func) a.values ws
      × AreOrderedBelow a.result res as' bs)

  abbrev pub ordered_state : PlainState → Env → Option ℕ → List PlainActivation → PlainState
  ordered_state s ws res bs = record s { top = ordered_like s.top ws res; below = bs }

  pub record IsOrderedOf (s t : PlainState) : Type 0 where
    pub values : Env
    pub result : Option ℕ
    pub below : List PlainActivation
    pub is : t ≡ ordered_state s values result below
    pub same : MovedIn (name_in s.top.func) (function_at m s.top.func) s.top.values values
    pub acts : AreOrderedBelow s.top.result result s.below below

-- the second is the first with each name's value at the name to which it goes
pub record IsInOrderOf (m : Module) (s t : PlainState) : Type 0 where
  pub ordered : AreOrdered m
  pub beside : IsOrderedOf m ordered s t
