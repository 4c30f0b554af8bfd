-- What holds of each value and each slot that a frame may hold holds of all that it holds.
use Rattle.std.proofs.Common.{◌≡◌, ℕ, suc, Bool, true, false, List, [], ◌∷◌, ◌++◌, refl, ap, ◌∙◌}
use Rattle.std.specs.Prelude.{None, Option, Some, slice_get, if◌then◌else◌}
use Rattle.compiler.specs.frame_contents.Held.{held_blocks, held_by, held_instr, held_instrs, held_params, held_phis, if_result, if_value, slot_held, value_held}
use Rattle.compiler.specs.frame_contents.declared.held.Holding.{Holding}
use Rattle.compiler.specs.ir_model.Ty.{Ty}
use Rattle.compiler.specs.ir_model.declared.instr.Instr.{Instr}
use Rattle.compiler.specs.ir_model.declared.instr.Phi.{Phi}
use Rattle.compiler.specs.ir_model.declared.module.Block.{Block}
use Rattle.compiler.specs.ir_model.declared.module.Function.{Function}
use Rattle.compiler.specs.ir_model.declared.module.Module.{Module}
use Rattle.compiler.specs.ir_model.declared.module.Param.{Param}
use Rattle.compiler.specs.ir_paths.Slots.{promise_of}
use Rattle.compiler.specs.ir_paths.Windows.{instr_at, instr_in}
use Rattle.compiler.specs.ir_paths.declared.point.Point.{Point}
use Rattle.compiler.specs.run_laws.changed.Changed.{Each}

each_more : {A : Type 0} (P : A → Type 0) (xs ys : List A) → Each P xs → Each P ys → Each P (xs ++ ys)
each_more P [] ys a b = b
each_more P (x ∷ xs) ys a b = (a.0, each_more P xs ys a.1 b)

module _ (m : Module) (f : Function) (values slots : ℕ → Bool) (P : Holding → Type 0)
    (of_value : (v size : ℕ) → values v ≡ true → P (value_held v size)) where
  value_each : (v size : ℕ) → Each P (if_value values v size)
  value_each v size = on (values v) refl
    where
      on : (b : Bool) → values v ≡ b → Each P (if b then value_held v size ∷ [] else [])
      on true e = (of_value v size e, tt)
      on false e = tt

  result_each : (o : Option ℕ) (size : ℕ) → Each P (if_result values o size)
  result_each None size = tt
  result_each (Some v) size = value_each v size

  params_each : (ps : List Param) → Each P (held_params values ps)
  params_each [] = tt
  params_each (p ∷ ps) =
      each_more P (if_value values p.name _) (held_params values ps) (value_each p.name _) (params_each ps)

  phis_each : (ps : List Phi) → Each P (held_phis values ps)
  phis_each [] = tt
  phis_each (p ∷ ps) =
      each_more P (if_value values p.result _) (held_phis values ps) (value_each p.result _) (phis_each ps)

  slot_each : (r : ℕ) (ty : Ty) (align : ℕ) → (slots r ≡ true → P (slot_held m (promise_of f) r ty align))
      → Each P (if slots r then slot_held m (promise_of f) r ty align ∷ [] else [])
  slot_each r ty align h = on (slots r) h
    where
      on : (b : Bool) → (b ≡ true → P (slot_held m (promise_of f) r ty align))
          → Each P (if b then slot_held m (promise_of f) r ty align ∷ [] else [])
      on true h = (h refl, tt)
      on false h = tt

  -- of an alloca
  abbrev IsWell : Instr → Type 0
  IsWell i = (r : ℕ) (ty : Ty) (align : ℕ) → i ≡ Instr.Alloca r ty align → slots r ≡ true
      → P (slot_held m (promise_of f) r ty align)

  instr_each : (i : Instr) → IsWell i → Each P (held_instr m (promise_of f) values slots i)
  instr_each (Instr.Alloca r ty align) h = slot_each r ty align (h r ty align refl)
  instr_each (Instr.Binary r op flags ty left right) h = result_each (Some r) _
  instr_each (Instr.Icmp r pred ty left right) h = result_each (Some r) _
  instr_each (Instr.Select r c a b) h = result_each (Some r) _
  instr_each (Instr.Cast r op nneg arg to) h = result_each (Some r) _
  instr_each (Instr.Load r ty address align) h = result_each (Some r) _
  instr_each (Instr.Store arg address align) h = tt
  instr_each (Instr.Gep r inbounds ty base indices) h = result_each (Some r) _
  instr_each (Instr.Call r must_tail ty callee args) h = result_each r _

  instrs_each : (is : List Instr) → ((at : ℕ) (i : Instr) → slice_get is at ≡ Some i → IsWell i)
      → Each P (held_instrs m (promise_of f) values slots is)
  instrs_each [] h = tt
  instrs_each (i ∷ is) h =
      each_more P (held_instr m (promise_of f) values slots i) (held_instrs m (promise_of f) values slots is)
      (instr_each i (h 0 i refl)) (instrs_each is (λ at j e. h (suc at) j e))

  blocks_each : (bs : List Block)
      → ((k at : ℕ) (i : Instr) → instr_in (slice_get bs k) at ≡ Some i → IsWell i)
      → Each P (held_blocks m (promise_of f) values slots bs)
  blocks_each [] h = tt
  blocks_each (b ∷ bs) h =
      each_more P (held_phis values b.phis ++ held_instrs m (promise_of f) values slots b.instrs)
      (held_blocks m (promise_of f) values slots bs)
      (each_more P (held_phis values b.phis) (held_instrs m (promise_of f) values slots b.instrs) (phis_each b.phis)
      (instrs_each b.instrs (λ at i e. h 0 at i e)))
      (blocks_each bs (λ k at i e. h (suc k) at i e))

  -- slots by where their allocas stand
  pub held_slots : ((p : Point) (r : ℕ) (ty : Ty) (align : ℕ) → instr_at f p ≡ Some (Instr.Alloca r ty align)
      → slots r ≡ true → P (slot_held m (promise_of f) r ty align)) → Each P (held_by m f values slots)
  held_slots h =
      each_more P (held_params values f.params) (held_blocks m (promise_of f) values slots f.blocks)
      (params_each f.params)
      (blocks_each f.blocks
      (λ k at i e r ty align same. h (record { block = k; at = at }) r ty align (e ∙ ap Some same)))

  pub held_each : ((r : ℕ) (ty : Ty) (align : ℕ) → P (slot_held m (promise_of f) r ty align))
      → Each P (held_by m f values slots)
  held_each h = held_slots (λ p r ty align e slot. h r ty align)
